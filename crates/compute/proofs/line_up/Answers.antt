-- `compute::line_up` meets its contract: the nodes from i on stand in line. Assumes nothing.
use Prim.Native.Nat.{ℕ, ◌-◌, ◌≤◌, ◌<◌}
use mathlib.Core.Path.{◌≡◌, refl, sym, ◌∙◌}
use mathlib.Core.Bool.{true}
use mathlib.Core.List.{List}
use native.Mathlib.Omega.{arith}
use lib.ListN.{length, set, length-set}
use Rattle.fields.specs.Numbers.{Bytes}
use Rattle.rules.specs.Sizes.{max_nodes}
use Rattle.rules.specs.Table.{Table}
use Rattle.rules.specs.Digest.{NodeDigest}
use Rattle.rules.specs.Compute.{stale}
use Rattle.rules.specs.Layout.{decode}
use Rattle.table.specs.Tests.{nodes_of}
use Rattle.table.proofs.Tables.{length-decode}
use Rattle.table_read.specs.Find.{entry_at}
use Rattle.table_read.proofs.Located.{lent-node, node-long, count_low, recs-are}
use Rattle.digest_read.specs.Held.{entries_in}
use Rattle.compute_order.specs.Line.{is_stale}
use Rattle.compute.specs.Lined.{from_at}
use Rattle.compute.proofs.Behind.{told-stale, told-level}
use Rattle.compute.proofs.Lining.{none_yet, above, stays, joins, all-in-line}
use Rattle.compute.proofs.line_up.Goals as goal

-- ---- the needs: a node's turn
pub byte_at-i-requires : goal.byte_at-i-requires
byte_at-i-requires c =
    let e = c.requires.0.long in omega arith

pub loop-i-init : goal.loop-i-init
loop-i-init c =
    let digest : List NodeDigest = entries_in c.args.digest in
    let table : Table = decode c.args.table.now in
    let count = c.byte_at-i.ensures.0 ∙ sym (length-decode c.args.table.now) in
    none_yet c.args.excluded.now (digest) c.args.ties.now (table) c.byte_at-i.result _ _ _ count refl refl refl

pub stale_from-requires : goal.stale_from-requires
stale_from-requires c =
    let node_in : c.loop-i.i - 1 < nodes_of c.args.table.now = let w = c.loop-i.invariant.within in
    let e = length-decode c.args.table.now in
    let h = c.loop-i-test.true in
    omega arith in
    (c.requires.0, node_in)

-- ---- the needs: it is stale
pub offset_bounds-froms-i : goal.offset_bounds-froms-i
offset_bounds-froms-i c =
    let node_in : c.loop-i.i - 1 < nodes_of c.args.table.now = let w = c.loop-i.invariant.within in
    let e = length-decode c.args.table.now in
    let h = c.loop-i-test.true in
    omega arith in
    let node-low : c.loop-i.i - 1 < max_nodes = let w = node_in in let f = c.requires.0.few in omega arith in
    let w = node-low in omega arith

pub bounds-froms-i : goal.bounds-froms-i
bounds-froms-i c =
    let node_in : c.loop-i.i - 1 < nodes_of c.args.table.now = let w = c.loop-i.invariant.within in
    let e = length-decode c.args.table.now in
    let h = c.loop-i-test.true in
    omega arith in
    let node-low : c.loop-i.i - 1 < max_nodes = let w = node_in in let f = c.requires.0.few in omega arith in
    node-low

pub node_of-requires : goal.node_of-requires
node_of-requires c =
    let node_in : c.loop-i.i - 1 < nodes_of c.args.table.now = let w = c.loop-i.invariant.within in
    let e = length-decode c.args.table.now in
    let h = c.loop-i-test.true in
    omega arith in
    lent-node c.args.table.now c.requires.0 _ (node_in)

pub count_stale-requires : goal.count_stale-requires
count_stale-requires c =
    let node_in : c.loop-i.i - 1 < nodes_of c.args.table.now = let w = c.loop-i.invariant.within in
    let e = length-decode c.args.table.now in
    let h = c.loop-i-test.true in
    omega arith in
    let l : Bytes = c.args.table.now in
    let laid = c.requires.0 in
    (node-long l laid _ (node_in) _ c.node_of.ensures, count_low l laid _ (node_in) _ c.node_of.ensures)

pub offset_bounds-counts-i : goal.offset_bounds-counts-i
offset_bounds-counts-i c =
    let node_in : c.loop-i.i - 1 < nodes_of c.args.table.now = let w = c.loop-i.invariant.within in
    let e = length-decode c.args.table.now in
    let h = c.loop-i-test.true in
    omega arith in
    let node-low : c.loop-i.i - 1 < max_nodes = let w = node_in in let f = c.requires.0.few in omega arith in
    let w = node-low in omega arith

pub bounds-counts-i : goal.bounds-counts-i
bounds-counts-i c =
    let node_in : c.loop-i.i - 1 < nodes_of c.args.table.now = let w = c.loop-i.invariant.within in
    let e = length-decode c.args.table.now in
    let h = c.loop-i-test.true in
    omega arith in
    let node-low : c.loop-i.i - 1 < max_nodes = let w = node_in in let f = c.requires.0.few in omega arith in
    node-low

pub slice_bounds-queue-end : goal.slice_bounds-queue-end
slice_bounds-queue-end c =
    let froms-long : (x : ℕ) → length (set c.loop-i.froms (c.loop-i.i - 1) x) ≡ max_nodes = λ (x : ℕ). length-set c.loop-i.froms (c.loop-i.i - 1) x ∙ c.loop-i.invariant.froms-long in
    sym (froms-long _)

pub slice_bounds-queue-end-in-Some : goal.slice_bounds-queue-end-in-Some
slice_bounds-queue-end-in-Some c =
    let counts-long : (x : ℕ) → length (set c.loop-i.counts (c.loop-i.i - 1) x) ≡ max_nodes = λ (x : ℕ). length-set c.loop-i.counts (c.loop-i.i - 1) x ∙ c.loop-i.invariant.counts-long in
    sym (counts-long _)

pub queue-requires : goal.queue-requires
queue-requires c =
    let table : Table = decode c.args.table.now in
    let few-nodes : length (table) ≤ max_nodes = rw length-decode c.requires.0.few in
    let digest : List NodeDigest = entries_in c.args.digest in
    let node_in : c.loop-i.i - 1 < nodes_of c.args.table.now = let w = c.loop-i.invariant.within in
    let e = length-decode c.args.table.now in
    let h = c.loop-i-test.true in
    omega arith in
    let froms-long : (x : ℕ) → length (set c.loop-i.froms (c.loop-i.i - 1) x) ≡ max_nodes = λ (x : ℕ). length-set c.loop-i.froms (c.loop-i.i - 1) x ∙ c.loop-i.invariant.froms-long in
    let counts-long : (x : ℕ) → length (set c.loop-i.counts (c.loop-i.i - 1) x) ≡ max_nodes = λ (x : ℕ). length-set c.loop-i.counts (c.loop-i.i - 1) x ∙ c.loop-i.invariant.counts-long in
    let w = c.loop-i in
    let u = w.invariant in
    let few = few-nodes in
    let less = u.few in
    let within = u.within in
    let h : 0 < w.i = c.loop-i-test.true in
    let places = above c.args.excluded.now (digest) c.args.ties.now (table) w.n w.i w.line w.froms w.counts u h in (
      c.requires.0.long,
      c.requires.0.few,
      node_in,
      c.requires.1,
      froms-long _,
      counts-long _,
      omega arith,
      u.line_long,
      λ x m. rw (length-decode c.args.table.now) at (places x m).1,
    )

pub overflow_add-n : goal.overflow_add-n
overflow_add-n c =
    let table : Table = decode c.args.table.now in
    let few-nodes : length (table) ≤ max_nodes = rw length-decode c.requires.0.few in
    let u = c.loop-i.invariant.few in
    let few = few-nodes in
    omega arith

pub loop-i-preserved-in-Some : goal.loop-i-preserved-in-Some
loop-i-preserved-in-Some c =
    let digest : List NodeDigest = entries_in c.args.digest in
    let table : Table = decode c.args.table.now in
    let is-stale : let p : ℕ = c.loop-i.i - 1 in
    (is_stale c.args.excluded.now (digest) (table) p ≡ true) × (c.in-Some.from ≡ from_at (digest) (table) p) = let p : ℕ = c.loop-i.i - 1 in
    told-stale c.args.excluded.now (digest) (table) p _ c.stale_from.ensures _ c.in-Some.is in
    let few-nodes : length (table) ≤ max_nodes = rw length-decode c.requires.0.few in
    let node_in : c.loop-i.i - 1 < nodes_of c.args.table.now = let w = c.loop-i.invariant.within in
    let e = length-decode c.args.table.now in
    let h = c.loop-i-test.true in
    omega arith in
    let stale-count : let p : ℕ = c.loop-i.i - 1 in
    c.count_stale.result ≡ length (stale (from_at (digest) (table) p) (entry_at (table) p).node.recs) = let recs = recs-are c.args.table.now c.requires.0 (c.loop-i.i - 1) (node_in) _ c.node_of.ensures in
    c.count_stale.ensures ∙ (λ k. length (stale ((is-stale).1 k) (recs k))) in
    let w = c.loop-i in
    let goes = is-stale in
    joins c.args.excluded.now (digest) c.args.ties.now (table) w.n w.i w.line w.froms w.counts w.invariant c.loop-i-test.true
    (few-nodes) _ _ goes.1 (stale-count) goes.0 _ c.queue.ensures

pub loop-i-preserved : goal.loop-i-preserved
loop-i-preserved c =
    let digest : List NodeDigest = entries_in c.args.digest in
    let table : Table = decode c.args.table.now in
    let w = c.loop-i in
    stays c.args.excluded.now (digest) c.args.ties.now (table) w.n w.i w.line w.froms w.counts w.invariant c.loop-i-test.true
    (told-level c.args.excluded.now (digest) (table) (w.i - 1) _ c.stale_from.ensures c.in_default.is)

pub returns : goal.returns
returns c =
    let digest : List NodeDigest = entries_in c.args.digest in
    let table : Table = decode c.args.table.now in
    let few-nodes : length (table) ≤ max_nodes = rw length-decode c.requires.0.few in
    let w = c.loop-i in
    all-in-line c.args.excluded.now (digest) c.args.ties.now (table) w.n w.i w.line w.froms w.counts
    (few-nodes) (omega arith) w.invariant
