-- What the runs show: the claims fail of plain nets, of a plain relay among hubs that are not plain, of a plain leaf whose neighbour is not steady, and of an owner restored with a
-- write lost. Assumes nothing.
use Prim.Native.Nat.{◌<◌, ℕ}
use mathlib.Core.Bool.{false}
use mathlib.Core.List.{List, [], ◌∷◌}
use mathlib.Core.Option.{Option, none, some}
use mathlib.Core.Path.{◌∙◌, ◌≡◌, ap, refl, subst, sym}
use native.Mathlib.Omega.{arith}
use Rattle.fields.specs.Blocks.{flat, unblock}
use Rattle.fields.specs.Choice.{◌∈◌, all, here, keep, later}
use Rattle.fields.specs.Numbers.{bytes_of, nat_of}
use Rattle.fields.specs.Order.{less_bytes, same_bytes}
use Rattle.fields.specs.Parts.{part, put}
use Rattle.rules.proofs.Obeys.{among-not, version-in}
use Rattle.rules.specs.Apply.{Ways, apply, apply_each, apply_node, codes, delta_status, fenced_ways, guarded_ways, newer_of, outcome, plain_ways, status_of, take_all, takes}
use Rattle.rules.specs.Compute.{all_ops, by_version, compute, cut, delta_for, from_of, key_value_ops, ordered, queue, sooner, stale, stale_nodes, told_of}
use Rattle.rules.specs.Delta.{delta_bytes, follow, max_of, op_bytes, parts_of, read_delta, read_key_value, read_node, read_op, read_ops, read_set_max_version, recs_of, size_of, text_bytes}
use Rattle.rules.specs.Digest.{digest_bytes, entry_bytes, entry_of, head_width, read_digest, read_entries, tell, tell_all}
use Rattle.rules.specs.Local.{add, call, call_as, gc, remove_node}
use Rattle.rules.specs.Node.{KeyValue, Node, Rec, act, decide, find, last_gc_of, remove, store, wish, write}
use Rattle.rules.specs.Table.{Table, add_node, among, drop_node, node_of, numbers_of, remove_all, set_node, versions}
use Rattle.rules.specs.declared.Profile.TheVariants.{Free}
use Rattle.demand3.proofs.EachNode.{node_at, or_fresh}
use Rattle.demand3.specs.Demand3.{Holds}
use Rattle.demand3.specs.World.{cut_by, nth_sent}
use Rattle.net.specs.Net.{Net, NetSafe, NetSound, Plan, after, begin, happen, placed}
use Rattle.net_runs.proofs.Losses.{leaf-readded, leaf-restored}
use Rattle.net_runs.proofs.Runs.{line_plain, lost-fenced, lost-guarded, poison-fenced, poison-guarded, triangle-plain}
use Rattle.net_runs.proofs.Stories.{alike, dead, leaf_plan, leaf_readded, leaf_restored, line, lost, pair_at, poison, relay, triangle}

-- a node with a version is there
held : (o : Option Node) → 0 < (or_fresh o).max → o ≡ some (or_fresh o)
held none h = absurd (omega arith)
held (some n) h = refl

max-of : (x : ℕ) (w : Net) (g m : ℕ) → pair_at x w ≡ g ∷ m ∷ [] → (node_at 7 (w.hubs x)).max ≡ m
max-of x w g m e = cc

-- hub 0 owns node 7; hub x is at its max and holds a Set record that hub 0 does not hold
module _ (ways : ℕ → Ways) (w : Net) (x g h m : ℕ) where
  abbrev plan : Plan
  plan = record { owner = λ i. 0; ways = ways; profiles = λ x. Free }

  pub failed : 0 < m → pair_at 0 w ≡ g ∷ m ∷ [] → pair_at x w ≡ h ∷ m ∷ [] → Holds (node_at 7 (w.hubs x)) dead → (Holds (node_at 7 (w.hubs 0)) dead → ⊥) → NetSound plan w → ⊥
  failed some-version p q there gone s =
      let a = max-of 0 w g m p in
      let b = max-of x w h m q in
      let c =
      s.claims 7 x (node_at 7 (w.hubs 0)) (node_at 7 (w.hubs x)) (held (node_of 7 (w.hubs 0)) (omega arith)) (held (node_of 7 (w.hubs x)) (omega arith)) in
      gone ((c.same_set (b ∙ sym a) dead refl).1 there)

-- no record of version 2
pub gone_of : (vs : List ℕ) → among 2 vs ≡ false → (t : Table) → versions (node_at 7 t).recs ≡ vs → Holds (node_at 7 t) dead → ⊥
gone_of vs n t e x =
    let v : 2 ∈ versions (node_at 7 t).recs = subst (λ (v : ℕ). v ∈ versions (node_at 7 t).recs) (ap (λ (y : KeyValue). y.version) x.2) (version-in x.1) in
    among-not 2 vs n (subst (λ (l : List ℕ). 2 ∈ l) e v)

gone-by : (t : Table) → versions (node_at 7 t).recs ≡ 1 ∷ [] → Holds (node_at 7 t) dead → ⊥
unfolding among
gone-by = gone_of (1 ∷ []) refl

-- b at 2 stands there, beside a at 1
abbrev pub There : Net → ℕ → Type 0
There w x = Holds (node_at 7 (w.hubs x)) dead

there-triangle : There (after (alike plain_ways) triangle begin) 2
unfolding after happen nth_sent cut_by add add_node numbers_of call_as call gc node_of set_node remove_all decide wish find act write store remove last_gc_of keep all same_bytes less_bytes among digest_bytes head_width entry_bytes entry_of read_entries read_digest tell tell_all compute delta_for cut all_ops ordered queue sooner stale_nodes told_of from_of stale by_version key_value_ops size_of delta_bytes op_bytes text_bytes bytes_of nat_of part put flat unblock apply apply_each apply_node delta_status status_of newer_of outcome take_all takes codes read_delta read_ops read_op read_node read_key_value read_set_max_version follow parts_of recs_of max_of versions
there-triangle = (record { kv = dead; start = 0 }, later (here refl), refl)

there-line : There (after (alike plain_ways) line begin) 1
unfolding after happen nth_sent cut_by add add_node numbers_of call_as call gc node_of set_node remove_all decide wish find act write store remove last_gc_of keep all same_bytes less_bytes among digest_bytes head_width entry_bytes entry_of read_entries read_digest tell tell_all compute delta_for cut all_ops ordered queue sooner stale_nodes told_of from_of stale by_version key_value_ops size_of delta_bytes op_bytes text_bytes bytes_of nat_of part put flat unblock apply apply_each apply_node delta_status status_of newer_of outcome take_all takes codes read_delta read_ops read_op read_node read_key_value read_set_max_version follow parts_of recs_of max_of versions
there-line = (record { kv = dead; start = 0 }, later (here refl), refl)

there-poison : There (after (relay fenced_ways) poison begin) 3 × There (after (relay guarded_ways) poison begin) 3
unfolding after happen nth_sent cut_by add add_node numbers_of call_as call gc node_of set_node remove_all decide wish find act write store remove last_gc_of keep all same_bytes less_bytes among digest_bytes head_width entry_bytes entry_of read_entries read_digest tell tell_all compute delta_for cut all_ops ordered queue sooner stale_nodes told_of from_of stale by_version key_value_ops size_of delta_bytes op_bytes text_bytes bytes_of nat_of part put flat unblock apply apply_each apply_node delta_status status_of newer_of outcome take_all takes codes read_delta read_ops read_op read_node read_key_value read_set_max_version follow parts_of recs_of max_of versions
there-poison = ((record { kv = dead; start = 0 }, later (here refl), refl), (record { kv = dead; start = 0 }, later (here refl), refl))

-- three plain hubs: what was deleted and removed is back at hub 2, for ever
pub triangle-fails : NetSafe (alike plain_ways) → ⊥
triangle-fails s =
    let w : Net = after (alike plain_ways) triangle begin in
    failed (λ x. plain_ways) w 2 3 3 3 (omega arith) triangle-plain.1 triangle-plain.2 there-triangle (gone-by (w.hubs 0) triangle-plain.3) (s.at_every_moment triangle)

-- and in a line, where no hub hears more than its neighbours
pub line-fails : NetSound (alike plain_ways) (after (alike plain_ways) line begin) → ⊥
line-fails s =
    let w : Net = after (alike plain_ways) line begin in
    failed (λ x. plain_ways) w 1 3 3 3 (omega arith) line_plain.0 line_plain.1 there-line (gone-by (w.hubs 0) line_plain.2) s

-- one plain hub that hears two others poisons a hub behind either fence
pub relay-poisons-fenced : NetSafe (relay fenced_ways) → ⊥
relay-poisons-fenced s =
    let w : Net = after (relay fenced_ways) poison begin in
    failed (relay fenced_ways).ways w 3 3 3 3 (omega arith) poison-fenced.0 poison-fenced.1 there-poison.0 (gone-by (w.hubs 0) poison-fenced.2) (s.at_every_moment poison)

pub relay-poisons-guarded : NetSafe (relay guarded_ways) → ⊥
relay-poisons-guarded s =
    let w : Net = after (relay guarded_ways) poison begin in
    failed (relay guarded_ways).ways w 3 3 3 3 (omega arith) poison-guarded.0 poison-guarded.1 there-poison.1 (gone-by (w.hubs 0) poison-guarded.2) (s.at_every_moment poison)

-- ---- a plain leaf whose neighbour is not steady

there-leaf : There (after (leaf_plan guarded_ways) leaf_restored begin) 2 × There (after (leaf_plan guarded_ways) leaf_readded begin) 2
unfolding after happen nth_sent cut_by add add_node numbers_of call_as call gc node_of set_node remove_all decide wish find act write store remove last_gc_of keep all same_bytes less_bytes among digest_bytes head_width entry_bytes entry_of read_entries read_digest tell tell_all compute delta_for cut all_ops ordered queue sooner stale_nodes told_of from_of stale by_version key_value_ops size_of delta_bytes op_bytes text_bytes bytes_of nat_of part put flat unblock apply apply_each apply_node delta_status status_of newer_of outcome take_all takes codes read_delta read_ops read_op read_node read_key_value read_set_max_version follow parts_of recs_of max_of versions remove_node drop_node placed
there-leaf = ((record { kv = dead; start = 0 }, later (here refl), refl), (record { kv = dead; start = 0 }, later (here refl), refl))

-- hub 2 is plain and hears hub 1 alone, at once; hub 1 is restored, or removes the node and adds it
pub leaf-restored-fails : NetSound (leaf_plan guarded_ways) (after (leaf_plan guarded_ways) leaf_restored begin) → ⊥
leaf-restored-fails s =
    let w : Net = after (leaf_plan guarded_ways) leaf_restored begin in
    failed (leaf_plan guarded_ways).ways w 2 3 3 3 (omega arith) leaf-restored.0 leaf-restored.1 there-leaf.0 (gone-by (w.hubs 0) leaf-restored.2) s

pub leaf-readded-fails : NetSound (leaf_plan guarded_ways) (after (leaf_plan guarded_ways) leaf_readded begin) → ⊥
leaf-readded-fails s =
    let w : Net = after (leaf_plan guarded_ways) leaf_readded begin in
    failed (leaf_plan guarded_ways).ways w 2 3 3 3 (omega arith) leaf-readded.0 leaf-readded.1 there-leaf.1 (gone-by (w.hubs 0) leaf-readded.2) s

-- ---- an owner restored with a write lost

-- the first letters of the keys
unfoldable letters : List Rec → List ℕ
letters [] = []
letters (r ∷ l) = nat_of r.kv.key ∷ letters l

letter-in : {r : Rec} {l : List Rec} → r ∈ l → nat_of r.kv.key ∈ letters l
unfolding letters
letter-in (here e) = here (ap (λ (r : Rec). nat_of r.kv.key) e)
letter-in (later m) = later (letter-in m)

-- a and c stand at the owner
letters-are : (letters (node_at 7 ((lost fenced_ways).hubs 0)).recs ≡ 97 ∷ 99 ∷ []) × (letters (node_at 7 ((lost guarded_ways).hubs 0)).recs ≡ 97 ∷ 99 ∷ [])
unfolding after happen nth_sent cut_by add add_node numbers_of call_as call gc node_of set_node remove_all decide wish find act write store remove last_gc_of keep all same_bytes less_bytes among digest_bytes head_width entry_bytes entry_of read_entries read_digest tell tell_all compute delta_for cut all_ops ordered queue sooner stale_nodes told_of from_of stale by_version key_value_ops size_of delta_bytes op_bytes text_bytes bytes_of nat_of part put flat unblock apply apply_each apply_node delta_status status_of newer_of outcome take_all takes codes read_delta read_ops read_op read_node read_key_value read_set_max_version follow parts_of recs_of max_of versions letters
letters-are = (refl, refl)

gone-letter : (t : Table) → letters (node_at 7 t).recs ≡ 97 ∷ 99 ∷ [] → Holds (node_at 7 t) dead → ⊥
unfolding among nat_of
gone-letter t e x =
    let v : 98 ∈ letters (node_at 7 t).recs = subst (λ (v : ℕ). v ∈ letters (node_at 7 t).recs) (ap (λ (y : KeyValue). nat_of y.key) x.2) (letter-in x.1) in
    among-not 98 (97 ∷ 99 ∷ []) refl (subst (λ (l : List ℕ). 98 ∈ l) e v)

there-lost : There (lost fenced_ways) 1 × There (lost guarded_ways) 1
unfolding after happen nth_sent cut_by add add_node numbers_of call_as call gc node_of set_node remove_all decide wish find act write store remove last_gc_of keep all same_bytes less_bytes among digest_bytes head_width entry_bytes entry_of read_entries read_digest tell tell_all compute delta_for cut all_ops ordered queue sooner stale_nodes told_of from_of stale by_version key_value_ops size_of delta_bytes op_bytes text_bytes bytes_of nat_of part put flat unblock apply apply_each apply_node delta_status status_of newer_of outcome take_all takes codes read_delta read_ops read_op read_node read_key_value read_set_max_version follow parts_of recs_of max_of versions
there-lost = ((record { kv = dead; start = 0 }, later (here refl), refl), (record { kv = dead; start = 0 }, later (here refl), refl))

-- version 2 was given twice, and the two hubs differ for ever
pub lost-fails : (NetSound (alike fenced_ways) (lost fenced_ways) → ⊥) × (NetSound (alike guarded_ways) (lost guarded_ways) → ⊥)
lost-fails = (
  λ s. failed (λ x. fenced_ways) (lost fenced_ways) 1 0 0 2 (omega arith) lost-fenced.0 lost-fenced.1 there-lost.0 (gone-letter ((lost fenced_ways).hubs 0) letters-are.0) s,
  λ s. failed (λ x. guarded_ways) (lost guarded_ways) 1 0 0 2 (omega arith) lost-guarded.0 lost-guarded.1 there-lost.1 (gone-letter ((lost guarded_ways).hubs 0) letters-are.1) s,
)
