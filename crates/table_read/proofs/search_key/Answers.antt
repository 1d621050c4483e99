-- `table_read::search_key` meets its contract: what stands from `low` on, and what stands before `high`, has the whole's answer. Assumes nothing.
use Prim.Native.Nat.{ℕ, ◌+◌, ◌/◌, ◌≤◌, ◌<◌}
use mathlib.Core.Path.{◌≡◌, sym, ap, ◌∙◌, subst}
use mathlib.Core.List.{List}
use native.Mathlib.Omega.{arith}
use lib.ListN.{length, take}
use lib.Seq.{take_all}
use Rattle.fields.specs.Order.{order_of}
use Rattle.std.specs.declared.cmp.Ordering.{Ordering}
use Rattle.rules.specs.Sizes.{max_key}
use Rattle.rules.specs.Layout.{decode_rec, rec_width}
use Rattle.table.specs.Fits.{LaidNode}
use Rattle.table.specs.Tests.{key_length, count_of, recs_in}
use Rattle.table.proofs.Places.{length-recs, rec_at, rec_bytes}
use Rattle.table.proofs.Laid.{laid-key, rec-long}
use Rattle.table_read.specs.Find.{to_key, find_key}
use Rattle.table_read.proofs.Found.{start}
use Rattle.table_read.proofs.Halves.{met, half-same, half-less, half-more}
use borrow.Author.Rules.{rules}
use Rattle.table_read.proofs.search_key.Goals as goal

halved : (a b : ℕ) → a < b → (a ≤ (a + b) / 2) × ((a + b) / 2 < b)
halved a b h = (omega arith, omega arith)

-- x are the bytes of record j, and key is its own
module _ (b k : List ℕ) (j : ℕ) {x : List ℕ} (p : x ≡ rec_bytes j b) where
  asked : LaidNode b → j < count_of b → (length x ≡ rec_width) × (key_length x ≤ max_key)
  asked laid h = (ap length p ∙ rec-long b laid j h, subst (λ (y : List ℕ). key_length y ≤ max_key) (sym p) (laid-key b laid j h))

  stands : {key : List ℕ} {o : Ordering} → o ≡ order_of k key → key ≡ (decode_rec x).kv.key → order_of k (rec_at j b).kv.key ≡ o
  stands e q = sym (e ∙ ap (order_of k) (q ∙ ap (λ (y : List ℕ). (decode_rec y).kv.key) p))

pub loop-low-init : goal.loop-low-init
loop-low-init c =
    let a = c.args in
    let n = c.byte_at-high.ensures.0 in
    (omega arith, omega (arith, n), start (to_key a.key.now) (recs_in a.node.now), ap (find_key a.key.now) (take_all c.byte_at-high.result (recs_in a.node.now) (rw length-recs (omega (arith, n)))))

pub overflow_add-j : goal.overflow_add-j
overflow_add-j c =
    omega (arith, c.byte_at-high.ensures.1)

pub record_of-requires : goal.record_of-requires
record_of-requires c =
    let t = halved c.loop-low.low c.loop-low.high c.loop-low-test.true in
    (search rules, omega arith)

pub key_of-requires : goal.key_of-requires
key_of-requires c =
    let t = halved c.loop-low.low c.loop-low.high c.loop-low-test.true in
    asked c.args.node.now c.args.key.now _ c.record_of.ensures c.requires.0 (omega arith)

pub returns-in-Equal : goal.returns-in-Equal
returns-in-Equal c =
    let a = c.args in
    let t = halved c.loop-low.low c.loop-low.high c.loop-low-test.true in
    half-same a.key.now a.node.now c.requires.1 _ (omega arith) (stands a.node.now a.key.now _ c.record_of.ensures c.compare.ensures c.key_of.ensures ∙ c.in-Equal.is)

pub loop-low-smaller-in-Less : goal.loop-low-smaller-in-Less
loop-low-smaller-in-Less c =
    let t = halved c.loop-low.low c.loop-low.high c.loop-low-test.true in
    omega arith

pub loop-low-preserved-in-Less : goal.loop-low-preserved-in-Less
loop-low-preserved-in-Less c =
    let a = c.args in
    let t = halved c.loop-low.low c.loop-low.high c.loop-low-test.true in (
      t.0,
      omega arith,
      c.loop-low.invariant.2,
      half-less a.key.now a.node.now c.requires.1 _ (omega arith) (stands a.node.now a.key.now _ c.record_of.ensures c.compare.ensures c.key_of.ensures ∙ c.in-Less.is),
    )

pub overflow_add-low : goal.overflow_add-low
overflow_add-low c =
    let t = halved c.loop-low.low c.loop-low.high c.loop-low-test.true in
    omega (arith, c.byte_at-high.ensures.1)

pub loop-low-smaller : goal.loop-low-smaller
loop-low-smaller c =
    let t = halved c.loop-low.low c.loop-low.high c.loop-low-test.true in
    omega arith

pub loop-low-preserved : goal.loop-low-preserved
loop-low-preserved c =
    let a = c.args in
    let t = halved c.loop-low.low c.loop-low.high c.loop-low-test.true in (
      omega arith,
      c.loop-low.invariant.1,
      half-more a.key.now a.node.now c.requires.1 _ (omega arith) (stands a.node.now a.key.now _ c.record_of.ensures c.compare.ensures c.key_of.ensures ∙ c.in-Greater.is),
      c.loop-low.invariant.3,
    )

pub returns : goal.returns
returns c =
    let e : c.loop-low.high ≡ c.loop-low.low = omega arith in
    sym (met (to_key c.args.key.now) (recs_in c.args.node.now) c.loop-low.low (ap (λ (n : ℕ). find_key c.args.key.now (take n (recs_in c.args.node.now))) (sym e) ∙ c.loop-low.invariant.3) c.loop-low.invariant.2)
