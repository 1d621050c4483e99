-- `table_check::keys_rise` meets its contract: the keys that are left rise where all do. The loop is that of `numbers_rise`; its needs are its own, and
-- so is the order, for which the rules' law of rising numbers says nothing. Assumes nothing.
use Prim.Native.Nat.{ℕ, suc, ◌+◌, ◌-◌, ◌≤◌, ◌<◌}
use mathlib.Core.Path.{◌≡◌, refl, sym, ap, ap₂, ◌∙◌}
use mathlib.Core.Bool.{Bool, true, false, ◌&&◌}
use mathlib.Core.List.{List, [], ◌∷◌}
use native.Mathlib.Omega.{arith}
use native.Mathlib.Numerals.{add-one}
use lib.ListN.{length, drop, length-drop}
use Rattle.fields.specs.Blocks.{all_blocks}
use Rattle.fields.specs.Order.{less_bytes}
use Rattle.fields.proofs.Choice.{and_yes, and_no}
use Rattle.rules.specs.Node.{Rec}
use Rattle.rules.specs.Table.{keys_rise}
use Rattle.rules.specs.Layout.{rec_place, rec_width, node_width, decode_rec}
use Rattle.table.specs.Tests.{count_of, recs_in, rec_good, key_length}
use Rattle.rules.specs.Sizes.{max_records, max_key}
use Rattle.fields.proofs.Parts.{length_part}
use Rattle.table.proofs.Records.{good-key}
use Rattle.table.proofs.Places.{rec_bytes, rec_at, recs-drop, length-recs, good-at}
use Rattle.table_check.proofs.keys_rise.Goals as goal

module _ (b : List ℕ) (n max i j : ℕ) (s : j ≡ i + 1) (e : length b ≡ node_width) (h : j < n) (g : n ≤ max_records) (good : all_blocks (rec_good max) rec_width n (drop (rec_place 0) b) ≡ true) where
  short : (k : ℕ) → k < n → key_length (rec_bytes k b) ≤ max_key
  short k p = good-key max (rec_bytes k b) (good-at max k n b good p)

  -- x and y are the bytes of record i and of the next
  module _ (x y : List ℕ) (p : x ≡ rec_bytes i b) (q : y ≡ rec_bytes j b) where
    asked : (length x ≡ rec_width) × (key_length x ≤ max_key) × (length y ≡ rec_width) × (key_length y ≤ max_key)
    asked =
        rw (p, q) (
          length_part (rec_place i) rec_width b (omega arith),
          short i (omega arith),
          length_part (rec_place j) rec_width b (omega arith),
          short j h,
        )

    module _ (t : Bool) (r : t ≡ less_bytes (decode_rec x).kv.key (decode_rec y).kv.key) (m : n ≡ count_of b) (k : ℕ) (u : k ≡ suc i) where
      turn : keys_rise (drop i (recs_in b)) ≡ (t && keys_rise (drop k (recs_in b)))
      unfolding keys_rise
      turn =
          let v : t ≡ less_bytes (rec_at i b).kv.key (rec_at (suc i) b).kv.key =
          r ∙ ap₂ (λ (v w : List ℕ). less_bytes (decode_rec v).kv.key (decode_rec w).kv.key) p (q ∙ ap (λ (z : ℕ). rec_bytes z b) (s ∙ add-one i)) in
          rw (u, recs-drop i b (omega arith), recs-drop (suc i) b (omega arith), v)

      on : t ≡ true → keys_rise (drop k (recs_in b)) ≡ keys_rise (drop i (recs_in b))
      on f = sym (turn ∙ and_yes _ _ f)

      stop : t ≡ false → false ≡ keys_rise (drop i (recs_in b))
      stop f = sym (turn ∙ and_no _ _ f)

few : (l : List Rec) → length l ≤ 1 → keys_rise l ≡ true
unfolding keys_rise
few [] h = refl
few (a ∷ []) h = refl
few (a ∷ b ∷ t) h = absurd (omega arith)

pub loop-i-init : goal.loop-i-init
loop-i-init c =
    refl

pub key_below-requires : goal.key_below-requires
key_below-requires c =
    let a = c.args in
    asked a.node.now a.n a.max (c.loop-i.i - 1) c.loop-i.i (omega arith) (omega arith) (omega arith) (omega arith) c.requires.3 _ _
    c.record_of.ensures c.record_of-in-loop-i.ensures

pub loop-i-preserved : goal.loop-i-preserved
loop-i-preserved c =
    let a = c.args in
    on a.node.now a.n a.max (c.loop-i.i - 1) c.loop-i.i (omega arith) (omega arith) (omega arith) (omega arith) c.requires.3 _ _
    c.record_of.ensures c.record_of-in-loop-i.ensures _ c.key_below.ensures (omega arith) (c.loop-i.i + 1 - 1) (omega arith) c.if-not-key_below.false
    ∙ c.loop-i.invariant

pub returns-then-not-key_below : goal.returns-then-not-key_below
returns-then-not-key_below c =
    let a = c.args in
    stop a.node.now a.n a.max (c.loop-i.i - 1) c.loop-i.i (omega arith) (omega arith) (omega arith) (omega arith) c.requires.3 _ _
    c.record_of.ensures c.record_of-in-loop-i.ensures _ c.key_below.ensures (omega arith) c.loop-i.i (omega arith) c.if-not-key_below.true
    ∙ c.loop-i.invariant

pub returns : goal.returns
returns c =
    let b : List ℕ = c.args.node.now in
    sym (few (drop (c.loop-i.i - 1) (recs_in b)) (rw (length-drop, length-recs) (omega arith))) ∙ c.loop-i.invariant
