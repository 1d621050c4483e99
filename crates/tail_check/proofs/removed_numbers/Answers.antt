-- `tail_check::removed_numbers` meets its contract: the numbers that are stored and those that are left are all. Assumes nothing.
use Prim.Native.Nat.{ℕ, suc, ◌+◌, ◌≤◌, ◌<◌}
use mathlib.Core.Path.{◌≡◌, refl, sym, ap, ◌∙◌}
use mathlib.Core.List.{List, [], ◌∷◌, ◌++◌, append-nil, append_assoc}
use native.Mathlib.Omega.{arith}
use native.Mathlib.Numerals.{add-one}
use lib.ListN.{length, take, drop, set, length-set, drop_of_length-le}
use lib.Seq.{take-suc-set}
use Rattle.fields.specs.Numbers.{nat_of}
use Rattle.fields.specs.Parts.{part}
use Rattle.fields.specs.Widths.{offset}
use Rattle.rules.specs.Memory.{Memory, removed_numbers}
use Rattle.rules.specs.Sizes.{max_removed}
use Rattle.rules.specs.Whole.{decode_memory, removed_place, removed_widths, tail_width}
use Rattle.table.specs.Tests.{removed_in}
use Rattle.table.proofs.Memories.{memory-drop, removed-number, removed_at, length-memory}
use Rattle.tail_check.proofs.removed_numbers.Goals as goal

-- one number more
turn : (b ns : List ℕ) (i x : ℕ) (t : List ℕ) → length b ≡ tail_width → i < removed_in b → removed_in b ≤ max_removed → length ns ≡ max_removed
    → x ≡ nat_of (part (removed_place i + offset removed_widths 0) 8 b) → take i ns ++ removed_numbers (drop i (decode_memory b)) ≡ t
    → take (i + 1) (set ns i x) ++ removed_numbers (drop (i + 1) (decode_memory b)) ≡ t
unfolding removed_numbers
turn b ns i x t e h g l q p =
    let v : x ≡ (removed_at i b).number = q ∙ sym (removed-number i b e (omega arith)) in
    ap (λ (k : ℕ). take k (set ns i x) ++ removed_numbers (drop k (decode_memory b))) (add-one i)
    ∙ ap (λ (r : List ℕ). r ++ removed_numbers (drop (suc i) (decode_memory b))) (take-suc-set ns i x (omega arith))
    ∙ append_assoc (take i ns) (x ∷ []) (removed_numbers (drop (suc i) (decode_memory b)))
    ∙ ap (λ (y : ℕ). take i ns ++ (y ∷ removed_numbers (drop (suc i) (decode_memory b)))) v
    ∙ ap (λ (r : Memory). take i ns ++ removed_numbers r) (sym (memory-drop i b h))
    ∙ p

-- at the end
over : (b ns : List ℕ) (i n : ℕ) (t : List ℕ) → i ≡ n → n ≡ removed_in b → take i ns ++ removed_numbers (drop i (decode_memory b)) ≡ t → take n ns ≡ t
unfolding removed_numbers
over b ns i n t p q e =
    ap (λ (k : ℕ). take k ns) (sym p)
    ∙ sym (append-nil (take i ns))
    ∙ ap (λ (r : Memory). take i ns ++ removed_numbers r) (sym (drop_of_length-le (decode_memory b) {i = i} (rw length-memory (omega arith))))
    ∙ e

pub loop-i-init : goal.loop-i-init
loop-i-init c =
    (refl, refl)

pub loop-i-preserved : goal.loop-i-preserved
loop-i-preserved c =
    let a = c.args in
    let read = c.read_u64.ensures ∙ ap (λ (k : ℕ). nat_of (part (k + offset removed_widths 0) 8 a.tail.now)) c.removed_place.ensures in (
      length-set c.loop-i.ns c.loop-i.i c.read_u64.result ∙ c.loop-i.invariant.0,
      turn a.tail.now c.loop-i.ns c.loop-i.i c.read_u64.result _ (omega arith) (omega arith) (omega arith) c.loop-i.invariant.0 read c.loop-i.invariant.1,
    )

pub returns : goal.returns
returns c =
    let a = c.args in
    (c.loop-i.invariant.0, over a.tail.now c.loop-i.ns c.loop-i.i a.n _ (omega arith) (omega arith) c.loop-i.invariant.1)
