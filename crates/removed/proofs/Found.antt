-- Where a node stands in the memory, and what follows for forgetting it and for asking. Assumes nothing.
use Prim.Native.Nat.{ℕ, suc, ◌+◌, ◌≤◌, ◌<◌}
use mathlib.Core.Path.{◌≡◌, refl, sym, ap, ◌∙◌}
use mathlib.Core.Bool.{Bool, true, false}
use mathlib.Core.List.{List, [], ◌∷◌}
use mathlib.Core.Option.{none, some}
use native.Mathlib.Omega.{arith}
use native.Mathlib.Numerals.{add-one}
use lib.Dec.{eqb}
use lib.ListN.{length, drop, drop_of_length-le}
use borrow.Author.Tests.{eq-eqb, ne_eqb}
use Rattle.fields.specs.Choice.{pick}
use Rattle.fields.specs.Blocks.{remove_at}
use Rattle.fields.specs.Numbers.{nat_of}
use Rattle.fields.specs.Parts.{part}
use Rattle.fields.specs.Widths.{offset}
use Rattle.rules.specs.Sizes.{max_removed}
use Rattle.rules.specs.Memory.{Memory, Removed, forget, heartbeat_of}
use Rattle.rules.specs.Whole.{decode_memory, removed_place, removed_widths, tail_width}
use Rattle.rules.specs.Node.{beats}
use Rattle.rules.specs.Lent.{remembered_as}
use Rattle.std.specs.Prelude.{None, Ok, Some}
use Rattle.table.specs.Tests.{removed_in}
use Rattle.table.proofs.Memories.{length-memory, memory-drop, removed-beat, removed-number, removed_at}
use Rattle.removed.specs.Find.{index_of}

-- ---- what it stands for

module _ (i : ℕ) where
  pub forget-at : (m : Memory) → index_of i m < length m → forget i m ≡ remove_at (index_of i m) m
  unfolding forget index_of remove_at
  forget-at [] h = absurd (omega arith)
  forget-at (r ∷ m) h = go (eqb i r.number) h (forget-at m)
    where
      go : (b : Bool) → pick b 0 (suc (index_of i m)) < suc (length m) → (index_of i m < length m → forget i m ≡ remove_at (index_of i m) m)
          → pick b m (r ∷ forget i m) ≡ remove_at (pick b 0 (suc (index_of i m))) (r ∷ m)
      go true h ih = refl
      go false h ih = ap (λ (l : Memory). r ∷ l) (ih (omega arith))

  pub forget-past : (m : Memory) → length m ≤ index_of i m → forget i m ≡ m
  unfolding forget index_of
  forget-past [] h = refl
  forget-past (r ∷ m) h = go (eqb i r.number) h (forget-past m)
    where
      go : (b : Bool) → suc (length m) ≤ pick b 0 (suc (index_of i m)) → (length m ≤ index_of i m → forget i m ≡ m) → pick b m (r ∷ forget i m) ≡ r ∷ m
      go true h ih = absurd (omega arith)
      go false h ih = ap (λ (l : Memory). r ∷ l) (ih (omega arith))

  pub beat-at : (m : Memory) (x : Removed) (rest : Memory) → drop (index_of i m) m ≡ x ∷ rest → heartbeat_of i m ≡ some x.heartbeat
  unfolding heartbeat_of index_of
  beat-at [] x rest e = let z : ◌≡◌ {A = ℕ} 0 (suc (length rest)) = ap length e in absurd (omega arith)
  beat-at (r ∷ m) x rest e = go (eqb i r.number) e (beat-at m x rest)
    where
      go : (b : Bool) → drop (pick b 0 (suc (index_of i m))) (r ∷ m) ≡ x ∷ rest → (drop (index_of i m) m ≡ x ∷ rest → heartbeat_of i m ≡ some x.heartbeat)
          → pick b (some r.heartbeat) (heartbeat_of i m) ≡ some x.heartbeat
      go true e ih = let q : r ≡ x = cc in ap (λ (y : Removed). some y.heartbeat) q
      go false e ih = ih e

  pub beat-past : (m : Memory) → length m ≤ index_of i m → heartbeat_of i m ≡ none
  unfolding heartbeat_of index_of
  beat-past [] h = refl
  beat-past (r ∷ m) h = go (eqb i r.number) h (beat-past m)
    where
      go : (b : Bool) → suc (length m) ≤ pick b 0 (suc (index_of i m)) → (length m ≤ index_of i m → heartbeat_of i m ≡ none) → pick b (some r.heartbeat) (heartbeat_of i m) ≡ none
      go true h ih = absurd (omega arith)
      go false h ih = ih (omega arith)

-- ---- one place after the other

module _ (b : List ℕ) (long : length b ≡ tail_width) (few : removed_in b ≤ max_removed) (k i x t : ℕ) (inv : i + index_of k (drop i (decode_memory b)) ≡ t) where
  module _ (h : i < removed_in b) (e : x ≡ nat_of (part (removed_place i + offset removed_widths 0) 8 b)) where
    is : x ≡ (removed_at i b).number
    is = e ∙ sym (removed-number i b long (omega arith))

    pub hit : k ≡ x → i ≡ t
    unfolding index_of
    hit q =
        let z : index_of k (drop i (decode_memory b)) ≡ 0 =
        ap (index_of k) (memory-drop i b h) ∙ ap (λ (c : Bool). pick c 0 (suc (index_of k (drop (suc i) (decode_memory b))))) (eq-eqb k (removed_at i b).number (q ∙ is)) in
        omega (arith, inv, z)

    pub miss : (k ≡ x → ⊥) → i + 1 + index_of k (drop (i + 1) (decode_memory b)) ≡ t
    unfolding index_of
    miss q =
        let y : ℕ = index_of k (drop (i + 1) (decode_memory b)) in
        let z : index_of k (drop i (decode_memory b)) ≡ suc y =
        ap (index_of k) (memory-drop i b h)
        ∙ ap (λ (c : Bool). pick c 0 (suc (index_of k (drop (suc i) (decode_memory b))))) (ne_eqb k (removed_at i b).number (λ r. q (r ∙ sym is)))
        ∙ ap (λ (n : ℕ). suc (index_of k (drop n (decode_memory b)))) (sym (add-one i)) in
        omega (arith, inv, z)

  pub past : removed_in b ≤ i → i ≡ t
  unfolding index_of
  past h =
      let z : index_of k (drop i (decode_memory b)) ≡ 0 = ap (index_of k) (drop_of_length-le (decode_memory b) {i = i} (rw length-memory h)) in
      omega (arith, inv, z)

-- ---- asking

module _ (b : List ℕ) (long : length b ≡ tail_width) (few : removed_in b ≤ max_removed) (k i : ℕ) (e : i ≡ index_of k (decode_memory b)) where
  pub beat-read : (x : ℕ) → i < removed_in b → x ≡ nat_of (part (removed_place i + offset removed_widths 1) 8 b)
      → (Ok (Some (beats x))) ≡ remembered_as (heartbeat_of k (decode_memory b))
  beat-read x h q =
      let found : drop (index_of k (decode_memory b)) (decode_memory b) ≡ removed_at i b ∷ drop (suc i) (decode_memory b) =
      ap (λ (n : ℕ). drop n (decode_memory b)) (sym e) ∙ memory-drop i b h in
      ap (λ (n : ℕ). (Ok (Some (beats n)))) (q ∙ sym (removed-beat i b long (omega arith)))
      ∙ sym (ap remembered_as (beat-at k (decode_memory b) (removed_at i b) (drop (suc i) (decode_memory b)) found))

  pub beat-none : removed_in b ≤ i → (Ok None) ≡ remembered_as (heartbeat_of k (decode_memory b))
  beat-none h = sym (ap remembered_as (beat-past k (decode_memory b) (rw (length-memory b, ← e) h)))
