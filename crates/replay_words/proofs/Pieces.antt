-- The pieces of a list are what the library's `split` gives, and the place of a word among them is where `position` finds it. Assumes nothing.
use Prim.Native.Nat.{ℕ, zero, suc, ◌<◌}
use mathlib.Core.Path.{◌≡◌, refl, ap, ◌∙◌}
use mathlib.Core.Bool.{cond}
use mathlib.Core.Logic.{inl, inr}
use mathlib.Core.List.{List, [], ◌∷◌}
use native.Mathlib.Omega.{arith}
use lib.Dec.{eqb, ltb}
use lib.ListN.{length, get_or}
use borrow.Author.Tests.{ltb-false}
use denote.Ref.{Bor}
use Rattle.std.specs.Cmp.Lexicographic.{pointwise}
use Rattle.std.specs.List.{slice_split, onto_first, slice_get, position_or_len}
use Rattle.std.specs.Prelude.{Option, Some, None, option_map, unwrap_or}
use Rattle.std.proofs.lemmas.List.Splits.{length-slice_split}
use Rattle.fields.specs.Order.{same_bytes}
use Rattle.fields.proofs.Choice.{true-or-false}
use Rattle.replay_words.specs.Reading.{pieces, onto, place_in}

onto-first : (x : ℕ) (ps : List (List ℕ)) → 0 < length ps → onto_first x ps ≡ onto x ps
onto-first x [] h = absurd (omega arith)
onto-first x (p ∷ ps) h = refl

pub split_pieces : (b : ℕ) (l : List ℕ) → slice_split (λ x. eqb x b) l ≡ pieces b l
unfolding pieces
split_pieces b [] = refl
split_pieces b (x ∷ l) = elim (true-or-false (eqb x b)) [
  | inl t ↦ rw t (ap (λ (ps : List (List ℕ)). [] ∷ ps) (split_pieces b l))
  | inr t ↦
      let h : 0 < length (slice_split (λ x. eqb x b) l) = omega (arith, length-slice_split (λ x. eqb x b) l) in
      rw t (onto-first x _ h ∙ ap (onto x) (split_pieces b l))
]

-- piece k, an empty one where there is none
pub piece_or : (r : Option (Bor (List ℕ))) (d : Bor (List ℕ)) (ps : List (List ℕ)) (k : ℕ) → option_map (λ x. x.now) r ≡ slice_get ps k → d.now ≡ []
    → (unwrap_or r d).now ≡ get_or ps k []
piece_or None d [] k e n = n
piece_or None d (p ∷ ps) zero e n = absurd (cc)
piece_or None d (p ∷ ps) (suc k) e n = piece_or None d ps k e n
piece_or (Some x) d [] k e n = absurd (cc)
piece_or (Some x) d (p ∷ ps) zero e n = cc
piece_or (Some x) d (p ∷ ps) (suc k) e n = piece_or (Some x) d ps k e n

same_pointwise : (j k : List ℕ) → same_bytes j k ≡ pointwise eqb j k
unfolding same_bytes
same_pointwise [] [] = refl
same_pointwise [] (b ∷ k) = refl
same_pointwise (a ∷ j) [] = refl
same_pointwise (a ∷ j) (b ∷ k) = elim (true-or-false (eqb a b)) [
  | inl t ↦ rw t (same_pointwise j k)
  | inr t ↦ rw t refl
]

-- the first place where the word stands
first_place : (w : List ℕ) (ps : List (List ℕ)) → position_or_len (λ p. pointwise eqb p w) ps ≡ place_in w ps
unfolding place_in
first_place w [] = refl
first_place w (p ∷ ps) = elim (true-or-false (pointwise eqb p w)) [
  | inl t ↦ rw (same_pointwise p w, t) refl
  | inr t ↦ rw (same_pointwise p w, t) (omega (arith, first_place w ps))
]

place-le : (w : List ℕ) (ps : List (List ℕ)) → place_in w ps < suc (length ps)
unfolding place_in
place-le w [] = omega arith
place-le w (p ∷ ps) = elim (true-or-false (same_bytes p w)) [
  | inl t ↦ rw t (omega arith)
  | inr t ↦ rw t (omega (arith, place-le w ps))
]

pub place_or : (r : Option ℕ) (n : ℕ) (w : List ℕ) (ps : List (List ℕ)) → n ≡ length ps
    → r ≡ cond (ltb (position_or_len (λ p. pointwise eqb p w) ps) (length ps)) (Some (position_or_len (λ p. pointwise eqb p w) ps)) None
    → unwrap_or r n ≡ place_in w ps
place_or r n w ps e g = elim (true-or-false (ltb (position_or_len (λ p. pointwise eqb p w) ps) (length ps))) [
  | inl t ↦ ap (λ (o : Option ℕ). unwrap_or o n) (rw t at g) ∙ first_place w ps
  | inr t ↦
      let h = ltb-false (position_or_len (λ p. pointwise eqb p w) ps) (length ps) t in
      ap (λ (o : Option ℕ). unwrap_or o n) (rw t at g) ∙ omega (arith, first_place w ps, place-le w ps)
]
