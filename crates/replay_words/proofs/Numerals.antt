-- What the library's `parse` reads, where no `+` stands first, is what `numeral_of` says. Assumes nothing.
use Prim.Native.Nat.{ℕ, ◌+◌, ◌-◌, ◌*◌, ◌≤◌, ◌<◌}
use mathlib.Core.Path.{◌≡◌, refl, ap, sym, ◌∙◌}
use mathlib.Core.Bool.{true, false}
use mathlib.Core.Logic.{◌⊎◌, inl, inr}
use mathlib.Core.List.{List, [], ◌∷◌}
use native.Mathlib.Omega.{arith}
use lib.Dec.{eqb, ltb, leb}
use lib.ListN.{get_or, take}
use borrow.Author.Tests.{lt-ltb, le-ltb, lt-leb, leb-true, leb-false, ltb-true, ltb-false, eqb-true, eq-eqb}
use Rattle.std.specs.Prelude.{Option, Some, None, OkIff}
use Rattle.std.specs.Char.{digit_value}
use Rattle.std.specs.Prelude.{Result, Ok, Err, MatchResult}
use Rattle.std.specs.Result.{result_ok}
use denote.Ref.{Bor}
use Rattle.std.specs.Str.{IsUtf8, IsAscii}
use Rattle.std.specs.Str.Parse.{AllDigits, IsNumeral, digits_value, digits_value_after}
use Rattle.std.specs.Cmp.Lexicographic.{pointwise}
use Rattle.std.proofs.lemmas.Str.{IsUtf8-from_ascii}
use Rattle.std.proofs.lemmas.Str.Ascii.{IsAscii-nil, IsAscii-cons}
use Rattle.std.proofs.lemmas.Str.Parse.{digit_from_value}
use Rattle.fields.proofs.Choice.{true-or-false}
use Rattle.replay_words.specs.Reading.{digits_from, numeral_of}

value-of : (b : ℕ) → 48 ≤ b → b ≤ 57 → digit_value b ≡ b - 48
value-of b h g =
    let k : b < 58 = omega arith in
    rw (le-ltb b 48 h, lt-ltb b 58 k)

-- the digits behind v make the number no smaller
grows : (v : ℕ) (l : List ℕ) → v ≤ digits_value_after 10 v l
grows v [] = omega arith
grows v (b ∷ l) = omega (arith, grows (v * 10 + digit_value b) l)

abbrev Fits : ℕ → List ℕ → Type 0
Fits v l = AllDigits 10 l × (digits_value_after 10 v l < 18446744073709551616)

abbrev Read : Option ℕ → ℕ → List ℕ → Type 0
Read o v l = (Fits v l × (o ≡ Some (digits_value_after 10 v l))) ⊎ ((Fits v l → ⊥) × (o ≡ None))

read-from : (v : ℕ) (l : List ℕ) → v < 18446744073709551616 → Read (digits_from v l) v l
unfolding digits_from
read-from v [] h = inl ((tt, h), refl)
read-from v (b ∷ l) h = elim (true-or-false (leb 48 b)) [
  | inr t ↦
      let g = leb-false 48 b t in
      inr ((λ f. let r = digit_from_value b f.0.0 in omega arith), rw t refl)
  | inl t ↦ elim (true-or-false (leb b 57)) [
    | inr s ↦
        let g = leb-false b 57 s in
        inr ((λ f. let r = digit_from_value b f.0.0 in omega arith), rw (t, s) refl)
    | inl s ↦
        let low : 48 ≤ b = leb-true 48 b t in
        let high : b ≤ 57 = leb-true b 57 s in
        let d : digit_value b ≡ b - 48 = value-of b low high in
        elim (true-or-false (ltb (v * 10 + (b - 48)) 18446744073709551616)) [
          | inl r ↦
              let w : ℕ = v * 10 + (b - 48) in
              let k : digits_from v (b ∷ l) ≡ digits_from w l = rw (t, s, r) refl in
              let e : v * 10 + digit_value b ≡ w = omega arith in
              let g : digits_value_after 10 (v * 10 + digit_value b) l ≡ digits_value_after 10 w l = ap (λ (n : ℕ). digits_value_after 10 n l) e in
              elim (read-from w l (ltb-true w 18446744073709551616 r)) [
                | inl f ↦ inl (((omega arith, f.0.0), omega (arith, f.0.1, g)), k ∙ f.1 ∙ ap Some (sym g))
                | inr f ↦ inr ((λ m. f.0 (m.0.1, omega (arith, g, m.1))), k ∙ f.1)
              ]
          | inr r ↦
              let g = ltb-false (v * 10 + (b - 48)) 18446744073709551616 r in
              inr ((λ f. omega (arith, grows (v * 10 + digit_value b) l)), rw (t, s, r) refl)
        ]
  ]
]

abbrev Numeral : List ℕ → Type 0
Numeral l = IsNumeral 10 l × (digits_value 10 l < 18446744073709551616)

told : (l : List ℕ) → (Numeral l × (numeral_of l ≡ Some (digits_value 10 l))) ⊎ ((Numeral l → ⊥) × (numeral_of l ≡ None))
unfolding numeral_of
told [] = inr ((λ f. let h = f.0.0 in omega arith), refl)
told (b ∷ l) = elim (read-from 0 (b ∷ l) (omega arith)) [
  | inl f ↦ inl (((omega arith, f.0.0), f.0.1), f.1)
  | inr f ↦ inr ((λ g. f.0 (g.0.1, g.1)), f.1)
]

pub parsed : {E : Type 0} (l : List ℕ) (r : Result ℕ E) → OkIff r (Numeral l) (digits_value 10 l) → result_ok r ≡ numeral_of l
parsed l (Ok x) h = elim (told l) [
  | inl t ↦ ap Some h.1 ∙ sym t.1
  | inr t ↦ absurd (t.0 h.0)
]
parsed l (Err e) h = elim (told l) [
  | inl t ↦ absurd (h t.0)
  | inr t ↦ sym t.1
]

digits_ascii : (l : List ℕ) → AllDigits 10 l → IsAscii l
digits_ascii [] f = IsAscii-nil
digits_ascii (b ∷ l) f = let r = digit_from_value b f.0 in IsAscii-cons b l (omega arith) (digits_ascii l f.1)

-- what is no text is no number
pub no_text : (l : List ℕ) → (IsUtf8 l → ⊥) → None ≡ numeral_of l
no_text l n = elim (told l) [
  | inl t ↦ absurd (n (IsUtf8-from_ascii l (digits_ascii l t.0.0.1)))
  | inr t ↦ sym t.1
]

-- a `+` first
begins : (l : List ℕ) → pointwise eqb (43 ∷ []) (take 1 l) ≡ true → get_or l 0 0 ≡ 43
begins [] e = absurd (cc)
begins (x ∷ l) e = elim (true-or-false (eqb 43 x)) [
  | inl t ↦ sym (eqb-true 43 x t)
  | inr t ↦ let f = rw t at e in absurd (cc)
]

pub begins_not : (l : List ℕ) → pointwise eqb (43 ∷ []) (take 1 l) ≡ false → get_or l 0 0 ≡ 43 → ⊥
begins_not [] e h = omega arith
begins_not (x ∷ l) e h = let f = rw (eq-eqb 43 x (sym h)) at e in cc

pub plus : (l : List ℕ) → pointwise eqb (43 ∷ []) (take 1 l) ≡ true → None ≡ numeral_of l
unfolding numeral_of digits_from
plus [] e = absurd (cc)
plus (x ∷ l) e = let h = begins (x ∷ l) e in rw (lt-leb 48 x (omega arith)) refl

-- what a failed `from_utf8` and a good one say
pub not_utf8 : {E : Type 0} {o : Option (Bor (List ℕ))} (l : List ℕ) (r : Result (Bor (List ℕ)) E) (B : E → Type 0)
    → MatchResult r (λ s. (s.now ≡ l) × IsUtf8 l) (λ e. (IsUtf8 l → ⊥) × B e) → o ≡ result_ok r → o ≡ None → (IsUtf8 l → ⊥)
not_utf8 l (Ok s) B m e n = absurd (cc)
not_utf8 l (Err x) B m e n = m.0

pub utf8_same : {E : Type 0} {o : Option (Bor (List ℕ))} (l : List ℕ) (r : Result (Bor (List ℕ)) E) (t : Bor (List ℕ)) (B : E → Type 0)
    → MatchResult r (λ s. (s.now ≡ l) × IsUtf8 l) B → o ≡ result_ok r → o ≡ Some t → t.now ≡ l
utf8_same l (Ok s) t B m e n = let f : t ≡ s = cc in ap (λ (b : Bor (List ℕ)). b.now) f ∙ m.0
utf8_same l (Err x) t B m e n = absurd (cc)
