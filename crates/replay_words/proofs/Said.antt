-- Laws of printing: a text with room stands, one without is not said, and texts after texts are said after them. Assumes nothing.
use Prim.Native.Nat.{ℕ, ◌+◌, ◌/◌, ◌%◌, ◌≤◌, ◌<◌}
use mathlib.Core.Path.{◌≡◌, refl, ap, sym, ◌∙◌}
use mathlib.Core.List.{List, [], ◌∷◌}
use native.Mathlib.Omega.{arith}
use lib.ListN.{length, get_or, drop, drop_of_length-le}
use lib.Seq.{drop-cons}
use native.Mathlib.Numerals.{add-one}
use Rattle.rules.specs.Listing.{decimal}
use borrow.Author.Tests.{le-leb, lt-leb}
use Rattle.fields.specs.Parts.{put}
use Rattle.replay_words.specs.Printing.{Page, page, say, says, hex_digit, hex_texts, more_texts, list_texts}

pub said : (at r : ℕ) (t l m : List ℕ) → at + length t ≤ length l → r ≡ at + length t → m ≡ put at t l → page r m ≡ say t (page at l)
unfolding say
said at r t l m h e p = rw (e, p, le-leb (at + length t) (length l) h)

pub unsaid : (at : ℕ) (t l : List ℕ) → length l < at + length t → page at l ≡ say t (page at l)
unfolding say
unsaid at t l h = rw (lt-leb (at + length t) (length l) h)

-- ---- a byte's texts, two of them, in a loop over i

module _ (l : List ℕ) (i : ℕ) (p q t : Page) where
  pub hex-turn : i < length l → says (hex_texts (drop i l)) p ≡ t → q ≡ say (hex_digit (get_or l i 0 % 16) ∷ []) (say (hex_digit (get_or l i 0 / 16) ∷ []) p)
      → says (hex_texts (drop (i + 1) l)) q ≡ t
  unfolding says hex_texts
  hex-turn h e g =
      ap (says (hex_texts (drop (i + 1) l))) g
      ∙ ap (λ (j : ℕ). says (hex_texts (drop j l)) (say (hex_digit (get_or l i 0 % 16) ∷ []) (say (hex_digit (get_or l i 0 / 16) ∷ []) p))) (add-one i)
      ∙ ap (λ (r : List ℕ). says (hex_texts r) p) (sym (drop-cons l i 0 h))
      ∙ e

  pub more_turn : i < length l → says (more_texts (drop i l)) p ≡ t → q ≡ say (decimal (get_or l i 0)) (say (44 ∷ []) p)
      → says (more_texts (drop (i + 1) l)) q ≡ t
  unfolding says more_texts
  more_turn h e g =
      ap (says (more_texts (drop (i + 1) l))) g
      ∙ ap (λ (j : ℕ). says (more_texts (drop j l)) (say (decimal (get_or l i 0)) (say (44 ∷ []) p))) (add-one i)
      ∙ ap (λ (r : List ℕ). says (more_texts r) p) (sym (drop-cons l i 0 h))
      ∙ e

  pub hex-end : length l ≤ i → says (hex_texts (drop i l)) p ≡ t → p ≡ t
  unfolding says hex_texts
  hex-end h e = ap (λ (r : List ℕ). says (hex_texts r) p) (sym (drop_of_length-le l {i = i} h)) ∙ e

  pub more-end : length l ≤ i → says (more_texts (drop i l)) p ≡ t → p ≡ t
  unfolding says more_texts
  more-end h e = ap (λ (r : List ℕ). says (more_texts r) p) (sym (drop_of_length-le l {i = i} h)) ∙ e

-- a list of none, and one with a first
pub list-none : (l : List ℕ) (p q : Page) → length l ≡ 0 → q ≡ say (45 ∷ []) p → q ≡ says (list_texts l) p
unfolding says list_texts
list-none [] p q e g = g
list-none (x ∷ l) p q e g = absurd (omega arith)

pub list-first : (l : List ℕ) (x : ℕ) (r : List ℕ) (p q : Page) → l ≡ x ∷ r → q ≡ say (decimal x) p → says (more_texts r) q ≡ says (list_texts l) p
unfolding says list_texts
list-first l x r p q e g = rw (e, g) refl
