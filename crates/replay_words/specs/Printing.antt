-- What is printed into a lent buffer: texts, one behind the other, of which each stands whole where there is room for it, and else not at all.
use Rattle.std.specs.Prelude.{ℕ, ◌+◌, ◌/◌, ◌%◌, List, [], ◌∷◌, length, leb, ltb}
use Rattle.fields.specs.Numbers.{Bytes}
use Rattle.fields.specs.Choice.{pick}
use Rattle.fields.specs.Parts.{put}
use Rattle.rules.specs.Listing.{decimal}

-- a buffer, and the place behind what was printed into it
pub data Page : Type 0 where
  page : ℕ → List ℕ → Page

-- a text more
unfoldable pub say : (text : Bytes) (page : Page) → Page
say t (page at l) = pick (leb (at + length t) (length l)) (page (at + length t) (put at t l)) (page at l)

-- one text after the other
unfoldable pub says : (texts : List Bytes) (page : Page) → Page
says [] p = p
says (t ∷ ts) p = says ts (say t p)

-- a hexadecimal digit of a number below 16
abbrev pub hex_digit : ℕ → ℕ
hex_digit v = pick (ltb v 10) (48 + v) (87 + v)

-- two digits a byte
unfoldable pub hex_texts : List ℕ → List (List ℕ)
hex_texts [] = []
hex_texts (b ∷ l) = (hex_digit (b / 16) ∷ []) ∷ ((hex_digit (b % 16) ∷ []) ∷ hex_texts l)

-- a comma and a decimal number for each
unfoldable pub more_texts : List ℕ → List (List ℕ)
more_texts [] = []
more_texts (b ∷ l) = (44 ∷ []) ∷ (decimal b ∷ more_texts l)

-- decimal numbers with commas between them; a dash where there is none
unfoldable pub list_texts : List ℕ → List (List ℕ)
list_texts [] = (45 ∷ []) ∷ []
list_texts (b ∷ l) = decimal b ∷ more_texts l
