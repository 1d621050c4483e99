-- A structure as a list of field widths: where each field begins, and the fields cut out of its bytes.
use Rattle.std.specs.Prelude.{ℕ, zero, suc, ◌+◌, ◌≡◌, List, [], ◌∷◌, ◌++◌, length}
use Rattle.fields.specs.Numbers.{Bytes}
use Rattle.fields.specs.Parts.{part}

-- the fields, one behind the other
unfoldable pub joined : List (List ℕ) → List ℕ
joined [] = []
joined (f ∷ fs) = f ++ joined fs

-- where field k begins
abbrev pub offset : (ws : List ℕ) (i : ℕ) → ℕ
offset ws zero = 0
offset [] (suc k) = 0
offset (w ∷ ws) (suc k) = w + offset ws k

-- all fields together
abbrev pub total : List ℕ → ℕ
total [] = 0
total (w ∷ ws) = w + total ws

-- the fields have these widths
abbrev pub Widths : (widths : List ℕ) (fields : List Bytes) → Type 0
Widths [] [] = Unit {0}
Widths [] (f ∷ fs) = ⊥
Widths (w ∷ ws) [] = ⊥
Widths (w ∷ ws) (f ∷ fs) = (length f ≡ w) × Widths ws fs

-- the parts of l of these widths, from `at` on
abbrev pub cut_at : (at : ℕ) (widths : List ℕ) (l : Bytes) → List (List ℕ)
cut_at at [] l = []
cut_at at (w ∷ ws) l = part at w l ∷ cut_at (at + w) ws l
