-- `fields::move_up` meets its contract: from the last byte down, those that are left to move are not yet written over, and put now they give
-- what the contract says. Assumes nothing.
use Prim.Native.Nat.{ℕ, suc, ◌+◌, ◌≤◌, ◌<◌}
use mathlib.Core.Path.{◌≡◌, sym, ap, ◌∙◌}
use mathlib.Core.List.{List}
use native.Mathlib.Omega.{arith}
use lib.ListN.{length, get_or, set}
use Rattle.fields.specs.Parts.{part, put}
use Rattle.fields.proofs.Parts.{part-snoc, part-set-before, put-snoc, length_part}
use Rattle.fields.proofs.move_up.Given as goal

pub last : (l : List ℕ) (from to j : ℕ) (t : List ℕ) → from ≤ to → to + j < length l → put to (part from (suc j) l) l ≡ t
    → let v : ℕ = get_or l (from + j) 0 in put to (part from j (set l (to + j) v)) (set l (to + j) v) ≡ t
last l from to j t g f e =
    let m : length (part from j l) ≡ j = length_part from j l (omega arith) in
    let v : ℕ = get_or l (from + j) 0 in
    ap (λ (xs : List ℕ). put to xs (set l (to + j) v)) (part-set-before from j (to + j) v l (omega arith))
    ∙ ap (λ (k : ℕ). put to (part from j l) (set l (to + k) v)) (sym m)
    ∙ put-snoc to v (part from j l) l (rw m f)
    ∙ ap (λ (xs : List ℕ). put to xs l) (sym (part-snoc from j l (omega arith)))
    ∙ e

abbrev pub invariant-loop-i : goal.invariant-loop-i
invariant-loop-i l = put l.to (part l.from l.i l.s) l.s ≡ put l.to (part l.from l.n l.initial.s) l.initial.s
