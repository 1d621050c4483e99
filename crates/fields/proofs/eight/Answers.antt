-- `fields::eight` meets its contract: one element after the other is the part. Assumes nothing.
use Prim.Native.Nat.{ℕ, ◌+◌, ◌≤◌}
use mathlib.Core.Path.{◌≡◌, refl}
use mathlib.Core.List.{List, [], ◌∷◌}
use native.Mathlib.Omega.{arith}
use native.Mathlib.Nat.{add-zero}
use lib.ListN.{length, get_or}
use Rattle.fields.specs.Parts.{part}
use Rattle.fields.proofs.Parts.{part-next}
use Rattle.fields.proofs.eight.Goals as goal

none : (s : List ℕ) (at : ℕ) → part at 0 s ≡ []
unfolding part
none s at = refl

part-eight : (s : List ℕ) (at : ℕ) → at + 8 ≤ length s → get_or s at 0 ∷ get_or s (at + 1) 0 ∷ get_or s (at + 2) 0 ∷ get_or s (at + 3) 0 ∷ get_or s (at + 4) 0 ∷ get_or s (at + 5) 0 ∷ get_or s (at + 6) 0 ∷ get_or s (at + 7) 0 ∷ [] ≡ part at 8 s
part-eight s at h = cc (none s (at + 8), add-zero at, part-next at 0 8 s (omega arith) h, part-next at 1 8 s (omega arith) h, part-next at 2 8 s (omega arith) h, part-next at 3 8 s (omega arith) h, part-next at 4 8 s (omega arith) h, part-next at 5 8 s (omega arith) h, part-next at 6 8 s (omega arith) h, part-next at 7 8 s (omega arith) h)

pub returns : goal.returns
returns c =
    part-eight c.args.s.now c.args.at c.requires
