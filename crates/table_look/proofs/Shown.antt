-- A text that was written at the front of a buffer is what stands there. Assumes nothing.
use Prim.Native.Nat.{ℕ, ◌+◌}
use mathlib.Core.Path.{◌≡◌}
use mathlib.Core.Bool.{Bool, true, false}
use mathlib.Core.List.{List}
use native.Mathlib.Omega.{arith}
use lib.ListN.{drop, length, take}
use lib.Seq.{take_at}
use Rattle.fields.specs.Choice.{pick}
use Rattle.fields.specs.Parts.{put}
use Rattle.rules.specs.Given.{given}
use Rattle.rules.specs.Digest.{fits_at, write_bytes}
use Rattle.rules.specs.declared.Refusal.TheVariants.{NoPlace}
use Rattle.std.specs.Prelude.{Err, Ok}

pub shown-front : (text out : List ℕ) (k : ℕ) → (write_bytes text 0 out).answer ≡ Ok k → take k (write_bytes text 0 out).lent ≡ text
unfolding put
shown-front text out k e = go (fits_at 0 (length text) out) e
  where
    go : (t : Bool) → (pick t (given (Ok (length text)) (put 0 text out)) (given (Err NoPlace) out)).answer ≡ Ok k
        → take k (pick t (given (Ok (length text)) (put 0 text out)) (given (Err NoPlace) out)).lent ≡ text
    go true f = let long : length text ≡ k = cc in take_at text (drop (0 + length text) out) k long
    go false f = let z : ◌≡◌ {A = ℕ} 0 1 = cc in absurd (omega arith)
