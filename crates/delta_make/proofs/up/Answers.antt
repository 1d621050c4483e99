-- `delta_make::up` meets its contract: the count goes on, or stays at its end. Assumes nothing.
use native.Mathlib.Omega.{arith}
use Rattle.delta_make.proofs.Steps.{up-sum, up_top}
use Rattle.delta_make.proofs.up.Goals as goal

pub returns-then-by-n : goal.returns-then-by-n
returns-then-by-n c =
    let a = c.args in up_top a.n a.by (omega arith)

pub returns : goal.returns
returns c =
    let a = c.args in up-sum a.n a.by (omega arith)
