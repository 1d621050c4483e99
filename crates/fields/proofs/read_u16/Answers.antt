-- `fields::read_u16` meets its contract: the second byte is the upper one. Assumes nothing.
use native.Mathlib.Omega.{arith}
use Rattle.fields.proofs.Numbers.{nat_two}
use Rattle.fields.proofs.read_u16.Goals as goal

pub returns : goal.returns
returns c =
    let both = nat_two c.args.s.now c.args.at c.requires in
    (omega arith, omega arith)
