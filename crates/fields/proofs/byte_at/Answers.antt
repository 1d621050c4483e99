-- `fields::byte_at` meets its contract: the number of one byte is that byte. Assumes nothing.
use native.Mathlib.Omega.{arith}
use Rattle.fields.proofs.Numbers.{nat-one}
use Rattle.fields.proofs.byte_at.Goals as goal

pub returns : goal.returns
returns c =
    let byte = nat-one c.args.s.now c.args.at c.requires in
    (omega arith, omega arith)
