-- The length and the text are one put, side by side. Assumes nothing.
use native.Mathlib.Omega.{arith}
use Rattle.delta_write.proofs.Fronts.{text-fields}
use Rattle.delta_write.proofs.write_text.Goals as goal

pub returns : goal.returns
returns c =
    let a = c.args in
    text-fields a.text.now a.at a.datagram.now _ _ (omega arith) c.write_u16.ensures c.copy_to.ensures
