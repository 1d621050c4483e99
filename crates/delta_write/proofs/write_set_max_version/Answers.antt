-- The fields are one put, side by side. Assumes nothing.
use native.Mathlib.Omega.{arith}
use Rattle.delta_write.proofs.Fronts.{fits, no-fit, set-max-version-fields}
use Rattle.rules.proofs.Sending.{size-max}
use Rattle.delta_write.proofs.write_set_max_version.Goals as goal

-- The fields are one put, side by side. Assumes nothing.
pub returns-then-datagram-lt-MAX_WIDTH : goal.returns-then-datagram-lt-MAX_WIDTH
returns-then-datagram-lt-MAX_WIDTH c =
    no-fit _ _ _ (size-max _) (omega arith)

pub returns : goal.returns
returns c =
    let a = c.args in
    fits _ _ a.datagram.now _ (size-max a.max) (omega arith)
    (set-max-version-fields a.max a.datagram.now _ _ (omega arith) c.write_byte.ensures c.write_u64.ensures)
