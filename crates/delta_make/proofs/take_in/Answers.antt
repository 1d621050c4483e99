-- `delta_make::take_in` meets its contract: what is left of the piece, behind what was taken in, gives what the piece gives. Assumes nothing.
use native.Mathlib.Omega.{arith}
use Rattle.delta_make.proofs.Steps.{piece-all, piece-more}
use Rattle.delta_make.proofs.take_in.Goals as goal

pub loop-byte-preserved : goal.loop-byte-preserved
loop-byte-preserved c =
    let q = c.loop-byte in
    piece-more c.args.piece.now q.byte-index q.taken q.line q.delta _ _ _ _ c.loop-byte-test.true c.take_byte-taken.ensures q.invariant

pub returns : goal.returns
returns c =
    let q = c.loop-byte in
    piece-all c.args.piece.now q.byte-index q.taken q.line q.delta _ (omega arith) (omega arith) q.invariant
