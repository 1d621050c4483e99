-- `replay_tell::checksum::sum_of` is safe: what was summed is below the modulus. Assumes nothing.
use Prim.Native.Nat.{◌<◌}
use Rattle.replay_tell.proofs.checksum.sum_of.Given as goal

abbrev pub invariant-loop-four : goal.invariant-loop-four
invariant-loop-four l = l.sum < 4294967291

abbrev pub invariant-loop-byte : goal.invariant-loop-byte
invariant-loop-byte l = l.sum < 4294967291
