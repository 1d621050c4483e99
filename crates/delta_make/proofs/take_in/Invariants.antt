-- `delta_make::take_in` meets its contract: what is left of the piece, behind what was taken in, gives what the piece gives. Assumes nothing.
use mathlib.Core.Path.{◌≡◌}
use lib.ListN.{drop}
use Rattle.delta_make.specs.Making.{kept, taken_in}
use Rattle.delta_make.proofs.take_in.Given as goal

abbrev pub invariant-loop-byte : goal.invariant-loop-byte
invariant-loop-byte l = taken_in (drop l.byte-index l.piece) (kept l.taken l.line l.delta) ≡ taken_in l.piece (kept l.initial.taken l.initial.line l.initial.delta)
