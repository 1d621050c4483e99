-- `delta_names::put_numbers` meets its contract: what stands and what is left are the whole. Assumes nothing.
use Prim.Native.Nat.{◌-◌}
use mathlib.Core.Path.{◌≡◌}
use Rattle.fields.specs.Parts.{put}
use Rattle.delta_names.specs.Names.{numbers_at}
use Rattle.delta_names.proofs.put_numbers.Given as goal

abbrev pub invariant-loop-i : goal.invariant-loop-i
invariant-loop-i l = put l.i (numbers_at l.delta l.places l.i (l.n - l.i)) l.list ≡ put 0 (numbers_at l.delta l.places 0 l.n) l.initial.list
