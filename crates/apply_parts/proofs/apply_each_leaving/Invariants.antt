-- `apply_parts::apply_each_leaving` meets its contract: the node deltas that are left give the whole's table and answers. Assumes nothing.
use Rattle.rules.specs.Profile.{kind}
use Rattle.apply_parts.proofs.Applying.{Stands}
use Rattle.apply_parts.proofs.apply_each_leaving.Given as goal

abbrev pub invariant-loop-i : goal.invariant-loop-i
invariant-loop-i l = Stands l.own (kind l.mode l.profile) l.clock l.delta l.initial.table l.initial.answers l.i l.table l.answers
