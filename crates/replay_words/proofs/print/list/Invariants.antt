-- `replay_words::print::list` meets its contract: what is left to print, printed now, gives what the contract says. Assumes nothing.
use mathlib.Core.Path.{◌≡◌}
use lib.ListN.{drop}
use Rattle.replay_words.specs.Printing.{page, says, more_texts}
use Rattle.replay_words.proofs.print.list.Given as goal

abbrev pub invariant-loop-value : goal.invariant-loop-value
invariant-loop-value l = says (more_texts (drop l.value-index l.rest)) (page l.next l.out) ≡ says (more_texts l.rest) (page l.initial.next l.initial.out)
