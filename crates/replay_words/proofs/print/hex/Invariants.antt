-- `replay_words::print::hex` meets its contract: what is left to print, printed now, gives what the contract says. Assumes nothing.
use mathlib.Core.Path.{◌≡◌}
use lib.ListN.{drop}
use Rattle.replay_words.specs.Printing.{page, says, hex_texts}
use Rattle.replay_words.proofs.print.hex.Given as goal

abbrev pub invariant-loop-value : goal.invariant-loop-value
invariant-loop-value l = says (hex_texts (drop l.value-index l.bytes)) (page l.next l.out) ≡ says (hex_texts l.bytes) (page l.initial.next l.initial.out)
