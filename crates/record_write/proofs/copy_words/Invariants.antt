-- `record_write::copy_words` meets its contract: so many bytes are copied, a word more each turn. Assumes nothing.
use Prim.Native.Nat.{◌*◌}
use mathlib.Core.Path.{◌≡◌}
use Rattle.fields.specs.Parts.{part, put}
use Rattle.record_write.proofs.copy_words.Given as goal

abbrev pub invariant-loop-i : goal.invariant-loop-i
invariant-loop-i l = l.s ≡ put l.at (part l.start (8 * l.i) l.src) l.initial.s
