-- `apply::mode_of` meets its contract: the byte behind the area is the tail's first. Assumes nothing.
use mathlib.Core.Path.{◌≡◌, ap, sym, ◌∙◌}
use mathlib.Core.List.{List}
use Prim.Native.Nat.{ℕ}
use native.Mathlib.Omega.{arith}
use lib.ListN.{length}
use Rattle.fields.specs.Numbers.{nat_of}
use Rattle.fields.specs.Parts.{part}
use Rattle.fields.proofs.Parts.{part-part}
use Rattle.rules.specs.Layout.{table_width}
use Rattle.rules.specs.Whole.{mode_of_byte, tail_width, whole_width, decode_whole}
use Rattle.rules.specs.declared.Mode.{Mode}
use Rattle.apply.proofs.mode_of.Goals as goal

first : (l : List ℕ) → length l ≡ whole_width → (n : ℕ) → n ≡ nat_of (part table_width 1 l) → (m : Mode) → m ≡ mode_of_byte n → m ≡ (decode_whole l).kind.mode
first l e n q m p =
    p ∙ ap mode_of_byte (q ∙ ap nat_of (sym (part-part 0 1 table_width tail_width l (omega arith) (omega (arith, e)))))

pub returns : goal.returns
returns c =
    first c.args.table.now c.requires _ c.byte_at.ensures.0 _ c.of_byte.ensures
