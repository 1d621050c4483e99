-- `table::value_of` meets its contract: the part that it hands out is the value that is read there. Assumes nothing.
use Prim.Native.Nat.{ℕ, ◌+◌, ◌-◌}
use mathlib.Core.Path.{◌≡◌, ap, ◌∙◌}
use mathlib.Core.List.{List}
use lib.ListN.{take, drop}
use Rattle.fields.specs.Parts.{part}
use Rattle.fields.specs.Widths.{offset}
use Rattle.fields.proofs.Lent.{seen}
use Rattle.rules.specs.Layout.{rec_widths, decode_rec}
use Rattle.table.specs.Tests.{value_length}
use Rattle.table.proofs.value_of.Goals as goal

value-is : (b : List ℕ) (k : ℕ) → k ≡ value_length b → take (offset rec_widths 3 + k - offset rec_widths 3) (drop (offset rec_widths 3) b) ≡ (decode_rec b).kv.value
unfolding decode_rec
value-is b k e = seen (offset rec_widths 3) k b ∙ ap (λ (n : ℕ). part (offset rec_widths 3) n b) e

pub returns : goal.returns
returns c =
    value-is c.args.«record».now c.byte_at-e.result c.byte_at-e.ensures.0
