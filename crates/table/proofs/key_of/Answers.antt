-- `table::key_of` meets its contract: the part that it hands out is the key that is read there. Assumes nothing.
use Prim.Native.Nat.{ℕ, ◌+◌, ◌-◌}
use mathlib.Core.Path.{◌≡◌, ap, ◌∙◌}
use mathlib.Core.List.{List}
use lib.ListN.{take, drop}
use Rattle.fields.specs.Parts.{part}
use Rattle.fields.specs.Widths.{offset}
use Rattle.fields.proofs.Lent.{seen}
use Rattle.rules.specs.Layout.{rec_widths, decode_rec}
use Rattle.table.specs.Tests.{key_length}
use Rattle.table.proofs.key_of.Goals as goal

key-is : (b : List ℕ) (k : ℕ) → k ≡ key_length b → take (offset rec_widths 1 + k - offset rec_widths 1) (drop (offset rec_widths 1) b) ≡ (decode_rec b).kv.key
unfolding decode_rec
key-is b k e = seen (offset rec_widths 1) k b ∙ ap (λ (n : ℕ). part (offset rec_widths 1) n b) e

pub returns : goal.returns
returns c =
    key-is c.args.«record».now c.byte_at-e.result c.byte_at-e.ensures.0
