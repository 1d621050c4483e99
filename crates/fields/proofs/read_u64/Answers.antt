-- `fields::read_u64` meets its contract: std's reading of eight bytes is their number. Assumes nothing.
use mathlib.Core.Path.{ap, ◌∙◌}
use lib.ListN.{length}
use Rattle.fields.specs.Numbers.{nat_of}
use Rattle.fields.proofs.Parts.{length_part}
use Rattle.fields.proofs.Numbers.{nat-eight}
use Rattle.fields.proofs.read_u64.Goals as goal

pub returns : goal.returns
returns c =
    let a = c.args in
    let bytes = c.eight.ensures in
    c.from_le_bytes.ensures ∙ nat-eight _ (ap length bytes ∙ length_part a.at 8 a.s.now c.requires) ∙ ap nat_of bytes
