-- `fields::rank` meets its contract: std's reading of eight bytes is the rank. Assumes nothing.
use mathlib.Core.Path.{ap, ◌∙◌}
use lib.ListN.{length}
use Rattle.fields.specs.Order.{rank_of}
use Rattle.fields.proofs.Parts.{length_part}
use Rattle.fields.proofs.Ranks.{rank-eight}
use Rattle.fields.proofs.rank.Goals as goal

pub returns : goal.returns
returns c =
    let a = c.args in
    let bytes = c.eight.ensures in
    c.from_be_bytes.ensures ∙ rank-eight _ (ap length bytes ∙ length_part a.at 8 a.s.now c.requires) ∙ ap rank_of bytes
