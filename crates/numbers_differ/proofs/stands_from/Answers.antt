-- `numbers_differ::stands_from` meets its contract. Assumes nothing.
use mathlib.Core.Path.{◌∙◌}
use Rattle.rules.proofs.Among.{any_among}
use Rattle.numbers_differ.proofs.stands_from.Goals as goal

pub returns : goal.returns
returns c =
    c.contains.ensures.value ∙ any_among c.args.x _
