-- `table_read::is_excluded` meets its contract. Assumes nothing.
use mathlib.Core.Path.{◌∙◌}
use Rattle.rules.proofs.Among.{any_among}
use Rattle.table_read.proofs.is_excluded.Goals as goal

pub returns : goal.returns
returns c =
    c.contains.ensures.value ∙ any_among c.args.number c.args.excluded.now
