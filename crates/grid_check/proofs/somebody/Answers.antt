-- `grid_check::somebody` meets its contract: what the library finds. Assumes nothing.
use Rattle.std.proofs.Common.{◌∙◌}
use Rattle.grid_check.proofs.Checked.{among-is}
use Rattle.grid_check.proofs.somebody.Goals as goal

pub returns : goal.returns
returns c =
    let a = c.args in
    c.contains.ensures.value ∙ among-is 1 a.present.now
