-- `apply::apply_known` meets its contract: where no node is left alone, what is given is `lent_apply` by definition. Assumes nothing.
use mathlib.Core.Path.{refl}
use Rattle.apply.proofs.Applied.{none_left}
use Rattle.apply.proofs.apply_known.Goals as goal

pub returns : goal.returns
returns c =
    let a = c.args in
    none_left _ a.delta.now a.clock a.answers.now a.table.now refl _ _ c.leaving_known.ensures
