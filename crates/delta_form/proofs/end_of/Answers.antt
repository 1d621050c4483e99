-- `delta_form::end_of` meets its contract. Assumes nothing.
use mathlib.Core.Path.{ap, sym}
use Rattle.delta_form.specs.Forming.{end_of}
use Rattle.delta_form.proofs.end_of.Goals as goal

pub returns-in-Err : goal.returns-in-Err
returns-in-Err c =
    sym (ap (end_of c.args.long) c.in-Err.is)
