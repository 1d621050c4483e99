-- `over_find::over` meets its contract. Assumes nothing.
use mathlib.Core.Path.{◌≡◌, ap, sym, ◌∙◌}
use Rattle.std.specs.Prelude.{None, Ok, Some}
use Rattle.over_find.specs.Over.{over_of}
use Rattle.over_find.proofs.over.Goals as goal

pub returns-in-Ok-Some : goal.returns-in-Ok-Some
returns-in-Ok-Some c =
    let e : c.args.shared ≡ Ok (Some c.in-Ok-Some.field-0-0) = c.in-Ok-Some.is ∙ ap Ok cc in
    rw e (rw e at c.first.ensures)

pub returns-in-Ok-None : goal.returns-in-Ok-None
returns-in-Ok-None c =
    let e : c.args.shared ≡ Ok None = c.in-Ok-None.is ∙ ap Ok cc in
    rw e c.first-in-Ok-None.ensures

pub returns-in-Err : goal.returns-in-Err
returns-in-Err c =
    sym (ap (over_of c.args.own) c.in-Err.is)
