-- `over_find::first` meets its contract. Assumes nothing.
use mathlib.Core.Path.{◌≡◌, ap, refl, ◌∙◌}
use Rattle.std.specs.Prelude.{Ok, Some}
use Rattle.over_find.proofs.first.Goals as goal

pub returns-in-Ok-Some : goal.returns-in-Ok-Some
returns-in-Ok-Some c =
    let e : c.args.own ≡ Ok (Some c.in-Ok-Some.field-0-0) = c.in-Ok-Some.is ∙ ap Ok cc in
    rw e refl
