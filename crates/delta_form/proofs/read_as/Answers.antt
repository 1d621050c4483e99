-- `delta_form::read_as` meets its contract. Assumes nothing.
use mathlib.Core.Path.{ap, sym, ◌∙◌}
use Rattle.rules.specs.declared.Profile.{Profile}
use Rattle.delta_form.specs.Forming.{delta_read_as}
use Rattle.delta_form.proofs.Formed.{free-read}
use Rattle.delta_form.proofs.read_as.Goals as goal

pub returns-in-Free : goal.returns-in-Free
returns-in-Free c =
    c.requires ∙ sym (ap (λ (p : Profile). delta_read_as p c.args.delta.now) c.in-Free.is ∙ free-read c.args.delta.now)

pub returns-in-Meter : goal.returns-in-Meter
returns-in-Meter c =
    c.read_formed.ensures

pub returns-in-Shared : goal.returns-in-Shared
returns-in-Shared c =
    c.read_formed-in-Shared.ensures
