-- `party_form::may_name` meets its contract. Assumes nothing.
use mathlib.Core.Path.{◌∙◌, ap, sym}
use Rattle.rules.specs.Party.{sees}
use Rattle.rules.specs.declared.Profile.{Profile}
use Rattle.party_form.proofs.may_name.Goals as goal

pub returns-in-Shared : goal.returns-in-Shared
returns-in-Shared c =
    let a = c.args in
    c.owns.ensures ∙ sym (ap (λ (p : Profile). sees p a.party a.key.now) c.in-Shared.is)
