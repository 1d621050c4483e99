-- `party_form::owns` meets its contract. Assumes nothing.
use mathlib.Core.Path.{◌∙◌, ap, sym}
use Rattle.rules.specs.Party.{own}
use Rattle.rules.specs.declared.Party.{Party}
use Rattle.party_form.proofs.owns.Goals as goal

pub returns-in-Metering : goal.returns-in-Metering
returns-in-Metering c =
    let a = c.args in
    c.starts_with.ensures ∙ sym (ap (λ (q : Party). own q a.key.now) c.in-Metering.is)

pub returns-in-Building : goal.returns-in-Building
returns-in-Building c =
    let a = c.args in
    c.starts_with-in-Building.ensures ∙ sym (ap (λ (q : Party). own q a.key.now) c.in-Building.is)
