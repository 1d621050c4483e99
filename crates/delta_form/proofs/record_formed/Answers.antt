-- `delta_form::record_formed` meets its contract. Assumes nothing.
use mathlib.Core.Bool.{◌&&◌}
use mathlib.Core.Path.{◌≡◌, ◌∙◌, ap, sym}
use Rattle.fields.specs.Numbers.{Bytes}
use Rattle.fields.specs.Parts.{part}
use Rattle.fields.proofs.Lent.{seen}
use Rattle.rules.specs.Party.{someones}
use Rattle.rules.specs.Profile.{meter_key, meter_value}
use Rattle.rules.specs.declared.Profile.{Profile}
use Rattle.rules.specs.declared.Profile.TheVariants.{Meter, Shared}
use Rattle.rules.specs.declared.Status.{Status}
use Rattle.delta_form.specs.Forming.{formed_at}
use Rattle.delta_form.proofs.record_formed.Goals as goal

-- in its profile
formed : (p q : Profile) (key value : Bytes) (status : Status) → p ≡ q → formed_at q key value status ≡ formed_at p key value status
formed p q key value status e = sym (ap (λ (x : Profile). formed_at x key value status) e)

pub returns-in-Meter : goal.returns-in-Meter
returns-in-Meter c =
    let a = c.args in
    let l = a.delta.now in
    c.is_formed.ensures
    ∙ (λ z. meter_key (seen a.keyat a.keylen l z) && meter_value a.status (seen a.valueat a.valuelen l z))
    ∙ formed a.profile Meter (part a.keyat a.keylen l) (part a.valueat a.valuelen l) a.status c.in-Meter.is

pub returns-in-Shared : goal.returns-in-Shared
returns-in-Shared c =
    let a = c.args in
    let l = a.delta.now in
    c.is_someones.ensures
    ∙ ap someones (seen a.keyat a.keylen l)
    ∙ formed a.profile Shared (part a.keyat a.keylen l) (part a.valueat a.valuelen l) a.status c.in-Shared.is
