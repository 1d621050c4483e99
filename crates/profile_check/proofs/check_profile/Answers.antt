-- `profile_check::check_profile` meets its contract. Assumes nothing.
use mathlib.Core.Path.{◌∙◌, ap, sym}
use Rattle.rules.specs.Layout.{decode}
use Rattle.rules.specs.Profile.{profile_obeys}
use Rattle.rules.specs.Whole.{area_of}
use Rattle.rules.specs.declared.Profile.{Profile}
use Rattle.rules.proofs.Formed.{free-formed}
use Rattle.profile_check.proofs.check_profile.Goals as goal

pub returns-in-Free : goal.returns-in-Free
returns-in-Free c =
    let l = c.args.table.now in
    sym (ap (λ (p : Profile). profile_obeys p (decode (area_of l))) (sym c.profile_of.ensures ∙ c.in-Free.is) ∙ free-formed (decode (area_of l)))
