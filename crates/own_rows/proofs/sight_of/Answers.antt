-- `own_rows::sight_of` meets its contract, by the profile. Assumes nothing.
use mathlib.Core.Path.{◌≡◌, ap, sym, ◌∙◌}
use mathlib.Core.List.{List}
use mathlib.Core.Logic.{⊎_elim}
use Rattle.rules.specs.Node.{Rec}
use Rattle.rules.specs.declared.Profile.{Profile}
use Rattle.rules.specs.declared.Party.{Party}
use Rattle.table.specs.Tests.{recs_in}
use Rattle.table.proofs.Places.{length-recs}
use Rattle.own_rows.specs.Sight.{sight, sight_in}
use Rattle.own_rows.proofs.sight_of.Goals as goal

-- by the profile
told : {p x : Profile} → p ≡ x → (q : Party) (l : List Rec) → sight_in x q l ≡ sight_in p q l
told e q l = ap (λ (x : Profile). sight_in x q l) (sym e)

pub returns-in-Free : goal.returns-in-Free
returns-in-Free c =
    let a = c.args in
    let l : List Rec = recs_in a.node.now in
    ap (sight 0) (c.byte_at.ensures.0 ∙ sym (length-recs a.node.now)) ∙ ⊎_elim (λ e. told e a.party l) (λ e. told e a.party l) c.in-Free.is
