-- `prefix::list_known` meets its contract: the listing in the area, in the profile of the table. Assumes nothing.
use mathlib.Core.Path.{◌≡◌, refl, sym, subst}
use mathlib.Core.Bool.{true}
use Rattle.rules.specs.Profile.{profile_obeys}
use Rattle.rules.specs.Layout.{decode}
use Rattle.rules.specs.Whole.{area_of}
use Rattle.rules.specs.declared.Profile.{Profile}
use Rattle.table.proofs.Wholes.{area-formed, area-valid, whole_long}
use Rattle.table_check.proofs.Entry.{area-long}
use Rattle.prefix.proofs.Seen.{whole-fills}
use Rattle.prefix.proofs.list_known.Goals as goal

pub profile_of-profile-requires : goal.profile_of-profile-requires
profile_of-profile-requires c =
    whole_long c.args.table.now c.requires

pub slice_bounds-list_seen-end : goal.slice_bounds-list_seen-end
slice_bounds-list_seen-end c =
    area-long _ refl c.requires

pub list_seen-requires : goal.list_seen-requires
list_seen-requires c =
    let l = c.args.table.now in
    (area-valid l c.requires, subst (λ (x : Profile). profile_obeys x (decode (area_of l)) ≡ true) (sym c.profile_of-profile.ensures) (area-formed l c.requires))

pub returns : goal.returns
returns c =
    let a = c.args in
    whole-fills a.table.now c.requires _ c.profile_of-profile.ensures a.party a.number a.prefix.now a.out.now _ _ c.list_seen.ensures
