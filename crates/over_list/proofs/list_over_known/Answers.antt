-- `over_list::list_over_known` meets its contract: the listing in the area, in the profile of the table. Assumes nothing.
use mathlib.Core.Path.{◌≡◌, refl, sym, subst}
use mathlib.Core.Bool.{true}
use Rattle.rules.specs.Given.{given}
use Rattle.rules.specs.Profile.{profile_obeys}
use Rattle.rules.specs.Layout.{decode_node, decode}
use Rattle.rules.specs.Whole.{area_of, decode_whole}
use Rattle.rules.specs.declared.Profile.{Profile}
use Rattle.rules.specs.declared.Refusal.TheVariants.{BadTable}
use Rattle.table.proofs.Wholes.{area-formed, area-valid, whole_long}
use Rattle.table_check.proofs.Entry.{area-long}
use Rattle.overrides.proofs.Both.{good-both-fills}
use Rattle.over_list.specs.Merged.{list_over}
use Rattle.std.specs.Prelude.{Err}
use Rattle.over_list.proofs.Listed.{profile-fills}
use Rattle.over_list.proofs.list_over_known.Goals as goal

pub profile_of-profile-requires : goal.profile_of-profile-requires
profile_of-profile-requires c =
    whole_long c.args.table.now c.requires.1

pub slice_bounds-list_over_seen-end : goal.slice_bounds-list_over_seen-end
slice_bounds-list_over_seen-end c =
    area-long _ refl c.requires.1

pub list_over_seen-requires : goal.list_over_seen-requires
list_over_seen-requires c =
    let l = c.args.table.now in
    (c.requires.0, area-valid l c.requires.1, subst (λ (x : Profile). profile_obeys x (decode (area_of l)) ≡ true) (sym c.profile_of-profile.ensures) (area-formed l c.requires.1))

pub returns : goal.returns
returns c =
    let a = c.args in
    good-both-fills (λ w. given (Err (record { which = w; why = BadTable })) a.out.now) (list_over (decode_whole a.table.now).kind.profile a.party a.number a.prefix.now a.out.now)
    a.overrides.now a.table.now refl c.requires.0 refl c.requires.1 _ _
    (profile-fills c.profile_of-profile.ensures a.party a.number a.prefix.now a.out.now (decode_node a.overrides.now).node (decode (area_of a.table.now)) _ _ c.list_over_seen.ensures)
