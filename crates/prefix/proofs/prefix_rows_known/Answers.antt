-- `prefix::prefix_rows_known` meets its contract: the reading in the area, in the profile of the table. Assumes nothing.
use mathlib.Core.Path.{◌≡◌, refl, ap, sym, ◌∙◌, subst}
use mathlib.Core.Bool.{true}
use Rattle.rules.specs.Profile.{profile_obeys}
use Rattle.rules.specs.Layout.{decode}
use Rattle.rules.specs.Whole.{area_of, decode_whole}
use Rattle.rules.specs.declared.Profile.{Profile}
use Rattle.rules.specs.declared.Refusal.TheVariants.{BadTable}
use Rattle.std.specs.Prelude.{Err}
use Rattle.table.proofs.Wholes.{area-formed, area-valid, whole_long}
use Rattle.table_read.proofs.Entry.{read-good}
use Rattle.table_check.proofs.Entry.{area-long}
use Rattle.prefix.specs.Rows.{prefix_rows_as}
use Rattle.prefix.proofs.prefix_rows_known.Goals as goal

pub profile_of-profile-requires : goal.profile_of-profile-requires
profile_of-profile-requires c =
    whole_long c.args.table.now c.requires

pub slice_bounds-rows_seen-end : goal.slice_bounds-rows_seen-end
slice_bounds-rows_seen-end c =
    area-long _ refl c.requires

pub rows_seen-requires : goal.rows_seen-requires
rows_seen-requires c =
    let l = c.args.table.now in
    (area-valid l c.requires, subst (λ (x : Profile). profile_obeys x (decode (area_of l)) ≡ true) (sym c.profile_of-profile.ensures) (area-formed l c.requires))

pub returns : goal.returns
returns c =
    let a = c.args in
    read-good (Err BadTable) (prefix_rows_as (decode_whole a.table.now).kind.profile a.party a.number a.prefix.now) a.table.now refl c.requires _
    (c.rows_seen.ensures ∙ ap (λ (x : Profile). prefix_rows_as x a.party a.number a.prefix.now (decode (area_of a.table.now))) c.profile_of-profile.ensures)
