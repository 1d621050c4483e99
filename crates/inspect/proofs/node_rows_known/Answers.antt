-- `inspect::node_rows_known` meets its contract: the reading in the table's area, in its profile. Assumes nothing.
use mathlib.Core.Path.{◌≡◌, refl, ap, sym, subst, ◌∙◌}
use mathlib.Core.Bool.{true}
use Rattle.rules.specs.Profile.{profile_obeys}
use Rattle.rules.specs.Layout.{decode}
use Rattle.rules.specs.Whole.{area_of}
use Rattle.rules.specs.declared.Profile.{Profile}
use Rattle.table.proofs.Wholes.{whole_long, area-valid, area-formed}
use Rattle.table_check.proofs.Entry.{area-long}
use Rattle.inspect.specs.Look.{node_rows_as}
use Rattle.inspect.proofs.node_rows_known.Goals as goal

pub profile_of-profile-requires : goal.profile_of-profile-requires
profile_of-profile-requires c =
    whole_long c.args.table.now c.requires

pub slice_bounds-node_rows_as-end : goal.slice_bounds-node_rows_as-end
slice_bounds-node_rows_as-end c =
    area-long c.args.table.now (sym c.requires) refl

pub node_rows_as-requires : goal.node_rows_as-requires
node_rows_as-requires c =
    let l = c.args.table.now in (
      area-valid l c.requires,
      subst (λ (p : Profile). profile_obeys p (decode (area_of l)) ≡ true) (sym c.profile_of-profile.ensures) (area-formed l c.requires),
    )

pub returns : goal.returns
returns c =
    let a = c.args in
    c.node_rows_as.ensures ∙ ap (λ (p : Profile). node_rows_as p a.party a.number (decode (area_of a.table.now))) c.profile_of-profile.ensures
