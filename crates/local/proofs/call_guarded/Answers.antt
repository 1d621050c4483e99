-- `local::call_guarded` meets its contract: what the table's profile refuses, or the call on its area. Assumes nothing.
use mathlib.Core.Bool.{true}
use mathlib.Core.Path.{◌≡◌, sym, subst, ◌∙◌}
use native.Mathlib.Omega.{arith}
use lib.Seq.{length-take-le}
use Rattle.rules.specs.Layout.{decode, table_width}
use Rattle.rules.specs.Profile.{profile_obeys}
use Rattle.rules.specs.Whole.{area_of}
use Rattle.rules.specs.declared.Profile.{Profile}
use Rattle.std.proofs.lemmas.Result.{err_from_is_err_and}
use Rattle.table.proofs.Wholes.{area-formed, area-valid, whole_long}
use Rattle.local_node.specs.Writes.{call_of}
use Rattle.local.proofs.Called.{guard_passed, guard-refused, guard-says, passed, refused}
use Rattle.local.proofs.call_guarded.Goals as goal

pub profile_of-profile-requires : goal.profile_of-profile-requires
profile_of-profile-requires c =
    whole_long c.args.table.now c.requires

pub slice_bounds-guard-end : goal.slice_bounds-guard-end
slice_bounds-guard-end c =
    omega (arith, whole_long c.args.table.now c.requires)

pub slice_bounds-guard-end-2 : goal.slice_bounds-guard-end-2
slice_bounds-guard-end-2 c =
    sym (length-take-le table_width c.args.table.now (omega (arith, whole_long c.args.table.now c.requires)))

pub guard-requires : goal.guard-requires
guard-requires c =
    let l = c.args.table.now in
    (area-valid l c.requires, subst (λ (p : Profile). profile_obeys p (decode (area_of l)) ≡ true) (sym c.profile_of-profile.ensures) (area-formed l c.requires))

pub slice_bounds-call_good-end : goal.slice_bounds-call_good-end
slice_bounds-call_good-end c =
    omega (arith, whole_long c.args.table.now c.requires)

pub slice_bounds-call_good-end-2 : goal.slice_bounds-call_good-end-2
slice_bounds-call_good-end-2 c =
    sym (length-take-le table_width c.args.table.now (omega (arith, whole_long c.args.table.now c.requires)))

pub call_good-requires : goal.call_good-requires
call_good-requires c =
    area-valid c.args.table.now c.requires

pub returns : goal.returns
returns c =
    let a = c.args in
    let w = c.call_good in
    passed (call_of a.kind a.value.now a.clock) a.number a.key.now a.table.now c.requires a.party
    (guard_passed _ (sym c.in_ok-guard.was ∙ guard-says a.kind a.value.now a.clock a.number a.key.now a.table.now a.party c.profile_of-profile.ensures c.guard.ensures)) w.result w.new.table w.ensures

pub returns-in_err-guard : goal.returns-in_err-guard
returns-in_err-guard c =
    let a = c.args in
    let p = err_from_is_err_and c.from_residual.result c.from_residual.ensures.1 in
    rw (p.1, p.2)
    (refused (call_of a.kind a.value.now a.clock) a.number a.key.now a.table.now c.requires a.party _
    (guard-refused _ _ (sym c.in_err-guard.was ∙ guard-says a.kind a.value.now a.clock a.number a.key.now a.table.now a.party c.profile_of-profile.ensures c.guard.ensures)))
