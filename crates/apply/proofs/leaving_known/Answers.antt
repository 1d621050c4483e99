-- `apply::leaving_known` meets its contract: by the delta's verdict in the table's profile and the places for the answers. Assumes nothing.
use Prim.Native.Nat.{ℕ}
use mathlib.Core.List.{List}
use mathlib.Core.Path.{◌≡◌, ap, sym, ◌∙◌}
use native.Mathlib.Omega.{arith}
use lib.Seq.{length-take-le}
use Rattle.rules.specs.Layout.{table_width}
use Rattle.rules.specs.Whole.{decode_whole}
use Rattle.rules.specs.declared.DeltaFault.{DeltaFault}
use Rattle.rules.specs.declared.DeltaRead.{DeltaRead}
use Rattle.rules.specs.declared.Profile.{Profile}
use Rattle.std.specs.Prelude.{Result}
use Rattle.std.proofs.lemmas.Result.{err_from_is_err_and}
use Rattle.table.proofs.Wholes.{area-valid, whole_long}
use Rattle.delta_form.specs.Forming.{delta_read_as}
use Rattle.apply.proofs.Applied.{at-fault, no-places, accepted, heads-found, applied-all, plainly}
use Rattle.apply.proofs.leaving_known.Goals as goal

-- the delta is read in the table's profile
said : (l delta : List ℕ) (p : Profile) (r s : Result DeltaRead DeltaFault) → r ≡ delta_read_as p delta → p ≡ (decode_whole l).kind.profile → r ≡ s
    → delta_read_as (decode_whole l).kind.profile delta ≡ s
said l delta p r s e q h = ap (λ (x : Profile). delta_read_as x delta) (sym q) ∙ sym e ∙ h

pub profile_of-profile-requires : goal.profile_of-profile-requires
profile_of-profile-requires c =
    whole_long c.args.table.now c.requires

pub read_as-requires : goal.read_as-requires
read_as-requires c =
    c.read_heads-heads.ensures.0

pub returns-in_err-read : goal.returns-in_err-read
returns-in_err-read c =
    let a = c.args in
    let p = err_from_is_err_and c.from_residual.result c.from_residual.ensures.1 in
    rw (p.1, p.2)
    (at-fault a.own.now a.delta.now a.clock a.answers.now a.table.now c.requires _ (said _ _ _ _ _ c.read_as.ensures c.profile_of-profile.ensures c.in_err-read.was))

pub returns-then-answers-nodes : goal.returns-then-answers-nodes
returns-then-answers-nodes c =
    let a = c.args in
    no-places a.own.now a.delta.now a.clock a.answers.now a.table.now c.requires _
    (said _ _ _ _ _ c.read_as.ensures c.profile_of-profile.ensures c.in_ok-read.was) c.if-answers-nodes.true

pub mode_of-mode-requires : goal.mode_of-mode-requires
mode_of-mode-requires c =
    whole_long c.args.table.now c.requires

pub slice_bounds-apply_each_leaving-end : goal.slice_bounds-apply_each_leaving-end
slice_bounds-apply_each_leaving-end c =
    omega (arith, whole_long c.args.table.now c.requires)

pub slice_bounds-apply_each_leaving-end-2 : goal.slice_bounds-apply_each_leaving-end-2
slice_bounds-apply_each_leaving-end-2 c =
    sym (length-take-le table_width c.args.table.now (omega (arith, whole_long c.args.table.now c.requires)))

pub apply_each_leaving-requires : goal.apply_each_leaving-requires
apply_each_leaving-requires c =
    let a = c.args in
    let e =
    plainly a.own.now a.delta.now a.clock a.answers.now a.table.now c.requires _
    (said _ _ _ _ _ c.read_as.ensures c.profile_of-profile.ensures c.in_ok-read.was) in (
      area-valid a.table.now c.requires,
      (accepted a.delta.now _ e).0,
      heads-found a.delta.now _ e c.read_heads-heads.result c.read_heads-heads.ensures.1,
      c.if-answers-nodes.false,
    )

pub returns : goal.returns
returns c =
    let a = c.args in
    applied-all a.own.now a.delta.now a.clock a.answers.now a.table.now c.requires _
    (said _ _ _ _ _ c.read_as.ensures c.profile_of-profile.ensures c.in_ok-read.was)
    c.if-answers-nodes.false _ c.mode_of-mode.ensures _ c.profile_of-profile.ensures _ _ c.apply_each_leaving.ensures
