-- `nodes::remove_known` meets its contract. Assumes nothing.
use mathlib.Core.Path.{refl, sym}
use native.Mathlib.Omega.{arith}
use lib.Seq.{length-take-le}
use Rattle.std.proofs.lemmas.Result.{err_from_is_err_and}
use Rattle.fields.proofs.Lent.{lent}
use Rattle.rules.specs.Memory.{remember}
use Rattle.rules.specs.Layout.{table_width}
use Rattle.rules.specs.Whole.{tail_width}
use Rattle.table.proofs.Wholes.{area-valid, whole_long}
use Rattle.nodes.proofs.Remembering.{came-laid, came-long, lent-long, remove-done, remove-not, tail-back}
use Rattle.nodes.proofs.remove_known.Goals as goal

pub slice_bounds-heartbeat_in-end : goal.slice_bounds-heartbeat_in-end
slice_bounds-heartbeat_in-end c =
    omega (arith, whole_long c.args.table.now c.requires)

pub slice_bounds-heartbeat_in-end-2 : goal.slice_bounds-heartbeat_in-end-2
slice_bounds-heartbeat_in-end-2 c =
    sym (length-take-le table_width c.args.table.now (omega (arith, whole_long c.args.table.now c.requires)))

pub heartbeat_in-beat-requires : goal.heartbeat_in-beat-requires
heartbeat_in-beat-requires c =
    area-valid c.args.table.now c.requires

pub slice_bounds-remove_good-end : goal.slice_bounds-remove_good-end
slice_bounds-remove_good-end c =
    omega (arith, whole_long c.args.table.now c.requires)

pub slice_bounds-remove_good-end-2 : goal.slice_bounds-remove_good-end-2
slice_bounds-remove_good-end-2 c =
    sym (length-take-le table_width c.args.table.now (omega (arith, whole_long c.args.table.now c.requires)))

pub remove_good-requires : goal.remove_good-requires
remove_good-requires c =
    area-valid c.args.table.now c.requires

pub slice_bounds-remember-end : goal.slice_bounds-remember-end
slice_bounds-remember-end c =
    omega (arith, came-long c.args.table.now c.requires _ c.remove_good.new.table c.remove_good.ensures.1)

pub remember-requires : goal.remember-requires
remember-requires c =
    came-laid c.args.table.now c.requires _ c.remove_good.new.table c.remove_good.ensures.1

pub returns : goal.returns
returns c =
    let l = c.args.table.now in
    remove-done l c.requires c.args.number c.remove_good.result c.remove_good.new.table c.remove_good.ensures c.in_ok-remove_good.was c.heartbeat_in-beat.result c.heartbeat_in-beat.ensures _
    (tail-back l c.requires _ c.remove_good.new.table c.remove_good.ensures.1 (remember c.args.number c.heartbeat_in-beat.result) c.remember.new.tail c.remember.ensures _ (lent table_width tail_width _ c.remember.new.tail _ refl (lent-long c.remember.new.tail _ _ c.remember.ensures)))

pub returns-in_err-remove_good : goal.returns-in_err-remove_good
returns-in_err-remove_good c =
    let p = err_from_is_err_and c.from_residual.result c.from_residual.ensures.1 in
    rw (p.1, p.2)
    (remove-not c.args.table.now c.requires c.args.number c.remove_good.result c.remove_good.new.table c.remove_good.ensures _ c.in_err-remove_good.was)
