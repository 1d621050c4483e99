-- `nodes::add_known` meets its contract. Assumes nothing.
use mathlib.Core.Path.{refl, sym}
use native.Mathlib.Omega.{arith}
use lib.Seq.{length-take-le}
use Rattle.std.proofs.lemmas.Result.{err_from_is_err_and}
use Rattle.fields.proofs.Lent.{lent}
use Rattle.rules.specs.Memory.{forget}
use Rattle.rules.specs.Layout.{table_width}
use Rattle.rules.specs.Whole.{tail_width}
use Rattle.table.proofs.Wholes.{area-valid, whole_long}
use Rattle.nodes.proofs.Remembering.{add_done, add-not, came-laid, came-long, lent-long, tail-back}
use Rattle.nodes.proofs.add_known.Goals as goal

pub slice_bounds-add_good-end : goal.slice_bounds-add_good-end
slice_bounds-add_good-end c =
    omega (arith, whole_long c.args.table.now c.requires)

pub slice_bounds-add_good-end-2 : goal.slice_bounds-add_good-end-2
slice_bounds-add_good-end-2 c =
    sym (length-take-le table_width c.args.table.now (omega (arith, whole_long c.args.table.now c.requires)))

pub add_good-requires : goal.add_good-requires
add_good-requires c =
    area-valid c.args.table.now c.requires

pub slice_bounds-forget-end : goal.slice_bounds-forget-end
slice_bounds-forget-end c =
    omega (arith, came-long c.args.table.now c.requires _ c.add_good.new.table c.add_good.ensures.1)

pub forget-requires : goal.forget-requires
forget-requires c =
    came-laid c.args.table.now c.requires _ c.add_good.new.table c.add_good.ensures.1

pub returns : goal.returns
returns c =
    let l = c.args.table.now in
    add_done l c.requires c.args.number c.add_good.result c.add_good.new.table c.add_good.ensures c.in_ok-add_good.was _
    (tail-back l c.requires _ c.add_good.new.table c.add_good.ensures.1 (forget c.args.number) c.forget.new.tail c.forget.ensures _ (lent table_width tail_width _ c.forget.new.tail _ refl (lent-long c.forget.new.tail _ _ c.forget.ensures)))

pub returns-in_err-add_good : goal.returns-in_err-add_good
returns-in_err-add_good c =
    let p = err_from_is_err_and c.from_residual.result c.from_residual.ensures.1 in
    rw (p.1, p.2)
    (add-not c.args.table.now c.requires c.args.number c.add_good.result c.add_good.new.table c.add_good.ensures _ c.in_err-add_good.was)
