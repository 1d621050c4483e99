-- `local::call_let` meets its contract: the call on the table's area. Assumes nothing.
use mathlib.Core.Path.{sym}
use native.Mathlib.Omega.{arith}
use lib.Seq.{length-take-le}
use Rattle.rules.specs.Layout.{table_width}
use Rattle.table.proofs.Wholes.{area-valid, whole_long}
use Rattle.local_node.specs.Writes.{call_of}
use Rattle.local.proofs.Called.{on-whole}
use Rattle.local.proofs.call_let.Goals as goal

pub slice_bounds-call_good-end : goal.slice_bounds-call_good-end
slice_bounds-call_good-end c =
    omega (arith, whole_long c.args.table.now c.requires)

pub slice_bounds-call_good-end-2 : goal.slice_bounds-call_good-end-2
slice_bounds-call_good-end-2 c =
    sym (length-take-le table_width c.args.table.now (omega (arith, whole_long c.args.table.now c.requires)))

pub call_good-requires : goal.call_good-requires
call_good-requires c =
    area-valid c.args.table.now c.requires

pub returns : goal.returns
returns c =
    let w = c.call_good in
    let a = c.args in
    on-whole (call_of a.kind a.value.now a.clock) a.number a.key.now a.table.now c.requires w.result w.new.table w.ensures
