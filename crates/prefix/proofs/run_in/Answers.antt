-- `prefix::run_in` meets its contract: the run in all rows, brought into the piece. Assumes nothing.
use native.Mathlib.Omega.{arith}
use Rattle.prefix.proofs.Run.{run_in}
use Rattle.prefix.proofs.run_in.Goals as goal

pub overflow_add-top : goal.overflow_add-top
overflow_add-top c =
    omega (arith, c.requires.2, c.requires.0.few)

pub brought_in-requires : goal.brought_in-requires
brought_in-requires c =
    omega arith

pub brought_in-requires-2 : goal.brought_in-requires-2
brought_in-requires-2 c =
    omega arith

pub returns : goal.returns
returns c =
    run_in c.args.prefix.now c.args.node.now _ _ c.args.low _ (omega arith) c.requires.2 c.run_start-first.ensures c.run_end-end.ensures _ _
    c.brought_in.ensures c.brought_in-2.ensures
