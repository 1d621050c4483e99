-- `compute::from_of` meets its contract, case by case. Assumes nothing.
use Rattle.compute.proofs.Behind.{gc-told, gc-reached, gc-missed}
use Rattle.compute.proofs.from_of.Goals as goal

pub returns-then-own_last_gc-last_gc : goal.returns-then-own_last_gc-last_gc
returns-then-own_last_gc-last_gc c =
    let a = c.args in gc-told a.own_last_gc a.last_gc a.max c.if-own_last_gc-last_gc.true

pub returns-then-own_last_gc-max : goal.returns-then-own_last_gc-max
returns-then-own_last_gc-max c =
    let a = c.args in gc-reached a.own_last_gc a.last_gc a.max c.if-own_last_gc-last_gc.false c.if-own_last_gc-max.true

pub returns : goal.returns
returns c =
    let a = c.args in gc-missed a.own_last_gc a.last_gc a.max c.if-own_last_gc-last_gc.false c.if-own_last_gc-max.false
