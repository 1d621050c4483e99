-- `compute::stale_from` meets its contract: excluded, level with the digest, or behind. Assumes nothing.
use Rattle.rules.specs.Layout.{decode}
use Rattle.digest_read.specs.Held.{entries_in}
use Rattle.compute.proofs.Behind.{left_out, level, behind}
use Rattle.compute.proofs.stale_from.Goals as goal

pub returns-then-is_excluded : goal.returns-then-is_excluded
returns-then-is_excluded c =
    let a = c.args in
    left_out a.excluded.now (entries_in a.digest) (decode a.table.now) a.p _ c.number_at-number.ensures _ c.is_excluded.ensures
    c.if-is_excluded.true

pub returns-then-max_at-max : goal.returns-then-max_at-max
returns-then-max_at-max c =
    let a = c.args in
    level a.excluded.now (entries_in a.digest) (decode a.table.now) a.p _ c.number_at-number.ensures _ c.is_excluded.ensures
    c.if-is_excluded.false _ c.told-told.ensures _ c.max_at.ensures c.if-max_at-max.true

pub returns : goal.returns
returns c =
    let a = c.args in
    behind a.excluded.now (entries_in a.digest) (decode a.table.now) a.p _ c.number_at-number.ensures _ c.is_excluded.ensures
    c.if-is_excluded.false _ c.told-told.ensures _ c.max_at.ensures c.if-max_at-max.false _ _ c.last_gc_at.ensures
    c.from_of.ensures
