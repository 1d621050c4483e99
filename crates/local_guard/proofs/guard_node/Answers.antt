-- `local_guard::guard_node` meets its contract, call by call. Assumes nothing.
use Rattle.table.specs.Tests.{recs_in}
use Rattle.local_guard.proofs.Guarding.{of-delete, of-delete-after, of-set, of-ttl}
use Rattle.local_guard.proofs.guard_node.Goals as goal

pub returns-in-Setting : goal.returns-in-Setting
returns-in-Setting c =
    let a = c.args in
    of-set a.value.now a.key.now (recs_in a.node.now) _ c.in-Setting.is _ c.guard_write.ensures

pub returns-in-SettingTtl : goal.returns-in-SettingTtl
returns-in-SettingTtl c =
    let a = c.args in
    of-ttl a.value.now a.key.now (recs_in a.node.now) _ c.in-SettingTtl.is _ c.guard_write-in-SettingTtl.ensures

pub returns-in-Deleting : goal.returns-in-Deleting
returns-in-Deleting c =
    let a = c.args in of-delete a.value.now a.key.now (recs_in a.node.now) _ c.in-Deleting.is

pub returns-in-DeletingAfterTtl : goal.returns-in-DeletingAfterTtl
returns-in-DeletingAfterTtl c =
    let a = c.args in of-delete-after a.value.now a.key.now (recs_in a.node.now) _ c.in-DeletingAfterTtl.is
