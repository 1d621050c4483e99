-- `local_guard::guard_party` meets its contract: sizes, whose the key is, then the write. Assumes nothing.
use Rattle.table.specs.Tests.{recs_in}
use Rattle.local_node.specs.Writes.{call_of}
use Rattle.local_guard.proofs.Sharing.{its_own, others, too_long}
use Rattle.local_guard.proofs.guard_party.Goals as goal

pub returns : goal.returns
returns c =
    let a = c.args in
    its_own a.party (call_of a.kind a.value.now 0) a.key.now (recs_in a.node.now) c.is_sized.ensures c.if-not-is_sized.false c.owns.ensures c.if-not-owns.false _ c.guard_kind.ensures

pub returns-then-not-owns : goal.returns-then-not-owns
returns-then-not-owns c =
    let a = c.args in
    others a.party (call_of a.kind a.value.now 0) a.key.now (recs_in a.node.now) c.is_sized.ensures c.if-not-is_sized.false c.owns.ensures c.if-not-owns.true

pub returns-then-not-is_sized : goal.returns-then-not-is_sized
returns-then-not-is_sized c =
    let a = c.args in
    too_long a.party (call_of a.kind a.value.now 0) a.key.now (recs_in a.node.now) c.is_sized.ensures c.if-not-is_sized.true
