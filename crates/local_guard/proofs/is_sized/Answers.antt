-- `local_guard::is_sized` meets its contract, call by call. Assumes nothing.
use mathlib.Core.Path.{ap, sym, ◌∙◌}
use lib.Dec.{leb}
use lib.ListN.{length}
use Rattle.rules.specs.Node.{brought}
use Rattle.rules.specs.Sizes.{max_value}
use Rattle.local_node.specs.Writes.{call_of}
use Rattle.local_node.specs.declared.Kind.{Kind}
use Rattle.local_guard.proofs.Sharing.{by_value, key-too-long}
use Rattle.local_guard.proofs.is_sized.Goals as goal

pub returns-then-key-gt-KEY : goal.returns-then-key-gt-KEY
returns-then-key-gt-KEY c =
    let a = c.args in key-too-long (call_of a.kind a.value.now 0) a.key.now c.if-key-gt-KEY.true

pub returns-in-Setting : goal.returns-in-Setting
returns-in-Setting c =
    let a = c.args in
    sym (ap (λ (x : Kind). leb (length (brought (call_of x a.value.now 0))) max_value) c.in-Setting.is) ∙ by_value (call_of a.kind a.value.now 0) a.key.now c.if-key-gt-KEY.false

pub returns-in-SettingTtl : goal.returns-in-SettingTtl
returns-in-SettingTtl c =
    let a = c.args in
    sym (ap (λ (x : Kind). leb (length (brought (call_of x a.value.now 0))) max_value) c.in-SettingTtl.is) ∙ by_value (call_of a.kind a.value.now 0) a.key.now c.if-key-gt-KEY.false

pub returns-in-Deleting : goal.returns-in-Deleting
returns-in-Deleting c =
    let a = c.args in
    sym (ap (λ (x : Kind). leb (length (brought (call_of x a.value.now 0))) max_value) c.in-Deleting.is) ∙ by_value (call_of a.kind a.value.now 0) a.key.now c.if-key-gt-KEY.false

pub returns-in-DeletingAfterTtl : goal.returns-in-DeletingAfterTtl
returns-in-DeletingAfterTtl c =
    let a = c.args in
    sym (ap (λ (x : Kind). leb (length (brought (call_of x a.value.now 0))) max_value) c.in-DeletingAfterTtl.is) ∙ by_value (call_of a.kind a.value.now 0) a.key.now c.if-key-gt-KEY.false
