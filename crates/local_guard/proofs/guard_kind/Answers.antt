-- `local_guard::guard_kind` meets its contract, call by call. Assumes nothing.
use mathlib.Core.List.{[]}
use mathlib.Core.Path.{ap, sym, ◌∙◌}
use Rattle.rules.specs.Node.{find}
use Rattle.rules.specs.Party.{own}
use Rattle.rules.specs.Profile.{brings, full_guard}
use Rattle.rules.specs.declared.Status.TheVariants.{Set, Ttl}
use Rattle.table.specs.Tests.{recs_in}
use Rattle.local_node.specs.Writes.{call_of}
use Rattle.local_node.specs.declared.Kind.{Kind}
use Rattle.local_guard.specs.Guarding.{bringing, guarded_by}
use Rattle.local_guard.proofs.Sharing.{any-record}
use Rattle.local_guard.proofs.guard_kind.Goals as goal

pub returns-in-Setting : goal.returns-in-Setting
returns-in-Setting c =
    let a = c.args in
    let l = recs_in a.node.now in
    c.guard_own.ensures
    ∙ ap guarded_by (any-record (own a.party) (bringing a.key.now [] Set) (bringing a.key.now a.value.now Set) (find a.key.now l) l)
    ∙ sym (ap (λ (x : Kind). guarded_by (full_guard (own a.party) (brings (call_of x a.value.now 0) a.key.now) (find a.key.now l) l)) c.in-Setting.is)

pub returns-in-SettingTtl : goal.returns-in-SettingTtl
returns-in-SettingTtl c =
    let a = c.args in
    let l = recs_in a.node.now in
    c.guard_own-in-SettingTtl.ensures
    ∙ ap guarded_by (any-record (own a.party) (bringing a.key.now [] Set) (bringing a.key.now a.value.now Ttl) (find a.key.now l) l)
    ∙ sym (ap (λ (x : Kind). guarded_by (full_guard (own a.party) (brings (call_of x a.value.now 0) a.key.now) (find a.key.now l) l)) c.in-SettingTtl.is)
