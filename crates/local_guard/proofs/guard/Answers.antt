-- `local_guard::guard` meets its contract. Assumes nothing.
use mathlib.Core.Bool.{true}
use mathlib.Core.Path.{◌≡◌, ◌∙◌, ap, sym, subst}
use Rattle.rules.specs.Layout.{decode}
use Rattle.rules.specs.Profile.{guard_in, profile_obeys}
use Rattle.rules.specs.Table.{node_of}
use Rattle.rules.specs.declared.Profile.{Profile}
use Rattle.local_node.specs.Writes.{call_of}
use Rattle.local_guard.specs.Guarding.{guarded_by}
use Rattle.local_guard.proofs.Guarding.{any-party}
use Rattle.local_guard.proofs.guard.Goals as goal

pub guard_meter-requires : goal.guard_meter-requires
guard_meter-requires c =
    (c.requires.0, subst (λ (p : Profile). profile_obeys p (decode c.args.table.now) ≡ true) c.in-Meter.is c.requires.1)

pub guard_shared-requires : goal.guard_shared-requires
guard_shared-requires c =
    (c.requires.0, subst (λ (p : Profile). profile_obeys p (decode c.args.table.now) ≡ true) c.in-Shared.is c.requires.1)

pub returns-in-Free : goal.returns-in-Free
returns-in-Free c =
    let a = c.args in
    sym (ap (λ (p : Profile). guarded_by (guard_in p a.party (call_of a.kind a.value.now 0) a.key.now (node_of a.number (decode a.table.now)))) c.in-Free.is)

pub returns-in-Meter : goal.returns-in-Meter
returns-in-Meter c =
    let a = c.args in
    let o = node_of a.number (decode a.table.now) in
    c.guard_meter.ensures
    ∙ ap guarded_by (any-party a.party (call_of a.kind a.value.now 0) a.key.now o)
    ∙ sym (ap (λ (p : Profile). guarded_by (guard_in p a.party (call_of a.kind a.value.now 0) a.key.now o)) c.in-Meter.is)

pub returns-in-Shared : goal.returns-in-Shared
returns-in-Shared c =
    let a = c.args in
    c.guard_shared.ensures
    ∙ sym (ap (λ (p : Profile). guarded_by (guard_in p a.party (call_of a.kind a.value.now 0) a.key.now (node_of a.number (decode a.table.now)))) c.in-Shared.is)
