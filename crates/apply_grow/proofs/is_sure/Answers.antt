-- `apply_grow::is_sure` meets its contract: document 01's room, then the profile's. Assumes nothing.
use mathlib.Core.Bool.{true}
use mathlib.Core.Path.{ap, sym, ◌∙◌}
use Rattle.rules.specs.declared.Profile.{Profile}
use Rattle.table.specs.Tests.{recs_in}
use Rattle.apply_grow.specs.Growing.{fit_for}
use Rattle.apply_grow.proofs.Room.{sure, not-sure}
use Rattle.apply_grow.proofs.is_sure.Goals as goal

pub returns-in-Free : goal.returns-in-Free
returns-in-Free c =
    let a = c.args in
    sure a.node.now c.requires _ c.byte_at-free.ensures.0 a.profile a.count c.if-count-free.true true (sym (ap (λ (p : Profile). fit_for p a.count (recs_in a.node.now)) c.in-Free.is))

pub returns-in-Meter : goal.returns-in-Meter
returns-in-Meter c =
    let a = c.args in
    sure a.node.now c.requires _ c.byte_at-free.ensures.0 a.profile a.count c.if-count-free.true true (sym (ap (λ (p : Profile). fit_for p a.count (recs_in a.node.now)) c.in-Meter.is))

pub returns-in-Shared : goal.returns-in-Shared
returns-in-Shared c =
    let a = c.args in
    sure a.node.now c.requires _ c.byte_at-free.ensures.0 a.profile a.count c.if-count-free.true _
    (c.each_has_room_for.ensures ∙ sym (ap (λ (p : Profile). fit_for p a.count (recs_in a.node.now)) c.in-Shared.is))

pub returns : goal.returns
returns c =
    let a = c.args in
    not-sure a.node.now c.requires _ c.byte_at-free.ensures.0 a.profile a.count c.if-count-free.false
