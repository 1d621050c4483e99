-- `exchange::answer_digest` meets its contract: by what computing answers, and then applying. Assumes nothing.
use mathlib.Core.Path.{◌≡◌, ◌∙◌, sym, refl}
use lib.Seq.{length-take-le}
use Rattle.rules.proofs.Told.{same-applied}
use Rattle.std.proofs.Common.{rules}
use Rattle.std.proofs.lemmas.Result.{err_from_is_err_and}
use Rattle.exchange_ask.proofs.Mapped.{mapped-err, mapped-ok}
use Rattle.exchange_ask.specs.declared.Step.TheVariants.{Applying, Delta}
use Rattle.exchange.proofs.Exchanging.{delta-taken, made-within, no-delta}
use Rattle.table.proofs.Wholes.{area-valid}
use Rattle.table_check.proofs.Entry.{area-long}
use Rattle.exchange.proofs.answer_digest.Goals as goal

pub slice_bounds-compute_good-end : goal.slice_bounds-compute_good-end
slice_bounds-compute_good-end c =
    area-long _ refl c.requires

pub compute_good-requires : goal.compute_good-requires
compute_good-requires c =
    area-valid _ c.requires

pub returns-in_err-sent : goal.returns-in_err-sent
returns-in_err-sent c =
    let a = c.args in
    let q = mapped-err _ _ _ c.map_err.ensures.cases _ c.in_err-sent.was in
    let e : c.in_err-sent.field-0.0 ≡ record { step = Delta; why = q.0 } = search rules in
    let p = err_from_is_err_and c.from_residual.result c.from_residual.ensures.1 in
    rw (p.1, p.2, e) (no-delta a.edition a.unsent.now a.ties.now a.mtu a.clock a.told.now a.delta.now a.answers.now a.publisher.now a.follower.now c.requires _ _ c.compute_good.ensures _ q.1)

pub slice_bounds-apply-end : goal.slice_bounds-apply-end
slice_bounds-apply-end c =
    let a = c.args in
    made-within a.edition a.unsent.now a.ties.now a.mtu a.clock a.told.now a.delta.now a.answers.now a.publisher.now a.follower.now c.requires _ _ c.compute_good.ensures _ (mapped-ok _ _ _ c.map_err.ensures.cases _ c.in_ok-sent.was)

pub slice_bounds-apply-end-2 : goal.slice_bounds-apply-end-2
slice_bounds-apply-end-2 c =
    let a = c.args in
    sym (length-take-le _ _ (made-within a.edition a.unsent.now a.ties.now a.mtu a.clock a.told.now a.delta.now a.answers.now a.publisher.now a.follower.now c.requires _ _ c.compute_good.ensures _ (mapped-ok _ _ _ c.map_err.ensures.cases _ c.in_ok-sent.was)))

pub returns-in_err-nodes : goal.returns-in_err-nodes
returns-in_err-nodes c =
    let a = c.args in
    let q = mapped-err _ _ _ c.map_err-2.ensures.cases _ c.in_err-nodes.was in
    let e : c.in_err-nodes.field-0.0 ≡ record { step = Applying; why = q.0.why } = search rules in
    let p = err_from_is_err_and c.from_residual-in_err-nodes.result c.from_residual-in_err-nodes.ensures.1 in
    rw (p.1, p.2, e)
    (delta-taken a.edition a.unsent.now a.ties.now a.mtu a.clock a.told.now a.delta.now a.answers.now a.publisher.now a.follower.now c.requires _ _ c.compute_good.ensures _ (mapped-ok _ _ _ c.map_err.ensures.cases _ c.in_ok-sent.was)
    _ _ _ (sym q.1 ∙ same-applied _ _ c.apply-applied.ensures.0, c.apply-applied.ensures.1))

pub returns : goal.returns
returns c =
    let a = c.args in
    let e = mapped-ok _ _ _ c.map_err-2.ensures.cases _ c.in_ok-nodes.was in
    delta-taken a.edition a.unsent.now a.ties.now a.mtu a.clock a.told.now a.delta.now a.answers.now a.publisher.now a.follower.now c.requires _ _ c.compute_good.ensures _ (mapped-ok _ _ _ c.map_err.ensures.cases _ c.in_ok-sent.was)
    _ _ _ (sym e ∙ same-applied _ _ c.apply-applied.ensures.0, c.apply-applied.ensures.1)
