-- `exchange::exchange_good` meets its contract: by what the digest's writing answers, and then the publisher. Assumes nothing.
use mathlib.Core.Path.{◌≡◌, sym, refl}
use lib.Seq.{length-take-le}
use Rattle.exchange.specs.Exchanging.{lending}
use Rattle.std.proofs.Common.{rules}
use Rattle.std.proofs.lemmas.Result.{err_from_is_err_and}
use Rattle.exchange_ask.proofs.Mapped.{mapped-err, mapped-ok}
use Rattle.exchange_ask.specs.declared.Step.TheVariants.{Digest}
use Rattle.exchange.proofs.Exchanging.{answered, no-digest, told-within}
use Rattle.table.proofs.Wholes.{area-valid}
use Rattle.table_check.proofs.Entry.{area-within, area-long}
use Rattle.exchange.proofs.exchange_good.Goals as goal

pub slice_bounds-write_good-end : goal.slice_bounds-write_good-end
slice_bounds-write_good-end c =
    area-within _ refl c.requires.1

pub slice_bounds-write_good-end-2 : goal.slice_bounds-write_good-end-2
slice_bounds-write_good-end-2 c =
    area-long _ refl c.requires.1

pub write_good-written-requires : goal.write_good-written-requires
write_good-written-requires c =
    area-valid _ c.requires.1

pub returns-in_err-n : goal.returns-in_err-n
returns-in_err-n c =
    let a = c.args in
    let q = mapped-err _ _ _ c.map_err.ensures.cases _ c.in_err-n.was in
    let e : c.in_err-n.field-0.0 ≡ record { step = Digest; why = q.0 } = search rules in
    let p = err_from_is_err_and c.from_residual.result c.from_residual.ensures.1 in
    rw (p.1, p.2, e) (no-digest (lending a.edition a.unasked.now a.unsent.now a.ties.now a.mtu a.clock a.digest.now a.delta.now a.answers.now) a.publisher.now a.follower.now c.requires.1 _ _ c.write_good-written.ensures _ q.1)

pub slice_bounds-answer_digest-end : goal.slice_bounds-answer_digest-end
slice_bounds-answer_digest-end c =
    let a = c.args in
    told-within (lending a.edition a.unasked.now a.unsent.now a.ties.now a.mtu a.clock a.digest.now a.delta.now a.answers.now) a.publisher.now a.follower.now c.requires.1 _ _ c.write_good-written.ensures _ (mapped-ok _ _ _ c.map_err.ensures.cases _ c.in_ok-n.was)

pub slice_bounds-answer_digest-end-2 : goal.slice_bounds-answer_digest-end-2
slice_bounds-answer_digest-end-2 c =
    let a = c.args in
    sym (length-take-le _ _ (told-within (lending a.edition a.unasked.now a.unsent.now a.ties.now a.mtu a.clock a.digest.now a.delta.now a.answers.now) a.publisher.now a.follower.now c.requires.1 _ _ c.write_good-written.ensures _ (mapped-ok _ _ _ c.map_err.ensures.cases _ c.in_ok-n.was)))

pub answer_digest-requires : goal.answer_digest-requires
answer_digest-requires c =
    c.requires.0

pub returns : goal.returns
returns c =
    let a = c.args in
    answered (lending a.edition a.unasked.now a.unsent.now a.ties.now a.mtu a.clock a.digest.now a.delta.now a.answers.now) a.publisher.now a.follower.now c.requires.1 _ _ c.write_good-written.ensures _ (mapped-ok _ _ _ c.map_err.ensures.cases _ c.in_ok-n.was)
    _ _ _ _ c.answer_digest.ensures
