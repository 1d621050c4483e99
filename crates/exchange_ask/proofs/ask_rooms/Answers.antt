-- `exchange_ask::ask_rooms` meets its contract: the tests are those of the definition, in its order. Assumes nothing.
use mathlib.Core.Path.{◌≡◌, ◌∙◌, sym}
use Rattle.rules.specs.Layout.{decode}
use Rattle.std.proofs.Common.{rules}
use Rattle.std.proofs.lemmas.Result.{err_from_is_err_and}
use Rattle.table.proofs.Tables.{length-decode}
use Rattle.exchange_ask.specs.Asking.{rooms}
use Rattle.exchange_ask.proofs.Asking.{asked-all, no-delta, no-digest-room}
use Rattle.exchange_ask.proofs.Mapped.{mapped-err, mapped-ok}
use Rattle.exchange_ask.specs.declared.Step.TheVariants.{Delta}
use Rattle.exchange_ask.proofs.ask_rooms.Goals as goal

pub returns-then-digest-digest_size : goal.returns-then-digest-digest_size
returns-then-digest-digest_size c =
    let a = c.args in
    no-digest-room a.edition a.unasked.now (rooms a.mtu a.ties a.digest a.delta a.answers) a.profile a.formed (decode a.publisher.now) (decode a.follower.now)
    _ c.digest_size.ensures c.if-digest-digest_size.true

pub returns-in_err-map_err : goal.returns-in_err-map_err
returns-in_err-map_err c =
    let a = c.args in
    let q = mapped-err _ _ _ c.map_err.ensures.cases _ c.in_err-map_err.was in
    let e : c.in_err-map_err.field-0.0 ≡ record { step = Delta; why = q.0 } = search rules in
    let p = err_from_is_err_and c.from_residual.result c.from_residual.ensures.1 in
    rw (p.1, p.2, e)
    (no-delta a.edition a.unasked.now (rooms a.mtu a.ties a.digest a.delta a.answers) a.profile a.formed (decode a.publisher.now) (decode a.follower.now)
    _ c.digest_size.ensures c.if-digest-digest_size.false _ (c.byte_at-nodes.ensures.0 ∙ sym (length-decode a.publisher.now)) _ (sym c.ask.ensures ∙ q.1))

pub returns : goal.returns
returns c =
    let a = c.args in
    asked-all a.edition a.unasked.now (rooms a.mtu a.ties a.digest a.delta a.answers) a.profile a.formed (decode a.publisher.now) (decode a.follower.now)
    _ c.digest_size.ensures c.if-digest-digest_size.false _ (c.byte_at-nodes.ensures.0 ∙ sym (length-decode a.publisher.now))
    (sym c.ask.ensures ∙ mapped-ok _ _ _ c.map_err.ensures.cases _ c.in_ok-map_err.was) _ c.ask_taking.ensures
