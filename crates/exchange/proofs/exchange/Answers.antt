-- `exchange::exchange` meets its contract: refused by what was asked, or the three calls. Assumes nothing.
use mathlib.Core.Path.{◌∙◌, ap, sym}
use Rattle.rules.specs.Given.{Given}
use Rattle.rules.proofs.Unique.{tells}
use Rattle.exchange.specs.Exchanging.{ExchangeLent, exchanged_told, lending}
use Rattle.std.specs.Prelude.{Result}
use Rattle.std.proofs.lemmas.Result.{err_from_is_err_and}
use Rattle.exchange.specs.declared.Exchanged.{Exchanged}
use Rattle.exchange_ask.specs.declared.Stopped.{Stopped}
use Rattle.exchange.proofs.Exchanging.{goes-ahead, not-ready}
use Rattle.exchange.proofs.Refusing.{is-ready}
use Rattle.exchange.proofs.exchange.Goals as goal

pub returns-in_err-ask : goal.returns-in_err-ask
returns-in_err-ask c =
    let a = c.args in
    let p = err_from_is_err_and c.from_residual.result c.from_residual.ensures.1 in
    tells exchanged_told
    (rw (p.1, p.2) (not-ready (lending a.edition a.unasked.now a.unsent.now a.ties.now a.mtu a.clock a.digest.now a.delta.now a.answers.now) a.publisher.now a.follower.now _ (sym c.ask.ensures ∙ c.in_err-ask.was)))

pub exchange_good-requires : goal.exchange_good-requires
exchange_good-requires c =
    let a = c.args in
    let r = is-ready (lending a.edition a.unasked.now a.unsent.now a.ties.now a.mtu a.clock a.digest.now a.delta.now a.answers.now) a.publisher.now a.follower.now (sym c.ask.ensures ∙ c.in_ok-ask.was) in
    (r.publisher_valid, r.follower_valid)

pub returns : goal.returns
returns c =
    let a = c.args in
    let same = goes-ahead (lending a.edition a.unasked.now a.unsent.now a.ties.now a.mtu a.clock a.digest.now a.delta.now a.answers.now) a.publisher.now a.follower.now (sym c.ask.ensures ∙ c.in_ok-ask.was) in
    let done = c.exchange_good.ensures in
    tells exchanged_told
    (done.0 ∙ ap (λ (o : Given (Result Exchanged Stopped) ExchangeLent). o.answer) (sym same), done.1 ∙ ap (λ (o : Given (Result Exchanged Stopped) ExchangeLent). o.lent) (sym same))
