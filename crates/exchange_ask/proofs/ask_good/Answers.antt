-- `exchange_ask::ask_good` meets its contract: 20 exactly where there is no such edition. Assumes nothing.
use mathlib.Core.Path.{◌∙◌, sym}
use Rattle.rules.specs.Layout.{decode}
use Rattle.exchange_ask.specs.Asking.{rooms}
use Rattle.exchange_ask.proofs.Asking.{in-edition, no-edition}
use Rattle.exchange_ask.proofs.ask_good.Goals as goal

pub returns-then-not-is_edition : goal.returns-then-not-is_edition
returns-then-not-is_edition c =
    let a = c.args in
    no-edition a.edition a.unasked.now (rooms a.mtu a.ties a.digest a.delta a.answers) a.profile a.formed (decode a.publisher.now) (decode a.follower.now)
    (sym c.is_edition.ensures ∙ c.if-not-is_edition.true)

pub returns : goal.returns
returns c =
    let a = c.args in
    c.ask_rooms.ensures
    ∙ in-edition a.edition a.unasked.now (rooms a.mtu a.ties a.digest a.delta a.answers) a.profile a.formed (decode a.publisher.now) (decode a.follower.now)
    (sym c.is_edition.ensures ∙ c.if-not-is_edition.false)
