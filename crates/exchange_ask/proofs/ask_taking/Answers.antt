-- `exchange_ask::ask_taking` meets its contract. Assumes nothing.
use Rattle.exchange_ask.proofs.Asking.{no-answer-room, out-of-form, taken}
use Rattle.exchange_ask.proofs.ask_taking.Goals as goal

pub returns-then-not-formed : goal.returns-then-not-formed
returns-then-not-formed c =
    let a = c.args in
    out-of-form a.profile a.answers a.nodes _ c.odd_number.ensures a.formed c.if-not-formed.true

pub returns-then-answers-nodes : goal.returns-then-answers-nodes
returns-then-answers-nodes c =
    let a = c.args in no-answer-room a.profile a.answers a.nodes a.formed c.if-not-formed.false c.if-answers-nodes.true

pub returns : goal.returns
returns c =
    let a = c.args in taken a.profile a.answers a.nodes a.formed c.if-not-formed.false c.if-answers-nodes.false
