-- `apply_node::take_record` meets its contract: the record is stored, or skipped. Assumes nothing.
use mathlib.Core.Path.{sym, ◌∙◌}
use Rattle.apply_node.proofs.Taken.{took, passed}
use Rattle.apply_node.proofs.take_record.Goals as goal

pub returns-then-takes : goal.returns-then-takes
returns-then-takes c =
    let a = c.args in
    took a.delta.now a.node.now _ _ a.keyat a.keylen a.valueat a.valuelen a.version a.status a.held a.last_gc a.clock _ (sym c.takes.ensures ∙ c.if-takes.true) c.start_of-start.ensures c.store_record.ensures

pub returns : goal.returns
returns c =
    passed c.args.delta.now _ _ _ _ _ _ _ _ _ _ c.requires.0 (sym c.takes.ensures ∙ c.if-takes.false)
