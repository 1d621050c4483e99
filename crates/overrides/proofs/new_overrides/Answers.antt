-- `overrides::new_overrides` meets its contract: the slice is cleared, and then the number stands in it. Assumes nothing.
use Rattle.rules.specs.Answers.{answer_told}
use Rattle.rules.proofs.Unique.{tells}
use Rattle.overrides.proofs.Calls.{made, not_made}
use Rattle.overrides.proofs.new_overrides.Goals as goal

pub returns-then-overrides-ne-NODE : goal.returns-then-overrides-ne-NODE
returns-then-overrides-ne-NODE c =
    let a = c.args in tells answer_told (not_made a.number a.overrides.now c.if-overrides-ne-NODE.true)

pub returns : goal.returns
returns c =
    let w = c.write_u64 in
    let a = c.args in
    tells answer_told (made a.number a.overrides.now c.if-overrides-ne-NODE.false c.clear.new.s w.new.s c.clear.ensures w.ensures)
