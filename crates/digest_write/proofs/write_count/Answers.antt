-- A count is put in front where the edition has one. Assumes nothing.
use mathlib.Core.Path.{◌∙◌}
use native.Mathlib.Omega.{arith}
use Rattle.digest_write.proofs.Outcomes.{counted, head-counted, uncounted}
use Rattle.digest_write.proofs.write_count.Goals as goal

-- A count is put in front where the edition has one. Assumes nothing.
pub write_u16-requires : goal.write_u16-requires
write_u16-requires c =
    let e = head-counted c.args.edition c.if-edition-eq-V0.true in
    let h = c.requires in
    omega arith

pub returns-then-edition-eq-V0 : goal.returns-then-edition-eq-V0
returns-then-edition-eq-V0 c =
    let a = c.args in
    c.write_u16.ensures ∙ counted a.edition c.if-edition-eq-V0.true a.count a.datagram.now

pub returns-else-edition-eq-V0 : goal.returns-else-edition-eq-V0
returns-else-edition-eq-V0 c =
    let a = c.args in uncounted a.edition c.if-edition-eq-V0.false a.count a.datagram.now
