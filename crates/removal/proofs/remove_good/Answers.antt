-- `removal::remove_good` meets its contract: no version passes the bound. Assumes nothing.
use mathlib.Core.Path.{ap, ◌∙◌}
use Rattle.rules.specs.Layout.{decode, encode}
use Rattle.table.proofs.Tables.{valid-laid}
use Rattle.removal.proofs.Within.{plain-within}
use Rattle.removal.proofs.remove_good.Goals as goal

pub returns : goal.returns
returns c =
    let a = c.args in
    c.remove_within.ensures ∙ ap encode (plain-within a.clock a.grace (decode a.table.now) (valid-laid a.table.now c.requires).fits)
