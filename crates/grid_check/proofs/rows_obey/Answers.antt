-- `grid_check::rows_obey` meets its contract: each row is tested beside its flag. Assumes nothing.
use Rattle.std.proofs.Common.{rules, eqb, drop, ◌∙◌}
use Rattle.std.proofs.lemmas.Iterator.{YieldsList-from_slice, YieldsList-from_zip}
use Rattle.std.proofs.lemmas.Iterator.Search.{all_from_yields_List}
use borrow.Author.Tests.{tests}
use Rattle.fields.specs.Choice.{pick}
use Rattle.fields.specs.Blocks.{all_zero}
use Rattle.grid_check.proofs.Checked.{rows_is}
use Rattle.grid_check.proofs.rows_obey.Goals as goal

pub returns : goal.returns
returns c =
    let a = c.args in
    all_from_yields_List (λ r. all_zero (drop (pick (eqb r.0 1) a.count 0) r.1)) c.all.new.self _ c.all.result c.all.ensures.ran (YieldsList-from_zip (YieldsList-from_slice a.present.now cc) (YieldsList-from_slice a.rows cc)) (λ x b q k. search (rules, tests))
    ∙ rows_is a.count a.present.now a.rows
