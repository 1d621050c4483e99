-- `grid_check::empty_from` meets its contract: each place from there on is tested. Assumes nothing.
use Rattle.std.proofs.Common.{rules, eqb, drop, ◌∙◌}
use Rattle.std.proofs.lemmas.Iterator.{YieldsList-from_slice}
use Rattle.std.proofs.lemmas.Iterator.Adapters.{YieldsList-from_skip}
use Rattle.std.proofs.lemmas.Iterator.Search.{all_from_yields_List}
use borrow.Author.Tests.{tests}
use Rattle.grid_check.proofs.Checked.{zero-is}
use Rattle.grid_check.proofs.empty_from.Goals as goal

pub returns : goal.returns
returns c =
    let a = c.args in
    all_from_yields_List (λ x. eqb x 0) _ _ c.all.result c.all.ensures.ran (YieldsList-from_skip a.from (YieldsList-from_slice a.row cc) cc) (λ x b q k. search (rules, tests)) ∙ zero-is (drop a.from a.row)
