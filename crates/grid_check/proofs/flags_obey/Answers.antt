-- `grid_check::flags_obey` meets its contract: each flag is tested. Assumes nothing.
use Rattle.std.proofs.Common.{rules, leb, ◌∙◌}
use Rattle.std.proofs.lemmas.Iterator.{YieldsList-from_slice}
use Rattle.std.proofs.lemmas.Iterator.Search.{all_from_yields_List}
use borrow.Author.Tests.{tests}
use Rattle.grid_check.proofs.Checked.{all-is}
use Rattle.grid_check.proofs.flags_obey.Goals as goal

pub returns : goal.returns
returns c =
    let a = c.args in
    all_from_yields_List (λ f. leb f 1) _ _ c.all.result c.all.ensures.ran (YieldsList-from_slice a.present.now cc) (λ x b q k. search (rules, tests)) ∙ all-is (λ f. leb f 1) a.present.now
