-- `grid_check::numbers_rise` meets its contract: what the library says of each two neighbours. Assumes nothing.
use Rattle.std.proofs.Common.{rules, ltb, take}
use Rattle.std.proofs.lemmas.List.Sorted.{answers_always}
use borrow.Author.Tests.{tests}
use Rattle.grid_check.proofs.Checked.{rising-is}
use Rattle.grid_check.proofs.numbers_rise.Goals as goal

pub returns : goal.returns
returns c =
    let a = c.args in
    rising-is (take a.n a.numbers) c.is_sorted_by.result (c.is_sorted_by.ensures.cases ltb (answers_always _ _ _ (λ f b r q k. search (rules, tests))))
