-- `library::good::kev_good_remove_node` meets its contract: the call on a good table, and what its answer tells. Assumes nothing.
use mathlib.Core.Path.{ap, ◌∙◌}
use Rattle.rules.specs.Answers.{answer_told}
use Rattle.rules.specs.Lent.{remove_whole}
use Rattle.std.specs.Prelude.{Err, Result}
use Rattle.rules.specs.declared.Refusal.{Refusal}
use Rattle.rules.specs.declared.Refusal.TheVariants.{BadTable}
use Rattle.table_check.proofs.Entry.{good-whole}
use Rattle.answers.specs.Shown.{number_shown}
use Rattle.library.proofs.good.kev_good_remove_node.Goals as goal

pub returns : goal.returns
returns c =
    let w = c.remove_known in
    let g = good-whole (Err BadTable) (remove_whole c.args.number) c.args.table.now c.requires w.result w.new.table w.ensures.0 w.ensures.1 in
    (c.number.ensures ∙ ap (λ (a : (Result (Unit {0}) Refusal)). number_shown (answer_told a)) g.0, g.1)
