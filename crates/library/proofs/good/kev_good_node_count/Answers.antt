-- `library::good::kev_good_node_count` meets its contract: the call on a good table, and what its answer tells. Assumes nothing.
use mathlib.Core.Path.{ap, ◌∙◌}
use Rattle.inspect.specs.Told.{count_told}
use Rattle.std.specs.Prelude.{Result, ℕ}
use Rattle.rules.specs.declared.Refusal.{Refusal}
use Rattle.answers.specs.Shown.{count_shown}
use Rattle.library.proofs.Accepted.{good-area, good-long, good-read}
use Rattle.library.proofs.good.kev_good_node_count.Goals as goal

pub slice_bounds-node_count_good-end : goal.slice_bounds-node_count_good-end
slice_bounds-node_count_good-end c =
    search good-long

pub node_count_good-requires : goal.node_count_good-requires
node_count_good-requires c =
    search good-area

pub returns : goal.returns
returns c =
    c.count.ensures ∙ ap (λ (a : (Result ℕ Refusal)). count_shown (count_told a)) (search good-read)
