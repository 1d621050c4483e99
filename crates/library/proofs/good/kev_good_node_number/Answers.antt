-- `library::good::kev_good_node_number` meets its contract: the call on a good table, and what its answer tells. Assumes nothing.
use mathlib.Core.Path.{ap, ◌∙◌}
use Rattle.inspect.specs.Told.{node_number_told}
use Rattle.std.specs.Prelude.{Result, ℕ}
use Rattle.rules.specs.declared.Refusal.{Refusal}
use Rattle.answers.specs.Shown.{node_shown}
use Rattle.library.proofs.Accepted.{good-area, good-long, good-read}
use Rattle.library.proofs.good.kev_good_node_number.Goals as goal

pub slice_bounds-node_number_good-end : goal.slice_bounds-node_number_good-end
slice_bounds-node_number_good-end c =
    search good-long

pub node_number_good-requires : goal.node_number_good-requires
node_number_good-requires c =
    search good-area

pub returns : goal.returns
returns c =
    c.node.ensures ∙ ap (λ (a : (Result ℕ Refusal)). node_shown (node_number_told a)) (search good-read)
