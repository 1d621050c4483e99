-- `library::good::kev_good_node_header` meets its contract: the call on a good table, and what its answer tells. Assumes nothing.
use mathlib.Core.Path.{ap, ◌∙◌}
use Rattle.inspect.specs.Told.{node_header_told}
use Rattle.std.specs.Prelude.{Result}
use Rattle.rules.specs.declared.Header.{Header}
use Rattle.rules.specs.declared.Refusal.{Refusal}
use Rattle.answers.specs.Shown.{header_shown}
use Rattle.library.proofs.Accepted.{good-area, good-long, good-read}
use Rattle.library.proofs.good.kev_good_node_header.Goals as goal

pub slice_bounds-node_header_good-end : goal.slice_bounds-node_header_good-end
slice_bounds-node_header_good-end c =
    search good-long

pub node_header_good-requires : goal.node_header_good-requires
node_header_good-requires c =
    search good-area

pub returns : goal.returns
returns c =
    c.header.ensures ∙ ap (λ (a : (Result Header Refusal)). header_shown (node_header_told a)) (search good-read)
