-- `local_node::same_status` meets its contract: equal codes are those of equal statuses. Assumes nothing.
use mathlib.Core.Path.{ap₂, ◌∙◌}
use lib.Dec.{eqb}
use Rattle.local_node.proofs.Deciding.{same_code}
use Rattle.local_node.proofs.same_status.Goals as goal

pub returns : goal.returns
returns c =
    ap₂ eqb c.byte.ensures c.byte-2.ensures ∙ same_code c.args.a c.args.b
