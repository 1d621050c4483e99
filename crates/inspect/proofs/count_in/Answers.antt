-- `inspect::count_in` meets its contract. Assumes nothing.
use mathlib.Core.Path.{ap}
use Rattle.std.specs.Prelude.{Ok}
use Rattle.inspect.proofs.Elements.{own-counted}
use Rattle.inspect.proofs.count_in.Goals as goal

pub returns : goal.returns
returns c =
    ap Ok (own-counted c.args.profile c.args.party c.args.node.now c.requires.1 c.requires.2 c.sight_of.ensures)
