-- `inspect::rows_in` meets its contract: the place behind the node's header, and how many records are seen. Assumes nothing.
use Prim.Native.Nat.{ℕ}
use Prim.Native.Nat.{◌+◌}
use mathlib.Core.Path.{ap}
use Rattle.rules.specs.Layout.{rec_place}
use Rattle.std.specs.Prelude.{Ok}
use Rattle.inspect.proofs.Elements.{own-counted}
use Rattle.inspect.proofs.rows_in.Goals as goal

pub returns : goal.returns
returns c =
    ap (λ (n : ℕ). Ok (record { at = c.args.start + rec_place 0; count = n }))
    (own-counted c.args.profile c.args.party c.args.node.now c.requires.1 c.requires.2 c.sight_of.ensures)
