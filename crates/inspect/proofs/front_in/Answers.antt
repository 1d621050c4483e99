-- `inspect::front_in` meets its contract: so many rows, each of its width. Assumes nothing.
use Prim.Native.Nat.{◌*◌}
use mathlib.Core.Path.{ap, ◌∙◌}
use native.Mathlib.Omega.{arith}
use Rattle.rules.specs.Layout.{rec_width}
use Rattle.own_rows.specs.declared.Sight.{Sight}
use Rattle.std.specs.Prelude.{Ok}
use Rattle.inspect.proofs.Elements.{own-low}
use Rattle.inspect.proofs.front_in.Goals as goal

pub times-requires : goal.times-requires
times-requires c =
    let low = own-low c.args.profile c.args.party c.args.node.now c.requires.1 c.requires.2 c.sight_of.ensures in
    (omega (arith, low, c.requires.0.few), omega arith)

pub returns : goal.returns
returns c =
    ap Ok (c.times.ensures ∙ ap (λ (x : Sight). x.low * rec_width) c.sight_of.ensures)
