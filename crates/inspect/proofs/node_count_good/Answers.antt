-- `inspect::node_count_good` meets its contract. Assumes nothing.
use mathlib.Core.Path.{ap, sym, ◌∙◌}
use native.Mathlib.Omega.{arith}
use Rattle.table.proofs.Tables.{valid-long, length-decode}
use Rattle.std.specs.Prelude.{Ok}
use Rattle.inspect.proofs.node_count_good.Goals as goal

pub byte_at-requires : goal.byte_at-requires
byte_at-requires c =
    omega (arith, valid-long c.args.table.now c.requires)

pub returns : goal.returns
returns c =
    ap Ok (c.byte_at.ensures.0 ∙ sym (length-decode c.args.table.now))
