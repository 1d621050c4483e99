-- `inspect::node_number_good` meets its contract. Assumes nothing.
use Prim.Native.Nat.{ℕ, ◌<◌}
use mathlib.Core.Path.{ap, sym, ◌∙◌}
use mathlib.Core.List.{List}
use native.Mathlib.Omega.{arith}
use Rattle.fields.specs.Numbers.{nat_of}
use Rattle.fields.specs.Parts.{part}
use Rattle.table.specs.Tests.{nodes_of}
use Rattle.table.proofs.Tables.{valid-long, valid-few}
use Rattle.table.proofs.Places.{number_at}
use Rattle.inspect.specs.Look.{number_on}
use Rattle.std.specs.Prelude.{Ok}
use Rattle.inspect.proofs.Elements.{node-there, no-node-there}
use Rattle.inspect.proofs.node_number_good.Goals as goal

pub byte_at-n-requires : goal.byte_at-n-requires
byte_at-n-requires c =
    omega (arith, valid-long c.args.table.now c.requires)

pub returns-then-n-i : goal.returns-then-n-i
returns-then-n-i c =
    no-node-there number_on _ _ (omega (arith, c.byte_at-n.ensures.0))

pub node_place-requires : goal.node_place-requires
node_place-requires c =
    omega (arith, c.byte_at-n.ensures.0, valid-few c.args.table.now c.requires)

pub read_u64-requires : goal.read_u64-requires
read_u64-requires c =
    let l : List ℕ = c.args.table.now in
    omega (arith, c.byte_at-n.ensures.0, c.node_place.ensures, valid-long l c.requires, valid-few l c.requires)

pub returns : goal.returns
returns c =
    let l : List ℕ = c.args.table.now in
    let h : c.args.i < nodes_of l = omega (arith, c.byte_at-n.ensures.0) in
    node-there number_on l c.args.i h _
    (ap Ok
    (c.read_u64.ensures
    ∙ ap (λ (k : ℕ). nat_of (part k 8 l)) c.node_place.ensures
    ∙ sym (number_at c.args.i l (valid-long l c.requires) (omega (arith, valid-few l c.requires)))))
