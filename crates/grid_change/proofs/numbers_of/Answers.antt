-- `grid_change::numbers_of` meets its contract: the first places have the numbers, and the others 0. Assumes nothing.
use Prim.Native.Nat.{ℕ}
use mathlib.Core.List.{List}
use mathlib.Core.Path.{◌∙◌, ap, sym}
use native.Mathlib.Omega.{arith}
use lib.ListN.{set}
use Rattle.fields.specs.Blocks.{zeros}
use Rattle.rules.specs.Sizes.{max_nodes}
use Rattle.rules.specs.Table.{numbers_of}
use Rattle.rules.specs.Layout.{decode}
use Rattle.table.proofs.Tables.{valid-few, valid-long}
use Rattle.grid_check.proofs.Checked.{node-number, nodes-many}
use Rattle.grid_change.proofs.Storing.{fill, fit_none}
use Rattle.grid_change.proofs.numbers_of.Goals as goal

pub byte_at-n-requires : goal.byte_at-n-requires
byte_at-n-requires c =
    omega (arith, valid-long c.args.area.now c.requires)

pub loop-i-init : goal.loop-i-init
unfolding zeros
loop-i-init c =
    let a : List ℕ = c.args.area.now in
    record { few = omega (arith, c.byte_at-n.ensures.0, valid-few a c.requires); many = c.byte_at-n.ensures.0 ∙ sym (nodes-many a); filled = sym (fit_none max_nodes) }

pub number_at-requires : goal.number_at-requires
number_at-requires c =
    let a : List ℕ = c.args.area.now in
    (valid-long a c.requires, valid-few a c.requires, omega (arith, c.loop-i.invariant.many, nodes-many a))

pub loop-i-preserved : goal.loop-i-preserved
loop-i-preserved c =
    let l = c.loop-i in
    let a : List ℕ = c.args.area.now in
    let v = l.invariant in
    record {
      few = v.few;
      many = v.many;
      filled = ap (λ (r : List ℕ). set r l.i c.number_at.result) v.filled
          ∙ fill max_nodes l.i c.number_at.result (numbers_of (decode a)) (omega arith) (omega arith) (c.number_at.ensures ∙ sym (node-number a l.i (omega (arith, nodes-many a))));
    }
