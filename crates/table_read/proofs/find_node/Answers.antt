-- `table_read::find_node` meets its contract: what is left to be searched has the whole's answer. Assumes nothing.
use Prim.Native.Nat.{ℕ, ◌+◌, ◌≤◌, ◌<◌}
use mathlib.Core.Path.{◌≡◌, ap, sym, ◌∙◌}
use mathlib.Core.List.{List}
use native.Mathlib.Omega.{arith}
use lib.ListN.{length, drop}
use Rattle.fields.specs.Numbers.{nat_of}
use Rattle.fields.specs.Parts.{part}
use Rattle.rules.specs.Layout.{node_place, decode, table_width}
use Rattle.table.specs.Tests.{nodes_of}
use Rattle.table.proofs.Tables.{length-decode}
use Rattle.table.proofs.Places.{decode-drop, number_at, node_at}
use Rattle.table_read.specs.Find.{further, to_node, find_node}
use Rattle.table_read.specs.declared.Place.TheVariants.{At, Free}
use Rattle.table_read.proofs.Found.{start, end, step_same, step_less, step-more, number_same, number-less, number_more}
use Rattle.table_read.proofs.find_node.Goals as goal

-- node i, as the bytes tell its number
module _ (number i x p : ℕ) (l : List ℕ) (e : length l ≡ table_width) (h : i < nodes_of l) (g : nodes_of l ≤ 8) (at : p ≡ node_place i) (r : x ≡ nat_of (part p 8 l)) (all : further i (find_node number (drop i (decode l))) ≡ find_node number (decode l)) where
  is : x ≡ (node_at i l).number
  is = r ∙ ap (λ (k : ℕ). nat_of (part k 8 l)) at ∙ sym (number_at i l e (omega arith))

  turn-same : number ≡ x → At i ≡ find_node number (decode l)
  turn-same q = sym (step_same (to_node number) (decode l) i (node_at i l) (decode-drop i l h) (number_same number (node_at i l).number (q ∙ is))) ∙ all

  turn-less : number < x → Free i ≡ find_node number (decode l)
  turn-less q = sym (step_less (to_node number) (decode l) i (node_at i l) (decode-drop i l h) (number-less number (node_at i l).number (omega (arith, is)))) ∙ all

  turn_more : x < number → further (i + 1) (find_node number (drop (i + 1) (decode l))) ≡ find_node number (decode l)
  turn_more q = sym (step-more (to_node number) (decode l) i (node_at i l) (decode-drop i l h) (number_more number (node_at i l).number (omega (arith, is)))) ∙ all

pub loop-i-init : goal.loop-i-init
loop-i-init c =
    start (to_node c.args.number) (decode c.args.table.now)

pub returns-then-number-x : goal.returns-then-number-x
returns-then-number-x c =
    turn-same c.args.number c.loop-i.i c.read_u64-x.result _ c.args.table.now (omega arith) (omega arith) (omega arith) c.node_place.ensures c.read_u64-x.ensures c.loop-i.invariant c.if-number-x.true

pub returns-then-number-x-2 : goal.returns-then-number-x-2
returns-then-number-x-2 c =
    turn-less c.args.number c.loop-i.i c.read_u64-x.result _ c.args.table.now (omega arith) (omega arith) (omega arith) c.node_place.ensures c.read_u64-x.ensures c.loop-i.invariant c.if-number-x-2.true

pub loop-i-preserved : goal.loop-i-preserved
loop-i-preserved c =
    turn_more c.args.number c.loop-i.i c.read_u64-x.result _ c.args.table.now (omega arith) (omega arith) (omega arith) c.node_place.ensures c.read_u64-x.ensures c.loop-i.invariant (omega arith)

pub returns : goal.returns
returns c =
    let a = c.args in
    let i : ℕ = c.loop-i.i in
    let e : c.byte_at-n.result ≡ i = omega arith in
    ap Free e ∙ sym (end (to_node a.number) (decode a.table.now) i (rw length-decode (omega arith))) ∙ c.loop-i.invariant
