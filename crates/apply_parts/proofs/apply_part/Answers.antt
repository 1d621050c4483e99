-- `apply_parts::apply_part` meets its contract: the node is missing, or left alone, or its part is lent to the node's rule. Assumes nothing.
use Prim.Native.Nat.{ℕ}
use mathlib.Core.Bool.{Bool}
use mathlib.Core.List.{List}
use mathlib.Core.Path.{◌≡◌, ap, sym, ◌∙◌}
use native.Mathlib.Omega.{arith}
use Rattle.rules.specs.Table.{among}
use Rattle.rules.specs.Profile.{kind}
use Rattle.table_read.specs.Find.{span_in}
use Rattle.std.specs.Prelude.{Option}
use Rattle.table_read.specs.declared.Span.{Span}
use Rattle.table_read.proofs.Held.{node_end, node-fits}
use Rattle.delta_read.specs.NodeDeltas.{node_delta_at}
use Rattle.apply_parts.proofs.Applying.{lent-rising, part_left, part_held, part-missing, numbers-read}
use Rattle.apply_parts.proofs.apply_part.Goals as goal

-- the node is sought by the number that was read
span-is : (t : List ℕ) {n m : ℕ} {o : Option Span} {found : Option Span} → n ≡ m → o ≡ span_in n t → o ≡ found → span_in m t ≡ found
span-is t p e f = ap (λ (n : ℕ). span_in n t) (sym p) ∙ sym e ∙ f

-- and so are the nodes that are left alone
asked : (own : List ℕ) {n m : ℕ} {b answer : Bool} → n ≡ m → b ≡ among n own → b ≡ answer → among m own ≡ answer
asked own p e f = ap (λ (n : ℕ). among n own) (sym p) ∙ sym e ∙ f

pub node_span-requires : goal.node_span-requires
node_span-requires c =
    c.requires.0

pub returns-then-is_excluded : goal.returns-then-is_excluded
returns-then-is_excluded c =
    let a = c.args in
    let read = c.read_u64-number.ensures in
    part_left a.own.now (kind a.mode a.profile) _ c.requires.0 a.clock (node_delta_at a.delta.now a.at a.max)
    (span-is a.table.now read c.node_span.ensures c.in-Some.is) (asked a.own.now read c.is_excluded.ensures c.if-is_excluded.true)

pub slice_bounds-apply_node-count : goal.slice_bounds-apply_node-count
slice_bounds-apply_node-count c =
    omega (arith, node_end _ _ c.requires.0 (span-is c.args.table.now c.read_u64-number.ensures c.node_span.ensures c.in-Some.is))

pub slice_bounds-apply_node-start : goal.slice_bounds-apply_node-start
slice_bounds-apply_node-start c =
    omega (arith, node_end _ _ c.requires.0 (span-is c.args.table.now c.read_u64-number.ensures c.node_span.ensures c.in-Some.is))

pub slice_bounds-apply_node-end : goal.slice_bounds-apply_node-end
slice_bounds-apply_node-end c =
    node-fits _ _ c.requires.0 (span-is c.args.table.now c.read_u64-number.ensures c.node_span.ensures c.in-Some.is)

pub apply_node-requires : goal.apply_node-requires
apply_node-requires c =
    let a = c.args in
    let held = span-is a.table.now c.read_u64-number.ensures c.node_span.ensures c.in-Some.is in
    (lent-rising a.own.now (kind a.mode a.profile) _ c.requires.0 a.clock (node_delta_at a.delta.now a.at a.max) held, c.requires.1, c.requires.2)

pub returns : goal.returns
returns c =
    let a = c.args in
    let read = c.read_u64-number.ensures in
    part_held a.own.now (kind a.mode a.profile) _ c.requires.0 a.clock (node_delta_at a.delta.now a.at a.max)
    (span-is a.table.now read c.node_span.ensures c.in-Some.is) (asked a.own.now read c.is_excluded.ensures c.if-is_excluded.false) _ _
    (numbers-read (kind a.mode a.profile) a.clock a.delta.now _ _ _ _ a.max _ c.read_u64-last_gc.ensures c.read_u64-from.ensures _ _ _ c.apply_node.ensures)

pub returns-in_default : goal.returns-in_default
returns-in_default c =
    let a = c.args in
    part-missing a.own.now (kind a.mode a.profile) _ c.requires.0 a.clock (node_delta_at a.delta.now a.at a.max)
    (span-is a.table.now c.read_u64-number.ensures c.node_span.ensures c.in_default.is)
