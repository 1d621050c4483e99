-- `table_check::check_area` meets its contract: a test that fails is one of the table's tests, and past all others only the zeros are left.
-- Assumes nothing.
use Prim.Native.Nat.{ℕ, ◌-◌, ◌*◌, ◌≤◌}
use mathlib.Core.Path.{◌≡◌, ◌∙◌, ap, sym}
use mathlib.Core.Bool.{Bool, true}
use mathlib.Core.List.{List}
use native.Mathlib.Omega.{arith}
use lib.ListN.{get_or, take, drop}
use borrow.Author.Tests.{le-leb, lt-leb}
use Rattle.fields.specs.Parts.{part}
use Rattle.fields.specs.Blocks.{all_zero, all_blocks}
use Rattle.fields.proofs.Numbers.{at-bytes}
use Rattle.rules.specs.Sizes.{max_nodes}
use Rattle.rules.specs.Layout.{node_place, node_width, table_width}
use Rattle.table.specs.Tests.{node_good, nodes_of, table_tests}
use Rattle.table.proofs.Checked.{length-stop, table-stop, table-pass}
use Rattle.table_check.proofs.check_area.Goals as goal

nodes-test : (l : List ℕ) (n : ℕ) (t : Bool) → n ≡ nodes_of l → t ≡ all_blocks node_good node_width n (drop (node_place 0) l) → get_or (table_tests l) 1 true ≡ t
nodes-test l n t en e = sym (e ∙ ap (λ (k : ℕ). all_blocks node_good node_width k (drop (node_place 0) l)) en)

zeros-test : (l : List ℕ) (n : ℕ) (t : Bool) → n ≡ nodes_of l → n ≤ max_nodes → t ≡ all_zero (take (table_width - node_place n) (drop (node_place n) l))
    → get_or (table_tests l) 3 true ≡ t
unfolding part
zeros-test l n t en h e =
    let p : table_width - node_place n ≡ (max_nodes - n) * node_width = omega arith in
    sym (e ∙ ap (λ (k : ℕ). all_zero (take k (drop (node_place n) l))) p ∙ ap (λ (k : ℕ). all_zero (part (node_place k) ((max_nodes - k) * node_width) l)) en)

pub returns-then-area-ne-AREA : goal.returns-then-area-ne-AREA
returns-then-area-ne-AREA c =
    length-stop c.args.area.now c.if-area-ne-AREA.true

pub returns-then-n-gt-NODES : goal.returns-then-n-gt-NODES
returns-then-n-gt-NODES c =
    let l : List ℕ = c.args.area.now in
    table-stop l (at-bytes c.args.area.now (λ i. (c.type_inv.area i).fits)) 0 (lt-leb (nodes_of l) max_nodes (omega arith))

pub returns-then-numbers_rise : goal.returns-then-numbers_rise
returns-then-numbers_rise c =
    let l : List ℕ = c.args.area.now in
    table-pass l (at-bytes c.args.area.now (λ i. (c.type_inv.area i).fits)) _ c.if-area-ne-AREA.false (le-leb (nodes_of l) max_nodes (omega (arith, c.byte_at-n.ensures.0, c.if-n-gt-NODES.false)))
    (nodes-test l _ _ c.byte_at-n.ensures.0 c.check_nodes.ensures ∙ c.if-check_nodes.true)
    (sym c.numbers_rise.ensures ∙ c.if-numbers_rise.true)
    (zeros-test l _ _ c.byte_at-n.ensures.0 c.if-n-gt-NODES.false
    (c.is_zero.ensures ∙ ap (λ (k : ℕ). all_zero (take (table_width - k) (drop k l))) c.node_place-a.ensures))

pub returns-else-numbers_rise : goal.returns-else-numbers_rise
returns-else-numbers_rise c =
    table-stop c.args.area.now (at-bytes c.args.area.now (λ i. (c.type_inv.area i).fits)) 2 (sym c.numbers_rise.ensures ∙ c.if-numbers_rise.false)

pub returns-else-check_nodes : goal.returns-else-check_nodes
returns-else-check_nodes c =
    let l : List ℕ = c.args.area.now in
    table-stop l (at-bytes c.args.area.now (λ i. (c.type_inv.area i).fits)) 1 (nodes-test l _ _ c.byte_at-n.ensures.0 c.check_nodes.ensures ∙ c.if-check_nodes.false)
