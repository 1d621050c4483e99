-- `nodes::heartbeat_in` meets its contract. Assumes nothing.
use Prim.Native.Nat.{ℕ}
use mathlib.Core.Path.{◌≡◌, ap, sym, ◌∙◌}
use mathlib.Core.Bool.{true}
use mathlib.Core.List.{List}
use native.Mathlib.Omega.{arith}
use lib.ListN.{length}
use Rattle.fields.specs.Numbers.{nat_of}
use Rattle.fields.specs.Parts.{part}
use Rattle.fields.specs.Widths.{offset}
use Rattle.fields.proofs.Parts.{length_part}
use Rattle.rules.specs.Node.{beats}
use Rattle.rules.specs.Table.{node_of}
use Rattle.rules.specs.Layout.{node_place, node_width, node_widths, decode, decode_node, valid}
use Rattle.table.proofs.Places.{node_bytes}
use Rattle.table.proofs.Tables.{valid-long, valid-few}
use Rattle.table_read.specs.Find.{find_node}
use Rattle.table_read.specs.declared.Place.TheVariants.{At}
use Rattle.table_read.proofs.Searched.{node_in, node-found, node-missing}
use Rattle.nodes.specs.Coming.{beat_of}
use Rattle.nodes.proofs.heartbeat_in.Goals as goal

-- the heartbeat of the node that was found
beat-there : (l : List ℕ) (v : valid l ≡ true) (n i : ℕ) → find_node n (decode l) ≡ At i → (x : ℕ) → x ≡ nat_of (part (offset node_widths 1) 8 (node_bytes i l)) → beats x ≡ beat_of (node_of n (decode l))
unfolding decode_node
beat-there l v n i e x q = ap beats q ∙ sym (ap beat_of (node-found l v n i e))

pub find_node-requires : goal.find_node-requires
find_node-requires c =
    (valid-long c.args.area.now c.requires, valid-few c.args.area.now c.requires)

pub node_of-requires : goal.node_of-requires
node_of-requires c =
    let l = c.args.area.now in
    let at = node_in l c.requires c.args.number _ (sym c.find_node.ensures ∙ c.in-At.is) in
    (valid-long l c.requires, omega (arith, at, valid-few l c.requires))

pub read_u64-beat-requires : goal.read_u64-beat-requires
read_u64-beat-requires c =
    let l = c.args.area.now in
    let at = node_in l c.requires c.args.number _ (sym c.find_node.ensures ∙ c.in-At.is) in
    let long = ap length c.node_of.ensures ∙ length_part (node_place c.in-At.i) node_width l (omega (arith, at, valid-few l c.requires, valid-long l c.requires)) in
    omega (arith, long)

pub returns-in-At : goal.returns-in-At
returns-in-At c =
    beat-there c.args.area.now c.requires c.args.number c.in-At.i (sym c.find_node.ensures ∙ c.in-At.is) c.read_u64-beat.result
    (c.read_u64-beat.ensures ∙ ap (λ (b : List ℕ). nat_of (part (offset node_widths 1) 8 b)) c.node_of.ensures)

pub returns-in-Free : goal.returns-in-Free
returns-in-Free c =
    sym (ap beat_of (node-missing c.args.area.now c.requires c.args.number _ (sym c.find_node.ensures ∙ c.in-Free.is)))
