-- `inspect::record_of_as` meets its contract: 8, or the record in its place in the node's bytes. Assumes nothing.
use Prim.Native.Nat.{ℕ, ◌<◌}
use mathlib.Core.Path.{ap, ap₂, sym, subst, ◌∙◌}
use mathlib.Core.List.{List}
use mathlib.Core.Option.{Option, some}
use native.Mathlib.Omega.{arith}
use Rattle.rules.specs.Table.{Entry, keys_rise}
use Rattle.rules.specs.Profile.{recs_formed}
use Rattle.rules.specs.Layout.{decode_node, node_place}
use Rattle.table.specs.Fits.{LaidNode}
use Rattle.table.specs.Tests.{nodes_of, recs_in}
use Rattle.table.proofs.Tables.{valid-long, valid-few}
use Rattle.table_read.proofs.Searched.{node-laid, node-rises}
use Rattle.own_rows.specs.Sight.{seen_held}
use Rattle.inspect.specs.Look.{record_on, record_in}
use Rattle.inspect.proofs.Elements.{node-there, no-node-there, place-formed, seen_entry, entry_seen}
use Rattle.inspect.proofs.record_of_as.Goals as goal

pub byte_at-nodes-requires : goal.byte_at-nodes-requires
byte_at-nodes-requires c =
    omega (arith, valid-long c.args.area.now c.requires.0)

pub returns-then-nodes-i : goal.returns-then-nodes-i
returns-then-nodes-i c =
    let a = c.args in
    no-node-there (λ (o : Option Entry). record_in a.j (node_place a.i) (seen_entry a.profile a.party o)) a.area.now a.i
    (omega (arith, c.byte_at-nodes.ensures.0))
    ∙ ap (record_in a.j (node_place a.i)) (sym (entry_seen a.profile a.party a.i _))

pub node_of-requires : goal.node_of-requires
node_of-requires c =
    let within : c.args.i < nodes_of c.args.area.now = omega (arith, c.byte_at-nodes.ensures.0) in
    let l : List ℕ = c.args.area.now in
    (valid-long l c.requires.0, omega (arith, within, valid-few l c.requires.0))

pub node_place-requires : goal.node_place-requires
node_place-requires c =
    let within : c.args.i < nodes_of c.args.area.now = omega (arith, c.byte_at-nodes.ensures.0) in
    omega (arith, within, valid-few c.args.area.now c.requires.0)

pub record_in-requires : goal.record_in-requires
record_in-requires c =
    let within : c.args.i < nodes_of c.args.area.now = omega (arith, c.byte_at-nodes.ensures.0) in
    let l : List ℕ = c.args.area.now in (
      subst LaidNode (sym c.node_of.ensures) (node-laid l c.requires.0 c.args.i (within)),
      ap (λ (b : List ℕ). keys_rise (recs_in b)) c.node_of.ensures ∙ node-rises l c.requires.0 c.args.i (within),
      ap (λ (b : List ℕ). recs_formed c.args.profile (recs_in b)) c.node_of.ensures ∙ place-formed c.args.profile l c.requires.1 c.args.i (within),
      omega (arith, c.node_place.ensures, within, valid-few l c.requires.0),
    )

pub returns : goal.returns
returns c =
    let within : c.args.i < nodes_of c.args.area.now = omega (arith, c.byte_at-nodes.ensures.0) in
    let a = c.args in
    node-there (λ (o : Option Entry). record_in a.j (node_place a.i) (seen_entry a.profile a.party o)) a.area.now a.i (within) _
    (c.record_in.ensures
    ∙ ap₂ (λ (k : ℕ) (b : List ℕ). record_on a.j k (seen_held a.profile a.party (some (decode_node b).node))) c.node_place.ensures c.node_of.ensures)
    ∙ ap (record_in a.j (node_place a.i)) (sym (entry_seen a.profile a.party a.i _))
