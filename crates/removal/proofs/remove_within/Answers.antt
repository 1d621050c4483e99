-- `removal::remove_within` meets its contract: what is in front of node `i` is done, and the rest gives the whole. Assumes nothing.
use Prim.Native.Nat.{ℕ, ◌<◌}
use mathlib.Core.Path.{◌≡◌, refl, ap, sym, subst, ◌∙◌}
use mathlib.Core.List.{List}
use native.Mathlib.Omega.{arith}
use Rattle.fields.specs.Parts.{part, put}
use Rattle.fields.proofs.Lent.{seen, lent_by}
use mathlib.Core.Bool.{Bool}
use lib.ListN.{length}
use Rattle.rules.specs.Sizes.{max_nodes}
use Rattle.rules.specs.Node.{Rec}
use Rattle.rules.specs.Layout.{node_width, decode_node, encode_node, decode}
use Rattle.table.specs.Tests.{nodes_of}
use Rattle.table.specs.Fits.{LaidNode}
use Rattle.table.proofs.Tables.{valid-laid, valid-long}
use Rattle.table.proofs.Laid.{laid-at}
use Rattle.removal.specs.Removals.{removed, remove_within}
use Rattle.removal.proofs.Removing.{due_at, next-laid, next-count, next-node, table-end}
use borrow.Author.Rules.{rules}
use Rattle.removal.proofs.remove_within.Goals as goal

pub byte_at-n-requires : goal.byte_at-n-requires
byte_at-n-requires c =
    omega (arith, valid-long c.args.table.now c.requires)

pub loop-i-init : goal.loop-i-init
loop-i-init c =
    record { laid = valid-laid c.args.table.now c.requires; many = sym c.byte_at-n.ensures.0; left = refl }

pub remove_due_within-requires : goal.remove_due_within-requires
remove_due_within-requires c =
    let v = c.loop-i.invariant in
    let p = c.node_place-a in
    let l : List ℕ = c.loop-i.table in
    subst LaidNode (sym (seen p.result node_width l ∙ ap (λ (k : ℕ). part k node_width l) p.ensures)) (laid-at l v.laid c.loop-i.i (omega arith))

pub loop-i-preserved : goal.loop-i-preserved
loop-i-preserved c =
    let a = c.args in
    let v = c.loop-i.invariant in
    let l : List ℕ = c.loop-i.table in
    let o = v.laid in
    let i : ℕ = c.loop-i.i in
    let bs : List ℕ = a.bounds in
    let p : Rec → Bool = due_at a.clock a.grace bs i in
    let h : i < nodes_of l = omega arith in
    let eight : length bs ≡ max_nodes = search rules in
    let g : i < length bs = omega (arith, o.few) in
    let f : List ℕ → List ℕ = λ x. encode_node (removed p (decode_node x)) in
    let e = lent_by f c.node_place-a.result node_width l c.remove_due_within.new.node (omega (arith, h, o.long, o.few, c.node_place-a.ensures))
    c.remove_due_within.ensures c.remove_due_within.auto.node
    ∙ ap (λ (at : ℕ). put at (f (part at node_width l)) l) c.node_place-a.ensures in
    record {
      laid = next-laid a.clock a.grace bs l o i h g _ e;
      many = next-count a.clock a.grace bs l o i h g _ e ∙ v.many;
      left = next-node a.clock a.grace bs l o i h g _ e ∙ v.left;
    }

pub returns : goal.returns
returns c =
    let a = c.args in
    let v = c.loop-i.invariant in
    table-end a.clock a.grace a.bounds c.loop-i.table v.laid c.loop-i.i (remove_within a.clock a.grace a.bounds (decode a.table.now)) (omega arith) v.left
