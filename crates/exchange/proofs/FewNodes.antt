-- A delta has no more Nodes than its table: so many places are enough for the answers to it. Assumes nothing.
use Prim.Native.Nat.{ℕ, suc, ◌-◌, ◌≤◌}
use mathlib.Core.Path.{◌≡◌, ◌∙◌, ap, refl}
use mathlib.Core.Bool.{Bool, false, not, true, ◌&&◌}
use mathlib.Core.List.{List, [], ◌∷◌}
use native.Mathlib.Omega.{arith}
use lib.Dec.{eqb, leb, ltb}
use lib.ListN.{length}
use Rattle.fields.specs.Choice.{pick}
use Rattle.rules.specs.Table.{Table, among}
use Rattle.rules.specs.Digest.{NodeDigest}
use Rattle.rules.specs.Delta.{Part, node_op_width, parts_of}
use Rattle.rules.specs.Compute.{StaleNode, delta_for, first_tie, ordered, other_ties, queue, sooner, stale_node, stale_nodes, stale_of, told_of}
use Rattle.rules.proofs.Sending.{after_max, emit, fitting, left_over, part_of, sends}

length-queue : (s : StaleNode) (l : List StaleNode) → length (queue s l) ≡ suc (length l)
unfolding queue
length-queue s [] = refl
length-queue s (a ∷ l) = go (sooner s a) (length-queue s l)
  where
    go : (b : Bool) → length (queue s l) ≡ suc (length l) → length (pick b (s ∷ a ∷ l) (a ∷ queue s l)) ≡ suc (suc (length l))
    go true e = refl
    go false e = ap suc e

length-ordered : (l : List StaleNode) → length (ordered l) ≡ length l
unfolding ordered
length-ordered [] = refl
length-ordered (s ∷ l) = length-queue s (ordered l) ∙ ap suc (length-ordered l)

few-stale : (excluded : List ℕ) (ds : List NodeDigest) (ties : List ℕ) (t : Table) → length (stale_nodes excluded ds ties t) ≤ length t
unfolding stale_nodes
few-stale excluded ds ties [] = omega arith
few-stale excluded ds ties (e ∷ t) =
    go (not (among e.number excluded) && ltb (told_of e.number ds).max e.node.max) (stale_node (first_tie ties) (told_of e.number ds) e)
    (stale_nodes excluded ds (other_ties ties) t) (few-stale excluded ds (other_ties ties) t)
  where
    go : (b : Bool) (s : StaleNode) (l : List StaleNode) → length l ≤ length t → length (pick b (s ∷ l) l) ≤ suc (length t)
    go true s l h = omega arith
    go false s l h = omega arith

few-sent : (room : ℕ) (os : List StaleNode) → length (emit room os) ≤ length os
unfolding emit
few-sent room [] = omega arith
few-sent room (o ∷ os) =
    let left = after_max (stale_of o) (left_over (room - node_op_width) (stale_of o)) in
    go (leb node_op_width room) (eqb (fitting (room - node_op_width) (stale_of o)) (length (stale_of o))) (part_of room o) (emit left os) (few-sent left os)
  where
    go : (a b : Bool) (x : Part) (l : List Part) → length l ≤ length os → length (pick a (x ∷ pick b l []) []) ≤ suc (length os)
    go true true x l h = omega arith
    go true false x l h = omega arith
    go false b x l h = omega arith

pub few-parts : (excluded ties : List ℕ) (mtu : ℕ) (ds : List NodeDigest) (t : Table) → length (parts_of (delta_for excluded ties mtu ds t)) ≤ length t
unfolding delta_for
few-parts excluded ties mtu ds t =
    let os = ordered (stale_nodes excluded ds ties t) in
    let a = ap length (sends mtu os) in
    let b = few-sent mtu os in
    let c = length-ordered (stale_nodes excluded ds ties t) in
    let d = few-stale excluded ds ties t in
    omega arith
