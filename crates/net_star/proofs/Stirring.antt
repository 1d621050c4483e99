-- In document 01's order, with nodes excluded: while the digest is behind of any node that is not, the first in the queue has a part that moves its node. As demand3: Nearer has it where
-- none is excluded. Assumes nothing.
use Prim.Native.Nat.{◌-◌, ◌<◌, ◌≤◌, ℕ}
use mathlib.Core.Bool.{Bool, ◌&&◌, false, not, true}
use mathlib.Core.List.{List, [], ◌∷◌}
use mathlib.Core.Option.{some}
use mathlib.Core.Path.{◌∙◌, ◌≡◌, ap, refl, subst, subst₂, sym}
use native.Mathlib.Omega.{arith}
use lib.Dec.{ltb}
use lib.ListN.{length}
use borrow.Author.Tests.{eq-eqb, le-leb, lt-ltb}
use Rattle.fields.proofs.Choice.{in-none}
use Rattle.fields.specs.Choice.{◌∈◌, here, later, pick}
use Rattle.rules.proofs.Accepted.{ok-stale}
use Rattle.rules.proofs.Obeys.{table-facts}
use Rattle.rules.proofs.Sending.{emit, fitting, node_delta, part_of, record_size, sends}
use Rattle.rules.proofs.Stale.{stale-from}
use Rattle.rules.proofs.Tables.{Behind, behind-from, node-entry, ordered-from, part_at}
use Rattle.rules.specs.Compute.{StaleNode, all_ops, cut, delta_for, first_tie, from_for, ordered, other_ties, queue, sooner, stale_node, stale_nodes, stale_of, told_of}
use Rattle.rules.specs.Delta.{max_op_width, node_op_width, parts_of}
use Rattle.rules.specs.Digest.{NodeDigest}
use Rattle.rules.specs.Node.{KeyValue}
use Rattle.rules.specs.Table.{Entry, Table, among, obeys}
use Rattle.demand3.proofs.EachNode.{node_at, or_fresh}
use Rattle.demand3.proofs.Needed.{Moves, delta-moves}
use Rattle.demand3.proofs.Nearer.{Stirs}
use Rattle.demand3.specs.Demand3.{least_width}

-- a node that is behind and not excluded stands in line
stands-in-line : (excluded : List ℕ) (l : List NodeDigest) {e : Entry} (ties : List ℕ) {t : Table} → e ∈ t → among e.number excluded ≡ false → (told_of e.number l).max < e.node.max → (s : StaleNode) × (s ∈ stale_nodes excluded l ties t)
unfolding stale_nodes
stands-in-line excluded l ties (here {a = a} {l = t} q) free h =
    let f : among a.number excluded ≡ false = subst (λ (y : Entry). among y.number excluded ≡ false) q free in
    let k : (told_of a.number l).max < a.node.max = subst (λ (y : Entry). (told_of y.number l).max < y.node.max) q h in
    (stale_node (first_tie ties) (told_of a.number l) a, rw (f, lt-ltb _ _ k) (here refl))
stands-in-line excluded l ties (later {a = a} {l = t} m) free h = go (among a.number excluded) (ltb (told_of a.number l).max a.node.max) (stands-in-line excluded l (other_ties ties) m free h)
  where
    rest : List StaleNode
    rest = stale_nodes excluded l (other_ties ties) t

    go : (x b : Bool) → (s : StaleNode) × (s ∈ rest) → (s : StaleNode) × (s ∈ pick (not x && b) (stale_node (first_tie ties) (told_of a.number l) a ∷ rest) rest)
    go true b x = x
    go false true x = (x.0, later x.1)
    go false false x = x

queue-some : (s : StaleNode) (l : List StaleNode) → (x : StaleNode) × (r : List StaleNode) × (queue s l ≡ x ∷ r)
unfolding queue
queue-some s [] = (s, [], refl)
queue-some s (a ∷ l) = go (sooner s a)
  where
    go : (b : Bool) → (x : StaleNode) × (r : List StaleNode) × (pick b (s ∷ a ∷ l) (a ∷ queue s l) ≡ x ∷ r)
    go true = (s, a ∷ l, refl)
    go false = (a, queue s l, refl)

ordered-some : {s : StaleNode} (l : List StaleNode) → s ∈ l → (x : StaleNode) × (r : List StaleNode) × (ordered l ≡ x ∷ r)
unfolding ordered
ordered-some [] m = absurd (in-none m)
ordered-some (a ∷ l) m = queue-some a (ordered l)

first_fits : (room : ℕ) (ss : List KeyValue) → ((s : KeyValue) → s ∈ ss → record_size s ≤ room) → 0 < length ss → 0 < fitting room ss
unfolding fitting
first_fits room [] h z = absurd (omega arith)
first_fits room (s ∷ ss) h z = rw (le-leb (record_size s) room (h s (here refl))) (omega arith)

part-first : (mtu : ℕ) (x : StaleNode) (r : List StaleNode) → node_op_width ≤ mtu → part_at x.number (emit mtu (x ∷ r)) ≡ some (part_of mtu x).delta
unfolding part_at emit
part-first mtu x r h = rw (le-leb node_op_width mtu h, eq-eqb x.number x.number refl)

module _ (excluded : List ℕ) (mtu : ℕ) (ties : List ℕ) (told : List NodeDigest) (t : Table) (obeyed : obeys t ≡ true) (wide : least_width ≤ mtu) where
  abbrev line : List StaleNode
  line = stale_nodes excluded told ties t

  first-stirs : (x : StaleNode) (r : List StaleNode) → ordered line ≡ x ∷ r → Stirs t (delta_for excluded ties mtu told t)
  unfolding delta_for
  first-stirs x r q = (x.number, (part_of mtu x).delta, part-is, subst₂ Moves node_is (sym delta-is) (delta-moves x.node x.told_gc x.told-max count o.behind (first_fits (mtu - node_op_width) (stale_of x) sizes)))
    where
      o : Behind told t x
      o = behind-from excluded told ties t (ordered-from _ (subst (λ (l : List StaleNode). x ∈ l) (sym q) (here refl)))

      count : ℕ
      count = fitting (mtu - node_op_width) (stale_of x)

      sizes : (s : KeyValue) → s ∈ stale_of x → record_size s ≤ mtu - node_op_width
      sizes s n =
          let z = stale-from (from_for x) x.node.recs n in
          let k = (ok-stale (table-facts t obeyed) o).node_ok.each z.0 z.1 in
          let a = k.key_fits in
          let b = k.value-fits in
          let c : record_size z.0.kv ≡ record_size s = ap record_size z.2 in
          omega arith

      delta-is : (part_of mtu x).delta ≡ node_delta x.node x.told_gc x.told-max count true
      delta-is = ap (node_delta x.node x.told_gc x.told-max count) (le-leb max_op_width (mtu - node_op_width) (omega arith))

      part-is : part_at x.number (parts_of (cut mtu (all_ops (ordered line)))) ≡ some (part_of mtu x).delta
      part-is = ap (part_at x.number) (sends mtu (ordered line)) ∙ ap (λ (l : List StaleNode). part_at x.number (emit mtu l)) q ∙ part-first mtu x r (omega arith)

      node_is : x.node ≡ node_at x.number t
      node_is = o.node_is ∙ sym (ap or_fresh (node-entry o.entry (table-facts t obeyed).ascending o.held)) ∙ ap (λ (j : ℕ). node_at j t) (sym o.number_is)

  pub line-stirs : (e : Entry) → e ∈ t → among e.number excluded ≡ false → (told_of e.number told).max < e.node.max → Stirs t (delta_for excluded ties mtu told t)
  line-stirs e m free says = let order = ordered-some _ (stands-in-line excluded told ties m free says).1 in first-stirs order.0 order.1 order.2
