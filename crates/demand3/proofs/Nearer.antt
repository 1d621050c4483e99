-- A delta that is computed for a digest and taken without Room: a node whose part moves it comes nearer, and in document 01's order there is one, while any is behind.
use Prim.Native.Nat.{◌+◌, ◌-◌, ◌<◌, ◌≤◌, ℕ}
use mathlib.Core.Bool.{Bool, false, true}
use mathlib.Core.List.{List, [], ◌∷◌}
use mathlib.Core.Option.{Option, some}
use mathlib.Core.Path.{◌∙◌, ◌≡◌, ap, refl, subst, subst₂, sym}
use native.Mathlib.Omega.{arith}
use lib.Dec.{eqb, leb, ltb}
use lib.ListN.{length}
use borrow.Author.Tests.{eq-eqb, eqb-true, le-leb, leb-false, leb-true, lt-ltb}
use Rattle.fields.proofs.Choice.{in-none}
use Rattle.fields.specs.Choice.{◌∈◌, here, later, pick}
use Rattle.rules.proofs.Calls.{node_in}
use Rattle.rules.proofs.Accepted.{ok-stale}
use Rattle.rules.proofs.Obeys.{Ascending, number_in, table-facts}
use Rattle.rules.proofs.Sending.{emit, fitting, node_delta, part_of, record_size, sends}
use Rattle.rules.proofs.Stale.{stale-from}
use Rattle.rules.proofs.Tables.{Behind, behind-from, mapped, node-each, node-entry, node-there, ordered-from, part_at, repeated, taking}
use Rattle.rules.specs.Apply.{Fence, Taking, apply_each, delta_status, outcome}
use Rattle.rules.specs.Compute.{StaleNode, all_ops, cut, delta_for, first_tie, from_for, from_of, ordered, other_ties, queue, sooner, stale_node, stale_nodes, stale_of, told_of}
use Rattle.rules.specs.Delta.{NodeDelta, Op, max_op_width, node_op_width, parts_of}
use Rattle.rules.specs.Digest.{NodeDigest, digest_of, digest_of_node}
use Rattle.rules.specs.Node.{KeyValue, Node}
use Rattle.rules.specs.Table.{Entry, Table, among, node_of, numbers_of, obeys}
use Rattle.demand3.proofs.EachNode.{node_at, or_fresh}
use Rattle.demand3.proofs.Needed.{Moves, Onward, delta-moves, needed, needed-falls, needed-some}
use Rattle.demand3.proofs.OnTheWay.{PartFor}
use Rattle.demand3.specs.Demand3.{least_width}

-- ---- sums over the nodes

unfoldable pub sum : (ℕ → ℕ) → List ℕ → ℕ
sum f [] = 0
sum f (i ∷ is) = f i + sum f is

pub sum-le : (f g : ℕ → ℕ) (is : List ℕ) → ((i : ℕ) → f i ≤ g i) → sum f is ≤ sum g is
unfolding sum
sum-le f g [] h = omega arith
sum-le f g (i ∷ is) h = let a = h i in let b = sum-le f g is h in omega arith

pub sum_lt : (f g : ℕ → ℕ) {j : ℕ} {is : List ℕ} → ((i : ℕ) → f i ≤ g i) → j ∈ is → f j < g j → sum f is < sum g is
unfolding sum
sum_lt f g {j} h (here {a = i} {l = is} q) k =
    let a = subst (λ (n : ℕ). f n < g n) q k in
    let b = sum-le f g is h in
    omega arith
sum_lt f g h (later {a = i} {l = is} m) k = let a = h i in let b = sum_lt f g h m k in omega arith

-- a sum that is not 0 has a part that is not
pub sum-some : (f : ℕ → ℕ) (is : List ℕ) → 0 < sum f is → (i : ℕ) × (i ∈ is) × (0 < f i)
unfolding sum
sum-some f [] h = absurd (omega arith)
sum-some f (i ∷ is) h = go (leb 1 (f i)) refl (sum-some f is)
  where
    go : (b : Bool) → leb 1 (f i) ≡ b → (0 < sum f is → (j : ℕ) × (j ∈ is) × (0 < f j)) → (j : ℕ) × (j ∈ i ∷ is) × (0 < f j)
    go true q ih = (i, here refl, leb-true 1 (f i) q)
    go false q ih = let z = leb-false 1 (f i) q in let x = ih (omega arith) in (x.0, later x.1, x.2)

pub sum-none : (f : ℕ → ℕ) {i : ℕ} {is : List ℕ} → sum f is ≡ 0 → i ∈ is → f i ≡ 0
unfolding sum
sum-none f {i} h (here {a = j} {l = is} q) = let a : f i ≡ f j = ap f q in omega arith
sum-none f h (later {a = j} {l = is} m) = sum-none f (omega arith) m

-- ---- the digest

-- what it tells of a node that is held
pub told-held : (i : ℕ) (t : Table) (f : Node) → node_of i t ≡ some f → told_of i (digest_of [] t) ≡ record { number = i; heartbeat = f.heartbeat; last_gc = f.last_gc; max = f.max }
unfolding told_of digest_of among node_of
told-held i [] f e = let z : ◌≡◌ {A = ℕ} 0 1 = cc in absurd (omega arith)
told-held i (a ∷ t) f e = go (eqb i a.number) refl e (told-held i t f)
  where
    Told : NodeDigest → Type 0
    Told d = d ≡ record { number = i; heartbeat = f.heartbeat; last_gc = f.last_gc; max = f.max }

    go : (b : Bool) → eqb i a.number ≡ b → pick b (some a.node) (node_of i t) ≡ some f → (node_of i t ≡ some f → Told (told_of i (digest_of [] t))) → Told (pick b (digest_of_node a) (told_of i (digest_of [] t)))
    go true q e ih =
        let n : a.number ≡ i = sym (eqb-true i a.number q) in
        let g : a.node ≡ f = cc in
        λ z. record { number = n z; heartbeat = (g z).heartbeat; last_gc = (g z).last_gc; max = (g z).max }
    go false q e ih = ih e

-- ---- the queue

-- a node that is behind is in it
stale-in-table : (l : List NodeDigest) {e : Entry} (ties : List ℕ) {t : Table} → e ∈ t → (told_of e.number l).max < e.node.max → (o : StaleNode) × (o ∈ stale_nodes [] l ties t)
unfolding stale_nodes among
stale-in-table l {e = e} ties (here {a = a} {l = t} q) h =
    let k : (told_of a.number l).max < a.node.max = subst (λ (y : Entry). (told_of y.number l).max < y.node.max) q h in
    (stale_node (first_tie ties) (told_of a.number l) a, rw (lt-ltb _ _ k) (here refl))
stale-in-table l {e = e} ties (later {a = a} {l = t} m) h = go (ltb (told_of a.number l).max a.node.max) (stale-in-table l (other_ties ties) m h)
  where
    go : (b : Bool) → (o : StaleNode) × (o ∈ stale_nodes [] l (other_ties ties) t) → (o : StaleNode) × (o ∈ pick b (stale_node (first_tie ties) (told_of a.number l) a ∷ stale_nodes [] l (other_ties ties) t) (stale_nodes [] l (other_ties ties) t))
    go true x = (x.0, later x.1)
    go false x = x

queue-some : (o : StaleNode) (l : List StaleNode) → (x : StaleNode) × (r : List StaleNode) × (queue o l ≡ x ∷ r)
unfolding queue
queue-some o [] = (o, [], refl)
queue-some o (a ∷ l) = go (sooner o a)
  where
    go : (b : Bool) → (x : StaleNode) × (r : List StaleNode) × (pick b (o ∷ a ∷ l) (a ∷ queue o l) ≡ x ∷ r)
    go true = (o, a ∷ l, refl)
    go false = (a, queue o l, refl)

ordered-some : {o : StaleNode} (l : List StaleNode) → o ∈ l → (x : StaleNode) × (r : List StaleNode) × (ordered l ≡ x ∷ r)
unfolding ordered
ordered-some [] m = absurd (in-none m)
ordered-some (a ∷ l) m = queue-some a (ordered l)

-- what a node still needs, given the publisher's table and the follower's
abbrev pub lack : Table → Table → ℕ → ℕ
lack ours theirs i = needed (node_at i ours) (node_at i theirs)

first_fits : (room : ℕ) (ss : List KeyValue) → ((s : KeyValue) → s ∈ ss → record_size s ≤ room) → 0 < length ss → 0 < fitting room ss
unfolding fitting
first_fits room [] h z = absurd (omega arith)
first_fits room (s ∷ ss) h z = rw (le-leb (record_size s) room (h s (here refl))) (omega arith)

part-first : (mtu : ℕ) (x : StaleNode) (r : List StaleNode) → node_op_width ≤ mtu → part_at x.number (emit mtu (x ∷ r)) ≡ some (part_of mtu x).delta
unfolding part_at emit
part-first mtu x r h = rw (le-leb node_op_width mtu h, eq-eqb x.number x.number refl)

-- ---- a part that moves

-- the delta has a part that moves its node
abbrev pub Stirs : Table → List Op → Type 0
Stirs t ops = (i : ℕ) × (d : NodeDelta) × (part_at i (parts_of ops) ≡ some d) × Moves (node_at i t) d

-- In document 01's order it is that of the first in the queue, if the MTU is wide enough and no node is excluded.
module _ (mtu : ℕ) (ties : List ℕ) (told : List NodeDigest) (t : Table) (obeyed : obeys t ≡ true) (wide : least_width ≤ mtu) where
  first-stirs : (x : StaleNode) (r : List StaleNode) → ordered (stale_nodes [] told ties t) ≡ x ∷ r → Stirs t (delta_for [] ties mtu told t)
  unfolding delta_for
  first-stirs x r q = (x.number, (part_of mtu x).delta, part-is, subst₂ Moves node_is (sym delta-is) (delta-moves x.node x.told_gc x.told-max count o.behind (first_fits (mtu - node_op_width) (stale_of x) sizes)))
    where
      xin : x ∈ ordered (stale_nodes [] told ties t)
      xin = subst (λ (l : List StaleNode). x ∈ l) (sym q) (here refl)

      o : Behind told t x
      o = behind-from [] told ties t (ordered-from _ xin)

      count : ℕ
      count = fitting (mtu - node_op_width) (stale_of x)

      sizes : (s : KeyValue) → s ∈ stale_of x → record_size s ≤ mtu - node_op_width
      sizes s n =
          let z = stale-from (from_for x) x.node.recs n in
          let k = (ok-stale (table-facts t obeyed) o).node_ok.each z.0 z.1 in
          let a = k.key_fits in
          let b = k.value-fits in
          let c : record_size z.0.kv ≡ record_size s = ap record_size z.2 in
          omega arith

      delta-is : (part_of mtu x).delta ≡ node_delta x.node x.told_gc x.told-max count true
      delta-is = ap (node_delta x.node x.told_gc x.told-max count) (le-leb max_op_width (mtu - node_op_width) (omega arith))

      part-is : part_at x.number (parts_of (cut mtu (all_ops (ordered (stale_nodes [] told ties t))))) ≡ some (part_of mtu x).delta
      part-is =
          ap (part_at x.number) (sends mtu (ordered (stale_nodes [] told ties t)))
          ∙ ap (λ (l : List StaleNode). part_at x.number (emit mtu l)) q
          ∙ part-first mtu x r (omega arith)

      node_is : x.node ≡ node_at x.number t
      node_is = o.node_is ∙ sym (ap or_fresh (node-entry o.entry (table-facts t obeyed).ascending o.held)) ∙ ap (λ (j : ℕ). node_at j t) (sym o.number_is)

  -- while the digest is behind of any node
  pub line-stirs : (e : Entry) → e ∈ t → (told_of e.number told).max < e.node.max → Stirs t (delta_for [] ties mtu told t)
  line-stirs e m says = let order = ordered-some _ (stale-in-table told ties m says).1 in first-stirs order.0 order.1 order.2

-- ---- the exchange

-- a digest tells the pair that each node of the table has; its heartbeat may be another
abbrev pub Tells : List NodeDigest → Table → Type 0
Tells told t = (i : ℕ) (f : Node) → node_of i t ≡ some f → ((told_of i told).last_gc ≡ f.last_gc) × ((told_of i told).max ≡ f.max)

-- A node p of the publisher, the follower's at the digest (in the table `theirs`) and at the applying (in `met`): in between it went onward, and no
-- fence stands against a delta that has the publisher's last_gc.
pub record Way (fence : Fence) (theirs met : Table) (i : ℕ) (p : Node) : Type 0 where
  pub was : Node
  pub was_is : node_of i theirs ≡ some was
  pub came : Node
  pub came_is : node_of i met ≡ some came
  pub onward : Onward p was came
  pub lets : (m : ℕ) → fence came.last_gc came.max p.last_gc m ≡ false

module _ (fence : Fence) (now : ℕ) (told : List NodeDigest) (ours theirs met : Table) (asc : Ascending (numbers_of ours)) (way : (e : Entry) → e ∈ ours → Way fence theirs met e.number e.node) (tells : Tells told theirs) where
  -- a node that needs something is one that the digest is behind of
  pub lack-behind : (i : ℕ) → i ∈ numbers_of ours → 0 < lack ours theirs i → (e : Entry) × (e ∈ ours) × ((told_of e.number told).max < e.node.max)
  lack-behind i n z = (e, x.1, let a = (tells e.number f h).1 in let b = behind in omega arith)
    where
      p : (x : Node) × (node_of i ours ≡ some x)
      p = node-there i ours n

      x : (e : Entry) × (e ∈ ours) × (e.node ≡ p.0) × (i ≡ e.number)
      x = node_in i ours p.1

      e : Entry
      e = x.0

      f : Node
      f = (way e x.1).was

      h : node_of e.number theirs ≡ some f
      h = (way e x.1).was_is

      same : lack ours theirs i ≡ needed e.node f
      same = λ k. needed ((ap or_fresh p.1 ∙ sym x.2) k) ((ap (λ (j : ℕ). node_at j theirs) x.3 ∙ ap or_fresh h) k)

      behind : f.max < e.node.max
      behind = needed-some e.node f (subst (λ (k : ℕ). 0 < k) same z)

  -- Any delta that names no node twice; every node that has a part takes it, whatever else its ways may be: none answers Room.
  module _ (ops : List Op) (once : repeated (parts_of ops) ≡ false) (take : Taking) (took : (i : ℕ) (d : NodeDelta) (x : Node) → part_at i (parts_of ops) ≡ some d → node_of i met ≡ some x → (take d x).node ≡ outcome (delta_status fence x d) now d x) where
    unfoldable pub next : Table
    next = (apply_each take (parts_of ops) met).table

    -- the node after the exchange
    takes-it : (i : ℕ) (d : NodeDelta) (x : Node) → part_at i (parts_of ops) ≡ some d → node_of i met ≡ some x → node_at i next ≡ outcome (delta_status fence x d) now d x
    unfolding next
    takes-it i d x p h =
        ap or_fresh (node-each take i (parts_of ops) met once)
        ∙ ap (λ (o : Option Node). or_fresh (mapped (taking take (part_at i (parts_of ops))) o)) h
        ∙ ap (λ (o : Option NodeDelta). taking take o x) p
        ∙ took i d x p h

    -- A node whose part was made for the digest, and moves it, needs less.
    pub stirred : (excluded : List ℕ) (i : ℕ) (d : NodeDelta) → part_at i (parts_of ops) ≡ some d → PartFor excluded told ours i d → Moves (node_at i ours) d → (i ∈ numbers_of ours) × (lack ours next i < lack ours theirs i)
    unfolding node_delta
    stirred excluded i d q x moves = (subst (λ (j : ℕ). j ∈ numbers_of ours) (sym x.held.2) (number_in x.held.1), fall)
      where
        e : Entry
        e = x.held.0

        v : Way fence theirs met e.number e.node
        v = way e x.held.1

        f : Node
        f = v.was

        y : Node
        y = v.came

        was_is : node_of i theirs ≡ some f
        was_is = ap (λ (j : ℕ). node_of j theirs) x.held.2 ∙ v.was_is

        came_is : node_of i met ≡ some y
        came_is = ap (λ (j : ℕ). node_of j met) x.held.2 ∙ v.came_is

        p-is : node_at i ours ≡ e.node
        p-is = ap (λ (j : ℕ). node_at j ours) x.held.2 ∙ ap or_fresh (node-entry e asc x.held.1)

        gc_is : d.last_gc ≡ e.node.last_gc
        gc_is = ap (λ (k : NodeDelta). k.last_gc) x.delta-is ∙ ap (λ (n : Node). n.last_gc) p-is

        from_is : d.from ≡ from_of e.node.last_gc f.last_gc f.max
        from_is = ap (λ (k : NodeDelta). k.from) x.delta-is ∙ (λ z. from_of (p-is z).last_gc ((tells i f was_is).0 z) ((tells i f was_is).1 z))

        behind : f.max < e.node.max
        behind = let a = x.behind in let b = (tells i f was_is).1 in let c = ap (λ (n : Node). n.max) p-is in omega arith

        fall : lack ours next i < lack ours theirs i
        fall =
            let k =
            needed-falls fence now e.node f y d behind gc_is from_is v.onward
            (subst (λ (g : ℕ). fence y.last_gc y.max g d.max ≡ false) (sym gc_is) (v.lets d.max)) (subst (λ (n : Node). Moves n d) p-is moves) in
            let a : lack ours next i ≡ needed e.node (outcome (delta_status fence y d) now d y) = λ z. needed (p-is z) (takes-it i d y q came_is z) in
            let b : lack ours theirs i ≡ needed e.node f = λ z. needed (p-is z) (or_fresh (was_is z)) in
            omega arith
