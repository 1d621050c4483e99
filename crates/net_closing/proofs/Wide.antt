-- From which MTU on nothing is cut: 34 bytes for each node of the sender's table and the size of each record are enough, whatever the digest.
use Prim.Native.Nat.{◌*◌, ◌+◌, ◌-◌, ◌<◌, ◌≤◌, suc, ℕ}
use mathlib.Core.Bool.{Bool, ◌&&◌, false, not, true}
use mathlib.Core.List.{List, [], ◌∷◌}
use mathlib.Core.Logic.{◌⊎◌, inl, inr}
use mathlib.Core.Option.{Option, some}
use mathlib.Core.Path.{◌∙◌, ◌≡◌, ap, refl, subst, sym}
use native.Mathlib.Omega.{arith}
use lib.Dec.{eqb, leb, ltb}
use lib.ListN.{length, take}
use borrow.Author.Tests.{eq-eqb, eqb-false, eqb-true, le-leb, ltb-false}
use Rattle.fields.proofs.Choice.{in-cons, in-none}
use Rattle.fields.specs.Choice.{◌∈◌, here, later, pick}
use Rattle.rules.proofs.Calls.{node_in}
use Rattle.rules.proofs.Obeys.{Ascending, OkEntry, OkRec, OkTable}
use Rattle.rules.proofs.Sending.{after_max, emit, fitting, left_over, node_delta, part_of, record_size, sends}
use Rattle.rules.proofs.Tables.{Behind, behind-from, computed-once, node-entry, ordered-from, part_in, part_at, repeated}
use Rattle.rules.specs.Compute.{StaleNode, by_version, delta_for, first_tie, from_of, ordered, other_ties, queue, sooner, stale, stale_node, stale_nodes, stale_of, told_of}
use Rattle.rules.specs.Delta.{NodeDelta, Op, Part, parts_of}
use Rattle.rules.specs.Digest.{NodeDigest, digest_of}
use Rattle.rules.specs.Node.{KeyValue, Node, Rec}
use Rattle.rules.specs.Table.{Entry, Table, among, node_of, numbers_of}
use Rattle.demand3.proofs.Nearer.{told-held}
use Rattle.demand3.proofs.Needed.{Moves, brings, completes, delta-moves}
use Rattle.net.proofs.Coming.{part-there}
use Rattle.net_closing.specs.Closing.{PartIn, record_bytes, records_in, weight}

-- ---- sizes

unfoldable sizes : List KeyValue → ℕ
sizes [] = 0
sizes (s ∷ ss) = record_size s + sizes ss

unfoldable needs : List StaleNode → ℕ
needs [] = 0
needs (o ∷ os) = 34 + sizes (stale_of o) + needs os

sizes-by : (s : KeyValue) (l : List KeyValue) → sizes (by_version s l) ≡ record_size s + sizes l
unfolding sizes by_version
sizes-by s [] = refl
sizes-by s (a ∷ l) = go (leb s.version a.version) (sizes-by s l)
  where
    go : (b : Bool) → sizes (by_version s l) ≡ record_size s + sizes l → sizes (pick b (s ∷ a ∷ l) (a ∷ by_version s l)) ≡ record_size s + (record_size a + sizes l)
    go true ih = refl
    go false ih = omega arith

sizes-stale : (from : ℕ) (l : List Rec) → sizes (stale from l) ≤ record_bytes l
unfolding sizes stale record_bytes
sizes-stale from [] = omega arith
sizes-stale from (r ∷ l) = go (ltb from r.kv.version) (sizes-stale from l) (sizes-by r.kv (stale from l))
  where
    go : (b : Bool) → sizes (stale from l) ≤ record_bytes l → sizes (by_version r.kv (stale from l)) ≡ record_size r.kv + sizes (stale from l) → sizes (pick b (by_version r.kv (stale from l)) (stale from l)) ≤ record_size r.kv + record_bytes l
    go true ih e = omega arith
    go false ih e = omega arith

needs-queue : (o : StaleNode) (l : List StaleNode) → needs (queue o l) ≡ 34 + sizes (stale_of o) + needs l
unfolding needs queue
needs-queue o [] = refl
needs-queue o (a ∷ l) = go (sooner o a) (needs-queue o l)
  where
    go : (b : Bool) → needs (queue o l) ≡ 34 + sizes (stale_of o) + needs l → needs (pick b (o ∷ a ∷ l) (a ∷ queue o l)) ≡ 34 + sizes (stale_of o) + (34 + sizes (stale_of a) + needs l)
    go true ih = refl
    go false ih = omega arith

needs-ordered : (l : List StaleNode) → needs (ordered l) ≡ needs l
unfolding needs ordered
needs-ordered [] = refl
needs-ordered (o ∷ l) = let a = needs-queue o (ordered l) in let b = needs-ordered l in omega arith

needs-stale : (excluded : List ℕ) (ds : List NodeDigest) (ties : List ℕ) (t : Table) → needs (stale_nodes excluded ds ties t) ≤ weight t
unfolding needs stale_nodes weight
needs-stale excluded ds ties [] = omega arith
needs-stale excluded ds ties (e ∷ t) = go (not (among e.number excluded) && ltb (told_of e.number ds).max e.node.max) (needs-stale excluded ds (other_ties ties) t)
  where
    first : StaleNode
    first = stale_node (first_tie ties) (told_of e.number ds) e

    rest : List StaleNode
    rest = stale_nodes excluded ds (other_ties ties) t

    go : (b : Bool) → needs rest ≤ weight t → needs (pick b (first ∷ rest) rest) ≤ 34 + record_bytes e.node.recs + weight t
    go true ih = let a = sizes-stale (from_of e.node.last_gc (told_of e.number ds).last_gc (told_of e.number ds).max) e.node.recs in omega arith
    go false ih = omega arith

-- ---- the parts of a delta that is not cut

fit_all : (room : ℕ) (ss : List KeyValue) → sizes ss ≤ room → (fitting room ss ≡ length ss) × (left_over room ss + sizes ss ≡ room)
unfolding sizes fitting left_over
fit_all room [] h = (refl, omega arith)
fit_all room (s ∷ ss) h =
    let ih = fit_all (room - record_size s) ss (omega arith) in
    rw (le-leb (record_size s) room (omega arith)) (ap suc ih.0, let e = ih.1 in omega arith)

max-low : (ss : List KeyValue) (r : ℕ) → r ≤ after_max ss r + 9
max-low [] r = go (leb 9 r)
  where
    go : (b : Bool) → r ≤ pick b (r - 9) r + 9
    go true = omega arith
    go false = omega arith
max-low (s ∷ ss) r = omega arith

-- a node's own part, whole
WholePart : List StaleNode → ℕ → Option NodeDelta → Type 0
WholePart os i p = (x : StaleNode) × (x ∈ os) × (i ≡ x.number) × (p ≡ some (node_delta x.node x.told_gc x.told-max (length (stale_of x)) true))

-- a node that fits goes over whole
module _ (room : ℕ) (a : StaleNode) (os : List StaleNode) (h : 34 + sizes (stale_of a) ≤ room) where
  abbrev behind-it : ℕ
  behind-it = after_max (stale_of a) (left_over (room - 25) (stale_of a))

  fit : (fitting (room - 25) (stale_of a) ≡ length (stale_of a)) × (left_over (room - 25) (stale_of a) + sizes (stale_of a) ≡ room - 25)
  fit = fit_all (room - 25) (stale_of a) (omega arith)

  emit-first : emit room (a ∷ os) ≡ part_of room a ∷ emit behind-it os
  unfolding emit
  emit-first = rw (le-leb 25 room (omega arith), eq-eqb (fitting (room - 25) (stale_of a)) (length (stale_of a)) fit.0)

  first_is : (part_of room a).delta ≡ node_delta a.node a.told_gc a.told-max (length (stale_of a)) true
  first_is =
      let f : fitting (room - 25) (stale_of a) ≡ length (stale_of a) = fit.0 in
      let g : leb 9 (room - 25) ≡ true = le-leb 9 (room - 25) (omega arith) in
      λ z. node_delta a.node a.told_gc a.told-max (f z) (g z)

  room-left : room ≤ behind-it + (34 + sizes (stale_of a))
  room-left = let b = max-low (stale_of a) (left_over (room - 25) (stale_of a)) in let c = fit.1 in omega arith

whole-cons : (i : ℕ) (a : StaleNode) (os : List StaleNode) (d : NodeDelta) (rest : List Part) (n : ℕ)
    → d ≡ node_delta a.node a.told_gc a.told-max (length (stale_of a)) true
    → n ≡ a.number
    → ((i ≡ a.number → ⊥) → WholePart os i (part_at i rest))
    → WholePart (a ∷ os) i (part_at i (record { number = n; delta = d } ∷ rest))
unfolding part_at WholePart
whole-cons i a os d rest n e v ih = go (eqb i n) refl
  where
    go : (b : Bool) → eqb i n ≡ b → WholePart (a ∷ os) i (pick b (some d) (part_at i rest))
    go true q = (a, here refl, eqb-true _ _ q ∙ v, ap some e)
    go false q = let y = ih (λ f. eqb-false _ _ q (f ∙ sym v)) in (y.0, later y.1, y.2, y.3)

emit-whole : (room : ℕ) (os : List StaleNode) → needs os ≤ room → (i : ℕ) (o : StaleNode) → o ∈ os → i ≡ o.number → WholePart os i (part_at i (emit room os))
unfolding needs
emit-whole room [] h i o m e = absurd (in-none m)
emit-whole room (a ∷ os) h i o m e =
    subst (λ (l : List Part). WholePart (a ∷ os) i (part_at i l)) (sym (emit-first room a os (omega arith)))
    (whole-cons i a os (part_of room a).delta (emit (behind-it room a os (omega arith)) os) a.number (first_is room a os (omega arith)) refl
    (λ f. emit-whole (behind-it room a os (omega arith)) os (let b = room-left room a os (omega arith) in omega arith) i o (at (in-cons m) f) e))
  where
    at : (o ≡ a) ⊎ (o ∈ os) → (i ≡ a.number → ⊥) → o ∈ os
    at (inl q) f = absurd (f (e ∙ ap (λ (y : StaleNode). y.number) q))
    at (inr n) f = n

-- ---- the queue has every node that is behind

queue-new : (o : StaleNode) (l : List StaleNode) → o ∈ queue o l
unfolding queue
queue-new o [] = here refl
queue-new o (a ∷ l) = go (sooner o a) (queue-new o l)
  where
    go : (b : Bool) → o ∈ queue o l → o ∈ pick b (o ∷ a ∷ l) (a ∷ queue o l)
    go true m = here refl
    go false m = later m

queue-old : (o : StaleNode) {x : StaleNode} (l : List StaleNode) → x ∈ l → x ∈ queue o l
unfolding queue
queue-old o [] m = absurd (in-none m)
queue-old o {x} (a ∷ l) m = go (sooner o a) (in-cons m) (queue-old o l)
  where
    go : (b : Bool) → (x ≡ a) ⊎ (x ∈ l) → (x ∈ l → x ∈ queue o l) → x ∈ pick b (o ∷ a ∷ l) (a ∷ queue o l)
    go true n ih = later m
    go false (inl e) ih = here e
    go false (inr n) ih = later (ih n)

ordered-in : {x : StaleNode} (l : List StaleNode) → x ∈ l → x ∈ ordered l
unfolding ordered
ordered-in [] m = m
ordered-in {x} (o ∷ l) m = at (in-cons m) (ordered-in l)
  where
    at : (x ≡ o) ⊎ (x ∈ l) → (x ∈ l → x ∈ ordered l) → x ∈ queue o (ordered l)
    at (inl e) ih = subst (λ (y : StaleNode). y ∈ queue o (ordered l)) (sym e) (queue-new o (ordered l))
    at (inr n) ih = queue-old o (ordered l) (ih n)

stale-in-table : (l : List NodeDigest) (ties : List ℕ) (t : Table) (e : Entry) → e ∈ t → (told_of e.number l).max < e.node.max → (o : StaleNode) × (o ∈ stale_nodes [] l ties t) × (e.number ≡ o.number)
unfolding stale_nodes among
stale-in-table l ties [] e m h = absurd (in-none m)
stale-in-table l ties (a ∷ t) e m h = go (ltb (told_of a.number l).max a.node.max) refl (in-cons m) (stale-in-table l (other_ties ties) t e)
  where
    Out : List StaleNode → Type 0
    Out os = (o : StaleNode) × (o ∈ os) × (e.number ≡ o.number)

    first : StaleNode
    first = stale_node (first_tie ties) (told_of a.number l) a

    rest : List StaleNode
    rest = stale_nodes [] l (other_ties ties) t

    go : (b : Bool) → ltb (told_of a.number l).max a.node.max ≡ b → (e ≡ a) ⊎ (e ∈ t) → (e ∈ t → (told_of e.number l).max < e.node.max → Out rest) → Out (pick b (first ∷ rest) rest)
    go true q (inl f) ih = (first, here refl, ap (λ (y : Entry). y.number) f)
    go true q (inr n) ih = let x = ih n h in (x.0, later x.1, x.2)
    go false q (inl f) ih =
        let k : (told_of a.number l).max < a.node.max = subst (λ (y : Entry). (told_of y.number l).max < y.node.max) f h in
        let z = ltb-false (told_of a.number l).max a.node.max q in
        absurd (omega arith)
    go false q (inr n) ih = ih n h

take_all : {A : Type 0} (l : List A) → take (length l) l ≡ l
take_all [] = refl
take_all (a ∷ l) = ap (λ (k : List _). a ∷ k) (take_all l)

-- ---- the part of a node that is behind

module _ (ties : List ℕ) (mtu : ℕ) (t u : Table) (asc : Ascending (numbers_of u)) (wide : weight u ≤ mtu) (i : ℕ) (n m : Node) (p : node_of i t ≡ some n) (q : node_of i u ≡ some m) (late : n.max < m.max) where
  abbrev ops : List Op
  ops = delta_for [] ties mtu (digest_of [] t) u

  abbrev count : ℕ
  count = length (stale (from_of m.last_gc n.last_gc n.max) m.recs)

  abbrev d : NodeDelta
  d = node_delta m n.last_gc n.max count true

  line : List StaleNode
  line = ordered (stale_nodes [] (digest_of [] t) ties u)

  wide_at : part_at i (parts_of ops) ≡ some d
  unfolding line WholePart delta_for
  wide_at = ap (part_at i) (sends mtu line) ∙ got.3 ∙ same
    where
      Told : ℕ → Type 0
      Told j = told_of j (digest_of [] t) ≡ record { number = i; heartbeat = n.heartbeat; last_gc = n.last_gc; max = n.max }

      told : Told i
      told = told-held i t n p

      entry : (e : Entry) × (e ∈ u) × (e.node ≡ m) × (i ≡ e.number)
      entry = node_in i u q

      behind : (told_of entry.0.number (digest_of [] t)).max < entry.0.node.max
      behind =
          let a : (told_of entry.0.number (digest_of [] t)).max ≡ n.max = ap (λ (d : NodeDigest). d.max) (subst Told entry.3 told) in
          let b : entry.0.node.max ≡ m.max = ap (λ (k : Node). k.max) entry.2 in
          omega arith

      queued : (o : StaleNode) × (o ∈ stale_nodes [] (digest_of [] t) ties u) × (entry.0.number ≡ o.number)
      queued = stale-in-table (digest_of [] t) ties u entry.0 entry.1 behind

      got : WholePart line i (part_at i (emit mtu line))
      got =
          emit-whole mtu line (let a = needs-ordered (stale_nodes [] (digest_of [] t) ties u) in let b = needs-stale [] (digest_of [] t) ties u in omega arith) i queued.0
          (ordered-in _ queued.1) (entry.3 ∙ queued.2)

      x : StaleNode
      x = got.0

      back : Behind (digest_of [] t) u x
      back = behind-from [] (digest_of [] t) ties u (ordered-from _ got.1)

      number_is : i ≡ back.entry.number
      number_is = got.2 ∙ back.number_is

      held : node_of i u ≡ some back.entry.node
      held = ap (λ (j : ℕ). node_of j u) number_is ∙ node-entry back.entry asc back.held

      node-same : back.entry.node ≡ m
      node-same = cc (held, q)

      node_is : x.node ≡ m
      node_is = back.node_is ∙ node-same

      says : Told back.entry.number
      says = subst Told number_is told

      gc_is : x.told_gc ≡ n.last_gc
      gc_is = back.gc_is ∙ ap (λ (y : NodeDigest). y.last_gc) says

      max-is : x.told-max ≡ n.max
      max-is = back.max-is ∙ ap (λ (y : NodeDigest). y.max) says

      same : some (node_delta x.node x.told_gc x.told-max (length (stale_of x)) true) ≡ some (node_delta m n.last_gc n.max (length (stale (from_of m.last_gc n.last_gc n.max) m.recs)) true)
      same = λ z. some (node_delta (node_is z) (gc_is z) (max-is z) (length (stale (from_of (node_is z).last_gc (gc_is z) (max-is z)) (node_is z).recs)) true)

  -- it carries something
  pub wide-brings : (d : NodeDelta) × PartIn (delta_for [] ties mtu (digest_of [] t) u) i d × (0 < d.max)
  wide-brings =
      let x = part_in i (parts_of ops) wide_at in
      let same : ◌≡◌ {A = Part} x.0 (record { number = i; delta = d }) = (λ z. record { number = sym x.3 z; delta = x.2 z }) in
      (d, subst (λ (y : Part). y ∈ parts_of ops) same x.1, some-comes (delta-moves m n.last_gc n.max count late (λ a. a)))
    where
      some-comes : Moves m d → 0 < d.max
      some-comes (brings r k a b) = omega arith
      some-comes (completes a) = omega arith

  -- and nothing is cut
  pub wide-uncut : (e : NodeDelta) → PartIn (delta_for [] ties mtu (digest_of [] t) u) i e → length e.recs ≡ length (stale e.from m.recs)
  unfolding node_delta line delta_for
  wide-uncut e k = subst (λ (y : NodeDelta). length y.recs ≡ length (stale y.from m.recs)) is (ap length (take_all (stale (from_of m.last_gc n.last_gc n.max) m.recs)))
    where
      once : repeated (parts_of ops) ≡ false
      once = ap repeated (sends mtu (ordered (stale_nodes [] (digest_of [] t) ties u))) ∙ computed-once [] ties mtu (digest_of [] t) u asc

      given : part_at i (parts_of ops) ≡ some e
      given = part-there (parts_of ops) once (record { number = i; delta = e }) k

      is : d ≡ e
      is = cc (wide_at, given)

-- ---- a number that is enough

rec-bytes : (max : ℕ) (l : List Rec) → ((r : Rec) → r ∈ l → OkRec max r) → record_bytes l ≤ 110 * length l
unfolding record_bytes
rec-bytes max [] f = omega arith
rec-bytes max (r ∷ l) f = let a = f r (here refl) in let b = a.key_fits in let c = a.value-fits in let ih = rec-bytes max l (λ s m. f s (later m)) in omega arith

weigh : (t : Table) → ((e : Entry) → e ∈ t → OkEntry e) → weight t ≤ 34 * length t + 110 * records_in t
unfolding weight records_in
weigh [] f = omega arith
weigh (e ∷ t) f = let a = rec-bytes e.node.max e.node.recs (f e (here refl)).node_ok.each in let ih = weigh t (λ g m. f g (later m)) in omega arith

-- 34 bytes for each node and 110 for each record
pub weight-low : (t : Table) → OkTable t → weight t ≤ 34 * length t + 110 * records_in t
weight-low t ok = weigh t ok.each
