-- Where a node of a table and of a delta is found, and which nodes computing sends. Assumes nothing.
use Prim.Native.Nat.{◌-◌, ◌<◌, ℕ}
use mathlib.Core.Bool.{Bool, ◌&&◌, false, not, true, true≢false}
use mathlib.Core.List.{List, [], ◌∷◌}
use mathlib.Core.Logic.{◌⊎◌, inl, inr}
use mathlib.Core.Option.{Option, none, some}
use mathlib.Core.Path.{◌∙◌, ◌≡◌, ap, refl, subst, sym}
use native.Mathlib.Omega.{arith}
use lib.Dec.{eqb, leb, ltb}
use lib.ListN.{length, take}
use borrow.Author.Tests.{eq-eqb, eqb-false, eqb-true, ltb-true, ne_eqb}
use Rattle.fields.proofs.Choice.{in-cons, in-none}
use Rattle.fields.specs.Choice.{◌∈◌, here, later, pick}
use Rattle.fields.specs.Parts.{put}
use Rattle.rules.proofs.Obeys.{Ascending, number_in}
use Rattle.rules.proofs.Sending.{after_max, emit, fitting, left_over, node_delta, part_of}
use Rattle.rules.specs.Apply.{ApplyOutcome, Taking, Ways, apply, apply_each, apply_node, apply_ops, codes, on_node}
use Rattle.rules.specs.Compute.{StaleNode, first_tie, ordered, other_ties, queue, sooner, stale_node, stale_nodes, stale_of, told_of}
use Rattle.rules.specs.Delta.{Faulty, Good, NodeDelta, Op, Ops, Part, max_op_width, node_op_width, parts_of}
use Rattle.rules.specs.Digest.{NodeDigest}
use Rattle.rules.specs.Node.{Node, Rec, due, remove}
use Rattle.rules.specs.Table.{Entry, Table, among, node_of, numbers_of, remove_all, set_node}
use Rattle.rules.specs.declared.Refusal.TheVariants.{NoPlace}
use Rattle.std.specs.Prelude.{Err, Ok}

-- ---- a node of a table

abbrev pub mapped : (Node → Node) → Option Node → Option Node
mapped f none = none
mapped f (some n) = some (f n)

pub node-set-same : (i : ℕ) (n : Node) (t : Table) {m : Node} → node_of i t ≡ some m → node_of i (set_node i n t) ≡ some n
unfolding node_of set_node
node-set-same i n [] e = let z : ◌≡◌ {A = ℕ} 0 1 = cc in absurd (omega arith)
node-set-same i n (a ∷ t) {m} e = go (eqb i a.number) refl e (node-set-same i n t)
  where
    go : (b : Bool) → eqb i a.number ≡ b → pick b (some a.node) (node_of i t) ≡ some m → (node_of i t ≡ some m → node_of i (set_node i n t) ≡ some n) → node_of i (pick b (record { number = a.number; node = n } ∷ t) (a ∷ set_node i n t)) ≡ some n
    go true q e ih = rw q
    go false q e ih = rw q (ih e)

pub node-set-other : (i j : ℕ) (n : Node) (t : Table) → eqb i j ≡ false → node_of i (set_node j n t) ≡ node_of i t
unfolding node_of set_node
node-set-other i j n [] e = refl
node-set-other i j n (a ∷ t) e = go (eqb j a.number) refl (node-set-other i j n t e)
  where
    go : (b : Bool) → eqb j a.number ≡ b → node_of i (set_node j n t) ≡ node_of i t → node_of i (pick b (record { number = a.number; node = n } ∷ t) (a ∷ set_node j n t)) ≡ node_of i (a ∷ t)
    go true q ih = rw (ne_eqb i a.number (λ f. eqb-false i j e (f ∙ sym (eqb-true _ _ q))))
    go false q ih = ap (pick (eqb i a.number) (some a.node)) ih

pub node-remove : (due : ℕ → Rec → Bool) (i : ℕ) (t : Table) → node_of i (remove_all due t) ≡ mapped (remove (due i)) (node_of i t)
unfolding node_of remove_all
node-remove due i [] = refl
node-remove due i (a ∷ t) = go (eqb i a.number) refl (node-remove due i t)
  where
    go : (b : Bool) → eqb i a.number ≡ b → node_of i (remove_all due t) ≡ mapped (remove (due i)) (node_of i t) → pick b (some (remove (due a.number) a.node)) (node_of i (remove_all due t)) ≡ mapped (remove (due i)) (pick b (some a.node) (node_of i t))
    go true q ih = ap (λ (n : ℕ). some (remove (due n) a.node)) (sym (eqb-true _ _ q))
    go false q ih = ih

-- no node comes or goes
pub numbers-set : (i : ℕ) (n : Node) (t : Table) → numbers_of (set_node i n t) ≡ numbers_of t
unfolding numbers_of set_node
numbers-set i n [] = refl
numbers-set i n (a ∷ t) = go (eqb i a.number) (numbers-set i n t)
  where
    go : (b : Bool) → numbers_of (set_node i n t) ≡ numbers_of t → numbers_of (pick b (record { number = a.number; node = n } ∷ t) (a ∷ set_node i n t)) ≡ a.number ∷ numbers_of t
    go true ih = refl
    go false ih = ap (λ (l : List ℕ). a.number ∷ l) ih

pub numbers-remove : (due : ℕ → Rec → Bool) (t : Table) → numbers_of (remove_all due t) ≡ numbers_of t
unfolding numbers_of remove_all
numbers-remove due [] = refl
numbers-remove due (a ∷ t) = ap (λ (l : List ℕ). a.number ∷ l) (numbers-remove due t)

pub node-entry : (e : Entry) {t : Table} → Ascending (numbers_of t) → e ∈ t → node_of e.number t ≡ some e.node
unfolding node_of numbers_of Ascending
node-entry e asc (here {a = a} {l = t} q) = rw (eq-eqb e.number a.number (ap (λ (y : Entry). y.number) q)) (ap (λ (y : Entry). some y.node) (sym q))
node-entry e asc (later {a = a} {l = t} m) =
    let h = asc.0 e.number (number_in m) in
    rw (ne_eqb e.number a.number (λ q. omega arith)) (node-entry e asc.1 m)

-- a number of the table has its node
pub node-there : (i : ℕ) (t : Table) → i ∈ numbers_of t → (f : Node) × (node_of i t ≡ some f)
unfolding numbers_of node_of
node-there i [] m = absurd (in-none m)
node-there i (a ∷ t) m = go (eqb i a.number) refl (in-cons m) (node-there i t)
  where
    go : (b : Bool) → eqb i a.number ≡ b → (i ≡ a.number) ⊎ (i ∈ numbers_of t) → (i ∈ numbers_of t → (f : Node) × (node_of i t ≡ some f)) → (f : Node) × (pick b (some a.node) (node_of i t) ≡ some f)
    go true q x ih = (a.node, refl)
    go false q (inl e) ih = absurd (eqb-false i a.number q e)
    go false q (inr m) ih = ih m

-- ---- a delta at a table

-- the node's part of a delta
unfoldable pub part_at : ℕ → List Part → Option NodeDelta
part_at i [] = none
part_at i (x ∷ xs) = pick (eqb i x.number) (some x.delta) (part_at i xs)

abbrev pub present : Option NodeDelta → Bool
present none = false
present (some d) = true

-- it is one of the parts
pub part_in : (i : ℕ) (xs : List Part) {d : NodeDelta} → part_at i xs ≡ some d → (x : Part) × (x ∈ xs) × (x.delta ≡ d) × (i ≡ x.number)
unfolding part_at
part_in i [] q = let z : ◌≡◌ {A = ℕ} 0 1 = cc in absurd (omega arith)
part_in i (x ∷ xs) {d} q = go (eqb i x.number) refl q (part_in i xs)
  where
    go : (b : Bool) → eqb i x.number ≡ b → pick b (some x.delta) (part_at i xs) ≡ some d → (part_at i xs ≡ some d → (y : Part) × (y ∈ xs) × (y.delta ≡ d) × (i ≡ y.number)) → (y : Part) × (y ∈ x ∷ xs) × (y.delta ≡ d) × (i ≡ y.number)
    go true e q ih = (x, here refl, cc, eqb-true i x.number e)
    go false e q ih = let y = ih q in (y.0, later y.1, y.2, y.3)

-- a node is named twice
unfoldable pub repeated : List Part → Bool
repeated [] = false
repeated (x ∷ xs) = pick (present (part_at x.number xs)) true (repeated xs)

-- a node takes its own part of the delta, if there is one
abbrev pub taking : Taking → Option NodeDelta → Node → Node
taking take none n = n
taking take (some d) n = (take d n).node

mapped-same : (o : Option Node) → mapped (λ n. n) o ≡ o
mapped-same none = refl
mapped-same (some n) = refl

absent : (o : Option NodeDelta) → present o ≡ false → o ≡ none
absent none q = refl
absent (some d) q = absurd (true≢false q)

-- the table after one part
abbrev after_part : Taking → Part → Option Node → Table → Table
after_part take x none t = t
after_part take x (some n) t = set_node x.number (take x.delta n).node t

module _ (take : Taking) (x : Part) (xs : List Part) (t : Table) where
  abbrev t' : Table
  t' = after_part take x (node_of x.number t) t

  each-table : (apply_each take (x ∷ xs) t).table ≡ (apply_each take xs t').table
  unfolding apply_each
  each-table = go (node_of x.number t)
    where
      go : (o : Option Node) → (on_node take x o t (apply_each take xs)).table ≡ (apply_each take xs (after_part take x o t)).table
      go none = refl
      go (some n) = refl

  part-other : (i : ℕ) → eqb i x.number ≡ false → node_of i t' ≡ node_of i t
  part-other i q = go (node_of x.number t)
    where
      go : (o : Option Node) → node_of i (after_part take x o t) ≡ node_of i t
      go none = refl
      go (some n) = node-set-other i x.number (take x.delta n).node t q

  part_same : node_of x.number t' ≡ mapped (λ n. (take x.delta n).node) (node_of x.number t)
  part_same = go (node_of x.number t) refl
    where
      go : (o : Option Node) → node_of x.number t ≡ o → node_of x.number (after_part take x o t) ≡ mapped (λ n. (take x.delta n).node) o
      go none q = q
      go (some n) q = node-set-same x.number (take x.delta n).node t q

-- each node takes its own part, once
pub node-each : (take : Taking) (i : ℕ) (xs : List Part) (t : Table) → repeated xs ≡ false → node_of i (apply_each take xs t).table ≡ mapped (taking take (part_at i xs)) (node_of i t)
unfolding apply_each part_at repeated
node-each take i [] t q = sym (mapped-same (node_of i t))
node-each take i (x ∷ xs) t q = ap (node_of i) (each-table take x xs t) ∙ go (present (part_at x.number xs)) refl q (eqb i x.number) refl (node-each take i xs (t' take x xs t))
  where
    next : Table
    next = t' take x xs t

    go : (c : Bool) → present (part_at x.number xs) ≡ c → pick c true (repeated xs) ≡ false → (b : Bool) → eqb i x.number ≡ b → (repeated xs ≡ false → node_of i (apply_each take xs next).table ≡ mapped (taking take (part_at i xs)) (node_of i next)) → node_of i (apply_each take xs next).table ≡ mapped (taking take (pick b (some x.delta) (part_at i xs))) (node_of i t)
    go true p q b e ih = absurd (true≢false q)
    go false p q true e ih =
        let j : i ≡ x.number = eqb-true i x.number e in
        let gone : part_at i xs ≡ none = ap (λ (k : ℕ). part_at k xs) j ∙ absent (part_at x.number xs) p in
        ih q
        ∙ ap (λ (o : Option NodeDelta). mapped (taking take o) (node_of i next)) gone
        ∙ mapped-same (node_of i next)
        ∙ subst (λ (k : ℕ). node_of k next ≡ mapped (λ n. (take x.delta n).node) (node_of k t)) (sym j) (part_same take x xs t)
    go false p q false e ih = ih q ∙ ap (mapped (taking take (part_at i xs))) (part-other take x xs t i e)

-- and its answer is among the answers
pub answer-each : (take : Taking) (i : ℕ) (xs : List Part) (t : Table) (d : NodeDelta) (n : Node) → part_at i xs ≡ some d → node_of i t ≡ some n → (take d n).answer ∈ (apply_each take xs t).answers
unfolding apply_each part_at
answer-each take i [] t d n q e = let z : ◌≡◌ {A = ℕ} 0 1 = cc in absurd (omega arith)
answer-each take i (x ∷ xs) t d n q e = go (eqb i x.number) refl q (answer-each take i xs (t' take x xs t) d n)
  where
    later-on : (o : Option Node) → (take d n).answer ∈ (apply_each take xs (after_part take x o t)).answers → (take d n).answer ∈ (on_node take x o t (apply_each take xs)).answers
    later-on none m = later m
    later-on (some f) m = later m

    now_on : (o : Option Node) → o ≡ some n → x.delta ≡ d → (take d n).answer ∈ (on_node take x o t (apply_each take xs)).answers
    now_on none p r = let z : ◌≡◌ {A = ℕ} 0 1 = cc in absurd (omega arith)
    now_on (some f) p r = let f-is : f ≡ n = cc in here (λ z. (take (sym r z) (sym f-is z)).answer)

    go : (b : Bool) → eqb i x.number ≡ b → pick b (some x.delta) (part_at i xs) ≡ some d → (part_at i xs ≡ some d → node_of i (t' take x xs t) ≡ some n → (take d n).answer ∈ (apply_each take xs (t' take x xs t)).answers) → (take d n).answer ∈ (on_node take x (node_of x.number t) t (apply_each take xs)).answers
    go true p q ih = now_on (node_of x.number t) (ap (λ (k : ℕ). node_of k t) (sym (eqb-true i x.number p)) ∙ e) cc
    go false p q ih = later-on (node_of x.number t) (ih q (part-other take x xs t i p ∙ e))

pub numbers-each : (take : Taking) (xs : List Part) (t : Table) → numbers_of (apply_each take xs t).table ≡ numbers_of t
unfolding apply_each
numbers-each take [] t = refl
numbers-each take (x ∷ xs) t = ap numbers_of (each-table take x xs t) ∙ numbers-each take xs _ ∙ at (node_of x.number t)
  where
    at : (o : Option Node) → numbers_of (after_part take x o t) ≡ numbers_of t
    at none = refl
    at (some n) = numbers-set x.number (take x.delta n).node t

-- applying leaves the table, or each node takes its part of what was read
pub applied-table : (ways : Ways) (b : List ℕ) (now : ℕ) (t : Table) (l : List ℕ) (P : Table → Type 0)
    → P t
    → ((ops : List Op) → ways.reads b ≡ Good ops → P (apply_each (apply_node ways now) (parts_of ops) t).table)
    → P (apply ways b now t l).table
unfolding apply
applied-table ways b now t l P stay took = go (ways.reads b) refl
  where
    room : (xs : List Part) → P (apply_each (apply_node ways now) xs t).table → (c : Bool) → P (pick {X = ApplyOutcome} c (record { answer = Ok (length xs); table = (apply_each (apply_node ways now) xs t).table; list = put 0 (codes (apply_each (apply_node ways now) xs t).answers) l }) (record { answer = (Err (record { why = NoPlace; at = 0 })); table = t; list = l })).table
    room xs x true = x
    room xs x false = stay

    go : (o : Ops) → ways.reads b ≡ o → P (apply_ops (apply_node ways now) o t l).table
    go (Good ops) q = room (parts_of ops) (took ops q) (leb (length (parts_of ops)) (length l))
    go (Faulty r at) q = stay

-- no node comes or goes
pub numbers-apply : (ways : Ways) (b : List ℕ) (now : ℕ) (t : Table) (l : List ℕ) → numbers_of (apply ways b now t l).table ≡ numbers_of t
numbers-apply ways b now t l = applied-table ways b now t l (λ u. numbers_of u ≡ numbers_of t) refl (λ ops q. numbers-each (apply_node ways now) (parts_of ops) t)

-- ---- what computing sends

-- a stale node is of the table, and behind there
pub record Behind (l : List NodeDigest) (t : Table) (o : StaleNode) : Type 0 where
  pub entry : Entry
  pub held : entry ∈ t
  pub number_is : o.number ≡ entry.number
  pub node_is : o.node ≡ entry.node
  pub gc_is : o.told_gc ≡ (told_of entry.number l).last_gc
  pub max-is : o.told-max ≡ (told_of entry.number l).max
  pub behind : o.told-max < o.node.max

pub behind-from : (excluded : List ℕ) (l : List NodeDigest) (ties : List ℕ) (t : Table) {o : StaleNode} → o ∈ stale_nodes excluded l ties t → Behind l t o
unfolding stale_nodes
behind-from excluded l ties [] m = absurd (in-none m)
behind-from excluded l ties (e ∷ t) {o} m = go (among e.number excluded) (ltb (told_of e.number l).max e.node.max) refl m (behind-from excluded l (other_ties ties) t)
  where
    up : Behind l t o → Behind l (e ∷ t) o
    up x =
        record {
          entry = x.entry;
          held = later x.held;
          number_is = x.number_is;
          node_is = x.node_is;
          gc_is = x.gc_is;
          max-is = x.max-is;
          behind = x.behind;
        }

    mine : ltb (told_of e.number l).max e.node.max ≡ true → (o ≡ stale_node (first_tie ties) (told_of e.number l) e) → Behind l (e ∷ t) o
    mine q p =
        subst (Behind l (e ∷ t)) (sym p)
        (record { entry = e; held = here refl; number_is = refl; node_is = refl; gc_is = refl; max-is = refl; behind = ltb-true _ _ q })

    go : (a b : Bool) → ltb (told_of e.number l).max e.node.max ≡ b → o ∈ pick (not a && b) (stale_node (first_tie ties) (told_of e.number l) e ∷ stale_nodes excluded l (other_ties ties) t) (stale_nodes excluded l (other_ties ties) t) → (o ∈ stale_nodes excluded l (other_ties ties) t → Behind l t o) → Behind l (e ∷ t) o
    go true b q m ih = up (ih m)
    go false false q m ih = up (ih m)
    go false true q m ih = at (in-cons m)
      where
        at : (o ≡ stale_node (first_tie ties) (told_of e.number l) e) ⊎ (o ∈ stale_nodes excluded l (other_ties ties) t) → Behind l (e ∷ t) o
        at (inl p) = mine q p
        at (inr n) = up (ih n)

pub queue-from : (o : StaleNode) (l : List StaleNode) {x : StaleNode} → x ∈ queue o l → (x ≡ o) ⊎ (x ∈ l)
unfolding queue
queue-from o [] m = in-cons m
queue-from o (a ∷ l) {x} m = go (sooner o a) m (queue-from o l)
  where
    up : (x ≡ o) ⊎ (x ∈ l) → (x ≡ o) ⊎ (x ∈ a ∷ l)
    up (inl e) = inl e
    up (inr n) = inr (later n)

    go : (b : Bool) → x ∈ pick b (o ∷ a ∷ l) (a ∷ queue o l) → (x ∈ queue o l → (x ≡ o) ⊎ (x ∈ l)) → (x ≡ o) ⊎ (x ∈ a ∷ l)
    go true m ih = in-cons m
    go false m ih = at (in-cons m)
      where
        at : (x ≡ a) ⊎ (x ∈ queue o l) → (x ≡ o) ⊎ (x ∈ a ∷ l)
        at (inl e) = inr (here e)
        at (inr n) = up (ih n)

pub ordered-from : (l : List StaleNode) {x : StaleNode} → x ∈ ordered l → x ∈ l
unfolding ordered
ordered-from [] m = m
ordered-from (o ∷ l) {x} m = at (queue-from o (ordered l) m) (ordered-from l)
  where
    at : (x ≡ o) ⊎ (x ∈ ordered l) → (x ∈ ordered l → x ∈ l) → x ∈ o ∷ l
    at (inl e) ih = here e
    at (inr n) ih = later (ih n)

-- a part that was sent: a stale node's, cut somewhere
pub record SentPart (os : List StaleNode) (i : ℕ) (d : NodeDelta) : Type 0 where
  pub of : StaleNode
  pub queued : of ∈ os
  pub number_is : i ≡ of.number
  pub count : ℕ
  pub fits : Bool
  pub delta-is : d ≡ node_delta of.node of.told_gc of.told-max count fits

pub part-sent : (i room : ℕ) (os : List StaleNode) {d : NodeDelta} → part_at i (emit room os) ≡ some d → SentPart os i d
unfolding emit part_at
part-sent i room [] q = let z : ◌≡◌ {A = ℕ} 0 1 = cc in absurd (omega arith)
part-sent i room (o ∷ os) {d} q =
    go (leb node_op_width room) (eqb (fitting (room - node_op_width) (stale_of o)) (length (stale_of o))) (eqb i o.number) refl q (part-sent i (after_max (stale_of o) (left_over (room - node_op_width) (stale_of o))) os)
  where
    rest : List Part
    rest = emit (after_max (stale_of o) (left_over (room - node_op_width) (stale_of o))) os

    up : SentPart os i d → SentPart (o ∷ os) i d
    up x = record { of = x.of; queued = later x.queued; number_is = x.number_is; count = x.count; fits = x.fits; delta-is = x.delta-is }

    none-some : part_at i [] ≡ some d → SentPart (o ∷ os) i d
    none-some q = let z : ◌≡◌ {A = ℕ} 0 1 = cc in absurd (omega arith)

    go : (a b c : Bool) → eqb i o.number ≡ c → part_at i (pick a (part_of room o ∷ pick b rest []) []) ≡ some d → (part_at i rest ≡ some d → SentPart os i d) → SentPart (o ∷ os) i d
    go false b c e q ih = none-some q
    go true b true e q ih =
        let p : some (part_of room o).delta ≡ some d = rw e at q in
        record { of = o; queued = here refl; number_is = eqb-true _ _ e; count = fitting (room - node_op_width) (stale_of o); fits = leb max_op_width (room - node_op_width); delta-is = cc }
    go true true false e q ih = up (ih (rw e at q))
    go true false false e q ih = none-some (rw e at q)

-- computing names no node twice
unfoldable pub NoTwo : List StaleNode → Type 0
NoTwo [] = Unit {0}
NoTwo (x ∷ r) = ((y : StaleNode) → y ∈ r → y.number ≡ x.number → ⊥) × NoTwo r

pub stale-no-two : (excluded : List ℕ) (l : List NodeDigest) (ties : List ℕ) (t : Table) → Ascending (numbers_of t) → NoTwo (stale_nodes excluded l ties t)
unfolding stale_nodes NoTwo numbers_of Ascending
stale-no-two excluded l ties [] asc = tt
stale-no-two excluded l ties (e ∷ t) asc = go (not (among e.number excluded) && ltb (told_of e.number l).max e.node.max) (stale-no-two excluded l (other_ties ties) t asc.1)
  where
    go : (b : Bool) → NoTwo (stale_nodes excluded l (other_ties ties) t) → NoTwo (pick b (stale_node (first_tie ties) (told_of e.number l) e ∷ stale_nodes excluded l (other_ties ties) t) (stale_nodes excluded l (other_ties ties) t))
    go true ih =
        (λ y m q. let o = behind-from excluded l (other_ties ties) t m in let h = asc.0 o.entry.number (number_in o.held) in let k = o.number_is in omega arith, ih)
    go false ih = ih

queue-no-two : (o : StaleNode) (l : List StaleNode) → NoTwo l → ((y : StaleNode) → y ∈ l → y.number ≡ o.number → ⊥) → NoTwo (queue o l)
unfolding queue NoTwo
queue-no-two o [] h n = (λ y m q. in-none m, tt)
queue-no-two o (a ∷ l) h n = go (sooner o a) (queue-no-two o l h.1 (λ y m. n y (later m)))
  where
    at : (y : StaleNode) → (y ≡ o) ⊎ (y ∈ l) → y.number ≡ a.number → ⊥
    at y (inl e) q = n a (here refl) (sym q ∙ ap (λ (z : StaleNode). z.number) e)
    at y (inr m) q = h.0 y m q

    go : (b : Bool) → NoTwo (queue o l) → NoTwo (pick b (o ∷ a ∷ l) (a ∷ queue o l))
    go true ih = (n, h)
    go false ih = (λ y m. at y (queue-from o l m), ih)

pub ordered-no-two : (l : List StaleNode) → NoTwo l → NoTwo (ordered l)
unfolding ordered NoTwo
ordered-no-two [] h = tt
ordered-no-two (o ∷ l) h = queue-no-two o (ordered l) (ordered-no-two l h.1) (λ y m. h.0 y (ordered-from l m))

emit-no-two : (room : ℕ) (os : List StaleNode) → NoTwo os → repeated (emit room os) ≡ false
unfolding emit repeated NoTwo part_at
emit-no-two room [] h = refl
emit-no-two room (o ∷ os) h =
    go (leb node_op_width room) (eqb (fitting (room - node_op_width) (stale_of o)) (length (stale_of o))) (emit-no-two (after_max (stale_of o) (left_over (room - node_op_width) (stale_of o))) os h.1)
  where
    rest : List Part
    rest = emit (after_max (stale_of o) (left_over (room - node_op_width) (stale_of o))) os

    absent : (x : Option NodeDelta) → part_at o.number rest ≡ x → present x ≡ false
    absent none q = refl
    absent (some d) q = absurd (other (part-sent o.number _ os q))
      where
        other : SentPart os o.number d → ⊥
        other x = h.0 x.of x.queued (sym x.number_is)

    go : (a b : Bool) → repeated rest ≡ false → repeated (pick a (part_of room o ∷ pick b rest []) []) ≡ false
    go false b ih = refl
    go true true ih = rw (absent (part_at o.number rest) refl) ih
    go true false ih = refl

pub computed-once : (excluded ties : List ℕ) (mtu : ℕ) (l : List NodeDigest) (t : Table) → Ascending (numbers_of t) → repeated (emit mtu (ordered (stale_nodes excluded l ties t))) ≡ false
computed-once excluded ties mtu l t asc = emit-no-two mtu _ (ordered-no-two _ (stale-no-two excluded l ties t asc))
