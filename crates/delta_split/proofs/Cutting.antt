-- A list of operations cut at a Node: its bytes, its chain, its node deltas. Assumes nothing.
use Prim.Native.Nat.{ℕ, zero, suc, ◌+◌, ◌-◌, ◌≤◌}
use mathlib.Core.Path.{◌≡◌, refl, ap, sym, ◌∙◌}
use mathlib.Core.Bool.{Bool, true, false, true≢false}
use mathlib.Core.List.{List, [], ◌∷◌, ◌++◌, append_assoc}
use native.Mathlib.Omega.{arith}
use lib.ListN.{length, length-append}
use lib.Dec.{eqb, ltb, leb}
use borrow.Author.Tests.{lt-ltb, le-leb, eq-eqb, ne_eqb}
use Rattle.fields.specs.Choice.{pick, ◌∈◌, here, later}
use Rattle.fields.proofs.Choice.{in-none}
use Rattle.fields.specs.Blocks.{flat}
use Rattle.rules.specs.Sizes.{max_nodes, max_delta}
use Rattle.rules.specs.Node.{KeyValue}
use Rattle.rules.specs.Table.{among}
use Rattle.rules.specs.Delta.{Op, NodeOp, KeyValueOp, SetMaxVersionOp, Reading, follow, nothing_read, op_bytes, delta_bytes, NodeDelta, Part, recs_of, max_of, parts_of, Faulty, Fault, read_ops, read_delta, on_read, on_followed}
use Rattle.rules.proofs.Deltas.{Chain, AllSmall, follow-node, follow-record, follow-max, op-long, not_end}
use Rattle.rules.specs.declared.Refusal.TheVariants.{OutOfOrder, TooMany}
use Rattle.rules.proofs.Ops.{SmallOp, read-written}
use Rattle.rules.proofs.Received.{parts-new}
use Rattle.delta_split.specs.Split.{FromNode}
use Rattle.delta_split.proofs.Each.{Apart}

-- ---- the node deltas

recs-cut : (xs ys : List Op) → FromNode ys → recs_of (xs ++ ys) ≡ recs_of xs
unfolding recs_of
recs-cut [] [] c = refl
recs-cut [] (NodeOp n g f ∷ ys) c = refl
recs-cut [] (KeyValueOp r ∷ ys) c = absurd c
recs-cut [] (SetMaxVersionOp m ∷ ys) c = absurd c
recs-cut (NodeOp n g f ∷ xs) ys c = refl
recs-cut (KeyValueOp r ∷ xs) ys c = ap (λ (l : List KeyValue). r ∷ l) (recs-cut xs ys c)
recs-cut (SetMaxVersionOp m ∷ xs) ys c = recs-cut xs ys c

max-cut : (k : ℕ) (xs ys : List Op) → FromNode ys → max_of k (xs ++ ys) ≡ max_of k xs
unfolding max_of
max-cut k [] [] c = refl
max-cut k [] (NodeOp n g f ∷ ys) c = refl
max-cut k [] (KeyValueOp r ∷ ys) c = absurd c
max-cut k [] (SetMaxVersionOp m ∷ ys) c = absurd c
max-cut k (NodeOp n g f ∷ xs) ys c = refl
max-cut k (KeyValueOp r ∷ xs) ys c = max-cut r.version xs ys c
max-cut k (SetMaxVersionOp m ∷ xs) ys c = max-cut m xs ys c

-- those of the first part, then those of the second
pub parts_cut : (xs ys : List Op) → FromNode ys → parts_of (xs ++ ys) ≡ parts_of xs ++ parts_of ys
unfolding parts_of
parts_cut [] ys c = refl
parts_cut (NodeOp n g f ∷ xs) ys c =
    let p : recs_of (xs ++ ys) ≡ recs_of xs = recs-cut xs ys c in
    let q : max_of 0 (xs ++ ys) ≡ max_of 0 xs = max-cut 0 xs ys c in
    λ i. record { number = n; delta = record { from = f; last_gc = g; recs = p i; max = q i } } ∷ parts_cut xs ys c i
parts_cut (KeyValueOp r ∷ xs) ys c = parts_cut xs ys c
parts_cut (SetMaxVersionOp m ∷ xs) ys c = parts_cut xs ys c

-- ---- the bytes

pub bytes_cut : (xs ys : List Op) → delta_bytes (xs ++ ys) ≡ delta_bytes xs ++ delta_bytes ys
unfolding delta_bytes flat
bytes_cut [] ys = refl
bytes_cut (x ∷ xs) ys = ap (λ (l : List ℕ). op_bytes x ++ l) (bytes_cut xs ys) ∙ sym (append_assoc (op_bytes x) (delta_bytes xs) (delta_bytes ys))

pub small-first : (xs ys : List Op) → AllSmall (xs ++ ys) → AllSmall xs
unfolding AllSmall
small-first [] ys s = tt
small-first (x ∷ xs) ys s = (s.0, small-first xs ys s.1)

pub small-second : (xs ys : List Op) → AllSmall (xs ++ ys) → AllSmall ys
unfolding AllSmall
small-second [] ys s = s
small-second (x ∷ xs) ys s = small-second xs ys s.1

-- ---- the chain

pub chain_first : (s : Reading) (xs ys : List Op) → Chain s (xs ++ ys) → Chain s xs
unfolding Chain
chain_first s [] ys c = tt
chain_first s (x ∷ xs) ys c = (c.0, c.1, chain_first c.0 xs ys c.2)

-- where the first part has ended: its nodes have been seen
record After (s : Reading) (xs ys : List Op) : Type 0 where
  at : Reading
  rest : Chain at ys
  kept : (i : ℕ) → among i s.seen ≡ true → among i at.seen ≡ true
  named : (x : Part) → x ∈ parts_of xs → among x.number at.seen ≡ true

among_first : (i : ℕ) (l : List ℕ) → among i (i ∷ l) ≡ true
unfolding among
among_first i l = rw (eq-eqb i i refl) refl

among_later : (i k : ℕ) (l : List ℕ) → among i l ≡ true → among i (k ∷ l) ≡ true
unfolding among
among_later i k l h = go (eqb i k)
  where
    go : (b : Bool) → pick b true (among i l) ≡ true
    go true = refl
    go false = h

chain-after : (s : Reading) (xs ys : List Op) → Chain s (xs ++ ys) → After s xs ys
unfolding Chain parts_of
chain-after s [] ys c = record { at = s; rest = c; kept = λ i h. h; named = λ x m. absurd (in-none m) }
chain-after s (NodeOp n g f ∷ xs) ys c =
    let t : Reading = c.0 in
    let q : t.seen ≡ n ∷ s.seen = (follow-node s t n g f c.1).2 in
    let r : After t xs ys = chain-after t xs ys c.2 in
    record { at = r.at; rest = r.rest; kept = λ i h. r.kept i (ap (among i) q ∙ among_later i n s.seen h); named = λ x m. go q r x m }
  where
    go : {t : Reading} → t.seen ≡ n ∷ s.seen → (r : After t xs ys) → (x : Part) → {d : NodeDelta} → x ∈ record { number = n; delta = d } ∷ parts_of xs → among x.number r.at.seen ≡ true
    go q r x (here e) = r.kept x.number (ap (among x.number) q ∙ ap (λ (k : ℕ). among x.number (k ∷ s.seen)) (ap (λ (z : Part). z.number) (sym e)) ∙ among_first x.number s.seen)
    go q r x (later m) = r.named x m
chain-after s (KeyValueOp v ∷ xs) ys c =
    let t : Reading = c.0 in
    let r : After t xs ys = chain-after t xs ys c.2 in
    record { at = r.at; rest = r.rest; kept = λ i h. r.kept i (ap (among i) (follow-record s t v c.1).1 ∙ h); named = r.named }
chain-after s (SetMaxVersionOp m ∷ xs) ys c =
    let t : Reading = c.0 in
    let r : After t xs ys = chain-after t xs ys c.2 in
    record { at = r.at; rest = r.rest; kept = λ i h. r.kept i (ap (among i) (follow-max s t m c.1).1 ∙ h); named = r.named }

-- the nodes n ∷ ns are among those that were seen
record Fewer (n : ℕ) (ns : List ℕ) (s : Reading) : Type 0 where
  sub : (i : ℕ) → among i s.seen ≡ false → among i (n ∷ ns) ≡ false
  short : length (n ∷ ns) ≤ length s.seen

split-among : (i k : ℕ) (l : List ℕ) → among i (k ∷ l) ≡ false → (eqb i k ≡ false) × (among i l ≡ false)
unfolding among
split-among i k l e = go (eqb i k) refl e
  where
    go : (b : Bool) → eqb i k ≡ b → pick b true (among i l) ≡ false → (eqb i k ≡ false) × (among i l ≡ false)
    go true q e = absurd (true≢false e)
    go false q e = (q, e)

join-among : (i k : ℕ) (l : List ℕ) → eqb i k ≡ false → among i l ≡ false → among i (k ∷ l) ≡ false
unfolding among
join-among i k l e h = rw (among, e) h

-- what may follow where more was seen may follow where fewer were
fewer : (ops : List Op) (s : Reading) (n : ℕ) (ns : List ℕ) (m : ℕ) → s.running ≡ m → Fewer n ns s → Chain s ops → Chain (record { seen = n ∷ ns; running = m }) ops
unfolding Chain follow
fewer [] s n ns m e w c = tt
fewer (NodeOp i g f ∷ ops) s n ns m e w c =
    let t : Reading = c.0 in
    let q = follow-node s t i g f c.1 in
    let new : among i (n ∷ ns) ≡ false = w.sub i q.0 in
    let room : ltb (length (n ∷ ns)) max_nodes ≡ true = lt-ltb (length (n ∷ ns)) max_nodes (omega (arith, w.short, q.1)) in
    let more : Fewer i (n ∷ ns) t =
    record {
      sub = λ j h. let x = split-among j i s.seen (ap (among j) (sym q.2) ∙ h) in join-among j i (n ∷ ns) x.0 (w.sub j x.1);
      short = omega (arith, w.short, ap length q.2);
    } in
    (record { seen = i ∷ n ∷ ns; running = 0 }, rw (new, room) refl, fewer ops t i (n ∷ ns) 0 q.3 more c.2)
fewer (KeyValueOp r ∷ ops) s n ns m e w c =
    let t : Reading = c.0 in
    let q = follow-record s t r c.1 in
    let above : ltb m r.version ≡ true = lt-ltb m r.version (omega (arith, q.0, e)) in
    let same : Fewer n ns t = record { sub = λ j h. w.sub j (ap (among j) (sym q.1) ∙ h); short = omega (arith, w.short, ap length q.1) } in
    (record { seen = n ∷ ns; running = r.version }, rw above refl, fewer ops t n ns r.version q.2 same c.2)
fewer (SetMaxVersionOp x ∷ ops) s n ns m e w c =
    let t : Reading = c.0 in
    let q = follow-max s t x c.1 in
    let above : leb m x ≡ true = le-leb m x (omega (arith, q.0, e)) in
    let same : Fewer n ns t = record { sub = λ j h. w.sub j (ap (among j) (sym q.1) ∙ h); short = omega (arith, w.short, ap length q.1) } in
    (record { seen = n ∷ ns; running = x }, rw above refl, fewer ops t n ns x q.2 same c.2)

-- so that the second part may stand alone
fresh-chain : (ys : List Op) → FromNode ys → (s : Reading) → Chain s ys → Chain nothing_read ys
unfolding Chain follow among
fresh-chain [] k s c = tt
fresh-chain (NodeOp n g f ∷ ys) k s c =
    let t : Reading = c.0 in
    let q = follow-node s t n g f c.1 in
    let one : Fewer n [] t = record { sub = λ j h. join-among j n [] (split-among j n s.seen (ap (among j) (sym q.2) ∙ h)).0 refl; short = omega (arith, ap length q.2) } in
    (record { seen = n ∷ []; running = 0 }, refl, fewer ys t n [] 0 q.3 one c.2)
fresh-chain (KeyValueOp r ∷ ys) k s c = absurd k
fresh-chain (SetMaxVersionOp m ∷ ys) k s c = absurd k

pub chain_second : (s : Reading) (xs ys : List Op) → FromNode ys → Chain s (xs ++ ys) → Chain nothing_read ys
chain_second s xs ys k c = let a = chain-after s xs ys c in fresh-chain ys k a.at a.rest

-- and no node has a node delta in both
pub parts-apart : (s : Reading) (xs ys : List Op) → Chain s (xs ++ ys) → Apart (parts_of xs) (parts_of ys)
parts-apart s xs ys c x y m l =
    let a = chain-after s xs ys c in
    ne_eqb x.number y.number (λ e. true≢false (sym (a.named x m) ∙ ap (λ (k : ℕ). among k a.at.seen) e ∙ parts-new ys a.at a.rest y l))

-- ---- elsewhere

before-node : (o : Op) (ys : List Op) → (FromNode (o ∷ ys) → ⊥) → follow nothing_read o ≡ Fault OutOfOrder
unfolding follow
before-node (NodeOp n g f) ys q = absurd (q tt)
before-node (KeyValueOp r) ys q = refl
before-node (SetMaxVersionOp m) ys q = refl

first-faulty : (o : Op) (ys : List Op) → (FromNode (o ∷ ys) → ⊥) → SmallOp o → (n : ℕ) → 1 ≤ n → read_ops n 0 nothing_read (op_bytes o ++ delta_bytes ys) ≡ Faulty OutOfOrder 0
unfolding read_ops
first-faulty o ys k s zero g = absurd (omega arith)
first-faulty o ys k s (suc n) g =
    let rest : List ℕ = delta_bytes ys in
    not_end o rest _
    ∙ ap (on_read 0 nothing_read (λ s' r. read_ops n (0 + (length (op_bytes o ++ rest) - length r)) s' r)) (read-written o rest s)
    ∙ ap (on_followed 0 o (λ s'. read_ops n (0 + (length (op_bytes o ++ rest) - length rest)) s' rest)) (before-node o ys k)

-- what begins with a record or a SetMaxVersion is refused with 11: between its operations a delta can be cut at a Node alone
pub cut-elsewhere : (o : Op) (ys : List Op) → (FromNode (o ∷ ys) → ⊥) → SmallOp o → length (delta_bytes (o ∷ ys)) ≤ max_delta → read_delta (delta_bytes (o ∷ ys)) ≡ Faulty OutOfOrder 0
unfolding read_delta delta_bytes flat
cut-elsewhere o ys k s h =
    let l : List ℕ = op_bytes o ++ flat op_bytes ys in
    ap (λ (b : Bool). pick b (read_ops (length l) 0 nothing_read l) (Faulty TooMany 0)) (le-leb (length l) max_delta h)
    ∙ first-faulty o ys k s (length l) (rw length-append (omega (arith, op-long o)))
