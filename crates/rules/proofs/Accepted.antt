-- What computing writes, reading accepts: for every table that obeys the rules, every digest, MTU, tie list and exclusion, the delta is read
-- back as the operations that it was written from. Assumes nothing.
use Prim.Native.Nat.{◌+◌, ◌-◌, ◌<◌, ◌≤◌, max, suc, ℕ}
use mathlib.Core.Bool.{Bool, ◌&&◌, false, not, true}
use mathlib.Core.List.{List, [], ◌++◌, ◌∷◌}
use mathlib.Core.Path.{◌∙◌, ◌≡◌, ap, refl, subst, sym}
use native.Mathlib.Omega.{arith}
use lib.Dec.{eqb, leb, ltb}
use lib.ListN.{length, length-append}
use borrow.Author.Tests.{le-leb, leb-true, lt-ltb, ne_eqb}
use Rattle.fields.proofs.Parts.{part-put}
use Rattle.fields.specs.Blocks.{flat}
use Rattle.fields.specs.Choice.{◌∈◌, here, later, pick}
use Rattle.fields.specs.Parts.{part, put}
use Rattle.rules.specs.Given.{Given, given}
use Rattle.rules.proofs.Deltas.{AllSmall, Chain, follow-max, follow-record, read-delta}
use Rattle.rules.proofs.Next.{Differ, Strict, strict-stale}
use Rattle.rules.proofs.Obeys.{OkNode, OkRec, OkTable, table-facts}
use Rattle.rules.proofs.Ops.{Number, SmallKeyValue}
use Rattle.rules.proofs.Received.{strict-lower}
use Rattle.rules.proofs.Stale.{stale-from}
use Rattle.rules.proofs.Tables.{Behind, NoTwo, behind-from, ordered-from, ordered-no-two, stale-no-two}
use Rattle.rules.proofs.Taking.{FromOf, from-of, no-reset, reset_due}
use Rattle.rules.specs.Compute.{StaleNode, all_ops, body_ops, compute, compute_for, cut, delta_for, first_tie, from_for, from_of, key_value_ops, on_digest, ordered, other_ties, queue, sooner, stale_node, stale_nodes, stale_of, told_of, unless_max, written}
use Rattle.rules.specs.Delta.{Good, KeyValueOp, Next, NodeOp, Op, Reading, SetMaxVersionOp, delta_bytes, follow, nothing_read, read_delta, size_of}
use Rattle.rules.specs.Digest.{DigestRead, Entries, NodeDigest, Refused, is_edition, read_digest}
use Rattle.rules.specs.Node.{KeyValue, Rec}
use Rattle.rules.specs.Sizes.{least_mtu, max_delta, max_nodes}
use Rattle.rules.specs.Table.{Table, among, obeys}
use Rattle.rules.specs.declared.Refusal.{Refusal}
use Rattle.rules.specs.declared.Refusal.TheVariants.{BadEdition, BadMtu, BadTies, NoPlace}
use Rattle.std.specs.Prelude.{Err, Ok, Result}
use Rattle.rules.specs.declared.Sent.{Sent}
use Rattle.rules.proofs.Results.{ok-is}

abbrev reading : List ℕ → ℕ → Reading
reading ns m = record { seen = ns; running = m }

-- ---- a lower running max lets the same operations follow

follow-lower : (ns : List ℕ) (m k : ℕ) (o : Op) {t : Reading} → k ≤ m → follow (reading ns m) o ≡ Next t → follow (reading ns k) o ≡ Next t
unfolding follow
follow-lower ns m k (NodeOp n g f) h e = e
follow-lower [] m k (KeyValueOp r) {t} h e = let z : ◌≡◌ {A = ℕ} 0 1 = cc in absurd (omega arith)
follow-lower (n ∷ ns) m k (KeyValueOp r) {t} h e =
    let x = follow-record (reading (n ∷ ns) m) t r (unfold follow in e) in
    let g = x.0 in
    rw (lt-ltb k r.version (omega arith)) (rw (lt-ltb m r.version g) at e)
follow-lower [] m k (SetMaxVersionOp x) {t} h e = let z : ◌≡◌ {A = ℕ} 0 1 = cc in absurd (omega arith)
follow-lower (n ∷ ns) m k (SetMaxVersionOp x) {t} h e =
    let y = follow-max (reading (n ∷ ns) m) t x e in
    let g = y.0 in
    rw (le-leb k x (omega arith)) (rw (le-leb m x g) at e)

chain-lower : (ns : List ℕ) (m k : ℕ) (ops : List Op) → k ≤ m → Chain (reading ns m) ops → Chain (reading ns k) ops
unfolding Chain
chain-lower ns m k [] h c = tt
chain-lower ns m k (o ∷ ops) h c = (c.0, follow-lower ns m k o h c.1, c.2)

-- ---- a cut leaves a chain

-- without a SetMaxVersion the rest may follow too
chain-skip : (ns : List ℕ) (m x : ℕ) (ops : List Op) → Chain (reading ns m) (SetMaxVersionOp x ∷ ops) → Chain (reading ns m) ops
unfolding Chain
chain-skip ns m x ops c =
    let y = follow-max (reading ns m) c.0 x c.1 in
    let h : m ≤ x = y.0 in
    let same : c.0 ≡ reading ns x = λ i. record { seen = y.1 i; running = y.2 i } in
    chain-lower ns x m ops h (subst (λ (s : Reading). Chain s ops) same c.2)

pub cut-chain : (left : ℕ) (ns : List ℕ) (m : ℕ) (ops : List Op) → Chain (reading ns m) ops → Chain (reading ns m) (cut left ops)
unfolding Chain cut
cut-chain left ns m [] c = tt
cut-chain left ns m (o ∷ ops) c =
    go (leb (size_of o) left) (cut-chain (left - size_of o) c.0.seen c.0.running ops c.2) (skip o c (λ d. cut-chain left ns m ops d))
  where
    skip : (o : Op) → Chain (reading ns m) (o ∷ ops) → (Chain (reading ns m) ops → Chain (reading ns m) (cut left ops)) → Chain (reading ns m) (unless_max o (cut left ops))
    skip (NodeOp n g f) c ih = tt
    skip (KeyValueOp r) c ih = tt
    skip (SetMaxVersionOp x) c ih = ih (chain-skip ns m x ops c)

    go : (b : Bool) → Chain c.0 (cut (left - size_of o) ops) → Chain (reading ns m) (unless_max o (cut left ops)) → Chain (reading ns m) (pick b (o ∷ cut (left - size_of o) ops) (unless_max o (cut left ops)))
    go true ih s = (c.0, c.1, ih)
    go false ih s = s

cut_small : (left : ℕ) (ops : List Op) → AllSmall ops → AllSmall (cut left ops)
unfolding AllSmall cut
cut_small left [] a = tt
cut_small left (o ∷ ops) a = go (leb (size_of o) left) o (cut_small (left - size_of o) ops a.1) (cut_small left ops a.1)
  where
    go : (b : Bool) (q : Op) → AllSmall (cut (left - size_of o) ops) → AllSmall (cut left ops) → AllSmall (pick b (o ∷ cut (left - size_of o) ops) (unless_max q (cut left ops)))
    go true q x y = (a.0, x)
    go false (NodeOp n g f) x y = tt
    go false (KeyValueOp r) x y = tt
    go false (SetMaxVersionOp m) x y = y

-- the bytes of a cut delta are within what was left
pub cut-bytes : (left : ℕ) (ops : List Op) → length (delta_bytes (cut left ops)) ≤ left
unfolding delta_bytes flat cut size_of
cut-bytes left [] = omega arith
cut-bytes left (o ∷ ops) = go (leb (size_of o) left) refl o (cut-bytes (left - size_of o) ops) (cut-bytes left ops)
  where
    go : (b : Bool) → leb (size_of o) left ≡ b → (q : Op) → length (delta_bytes (cut (left - size_of o) ops)) ≤ left - size_of o → length (delta_bytes (cut left ops)) ≤ left → length (delta_bytes (pick b (o ∷ cut (left - size_of o) ops) (unless_max q (cut left ops)))) ≤ left
    go true e q x y = let h : size_of o ≤ left = leb-true _ _ e in simp length-append (omega arith)
    go false e (NodeOp n g f) x y = omega arith
    go false e (KeyValueOp r) x y = omega arith
    go false e (SetMaxVersionOp m) x y = y

-- ---- the uncut delta is a chain

pub records-chain : (n : ℕ) (ns : List ℕ) (m : ℕ) (rs : List KeyValue) (rest : List Op) → Strict m rs → ((k : ℕ) → Chain (reading (n ∷ ns) k) rest) → Chain (reading (n ∷ ns) m) (key_value_ops rs ++ rest)
unfolding Chain Strict key_value_ops follow
records-chain n ns m [] rest s f = f m
records-chain n ns m (r ∷ rs) rest s f =
    (reading (n ∷ ns) r.version, rw (lt-ltb m r.version s.0), records-chain n ns r.version rs rest s.1 f)

pub body-chain : (n : ℕ) (ns : List ℕ) (max : ℕ) (rs : List KeyValue) (rest : List Op) → Strict 0 rs → ((k : ℕ) → Chain (reading (n ∷ ns) k) rest) → Chain (reading (n ∷ ns) 0) (body_ops max rs ++ rest)
unfolding Chain follow
body-chain n ns max [] rest s f = (reading (n ∷ ns) max, rw (le-leb 0 max (omega arith)), f max)
body-chain n ns max (r ∷ rs) rest s f = records-chain n ns 0 (r ∷ rs) rest s f

all-chain : (os : List StaleNode) (ns : List ℕ) (m : ℕ) → NoTwo os → ((o : StaleNode) → o ∈ os → among o.number ns ≡ false) → length ns + length os ≤ max_nodes → ((o : StaleNode) → o ∈ os → Differ o.node.recs) → Chain (reading ns m) (all_ops os)
unfolding all_ops NoTwo Chain follow among
all-chain [] ns m two new few d = tt
all-chain (o ∷ os) ns m two new few d = (
  reading (o.number ∷ ns) 0,
  rw (new o (here refl), lt-ltb (length ns) max_nodes (omega arith)),
  body-chain o.number ns o.node.max (stale_of o) (all_ops os)
      (strict-lower (from_for o) 0 (stale_of o) (omega arith) (strict-stale (from_for o) o.node.recs (d o (here refl))))
      (λ k. all-chain os (o.number ∷ ns) k two.1 (λ x i. rw (ne_eqb x.number o.number (two.0 x i)) (new x (later i))) (omega arith) (λ x i. d x (later i))),
)

-- ---- and all its operations have their sizes

pub append-small : (xs ys : List Op) → AllSmall xs → AllSmall ys → AllSmall (xs ++ ys)
unfolding AllSmall
append-small [] ys a b = b
append-small (x ∷ xs) ys a b = (a.0, append-small xs ys a.1 b)

pub records-small : (rs : List KeyValue) → ((r : KeyValue) → r ∈ rs → SmallKeyValue r) → AllSmall (key_value_ops rs)
unfolding AllSmall key_value_ops
records-small [] f = tt
records-small (r ∷ rs) f = (f r (here refl), records-small rs (λ x i. f x (later i)))

pub body-small : (max : ℕ) (rs : List KeyValue) → Number max → ((r : KeyValue) → r ∈ rs → SmallKeyValue r) → AllSmall (body_ops max rs)
unfolding AllSmall
body-small max [] h f = (h, tt)
body-small max (r ∷ rs) h f = records-small (r ∷ rs) f

-- a stale node of a table that obeys the rules
pub record OkStale (o : StaleNode) : Type 0 where
  pub number_fits : Number o.number
  pub node_ok : OkNode o.node
  pub behind : o.told-max < o.node.max

-- each is, that a digest is behind of
pub ok-stale : {ds : List NodeDigest} {t : Table} {o : StaleNode} → OkTable t → Behind ds t o → OkStale o
ok-stale ok x =
    let e = ok.each x.entry x.held in
    record {
      number_fits = subst Number (sym x.number_is) e.number_fits;
      node_ok = subst OkNode (sym x.node_is) e.node_ok;
      behind = x.behind;
    }

pub from-small : (o : StaleNode) → OkStale o → Number (from_for o)
from-small o k = go (from_of o.node.last_gc o.told_gc o.told-max) (from-of o.node o.told_gc o.told-max)
  where
    go : (n : ℕ) → FromOf o.node o.told_gc o.told-max n → Number n
    go n (reset_due a b) = omega arith
    go n (no-reset a) = let h = k.behind in let g = k.node_ok.max-fits in omega arith

all-small-ops : (os : List StaleNode) → ((o : StaleNode) → o ∈ os → OkStale o) → AllSmall (all_ops os)
unfolding all_ops AllSmall
all-small-ops [] f = tt
all-small-ops (o ∷ os) f = (
  (k.number_fits, k.node_ok.gc_fits, from-small o k),
  append-small (body_ops o.node.max (stale_of o)) (all_ops os) (body-small o.node.max (stale_of o) k.node_ok.max-fits (λ r i. small r (stale-from (from_for o) o.node.recs i)))
      (all-small-ops os (λ x i. f x (later i))),
)
  where
    k : OkStale o
    k = f o (here refl)

    kept : (x : Rec) → OkRec o.node.max x → SmallKeyValue x.kv
    kept x y = record { key_fits = y.key_fits; value-fits = y.value-fits; version_fits = let h = y.version_high in let g = k.node_ok.max-fits in omega arith }

    small : (r : KeyValue) → (x : Rec) × (x ∈ o.node.recs) × (x.kv ≡ r) × (from_for o < r.version) → SmallKeyValue r
    small r x = subst SmallKeyValue x.2 (kept x.0 (k.node_ok.each x.0 x.1))

-- ---- the delta of a table

queue-length : (o : StaleNode) (l : List StaleNode) → length (queue o l) ≡ suc (length l)
unfolding queue
queue-length o [] = refl
queue-length o (a ∷ l) = go (sooner o a) (queue-length o l)
  where
    go : (b : Bool) → length (queue o l) ≡ suc (length l) → length (pick b (o ∷ a ∷ l) (a ∷ queue o l)) ≡ suc (suc (length l))
    go true h = refl
    go false h = ap suc h

ordered-length : (l : List StaleNode) → length (ordered l) ≡ length l
unfolding ordered
ordered-length [] = refl
ordered-length (o ∷ l) = queue-length o (ordered l) ∙ ap suc (ordered-length l)

stale-few : (excluded : List ℕ) (ds : List NodeDigest) (ties : List ℕ) (t : Table) → length (stale_nodes excluded ds ties t) ≤ length t
unfolding stale_nodes
stale-few excluded ds ties [] = omega arith
stale-few excluded ds ties (e ∷ t) = go (not (among e.number excluded) && ltb (told_of e.number ds).max e.node.max) (stale-few excluded ds (other_ties ties) t)
  where
    go : (b : Bool) → length (stale_nodes excluded ds (other_ties ties) t) ≤ length t → length (pick b (stale_node (first_tie ties) (told_of e.number ds) e ∷ stale_nodes excluded ds (other_ties ties) t) (stale_nodes excluded ds (other_ties ties) t)) ≤ suc (length t)
    go true h = omega arith
    go false h = omega arith

module _ (excluded ties : List ℕ) (ds : List NodeDigest) (t : Table) (obeyed : obeys t ≡ true) where
  ok : OkTable t
  ok = table-facts t obeyed

  line : List StaleNode
  line = ordered (stale_nodes excluded ds ties t)

  line_ok : (o : StaleNode) → o ∈ line → OkStale o
  unfolding line
  line_ok o i = ok-stale ok (behind-from excluded ds ties t (ordered-from (stale_nodes excluded ds ties t) i))

  line-chain : Chain nothing_read (all_ops line)
  unfolding line among
  line-chain =
      all-chain line [] 0 (ordered-no-two _ (stale-no-two excluded ds ties t ok.ascending)) (λ o i. refl)
      (let a = stale-few excluded ds ties t in let b = ok.few in let c = ordered-length (stale_nodes excluded ds ties t) in omega arith)
      (λ o i. (line_ok o i).node_ok.differs)

  -- the operations of the delta that computing makes may follow each other, and have their sizes
  pub computed-chain : (mtu : ℕ) → Chain nothing_read (delta_for excluded ties mtu ds t)
  unfolding delta_for line
  computed-chain mtu = cut-chain mtu [] 0 (all_ops line) line-chain

  pub computed-small : (mtu : ℕ) → AllSmall (delta_for excluded ties mtu ds t)
  unfolding delta_for line
  computed-small mtu = cut_small mtu (all_ops line) (all-small-ops line line_ok)

  -- it is read back as its operations
  pub read-computed : (mtu : ℕ) → mtu ≤ max_delta → read_delta (delta_bytes (delta_for excluded ties mtu ds t)) ≡ Good (delta_for excluded ties mtu ds t)
  unfolding delta_for line
  read-computed mtu h =
      read-delta (cut mtu (all_ops line)) (cut-chain mtu [] 0 (all_ops line) line-chain) (cut_small mtu (all_ops line) (all-small-ops line line_ok))
      (let a = cut-bytes mtu (all_ops line) in omega arith)

  -- and fits the MTU
  pub within-mtu : (mtu : ℕ) → length (delta_bytes (delta_for excluded ties mtu ds t)) ≤ mtu
  unfolding delta_for
  within-mtu mtu = cut-bytes mtu _

-- ---- what computing comes to

-- a refusal, or the delta for what the digest's bytes tell
pub data Comes (edition : ℕ) (excluded ties : List ℕ) (mtu place : ℕ) (d : List ℕ) (t : Table) (l : List ℕ) : Given (Result Sent Refusal) (List ℕ) → Type 0 where
  refuses : (r : Refusal) → Comes edition excluded ties mtu place d t l (given (Err r) l)
  writes : (ds : List NodeDigest) (rest : List ℕ) → read_digest edition d ≡ Entries ds rest → mtu ≤ max_delta → place + mtu ≤ length l → Comes edition excluded ties mtu place d t l (written (delta_for excluded ties mtu ds t) place l)

module _ (edition : ℕ) (excluded ties : List ℕ) (mtu place : ℕ) (d : List ℕ) (t : Table) (l : List ℕ) where
  pub comes : Comes edition excluded ties mtu place d t l (compute edition excluded ties mtu place d t l)
  unfolding compute
  comes = known (is_edition edition)
    where
      no : Refusal → Given (Result Sent Refusal) (List ℕ)
      no r = given (Err r) l

      go : (a b : Bool)
          → leb mtu max_delta ≡ b
          → (p : Bool)
          → leb place (length l) ≡ p
          → (q : Bool)
          → leb mtu (length l - place) ≡ q
          → (c : Bool) (x : DigestRead)
          → read_digest edition d ≡ x
          → Comes edition excluded ties mtu place d t l (pick (a && b) (pick (p && q) (pick c (on_digest excluded ties mtu place x t l) (no BadTies)) (no NoPlace)) (no BadMtu))
      go false b b' p p' q q' c x e = refuses BadMtu
      go true false b p p' q q' c x e = refuses BadMtu
      go true true b false p q q' c x e = refuses NoPlace
      go true true b true p false q c x e = refuses NoPlace
      go true true b true p true q false x e = refuses BadTies
      go true true b true p true q true (Entries ds rest) e =
          let g = leb-true place (length l) p in
          let h = leb-true mtu (length l - place) q in
          writes ds rest e (leb-true mtu max_delta b) (omega arith)
      go true true b true p true q true (Refused r) e = refuses r

      known : (y : Bool) → Comes edition excluded ties mtu place d t l (pick y (compute_for excluded ties mtu place (read_digest edition d) t l) (no BadEdition))
      known true =
          go (leb least_mtu mtu) (leb mtu max_delta) refl (leb place (length l)) refl (leb mtu (length l - place)) refl (eqb (length ties) (length t)) (read_digest edition d) refl
      known false = refuses BadEdition

  -- the bytes that a delta leaves in the datagram
  pub delta-bytes : (ds : List NodeDigest)
      → place + mtu ≤ length l
      → part place (length (delta_bytes (delta_for excluded ties mtu ds t))) (put place (delta_bytes (delta_for excluded ties mtu ds t)) l) ≡ delta_bytes (delta_for excluded ties mtu ds t)
  unfolding delta_for
  delta-bytes ds h =
      let g = cut-bytes mtu (all_ops (ordered (stale_nodes excluded ds ties t))) in
      part-put place (delta_bytes (cut mtu (all_ops (ordered (stale_nodes excluded ds ties t))))) l (omega arith)

-- ---- the call

-- what a computing that was not refused has done: the bytes in the datagram are read back, and the counts are those of the operations read
pub record ComputedAs (place ops bytes : ℕ) (l : List ℕ) : Type 0 where
  pub read : List Op
  pub accepted : read_delta (part place bytes l) ≡ Good read
  pub ops_counted : length read ≡ ops
  pub bytes_counted : length (delta_bytes read) ≡ bytes

pub computed-read : (edition : ℕ) (excluded ties : List ℕ) (mtu place : ℕ) (digest : List ℕ) (t : Table) (l : List ℕ) (ops bytes : ℕ) → obeys t ≡ true
    → (compute edition excluded ties mtu place digest t l).answer ≡ (Ok (record { ops = ops; bytes = bytes }))
    → ComputedAs place ops bytes (compute edition excluded ties mtu place digest t l).lent
computed-read edition excluded ties mtu place digest t l ops bytes ob = go _ (comes edition excluded ties mtu place digest t l)
  where
    go : (o : Given (Result Sent Refusal) (List ℕ)) → Comes edition excluded ties mtu place digest t l o → o.answer ≡ (Ok (record { ops = ops; bytes = bytes })) → ComputedAs place ops bytes o.lent
    go o (refuses r) e = let z : ◌≡◌ {A = ℕ} 0 1 = cc in absurd (omega arith)
    go o (writes ds rest q h g) e =
        let d : List Op = delta_for excluded ties mtu ds t in
        let s = ok-is _ _ e in
        let c : length d ≡ ops = ap (λ (x : Sent). x.ops) s in
        let b : length (delta_bytes d) ≡ bytes = ap (λ (x : Sent). x.bytes) s in
        record {
          read = d;
          accepted =
              ap (λ (n : ℕ). read_delta (part place n (put place (delta_bytes d) l))) (sym b)
              ∙ ap read_delta (delta-bytes edition excluded ties mtu place digest t l ds g)
              ∙ read-computed excluded ties ds t ob mtu h;
          ops_counted = c;
          bytes_counted = b;
        }
