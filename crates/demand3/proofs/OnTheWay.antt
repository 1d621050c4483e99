-- What digest writing and computing leave on the way: the bytes of the digest, and those of the delta that the digest asks for. And what demand 3 asks of a
-- delta that is sent (`Sendable`), which is met by computing for any digest, node by node (`PartFor`).
use Prim.Native.Nat.{◌-◌, ◌<◌, ◌≤◌, ℕ}
use mathlib.Core.Bool.{Bool, ◌&&◌, false, false≢true, not, true}
use mathlib.Core.List.{List, [], ◌∷◌}
use mathlib.Core.Logic.{◌⊎◌, inl, inr}
use mathlib.Core.Option.{some}
use mathlib.Core.Path.{◌∙◌, ◌≡◌, ap, refl, sym}
use native.Mathlib.Omega.{arith}
use lib.Dec.{leb, ltb}
use lib.ListN.{length}
use borrow.Author.Tests.{leb-true}
use Rattle.fields.proofs.Choice.{in-cons, in-none}
use Rattle.fields.proofs.Parts.{part-put}
use Rattle.fields.specs.Choice.{◌∈◌, pick}
use Rattle.fields.specs.Parts.{put}
use Rattle.rules.specs.Given.{Given, given}
use Rattle.rules.proofs.Accepted.{computed-chain, computed-small, read-computed}
use Rattle.rules.specs.Compute.{StaleNode, delta_for, first_tie, ordered, other_ties, stale_node, stale_nodes, told_of}
use Rattle.rules.specs.Delta.{delta_bytes, Good, NodeDelta, Op, nothing_read, parts_of, read_delta}
use Rattle.rules.proofs.Deltas.{AllSmall, Chain}
use Rattle.rules.proofs.Obeys.{table-facts}
use Rattle.rules.proofs.Sending.{MadeOf, node_delta, sends}
use Rattle.rules.proofs.Tables.{Behind, SentPart, behind-from, node-entry, ordered-from, part-sent, part_at}
use Rattle.rules.specs.Digest.{NodeDigest, digest_bytes, digest_of, is_edition, write_bytes, write_digest}
use Rattle.rules.specs.Node.{Node}
use Rattle.rules.specs.Sizes.{max_delta}
use Rattle.rules.specs.Table.{Entry, Table, among, obeys}
use Rattle.rules.specs.declared.Refusal.TheVariants.{BadEdition, NoPlace}
use Rattle.std.specs.Prelude.{Err, Ok, Result}
use Rattle.rules.specs.declared.Refusal.{Refusal}
use Rattle.demand3.proofs.EachNode.{node_at, or_fresh}
use Rattle.demand3.specs.Demand3.{wrote_digest}
use Rattle.demand3.specs.World.{DigestSent, Exchange, after_digest, digested}

-- ---- a digest

-- one that is written has an edition, and its bytes are on their way
pub digest-written : (edition : ℕ) (excluded : List ℕ) (place : ℕ) (l : List ℕ) (t : Table) (x : Exchange)
    → wrote_digest (write_digest edition excluded place t l).answer ≡ true
    → (is_edition edition ≡ true) × (digested edition excluded place l t x ≡ DigestSent (digest_bytes edition (digest_of excluded t)))
unfolding write_digest
digest-written edition excluded place l t x e = known (is_edition edition) refl e
  where
    b : List ℕ
    b = digest_bytes edition (digest_of excluded t)

    Out : Bool → Given (Result ℕ Refusal) (List ℕ)
    Out c = pick c (given (Ok (length b)) (put place b l)) (given (Err NoPlace) l)

    go : (c : Bool) → leb place (length l) ≡ c → (d : Bool) → leb (length b) (length l - place) ≡ d → wrote_digest (Out (c && d)).answer ≡ true → after_digest place (Out (c && d)).lent (Out (c && d)).answer x ≡ DigestSent b
    go true p true q e = let g = leb-true place (length l) p in let h = leb-true (length b) (length l - place) q in ap DigestSent (part-put place b l (omega arith))
    go true p false q e = absurd (false≢true e)
    go false p d q e = absurd (false≢true e)

    Whole : Bool → Given (Result ℕ Refusal) (List ℕ)
    Whole y = pick y (write_bytes b place l) (given (Err BadEdition) l)

    known : (y : Bool) → is_edition edition ≡ y → wrote_digest (Whole y).answer ≡ true → (is_edition edition ≡ true) × (after_digest place (Whole y).lent (Whole y).answer x ≡ DigestSent b)
    known true p e = (p, go (leb place (length l)) refl (leb (length b) (length l - place)) refl e)
    known false p e = absurd (false≢true e)

-- ---- what may be sent

-- operations that are read as they were written, and bring of each node what computing makes of it, for some digest and cut somewhere
pub record Sendable (t : Table) (ops : List Op) : Type 0 where
  pub read : read_delta (delta_bytes ops) ≡ Good ops
  pub chain : Chain nothing_read ops
  pub small : AllSmall ops
  pub made : (i : ℕ) (d : NodeDelta) → part_at i (parts_of ops) ≡ some d → MadeOf (node_at i t) d

-- ---- what computing sends

-- The part of node i in a delta that was computed for a digest: what computing makes of the node for the pair that the digest tells, cut somewhere. The
-- node is held, not excluded, and the digest is behind of it.
pub record PartFor (excluded : List ℕ) (ds : List NodeDigest) (t : Table) (i : ℕ) (d : NodeDelta) : Type 0 where
  pub held : (e : Entry) × (e ∈ t) × (i ≡ e.number)
  pub free : among i excluded ≡ false
  pub behind : (told_of i ds).max < (node_at i t).max
  pub count : ℕ
  pub fits : Bool
  pub delta-is : d ≡ node_delta (node_at i t) (told_of i ds).last_gc (told_of i ds).max count fits

-- a stale node is not excluded
stale-free : (excluded : List ℕ) (l : List NodeDigest) (ties : List ℕ) (t : Table) (o : StaleNode) → o ∈ stale_nodes excluded l ties t → among o.number excluded ≡ false
unfolding stale_nodes
stale-free excluded l ties [] o m = absurd (in-none m)
stale-free excluded l ties (e ∷ t) o m = go (among e.number excluded) refl (ltb (told_of e.number l).max e.node.max) m (stale-free excluded l (other_ties ties) t o)
  where
    rest : List StaleNode
    rest = stale_nodes excluded l (other_ties ties) t

    go : (a : Bool) → among e.number excluded ≡ a → (b : Bool) → o ∈ pick (not a && b) (stale_node (first_tie ties) (told_of e.number l) e ∷ rest) rest → (o ∈ rest → among o.number excluded ≡ false) → among o.number excluded ≡ false
    go true q b m ih = ih m
    go false q false m ih = ih m
    go false q true m ih = at (in-cons m)
      where
        at : (o ≡ stale_node (first_tie ties) (told_of e.number l) e) ⊎ (o ∈ rest) → among o.number excluded ≡ false
        at (inl p) = ap (λ (s : StaleNode). among s.number excluded) p ∙ q
        at (inr n) = ih n

-- a stale node is the table's node of its number, with the pair that the digest tells of it
pub record Stands (ds : List NodeDigest) (t : Table) (i : ℕ) (o : StaleNode) : Type 0 where
  pub held : (e : Entry) × (e ∈ t) × (i ≡ e.number)
  pub node_is : o.node ≡ node_at i t
  pub gc_is : o.told_gc ≡ (told_of i ds).last_gc
  pub max-is : o.told-max ≡ (told_of i ds).max
  pub behind : (told_of i ds).max < (node_at i t).max

pub stands : (excluded : List ℕ) (ds : List NodeDigest) (ties : List ℕ) (t : Table) → obeys t ≡ true → (o : StaleNode) → o ∈ stale_nodes excluded ds ties t → (i : ℕ) → i ≡ o.number → Stands ds t i o
stands excluded ds ties t ok o m i same =
    record {
      held = (x.entry, x.held, number_is);
      node_is = node_is;
      gc_is = x.gc_is ∙ ap (λ (j : ℕ). (told_of j ds).last_gc) (sym number_is);
      max-is = max-is;
      behind = let a = x.behind in let b = max-is in let c = ap (λ (n : Node). n.max) node_is in omega arith;
    }
  where
    x : Behind ds t o
    x = behind-from excluded ds ties t m

    number_is : i ≡ x.entry.number
    number_is = same ∙ x.number_is

    node_is : o.node ≡ node_at i t
    node_is = x.node_is ∙ sym (ap or_fresh (node-entry x.entry (table-facts t ok).ascending x.held)) ∙ ap (λ (j : ℕ). node_at j t) (sym number_is)

    max-is : o.told-max ≡ (told_of i ds).max
    max-is = x.max-is ∙ ap (λ (j : ℕ). (told_of j ds).max) (sym number_is)

-- what is made of a stale node is such a part
pub part-for : (excluded : List ℕ) (ds : List NodeDigest) (ties : List ℕ) (t : Table) → obeys t ≡ true
    → (o : StaleNode) → o ∈ stale_nodes excluded ds ties t
    → (i : ℕ) → i ≡ o.number
    → (d : NodeDelta) (count : ℕ) (fits : Bool) → d ≡ node_delta o.node o.told_gc o.told-max count fits
    → PartFor excluded ds t i d
part-for excluded ds ties t ok o m i same d count fits is =
    let x = stands excluded ds ties t ok o m i same in
    record {
      held = x.held;
      free = ap (λ (j : ℕ). among j excluded) same ∙ stale-free excluded ds ties t o m;
      behind = x.behind;
      count = count;
      fits = fits;
      delta-is = is ∙ (λ z. node_delta (x.node_is z) (x.gc_is z) (x.max-is z) count fits);
    }

pub made_of : {excluded : List ℕ} {ds : List NodeDigest} {t : Table} {i : ℕ} {d : NodeDelta} → PartFor excluded ds t i d → MadeOf (node_at i t) d
made_of {ds = ds} {i = i} x = record { told_gc = (told_of i ds).last_gc; told-max = (told_of i ds).max; count = x.count; fits = x.fits; delta-is = x.delta-is }

-- ---- in document 01's order

module _ (excluded ties : List ℕ) (mtu : ℕ) (ds : List NodeDigest) (t : Table) (ok : obeys t ≡ true) where
  pub computed-part : (i : ℕ) (d : NodeDelta) → part_at i (parts_of (delta_for excluded ties mtu ds t)) ≡ some d → PartFor excluded ds t i d
  unfolding delta_for
  computed-part i d e = at (part-sent i mtu queued (sym (ap (part_at i) (sends mtu queued)) ∙ e))
    where
      queued : List StaleNode
      queued = ordered (stale_nodes excluded ds ties t)

      at : SentPart queued i d → PartFor excluded ds t i d
      at x = part-for excluded ds ties t ok x.of (ordered-from _ x.queued) i x.number_is d x.count x.fits x.delta-is

  pub computed-sendable : mtu ≤ max_delta → Sendable t (delta_for excluded ties mtu ds t)
  computed-sendable h =
      record {
        read = read-computed excluded ties ds t ok mtu h;
        chain = computed-chain excluded ties ds t ok mtu;
        small = computed-small excluded ties ds t ok mtu;
        made = λ i d e. made_of (computed-part i d e);
      }
