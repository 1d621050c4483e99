-- What an exchange does to a node of hub x: it takes its part of what hub y computes of the same node for x's own pair.
use Prim.Native.Nat.{◌<◌, ℕ}
use mathlib.Core.Bool.{Bool, ◌&&◌, false, false≢true, true}
use mathlib.Core.List.{List, [], ◌∷◌}
use mathlib.Core.Option.{Option, some}
use mathlib.Core.Path.{◌∙◌, ◌≡◌, ap, refl, subst, sym}
use native.Mathlib.Omega.{arith}
use lib.Dec.{eqb, ltb}
use borrow.Author.Tests.{eq-eqb, eqb-true, le-leb}
use Rattle.fields.specs.Choice.{◌∈◌, pick}
use Rattle.rules.proofs.Digests.{read-written}
use Rattle.rules.proofs.Obeys.{facts-table}
use Rattle.rules.proofs.Sending.{node_delta}
use Rattle.rules.proofs.Tables.{answer-each, mapped, node-each, part_at, repeated, taking}
use Rattle.rules.specs.Apply.{Lawful, Stream, Taking, Ways, apply, apply_node}
use Rattle.rules.specs.Compute.{told_of}
use Rattle.rules.specs.Delta.{NodeDelta, Op, delta_bytes, nothing_read, parts_of}
use Rattle.rules.specs.Digest.{Entries, NodeDigest, Refused, digest_bytes, digest_of, gathered, is_edition, read_counted, read_digest, read_entries, read_to_end}
use Rattle.rules.specs.Given.{Given}
use Rattle.rules.specs.Sizes.{numbers}
use Rattle.rules.specs.Node.{Node}
use Rattle.rules.specs.Table.{Table, node_of, obeys}
use Rattle.std.specs.Prelude.{Result}
use Rattle.rules.specs.declared.Refusal.{Refusal}
use Rattle.rules.specs.declared.Sent.{Sent}
use Rattle.rules.specs.declared.Refusal.TheVariants.{BadEdition}
use Rattle.rules.specs.declared.NodeAnswer.{NodeAnswer}
use Rattle.rules.specs.declared.NodeAnswer.TheVariants as node
use Rattle.demand3.proofs.EachNode.{node_at, or_fresh}
use Rattle.demand3.proofs.Forms.{Comes, Made, comes, refuses, writes}
use Rattle.demand3.proofs.Moments.{read-once}
use Rattle.demand3.proofs.Nearer.{told-held}
use Rattle.demand3.proofs.OnTheWay.{PartFor}
use Rattle.demand3.proofs.Whole.{stream, taken}
use Rattle.demand3.specs.Demand3.{no_room, wrote_delta}
use Rattle.demand3.specs.Forms.{compute_by, ops_by}
use Rattle.demand3.specs.World.{DeltaSent, World, applied_to, arrives, cut_by, intact, nth_sent, sent_after}
use Rattle.demand3.specs.World as world
use Rattle.net.proofs.Coming.{part-there}
use Rattle.net.proofs.Moments.{Moment}
use Rattle.net.specs.Net.{Net, Plan, after, happen}
use Rattle.net_closing.specs.Closing.{Asked, Heard, PartIn, exchange_in, ops_in}

-- a digest is read in one of the two editions alone
pub read-edition : (edition : ℕ) (l : List ℕ) (ds : List NodeDigest) (rest : List ℕ) → read_digest edition l ≡ Entries ds rest → is_edition edition ≡ true
unfolding read_digest read_entries
read-edition edition l ds rest e = go (eqb edition 0) refl (eqb edition 1) refl e
  where
    go : (a : Bool) → eqb edition 0 ≡ a → (b : Bool) → eqb edition 1 ≡ b → gathered (pick a (read_counted l) (pick b (read_to_end l) (Refused BadEdition))) ≡ Entries ds rest → is_edition edition ≡ true
    go true p b q e = le-leb edition 1 (let z = eqb-true edition 0 p in omega arith)
    go false p true q e = le-leb edition 1 (let z = eqb-true edition 1 q in omega arith)
    go false p false q e = let z : ◌≡◌ {A = ℕ} 0 1 = cc in absurd (omega arith)

-- ---- a delta for an earlier digest

-- x's table was t₀ when it wrote its digest; y's is u when it computes for it; x's is t when it applies the delta. Node i is n₀ in t₀ and n in t.
module _ (ways : Ways) (law : Lawful ways) (t₀ u t : Table) (t₀-ok : obeys t₀ ≡ true) (u-ok : obeys u ≡ true) (i : ℕ) (q : Asked)
    (wrote : wrote_delta (compute_by q.edition [] q.order q.mtu q.place (digest_bytes q.edition (digest_of [] t₀)) u q.datagram).answer ≡ true) where
  abbrev told : List NodeDigest
  told = digest_of [] t₀

  abbrev pub ops_for : List Op
  ops_for = ops_by [] q.order q.mtu told u

  abbrev b : List ℕ
  b = delta_bytes ops_for

  abbrev made : Given (Result Sent Refusal) (List ℕ)
  made = compute_by q.edition [] q.order q.mtu q.place (digest_bytes q.edition told) u q.datagram

  pub sent_is : (ss : List (List ℕ)) → (sent_after q.place made.lent made.answer ss ≡ b ∷ ss) × Made [] q.order q.mtu told u
  sent_is ss = go _ (comes q.edition [] q.order q.mtu q.place (digest_bytes q.edition told) u q.datagram u-ok) wrote
    where
      go : (o : Given (Result Sent Refusal) (List ℕ)) → Comes q.edition [] q.order q.mtu q.place (digest_bytes q.edition told) u q.datagram o → wrote_delta o.answer ≡ true → (sent_after q.place o.lent o.answer ss ≡ b ∷ ss) × Made [] q.order q.mtu told u
      go o (refuses r) g = absurd (false≢true g)
      go o (writes ds rest e k there) g =
          let twice : Entries ds rest ≡ Entries told [] = sym e ∙ read-written q.edition (read-edition q.edition _ ds rest e) [] t₀ t₀-ok in
          let ds-is : ds ≡ told = cc in (
            ap (λ (l : List ℕ). l ∷ ss) (there ∙ ap (λ (l : List NodeDigest). delta_bytes (ops_by [] q.order q.mtu l u)) ds-is),
            subst (λ (l : List NodeDigest). Made [] q.order q.mtu l u) ds-is k,
          )

  abbrev is_made : Made [] q.order q.mtu told u
  is_made = (sent_is []).1

  once : repeated (parts_of ops_for) ≡ false
  once = read-once ops_for nothing_read is_made.sendable.chain

  -- a part of the operations is the node's
  pub part-is : (d : NodeDelta) → PartIn ops_for i d → part_at i (parts_of ops_for) ≡ some d
  part-is d m = part-there (parts_of ops_for) once (record { number = i; delta = d }) m

  module _ (clock : ltb q.now numbers ≡ true) (roomy : no_room (apply ways b q.now t q.answers).answer (apply ways b q.now t q.answers).list ≡ true) where
    -- demand 3's law of a whole exchange, for a world of these two
    abbrev pair : World
    pair = record { publisher = u; follower = t; given = λ j. []; exchange = DeltaSent b; sent = [] }

    abbrev end : Stream
    end = stream ways law ops_for is_made.sendable.read q.now q.answers pair

    took : ((apply ways b q.now t q.answers).table ≡ end.table) × (node.Room ∈ end.answers → ⊥)
    unfolding world.happen
    took =
        let r = taken ways law ops_for is_made.sendable.read q.now q.answers pair refl granted in
        (sym (now-is (ltb q.now numbers) clock) ∙ ap (λ (v : World). v.follower) r.0, r.1)
      where
        granted : (ltb q.now numbers && no_room (apply ways b q.now t q.answers).answer (apply ways b q.now t q.answers).list) ≡ true
        granted = rw clock roomy

        now-is : (c : Bool) → c ≡ true → (pick c (record { publisher = u; follower = (apply ways b q.now t q.answers).table; given = λ j. []; exchange = DeltaSent b; sent = [] }) pair).follower ≡ (apply ways b q.now t q.answers).table
        now-is true e = refl
        now-is false e = absurd (false≢true e)

    abbrev take : Taking
    take = apply_node ways q.now

    -- the node afterwards; it did not answer Room
    pub taken-part : (n : Node) → node_of i t ≡ some n → (d : NodeDelta) → PartIn ops_for i d → (node_at i (apply ways b q.now t q.answers).table ≡ (take d n).node) × ((take d n).answer ≡ node.Room → ⊥)
    taken-part n has d m =
        let p : part_at i (parts_of ops_for) ≡ some d = part-is d m in (
          ap (node_at i) took.0
              ∙ ap or_fresh
              (node-each take i (parts_of ops_for) t once
              ∙ ap (λ (o : Option NodeDelta). mapped (taking take o) (node_of i t)) p
              ∙ ap (mapped (taking take (some d))) has),
          λ e. took.1 (subst (λ (a : NodeAnswer). a ∈ end.answers) e (answer-each take i (parts_of ops_for) t d n p has)),
        )

  module _ (n₀ : Node) (has₀ : node_of i t₀ ≡ some n₀) where
    -- what y made of its node for the pair that x told, which is behind
    its_own : (d : NodeDelta) → PartIn ops_for i d → PartFor [] told u i d
    its_own d m = is_made.each i d (part-is d m)

    says : told_of i told ≡ record { number = i; heartbeat = n₀.heartbeat; last_gc = n₀.last_gc; max = n₀.max }
    says = told-held i t₀ n₀ has₀

    pub part-made : (d : NodeDelta) → PartIn ops_for i d → (count : ℕ) × (fits : Bool) × (d ≡ node_delta (node_at i u) n₀.last_gc n₀.max count fits)
    part-made d m = let r = its_own d m in (r.count, r.fits, r.delta-is ∙ (λ z. node_delta (node_at i u) (says z).last_gc (says z).max r.count r.fits))

    pub part-behind : (d : NodeDelta) → PartIn ops_for i d → n₀.max < (node_at i u).max
    part-behind d m = let a = (its_own d m).behind in let e = ap (λ (k : NodeDigest). k.max) says in omega arith

-- ---- at once

module _ (plan : Plan) (lawful : (x : ℕ) → Lawful (plan.ways x)) (w : Net) (ok : Moment plan.owner w) (i x y : ℕ) (q : Asked) (s : Heard plan i x y w q) where
  obeyed : (z : ℕ) → obeys (w.hubs z) ≡ true
  obeyed z = facts-table (w.hubs z) (ok.tables z).obeyed

  abbrev ops : List Op
  ops = ops_in q x y w

  after_is : (after plan (exchange_in q x y w) w).hubs x ≡ (apply (plan.ways x) (delta_bytes ops) q.now (w.hubs x) q.answers).table
  unfolding after happen nth_sent cut_by
  after_is =
      rw (s.clock, eq-eqb x x refl)
      (ap (λ (l : List (List ℕ)). applied_to (plan.ways x) q.now q.answers (arrives (intact 0) l) (w.hubs x))
      (sent_is (plan.ways x) (lawful x) (w.hubs x) (w.hubs y) (w.hubs x) (obeyed x) (obeyed y) i q s.wrote w.sent).0)

  pub heard-node : (d : NodeDelta) → PartIn ops i d → (node_at i ((after plan (exchange_in q x y w) w).hubs x) ≡ (apply_node (plan.ways x) q.now d s.node).node) × ((apply_node (plan.ways x) q.now d s.node).answer ≡ node.Room → ⊥)
  heard-node d m =
      let r = taken-part (plan.ways x) (lawful x) (w.hubs x) (w.hubs y) (w.hubs x) (obeyed x) (obeyed y) i q s.wrote s.clock s.roomy s.node s.has d m in
      (ap (node_at i) after_is ∙ r.0, r.1)

  pub heard-made : (d : NodeDelta) → PartIn ops i d → (count : ℕ) × (fits : Bool) × (d ≡ node_delta (node_at i (w.hubs y)) s.node.last_gc s.node.max count fits)
  heard-made d m = part-made (plan.ways x) (lawful x) (w.hubs x) (w.hubs y) (w.hubs x) (obeyed x) (obeyed y) i q s.wrote s.node s.has d m

  pub heard-behind : (d : NodeDelta) → PartIn ops i d → s.node.max < (node_at i (w.hubs y)).max
  heard-behind d m = part-behind (plan.ways x) (lawful x) (w.hubs x) (w.hubs y) (w.hubs x) (obeyed x) (obeyed y) i q s.wrote s.node s.has d m
