-- Every moment of a run: both tables hold their nodes and obey the rules, every delta that was ever computed is one that reading accepts, and each
-- node's facts hold. Each event keeps this, and is a step of every node.
use Prim.Native.Nat.{◌<◌, ℕ}
use mathlib.Core.Bool.{Bool, false, true, true≢false}
use mathlib.Core.List.{List, [], ◌∷◌}
use mathlib.Core.Logic.{◌⊎◌, inl, inr}
use mathlib.Core.Option.{Option, none, some}
use mathlib.Core.Path.{◌∙◌, ◌≡◌, ap, refl, subst, sym}
use lib.Dec.{eqb}
use borrow.Author.Tests.{ltb-true}
use Rattle.fields.proofs.Choice.{and_left, and_right, in-cons, in-none}
use Rattle.fields.specs.Choice.{here, pick, ◌∈◌}
use Rattle.rules.specs.Given.{Given}
use Rattle.rules.proofs.Calls.{beat-keeps, call-keeps, numbers-beat, numbers-call, numbers-offer, offer-keeps, ok-each, ok-remove-all}
use Rattle.rules.proofs.Deltas.{Chain, follow-node}
use Rattle.rules.proofs.Keeps.{ClockFits}
use Rattle.rules.proofs.Obeys.{OkTable, facts-table, in-among, table-facts}
use Rattle.rules.proofs.Received.{OkDelta, parts-new, parts-ok}
use Rattle.rules.proofs.Sending.{MadeOf}
use Rattle.rules.proofs.Tables.{applied-table, numbers-each, numbers-remove, part_in, part_at, present, repeated}
use Rattle.rules.specs.Apply.{Lawful, Ways, apply, apply_node}
use Rattle.rules.specs.Delta.{Good, KeyValueOp, NodeDelta, NodeOp, Op, Ops, Part, Reading, SetMaxVersionOp, delta_bytes, nothing_read, parts_of, read_delta}
use Rattle.rules.specs.Digest.{write_digest}
use Rattle.rules.specs.Node.{Call, Deleting, DeletingAfterTtl, KeyValue, Rec, Setting, SettingTtl, fresh}
use Rattle.rules.specs.Sizes.{numbers}
use Rattle.rules.specs.Table.{Table, among, node_of, numbers_of, obeys, remove_all}
use Rattle.std.specs.Prelude.{Err, Ok, Result}
use Rattle.rules.specs.declared.Refusal.{Refusal}
use Rattle.rules.specs.declared.Sent.{Sent}
use Rattle.demand3.proofs.EachNode.{Seen, at, node_at, or_fresh, parts_in, seen-applying, seen-arriving, seen-beating, seen-computed, seen-digesting, seen-facts, seen-offering, seen-receiving, seen-removing, seen-rises, seen-sent, seen-writing, sent_of}
use Rattle.demand3.proofs.Forms.{Comes, comes, refuses, removal-is, writes}
use Rattle.demand3.proofs.OnTheWay.{Sendable}
use Rattle.demand3.proofs.Parted.{Parted, ReadsWell, cut-way, nth-sent}
use Rattle.demand3.proofs.OneNode.{Facts, facts-fresh, rises-same, rises-trans, stays}
use Rattle.demand3.proofs.Publisher.{claims-of}
use Rattle.demand3.specs.Demand3.{Claims, Rises}
use Rattle.demand3.specs.Forms.{Order, Removal, compute_by, removed_by}
use Rattle.demand3.specs.World.{Applying, Arriving, Beating, Computing, DeltaSent, DigestSent, Digesting, Event, Exchange, Followers, Idle, Offering, Publishers, Receiving, Removing, Sending, Side, World, Writing, after, after_delta, after_digest, applied_to, calls, computed_for, fresh_table, happen, on_exchange, on_sent, on_side, possible, sent_after, sent_on, start, time_of}

-- a delta on its way
abbrev pub Readable : Exchange → Type 0
Readable Idle = Unit {0}
Readable (DigestSent d) = Unit {0}
Readable (DeltaSent b) = ReadsWell b

-- the tables and the exchange are in order
pub record InOrder (is : List ℕ) (w : World) : Type 0 where
  pub publisher_nodes : numbers_of w.publisher ≡ is
  pub follower_nodes : numbers_of w.follower ≡ is
  pub publisher_ok : OkTable w.publisher
  pub follower_ok : OkTable w.follower
  pub readable : Readable w.exchange
  pub all_read : (b : List ℕ) → b ∈ w.sent → ReadsWell b

-- what an event comes to
pub record Next (ways : Ways) (is : List ℕ) (w x : World) : Type 0 where
  pub seen : (i : ℕ) → Seen ways (at i w) (at i x)
  pub order : InOrder is x

-- ---- fresh tables

pub numbers-fresh : (ns : List ℕ) → numbers_of (fresh_table ns) ≡ ns
unfolding numbers_of fresh_table
numbers-fresh [] = refl
numbers-fresh (n ∷ ns) = ap (λ (l : List ℕ). n ∷ l) (numbers-fresh ns)

pub node-fresh : (i : ℕ) (ns : List ℕ) → (node_of i (fresh_table ns) ≡ none) ⊎ (node_of i (fresh_table ns) ≡ some fresh)
unfolding node_of fresh_table
node-fresh i [] = inl refl
node-fresh i (n ∷ ns) = go (eqb i n) (node-fresh i ns)
  where
    go : (b : Bool) → (node_of i (fresh_table ns) ≡ none) ⊎ (node_of i (fresh_table ns) ≡ some fresh) → (pick b (some fresh) (node_of i (fresh_table ns)) ≡ none) ⊎ (pick b (some fresh) (node_of i (fresh_table ns)) ≡ some fresh)
    go true ih = inr refl
    go false ih = ih

-- ---- a delta that was read

-- it names no node twice
pub read-once : (ops : List Op) (s : Reading) → Chain s ops → repeated (parts_of ops) ≡ false
unfolding Chain parts_of repeated
read-once [] s c = refl
read-once (NodeOp n g f ∷ ops) s c = go (part_at n (parts_of ops)) refl (read-once ops c.0 c.2)
  where
    go : (o : Option NodeDelta) → part_at n (parts_of ops) ≡ o → repeated (parts_of ops) ≡ false → pick (present o) true (repeated (parts_of ops)) ≡ false
    go none q ih = ih
    go (some d) q ih =
        let x = part_in n (parts_of ops) q in
        let seen : among n c.0.seen ≡ true = ap (among n) (follow-node s c.0 n g f c.1).2 ∙ in-among (here refl) in
        let new : among n c.0.seen ≡ false = ap (λ (k : ℕ). among k c.0.seen) x.3 ∙ parts-new ops c.0 c.2 x.0 x.1 in
        absurd (true≢false (sym seen ∙ new))
read-once (KeyValueOp r ∷ ops) s c = read-once ops c.0 c.2
read-once (SetMaxVersionOp m ∷ ops) s c = read-once ops c.0 c.2

pub clock-fits : (c : Call) → time_of c < numbers → ClockFits c
clock-fits (Setting v) h = tt
clock-fits (SettingTtl v now) h = h
clock-fits (Deleting now) h = h
clock-fits (DeletingAfterTtl now) h = h

-- a call keeps the table rules
pub kept : (t u : Table) → (obeys t ≡ true → obeys u ≡ true) → OkTable t → OkTable u
kept t u f ok = table-facts u (f (facts-table t ok))

-- ---- each event

module _ (ways : Ways) (law : Lawful ways) (is : List ℕ) (w : World) (ok : InOrder is w) where
  ours : (t : Table) → numbers_of t ≡ numbers_of w.publisher → OkTable t → (h : ℕ → List KeyValue) → InOrder is (record { publisher = t; follower = w.follower; given = h; exchange = w.exchange; sent = w.sent })
  ours t e o h =
      record {
        publisher_nodes = e ∙ ok.publisher_nodes;
        follower_nodes = ok.follower_nodes;
        publisher_ok = o;
        follower_ok = ok.follower_ok;
        readable = ok.readable;
        all_read = ok.all_read;
      }

  theirs : (t : Table) → numbers_of t ≡ numbers_of w.follower → OkTable t → InOrder is (on_side Followers (λ u. t) w)
  theirs t e o =
      record {
        publisher_nodes = ok.publisher_nodes;
        follower_nodes = e ∙ ok.follower_nodes;
        publisher_ok = ok.publisher_ok;
        follower_ok = o;
        readable = ok.readable;
        all_read = ok.all_read;
      }

  sent-out : (x : Exchange) (ss : List (List ℕ)) → Readable x → ((b : List ℕ) → b ∈ ss → ReadsWell b) → InOrder is (on_exchange x (on_sent ss w))
  sent-out x ss r rs =
      record {
        publisher_nodes = ok.publisher_nodes;
        follower_nodes = ok.follower_nodes;
        publisher_ok = ok.publisher_ok;
        follower_ok = ok.follower_ok;
        readable = r;
        all_read = rs;
      }

  stays-so : Next ways is w w
  stays-so = record { seen = λ i. (_, stays, refl); order = ok }

  -- a delta that may be sent: it is kept, or sent at once
  module _ (ops : List Op) (s : Sendable w.publisher ops) where
    abbrev bytes : List ℕ
    bytes = delta_bytes ops

    made_of : (i : ℕ) (d : NodeDelta) → part_at i (parts_in (read_delta bytes)) ≡ some d → MadeOf (node_at i w.publisher) d
    made_of i d e = s.made i d (sym (ap (λ (o : Ops). part_at i (parts_in o)) s.read) ∙ e)

    reads-well : ReadsWell bytes
    reads-well = (ops, s.read, s.chain, s.small, refl)

    one_more : (b : List ℕ) → b ∈ bytes ∷ w.sent → ReadsWell b
    one_more b m = go (in-cons m)
      where
        go : (b ≡ bytes) ⊎ (b ∈ w.sent) → ReadsWell b
        go (inl e) = subst ReadsWell (sym e) reads-well
        go (inr n) = ok.all_read b n

    pub next-kept : Next ways is w (on_sent (bytes ∷ w.sent) w)
    next-kept = record { seen = λ i. seen-computed ways i w bytes (made_of i); order = sent-out w.exchange _ ok.readable one_more }

    pub next-sending : Next ways is w (on_exchange (DeltaSent bytes) (on_sent (bytes ∷ w.sent) w))
    next-sending = record { seen = λ i. seen-sent ways i w bytes (made_of i); order = sent-out _ _ reads-well one_more }

  -- a delta that is computed for any bytes as a digest, in any order
  module _ (edition : ℕ) (excluded : List ℕ) (order : Order) (mtu place : ℕ) (l d : List ℕ) where
    next-computing : w.exchange ≡ DigestSent d → (o : Given (Result Sent Refusal) (List ℕ)) → Comes edition excluded order mtu place d w.publisher l o → Next ways is w (on_exchange (after_delta place o.lent o.answer (DigestSent d)) (on_sent (sent_after place o.lent o.answer w.sent) w))
    next-computing x o (refuses r) = subst (λ (y : Exchange). Next ways is w (on_exchange y w)) x stays-so
    next-computing x o (writes ds rest e made there) =
        subst (λ (b : List ℕ). Next ways is w (on_exchange (DeltaSent b) (on_sent (b ∷ w.sent) w))) (sym there) (next-sending _ made.sendable)

    next-keeping : (o : Given (Result Sent Refusal) (List ℕ)) → Comes edition excluded order mtu place d w.publisher l o → Next ways is w (on_sent (sent_after place o.lent o.answer w.sent) w)
    next-keeping o (refuses r) = stays-so
    next-keeping o (writes ds rest e made there) =
        subst (λ (b : List ℕ). Next ways is w (on_sent (b ∷ w.sent) w)) (sym there) (next-kept _ made.sendable)

    come-to : Comes edition excluded order mtu place d w.publisher l (compute_by edition excluded order mtu place d w.publisher l)
    come-to = comes edition excluded order mtu place d w.publisher l (facts-table w.publisher ok.publisher_ok)

  -- any such bytes are taken
  pub taken-order : (now : ℕ) (l b : List ℕ) → now < numbers → ReadsWell b → InOrder is (on_side Followers (λ t. (apply ways b now t l).table) w)
  taken-order now l b clock r =
      theirs _
      (applied-table ways b now w.follower l (λ t. numbers_of t ≡ numbers_of w.follower) refl (λ os q. numbers-each (apply_node ways now) (parts_of os) w.follower))
      (applied-table ways b now w.follower l OkTable ok.follower_ok
      (λ os q. ok-each ways law now clock (parts_of os) w.follower (fine os (sym (law.reads_so b os q) ∙ r.1)) ok.follower_ok))
    where
      fine : (os : List Op) → Good os ≡ Good r.0 → (y : Part) → y ∈ parts_of os → OkDelta y.delta
      fine os q = let e : os ≡ r.0 = cc in subst (λ (l : List Op). (y : Part) → y ∈ parts_of l → OkDelta y.delta) (sym e) (parts-ok r.0 nothing_read r.2 r.3)

  -- those of the delta on its way
  next-applying : (now : ℕ) (l b : List ℕ) → now < numbers → w.exchange ≡ DeltaSent b → ReadsWell b → Next ways is w (on_side Followers (λ t. (apply ways b now t l).table) w)
  next-applying now l b clock x r =
      record { seen = λ i. seen-applying ways i w law now l b r.0 x r.1 (read-once r.0 nothing_read r.2); order = taken-order now l b clock r }

  -- those of a part of it
  next-receiving : (now : ℕ) (l b c : List ℕ) → now < numbers → w.exchange ≡ DeltaSent b → Parted b c → Next ways is w (on_side Followers (λ t. (apply ways c now t l).table) w)
  next-receiving now l b c clock x p =
      let r = p.reads in
      record { seen = λ i. seen-receiving ways i w law now l b c r.0 x r.1 (read-once r.0 nothing_read r.2) (p.each i); order = taken-order now l c clock r }

  -- those of any delta that was ever computed, and of any part of it, where it may come late
  next-arriving : ways.late ≡ true → (now : ℕ) (l b c : List ℕ) → now < numbers → b ∈ w.sent → Parted b c → Next ways is w (on_side Followers (λ t. (apply ways c now t l).table) w)
  next-arriving late now l b c clock m p =
      let r = p.reads in
      record { seen = λ i. seen-arriving ways i w law late now l b c r.0 m r.1 (read-once r.0 nothing_read r.2) (p.each i); order = taken-order now l c clock r }

  -- any removal of scheduled records, by node number and record
  pub next-removing : (s : Side) (due : ℕ → Rec → Bool) → Next ways is w (on_side s (remove_all due) w)
  next-removing Publishers due =
      record { seen = λ i. seen-removing ways i w Publishers due; order = ours _ (numbers-remove due w.publisher) (ok-remove-all due w.publisher ok.publisher_ok) _ }
  next-removing Followers due =
      record { seen = λ i. seen-removing ways i w Followers due; order = theirs _ (numbers-remove due w.follower) (ok-remove-all due w.follower ok.follower_ok) }

  -- a removal of whatever kind
  next-removed : (s : Side) (removal : Removal) → Next ways is w (on_side s (removed_by removal) w)
  next-removed Publishers removal =
      let x = removal-is removal w.publisher in
      subst (λ (t : Table). Next ways is w (on_side Publishers (λ u. t) w)) (sym x.1) (next-removing Publishers x.0)
  next-removed Followers removal =
      let x = removal-is removal w.follower in
      subst (λ (t : Table). Next ways is w (on_side Followers (λ u. t) w)) (sym x.1) (next-removing Followers x.0)

  next-calls : (e : Event) → possible ways e ≡ true → Next ways is w (calls ways e w)
  next-calls (Writing i k who c) p =
      record {
        seen = λ j. seen-writing ways j w i k who c;
        order = ours _ (numbers-call c i k w.publisher) (kept w.publisher _ (call-keeps c i k w.publisher (clock-fits c (ltb-true _ _ p))) ok.publisher_ok) _;
      }
  next-calls (Beating Publishers i) p =
      record { seen = λ j. seen-beating ways j w Publishers i; order = ours _ (numbers-beat i w.publisher) (kept w.publisher _ (beat-keeps i w.publisher) ok.publisher_ok) _ }
  next-calls (Beating Followers i) p =
      record { seen = λ j. seen-beating ways j w Followers i; order = theirs _ (numbers-beat i w.follower) (kept w.follower _ (beat-keeps i w.follower) ok.follower_ok) }
  next-calls (Offering Publishers i h) p =
      record {
        seen = λ j. seen-offering ways j w Publishers i h;
        order = ours _ (numbers-offer i h w.publisher) (kept w.publisher _ (offer-keeps i h w.publisher (ltb-true _ _ p)) ok.publisher_ok) _;
      }
  next-calls (Offering Followers i h) p =
      record {
        seen = λ j. seen-offering ways j w Followers i h;
        order = theirs _ (numbers-offer i h w.follower) (kept w.follower _ (offer-keeps i h w.follower (ltb-true _ _ p)) ok.follower_ok);
      }
  next-calls (Removing s removal) p = next-removed s removal
  next-calls (Digesting edition excluded place l) p = record { seen = λ j. seen-digesting ways j w edition excluded place l; order = sent-out _ w.sent (go (write_digest edition excluded place w.follower l).answer) ok.all_read }
    where
      go : (a : (Result ℕ Refusal)) → Readable (after_digest place (write_digest edition excluded place w.follower l).lent a w.exchange)
      go (Ok n) = tt
      go (Err r) = ok.readable
  next-calls (Computing edition excluded order mtu place l) p = go w.exchange refl
    where
      go : (x : Exchange) → w.exchange ≡ x → Next ways is w (on_exchange (computed_for edition excluded order mtu place l w.publisher x) (on_sent (sent_on edition excluded order mtu place l w.publisher x w.sent) w))
      go Idle q = subst (λ (y : Exchange). Next ways is w (on_exchange y w)) q stays-so
      go (DigestSent d) q = next-computing edition excluded order mtu place l d q _ (come-to edition excluded order mtu place l d)
      go (DeltaSent b) q = subst (λ (y : Exchange). Next ways is w (on_exchange y w)) q stays-so
  next-calls (Applying now l) p = go w.exchange refl ok.readable
    where
      go : (x : Exchange) → w.exchange ≡ x → Readable x → Next ways is w (on_side Followers (applied_to ways now l x) w)
      go Idle q r = stays-so
      go (DigestSent d) q r = stays-so
      go (DeltaSent b) q r = next-applying now l b (ltb-true _ _ p) q r
  next-calls (Receiving cuts now l) p =
      cut-way (λ x. Next ways is w (on_side Followers (applied_to ways now l x) w)) stays-so (λ d. stays-so) cuts w.exchange (λ b q. subst Readable q ok.readable)
      (λ b c q y. next-receiving now l b c (ltb-true _ _ p) q y)
  next-calls (Sending edition digest excluded order mtu place l) p = next-keeping edition excluded order mtu place l digest _ (come-to edition excluded order mtu place l digest)
  next-calls (Arriving k now l) p =
      nth-sent (λ x. Next ways is w (on_side Followers (applied_to ways now l x) w)) stays-so k w.sent ok.all_read
      (λ b c m. next-arriving (and_left ways.late _ p) now l b c (ltb-true _ _ (and_right ways.late _ p)) m)

  pub next-event : (e : Event) → Next ways is w (happen ways e w)
  unfolding happen
  next-event e = go (possible ways e) refl
    where
      go : (b : Bool) → possible ways e ≡ b → Next ways is w (pick b (calls ways e w) w)
      go true q = next-calls e q
      go false q = stays-so

-- ---- a run

pub record Moment (ways : Ways) (is : List ℕ) (w : World) : Type 0 where
  pub order : InOrder is w
  pub facts : (i : ℕ) → Facts ways (at i w)

pub moment-claims : (ways : Ways) (is : List ℕ) (w : World) → Moment ways is w → (i : ℕ) → Claims (w.given i) (node_at i w.publisher) (node_at i w.follower)
moment-claims ways is w m i = claims-of (w.given i) (node_at i w.publisher) (node_at i w.follower) (m.facts i).publisher (m.facts i).follower

pub moments : (ways : Ways) → Lawful ways → (is : List ℕ) (es : List Event) (w : World) → Moment ways is w → Moment ways is (after ways es w)
unfolding after
moments ways law is [] w m = m
moments ways law is (e ∷ es) w m =
    let n = next-event ways law is w m.order e in
    moments ways law is es (happen ways e w) (record { order = n.order; facts = λ i. seen-facts ways law (at i w) (at i (happen ways e w)) (n.seen i) (m.facts i) })

pub run-rises : (ways : Ways) → Lawful ways → (is : List ℕ) (es : List Event) (w : World) → InOrder is w → (i : ℕ) → Rises (at i w).ours (at i (after ways es w)).ours × Rises (at i w).theirs (at i (after ways es w)).theirs
unfolding after
run-rises ways law is [] w o i = (rises-same (at i w).ours, rises-same (at i w).theirs)
run-rises ways law is (e ∷ es) w o i =
    let n = next-event ways law is w o e in
    let x : World = happen ways e w in
    let a = seen-rises ways (at i w) (at i x) (n.seen i) in
    let b = run-rises ways law is es x n.order i in (
      rises-trans (at i w).ours (at i x).ours (at i (after ways es x)).ours a.0 b.0,
      rises-trans (at i w).theirs (at i x).theirs (at i (after ways es x)).theirs a.1 b.1,
    )

module _ (is : List ℕ) (ok : obeys (fresh_table is) ≡ true) where
  pub moment-start : (ways : Ways) → Moment ways is (start is)
  unfolding start sent_of
  moment-start ways =
      record {
        order =
            record {
              publisher_nodes = numbers-fresh is;
              follower_nodes = numbers-fresh is;
              publisher_ok = table-facts (fresh_table is) ok;
              follower_ok = table-facts (fresh_table is) ok;
              readable = tt;
              all_read = λ b m. absurd (in-none m);
            };
        facts = λ i. go i (node-fresh i is);
      }
    where
      fresh-is : (i : ℕ) → (node_of i (fresh_table is) ≡ none) ⊎ (node_of i (fresh_table is) ≡ some fresh) → node_at i (fresh_table is) ≡ fresh
      fresh-is i (inl e) = ap or_fresh e
      fresh-is i (inr e) = ap or_fresh e

      go : (i : ℕ) → (node_of i (fresh_table is) ≡ none) ⊎ (node_of i (fresh_table is) ≡ some fresh) → Facts ways (at i (start is))
      go i x = let a = fresh-is i x in subst (Facts ways) (λ z. record { given = []; ours = sym a z; theirs = sym a z; flight = none; sent = [] }) (facts-fresh ways)

  pub moment : (ways : Ways) → Lawful ways → (es : List Event) → Moment ways is (after ways es (start is))
  moment ways law es = moments ways law is es (start is) (moment-start ways)
