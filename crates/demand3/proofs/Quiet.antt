-- What may still happen once writes, deletes and removals cease: beats and offers, which change heartbeats alone, and the calls of exchanges, also
-- refused ones, deltas applied again and deltas that come late. No node of the follower goes back, and none comes to need more.
use Prim.Native.Nat.{◌≤◌, ℕ}
use mathlib.Core.Bool.{Bool, false, false≢true, true}
use mathlib.Core.List.{List}
use mathlib.Core.Logic.{◌⊎◌, inl, inr}
use mathlib.Core.Option.{Option, none, some}
use mathlib.Core.Path.{◌∙◌, ◌≡◌, ap, refl, subst, sym}
use native.Mathlib.Omega.{arith}
use Rattle.fields.specs.Choice.{pick}
use Rattle.rules.proofs.Tables.{applied-table, part_at, taking}
use Rattle.rules.specs.Apply.{Lawful, Ways, apply_each, apply_node}
use Rattle.rules.specs.Delta.{Good, NodeDelta, Ops, nothing_read, parts_of}
use Rattle.rules.specs.Local.{local_beat, offer}
use Rattle.rules.specs.Node.{KeyValue, Node, with_heartbeat}
use Rattle.rules.specs.Table.{Table}
use Rattle.rules.specs.declared.Heartbeat.{Heartbeat}
use Rattle.demand3.proofs.EachNode.{Beaten, beaten-local, beaten-offer, flight_of, node-taken, node_at, parts_in, sent-in, unbeaten}
use Rattle.demand3.proofs.Moments.{Moment, Readable, read-once}
use Rattle.demand3.proofs.Parted.{Parted, cut-way, nth-sent}
use Rattle.demand3.proofs.Nearer.{lack}
use Rattle.demand3.proofs.Needed.{Onward, needed, onward-came, onward-needed, onward-same}
use Rattle.demand3.proofs.OneNode.{Flies}
use Rattle.demand3.specs.Demand3.{quiet}
use Rattle.demand3.specs.Forms.{Order}
use Rattle.demand3.specs.World.{Applying, Arriving, Beating, Computing, Cut, DeltaSent, DigestSent, Digesting, Event, Exchange, Followers, Idle, Offering, Publishers, Receiving, Removing, Sending, Side, Which, World, Writing, applied_to, calls, happen, on_side, possible}

-- ---- heartbeats alone

-- the tables are the same but for heartbeats
abbrev pub AllBeaten : Table → Table → Type 0
AllBeaten t u = (i : ℕ) → Beaten i t u

pub beaten-on : (t u v : Table) → AllBeaten t u → AllBeaten u v → AllBeaten t v
beaten-on t u v a b i = ((b i).0, (b i).1 ∙ ap (with_heartbeat (b i).0) (a i).1)

-- a node needs the same
pub lack-ours : (t u f : Table) → AllBeaten t u → (i : ℕ) → lack u f i ≡ lack t f i
unfolding needed
lack-ours t u f b i = ap (λ (n : Node). needed n (node_at i f)) (b i).1

-- ---- a quiet event

-- The publisher's nodes change heartbeats alone, and no node of the follower goes back: where no reset is due, none becomes due, and max does not fall.
pub record Calm (w x : World) : Type 0 where
  pub publisher_beaten : AllBeaten w.publisher x.publisher
  pub onward : (i : ℕ) → Onward (node_at i w.publisher) (node_at i w.follower) (node_at i x.follower)

module _ (w : World) where
  calm-same : Calm w w
  calm-same = record { publisher_beaten = λ i. unbeaten i w.publisher; onward = λ i. onward-same (node_at i w.publisher) (node_at i w.follower) }

  calm-theirs : (t : Table) → ((i : ℕ) → Onward (node_at i w.publisher) (node_at i w.follower) (node_at i t)) → Calm w (on_side Followers (λ u. t) w)
  calm-theirs t on = record { publisher_beaten = λ i. unbeaten i w.publisher; onward = on }

  calm-beats : (s : Side) (f : Table → Table) → ((t : Table) → AllBeaten t (f t)) → Calm w (on_side s f w)
  calm-beats Publishers f h = record { publisher_beaten = h w.publisher; onward = calm-same.onward }
  calm-beats Followers f h =
      calm-theirs _ (λ i. let b = h w.follower i in subst (Onward (node_at i w.publisher) (node_at i w.follower)) (sym b.1) (λ g. (g, omega arith)))

-- what a node still needs
abbrev pub lacks : World → ℕ → ℕ
lacks w i = lack w.publisher w.follower i

module _ (ways : Ways) (law : Lawful ways) (is : List ℕ) (w : World) (m : Moment ways is w) where
  abbrev p : ℕ → Node
  p i = node_at i w.publisher

  abbrev f : ℕ → Node
  f i = node_at i w.follower

  part-onward : (now i : ℕ) (h : List KeyValue) (o : Option NodeDelta) → Flies h (p i) o → Onward (p i) (f i) (taking (apply_node ways now) o (f i))
  part-onward now i h none a = onward-same (p i) (f i)
  part-onward now i h (some d) a = onward-came ways now d (p i) (f i) a.1

  -- whatever delta was ever computed is applied, and however often
  applied-onward : (now : ℕ) (l : List ℕ) (x : Exchange) → Readable x → ((i : ℕ) → Flies (w.given i) (p i) (flight_of i x)) → (i : ℕ) → Onward (p i) (f i) (node_at i (applied_to ways now l x w.follower))
  applied-onward now l Idle r a i = onward-same (p i) (f i)
  applied-onward now l (DigestSent d) r a i = onward-same (p i) (f i)
  applied-onward now l (DeltaSent b) r a i =
      applied-table ways b now w.follower l (λ t. Onward (p i) (f i) (node_at i t)) (onward-same (p i) (f i))
      (λ os e. subst (λ (o : Ops). Onward (p i) (f i) (node_at i (heard o))) (sym r.1 ∙ law.reads_so b os e) (by (node-taken i w.follower (apply_node ways now) (parts_of r.0) (read-once r.0 nothing_read r.2))))
    where
      heard : Ops → Table
      heard o = (apply_each (apply_node ways now) (parts_in o) w.follower).table

      flies : Flies (w.given i) (p i) (part_at i (parts_of r.0))
      flies = subst (λ (o : Ops). Flies (w.given i) (p i) (part_at i (parts_in o))) r.1 (a i)

      by : (node_at i (heard (Good r.0)) ≡ f i) ⊎ (node_at i (heard (Good r.0)) ≡ taking (apply_node ways now) (part_at i (parts_of r.0)) (f i)) → Onward (p i) (f i) (node_at i (heard (Good r.0)))
      by (inl e) = subst (Onward (p i) (f i)) (sym e) (onward-same (p i) (f i))
      by (inr e) = subst (Onward (p i) (f i)) (sym e) (part-onward now i (w.given i) (part_at i (parts_of r.0)) flies)

  -- a part of one brings of each node what that brings, or nothing
  part-flies : (b c : List ℕ) → ((i : ℕ) → Flies (w.given i) (p i) (flight_of i (DeltaSent b))) → Parted b c → (i : ℕ) → Flies (w.given i) (p i) (flight_of i (DeltaSent c))
  part-flies b c f y i = subst (λ (o : Ops). Flies (w.given i) (p i) (part_at i (parts_in o))) (sym y.reads.1) (go (part_at i (parts_of y.reads.0)) refl)
    where
      go : (o : Option NodeDelta) → part_at i (parts_of y.reads.0) ≡ o → Flies (w.given i) (p i) o
      go none q = tt
      go (some d) q = subst (Flies (w.given i) (p i)) (y.each i d q) (f i)

  calm-calls : (e : Event) → quiet e ≡ true → Calm w (calls ways e w)
  calm-calls (Writing j k who c) q = absurd (false≢true q)
  calm-calls (Removing s removal) q = absurd (false≢true q)
  calm-calls (Beating s j) q = calm-beats w s (λ t. (local_beat j t).table) (λ t i. beaten-local i t j)
  calm-calls (Offering s j h) q = calm-beats w s (λ t. (offer j h t).table) (λ t i. beaten-offer i t j h)
  calm-calls (Digesting edition excluded place l) q = record { publisher_beaten = (calm-same w).publisher_beaten; onward = (calm-same w).onward }
  calm-calls (Computing edition excluded order mtu place l) q = record { publisher_beaten = (calm-same w).publisher_beaten; onward = (calm-same w).onward }
  calm-calls (Applying now l) q = calm-theirs w _ (applied-onward now l w.exchange m.order.readable (λ i. (m.facts i).flies))
  calm-calls (Receiving cuts now l) q =
      calm-theirs w _
      (cut-way (λ x. (i : ℕ) → Onward (p i) (f i) (node_at i (applied_to ways now l x w.follower))) (λ i. onward-same (p i) (f i)) (λ d i. onward-same (p i) (f i)) cuts w.exchange
      (λ b e. subst Readable e m.order.readable)
      (λ b c e y. applied-onward now l (DeltaSent c) y.reads (part-flies b c (λ i. subst (λ (x : Exchange). Flies (w.given i) (p i) (flight_of i x)) e (m.facts i).flies) y)))
  calm-calls (Sending edition digest excluded order mtu place l) q = record { publisher_beaten = (calm-same w).publisher_beaten; onward = (calm-same w).onward }
  calm-calls (Arriving k now l) q =
      calm-theirs w _
      (nth-sent (λ x. (i : ℕ) → Onward (p i) (f i) (node_at i (applied_to ways now l x w.follower))) (λ i. onward-same (p i) (f i)) k w.sent m.order.all_read
      (λ b c n y. applied-onward now l (DeltaSent c) y.reads (part-flies b c (λ i. (m.facts i).known _ (sent-in i n)) y)))

  pub calm : (e : Event) → quiet e ≡ true → Calm w (happen ways e w)
  unfolding happen
  calm e q = go (possible ways e)
    where
      go : (b : Bool) → Calm w (pick b (calls ways e w) w)
      go true = calm-calls e q
      go false = calm-same w

  -- ---- no node comes to need more

  top : (i : ℕ) → (p i).last_gc ≤ (p i).max
  top i = let b = (m.facts i).publisher in let c = b.node.honest.gc_low in let e = b.top in omega arith

  -- than at a table from which it went onward
  pub onward-lacks : (t : Table) (i : ℕ) → Onward (p i) (node_at i t) (f i) → lacks w i ≤ lack w.publisher t i
  onward-lacks t i on = onward-needed (p i) (node_at i t) (f i) (top i) on

  -- and after any quiet event
  pub lacks-stays : (e : Event) → quiet e ≡ true → (i : ℕ) → lacks (happen ways e w) i ≤ lacks w i
  lacks-stays e q i =
      let x : World = happen ways e w in
      let c = calm e q in
      let a = onward-needed (p i) (f i) (node_at i x.follower) (top i) (c.onward i) in
      let b = lack-ours w.publisher x.publisher x.follower c.publisher_beaten i in
      omega arith

-- ---- which events leave what is on its way

module _ (ways : Ways) (w : World) where
  abbrev SameWay : Event → Type 0
  SameWay e = (happen ways e w).exchange ≡ w.exchange

  maybe : (e : Event) → (calls ways e w).exchange ≡ w.exchange → SameWay e
  unfolding happen
  maybe e h = go (possible ways e)
    where
      go : (b : Bool) → (pick b (calls ways e w) w).exchange ≡ w.exchange
      go true = h
      go false = refl

  same-side : (s : Side) (f : Table → Table) → (on_side s f w).exchange ≡ w.exchange
  same-side Publishers f = refl
  same-side Followers f = refl

  pub way-beating : (s : Side) (j : ℕ) → SameWay (Beating s j)
  way-beating s j = maybe (Beating s j) (same-side s (λ t. (local_beat j t).table))

  pub way-offering : (s : Side) (j : ℕ) (h : Heartbeat) → SameWay (Offering s j h)
  way-offering s j h = maybe (Offering s j h) (same-side s (λ t. (offer j h t).table))

  pub way-receiving : (cuts : List Cut) (now : ℕ) (l : List ℕ) → SameWay (Receiving cuts now l)
  way-receiving cuts now l = maybe (Receiving cuts now l) refl

  pub way-sending : (edition : ℕ) (digest excluded : List ℕ) (order : Order) (mtu place : ℕ) (l : List ℕ) → SameWay (Sending edition digest excluded order mtu place l)
  way-sending edition digest excluded order mtu place l = maybe (Sending edition digest excluded order mtu place l) refl

  pub way-arriving : (k : Which) (now : ℕ) (l : List ℕ) → SameWay (Arriving k now l)
  way-arriving k now l = maybe (Arriving k now l) refl
