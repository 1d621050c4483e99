-- Two tables and an exchange, seen from one node: whatever happens to the world is one step of the node. A removal may go by any test, a write by any
-- decision, and a delta that is sent may be any whose part for the node computing could make.
use Prim.Native.Nat.{◌+◌, ℕ}
use mathlib.Core.Bool.{Bool, false, true}
use mathlib.Core.List.{List, [], ◌∷◌}
use mathlib.Core.Logic.{◌⊎◌, inl, inr}
use mathlib.Core.Option.{Option, none, some}
use mathlib.Core.Path.{◌∙◌, ◌≡◌, ap, refl, subst, sym}
use lib.Dec.{eqb, ltb}
use borrow.Author.Tests.{eqb-true}
use Rattle.fields.specs.Choice.{◌∈◌, here, keep, later, pick}
use Rattle.rules.proofs.Sending.{MadeOf}
use Rattle.rules.proofs.Tables.{applied-table, mapped, node-each, node-remove, node-set-other, node-set-same, part_at, repeated, taking}
use Rattle.rules.specs.Apply.{Lawful, Taking, Ways, apply, apply_each, apply_node}
use Rattle.rules.specs.Delta.{Faulty, Good, NodeDelta, Op, Ops, Part, parts_of, read_delta}
use Rattle.rules.specs.Digest.{write_digest}
use Rattle.rules.specs.Local.{beat_on, call, call_on, gives, local_beat, offer, offer_on}
use Rattle.rules.specs.Node.{Call, Decision, Node, Rec, act, beats, decide, due, fresh, last_gc_of, offer_of, remove, with_heartbeat}
use Rattle.rules.specs.Sizes.{top}
use Rattle.rules.specs.Table.{Table, node_of, remove_all, set_node}
use Rattle.std.specs.Prelude.{Err, Ok, Result}
use Rattle.rules.specs.declared.Refusal.{Refusal}
use Rattle.rules.specs.Results.{done}
use Rattle.rules.specs.declared.Heartbeat.{Heartbeat}
use Rattle.rules.specs.declared.Party.{Party}
use Rattle.rules.specs.declared.Refusal.TheVariants.{Exhausted}
use Rattle.demand3.proofs.OneNode.{Facts, Makes, One, Step, comes_late, lost, stays, step_keeps, step-rises, they_beat, they_remove, they_take, we_beat, we_compute, we_remove, we_send, we_write, with_ours, with_theirs, with_write}
use Rattle.demand3.specs.Demand3.{Rises}
use Rattle.demand3.specs.World.{Beating, DeltaSent, DigestSent, Digesting, Exchange, Followers, Idle, Offering, Publishers, Side, World, Writing, after_digest, calls, given_after, given_in, on_exchange, on_sent, on_side}

-- ---- one node of the world

-- the node deltas that bytes bring; none, where they are refused
abbrev pub parts_in : Ops → List Part
parts_in (Good ops) = parts_of ops
parts_in (Faulty r at) = []

abbrev pub flight_of : ℕ → Exchange → Option NodeDelta
flight_of i Idle = none
flight_of i (DigestSent d) = none
flight_of i (DeltaSent b) = part_at i (parts_in (read_delta b))

abbrev pub or_fresh : Option Node → Node
or_fresh none = fresh
or_fresh (some n) = n

abbrev pub node_at : ℕ → Table → Node
node_at i t = or_fresh (node_of i t)

-- the parts of all deltas that were ever computed
unfoldable pub sent_of : ℕ → List (List ℕ) → List (Option NodeDelta)
sent_of i [] = []
sent_of i (b ∷ ss) = flight_of i (DeltaSent b) ∷ sent_of i ss

pub sent-in : (i : ℕ) {b : List ℕ} {ss : List (List ℕ)} → b ∈ ss → flight_of i (DeltaSent b) ∈ sent_of i ss
unfolding sent_of
sent-in i (here e) = here (ap (λ (b : List ℕ). flight_of i (DeltaSent b)) e)
sent-in i (later m) = later (sent-in i m)

abbrev pub at : ℕ → World → One
at i w = record { given = w.given i; ours = node_at i w.publisher; theirs = node_at i w.follower; flight = flight_of i w.exchange; sent = sent_of i w.sent }

-- a step leads from the one to the other
abbrev pub Seen : Ways → One → One → Type 0
Seen ways v x = (y : One) × Step ways v y × (x ≡ y)

pub seen-facts : (ways : Ways) → Lawful ways → (v x : One) → Seen ways v x → Facts ways v → Facts ways x
seen-facts ways law v x s ok = subst (Facts ways) (sym s.2) (step_keeps ways law v s.0 s.1 ok)

pub seen-rises : (ways : Ways) (v x : One) → Seen ways v x → Rises v.ours x.ours × Rises v.theirs x.theirs
seen-rises ways v x s = subst (λ (y : One). Rises v.ours y.ours × Rises v.theirs y.theirs) (sym s.2) (step-rises ways v s.0 s.1)

-- ---- what a call does to a node of its table

-- only the heartbeat changes
abbrev pub Beaten : ℕ → Table → Table → Type 0
Beaten i t u = (b : Heartbeat) × (node_at i u ≡ with_heartbeat b (node_at i t))

module _ (i : ℕ) (t : Table) where
  pub unbeaten : Beaten i t t
  unbeaten = ((node_at i t).heartbeat, refl)

  beaten-set : (j : ℕ) (n : Node) (b : Heartbeat) → node_of j t ≡ some n → Beaten i t (set_node j (with_heartbeat b n) t)
  beaten-set j n b e = go (eqb i j) refl
    where
      go : (x : Bool) → eqb i j ≡ x → Beaten i t (set_node j (with_heartbeat b n) t)
      go true q =
          let k : i ≡ j = eqb-true i j q in
          let was : n ≡ node_at i t = sym (ap or_fresh (ap (λ (x : ℕ). node_of x t) k ∙ e)) in
          let is : node_at i (set_node j (with_heartbeat b n) t) ≡ with_heartbeat b n =
          ap or_fresh (subst (λ (x : ℕ). node_of x (set_node j (with_heartbeat b n) t) ≡ some (with_heartbeat b n)) (sym k) (node-set-same j (with_heartbeat b n) t e)) in
          (b, is ∙ ap (with_heartbeat b) was)
      go false q = ((node_at i t).heartbeat, ap or_fresh (node-set-other i j (with_heartbeat b n) t q))

  pub beaten-local : (j : ℕ) → Beaten i t (local_beat j t).table
  unfolding local_beat
  beaten-local j = go (node_of j t) refl
    where
      go : (o : Option Node) → node_of j t ≡ o → Beaten i t (beat_on j o t).table
      go none q = unbeaten
      go (some n) q = room (ltb n.heartbeat.0 top)
        where
          next : Heartbeat
          next = beats (n.heartbeat.0 + 1)

          room : (x : Bool) → Beaten i t (pick x (gives done (set_node j (with_heartbeat next n) t)) (gives (Err Exhausted) t)).table
          room true = beaten-set j n next q
          room false = unbeaten

  pub beaten-offer : (j : ℕ) (h : Heartbeat) → Beaten i t (offer j h t).table
  unfolding offer
  beaten-offer j h = go (node_of j t) refl
    where
      go : (o : Option Node) → node_of j t ≡ o → Beaten i t (offer_on j h o t).table
      go none q = unbeaten
      go (some n) q = beaten-set j n (offer_of n.heartbeat h).heartbeat q

  pub removed : (due : ℕ → Rec → Bool) → node_at i (remove_all due t) ≡ remove (due i) (node_at i t)
  unfolding remove last_gc_of keep
  removed due = ap or_fresh (node-remove due i t) ∙ go (node_of i t)
    where
      go : (o : Option Node) → or_fresh (mapped (remove (due i)) o) ≡ remove (due i) (or_fresh o)
      go none = refl
      go (some m) = refl

  -- a node takes its part of a delta that names none twice; one that the table does not hold stays away
  pub node-taken : (take : Taking) (xs : List Part) → repeated xs ≡ false → (node_at i (apply_each take xs t).table ≡ node_at i t) ⊎ (node_at i (apply_each take xs t).table ≡ taking take (part_at i xs) (node_at i t))
  node-taken take xs once = go (node_of i t) (node-each take i xs t once)
    where
      go : (o : Option Node) → node_of i (apply_each take xs t).table ≡ mapped (taking take (part_at i xs)) o → (node_at i (apply_each take xs t).table ≡ or_fresh o) ⊎ (node_at i (apply_each take xs t).table ≡ taking take (part_at i xs) (or_fresh o))
      go none e = inl (ap or_fresh e)
      go (some n) e = inr (ap or_fresh e)

-- ---- what happens, seen from node i

module _ (ways : Ways) (i : ℕ) (w : World) where
  -- only our node is another, or only theirs
  abbrev ours-are : Node → One
  ours-are n = with_ours n (at i w)

  abbrev theirs-are : Node → One
  theirs-are n = with_theirs n (at i w)

  ours-beat : (u : Table) → Beaten i w.publisher u → Seen ways (at i w) (ours-are (node_at i u))
  ours-beat u b = (_, we_beat b.0, ap ours-are b.1)

  theirs-beat : (u : Table) → Beaten i w.follower u → Seen ways (at i w) (theirs-are (node_at i u))
  theirs-beat u b = (_, they_beat b.0, ap theirs-are b.1)

  pub seen-beating : (s : Side) (j : ℕ) → Seen ways (at i w) (at i (calls ways (Beating s j) w))
  seen-beating Publishers j = ours-beat _ (beaten-local i w.publisher j)
  seen-beating Followers j = theirs-beat _ (beaten-local i w.follower j)

  pub seen-offering : (s : Side) (j : ℕ) (h : Heartbeat) → Seen ways (at i w) (at i (calls ways (Offering s j h) w))
  seen-offering Publishers j h = ours-beat _ (beaten-offer i w.publisher j h)
  seen-offering Followers j h = theirs-beat _ (beaten-offer i w.follower j h)

  -- any removal of scheduled records, by node number and record
  pub seen-removing : (s : Side) (due : ℕ → Rec → Bool) → Seen ways (at i w) (at i (on_side s (remove_all due) w))
  seen-removing Publishers due = (_, we_remove (due i), ap ours-are (removed i w.publisher due))
  seen-removing Followers due = (_, they_remove (due i), ap theirs-are (removed i w.follower due))

  -- any decision about a key of node j
  pub seen-decided : (j : ℕ) (k : List ℕ) (p : Node) (x : Decision) → node_of j w.publisher ≡ some p → (b : Bool) → eqb i j ≡ b → Seen ways (at i w) (with_write (pick b (given_after k x p (w.given i)) (w.given i)) (node_at i (set_node j (act k x p) w.publisher)) (at i w))
  seen-decided j k p x e true q =
      let t : Table = w.publisher in
      let is : i ≡ j = eqb-true i j q in
      let p-is : p ≡ node_at i t = sym (ap or_fresh (ap (λ (y : ℕ). node_of y t) is ∙ e)) in
      let put-in : node_of i (set_node j (act k x p) t) ≡ some (act k x p) =
      subst (λ (y : ℕ). node_of y (set_node j (act k x p) t) ≡ some (act k x p)) (sym is) (node-set-same j (act k x p) t e) in
      let a : given_after k x p (w.given i) ≡ given_after k x (node_at i t) (w.given i) = ap (λ (n : Node). given_after k x n (w.given i)) p-is in
      let b : node_at i (set_node j (act k x p) t) ≡ act k x (node_at i t) = ap or_fresh put-in ∙ ap (act k x) p-is in
      (_, we_write k x, λ z. with_write (a z) (b z) (at i w))
  seen-decided j k p x e false q = (_, stays, ap ours-are (ap or_fresh (node-set-other i j (act k x p) w.publisher q)))

  pub seen-writing : (j : ℕ) (k : List ℕ) (who : Party) (c : Call) → Seen ways (at i w) (at i (calls ways (Writing j k who c) w))
  unfolding call
  seen-writing j k who c = go (node_of j w.publisher) refl (eqb i j) refl
    where
      go : (o : Option Node) → node_of j w.publisher ≡ o → (b : Bool) → eqb i j ≡ b → Seen ways (at i w) (with_write (pick b (given_in k c o (w.given i)) (w.given i)) (node_at i (call_on c j k o w.publisher).table) (at i w))
      go none e true q = (_, stays, refl)
      go none e false q = (_, stays, refl)
      go (some p) e b q = seen-decided j k p (decide c k p) e b q

  pub seen-digesting : (edition : ℕ) (excluded : List ℕ) (place : ℕ) (l : List ℕ) → Seen ways (at i w) (at i (calls ways (Digesting edition excluded place l) w))
  seen-digesting edition excluded place l = go (write_digest edition excluded place w.follower l).answer
    where
      go : (a : (Result ℕ Refusal)) → Seen ways (at i w) (at i (on_exchange (after_digest place (write_digest edition excluded place w.follower l).lent a w.exchange) w))
      go (Ok n) = (_, lost, refl)
      go (Err r) = (_, stays, refl)

  -- bytes that are read and name no node twice are taken, if their part for the node may be
  pub seen-taken : Lawful ways → (now : ℕ) (l b : List ℕ) (ops : List Op)
      → read_delta b ≡ Good ops
      → repeated (parts_of ops) ≡ false
      → Step ways (at i w) (theirs-are (taking (apply_node ways now) (part_at i (parts_of ops)) (node_at i w.follower)))
      → Seen ways (at i w) (at i (on_side Followers (λ t. (apply ways b now t l).table) w))
  seen-taken law now l b ops e once step =
      applied-table ways b now w.follower l (λ t. Seen ways (at i w) (theirs-are (node_at i t))) (_, stays, refl)
      (λ os q. subst (λ (o : Ops). Seen ways (at i w) (theirs-are (node_at i (heard o)))) (sym e ∙ law.reads_so b os q) (by (node-taken i w.follower (apply_node ways now) (parts_of ops) once)))
    where
      heard : Ops → Table
      heard o = (apply_each (apply_node ways now) (parts_in o) w.follower).table

      by : (node_at i (heard (Good ops)) ≡ node_at i w.follower) ⊎ (node_at i (heard (Good ops)) ≡ taking (apply_node ways now) (part_at i (parts_of ops)) (node_at i w.follower)) → Seen ways (at i w) (theirs-are (node_at i (heard (Good ops))))
      by (inl a) = (_, stays, ap theirs-are a)
      by (inr a) = (_, step, ap theirs-are a)

  -- those of the delta on its way
  pub seen-applying : Lawful ways → (now : ℕ) (l b : List ℕ) (ops : List Op) → w.exchange ≡ DeltaSent b → read_delta b ≡ Good ops → repeated (parts_of ops) ≡ false → Seen ways (at i w) (at i (on_side Followers (λ t. (apply ways b now t l).table) w))
  seen-applying law now l b ops x e once =
      seen-taken law now l b ops e once
      (subst (λ (o : Option NodeDelta). Step ways (at i w) (theirs-are (taking (apply_node ways now) o (node_at i w.follower)))) flight-is (they_take now))
    where
      flight-is : flight_of i w.exchange ≡ part_at i (parts_of ops)
      flight-is = ap (flight_of i) x ∙ ap (λ (o : Ops). part_at i (parts_in o)) e

  -- those of a part of it: c brings of the node what b brings, or nothing
  pub seen-receiving : Lawful ways → (now : ℕ) (l b c : List ℕ) (ops : List Op) → w.exchange ≡ DeltaSent b → read_delta c ≡ Good ops → repeated (parts_of ops) ≡ false
      → ((d : NodeDelta) → part_at i (parts_of ops) ≡ some d → part_at i (parts_in (read_delta b)) ≡ some d)
      → Seen ways (at i w) (at i (on_side Followers (λ t. (apply ways c now t l).table) w))
  seen-receiving law now l b c ops x e once its = seen-taken law now l c ops e once (go (part_at i (parts_of ops)) refl)
    where
      go : (o : Option NodeDelta) → part_at i (parts_of ops) ≡ o → Step ways (at i w) (theirs-are (taking (apply_node ways now) o (node_at i w.follower)))
      go none q = stays
      go (some d) q = subst (λ (o : Option NodeDelta). Step ways (at i w) (theirs-are (taking (apply_node ways now) o (node_at i w.follower)))) (ap (flight_of i) x ∙ its d q) (they_take now)

  -- those of one that was ever computed, or of a part of it, late or again: c brings of the node what b brings, or nothing
  pub seen-arriving : Lawful ways → ways.late ≡ true → (now : ℕ) (l b c : List ℕ) (ops : List Op) → b ∈ w.sent → read_delta c ≡ Good ops → repeated (parts_of ops) ≡ false
      → ((d : NodeDelta) → part_at i (parts_of ops) ≡ some d → part_at i (parts_in (read_delta b)) ≡ some d)
      → Seen ways (at i w) (at i (on_side Followers (λ t. (apply ways c now t l).table) w))
  seen-arriving law late now l b c ops m e once its = seen-taken law now l c ops e once (go (part_at i (parts_of ops)) refl)
    where
      go : (o : Option NodeDelta) → part_at i (parts_of ops) ≡ o → Step ways (at i w) (theirs-are (taking (apply_node ways now) o (node_at i w.follower)))
      go none q = stays
      go (some d) q = comes_late now (some d) late (subst (λ (o : Option NodeDelta). o ∈ sent_of i w.sent) (its d q) (sent-in i m))

  -- A delta is computed: its part for the node, if there is one, is what computing makes of it. It is kept, or sent at once.
  module _ (b : List ℕ) (made : (d : NodeDelta) → part_at i (parts_in (read_delta b)) ≡ some d → MadeOf (node_at i w.publisher) d) where
    makes : Makes (node_at i w.publisher) (flight_of i (DeltaSent b))
    makes = go (part_at i (parts_in (read_delta b))) refl
      where
        go : (o : Option NodeDelta) → part_at i (parts_in (read_delta b)) ≡ o → Makes (node_at i w.publisher) o
        go none q = tt
        go (some d) q = made d q

    pub seen-computed : Seen ways (at i w) (at i (on_sent (b ∷ w.sent) w))
    unfolding sent_of
    seen-computed = (_, we_compute (flight_of i (DeltaSent b)) makes, refl)

    pub seen-sent : Seen ways (at i w) (at i (on_exchange (DeltaSent b) (on_sent (b ∷ w.sent) w)))
    unfolding sent_of
    seen-sent = (_, we_send (flight_of i (DeltaSent b)) makes, refl)
