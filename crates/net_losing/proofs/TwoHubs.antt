-- Demand 3's world, one publisher and one follower, in any ways: plain with single exchanges, fenced or guarded with late deltas too. Whatever is cut and removed, no key's
-- version falls at the follower: a publisher's delta brings of each key the last that it was given by then, so it is sharp. Assumes nothing.
use Prim.Native.Nat.{◌≤◌, max, suc, ℕ}
use mathlib.Core.Bool.{Bool, false, true}
use mathlib.Core.List.{List, [], ◌∷◌}
use mathlib.Core.Logic.{◌⊎◌, inl, inr}
use mathlib.Core.Option.{Option, none, some}
use mathlib.Core.Path.{◌≡◌, ap, refl, subst, sym}
use native.Mathlib.Omega.{arith}
use lib.ListN.{length}
use Rattle.fields.proofs.Choice.{in-cons, in-none}
use Rattle.fields.specs.Choice.{◌∈◌, later}
use Rattle.rules.proofs.Sending.{node_delta}
use Rattle.rules.proofs.Stale.{stale-from, take_in}
use Rattle.rules.proofs.Tables.{taking}
use Rattle.rules.proofs.Taking.{Applies}
use Rattle.rules.specs.Apply.{Lawful, Ways, apply_node}
use Rattle.rules.specs.Delta.{NodeDelta}
use Rattle.rules.specs.Node.{Give, KeyValue, Leave, Node, Refuse, act}
use Rattle.rules.specs.Table.{obeys}
use Rattle.demand3.proofs.EachNode.{at, or_fresh, seen-facts, sent_of}
use Rattle.demand3.proofs.Moments.{Moment, moment, moment-start, next-event}
use Rattle.demand3.proofs.OneNode.{Facts, Flies, Makes, One, Step, comes_late, lost, stays, they_beat, they_remove, they_take, we_beat, we_compute, we_remove, we_send, we_write}
use Rattle.demand3.proofs.Publisher.{Publisher, all-current, next-version}
use Rattle.demand3.specs.Demand3.{Holds}
use Rattle.demand3.specs.World.{Event, World, after, fresh_table, given_by, happen, start}
use Rattle.net_losing.proofs.Sharp.{Past, SharpDelta, past-apply, past-beat, past-held, past-remove, sharp-grows}
use Rattle.net_losing.specs.Back.{NoKeyFalls}

-- ---- one node

abbrev SharpIf : List KeyValue → Option NodeDelta → Type 0
SharpIf h none = Unit {0}
SharpIf h (some d) = SharpDelta h d

-- the age of a delta on its way, as demand3 has it (OneNode: prompt)
abbrev InTime : Node → Option NodeDelta → Type 0
InTime f none = Unit {0}
InTime f (some d) = f.last_gc ≤ max f.max d.last_gc

-- every delta on its way, and every one that was ever computed
record Sharp (w : One) : Type 0 where
  flight : SharpIf w.given w.flight
  sent : (o : Option NodeDelta) → o ∈ w.sent → SharpIf w.given o

-- what computing makes of a publisher's node
made-sharp : (h : List KeyValue) (p : Node) → Publisher h p → (o : Option NodeDelta) → Makes p o → SharpIf h o
unfolding node_delta
made-sharp h p own none m = tt
made-sharp h p own (some d) m = λ t n s told k b. all-current h p own.numbered own.node own.top t (held t n) s told k
  where
    held : (t : KeyValue) → t ∈ d.recs → Holds p t
    held t n =
        let i = subst (λ (y : NodeDelta). t ∈ y.recs) m.delta-is n in
        let x = stale-from _ p.recs (take_in m.count _ i) in
        (x.0, x.1, x.2)

module _ (ways : Ways) (law : Lawful ways) (w : One) (ok : Facts ways w) where
  abbrev h : List KeyValue
  h = w.given

  grows : (v : KeyValue) → v.version ≡ suc (length h) → (o : Option NodeDelta) → Flies h w.ours o → SharpIf h o → SharpIf (v ∷ h) o
  grows v next none f y = tt
  grows v next (some d) f y = sharp-grows h v next d f.0 y

  step-sharp : (x : One) → Step ways w x → Sharp w → Sharp x
  unfolding act
  step-sharp x stays y = y
  step-sharp x (we_write k (Refuse r)) y = y
  step-sharp x (we_write k Leave) y = y
  step-sharp x (we_write k (Give c)) y =
      let next : (given_by k c w.ours).version ≡ suc (length h) = next-version h w.ours ok.publisher k c in
      record { flight = grows _ next w.flight ok.flies y.flight; sent = λ o m. grows _ next o (ok.known o m) (y.sent o m) }
  step-sharp x (we_remove due) y = record { flight = y.flight; sent = y.sent }
  step-sharp x (they_remove due) y = record { flight = y.flight; sent = y.sent }
  step-sharp x (we_beat b) y = record { flight = y.flight; sent = y.sent }
  step-sharp x (they_beat b) y = record { flight = y.flight; sent = y.sent }
  step-sharp x (we_compute o made) y = record { flight = y.flight; sent = λ a m. among-them a (in-cons m) }
    where
      among-them : (a : Option NodeDelta) → (a ≡ o) ⊎ (a ∈ w.sent) → SharpIf h a
      among-them a (inl e) = subst (SharpIf h) (sym e) (made-sharp h w.ours ok.publisher o made)
      among-them a (inr m) = y.sent a m
  step-sharp x (we_send o made) y = record { flight = made-sharp h w.ours ok.publisher o made; sent = λ a m. among-them a (in-cons m) }
    where
      among-them : (a : Option NodeDelta) → (a ≡ o) ⊎ (a ∈ w.sent) → SharpIf h a
      among-them a (inl e) = subst (SharpIf h) (sym e) (made-sharp h w.ours ok.publisher o made)
      among-them a (inr m) = y.sent a m
  step-sharp x lost y = record { flight = tt; sent = y.sent }
  step-sharp x (they_take now) y = record { flight = y.flight; sent = y.sent }
  step-sharp x (comes_late now o late m) y = record { flight = y.flight; sent = y.sent }

  -- s was given, and the follower has nothing older of its key
  module _ (s : KeyValue) (told : s ∈ h) (a : Past s w.theirs) (y : Sharp w) where
    given-on : (x : One) → Step ways w x → s ∈ x.given
    given-on x stays = told
    given-on x (we_write k (Refuse r)) = told
    given-on x (we_write k Leave) = told
    given-on x (we_write k (Give c)) = later told
    given-on x (we_remove due) = told
    given-on x (they_remove due) = told
    given-on x (we_beat b) = told
    given-on x (they_beat b) = told
    given-on x (we_compute o made) = told
    given-on x (we_send o made) = told
    given-on x lost = told
    given-on x (they_take now) = told
    given-on x (comes_late now o late m) = told

    -- what is taken without a reset reaches the follower's last_gc
    takes : (now : ℕ) (o : Option NodeDelta) → SharpIf h o → ((d : NodeDelta) → o ≡ some d → Applies ways now d w.theirs → w.theirs.last_gc ≤ max w.theirs.max (max d.last_gc d.max)) → Past s (taking (apply_node ways now) o w.theirs)
    takes now none z f = a
    takes now (some d) z f = past-apply s w.theirs a h told ok.follower.sorted now d z ways (f d refl)

    reaches-prompt : (now : ℕ) (d : NodeDelta) → w.flight ≡ some d → Applies ways now d w.theirs → (late : Bool) → ways.late ≡ late → w.theirs.last_gc ≤ max w.theirs.max (max d.last_gc d.max)
    reaches-prompt now d e r true q = law.safe q w.theirs.last_gc w.theirs.max d.last_gc d.max r.let-in
    reaches-prompt now d e r false q = let b = in-time w.flight e (ok.prompt q) in omega arith
      where
        in-time : (o : Option NodeDelta) → o ≡ some d → InTime w.theirs o → w.theirs.last_gc ≤ max w.theirs.max d.last_gc
        in-time none e p = let z : ◌≡◌ {A = ℕ} 0 1 = cc in absurd (omega arith)
        in-time (some c) e p = let q : c ≡ d = cc in subst (λ (k : NodeDelta). w.theirs.last_gc ≤ max w.theirs.max k.last_gc) q p

    past-step : (x : One) → Step ways w x → Past s x.theirs
    unfolding act
    past-step x stays = a
    past-step x (we_write k z) = a
    past-step x (we_remove due) = a
    past-step x (they_remove due) = past-remove s w.theirs a due
    past-step x (we_beat b) = a
    past-step x (they_beat b) = past-beat s w.theirs a b
    past-step x (we_compute o made) = a
    past-step x (we_send o made) = a
    past-step x lost = a
    past-step x (they_take now) = takes now w.flight y.flight (λ d e r. reaches-prompt now d e r ways.late refl)
    past-step x (comes_late now o late m) = takes now o (y.sent o m) (λ d e r. law.safe late w.theirs.last_gc w.theirs.max d.last_gc d.max r.let-in)

-- ---- a run

module _ (ways : Ways) (law : Lawful ways) (is : List ℕ) (i : ℕ) where
  next : (w : World) → Moment ways is w → (e : Event) → Moment ways is (happen ways e w)
  next w m e = let n = next-event ways law is w m.order e in record { order = n.order; facts = λ j. seen-facts ways law (at j w) (at j (happen ways e w)) (n.seen j) (m.facts j) }

  sharp-run : (es : List Event) (w : World) → Moment ways is w → Sharp (at i w) → Sharp (at i (after ways es w))
  unfolding after
  sharp-run [] w m y = y
  sharp-run (e ∷ es) w m y =
      let n = next-event ways law is w m.order e in
      let z = n.seen i in
      sharp-run es (happen ways e w) (next w m e) (subst Sharp (sym z.2) (step-sharp ways law (at i w) (m.facts i) z.0 z.1 y))

  past-run : (s : KeyValue) (es : List Event) (w : World) → Moment ways is w → Sharp (at i w) → s ∈ w.given i → Past s (at i w).theirs → Past s (at i (after ways es w)).theirs
  unfolding after
  past-run s [] w m y told a = a
  past-run s (e ∷ es) w m y told a =
      let n = next-event ways law is w m.order e in
      let z = n.seen i in
      let f = m.facts i in
      past-run s es (happen ways e w) (next w m e)
      (subst Sharp (sym z.2) (step-sharp ways law (at i w) f z.0 z.1 y))
      (subst (λ (x : One). s ∈ x.given) (sym z.2) (given-on ways law (at i w) f s told a y z.0 z.1))
      (subst (λ (x : One). Past s x.theirs) (sym z.2) (past-step ways law (at i w) f s told a y z.0 z.1))

-- ---- the theorem

-- Between any two moments no key's version falls at the follower. No case is left out: it is never restored here, and nodes are not removed.
pub no-key-falls : (ways : Ways) → Lawful ways → (is : List ℕ) → obeys (fresh_table is) ≡ true → (es fs : List Event) → NoKeyFalls (after ways es (start is)).follower (after ways fs (after ways es (start is))).follower
unfolding start sent_of
no-key-falls ways law is ok es fs i m n p q s t x y k =
    let w : World = after ways es (start is) in
    let a = moment is ok ways law es in
    let sharp = sharp-run ways law is i es (start is) (moment-start is ok ways) (record { flight = tt; sent = λ o z. absurd (in-none z) }) in
    let held : Holds (at i w).theirs s = subst (λ (z : Node). Holds z s) (sym (ap or_fresh p)) x in
    let b = past-run ways law is i s fs w a sharp ((a.facts i).follower.honest.told s held) (past-held (w.given i) (at i w).theirs (a.facts i).follower s held) in
    b.none_older t (subst (λ (z : Node). Holds z t) (sym (ap or_fresh q)) y) k
