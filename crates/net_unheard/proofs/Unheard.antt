-- What nobody hears changes no other table: the net in which the mute hubs are guarded has the same tables, but for theirs, and the same deltas. So the claims of the one are claims of the other. Assumes nothing.
use Prim.Native.Nat.{ℕ}
use mathlib.Core.Bool.{Bool, false, false≢true, not, true}
use mathlib.Core.List.{List, [], ◌∷◌}
use mathlib.Core.Path.{◌∙◌, ◌≡◌, ap, refl, subst, sym}
use lib.Dec.{eqb}
use borrow.Author.Tests.{eqb-true}
use Rattle.fields.proofs.Choice.{and_left, and_right}
use Rattle.fields.specs.Choice.{◌∈◌, pick}
use Rattle.rules.proofs.Keeps.{guarded-lawful}
use Rattle.rules.specs.Apply.{Lawful, Ways, apply_node, guarded_ways}
use Rattle.rules.specs.Local.{add, call_as, local_beat, offer, remove_node}
use Rattle.rules.specs.Node.{KeyValue}
use Rattle.rules.specs.Table.{Table, node_of, obeys}
use Rattle.demand3.specs.Demand3.{Claims}
use Rattle.demand3.specs.Forms.{removed_by}
use Rattle.demand3.specs.World.{applied_to, arrives, given_as, sent_for}
use Rattle.net.proofs.Safe.{net-sound}
use Rattle.net.specs.Net.{Adding, Arriving, Beating, Computing, Dropping, Event, Net, NetSound, Offering, Plan, Ready, Removing, Restoring, Saving, Writing, after, begin, calls, happen, nothing_lost, placed, possible, restored}
use Rattle.net_closing.specs.Closing.{every}
use Rattle.net_unheard.specs.Unheard.{Beside, OthersSound, unheard}

module _ (plan : Plan) (mute : ℕ → Bool) (beside : Beside plan mute) where
  -- those are guarded
  abbrev other : Plan
  other = record { owner = plan.owner; ways = λ x. pick (mute x) guarded_ways (plan.ways x); profiles = plan.profiles }

  same-ways : (x : ℕ) → mute x ≡ false → plan.ways x ≡ other.ways x
  same-ways x q = ap (λ (b : Bool). pick b guarded_ways (plan.ways x)) (sym q)

  ready : Ready other
  ready = record { lawful = λ x. law x (mute x) refl; late = λ x. late x (mute x) refl }
    where
      law : (x : ℕ) (b : Bool) → mute x ≡ b → Lawful (pick b guarded_ways (plan.ways x))
      law x true q = guarded-lawful
      law x false q = beside.lawful x q

      late : (x : ℕ) (b : Bool) → mute x ≡ b → (pick b guarded_ways (plan.ways x)).late ≡ true
      late x true q = refl
      late x false q = beside.late x q

  -- the same but for them
  record Twin (w v : Net) : Type 0 where
    hubs : (x : ℕ) → mute x ≡ false → w.hubs x ≡ v.hubs x
    given : (i : ℕ) → w.given i ≡ v.given i
    sent : w.sent ≡ v.sent
    saved : (x : ℕ) → mute x ≡ false → w.saved x ≡ v.saved x

  module _ (w v : Net) (t : Twin w v) where
    -- one hub gets another thing, the same in both, if it is not mute
    on_one : {A : Type 0} (f g : ℕ → A) → ((y : ℕ) → mute y ≡ false → f y ≡ g y) → (x : ℕ) (a b : A) → (mute x ≡ false → a ≡ b) → (y : ℕ) → mute y ≡ false → pick (eqb y x) a (f y) ≡ pick (eqb y x) b (g y)
    on_one f g h x a b e y q = go (eqb y x) refl
      where
        go : (c : Bool) → eqb y x ≡ c → pick c a (f y) ≡ pick c b (g y)
        go true r = e (subst (λ (k : ℕ). mute k ≡ false) (eqb-true y x r) q)
        go false r = h y q

    on-hub : (x : ℕ) (a b : Table) → (mute x ≡ false → a ≡ b) → (y : ℕ) → mute y ≡ false → pick (eqb y x) a (w.hubs y) ≡ pick (eqb y x) b (v.hubs y)
    on-hub x a b e = on_one w.hubs v.hubs t.hubs x a b e

    twin-hub : (x : ℕ) (a b : Table) → (mute x ≡ false → a ≡ b)
        → Twin (record { hubs = λ y. pick (eqb y x) a (w.hubs y); given = w.given; sent = w.sent; saved = w.saved }) (record { hubs = λ y. pick (eqb y x) b (v.hubs y); given = v.given; sent = v.sent; saved = v.saved })
    twin-hub x a b e = record { hubs = on-hub x a b e; given = t.given; sent = t.sent; saved = t.saved }

    on-table : (x : ℕ) (f : Table → Table) → Twin (record { hubs = λ y. pick (eqb y x) (f (w.hubs x)) (w.hubs y); given = w.given; sent = w.sent; saved = w.saved }) (record { hubs = λ y. pick (eqb y x) (f (v.hubs x)) (v.hubs y); given = v.given; sent = v.sent; saved = v.saved })
    on-table x f = twin-hub x (f (w.hubs x)) (f (v.hubs x)) (λ q. ap f (t.hubs x q))

    not-mute : (x : ℕ) → not (mute x) ≡ true → mute x ≡ false
    not-mute x h = go (mute x) h
      where
        go : (b : Bool) → not b ≡ true → b ≡ false
        go true p = absurd (false≢true p)
        go false p = refl

    -- a write is the owner's, which is not mute
    writer : (x i : ℕ) → eqb (plan.owner i) x ≡ true → mute x ≡ false
    writer x i p = subst (λ (k : ℕ). mute k ≡ false) (eqb-true (plan.owner i) x p) (beside.owns_nothing i)

    twin-calls : (e : Event) → unheard mute e ≡ true → possible plan.owner e w ≡ true → Twin (calls plan e w) (calls other e v)
    twin-calls (Writing x i k who c) u p =
        let q : mute x ≡ false = writer x i (and_left (eqb (plan.owner i) x) _ p) in
        record {
          hubs = on-hub x (call_as (plan.profiles x) who c i k (w.hubs x)).table (call_as (plan.profiles x) who c i k (v.hubs x)).table (λ r. ap (λ (h : Table). (call_as (plan.profiles x) who c i k h).table) (t.hubs x r));
          given = λ j. λ s. pick (eqb j i) (given_as (plan.profiles x) who k c (node_of i (t.hubs x q s)) (t.given j s)) (t.given j s);
          sent = t.sent;
          saved = t.saved;
        }
    twin-calls (Beating x i) u p = on-table x (λ h. (local_beat i h).table)
    twin-calls (Offering x i b) u p = on-table x (λ h. (offer i b h).table)
    twin-calls (Removing x removal) u p = on-table x (removed_by removal)
    twin-calls (Adding x i) u p = on-table x (λ h. (add i h).table)
    twin-calls (Dropping x i) u p = on-table x (λ h. (remove_node i h).table)
    twin-calls (Computing x edition digest excluded order mtu place l) u p =
        record {
          hubs = t.hubs;
          given = t.given;
          sent = λ s. sent_for edition digest excluded order mtu place l (t.hubs x (not-mute x u) s) (t.sent s);
          saved = t.saved;
        }
    twin-calls (Arriving x k now l) u p = twin-hub x _ _ (λ q. λ s. applied_to (same-ways x q s) now l (arrives k (t.sent s)) (t.hubs x q s))
    twin-calls (Saving x) u p =
        record { hubs = t.hubs; given = t.given; sent = t.sent; saved = on_one w.saved v.saved t.saved x (w.hubs x ∷ w.saved x) (v.hubs x ∷ v.saved x) (λ q. λ s. t.hubs x q s ∷ t.saved x q s) }
    twin-calls (Restoring x k) u p = twin-hub x _ _ (λ q. λ s. restored (placed k (t.saved x q s)) (t.hubs x q s))

    -- what is possible in the one is possible in the other, but for the restoring of a mute hub, which changes that alone
    module _ (x k : ℕ) where
      back : (b c : Bool) → (mute x ≡ false → b ≡ c) → Twin (pick b (calls plan (Restoring x k) w) w) (pick c (calls other (Restoring x k) v) v)
      back true true e = twin-hub x _ _ (λ q. λ s. restored (placed k (t.saved x q s)) (t.hubs x q s))
      back false false e = t
      back true false e = record { hubs = λ y q. away y q (eqb y x) refl; given = t.given; sent = t.sent; saved = t.saved }
        where
          away : (y : ℕ) → mute y ≡ false → (b : Bool) → eqb y x ≡ b → pick b (restored (placed k (w.saved x)) (w.hubs x)) (w.hubs y) ≡ v.hubs y
          away y q true r = absurd (false≢true (sym (e (subst (λ (j : ℕ). mute j ≡ false) (eqb-true y x r) q))))
          away y q false r = t.hubs y q
      back false true e = record { hubs = λ y q. away y q (eqb y x) refl; given = t.given; sent = t.sent; saved = t.saved }
        where
          away : (y : ℕ) → mute y ≡ false → (b : Bool) → eqb y x ≡ b → w.hubs y ≡ pick b (restored (placed k (v.saved x)) (v.hubs x)) (v.hubs y)
          away y q true r = absurd (false≢true (e (subst (λ (j : ℕ). mute j ≡ false) (eqb-true y x r) q)))
          away y q false r = t.hubs y q

    step : (e : Event) → unheard mute e ≡ true → (b : Bool) → possible plan.owner e w ≡ b → Twin (pick b (calls plan e w) w) (pick b (calls other e v) v)
    step e u true p = twin-calls e u p
    step e u false p = t

    twin-event : (e : Event) → unheard mute e ≡ true → Twin (happen plan e w) (happen other e v)
    unfolding happen
    twin-event (Writing x i k who c) u = step (Writing x i k who c) u _ refl
    twin-event (Beating x i) u = step (Beating x i) u _ refl
    twin-event (Offering x i b) u = step (Offering x i b) u _ refl
    twin-event (Removing x removal) u = step (Removing x removal) u _ refl
    twin-event (Adding x i) u = step (Adding x i) u _ refl
    twin-event (Dropping x i) u = step (Dropping x i) u _ refl
    twin-event (Computing x edition digest excluded order mtu place l) u = step (Computing x edition digest excluded order mtu place l) u _ refl
    twin-event (Arriving x k now l) u = step (Arriving x k now l) u _ refl
    twin-event (Saving x) u = step (Saving x) u _ refl
    twin-event (Restoring x k) u = back x k _ _ (λ q. λ s. nothing_lost plan.owner x (t.hubs x q s) (placed k (t.saved x q s)))

  twins : (es : List Event) (w v : Net) → Twin w v → every (unheard mute) es ≡ true → Twin (after plan es w) (after other es v)
  unfolding after every
  twins [] w v t u = t
  twins (e ∷ es) w v t u = twins es (happen plan e w) (happen other e v) (twin-event w v t e (and_left (unheard mute e) _ u)) (and_right (unheard mute e) _ u)

  -- Where every other hub is fenced or guarded, and these own nothing and compute nothing: at every moment the claims hold of all others.
  pub unheard-sound : (es : List Event) → every (unheard mute) es ≡ true → OthersSound plan mute (after plan es begin)
  unheard-sound es u =
      record {
        tables_obey = λ x q. ap obeys (t.hubs x q) ∙ s.tables_obey x;
        claims =
            λ i x p n q a b.
            subst (λ (h : List KeyValue). Claims h p n) (sym (t.given i))
            (s.claims i x p n (sym (ap (node_of i) (t.hubs (plan.owner i) (beside.owns_nothing i))) ∙ a) (sym (ap (node_of i) (t.hubs x q)) ∙ b));
        owner_rejects =
            λ b m ops r y k p a now.
            let o : ℕ = plan.owner y.number in
            let q = beside.owns_nothing y.number in
            ap (λ (ways : Ways). apply_node ways now y.delta p) (same-ways o q)
            ∙ s.owner_rejects b (subst (λ (ss : List (List ℕ)). b ∈ ss) t.sent m) ops r y k p (sym (ap (node_of y.number) (t.hubs o q)) ∙ a) now;
      }
    where
      t : Twin (after plan es begin) (after other es begin)
      t = twins es begin begin (record { hubs = λ x q. refl; given = λ i. refl; sent = refl; saved = λ x q. refl }) u

      s : NetSound other (after other es begin)
      s = net-sound other ready es
