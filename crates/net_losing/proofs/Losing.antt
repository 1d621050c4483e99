-- Nets whose hubs lose their memory stay sound: every event and every loss keeps what holds at a moment (Firm), and that gives the claims. Assumes nothing but that no hub is
-- plain.
use Prim.Native.Nat.{ℕ}
use mathlib.Core.Bool.{Bool, false, false≢true, not, true, true≢false}
use mathlib.Core.List.{List, [], ◌∷◌}
use mathlib.Core.Option.{some}
use mathlib.Core.Path.{◌∙◌, ◌≡◌, ap, refl, subst, sym}
use lib.Dec.{eqb}
use lib.ListN.{length}
use borrow.Author.Tests.{eq-eqb, eqb-true, ltb-true}
use Rattle.fields.proofs.Choice.{and_left, and_right}
use Rattle.fields.specs.Choice.{◌∈◌, pick}
use Rattle.rules.proofs.Calls.{add-keeps, beat-keeps, offer-keeps, ok-remove-all, remove-node-keeps}
use Rattle.rules.proofs.Obeys.{OkTable, facts-table}
use Rattle.rules.specs.Delta.{Good, Op, nothing_read, parts_of}
use Rattle.rules.specs.Node.{Node, with_heartbeat}
use Rattle.rules.specs.Table.{node_of}
use Rattle.rules.specs.declared.Heartbeat.{Heartbeat}
use Rattle.demand3.proofs.EachNode.{node_at, or_fresh}
use Rattle.demand3.proofs.Forms.{comes, removal-is}
use Rattle.demand3.proofs.Honest.{HonestNode}
use Rattle.demand3.proofs.Moments.{kept, read-once}
use Rattle.demand3.proofs.Publisher.{Publisher, claims-of}
use Rattle.net.proofs.Coming.{part-there}
use Rattle.net.proofs.Each.{each-add, each-beat, each-drop, each-offer, each-remove}
use Rattle.net.proofs.Owners.{owner-stays}
use Rattle.net.specs.Net.{Adding, Arriving, Beating, Computing, Dropping, Event, Net, NetSound, Offering, Plan, Ready, Removing, Restoring, Saving, Writing, calls, happen, placed, possible, with_table}
use Rattle.net_losing.proofs.Firm.{Firm, Keeps, all-given, firm-arriving, firm-computing, firm-crashing, firm-forgetting, firm-recalling, firm-saving, firm-start, firm-storing, firm-writing, keeps_same, on-hub}
use Rattle.net_losing.proofs.Fit.{Fit, caught-up, fit-beat, fit-fresh, fit-honest, fit-remove, never-forgot}
use Rattle.net_losing.proofs.Grown.{grown-all, grown-delta, grown-numbered}
use Rattle.net_losing.specs.Losing.{Crashing, Doing, Forgetting, Losing, LosingSound, Ordinary, Recalling, Storing, all_remember, allowed, doing, followed_by, out_after, recalled, remembers, run, start, with_net}

-- ---- whatever happens

turned : (b : Bool) → not b ≡ true → b ≡ false
turned true q = absurd (false≢true q)
turned false q = refl

module _ (plan : Plan) (ready : Ready plan) (w : Losing) (ok : Firm plan.owner w) where
  abbrev own : ℕ → ℕ
  own = plan.owner

  abbrev n : Net
  n = w.net

  abbrev R : ℕ → ℕ → Node → Node → Type 0
  R = Keeps own w ok

  abbrev same : (x i : ℕ) (m : Node) → R x i m m
  same = keeps_same own w ok

  beats : (x i : ℕ) (m : Node) (b : Heartbeat) → R x i m (with_heartbeat b m)
  beats x i m b y = fit-beat (eqb (own i) x) (w.forgot x) (w.out i) (n.given i) m y b

  firm-calls : (e : Event) → allowed own e w ≡ true → possible own e n ≡ true → Firm own (with_net (calls plan e n) (out_after own e w) w)
  firm-calls (Writing x i k who c) a p = firm-writing own w ok x i k (eqb-true _ _ (and_left _ _ p)) (plan.profiles x) who c (ltb-true _ _ (and_right (eqb (own i) x) _ p)) a
  firm-calls (Beating x j) a p = on-hub own w ok x _ (kept (n.hubs x) _ (beat-keeps j (n.hubs x)) (ok.obeyed x)) (each-beat n R same x j (beats x))
  firm-calls (Offering x j b) a p = on-hub own w ok x _ (kept (n.hubs x) _ (offer-keeps j b (n.hubs x) (ltb-true _ _ p)) (ok.obeyed x)) (each-offer n R same x j b (beats x))
  firm-calls (Removing x removal) a p =
      on-hub own w ok x _ (let r = removal-is removal (n.hubs x) in subst OkTable (sym r.1) (ok-remove-all r.0 (n.hubs x) (ok.obeyed x)))
      (each-remove n R same x removal (λ i due y. fit-remove (eqb (own i) x) (w.forgot x) (w.out i) (n.given i) (node_at i (n.hubs x)) y due))
  firm-calls (Adding x j) a p = on-hub own w ok x _ (kept (n.hubs x) _ (add-keeps j (n.hubs x) (ltb-true _ _ p)) (ok.obeyed x)) (each-add n R same x j)
  firm-calls (Dropping x j) a p =
      on-hub own w ok x _ (kept (n.hubs x) _ (remove-node-keeps j (n.hubs x)) (ok.obeyed x))
      (each-drop n R same x j (ok.obeyed x).ascending (λ y. fit-fresh (eqb (own j) x) (w.forgot x) (w.out j) (n.given j) (turned (eqb (own j) x) p)))
  firm-calls (Computing x edition digest excluded order mtu place l) a p =
      firm-computing own w ok x a edition digest excluded order mtu place l _ (comes edition excluded order mtu place digest (n.hubs x) l (facts-table (n.hubs x) (ok.obeyed x)))
  firm-calls (Arriving x k now l) a p = firm-arriving own w ok (plan.ways x) (ready.lawful x) (ready.late x) x now l (ltb-true _ _ p) k
  firm-calls (Saving x) a p = firm-saving own w ok x
  firm-calls (Restoring x k) a p = absurd (false≢true a)

  -- what is not possible changes nothing
  unchanged : (e : Event) → possible own e n ≡ false → Firm own (with_net n (out_after own e w) w)
  unchanged (Writing x i k who c) p = ok
  unchanged (Beating x i) p = ok
  unchanged (Offering x i b) p = ok
  unchanged (Removing x removal) p = ok
  unchanged (Adding x i) p = ok
  unchanged (Dropping x i) p = ok
  unchanged (Computing x edition digest excluded order mtu place l) p = absurd (true≢false p)
  unchanged (Arriving x k now l) p = ok
  unchanged (Saving x) p = ok
  unchanged (Restoring x k) p = ok

  pub firm-event : (e : Event) → allowed own e w ≡ true → Firm own (with_net (happen plan e n) (out_after own e w) w)
  unfolding happen
  firm-event e a = go (possible own e n) refl
    where
      go : (b : Bool) → possible own e n ≡ b → Firm own (with_net (pick b (calls plan e n) n) (out_after own e w) w)
      go true q = firm-calls e a q
      go false q = unchanged e q

  pub firm-doing : (e : Doing) → Firm own (doing plan e w)
  unfolding doing
  firm-doing (Ordinary e) = go (allowed own e w) refl
    where
      go : (b : Bool) → allowed own e w ≡ b → Firm own (pick b (with_net (happen plan e n) (out_after own e w) w) w)
      go true q = firm-event e q
      go false q = ok
  firm-doing (Storing x) = firm-storing own w ok x
  firm-doing (Crashing x) = firm-crashing own w ok x
  firm-doing (Forgetting x) = firm-forgetting own w ok x
  firm-doing (Recalling x i y k) = go (followed_by (own i) x y) refl
    where
      go : (b : Bool) → followed_by (own i) x y ≡ b → Firm own (pick b (with_net (with_table x (recalled i (placed k (n.saved y)) (n.hubs x)) n) w.out w) w)
      go true q = firm-recalling own w ok x i y k (turned _ (and_left (not (eqb (own i) x)) _ q)) (turned _ (and_right (not (eqb (own i) x)) (not (eqb (own i) y)) q))
      go false q = ok

  -- ---- what is claimed

  pub firm-sound : LosingSound plan w
  firm-sound =
      record {
        tables_obey = λ x. facts-table (n.hubs x) (ok.obeyed x);
        never_ahead = λ i x m e. (honest i x m e).honest.max-low;
        claims = λ i x y p m e t f. claims-of (n.given i) p m (publishes i y p e t) (honest i x m f);
        owner_level = λ i p e f. never-forgot (eqb (own i) (own i)) (w.forgot (own i)) (w.out i) (n.given i) p (fit i (own i) p e) (mine i) f;
        owner_caught_up = λ i p e b. caught-up (eqb (own i) (own i)) (w.forgot (own i)) (w.out i) (n.given i) p (fit i (own i) p e) (all-given own w ok i) (mine i) b;
        owner_rejects =
            λ b m ops q y z p e t now.
            let c = ok.sent b m in
            let k : ops ≡ c.reads.0 = alike ops c.reads.0 (sym q ∙ c.reads.1) in
            let z' : y ∈ parts_of c.reads.0 = subst (λ (os : List Op). y ∈ parts_of os) k z in
            let i : ℕ = y.number in
            owner-stays (plan.ways (own i)) (ready.lawful (own i)) (n.given i) p (publishes i (own i) p e t) y.delta
            (grown-delta (w.out i) (n.given i) (all-given own w ok i) y.delta
            (c.honest i y.delta (part-there (parts_of c.reads.0) (read-once c.reads.0 nothing_read c.reads.2) y z'))) now;
      }
    where
      alike : (a b : List Op) → Good a ≡ Good b → a ≡ b
      alike a b e = cc

      mine : (i : ℕ) → eqb (own i) (own i) ≡ true
      mine i = eq-eqb (own i) (own i) refl

      fit : (i x : ℕ) (m : Node) → node_of i (n.hubs x) ≡ some m → Fit (eqb (own i) x) (w.forgot x) (w.out i) (n.given i) m
      fit i x m e = subst (Fit (eqb (own i) x) (w.forgot x) (w.out i) (n.given i)) (ap or_fresh e) (ok.held x i)

      honest : (i x : ℕ) (m : Node) → node_of i (n.hubs x) ≡ some m → HonestNode (n.given i) m
      honest i x m e = fit-honest (eqb (own i) x) (w.forgot x) (w.out i) (n.given i) m (fit i x m e) (all-given own w ok i)

      publishes : (i x : ℕ) (p : Node) → node_of i (n.hubs x) ≡ some p → p.max ≡ length (n.given i) → Publisher (n.given i) p
      publishes i x p e t =
          record {
            numbered = grown-numbered (n.given i) (grown-all [] (w.out i) (n.given i) (ok.began i) (all-given own w ok i));
            node = honest i x p e;
            top = t;
          }

-- ---- the theorems

pub firm-run : (plan : Plan) → Ready plan → (es : List Doing) (w : Losing) → Firm plan.owner w → Firm plan.owner (run plan es w)
unfolding run
firm-run plan ready [] w ok = ok
firm-run plan ready (e ∷ es) w ok = firm-run plan ready es (doing plan e w) (firm-doing plan ready w ok e)

-- Where no hub is plain: whatever hubs lose and forget, the claims hold at every moment.
pub losing-sound : (plan : Plan) → Ready plan → (es : List Doing) → LosingSound plan (run plan es start)
losing-sound plan ready es = firm-sound plan ready (run plan es start) (firm-run plan ready es start (firm-start plan.owner))

-- who forgot, after a doing that is none
none-forgets : (plan : Plan) (e : Doing) (w : Losing) → remembers e ≡ true → (doing plan e w).forgot ≡ w.forgot
unfolding doing
none-forgets plan (Ordinary e) w r = go (allowed plan.owner e w)
  where
    go : (b : Bool) → (pick b (with_net (happen plan e w.net) (out_after plan.owner e w) w) w).forgot ≡ w.forgot
    go true = refl
    go false = refl
none-forgets plan (Storing x) w r = refl
none-forgets plan (Crashing x) w r = refl
none-forgets plan (Forgetting x) w r = absurd (false≢true r)
none-forgets plan (Recalling x i y k) w r = go (followed_by (plan.owner i) x y)
  where
    go : (b : Bool) → (pick b (with_net (with_table x (recalled i (placed k (w.net.saved y)) (w.net.hubs x)) w.net) w.out w) w).forgot ≡ w.forgot
    go true = refl
    go false = refl

never-forgets : (plan : Plan) (es : List Doing) (w : Losing) → all_remember es ≡ true → (run plan es w).forgot ≡ w.forgot
unfolding run all_remember
never-forgets plan [] w r = refl
never-forgets plan (e ∷ es) w r = never-forgets plan es (doing plan e w) (and_right (remembers e) _ r) ∙ none-forgets plan e w (and_left (remembers e) _ r)

-- And where no hub forgets, only crashes, they are the claims of a net: of each node between its owner and every hub.
pub crashing-sound : (plan : Plan) → Ready plan → (es : List Doing) → all_remember es ≡ true → NetSound plan (run plan es start).net
crashing-sound plan ready es r =
    record {
      tables_obey = s.tables_obey;
      claims = λ i x p n e f. s.claims i x (plan.owner i) p n e (level i p e) f;
      owner_rejects = λ b m ops q y z p e now. s.owner_rejects b m ops q y z p e (level y.number p e) now;
    }
  where
    s : LosingSound plan (run plan es start)
    s = losing-sound plan ready es

    level : (i : ℕ) (p : Node) → node_of i ((run plan es start).net.hubs (plan.owner i)) ≡ some p → p.max ≡ length ((run plan es start).net.given i)
    level i p e = s.owner_level i p e (ap (λ (f : ℕ → Bool). f (plan.owner i)) (never-forgets plan es start r))
