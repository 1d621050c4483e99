-- A node stands at its owner after any run as it stands after the same run in which nothing came: neither bytes that came, honest or forged, nor what other hubs made of them are seen there. Assumes nothing.
use Prim.Native.Nat.{ℕ, zero, suc}
use mathlib.Core.Path.{◌≡◌, refl, ap, ap₂, sym, ◌∙◌, subst}
use mathlib.Core.Bool.{Bool, true, false, not, ◌&&◌}
use mathlib.Core.List.{List, [], ◌∷◌}
use mathlib.Core.Option.{Option, none, some}
use native.Mathlib.Omega.{arith}
use lib.Dec.{eqb, ltb}
use borrow.Author.Tests.{eqb-true, eq-eqb}
use Rattle.fields.specs.Choice.{pick, all, ◌∈◌}
use Rattle.fields.specs.Numbers.{Bytes}
use Rattle.rules.specs.Sizes.{numbers}
use Rattle.rules.specs.Node.{KeyValue, Node, fresh}
use Rattle.rules.specs.Table.{Table, node_of, numbers_of, among}
use Rattle.rules.specs.Local.{call_as, add, remove_node, offer, local_beat}
use Rattle.rules.proofs.Obeys.{in-among}
use Rattle.demand3.specs.Forms.{removed_by}
use Rattle.demand3.specs.World.{time_of}
use Rattle.net.specs.Net.{Plan, Net, Event, Writing, Beating, Offering, Removing, Adding, Dropping, Computing, Arriving, Saving, Restoring, calls, happen, possible, placed, restored, has_max, nothing_lost}
use Rattle.net_forged.specs.Forged.{Doing, Own, Coming, datagram, own_of, taken, happens, runs}
use Rattle.net_forged.specs.Mine.{mine_node, mine, mines, owns_at, silent}
use Rattle.net_forged.proofs.Mine.{Sees, came-mine, node-mine, same_after, same-node, sees-add, sees-beat, sees-call, sees-drop, sees-offer, sees-removed}
use Rattle.net_forged.proofs.Owned.{named}

-- two nets whose hubs hold the same of their own, and saved the same of their own
pub record Same (plan : Plan) (w v : Net) : Type 0 where
  pub tables : (y : ℕ) → mine (owns_at plan y) (w.hubs y) ≡ mine (owns_at plan y) (v.hubs y)
  pub saved : (y : ℕ) → mines (owns_at plan y) (w.saved y) ≡ mines (owns_at plan y) (v.saved y)

module _ (plan : Plan) where
  -- one hub's table is another
  at-hub : (x : ℕ) (f g t u : ℕ → Table) → ((y : ℕ) → mine (owns_at plan y) (t y) ≡ mine (owns_at plan y) (u y)) → mine (owns_at plan x) (f x) ≡ mine (owns_at plan x) (g x)
      → (y : ℕ) → mine (owns_at plan y) (pick (eqb y x) (f x) (t y)) ≡ mine (owns_at plan y) (pick (eqb y x) (g x) (u y))
  at-hub x f g t u h e y = go (eqb y x) refl
    where
      go : (b : Bool) → eqb y x ≡ b → mine (owns_at plan y) (pick b (f x) (t y)) ≡ mine (owns_at plan y) (pick b (g x) (u y))
      go true q = subst (λ (z : ℕ). mine (owns_at plan z) (f x) ≡ mine (owns_at plan z) (g x)) (sym (eqb-true y x q)) e
      go false q = h y

  module _ (w v : Net) (s : Same plan w v) where
    -- a hub's call that sees its own nodes alone
    by_itself : (x : ℕ) (f : Table → Table) → Sees (owns_at plan x) f → (g g' : ℕ → List KeyValue) (l l' : List Bytes)
        → Same plan (record { hubs = λ y. pick (eqb y x) (f (w.hubs x)) (w.hubs y); given = g; sent = l; saved = w.saved }) (record { hubs = λ y. pick (eqb y x) (f (v.hubs x)) (v.hubs y); given = g'; sent = l'; saved = v.saved })
    by_itself x f sees g g' l l' =
        record {
          tables = at-hub x (λ y. f (w.hubs y)) (λ y. f (v.hubs y)) w.hubs v.hubs s.tables (same_after (owns_at plan x) f sees (w.hubs x) (v.hubs x) (s.tables x));
          saved = s.saved;
        }

    either : (b : Bool) (a c : Net) → Same plan a c → Same plan (pick b a w) (pick b c v)
    either true a c r = r
    either false a c r = s

-- ---- restoring

-- the tables at one place of two lists
at_place : (own : ℕ → Bool) (P : Option Table → Option Table → Type 0) → P none none → ((a b : Table) → mine own a ≡ mine own b → P (some a) (some b))
    → (k : ℕ) (l m : List Table) → mines own l ≡ mines own m → P (placed k l) (placed k m)
unfolding placed mines
at_place own P n s k [] [] e = n
at_place own P n s k [] (b ∷ m) e = let z : ◌≡◌ {A = ℕ} 0 1 = cc in absurd (omega arith)
at_place own P n s k (a ∷ l) [] e = let z : ◌≡◌ {A = ℕ} 0 1 = cc in absurd (omega arith)
at_place own P n s zero (a ∷ l) (b ∷ m) e = let h : mine own a ≡ mine own b = cc in s a b h
at_place own P n s (suc k) (a ∷ l) (b ∷ m) e = let h : mines own l ≡ mines own m = cc in at_place own P n s k l m h

-- whether a write would be lost is told by the own nodes
lost-mine : (plan : Plan) (x : ℕ) (t old : Table) → nothing_lost plan.owner x t (some old) ≡ nothing_lost plan.owner x (mine (owns_at plan x) t) (some (mine (owns_at plan x) old))
unfolding all mine
lost-mine plan x [] old = refl
lost-mine plan x (e ∷ t) old = ap₂ (λ (b c : Bool). b && c) (go (owns_at plan x e.number) refl) (lost-mine plan x t old)
  where
    go : (b : Bool) → owns_at plan x e.number ≡ b
        → pick (owns_at plan x e.number) (has_max e.node.max (node_of e.number old)) true
        ≡ pick (owns_at plan x e.number) (has_max (mine_node (owns_at plan x) e.number e.node).max (node_of e.number (mine (owns_at plan x) old))) true
    go true q =
        ap₂ (λ (n : Node) (o : Option Node). pick (owns_at plan x e.number) (has_max n.max o) true) (sym (ap (λ (c : Bool). pick c e.node fresh) q)) (sym (node-mine (owns_at plan x) e.number q old))
    go false q =
        ap (λ (c : Bool). pick c (has_max e.node.max (node_of e.number old)) true) q
        ∙ sym (ap (λ (c : Bool). pick c (has_max (mine_node (owns_at plan x) e.number e.node).max (node_of e.number (mine (owns_at plan x) old))) true) q)

module _ (plan : Plan) (x : ℕ) (t u : Table) (h : mine (owns_at plan x) t ≡ mine (owns_at plan x) u) (k : ℕ) (l m : List Table) (e : mines (owns_at plan x) l ≡ mines (owns_at plan x) m) where
  same-lost : nothing_lost plan.owner x t (placed k l) ≡ nothing_lost plan.owner x u (placed k m)
  same-lost =
      at_place (owns_at plan x) (λ a b. nothing_lost plan.owner x t a ≡ nothing_lost plan.owner x u b) refl
      (λ a b q. lost-mine plan x t a ∙ ap₂ (λ (y z : Table). nothing_lost plan.owner x y (some z)) h q ∙ sym (lost-mine plan x u b)) k l m e

  same-restored : mine (owns_at plan x) (restored (placed k l) t) ≡ mine (owns_at plan x) (restored (placed k m) u)
  same-restored = at_place (owns_at plan x) (λ a b. mine (owns_at plan x) (restored a t) ≡ mine (owns_at plan x) (restored b u)) h (λ a b q. q) k l m e

-- ---- one event, and one datagram

module _ (plan : Plan) (w v : Net) (s : Same plan w v) where
  saving : (x y : ℕ) → mines (owns_at plan y) (pick (eqb y x) (w.hubs x ∷ w.saved x) (w.saved y)) ≡ mines (owns_at plan y) (pick (eqb y x) (v.hubs x ∷ v.saved x) (v.saved y))
  unfolding mines
  saving x y = go (eqb y x) refl
    where
      go : (b : Bool) → eqb y x ≡ b → mines (owns_at plan y) (pick b (w.hubs x ∷ w.saved x) (w.saved y)) ≡ mines (owns_at plan y) (pick b (v.hubs x ∷ v.saved x) (v.saved y))
      go true q =
          subst (λ (z : ℕ). mines (owns_at plan z) (w.hubs x ∷ w.saved x) ≡ mines (owns_at plan z) (v.hubs x ∷ v.saved x)) (sym (eqb-true y x q))
          (ap₂ (λ (t : Table) (l : List Table). t ∷ l) (s.tables x) (s.saved x))
      go false q = s.saved y

  step : (e : Event) → Same plan (happens plan (Own e) w) (happens plan (Own e) v)
  unfolding happens happen
  step (Writing x i k who c) = go (eqb (plan.owner i) x) (ltb (time_of c) numbers) refl
    where
      go : (a b : Bool) → eqb (plan.owner i) x ≡ a → Same plan (pick (a && b) (calls plan (Writing x i k who c) w) w) (pick (a && b) (calls plan (Writing x i k who c) v) v)
      go true true q = by_itself plan w v s x (λ t. (call_as (plan.profiles x) who c i k t).table) (sees-call (owns_at plan x) (plan.profiles x) who c i k q) _ _ _ _
      go true false q = s
      go false b q = s
  step (Beating x i) = by_itself plan w v s x (λ t. (local_beat i t).table) (sees-beat (owns_at plan x) i) _ _ _ _
  step (Offering x i h) = either plan w v s (ltb h.0 numbers) _ _ (by_itself plan w v s x (λ t. (offer i h t).table) (sees-offer (owns_at plan x) i h) _ _ _ _)
  step (Removing x removal) = by_itself plan w v s x (removed_by removal) (sees-removed (owns_at plan x) removal) _ _ _ _
  step (Adding x i) = either plan w v s (ltb i numbers) _ _ (by_itself plan w v s x (λ t. (add i t).table) (sees-add (owns_at plan x) i) _ _ _ _)
  step (Dropping x i) = either plan w v s (not (eqb (plan.owner i) x)) _ _ (by_itself plan w v s x (λ t. (remove_node i t).table) (sees-drop (owns_at plan x) i) _ _ _ _)
  step (Computing x edition digest excluded order mtu place l) = record { tables = s.tables; saved = s.saved }
  step (Arriving x k now l) = s
  step (Saving x) = record { tables = s.tables; saved = saving x }
  step (Restoring x k) =
      subst (λ (b : Bool). Same plan (pick (possible plan.owner (Restoring x k) w) (calls plan (Restoring x k) w) w) (pick b (calls plan (Restoring x k) v) v)) (same-lost plan x (w.hubs x) (v.hubs x) (s.tables x) k (w.saved x) (v.saved x) (s.saved x))
      (either plan w v s (possible plan.owner (Restoring x k) w) _ _ back)
    where
      back : Same plan (calls plan (Restoring x k) w) (calls plan (Restoring x k) v)
      back =
          record {
            tables = at-hub plan x (λ y. restored (placed k (w.saved x)) (w.hubs x)) (λ y. restored (placed k (v.saved x)) (v.hubs x)) w.hubs v.hubs s.tables (same-restored plan x (w.hubs x) (v.hubs x) (s.tables x) k (w.saved x) (v.saved x) (s.saved x));
            saved = s.saved;
          }

  -- bytes come to a hub, and its own nodes are as they were
  coming : (x : ℕ) (b : List ℕ) (now : ℕ) (l : List ℕ) → Same plan (happens plan (Coming x b now l) w) v
  unfolding happens
  coming x b now l = go (datagram b now)
    where
      names : (j : ℕ) → j ∈ numbers_of (w.hubs x) → owns_at plan x j ≡ true → among j (own_of plan.owner x (numbers_of (w.hubs x))) ≡ true
      names j m o = subst (λ (y : ℕ). among j (own_of plan.owner y (numbers_of (w.hubs x))) ≡ true) (eqb-true (plan.owner j) x o) (named plan.owner j (numbers_of (w.hubs x)) (in-among m))

      after : Table
      after = taken plan x b now l (w.hubs x)

      here-same : mine (owns_at plan x) after ≡ mine (owns_at plan x) (v.hubs x)
      here-same = came-mine (owns_at plan x) (own_of plan.owner x (numbers_of (w.hubs x))) (plan.ways x) b now (w.hubs x) l names ∙ s.tables x

      at : (y : ℕ) (c : Bool) → eqb y x ≡ c → mine (owns_at plan y) (pick c after (w.hubs y)) ≡ mine (owns_at plan y) (v.hubs y)
      at y true q = subst (λ (z : ℕ). mine (owns_at plan z) after ≡ mine (owns_at plan z) (v.hubs z)) (sym (eqb-true y x q)) here-same
      at y false q = s.tables y

      go : (c : Bool) → Same plan (pick {X = Net} c (record { hubs = λ y. pick (eqb y x) (taken plan x b now l (w.hubs x)) (w.hubs y); given = w.given; sent = w.sent; saved = w.saved }) w) v
      go true = record { tables = λ y. at y (eqb y x) refl; saved = s.saved }
      go false = s

-- ---- runs

module _ (plan : Plan) where
  pub same-run : (ds : List Doing) (w v : Net) → Same plan w v → Same plan (runs plan ds w) (runs plan (silent ds) v)
  unfolding runs silent
  same-run [] w v s = s
  same-run (Own e ∷ ds) w v s = same-run ds (happens plan (Own e) w) (happens plan (Own e) v) (step plan w v s e)
  same-run (Coming x b now l ∷ ds) w v s = same-run ds (happens plan (Coming x b now l) w) v (coming plan w v s x b now l)

  -- After any run, with any bytes to any hub in it, a node stands at its owner as after the same run in which nothing came.
  pub as-silent : (ds : List Doing) (w : Net) (i : ℕ) → node_of i ((runs plan ds w).hubs (plan.owner i)) ≡ node_of i ((runs plan (silent ds) w).hubs (plan.owner i))
  as-silent ds w i =
      same-node (owns_at plan (plan.owner i)) i (eq-eqb (plan.owner i) (plan.owner i) refl) ((runs plan ds w).hubs (plan.owner i)) ((runs plan (silent ds) w).hubs (plan.owner i))
      ((same-run ds w w (record { tables = λ y. refl; saved = λ y. refl })).tables (plan.owner i))
