-- What a call makes of each node of its table, as a law R of the hub, the node's number, the node as it was and as it is. For whoever has to look at every event:
-- it is enough to know R of a write, a beat, a removal, a delta that is taken, a node that goes. Assumes nothing.
use Prim.Native.Nat.{ℕ}
use mathlib.Core.Bool.{Bool, false, true}
use mathlib.Core.List.{List}
use mathlib.Core.Logic.{◌⊎◌, inl, inr}
use mathlib.Core.Option.{Option, none, some}
use mathlib.Core.Path.{◌∙◌, ◌≡◌, ap, refl, subst, sym}
use lib.Dec.{eqb}
use borrow.Author.Tests.{eqb-true}
use Rattle.fields.specs.Choice.{pick}
use Rattle.rules.proofs.Obeys.{Ascending}
use Rattle.rules.proofs.Tables.{applied-table, node-set-other, node-set-same, part_at, taking}
use Rattle.rules.specs.Apply.{Lawful, Taken, Ways, apply, apply_each, apply_node}
use Rattle.rules.specs.Delta.{Good, NodeDelta, Op, nothing_read, parts_of}
use Rattle.rules.specs.Local.{add, call, call_as, call_on, local_beat, offer, remove_node}
use Rattle.rules.specs.Node.{Call, Decision, KeyValue, Node, Rec, act, decide, fresh, remove, with_heartbeat}
use Rattle.rules.specs.Table.{Table, node_of, numbers_of, set_node}
use Rattle.rules.specs.declared.Heartbeat.{Heartbeat}
use Rattle.rules.specs.declared.Party.{Party}
use Rattle.rules.specs.declared.Profile.{Profile}
use Rattle.demand3.proofs.EachNode.{Beaten, beaten-local, beaten-offer, node-taken, node_at, or_fresh}
use Rattle.demand3.proofs.Formed.{by-guard}
use Rattle.demand3.proofs.Forms.{removed-node}
use Rattle.demand3.proofs.Moments.{read-once}
use Rattle.demand3.specs.Forms.{Removal, removed_by}
use Rattle.net.proofs.Coming.{node-added, node-dropped}
use Rattle.net.proofs.Moments.{Carries}
use Rattle.net.specs.Net.{Net}

module _ (w : Net) (R : ℕ → ℕ → Node → Node → Type 0) (same : (x i : ℕ) (n : Node) → R x i n n) where
  -- of every node of hub x, when its table is u
  abbrev pub Each : ℕ → Table → Type 0
  Each x u = (i : ℕ) → R x i (node_at i (w.hubs x)) (node_at i u)

  pub each_same : (x : ℕ) → Each x (w.hubs x)
  each_same x i = same x i (node_at i (w.hubs x))

  pub each_set : (x j : ℕ) (n m : Node) → node_of j (w.hubs x) ≡ some n → R x j n m → Each x (set_node j m (w.hubs x))
  each_set x j n m e r i = go (eqb i j) refl
    where
      t : Table
      t = w.hubs x

      go : (b : Bool) → eqb i j ≡ b → R x i (node_at i t) (node_at i (set_node j m t))
      go true q =
          let k : i ≡ j = eqb-true i j q in
          let was : n ≡ node_at i t = sym (ap or_fresh (ap (λ (y : ℕ). node_of y t) k ∙ e)) in
          let is : m ≡ node_at i (set_node j m t) = sym (ap or_fresh (subst (λ (y : ℕ). node_of y (set_node j m t) ≡ some m) (sym k) (node-set-same j m t e))) in
          subst (R x i (node_at i t)) is (subst (λ (y : Node). R x i y m) was (subst (λ (y : ℕ). R x y n m) (sym k) r))
      go false q = subst (R x i (node_at i t)) (sym (ap or_fresh (node-set-other i j m t q))) (same x i (node_at i t))

  -- in any profile
  pub each-call : (p : Profile) (who : Party) (c : Call) (x j : ℕ) (k : List ℕ) → ((n : Node) (z : Decision) → R x j n (act k z n)) → Each x (call_as p who c j k (w.hubs x)).table
  unfolding call
  each-call p who c x j k f = by-guard p who c j k (w.hubs x) (λ u g. Each x u) (each_same x) (go (node_of j (w.hubs x)) refl)
    where
      go : (o : Option Node) → node_of j (w.hubs x) ≡ o → Each x (call_on c j k o (w.hubs x)).table
      go none q = each_same x
      go (some n) q = each_set x j n (act k (decide c k n) n) q (f n (decide c k n))

  each-beaten : (x : ℕ) (u : Table) → ((i : ℕ) (n : Node) (b : Heartbeat) → R x i n (with_heartbeat b n)) → ((i : ℕ) → Beaten i (w.hubs x) u) → Each x u
  each-beaten x u f b i = subst (R x i (node_at i (w.hubs x))) (sym (b i).1) (f i (node_at i (w.hubs x)) (b i).0)

  pub each-beat : (x j : ℕ) → ((i : ℕ) (n : Node) (b : Heartbeat) → R x i n (with_heartbeat b n)) → Each x (local_beat j (w.hubs x)).table
  each-beat x j f = each-beaten x (local_beat j (w.hubs x)).table f (λ i. beaten-local i (w.hubs x) j)

  pub each-offer : (x j : ℕ) (h : Heartbeat) → ((i : ℕ) (n : Node) (b : Heartbeat) → R x i n (with_heartbeat b n)) → Each x (offer j h (w.hubs x)).table
  each-offer x j h f = each-beaten x (offer j h (w.hubs x)).table f (λ i. beaten-offer i (w.hubs x) j h)

  pub each-remove : (x : ℕ) (removal : Removal) → ((i : ℕ) (due : Rec → Bool) → R x i (node_at i (w.hubs x)) (remove due (node_at i (w.hubs x)))) → Each x (removed_by removal (w.hubs x))
  each-remove x removal f i = let r = removed-node removal (w.hubs x) i in subst (R x i (node_at i (w.hubs x))) (sym r.1) (f i r.0)

  pub each-add : (x j : ℕ) → Each x (add j (w.hubs x)).table
  each-add x j i = subst (R x i (node_at i (w.hubs x))) (sym (node-added i j (w.hubs x))) (same x i (node_at i (w.hubs x)))

  pub each-drop : (x j : ℕ) → Ascending (numbers_of (w.hubs x)) → R x j (node_at j (w.hubs x)) fresh → Each x (remove_node j (w.hubs x)).table
  each-drop x j asc r i = go (node-dropped i j (w.hubs x) asc)
    where
      u : Table
      u = (remove_node j (w.hubs x)).table

      go : (node_at i u ≡ node_at i (w.hubs x)) ⊎ ((i ≡ j) × (node_at i u ≡ fresh)) → R x i (node_at i (w.hubs x)) (node_at i u)
      go (inl e) = subst (R x i (node_at i (w.hubs x))) (sym e) (same x i (node_at i (w.hubs x)))
      go (inr e) = subst (R x i (node_at i (w.hubs x))) (sym e.1) (subst (λ (k : ℕ). R x k (node_at k (w.hubs x)) fresh) (sym e.0) r)

  -- a delta that was ever computed is taken, or refused
  pub each-taken : (ways : Ways) → Lawful ways → (x now : ℕ) (l b : List ℕ) (h : ℕ → List KeyValue) (y : Carries h b)
      → ((i : ℕ) (d : NodeDelta) → part_at i (parts_of y.reads.0) ≡ some d → R x i (node_at i (w.hubs x)) (apply_node ways now d (node_at i (w.hubs x))).node)
      → Each x (apply ways b now (w.hubs x) l).table
  each-taken ways law x now l b h y f =
      applied-table ways b now (w.hubs x) l (Each x) (each_same x)
      (λ os q. subst (λ (ops : List Op). Each x (apply_each take (parts_of ops) (w.hubs x)).table) (sym (alike os (sym (law.reads_so b os q) ∙ y.reads.1)))
      (λ i. at i (node-taken i (w.hubs x) take (parts_of ops) (read-once ops nothing_read y.reads.2))))
    where
      take : NodeDelta → Node → Taken
      take = apply_node ways now

      ops : List Op
      ops = y.reads.0

      alike : (os : List Op) → Good os ≡ Good ops → os ≡ ops
      alike os q = cc

      u : Table
      u = (apply_each take (parts_of ops) (w.hubs x)).table

      heard : (i : ℕ) (o : Option NodeDelta) → part_at i (parts_of ops) ≡ o → R x i (node_at i (w.hubs x)) (taking take o (node_at i (w.hubs x)))
      heard i none q = same x i (node_at i (w.hubs x))
      heard i (some d) q = f i d q

      at : (i : ℕ) → (node_at i u ≡ node_at i (w.hubs x)) ⊎ (node_at i u ≡ taking take (part_at i (parts_of ops)) (node_at i (w.hubs x))) → R x i (node_at i (w.hubs x)) (node_at i u)
      at i (inl e) = subst (R x i (node_at i (w.hubs x))) (sym e) (same x i (node_at i (w.hubs x)))
      at i (inr e) = subst (R x i (node_at i (w.hubs x))) (sym e) (heard i (part_at i (parts_of ops)) refl)

  -- hub x's table becomes u, and the others stay
  pub each-hub : (x : ℕ) (u : Table) → Each x u → (y : ℕ) → Each y (pick (eqb y x) u (w.hubs y))
  each-hub x u r y = go (eqb y x) refl
    where
      go : (b : Bool) → eqb y x ≡ b → Each y (pick b u (w.hubs y))
      go true q = subst (λ (z : ℕ). Each z u) (sym (eqb-true y x q)) r
      go false q = each_same y
