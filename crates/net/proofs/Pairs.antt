-- No pair (last_gc, max) falls at any hub, if no table is restored and no node removed, whatever arrives and in whatever ways it is applied. Assumes nothing.
use Prim.Native.Nat.{ℕ}
use mathlib.Core.Bool.{Bool, false, false≢true, true}
use mathlib.Core.List.{List, [], ◌∷◌}
use mathlib.Core.Logic.{inr}
use mathlib.Core.Option.{Option, none, some}
use mathlib.Core.Path.{◌∙◌, ◌≡◌, ap, refl, subst, sym}
use native.Mathlib.Omega.{arith}
use lib.Dec.{eqb}
use borrow.Author.Tests.{eqb-true}
use Rattle.fields.proofs.Choice.{and_left, and_right}
use Rattle.fields.specs.Choice.{pick}
use Rattle.rules.proofs.Tables.{applied-table, node-set-other, node-set-same}
use Rattle.rules.specs.Apply.{Ways, apply_each, apply_node, on_node}
use Rattle.rules.specs.Delta.{Part, parts_of}
use Rattle.rules.specs.Local.{call, call_as, call_on}
use Rattle.rules.specs.Node.{Call, Decision, Give, Leave, Node, Refuse, act, decide, write}
use Rattle.rules.specs.Table.{Table, node_of, set_node}
use Rattle.rules.specs.declared.Party.{Party}
use Rattle.rules.specs.declared.Profile.{Profile}
use Rattle.demand3.proofs.EachNode.{Beaten, beaten-local, beaten-offer, node_at, or_fresh}
use Rattle.demand3.proofs.Formed.{by-guard}
use Rattle.demand3.proofs.Forms.{removed-node}
use Rattle.demand3.proofs.OneNode.{rises-apply, rises-remove, rises-same, rises-trans}
use Rattle.demand3.specs.Demand3.{AllRise, Rises}
use Rattle.demand3.specs.World.{DeltaSent, DigestSent, Exchange, Idle, applied_to, arrives}
use Rattle.net.proofs.Coming.{node-added}
use Rattle.net.specs.Net.{Adding, Arriving, Beating, Computing, Dropping, Event, Net, Offering, Plan, Removing, Restoring, Saving, Writing, after, all_go_on, calls, goes_on, happen, possible}

-- from the one table to the other no pair falls; a node that is not there counts as fresh
abbrev Up : Table → Table → Type 0
Up t u = (i : ℕ) → Rises (node_at i t) (node_at i u)

same : (t : Table) → Up t t
same t i = rises-same (node_at i t)

-- one node becomes another
set-up : (j : ℕ) (n m : Node) (t : Table) → node_of j t ≡ some n → Rises n m → Up t (set_node j m t)
set-up j n m t e r i = go (eqb i j) refl
  where
    go : (b : Bool) → eqb i j ≡ b → Rises (node_at i t) (node_at i (set_node j m t))
    go true q =
        let k : i ≡ j = eqb-true i j q in
        let was : n ≡ node_at i t = sym (ap or_fresh (ap (λ (x : ℕ). node_of x t) k ∙ e)) in
        let is : m ≡ node_at i (set_node j m t) = sym (ap or_fresh (subst (λ (x : ℕ). node_of x (set_node j m t) ≡ some m) (sym k) (node-set-same j m t e))) in
        subst (λ (y : Node). Rises (node_at i t) y) is (subst (λ (y : Node). Rises y m) was r)
    go false q = subst (Rises (node_at i t)) (sym (ap or_fresh (node-set-other i j m t q))) (rises-same (node_at i t))

beaten-up : (t u : Table) → ((i : ℕ) → Beaten i t u) → Up t u
beaten-up t u f i = subst (Rises (node_at i t)) (sym (f i).1) (inr (refl, omega arith))

act-up : (k : List ℕ) (z : Decision) (n : Node) → Rises n (act k z n)
unfolding act write
act-up k (Refuse r) n = rises-same n
act-up k Leave n = rises-same n
act-up k (Give c) n = inr (refl, omega arith)

call_up : (p : Profile) (who : Party) (c : Call) (j : ℕ) (k : List ℕ) (t : Table) → Up t (call_as p who c j k t).table
unfolding call
call_up p who c j k t = by-guard p who c j k t (λ u g. Up t u) (same t) (go (node_of j t) refl)
  where
    go : (o : Option Node) → node_of j t ≡ o → Up t (call_on c j k o t).table
    go none q = same t
    go (some n) q = set-up j n (act k (decide c k n) n) t q (act-up k (decide c k n) n)

each-up : (ways : Ways) (now : ℕ) (xs : List Part) (t : Table) → Up t (apply_each (apply_node ways now) xs t).table
unfolding apply_each
each-up ways now [] t = same t
each-up ways now (x ∷ xs) t = go (node_of x.number t) refl (each-up ways now xs)
  where
    go : (o : Option Node) → node_of x.number t ≡ o → ((u : Table) → Up u (apply_each (apply_node ways now) xs u).table) → Up t (on_node (apply_node ways now) x o t (apply_each (apply_node ways now) xs)).table
    go none q ih = ih t
    go (some n) q ih =
        let u : Table = set_node x.number (apply_node ways now x.delta n).node t in
        λ i. rises-trans (node_at i t) (node_at i u) (node_at i (apply_each (apply_node ways now) xs u).table) (set-up x.number n (apply_node ways now x.delta n).node t q (rises-apply ways now x.delta n) i) (ih u i)

module _ (plan : Plan) (w : Net) where
  -- only hub x's table is another
  there : (x : ℕ) (u : Table) → Up (w.hubs x) u → (y : ℕ) → Up (w.hubs y) (pick (eqb y x) u (w.hubs y))
  there x u r y = go (eqb y x) refl
    where
      go : (b : Bool) → eqb y x ≡ b → Up (w.hubs y) (pick b u (w.hubs y))
      go true q = subst (λ (z : ℕ). Up (w.hubs z) u) (sym (eqb-true y x q)) r
      go false q = same (w.hubs y)

  calls-up : (e : Event) → goes_on e ≡ true → (y : ℕ) → Up (w.hubs y) ((calls plan e w).hubs y)
  calls-up (Writing x i k who c) g = there x _ (call_up (plan.profiles x) who c i k (w.hubs x))
  calls-up (Beating x j) g = there x _ (beaten-up (w.hubs x) _ (λ i. beaten-local i (w.hubs x) j))
  calls-up (Offering x j b) g = there x _ (beaten-up (w.hubs x) _ (λ i. beaten-offer i (w.hubs x) j b))
  calls-up (Removing x removal) g =
      there x _ (λ i. let r = removed-node removal (w.hubs x) i in subst (Rises (node_at i (w.hubs x))) (sym r.1) (rises-remove r.0 (node_at i (w.hubs x))))
  calls-up (Adding x j) g = there x _ (λ i. subst (Rises (node_at i (w.hubs x))) (sym (node-added i j (w.hubs x))) (rises-same (node_at i (w.hubs x))))
  calls-up (Dropping x j) g = absurd (false≢true g)
  calls-up (Computing x edition digest excluded order mtu place l) g = λ y. same (w.hubs y)
  calls-up (Arriving x k now l) g =
      there x _
      (go (arrives k w.sent))
    where
      go : (d : Exchange) → Up (w.hubs x) (applied_to (plan.ways x) now l d (w.hubs x))
      go Idle = same (w.hubs x)
      go (DigestSent d) = same (w.hubs x)
      go (DeltaSent b) = applied-table (plan.ways x) b now (w.hubs x) l (Up (w.hubs x)) (same (w.hubs x)) (λ ops q. each-up (plan.ways x) now (parts_of ops) (w.hubs x))
  calls-up (Saving x) g = λ y. same (w.hubs y)
  calls-up (Restoring x k) g = absurd (false≢true g)

  event-up : (e : Event) → goes_on e ≡ true → (y : ℕ) → Up (w.hubs y) ((happen plan e w).hubs y)
  unfolding happen
  event-up e g y = go (possible plan.owner e w)
    where
      go : (b : Bool) → Up (w.hubs y) ((pick b (calls plan e w) w).hubs y)
      go true = calls-up e g y
      go false = same (w.hubs y)

run_up : (plan : Plan) (es : List Event) (w : Net) → all_go_on es ≡ true → (y : ℕ) → Up (w.hubs y) ((after plan es w).hubs y)
unfolding after all_go_on
run_up plan [] w g y = λ i. rises-same (node_at i (w.hubs y))
run_up plan (e ∷ es) w g y =
    let v : Net = happen plan e w in
    λ i. rises-trans (node_at i (w.hubs y)) (node_at i (v.hubs y)) (node_at i ((after plan es v).hubs y)) (event-up plan w e (and_left (goes_on e) _ g) y i) (run_up plan es v (and_right (goes_on e) _ g) y i)

pub pairs-rise : (plan : Plan) (es : List Event) (w : Net) → all_go_on es ≡ true → (y : ℕ) → AllRise (w.hubs y) ((after plan es w).hubs y)
pairs-rise plan es w g y i a b p q = subst (λ (n : Node). Rises n b) (ap or_fresh p) (subst (Rises (node_at i (w.hubs y))) (ap or_fresh q) (run_up plan es w g y i))
