-- What does not come back in a net without plain hubs. Once a hub has reached the last version that a key was given, by its last_gc or its max, no other record of the key stands
-- there, whoever it hears, until the owner gives the key a new version; and how far a hub has got falls only where it is restored or the node removed. An older
-- record may come back for a while once the key was given a new version (net_runs: Runs.goes-back).
use Prim.Native.Nat.{◌≤◌, ℕ}
use mathlib.Core.Bool.{Bool, false, false≢true, true}
use mathlib.Core.List.{List, [], ◌∷◌}
use mathlib.Core.Logic.{inl, inr}
use mathlib.Core.Path.{◌∙◌, ◌≡◌, ap, subst, sym}
use native.Mathlib.Omega.{arith}
use Rattle.fields.proofs.Choice.{and_left, and_right}
use Rattle.fields.specs.Choice.{◌∈◌, pick}
use Rattle.rules.proofs.Records.{gc-rises}
use Rattle.rules.proofs.Taking.{Came, came, left, reset, took}
use Rattle.rules.specs.Apply.{outcome, ways_in}
use Rattle.rules.specs.Delta.{NodeDelta}
use Rattle.rules.specs.Node.{Decision, Give, KeyValue, Leave, Node, Refuse, act, remove, write}
use Rattle.rules.specs.Whole.{decode_whole}
use Rattle.rules.specs.Profile.{Kind}
use Rattle.demand3.proofs.EachNode.{node_at, or_fresh}
use Rattle.demand3.proofs.Honest.{Current}
use Rattle.demand3.proofs.Parted.{nth-sent}
use Rattle.demand3.specs.Demand3.{Holds, Last}
use Rattle.demand3.specs.World.{applied_to}
use Rattle.net.proofs.Each.{Each, each-add, each-beat, each-call, each-hub, each-offer, each-remove, each_same, each-taken}
use Rattle.net.proofs.LentNet.{after-lent, lent-run, ready}
use Rattle.net.proofs.Moments.{Moment, moment-begin, moment-event, moments, part-carried}
use Rattle.net.specs.LentNet.{LentNet, lent_after, lent_begin, plan_in, tables_in}
use Rattle.net.specs.Net.{Adding, Arriving, Beating, Computing, Dropping, Event, Net, Offering, Plan, Ready, Removing, Restoring, Saving, Writing, after, all_go_on, begin, calls, goes_on, happen, possible}
use Rattle.net_losing.specs.Back.{NeverBack, reached}

-- ---- at a moment

-- what a hub that has reached t holds of t's key
at_last : (owner : ℕ → ℕ) (w : Net) → Moment owner w → (i x : ℕ) (t : KeyValue) → t ∈ w.given i → Last (w.given i) t → t.version ≤ reached (node_at i (w.hubs x)) → (s : KeyValue) → Holds (node_at i (w.hubs x)) s → s.key ≡ t.key → s ≡ t
at_last owner w ok i x t m l far s y k = at (((ok.tables x).honest i).honest.current s y)
  where
    at : Current (w.given i) (reached (node_at i (w.hubs x))) s → s ≡ t
    at (inl z) =
        let a = z t m (sym k) in
        let told = ((ok.tables x).honest i).honest.told s y in
        let b = l s told k in
        (ok.owners i).numbered.one s t told m (omega arith)
    at (inr z) = let a = l z.kv z.told (z.same ∙ k) in let b = z.above in absurd (omega arith)

-- ---- between moments

abbrev Farther : ℕ → ℕ → Node → Node → Type 0
Farther x i n m = reached n ≤ reached m

no-farther : (x i : ℕ) (n : Node) → Farther x i n n
no-farther x i n = omega arith

acts : (x i : ℕ) (k : List ℕ) (n : Node) (z : Decision) → Farther x i n (act k z n)
unfolding act write
acts x i k n (Refuse r) = omega arith
acts x i k n Leave = omega arith
acts x i k n (Give c) = omega arith

module _ (plan : Plan) (ready : Ready plan) (w : Net) (ok : Moment plan.owner w) where
  farther-calls : (e : Event) → goes_on e ≡ true → (y i : ℕ) → Farther y i (node_at i (w.hubs y)) (node_at i ((calls plan e w).hubs y))
  unfolding remove outcome
  farther-calls (Writing x j k who c) g = each-hub w Farther no-farther x _ (each-call w Farther no-farther (plan.profiles x) who c x j k (acts x j k))
  farther-calls (Beating x j) g = each-hub w Farther no-farther x _ (each-beat w Farther no-farther x j (λ i n b. omega arith))
  farther-calls (Offering x j b) g = each-hub w Farther no-farther x _ (each-offer w Farther no-farther x j b (λ i n c. omega arith))
  farther-calls (Removing x removal) g =
      each-hub w Farther no-farther x _
      (each-remove w Farther no-farther x removal (λ i due. let a = gc-rises due (node_at i (w.hubs x)).last_gc (node_at i (w.hubs x)).recs in omega arith))
  farther-calls (Adding x j) g = each-hub w Farther no-farther x _ (each-add w Farther no-farther x j)
  farther-calls (Dropping x j) g = absurd (false≢true g)
  farther-calls (Computing x edition digest excluded order mtu place l) g = λ y i. omega arith
  farther-calls (Arriving x k now l) g =
      each-hub w Farther no-farther x _
      (nth-sent (λ d. Each w Farther no-farther x (applied_to (plan.ways x) now l d (w.hubs x))) (each_same w Farther no-farther x) k w.sent (λ b m. (ok.sent b m).reads)
      (λ b c m y. each-taken w Farther no-farther (plan.ways x) (ready.lawful x) x now l c w.given (part-carried w.given b c (ok.sent b m) y) (λ i d q. go i d _ (came (plan.ways x) now d (node_at i (w.hubs x))))))
    where
      go : (i : ℕ) (d : NodeDelta) (n : Node) → Came (plan.ways x) now d (node_at i (w.hubs x)) n → reached (node_at i (w.hubs x)) ≤ reached n
      go i d n left = omega arith
      go i d n (reset r) = let a = r.above_gc in let b = r.above_max in omega arith
      go i d n (took r) = let a = r.newer in omega arith
  farther-calls (Saving x) g = λ y i. omega arith
  farther-calls (Restoring x k) g = absurd (false≢true g)

  farther-event : (e : Event) → goes_on e ≡ true → (y i : ℕ) → Farther y i (node_at i (w.hubs y)) (node_at i ((happen plan e w).hubs y))
  unfolding happen
  farther-event e g y i = go (possible plan.owner e w)
    where
      go : (b : Bool) → Farther y i (node_at i (w.hubs y)) (node_at i ((pick b (calls plan e w) w).hubs y))
      go true = farther-calls e g y i
      go false = omega arith

farther : (plan : Plan) → Ready plan → (es : List Event) (w : Net) → Moment plan.owner w → all_go_on es ≡ true → (y i : ℕ) → reached (node_at i (w.hubs y)) ≤ reached (node_at i ((after plan es w).hubs y))
unfolding after all_go_on
farther plan ready [] w ok g y i = omega arith
farther plan ready (e ∷ es) w ok g y i =
    let a = farther-event plan ready w ok e (and_left (goes_on e) _ g) y i in
    let b = farther plan ready es (happen plan e w) (moment-event plan w ok ready e) (and_right (goes_on e) _ g) y i in
    omega arith

-- ---- the theorem

-- After any run hub x has reached t. Much may happen then, but no table is restored and no node removed; and t is still the last that its key was given. Then hub x
-- holds t, or nothing of that key.
pub never_back : (plan : Plan) → Ready plan → (es fs : List Event) → all_go_on fs ≡ true → (i x : ℕ)
    → NeverBack i ((after plan fs (after plan es begin)).given i) ((after plan es begin).hubs x) ((after plan fs (after plan es begin)).hubs x)
never_back plan ready es fs g i x m n p q t told last far s y k =
    let w : Net = after plan es begin in
    let v : Net = after plan fs w in
    let ok = moments plan ready es begin (moment-begin plan.owner) in
    let a = farther plan ready fs w ok g x i in
    let b = ap (λ (z : Node). reached z) (ap or_fresh p) in
    at_last plan.owner v (moments plan ready fs w ok) i x t told last (omega arith) s (subst (λ (z : Node). Holds z s) (sym (ap or_fresh q)) y) k

-- of lent bytes
pub lent-never-back : (owner : ℕ → ℕ) (kinds : ℕ → Kind) → ((x : ℕ) → (ways_in (kinds x)).late ≡ true) → (es fs : List Event) → all_go_on fs ≡ true → (i x : ℕ)
    → NeverBack i ((lent_after owner fs (lent_after owner es (lent_begin kinds))).given i)
    (decode_whole ((lent_after owner es (lent_begin kinds)).hubs x)).table
    (decode_whole ((lent_after owner fs (lent_after owner es (lent_begin kinds))).hubs x)).table
lent-never-back owner kinds late es fs g i x =
    let plan : Plan = plan_in owner kinds in
    let l : LentNet = lent_after owner es (lent_begin kinds) in
    let r = lent-run owner kinds late es in
    let s = after-lent owner kinds late fs l r.0 (subst (Moment owner) (sym r.1) (moments plan (ready owner kinds late) es begin (moment-begin owner))) in
    let v : Net = after plan fs (after plan es begin) in
    let e : tables_in (lent_after owner fs l) ≡ v = s.1 ∙ ap (after plan fs) r.1 in
    subst (λ (u : Net). NeverBack i (u.given i) ((tables_in l).hubs x) (u.hubs x)) (sym e)
    (subst (λ (u : Net). NeverBack i (v.given i) (u.hubs x) (v.hubs x)) (sym r.1) (never_back plan (ready owner kinds late) es fs g i x))
