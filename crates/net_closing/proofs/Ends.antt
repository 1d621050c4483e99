-- That the exchanges of a finite graph that stays as it is end, fenced or guarded: fewer than k * (n + 1) * (n + 1) rounds change a pair, for k hubs and the owner's
-- max n. One that changes none means equal max, and it stays. Deltas may be cut, if of the node something comes over.
use Prim.Native.Nat.{◌*◌, ◌+◌, ◌<◌, ◌≤◌, max, suc, ℕ}
use mathlib.Core.Bool.{Bool, false, true}
use mathlib.Core.List.{List, [], ◌++◌, ◌∷◌}
use mathlib.Core.Logic.{◌⊎◌, inl, inr}
use mathlib.Core.Option.{some}
use mathlib.Core.Path.{◌∙◌, ◌≡◌, ap, refl, subst, sym}
use native.Mathlib.Nat.{mul-le-mul_right, suc-mul}
use native.Mathlib.Omega.{arith}
use lib.Dec.{ltb}
use lib.ListN.{length}
use borrow.Author.Tests.{ltb-false, ltb-true}
use Rattle.fields.proofs.Choice.{and_left, and_right, in-cons, in-none}
use Rattle.fields.specs.Choice.{◌∈◌}
use Rattle.rules.proofs.Sending.{node_delta}
use Rattle.rules.proofs.Taking.{FromOf, from-of, no-reset, reset_due, status-apply, status-reset, taken-node}
use Rattle.rules.specs.Apply.{Ways, apply_node, delta_status, outcome}
use Rattle.rules.specs.Compute.{from_of}
use Rattle.rules.specs.Delta.{NodeDelta}
use Rattle.rules.specs.Node.{KeyValue, Node}
use Rattle.rules.specs.Table.{node_of}
use Rattle.rules.specs.declared.DeltaStatus.{DeltaStatus}
use Rattle.rules.specs.declared.DeltaStatus.TheVariants.{Apply, ApplyAfterReset}
use Rattle.rules.specs.declared.NodeAnswer.TheVariants as node
use Rattle.demand3.proofs.EachNode.{node_at, or_fresh}
use Rattle.demand3.proofs.Needed.{Moves, brings, completes, delta-moves-or}
use Rattle.demand3.proofs.OneNode.{rises-apply, rises-remove, rises-same, rises-trans}
use Rattle.demand3.specs.Demand3.{Rises}
use Rattle.net.proofs.Moments.{moment-begin, moments}
use Rattle.net.specs.Net.{Event, Net, Plan, Ready, after, begin, happen}
use Rattle.net_closing.proofs.Calm.{Onward, after-append, beats, every_append, onward, removes, stays, takes}
use Rattle.net_closing.proofs.Chains.{Level, level-settled}
use Rattle.net_closing.proofs.Exchange.{heard-made, heard-node}
use Rattle.net_closing.proofs.Rounds.{Known, closed_of, known-event, known-run, owner-there, there-is, there-run}
use Rattle.net_closing.proofs.Static.{StaticIn, static-begin, static-run}
use Rattle.net_closing.specs.Closing.{Asked, Closed, Heard, HearsIn, Local, LocalAll, PartIn, Rounds, Steps, after_all, along, calm, every, exchange_in, here_it_is, ops_in, senders_in}

-- ---- pairs

abbrev Higher : Node → Node → Type 0
Higher a b = (a.last_gc < b.last_gc) ⊎ ((a.last_gc ≡ b.last_gc) × (a.max < b.max))

abbrev SamePair : Node → Node → Type 0
SamePair a b = (a.last_gc ≡ b.last_gc) × (a.max ≡ b.max)

onward-rises : (ways : Ways) (h : List KeyValue) (a b : Node) → Onward ways h a b → Rises a b
onward-rises ways h a b stays = rises-same a
onward-rises ways h a b (removes due) = rises-remove due a
onward-rises ways h a b (beats t) = inr (refl, omega arith)
onward-rises ways h a b (takes now d x) = rises-apply ways now d a

-- the place of a pair among the (n + 1) * (n + 1)
abbrev rank : ℕ → Node → ℕ
rank n a = a.last_gc * suc n + a.max

rank-higher : (n : ℕ) (a b : Node) → a.max ≤ n → Higher a b → rank n a < rank n b
rank-higher n a b m (inl x) =
    let p : suc a.last_gc * suc n ≤ b.last_gc * suc n = mul-le-mul_right (suc n) x in
    let q : suc a.last_gc * suc n ≡ a.last_gc * suc n + suc n = suc-mul a.last_gc (suc n) in
    omega arith
rank-higher n a b m (inr x) =
    let p : a.last_gc * suc n ≡ b.last_gc * suc n = ap (λ (g : ℕ). g * suc n) x.0 in
    let q = x.1 in
    omega arith

rank_rises : (n : ℕ) (a b : Node) → a.max ≤ n → Rises a b → SamePair a b ⊎ (rank n a < rank n b)
rank_rises n a b m (inl x) = inr (rank-higher n a b m (inl x))
rank_rises n a b m (inr x) = go (ltb a.max b.max) refl
  where
    go : (t : Bool) → ltb a.max b.max ≡ t → SamePair a b ⊎ (rank n a < rank n b)
    go true q = inr (rank-higher n a b m (inr (x.0, ltb-true _ _ q)))
    go false q = let c = ltb-false a.max b.max q in let d = x.1 in inl (x.0, omega arith)

rank_same : (n : ℕ) (a b : Node) → SamePair a b → rank n a ≡ rank n b
rank_same n a b s = let e = s.0 in let f = s.1 in λ z. e z * suc n + f z

rank-low : (n : ℕ) (a : Node) → a.last_gc ≤ n → a.max ≤ n → rank n a < suc n * suc n
rank-low n a g m =
    let p : a.last_gc * suc n ≤ n * suc n = mul-le-mul_right (suc n) g in
    let q : suc n * suc n ≡ n * suc n + suc n = suc-mul n (suc n) in
    omega arith

module _ (plan : Plan) (ready : Ready plan) (i n : ℕ) where
  abbrev K : Net → Type 0
  K w = Known plan ready i n w

  abbrev at : Net → ℕ → Node
  at w x = node_at i (w.hubs x)

  max-in : (w : Net) → K w → (x : ℕ) → (at w x).max ≤ n
  max-in w ok x = let a = ((ok.moment.tables x).honest i).honest.max-low in let s = ok.size in omega arith

  gc-in : (w : Net) → K w → (x : ℕ) → (at w x).last_gc ≤ n
  gc-in w ok x = let a = ((ok.moment.tables x).honest i).honest.gc_low in let s = ok.size in omega arith

  -- ---- pairs in a run

  run-rises : (es : List Event) (w : Net) → K w → every (calm i) es ≡ true → (x : ℕ) → Rises (at w x) (at (after plan es w) x)
  unfolding after every
  run-rises [] w ok c x = rises-same (at w x)
  run-rises (e ∷ es) w ok c x =
      let now = and_left (calm i e) (every (calm i) es) c in
      rises-trans (at w x) (at (happen plan e w) x) (at (after plan es (happen plan e w)) x)
      (onward-rises (plan.ways x) (w.given i) (at w x) (at (happen plan e w) x) (onward plan ready i w ok.moment e now x))
      (run-rises es (happen plan e w) (known-event plan ready i n w ok e now) (and_right (calm i e) (every (calm i) es) c) x)

  module _ (es : List Event) (w : Net) (ok : K w) (c : every (calm i) es ≡ true) where
    abbrev then : Net
    then = after plan es w

    rank-run : (x : ℕ) → SamePair (at w x) (at then x) ⊎ (rank n (at w x) < rank n (at then x))
    rank-run x = rank_rises n (at w x) (at then x) (max-in w ok x) (run-rises es w ok c x)

    rank_up : (x : ℕ) → rank n (at w x) ≤ rank n (at then x)
    rank_up x = go (rank-run x)
      where
        go : SamePair (at w x) (at then x) ⊎ (rank n (at w x) < rank n (at then x)) → rank n (at w x) ≤ rank n (at then x)
        go (inl s) = let e : rank n (at w x) ≡ rank n (at then x) = rank_same n (at w x) (at then x) s in omega arith
        go (inr h) = omega arith

    unmoved : (x : ℕ) → rank n (at then x) ≤ rank n (at w x) → SamePair (at w x) (at then x)
    unmoved x h = go (rank-run x)
      where
        go : SamePair (at w x) (at then x) ⊎ (rank n (at w x) < rank n (at then x)) → SamePair (at w x) (at then x)
        go (inl s) = s
        go (inr k) = absurd (omega arith)

  -- ---- all hubs together

  unfoldable total : List ℕ → Net → ℕ
  total [] w = 0
  total (x ∷ xs) w = rank n (at w x) + total xs w

  total-up : (xs : List ℕ) (es : List Event) (w : Net) → K w → every (calm i) es ≡ true → total xs w ≤ total xs (after plan es w)
  unfolding total
  total-up [] es w ok c = omega arith
  total-up (x ∷ xs) es w ok c = let a = rank_up es w ok c x in let b = total-up xs es w ok c in omega arith

  total-still : (xs : List ℕ) (es : List Event) (w : Net) → K w → every (calm i) es ≡ true → total xs (after plan es w) ≤ total xs w → (x : ℕ) → x ∈ xs → rank n (at (after plan es w) x) ≤ rank n (at w x)
  unfolding total
  total-still [] es w ok c h x m = absurd (in-none m)
  total-still (y ∷ ys) es w ok c h x m = go (in-cons m) (total-still ys es w ok c (let a = rank_up es w ok c y in omega arith) x)
    where
      go : (x ≡ y) ⊎ (x ∈ ys) → (x ∈ ys → rank n (at (after plan es w) x) ≤ rank n (at w x)) → rank n (at (after plan es w) x) ≤ rank n (at w x)
      go (inl e) ih = subst (λ (z : ℕ). rank n (at (after plan es w) z) ≤ rank n (at w z)) (sym e) (let b = total-up ys es w ok c in omega arith)
      go (inr k) ih = ih k

  total-low : (xs : List ℕ) (w : Net) → K w → total xs w + length xs ≤ length xs * (suc n * suc n)
  unfolding total
  total-low [] w ok = omega arith
  total-low (x ∷ xs) w ok =
      let a = rank-low n (at w x) (gc-in w ok x) (max-in w ok x) in
      let b = total-low xs w ok in
      let e : suc (length xs) * (suc n * suc n) ≡ length xs * (suc n * suc n) + suc n * suc n = suc-mul (length xs) (suc n * suc n) in
      omega arith

  -- ---- an exchange that brings something to a node that is not in a reset to a higher last_gc

  progress : (w : Net) → K w → (x y : ℕ) (q : Asked) → Heard plan i x y w q → (at w x).max < (at w y).max → (at w x).last_gc ≤ max (at w x).max (at w y).last_gc → Higher (at w x) (at (after plan (exchange_in q x y w) w) x)
  unfolding node_delta outcome
  progress w ok x y q s late low = go (from_of p.last_gc f.last_gc f.max) from_is (from-of p f.last_gc f.max)
    where
      f : Node
      f = at w x

      p : Node
      p = at w y

      m : Node
      m = at (after plan (exchange_in q x y w) w) x

      node_is : s.node ≡ f
      node_is = sym (ap or_fresh s.has)

      got : (d : NodeDelta) × PartIn (ops_in q x y w) i d × (0 < d.max)
      got = s.brings p (there-is (node_of i (w.hubs y)) f.max late) (subst (λ (k : Node). k.max < p.max) (sym node_is) late)

      d : NodeDelta
      d = got.0

      heard : (m ≡ (apply_node (plan.ways x) q.now d s.node).node) × ((apply_node (plan.ways x) q.now d s.node).answer ≡ node.Room → ⊥)
      heard = heard-node plan ready.lawful w ok.moment i x y q s d got.1

      made : (count : ℕ) × (fits : Bool) × (d ≡ node_delta p f.last_gc f.max count fits)
      made = subst (λ (k : Node). (count : ℕ) × (fits : Bool) × (d ≡ node_delta p k.last_gc k.max count fits)) node_is (heard-made plan ready.lawful w ok.moment i x y q s d got.1)

      gc_is : d.last_gc ≡ p.last_gc
      gc_is = ap (λ (e : NodeDelta). e.last_gc) made.2

      from_is : d.from ≡ from_of p.last_gc f.last_gc f.max
      from_is = ap (λ (e : NodeDelta). e.from) made.2

      moves : Moves p d
      moves = by (delta-moves-or p f.last_gc f.max made.0 made.1)
        where
          by : ((node_delta p f.last_gc f.max made.0 made.1).max ≡ 0) ⊎ Moves p (node_delta p f.last_gc f.max made.0 made.1) → Moves p d
          by (inl z) = let a : d.max ≡ (node_delta p f.last_gc f.max made.0 made.1).max = ap (λ (e : NodeDelta). e.max) made.2 in let b = got.2 in absurd (omega arith)
          by (inr k) = subst (Moves p) (sym made.2) k

      lets : (plan.ways x).fence f.last_gc f.max d.last_gc d.max ≡ false
      lets = (ready.lawful x).lets f.last_gc f.max d.last_gc d.max (let b = gc_is in omega arith)

      next-is : m ≡ outcome (delta_status (plan.ways x).fence f d) q.now d f
      next-is =
          heard.0
          ∙ ap (λ (k : Node). (apply_node (plan.ways x) q.now d k).node) node_is
          ∙ taken-node (plan.ways x) q.now d f (subst (λ (k : Node). (apply_node (plan.ways x) q.now d k).answer ≡ node.Room → ⊥) node_is heard.1)

      further : d.from ≡ f.max → f.max < d.max
      further e = by moves
        where
          by : Moves p d → f.max < d.max
          by (brings r k a b) = omega arith
          by (completes a) = omega arith

      go : (z : ℕ) → d.from ≡ z → FromOf p f.last_gc f.max z → Higher f m
      go z e (reset_due a b) =
          let g = gc_is in
          let is : m ≡ outcome ApplyAfterReset q.now d f = next-is ∙ ap (λ (v : DeltaStatus). outcome v q.now d f) (status-reset (plan.ways x).fence f d lets e (omega arith) (omega arith)) in
          let l : m.last_gc ≡ d.last_gc = ap (λ (u : Node). u.last_gc) is in
          inl (omega arith)
      go z e (no-reset a) =
          let g = gc_is in
          let b : f.max < d.max = further e in
          let is : m ≡ outcome Apply q.now d f = next-is ∙ ap (λ (v : DeltaStatus). outcome v q.now d f) (status-apply (plan.ways x).fence f d lets (omega arith) (omega arith) b) in
          let k : m.max ≡ d.max = ap (λ (u : Node). u.max) is in
          let l : m.last_gc ≡ f.last_gc = ap (λ (u : Node). u.last_gc) is in
          inr (sym l, omega arith)

  module _ (hears : (x y : ℕ) → Type 0) (hs : List ℕ) (within : (x y : ℕ) → hears x y → (x ∈ hs) × (y ∈ hs)) where
    abbrev All : List (List Event) → Net → Type 0
    All ess w = Rounds plan (calm i) (Heard plan i) hears ess w

    abbrev Stands : Net → List ℕ → Type 0
    Stands w s = StaticIn plan ready i hears w s

    -- a round in which no pair changes leaves nobody behind
    still-level : (es : List Event) (w : Net) → K w → every (calm i) es ≡ true → ((x y : ℕ) → hears x y → HearsIn plan (Heard plan i x y) x y es w) → total hs (after plan es w) ≤ total hs w → Level hears (at w)
    still-level es w ok c each h x y e low = go (ltb (at w x).max (at w y).max) refl
      where
        s : HearsIn plan (Heard plan i x y) x y es w
        s = each x y e

        u : Net
        u = after plan s.before w

        ex : List Event
        ex = exchange_in s.asked x y u

        v : Net
        v = after plan ex u

        parts : (every (calm i) s.before ≡ true) × (every (calm i) (ex ++ s.rest) ≡ true)
        parts = every_append (calm i) s.before (ex ++ s.rest) (subst (λ (fs : List Event). every (calm i) fs ≡ true) s.is c)

        more : (every (calm i) ex ≡ true) × (every (calm i) s.rest ≡ true)
        more = every_append (calm i) ex s.rest parts.1

        u-ok : K u
        u-ok = known-run plan ready i n s.before w ok parts.0

        v-ok : K v
        v-ok = known-run plan ready i n ex u u-ok more.0

        end_is : after plan es w ≡ after plan s.rest v
        end_is = ap (λ (fs : List Event). after plan fs w) s.is ∙ after-append plan s.before (ex ++ s.rest) w ∙ after-append plan ex s.rest u

        -- the ranks between are the same too
        end_low : (z : ℕ) → z ∈ hs → rank n (at (after plan s.rest v) z) ≤ rank n (at w z)
        end_low z m = subst (λ (t : Net). rank n (at t z) ≤ rank n (at w z)) end_is (total-still hs es w ok c h z m)

        same-u : (z : ℕ) → z ∈ hs → SamePair (at w z) (at u z)
        same-u z m =
            let a = end_low z m in
            let b = rank_up ex u u-ok more.0 z in
            let d = rank_up s.rest v v-ok more.1 z in
            unmoved s.before w ok parts.0 z (omega arith)

        by : (at u x).max < (at u y).max → (at u x).last_gc ≤ max (at u x).max (at u y).last_gc → ⊥
        by late gc-ok =
            let a = rank-higher n (at u x) (at v x) (max-in u u-ok x) (progress u u-ok x y s.asked s.so_heard late gc-ok) in
            let b = rank_up s.rest v v-ok more.1 x in
            let d = end_low x (within x y e).0 in
            let f = rank_up s.before w ok parts.0 x in
            omega arith

        go : (b : Bool) → ltb (at w x).max (at w y).max ≡ b → (at w y).max ≤ (at w x).max
        go false q = ltb-false _ _ q
        go true q =
            let px = same-u x (within x y e).0 in
            let py = same-u y (within x y e).1 in
            let late = ltb-true (at w x).max (at w y).max q in
            let x₀ = px.0 in
            let x₁ = px.1 in
            let y₀ = py.0 in
            let y₁ = py.1 in
            absurd (by (omega arith) (omega arith))

    level-max : (w : Net) → K w → (s : List ℕ) → Stands w s → Level hears (at w) → (k x : ℕ) → Steps hears (plan.owner i) k x → (at w x).max ≡ n
    level-max w ok s st level k x here_it_is = owner-there plan ready i n w ok
    level-max w ok s st level k x (along j z y h t) =
        let a = level-max w ok s st level j y t in
        let b = level-settled hears (at w) level 0 z (st.chains z) in
        let d = level z y h (omega arith) in
        let f = max-in w ok z in
        omega arith

    stays-top : (ess : List (List Event)) (w : Net) → K w → All ess w → (x : ℕ) → (at w x).max ≡ n → K (after_all plan ess w) × ((at (after_all plan ess w) x).max ≡ n)
    unfolding after_all Rounds
    stays-top [] w ok rs x a = (ok, a)
    stays-top (es ∷ ess) w ok rs x a =
        stays-top ess (after plan es w) (known-run plan ready i n es w ok rs.0.only) rs.1 x (there-run plan ready i n es w ok rs.0.only x a).0

    ends_at : (ess : List (List Event)) (w : Net) (s : List ℕ)
        → K w
        → Stands w s
        → All ess w
        → LocalAll plan hears i ess w s
        → length hs * (suc n * suc n) ≤ total hs w + length ess
        → 0 < length hs
        → (k x : ℕ)
        → Steps hears (plan.owner i) k x
        → K (after_all plan ess w) × ((at (after_all plan ess w) x).max ≡ n)
    unfolding after_all Rounds LocalAll
    ends_at [] w s ok st rs ls h some-hub k x t = let a = total-low hs w ok in absurd (omega arith)
    ends_at (es ∷ ess) w s ok st rs ls h some-hub k x t = go (ltb (total hs w) (total hs v)) refl (λ j. ends_at ess v (senders_in plan es w s) v-ok v-st rs.1 ls.1 j some-hub k x t)
      where
        v : Net
        v = after plan es w

        v-ok : K v
        v-ok = known-run plan ready i n es w ok rs.0.only

        v-st : Stands v (senders_in plan es w s)
        v-st = static-run plan ready i hears es w s ok.moment st ls.0

        End : Type 0
        End = K (after_all plan ess v) × ((at (after_all plan ess v) x).max ≡ n)

        go : (b : Bool) → ltb (total hs w) (total hs v) ≡ b → (length hs * (suc n * suc n) ≤ total hs v + length ess → End) → End
        go true q ih = ih (let a = ltb-true (total hs w) (total hs v) q in omega arith)
        go false q ih =
            let level : Level hears (at w) = still-level es w ok rs.0.only rs.0.each (ltb-false _ _ q) in
            stays-top ess v v-ok rs.1 x (there-run plan ready i n es w ok rs.0.only x (level-max w ok s st level k x t)).0

-- After any run in which every hub takes deltas only of those that it hears, none is restored and none removes node i, among the hubs hs: as many rounds as hubs times
-- (n + 1) * (n + 1), for the owner's max n, bring every hub that a way leads to from the owner to its max.
pub static-closes : (plan : Plan) → Ready plan → (i : ℕ) (hears : (x y : ℕ) → Type 0) (hs : List ℕ)
    → ((x y : ℕ) → hears x y → (x ∈ hs) × (y ∈ hs))
    → 0 < length hs
    → (es : List Event)
    → Local plan hears i es begin []
    → (ess : List (List Event))
    → Rounds plan (calm i) (Heard plan i) hears ess (after plan es begin)
    → LocalAll plan hears i ess (after plan es begin) (senders_in plan es begin [])
    → (p : Node)
    → node_of i ((after plan es begin).hubs (plan.owner i)) ≡ some p
    → length hs * (suc p.max * suc p.max) ≤ length ess
    → (k x : ℕ)
    → Steps hears (plan.owner i) k x
    → Closed plan i x (after_all plan ess (after plan es begin))
static-closes plan ready i hears hs within some-hub es l ess rs ls p held h k x t =
    let e = ends_at plan ready i n hears hs within ess w (senders_in plan es begin []) ok st rs ls (let a = few in omega arith) some-hub k x t in
    closed_of plan i x (after_all plan ess w) e.0.moment (e.1 ∙ sym e.0.size)
  where
    w : Net
    w = after plan es begin

    n : ℕ
    n = length (w.given i)

    ok : Known plan ready i n w
    ok = record { moment = moments plan ready es begin (moment-begin plan.owner); size = refl }

    few : length hs * (suc n * suc n) ≤ length ess
    few = subst (λ (m : ℕ). length hs * (suc m * suc m) ≤ length ess) (ap (λ (q : Node). q.max) (sym (ap or_fresh held)) ∙ owner-there plan ready i n w ok) h

    st : StaticIn plan ready i hears w (senders_in plan es begin [])
    st = static-run plan ready i hears es begin [] (moment-begin plan.owner) (static-begin plan ready i hears) l
