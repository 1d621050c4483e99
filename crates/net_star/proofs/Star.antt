-- The count of o's star: once o's nodes are no longer written and o removes nothing, as many whole exchanges of a follower with o as o holds records and nodes of its own make every max of
-- these nodes equal, whatever other followers do. It is demand 3's count (demand3: Closing), of several followers. Assumes nothing but that no hub is plain.
use Prim.Native.Nat.{◌<◌, ◌≤◌, suc, ℕ}
use mathlib.Core.Bool.{Bool, false, true}
use mathlib.Core.List.{List, [], ◌++◌, ◌∷◌}
use mathlib.Core.Path.{◌∙◌, ◌≡◌, ap, refl, subst, sym}
use native.Mathlib.Omega.{arith}
use lib.Dec.{eqb, leb}
use lib.ListN.{length}
use borrow.Author.Tests.{eq-eqb, eqb-true, leb-false, leb-true}
use Rattle.fields.proofs.Choice.{keep-from, keep-in}
use Rattle.fields.specs.Choice.{◌∈◌, here, later, pick}
use Rattle.rules.proofs.Calls.{node_in}
use Rattle.rules.proofs.Obeys.{number_in}
use Rattle.rules.proofs.Tables.{node-entry}
use Rattle.rules.specs.Node.{Node}
use Rattle.rules.specs.Table.{Entry, Table, node_of, numbers_of}
use Rattle.demand3.proofs.EachNode.{node_at, or_fresh}
use Rattle.demand3.proofs.Nearer.{sum, sum-le, sum_lt, sum-none, sum-some}
use Rattle.demand3.proofs.Needed.{needed, needed-most, needed-none, onward-needed, onward_then}
use Rattle.demand3.specs.Demand3.{holdings}
use Rattle.net.proofs.Moments.{Moment, moment-begin}
use Rattle.net.specs.Net.{Arriving, Event, Net, Plan, Ready, after, begin, happen}
use Rattle.net_closing.proofs.Calm.{after-append}
use Rattle.net_closing.proofs.Rounds.{closed_of, there-is}
use Rattle.net_closing.specs.Closing.{Closed, every}
use Rattle.net_star.proofs.Exchange.{one-falls}
use Rattle.net_star.proofs.Low.{Low, low-begin, low_run}
use Rattle.net_star.proofs.Quiet.{Further, Kept, Still, kept_run, star-append, still-append}
use Rattle.net_star.specs.Star.{Exchanges, Meets, in_star, no_more, once_more, own_part, owns, quiet_at}

-- one for each record and node
most : (g : ℕ → ℕ) (t : Table) → ((e : Entry) → e ∈ t → g e.number ≤ suc (length e.node.recs)) → sum g (numbers_of t) ≤ holdings t
unfolding sum holdings numbers_of
most g [] h = omega arith
most g (e ∷ t) h = let a = h e (here refl) in let b = most g t (λ x m. h x (later m)) in omega arith

-- from this moment on it is quiet
module _ (plan : Plan) (ready : Ready plan) (o : ℕ) (w₀ : Net) (ok₀ : Moment plan.owner w₀) (low₀ : Low plan ready o w₀) (x : ℕ) where
  -- o's nodes
  abbrev p : ℕ → Node
  p i = node_at i (w₀.hubs o)

  abbrev mine : Table
  mine = own_part plan.owner o (w₀.hubs o)

  abbrev Keeps : Net → Type 0
  Keeps w = Kept plan ready o p w

  kept₀ : Keeps w₀
  kept₀ = record { moment = ok₀; low = low₀; alike = λ i e. (refl, refl, refl) }

  -- what x still needs of a node, if it is o's
  lack_at : Net → ℕ → ℕ
  lack_at w i = pick (eqb (plan.owner i) o) (needed (p i) (node_at i (w.hubs x))) 0

  lack-own : (w : Net) (i : ℕ) → plan.owner i ≡ o → lack_at w i ≡ needed (p i) (node_at i (w.hubs x))
  unfolding lack_at
  lack-own w i e = ap (λ (b : Bool). pick b (needed (p i) (node_at i (w.hubs x))) 0) (eq-eqb (plan.owner i) o e)

  -- a node of which something is needed is o's
  lack-some : (w : Net) (i : ℕ) → 0 < lack_at w i → (plan.owner i ≡ o) × (0 < needed (p i) (node_at i (w.hubs x)))
  unfolding lack_at
  lack-some w i h = go (eqb (plan.owner i) o) refl h
    where
      go : (b : Bool) → eqb (plan.owner i) o ≡ b → 0 < pick b (needed (p i) (node_at i (w.hubs x))) 0 → (plan.owner i ≡ o) × (0 < needed (p i) (node_at i (w.hubs x)))
      go true q h = (eqb-true _ _ q, h)
      go false q h = absurd (omega arith)

  -- o's last_gc is within its max
  top : (i : ℕ) → plan.owner i ≡ o → (p i).last_gc ≤ (p i).max
  top i e =
      subst (λ (k : ℕ). (node_at i (w₀.hubs k)).last_gc ≤ (node_at i (w₀.hubs k)).max) e
      (let y = ok₀.owners i in let a = y.node.honest.gc_low in let b = y.top in omega arith)

  -- no more is needed than before
  stays : (w v : Net) → Further plan ready o p w v → (i : ℕ) → lack_at v i ≤ lack_at w i
  unfolding lack_at
  stays w v on i = go (eqb (plan.owner i) o) refl
    where
      go : (b : Bool) → eqb (plan.owner i) o ≡ b → pick b (needed (p i) (node_at i (v.hubs x))) 0 ≤ pick b (needed (p i) (node_at i (w.hubs x))) 0
      go true q = let e : plan.owner i ≡ o = eqb-true _ _ q in onward-needed (p i) (node_at i (w.hubs x)) (node_at i (v.hubs x)) (top i e) (on x i e)
      go false q = omega arith

  abbrev lacking : Net → ℕ
  lacking w = sum (lack_at w) (numbers_of mine)

  less : (w v : Net) → Further plan ready o p w v → lacking v ≤ lacking w
  less w v on = sum-le (lack_at v) (lack_at w) (numbers_of mine) (stays w v on)

  -- at first it is one for each record and node of o's own
  at_first : lacking w₀ ≤ holdings mine
  at_first = most (lack_at w₀) mine bound
    where
      bound : (e : Entry) → e ∈ mine → lack_at w₀ e.number ≤ suc (length e.node.recs)
      bound e m =
          let k = keep-from (owns plan.owner o) (w₀.hubs o) m in
          let a = lack-own w₀ e.number (eqb-true _ _ k.1) in
          let b = needed-most (p e.number) (node_at e.number (w₀.hubs x)) in
          let n : p e.number ≡ e.node = ap or_fresh (node-entry e (ok₀.tables o).obeyed.ascending k.0) in
          let c : length (p e.number).recs ≡ length e.node.recs = ap (λ (y : Node). length y.recs) n in
          omega arith

  -- a node of o's with a version is among them
  counted : (j : ℕ) → plan.owner j ≡ o → 0 < (p j).max → j ∈ numbers_of mine
  counted j e h =
      let y = node_in j (w₀.hubs o) (there-is (node_of j (w₀.hubs o)) 0 h) in
      subst (λ (k : ℕ). k ∈ numbers_of mine) (sym y.3) (number_in (keep-in (owns plan.owner o) y.1 (eq-eqb _ _ (ap plan.owner (sym y.3) ∙ e))))

  further_then : (w v n : Net) → Further plan ready o p w v → Further plan ready o p v n → Further plan ready o p w n
  further_then w v n a b y i e = onward_then (p i) (node_at i (w.hubs y)) (node_at i (v.hubs y)) (node_at i (n.hubs y)) (a y i e) (b y i e)

  -- ---- an exchange

  module _ (es : List Event) (w : Net) (ok : Keeps w) (still : Still plan ready o p es w) (s : Exchanges plan o x es w) where
    abbrev come : Event
    come = Arriving x s.which s.asked.now s.asked.answers

    abbrev u : Net
    u = after plan s.before w

    abbrev v : Net
    v = after plan s.waiting u

    abbrev t : Net
    t = after plan s.coming v

    abbrev then : Net
    then = happen plan come t

    parts : Still plan ready o p s.before w × Still plan ready o p (s.waiting ++ (s.coming ++ (come ∷ s.rest))) u
    parts = still-append plan ready o p s.before _ w (subst (λ (fs : List Event). Still plan ready o p fs w) s.is still)

    more : Still plan ready o p s.waiting u × Still plan ready o p (s.coming ++ (come ∷ s.rest)) v
    more = still-append plan ready o p s.waiting _ u parts.1

    most-of : Still plan ready o p s.coming v × Still plan ready o p (come ∷ s.rest) t
    most-of = still-append plan ready o p s.coming _ v more.1

    one_of : Still plan ready o p (come ∷ []) t × Still plan ready o p s.rest (after plan (come ∷ []) t)
    one_of = still-append plan ready o p (come ∷ []) s.rest t most-of.1

    ku : Keeps u × Further plan ready o p w u
    ku = kept_run plan ready o p s.before w ok parts.0

    kv : Keeps v × Further plan ready o p u v
    kv = kept_run plan ready o p s.waiting u ku.0 more.0

    kt : Keeps t × Further plan ready o p v t
    kt = kept_run plan ready o p s.coming v kv.0 most-of.0

    kthen : Keeps then × Further plan ready o p t then
    unfolding after
    kthen = kept_run plan ready o p (come ∷ []) t kt.0 one_of.0

    kend : Keeps (after plan s.rest then) × Further plan ready o p then (after plan s.rest then)
    unfolding after
    kend = kept_run plan ready o p s.rest then kthen.0 one_of.1

    ends : after plan es w ≡ after plan s.rest then
    unfolding after
    ends =
        ap (λ (fs : List Event). after plan fs w) s.is
        ∙ after-append plan s.before (s.waiting ++ (s.coming ++ (come ∷ s.rest))) w
        ∙ after-append plan s.waiting (s.coming ++ (come ∷ s.rest)) u
        ∙ after-append plan s.coming (come ∷ s.rest) v

    -- x needs less, if it needed anything when it wrote its digest
    falls : (k : ℕ) → lacking w ≤ suc k → lacking (after plan es w) ≤ k
    falls k h = subst (λ (n : Net). lacking n ≤ k) (sym ends) (go (leb 1 (lacking u)) refl)
      where
        u-then : Further plan ready o p u then
        u-then = further_then u t then (further_then u v t kv.1 kt.1) kthen.1

        go : (b : Bool) → leb 1 (lacking u) ≡ b → lacking (after plan s.rest then) ≤ k
        go true q =
            let i = sum-some (lack_at u) (numbers_of mine) (leb-true 1 (lacking u) q) in
            let n = lack-some u i.0 i.2 in
            let j = one-falls plan ready o p x u v t s.asked s.excluded s.which s.whole ku.0 kv.0 kt.0 (further_then u v t kv.1 kt.1) i.0 n.0 n.1 in
            let a = lack-own u j.0 j.1 in
            let b = lack-own then j.0 j.1 in
            let c = j.3 in
            let d : lacking then < lacking u = sum_lt (lack_at then) (lack_at u) (stays u then u-then) (counted j.0 j.1 j.2) (omega arith) in
            let e = less w u ku.1 in
            let f = less then (after plan s.rest then) kend.1 in
            omega arith
        go false q =
            let a = leb-false 1 (lacking u) q in
            let b = less u then u-then in
            let f = less then (after plan s.rest then) kend.1 in
            omega arith

  -- ---- all of them

  meets : (k : ℕ) (es : List Event) (w : Net) → Keeps w → Still plan ready o p es w → Meets plan o x k es w → lacking w ≤ k → Keeps (after plan es w) × (lacking (after plan es w) ≡ 0)
  meets k es w ok still (no_more es' w') h =
      let r = kept_run plan ready o p es w ok still in
      (r.0, let a = less w (after plan es w) r.1 in omega arith)
  meets k es w ok still (once_more l fs gs w' s rest) h =
      let a = still-append plan ready o p fs gs w still in
      let r = kept_run plan ready o p fs w ok a.0 in
      let m = meets l gs (after plan fs w) r.0 a.1 rest (falls fs w ok a.0 s l h) in
      subst (λ (n : Net). Keeps n × (lacking n ≡ 0)) (sym (after-append plan fs gs w)) m

  -- nothing is needed any more
  closes : (v : Net) → Keeps v → lacking v ≡ 0 → (i : ℕ) → plan.owner i ≡ o → Closed plan i x v
  closes v ok none-lacks i e = closed_of plan i x v ok.moment (let a = up in let b = ((ok.moment.tables x).honest i).honest.max-low in let c = level in let d = (ok.alike i e).0 in omega arith)
    where
      level : (node_at i (v.hubs o)).max ≡ length (v.given i)
      level = subst (λ (k : ℕ). (node_at i (v.hubs k)).max ≡ length (v.given i)) e (ok.moment.owners i).top

      up : (p i).max ≤ (node_at i (v.hubs x)).max
      up = go (leb 1 (p i).max) refl
        where
          go : (b : Bool) → leb 1 (p i).max ≡ b → (p i).max ≤ (node_at i (v.hubs x)).max
          go true q = needed-none (p i) (node_at i (v.hubs x)) (sym (lack-own v i e) ∙ sum-none (lack_at v) none-lacks (counted i e (leb-true 1 (p i).max q)))
          go false q = let a = leb-false 1 (p i).max q in omega arith

-- ---- the theorem

-- Where no hub is plain, after any run es in o's star: in a run fs that is quiet, with k whole exchanges of hub x with o, k being no less than the records and nodes of its own that o then
-- holds, every node of o's is at o's max at x, and demand 3's claims hold between them.
pub star-closes : (plan : Plan) → Ready plan → (o : ℕ) (es fs : List Event)
    → in_star plan o (es ++ fs) begin ≡ true
    → every (quiet_at plan.owner o) fs ≡ true
    → (x k : ℕ)
    → holdings (own_part plan.owner o ((after plan es begin).hubs o)) ≤ k
    → Meets plan o x k fs (after plan es begin)
    → (i : ℕ)
    → plan.owner i ≡ o
    → Closed plan i x (after plan (es ++ fs) begin)
star-closes plan ready o es fs star quiet x k count m i e =
    subst (Closed plan i x) (sym (after-append plan es fs begin))
    (let r = meets plan ready o w low.0 low.1 x k fs w (kept₀ plan ready o w low.0 low.1 x) (both.1, quiet) m (let a = at_first plan ready o w low.0 low.1 x in omega arith) in
    closes plan ready o w low.0 low.1 x (after plan fs w) r.0 r.1 i e)
  where
    w : Net
    w = after plan es begin

    both : (in_star plan o es begin ≡ true) × (in_star plan o fs w ≡ true)
    both = star-append plan o es fs begin star

    low : Moment plan.owner w × Low plan ready o w
    low = low_run plan ready o es begin (moment-begin plan.owner) (low-begin plan ready o) both.0
