-- While a max differs a planner can go on: a plan of one line is accepted, under any MTU from 135 on. So who plans never has to wait, and comes to the end. Assumes nothing.
use Prim.Native.Nat.{◌<◌, ◌≤◌, ℕ}
use mathlib.Core.Bool.{Bool, false, true}
use mathlib.Core.List.{List, [], ◌∷◌}
use mathlib.Core.Option.{Option, some}
use mathlib.Core.Path.{◌≡◌, ap, refl, subst, sym}
use native.Mathlib.Omega.{arith}
use Rattle.fields.specs.Choice.{◌∈◌, here}
use Rattle.rules.proofs.Obeys.{number_in}
use Rattle.rules.proofs.Tables.{node-there}
use Rattle.rules.specs.Apply.{Lawful, Ways}
use Rattle.rules.specs.Delta.{NodeDelta}
use Rattle.rules.specs.Digest.{NodeDigest, digest_of}
use Rattle.rules.specs.Node.{Node}
use Rattle.rules.specs.Table.{Table, node_of, numbers_of, obeys}
use Rattle.plan.proofs.Can.{one_line}
use Rattle.plan.proofs.Sent.{planned-some}
use Rattle.plan.specs.Plan.{accepts}
use Rattle.demand3.proofs.Demand3.{sound}
use Rattle.demand3.proofs.EachNode.{or_fresh}
use Rattle.demand3.proofs.Nearer.{told-held}
use Rattle.demand3.proofs.OnTheWay.{PartFor}
use Rattle.demand3.proofs.Planned.{planned-for}
use Rattle.demand3.specs.Demand3.{SameMax, least_width}
use Rattle.demand3.specs.World.{Event, World, after, fresh_table, start}

-- for the follower's own digest, which leaves nothing out
pub behind-can : (mtu : ℕ) → least_width ≤ mtu → (p f : Table) → obeys p ≡ true → (i : ℕ) (a b : Node) → node_of i p ≡ some a → node_of i f ≡ some b → b.max < a.max → (c : ℕ) × (accepts [] (i ∷ []) (c ∷ []) mtu (digest_of [] f) p ≡ true)
behind-can mtu wide p f ok i a b x y late =
    one_line mtu wide (digest_of [] f) p ok i a x (let e = ap (λ (d : NodeDigest). d.max) (told-held i f b y) in omega arith)

-- at every moment of every run, for each node whose max differs
pub planner-can : (ways : Ways) → Lawful ways → (is : List ℕ) → obeys (fresh_table is) ≡ true → (es : List Event)
    → let w = after ways es (start is) in (i : ℕ) (a b : Node)
    → node_of i w.publisher ≡ some a
    → node_of i w.follower ≡ some b
    → (b.max ≡ a.max → ⊥)
    → (mtu : ℕ)
    → least_width ≤ mtu
    → (c : ℕ) × (accepts [] (i ∷ []) (c ∷ []) mtu (digest_of [] w.follower) w.publisher ≡ true)
planner-can ways law is ok es i a b x y other mtu wide =
    let w : World = after ways es (start is) in
    let s = sound ways law is ok es in
    let low = (s.claims i a b x y).never_ahead in
    behind-can mtu wide w.publisher w.follower s.publisher_obeys i a b x y (omega arith)

-- Once every max is equal no node can be named: of all plans only the empty one is accepted.
module _ (excluded : List ℕ) (i : ℕ) (nodes counts : List ℕ) (mtu : ℕ) (p f : Table) (ok : obeys p ≡ true) (alike : numbers_of p ≡ numbers_of f) (same : SameMax p f) where
  pub nothing_left : accepts excluded (i ∷ nodes) counts mtu (digest_of [] f) p ≡ false
  nothing_left = go (accepts excluded (i ∷ nodes) counts mtu (digest_of [] f) p) refl
    where
      up-to-date : (d : NodeDelta) → PartFor excluded (digest_of [] f) p i d → ⊥
      up-to-date d x =
          let there : i ∈ numbers_of p = subst (λ (j : ℕ). j ∈ numbers_of p) (sym x.held.2) (number_in x.held.1) in
          let a = node-there i p there in
          let b = node-there i f (subst (λ (l : List ℕ). i ∈ l) alike there) in
          let told = ap (λ (y : NodeDigest). y.max) (told-held i f b.0 b.1) in
          let own = ap (λ (o : Option Node). (or_fresh o).max) a.1 in
          let e = same i a.0 b.0 a.1 b.1 in
          let late = x.behind in
          omega arith

      go : (y : Bool) → accepts excluded (i ∷ nodes) counts mtu (digest_of [] f) p ≡ y → y ≡ false
      go false q = refl
      go true q =
          let x = planned-some excluded (i ∷ nodes) counts mtu (digest_of [] f) p ok q i (here refl) in
          absurd (up-to-date x.0 (planned-for excluded (i ∷ nodes) counts mtu (digest_of [] f) p ok q i x.0 x.1))
