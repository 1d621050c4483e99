-- Guarded nets in which exchanges cross: a hub that has two of them, one behind the other, with a hub that was fed before, is at the owner's max at the end. Each is applied to a node whose max is not below
-- what its digest told.
use Prim.Native.Nat.{◌<◌, ◌≤◌, max, ℕ}
use mathlib.Core.Bool.{Bool, false, true}
use mathlib.Core.List.{List, [], ◌++◌, ◌∷◌}
use mathlib.Core.Option.{some}
use mathlib.Core.Path.{◌∙◌, ◌≡◌, ap, refl, subst, sym}
use native.Mathlib.Omega.{arith}
use lib.Dec.{leb, ltb}
use lib.ListN.{length}
use borrow.Author.Tests.{eq-eqb, leb-false, leb-true, ltb-false, ltb-true}
use Rattle.fields.proofs.Choice.{and_left, and_right}
use Rattle.fields.specs.Choice.{◌∈◌}
use Rattle.rules.proofs.Obeys.{facts-table}
use Rattle.rules.proofs.Records.{gc-rises}
use Rattle.rules.proofs.Sending.{node_delta}
use Rattle.rules.proofs.Taking.{Came, FromOf, came, from-of, left, no-reset, reset, reset_due, status-apply, status-old, status-reset, taken-node, took}
use Rattle.rules.specs.Apply.{Ways, apply, apply_node, delta_status, outcome}
use Rattle.rules.specs.Compute.{stale}
use Rattle.rules.specs.Delta.{NodeDelta, delta_bytes}
use Rattle.rules.specs.Node.{KeyValue, Node, Rec, remove}
use Rattle.rules.specs.Table.{node_of, obeys}
use Rattle.rules.specs.declared.DeltaStatus.{DeltaStatus}
use Rattle.rules.specs.declared.DeltaStatus.TheVariants.{Apply, ApplyAfterReset, Reject}
use Rattle.rules.specs.declared.NodeAnswer.TheVariants as node
use Rattle.demand3.proofs.EachNode.{node_at, or_fresh}
use Rattle.demand3.proofs.Honest.{HonestNode}
use Rattle.demand3.proofs.Publisher.{Publisher}
use Rattle.demand3.specs.World.{Exchange, Which, applied_to}
use Rattle.net.proofs.Moments.{Ends, moment-begin, moments}
use Rattle.net.specs.Net.{Arriving, Event, Net, Plan, Ready, after, begin, happen}
use Rattle.net_closing.proofs.Calm.{Onward, after-append, beats, calm-given, every_append, onward, removes, stays, takes}
use Rattle.net_closing.proofs.Exchange.{part-made, taken-part}
use Rattle.net_closing.proofs.Node.{above, complete, from_is, from_low, gc_is, reaches}
use Rattle.net_closing.proofs.Rounds.{Known, Near, There, closed_of, known-event, known-run, near-event, near-run, owner-there, there-event, there-is, there-run}
use Rattle.net_closing.specs.Closing.{Across, Asked, Closed, Crosses, FedIn, Least, PartIn, before_this, by_both, calm, every, from-here, ops_across}

-- ---- the node

-- how far it has got does not fall
far-onward : (ways : Ways) (h : List KeyValue) (a b : Node) → Onward ways h a b → max a.last_gc a.max ≤ max b.last_gc b.max
unfolding remove outcome
far-onward ways h a b stays = omega arith
far-onward ways h a b (removes due) = let c = gc-rises due a.last_gc a.recs in omega arith
far-onward ways h a b (beats t) = omega arith
far-onward ways h a b (takes now d x) = go _ (came ways now d a)
  where
    go : (n : Node) → Came ways now d a n → max a.last_gc a.max ≤ max n.last_gc n.max
    go n left = omega arith
    go n (reset r) = let c = r.above_gc in let e = r.above_max in omega arith
    go n (took r) = let c = r.newer in omega arith

-- y made d for x's pair as it was told; x is z now, not below that and as far
module _ (ways : Ways) (least : Least ways) (h : List KeyValue) (ends : Ends h) (p y x z : Node) (own : Publisher h p) (y-ok : HonestNode h y) (there : y.max ≡ p.max) (x-ok : HonestNode h x) (z-ok : HonestNode h z)
    (late : x.max < y.max) (now count : ℕ) (fits : Bool) (d : NodeDelta) (is : d ≡ node_delta y x.last_gc x.max count fits) (all_come : length d.recs ≡ length (stale d.from y.recs))
    (some-come : 0 < d.max) (roomy : (apply_node ways now d z).answer ≡ node.Room → ⊥) (up : x.max ≤ z.max) (far : max x.last_gc x.max ≤ max z.last_gc z.max) where
  abbrev n : Node
  n = (apply_node ways now d z).node

  abbrev gc : d.last_gc ≡ y.last_gc
  gc = gc_is ways least h ends p y x own y-ok there x-ok late now count fits d is all_come some-come

  abbrev reach : y.max ≤ max y.last_gc d.max
  reach = reaches ways least h ends p y x own y-ok there x-ok late now count fits d is all_come some-come

  lets : ways.fence z.last_gc z.max d.last_gc d.max ≡ false
  lets = least z.last_gc z.max d.last_gc d.max (let a = z-ok.honest.gc_low in let b = own.top in let c = reach in let e = gc in omega arith)

  from-low-z : d.from ≤ z.max
  from-low-z =
      let a = from_low ways least h ends p y x own y-ok there x-ok late now count fits d is all_come some-come in
      let b = from_is ways least h ends p y x own y-ok there x-ok late now count fits d is all_come some-come in
      omega arith

  is-now : (v : DeltaStatus) → delta_status ways.fence z d ≡ v → n ≡ outcome v now d z
  is-now v e = taken-node ways now d z roomy ∙ ap (λ (k : DeltaStatus). outcome k now d z) e

  abbrev Good : Node → Type 0
  Good k = (length h ≤ max k.last_gc k.max) × ((r : Rec) → r ∈ y.recs → r.kv.version ≤ k.max)

  below : (r : Rec) → r ∈ y.recs → r.kv.version ≤ d.max
  below = above ways least h ends p y x own y-ok there x-ok late now count fits d is all_come some-come

  -- the first of two
  pub first-across : Good n
  unfolding outcome
  first-across = go (leb d.last_gc (max z.last_gc z.max)) refl (leb d.max z.max) refl
    where
      from-none : max z.last_gc z.max < d.last_gc → d.from ≡ 0
      from-none b = from_is ways least h ends p y x own y-ok there x-ok late now count fits d is all_come some-come ∙ at _ (from-of y x.last_gc x.max)
        where
          at : (k : ℕ) → FromOf y x.last_gc x.max k → k ≡ 0
          at k (reset_due a c) = refl
          at k (no-reset a) = let e = gc in absurd (omega arith)

      go : (a : Bool) → leb d.last_gc (max z.last_gc z.max) ≡ a → (b : Bool) → leb d.max z.max ≡ b → Good n
      go true e true f =
          let i : d.last_gc ≤ max z.last_gc z.max = leb-true _ _ e in
          let j : d.max ≤ z.max = leb-true _ _ f in
          let k = is-now Reject (status-old ways.fence z d lets from-low-z i j) in
          subst Good (sym k) (let a = reach in let b = own.top in let c = gc in omega arith, λ r m. let a = below r m in omega arith)
      go true e false f =
          let i : d.last_gc ≤ max z.last_gc z.max = leb-true _ _ e in
          let j : z.max < d.max = leb-false _ _ f in
          let k = is-now Apply (status-apply ways.fence z d lets from-low-z i j) in
          subst Good (sym k) (let a = reach in let b = own.top in let c = gc in omega arith, λ r m. below r m)
      go false e b f =
          let i : max z.last_gc z.max < d.last_gc = leb-false _ _ e in
          let k = is-now ApplyAfterReset (status-reset ways.fence z d lets (from-none i) (omega arith) (omega arith)) in
          subst Good (sym k) (let a = reach in let b = own.top in let c = gc in omega arith, λ r m. below r m)

  -- and the second
  pub second-across : length h ≤ max x.last_gc x.max → ((r : Rec) → r ∈ y.recs → r.kv.version ≤ x.max) → n.max ≡ y.max
  unfolding outcome
  second-across near under = go (leb d.max z.max) refl
    where
      whole : d.max ≡ y.max
      whole = complete ways least h ends p y x own y-ok there x-ok late now count fits d is all_come some-come near under

      high : d.last_gc ≤ max z.last_gc z.max
      high = let a = y-ok.honest.gc_low in let b = gc in omega arith

      go : (b : Bool) → leb d.max z.max ≡ b → n.max ≡ y.max
      go true f =
          let j : d.max ≤ z.max = leb-true _ _ f in
          let k = ap (λ (u : Node). u.max) (is-now Reject (status-old ways.fence z d lets from-low-z high j)) in
          let a = z-ok.honest.max-low in
          let b = own.top in
          let c = whole in
          omega arith
      go false f =
          let j : z.max < d.max = leb-false _ _ f in
          ap (λ (u : Node). u.max) (is-now Apply (status-apply ways.fence z d lets from-low-z high j)) ∙ whole

-- ---- the net

module _ (plan : Plan) (ready : Ready plan) (i n : ℕ) where
  far-run : (es : List Event) (w : Net) → Known plan ready i n w → every (calm i) es ≡ true → (x : ℕ) → max (node_at i (w.hubs x)).last_gc (node_at i (w.hubs x)).max ≤ max (node_at i ((after plan es w).hubs x)).last_gc (node_at i ((after plan es w).hubs x)).max
  unfolding after every
  far-run [] w ok c x = omega arith
  far-run (e ∷ es) w ok c x =
      let a = far-onward (plan.ways x) (w.given i) (node_at i (w.hubs x)) (node_at i ((happen plan e w).hubs x)) (onward plan ready i w ok.moment e (and_left (calm i e) _ c) x) in
      let b = far-run es (happen plan e w) (known-event plan ready i n w ok e (and_left (calm i e) _ c)) (and_right (calm i e) _ c) x in
      omega arith

  run-given : (es : List Event) (w : Net) → Known plan ready i n w → every (calm i) es ≡ true → (after plan es w).given i ≡ w.given i
  unfolding after every
  run-given [] w ok c = refl
  run-given (e ∷ es) w ok c =
      run-given es (happen plan e w) (known-event plan ready i n w ok e (and_left (calm i e) _ c)) (and_right (calm i e) _ c) ∙ calm-given plan ready i w ok.moment e (and_left (calm i e) _ c)

  module _ (least : (x : ℕ) → Least (plan.ways x)) (x y : ℕ) where
    -- the moments of an exchange: the digest, the computing, the arriving
    module _ (u : Net) (ok : Known plan ready i n u) (waiting coming : List Event) (c : every (calm i) waiting ≡ true) (d : every (calm i) coming ≡ true) (q : Asked) (which : Which) where
      abbrev v : Net
      v = after plan waiting u

      abbrev w : Net
      w = after plan coming v

      abbrev last : Event
      last = Arriving x which q.now q.answers

      v-ok : Known plan ready i n v
      v-ok = known-run plan ready i n waiting u ok c

      w-ok : Known plan ready i n w
      w-ok = known-run plan ready i n coming v v-ok d

      module _ (s : Across plan i x y u v w q which) where
        obeyed : (z : Net) → Known plan ready i n z → (k : ℕ) → obeys (z.hubs k) ≡ true
        obeyed z z-ok k = facts-table (z.hubs k) (z-ok.moment.tables k).obeyed

        honest : (z : Net) → Known plan ready i n z → (k : ℕ) → HonestNode (z.given i) (node_at i (z.hubs k))
        honest z z-ok k = (z-ok.moment.tables k).honest i

        told_is : s.told ≡ node_at i (u.hubs x)
        told_is = sym (ap or_fresh s.had)

        node_is : s.node ≡ node_at i (w.hubs x)
        node_is = sym (ap or_fresh s.has)

        after-x : node_at i ((happen plan last w).hubs x) ≡ node_at i (apply (plan.ways x) (delta_bytes (ops_across q x y u v)) q.now (w.hubs x) q.answers).table
        unfolding happen
        after-x = rw (s.clock, eq-eqb x x refl) (ap (λ (e : Exchange). node_at i (applied_to (plan.ways x) q.now q.answers e (w.hubs x))) s.comes)

        module _ (there : There plan ready i n y v) (late : (node_at i (u.hubs x)).max < (node_at i (v.hubs y)).max) where
          y-has : node_of i (v.hubs y) ≡ some (node_at i (v.hubs y))
          y-has = there-is (node_of i (v.hubs y)) (node_at i (u.hubs x)).max late

          got : (d : NodeDelta) × PartIn (ops_across q x y u v) i d × (0 < d.max)
          got = s.brings (node_at i (v.hubs y)) y-has (subst (λ (k : Node). k.max < (node_at i (v.hubs y)).max) (sym told_is) late)

          made : (count : ℕ) × (fits : Bool) × (got.0 ≡ node_delta (node_at i (v.hubs y)) (node_at i (u.hubs x)).last_gc (node_at i (u.hubs x)).max count fits)
          made =
              subst (λ (k : Node). (count : ℕ) × (fits : Bool) × (got.0 ≡ node_delta (node_at i (v.hubs y)) k.last_gc k.max count fits)) told_is
              (part-made (plan.ways x) (ready.lawful x) (u.hubs x) (v.hubs y) (w.hubs x) (obeyed u ok x) (obeyed v v-ok y) i q s.wrote s.told s.had got.0 got.1)

          taken : (node_at i ((happen plan last w).hubs x) ≡ (apply_node (plan.ways x) q.now got.0 (node_at i (w.hubs x))).node) × ((apply_node (plan.ways x) q.now got.0 (node_at i (w.hubs x))).answer ≡ node.Room → ⊥)
          taken =
              let r = taken-part (plan.ways x) (ready.lawful x) (u.hubs x) (v.hubs y) (w.hubs x) (obeyed u ok x) (obeyed v v-ok y) i q s.wrote s.clock s.roomy s.node s.has got.0 got.1 in (
                after-x ∙ r.0 ∙ ap (λ (k : Node). (apply_node (plan.ways x) q.now got.0 k).node) node_is,
                subst (λ (k : Node). (apply_node (plan.ways x) q.now got.0 k).answer ≡ node.Room → ⊥) node_is r.1,
              )

          whole : length got.0.recs ≡ length (stale got.0.from (node_at i (v.hubs y)).recs)
          whole = s.uncut (node_at i (v.hubs y)) y-has got.0 got.1

          up : (node_at i (u.hubs x)).max ≤ (node_at i (w.hubs x)).max
          up = let a = ap (λ (k : Node). k.max) told_is in let b = ap (λ (k : Node). k.max) node_is in let e = s.not-below in omega arith

          far : max (node_at i (u.hubs x)).last_gc (node_at i (u.hubs x)).max ≤ max (node_at i (w.hubs x)).last_gc (node_at i (w.hubs x)).max
          far = let a = far-run waiting u ok c x in let b = far-run coming v v-ok d x in omega arith

          -- all by one history
          h-is : (z : Net) → Known plan ready i n z → z.given i ≡ w.given i → (k : ℕ) → HonestNode (w.given i) (node_at i (z.hubs k))
          h-is z z-ok e k = subst (λ (g : List KeyValue). HonestNode g (node_at i (z.hubs k))) e (honest z z-ok k)

          module _ (uw : u.given i ≡ w.given i) (vw : v.given i ≡ w.given i) where
            owner-max : (node_at i (v.hubs y)).max ≡ (node_at i (w.hubs (plan.owner i))).max
            owner-max = there ∙ sym (owner-there plan ready i n w w-ok)

            first : (length (w.given i) ≤ max (node_at i ((happen plan last w).hubs x)).last_gc (node_at i ((happen plan last w).hubs x)).max) × ((r : Rec) → r ∈ (node_at i (v.hubs y)).recs → r.kv.version ≤ (node_at i ((happen plan last w).hubs x)).max)
            first =
                subst (λ (k : Node). (length (w.given i) ≤ max k.last_gc k.max) × ((r : Rec) → r ∈ (node_at i (v.hubs y)).recs → r.kv.version ≤ k.max)) (sym taken.0)
                (first-across (plan.ways x) (least x) (w.given i) (w-ok.moment.ends i) (node_at i (w.hubs (plan.owner i))) (node_at i (v.hubs y)) (node_at i (u.hubs x)) (node_at i (w.hubs x))
                (w-ok.moment.owners i) (h-is v v-ok vw y) owner-max (h-is u ok uw x) (honest w w-ok x) late q.now made.0 made.1 got.0 made.2 whole got.2 taken.1 up far)

            second : n ≤ max (node_at i (u.hubs x)).last_gc (node_at i (u.hubs x)).max → ((r : Rec) → r ∈ (node_at i (v.hubs y)).recs → r.kv.version ≤ (node_at i (u.hubs x)).max) → (node_at i ((happen plan last w).hubs x)).max ≡ n
            second near under =
                ap (λ (k : Node). k.max) taken.0
                ∙ second-across (plan.ways x) (least x) (w.given i) (w-ok.moment.ends i) (node_at i (w.hubs (plan.owner i))) (node_at i (v.hubs y)) (node_at i (u.hubs x)) (node_at i (w.hubs x))
                (w-ok.moment.owners i) (h-is v v-ok vw y) owner-max (h-is u ok uw x) (honest w w-ok x) late q.now made.0 made.1 got.0 made.2 whole got.2 taken.1 up far
                (let a = w-ok.size in omega arith) under
                ∙ there

        -- what was given is the same at the three moments
        given-v : v.given i ≡ w.given i
        given-v = sym (run-given coming v v-ok d)

        given-u : u.given i ≡ w.given i
        given-u = sym (run-given waiting u ok c) ∙ given-v

        once-across : There plan ready i n y u → Near plan ready i n x y (happen plan last w)
        once-across t = go (ltb (node_at i (u.hubs x)).max (node_at i (v.hubs y)).max) refl
          where
            tv : There plan ready i n y v
            tv = (there-run plan ready i n waiting u ok c y t).0

            to_last : There plan ready i n y (happen plan last w) × ((r : Rec) → r ∈ (node_at i ((happen plan last w).hubs y)).recs → r ∈ (node_at i (v.hubs y)).recs)
            to_last =
                let a = there-run plan ready i n coming v v-ok d y tv in
                let b = there-event plan ready i n w w-ok last refl y a.0 in
                (b.0, λ r m. a.1 r (b.1 r m))

            near_last : Near plan ready i n x y w → Near plan ready i n x y (happen plan last w)
            near_last a = near-event plan ready i n w w-ok last refl x y a

            go : (b : Bool) → ltb (node_at i (u.hubs x)).max (node_at i (v.hubs y)).max ≡ b → Near plan ready i n x y (happen plan last w)
            go true e =
                let f = first tv (ltb-true _ _ e) given-u given-v in
                record { there = to_last.0; no-reset = let a = f.0 in let b = w-ok.size in omega arith; all-below = λ r m. f.1 r (to_last.1 r m) }
            go false e =
                let l = ltb-false (node_at i (u.hubs x)).max (node_at i (v.hubs y)).max e in
                near_last
                (near-run plan ready i n coming v v-ok d x y
                (near-run plan ready i n waiting u ok c x y
                (record { there = t; no-reset = let f = tv in omega arith; all-below = λ r m. let z = (honest u ok y).honest.within r.kv (r, m, refl) in let f = tv in let g = t in omega arith })))

        twice-across : Near plan ready i n x y u → There plan ready i n x (happen plan last w)
        twice-across a = go (ltb (node_at i (u.hubs x)).max (node_at i (v.hubs y)).max) refl
          where
            tv : There plan ready i n y v × ((r : Rec) → r ∈ (node_at i (v.hubs y)).recs → r ∈ (node_at i (u.hubs y)).recs)
            tv = there-run plan ready i n waiting u ok c y a.there

            go : (b : Bool) → ltb (node_at i (u.hubs x)).max (node_at i (v.hubs y)).max ≡ b → There plan ready i n x (happen plan last w)
            go true e = second tv.0 (ltb-true _ _ e) given-u given-v a.no-reset (λ r m. a.all-below r (tv.1 r m))
            go false e =
                let l = ltb-false (node_at i (u.hubs x)).max (node_at i (v.hubs y)).max e in
                let k = (honest u ok x).honest.max-low in
                let z = ok.size in
                let t : There plan ready i n x u = (let f = tv.0 in omega arith) in
                (there-event plan ready i n w w-ok last refl x (there-run plan ready i n coming v v-ok d x (there-run plan ready i n waiting u ok c x t).0).0).0

    -- ---- in a run

    module _ (es : List Event) (w : Net) (ok : Known plan ready i n w) (c : every (calm i) es ≡ true) (s : Crosses plan i x y es w) where
      abbrev last_of : Event
      last_of = Arriving x s.which s.asked.now s.asked.answers

      abbrev u₀ : Net
      u₀ = after plan s.before w

      one : (every (calm i) s.before ≡ true) × (every (calm i) (s.waiting ++ (s.coming ++ (last_of ∷ s.rest))) ≡ true)
      one = every_append (calm i) s.before _ (subst (λ (fs : List Event). every (calm i) fs ≡ true) s.is c)

      two : (every (calm i) s.waiting ≡ true) × (every (calm i) (s.coming ++ (last_of ∷ s.rest)) ≡ true)
      two = every_append (calm i) s.waiting _ one.1

      three : (every (calm i) s.coming ≡ true) × (every (calm i) (last_of ∷ s.rest) ≡ true)
      three = every_append (calm i) s.coming _ two.1

      calm-rest : every (calm i) s.rest ≡ true
      unfolding every
      calm-rest = three.1

      u-ok : Known plan ready i n u₀
      u-ok = known-run plan ready i n s.before w ok one.0

      abbrev w₀ : Net
      w₀ = after plan s.coming (after plan s.waiting u₀)

      after-all : after plan es w ≡ after plan s.rest (happen plan last_of w₀)
      unfolding after
      after-all =
          ap (λ (fs : List Event). after plan fs w) s.is
          ∙ after-append plan s.before (s.waiting ++ (s.coming ++ (last_of ∷ s.rest))) w
          ∙ after-append plan s.waiting (s.coming ++ (last_of ∷ s.rest)) u₀
          ∙ after-append plan s.coming (last_of ∷ s.rest) (after plan s.waiting u₀)

      end-ok : Known plan ready i n (happen plan last_of w₀)
      end-ok = known-event plan ready i n w₀ (w-ok u₀ u-ok s.waiting s.coming two.0 three.0 s.asked s.which) last_of refl

      pub crosses-once : There plan ready i n y w → Near plan ready i n x y (after plan es w)
      crosses-once t =
          subst (Near plan ready i n x y) (sym after-all)
          (near-run plan ready i n s.rest (happen plan last_of w₀) end-ok calm-rest x y
          (once-across u₀ u-ok s.waiting s.coming two.0 three.0 s.asked s.which s.so_heard (there-run plan ready i n s.before w ok one.0 y t).0))

      pub crosses-twice : Near plan ready i n x y w → There plan ready i n x (after plan es w)
      crosses-twice a =
          subst (There plan ready i n x) (sym after-all)
          (there-run plan ready i n s.rest (happen plan last_of w₀) end-ok calm-rest x
          (twice-across u₀ u-ok s.waiting s.coming two.0 three.0 s.asked s.which s.so_heard (near-run plan ready i n s.before w ok one.0 x y a))).0

  fed-in : ((x : ℕ) → Least (plan.ways x)) → (w : Net) → Known plan ready i n w → (x : ℕ) (es : List Event) → FedIn plan i (plan.owner i) w x es → every (calm i) es ≡ true → There plan ready i n x (after plan es w)
  fed-in least w ok x es (from-here fs) c = (there-run plan ready i n es w ok c x (owner-there plan ready i n w ok)).0
  fed-in least w ok x all (before_this z es fs f) c =
      let p = every_append (calm i) es fs c in
      subst (There plan ready i n x) (sym (after-append plan es fs w)) (there-run plan ready i n fs (after plan es w) (known-run plan ready i n es w ok p.0) p.1 x (fed-in least w ok x es f p.0)).0
  fed-in least w ok x all (by_both z y es fs gs f a b) c =
      let p = every_append (calm i) es (fs ++ gs) c in
      let q = every_append (calm i) fs gs p.1 in
      let v : Net = after plan es w in
      let v-known = known-run plan ready i n es w ok p.0 in
      let t = fed-in least w ok y es f p.0 in
      let near = crosses-once least x y fs v v-known q.0 a t in
      subst (There plan ready i n x) (sym (after-append plan es (fs ++ gs) w ∙ after-append plan fs gs v))
      (crosses-twice least x y gs (after plan fs v) (known-run plan ready i n fs v v-known q.0) q.1 b near)

-- After any run: whoever is fed by the run that follows, in which exchanges may cross, is at the owner's max at its end, and holds what the owner does.
pub crossing-closes : (plan : Plan) → Ready plan → ((x : ℕ) → Least (plan.ways x)) → (es : List Event) (i : ℕ) (fs : List Event)
    → every (calm i) fs ≡ true
    → (x : ℕ)
    → FedIn plan i (plan.owner i) (after plan es begin) x fs
    → Closed plan i x (after plan fs (after plan es begin))
crossing-closes plan ready least es i fs c x f =
    let k = known-run plan ready i n fs w ok c in
    closed_of plan i x (after plan fs w) k.moment (fed-in plan ready i n least w ok x fs f c ∙ sym k.size)
  where
    w : Net
    w = after plan es begin

    n : ℕ
    n = length (w.given i)

    ok : Known plan ready i n w
    ok = record { moment = moments plan ready es begin (moment-begin plan.owner); size = refl }
