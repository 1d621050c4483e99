-- `delta_read::read_heads` meets its contract: what is left to be read has the whole's answer, and brings the rest of the last node delta. Assumes nothing.
use Prim.Native.Nat.{ℕ, ◌-◌, ◌≤◌, ◌<◌}
use mathlib.Core.Path.{◌≡◌, refl, ap, sym, ◌∙◌}
use mathlib.Core.List.{List}
use native.Mathlib.Omega.{arith}
use Rattle.std.specs.Prelude.{Ok, Result}
use Rattle.delta_follow.specs.declared.Followed.{Followed}
use Rattle.delta_follow.specs.declared.Followed.TheVariants.{Entered}
use Rattle.delta_follow.specs.Following.{follow_at}
use Rattle.delta_op.specs.declared.Op.{Op}
use Rattle.rules.specs.declared.Refusal.{Refusal}
use Rattle.delta_op.specs.Places.{op_at}
use Rattle.delta_op.proofs.Reading.{ends}
use Rattle.delta_read.proofs.Counted.{too_long, start, done, bad, fault, on-new, on-under}
use Rattle.delta_read.proofs.Following.{entered}
use Rattle.delta_read.proofs.NodeDeltas.{gathering-first, gathering-entered, gathering-under, gathered_none, gathered}
use Rattle.delta_read.proofs.read_heads.Goals.{in-Entered, in-Under}
use Rattle.delta_read.proofs.read_heads.Goals as goal

-- the last node delta before it has a place
last-below : (nodes last : ℕ) → nodes ≤ 8 → last ≡ nodes - 1 → last < 8
last-below nodes last p q = omega arith

-- the operation may follow, and what it leaves is this
leaves : {a r : Result Followed Refusal} {f g : Followed} → r ≡ a → r ≡ Ok f → f ≡ g → a ≡ Ok g
leaves p q e = sym p ∙ q ∙ ap (λ (x : Followed). Ok x) e

-- a node that enters has a place
has-place : (s seen : List ℕ) (nodes running n : ℕ) (o : Op) {r : Result Followed Refusal} {f : Followed} → r ≡ follow_at nodes seen running o → r ≡ Ok f → f ≡ Entered n
    → nodes < 8
has-place s seen nodes running n o p q e = (entered s nodes seen running o n (leaves p q e)).1

pub returns-then-delta-gt-LONGEST_DELTA : goal.returns-then-delta-gt-LONGEST_DELTA
returns-then-delta-gt-LONGEST_DELTA c =
    let e = too_long _ c.if-delta-gt-LONGEST_DELTA.true in
    let r = c.refused.ensures in
    (r.0 ∙ e, gathered_none _ _ _ _ r.1 r.2 r.3 _ _ e)

pub loop-at-init : goal.loop-at-init
loop-at-init c =
    let l : List ℕ = c.args.delta.now in
    ((omega arith, omega arith, omega arith, refl, start l _ (omega arith)), gathering-first l _ _ _ _ _ refl refl refl, omega arith, omega arith)

pub returns-in-Err : goal.returns-in-Err
returns-in-Err c =
    let e = bad _ _ _ _ _ _ c.loop-at.invariant.0.4 c.loop-at-test.true _
    (sym c.read_op.ensures ∙ c.in-Err.is) in
    let r = c.refused-in-Err.ensures in
    (r.0 ∙ e, gathered_none _ _ _ _ r.1 r.2 r.3 _ _ e)

pub returns-in-Err-follow : goal.returns-in-Err-follow
returns-in-Err-follow c =
    let got : op_at c.args.delta.now c.loop-at.at
    ≡ (Ok (c.in-Ok.read.0, c.in-Ok.read.1)) = sym c.read_op.ensures ∙ c.in-Ok.is in
    let e = fault _ _ _ _ _ _ c.loop-at.invariant.0.4 c.loop-at-test.true _ _ (got) _
    (sym c.follow.ensures ∙ c.in-Err-follow.is) in
    let r = c.refused-in-Err-follow.ensures in
    (r.0 ∙ e, gathered_none _ _ _ _ r.1 r.2 r.3 _ _ e)

pub overflow_sub-counts : goal.overflow_sub-counts
overflow_sub-counts c =
    c.loop-at.invariant.2

pub offset_bounds-counts-last : goal.offset_bounds-counts-last
offset_bounds-counts-last c =
    let inv = c.loop-at.invariant in omega (arith, last-below _ _ inv.0.1 inv.3)

pub bounds-counts-last : goal.bounds-counts-last
bounds-counts-last c =
    let inv = c.loop-at.invariant in last-below _ _ inv.0.1 inv.3

pub offset_bounds-maxes-last : goal.offset_bounds-maxes-last
offset_bounds-maxes-last c =
    let inv = c.loop-at.invariant in omega (arith, last-below _ _ inv.0.1 inv.3)

pub bounds-maxes-last : goal.bounds-maxes-last
bounds-maxes-last c =
    let inv = c.loop-at.invariant in last-below _ _ inv.0.1 inv.3

pub offset_bounds-seen-nodes : goal.offset_bounds-seen-nodes
offset_bounds-seen-nodes c =
    omega (arith, has-place c.args.delta.now _ _ _ _ _ c.follow.ensures c.in-Ok-follow.is c.in-Entered.is)

pub bounds-seen-nodes : goal.bounds-seen-nodes
bounds-seen-nodes c =
    has-place c.args.delta.now _ _ _ _ _ c.follow.ensures c.in-Ok-follow.is c.in-Entered.is

pub offset_bounds-places-nodes : goal.offset_bounds-places-nodes
offset_bounds-places-nodes c =
    omega (arith, has-place c.args.delta.now _ _ _ _ _ c.follow.ensures c.in-Ok-follow.is c.in-Entered.is)

pub bounds-places-nodes : goal.bounds-places-nodes
bounds-places-nodes c =
    has-place c.args.delta.now _ _ _ _ _ c.follow.ensures c.in-Ok-follow.is c.in-Entered.is

pub overflow_add-first : goal.overflow_add-first
overflow_add-first c =
    let more-ops : c.loop-at.ops < 16384 = omega (arith, c.loop-at-test.true, c.loop-at.invariant.0.2, c.if-delta-gt-LONGEST_DELTA.false) in
    omega (arith, more-ops)

pub overflow_add-nodes : goal.overflow_add-nodes
overflow_add-nodes c =
    omega (arith, has-place c.args.delta.now _ _ _ _ _ c.follow.ensures c.in-Ok-follow.is c.in-Entered.is)

pub overflow_add-ops : goal.overflow_add-ops
overflow_add-ops c =
    let more-ops : c.loop-at.ops < 16384 = omega (arith, c.loop-at-test.true, c.loop-at.invariant.0.2, c.if-delta-gt-LONGEST_DELTA.false) in
    omega (arith, more-ops)

pub loop-at-smaller : goal.loop-at-smaller
loop-at-smaller c =
    let got : op_at c.args.delta.now c.loop-at.at
    ≡ (Ok (c.in-Ok.read.0, c.in-Ok.read.1)) = sym c.read_op.ensures ∙ c.in-Ok.is in
    let n = ends _ _ _ _ (got) in
    omega (arith, n.0, n.1)

pub loop-at-preserved : goal.loop-at-preserved
loop-at-preserved c =
    let got : op_at c.args.delta.now c.loop-at.at
    ≡ (Ok (c.in-Ok.read.0, c.in-Ok.read.1)) = sym c.read_op.ensures ∙ c.in-Ok.is in
    let inv = c.loop-at.invariant in
    let more = c.loop-at-test.true in
    let few = inv.0.1 in
    elim c.match-followed.branch [
      | in-Entered w ↦
          let e = leaves c.follow.ensures c.in-Ok-follow.is w.in-Entered.is in (
            on-new _ _ _ _ _ _ inv.0 more _ _ (got) _ _ _ _ e w.seen-is w.nodes-is w.running-is,
            gathering-entered _ _ _ _ _ _ _ _ inv.1 few more _ _ (got) _ _ _ _ _ _ _ _ _ e inv.3 w.places-is w.counts-is w.maxes-is w.nodes-is (omega (arith, w.first-is)) w.running-is,
            omega (arith, w.first-is),
            omega (arith, w.nodes-is, w.last-is),
          )
      | in-Under w ↦
          let e = leaves c.follow.ensures c.in-Ok-follow.is w.in-Under.is in (
            on-under _ _ _ _ _ _ inv.0 more _ _ (got) _ _ _ _ e w.seen-is w.nodes-is w.running-is,
            gathering-under _ _ _ _ _ _ _ _ inv.1 few more _ _ (got) _ _ _ _ _ _ _ _ e w.places-is w.counts-is w.maxes-is w.nodes-is (omega (arith, inv.2, w.first-is)) w.running-is,
            omega (arith, inv.2, w.first-is),
            omega (arith, inv.3, w.nodes-is, w.last-is),
          )
    ]

pub overflow_sub-counts-2 : goal.overflow_sub-counts-2
overflow_sub-counts-2 c =
    c.loop-at.invariant.2

pub offset_bounds-counts-last-2 : goal.offset_bounds-counts-last-2
offset_bounds-counts-last-2 c =
    let inv = c.loop-at.invariant in omega (arith, last-below _ _ inv.0.1 inv.3)

pub bounds-counts-last-2 : goal.bounds-counts-last-2
bounds-counts-last-2 c =
    let inv = c.loop-at.invariant in last-below _ _ inv.0.1 inv.3

pub offset_bounds-maxes-last-2 : goal.offset_bounds-maxes-last-2
offset_bounds-maxes-last-2 c =
    let inv = c.loop-at.invariant in omega (arith, last-below _ _ inv.0.1 inv.3)

pub bounds-maxes-last-2 : goal.bounds-maxes-last-2
bounds-maxes-last-2 c =
    let inv = c.loop-at.invariant in last-below _ _ inv.0.1 inv.3

pub returns : goal.returns
returns c =
    let inv = c.loop-at.invariant in
    let e = done _ _ _ _ _ _ inv.0.4 c.loop-at-test.false in
    (e, gathered _ _ _ _ _ _ _ _ inv.1 inv.0.1 _ inv.3 c.loop-at-test.false _ e)
