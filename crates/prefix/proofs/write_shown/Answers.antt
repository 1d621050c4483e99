-- `prefix::write_shown` meets its contract: what is left to be written gives the whole list. Assumes nothing.
use Prim.Native.Nat.{ℕ, ◌+◌, ◌≤◌, ◌<◌}
use mathlib.Core.Path.{refl, sym, ap, ap₂, ◌∙◌}
use mathlib.Core.List.{List}
use native.Mathlib.Omega.{arith}
use native.Mathlib.Nat.{zero-add}
use lib.ListN.{length, length-set}
use Rattle.fields.specs.Parts.{put}
use Rattle.fields.proofs.Parts.{put-nil}
use Rattle.table.specs.Tests.{count_of}
use Rattle.prefix.specs.Run.{shown_in}
use Rattle.prefix.proofs.Hits.{none_left, count-shown, count-hidden, put-shown, put-hidden, shown-room}
use Rattle.prefix.proofs.write_shown.Goals.{then-is_shown, else-is_shown}
use Rattle.prefix.proofs.write_shown.Goals as goal

pub loop-j-init : goal.loop-j-init
loop-j-init c =
    (c.requires.2, omega arith, refl, zero-add (length (shown_in c.args.base c.args.low c.args.high c.args.node.now)), refl, c.requires.1)

pub is_shown-requires : goal.is_shown-requires
is_shown-requires c =
    let within : c.loop-j.j < count_of c.args.node.now = omega (arith, c.loop-j-test.true, c.requires.3) in
    (c.requires.0, within)

pub overflow_sub-place : goal.overflow_sub-place
overflow_sub-place c = c.loop-j.invariant.5

pub overflow_cast-out : goal.overflow_cast-out
overflow_cast-out c =
    let within : c.loop-j.j < count_of c.args.node.now = omega (arith, c.loop-j-test.true, c.requires.3) in
    omega (arith, within, c.requires.0.few)

-- one that is not hidden has a place in the list
pub bounds-out-next : goal.bounds-out-next
bounds-out-next c =
    shown-room c.args.node.now c.args.base c.loop-j.j c.args.high c.loop-j.invariant.5 c.loop-j-test.true c.requires.3 c.loop-j.next (length c.loop-j.out)
    (sym c.is_shown.ensures ∙ c.if-is_shown.true)
    (omega (arith, c.loop-j.invariant.2, c.loop-j.invariant.3, c.requires.4))

pub overflow_add-next : goal.overflow_add-next
overflow_add-next c =
    let within : c.loop-j.j < count_of c.args.node.now = omega (arith, c.loop-j-test.true, c.requires.3) in
    omega (arith, c.loop-j.invariant.1, within, c.requires.0.few)

pub loop-j-preserved : goal.loop-j-preserved
loop-j-preserved c =
    let b : List ℕ = c.args.node.now in
    let base : ℕ = c.args.base in
    let j : ℕ = c.loop-j.j in
    let top : ℕ = c.args.high in
    let f : ℕ = c.loop-j.next in
    let h : j < top = c.loop-j-test.true in
    let more : j + 1 ≤ top = omega arith in
    let few = c.loop-j.invariant.1 in
    let behind : base ≤ j = c.loop-j.invariant.5 in
    let still : base ≤ j + 1 = omega arith in
    let left : List ℕ = shown_in base (j + 1) top b in
    let n : ℕ = length (shown_in base c.args.low top b) in
    let all : List ℕ = put 0 (shown_in base c.args.low top b) c.args.out.now in
    elim c.if-is_shown.branch [
      | then-is_shown w ↦
          let e = sym c.is_shown.ensures ∙ w.if-is_shown.true in
          let room : f < length c.loop-j.out = shown-room b base j top behind h c.requires.3 f (length c.loop-j.out) e
          (omega (arith, c.loop-j.invariant.2, c.loop-j.invariant.3, c.requires.4)) in (
            more,
            omega (arith, w.next-is, few),
            ap length w.out-is ∙ (simp length-set) ∙ c.loop-j.invariant.2,
            ap (λ (m : ℕ). m + length left) w.next-is ∙ count-shown b base j top behind h c.requires.3 f n e c.loop-j.invariant.3,
            ap₂ (λ (m : ℕ) (l : List ℕ). put m left l) w.next-is w.out-is
                ∙ put-shown b base j top behind h c.requires.3 f c.loop-j.out all room e c.loop-j.invariant.4,
            still,
          )
      | else-is_shown w ↦
          let e = sym c.is_shown.ensures ∙ w.if-is_shown.false in (
            more,
            omega (arith, w.next-is, few),
            ap length w.out-is ∙ c.loop-j.invariant.2,
            ap (λ (m : ℕ). m + length left) w.next-is ∙ count-hidden b base j top behind h c.requires.3 f n e c.loop-j.invariant.3,
            ap₂ (λ (m : ℕ) (l : List ℕ). put m left l) w.next-is w.out-is ∙ put-hidden b base j top behind h c.requires.3 f c.loop-j.out all e c.loop-j.invariant.4,
            still,
          )
    ]

pub shape_of-out : goal.shape_of-out
shape_of-out c = c.loop-j.invariant.2

pub returns : goal.returns
returns c =
    let a = c.args in
    let none = none_left a.node.now a.base c.loop-j.j a.high (omega arith) in (
      omega (arith, c.loop-j.invariant.3, ap length none),
      sym (ap (λ (x : List ℕ). put c.loop-j.next x c.loop-j.out) none ∙ put-nil c.loop-j.next c.loop-j.out) ∙ c.loop-j.invariant.4,
    )
