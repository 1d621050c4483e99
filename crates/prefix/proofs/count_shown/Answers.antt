-- `prefix::count_shown` meets its contract: what was counted and what is left are the whole. Assumes nothing.
use Prim.Native.Nat.{ℕ, ◌+◌, ◌≤◌, ◌<◌, zero-le}
use mathlib.Core.Path.{sym, ap, ◌∙◌}
use mathlib.Core.List.{List}
use mathlib.Core.Logic.{⊎_elim}
use native.Mathlib.Omega.{arith}
use native.Mathlib.Nat.{zero-add}
use lib.ListN.{length}
use Rattle.table.specs.Tests.{count_of}
use Rattle.prefix.specs.Run.{shown_in}
use Rattle.prefix.proofs.Hits.{none_left, count-shown, count-hidden}
use Rattle.prefix.proofs.count_shown.Goals as goal

pub loop-j-init : goal.loop-j-init
loop-j-init c =
    (c.requires.1, omega arith, zero-add (length (shown_in 0 c.args.low c.args.high c.args.node.now)))

pub is_shown-requires : goal.is_shown-requires
is_shown-requires c =
    let within : c.loop-j.j < count_of c.args.node.now = omega (arith, c.loop-j-test.true, c.requires.2) in
    (c.requires.0, within)

pub overflow_add-found : goal.overflow_add-found
overflow_add-found c =
    let within : c.loop-j.j < count_of c.args.node.now = omega (arith, c.loop-j-test.true, c.requires.2) in
    omega (arith, c.loop-j.invariant.1, within, c.requires.0.few)

pub loop-j-preserved : goal.loop-j-preserved
loop-j-preserved c =
    let b : List ℕ = c.args.node.now in
    let j : ℕ = c.loop-j.j in
    let top : ℕ = c.args.high in
    let left : ℕ = length (shown_in 0 (j + 1) top b) in
    let n : ℕ = length (shown_in 0 c.args.low top b) in
    let h : j < top = c.loop-j-test.true in
    let more : j + 1 ≤ top = omega arith in
    let few = c.loop-j.invariant.1 in
    ⊎_elim
    (λ w. (
      more,
      omega (arith, w.found-is, few),
      ap (λ (m : ℕ). m + left) w.found-is ∙ count-shown b 0 j top zero-le h c.requires.2 c.loop-j.found n (sym c.is_shown.ensures ∙ w.if-is_shown.true) c.loop-j.invariant.2,
    ))
    (λ w. (
      more,
      omega (arith, w.found-is, few),
      ap (λ (m : ℕ). m + left) w.found-is ∙ count-hidden b 0 j top zero-le h c.requires.2 c.loop-j.found n (sym c.is_shown.ensures ∙ w.if-is_shown.false) c.loop-j.invariant.2,
    )) c.if-is_shown.branch-raw

pub returns : goal.returns
returns c =
    let a = c.args in
    omega (arith, c.loop-j.invariant.2, ap length (none_left a.node.now 0 c.loop-j.j a.high (omega arith)))
