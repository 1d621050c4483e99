-- `prefix::rows_in` meets its contract: 1, or where the run begins, and how long it is. Assumes nothing.
use Prim.Native.Nat.{ℕ, ◌+◌}
use mathlib.Core.Path.{ap, ap₂, ◌∙◌}
use native.Mathlib.Omega.{arith}
use Rattle.rules.specs.Layout.{rec_place}
use Rattle.std.specs.Prelude.{Ok}
use Rattle.table_read.proofs.Reading.{short-says, long-says}
use Rattle.prefix.proofs.Counted.{first_counted, run-counted}
use Rattle.prefix.proofs.rows_in.Goals as goal

pub returns-then-prefix-gt-KEY : goal.returns-then-prefix-gt-KEY
returns-then-prefix-gt-KEY c =
    search long-says

pub overflow_sub-run : goal.overflow_sub-run
overflow_sub-run c =
    c.run_in-run.ensures.from

pub record_place-requires : goal.record_place-requires
record_place-requires c =
    let r = c.run_in-run.ensures in
    omega (arith, r.from, r.order, r.inside, c.requires.2, c.requires.0.few)

pub overflow_add-result : goal.overflow_add-result
overflow_add-result c =
    let r = c.run_in-run.ensures in
    omega (arith, c.record_place.ensures, r.from, r.order, r.inside, c.requires.2, c.requires.3, c.requires.0.few)

pub overflow_sub-result : goal.overflow_sub-result
overflow_sub-result c =
    c.run_in-run.ensures.order

pub returns : goal.returns
returns c =
    let r = c.run_in-run.ensures in
    short-says _ _ c.args.prefix.now c.if-prefix-gt-KEY.false _
    (ap₂ (λ a b. Ok (record { at = a; count = b }))
    (ap (λ (i : ℕ). c.args.start + i) (c.record_place.ensures ∙ ap rec_place (first_counted c.args.prefix.now c.args.node.now _ _ _ _ c.requires.2 r)))
    (run-counted c.args.prefix.now c.args.node.now _ _ _ _ c.requires.2 r))
