-- `removed::find` meets its contract: what was passed over and where it stands in the rest is where it stands. Assumes nothing.
use Prim.Native.Nat.{ℕ, ◌+◌}
use mathlib.Core.Path.{ap, ◌∙◌}
use mathlib.Core.List.{List}
use native.Mathlib.Omega.{arith}
use Rattle.fields.specs.Numbers.{nat_of}
use Rattle.fields.specs.Parts.{part}
use Rattle.fields.specs.Widths.{offset}
use Rattle.rules.specs.Whole.{removed_widths}
use Rattle.removed.proofs.Found.{hit, miss, past}
use Rattle.removed.proofs.find.Goals as goal

pub returns-then-number-read_u64 : goal.returns-then-number-read_u64
returns-then-number-read_u64 c =
    let a = c.args in
    let l : List ℕ = a.tail.now in (
      hit l (omega arith) (omega arith) a.number c.loop-i.i c.read_u64.result _ c.loop-i.invariant (omega arith)
          (c.read_u64.ensures ∙ ap (λ (k : ℕ). nat_of (part (k + offset removed_widths 0) 8 l)) c.removed_place.ensures) c.if-number-read_u64.true,
      omega arith,
    )

pub loop-i-preserved : goal.loop-i-preserved
loop-i-preserved c =
    let a = c.args in
    let l : List ℕ = a.tail.now in
    miss l (omega arith) (omega arith) a.number c.loop-i.i c.read_u64.result _ c.loop-i.invariant (omega arith)
    (c.read_u64.ensures ∙ ap (λ (k : ℕ). nat_of (part (k + offset removed_widths 0) 8 l)) c.removed_place.ensures) c.if-number-read_u64.false

pub returns : goal.returns
returns c =
    let a = c.args in
    let e = past a.tail.now (omega arith) (omega arith) a.number c.loop-i.i 0 _ c.loop-i.invariant (omega arith) in
    (omega (arith, e), omega arith)
