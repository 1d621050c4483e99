-- `removed::last_heartbeat` meets its contract. Assumes nothing.
use Prim.Native.Nat.{ℕ, ◌+◌}
use mathlib.Core.Path.{ap, ◌∙◌}
use mathlib.Core.List.{List}
use native.Mathlib.Omega.{arith}
use Rattle.fields.specs.Numbers.{nat_of}
use Rattle.fields.specs.Parts.{part}
use Rattle.fields.specs.Widths.{offset}
use Rattle.rules.specs.Whole.{removed_widths}
use Rattle.removed.proofs.Found.{beat-read, beat-none}
use Rattle.removed.proofs.last_heartbeat.Goals as goal

pub returns-then-i-n : goal.returns-then-i-n
returns-then-i-n c =
    let a = c.args in
    let l : List ℕ = a.tail.now in
    beat-read l (omega arith) (omega arith) a.number c.find-i.result c.find-i.ensures.0 c.read_u64-beat.result (omega (arith, c.byte_at-n.ensures.0, c.if-i-n.true))
    (c.read_u64-beat.ensures ∙ ap (λ (k : ℕ). nat_of (part (k + offset removed_widths 1) 8 l)) c.removed_place.ensures)

pub returns : goal.returns
returns c =
    let a = c.args in
    beat-none a.tail.now (omega arith) (omega arith) a.number c.find-i.result c.find-i.ensures.0 (omega (arith, c.byte_at-n.ensures.0, c.if-i-n.false))
