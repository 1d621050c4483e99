-- `inspect::record_in` meets its contract: 8, or the record in its place. Assumes nothing.
use Prim.Native.Nat.{ℕ, ◌+◌, ◌-◌, ◌<◌}
use mathlib.Core.Path.{◌≡◌, ap, ◌∙◌}
use native.Mathlib.Omega.{arith}
use Rattle.table.specs.Tests.{count_of}
use Rattle.table.proofs.Places.{rec_at}
use Rattle.inspect.specs.Look.{read_at, read_rec}
use Rattle.inspect.proofs.Elements.{own-within, rec-there, no-rec-there}
use Rattle.inspect.proofs.record_in.Goals as goal

-- its place in the piece
back : (low j : ℕ) → low + j - low ≡ j
back low j = omega arith

pub returns-then-sight-j : goal.returns-then-sight-j
returns-then-sight-j c =
    let a = c.args in
    no-rec-there a.profile a.party a.node.now c.requires.1 c.requires.2 c.sight_of-sight.ensures (read_at a.start a.j) a.j c.if-sight-j.true

pub overflow_add-sight : goal.overflow_add-sight
overflow_add-sight c =
    let within : c.sight_of-sight.result.low + c.args.j < count_of c.args.node.now = let a = c.args in
    own-within a.profile a.party a.node.now c.requires.1 c.requires.2 c.sight_of-sight.ensures (read_at a.start a.j) a.j c.if-sight-j.false in
    omega (arith, within, c.requires.0.few)

pub placed-requires : goal.placed-requires
placed-requires c =
    let within : c.sight_of-sight.result.low + c.args.j < count_of c.args.node.now = let a = c.args in
    own-within a.profile a.party a.node.now c.requires.1 c.requires.2 c.sight_of-sight.ensures (read_at a.start a.j) a.j c.if-sight-j.false in
    (c.requires.0, c.requires.3, omega arith, within)

pub returns : goal.returns
returns c =
    let a = c.args in
    let low = c.sight_of-sight.result.low in
    rec-there a.profile a.party a.node.now c.requires.1 c.requires.2 c.sight_of-sight.ensures (read_at a.start a.j) a.j c.if-sight-j.false _
    (c.placed.ensures ∙ ap (λ (m : ℕ). read_rec a.start m (rec_at (low + a.j) a.node.now)) (back low a.j))
