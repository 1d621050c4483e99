-- `delta_make::take_among` meets its contract: too long a line, a whole line, or a byte more. Assumes nothing.
use Prim.Native.Nat.{ℕ, ◌+◌, ◌≤◌, ◌<◌}
use mathlib.Core.List.{List}
use mathlib.Core.Path.{sym}
use native.Mathlib.Omega.{arith}
use lib.ListN.{length, length-set, set}
use lib.Seq.{length-take-le}
use Rattle.delta_make.proofs.Steps.{among-line, among-long, among-more}
use Rattle.delta_make.proofs.take_among.Goals as goal

room : (l : List ℕ) (held b : ℕ) → held < length l → held + 1 ≤ length (set l held b)
room l held b h = omega (arith, length-set l held b)

pub returns-then-line-held : goal.returns-then-line-held
returns-then-line-held c =
    among-long c.args.making c.args.line.now c.args.delta.now c.args.byte _ _ c.if-line-held.true c.up.ensures
    c.bad.ensures

pub slice_bounds-take_line-end : goal.slice_bounds-take_line-end
slice_bounds-take_line-end c =
    room c.args.line.now c.args.making.held c.args.byte c.if-line-held.false

pub slice_bounds-take_line-end-then-byte-eq10 : goal.slice_bounds-take_line-end-then-byte-eq10
slice_bounds-take_line-end-then-byte-eq10 c =
    sym (length-take-le _ _ (room c.args.line.now c.args.making.held c.args.byte c.if-line-held.false))

pub returns-then-byte-eq10 : goal.returns-then-byte-eq10
returns-then-byte-eq10 c =
    among-line c.args.making c.args.line.now c.args.delta.now c.args.byte c.take_line.result c.take_line.new.delta
    c.if-line-held.false c.if-byte-eq10.true c.take_line.ensures

pub returns : goal.returns
returns c =
    among-more c.args.making c.args.line.now c.args.delta.now c.args.byte c.if-line-held.false c.if-byte-eq10.false
