-- `delta_make::take_line` meets its contract: an operation's line, the end line, or none of them. Assumes nothing.
use mathlib.Core.Path.{sym}
use lib.Seq.{length-take-le}
use Rattle.listing_read.specs.Unlist.{read_line}
use Rattle.delta_make.proofs.Steps.{line-bad, line-end, line-op}
use Rattle.delta_make.proofs.Taken.{told-within}
use Rattle.delta_make.proofs.take_line.Goals as goal

pub returns-then-is_end : goal.returns-then-is_end
returns-then-is_end c =
    line-end c.args.line.now c.args.ops c.args.bytes c.args.delta.now _ _ c.read_line-n.ensures _ c.if-n-eq0.true
    c.is_end.ensures c.if-is_end.true

pub returns-then-n-eq0 : goal.returns-then-n-eq0
returns-then-n-eq0 c =
    line-bad c.args.line.now c.args.ops c.args.bytes c.args.delta.now _ _ c.read_line-n.ensures _ _ _ c.if-n-eq0.true
    c.is_end.ensures c.if-is_end.false c.up.ensures c.bad.ensures

pub slice_bounds-op-end : goal.slice_bounds-op-end
slice_bounds-op-end c =
    told-within (read_line c.args.line.now) _ c.read_line-n.new.out c.read_line-n.ensures

pub slice_bounds-store-end : goal.slice_bounds-store-end
slice_bounds-store-end c =
    sym (length-take-le _ _ (told-within (read_line c.args.line.now) _ c.read_line-n.new.out c.read_line-n.ensures))

pub returns : goal.returns
returns c =
    line-op c.args.line.now c.args.ops c.args.bytes c.args.delta.now _ _ c.read_line-n.ensures _ _ _ c.if-n-eq0.false
    c.up-2.ensures c.up-3.ensures c.store.ensures
