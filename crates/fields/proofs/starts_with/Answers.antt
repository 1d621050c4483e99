-- `fields::starts_with` meets its contract: the first bytes of the second are the first. Assumes nothing.
use mathlib.Core.Path.{sym, ◌∙◌}
use native.Mathlib.Omega.{arith}
use lib.ListN.{length}
use lib.Seq.{length-take-le}
use Rattle.fields.proofs.Ordered.{starts_is, starts-short}
use Rattle.fields.proofs.starts_with.Goals as goal

pub returns-then-s-n : goal.returns-then-s-n
returns-then-s-n c =
    let a = c.args in
    sym (starts-short a.prefix.now a.s.now c.if-s-n.true)

pub slice_bounds-same-end : goal.slice_bounds-same-end
slice_bounds-same-end c =
    let a = c.args in
    sym (length-take-le (length a.prefix.now) a.s.now (omega arith))

pub returns : goal.returns
returns c =
    let a = c.args in
    c.same.ensures ∙ sym (starts_is a.prefix.now a.s.now)
