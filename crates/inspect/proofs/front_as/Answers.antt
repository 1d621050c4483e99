-- `inspect::front_as` meets its contract: what the node's bytes say, or 2. Assumes nothing.
use Rattle.std.specs.Prelude.{None, Some}
use Rattle.std.proofs.lemmas.Result.{err_from_is_err_and}
use Rattle.rules.specs.declared.Refusal.TheVariants.{NoNode}
use native.Mathlib.Omega.{arith}
use mathlib.Core.Path.{◌≡◌}
use Rattle.table_read.proofs.Reading.{lent_fits, lent-node-needs, node-says, no-node-says}
use Rattle.own_rows.proofs.Tables.{lent-formed}
use Rattle.inspect.specs.Look.{front_told}
use Rattle.inspect.proofs.front_as.Goals as goal

pub returns-in_err-span : goal.returns-in_err-span
returns-in_err-span c =
    let a = c.args in
    let h : c.node_span.result ≡ None = grind arith in
    let why : c.in_err-span.field-0.0 ≡ NoNode = grind arith in
    let p = err_from_is_err_and c.from_residual.result c.from_residual.ensures.1 in
    rw (p.1, p.2, why) (search (no-node-says (front_told a.profile a.party)))

pub slice_bounds-front_in-end : goal.slice_bounds-front_in-end
slice_bounds-front_in-end c =
    let h : c.node_span.result ≡ Some c.in_ok-span.span = grind arith in
    lent_fits _ _ c.requires.0 c.node_span.ensures h

pub front_in-requires : goal.front_in-requires
front_in-requires c =
    let h : c.node_span.result ≡ Some c.in_ok-span.span = grind arith in
    (search (h, lent-node-needs), search (h, lent-node-needs), search (h, lent-formed))

pub returns : goal.returns
returns c =
    let h : c.node_span.result ≡ Some c.in_ok-span.span = grind arith in
    let a = c.args in
    search (h, node-says (front_told a.profile a.party))
