-- `lookup::find_good` meets its contract: where the value stands in the node's bytes, or 2. Assumes nothing.
use Rattle.std.specs.Prelude.{None, Some}
use Rattle.std.proofs.lemmas.Result.{err_from_is_err_and}
use Rattle.rules.specs.declared.Refusal.TheVariants.{NoNode}
use native.Mathlib.Omega.{arith}
use mathlib.Core.Path.{◌≡◌}
use Rattle.table_read.proofs.Reading.{lent_fits, lent_below, lent-node-needs, node-stands, no-node-stands}
use Rattle.lookup.specs.Lookup.{find_on}
use Rattle.lookup.proofs.find_good.Goals as goal

pub returns-in_err-span : goal.returns-in_err-span
returns-in_err-span c =
    let h : c.node_span.result ≡ None = grind arith in
    let why : c.in_err-span.field-0.0 ≡ NoNode = grind arith in
    let p = err_from_is_err_and c.from_residual.result c.from_residual.ensures.1 in
    rw (p.1, p.2, why) (search (no-node-stands find_on))

pub slice_bounds-in_node-end : goal.slice_bounds-in_node-end
slice_bounds-in_node-end c =
    let h : c.node_span.result ≡ Some c.in_ok-span.span = grind arith in
    lent_fits _ _ c.requires c.node_span.ensures h

pub in_node-requires : goal.in_node-requires
in_node-requires c =
    let h : c.node_span.result ≡ Some c.in_ok-span.span = grind arith in
    (search (h, lent-node-needs), search (h, lent-node-needs), lent_below _ _ c.requires c.node_span.ensures h)

pub returns : goal.returns
returns c =
    let h : c.node_span.result ≡ Some c.in_ok-span.span = grind arith in
    search (h, node-stands find_on)
