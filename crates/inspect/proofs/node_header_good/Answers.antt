-- `inspect::node_header_good` meets its contract: what the node's bytes say, or 2. Assumes nothing.
use Rattle.std.specs.Prelude.{None, Ok, Some}
use Rattle.std.proofs.lemmas.Result.{err_from_is_err_and}
use Rattle.rules.specs.declared.Refusal.TheVariants.{NoNode}
use native.Mathlib.Omega.{arith}
use mathlib.Core.Path.{◌≡◌, ap}
use Rattle.inspect.specs.Look.{header_on}
use Rattle.table_read.proofs.Reading.{lent_fits, lent-node-needs, node-says, no-node-says}
use Rattle.inspect.proofs.node_header_good.Goals as goal

pub returns-in_err-span : goal.returns-in_err-span
returns-in_err-span c =
    let h : c.node_span.result ≡ None = grind arith in
    let why : c.in_err-span.field-0.0 ≡ NoNode = grind arith in
    let p = err_from_is_err_and c.from_residual.result c.from_residual.ensures.1 in
    rw (p.1, p.2, why) (search (no-node-says header_on))

pub slice_bounds-read_header-end : goal.slice_bounds-read_header-end
slice_bounds-read_header-end c =
    let h : c.node_span.result ≡ Some c.in_ok-span.span = grind arith in
    lent_fits _ _ c.requires c.node_span.ensures h

pub read_header-requires : goal.read_header-requires
read_header-requires c =
    let h : c.node_span.result ≡ Some c.in_ok-span.span = grind arith in
    search (h, lent-node-needs)

pub returns : goal.returns
returns c =
    let h : c.node_span.result ≡ Some c.in_ok-span.span = grind arith in
    node-says header_on _ _ c.requires c.node_span.ensures h _ (ap Ok c.read_header.ensures)
