-- `inspect::record_count_as` meets its contract: what the node's bytes say, or 2. Assumes nothing.
use Rattle.std.specs.Prelude.{None, Some}
use Rattle.std.proofs.lemmas.Result.{err_from_is_err_and}
use Rattle.rules.specs.declared.Refusal.TheVariants.{NoNode}
use native.Mathlib.Omega.{arith}
use mathlib.Core.Path.{◌≡◌, ap, sym, ◌∙◌}
use mathlib.Core.Option.{Option}
use Rattle.rules.specs.Node.{Node}
use Rattle.table_read.proofs.Reading.{lent_fits, lent-node-needs, node-says, no-node-says}
use Rattle.own_rows.specs.Sight.{seen_held}
use Rattle.own_rows.proofs.Tables.{lent-formed, node_seen}
use Rattle.inspect.specs.Look.{records_on}
use Rattle.inspect.proofs.record_count_as.Goals as goal

pub returns-in_err-span : goal.returns-in_err-span
returns-in_err-span c =
    let a = c.args in
    let h : c.node_span.result ≡ None = grind arith in
    let why : c.in_err-span.field-0.0 ≡ NoNode = grind arith in
    let p = err_from_is_err_and c.from_residual.result c.from_residual.ensures.1 in
    rw (p.1, p.2, why) (search (no-node-says (λ (o : Option Node). records_on (seen_held a.profile a.party o))) ∙ ap records_on (sym (node_seen a.profile a.party a.number _)))

pub slice_bounds-count_in-end : goal.slice_bounds-count_in-end
slice_bounds-count_in-end c =
    let h : c.node_span.result ≡ Some c.in_ok-span.span = grind arith in
    lent_fits _ _ c.requires.0 c.node_span.ensures h

pub count_in-requires : goal.count_in-requires
count_in-requires c =
    let h : c.node_span.result ≡ Some c.in_ok-span.span = grind arith in
    (search (h, lent-node-needs), search (h, lent-node-needs), search (h, lent-formed))

pub returns : goal.returns
returns c =
    let h : c.node_span.result ≡ Some c.in_ok-span.span = grind arith in
    let a = c.args in
    search (h, node-says (λ (o : Option Node). records_on (seen_held a.profile a.party o))) ∙ ap records_on (sym (node_seen a.profile a.party a.number _))
