-- `inspect::record_by_key_as` meets its contract: what the node's bytes say, or 2. Assumes nothing.
use Rattle.std.specs.Prelude.{None, Some}
use Rattle.std.proofs.lemmas.Result.{err_from_is_err_and}
use Rattle.rules.specs.declared.Refusal.TheVariants.{NoNode}
use native.Mathlib.Omega.{arith}
use mathlib.Core.Path.{◌≡◌, sym, ◌∙◌}
use mathlib.Core.Option.{Option}
use Rattle.rules.specs.Node.{Node}
use Rattle.table_read.proofs.Reading.{lent_fits, lent_below, lent-node-needs, node-stands, no-node-says}
use Rattle.own_rows.proofs.Tables.{lent-formed}
use Rattle.inspect.specs.Look.{record_by_key_on_as}
use Rattle.inspect.proofs.Keyed.{seen-reads, none-held}
use Rattle.inspect.proofs.record_by_key_as.Goals as goal

pub returns-in_err-span : goal.returns-in_err-span
returns-in_err-span c =
    let a = c.args in
    let h : c.node_span.result ≡ None = grind arith in
    let why : c.in_err-span.field-0.0 ≡ NoNode = grind arith in
    let p = err_from_is_err_and c.from_residual.result c.from_residual.ensures.1 in
    rw (p.1, p.2, why) (none-held a.profile a.party a.number a.key.now _ (sym (search (no-node-says (λ (o : Option Node). o)))))

pub slice_bounds-record_keyed-end : goal.slice_bounds-record_keyed-end
slice_bounds-record_keyed-end c =
    let h : c.node_span.result ≡ Some c.in_ok-span.span = grind arith in
    lent_fits _ _ c.requires.0 c.node_span.ensures h

pub record_keyed-requires : goal.record_keyed-requires
record_keyed-requires c =
    let h : c.node_span.result ≡ Some c.in_ok-span.span = grind arith in
    (search (h, lent-node-needs), search (h, lent-node-needs), search (h, lent-formed), lent_below _ _ c.requires.0 c.node_span.ensures h)

pub returns : goal.returns
returns c =
    let h : c.node_span.result ≡ Some c.in_ok-span.span = grind arith in
    let a = c.args in
    search (h, node-stands (record_by_key_on_as a.profile a.party)) ∙ seen-reads a.profile a.party _ _ _
