-- `lookup::find_as` meets its contract: where the value stands in the node's bytes, or 2. Assumes nothing.
use Rattle.std.specs.Prelude.{None, Some}
use Rattle.std.proofs.lemmas.Result.{err_from_is_err_and}
use Rattle.rules.specs.declared.Refusal.TheVariants.{NoNode}
use native.Mathlib.Omega.{arith}
use mathlib.Core.Path.{◌≡◌, sym, ◌∙◌}
use mathlib.Core.Option.{Option}
use Rattle.rules.specs.Node.{Node}
use Rattle.table_read.proofs.Reading.{lent_fits, lent_below, lent-node-needs, node-stands, no-node-says}
use Rattle.own_rows.proofs.Tables.{lent-formed}
use Rattle.lookup.specs.Lookup.{find_on_as}
use Rattle.lookup.proofs.Seen.{seen-finds, none-held}
use Rattle.lookup.proofs.find_as.Goals as goal

pub returns-in_err-span : goal.returns-in_err-span
returns-in_err-span c =
    let a = c.args in
    let h : c.node_span.result ≡ None = grind arith in
    let why : c.in_err-span.field-0.0 ≡ NoNode = grind arith in
    let p = err_from_is_err_and c.from_residual.result c.from_residual.ensures.1 in
    rw (p.1, p.2, why) (none-held a.profile a.party a.number a.key.now _ (sym (search (no-node-says (λ (o : Option Node). o)))))

pub slice_bounds-in_sight-end : goal.slice_bounds-in_sight-end
slice_bounds-in_sight-end c =
    let h : c.node_span.result ≡ Some c.in_ok-span.span = grind arith in
    lent_fits _ _ c.requires.0 c.node_span.ensures h

pub in_sight-requires : goal.in_sight-requires
in_sight-requires c =
    let h : c.node_span.result ≡ Some c.in_ok-span.span = grind arith in
    (search (h, lent-node-needs), search (h, lent-node-needs), search (h, lent-formed), lent_below _ _ c.requires.0 c.node_span.ensures h)

pub returns : goal.returns
returns c =
    let h : c.node_span.result ≡ Some c.in_ok-span.span = grind arith in
    let a = c.args in
    search (h, node-stands (find_on_as a.profile a.party)) ∙ seen-finds a.profile a.party _ _ _
