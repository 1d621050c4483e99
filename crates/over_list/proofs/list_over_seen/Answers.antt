-- `over_list::list_over_seen` meets its contract: the listing of the overrides' bytes and the node's, or 2. Assumes nothing.
use mathlib.Core.Option.{Option}
use mathlib.Core.Path.{◌≡◌}
use native.Mathlib.Omega.{arith}
use Rattle.std.specs.Prelude.{None, Some}
use Rattle.std.proofs.lemmas.Result.{err_from_is_err_and}
use Rattle.rules.specs.declared.Refusal.TheVariants.{NoNode}
use Rattle.overrides.specs.declared.Which.TheVariants.{Neither}
use Rattle.rules.specs.Node.{Node}
use Rattle.rules.specs.Party.{sees}
use Rattle.rules.specs.Layout.{decode_node, decode}
use Rattle.table_read.proofs.Reading.{lent_fits, lent_laid, lent-rises, node-fills, no-node-fills}
use Rattle.own_rows.specs.Sight.{seen_held}
use Rattle.own_rows.proofs.Tables.{lent-formed}
use Rattle.overrides.proofs.Valid.{over-laid, over-rises}
use Rattle.over_list.specs.Merged.{list_on}
use Rattle.over_list.proofs.Listed.{seen-fills}
use Rattle.over_list.proofs.list_over_seen.Goals as goal

pub returns-in_err-span : goal.returns-in_err-span
returns-in_err-span c =
    let a = c.args in
    let h : c.node_span.result ≡ None = grind arith in
    let why : c.in_err-span.field-0.0 ≡ record { which = Neither; why = NoNode } = grind arith in
    let p = err_from_is_err_and c.from_residual.result c.from_residual.ensures.1 in
    rw (p.1, p.2, why)
    (seen-fills a.profile a.party a.number a.prefix.now a.out.now (decode_node a.overrides.now).node (decode a.area.now) _ _
    (no-node-fills (λ (o : Option Node). list_on (sees a.profile a.party) a.prefix.now (decode_node a.overrides.now).node (seen_held a.profile a.party o) a.out.now) _ _ c.requires.1
    c.node_span.ensures h))

pub slice_bounds-in_nodes-end : goal.slice_bounds-in_nodes-end
slice_bounds-in_nodes-end c =
    let h : c.node_span.result ≡ Some c.in_ok-span.span = grind arith in
    lent_fits _ _ c.requires.1 c.node_span.ensures h

pub in_nodes-requires : goal.in_nodes-requires
in_nodes-requires c =
    let i = c.node_span.ensures in
    let h : c.node_span.result ≡ Some c.in_ok-span.span = grind arith in
    (over-laid _ c.requires.0, over-rises _ c.requires.0, lent_laid _ _ c.requires.1 i h, lent-rises _ _ c.requires.1 i h, lent-formed _ _ c.requires.1 i h c.args.profile c.requires.2)

pub returns : goal.returns
returns c =
    let a = c.args in
    let h : c.node_span.result ≡ Some c.in_ok-span.span = grind arith in
    seen-fills a.profile a.party a.number a.prefix.now a.out.now (decode_node a.overrides.now).node (decode a.area.now) _ _
    (node-fills (λ (o : Option Node). list_on (sees a.profile a.party) a.prefix.now (decode_node a.overrides.now).node (seen_held a.profile a.party o) a.out.now) _ _ c.requires.1
    c.node_span.ensures h _ _ c.in_nodes.ensures)
