-- `inspect::node_rows_as` meets its contract: what the node's bytes say, or 2. Assumes nothing.
use Rattle.std.specs.Prelude.{None, Some}
use Rattle.std.proofs.lemmas.Result.{err_from_is_err_and}
use Rattle.rules.specs.declared.Refusal.TheVariants.{NoNode}
use native.Mathlib.Omega.{arith}
use Prim.Native.Nat.{ℕ}
use mathlib.Core.Path.{◌≡◌, ◌∙◌}
use mathlib.Core.Option.{Option}
use Rattle.rules.specs.Node.{Node}
use Rattle.table_read.proofs.Reading.{lent_fits, lent_below, lent-node-needs, node-stands, no-node-stands}
use Rattle.own_rows.specs.Sight.{seen_held}
use Rattle.own_rows.proofs.Tables.{lent-formed, seen-stands}
use Rattle.inspect.specs.Look.{rows_on}
use Rattle.inspect.proofs.node_rows_as.Goals as goal

pub returns-in_err-span : goal.returns-in_err-span
returns-in_err-span c =
    let a = c.args in
    let h : c.node_span.result ≡ None = grind arith in
    let why : c.in_err-span.field-0.0 ≡ NoNode = grind arith in
    let p = err_from_is_err_and c.from_residual.result c.from_residual.ensures.1 in
    rw (p.1, p.2, why) (search (no-node-stands (λ (x k : ℕ) (o : Option Node). rows_on k (seen_held a.profile a.party o)) 0)
    ∙ seen-stands (λ (x : ℕ). rows_on) 0 a.profile a.party a.number _)

pub slice_bounds-rows_in-end : goal.slice_bounds-rows_in-end
slice_bounds-rows_in-end c =
    let h : c.node_span.result ≡ Some c.in_ok-span.span = grind arith in
    lent_fits _ _ c.requires.0 c.node_span.ensures h

pub rows_in-requires : goal.rows_in-requires
rows_in-requires c =
    let h : c.node_span.result ≡ Some c.in_ok-span.span = grind arith in
    (search (h, lent-node-needs), search (h, lent-node-needs), search (h, lent-formed), lent_below _ _ c.requires.0 c.node_span.ensures h)

pub returns : goal.returns
returns c =
    let h : c.node_span.result ≡ Some c.in_ok-span.span = grind arith in
    let a = c.args in
    search (h, node-stands (λ (x k : ℕ) (o : Option Node). rows_on k (seen_held a.profile a.party o)) 0)
    ∙ seen-stands (λ (x : ℕ). rows_on) 0 a.profile a.party a.number _
