-- `local::call_good` meets its contract: the node's part is lent to the node's rules, or the node is missing. Assumes nothing.
use Prim.Native.Nat.{ℕ}
use mathlib.Core.Path.{◌≡◌, sym, ◌∙◌, subst}
use mathlib.Core.Bool.{true}
use mathlib.Core.List.{List}
use native.Mathlib.Omega.{arith}
use Rattle.rules.specs.Given.{Gives}
use Rattle.rules.specs.Node.{Call}
use Rattle.rules.specs.Table.{keys_rise}
use Rattle.rules.specs.declared.Refusal.TheVariants.{NoNode}
use Rattle.table.specs.Fits.{LaidNode}
use Rattle.table.specs.Tests.{recs_in}
use Rattle.table_read.specs.Find.{span_in}
use Rattle.std.specs.Prelude.{None, Some}
use Rattle.std.proofs.lemmas.Result.{err_from_is_err_and}
use Rattle.table_read.proofs.Held.{node-fits, node_seen, held-laid, held-rises}
use Rattle.local_node.specs.Writes.{node_called, call_of}
use Rattle.local.proofs.Called.{called-held, called-missing}
use Rattle.local.proofs.call_good.Goals as goal

pub returns-in_err-span : goal.returns-in_err-span
returns-in_err-span c =
    let a = c.args in
    let none : span_in a.number a.table.now ≡ None = sym c.node_span.ensures ∙ grind arith in
    let why : c.in_err-span.field-0.0 ≡ NoNode = grind arith in
    let p = err_from_is_err_and c.from_residual.result c.from_residual.ensures.1 in
    rw (p.1, p.2, why) (called-missing (call_of a.kind a.value.now a.clock) a.number a.key.now a.table.now c.requires none)

pub slice_bounds-write_node-end : goal.slice_bounds-write_node-end
slice_bounds-write_node-end c =
    let held : span_in c.args.number c.args.table.now ≡ Some c.in_ok-span.span = sym c.node_span.ensures ∙ grind arith in
    node-fits _ _ c.requires held

pub write_node-requires : goal.write_node-requires
write_node-requires c =
    let held : span_in c.args.number c.args.table.now ≡ Some c.in_ok-span.span = sym c.node_span.ensures ∙ grind arith in
    let v = c.requires in
    subst (λ (b : List ℕ). LaidNode b × (keys_rise (recs_in b) ≡ true)) (sym (node_seen _ _ v held)) (held-laid _ _ v held, held-rises _ _ v held)

pub returns : goal.returns
returns c =
    let a = c.args in
    let asked : Call = call_of a.kind a.value.now a.clock in
    let held : span_in c.args.number c.args.table.now ≡ Some c.in_ok-span.span = sym c.node_span.ensures ∙ grind arith in
    let w = c.write_node in
    called-held asked a.number a.key.now a.table.now c.requires held w.result w.new.node
    (subst (λ (b : List ℕ). Gives (node_called asked a.key.now b) w.result w.new.node) (node_seen _ _ c.requires held) w.ensures)
