-- `heartbeat::beat_good` meets its contract: the node's part is lent to the node's rule, or the node is missing. Assumes nothing.
use Prim.Native.Nat.{ℕ}
use mathlib.Core.Path.{◌≡◌, sym, ◌∙◌, subst}
use mathlib.Core.List.{List}
use native.Mathlib.Omega.{arith}
use Rattle.rules.specs.Given.{Gives}
use Rattle.rules.specs.declared.Refusal.TheVariants.{NoNode}
use Rattle.table.specs.Fits.{LaidNode}
use Rattle.table_read.specs.Find.{span_in}
use Rattle.std.specs.Prelude.{None, Some}
use Rattle.std.proofs.lemmas.Result.{err_from_is_err_and}
use Rattle.table_read.proofs.Held.{node-fits, node_seen, held-laid}
use Rattle.heartbeat.specs.Beats.{node_beaten}
use Rattle.heartbeat.proofs.Beating.{beat-held, beat-missing}
use Rattle.heartbeat.proofs.beat_good.Goals as goal

pub returns-in_err-span : goal.returns-in_err-span
returns-in_err-span c =
    let none : span_in c.args.number c.args.table.now ≡ None = sym c.node_span.ensures ∙ grind arith in
    let why : c.in_err-span.field-0.0 ≡ NoNode = grind arith in
    let p = err_from_is_err_and c.from_residual.result c.from_residual.ensures.1 in
    rw (p.1, p.2, why) (beat-missing c.args.number c.args.table.now c.requires none)

pub slice_bounds-beat_node-end : goal.slice_bounds-beat_node-end
slice_bounds-beat_node-end c =
    let held : span_in c.args.number c.args.table.now ≡ Some c.in_ok-span.span = sym c.node_span.ensures ∙ grind arith in
    node-fits _ _ c.requires held

pub beat_node-requires : goal.beat_node-requires
beat_node-requires c =
    let held : span_in c.args.number c.args.table.now ≡ Some c.in_ok-span.span = sym c.node_span.ensures ∙ grind arith in
    subst LaidNode (sym (node_seen _ _ c.requires held)) (held-laid _ _ c.requires held)

pub returns : goal.returns
returns c =
    let held : span_in c.args.number c.args.table.now ≡ Some c.in_ok-span.span = sym c.node_span.ensures ∙ grind arith in
    let w = c.beat_node in
    beat-held c.args.number c.args.table.now c.requires held w.result w.new.node
    (subst (λ (b : List ℕ). Gives (node_beaten b) w.result w.new.node) (node_seen _ _ c.requires held) w.ensures)
