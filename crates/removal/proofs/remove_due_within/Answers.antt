-- `removal::remove_due_within` meets its contract: of what is in front of `j`, those that stay stand in the first places, and the rest gives the whole.
-- Assumes nothing.
use Prim.Native.Nat.{ℕ, ◌<◌}
use mathlib.Core.Path.{ap, sym, ◌∙◌}
use mathlib.Core.Bool.{Bool}
use mathlib.Core.List.{List}
use native.Mathlib.Omega.{arith}
use Rattle.rules.specs.Node.{Rec}
use Rattle.rules.specs.Layout.{decode_node}
use Rattle.table.specs.Tests.{count_of, recs_in}
use Rattle.table.proofs.Places.{length-recs}
use Rattle.removal.specs.Removals.{due_within, removed}
use Rattle.removal.proofs.Removing.{done_from, first-few, first_done, node-goes, node_stays, node_end, gone-laid, gone-count, kept-laid, kept-count}
use Rattle.removal.proofs.remove_due_within.Goals as goal

pub loop-j-init : goal.loop-j-init
loop-j-init c =
    let a = c.args in
    let p : Rec → Bool = due_within a.bound a.clock a.grace in
    let b : List ℕ = a.node.now in
    record {
      laid = c.requires;
      many = sym c.byte_at-n.ensures.0;
      low = omega arith;
      within = omega (arith, c.byte_at-n.ensures.0, c.first_due-first.ensures, first-few p (recs_in b), length-recs b);
      left = ap (λ (k : ℕ). done_from p k k (decode_node b)) c.first_due-first.ensures ∙ first_done p (decode_node b);
    }

pub loop-j-preserved-then-must_go : goal.loop-j-preserved-then-must_go
loop-j-preserved-then-must_go c =
    let a = c.args in
    let l = c.loop-j in
    let v = l.invariant in
    let p : Rec → Bool = due_within a.bound a.clock a.grace in
    let h : l.j < count_of l.node = omega arith in
    let e = c.raise_last_gc.ensures in
    record {
      laid = gone-laid l.node v.laid l.j h _ e;
      many = gone-count l.node v.laid l.j h _ e ∙ v.many;
      low = omega arith;
      within = omega arith;
      left = node-goes l.node v.laid l.j h _ e p l.kept (sym c.must_go.ensures ∙ c.if-must_go.true) ∙ v.left;
    }

pub loop-j-preserved : goal.loop-j-preserved
loop-j-preserved c =
    let a = c.args in
    let l = c.loop-j in
    let v = l.invariant in
    let p : Rec → Bool = due_within a.bound a.clock a.grace in
    let h : l.j < count_of l.node = omega arith in
    let e = c.bring_down.ensures in
    record {
      laid = kept-laid l.node v.laid l.j h l.kept v.low _ e;
      many = kept-count l.node v.laid l.j h l.kept v.low _ e ∙ v.many;
      low = omega arith;
      within = omega arith;
      left = node_stays l.node v.laid l.j h l.kept v.low _ e p (sym c.must_go.ensures ∙ c.if-must_go.false) ∙ v.left;
    }

pub returns : goal.returns
returns c =
    let a = c.args in
    let v = c.loop-j.invariant in
    let p : Rec → Bool = due_within a.bound a.clock a.grace in
    node_end c.loop-j.node v.laid p c.loop-j.kept c.loop-j.j (removed p (decode_node a.node.now)) _ (omega arith) v.left c.cut.ensures
