-- `delta_names::delta_nodes` meets its contract: by what reading has answered. Assumes nothing.
use mathlib.Core.Path.{refl, sym, ◌∙◌}
use Rattle.rules.specs.Answers.{applied_told}
use Rattle.std.proofs.lemmas.Result.{err_from_is_err_and}
use Rattle.rules.proofs.Unique.{tells}
use Rattle.delta_names.proofs.Names.{few, lie, on-good, on-refused, on-short}
use Rattle.delta_names.proofs.delta_nodes.Goals as goal

pub returns-then-list-nodes : goal.returns-then-list-nodes
returns-then-list-nodes c =
    let a = c.args in
    let heads = c.read_heads-heads.ensures in
    tells applied_told (on-short a.delta.now a.list.now _ _ (sym heads.0 ∙ c.in_ok-nodes.was) _ _ _ heads.1 c.if-list-nodes.true)

pub put_numbers-requires : goal.put_numbers-requires
put_numbers-requires c =
    let a = c.args in
    let heads = c.read_heads-heads.ensures in
    let e = sym heads.0 ∙ c.in_ok-nodes.was in
    (few a.delta.now a.list.now _ _ e _ _ _ heads.1, c.if-list-nodes.false, lie a.delta.now a.list.now _ _ e _ _ _ heads.1)

pub returns-in_err-nodes : goal.returns-in_err-nodes
returns-in_err-nodes c =
    let p = err_from_is_err_and c.from_residual.result c.from_residual.ensures.1 in
    let e = on-refused c.args.delta.now c.args.list.now _ _ (sym c.read_heads-heads.ensures.0 ∙ c.in_err-nodes.was) in
    rw (p.1, p.2, e) (refl, refl)

pub returns : goal.returns
returns c =
    let a = c.args in
    let heads = c.read_heads-heads.ensures in
    tells applied_told (on-good a.delta.now a.list.now _ _ (sym heads.0 ∙ c.in_ok-nodes.was) _ _ _ heads.1 c.if-list-nodes.false _ c.put_numbers.ensures)
