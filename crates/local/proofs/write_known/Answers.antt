-- `local::write_known` meets its contract: the call that the wanted status asks for, or 10. Assumes nothing.
use mathlib.Core.Path.{◌≡◌, sym, ◌∙◌}
use native.Mathlib.Omega.{arith}
use Rattle.std.specs.Prelude.{None, Some}
use Rattle.std.proofs.lemmas.Result.{err_from_is_err_and}
use Rattle.rules.specs.declared.Refusal.TheVariants.{BadTag}
use Rattle.local.specs.Wanted.{asked_by}
use Rattle.local.proofs.Asking.{call-gives, none-gives}
use Rattle.local.proofs.write_known.Goals as goal

pub returns-in_err-kind : goal.returns-in_err-kind
returns-in_err-kind c =
    let a = c.args in
    let none : asked_by a.wanted ≡ None = sym c.asked_call.ensures ∙ grind arith in
    let why : c.in_err-kind.field-0.0 ≡ BadTag = grind arith in
    let p = err_from_is_err_and c.from_residual.result c.from_residual.ensures.1 in
    rw (p.1, p.2, why) (none-gives a.party a.value.now a.clock a.number a.key.now a.wanted a.table.now c.requires none)

pub returns : goal.returns
returns c =
    let a = c.args in
    let w = c.call_known in
    let asked : asked_by a.wanted ≡ Some c.in_ok-kind.kind = sym c.asked_call.ensures ∙ grind arith in
    call-gives a.party a.value.now a.clock a.number a.key.now a.wanted a.table.now c.in_ok-kind.kind asked w.result w.new.table w.ensures
