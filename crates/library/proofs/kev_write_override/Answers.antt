-- `library::kev_write_override` meets its contract: the write of the number's status is the write of the number. Assumes nothing.
use Prim.Native.Nat.{ℕ}
use mathlib.Core.Path.{ap, subst, ◌∙◌}
use mathlib.Core.List.{List}
use Rattle.rules.specs.Answers.{answer_told}
use Rattle.rules.specs.Given.{Given, Tells}
use Rattle.std.specs.Prelude.{Result}
use Rattle.rules.specs.declared.Refusal.{Refusal}
use Rattle.answers.specs.Shown.{number_shown}
use Rattle.library.proofs.Numbers.{number-override}
use Rattle.library.proofs.kev_write_override.Goals as goal

pub returns : goal.returns
returns c =
    let a = c.args in
    let s = c.wanted in
    let w = c.write_override in
    let q = number-override a.value.now a.clock a.key.now a.wanted s.result s.ensures a.overrides.now in
    let e = subst (λ (o : Given (Result (Unit {0}) Refusal) (List ℕ)). Tells answer_told o w.result w.new.overrides) q w.ensures in
    (c.number.ensures ∙ ap number_shown e.0, e.1)
