-- `library::kev_write` meets its contract: the write by the number's party; that of the number's status is the write of the number. Assumes nothing.
use Prim.Native.Nat.{ℕ}
use mathlib.Core.Path.{ap, subst, ◌∙◌}
use mathlib.Core.List.{List}
use Rattle.rules.specs.Answers.{answer_told}
use Rattle.rules.specs.Given.{Given, Tells}
use Rattle.std.specs.Prelude.{Result}
use Rattle.rules.specs.declared.Refusal.{Refusal}
use Rattle.local.proofs.Asking.{number-lent}
use Rattle.answers.specs.Shown.{number_shown}
use Rattle.library.proofs.kev_write.Goals as goal

pub returns : goal.returns
returns c =
    let a = c.args in
    let b = c.of_number in
    let s = c.wanted in
    let w = c.write in
    let q = number-lent b.result a.value.now a.clock a.number a.key.now a.wanted s.result s.ensures a.table.now in
    let e = rw b.ensures at (subst (λ (o : Given (Result (Unit {0}) Refusal) (List ℕ)). Tells answer_told o w.result w.new.table) q w.ensures) in
    (c.number.ensures ∙ ap number_shown e.0, e.1)
