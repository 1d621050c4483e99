-- `library::good::kev_good_write` meets its contract: the call on a good table, and what its answer tells. Assumes nothing.
use Prim.Native.Nat.{ℕ}
use mathlib.Core.Path.{ap, subst, ◌∙◌}
use mathlib.Core.List.{List}
use Rattle.rules.specs.Given.{Given, Gives}
use Rattle.rules.specs.Answers.{answer_told}
use Rattle.std.specs.Prelude.{Result}
use Rattle.rules.specs.declared.Refusal.{Refusal}
use Rattle.local.proofs.Asking.{number-lent}
use Rattle.answers.specs.Shown.{number_shown}
use Rattle.library.proofs.good.kev_good_write.Goals as goal

pub returns : goal.returns
returns c =
    let b = c.of_number in
    let w = c.write_known in
    let x = c.wanted in
    let a = c.args in
    let q = number-lent b.result a.value.now a.clock a.number a.key.now a.wanted x.result x.ensures a.table.now in
    let g = rw b.ensures at (subst (λ (o : Given (Result (Unit {0}) Refusal) (List ℕ)). Gives o w.result w.new.table) q w.ensures) in
    (c.number.ensures ∙ ap (λ (a : (Result (Unit {0}) Refusal)). number_shown (answer_told a)) g.0, g.1)
