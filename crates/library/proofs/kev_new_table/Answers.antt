-- `library::kev_new_table` meets its contract: the mode and the profile of the numbers, where each stands for one. Assumes nothing.
use Prim.Native.Nat.{ℕ}
use mathlib.Core.Path.{ap, subst, ◌∙◌}
use mathlib.Core.List.{List}
use Rattle.rules.specs.Answers.{answer_told}
use Rattle.rules.specs.Given.{Given, Tells}
use Rattle.std.specs.Prelude.{Result}
use Rattle.rules.specs.declared.Refusal.{Refusal}
use Rattle.answers.specs.Shown.{number_shown}
use Rattle.library.proofs.Numbers.{no_mode, no-profile, made_in}
use Rattle.library.proofs.kev_new_table.Goals as goal

pub returns-then-byte-mode : goal.returns-then-byte-mode
unfolding answer_told
returns-then-byte-mode c =
    let a = c.args in
    let g = no_mode a.mode a.profile a.table.now c.of_byte-chosen.result c.of_byte-chosen.ensures c.byte.result c.byte.ensures c.if-byte-mode.true in
    (c.number.ensures ∙ ap (λ (a : (Result (Unit {0}) Refusal)). number_shown (answer_told a)) g.0, g.1)

pub returns-then-byte-profile : goal.returns-then-byte-profile
unfolding answer_told
returns-then-byte-profile c =
    let a = c.args in
    let g = no-profile a.mode a.profile a.table.now c.of_byte-chosen.result c.of_byte-chosen.ensures c.byte.result c.byte.ensures c.if-byte-mode.false c.of_byte-form.result c.of_byte-form.ensures
    c.byte-2.result c.byte-2.ensures c.if-byte-profile.true in
    (c.number-then-byte-profile.ensures ∙ ap (λ (a : (Result (Unit {0}) Refusal)). number_shown (answer_told a)) g.0, g.1)

pub returns : goal.returns
returns c =
    let w = c.new_table in
    let a = c.args in
    let q = made_in a.mode a.profile a.table.now c.of_byte-chosen.result c.of_byte-chosen.ensures c.byte.result c.byte.ensures c.if-byte-mode.false c.of_byte-form.result c.of_byte-form.ensures
    c.byte-2.result c.byte-2.ensures c.if-byte-profile.false in
    let e = subst (λ (o : Given (Result (Unit {0}) Refusal) (List ℕ)). Tells answer_told o w.result w.new.table) q w.ensures in
    (c.number-2.ensures ∙ ap number_shown e.0, e.1)
