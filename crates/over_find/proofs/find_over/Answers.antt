-- `over_find::find_over` meets its contract: 14 of the overrides, 14 of the table, or what is found in good ones. Assumes nothing.
use mathlib.Core.Path.{ap, sym, ◌∙◌}
use Rattle.rules.specs.Whole.{decode_whole}
use Rattle.rules.specs.declared.Refusal.TheVariants.{BadTable}
use Rattle.overrides.proofs.Both.{bad-over, bad-under, good-both}
use Rattle.over_find.specs.Over.{found_over}
use Rattle.over_find.specs.Told.{found_over_told}
use Rattle.std.specs.Prelude.{Err}
use Rattle.over_find.proofs.find_over.Goals as goal

pub find_over_known-requires : goal.find_over_known-requires
find_over_known-requires c =
    (sym c.check_overrides.ensures ∙ c.if-not-check_overrides.false, sym c.check_table.ensures ∙ c.if-not-check_table.false)

pub returns : goal.returns
returns c =
    let a = c.args in
    ap found_over_told
    (good-both (λ w. (Err (record { which = w; why = BadTable }))) (found_over (decode_whole a.table.now).kind.profile a.party a.number a.key.now) a.overrides.now a.table.now c.check_overrides.ensures
    c.if-not-check_overrides.false c.check_table.ensures c.if-not-check_table.false c.find_over_known.result c.find_over_known.ensures)

pub returns-then-not-check_table : goal.returns-then-not-check_table
returns-then-not-check_table c =
    let a = c.args in
    ap found_over_told
    (bad-under (λ w. (Err (record { which = w; why = BadTable }))) (found_over (decode_whole a.table.now).kind.profile a.party a.number a.key.now) a.overrides.now a.table.now
    c.check_overrides.ensures c.if-not-check_overrides.false c.check_table.ensures c.if-not-check_table.true)

pub returns-then-not-check_overrides : goal.returns-then-not-check_overrides
returns-then-not-check_overrides c =
    let a = c.args in
    ap found_over_told
    (bad-over (λ w. (Err (record { which = w; why = BadTable }))) (found_over (decode_whole a.table.now).kind.profile a.party a.number a.key.now) a.overrides.now a.table.now c.check_overrides.ensures c.if-not-check_overrides.true)
