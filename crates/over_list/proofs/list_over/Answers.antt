-- `over_list::list_over` meets its contract: 14 of the overrides, 14 of the table, or the listing in good ones. Assumes nothing.
use mathlib.Core.Path.{sym, ◌∙◌}
use Rattle.rules.specs.Given.{given}
use Rattle.rules.specs.Whole.{decode_whole}
use Rattle.rules.specs.declared.Refusal.TheVariants.{BadTable}
use Rattle.rules.proofs.Unique.{tells}
use Rattle.overrides.proofs.Both.{bad-over-fills, bad-under-fills}
use Rattle.over_list.specs.Merged.{list_over}
use Rattle.over_list.specs.Told.{listed_over_told}
use Rattle.std.specs.Prelude.{Err}
use Rattle.over_list.proofs.list_over.Goals as goal

pub list_over_known-requires : goal.list_over_known-requires
list_over_known-requires c =
    (sym c.check_overrides.ensures ∙ c.if-not-check_overrides.false, sym c.check_table.ensures ∙ c.if-not-check_table.false)

pub returns : goal.returns
returns c =
    tells listed_over_told c.list_over_known.ensures

pub returns-then-not-check_table : goal.returns-then-not-check_table
returns-then-not-check_table c =
    let a = c.args in
    tells listed_over_told
    (bad-under-fills (λ w. given (Err (record { which = w; why = BadTable })) a.out.now) (list_over (decode_whole a.table.now).kind.profile a.party a.number a.prefix.now a.out.now) a.overrides.now a.table.now
    c.check_overrides.ensures c.if-not-check_overrides.false c.check_table.ensures c.if-not-check_table.true)

pub returns-then-not-check_overrides : goal.returns-then-not-check_overrides
returns-then-not-check_overrides c =
    let a = c.args in
    tells listed_over_told
    (bad-over-fills (λ w. given (Err (record { which = w; why = BadTable })) a.out.now) (list_over (decode_whole a.table.now).kind.profile a.party a.number a.prefix.now a.out.now) a.overrides.now a.table.now
    c.check_overrides.ensures c.if-not-check_overrides.true)
