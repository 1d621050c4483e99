-- `over_find::lookup_over` meets its contract: nothing where either is bad (14), or what is handed out of good ones. Assumes nothing.
use mathlib.Core.Path.{refl, sym, ◌∙◌}
use native.Mathlib.Nat.{add-zero}
use Rattle.rules.specs.Whole.{decode_whole}
use Rattle.overrides.proofs.Both.{bad-over, bad-under, good-both}
use Rattle.over_find.specs.Over.{nothing_held, value_over}
use Rattle.over_find.proofs.Values.{same-hands}
use Rattle.over_find.proofs.lookup_over.Goals as goal

pub lookup_over_known-requires : goal.lookup_over_known-requires
lookup_over_known-requires c =
    (sym c.check_overrides.ensures ∙ c.if-not-check_overrides.false, sym c.check_table.ensures ∙ c.if-not-check_table.false)

pub returns : goal.returns
returns c =
    let a = c.args in
    same-hands
    (good-both (λ w. nothing_held) (value_over (decode_whole a.table.now).kind.profile a.party a.number a.key.now) a.overrides.now a.table.now c.check_overrides.ensures
    c.if-not-check_overrides.false c.check_table.ensures c.if-not-check_table.false _ refl)
    a.overrides.ref_ptr a.table.ref_ptr _ _ c.lookup_over_known.ensures

pub returns-then-not-check_table : goal.returns-then-not-check_table
returns-then-not-check_table c =
    let a = c.args in
    same-hands
    (bad-under (λ w. nothing_held) (value_over (decode_whole a.table.now).kind.profile a.party a.number a.key.now) a.overrides.now a.table.now
    c.check_overrides.ensures c.if-not-check_overrides.false c.check_table.ensures c.if-not-check_table.true)
    a.overrides.ref_ptr a.table.ref_ptr _ _ (refl, refl, sym (add-zero a.table.ref_ptr.1))

pub returns-then-not-check_overrides : goal.returns-then-not-check_overrides
returns-then-not-check_overrides c =
    let a = c.args in
    same-hands
    (bad-over (λ w. nothing_held) (value_over (decode_whole a.table.now).kind.profile a.party a.number a.key.now) a.overrides.now a.table.now c.check_overrides.ensures
    c.if-not-check_overrides.true)
    a.overrides.ref_ptr a.table.ref_ptr _ _ (refl, refl, sym (add-zero a.table.ref_ptr.1))
