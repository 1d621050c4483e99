-- `over_find::lookup_over_known` meets its contract: the part that is found among all records, where the party may name the key. Assumes nothing.
use mathlib.Core.Path.{◌≡◌, refl, ap, sym, ◌∙◌}
use mathlib.Core.Bool.{true}
use native.Mathlib.Nat.{add-zero}
use Rattle.rules.specs.Party.{sees}
use Rattle.rules.specs.Layout.{decode_node, decode}
use Rattle.rules.specs.Whole.{area_of, decode_whole}
use Rattle.rules.specs.declared.Profile.{Profile}
use Rattle.table.proofs.Wholes.{whole_long, area-valid}
use Rattle.table_check.proofs.Entry.{area-long}
use Rattle.over_find.proofs.Values.{same-hands, named-within, named-hands, other-held}
use Rattle.over_find.proofs.lookup_over_known.Goals as goal

pub profile_of-requires : goal.profile_of-requires
profile_of-requires c =
    whole_long c.args.table.now c.requires.1

pub slice_bounds-find_over_good-end : goal.slice_bounds-find_over_good-end
slice_bounds-find_over_good-end c =
    area-long c.args.table.now (sym c.requires.1) refl

pub find_over_good-requires : goal.find_over_good-requires
find_over_good-requires c =
    (c.requires.0, area-valid c.args.table.now c.requires.1)

pub held_over-requires : goal.held_over-requires
held_over-requires c =
    let says : let a = c.args in c.may_name.result ≡ sees (decode_whole a.table.now).kind.profile a.party a.key.now = let a = c.args in
    c.may_name.ensures ∙ ap (λ (p : Profile). sees p a.party a.key.now) c.profile_of.ensures in
    let named : let a = c.args in sees (decode_whole a.table.now).kind.profile a.party a.key.now ≡ true = sym (says) ∙ c.if-not-may_name.false in
    let a = c.args in
    named-within a.overrides.now a.table.now c.requires.0 c.requires.1 a.party a.number a.key.now (named) _ c.find_over_good.ensures

pub returns : goal.returns
returns c =
    let says : let a = c.args in c.may_name.result ≡ sees (decode_whole a.table.now).kind.profile a.party a.key.now = let a = c.args in
    c.may_name.ensures ∙ ap (λ (p : Profile). sees p a.party a.key.now) c.profile_of.ensures in
    let named : let a = c.args in sees (decode_whole a.table.now).kind.profile a.party a.key.now ≡ true = sym (says) ∙ c.if-not-may_name.false in
    let a = c.args in
    named-hands a.overrides.now a.table.now c.requires.0 c.requires.1 a.party a.number a.key.now (named) _ c.find_over_good.ensures _ _ _ _ c.held_over.ensures

pub returns-then-not-may_name : goal.returns-then-not-may_name
returns-then-not-may_name c =
    let says : let a = c.args in c.may_name.result ≡ sees (decode_whole a.table.now).kind.profile a.party a.key.now = let a = c.args in
    c.may_name.ensures ∙ ap (λ (p : Profile). sees p a.party a.key.now) c.profile_of.ensures in
    let a = c.args in
    same-hands
    (other-held (decode_whole a.table.now).kind.profile a.party a.number a.key.now (decode_node a.overrides.now).node (decode (area_of a.table.now)) (sym (says) ∙ c.if-not-may_name.true))
    a.overrides.ref_ptr a.table.ref_ptr _ _
    (refl, refl, sym (add-zero a.table.ref_ptr.1))
