-- `lookup::lookup_known` meets its contract: the part that is found among all records, where the party may name the key. Assumes nothing.
use Prim.Native.Nat.{ℕ, ◌+◌}
use mathlib.Core.Path.{◌≡◌, refl, ap, sym, ◌∙◌}
use mathlib.Core.Bool.{true}
use native.Mathlib.Nat.{add-zero}
use Rattle.rules.specs.Party.{sees}
use Rattle.rules.specs.Layout.{decode}
use Rattle.rules.specs.Whole.{area_of, decode_whole}
use Rattle.rules.specs.declared.Profile.{Profile}
use Rattle.table.proofs.Wholes.{whole_long, area-valid}
use Rattle.table_check.proofs.Entry.{area-long}
use Rattle.own_rows.specs.Sight.{front_in}
use Rattle.lookup.proofs.Values.{found_within, hands-found}
use Rattle.lookup.proofs.Seen.{other-value, other_place, whole-found, whole-stands}
use Rattle.lookup.proofs.lookup_known.Goals as goal

pub profile_of-requires : goal.profile_of-requires
profile_of-requires c =
    whole_long c.args.table.now c.requires

pub slice_bounds-find_good-end : goal.slice_bounds-find_good-end
slice_bounds-find_good-end c =
    area-long c.args.table.now (sym c.requires) refl

pub find_good-requires : goal.find_good-requires
find_good-requires c =
    area-valid c.args.table.now c.requires

pub held-requires : goal.held-requires
held-requires c =
    let says : let a = c.args in c.may_name.result ≡ sees (decode_whole a.table.now).kind.profile a.party a.key.now = let a = c.args in
    c.may_name.ensures ∙ ap (λ (p : Profile). sees p a.party a.key.now) c.profile_of.ensures in
    let named : let a = c.args in sees (decode_whole a.table.now).kind.profile a.party a.key.now ≡ true = sym (says) ∙ c.if-not-may_name.false in
    let a = c.args in
    found_within a.table.now (c.find_good.ensures ∙ whole-found a.table.now c.requires a.party a.number a.key.now (named)) _
    (whole-stands a.table.now c.requires a.party a.number a.key.now (named))

pub returns : goal.returns
returns c =
    let says : let a = c.args in c.may_name.result ≡ sees (decode_whole a.table.now).kind.profile a.party a.key.now = let a = c.args in
    c.may_name.ensures ∙ ap (λ (p : Profile). sees p a.party a.key.now) c.profile_of.ensures in
    let named : let a = c.args in sees (decode_whole a.table.now).kind.profile a.party a.key.now ≡ true = sym (says) ∙ c.if-not-may_name.false in
    let a = c.args in
    hands-found a.table.now (c.find_good.ensures ∙ whole-found a.table.now c.requires a.party a.number a.key.now (named)) _
    (whole-stands a.table.now c.requires a.party a.number a.key.now (named)) _ _ _ c.held.ensures

pub returns-then-not-may_name : goal.returns-then-not-may_name
returns-then-not-may_name c =
    let says : let a = c.args in c.may_name.result ≡ sees (decode_whole a.table.now).kind.profile a.party a.key.now = let a = c.args in
    c.may_name.ensures ∙ ap (λ (p : Profile). sees p a.party a.key.now) c.profile_of.ensures in
    let a = c.args in
    let p : Profile = (decode_whole a.table.now).kind.profile in
    let h = sym (says) ∙ c.if-not-may_name.true in
    let t = decode (area_of a.table.now) in (
      other-value p a.party a.number a.key.now t h,
      refl,
      sym (add-zero a.table.ref_ptr.1)
          ∙ ap (λ (m : ℕ). a.table.ref_ptr.1 + m) (other_place p a.party a.number a.key.now t h (front_in p a.party a.number t)),
    )
