-- `exchange_ask::forms_fit` meets its contract. Assumes nothing.
use Prim.Native.Nat.{ℕ}
use mathlib.Core.Bool.{true}
use mathlib.Core.List.{List}
use mathlib.Core.Path.{◌≡◌, ◌∙◌, ap, refl, subst, sym}
use native.Mathlib.Omega.{arith}
use lib.Seq.{length-take-le}
use Rattle.rules.specs.Answers.{profile_of}
use Rattle.rules.specs.Layout.{table_width}
use Rattle.rules.specs.Profile.{table_formed}
use Rattle.rules.specs.Whole.{area_of, decode_whole, profile_of_byte, valid_whole}
use Rattle.rules.specs.declared.Profile.{Profile}
use Rattle.rules.specs.declared.Profile.TheVariants.{Free, Meter, Shared}
use Rattle.rules.proofs.Formed.{free-formed, table-formed}
use Rattle.table.proofs.Tables.{valid-laid}
use Rattle.table.proofs.Wholes.{area-formed, area-valid, whole_long}
use Rattle.exchange_ask.proofs.forms_fit.Goals as goal

-- one byte, one profile
back : (p : Profile) → profile_of_byte (profile_of p) ≡ p
back Free = refl
back Meter = refl
back Shared = refl

-- a good table is in the form of its own profile
own-formed : (l : List ℕ) → valid_whole l ≡ true → (p own : Profile) → profile_of p ≡ profile_of own → own ≡ (decode_whole l).kind.profile → true ≡ table_formed p (decode_whole l).table
own-formed l v p own e q =
    let r : p ≡ (decode_whole l).kind.profile = sym (back p) ∙ ap profile_of_byte e ∙ back own ∙ q in
    sym (subst (λ (x : Profile). table_formed x (decode_whole l).table ≡ true) (sym r) (table-formed (decode_whole l).kind.profile (decode_whole l).table (area-formed l v)))

pub profile_of-own-requires : goal.profile_of-own-requires
profile_of-own-requires c =
    whole_long c.args.publisher.now c.requires

pub returns-then-byte : goal.returns-then-byte
returns-then-byte c =
    own-formed c.args.publisher.now c.requires c.args.profile _ (sym c.byte.ensures ∙ c.if-byte.true ∙ c.byte-2.ensures) c.profile_of-own.ensures

pub slice_bounds-check_forms-end : goal.slice_bounds-check_forms-end
slice_bounds-check_forms-end c =
    sym (length-take-le table_width c.args.publisher.now (omega (arith, whole_long c.args.publisher.now c.requires)))

pub check_forms-requires : goal.check_forms-requires
check_forms-requires c =
    valid-laid (area_of c.args.publisher.now) (area-valid c.args.publisher.now c.requires)

pub returns-in-Free : goal.returns-in-Free
returns-in-Free c =
    let t = (decode_whole c.args.publisher.now).table in
    sym (ap (λ (p : Profile). table_formed p t) c.in-Free.is ∙ table-formed Free t (free-formed t))
