-- `delta_form::read_formed` meets its contract. Assumes nothing.
use Prim.Native.Nat.{ℕ, ◌≤◌, ◌<◌}
use mathlib.Core.List.{List}
use mathlib.Core.Path.{◌≡◌, ap, refl, sym, subst, ◌∙◌}
use native.Mathlib.Omega.{arith}
use lib.Dec.{ltb}
use lib.ListN.{length}
use borrow.Author.Tests.{lt-ltb, le-ltb}
use Rattle.fields.proofs.Choice.{pick_true, pick-false}
use Rattle.rules.specs.Delta.{delta_read}
use Rattle.rules.specs.Profile.{odd_number}
use Rattle.std.specs.Prelude.{Err, Result}
use Rattle.rules.specs.declared.DeltaFault.{DeltaFault}
use Rattle.rules.specs.declared.DeltaRead.{DeltaRead}
use Rattle.rules.specs.declared.Profile.{Profile}
use Rattle.rules.specs.declared.Refusal.{Refusal}
use Rattle.delta_form.specs.Forming.{delta_read_as, end_of, odd_place, unless_odd}
use Rattle.delta_form.proofs.Formed.{end-within, formed-read}
use Rattle.delta_form.proofs.read_formed.Goals as goal

module _ (p : Profile) (l : List ℕ) (r : (Result DeltaRead DeltaFault)) (is : r ≡ delta_read l) (end odd : ℕ) (e : end ≡ end_of (length l) r) (o : odd ≡ odd_place p l end) where
  whole : delta_read_as p l ≡ unless_odd p odd end r
  whole =
      formed-read p l
      ∙ ap (λ (x : (Result DeltaRead DeltaFault)). unless_odd p (odd_place p l (end_of (length l) x)) (end_of (length l) x) x) (sym is)
      ∙ ap (λ (k : ℕ). unless_odd p (odd_place p l k) k r) (sym e)
      ∙ ap (λ (k : ℕ). unless_odd p k end r) (sym o)

  is_odd : odd < end → (why : Refusal) → why ≡ odd_number p → (Err (record { why = why; at = odd })) ≡ delta_read_as p l
  is_odd h why n = ap (λ (x : Refusal). (Err (record { why = x; at = odd }))) n ∙ sym (whole ∙ pick_true (ltb odd end) (Err (record { why = (odd_number p); at = odd })) r (lt-ltb odd end h))

  is-formed : end ≤ odd → r ≡ delta_read_as p l
  is-formed h = sym (whole ∙ pick-false (ltb odd end) (Err (record { why = (odd_number p); at = odd })) r (le-ltb odd end h))

  within : end ≤ length l
  within = let z : end_of (length l) r ≤ length l = subst (λ (x : (Result DeltaRead DeltaFault)). end_of (length l) x ≤ length l) (sym is) (end-within l) in omega (arith, e, z)

pub first_odd-odd-requires : goal.first_odd-odd-requires
first_odd-odd-requires c =
    within c.args.profile c.args.delta.now c.args.read c.requires _ _ c.end_of-end.ensures refl

pub returns-then-odd-end : goal.returns-then-odd-end
returns-then-odd-end c =
    is_odd c.args.profile c.args.delta.now c.args.read c.requires _ _ c.end_of-end.ensures c.first_odd-odd.ensures c.if-odd-end.true _ c.odd_number.ensures

pub returns : goal.returns
returns c =
    is-formed c.args.profile c.args.delta.now c.args.read c.requires _ _ c.end_of-end.ensures c.first_odd-odd.ensures c.if-odd-end.false
