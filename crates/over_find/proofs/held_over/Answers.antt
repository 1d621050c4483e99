-- `over_find::held_over` meets its contract: the part that was found, its bytes and where they lie, in the one slice or in the other. Assumes nothing.
use Prim.Native.Nat.{ℕ}
use mathlib.Core.Path.{◌≡◌, ap, refl, sym, subst, ◌∙◌}
use mathlib.Core.List.{List, []}
use native.Mathlib.Omega.{arith}
use native.Mathlib.Nat.{add_comm, add-zero}
use lib.ListN.{length}
use Rattle.fields.specs.Parts.{part}
use Rattle.fields.proofs.Lent.{seen}
use Rattle.over_find.specs.Over.{Within, HandsOver, part_over}
use Rattle.std.specs.Prelude.{Err, None, Ok, Option, Result, Some}
use Rattle.over_find.specs.declared.FoundOver.{FoundOver}
use Rattle.overrides.specs.declared.RefusedOver.{RefusedOver}
use Rattle.over_find.specs.declared.FoundOver.TheVariants as place
use Rattle.over_find.proofs.held_over.Goals as goal

none-there : (l : List ℕ) → [] ≡ part 0 0 l
unfolding part
none-there l = refl

-- nothing was found
module _ (o t : List ℕ) (op tp : ℕ × ℕ) where
  empty : (f g : (Result (Option FoundOver) RefusedOver)) → f ≡ g → HandsOver (part_over o t g) op tp [] tp → HandsOver (part_over o t f) op tp [] tp
  empty f g e x = subst (λ (h : (Result (Option FoundOver) RefusedOver)). HandsOver (part_over o t h) op tp [] tp) (sym e) x

pub overflow_add-result : goal.overflow_add-result
overflow_add-result c =
    let f : c.in-Ok-Some-InOverrides.field-0 ≡ Some c.in-Ok-Some-InOverrides.field-0-0 = rw c.in-Ok-Some-InOverrides.is at c.in-Ok-Some-InOverrides.field-0-is in
    let v : c.in-Ok-Some-InOverrides.field-0-0 ≡ place.InOverrides c.in-Ok-Some-InOverrides.start c.in-Ok-Some-InOverrides.len = rw (c.in-Ok-Some-InOverrides.is, f) at c.in-Ok-Some-InOverrides.field-0-0-is in
    let e : c.args.found ≡ Ok (Some (place.InOverrides c.in-Ok-Some-InOverrides.start c.in-Ok-Some-InOverrides.len)) = c.in-Ok-Some-InOverrides.is ∙ ap Ok (f ∙ ap Some v) in
    let w = subst (Within (length c.args.overrides.now) (length c.args.table.now)) e c.requires in
    omega (arith, w)

pub slice_bounds-result-end : goal.slice_bounds-result-end
slice_bounds-result-end c =
    let f : c.in-Ok-Some-InOverrides.field-0 ≡ Some c.in-Ok-Some-InOverrides.field-0-0 = rw c.in-Ok-Some-InOverrides.is at c.in-Ok-Some-InOverrides.field-0-is in
    let v : c.in-Ok-Some-InOverrides.field-0-0 ≡ place.InOverrides c.in-Ok-Some-InOverrides.start c.in-Ok-Some-InOverrides.len = rw (c.in-Ok-Some-InOverrides.is, f) at c.in-Ok-Some-InOverrides.field-0-0-is in
    let e : c.args.found ≡ Ok (Some (place.InOverrides c.in-Ok-Some-InOverrides.start c.in-Ok-Some-InOverrides.len)) = c.in-Ok-Some-InOverrides.is ∙ ap Ok (f ∙ ap Some v) in
    subst (Within (length c.args.overrides.now) (length c.args.table.now)) e c.requires

pub overflow_add-result-in-Ok-Some-InTable : goal.overflow_add-result-in-Ok-Some-InTable
overflow_add-result-in-Ok-Some-InTable c =
    let f : c.in-Ok-Some-InTable.field-0 ≡ Some c.in-Ok-Some-InTable.field-0-0 = rw c.in-Ok-Some-InTable.is at c.in-Ok-Some-InTable.field-0-is in
    let v : c.in-Ok-Some-InTable.field-0-0 ≡ place.InTable c.in-Ok-Some-InTable.start c.in-Ok-Some-InTable.len = rw (c.in-Ok-Some-InTable.is, f) at c.in-Ok-Some-InTable.field-0-0-is in
    let e : c.args.found ≡ Ok (Some (place.InTable c.in-Ok-Some-InTable.start c.in-Ok-Some-InTable.len)) = c.in-Ok-Some-InTable.is ∙ ap Ok (f ∙ ap Some v) in
    let w = subst (Within (length c.args.overrides.now) (length c.args.table.now)) e c.requires in
    omega (arith, w)

pub slice_bounds-result-end-in-Ok-Some-InTable : goal.slice_bounds-result-end-in-Ok-Some-InTable
slice_bounds-result-end-in-Ok-Some-InTable c =
    let f : c.in-Ok-Some-InTable.field-0 ≡ Some c.in-Ok-Some-InTable.field-0-0 = rw c.in-Ok-Some-InTable.is at c.in-Ok-Some-InTable.field-0-is in
    let v : c.in-Ok-Some-InTable.field-0-0 ≡ place.InTable c.in-Ok-Some-InTable.start c.in-Ok-Some-InTable.len = rw (c.in-Ok-Some-InTable.is, f) at c.in-Ok-Some-InTable.field-0-0-is in
    let e : c.args.found ≡ Ok (Some (place.InTable c.in-Ok-Some-InTable.start c.in-Ok-Some-InTable.len)) = c.in-Ok-Some-InTable.is ∙ ap Ok (f ∙ ap Some v) in
    subst (Within (length c.args.overrides.now) (length c.args.table.now)) e c.requires

pub returns-in-Ok-Some-InOverrides : goal.returns-in-Ok-Some-InOverrides
returns-in-Ok-Some-InOverrides c =
    let a = c.args in
    let f : c.in-Ok-Some-InOverrides.field-0 ≡ Some c.in-Ok-Some-InOverrides.field-0-0 = rw c.in-Ok-Some-InOverrides.is at c.in-Ok-Some-InOverrides.field-0-is in
    let v : c.in-Ok-Some-InOverrides.field-0-0 ≡ place.InOverrides c.in-Ok-Some-InOverrides.start c.in-Ok-Some-InOverrides.len = rw (c.in-Ok-Some-InOverrides.is, f) at c.in-Ok-Some-InOverrides.field-0-0-is in
    let e : c.args.found ≡ Ok (Some (place.InOverrides c.in-Ok-Some-InOverrides.start c.in-Ok-Some-InOverrides.len)) = c.in-Ok-Some-InOverrides.is ∙ ap Ok (f ∙ ap Some v) in
    rw e (seen _ _ a.overrides.now, refl, add_comm _ a.overrides.ref_ptr.1)

pub returns-in-Ok-Some-InTable : goal.returns-in-Ok-Some-InTable
returns-in-Ok-Some-InTable c =
    let a = c.args in
    let f : c.in-Ok-Some-InTable.field-0 ≡ Some c.in-Ok-Some-InTable.field-0-0 = rw c.in-Ok-Some-InTable.is at c.in-Ok-Some-InTable.field-0-is in
    let v : c.in-Ok-Some-InTable.field-0-0 ≡ place.InTable c.in-Ok-Some-InTable.start c.in-Ok-Some-InTable.len = rw (c.in-Ok-Some-InTable.is, f) at c.in-Ok-Some-InTable.field-0-0-is in
    let e : c.args.found ≡ Ok (Some (place.InTable c.in-Ok-Some-InTable.start c.in-Ok-Some-InTable.len)) = c.in-Ok-Some-InTable.is ∙ ap Ok (f ∙ ap Some v) in
    rw e (seen _ _ a.table.now, refl, add_comm _ a.table.ref_ptr.1)

pub returns-in-Ok-None : goal.returns-in-Ok-None
returns-in-Ok-None c =
    let a = c.args in
    let e : a.found ≡ Ok None = c.in-Ok-None.is ∙ ap Ok cc in
    empty a.overrides.now a.table.now a.overrides.ref_ptr a.table.ref_ptr a.found (Ok None) e (none-there a.table.now, refl, sym (add-zero a.table.ref_ptr.1))

pub returns-in-Err : goal.returns-in-Err
returns-in-Err c =
    let a = c.args in
    empty a.overrides.now a.table.now a.overrides.ref_ptr a.table.ref_ptr a.found (Err c.in-Err.field-0) c.in-Err.is (none-there a.table.now, refl, sym (add-zero a.table.ref_ptr.1))
