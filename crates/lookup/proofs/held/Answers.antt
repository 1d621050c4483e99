-- `lookup::held` meets its contract: the part that was found, its bytes and where they lie. Assumes nothing.
use Prim.Native.Nat.{ℕ, ◌+◌}
use mathlib.Core.Path.{◌≡◌, refl, ap, sym, subst, ◌∙◌}
use mathlib.Core.List.{List, []}
use native.Mathlib.Omega.{arith}
use native.Mathlib.Nat.{add_comm, add-zero}
use lib.ListN.{length}
use Rattle.fields.specs.Parts.{part}
use Rattle.fields.proofs.Lent.{seen}
use Rattle.lookup.specs.Lookup.{start_of, len_of, Within}
use Rattle.std.specs.Prelude.{Err, None, Ok, Option, Result, Some}
use Rattle.lookup.specs.declared.Found.{Found}
use Rattle.rules.specs.declared.Refusal.{Refusal}
use Rattle.lookup.proofs.held.Goals as goal

-- the bytes and the place where nothing was found
no_part : (l : List ℕ) (f g : (Result (Option Found) Refusal)) → start_of g ≡ 0 → len_of g ≡ 0 → f ≡ g → [] ≡ part (start_of f) (len_of f) l
unfolding part
no_part l f g s n e = rw (e, s, n) refl

no_start : (f g : (Result (Option Found) Refusal)) (p : ℕ) → start_of g ≡ 0 → f ≡ g → p ≡ p + start_of f
no_start f g p s e = rw (e, s) (sym (add-zero p))

pub overflow_add-result : goal.overflow_add-result
overflow_add-result c =
    let e : c.args.found ≡ Ok (Some c.in-Ok-Some.field-0-0) = c.in-Ok-Some.is ∙ ap Ok cc in
    let f = subst (Within (length c.args.table.now)) e c.requires in
    rw e (omega (arith, f))

pub slice_bounds-result-end : goal.slice_bounds-result-end
slice_bounds-result-end c =
    let e : c.args.found ≡ Ok (Some c.in-Ok-Some.field-0-0) = c.in-Ok-Some.is ∙ ap Ok cc in
    rw e (subst (Within (length c.args.table.now)) e c.requires)

pub returns-in-Ok-Some : goal.returns-in-Ok-Some
returns-in-Ok-Some c =
    let a = c.args in
    let e : c.args.found ≡ Ok (Some c.in-Ok-Some.field-0-0) = c.in-Ok-Some.is ∙ ap Ok cc in
    rw e (seen _ _ a.table.now, refl, add_comm _ a.table.ref_ptr.1)

pub returns-in-Ok-None : goal.returns-in-Ok-None
returns-in-Ok-None c =
    let a = c.args in
    let e : a.found ≡ Ok None = c.in-Ok-None.is ∙ ap Ok cc in
    (no_part a.table.now a.found (Ok None) refl refl e, refl, no_start a.found (Ok None) a.table.ref_ptr.1 refl e)

pub returns-in-Err : goal.returns-in-Err
returns-in-Err c =
    let a = c.args in
    (no_part a.table.now a.found (Err c.in-Err.field-0) refl refl c.in-Err.is, refl, no_start a.found (Err c.in-Err.field-0) a.table.ref_ptr.1 refl c.in-Err.is)
