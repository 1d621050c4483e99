-- `inspect_text::held_behind` meets its contract: the part that was found, moved by the front. Assumes nothing.
use Prim.Native.Nat.{ℕ, ◌+◌}
use mathlib.Core.Path.{◌≡◌, refl, ap, sym, subst, ◌∙◌}
use mathlib.Core.List.{List, []}
use native.Mathlib.Omega.{arith}
use native.Mathlib.Nat.{add-zero}
use lib.ListN.{length}
use Rattle.lookup.specs.Lookup.{start_of, len_of, Within, Hands, part_of, moved_by}
use Rattle.std.specs.Prelude.{Err, None, Ok, Option, Result, Some}
use Rattle.lookup.specs.declared.Found.{Found}
use Rattle.rules.specs.declared.Refusal.{Refusal}
use Rattle.lookup.proofs.Values.{refused-stands, same-hands}
use Rattle.inspect_text.proofs.held_behind.Goals as goal

-- what was told is this
moved : (l : List ℕ) (m : ℕ) (f g : (Result (Option Found) Refusal)) → f ≡ g → part_of l (moved_by m g) ≡ part_of l (moved_by m f)
moved l m f g e = ap (λ (x : (Result (Option Found) Refusal)). part_of l (moved_by m x)) (sym e)

-- nothing was
nothing : (l : List ℕ) (m : ℕ) (f g : (Result (Option Found) Refusal)) → start_of (moved_by m g) ≡ 0 → len_of (moved_by m g) ≡ 0 → f ≡ g → (t : ℕ × ℕ) → Hands (part_of l (moved_by m f)) t [] t
nothing l m f g s n e t =
    same-hands (moved l m f g e) t t []
    (sym (refused-stands l (moved_by m g) s n).1, refl, sym (add-zero t.1) ∙ ap (λ (k : ℕ). t.1 + k) (sym s))

pub overflow_add-start : goal.overflow_add-start
overflow_add-start c =
    let e : c.args.told ≡ Ok (Some c.in-Ok-Some.field-0-0) = c.in-Ok-Some.is ∙ ap Ok cc in
    let f = subst (λ (x : (Result (Option Found) Refusal)). Within (length c.args.table.now) (moved_by c.args.front x)) e c.requires in
    rw e (omega (arith, f))

pub held-requires : goal.held-requires
held-requires c =
    let e : c.args.told ≡ Ok (Some c.in-Ok-Some.field-0-0) = c.in-Ok-Some.is ∙ ap Ok cc in
    rw e (subst (λ (x : (Result (Option Found) Refusal)). Within (length c.args.table.now) (moved_by c.args.front x)) e c.requires)

pub returns-in-Ok-Some : goal.returns-in-Ok-Some
returns-in-Ok-Some c =
    let e : c.args.told ≡ Ok (Some c.in-Ok-Some.field-0-0) = c.in-Ok-Some.is ∙ ap Ok cc in
    rw e (rw e at c.held.ensures)

pub returns-in-Ok-None : goal.returns-in-Ok-None
returns-in-Ok-None c =
    let a = c.args in
    let e : a.told ≡ Ok None = c.in-Ok-None.is ∙ ap Ok cc in
    nothing a.table.now a.front a.told (Ok None) refl refl e a.table.ref_ptr

pub returns-in-Err : goal.returns-in-Err
returns-in-Err c =
    let a = c.args in
    nothing a.table.now a.front a.told (Err c.in-Err.field-0) refl refl c.in-Err.is a.table.ref_ptr
