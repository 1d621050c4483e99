-- `delta_op::read_value` meets its contract: what is read behind the value, or its refusal. Assumes nothing.
use Prim.Native.Nat.{ℕ, ◌+◌, ◌≤◌}
use mathlib.Core.Path.{◌≡◌, ap, sym, ◌∙◌, subst}
use mathlib.Core.List.{List}
use lib.ListN.{length}
use Rattle.rules.specs.Sizes.{max_value}
use Rattle.std.specs.Prelude.{Ok}
use Rattle.delta_op.specs.declared.TextFault.{TextFault}
use Rattle.std.specs.Prelude.{Err, Result}
use Rattle.delta_op.specs.declared.Op.{Op}
use Rattle.rules.specs.declared.Refusal.{Refusal}
use Rattle.delta_op.specs.Places.{text_at, on_text, version_at, value_at, refusal_of}
use Rattle.delta_op.proofs.Reading.{TextWithin, text-within}
use Rattle.std.proofs.lemmas.Result.{err_from_is_err_and}
use Rattle.delta_op.proofs.read_value.Goals as goal

-- the value's bytes are there
there : (l : List ℕ) (at v m : ℕ) → text_at max_value l at ≡ (Ok (v, m)) → v + m ≤ length l
there l at v m e = (subst (TextWithin max_value (length l) at) e (text-within l max_value at)).1

held : (l : List ℕ) (k n v m : ℕ) (r : (Result (Op × ℕ) Refusal)) → text_at max_value l (k + n) ≡ (Ok (v, m)) → r ≡ version_at l k n v m → r ≡ value_at l k n
unfolding value_at
held l k n v m r e q = q ∙ ap (on_text (λ v m. version_at l k n v m)) (sym e)

not-read : (l : List ℕ) (k n : ℕ) (f : TextFault) (r : Result (Op × ℕ) Refusal) → text_at max_value l (k + n) ≡ Err f → r ≡ Err (refusal_of f) → r ≡ value_at l k n
unfolding value_at
not-read l k n f r e q = q ∙ ap (on_text (λ v m. version_at l k n v m)) (sym e)

pub read_version-requires : goal.read_version-requires
read_version-requires c =
    there _ _ _ _ (sym c.read_text.ensures ∙ c.in_ok-start.was)

pub returns-in_err-start : goal.returns-in_err-start
returns-in_err-start c =
    let p = err_from_is_err_and c.from_residual.result c.from_residual.ensures.1 in
    not-read _ _ _ _ _ (sym c.read_text.ensures ∙ c.in_err-start.was) (p.1 ∙ ap Err p.2)

pub returns : goal.returns
returns c =
    held _ _ _ _ _ _ (sym c.read_text.ensures ∙ c.in_ok-start.was) c.read_version.ensures
