-- `delta_op::read_key_value` meets its contract: what is read behind the key, or its refusal. Assumes nothing.
use Prim.Native.Nat.{ℕ, ◌+◌, ◌≤◌}
use mathlib.Core.Path.{◌≡◌, ap, sym, ◌∙◌, subst}
use lib.ListN.{length}
use Rattle.fields.specs.Numbers.{Bytes}
use Rattle.rules.specs.Sizes.{max_key}
use Rattle.rules.specs.Delta.{byte_width}
use Rattle.std.specs.Prelude.{Ok}
use Rattle.delta_op.specs.declared.TextFault.{TextFault}
use Rattle.std.specs.Prelude.{Err, Result}
use Rattle.delta_op.specs.declared.Op.{Op}
use Rattle.rules.specs.declared.Refusal.{Refusal}
use Rattle.delta_op.specs.Places.{text_at, on_text, value_at, key_value_at, refusal_of}
use Rattle.delta_op.proofs.Reading.{TextWithin, text-within}
use Rattle.std.proofs.lemmas.Result.{err_from_is_err_and}
use Rattle.delta_op.proofs.read_key_value.Goals as goal

-- the key's bytes are there
there : (l : Bytes) (at k n : ℕ) → text_at max_key l at ≡ (Ok (k, n)) → k + n ≤ length l
there l at k n e = (subst (TextWithin max_key (length l) at) e (text-within l max_key at)).1

held : (l : Bytes) (at k n : ℕ) (r : (Result (Op × ℕ) Refusal)) → text_at max_key l (at + byte_width) ≡ (Ok (k, n)) → r ≡ value_at l k n → r ≡ key_value_at l at
unfolding key_value_at
held l at k n r e q = q ∙ ap (on_text (λ k n. value_at l k n)) (sym e)

not-read : (l : Bytes) (at : ℕ) (f : TextFault) (r : Result (Op × ℕ) Refusal) → text_at max_key l (at + byte_width) ≡ Err f → r ≡ Err (refusal_of f) → r ≡ key_value_at l at
unfolding key_value_at
not-read l at f r e q = q ∙ ap (on_text (λ k n. value_at l k n)) (sym e)

pub read_value-requires : goal.read_value-requires
read_value-requires c =
    there _ _ _ _ (sym c.read_text.ensures ∙ c.in_ok-start.was)

pub returns-in_err-start : goal.returns-in_err-start
returns-in_err-start c =
    let p = err_from_is_err_and c.from_residual.result c.from_residual.ensures.1 in
    not-read _ _ _ _ (sym c.read_text.ensures ∙ c.in_err-start.was) (p.1 ∙ ap Err p.2)

pub returns : goal.returns
returns c =
    held _ _ _ _ _ (sym c.read_text.ensures ∙ c.in_ok-start.was) c.read_value.ensures
