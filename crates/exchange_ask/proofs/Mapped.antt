-- What `map_err` was given, by what it gave. Assumes nothing.
use mathlib.Core.Path.{◌≡◌, refl, ap, sym, ◌∙◌, subst}
use Rattle.rules.proofs.Results.{err-is, ok-is}
use Rattle.std.specs.Prelude.{Err, Ok, Result}
use Rattle.std.specs.Result.{IsErrAnd, MatchResult, is_err}
use Rattle.std.proofs.lemmas.Bool.{false≢true}
use Rattle.std.proofs.lemmas.Result.{err_from_is_err_and}

module _ {T E D : Type 0} (Q : E → D → Type 0) where
  -- the error that became this one
  pub mapped-err : (a : Result T E) (m : Result T D) → MatchResult a (λ x. m ≡ Ok x) (λ e. IsErrAnd m (Q e)) → (d : D) → m ≡ Err d → (e : E) × (a ≡ Err e) × Q e d
  mapped-err (Ok x) m h d e = absurd (false≢true (ap is_err (sym h ∙ e)))
  mapped-err (Err r) m h d e =
      let p = err_from_is_err_and m h in
      (r, refl, subst (Q r) (err-is _ _ (sym p.1 ∙ e)) p.2)

  -- a value is the same
  pub mapped-ok : (a : Result T E) (m : Result T D) → MatchResult a (λ x. m ≡ Ok x) (λ e. IsErrAnd m (Q e)) → (x : T) → m ≡ Ok x → a ≡ Ok x
  mapped-ok (Ok y) m h x e = ap Ok (ok-is _ _ (sym h ∙ e))
  mapped-ok (Err r) m h x e =
      let p = err_from_is_err_and m h in
      absurd (false≢true (ap is_err (sym e ∙ p.1)))
