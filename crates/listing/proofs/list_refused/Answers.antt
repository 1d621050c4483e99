-- `listing::list_refused` meets its contract: by the number. Assumes nothing.
use Prim.Native.Nat.{ℕ}
use mathlib.Core.Path.{◌≡◌}
use mathlib.Core.List.{List}
use borrow.Author.Tests.{eq-eqb, ne_eqb}
use Rattle.rules.specs.Given.{Gives}
use Rattle.rules.specs.Digest.{write_bytes}
use Rattle.std.specs.Prelude.{Result}
use Rattle.rules.specs.declared.Refusal.{Refusal}
use Rattle.listing.specs.Shapes.{cut_text, fault_text, refused_text}
use Rattle.listing.proofs.list_refused.Goals as goal

module _ (code at need : ℕ) (out left : List ℕ) (r : (Result ℕ Refusal)) where
  of_cut : code ≡ 9 → Gives (write_bytes (cut_text code at need) 0 out) r left → Gives (write_bytes (refused_text code at need) 0 out) r left
  of_cut e h = rw (eq-eqb code 9 e) h

  of-fault : (code ≡ 9 → ⊥) → Gives (write_bytes (fault_text code at) 0 out) r left → Gives (write_bytes (refused_text code at need) 0 out) r left
  of-fault e h = rw (ne_eqb code 9 e) h

pub returns-then-code-eq-CUT_NUMBER : goal.returns-then-code-eq-CUT_NUMBER
returns-then-code-eq-CUT_NUMBER c =
    let a = c.args in
    of_cut a.code a.at a.need a.out.now _ _ c.if-code-eq-CUT_NUMBER.true c.list_cut.ensures

pub returns : goal.returns
returns c =
    let a = c.args in
    of-fault a.code a.at a.need a.out.now _ _ c.if-code-eq-CUT_NUMBER.false c.list_fault.ensures
