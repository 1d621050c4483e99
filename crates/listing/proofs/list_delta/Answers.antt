-- `listing::list_delta` meets its contract: the listing by what reading has answered. Assumes nothing.
use Prim.Native.Nat.{ℕ}
use mathlib.Core.Path.{◌≡◌, ap₂, sym, ◌∙◌}
use mathlib.Core.List.{List}
use Rattle.rules.specs.Answers.{written_told}
use Rattle.rules.specs.Given.{Gives}
use Rattle.rules.specs.Digest.{write_bytes}
use Rattle.std.specs.Prelude.{Result}
use Rattle.rules.specs.declared.Refusal.{Refusal}
use Rattle.rules.proofs.Told.{same_read}
use Rattle.rules.proofs.Unique.{tells}
use Rattle.listing.specs.Shapes.{refused_text}
use Rattle.listing.proofs.Lines.{listing-good, listing-refused}
use Rattle.listing.proofs.list_delta.Goals as goal

as-listing : (text other out left : List ℕ) (r : Result ℕ Refusal) → text ≡ other → Gives (write_bytes other 0 out) r left → Gives (write_bytes text 0 out) r left
as-listing text other out left r e h = rw e h

pub list_good-requires : goal.list_good-requires
list_good-requires c =
    (listing-good _ _ (sym (same_read _ _ c.read_delta.ensures) ∙ c.in-Ok.is)).1

pub returns-in-Ok : goal.returns-in-Ok
returns-in-Ok c =
    let call = c.list_good in
    let e = sym (same_read _ _ c.read_delta.ensures) ∙ c.in-Ok.is in
    tells written_told
    (as-listing _ _ c.args.out.now _ _ (listing-good _ _ e).0 call.ensures)

pub returns-in-Err : goal.returns-in-Err
returns-in-Err c =
    let call = c.list_refused in
    let need = c.need.ensures in
    let code = c.number.ensures in
    let e = sym (same_read _ _ c.read_delta.ensures) ∙ c.in-Err.is in
    let text = listing-refused _ _ e ∙ ap₂ (λ (n m : ℕ). refused_text n c.in-Err.fault.at m) (sym code) (sym need) in
    tells written_told
    (as-listing _ _ c.args.out.now _ _ text call.ensures)
