-- `listing_make::make_delta` meets its contract: the steps through the whole text, then by their answer. Assumes nothing.
use Prim.Native.Nat.{◌<◌}
use mathlib.Core.Path.{◌≡◌}
use native.Mathlib.Omega.{arith}
use lib.ListN.{length, length-replicate, replicate}
use Rattle.fields.specs.Numbers.{Bytes}
use Rattle.rules.specs.Given.{Gives}
use Rattle.rules.specs.Sizes.{numbers}
use Rattle.listing_read.specs.Unlist.{unlist}
use Rattle.delta_make.specs.Making.{Outcome, both, finished, kept, started, taken_in}
use Rattle.delta_make.specs.declared.Making.{Making}
use Rattle.delta_make.specs.declared.NotMade.{NotMade}
use Rattle.std.specs.Prelude.{Result, ℕ}
use Rattle.std.proofs.lemmas.Result.{err_from_is_err_and}
use Rattle.listing_make.proofs.Placing.{made_bytes, made-within, not-made, outcome}
use Rattle.listing_make.proofs.make_delta.Goals as goal

-- the call's own memory is long enough
told : (t : Bytes) (begun m : Making) (line delta : Bytes) (r : Result ℕ NotMade) → length t < numbers → begun ≡ started
    → Gives (taken_in t (kept begun (replicate 349 0) (replicate 16384 0))) m (both line delta) → r ≡ finished m delta → Outcome (unlist t) r delta
told t begun m line delta r h e g f =
    outcome t (replicate 349 0) (replicate 16384 0) begun m line delta r h
    (omega (arith, length-replicate {A = ℕ} 349 0)) (omega (arith, length-replicate {A = ℕ} 16384 0)) e g f

pub place-requires : goal.place-requires
place-requires c =
    let o = told c.args.text.now _ _ _ _ _ (omega arith) c.start.ensures c.take_in-making.ensures c.finish.ensures in
    made-within _ _ _ c.args.out.now o _ c.in_ok-n.was

pub returns-in_err-n : goal.returns-in_err-n
returns-in_err-n c =
    let o = told c.args.text.now _ _ _ _ _ (omega arith) c.start.ensures c.take_in-making.ensures c.finish.ensures in
    let p = err_from_is_err_and c.from_residual.result c.from_residual.ensures.1 in
    rw (p.1, p.2) (not-made _ _ _ c.args.out.now o _ c.in_err-n.was)

pub returns : goal.returns
returns c =
    let o = told c.args.text.now _ _ _ _ _ (omega arith) c.start.ensures c.take_in-making.ensures c.finish.ensures in
    made_bytes _ _ _ c.args.out.now o _ _ _ c.in_ok-n.was c.place.ensures
