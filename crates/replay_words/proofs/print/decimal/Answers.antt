-- `replay_words::print::decimal` meets its contract. Assumes nothing.
use Prim.Native.Nat.{ℕ, ◌+◌, ◌<◌}
use mathlib.Core.Path.{◌≡◌, sym, ◌∙◌}
use mathlib.Core.Bool.{Bool, true, false}
use mathlib.Core.List.{List}
use native.Mathlib.Omega.{arith}
use lib.Dec.{leb}
use lib.ListN.{length}
use borrow.Author.Tests.{leb-true, leb-false}
use Rattle.rules.specs.Listing.{decimal}
use Rattle.listing_text.specs.Texts.{TextFits}
use Rattle.listing_text.proofs.Texts.{Put}
use Rattle.replay_words.specs.Printing.{page, say}
use Rattle.replay_words.proofs.Said.{said, unsaid}
use Rattle.replay_words.proofs.print.decimal.Goals as goal

room : (at n : ℕ) (t l : List ℕ) (r : Bool) → n ≡ length t → r ≡ leb (at + n) (length l) → r ≡ true → TextFits at t l
room at n t l r e p q = let h = leb-true (at + n) (length l) (sym p ∙ q) in omega arith

none : (at n : ℕ) (t l : List ℕ) (r : Bool) → n ≡ length t → r ≡ leb (at + n) (length l) → r ≡ false → length l < at + length t
none at n t l r e p q = let h = leb-false (at + n) (length l) (sym p ∙ q) in omega arith

written : (at r : ℕ) (t l m : List ℕ) → TextFits at t l → Put at t l m r → page r m ≡ say t (page at l)
written at r t l m h w = said at r t l m h w.0 w.1

pub put_decimal-requires : goal.put_decimal-requires
put_decimal-requires c =
    let a = c.args in
    room a.at _ (decimal a.value) a.out.now _ c.decimal_len.ensures.0 c.has_room.ensures c.if-has_room.true

pub returns-then-has_room : goal.returns-then-has_room
returns-then-has_room c =
    let a = c.args in
    written a.at _ (decimal a.value) a.out.now _
    (room a.at _ (decimal a.value) a.out.now _ c.decimal_len.ensures.0 c.has_room.ensures c.if-has_room.true) c.put_decimal.ensures

pub returns : goal.returns
returns c =
    let a = c.args in
    unsaid a.at (decimal a.value) a.out.now (none a.at _ (decimal a.value) a.out.now _ c.decimal_len.ensures.0 c.has_room.ensures c.if-has_room.false)
