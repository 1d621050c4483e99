-- `listing_words::one_at` meets its contract: a byte that stands for itself, or three. Assumes nothing.
use native.Mathlib.Omega.{arith}
use Rattle.listing_words.proofs.Read.{one-escaped, one-itself, one_last}
use Rattle.listing_words.proofs.one_at.Goals as goal

pub returns-then-piece-i-lt3 : goal.returns-then-piece-i-lt3
returns-then-piece-i-lt3 c =
    (one_last c.args.piece.now c.args.i c.requires _ c.wide.ensures c.if-piece-i-lt3.true, omega arith, omega (arith, c.requires))

pub returns-then-piece-i-ne37 : goal.returns-then-piece-i-ne37
returns-then-piece-i-ne37 c =
    (one-itself c.args.piece.now c.args.i c.requires _ c.wide-then-piece-i-ne37.ensures c.if-piece-i-ne37.true, omega arith, omega (arith, c.requires))

pub returns : goal.returns
returns c =
    let escaped = one-escaped c.args.piece.now c.args.i c.requires _ _ c.if-piece-i-lt3.false c.if-piece-i-ne37.false c.hex_value.ensures.0 c.hex_value-2.ensures.0 in
    (escaped, omega arith, omega (arith, c.requires, c.if-piece-i-lt3.false))
