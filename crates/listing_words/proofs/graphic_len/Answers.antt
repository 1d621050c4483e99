-- `listing_words::graphic_len` meets its contract: the bytes counted and those that are left are the whole. Assumes nothing.
use mathlib.Core.Bool.{true, false}
use mathlib.Core.Path.{◌≡◌, ap}
use native.Mathlib.Omega.{arith}
use lib.ListN.{length}
use Rattle.listing_read.specs.Unlist.{is_graphic}
use Rattle.listing_words.proofs.Read.{front_ends, front-more, front-stops}
use Rattle.listing_words.proofs.graphic_len.Goals as goal

pub returns-then-not-is_graphic : goal.returns-then-not-is_graphic
returns-then-not-is_graphic c =
    let no : c.is_graphic.result ≡ false = cc in
    let stops = front-stops is_graphic c.args.text.now _ _ c.loop-i-test.true c.is_graphic.ensures no in
    (omega (arith, ap length stops), omega arith)

pub loop-i-preserved : goal.loop-i-preserved
loop-i-preserved c =
    let yes : c.is_graphic.result ≡ true = cc in
    let more = front-more is_graphic c.args.text.now _ _ c.loop-i-test.true c.is_graphic.ensures yes in
    omega (arith, ap length more)

pub returns : goal.returns
returns c =
    let ends = front_ends is_graphic c.args.text.now c.loop-i.i c.loop-i-test.false in
    (omega (arith, ap length ends), omega arith)
