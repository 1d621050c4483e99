-- `listing_words::text` meets its contract. Assumes nothing.
use mathlib.Core.Path.{sym}
use lib.Seq.{length-take-le}
use Rattle.listing_words.proofs.Read.{count-held, count-short, text-is, text-not}
use Rattle.listing_words.proofs.text.Goals as goal

pub slice_bounds-piece-end : goal.slice_bounds-piece-end
slice_bounds-piece-end c =
    sym (length-take-le _ _ c.graphic_len-took.ensures.1)

pub slice_bounds-is_shown-end : goal.slice_bounds-is_shown-end
slice_bounds-is_shown-end c =
    count-held c.args.text.now c.args.out.now _ _ c.graphic_len-took.ensures.0 _ c.unshow.ensures _ c.in_ok-len.was c.unshow.auto.out

pub slice_bounds-is_shown-end-2 : goal.slice_bounds-is_shown-end-2
slice_bounds-is_shown-end-2 c =
    sym (length-take-le _ _ (count-held c.args.text.now c.args.out.now _ _ c.graphic_len-took.ensures.0 _ c.unshow.ensures _ c.in_ok-len.was c.unshow.auto.out))

pub is_shown-requires : goal.is_shown-requires
is_shown-requires c =
    count-short c.args.text.now c.args.out.now _ _ c.graphic_len-took.ensures.0 _ c.unshow.ensures _ c.in_ok-len.was c.unshow.auto.out c.requires

pub returns-in_err-len : goal.returns-in_err-len
returns-in_err-len c =
    rw c.from_residual.ensures (text-not c.args.text.now c.args.out.now _ _ c.graphic_len-took.ensures.0 _ c.unshow.ensures c.in_err-len.was)

pub returns : goal.returns
returns c =
    rw c.then_some.ensures (text-is c.args.text.now c.args.out.now _ _ c.graphic_len-took.ensures.0 _ c.unshow.ensures _ c.in_ok-len.was _ c.is_shown.ensures)
