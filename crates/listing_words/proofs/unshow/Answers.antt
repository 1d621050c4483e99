-- `listing_words::unshow` meets its contract: what is stored and what is left stands for the whole. Assumes nothing.
use mathlib.Core.Path.{refl, ◌∙◌}
use native.Mathlib.Omega.{arith}
use lib.ListN.{length-set}
use Rattle.listing_words.proofs.Read.{all_shown, no_room, none-bytes, not-bytes, one_more}
use Rattle.listing_words.proofs.unshow.Goals as goal

pub loop-i-init : goal.loop-i-init
loop-i-init c =
    (omega arith, refl, omega arith, refl, none-bytes)

pub shape_of-out-then-one-ge256 : goal.shape_of-out-then-one-ge256
shape_of-out-then-one-ge256 c =
    c.loop-i.invariant.1

pub returns-then-one-ge256 : goal.returns-then-one-ge256
returns-then-one-ge256 c =
    let q = c.loop-i in
    let a = c.args in
    not-bytes a.piece.now q.out a.out.now _ c.one_at-one.result.took q.n q.i q.invariant.3 c.one_at-one.ensures.0 c.if-one-ge256.true

pub shape_of-out-then-out-n : goal.shape_of-out-then-out-n
shape_of-out-then-out-n c =
    c.loop-i.invariant.1

pub returns-then-out-n : goal.returns-then-out-n
returns-then-out-n c =
    let q = c.loop-i in
    let a = c.args in
    no_room a.piece.now q.out a.out.now _ c.one_at-one.result.took q.n q.i q.invariant.1 q.invariant.2 q.invariant.3 c.one_at-one.ensures.0 c.if-out-n.true

pub loop-i-preserved : goal.loop-i-preserved
loop-i-preserved c =
    let q = c.loop-i in
    let piece = c.args.piece.now in
    let one = c.one_at-one.result in
    let more = one_more piece q.out q.n q.i one.value one.took q.invariant.3 q.invariant.4 c.one_at-one.ensures.0 c.if-one-ge256.false c.if-out-n.false in
    (omega (arith, c.one_at-one.ensures.2), length-set q.out q.n _ ∙ q.invariant.1, omega (arith, length-set q.out q.n one.value, c.if-out-n.false), more.0, more.1)

pub shape_of-out : goal.shape_of-out
shape_of-out c =
    c.loop-i.invariant.1

pub returns : goal.returns
returns c =
    let q = c.loop-i in
    let a = c.args in
    all_shown a.piece.now q.out a.out.now q.n q.i q.invariant.1 q.invariant.2 q.invariant.3 q.invariant.4 c.loop-i-test.false
