-- `meter_form::number_of` meets its contract: the number so far with the digits that are left is the whole's. Assumes nothing.
use mathlib.Core.Path.{◌∙◌, refl, sym}
use native.Mathlib.Omega.{arith}
use Rattle.rules.specs.Profile.{is_digit}
use Rattle.meter_form.proofs.Forms.{all_here, digit-here, next-digit, next_fits, no_digit, tens-few, one-digit}
use Rattle.meter_form.proofs.number_of.Goals as goal

pub loop-digit-init : goal.loop-digit-init
loop-digit-init c =
    (refl, one-digit, c.requires.1)

pub tenfold-requires : goal.tenfold-requires
tenfold-requires c =
    let t = tens-few c.loop-digit.digit-index (omega arith) in
    omega arith

pub overflow_sub-n : goal.overflow_sub-n
overflow_sub-n c =
    (digit-here c.args.digits.now c.loop-digit.digit-index (omega arith) c.loop-digit.invariant.2).0

pub overflow_add-n : goal.overflow_add-n
overflow_add-n c =
    let d = digit-here c.args.digits.now c.loop-digit.digit-index (omega arith) c.loop-digit.invariant.2 in
    let t = tens-few c.loop-digit.digit-index (omega arith) in
    omega arith

pub loop-digit-preserved : goal.loop-digit-preserved
loop-digit-preserved c =
    let l = c.args.digits.now in
    let q = c.loop-digit in
    let e = c.tenfold.ensures in
    let d = all_here is_digit l q.digit-index (omega arith) q.invariant.2 in
    (next-digit l q.n q.digit-index (omega arith) e ∙ q.invariant.0, next_fits l q.n q.digit-index (omega arith) e q.invariant.1 d.0, d.1)

pub returns : goal.returns
returns c =
    sym (no_digit c.args.digits.now c.loop-digit.n c.loop-digit.digit-index (omega arith)) ∙ c.loop-digit.invariant.0
