-- `tail_check::check_tail` meets its contract: its tests, one after the other. Assumes nothing.
use native.Mathlib.Omega.{arith}
use Rattle.rules.specs.Table.{numbers_of}
use Rattle.rules.specs.Layout.{decode}
use Rattle.tail_check.proofs.Tails.{no_mode, no-profile, too_many, not_free, numbers-decide}
use Rattle.tail_check.proofs.check_tail.Goals as goal

pub returns-then-byte_at-gt-LAST : goal.returns-then-byte_at-gt-LAST
returns-then-byte_at-gt-LAST c =
    let a = c.args in
    no_mode (numbers_of (decode a.area.now)) a.tail.now _ c.byte_at.ensures.0 c.if-byte_at-gt-LAST.true

pub returns-then-byte_at-gt-LAST-2 : goal.returns-then-byte_at-gt-LAST-2
returns-then-byte_at-gt-LAST-2 c =
    let a = c.args in
    no-profile (numbers_of (decode a.area.now)) a.tail.now _ c.byte_at-2.ensures.0 c.if-byte_at-gt-LAST-2.true

pub returns-then-n-gt-REMOVED : goal.returns-then-n-gt-REMOVED
returns-then-n-gt-REMOVED c =
    let a = c.args in
    too_many (numbers_of (decode a.area.now)) a.tail.now _ c.byte_at-n.ensures.0 c.if-n-gt-REMOVED.true

pub returns-then-is_zero : goal.returns-then-is_zero
returns-then-is_zero c =
    let a = c.args in
    numbers-decide (numbers_of (decode a.area.now)) a.tail.now _ _ _ _ _ _ c.byte_at.ensures.0 (omega (arith, c.if-byte_at-gt-LAST.false)) c.byte_at-2.ensures.0 (omega (arith, c.if-byte_at-gt-LAST-2.false)) c.byte_at-n.ensures.0
    (omega (arith, c.if-n-gt-REMOVED.false)) c.removed_place-a.ensures c.is_zero.ensures c.if-is_zero.true c.check_numbers.ensures

pub returns : goal.returns
returns c =
    let a = c.args in
    not_free (numbers_of (decode a.area.now)) a.tail.now _ _ _ c.byte_at-n.ensures.0 (omega (arith, c.if-n-gt-REMOVED.false)) c.removed_place-a.ensures c.is_zero.ensures c.if-is_zero.false
