-- `delta_op::read_text` meets its contract: one law for each way out. Assumes nothing.
use Prim.Native.Nat.{ℕ, ◌+◌, ◌-◌, ◌≤◌, ◌<◌}
use mathlib.Core.Path.{◌≡◌}
use native.Mathlib.Omega.{arith}
use lib.ListN.{length}
use borrow.Author.Tests.{le-leb, lt-leb}
use Rattle.fields.specs.Numbers.{Bytes, nat_of}
use Rattle.fields.specs.Parts.{part}
use Rattle.rules.specs.Delta.{length_width}
use Rattle.std.specs.Prelude.{Err, Ok}
use Rattle.delta_op.specs.declared.TextFault.TheVariants as fault
use Rattle.delta_op.specs.Places.{text_at}
use Rattle.delta_op.proofs.read_text.Goals as goal

module _ (most : ℕ) (l : Bytes) (at : ℕ) (in-l : at ≤ length l) where
  no_length : length l - at < length_width → (Err (fault.Cut (length_width - (length l - at)))) ≡ text_at most l at
  unfolding text_at
  no_length h = rw (lt-leb (at + length_width) (length l) (omega arith))

  module _ (h : length_width ≤ length l - at) (n : ℕ) (e : n ≡ nat_of (part at length_width l)) where
    long : most < n → (Err fault.Long) ≡ text_at most l at
    unfolding text_at
    long g = rw (le-leb (at + length_width) (length l) (omega arith), ← e, lt-leb n most g)

    short : n ≤ most → length l - (at + length_width) < n → (Err (fault.Cut (n - (length l - (at + length_width))))) ≡ text_at most l at
    unfolding text_at
    short g k =
        rw (le-leb (at + length_width) (length l) (omega arith), ← e, le-leb n most g, lt-leb (at + length_width + n) (length l) (omega arith))

    held : n ≤ most → n ≤ length l - (at + length_width) → (Ok ((at + length_width), n)) ≡ text_at most l at
    unfolding text_at
    held g k =
        rw (le-leb (at + length_width) (length l) (omega arith), ← e, le-leb n most g, le-leb (at + length_width + n) (length l) (omega arith))

pub returns-then-present-lt-LENGTH : goal.returns-then-present-lt-LENGTH
returns-then-present-lt-LENGTH c =
    no_length _ _ _ (omega arith) c.if-present-lt-LENGTH.true

pub returns-then-most-len : goal.returns-then-most-len
returns-then-most-len c =
    long _ _ _ (omega arith) c.if-present-lt-LENGTH.false _ c.read_u16-len.ensures.0 c.if-most-len.true

pub returns-then-behind-len : goal.returns-then-behind-len
returns-then-behind-len c =
    short _ _ _ (omega arith) c.if-present-lt-LENGTH.false _ c.read_u16-len.ensures.0 c.if-most-len.false c.if-behind-len.true

pub returns : goal.returns
returns c =
    held _ _ _ (omega arith) c.if-present-lt-LENGTH.false _ c.read_u16-len.ensures.0 c.if-most-len.false c.if-behind-len.false
