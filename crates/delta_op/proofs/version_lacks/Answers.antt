-- `delta_op::version_lacks` meets its contract: by whether the version is there. Assumes nothing.
use Prim.Native.Nat.{ℕ, ◌-◌, ◌≤◌, ◌<◌}
use mathlib.Core.Path.{◌≡◌}
use borrow.Author.Tests.{le-leb, lt-leb}
use Rattle.fields.specs.Widths.{total}
use Rattle.rules.specs.Delta.{number_width, version_widths}
use Rattle.delta_op.specs.Places.{version_lacks}
use Rattle.delta_op.proofs.version_lacks.Goals as goal

in-version : (n : ℕ) → n < number_width → number_width - n ≡ version_lacks n
in-version n h = rw (lt-leb number_width n h)

in-status : (n : ℕ) → number_width ≤ n → total version_widths - n ≡ version_lacks n
in-status n h = rw (le-leb number_width n h)

pub returns-then-present-lt-NUMBER : goal.returns-then-present-lt-NUMBER
returns-then-present-lt-NUMBER c =
    in-version _ c.if-present-lt-NUMBER.true

pub returns : goal.returns
returns c =
    in-status _ c.if-present-lt-NUMBER.false
