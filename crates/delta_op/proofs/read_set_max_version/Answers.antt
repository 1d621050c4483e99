-- `delta_op::read_set_max_version` meets its contract: one law for each way out. Assumes nothing.
use Prim.Native.Nat.{ℕ, ◌+◌, ◌-◌, ◌≤◌, ◌<◌}
use mathlib.Core.Path.{◌≡◌}
use native.Mathlib.Omega.{arith}
use lib.ListN.{length}
use borrow.Author.Tests.{le-leb, lt-leb}
use Rattle.fields.specs.Numbers.{Bytes, nat_of}
use Rattle.fields.specs.Parts.{part}
use Rattle.fields.specs.Widths.{offset}
use Rattle.rules.specs.Delta.{max_op_width, max_op_widths, number_width}
use Rattle.rules.specs.declared.Refusal.TheVariants.{Cut}
use Rattle.delta_op.specs.declared.Op.TheVariants.{SetMaxVersion}
use Rattle.std.specs.Prelude.{Err, Ok}
use Rattle.delta_op.specs.Places.{set_max_version_at}
use Rattle.delta_op.proofs.read_set_max_version.Goals as goal

module _ (l : Bytes) (at : ℕ) (in-l : at < length l) where
  short : length l - at < max_op_width → Err (Cut (max_op_width - (length l - at))) ≡ set_max_version_at l at
  unfolding set_max_version_at
  short h = rw (lt-leb (at + max_op_width) (length l) (omega arith))

  whole : (m : ℕ) → max_op_width ≤ length l - at → m ≡ nat_of (part (at + offset max_op_widths 1) number_width l)
      → (Ok ((SetMaxVersion m), (at + max_op_width))) ≡ set_max_version_at l at
  unfolding set_max_version_at
  whole m h p = rw (le-leb (at + max_op_width) (length l) (omega arith), p)

pub returns-then-present-lt-MAX_WIDTH : goal.returns-then-present-lt-MAX_WIDTH
returns-then-present-lt-MAX_WIDTH c =
    short _ _ (omega arith) c.if-present-lt-MAX_WIDTH.true

pub returns : goal.returns
returns c =
    whole _ _ (omega arith) _ c.if-present-lt-MAX_WIDTH.false c.read_u64.ensures
