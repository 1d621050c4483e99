-- `delta_op::read_node` meets its contract: one law for each way out. Assumes nothing.
use Prim.Native.Nat.{ℕ, ◌+◌, ◌-◌, ◌≤◌, ◌<◌}
use mathlib.Core.Path.{◌≡◌}
use native.Mathlib.Omega.{arith}
use lib.ListN.{length}
use borrow.Author.Tests.{le-leb, lt-leb}
use Rattle.fields.specs.Numbers.{Bytes, nat_of}
use Rattle.fields.specs.Parts.{part}
use Rattle.fields.specs.Widths.{offset}
use Rattle.rules.specs.Delta.{byte_width, node_op_width, node_op_widths, number_lacks, number_width}
use Rattle.rules.specs.declared.Refusal.TheVariants.{Cut}
use Rattle.delta_op.specs.declared.Op.TheVariants.{Node}
use Rattle.std.specs.Prelude.{Err, Ok}
use Rattle.delta_op.specs.Places.{node_at}
use Rattle.delta_op.proofs.read_node.Goals as goal

module _ (l : Bytes) (at : ℕ) (in-l : at < length l) where
  short : (k : ℕ) → length l - at < node_op_width → k ≡ number_lacks (length l - at - byte_width) → Err (Cut k) ≡ node_at l at
  unfolding node_at
  short k h e = rw (e, lt-leb (at + node_op_width) (length l) (omega arith))

  whole : (n g f : ℕ) → node_op_width ≤ length l - at → n ≡ nat_of (part (at + offset node_op_widths 1) number_width l)
      → g ≡ nat_of (part (at + offset node_op_widths 2) number_width l) → f ≡ nat_of (part (at + offset node_op_widths 3) number_width l)
      → (Ok ((Node n g f), (at + node_op_width))) ≡ node_at l at
  unfolding node_at
  whole n g f h p q r = rw (le-leb (at + node_op_width) (length l) (omega arith), p, q, r)

pub returns-then-present-lt-NODE_WIDTH : goal.returns-then-present-lt-NODE_WIDTH
returns-then-present-lt-NODE_WIDTH c =
    short _ _ (omega arith) _ c.if-present-lt-NODE_WIDTH.true c.number_lacks.ensures

pub returns : goal.returns
returns c =
    whole _ _ (omega arith) _ _ _ c.if-present-lt-NODE_WIDTH.false c.read_u64.ensures c.read_u64-2.ensures c.read_u64-3.ensures
