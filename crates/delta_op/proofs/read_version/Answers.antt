-- `delta_op::read_version` meets its contract: one law for each way out. Assumes nothing.
use Prim.Native.Nat.{ℕ, ◌+◌, ◌-◌, ◌≤◌, ◌<◌}
use mathlib.Core.Path.{◌≡◌}
use native.Mathlib.Omega.{arith}
use lib.ListN.{length}
use borrow.Author.Tests.{le-leb, lt-leb}
use Rattle.fields.specs.Numbers.{Bytes, nat_of}
use Rattle.fields.specs.Parts.{part}
use Rattle.fields.specs.Widths.{offset, total}
use Rattle.rules.specs.Delta.{byte_width, number_width, status_byte, version_widths}
use Rattle.rules.specs.Layout.{status_of_byte}
use Rattle.rules.specs.declared.Status.{Status}
use Rattle.rules.specs.declared.Status.TheVariants.{Ttl}
use Rattle.rules.specs.declared.Refusal.TheVariants.{Cut, BadTag}
use Rattle.delta_op.specs.declared.Op.TheVariants.{KeyValue}
use Rattle.std.specs.Prelude.{Err, Ok}
use Rattle.delta_op.specs.Places.{version_at, version_lacks}
use Rattle.delta_op.proofs.read_version.Goals as goal

abbrev width : ℕ
width = total version_widths

module _ (l : Bytes) (k n v m : ℕ) (in-l : v + m ≤ length l) where
  short : (i : ℕ) → length l - (v + m) < width → i ≡ version_lacks (length l - (v + m)) → Err (Cut i) ≡ version_at l k n v m
  unfolding version_at
  short i h e = rw (e, lt-leb (v + m + width) (length l) (omega arith))

  module _ (h : width ≤ length l - (v + m)) (b : ℕ) (e : b ≡ nat_of (part (v + m + offset version_widths 1) byte_width l)) where
    wrong : status_byte Ttl < b → Err BadTag ≡ version_at l k n v m
    unfolding version_at
    wrong g = rw (le-leb (v + m + width) (length l) (omega arith), ← e, lt-leb b (status_byte Ttl) g)

    whole : (ver : ℕ) (st : Status) → b ≤ status_byte Ttl → ver ≡ nat_of (part (v + m) number_width l) → st ≡ status_of_byte b
        → (Ok ((KeyValue k n v m ver st), (v + m + width))) ≡ version_at l k n v m
    unfolding version_at
    whole ver st g p q = rw (le-leb (v + m + width) (length l) (omega arith), ← e, le-leb b (status_byte Ttl) g, p, q)

pub returns-then-present-lt-VERSION_WIDTH : goal.returns-then-present-lt-VERSION_WIDTH
returns-then-present-lt-VERSION_WIDTH c =
    short _ _ _ _ _ (omega arith) _ c.if-present-lt-VERSION_WIDTH.true c.version_lacks.ensures

pub returns-then-b-gt-LAST : goal.returns-then-b-gt-LAST
returns-then-b-gt-LAST c =
    wrong _ _ _ _ _ (omega arith) c.if-present-lt-VERSION_WIDTH.false _ c.byte_at-b.ensures.0 c.if-b-gt-LAST.true

pub returns : goal.returns
returns c =
    whole _ _ _ _ _ (omega arith) c.if-present-lt-VERSION_WIDTH.false _ c.byte_at-b.ensures.0 _ _ c.if-b-gt-LAST.false c.read_u64.ensures
    c.of_byte.ensures
