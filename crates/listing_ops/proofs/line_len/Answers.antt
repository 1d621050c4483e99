-- `listing_ops::line_len` meets its contract: by the kind of operation. Assumes nothing.
use Prim.Native.Nat.{ℕ, ◌+◌, ◌≤◌}
use mathlib.Core.Path.{◌≡◌, ap, ◌∙◌}
use mathlib.Core.List.{List}
use native.Mathlib.Omega.{arith}
use lib.ListN.{length}
use Rattle.fields.specs.Parts.{part}
use Rattle.fields.proofs.Lent.{seen}
use Rattle.fields.proofs.Parts.{length_part}
use Rattle.rules.specs.Listing.{decimal, op_line}
use Rattle.delta_op.specs.declared.Op.{Op}
use Rattle.delta_op.specs.declared.Op.TheVariants.{Node, SetMaxVersion}
use Rattle.delta_op.specs.Places.{op_of}
use Rattle.listing_ops.proofs.Lines.{inside, max-long, node-long, record-line}
use Rattle.listing_ops.proofs.line_len.Goals as goal

at-node : (l : List ℕ) (o : Op) (n g f a b d : ℕ) → o ≡ Node n g f → a ≡ length (decimal n) → b ≡ length (decimal g) → d ≡ length (decimal f)
    → 22 + a + b + d ≡ length (op_line (op_of l o))
at-node l o n g f a b d e p q r = rw e (omega (arith, node-long n g f))

at-max : (l : List ℕ) (o : Op) (m a : ℕ) → o ≡ SetMaxVersion m → a ≡ length (decimal m) → 16 + a ≡ length (op_line (op_of l o))
at-max l o m a e p = rw e (omega (arith, max-long m))

-- a text that lies in the delta is as long as it says
lent : (l t : List ℕ) (at n most : ℕ) → t ≡ part at n l → at + n ≤ length l → n ≤ most → length t ≤ most
lent l t at n most e h g = omega (arith, ap length e ∙ length_part at n l h)

pub overflow_add-key : goal.overflow_add-key
overflow_add-key c =
    omega (arith, (inside _ _ _ _ _ _ _ _ c.in-KeyValue.is c.requires).0, c.well_formed.0)

pub slice_bounds-key-end : goal.slice_bounds-key-end
slice_bounds-key-end c =
    (inside _ _ _ _ _ _ _ _ c.in-KeyValue.is c.requires).0

pub overflow_add-value : goal.overflow_add-value
overflow_add-value c =
    omega (arith, (inside _ _ _ _ _ _ _ _ c.in-KeyValue.is c.requires).1, c.well_formed.0)

pub slice_bounds-value-end : goal.slice_bounds-value-end
slice_bounds-value-end c =
    (inside _ _ _ _ _ _ _ _ c.in-KeyValue.is c.requires).1

pub record_len-requires : goal.record_len-requires
record_len-requires c =
    let i = inside _ _ _ _ _ _ _ _ c.in-KeyValue.is c.requires in
    (lent c.args.delta.now _ _ _ _ (seen _ _ _) i.0 i.2, lent c.args.delta.now _ _ _ _ (seen _ _ _) i.1 i.3)

pub returns-in-Node : goal.returns-in-Node
returns-in-Node c =
    at-node _ _ _ _ _ _ _ _ c.in-Node.is c.decimal_len.ensures.0 c.decimal_len-in-Node.ensures.0
    c.decimal_len-in-Node-2.ensures.0

pub returns-in-KeyValue : goal.returns-in-KeyValue
returns-in-KeyValue c =
    let l = c.args.delta.now in
    c.record_len.ensures ∙ ap length (record-line l _ _ _ _ _ _ _ _ _ c.in-KeyValue.is (seen _ _ _) (seen _ _ _))

pub returns-in-SetMaxVersion : goal.returns-in-SetMaxVersion
returns-in-SetMaxVersion c =
    at-max _ _ _ _ c.in-SetMaxVersion.is c.decimal_len-in-SetMaxVersion.ensures.0
