-- `listing_ops::lines_len` meets its contract: what is counted and the length of the lines left are the whole's. Assumes nothing.
use Prim.Native.Nat.{ℕ, ◌+◌, ◌*◌, ◌≤◌, ◌<◌}
use mathlib.Core.Path.{◌≡◌, ap, sym, ◌∙◌}
use mathlib.Core.List.{List, []}
use native.Mathlib.Omega.{arith}
use lib.ListN.{length, length-append}
use Rattle.delta_op.specs.declared.Op.{Op}
use Rattle.delta_op.specs.Places.{op_of, op_at}
use Rattle.std.specs.Prelude.{Ok}
use Rattle.delta_op.proofs.Reading.{Within}
use Rattle.rules.specs.Sizes.{max_delta}
use Rattle.rules.specs.Listing.{op_line}
use Rattle.listing_ops.specs.Lines.{lines_from}
use Rattle.listing_ops.proofs.Lines.{line-short, lines_end, lines-bad, lines_next, within}
use Rattle.listing_ops.proofs.lines_len.Goals as goal

-- one turn
turn : (l : List ℕ) (at : ℕ) (o : Op) (next n k : ℕ) → op_at l at ≡ (Ok (o, next)) → at < length l → n ≤ 5 * at → k ≡ length (op_line (op_of l o))
    → (next ≤ length l) × (n + k ≤ 5 * next) × (length (lines_from l at) ≡ k + length (lines_from l next))
turn l at o next n k e h g q =
    let w : Within (length l) at (Ok (o, next)) = within l at o next e in
    let d : length (lines_from l at) ≡ length (op_line (op_of l o)) + length (lines_from l next) =
    ap length (lines_next l at h o next e) ∙ length-append (op_line (op_of l o)) (lines_from l next) in
    (w.1, omega (arith, w.3, line-short l o w.2), omega (arith, d))

abbrev most : ℕ
most = 5 * max_delta

-- nothing left
stopped : (l : List ℕ) (at n k : ℕ) → n + length (lines_from l at) ≡ k → lines_from l at ≡ [] → n ≤ most → (n ≡ k) × (n ≤ most)
stopped l at n k e z h = (omega (arith, ap length z), h)

pub loop-at-init : goal.loop-at-init
loop-at-init c =
    (omega arith, omega arith, omega arith)

pub returns-in_default : goal.returns-in_default
returns-in_default c =
    let inv = c.loop-at.invariant in
    let bad = lines-bad _ _ c.loop-at-test.true _ (sym c.read_op.ensures ∙ c.in_default.is) in
    stopped _ _ _ _ inv.2 bad (omega (arith, inv.0, inv.1, c.requires))

pub line_len-n-requires : goal.line_len-n-requires
line_len-n-requires c =
    (within _ _ _ _ (sym c.read_op.ensures ∙ c.in-Ok.is)).2

pub overflow_add-n : goal.overflow_add-n
overflow_add-n c =
    let e = sym c.read_op.ensures ∙ c.in-Ok.is in
    let t = turn _ _ _ _ _ _ e c.loop-at-test.true c.loop-at.invariant.1 c.line_len-n.ensures in
    omega (arith, t.1, t.0, c.requires)

pub loop-at-smaller : goal.loop-at-smaller
loop-at-smaller c =
    let w = within _ _ _ _ (sym c.read_op.ensures ∙ c.in-Ok.is) in
    omega (arith, w.0, w.1)

pub loop-at-preserved : goal.loop-at-preserved
loop-at-preserved c =
    let e = sym c.read_op.ensures ∙ c.in-Ok.is in
    let t = turn _ _ _ _ _ _ e c.loop-at-test.true c.loop-at.invariant.1 c.line_len-n.ensures in
    (t.0, t.1, omega (arith, t.2, c.loop-at.invariant.2))

pub returns : goal.returns
returns c =
    let inv = c.loop-at.invariant in
    stopped _ _ _ _ inv.2 (lines_end _ _ c.loop-at-test.false) (omega (arith, inv.0, inv.1, c.requires))
