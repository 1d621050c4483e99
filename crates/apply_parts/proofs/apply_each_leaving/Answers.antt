-- `apply_parts::apply_each_leaving` meets its contract: the node deltas that are left give the whole's table and answers. Assumes nothing.
use Prim.Native.Nat.{ℕ, ◌≤◌, ◌<◌}
use Rattle.fields.proofs.Choice.{at_in}
use mathlib.Core.Path.{ap, sym, subst}
use native.Mathlib.Omega.{arith}
use lib.ListN.{length, get_or, set}
use Rattle.rules.specs.Delta.{Part}
use Rattle.rules.specs.Profile.{kind}
use Rattle.rules.specs.Layout.{decode}
use Rattle.delta_read.specs.NodeDeltas.{parts_from}
use Rattle.rules.specs.Given.{Gives}
use Rattle.rules.specs.Lent.{stored}
use Rattle.apply_parts.specs.Applying.{part_leaving}
use Rattle.apply_parts.proofs.Applying.{stands-first, stands-next, stands-last}
use Rattle.apply_parts.proofs.apply_each_leaving.Goals as goal

pub loop-i-init : goal.loop-i-init
loop-i-init c =
    stands-first _ _ _ _ _ _ c.requires.0

pub apply_part-answer-requires : goal.apply_part-answer-requires
apply_part-answer-requires c =
    let h = c.requires.2.heads c.loop-i.i c.loop-i-test.true in
    (c.loop-i.invariant.good, h.inside, subst (λ (x : Part). length x.delta.recs ≤ get_or c.args.heads.count c.loop-i.i 0) h.is h.few)

pub bounds-answers-i : goal.bounds-answers-i
bounds-answers-i c =
    omega (arith, c.loop-i-test.true, c.requires.3, c.loop-i.invariant.long)

pub loop-i-preserved : goal.loop-i-preserved
loop-i-preserved c =
    let one_left : c.loop-i.i < length (parts_from c.args.delta.now 0) = omega (arith, c.loop-i-test.true, c.requires.2.all) in
    let place-left : c.loop-i.i < length c.loop-i.answers = omega (arith, c.loop-i-test.true, c.requires.3, c.loop-i.invariant.long) in
    let here = c.requires.2.heads c.loop-i.i c.loop-i-test.true in
    stands-next _ _ _ _ _ _ _ _ _ c.loop-i.invariant one_left place-left c.ranges.clock.fits c.requires.1
    (at_in (λ (b : ℕ). b < 256) c.args.delta.now 0 (λ i h. (c.shared_slice_known-2-1.given i).fits)) _ _ _
    (subst (λ (x : Part). Gives (stored (part_leaving c.args.own.now (kind c.args.mode c.args.profile) c.args.clock x (decode c.loop-i.table))) c.apply_part-answer.result c.apply_part-answer.new.table) (sym here.is) c.apply_part-answer.ensures)
    (ap (λ (x : ℕ). set c.loop-i.answers c.loop-i.i x) c.code.ensures)

pub returns : goal.returns
returns c =
    stands-last _ _ _ _ _ _ _ _ _ c.loop-i.invariant (omega (arith, c.loop-i-test.false, c.requires.2.all))
