-- `grid_change::rows_told` meets its contract: the numbers passed are told, and the other places are 0. Assumes nothing.
use Rattle.std.proofs.Common.{List, ℕ, ◌∙◌, ap, set, arith, rules}
use Rattle.fields.specs.Blocks.{zeros}
use Rattle.digest_read.specs.Held.{entries_in}
use Rattle.rules.specs.declared.Pair.{Pair}
use Rattle.grid_change.proofs.Storing.{told_more, told_none}
use Rattle.grid_change.proofs.rows_told.Goals as goal

pub loop-j-init : goal.loop-j-init
unfolding zeros
loop-j-init c =
    let ds = entries_in c.args.digest in
    record { gcs = told_none (λ d. d.last_gc) ds c.args.numbers; maxes = told_none (λ d. d.max) ds c.args.numbers }

pub loop-j-preserved : goal.loop-j-preserved
loop-j-preserved c =
    let l = c.loop-j in
    let a = c.args in
    let ds = entries_in a.digest in
    record {
      gcs = ap (λ (r : List ℕ). set r l.j c.told-pair.result.last_gc) l.invariant.gcs
          ∙ told_more (λ d. d.last_gc) ds a.numbers l.j _ (search rules) (omega arith) (ap (λ (x : Pair). x.last_gc) c.told-pair.ensures);
      maxes = ap (λ (r : List ℕ). set r l.j c.told-pair.result.max) l.invariant.maxes
          ∙ told_more (λ d. d.max) ds a.numbers l.j _ (search rules) (omega arith) (ap (λ (x : Pair). x.max) c.told-pair.ensures);
    }
