-- Each answer is its case of the definition. Assumes nothing.
use native.Mathlib.Omega.{arith}
use Rattle.digest_count.proofs.Counts.{few-whole, inside, many-whole}
use Rattle.digest_count.proofs.count_whole.Goals as goal

pub returns-then-over-gt0 : goal.returns-then-over-gt0
returns-then-over-gt0 c =
    inside c.args.digest.now _ (omega arith) c.number_lacks-lacks.ensures

pub returns-then-whole-le-NODES : goal.returns-then-whole-le-NODES
returns-then-whole-le-NODES c =
    few-whole c.args.digest.now (omega arith) (omega arith)

pub returns : goal.returns
returns c =
    many-whole c.args.digest.now (omega arith) (omega arith)
