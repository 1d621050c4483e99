-- Each answer is its case of the definition. Assumes nothing.
use native.Mathlib.Omega.{arith}
use Rattle.digest_count.proofs.Counts.{no-count, too_many, entries-cut, entries-there}
use Rattle.digest_count.proofs.count_told.Goals as goal

pub returns-then-digest-lt-COUNT_WIDTH : goal.returns-then-digest-lt-COUNT_WIDTH
returns-then-digest-lt-COUNT_WIDTH c =
    no-count c.args.digest.now (omega arith)

pub returns-then-n-gt-NODES : goal.returns-then-n-gt-NODES
returns-then-n-gt-NODES c =
    too_many c.args.digest.now _ c.read_u16-n.ensures.0 (omega arith) (omega arith)

pub returns-then-present-n : goal.returns-then-present-n
returns-then-present-n c =
    let l = c.args.digest.now in
    entries-cut l _ c.read_u16-n.ensures.0 (omega arith) (omega arith) (omega arith) _ c.number_lacks.ensures

pub returns : goal.returns
returns c =
    let l = c.args.digest.now in
    entries-there l _ c.read_u16-n.ensures.0 (omega arith) (omega arith) (omega arith)
