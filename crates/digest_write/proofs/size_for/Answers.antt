-- The head and the entries. Assumes nothing.
use native.Mathlib.Omega.{arith}
use Rattle.digest_write.proofs.Outcomes.{head-low}
use Rattle.digest_write.proofs.size_for.Goals as goal

pub overflow_add-result : goal.overflow_add-result
overflow_add-result c =
    let h = head-low c.args.edition in let e = c.head_width.ensures in omega arith
