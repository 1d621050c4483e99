-- By the edition. Assumes nothing.
use mathlib.Core.Path.{◌∙◌}
use native.Mathlib.Omega.{arith}
use Rattle.digest_count.proofs.Counts.{in-none, in-v0, in-v1}
use Rattle.digest_count.proofs.count_entries.Goals as goal

pub returns-in-0 : goal.returns-in-0
returns-in-0 c =
    let a = c.args in c.count_told.ensures ∙ in-v0 a.digest.now a.edition c.in-0.is

pub returns-in-1 : goal.returns-in-1
returns-in-1 c =
    let a = c.args in c.count_whole.ensures ∙ in-v1 a.digest.now a.edition c.in-1.is

pub returns-in_default : goal.returns-in_default
returns-in_default c =
    let a = c.args in in-none a.digest.now a.edition (λ e. omega arith) (λ e. omega arith)
