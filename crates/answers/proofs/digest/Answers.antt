-- `answers::digest` meets its contract, case by case. Assumes nothing.
use Prim.Native.Nat.{ℕ}
use mathlib.Core.Path.{ap, ap₂, sym, ◌∙◌}
use Rattle.digest_read.specs.Told.{digest_told, answer_told}
use Rattle.std.specs.Prelude.{Result}
use Rattle.digest_read.specs.declared.DigestRead.{DigestRead}
use Rattle.rules.specs.declared.Refusal.{Refusal}
use Rattle.answers.specs.Shown.{digest_shown}
use Rattle.answers.proofs.Shown.{digest-refused}
use Rattle.answers.proofs.digest.Goals as goal

pub returns-in-Ok : goal.returns-in-Ok
unfolding digest_told
returns-in-Ok c =
    ap (λ (v : (Result DigestRead Refusal)). digest_shown (answer_told v c.args.read.entries)) (sym c.in-Ok.is)

pub returns-in-Err : goal.returns-in-Err
unfolding digest_told
returns-in-Err c =
    let a = c.args in
    ap₂ (λ (k n : ℕ). record { number = k; count = 0; rest = 0; need = n }) c.number.ensures c.need.ensures
    ∙ digest-refused c.in-Err.why a.read.entries
    ∙ ap (λ (x : (Result DigestRead Refusal)). digest_shown (answer_told x a.read.entries)) (sym c.in-Err.is)
