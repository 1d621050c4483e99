-- `removal::must_go` meets its contract: the status schedules, and the grace is over. Assumes nothing.
use Prim.Native.Nat.{ℕ, ◌≤◌}
use mathlib.Core.Path.{ap, sym, subst, ◌∙◌}
use mathlib.Core.List.{List}
use lib.ListN.{length}
use Rattle.rules.specs.Sizes.{max_key, max_value}
use Rattle.table.specs.Tests.{key_length, value_length}
use Rattle.table.proofs.Laid.{rec-long, laid-key, laid-value}
use Rattle.removal.proofs.must_go.Goals as goal

pub read_record-r-requires : goal.read_record-r-requires
read_record-r-requires c =
    let b : List ℕ = c.args.node.now in
    let j : ℕ = c.args.j in
    let e = c.record_of.ensures in (
      ap length e ∙ rec-long b c.requires.0 j c.requires.1,
      subst (λ (x : List ℕ). key_length x ≤ max_key) (sym e) (laid-key b c.requires.0 j c.requires.1),
      subst (λ (x : List ℕ). value_length x ≤ max_value) (sym e) (laid-value b c.requires.0 j c.requires.1),
    )
