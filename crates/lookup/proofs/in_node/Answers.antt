-- `lookup::in_node` meets its contract: 1, or what the search for the key says of the place. Assumes nothing.
use Prim.Native.Nat.{ℕ, ◌-◌}
use mathlib.Core.Path.{◌≡◌, ap, ◌∙◌}
use mathlib.Core.List.{List}
use native.Mathlib.Omega.{arith}
use Rattle.table.proofs.Places.{rec_at}
use Rattle.table_read.proofs.Reading.{short-says, long-says, lent-rec-needs}
use Rattle.lookup.specs.Lookup.{found_rec}
use Rattle.std.specs.Prelude.{Option, Result}
use Rattle.lookup.specs.declared.Found.{Found}
use Rattle.rules.specs.declared.Refusal.{Refusal}
use Rattle.lookup.proofs.Values.{value-place, value-nowhere}
use borrow.Author.Rules.{rules}
use Rattle.lookup.proofs.in_node.Goals as goal

-- all records of the node are seen
none_before : (start j : ℕ) (b : List ℕ) (r : (Result (Option Found) Refusal)) → r ≡ found_rec start (j - 0) (rec_at j b) → r ≡ found_rec start j (rec_at j b)
none_before start j b r e = e ∙ ap (λ (m : ℕ). found_rec start m (rec_at j b)) (omega arith)

pub returns-then-key-gt-KEY : goal.returns-then-key-gt-KEY
returns-then-key-gt-KEY c =
    search long-says

pub in_record-requires : goal.in_record-requires
in_record-requires c =
    (search rules, search rules, omega arith, search lent-rec-needs)

pub returns-in-At : goal.returns-in-At
returns-in-At c =
    search (short-says, value-place, none_before)

pub returns-in-Free : goal.returns-in-Free
returns-in-Free c =
    search (short-says, value-nowhere)
