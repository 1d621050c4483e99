-- Where a node stands in the memory.
use Rattle.std.specs.Prelude.{ℕ, suc, [], ◌∷◌, eqb}
use Rattle.fields.specs.Choice.{pick}
use Rattle.rules.specs.Memory.{Memory}

-- how many stand before it; all, where it is not remembered
unfoldable pub index_of : (number : ℕ) (memory : Memory) → ℕ
index_of i [] = 0
index_of i (r ∷ m) = pick (eqb i r.number) 0 (suc (index_of i m))
