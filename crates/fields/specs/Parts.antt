-- A part of a list, and a list with a part replaced.
use Rattle.std.specs.Prelude.{ℕ, ◌+◌, List, ◌++◌, length, take, drop}
use Rattle.fields.specs.Numbers.{Bytes}

-- the n elements from `at` on
unfoldable pub part : (at n : ℕ) (l : Bytes) → Bytes
part at n l = take n (drop at l)

-- l with vs from `at` on
unfoldable pub put : (at : ℕ) (vs : List ℕ) (l : Bytes) → Bytes
put at vs l = take at l ++ (vs ++ drop (at + length vs) l)
