-- Which nodes a delta names, in stream order, without a table: 13 for its length, the first operation at fault, then 8 where the list is too short.
use Rattle.std.specs.Prelude.{ℕ, zero, suc, ◌+◌, ◌≤◌, ◌<◌, List, [], ◌∷◌, length, get_or, leb}
use Rattle.fields.specs.Choice.{pick}
use Rattle.fields.specs.Numbers.{Bytes, nat_of}
use Rattle.fields.specs.Parts.{part, put}
use Rattle.fields.specs.Widths.{offset}
use Rattle.rules.specs.Delta.{Faulty, Good, Ops, Part, node_op_width, node_op_widths, number_width, parts_of, read_delta}
use Rattle.rules.specs.Given.{Given, given}
use Rattle.rules.specs.declared.Refusal.TheVariants.{NoPlace}
use Rattle.std.specs.Prelude.{Err, Ok, Result}
use Rattle.rules.specs.declared.DeltaFault.{DeltaFault}

-- the numbers of node deltas
unfoldable pub numbers_in : (parts : List Part) → List ℕ
numbers_in [] = []
numbers_in (x ∷ xs) = x.number ∷ numbers_in xs

-- at the front of the list, whose later places are untouched
abbrev pub list_numbers : (numbers list : List ℕ) → Given (Result ℕ DeltaFault) (List ℕ)
list_numbers ns l = pick (leb (length ns) (length l)) (given (Ok (length ns)) (put 0 ns l)) (given (Err (record { why = NoPlace; at = 0 })) l)

abbrev pub nodes_on : (read : Ops) (list : List ℕ) → Given (Result ℕ DeltaFault) (List ℕ)
nodes_on (Good ops) l = list_numbers (numbers_in (parts_of ops)) l
nodes_on (Faulty r at) l = given (Err (record { why = r; at = at })) l

unfoldable pub delta_nodes : (delta : Bytes) (list : List ℕ) → Given (Result ℕ DeltaFault) (List ℕ)
delta_nodes delta l = nodes_on (read_delta delta) l

-- ---- in the bytes

-- the number of the Node at a place
abbrev pub number_at : (delta : Bytes) (at : ℕ) → ℕ
number_at s at = nat_of (part (at + offset node_op_widths 1) number_width s)

-- those of n Nodes, whose places stand in a list from place i on
unfoldable pub numbers_at : (delta : Bytes) (places : List ℕ) (i n : ℕ) → List ℕ
numbers_at s at i zero = []
numbers_at s at i (suc n) = number_at s (get_or at i 0) ∷ numbers_at s at (suc i) n

-- the first n Nodes lie in the delta
abbrev pub NodesLie : (delta : Bytes) (places : List ℕ) (n : ℕ) → Type 0
NodesLie s at n = (i : ℕ) → i < n → get_or at i 0 + node_op_width ≤ length s
