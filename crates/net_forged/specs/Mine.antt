-- What a hub holds of its own, and a run without all that came (proofs/Silent).
use Rattle.std.specs.Prelude.{ℕ, Bool, List, [], ◌∷◌, eqb}
use Rattle.fields.specs.Choice.{pick}
use Rattle.rules.specs.Node.{Node, fresh}
use Rattle.rules.specs.Table.{Table}
use Rattle.net.specs.Net.{Plan}
use Rattle.net_forged.specs.Forged.{Doing, Own, Coming}

abbrev pub mine_node : (own : ℕ → Bool) (number : ℕ) (node : Node) → Node
mine_node own i n = pick (own i) n fresh

-- a table with every other node fresh
unfoldable pub mine : (own : ℕ → Bool) (table : Table) → Table
mine own [] = []
mine own (e ∷ t) = record { number = e.number; node = mine_node own e.number e.node } ∷ mine own t

unfoldable pub mines : (own : ℕ → Bool) (tables : List Table) → List Table
mines own [] = []
mines own (t ∷ ts) = mine own t ∷ mines own ts

-- the nodes that a hub owns
abbrev pub owns_at : (plan : Plan) (hub node : ℕ) → Bool
owns_at plan x i = eqb (plan.owner i) x

-- the run in which nothing comes
unfoldable pub silent : (doings : List Doing) → List Doing
silent [] = []
silent (Own e ∷ ds) = Own e ∷ silent ds
silent (Coming x b now l ∷ ds) = silent ds
