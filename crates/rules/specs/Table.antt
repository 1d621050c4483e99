-- A table of nodes, and the rules that it obeys (number 14).
use Rattle.std.specs.Prelude.{ℕ, Bool, true, false, not, ◌&&◌, List, [], ◌∷◌, length, leb, ltb, eqb}
use Rattle.std.proofs.Math.Option.{Option, none, some}
use Rattle.fields.specs.Choice.{pick, every, all}
use Rattle.fields.specs.Order.{less_bytes}
use Rattle.rules.specs.Sizes.{max_nodes, max_records, max_key, max_value, numbers}
use Rattle.rules.specs.Node.{Rec, Node, fresh, remove}

-- a node under its number
pub record Entry : Type 0 where
  pub number : ℕ
  pub node : Node

abbrev pub Table : Type 0
Table = List Entry

unfoldable pub node_of : (number : ℕ) (table : Table) → Option Node
node_of i [] = none
node_of i (e ∷ t) = pick (eqb i e.number) (some e.node) (node_of i t)

-- the node that is held under the number becomes n
unfoldable pub set_node : (number : ℕ) (node : Node) (table : Table) → Table
set_node i n [] = []
set_node i n (e ∷ t) = pick (eqb i e.number) (record { number = e.number; node = n } ∷ t) (e ∷ set_node i n t)

-- a fresh node in the order of the numbers; a node held already stays
unfoldable pub add_node : (number : ℕ) (table : Table) → Table
add_node i [] = record { number = i; node = fresh } ∷ []
add_node i (e ∷ t) =
    pick (eqb i e.number) (e ∷ t) (pick (ltb i e.number) (record { number = i; node = fresh } ∷ e ∷ t) (e ∷ add_node i t))

unfoldable pub drop_node : (number : ℕ) (table : Table) → Table
drop_node i [] = []
drop_node i (e ∷ t) = pick (eqb i e.number) t (e ∷ drop_node i t)

-- a removal goes over all nodes
unfoldable pub remove_all : (due : ℕ → Rec → Bool) (table : Table) → Table
remove_all due [] = []
remove_all due (e ∷ t) = record { number = e.number; node = remove (due e.number) e.node } ∷ remove_all due t

unfoldable pub numbers_of : Table → List ℕ
numbers_of [] = []
numbers_of (e ∷ t) = e.number ∷ numbers_of t

-- the number stands in the list
unfoldable pub among : (number : ℕ) (numbers : List ℕ) → Bool
among i [] = false
among i (n ∷ ns) = pick (eqb i n) true (among i ns)

-- ---- the rules

-- each below the next
unfoldable pub rising : List ℕ → Bool
rising [] = true
rising (a ∷ []) = true
rising (a ∷ b ∷ l) = ltb a b && rising (b ∷ l)

unfoldable pub keys_rise : List Rec → Bool
keys_rise [] = true
keys_rise (a ∷ []) = true
keys_rise (a ∷ b ∷ l) = less_bytes a.kv.key b.kv.key && keys_rise (b ∷ l)

unfoldable pub versions : List Rec → List ℕ
versions [] = []
versions (r ∷ l) = r.kv.version ∷ versions l

-- no number stands twice
unfoldable pub differ : List ℕ → Bool
differ [] = true
differ (n ∷ ns) = not (among n ns) && differ ns

-- lengths within the sizes, a version from 1 on and not above max, a time of eight bytes
unfoldable pub rec_obeys : (max : ℕ) (rec : Rec) → Bool
rec_obeys max r =
    every
    (leb (length r.kv.key) max_key
    ∷ leb (length r.kv.value) max_value
    ∷ leb 1 r.kv.version
    ∷ leb r.kv.version max
    ∷ ltb r.start numbers
    ∷ [])

unfoldable pub node_obeys : (node : Node) → Bool
node_obeys n =
    every
    (leb (length n.recs) max_records
    ∷ all (rec_obeys n.max) n.recs
    ∷ keys_rise n.recs
    ∷ differ (versions n.recs)
    ∷ ltb n.max numbers
    ∷ ltb n.last_gc numbers
    ∷ ltb n.heartbeat.0 numbers
    ∷ [])

unfoldable pub entry_obeys : (entry : Entry) → Bool
entry_obeys e = ltb e.number numbers && node_obeys e.node

-- last_gc may exceed max, and no rule ties them
unfoldable pub obeys : (table : Table) → Bool
obeys t = every (leb (length t) max_nodes ∷ rising (numbers_of t) ∷ all entry_obeys t ∷ [])
