-- A node under its number while and after records go. The rules say what a removal leaves of a node; these are the same on an entry of a table, which is
-- what a node's bytes are read as.
use Rattle.std.specs.Prelude.{ℕ, suc, max, Bool, ◌&&◌, List, [], ◌∷◌, leb, take}
use Rattle.fields.specs.Choice.{pick}
use Rattle.rules.specs.Node.{Rec, goes, remove, due}
use Rattle.rules.specs.Table.{Entry, Table}
use Rattle.table.specs.Changes.{with_node, with_gc, with_recs}

-- the clock, and a version within a bound: a careful removal (ticket 12) has a bound for each node, and the plain one the bound that no version passes
abbrev pub due_within : (bound now grace : ℕ) (rec : Rec) → Bool
due_within b now grace r = due now grace r && leb r.kv.version b

-- how many records stand in front of the first that goes
unfoldable pub first_going : (due : Rec → Bool) (recs : List Rec) → ℕ
first_going due [] = 0
first_going due (a ∷ l) = pick (goes due a) 0 (suc (first_going due l))

-- a record with this version is one that goes: last_gc is the larger of itself and the version
abbrev pub with_gone : (version : ℕ) (entry : Entry) → Entry
with_gone v e = with_gc (max e.node.last_gc v) e

-- the first k records stay
abbrev pub with_first : (k : ℕ) (entry : Entry) → Entry
with_first k e = with_recs (take k e.node.recs) e

-- all scheduled records that are due have gone
abbrev pub removed : (due : Rec → Bool) (entry : Entry) → Entry
removed due e = with_node (remove due e.node) e

-- a removal over all nodes of a table, the bound of each at its place
unfoldable pub remove_within : (now grace : ℕ) (bounds : List ℕ) (table : Table) → Table
remove_within now grace bs [] = []
remove_within now grace [] (e ∷ t) = e ∷ remove_within now grace [] t
remove_within now grace (b ∷ bs) (e ∷ t) = removed (due_within b now grace) e ∷ remove_within now grace bs t
