-- Where something stands in a list that rises, or the place where it belongs; nodes are sought by their number and records by their key. What
-- stands at a place, and the numbers of a node and of a record as the code hands them out.
use Rattle.std.specs.Prelude.{ℕ, ◌+◌, List, [], ◌∷◌, length, get_or, eqb, ltb}
use Rattle.fields.specs.Numbers.{Bytes}
use Rattle.fields.specs.Choice.{pick}
use Rattle.fields.specs.Order.{order_of}
use Rattle.std.specs.declared.cmp.Ordering.{Ordering}
use Rattle.std.specs.declared.cmp.Ordering.TheVariants.{Less, Equal, Greater}
use Rattle.rules.specs.Node.{Rec, Node}
use Rattle.rules.specs.Table.{Entry, Table}
use Rattle.rules.specs.declared.Header.{Header}
use Rattle.rules.specs.declared.Record.{Record}
use Rattle.rules.specs.Layout.{node_width, node_place, decode}
use Rattle.table.specs.Changes.{fresh_entry}
use Rattle.std.specs.Prelude.{None, Option, Some}
use Rattle.table_read.specs.declared.Span.{Span}
use Rattle.table_read.specs.declared.Place.{Place}
use Rattle.table_read.specs.declared.Place.TheVariants.{At, Free}

-- n places further
abbrev pub further : (n : ℕ) (place : Place) → Place
further n (At i) = At (n + i)
further n (Free i) = Free (n + i)

-- by how the sought stands to the first, with the place among the others
abbrev pub seek : (order : Ordering) (place : Place) → Place
seek Less p = Free 0
seek Equal p = At 0
seek Greater p = further 1 p

-- by how the sought stands to each
unfoldable pub find_by : {A : Type 0} (stands : A → Ordering) (list : List A) → Place
find_by f [] = Free 0
find_by f (a ∷ l) = seek (f a) (find_by f l)

-- how the first number stands to the second
unfoldable pub number_order : (sought number : ℕ) → Ordering
number_order i n = pick (eqb i n) Equal (pick (ltb i n) Less Greater)

abbrev pub to_node : (number : ℕ) (entry : Entry) → Ordering
to_node i e = number_order i e.number

abbrev pub to_key : (key : Bytes) (rec : Rec) → Ordering
to_key k r = order_of k r.kv.key

abbrev pub find_node : (number : ℕ) (table : Table) → Place
find_node i t = find_by (to_node i) t

abbrev pub find_key : (key : Bytes) (recs : List Rec) → Place
find_key k l = find_by (to_key k) l

-- where the bytes of the node at a place stand in a table's
abbrev pub span_of : (place : Place) → (Option Span)
span_of (At i) = (Some (record { start = (node_place i); end = (node_place i + node_width) }))
span_of (Free i) = None

-- where those of the node with this number stand
abbrev pub span_in : (number : ℕ) (table : Bytes) → (Option Span)
span_in number table = span_of (find_node number (decode table))

-- the node at a place, under its number
abbrev pub entry_at : (table : Table) (place : ℕ) → Entry
entry_at t p = get_or t p (fresh_entry 0)

-- where the bytes of the node with this number begin in a table's, those of the first node beginning at `start`; 0 where there is no such node
unfoldable pub start_from : (number start : ℕ) (table : Table) → ℕ
start_from number start [] = 0
start_from number start (e ∷ t) = pick (eqb number e.number) start (start_from number (start + node_width) t)

abbrev pub node_start : (number : ℕ) (table : Table) → ℕ
node_start number table = start_from number (node_place 0) table

abbrev pub header_of : Node → Header
header_of n = record { heartbeat = n.heartbeat; max = n.max; last_gc = n.last_gc }

abbrev pub record_of : Rec → Record
record_of r =
    record { keylen = length r.kv.key; valuelen = length r.kv.value; version = r.kv.version; status = r.kv.status; start = r.start }
