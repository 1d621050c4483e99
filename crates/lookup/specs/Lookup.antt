-- Where a lookup finds a value in the bytes of a lent table. The rules (rules/specs/Local, `lookup`, `lookup_as`) say which value it is; here is where it
-- stands, so that the call can hand out those very bytes. `value_in` goes back: what stands at a place that was found is the rules' answer. What a party is told
-- are the places of the table that it sees (`seen`): the table with its own records alone. In the lent bytes the value stands further back by the front.
use Rattle.std.specs.Prelude.{ℕ, suc, ◌+◌, ◌≤◌, ◌≡◌, Bool, true, false, List, [], ◌∷◌, length, leb}
use Rattle.std.proofs.Math.Option.{Option, none, some}
use Rattle.fields.specs.Choice.{pick}
use Rattle.fields.specs.Numbers.{Bytes}
use Rattle.fields.specs.Order.{same_bytes}
use Rattle.fields.specs.Parts.{part}
use Rattle.fields.specs.Widths.{offset}
use Rattle.rules.specs.Sizes.{max_key}
use Rattle.rules.specs.Node.{Rec, Node, hidden}
use Rattle.rules.specs.Table.{Table, node_of}
use Rattle.rules.specs.Party.{sees, seen}
use Rattle.rules.specs.Local as rule
use Rattle.rules.specs.Layout.{rec_widths, rec_place}
use Rattle.rules.specs.Whole.{decode_whole}
use Rattle.rules.specs.Lent.{from_table}
use Rattle.rules.specs.declared.Profile.{Profile}
use Rattle.rules.specs.declared.Party.{Party}
use Rattle.rules.specs.declared.Refusal.TheVariants.{TooLong, NoNode, BadTable, OtherParty}
use Rattle.table_read.specs.Find.{node_start}
use Rattle.own_rows.specs.Sight.{seen_held, front_in}
use Rattle.std.specs.Prelude.{Option as Optional}
use Rattle.std.specs.Prelude.{Err, None, Ok, Result, Some}
use Rattle.lookup.specs.declared.Found.{Found}
use Rattle.rules.specs.declared.Refusal.{Refusal}

-- ---- where it is

-- where the value of record j begins in a table's bytes, those of its node beginning at `start`
abbrev pub value_place : (start j : ℕ) → ℕ
value_place start j = start + rec_place j + offset rec_widths 3

-- the value of record j of that node; a hidden record shows none
abbrev pub found_rec : (start j : ℕ) (rec : Rec) → (Result (Optional Found) Refusal)
found_rec start j r = pick (hidden r.kv.status) (Ok None) (Ok (Some (record { start = (value_place start j); len = (length r.kv.value) })))

-- the value of the key's record among the node's records, the first of them being record j
unfoldable pub find_rec : (key : Bytes) (start j : ℕ) (recs : List Rec) → (Result (Optional Found) Refusal)
find_rec key start j [] = (Ok None)
find_rec key start j (r ∷ l) = pick (same_bytes key r.kv.key) (found_rec start j r) (find_rec key start (suc j) l)

-- in the node that is held: 2, 1
abbrev pub find_on : (key : Bytes) (start : ℕ) (held : Option Node) → (Result (Optional Found) Refusal)
find_on key start none = Err NoNode
find_on key start (some n) = pick (leb (length key) max_key) (find_rec key start 0 n.recs) (Err TooLong)

-- in a good table: 2, 1
abbrev pub found_in : (number : ℕ) (key : Bytes) (table : Table) → (Result (Optional Found) Refusal)
found_in number key table = find_on key (node_start number table) (node_of number table)

-- ---- by a party: in what it sees

-- 19 behind the others
abbrev pub unless_other : (sees : Bool) (found : (Result (Optional Found) Refusal)) → (Result (Optional Found) Refusal)
unless_other true f = f
unless_other false (Ok (Some f)) = Err OtherParty
unless_other false (Ok None) = Err OtherParty
unless_other false (Err r) = Err r

-- in the node that is held: 2, 1, 19
abbrev pub find_on_as : (profile : Profile) (party : Party) (key : Bytes) (start : ℕ) (held : Option Node) → (Result (Optional Found) Refusal)
find_on_as p q key start held = unless_other (sees p q key) (find_on key start (seen_held p q held))

-- in a good table: 2, 1, 19
abbrev pub find_as : (profile : Profile) (party : Party) (number : ℕ) (key : Bytes) (table : Table) → (Result (Optional Found) Refusal)
find_as p q number key table = unless_other (sees p q key) (found_in number key (seen p q table))

-- in lent bytes: 14, 2, 1, 19
abbrev pub lent_find : (party : Party) (number : ℕ) (key table : Bytes) → (Result (Optional Found) Refusal)
lent_find q number key table = from_table (Err BadTable) (find_as (decode_whole table).kind.profile q number key) table

-- ---- what stands there

-- the rules' answer that a place in a table's bytes stands for
abbrev pub value_in : (table : Bytes) (found : (Result (Optional Found) Refusal)) → rule.Found
value_in table (Ok (Some f)) = rule.Value (part f.start f.len table)
value_in table (Ok None) = rule.Nothing
value_in table (Err r) = rule.NotFound r

-- the part that is found: where nothing is or the call is refused, the empty part at the front of the table
abbrev pub start_of : (found : (Result (Optional Found) Refusal)) → ℕ
start_of (Ok (Some f)) = f.start
start_of (Ok None) = 0
start_of (Err r) = 0

abbrev pub len_of : (found : (Result (Optional Found) Refusal)) → ℕ
len_of (Ok (Some f)) = f.len
len_of (Ok None) = 0
len_of (Err r) = 0

-- it lies within a slice of n bytes
abbrev pub Within : (n : ℕ) (found : (Result (Optional Found) Refusal)) → Type 0
Within n found = start_of found + len_of found ≤ n

-- ---- what is handed out: the bytes of a part of the lent table, and where the part begins in it

pub record HandedOut : Type 0 where
  pub bytes : Bytes
  pub start : ℕ

-- the promise: these bytes, in the table's own memory, as many bytes behind its front (a pointer is a block of memory and a place in it)
abbrev pub Hands : (of : HandedOut) (table : ℕ × ℕ) (bytes : Bytes) (pointer : ℕ × ℕ) → Type 0
Hands of table bytes pointer = (bytes ≡ of.bytes) × (pointer.0 ≡ table.0) × (pointer.1 ≡ table.1 + of.start)

-- the part that was found
abbrev pub part_of : (table : Bytes) (found : (Result (Optional Found) Refusal)) → HandedOut
part_of table found = record { bytes = part (start_of found) (len_of found) table; start = start_of found }

-- the bytes of a value; none where the rules find none
abbrev pub handed : (found : rule.Found) → Bytes
handed (rule.Value v) = v
handed rule.Nothing = []
handed (rule.NotFound r) = []

-- so many bytes further back
abbrev pub moved_by : (front : ℕ) (found : (Result (Optional Found) Refusal)) → (Result (Optional Found) Refusal)
moved_by front (Ok (Some f)) = (Ok (Some (record { start = (f.start + front); len = f.len })))
moved_by front (Ok None) = (Ok None)
moved_by front (Err r) = Err r

-- the value of a key in what a party sees of a good table
abbrev pub value_part : (profile : Profile) (party : Party) (number : ℕ) (key : Bytes) (table : Table) → HandedOut
value_part p q number key table =
    record { bytes = handed (rule.lookup_as p q number key table); start = start_of (moved_by (front_in p q number table) (find_as p q number key table)) }

-- the empty part at the front
abbrev pub nothing_held : HandedOut
nothing_held = record { bytes = []; start = 0 }

-- and of lent bytes
abbrev pub lent_value_part : (party : Party) (number : ℕ) (key table : Bytes) → HandedOut
lent_value_part q number key table = from_table nothing_held (value_part (decode_whole table).kind.profile q number key) table
