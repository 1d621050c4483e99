-- A record's key or value in the bytes of a lent table: where it stands (`text_found`), and the bytes themselves (`bytes_on`). The record is named by its
-- node's number (2 where there is none) and its place among the node's records in key order (8 past the end). Hidden records are told too. A party reads the
-- table that it sees (`seen`): places are those of a table with its own records alone, and in the lent bytes the text stands further back by the front.
use Rattle.std.specs.Prelude.{ℕ, ◌+◌, [], length}
use Rattle.std.proofs.Math.Option.{Option, none, some}
use Rattle.fields.specs.Numbers.{Bytes}
use Rattle.fields.specs.Widths.{offset}
use Rattle.rules.specs.Node.{Rec, Node}
use Rattle.rules.specs.Table.{Table, node_of}
use Rattle.rules.specs.Party.{seen}
use Rattle.rules.specs.Layout.{rec_widths, rec_place}
use Rattle.rules.specs.Whole.{decode_whole}
use Rattle.rules.specs.Lent.{from_table}
use Rattle.rules.specs.declared.Profile.{Profile}
use Rattle.rules.specs.declared.Party.{Party}
use Rattle.rules.specs.declared.Refusal.TheVariants.{NoNode, NoPlace, BadTable}
use Rattle.table_read.specs.Find.{node_start}
use Rattle.own_rows.specs.Sight.{front_in}
use Rattle.lookup.specs.Lookup.{HandedOut, start_of, moved_by, nothing_held}
use Rattle.std.specs.Prelude.{Option as Optional}
use Rattle.std.specs.Prelude.{Err, Ok, Result, Some}
use Rattle.lookup.specs.declared.Found.{Found}
use Rattle.rules.specs.declared.Refusal.{Refusal}
use Rattle.inspect.specs.Look.{element_at}
use Rattle.inspect_text.specs.declared.Text.{Text}
use Rattle.inspect_text.specs.declared.Text.TheVariants.{Key, Value}

abbrev pub text_of : (text : Text) (rec : Rec) → Bytes
text_of Key r = r.kv.key
text_of Value r = r.kv.value

-- ---- where it is

-- where the text of record j begins in a table's bytes, those of its node beginning at `start`
abbrev pub text_offset : (text : Text) → ℕ
text_offset Key = offset rec_widths 1
text_offset Value = offset rec_widths 3

abbrev pub text_place : (text : Text) (start j : ℕ) → ℕ
text_place text start j = start + rec_place j + text_offset text

abbrev pub place_on : (text : Text) (start j : ℕ) (there : Option Rec) → (Result (Optional Found) Refusal)
place_on text start j none = Err NoPlace
place_on text start j (some r) = (Ok (Some (record { start = (text_place text start j); len = (length (text_of text r)) })))

-- in the node that is held: 2, 8
abbrev pub text_on : (text : Text) (j start : ℕ) (held : Option Node) → (Result (Optional Found) Refusal)
text_on text j start none = Err NoNode
text_on text j start (some n) = place_on text start j (element_at j n.recs)

-- in a good table: 2, 8
abbrev pub text_found : (text : Text) (number j : ℕ) (table : Table) → (Result (Optional Found) Refusal)
text_found text number j table = text_on text j (node_start number table) (node_of number table)

-- by a party, in what it sees
abbrev pub text_found_as : (profile : Profile) (party : Party) (text : Text) (number j : ℕ) (table : Table) → (Result (Optional Found) Refusal)
text_found_as p q text number j table = text_found text number j (seen p q table)

-- in lent bytes: 14, 2, 8
abbrev pub lent_text_found : (party : Party) (text : Text) (number j : ℕ) (table : Bytes) → (Result (Optional Found) Refusal)
lent_text_found q text number j table = from_table (Err BadTable) (text_found_as (decode_whole table).kind.profile q text number j) table

-- ---- the bytes themselves, none where the call is refused

abbrev pub record_bytes : (text : Text) (there : Option Rec) → Bytes
record_bytes text none = []
record_bytes text (some r) = text_of text r

abbrev pub bytes_on : (text : Text) (j : ℕ) (held : Option Node) → Bytes
bytes_on text j none = []
bytes_on text j (some n) = record_bytes text (element_at j n.recs)

abbrev pub bytes_in : (text : Text) (number j : ℕ) (table : Table) → Bytes
bytes_in text number j table = bytes_on text j (node_of number table)

-- ---- what is handed out, of a good table and of lent bytes

-- a count, or 0 where it was refused
abbrev pub counted_or : (count : (Result ℕ Refusal)) → ℕ
counted_or (Ok n) = n
counted_or (Err r) = 0

abbrev pub text_part : (profile : Profile) (party : Party) (text : Text) (number j : ℕ) (table : Table) → HandedOut
text_part p q text number j table =
    record { bytes = bytes_in text number j (seen p q table); start = start_of (moved_by (front_in p q number table) (text_found_as p q text number j table)) }

abbrev pub lent_text_part : (party : Party) (text : Text) (number j : ℕ) (table : Bytes) → HandedOut
lent_text_part q text number j table = from_table nothing_held (text_part (decode_whole table).kind.profile q text number j) table
