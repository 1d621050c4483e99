-- The records of a node whose keys begin with a prefix, in one piece. Keys ascend, so they stand together, behind the records whose keys come before the
-- prefix; hidden ones are among them. Where the first would begin in the table, and how many they are: 2, 1; in lent bytes 14 first.
use Rattle.std.specs.Prelude.{ℕ, ◌+◌, Bool, List, length, leb}
use Rattle.std.proofs.Math.Option.{Option, none, some}
use Rattle.fields.specs.Choice.{pick, keep}
use Rattle.fields.specs.Numbers.{Bytes}
use Rattle.fields.specs.Order.{less_bytes, starts_with}
use Rattle.rules.specs.Sizes.{max_key}
use Rattle.rules.specs.Node.{Rec, Node}
use Rattle.rules.specs.Table.{Table, node_of}
use Rattle.rules.specs.Party.{seen}
use Rattle.rules.specs.Layout.{rec_place}
use Rattle.rules.specs.Whole.{decode_whole}
use Rattle.rules.specs.Lent.{from_table}
use Rattle.rules.specs.declared.Profile.{Profile}
use Rattle.rules.specs.declared.Party.{Party}
use Rattle.rules.specs.declared.Refusal.TheVariants.{TooLong, NoNode, BadTable}
use Rattle.table_read.specs.Find.{node_start}
use Rattle.std.specs.Prelude.{Err, Ok, Result}
use Rattle.inspect.specs.declared.Rows.{Rows}
use Rattle.rules.specs.declared.Refusal.{Refusal}

-- the key comes before the prefix; it begins with the prefix
abbrev pub earlier : (prefix : Bytes) (rec : Rec) → Bool
earlier k r = less_bytes r.kv.key k

abbrev pub begun : (prefix : Bytes) (rec : Rec) → Bool
begun k r = starts_with k r.kv.key

-- of a node whose bytes begin at `start` in a table's
abbrev pub run_rows : (prefix : Bytes) (start : ℕ) (recs : List Rec) → (Result Rows Refusal)
run_rows k start l = (Ok (record { at = (start + rec_place (length (keep (earlier k) l))); count = (length (keep (begun k) l)) }))

abbrev pub prefix_rows_on : (prefix : Bytes) (start : ℕ) (held : Option Node) → (Result Rows Refusal)
prefix_rows_on k start none = Err NoNode
prefix_rows_on k start (some n) = pick (leb (length k) max_key) (run_rows k start n.recs) (Err TooLong)

abbrev pub prefix_rows : (number : ℕ) (prefix : Bytes) (table : Table) → (Result Rows Refusal)
prefix_rows number k table = prefix_rows_on k (node_start number table) (node_of number table)

-- by a party: of what it sees
abbrev pub prefix_rows_as : (profile : Profile) (party : Party) (number : ℕ) (prefix : Bytes) (table : Table) → (Result Rows Refusal)
prefix_rows_as p q number k table = prefix_rows number k (seen p q table)

abbrev pub lent_prefix_rows : (party : Party) (number : ℕ) (prefix table : Bytes) → (Result Rows Refusal)
lent_prefix_rows q number k table = from_table (Err BadTable) (prefix_rows_as (decode_whole table).kind.profile q number k) table
