-- The places and lengths that a record's reading tells are those of its texts, so what is promised of a text holds of them. Assumes nothing.
use Prim.Native.Nat.{ℕ}
use mathlib.Core.Path.{◌≡◌, refl}
use mathlib.Core.Option.{Option, none, some}
use Rattle.rules.specs.Node.{Rec, Node}
use Rattle.rules.specs.Table.{Table, node_of}
use Rattle.table_read.specs.Find.{node_start}
use Rattle.std.specs.Prelude.{Option as Optional}
use Rattle.std.specs.Prelude.{Err, None, Ok, Result, Some}
use Rattle.inspect.specs.declared.RecordRead.{RecordRead}
use Rattle.lookup.specs.declared.Found.{Found}
use Rattle.rules.specs.declared.Refusal.{Refusal}
use Rattle.inspect.specs.Look.{element_at, read_at, record_on, read_record}
use Rattle.inspect_text.specs.Texts.{place_on, text_on, text_found}
use Rattle.inspect_text.specs.declared.Text.{Text}
use Rattle.inspect_text.specs.declared.Text.TheVariants.{Key, Value}

-- where a record's reading says that its text stands
abbrev pub text_read : (text : Text) (read : (Result (Optional RecordRead) Refusal)) → (Result (Optional Found) Refusal)
text_read Key (Ok (Some rr)) = (Ok (Some (record { start = rr.key; len = rr.«record».keylen })))
text_read Value (Ok (Some rr)) = (Ok (Some (record { start = rr.value; len = rr.«record».valuelen })))
text_read text (Ok None) = (Ok None)
text_read text (Err r) = Err r

same_place : (text : Text) (start j : ℕ) (there : Option Rec) → text_read text (read_at start j there) ≡ place_on text start j there
same_place Key start j none = refl
same_place Key start j (some r) = refl
same_place Value start j none = refl
same_place Value start j (some r) = refl

same-on : (text : Text) (j start : ℕ) (held : Option Node) → text_read text (record_on j start held) ≡ text_on text j start held
same-on Key j start none = refl
same-on Value j start none = refl
same-on text j start (some n) = same_place text start j (element_at j n.recs)

pub same_text : (text : Text) (number j : ℕ) (table : Table) → text_read text (read_record number j table) ≡ text_found text number j table
same_text text number j table = same-on text j (node_start number table) (node_of number table)
