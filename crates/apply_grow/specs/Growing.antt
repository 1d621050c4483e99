-- What the code leaves of a node's bytes: before the first record is taken, and after an outcome that has room or not.
use Rattle.std.specs.Prelude.{ℕ, ◌+◌, ◌≡◌, Bool, true, false, ◌&&◌, List, leb, length}
use Rattle.fields.specs.Choice.{pick}
use Rattle.fields.specs.Numbers.{Bytes}
use Rattle.rules.specs.Sizes.{max_records, max_each}
use Rattle.rules.specs.Given.{Given, given}
use Rattle.rules.specs.Node.{Rec}
use Rattle.rules.specs.Table.{Entry}
use Rattle.rules.specs.Party.{own, of_keys}
use Rattle.rules.specs.Profile.{roomy_in}
use Rattle.rules.specs.Apply.{take_all}
use Rattle.rules.specs.Layout.{encode_node, decode_node}
use Rattle.rules.specs.declared.Party.TheVariants.{Metering, Building}
use Rattle.rules.specs.declared.Profile.{Profile}
use Rattle.rules.specs.declared.Profile.TheVariants.{Free, Meter, Shared}
use Rattle.table.specs.Fits.{LaidNode}
use Rattle.table.specs.Changes.{with_max, with_gc, with_recs, fresh_entry}
use Rattle.delta_op.specs.Plain.{recs_from}

-- whether so many records more have room, whosever they are
abbrev pub roomy_each_for : (count : ℕ) (recs : List Rec) → Bool
roomy_each_for n l = leb (n + length (of_keys (own Metering) l)) max_each && leb (n + length (of_keys (own Building) l)) max_each

abbrev pub fit_for : (profile : Profile) (count : ℕ) (recs : List Rec) → Bool
fit_for Free n l = true
fit_for Meter n l = true
fit_for Shared n l = roomy_each_for n l

abbrev pub roomy_for : (profile : Profile) (count : ℕ) (recs : List Rec) → Bool
roomy_for p n l = leb (n + length l) max_records && fit_for p n l

-- a reset: a fresh node under the same number with the delta's last_gc
abbrev pub emptied : (gc : ℕ) (held : Entry) → Entry
emptied gc e = with_gc gc (fresh_entry e.number)

-- the node before the first record is taken: after a reset, or as it is
abbrev pub begun : (afresh : Bool) (gc : ℕ) (held : Entry) → Entry
begun true gc e = emptied gc e
begun false gc e = e

-- the node with the records from a place of the delta taken, and max the delta's
abbrev pub grown : (clock : ℕ) (delta : Bytes) (at max : ℕ) (held : Entry) → Entry
grown clock s at max e = with_max max (with_recs (take_all e.node.max e.node.last_gc clock (recs_from s at) e.node.recs) e)

-- whether the node e has room in the profile, and then its bytes
pub record Grown (p : Profile) (e : Entry) (r : Bool) (b' : Bytes) : Type 0 where
  pub room : r ≡ roomy_in p e.node.recs
  pub laid : r ≡ true → LaidNode b'
  pub node : r ≡ true → decode_node b' ≡ e

-- whether the node e has room, and the bytes: its own, or b as they were
pub record Stored (p : Profile) (e : Entry) (b : Bytes) (r : Bool) (b' : Bytes) : Type 0 where
  pub room : r ≡ roomy_in p e.node.recs
  pub bytes : b' ≡ pick r (encode_node e) b

-- what is answered, and the bytes: those of the node e, or b as they were
abbrev pub grown_or_kept : (profile : Profile) (e : Entry) (b : Bytes) → Given Bool Bytes
grown_or_kept p e b = given (roomy_in p e.node.recs) (pick (roomy_in p e.node.recs) (encode_node e) b)
