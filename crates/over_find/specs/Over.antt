-- A lookup over overrides and a node of a table, both lent (document 02, ticket 10): the override's value if its record is there and unhidden, else the node's.
-- Which of the two slices it stands in and where, so that the call can hand out those very bytes; and that these bytes are the rules' value. By a party (ticket
-- 9): what it finds in the table is what `lookup` finds, and 19 is the table's refusal, so that it stands before the overrides too.
use Rattle.std.specs.Prelude.{ℕ, ◌+◌, ◌≤◌, Bool, true, false, List, []}
use Rattle.std.proofs.Math.Option.{Option, none, some}
use Rattle.fields.specs.Choice.{pick}
use Rattle.fields.specs.Numbers.{Bytes}
use Rattle.fields.specs.Parts.{part}
use Rattle.rules.specs.Node.{Node, find, shown}
use Rattle.rules.specs.Table.{Table}
use Rattle.rules.specs.Local as rule
use Rattle.rules.specs.Local.{lookup_on}
use Rattle.rules.specs.Whole.{decode_whole}
use Rattle.rules.specs.declared.Profile.{Profile}
use Rattle.rules.specs.declared.Party.{Party}
use Rattle.rules.specs.declared.Refusal.TheVariants.{BadTable}
use Rattle.own_rows.specs.Sight.{front_in}
use Rattle.lookup.specs.Lookup.{find_on, find_as, handed, Hands}
use Rattle.std.specs.Prelude.{Option as Optional}
use Rattle.std.specs.Prelude.{Err, None, Ok, Result, Some}
use Rattle.lookup.specs.declared.Found.{Found}
use Rattle.over_find.specs.declared.FoundOver.{FoundOver}
use Rattle.overrides.specs.declared.RefusedOver.{RefusedOver}
use Rattle.rules.specs.declared.Refusal.{Refusal}
use Rattle.over_find.specs.declared.FoundOver.TheVariants as place
use Rattle.overrides.specs.Both.{from_both}
use Rattle.overrides.specs.declared.Which.TheVariants as which

-- ---- the value, by the rules

-- the first of two values that is there
abbrev pub or_else : (own shared : Option (List ℕ)) → Option (List ℕ)
or_else none s = s
or_else (some v) s = some v

-- what shows of a key: the override's value if its record is there and unhidden, else the node's
abbrev pub over_found : (key : Bytes) (over node : Node) → Option (List ℕ)
over_found k o n = or_else (shown (find k o.recs)) (shown (find k n.recs))

-- what a lookup in the overrides and one in the table come to: the table's refusals (2, 1) first
abbrev pub ruled_over : (own shared : rule.Found) → rule.Found
ruled_over own (rule.NotFound r) = rule.NotFound r
ruled_over (rule.Value v) (rule.Value w) = rule.Value v
ruled_over rule.Nothing (rule.Value w) = rule.Value w
ruled_over (rule.NotFound r) (rule.Value w) = rule.Value w
ruled_over (rule.Value v) rule.Nothing = rule.Value v
ruled_over rule.Nothing rule.Nothing = rule.Nothing
ruled_over (rule.NotFound r) rule.Nothing = rule.Nothing

-- 2, 1, 19
unfoldable pub lookup_over : (profile : Profile) (party : Party) (number : ℕ) (key : Bytes) (over : Node) (table : Table) → rule.Found
lookup_over p q number k o t = ruled_over (lookup_on k (some o)) (rule.lookup_as p q number k t)

-- ---- where it is

-- the overrides' own record, if it shows
abbrev pub first_of : (own : (Result (Optional Found) Refusal)) (shared : (Result (Optional FoundOver) RefusedOver)) → (Result (Optional FoundOver) RefusedOver)
first_of (Ok (Some f)) s = (Ok (Some (place.InOverrides f.start f.len)))
first_of (Ok None) s = s
first_of (Err r) s = s

-- by what each of the two says, the table's refusals first
abbrev pub over_of : (own shared : (Result (Optional Found) Refusal)) → (Result (Optional FoundOver) RefusedOver)
over_of own (Ok (Some f)) = first_of own (Ok (Some (place.InTable f.start f.len)))
over_of own (Ok None) = first_of own (Ok None)
over_of own (Err r) = (Err (record { which = which.Neither; why = r }))

-- what the ordinary lookup found, as one over both
abbrev pub plainly : (shared : (Result (Optional Found) Refusal)) → (Result (Optional FoundOver) RefusedOver)
plainly f = over_of (Ok None) f

-- in good overrides, whose bytes begin with the node's
abbrev pub own_found : (key : Bytes) (over : Node) → (Result (Optional Found) Refusal)
own_found k o = find_on k 0 (some o)

-- and a good table: 2, 1, 19
abbrev pub found_over : (profile : Profile) (party : Party) (number : ℕ) (key : Bytes) (over : Node) (table : Table) → (Result (Optional FoundOver) RefusedOver)
found_over p q number k o t = over_of (own_found k o) (find_as p q number k t)

-- in lent bytes: 14 of the overrides, 14 of the table, 2, 1, 19
abbrev pub lent_find_over : (party : Party) (number : ℕ) (key overrides table : Bytes) → (Result (Optional FoundOver) RefusedOver)
lent_find_over q number k o t = from_both (λ w. (Err (record { which = w; why = BadTable }))) (found_over (decode_whole t).kind.profile q number k) o t

-- ---- what is handed out: a part of the one slice or of the other

-- the part begins so many bytes behind the front of its slice; where nothing is found or the call is refused, it is the empty part at the table's front
abbrev pub start_of : (found : (Result (Optional FoundOver) RefusedOver)) → ℕ
start_of (Ok (Some (place.InOverrides start len))) = start
start_of (Ok (Some (place.InTable start len))) = start
start_of (Ok None) = 0
start_of (Err r) = 0

abbrev pub len_of : (found : (Result (Optional FoundOver) RefusedOver)) → ℕ
len_of (Ok (Some (place.InOverrides start len))) = len
len_of (Ok (Some (place.InTable start len))) = len
len_of (Ok None) = 0
len_of (Err r) = 0

-- it is a part of the overrides
abbrev pub is_over : (found : (Result (Optional FoundOver) RefusedOver)) → Bool
is_over (Ok (Some (place.InOverrides start len))) = true
is_over (Ok (Some (place.InTable start len))) = false
is_over (Ok None) = false
is_over (Err r) = false

-- it lies within its slice
abbrev pub Within : (overrides table : ℕ) (found : (Result (Optional FoundOver) RefusedOver)) → Type 0
Within o t found = start_of found + len_of found ≤ pick (is_over found) o t

-- its bytes, the slice, and where it begins there
pub record HandedOver : Type 0 where
  pub bytes : Bytes
  pub over : Bool
  pub start : ℕ

-- the promise: these bytes, in the memory of the one slice or of the other, as many bytes behind its front
abbrev pub HandsOver : (of : HandedOver) (overrides table : ℕ × ℕ) (bytes : Bytes) (pointer : ℕ × ℕ) → Type 0
HandsOver of o t bytes pointer = Hands (record { bytes = of.bytes; start = of.start }) (pick of.over o t) bytes pointer

-- the part that was found
abbrev pub part_over : (overrides table : Bytes) (found : (Result (Optional FoundOver) RefusedOver)) → HandedOver
part_over o t found = record { bytes = part (start_of found) (len_of found) (pick (is_over found) o t); over = is_over found; start = start_of found }

-- a place in the table, so many bytes further back
abbrev pub moved_by : (front : ℕ) (found : (Result (Optional FoundOver) RefusedOver)) → (Result (Optional FoundOver) RefusedOver)
moved_by front (Ok (Some (place.InOverrides start len))) = (Ok (Some (place.InOverrides start len)))
moved_by front (Ok (Some (place.InTable start len))) = (Ok (Some (place.InTable (start + front) len)))
moved_by front (Ok None) = (Ok None)
moved_by front (Err rr) = (Err (record { which = rr.which; why = rr.why }))

-- the value of a key by a party, in good overrides and a good table
abbrev pub value_over : (profile : Profile) (party : Party) (number : ℕ) (key : Bytes) (over : Node) (table : Table) → HandedOver
value_over p q number k o t =
    record {
      bytes = handed (lookup_over p q number k o t);
      over = is_over (found_over p q number k o t);
      start = start_of (moved_by (front_in p q number t) (found_over p q number k o t));
    }

-- the empty part at the table's front
abbrev pub nothing_held : HandedOver
nothing_held = record { bytes = []; over = false; start = 0 }

-- and in lent bytes
abbrev pub lent_value_over : (party : Party) (number : ℕ) (key overrides table : Bytes) → HandedOver
lent_value_over q number k o t = from_both (λ w. nothing_held) (value_over (decode_whole t).kind.profile q number k) o t
