-- The whole of a lent table: its area, in which the nodes stand (Layout), and behind the area a tail: what kind of table it is, and the nodes that were
-- removed from it (Memory).
use Rattle.std.specs.Prelude.{ℕ, zero, suc, ◌+◌, ◌*◌, Bool, ◌&&◌, List, [], ◌∷◌, length, take, drop}
use Rattle.fields.specs.Numbers.{Bytes, nat_of, bytes_of}
use Rattle.fields.specs.Parts.{part}
use Rattle.fields.specs.Blocks.{blocks, unblock}
use Rattle.fields.specs.Widths.{joined, offset, total}
use Rattle.fields.specs.Order.{same_bytes}
use Rattle.rules.specs.Sizes.{max_removed}
use Rattle.rules.specs.Answers.{mode_of, profile_of}
use Rattle.rules.specs.Node.{beats}
use Rattle.rules.specs.Table.{Table, numbers_of, obeys}
use Rattle.rules.specs.Memory.{Removed, Memory, memory_obeys}
use Rattle.rules.specs.Profile.{Kind, profile_obeys}
use Rattle.rules.specs.Layout.{table_width, encode, decode}
use Rattle.rules.specs.declared.Mode.{Mode}
use Rattle.rules.specs.declared.Mode.TheVariants.{Plain, Fenced, Guarded}
use Rattle.rules.specs.declared.Profile.{Profile}
use Rattle.rules.specs.declared.Profile.TheVariants.{Free, Meter, Shared}

-- a table with its kind (a mode and a profile) and its memory
pub record Whole : Type 0 where
  pub kind : Kind
  pub memory : Memory
  pub table : Table

-- with other nodes, and all else as it is
abbrev pub with_table : (table : Table) (whole : Whole) → Whole
with_table t w = record { kind = w.kind; memory = w.memory; table = t }

-- with another memory
abbrev pub with_memory : (memory : Memory) (whole : Whole) → Whole
with_memory m w = record { kind = w.kind; memory = m; table = w.table }

-- the table rules of 14: document 01's, those of the memory, those of the profile
unfoldable pub obeys_whole : (whole : Whole) → Bool
obeys_whole w = obeys w.table && (memory_obeys (numbers_of w.table) w.memory && profile_obeys w.kind.profile w.table)

-- ---- the tail: mode, profile, count of removed nodes, room for 16 of them

-- the mode that a number stands for
abbrev pub mode_of_byte : ℕ → Mode
mode_of_byte zero = Plain
mode_of_byte (suc zero) = Fenced
mode_of_byte (suc (suc n)) = Guarded

-- the profile that a number stands for
abbrev pub profile_of_byte : ℕ → Profile
profile_of_byte zero = Free
profile_of_byte (suc zero) = Meter
profile_of_byte (suc (suc n)) = Shared

-- a removed node: number, heartbeat
abbrev pub removed_widths : List ℕ
removed_widths = 8 ∷ 8 ∷ []

abbrev pub removed_width : ℕ
removed_width = total removed_widths

abbrev pub removed_fields : (removed : Removed) → List (List ℕ)
removed_fields r = bytes_of 8 r.number ∷ bytes_of 8 r.heartbeat.0 ∷ []

unfoldable pub encode_removed : (removed : Removed) → Bytes
encode_removed r = joined (removed_fields r)

unfoldable pub decode_removed : (bytes : Bytes) → Removed
decode_removed b =
    record { number = nat_of (part (offset removed_widths 0) 8 b); heartbeat = beats (nat_of (part (offset removed_widths 1) 8 b)) }

abbrev pub tail_widths : List ℕ
tail_widths = 1 ∷ 1 ∷ 1 ∷ max_removed * removed_width ∷ []

abbrev pub tail_width : ℕ
tail_width = total tail_widths

-- where removed node i begins in a tail's bytes
abbrev pub removed_place : (i : ℕ) → ℕ
removed_place i = offset tail_widths 3 + i * removed_width

-- the removed nodes stand one behind the other, the longest remembered first
abbrev pub tail_fields : (kind : Kind) (memory : Memory) → List (List ℕ)
tail_fields k mem = bytes_of 1 (mode_of k.mode) ∷ bytes_of 1 (profile_of k.profile) ∷ bytes_of 1 (length mem) ∷ blocks max_removed removed_width encode_removed mem ∷ []

unfoldable pub encode_tail : (kind : Kind) (memory : Memory) → Bytes
encode_tail k mem = joined (tail_fields k mem)

abbrev pub decode_tail : (tail : Bytes) → Kind
decode_tail b = record { mode = mode_of_byte (nat_of (part (offset tail_widths 0) 1 b)); profile = profile_of_byte (nat_of (part (offset tail_widths 1) 1 b)) }

unfoldable pub decode_memory : (tail : Bytes) → Memory
decode_memory b = unblock removed_width decode_removed (nat_of (part (offset tail_widths 2) 1 b)) (drop (offset tail_widths 3) b)

-- ---- the whole: the area, the tail

abbrev pub whole_widths : List ℕ
whole_widths = table_width ∷ tail_width ∷ []

-- how long the lent slice is
abbrev pub whole_width : ℕ
whole_width = total whole_widths

abbrev pub area_of : (bytes : Bytes) → Bytes
area_of l = take table_width l

abbrev pub tail_of : (bytes : Bytes) → Bytes
tail_of l = part (offset whole_widths 1) tail_width l

abbrev pub whole_fields : (whole : Whole) → List (List ℕ)
whole_fields w = encode w.table ∷ encode_tail w.kind w.memory ∷ []

unfoldable pub encode_whole : (whole : Whole) → Bytes
encode_whole w = joined (whole_fields w)

abbrev pub decode_whole : (bytes : Bytes) → Whole
decode_whole l = record { kind = decode_tail (tail_of l); memory = decode_memory (tail_of l); table = decode (area_of l) }

-- number 14 is refused exactly where this is false: the bytes are those of a table that obeys the rules, in one of the modes and one of the profiles
unfoldable pub valid_whole : (bytes : Bytes) → Bool
valid_whole l = obeys_whole (decode_whole l) && same_bytes (encode_whole (decode_whole l)) l
