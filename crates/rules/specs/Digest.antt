-- A digest tells one (heartbeat, last_gc, max) for each node. Its bytes are entries of 32 bytes: for each node its number, heartbeat, last_gc and max,
-- eight bytes each. There are two editions (ticket 11): V0 has a count of two bytes before the entries, V1 has none, and its entries go to the end.
use Rattle.std.specs.Prelude.{ℕ, ◌*◌, ◌-◌, ◌/◌, ◌%◌, Bool, ◌&&◌, List, [], ◌∷◌, ◌++◌, length, take, drop, leb, ltb, eqb}
use Rattle.fields.specs.Choice.{pick}
use Rattle.fields.specs.Numbers.{Bytes, nat_of, bytes_of}
use Rattle.fields.specs.Parts.{part, put}
use Rattle.fields.specs.Blocks.{flat, unblock}
use Rattle.rules.specs.Given.{Given, given}
use Rattle.rules.specs.Sizes.{max_nodes}
use Rattle.rules.specs.Node.{beats}
use Rattle.rules.specs.Table.{Entry, Table, among}
use Rattle.rules.specs.Delta.{number_lacks}
use Rattle.rules.specs.declared.Heartbeat.{Heartbeat}
use Rattle.rules.specs.declared.Refusal.{Refusal}
use Rattle.rules.specs.declared.Refusal.TheVariants.{NoPlace, Cut, TooMany, BadEdition}
use Rattle.std.specs.Prelude.{Err, Ok, Result}

-- what a digest tells of a node
pub record NodeDigest : Type 0 where
  pub number : ℕ
  pub heartbeat : Heartbeat
  pub last_gc : ℕ
  pub max : ℕ

abbrev pub digest_of_node : (entry : Entry) → NodeDigest
digest_of_node e = record { number = e.number; heartbeat = e.node.heartbeat; last_gc = e.node.last_gc; max = e.node.max }

-- excluded nodes are left out
unfoldable pub digest_of : (excluded : List ℕ) (table : Table) → List NodeDigest
digest_of excluded [] = []
digest_of excluded (e ∷ t) = pick (among e.number excluded) (digest_of excluded t) (digest_of_node e ∷ digest_of excluded t)

-- ---- bytes

-- the width of an entry and of the count
abbrev pub entry_width : ℕ
entry_width = 32

abbrev pub count_width : ℕ
count_width = 2

-- The caller tells the edition by its number, 0 for V0 and 1 for V1. There is no other.
abbrev pub is_edition : (edition : ℕ) → Bool
is_edition edition = leb edition 1

-- how many bytes stand before the entries: the count's, and none in V1
unfoldable pub head_width : (edition : ℕ) → ℕ
head_width edition = pick (eqb edition 0) count_width 0

unfoldable pub entry_bytes : (entry : NodeDigest) → Bytes
entry_bytes d = bytes_of 8 d.number ++ (bytes_of 8 d.heartbeat.0 ++ (bytes_of 8 d.last_gc ++ bytes_of 8 d.max))

-- the count in its bytes, if the edition has one, then an entry behind the other
unfoldable pub digest_bytes : (edition : ℕ) (ds : List NodeDigest) → Bytes
digest_bytes edition ds = bytes_of (head_width edition) (length ds) ++ flat entry_bytes ds

-- an entry out of its 32 bytes
unfoldable pub entry_of : (bytes : Bytes) → NodeDigest
entry_of b =
    record {
      number = nat_of (part 0 8 b);
      heartbeat = beats (nat_of (part 8 8 b));
      last_gc = nat_of (part 16 8 b);
      max = nat_of (part 24 8 b);
    }

-- ---- reading

-- the entries as they stand, and the unread rest
pub data DigestRead : Type 0 where
  Entries : List NodeDigest → List ℕ → DigestRead
  Refused : Refusal → DigestRead

-- the first n entries of the bytes, and what stands behind them
abbrev pub first_entries : (n : ℕ) (bytes : Bytes) → DigestRead
first_entries n l = Entries (unblock entry_width entry_of n l) (drop (n * entry_width) l)

-- so many entries: 13 over eight, 9 where they are not all there, with the bytes that the number lacks in which they end
abbrev pub read_count : (n : ℕ) (bytes : Bytes) → DigestRead
read_count n l =
    pick (leb n max_nodes)
    (pick (leb (n * entry_width) (length l)) (first_entries n l) (Refused (Cut (number_lacks (length l)))))
    (Refused TooMany)

-- V0: 9 for the count, with the bytes that it lacks, 13, 9
abbrev pub read_counted : (bytes : Bytes) → DigestRead
read_counted l = pick (leb count_width (length l)) (read_count (nat_of (take count_width l)) (drop count_width l)) (Refused (Cut (count_width - length l)))

-- V1: 9 where the bytes are no whole number of entries, with the bytes that the number lacks in which they end, then 13 over eight
abbrev pub read_to_end : (bytes : Bytes) → DigestRead
read_to_end l =
    pick (eqb (length l % entry_width) 0)
    (pick (leb (length l / entry_width) max_nodes) (first_entries (length l / entry_width) l) (Refused TooMany))
    (Refused (Cut (number_lacks (length l))))

-- 20 for another edition, then what the edition says
unfoldable pub read_entries : (edition : ℕ) (bytes : Bytes) → DigestRead
read_entries edition l = pick (eqb edition 0) (read_counted l) (pick (eqb edition 1) (read_to_end l) (Refused BadEdition))

-- an entry takes the place of its node's, or its own in the order of the numbers
unfoldable pub tell : (entry : NodeDigest) (entries : List NodeDigest) → List NodeDigest
tell d [] = d ∷ []
tell d (a ∷ l) = pick (eqb d.number a.number) (d ∷ l) (pick (ltb d.number a.number) (d ∷ a ∷ l) (a ∷ tell d l))

-- the entries one after the other: a repeated node's last entry counts
unfoldable pub tell_all : (entries l : List NodeDigest) → List NodeDigest
tell_all [] l = l
tell_all (d ∷ ds) l = tell_all ds (tell d l)

abbrev pub gathered : DigestRead → DigestRead
gathered (Entries ds rest) = Entries (tell_all ds []) rest
gathered (Refused r) = Refused r

-- the digest that the bytes are: ascending, each node once
unfoldable pub read_digest : (edition : ℕ) (bytes : Bytes) → DigestRead
read_digest edition l = gathered (read_entries edition l)

-- ---- writing

-- the place is not past the end of the list, and n elements are free from there on
abbrev pub fits_at : (place n : ℕ) (bytes : Bytes) → Bool
fits_at place n l = leb place (length l) && leb n (length l - place)

abbrev pub write_bytes : (bytes : Bytes) (place : ℕ) (datagram : Bytes) → Given (Result ℕ Refusal) Bytes
write_bytes b place l = pick (fits_at place (length b) l) (given (Ok (length b)) (put place b l)) (given (Err NoPlace) l)

-- a digest written into a datagram from its place: 20, 8
unfoldable pub write_digest : (edition : ℕ) (excluded : List ℕ) (place : ℕ) (table : Table) (datagram : Bytes) → Given (Result ℕ Refusal) Bytes
write_digest edition excluded place t l =
    pick (is_edition edition) (write_bytes (digest_bytes edition (digest_of excluded t)) place l) (given (Err BadEdition) l)
