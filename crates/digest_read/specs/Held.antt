-- A digest as the code holds it: the answer, and eight places for the entries. What each function makes of the bytes, by the definitions of
-- `rules`.
use Rattle.std.specs.Prelude.{ℕ, zero, suc, ◌*◌, ◌-◌, ◌≤◌, List, [], ◌∷◌, length, take, Err, Ok, Result}
use Rattle.fields.specs.Numbers.{Bytes}
use Rattle.fields.specs.Blocks.{unblock}
use Rattle.rules.specs.Sizes.{max_nodes}
use Rattle.rules.specs.Node.{beats}
use Rattle.rules.specs.Digest.{NodeDigest, DigestRead, Entries, Refused, entry_width, entry_of, read_digest}
use Rattle.digest_read.specs.declared.NodeDigest.{NodeDigest as Place}
use Rattle.digest_read.specs.declared.DigestRead.{DigestRead as Answer}
use Rattle.rules.specs.declared.Refusal.{Refusal}
use Rattle.digest_read.specs.declared.Digest.{Digest}
use Rattle.rules.specs.declared.Pair.{Pair}
use Rattle.digest_read.specs.declared.Gathered.{Gathered}

-- ---- entries in places

-- an entry in a place, and the entry of a place
abbrev pub held : (entry : NodeDigest) → Place
held d = record { number = d.number; heartbeat = d.heartbeat; last_gc = d.last_gc; max = d.max }

abbrev pub back : (place : Place) → NodeDigest
back p = record { number = p.number; heartbeat = p.heartbeat; last_gc = p.last_gc; max = p.max }

abbrev pub unused : Place
unused = record { number = 0; heartbeat = beats 0; last_gc = 0; max = 0 }

-- n places: the entries in their order, the others unused
unfoldable pub places : (n : ℕ) (entries : List NodeDigest) → List Place
places zero ds = []
places (suc n) [] = unused ∷ places n []
places (suc n) (d ∷ ds) = held d ∷ places n ds

unfoldable pub backs : (places : List Place) → List NodeDigest
backs [] = []
backs (p ∷ ps) = back p ∷ backs ps

-- entries as they are gathered, and back
abbrev pub in_places : (entries : List NodeDigest) → Gathered
in_places ds = record { count = length ds; entries = places max_nodes ds }

abbrev pub list_of : (gathered : Gathered) → List NodeDigest
list_of g = backs (take g.count g.entries)

-- ---- bytes

-- where entry i begins among the entries, and what stands behind i of them
abbrev pub entry_place : (i : ℕ) → ℕ
entry_place i = i * entry_width

-- so many entries, eight at most, are there
abbrev pub HasEntries : (n : ℕ) (bytes : Bytes) → Type 0
HasEntries n l = (n ≤ max_nodes) × (entry_place n ≤ length l)

-- the first n entries, as they stand
abbrev pub entries_at : (n : ℕ) (bytes : Bytes) → List NodeDigest
entries_at n l = unblock entry_width entry_of n l

-- the numbers of the nodes that they tell of
unfoldable pub numbers_told : (entries : List NodeDigest) → List ℕ
numbers_told [] = []
numbers_told (d ∷ ds) = d.number ∷ numbers_told ds

-- ---- the digest

-- what is held of a digest of so many bytes with its rest
abbrev pub held_of : (n : ℕ) (read : DigestRead) → Digest
held_of n (Entries ds rest) = record { read = Ok (record { count = length ds; rest = n - length rest }); entries = places max_nodes ds }
held_of n (Refused r) = record { read = Err r; entries = places max_nodes [] }

unfoldable pub digest_in : (edition : ℕ) (digest : Bytes) → Digest
digest_in edition l = held_of (length l) (read_digest edition l)

-- the unread rest, and where it begins
abbrev pub rest_of : (read : DigestRead) → Bytes
rest_of (Entries ds rest) = rest
rest_of (Refused r) = []

abbrev pub begin_of : (n : ℕ) (read : DigestRead) → ℕ
begin_of n (Entries ds rest) = n - length rest
begin_of n (Refused r) = 0

unfoldable pub rest_at : (edition : ℕ) (digest : Bytes) → ℕ
rest_at edition l = begin_of (length l) (read_digest edition l)

-- ---- what a digest tells

abbrev pub entries_of : (answer : Result Answer Refusal) (places : List Place) → List NodeDigest
entries_of (Ok d) ps = backs (take d.count ps)
entries_of (Err r) ps = []

abbrev pub entries_in : (digest : Digest) → List NodeDigest
entries_in d = entries_of d.read d.entries

-- the entries of a digest that was read
abbrev pub entries_read : (read : DigestRead) → List NodeDigest
entries_read (Entries ds rest) = ds
entries_read (Refused r) = []

-- the digest pair
abbrev pub pair_of : (entry : NodeDigest) → Pair
pair_of d = record { last_gc = d.last_gc; max = d.max }
