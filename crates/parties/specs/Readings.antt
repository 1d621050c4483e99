-- A party's readings, in the rules' own terms: the value of a key, the hits of a prefix, how many records a node has, a record by its place and by its key.
-- What is said of a record is its key, its value, its status and its start. They are readings of what the party sees, so places are counted among its own
-- records. The readings as they are linked, with their places in bytes, stand above (`parties_calls`).
use Rattle.std.specs.Prelude.{ℕ, Bool, List, [], ◌∷◌, length, drop, leb}
use Rattle.std.proofs.Math.Option.{Option, none, some}
use Rattle.fields.specs.Numbers.{Bytes}
use Rattle.fields.specs.Choice.{pick}
use Rattle.rules.specs.Sizes.{max_key}
use Rattle.rules.specs.Answers.{accepted, refused, listed_told}
use Rattle.rules.specs.Node.{Rec, Node, find}
use Rattle.rules.specs.Table.{Table, node_of}
use Rattle.rules.specs.Party.{sees, seen}
use Rattle.rules.specs.Local.{Found, Value, Nothing, NotFound, lookup_as, prefixed_as}
use Rattle.rules.specs.Delta.{status_byte}
use Rattle.rules.specs.declared.Party.{Party}
use Rattle.rules.specs.declared.Profile.{Profile}
use Rattle.rules.specs.declared.Refusal.TheVariants.{TooLong, NoNode, NoPlace, OtherParty}
use Rattle.parties.specs.TwoRuns.{Said, says}

pub data Reading : Type 0 where
  -- the value of a key; the hits of a prefix: node, prefix, the lent list
  Lookup : ℕ → List ℕ → Reading
  Listing : ℕ → List ℕ → List ℕ → Reading
  -- how many records a node has; a record by its place; the record of a key: node, place or key
  Counting : ℕ → Reading
  RecordAt : ℕ → ℕ → Reading
  RecordOf : ℕ → List ℕ → Reading

abbrev pub found_said : (found : Found) → Said
found_said (Value v) = says (accepted []) (v ∷ [])
found_said Nothing = says (accepted []) []
found_said (NotFound r) = says (refused r []) []

-- status and start, key and value
abbrev pub record_said : (rec : Rec) → Said
record_said r = says (accepted (status_byte r.kv.status ∷ r.start ∷ [])) (r.kv.key ∷ r.kv.value ∷ [])

abbrev pub count_said : (held : Option Node) → Said
count_said none = says (refused NoNode []) []
count_said (some n) = says (accepted (length n.recs ∷ [])) []

-- the first of those that are left, if there is one
abbrev pub first_said : (left : List Rec) → Said
first_said [] = says (refused NoPlace []) []
first_said (r ∷ l) = record_said r

abbrev pub at_said : (j : ℕ) (held : Option Node) → Said
at_said j none = says (refused NoNode []) []
at_said j (some n) = first_said (drop j n.recs)

abbrev pub key_said : (there : Option Rec) → Said
key_said none = says (accepted []) []
key_said (some r) = record_said r

-- 2, 1, 19
abbrev pub of_said : (sees : Bool) (key : Bytes) (held : Option Node) → Said
of_said b k none = says (refused NoNode []) []
of_said b k (some n) = pick (leb (length k) max_key) (pick b (key_said (find k n.recs)) (says (refused OtherParty []) [])) (says (refused TooLong []) [])

-- of what the party sees
abbrev pub reading_said : (profile : Profile) (party : Party) (reading : Reading) (table : Table) → Said
reading_said f p (Lookup i k) t = found_said (lookup_as f p i k t)
reading_said f p (Listing i k l) t = says (listed_told (prefixed_as f p i k t l).answer) ((prefixed_as f p i k t l).lent ∷ [])
reading_said f p (Counting i) t = count_said (node_of i (seen f p t))
reading_said f p (RecordAt i j) t = at_said j (node_of i (seen f p t))
reading_said f p (RecordOf i k) t = of_said (sees f p k) k (node_of i (seen f p t))
