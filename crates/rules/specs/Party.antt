-- Two firms on one table (ticket 9): in a shared table the keys of the metering firm begin `m/`, those of the building manager `b/`, and each has at most 16
-- records a node. A call that looks at keys names its party. What a party sees of a shared table is the table as it would be with the party's own records alone;
-- other tables show all of it to everyone.
use Rattle.std.specs.Prelude.{Bool, true, false, ◌&&◌, List, [], ◌∷◌, length, leb}
use Rattle.fields.specs.Numbers.{Bytes}
use Rattle.fields.specs.Choice.{pick, keep}
use Rattle.fields.specs.Order.{starts_with}
use Rattle.rules.specs.Sizes.{max_each}
use Rattle.rules.specs.Node.{Rec, Node}
use Rattle.rules.specs.Table.{Table}
use Rattle.rules.specs.declared.Profile.{Profile}
use Rattle.rules.specs.declared.Profile.TheVariants.{Free, Meter, Shared}
use Rattle.rules.specs.declared.Party.{Party}
use Rattle.rules.specs.declared.Party.TheVariants.{Metering, Building, Nobody}

-- ---- whose a key is

-- `m/`, `b/`
abbrev pub metering_keys : Bytes
metering_keys = 109 ∷ 47 ∷ []

abbrev pub building_keys : Bytes
building_keys = 98 ∷ 47 ∷ []

abbrev pub own : (party : Party) (key : Bytes) → Bool
own Metering k = starts_with metering_keys k
own Building k = starts_with building_keys k
own Nobody k = false

-- of one of the two
abbrev pub someones : (key : Bytes) → Bool
someones k = pick (own Metering k) true (own Building k)

-- the records of the keys that pass a test, in key order
abbrev pub of_keys : (mine : Bytes → Bool) (recs : List Rec) → List Rec
of_keys mine l = keep (λ (r : Rec). mine r.kv.key) l

-- no more than 16 of either
abbrev pub roomy_each : (recs : List Rec) → Bool
roomy_each l = leb (length (of_keys (own Metering) l)) max_each && leb (length (of_keys (own Building) l)) max_each

-- ---- what a party sees

-- whether a key may be named
abbrev pub sees : (profile : Profile) (party : Party) (key : Bytes) → Bool
sees Free q k = true
sees Meter q k = true
sees Shared q k = own q k

abbrev pub seen_recs : (profile : Profile) (party : Party) (recs : List Rec) → List Rec
seen_recs Free q l = l
seen_recs Meter q l = l
seen_recs Shared q l = of_keys (own q) l

-- a node with other records
abbrev pub with_records : (recs : List Rec) (node : Node) → Node
with_records l n = record { heartbeat = n.heartbeat; max = n.max; last_gc = n.last_gc; recs = l }

-- the table with the records alone whose keys pass the test
unfoldable pub alone : (mine : Bytes → Bool) (table : Table) → Table
alone mine [] = []
alone mine (e ∷ t) = record { number = e.number; node = with_records (of_keys mine e.node.recs) e.node } ∷ alone mine t

abbrev pub seen : (profile : Profile) (party : Party) (table : Table) → Table
seen Free q t = t
seen Meter q t = t
seen Shared q t = alone (own q) t
