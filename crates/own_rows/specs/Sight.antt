-- Which records of a node a party sees, as a piece of its rows: how many stand before the piece, and how many it has. In a shared table the records of the
-- building manager (`b/`) come before those of the metering firm (`m/`), so that what a party sees (rules/specs/Party, `seen_recs`) stands in one piece.
use Rattle.std.specs.Prelude.{ℕ, ◌*◌, List, length}
use Rattle.std.proofs.Math.Option.{Option, none, some}
use Rattle.rules.specs.Node.{Rec, Node}
use Rattle.rules.specs.Table.{Table, node_of}
use Rattle.rules.specs.Party.{own, of_keys, with_records}
use Rattle.rules.specs.Layout.{rec_width}
use Rattle.rules.specs.declared.Profile.{Profile}
use Rattle.rules.specs.declared.Profile.TheVariants.{Free, Meter, Shared}
use Rattle.rules.specs.declared.Party.{Party}
use Rattle.rules.specs.declared.Party.TheVariants.{Metering, Building, Nobody}
use Rattle.own_rows.specs.declared.Sight.{Sight}

abbrev pub sight : (low count : ℕ) → Sight
sight low n = record { low = low; count = n }

abbrev pub shared_sight : (party : Party) (recs : List Rec) → Sight
shared_sight Metering l = sight (length (of_keys (own Building) l)) (length (of_keys (own Metering) l))
shared_sight Building l = sight 0 (length (of_keys (own Building) l))
shared_sight Nobody l = sight 0 0

abbrev pub sight_in : (profile : Profile) (party : Party) (recs : List Rec) → Sight
sight_in Free q l = sight 0 (length l)
sight_in Meter q l = sight 0 (length l)
sight_in Shared q l = shared_sight q l

-- what a party sees of a node, and of the node that is held
abbrev pub seen_node : (profile : Profile) (party : Party) (node : Node) → Node
seen_node Free q n = n
seen_node Meter q n = n
seen_node Shared q n = with_records (of_keys (own q) n.recs) n

abbrev pub seen_held : (profile : Profile) (party : Party) (held : Option Node) → Option Node
seen_held p q none = none
seen_held p q (some n) = some (seen_node p q n)

-- The front: so many bytes further back than is told stand the party's records of that node in the table's bytes. What is told are the places of a table with
-- the party's own records alone.
abbrev pub front_on : (profile : Profile) (party : Party) (held : Option Node) → ℕ
front_on p q none = 0
front_on p q (some n) = (sight_in p q n.recs).low * rec_width

abbrev pub front_in : (profile : Profile) (party : Party) (number : ℕ) (table : Table) → ℕ
front_in p q number t = front_on p q (node_of number t)
