-- What the code leaves at each level: a node's answer and bytes, a table's after one node delta and after all of them. And a delta that is accepted.
use Rattle.std.specs.Prelude.{ℕ, ◌≤◌, ◌<◌, ◌≡◌, Bool, true, false, List, length, get_or}
use Rattle.std.proofs.Math.Option.{Option, none, some}
use Rattle.fields.specs.Choice.{pick}
use Rattle.fields.specs.Numbers.{Bytes}
use Rattle.fields.specs.Parts.{put}
use Rattle.rules.specs.Sizes.{max_nodes}
use Rattle.rules.specs.Given.{Given, given}
use Rattle.rules.specs.Node.{Node}
use Rattle.rules.specs.Table.{Table, node_of, set_node}
use Rattle.rules.specs.Local.{Outcome, gives}
use Rattle.rules.specs.Delta.{Op, Good, NodeDelta, Part, read_delta}
use Rattle.rules.specs.Profile.{Kind}
use Rattle.rules.specs.Apply.{Taken, Taking, Stream, ways_in, apply_node, apply_each, codes}
use Rattle.rules.specs.Layout.{encode_node, decode_node, encode, decode}
use Rattle.rules.specs.Lent.{TableAndList, both}
use Rattle.rules.specs.declared.NodeAnswer.{NodeAnswer}
use Rattle.rules.specs.declared.NodeAnswer.TheVariants as node
use Rattle.rules.specs.declared.DeltaStatus.{DeltaStatus}
use Rattle.rules.specs.declared.DeltaStatus.TheVariants.{Reject, Fenced, Apply, ApplyAfterReset}
use Rattle.leaving.specs.Leaving.{leaving, leaving_each}
use Rattle.table.specs.Changes.{with_node}
use Rattle.delta_read.specs.NodeDeltas.{parts_from, no_part, Head}
use Rattle.delta_read.specs.declared.Heads.{Heads}

-- ---- a node

-- whether the node stays as it is
abbrev pub leaves : (status : DeltaStatus) → Bool
leaves Reject = true
leaves Fenced = true
leaves Apply = false
leaves ApplyAfterReset = false

abbrev pub resets : (status : DeltaStatus) → Bool
resets Reject = false
resets Fenced = false
resets Apply = false
resets ApplyAfterReset = true

-- what is answered, where there was room or not
abbrev pub answer_as : (status : DeltaStatus) (room : Bool) → NodeAnswer
answer_as Reject r = node.Reject
answer_as Fenced r = node.Fenced
answer_as Apply r = pick r node.Apply node.Room
answer_as ApplyAfterReset r = pick r node.ApplyAfterReset node.Room

-- what a node answers, and its bytes afterwards
abbrev pub node_taken : (taken : Taken) (node : Bytes) → Given NodeAnswer Bytes
node_taken x b = given x.answer (encode_node (with_node x.node (decode_node b)))

-- what it makes of a node delta
abbrev pub node_applied : (kind : Kind) (clock : ℕ) (came : NodeDelta) (node : Bytes) → Given NodeAnswer Bytes
node_applied k clock d b = node_taken (apply_node (ways_in k) clock d (decode_node b).node) b

-- ---- a table

-- a node missing in the table answers Unknown and is never made
abbrev pub on_held : (kind : Kind) (clock : ℕ) (came : Part) (held : Option Node) (table : Table) → Outcome NodeAnswer
on_held k clock x none t = gives node.Unknown t
on_held k clock x (some n) t = gives (apply_node (ways_in k) clock x.delta n).answer (set_node x.number (apply_node (ways_in k) clock x.delta n).node t)

-- what a table answers to one node delta, and the table afterwards
abbrev pub part_applied : (kind : Kind) (clock : ℕ) (came : Part) (table : Table) → Outcome NodeAnswer
part_applied k clock x t = on_held k clock x (node_of x.number t) t

-- the same by any way to take a node delta
abbrev pub on_held_by : (take : Taking) (came : Part) (held : Option Node) (table : Table) → Outcome NodeAnswer
on_held_by take x none t = gives node.Unknown t
on_held_by take x (some n) t = gives (take x.delta n).answer (set_node x.number (take x.delta n).node t)

-- what a table answers to one node delta, its own nodes left alone, and the table afterwards
abbrev pub part_leaving : (own : List ℕ) (kind : Kind) (clock : ℕ) (came : Part) (table : Table) → Outcome NodeAnswer
part_leaving own k clock x t = on_held_by (leaving own (apply_node (ways_in k) clock) x.number) x (node_of x.number t) t

abbrev pub stored_stream : (stream : Stream) (list : Bytes) → TableAndList
stored_stream s list = both (encode s.table) (put 0 (codes s.answers) list)

-- the bytes of a good table and the list of answers, after all of these node deltas
abbrev pub parts_leaving : (own : List ℕ) (kind : Kind) (clock : ℕ) (came : List Part) (list table : Bytes) → TableAndList
parts_leaving own k clock xs list table = stored_stream (leaving_each own (apply_node (ways_in k) clock) xs (decode table)) list

-- the same where no node is left alone
abbrev pub parts_applied : (kind : Kind) (clock : ℕ) (came : List Part) (list table : Bytes) → TableAndList
parts_applied k clock xs list table = stored_stream (apply_each (apply_node (ways_in k) clock) xs (decode table)) list

-- a delta without a fault
abbrev pub Accepted : (delta : Bytes) → Type 0
Accepted s = (ops : List Op) × (read_delta s ≡ Good ops)

-- the node deltas of an accepted delta, as they were found while it was read
pub record HeadsFound (s : Bytes) (nodes : ℕ) (r : Heads) : Type 0 where
  pub all : nodes ≡ length (parts_from s 0)
  pub few : nodes ≤ max_nodes
  pub long_at : length r.at ≡ max_nodes
  pub long_count : length r.count ≡ max_nodes
  pub long_max : length r.max ≡ max_nodes
  pub heads : (i : ℕ) → i < nodes → Head s (get_or (parts_from s 0) i no_part) (get_or r.at i 0) (get_or r.count i 0) (get_or r.max i 0)
