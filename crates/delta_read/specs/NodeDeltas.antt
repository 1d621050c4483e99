-- The node deltas as they stand in the bytes of a delta: where each begins, how many records it has at most, and the running max at its end.
use Rattle.std.specs.Prelude.{ℕ, ◌+◌, ◌≤◌, ◌<◌, ◌≡◌, List, [], length, get_or}
use Rattle.fields.specs.Numbers.{Bytes, nat_of}
use Rattle.fields.specs.Parts.{part}
use Rattle.fields.specs.Widths.{offset}
use Rattle.rules.specs.Sizes.{max_nodes}
use Rattle.rules.specs.Delta as rule
use Rattle.std.specs.Prelude.{Ok}
use Rattle.delta_op.specs.Plain.{ops_from, recs_from}

-- the node deltas from a place on
unfoldable pub parts_from : (delta : Bytes) (at : ℕ) → List rule.Part
parts_from s at = rule.parts_of (ops_from s at)

-- a node delta by its numbers and the place of its records
abbrev pub delta_of : (delta : Bytes) (gc from max records : ℕ) → rule.NodeDelta
delta_of s gc from max records = record { from = from; last_gc = gc; recs = recs_from s records; max = max }

-- the place behind the Node at a place: there its records begin
abbrev pub behind_node : (at : ℕ) → ℕ
behind_node at = at + rule.node_op_width

-- the node delta whose Node stands at a place, with the running max at its end
abbrev pub node_delta_at : (delta : Bytes) (at max : ℕ) → rule.Part
node_delta_at s at max =
    record {
      number = nat_of (part (at + offset rule.node_op_widths 1) rule.number_width s);
      delta =
          delta_of s (nat_of (part (at + offset rule.node_op_widths 2) rule.number_width s)) (nat_of (part (at + offset rule.node_op_widths 3) rule.number_width s)) max
          (behind_node at);
    }

-- the node delta x stands there, with no more than so many records
pub record Head (s : Bytes) (x : rule.Part) (at count max : ℕ) : Type 0 where
  pub inside : behind_node at ≤ length s
  pub is : x ≡ node_delta_at s at max
  pub few : length x.delta.recs ≤ count

abbrev pub no_part : rule.Part
no_part = record { number = 0; delta = record { from = 0; last_gc = 0; recs = []; max = 0 } }

-- the node deltas of an accepted delta, one behind the other: what stands in the lists behind them is of no use
pub record AllHeads (s : Bytes) (at count max : List ℕ) : Type 0 where
  pub long_at : length at ≡ max_nodes
  pub long_count : length count ≡ max_nodes
  pub long_max : length max ≡ max_nodes
  pub few : (ops nodes : ℕ) → (Ok (record { ops = ops; nodes = nodes })) ≡ rule.delta_read s → nodes ≤ max_nodes
  pub heads : (ops nodes : ℕ) → (Ok (record { ops = ops; nodes = nodes })) ≡ rule.delta_read s → (i : ℕ) → i < nodes
      → Head s (get_or (parts_from s 0) i no_part) (get_or at i 0) (get_or count i 0) (get_or max i 0)
