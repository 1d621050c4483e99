-- The keys of a node's bytes ascend, so those that begin with a prefix stand together, from a place `low` up to a place `high`: a run. So do those of a piece
-- of its rows. The hits are the records of the run that are not hidden.
use Rattle.std.specs.Prelude.{ℕ, zero, suc, ◌-◌, ◌≤◌, ◌<◌, ◌≡◌, true, false, not, List, [], ◌∷◌, length, take, drop, ltb}
use Rattle.fields.specs.Choice.{pick}
use Rattle.fields.specs.Numbers.{Bytes}
use Rattle.fields.specs.Order.{less_bytes, starts_with}
use Rattle.fields.specs.Parts.{part, put}
use Rattle.rules.specs.Given.{Given, given}
use Rattle.rules.specs.Node.{Rec, Node, hidden}
use Rattle.rules.specs.Party.{with_records}
use Rattle.rules.specs.Layout.{rec_place, rec_width, decode_rec, decode_node}
use Rattle.table.specs.Tests.{count_of, recs_in}

-- the key of record j of a node's bytes
abbrev pub key_at : (j : ℕ) (node : Bytes) → Bytes
key_at j node = (decode_rec (part (rec_place j) rec_width node)).kv.key

-- the keys before `first` come before the prefix, and none from there on does
pub record FirstOf (prefix node : Bytes) (first : ℕ) : Type 0 where
  pub inside : first ≤ count_of node
  pub early : (j : ℕ) → j < first → less_bytes (key_at j node) prefix ≡ true
  pub late : (j : ℕ) → first ≤ j → j < count_of node → less_bytes (key_at j node) prefix ≡ false

-- the keys from `low` up to `high` begin with the prefix, and no others
pub record RunOf (prefix node : Bytes) (low high : ℕ) : Type 0 where
  pub order : low ≤ high
  pub inside : high ≤ count_of node
  pub before : (j : ℕ) → j < low → starts_with prefix (key_at j node) ≡ false
  pub within : (j : ℕ) → low ≤ j → j < high → starts_with prefix (key_at j node) ≡ true
  pub behind : (j : ℕ) → high ≤ j → j < count_of node → starts_with prefix (key_at j node) ≡ false

-- ---- in a piece of a node's rows

-- a place, or the end of the piece from `low` up to `top` that is next to it
abbrev pub brought_in : (j low top : ℕ) → ℕ
brought_in j low top = pick (ltb j low) low (pick (ltb top j) top j)

-- of the piece from `low` up to `top`, the keys from `start` up to `end` begin with the prefix, and no others; those before `start` come before it
pub record RunIn (prefix node : Bytes) (low top start end : ℕ) : Type 0 where
  pub from : low ≤ start
  pub order : start ≤ end
  pub inside : end ≤ top
  pub early : (j : ℕ) → low ≤ j → j < start → less_bytes (key_at j node) prefix ≡ true
  pub late : (j : ℕ) → start ≤ j → j < top → less_bytes (key_at j node) prefix ≡ false
  pub before : (j : ℕ) → low ≤ j → j < start → starts_with prefix (key_at j node) ≡ false
  pub within : (j : ℕ) → start ≤ j → j < end → starts_with prefix (key_at j node) ≡ true
  pub behind : (j : ℕ) → end ≤ j → j < top → starts_with prefix (key_at j node) ≡ false

-- the node with `count` records alone, those behind the first `low`
abbrev pub piece_node : (low count : ℕ) (node : Bytes) → Node
piece_node low count node = with_records (take count (drop low (recs_in node))) (decode_node node).node

-- ---- the hits

-- the places of the records that are not hidden, among the first n, the first record's place being i
unfoldable pub shown_from : (i n : ℕ) (recs : List Rec) → Bytes
shown_from i zero l = []
shown_from i (suc n) [] = []
shown_from i (suc n) (r ∷ l) = pick (not (hidden r.kv.status)) (i ∷ shown_from (suc i) n l) (shown_from (suc i) n l)

-- the same of those from `low` up to `high` of a node's bytes, their places `base` less
abbrev pub shown_in : (base low high : ℕ) (node : Bytes) → Bytes
shown_in base low high node = shown_from (low - base) (high - low) (drop low (recs_in node))

-- how many they are, and what they leave of a list that has room for them
abbrev pub shown_into : (base low high : ℕ) (node list : Bytes) → Given ℕ Bytes
shown_into base low high node list = given (length (shown_in base low high node)) (put 0 (shown_in base low high node) list)
