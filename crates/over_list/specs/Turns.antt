-- One turn of the merging: which of the two keys comes next, what is listed of it, and how far each side goes.
use Rattle.std.specs.Prelude.{ℕ, ◌+◌, ◌-◌, ◌≤◌, ◌<◌, ◌≡◌, Bool, true, false, not, List, eqb, take, drop}
use Rattle.fields.specs.Choice.{pick}
use Rattle.fields.specs.Numbers.{Bytes}
use Rattle.fields.specs.Order.{order_of}
use Rattle.std.specs.declared.cmp.Ordering.{Ordering}
use Rattle.std.specs.declared.cmp.Ordering.TheVariants.{Less, Equal, Greater}
use Rattle.rules.specs.Node.{Rec, hidden}
use Rattle.table.specs.Tests.{count_of, recs_in}
use Rattle.table.specs.Places.{rec_at}
use Rattle.prefix.specs.Run.{key_at}
use Rattle.over_list.specs.declared.Turn.{Turn}
use Rattle.over_list.specs.Merged.{Hit, over_place, hits_by, overlaid, places_of}

-- how the key of record a of the overrides stands to that of record b of the node; a side that is at its end comes last
abbrev pub next_key : (a a_end b b_end : ℕ) (over node : Bytes) → Ordering
next_key a a_end b b_end o n = pick (eqb a a_end) Greater (pick (eqb b b_end) Less (order_of (rec_at a o).kv.key (rec_at b n).kv.key))

abbrev pub turn_as : (hit listed over node : ℕ) → Turn
turn_as hit listed over node = record { hit = hit; listed = listed; over = over; node = node }

-- 1 where the record is not hidden
abbrev pub shown_once : (rec : Rec) → ℕ
shown_once r = pick (hidden r.kv.status) 0 1

-- both have the key: the override is listed if it is not hidden, else the node's record if that is not
abbrev pub both_turn : (hides : Bool) (a b : ℕ) (shared : Rec) → Turn
both_turn true a b s = turn_as b (shown_once s) 1 1
both_turn false a b s = turn_as (over_place + a) 1 1 1

abbrev pub turn_of : (order : Ordering) (a b : ℕ) (own shared : Rec) → Turn
turn_of Less a b r s = turn_as (over_place + a) (shown_once r) 1 0
turn_of Equal a b r s = both_turn (hidden r.kv.status) a b s
turn_of Greater a b r s = turn_as b (shown_once s) 0 1

-- the records that are not hidden
abbrev pub unhidden : (rec : Rec) → Bool
unhidden r = not (hidden r.kv.status)

-- the hits among the records from j up to `end` of a node's bytes, the first of them being i
abbrev pub shown_hits : (i j end : ℕ) (node : Bytes) → List Hit
shown_hits i j end n = hits_by unhidden i (take (end - j) (drop j (recs_in n)))

-- what is left to be listed of the overrides' records from a up to a_end and the node's from b up to b_end, whose places are told `base` less
abbrev pub left_in : (over : Bytes) (a a_end : ℕ) (node : Bytes) (base b b_end : ℕ) → Bytes
left_in o a a_end n base b b_end = places_of (overlaid (shown_hits (over_place + a) a a_end o) (shown_hits (b - base) b b_end n))

-- the keys from `start` up to `end` of a node's bytes pass the test, and no others
pub record PassIn (test : Bytes → Bool) (node : Bytes) (start end : ℕ) : Type 0 where
  pub order : start ≤ end
  pub inside : end ≤ count_of node
  pub before : (j : ℕ) → j < start → test (key_at j node) ≡ false
  pub within : (j : ℕ) → start ≤ j → j < end → test (key_at j node) ≡ true
  pub behind : (j : ℕ) → end ≤ j → j < count_of node → test (key_at j node) ≡ false
