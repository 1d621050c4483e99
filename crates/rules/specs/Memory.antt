-- The memory of nodes that were removed (ticket 2): each with its last heartbeat, the longest remembered first. It has room for 16, and is part of the
-- table (Whole).
use Rattle.std.specs.Prelude.{ℕ, Bool, not, ◌&&◌, List, [], ◌∷◌, ◌++◌, length, drop, leb, ltb, eqb}
use Rattle.std.proofs.Math.Option.{Option, none, some}
use Rattle.fields.specs.Choice.{pick, every, all}
use Rattle.rules.specs.Sizes.{max_removed, numbers}
use Rattle.rules.specs.Table.{among, differ}
use Rattle.rules.specs.declared.Heartbeat.{Heartbeat}

-- a removed node
pub record Removed : Type 0 where
  pub number : ℕ
  pub heartbeat : Heartbeat

abbrev pub removed : (number : ℕ) (heartbeat : Heartbeat) → Removed
removed i h = record { number = i; heartbeat = h }

-- the longest remembered first
abbrev pub Memory : Type 0
Memory = List Removed

unfoldable pub removed_numbers : (memory : Memory) → List ℕ
removed_numbers [] = []
removed_numbers (r ∷ m) = r.number ∷ removed_numbers m

-- the last heartbeat of a removed node, or none
unfoldable pub heartbeat_of : (number : ℕ) (memory : Memory) → Option Heartbeat
heartbeat_of i [] = none
heartbeat_of i (r ∷ m) = pick (eqb i r.number) (some r.heartbeat) (heartbeat_of i m)

-- the node goes from the memory, and the others keep their order
unfoldable pub forget : (number : ℕ) (memory : Memory) → Memory
forget i [] = []
forget i (r ∷ m) = pick (eqb i r.number) m (r ∷ forget i m)

-- what stays when one more comes: where there is no room, the longest remembered goes
unfoldable pub make_room : (memory : Memory) → Memory
make_room m = pick (ltb (length m) max_removed) m (drop 1 m)

-- the node comes last
unfoldable pub remember : (number : ℕ) (heartbeat : Heartbeat) (memory : Memory) → Memory
remember i h m = make_room m ++ (removed i h ∷ [])

-- ---- the rules

-- none of the held nodes is remembered
unfoldable pub apart : (held removed : List ℕ) → Bool
apart held ns = all (λ i. not (among i ns)) held

unfoldable pub removed_obeys : (removed : Removed) → Bool
removed_obeys r = ltb r.number numbers && ltb r.heartbeat.0 numbers

-- at most 16, no node twice, none that is held, numbers of eight bytes
unfoldable pub memory_obeys : (held : List ℕ) (memory : Memory) → Bool
memory_obeys held m =
    every (leb (length m) max_removed ∷ differ (removed_numbers m) ∷ apart held (removed_numbers m) ∷ all removed_obeys m ∷ [])
