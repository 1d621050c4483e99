-- Demand 1 as one statement, of every call (Calls) with all that is lent to it. The theorem is in proofs/Demand1.
use Rattle.std.specs.Prelude.{ℕ, Bool, true, false, ◌&&◌, List, [], ◌∷◌, ◌≡◌, take}
use Rattle.fields.specs.Numbers.{Bytes}
use Rattle.rules.specs.Memory.{Memory}
use Rattle.rules.specs.Whole.{decode_whole}
use Rattle.rules.specs.Table.{among}
use Rattle.demand1.specs.Calls.{Call, Kind, checks, leaves, lent_to, possible, remembers, tables}

-- each passes its test; what has none passes
unfoldable pub obey_all : (tests : List (Bytes → Bool)) (lent : List Bytes) → Bool
obey_all [] ls = true
obey_all (p ∷ ps) [] = true
obey_all (p ∷ ps) (l ∷ ls) = p l && obey_all ps ls

-- what the tables remember
unfoldable pub memories_in : (tables : List Bytes) → List Memory
memories_in [] = []
memories_in (l ∷ ls) = (decode_whole l).memory ∷ memories_in ls

pub record Demand1 : Type 0 where
  -- a refused call leaves every lent byte and every lent list as it was
  pub refused_changes_nothing : (k : Kind) (c : Call k) → ((leaves c).answer.number ≡ 0 → ⊥) → (leaves c).lent ≡ lent_to c
  -- tables, and whatever else is lent that has rules, are left obeying them where they obeyed
  pub tables_obey : (k : Kind) (c : Call k) → obey_all (checks k) (lent_to c) ≡ true → obey_all (checks k) (leaves c).lent ≡ true
  -- no other number is ever given
  pub no_other_number : (k : Kind) (c : Call k) → among (leaves c).answer.number (possible k) ≡ true
  -- and each of them is, to some call
  pub each_number : (k : Kind) (n : ℕ) → among n (possible k) ≡ true → (c : Call k) × ((leaves c).answer.number ≡ n)
  -- no call but the making of a table, adding and removing changes what is remembered, or its order
  pub memory_stays : (k : Kind) (c : Call k) → remembers k ≡ false → memories_in (take (tables k) (leaves c).lent) ≡ memories_in (take (tables k) (lent_to c))
