-- Byte strings compare bytewise; a string that begins with another.
use Rattle.std.specs.Prelude.{ℕ, ◌+◌, ◌*◌, ◌^◌, Bool, true, false, List, [], ◌∷◌, eqb, ltb, length}
use Rattle.fields.specs.Numbers.{Bytes}
use Rattle.fields.specs.Choice.{pick}
use Rattle.std.specs.declared.cmp.Ordering.{Ordering}
use Rattle.std.specs.declared.cmp.Ordering.TheVariants.{Less, Equal, Greater}

unfoldable pub same_bytes : (first second : Bytes) → Bool
same_bytes [] [] = true
same_bytes [] (b ∷ k) = false
same_bytes (a ∷ j) [] = false
same_bytes (a ∷ j) (b ∷ k) = pick (eqb a b) (same_bytes j k) false

-- at the first difference the smaller byte comes first; a string comes before what it is the beginning of
unfoldable pub less_bytes : (first second : Bytes) → Bool
less_bytes [] [] = false
less_bytes [] (b ∷ k) = true
less_bytes (a ∷ j) [] = false
less_bytes (a ∷ j) (b ∷ k) = pick (ltb a b) true (pick (eqb a b) (less_bytes j k) false)

unfoldable pub order_of : (j key : Bytes) → Ordering
order_of j k = pick (same_bytes j k) Equal (pick (less_bytes j k) Less Greater)

-- the second begins with the first
unfoldable pub starts_with : (prefix key : Bytes) → Bool
starts_with [] k = true
starts_with (a ∷ j) [] = false
starts_with (a ∷ j) (b ∷ k) = pick (eqb a b) (starts_with j k) false

-- the number that the bytes are, the first of them uppermost: among strings of one length it orders as `less_bytes` does
unfoldable pub rank_of : List ℕ → ℕ
rank_of [] = 0
rank_of (b ∷ bs) = b * 256 ^ length bs + rank_of bs
