-- Two datagrams for one (ticket 14 of document 02). A gateway cuts a delta at the start of a Node operation and sends what stands before it and what stands
-- from it on. Applied one after the other, in either order and at the same time of receipt, the two do what the uncut delta does. The theorems are in
-- proofs/Parts, of tables in any ways that allow it, and in proofs/LentParts, of lent bytes in any mode.
use Rattle.std.specs.Prelude.{ℕ, ◌+◌, ◌≤◌, ◌≡◌, List, [], ◌∷◌, ◌++◌, length, take, drop}
use Rattle.fields.specs.Numbers.{Bytes, AreBytes}
use Rattle.rules.specs.Table.{Table}
use Rattle.rules.specs.Delta.{Op, NodeOp, KeyValueOp, SetMaxVersionOp, Ops, Good, Faulty, size_of, parts_of, delta_bytes}
use Rattle.rules.specs.Given.{Given}
use Rattle.rules.specs.Apply.{Ways, ApplyOutcome, apply}
use Rattle.rules.specs.Lent.{TableAndList, lent_apply}
use Rattle.std.specs.Prelude.{Err, Ok, Result}
use Rattle.rules.specs.declared.DeltaFault.{DeltaFault}

-- ---- where a delta may be cut

-- the places of the Node operations' tags, of operations of which the first stands at `at`
unfoldable pub node_tags : (at : ℕ) (ops : List Op) → List ℕ
node_tags at [] = []
node_tags at (NodeOp n g f ∷ ops) = at ∷ node_tags (at + size_of (NodeOp n g f)) ops
node_tags at (KeyValueOp r ∷ ops) = node_tags (at + size_of (KeyValueOp r)) ops
node_tags at (SetMaxVersionOp m ∷ ops) = node_tags (at + size_of (SetMaxVersionOp m)) ops

-- of a delta that was read; one that is refused is cut nowhere
abbrev pub cut_places : Ops → List ℕ
cut_places (Good ops) = node_tags 0 ops
cut_places (Faulty r at) = []

-- how many answers a delta that was read wants
abbrev pub wanted : Ops → ℕ
wanted (Good ops) = length (parts_of ops)
wanted (Faulty r at) = 0

-- there are places for the answers to the uncut delta, and to each part
abbrev pub Roomy : (ways : Ways) (bytes : Bytes) (place : ℕ) (list list₁ list₂ : Bytes) → Type 0
Roomy ways b place l l₁ l₂ = (wanted (ways.reads b) ≤ length l) × (wanted (ways.reads (take place b)) ≤ length l₁) × (wanted (ways.reads (drop place b)) ≤ length l₂)

-- ---- the two calls, on a table and on lent bytes

-- what the call with the first part gave, and the one with the second
pub record Both (A : Type 0) : Type 0 where
  pub first : A
  pub second : A

-- the first part, then the second
abbrev pub in_order : (ways : Ways) (bytes : Bytes) (place now : ℕ) (table : Table) (list₁ list₂ : Bytes) → Both ApplyOutcome
in_order ways b place now t l₁ l₂ =
    record { first = apply ways (take place b) now t l₁; second = apply ways (drop place b) now (apply ways (take place b) now t l₁).table l₂ }

-- the second part, then the first
abbrev pub reversed : (ways : Ways) (bytes : Bytes) (place now : ℕ) (table : Table) (list₁ list₂ : Bytes) → Both ApplyOutcome
reversed ways b place now t l₁ l₂ =
    record { first = apply ways (take place b) now (apply ways (drop place b) now t l₂).table l₁; second = apply ways (drop place b) now t l₂ }

abbrev pub lent_in_order : (bytes : Bytes) (place now : ℕ) (table list₁ list₂ : Bytes) → Both (Given (Result ℕ DeltaFault) TableAndList)
lent_in_order b place now t l₁ l₂ =
    record { first = lent_apply (take place b) now l₁ t; second = lent_apply (drop place b) now l₂ (lent_apply (take place b) now l₁ t).lent.table }

abbrev pub lent_reversed : (bytes : Bytes) (place now : ℕ) (table list₁ list₂ : Bytes) → Both (Given (Result ℕ DeltaFault) TableAndList)
lent_reversed b place now t l₁ l₂ =
    record { first = lent_apply (take place b) now l₁ (lent_apply (drop place b) now l₂ t).lent.table; second = lent_apply (drop place b) now l₂ t }

-- ---- what is the same

-- the answers that a call gave: as many as it says, from the front of its list
abbrev pub given : (applied : (Result ℕ DeltaFault)) (list : Bytes) → Bytes
given (Ok n) l = take n l
given (Err f) l = []

-- Both parts are accepted, as the uncut delta is; the answers to the first and then those to the second are its answers, node by node; and what both leave is
-- what it leaves.
pub record AsUncut {A : Type 0} (whole first second : (Result ℕ DeltaFault)) (list list₁ list₂ : Bytes) (uncut after : A) : Type 0 where
  pub n₁ : ℕ
  pub n₂ : ℕ
  pub first_is : first ≡ Ok n₁
  pub second_is : second ≡ Ok n₂
  pub whole_is : whole ≡ Ok (n₁ + n₂)
  pub answers : given whole list ≡ given first list₁ ++ given second list₂
  pub table_is : after ≡ uncut

-- ---- which ways allow it

-- the operations are none, or begin with a Node
abbrev pub FromNode : List Op → Type 0
FromNode [] = Unit {0}
FromNode (NodeOp n g f ∷ ops) = Unit {0}
FromNode (KeyValueOp r ∷ ops) = ⊥
FromNode (SetMaxVersionOp m ∷ ops) = ⊥

-- A delta that is read is read in two parts too. Every mode and every profile reads so (proofs/Parts, `kind-cuttable`).
abbrev pub Cuttable : Ways → Type 0
Cuttable ways =
    (first second : List Op) → FromNode second → AreBytes (delta_bytes (first ++ second)) → ways.reads (delta_bytes (first ++ second)) ≡ Good (first ++ second)
    → (ways.reads (delta_bytes first) ≡ Good first) × (ways.reads (delta_bytes second) ≡ Good second)
