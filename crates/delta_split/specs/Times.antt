-- Two datagrams at two times. A taken scheduled record starts at the receiver's now (rules: Apply.stamp), so what a part brings is scheduled from the part's own time of receipt on. Nothing else
-- hangs on the times: but for the starts of records the two parts, at any two times and in either order, do what the uncut delta does at any time (proofs/Times); and each node stands as if
-- the uncut delta had come when its part came (proofs/OwnTimes).
use Rattle.std.specs.Prelude.{ℕ, ◌≡◌, List, [], ◌∷◌, take, drop}
use Rattle.fields.specs.Numbers.{Bytes}
use Rattle.rules.specs.Node.{Rec, Node}
use Rattle.rules.specs.Table.{Table}
use Rattle.rules.specs.Delta.{Ops, Good, Faulty, Part, parts_of}
use Rattle.rules.specs.Apply.{Ways, ApplyOutcome, apply}
use Rattle.delta_split.specs.Split.{Both}

-- ---- a table without the times from which its records are scheduled

abbrev pub startless : (rec : Rec) → Rec
startless r = record { kv = r.kv; start = 0 }

unfoldable pub unstarted : (recs : List Rec) → List Rec
unstarted [] = []
unstarted (r ∷ l) = startless r ∷ unstarted l

abbrev pub timeless_node : (node : Node) → Node
timeless_node n = record { heartbeat = n.heartbeat; max = n.max; last_gc = n.last_gc; recs = unstarted n.recs }

unfoldable pub timeless : (table : Table) → Table
timeless [] = []
timeless (e ∷ t) = record { number = e.number; node = timeless_node e.node } ∷ timeless t

-- ---- the two calls at two times

-- the first part, then the second
abbrev pub in_order_at : (ways : Ways) (bytes : Bytes) (place now₁ now₂ : ℕ) (table : Table) (list₁ list₂ : Bytes) → Both ApplyOutcome
in_order_at ways b place now₁ now₂ t l₁ l₂ =
    record { first = apply ways (take place b) now₁ t l₁; second = apply ways (drop place b) now₂ (apply ways (take place b) now₁ t l₁).table l₂ }

-- the second part, then the first
abbrev pub reversed_at : (ways : Ways) (bytes : Bytes) (place now₁ now₂ : ℕ) (table : Table) (list₁ list₂ : Bytes) → Both ApplyOutcome
reversed_at ways b place now₁ now₂ t l₁ l₂ =
    record { first = apply ways (take place b) now₁ (apply ways (drop place b) now₂ t l₂).table l₁; second = apply ways (drop place b) now₂ t l₂ }

-- the nodes that a delta names, once it was read
unfoldable pub numbers_in : (parts : List Part) → List ℕ
numbers_in [] = []
numbers_in (x ∷ xs) = x.number ∷ numbers_in xs

abbrev pub named : Ops → List ℕ
named (Good ops) = numbers_in (parts_of ops)
named (Faulty r at) = []

-- whether records have room does not hang on their starts; so it is in every mode and profile (proofs/Times, `kind-timeless`)
abbrev pub RoomTimeless : Ways → Type 0
RoomTimeless ways = (recs : List Rec) → ways.roomy (unstarted recs) ≡ ways.roomy recs
