-- What an owner gave, and later more of it: what was honest by the one is honest by the other. Assumes nothing.
use Prim.Native.Nat.{◌≤◌, suc, ℕ}
use mathlib.Core.List.{List, [], ◌∷◌}
use mathlib.Core.Path.{◌≡◌, refl}
use native.Mathlib.Omega.{arith}
use lib.ListN.{length}
use Rattle.rules.specs.Delta.{NodeDelta}
use Rattle.rules.specs.Node.{KeyValue, Node}
use Rattle.demand3.proofs.History.{Numbered, numbered-grows, numbered-none}
use Rattle.demand3.proofs.Honest.{HonestDelta, HonestNode, delta-grows, node-grows}
use Rattle.net.proofs.Moments.{Carries, Longer, as_long, longer}

pub data Grown (h : List KeyValue) : List KeyValue → Type 0 where
  as_is : Grown h h
  more : (s : KeyValue) (g : List KeyValue) → Grown h g → s.version ≡ suc (length g) → Grown h (s ∷ g)

pub grown-node : (h g : List KeyValue) → Grown h g → (n : Node) → HonestNode h n → HonestNode g n
grown-node h g as_is n y = y
grown-node h g (more s k z q) n y = node-grows k s q n (grown-node h k z n y)

pub grown-delta : (h g : List KeyValue) → Grown h g → (d : NodeDelta) → HonestDelta h d → HonestDelta g d
grown-delta h g as_is d y = y
grown-delta h g (more s k z q) d y = delta-grows k s q d (grown-delta h k z d y)

pub grown-carries : (h g : ℕ → List KeyValue) → ((i : ℕ) → Grown (h i) (g i)) → (b : List ℕ) → Carries h b → Carries g b
grown-carries h g z b y = record { reads = y.reads; honest = λ i d q. grown-delta (h i) (g i) (z i) d (y.honest i d q) }

pub grown-long : (h g : List KeyValue) → Grown h g → length h ≤ length g
grown-long h g as_is = omega arith
grown-long h g (more s k z q) = let a = grown-long h k z in omega arith

-- as long as it was: nothing was given since
pub grown-same : (h g : List KeyValue) → Grown h g → length g ≤ length h → h ≡ g
grown-same h g as_is e = refl
grown-same h g (more s k z q) e = let a = grown-long h k z in absurd (omega arith)

pub grown-all : (h g k : List KeyValue) → Grown h g → Grown g k → Grown h k
grown-all h g k z as_is = z
grown-all h g k z (more s l y q) = more s l (grown-all h g l z y) q

pub grown-longer : (h g k : List KeyValue) → Grown h g → Longer g k → Grown h k
grown-longer h g k z as_long = z
grown-longer h g k z (longer s q) = more s g z q

-- from nothing on, versions are the numbers from 1
pub grown-numbered : (h : List KeyValue) → Grown [] h → Numbered h
grown-numbered h as_is = numbered-none
grown-numbered h (more s g z q) = numbered-grows g s q (grown-numbered g z)
