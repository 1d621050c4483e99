-- The owner of a node rejects every honest delta; and an honest node at its max may take its place. Assumes nothing.
use Prim.Native.Nat.{◌≤◌, ℕ}
use mathlib.Core.Bool.{Bool, false, true}
use mathlib.Core.List.{List}
use mathlib.Core.Path.{◌∙◌, ◌≡◌, refl}
use native.Mathlib.Omega.{arith}
use lib.Dec.{ltb}
use borrow.Author.Tests.{ltb-false}
use Rattle.rules.proofs.Taking.{status-old}
use Rattle.rules.specs.Apply.{Fence, Lawful, Ways, apply_node, delta_status, newer_of, outcome, status_of, taken_as}
use Rattle.rules.specs.Delta.{NodeDelta}
use Rattle.rules.specs.Node.{KeyValue, Node}
use Rattle.rules.specs.declared.DeltaStatus.TheVariants.{Reject}
use Rattle.rules.specs.declared.NodeAnswer.TheVariants as node
use Rattle.demand3.proofs.Honest.{HonestDelta, HonestNode}
use Rattle.demand3.proofs.Publisher.{Publisher}

-- an honest node that has all that was given may be the owner's: nothing is lost
pub owner-again : (h : List KeyValue) (p n : Node) → Publisher h p → HonestNode h n → n.max ≡ p.max → Publisher h n
owner-again h p n own ok e = record { numbered = own.numbered; node = ok; top = e ∙ own.top }

-- a delta that reaches above nothing is rejected, whatever its from
reached : (fence : Fence) (n : Node) (d : NodeDelta) → fence n.last_gc n.max d.last_gc d.max ≡ false → d.last_gc ≤ n.max → d.max ≤ n.max → delta_status fence n d ≡ Reject
unfolding delta_status status_of newer_of
reached fence n d lets g m = go (ltb n.max d.from) refl
  where
    go : (b : Bool) → ltb n.max d.from ≡ b → delta_status fence n d ≡ Reject
    go true q = rw q
    go false q = status-old fence n d lets (ltb-false _ _ q) (omega arith) m

-- the owner's last_gc is within its max, so that no fence stands, and no honest delta reaches above its max
pub owner-stays : (ways : Ways) → Lawful ways → (h : List KeyValue) (p : Node) → Publisher h p → (d : NodeDelta) → HonestDelta h d → (now : ℕ) → apply_node ways now d p ≡ taken_as node.Reject p
unfolding apply_node outcome
owner-stays ways law h p own d x now =
    rw (reached ways.fence p d
    (law.lets p.last_gc p.max d.last_gc d.max (let a = own.top in let b = own.node.honest.gc_low in omega arith))
    (let a = own.top in let b = x.gc_low in omega arith)
    (let a = own.top in let b = x.max-low in omega arith))
