-- One node of one hub, where hubs lose their memory: what its owner let out is o, what it gave and did not lose h. A hub that does not own the node is honest by o. The owner
-- is honest by h and at its last version; or it forgot, nothing was given since but what was let out, and it may be behind. Assumes nothing.
use Prim.Native.Nat.{◌≤◌, ℕ}
use mathlib.Core.Bool.{Bool, false, false≢true, true}
use mathlib.Core.List.{List, []}
use mathlib.Core.Logic.{◌⊎◌, inl, inr}
use mathlib.Core.Path.{◌∙◌, ◌≡◌, refl, subst, sym}
use native.Mathlib.Omega.{arith}
use lib.ListN.{length}
use Rattle.fields.specs.Choice.{pick}
use Rattle.rules.proofs.Taking.{Came, came, left, reset, took}
use Rattle.rules.specs.Apply.{Lawful, Ways, apply_node, outcome}
use Rattle.rules.specs.Delta.{NodeDelta}
use Rattle.rules.specs.Node.{KeyValue, Node, Rec, fresh, remove, with_heartbeat}
use Rattle.rules.specs.declared.Heartbeat.{Heartbeat}
use Rattle.demand3.proofs.Honest.{HonestDelta, HonestNode, fresh-honest, node-beat, node-remove}
use Rattle.demand3.proofs.Publisher.{Publisher}
use Rattle.demand3.proofs.Step.{node-apply}
use Rattle.net_losing.proofs.Grown.{Grown, grown-all, grown-delta, grown-node, grown-numbered}

-- whether the hub owns the node, and whether it ever forgot
pub record Fit (own forgot : Bool) (o h : List KeyValue) (n : Node) : Type 0 where
  pub honest : HonestNode (pick own h o) n
  pub level : own ≡ true → (n.max ≡ length h) ⊎ ((o ≡ h) × (forgot ≡ true))

-- ---- what it says

module _ (own forgot : Bool) (o h : List KeyValue) (n : Node) (fit : Fit own forgot o h n) where
  -- every copy is honest by what was given
  pub fit-honest : Grown o h → HonestNode h n
  fit-honest z = go own refl
    where
      go : (b : Bool) → own ≡ b → HonestNode h n
      go true q = subst (λ (b : Bool). HonestNode (pick b h o) n) q fit.honest
      go false q = grown-node o h z n (subst (λ (b : Bool). HonestNode (pick b h o) n) q fit.honest)

  -- an owner that has caught up is at the last version given
  pub caught-up : Grown o h → own ≡ true → length o ≤ n.max → n.max ≡ length h
  caught-up z q b = go (fit.level q)
    where
      go : (n.max ≡ length h) ⊎ ((o ≡ h) × (forgot ≡ true)) → n.max ≡ length h
      go (inl e) = e
      go (inr e) = let a = (fit-honest z).honest.max-low in let c = subst (λ (g : List KeyValue). length g ≤ n.max) e.0 b in omega arith

  -- one that never forgot is there
  pub never-forgot : own ≡ true → forgot ≡ false → n.max ≡ length h
  never-forgot q f = go (fit.level q)
    where
      go : (n.max ≡ length h) ⊎ ((o ≡ h) × (forgot ≡ true)) → n.max ≡ length h
      go (inl e) = e
      go (inr e) = absurd (false≢true (sym f ∙ e.1))

-- ---- what keeps it

module _ (own forgot : Bool) (o h : List KeyValue) (n : Node) (fit : Fit own forgot o h n) where
  pub fit-beat : (b : Heartbeat) → Fit own forgot o h (with_heartbeat b n)
  fit-beat b = record { honest = node-beat (pick own h o) n fit.honest b; level = fit.level }

  pub fit-remove : (due : Rec → Bool) → Fit own forgot o h (remove due n)
  unfolding remove
  fit-remove due = record { honest = node-remove (pick own h o) n fit.honest due; level = fit.level }

  -- a delta that is honest by what was let out
  pub fit-apply : (ways : Ways) → Lawful ways → ways.late ≡ true → Grown [] o → Grown o h → (now : ℕ) (d : NodeDelta) → HonestDelta o d → Fit own forgot o h (apply_node ways now d n).node
  unfolding outcome
  fit-apply ways law late base z now d x =
      record {
        honest = node-apply g (grown-numbered g (all own)) now d hon n fit.honest ways (λ r. law.safe late n.last_gc n.max d.last_gc d.max r.let-in);
        level = λ q. go q (fit.level q);
      }
    where
      g : List KeyValue
      g = pick own h o

      all : (b : Bool) → Grown [] (pick b h o)
      all true = grown-all [] o h base z
      all false = base

      hon : HonestDelta g d
      hon = at own
        where
          at : (b : Bool) → HonestDelta (pick b h o) d
          at true = grown-delta o h z d x
          at false = x

      -- an owner at the last version takes nothing
      stays : (m : Node) → Came ways now d n m → n.max ≡ length h → m.max ≡ length h
      stays m left e = e
      stays m (reset r) e = let a = r.above_max in let b = (grown-delta o h z d x).gc_low in absurd (omega arith)
      stays m (took r) e = let a = r.newer in let b = (grown-delta o h z d x).max-low in absurd (omega arith)

      go : own ≡ true → (n.max ≡ length h) ⊎ ((o ≡ h) × (forgot ≡ true)) → ((apply_node ways now d n).node.max ≡ length h) ⊎ ((o ≡ h) × (forgot ≡ true))
      go q (inl e) = inl (stays _ (came ways now d n) e)
      go q (inr e) = inr e

  -- for a hub that does not own the node it is the same what was given
  pub fit-other : (k : List KeyValue) → own ≡ false → Fit own forgot o k n
  fit-other k q =
      record {
        honest =
            subst (λ (b : Bool). HonestNode (pick b k o) n) (sym q)
            (subst (λ (b : Bool). HonestNode (pick b h o) n) q fit.honest);
        level = λ p. absurd (false≢true (sym q ∙ p));
      }

  -- more is let out: of the owner's node all that it gave
  pub fit-out : (p : List KeyValue) → Grown o p → (own ≡ true → (o ≡ p) ⊎ (h ≡ p)) → Fit own forgot p h n
  fit-out p z f = record { honest = go own refl; level = λ q. at q (f q) (fit.level q) }
    where
      go : (b : Bool) → own ≡ b → HonestNode (pick b h p) n
      go true q = subst (λ (b : Bool). HonestNode (pick b h o) n) q fit.honest
      go false q = grown-node o p z n (subst (λ (b : Bool). HonestNode (pick b h o) n) q fit.honest)

      at : own ≡ true → (o ≡ p) ⊎ (h ≡ p) → (n.max ≡ length h) ⊎ ((o ≡ h) × (forgot ≡ true)) → (n.max ≡ length h) ⊎ ((p ≡ h) × (forgot ≡ true))
      at q e (inl y) = inl y
      at q (inl e) (inr y) = inr (sym e ∙ y.0, y.1)
      at q (inr e) (inr y) = inr (sym e, y.1)

-- a fresh node of a hub that does not own it
pub fit-fresh : (own forgot : Bool) (o h : List KeyValue) → own ≡ false → Fit own forgot o h fresh
fit-fresh own forgot o h q = record { honest = fresh-honest (pick own h o); level = λ p. absurd (false≢true (sym q ∙ p)) }

-- or of one that forgot
pub fit-forgot : (own forgot : Bool) (o : List KeyValue) → forgot ≡ true → Fit own forgot o o fresh
fit-forgot own forgot o f = record { honest = fresh-honest (pick own o o); level = λ p. inr (refl, f) }

-- an owner at the last version given
pub fit-top : (own forgot : Bool) (o h : List KeyValue) (n : Node) → own ≡ true → Publisher h n → Fit own forgot o h n
fit-top own forgot o h n q y = record { honest = subst (λ (b : Bool). HonestNode (pick b h o) n) (sym q) y.node; level = λ p. inl y.top }
