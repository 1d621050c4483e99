-- Hubs that nobody hears: they are mute, that is, compute no delta, and own no node; they may be plain, with any neighbours. What is claimed of all the others. The theorem is in proofs/Unheard.
use Rattle.std.specs.Prelude.{ℕ, ◌≡◌, Bool, true, false, not, List}
use Rattle.std.proofs.Math.Option.{some}
use Rattle.fields.specs.Choice.{◌∈◌}
use Rattle.rules.specs.Node.{Node}
use Rattle.rules.specs.Table.{node_of, obeys}
use Rattle.rules.specs.Delta.{Op, Good, Part, parts_of, read_delta}
use Rattle.rules.specs.Apply.{Lawful, apply_node, taken_as}
use Rattle.rules.specs.declared.NodeAnswer.TheVariants as node
use Rattle.demand3.specs.Demand3.{Claims}
use Rattle.net.specs.Net.{Plan, Net, Event, Writing, Beating, Offering, Removing, Adding, Dropping, Computing, Arriving, Saving, Restoring}

abbrev pub unheard : (mute : ℕ → Bool) (event : Event) → Bool
unheard mute (Writing x i k who c) = true
unheard mute (Beating x i) = true
unheard mute (Offering x i h) = true
unheard mute (Removing x removal) = true
unheard mute (Adding x i) = true
unheard mute (Dropping x i) = true
unheard mute (Computing x edition digest excluded order mtu place l) = not (mute x)
unheard mute (Arriving x k now l) = true
unheard mute (Saving x) = true
unheard mute (Restoring x k) = true

-- no other hub is plain, and these own nothing
pub record Beside (plan : Plan) (mute : ℕ → Bool) : Type 0 where
  pub lawful : (x : ℕ) → mute x ≡ false → Lawful (plan.ways x)
  pub late : (x : ℕ) → mute x ≡ false → (plan.ways x).late ≡ true
  pub owns_nothing : (i : ℕ) → mute (plan.owner i) ≡ false

-- a net's claims (net: NetSound), of every other hub
pub record OthersSound (plan : Plan) (mute : ℕ → Bool) (w : Net) : Type 0 where
  pub tables_obey : (x : ℕ) → mute x ≡ false → obeys (w.hubs x) ≡ true
  pub claims : (i x : ℕ) (p n : Node) → mute x ≡ false → node_of i (w.hubs (plan.owner i)) ≡ some p → node_of i (w.hubs x) ≡ some n → Claims (w.given i) p n
  pub owner_rejects : (b : List ℕ) → b ∈ w.sent
      → (ops : List Op) → read_delta b ≡ Good ops
      → (y : Part) → y ∈ parts_of ops
      → (p : Node) → node_of y.number (w.hubs (plan.owner y.number)) ≡ some p
      → (now : ℕ) → apply_node (plan.ways (plan.owner y.number)) now y.delta p ≡ taken_as node.Reject p
