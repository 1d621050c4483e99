-- Hubs that lose their memory. Each hub has a disk, which holds one table, and stores its table there whenever it likes. It may crash at any moment: then its table is
-- what it stored last, and what it gave since was never given. And it may forget: table and disk are new, and of what it gave only that is left which it let out. Two
-- rules keep the claims. A hub computes a delta only while every version that it gave to nodes of its own is on its disk. And it writes a node of its own only
-- where its max is not below what it let out, so that a hub that forgot follows its own node first. Digests are free, and a removal need not be stored. A
-- followed node may at any moment become any copy that a hub which does not own it ever saved, its own or another's; fresh it becomes by Dropping and Adding.
-- All else is as in a net (net: Net). The theorems are in proofs/Losing.
use Rattle.std.specs.Prelude.{ℕ, ◌≤◌, ◌≡◌, Bool, true, false, not, ◌&&◌, List, [], ◌∷◌, eqb, leb, length}
use Rattle.std.proofs.Math.Option.{Option, none, some}
use Rattle.fields.specs.Choice.{◌∈◌, pick}
use Rattle.rules.specs.Node.{KeyValue, Node}
use Rattle.rules.specs.Table.{Table, node_of, obeys, set_node}
use Rattle.rules.specs.Delta.{Op, Good, Part, parts_of, read_delta}
use Rattle.rules.specs.Apply.{apply_node, taken_as}
use Rattle.rules.specs.declared.NodeAnswer.TheVariants as node
use Rattle.demand3.specs.Demand3.{Claims}
use Rattle.net.specs.Net.{Plan, Net, Event, Writing, Beating, Offering, Removing, Adding, Dropping, Computing, Arriving, Saving, Restoring, placed, nothing_lost, begin, happen, with_table}

-- The net; the table on each hub's disk; of each node, what its owner had given when it stored last, and what it had given when it computed a delta last; which
-- hubs ever forgot. No call looks at the last three.
pub record Losing : Type 0 where
  pub net : Net
  pub disk : ℕ → Table
  pub kept : ℕ → List KeyValue
  pub out : ℕ → List KeyValue
  pub forgot : ℕ → Bool

-- nothing is stored yet
abbrev pub start : Losing
start = record { net = begin; disk = λ x. []; kept = λ i. []; out = λ i. []; forgot = λ x. false }

pub data Doing : Type 0 where
  -- what happens in a net
  Ordinary : Event → Doing
  -- a hub stores its table; what was on its disk is gone
  Storing : ℕ → Doing
  -- a hub's table is what it stored last
  Crashing : ℕ → Doing
  -- a hub's table and its disk are new
  Forgetting : ℕ → Doing
  -- a hub's copy of a node becomes that of a saved table: hub, node, the hub that saved it, which of its saved tables
  Recalling : ℕ → ℕ → ℕ → ℕ → Doing

-- ---- the rules

-- the node is at what was let out; a call on a node that is not there changes nothing
abbrev pub caught_up : (out : List KeyValue) (held : Option Node) → Bool
caught_up o none = true
caught_up o (some n) = leb (length o) n.max

-- who writes has caught up with what it let out; who computes a delta has stored every version of its own nodes; tables are not restored whole
abbrev pub allowed : (owner : ℕ → ℕ) (event : Event) (w : Losing) → Bool
allowed owner (Writing x i k who c) w = caught_up (w.out i) (node_of i (w.net.hubs x))
allowed owner (Beating x i) w = true
allowed owner (Offering x i h) w = true
allowed owner (Removing x removal) w = true
allowed owner (Adding x i) w = true
allowed owner (Dropping x i) w = true
allowed owner (Computing x edition digest excluded order mtu place l) w = nothing_lost owner x (w.net.hubs x) (some (w.disk x))
allowed owner (Arriving x k now l) w = true
allowed owner (Saving x) w = true
allowed owner (Restoring x k) w = false

-- ---- what happens then

-- these nodes' histories, for nodes that hub x owns
abbrev pub of_owner : (owner : ℕ → ℕ) (hub : ℕ) (mine others : ℕ → List KeyValue) (node : ℕ) → List KeyValue
of_owner owner x h g i = pick (eqb (owner i) x) (h i) (g i)

abbrev pub of_hub : (hub : ℕ) (table : Table) (others : ℕ → Table) (hubs : ℕ) → Table
of_hub x t ts y = pick (eqb y x) t (ts y)

-- a hub that computes a delta lets out all that it gave
abbrev pub out_after : (owner : ℕ → ℕ) (event : Event) (w : Losing) → ℕ → List KeyValue
out_after owner (Writing x i k who c) w = w.out
out_after owner (Beating x i) w = w.out
out_after owner (Offering x i h) w = w.out
out_after owner (Removing x removal) w = w.out
out_after owner (Adding x i) w = w.out
out_after owner (Dropping x i) w = w.out
out_after owner (Computing x edition digest excluded order mtu place l) w = of_owner owner x w.net.given w.out
out_after owner (Arriving x k now l) w = w.out
out_after owner (Saving x) w = w.out
out_after owner (Restoring x k) w = w.out

abbrev pub with_net : (net : Net) (out : ℕ → List KeyValue) (w : Losing) → Losing
with_net n o w = record { net = n; disk = w.disk; kept = w.kept; out = o; forgot = w.forgot }

abbrev pub stored : (owner : ℕ → ℕ) (hub : ℕ) (w : Losing) → Losing
stored owner x w =
    record {
      net = w.net;
      disk = of_hub x (w.net.hubs x) w.disk;
      kept = of_owner owner x w.net.given w.kept;
      out = w.out;
      forgot = w.forgot;
    }

abbrev pub crashed : (owner : ℕ → ℕ) (hub : ℕ) (w : Losing) → Losing
crashed owner x w =
    record {
      net = record { hubs = of_hub x (w.disk x) w.net.hubs; given = of_owner owner x w.kept w.net.given; sent = w.net.sent; saved = w.net.saved };
      disk = w.disk;
      kept = w.kept;
      out = w.out;
      forgot = w.forgot;
    }

abbrev pub forgotten : (owner : ℕ → ℕ) (hub : ℕ) (w : Losing) → Losing
forgotten owner x w =
    record {
      net = record { hubs = of_hub x [] w.net.hubs; given = of_owner owner x w.out w.net.given; sent = w.net.sent; saved = w.net.saved };
      disk = of_hub x [] w.disk;
      kept = of_owner owner x w.out w.kept;
      out = w.out;
      forgot = λ y. pick (eqb y x) true (w.forgot y);
    }

-- the saved table's node, if both tables have it
abbrev pub recalled_as : (number : ℕ) (old : Option Node) (table : Table) → Table
recalled_as i none t = t
recalled_as i (some n) t = set_node i n t

abbrev pub recalled : (number : ℕ) (old : Option Table) (table : Table) → Table
recalled i none t = t
recalled i (some old) t = recalled_as i (node_of i old) t

-- neither the owner's node nor one that the owner saved
abbrev pub followed_by : (owner hub saver : ℕ) → Bool
followed_by o x y = not (eqb o x) && not (eqb o y)

unfoldable pub doing : (plan : Plan) (doing : Doing) (w : Losing) → Losing
doing plan (Ordinary e) w = pick (allowed plan.owner e w) (with_net (happen plan e w.net) (out_after plan.owner e w) w) w
doing plan (Storing x) w = stored plan.owner x w
doing plan (Crashing x) w = crashed plan.owner x w
doing plan (Forgetting x) w = forgotten plan.owner x w
doing plan (Recalling x i y k) w =
    pick (followed_by (plan.owner i) x y) (with_net (with_table x (recalled i (placed k (w.net.saved y)) (w.net.hubs x)) w.net) w.out w) w

unfoldable pub run : (plan : Plan) (doings : List Doing) (w : Losing) → Losing
run plan [] w = w
run plan (e ∷ es) w = run plan es (doing plan e w)

-- ---- what is claimed

-- At a moment: every table obeys document 01's rules, and no hub's max passes what the owner gave and did not lose. Demand 3's claims hold between any hub that is
-- at the last version given and every other. An owner that never forgot, or that has caught up with what it let out, is at the last version given, and
-- rejects whatever was ever computed of its node.
pub record LosingSound (plan : Plan) (w : Losing) : Type 0 where
  pub tables_obey : (x : ℕ) → obeys (w.net.hubs x) ≡ true
  pub never_ahead : (i x : ℕ) (n : Node) → node_of i (w.net.hubs x) ≡ some n → n.max ≤ length (w.net.given i)
  pub claims : (i x y : ℕ) (p n : Node)
      → node_of i (w.net.hubs y) ≡ some p → p.max ≡ length (w.net.given i)
      → node_of i (w.net.hubs x) ≡ some n
      → Claims (w.net.given i) p n
  pub owner_level : (i : ℕ) (p : Node) → node_of i (w.net.hubs (plan.owner i)) ≡ some p → w.forgot (plan.owner i) ≡ false → p.max ≡ length (w.net.given i)
  pub owner_caught_up : (i : ℕ) (p : Node) → node_of i (w.net.hubs (plan.owner i)) ≡ some p → length (w.out i) ≤ p.max → p.max ≡ length (w.net.given i)
  pub owner_rejects : (b : List ℕ) → b ∈ w.net.sent
      → (ops : List Op) → read_delta b ≡ Good ops
      → (y : Part) → y ∈ parts_of ops
      → (p : Node) → node_of y.number (w.net.hubs (plan.owner y.number)) ≡ some p
      → p.max ≡ length (w.net.given y.number)
      → (now : ℕ) → apply_node (plan.ways (plan.owner y.number)) now y.delta p ≡ taken_as node.Reject p

-- no hub forgets
abbrev pub remembers : (doing : Doing) → Bool
remembers (Ordinary e) = true
remembers (Storing x) = true
remembers (Crashing x) = true
remembers (Forgetting x) = false
remembers (Recalling x i y k) = true

unfoldable pub all_remember : (doings : List Doing) → Bool
all_remember [] = true
all_remember (e ∷ es) = remembers e && all_remember es
