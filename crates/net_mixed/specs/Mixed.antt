-- Plain hubs in a net. To a hub that is not plain any delta ever computed may come. A plain hub hears each node that it does not own from one hub alone, its
-- source, and at once: it asks the source, which computes a delta for it, and applies that until it asks again. A source may own the node or pass it on, and
-- may be plain itself; it does not remove the node, and is not restored while it has it. What a plain hub computes goes to everyone. The theorem is
-- in proofs/Mixed; that more is not true, in `net_runs`.
use Rattle.std.specs.Prelude.{ℕ, ◌≡◌, ◌⊎◌, Bool, true, false, not, ◌&&◌, List, [], ◌∷◌, ltb, eqb}
use Rattle.fields.specs.Choice.{pick, all}
use Rattle.rules.specs.Sizes.{numbers}
use Rattle.rules.specs.Table.{Entry, Table, among}
use Rattle.rules.specs.Apply.{Lawful}
use Rattle.demand3.specs.Forms.{Order, compute_by}
use Rattle.demand3.specs.World.{Cut, Exchange, Idle, after_delta, applied_to, cut_by}
use Rattle.net.specs.Net.{Plan, Net, Event, Writing, Beating, Offering, Removing, Adding, Dropping, Computing, Arriving, Saving, Restoring, begin, calls, happen, with_table}

-- ---- who is who

-- who owns which node; the ways of each hub, which is plain where deltas may not come late to it; from whom a plain hub hears a node; and of which nodes
-- a hub is steady: it does not remove them, and is not restored while it has one of them
pub record Cast : Type 0 where
  pub plan : Plan
  pub source : (hub node : ℕ) → ℕ
  pub steady : (hub node : ℕ) → Bool

-- every plain hub hears each node that it does not own from a hub that is steady of it
pub record Right (c : Cast) : Type 0 where
  pub lawful : (x : ℕ) → Lawful (c.plan.ways x)
  pub sources : (x i : ℕ) → (c.plan.ways x).late ≡ false → (c.plan.owner i ≡ x) ⊎ (c.steady (c.source x i) i ≡ true)

-- ---- the net, and the delta on its way to each plain hub

pub record Mixed : Type 0 where
  pub net : Net
  pub flights : ℕ → Exchange

abbrev pub start : Mixed
start = record { net = begin; flights = λ x. Idle }

pub data Doing : Type 0 where
  -- what happens in a net
  Ordinary : Event → Doing
  -- hub x asks hub y, which computes a delta for any bytes as a digest, read in any edition: x, y, the edition, those bytes, excluded nodes, the order, MTU,
  -- the place in the datagram, the datagram
  Asking : ℕ → ℕ → ℕ → List ℕ → List ℕ → Order → ℕ → ℕ → List ℕ → Doing
  -- and applies the delta on its way, or a part of it that gateways cut, if it is plain, once more too: the cuts, now, the lent list of answers
  Hearing : ℕ → List Cut → ℕ → List ℕ → Doing

-- no delta ever computed comes to a plain hub but one that it asked for; no hub removes a node of which it is steady, nor is it restored while it has one
abbrev pub allowed : (cast : Cast) (event : Event) (net : Net) → Bool
allowed c (Writing x i k who call) w = true
allowed c (Beating x i) w = true
allowed c (Offering x i h) w = true
allowed c (Removing x removal) w = true
allowed c (Adding x i) w = true
allowed c (Dropping x i) w = not (c.steady x i)
allowed c (Computing x edition digest excluded order mtu place l) w = true
allowed c (Arriving x k now l) w = (c.plan.ways x).late
allowed c (Saving x) w = true
allowed c (Restoring x k) w = all (λ (e : Entry). not (c.steady x e.number)) (w.hubs x)

-- what is on its way to a hub that is restored is lost
abbrev pub flights_after : (event : Event) (flights : ℕ → Exchange) → ℕ → Exchange
flights_after (Writing x i k who c) f y = f y
flights_after (Beating x i) f y = f y
flights_after (Offering x i h) f y = f y
flights_after (Removing x removal) f y = f y
flights_after (Adding x i) f y = f y
flights_after (Dropping x i) f y = f y
flights_after (Computing x edition digest excluded order mtu place l) f y = f y
flights_after (Arriving x k now l) f y = f y
flights_after (Saving x) f y = f y
flights_after (Restoring x k) f y = pick (eqb y x) Idle (f y)

-- y excludes every node that x neither owns nor hears from it
abbrev pub may_ask : (cast : Cast) (hub source : ℕ) (excluded : List ℕ) (table : Table) → Bool
may_ask c x y excluded t = all (λ (e : Entry). pick (among e.number excluded) true (pick (eqb (c.plan.owner e.number) x) true (eqb (c.source x e.number) y))) t

unfoldable pub doing : (cast : Cast) (doing : Doing) (mixed : Mixed) → Mixed
doing c (Ordinary e) w = pick (allowed c e w.net) (record { net = happen c.plan e w.net; flights = flights_after e w.flights }) w
doing c (Asking x y edition digest excluded order mtu place l) w =
    pick (may_ask c x y excluded (w.net.hubs y))
    (record {
      net = calls c.plan (Computing y edition digest excluded order mtu place l) w.net;
      flights =
          λ z.
          pick (eqb z x)
          (after_delta place (compute_by edition excluded order mtu place digest (w.net.hubs y) l).lent (compute_by edition excluded order mtu place digest (w.net.hubs y) l).answer (w.flights x))
          (w.flights z);
    })
    w
doing c (Hearing x cuts now l) w =
    pick (not (c.plan.ways x).late && ltb now numbers)
    (record { net = with_table x (applied_to (c.plan.ways x) now l (cut_by cuts (w.flights x)) (w.net.hubs x)) w.net; flights = w.flights })
    w

unfoldable pub run : (cast : Cast) (doings : List Doing) (mixed : Mixed) → Mixed
run c [] w = w
run c (e ∷ es) w = run c es (doing c e w)
