-- The owner's star. Hub o owns some nodes, and no other hub sends anything of them: whoever computes a delta excludes those that it does not own. So each follower hears them from o
-- alone, o may follow nodes of other owners, and a follower may hear many owners, each in a star of its own. Here is what a run in such a star is, what is quiet in it, and what
-- a whole exchange of a follower with o is, for all nodes of o's at once. How many of them make every max equal is proved in proofs/Star: demand 3's own count.
use Rattle.std.specs.Prelude.{ℕ, suc, ◌<◌, ◌≡◌, Bool, true, false, not, ◌&&◌, List, [], ◌∷◌, ◌++◌, eqb, leb, ltb}
use Rattle.std.proofs.Math.Option.{some}
use Rattle.fields.specs.Choice.{◌∈◌, pick, all, keep}
use Rattle.rules.specs.Sizes.{numbers}
use Rattle.rules.specs.Node.{Node}
use Rattle.rules.specs.Table.{Entry, Table, among, node_of}
use Rattle.rules.specs.Digest.{digest_of, digest_bytes}
use Rattle.rules.specs.Delta.{Op, delta_bytes}
use Rattle.rules.specs.Apply.{apply}
use Rattle.demand3.specs.Forms.{Order, InLine, AsPlanned, compute_by, ops_by}
use Rattle.demand3.specs.Demand3.{is_none, least_width, no_room, wrote_delta}
use Rattle.demand3.specs.World.{DeltaSent, Which, arrives}
use Rattle.net.specs.Net.{Plan, Net, Event, Writing, Beating, Offering, Removing, Adding, Dropping, Computing, Arriving, Saving, Restoring, happen, after}
use Rattle.net_closing.specs.Closing.{Asked}

-- ---- a star

-- this node is hub o's
abbrev pub owns : (owner : ℕ → ℕ) (o : ℕ) (e : Entry) → Bool
owns owner o e = eqb (owner e.number) o

-- what a table has of o's nodes
abbrev pub own_part : (owner : ℕ → ℕ) (o : ℕ) (table : Table) → Table
own_part owner o t = keep (owns owner o) t

-- of this table no node of o's goes
abbrev pub leaves_out : (owner : ℕ → ℕ) (o : ℕ) (excluded : List ℕ) (table : Table) → Bool
leaves_out owner o excluded t = all (λ (e : Entry). pick (owns owner o e) (among e.number excluded) true) t

-- no hub but o sends anything of o's nodes, and o is not restored
abbrev pub star_at : (owner : ℕ → ℕ) (o : ℕ) (event : Event) (net : Net) → Bool
star_at owner o (Writing x i k who c) w = true
star_at owner o (Beating x i) w = true
star_at owner o (Offering x i h) w = true
star_at owner o (Removing x removal) w = true
star_at owner o (Adding x i) w = true
star_at owner o (Dropping x i) w = true
star_at owner o (Computing x edition digest excluded order mtu place l) w = pick (eqb x o) true (leaves_out owner o excluded (w.hubs x))
star_at owner o (Arriving x k now l) w = true
star_at owner o (Saving x) w = true
star_at owner o (Restoring x k) w = not (eqb x o)

unfoldable pub in_star : (plan : Plan) (o : ℕ) (events : List Event) (net : Net) → Bool
in_star plan o [] w = true
in_star plan o (e ∷ es) w = star_at plan.owner o e w && in_star plan o es (happen plan e w)

-- ---- when writes and removals cease

-- Nobody writes a node of o's or removes it with its records, o removes no records, and no table is restored. Followers go on removing, and everything else goes on.
abbrev pub quiet_at : (owner : ℕ → ℕ) (o : ℕ) (event : Event) → Bool
quiet_at owner o (Writing x i k who c) = not (eqb (owner i) o)
quiet_at owner o (Beating x i) = true
quiet_at owner o (Offering x i h) = true
quiet_at owner o (Removing x removal) = not (eqb x o)
quiet_at owner o (Adding x i) = true
quiet_at owner o (Dropping x i) = not (eqb (owner i) o)
quiet_at owner o (Computing x edition digest excluded order mtu place l) = true
quiet_at owner o (Arriving x k now l) = true
quiet_at owner o (Saving x) = true
quiet_at owner o (Restoring x k) = false

-- ---- a whole exchange

-- demand 3's: an MTU of 135 or more, or a plan that names a node
abbrev pub wide : (order : Order) (mtu : ℕ) → Bool
wide (InLine ties) mtu = leb least_width mtu
wide (AsPlanned nodes counts) mtu = not (is_none nodes)

-- the second table has every node of o's in which the first has a version
abbrev pub Follows : (owner : ℕ → ℕ) (o : ℕ) (ours theirs : Table) → Type 0
Follows owner o ours theirs = (i : ℕ) (p : Node) → owner i ≡ o → node_of i ours ≡ some p → 0 < p.max → (n : Node) × (node_of i theirs ≡ some n)

-- what o sends at one moment for the digest that x wrote at another
abbrev pub ops_of : (asked : Asked) (excluded : List ℕ) (o x : ℕ) (digested computed : Net) → List Op
ops_of q excluded o x u v = ops_by excluded q.order q.mtu (digest_of [] (u.hubs x)) (v.hubs o)

-- Hub x, which has all nodes of o's, wrote its digest at u, o computed for it at v, with those nodes excluded that are not its own and no others, and the delta is now to arrive, in w. No call
-- is refused and no node answers Room.
pub record Whole (plan : Plan) (o x : ℕ) (u v w : Net) (q : Asked) (excluded : List ℕ) (which : Which) : Type 0 where
  pub is_wide : wide q.order q.mtu ≡ true
  pub own_go : (e : Entry) → e ∈ v.hubs o → plan.owner e.number ≡ o → among e.number excluded ≡ false
  pub others_stay : (e : Entry) → e ∈ v.hubs o → among e.number excluded ≡ false → plan.owner e.number ≡ o
  pub had : Follows plan.owner o (v.hubs o) (u.hubs x)
  pub has : Follows plan.owner o (v.hubs o) (w.hubs x)
  pub wrote : wrote_delta (compute_by q.edition excluded q.order q.mtu q.place (digest_bytes q.edition (digest_of [] (u.hubs x))) (v.hubs o) q.datagram).answer ≡ true
  pub comes : arrives which w.sent ≡ DeltaSent (delta_bytes (ops_of q excluded o x u v))
  pub clock : ltb q.now numbers ≡ true
  pub roomy : no_room (apply (plan.ways x) (delta_bytes (ops_of q excluded o x u v)) q.now (w.hubs x) q.answers).answer
      (apply (plan.ways x) (delta_bytes (ops_of q excluded o x u v)) q.now (w.hubs x) q.answers).list ≡ true

-- such an exchange begins and ends in this run; whatever the run has else may fall between its steps, exchanges of other followers too
pub record Exchanges (plan : Plan) (o x : ℕ) (es : List Event) (w : Net) : Type 0 where
  pub asked : Asked
  pub excluded : List ℕ
  pub which : Which
  pub before : List Event
  pub waiting : List Event
  pub coming : List Event
  pub rest : List Event
  pub is : es ≡ before ++ (waiting ++ (coming ++ (Arriving x which asked.now asked.answers ∷ rest)))
  pub whole : Whole plan o x (after plan before w) (after plan waiting (after plan before w)) (after plan coming (after plan waiting (after plan before w))) asked excluded which

-- so many of them, one behind the other
pub data Meets (plan : Plan) (o x : ℕ) : (count : ℕ) (events : List Event) (net : Net) → Type 0 where
  no_more : (es : List Event) (w : Net) → Meets plan o x 0 es w
  once_more : (k : ℕ) (es fs : List Event) (w : Net) → Exchanges plan o x es w → Meets plan o x k fs (after plan es w) → Meets plan o x (suc k) (es ++ fs) w
