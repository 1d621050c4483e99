-- A careful net as its hubs run it: each keeps a grid beside its table (ticket 12), tells it the digests that its peers really wrote, old ones and the same
-- ones again, and removes by that grid alone, and only while every other hub of the net is present in it. Nodes are added through the grid. Nobody restores a
-- table or removes a node. Tables and grids are lent bytes, and what happens to them is what the entry points promise. That such a net is careful (Careful of
-- `net_careful`), and so safe whatever the hubs' kinds, is proved in proofs/Watched.
use Rattle.std.specs.Prelude.{ℕ, ◌≤◌, ◌≡◌, Bool, true, false, ◌&&◌, List, [], ◌∷◌, ◌++◌, eqb, ltb, get_or}
use Rattle.std.proofs.Math.Option.{Option, none, some}
use Rattle.fields.specs.Numbers.{Bytes}
use Rattle.fields.specs.Parts.{part}
use Rattle.fields.specs.Choice.{◌∈◌, pick, all}
use Rattle.rules.specs.Profile.{Kind}
use Rattle.rules.specs.Sizes.{numbers}
use Rattle.rules.specs.Node.{Node}
use Rattle.rules.specs.Table.{among, node_of}
use Rattle.rules.specs.Delta.{Op, Good, Part, parts_of, read_delta}
use Rattle.rules.specs.Apply.{apply_node, ways_in}
use Rattle.rules.specs.Lent.{lent_digest}
use Rattle.rules.specs.declared.NodeAnswer.TheVariants as node
use Rattle.std.specs.Prelude.{Err, Ok, Result}
use Rattle.rules.specs.declared.Refusal.{Refusal}
use Rattle.grid.specs.Grid.{Grid, new_grid}
use Rattle.grid.specs.GridLayout.{encode_grid, decode_grid}
use Rattle.grid.specs.LentGrid.{lent_column_in, lent_take_out, lent_tell, valid_both}
use Rattle.demand3.specs.Forms.{Carefully}
use Rattle.net.specs.Net.{Adding, Arriving, Beating, Computing, Dropping, Event, Offering, Removing, Restoring, Saving, Writing, placed}
use Rattle.net.specs.LentNet.{LentNet, LentSound, lent_after, lent_begin, tables_in}
use Rattle.net_careful.specs.Careful.{max_at}

-- ---- the net

-- a digest that a hub wrote, and the edition that it wrote it in
pub record Wrote : Type 0 where
  pub edition : ℕ
  pub bytes : Bytes

-- the net; the bytes of each hub's grid; the digests that each hub ever wrote, the newest first
pub record Watch : Type 0 where
  pub net : LentNet
  pub grids : ℕ → Bytes
  pub wrote : ℕ → List Wrote

-- new tables, and their grids
abbrev pub watch_begin : (kinds : ℕ → Kind) → Watch
watch_begin kinds = record { net = lent_begin kinds; grids = λ x. encode_grid (new_grid []); wrote = λ x. [] }

-- ---- what may happen

-- the first number is the hub's
pub data Act : Type 0 where
  -- whatever happens in a net, but for removals, nodes that come or go, and tables that are restored
  Happening : Event → Act
  -- the hub writes a digest: edition, excluded nodes, place in the datagram, datagram
  Digesting : ℕ → ℕ → List ℕ → ℕ → List ℕ → Act
  -- the hub's grid is told a digest of the peer with this number, late or again: which of those that it wrote
  Telling : ℕ → ℕ → ℕ → Act
  -- a peer is taken out of the hub's grid
  TakingOut : ℕ → ℕ → Act
  -- a node is added to the hub's table, through its grid
  Joining : ℕ → ℕ → Act
  -- a careful removal by the hub's own grid: now, grace
  Clearing : ℕ → ℕ → ℕ → Act

-- a hub of the net does it, and it is none of those that an act of its own stands for
abbrev pub mild : (members : List ℕ) (event : Event) → Bool
mild ms (Writing x i k who c) = among x ms
mild ms (Beating x i) = among x ms
mild ms (Offering x i h) = among x ms
mild ms (Removing x removal) = false
mild ms (Adding x i) = false
mild ms (Dropping x i) = false
mild ms (Computing x edition digest excluded order mtu place l) = among x ms
mild ms (Arriving x k now l) = among x ms
mild ms (Saving x) = among x ms
mild ms (Restoring x k) = false

-- one of these rows stands for the hub and is present
unfoldable pub has_row : (peer : ℕ → ℕ) (hub : ℕ) (rows : List ℕ) (grid : Grid) → Bool
has_row peer y [] g = false
has_row peer y (p ∷ ps) g = pick (eqb (peer p) y && eqb (get_or g.present p 0) 1) true (has_row peer y ps g)

abbrev pub eight_rows : List ℕ
eight_rows = 0 ∷ 1 ∷ 2 ∷ 3 ∷ 4 ∷ 5 ∷ 6 ∷ 7 ∷ []

-- every other hub of the net is present
abbrev pub all_present : (peer : ℕ → ℕ) (members : List ℕ) (hub : ℕ) (grid : Grid) → Bool
all_present peer ms x g = all (λ y. pick (eqb y x) true (has_row peer y eight_rows g)) ms

-- `peer x p` is the hub that row p of hub x's grid stands for
module _ (owner : ℕ → ℕ) (peer : ℕ → ℕ → ℕ) (ms : List ℕ) where
  -- a node is added where its number has eight bytes and grid and table belong together: else adding it through the grid is refused with 14
  abbrev pub joins : (hub number : ℕ) (watch : Watch) → Bool
  joins x i w = among x ms && (ltb i numbers && valid_both (w.grids x) (w.net.hubs x))

  -- what an act does to the tables
  abbrev pub events_of : (act : Act) (watch : Watch) → List Event
  events_of (Happening e) w = pick (mild ms e) (e ∷ []) []
  events_of (Digesting x edition excluded place d) w = []
  events_of (Telling x p k) w = []
  events_of (TakingOut x p) w = []
  events_of (Joining x i) w = pick (joins x i w) (Adding x i ∷ []) []
  events_of (Clearing x now grace) w =
      pick (among x ms && all_present (peer x) ms x (decode_grid (w.grids x))) (Removing x (Carefully (w.grids x) now grace) ∷ []) []

  -- and to the grids
  abbrev pub with_grid : (hub : ℕ) (grid : Bytes) (grids : ℕ → Bytes) → ℕ → Bytes
  with_grid x g gs y = pick (eqb y x) g (gs y)

  abbrev pub told_grid : (row : ℕ) (digest : Option Wrote) (grid : Bytes) → Bytes
  told_grid p none g = g
  told_grid p (some d) g = (lent_tell p d.edition d.bytes g).lent

  abbrev pub grids_after : (act : Act) (watch : Watch) → ℕ → Bytes
  grids_after (Happening e) w = w.grids
  grids_after (Digesting x edition excluded place d) w = w.grids
  grids_after (Telling x p k) w = with_grid x (told_grid p (placed k (w.wrote (peer x p))) (w.grids x)) w.grids
  grids_after (TakingOut x p) w = with_grid x (lent_take_out p (w.grids x)).lent w.grids
  grids_after (Joining x i) w = with_grid x (pick (joins x i w) (lent_column_in i (w.grids x) (w.net.hubs x)).lent.grid (w.grids x)) w.grids
  grids_after (Clearing x now grace) w = w.grids

  -- a digest is kept once it is written
  abbrev pub kept_wrote : (edition place : ℕ) (datagram : Bytes) (answer : (Result ℕ Refusal)) (before : List Wrote) → List Wrote
  kept_wrote edition place d (Ok n) ws = record { edition = edition; bytes = part place n d } ∷ ws
  kept_wrote edition place d (Err r) ws = ws

  abbrev pub wrote_after : (act : Act) (watch : Watch) → ℕ → List Wrote
  wrote_after (Happening e) w = w.wrote
  wrote_after (Digesting x edition excluded place d) w =
      λ y.
      pick (eqb y x)
      (kept_wrote edition place (lent_digest edition excluded place d (w.net.hubs x)).lent (lent_digest edition excluded place d (w.net.hubs x)).answer (w.wrote x))
      (w.wrote y)
  wrote_after (Telling x p k) w = w.wrote
  wrote_after (TakingOut x p) w = w.wrote
  wrote_after (Joining x i) w = w.wrote
  wrote_after (Clearing x now grace) w = w.wrote

  unfoldable pub doing : (act : Act) (watch : Watch) → Watch
  doing a w = record { net = lent_after owner (events_of a w) w.net; grids = grids_after a w; wrote = wrote_after a w }

  unfoldable pub watched : (acts : List Act) (watch : Watch) → Watch
  watched [] w = w
  watched (a ∷ l) w = watched l (doing a w)

  -- the events of a run
  unfoldable pub events_in : (acts : List Act) (watch : Watch) → List Event
  events_in [] w = []
  events_in (a ∷ l) w = events_of a w ++ events_in l (doing a w)

-- ---- what is claimed

-- At every moment, whatever kinds the hubs are of, plain ones too: every table is valid, of its kind, and demand 3's claims hold between each node's owner and
-- every hub; no hub of the net is reset by anything that was ever computed; what any hub has removed, every hub has seen; and from one moment to another no
-- max falls.
pub record WatchedSafe (owner : ℕ → ℕ) (kinds : ℕ → Kind) (peer : ℕ → ℕ → ℕ) (ms : List ℕ) : Type 0 where
  pub at_every_moment : (acts : List Act) → LentSound owner kinds (watched owner peer ms acts (watch_begin kinds)).net
  pub never_reset : (acts : List Act) → (b : List ℕ) → b ∈ (watched owner peer ms acts (watch_begin kinds)).net.sent
      → (ops : List Op) → read_delta b ≡ Good ops
      → (y : Part) → y ∈ parts_of ops
      → (x : ℕ) → x ∈ ms
      → (n : Node) → node_of y.number ((tables_in (watched owner peer ms acts (watch_begin kinds)).net).hubs x) ≡ some n
      → (now : ℕ) → (apply_node (ways_in (kinds x)) now y.delta n).answer ≡ node.ApplyAfterReset → ⊥
  pub seen_by_all : (acts : List Act) (i x y : ℕ) → x ∈ ms → y ∈ ms
      → (n m : Node) → node_of i ((tables_in (watched owner peer ms acts (watch_begin kinds)).net).hubs x) ≡ some n
      → node_of i ((tables_in (watched owner peer ms acts (watch_begin kinds)).net).hubs y) ≡ some m
      → n.last_gc ≤ m.max
  pub maxes_rise : (acts more : List Act) (x i : ℕ)
      → max_at i ((tables_in (watched owner peer ms acts (watch_begin kinds)).net).hubs x)
      ≤ max_at i ((tables_in (watched owner peer ms more (watched owner peer ms acts (watch_begin kinds))).net).hubs x)
