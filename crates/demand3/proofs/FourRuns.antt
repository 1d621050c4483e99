-- Evidence, and no part of a promise: four runs, and three by plans. Runs computes them, Witnesses says what they show. The first needs every exchange that the closing count grants. In the second a reset forgets a deleted
-- key and takes a live one below last_gc; in the third one delta brings two nodes. In the fourth a delta arrives late, after the next digest,
-- which no run of demand 3's world has for a plain follower; it brings a deleted key back, so that the demand must not be carried over to late deltas
-- there. The same run with a fenced follower is one of that world, and the key stays dead. Of those by plans the first closes; in the second the plans are empty,
-- in the third the digest leaves out what they name, and neither closes.
use Prim.Native.Nat.{ℕ}
use mathlib.Core.Bool.{Bool, ◌&&◌, true}
use mathlib.Core.List.{List, [], ◌∷◌, ◌++◌}
use mathlib.Core.Option.{Option, none, some}
use lib.ListN.{replicate}
use Rattle.rules.specs.Node.{KeyValue, Rec, Node, Setting, Deleting, beats}
use Rattle.rules.specs.Table.{Table, node_of}
use Rattle.rules.specs.Apply.{Ways, fenced_ways, plain_ways}
use Rattle.rules.specs.declared.Party.TheVariants.{Nobody}
use Rattle.rules.specs.declared.Status.TheVariants.{Set}
use Rattle.demand3.specs.Forms.{AsPlanned, ByClock, InLine}
use Rattle.demand3.specs.World.{World, Publishers, Followers, Event, Writing, Beating, Offering, Removing, Digesting, Computing, Applying, Arriving, on_exchange, start, after, happen, intact}
use Rattle.demand3.specs.Demand3.{granted}

-- one node, number 7, and its pair (last_gc, max)
abbrev pub seven : List ℕ
seven = 7 ∷ []

abbrev pub pair_in : Option Node → List ℕ
pair_in none = []
pair_in (some n) = n.last_gc ∷ n.max ∷ []

abbrev pub pair_at : ℕ → Table → List ℕ
pair_at i t = pair_in (node_of i t)

abbrev pub pair : Table → List ℕ
pair t = pair_at 7 t

-- keys of one letter, and their values
abbrev a : List ℕ
a = 97 ∷ []

abbrev b : List ℕ
b = 98 ∷ []

abbrev k : List ℕ
k = 107 ∷ []

abbrev m : List ℕ
m = 109 ∷ []

abbrev n : List ℕ
n = 110 ∷ []

abbrev one : List ℕ
one = 49 ∷ []

-- a delta on its way, and applied
abbrev delta : ℕ → List Event
delta mtu = Digesting 0 [] 0 (replicate 34 0) ∷ Computing 0 [] (InLine (0 ∷ [])) mtu 0 (replicate 300 0) ∷ []

abbrev exchange : ℕ → List Event
exchange mtu = delta mtu ++ (Applying 50 (0 ∷ []) ∷ [])

-- ---- every exchange of the count is needed

-- b is set at 1, a at 2; a is deleted at 3 and the tombstone removed: the publisher is at (3,3) with one record
abbrev pub one_record : World
one_record = after plain_ways (Writing 7 b Nobody (Setting one) ∷ Writing 7 a Nobody (Setting one) ∷ Writing 7 a Nobody (Deleting 0) ∷ Removing Publishers (ByClock 9 5) ∷ []) (start seven)

-- a whole exchange
abbrev pub whole : List Event
whole = exchange 135

-- another, with beats and an offer between its steps, and its delta applied twice
abbrev pub lively : List Event
lively =
    Beating Publishers 7
    ∷ Digesting 0 [] 0 (replicate 34 0)
    ∷ Beating Followers 7
    ∷ Computing 0 [] (InLine (0 ∷ [])) 135 0 (replicate 135 0)
    ∷ Offering Followers 7 (beats 9)
    ∷ Applying 50 (0 ∷ [])
    ∷ Beating Publishers 7
    ∷ Applying 51 (0 ∷ [])
    ∷ []

-- ---- by plans

-- an exchange by a plan, under an MTU of 100
abbrev by_plan : List ℕ → List ℕ → List Event
by_plan nodes counts = Digesting 0 [] 0 (replicate 34 0) ∷ Computing 0 [] (AsPlanned nodes counts) 100 0 (replicate 100 0) ∷ Applying 50 (0 ∷ []) ∷ []

-- one that names the node and its record, and then one in document 01's order
abbrev pub planned : List Event
planned = by_plan seven (1 ∷ []) ++ whole

-- as many as the publisher holds records and nodes, whose plans are empty
abbrev pub idle : List Event
idle = by_plan [] [] ++ by_plan [] []

-- nothing refused
unfoldable pub all_granted : Ways → List Event → World → Bool
all_granted ways [] w = true
all_granted ways (e ∷ es) w = granted ways e w && all_granted ways es (happen ways e w)

-- ---- a reset forgets what was removed, and takes what is live

-- the keys of node 7 with their versions
unfoldable pub keys_of : List Rec → List (List ℕ)
keys_of [] = []
keys_of (r ∷ l) = (r.kv.version ∷ r.kv.key) ∷ keys_of l

abbrev keys_in : Option Node → List (List ℕ)
keys_in none = []
keys_in (some x) = keys_of x.recs

abbrev pub keys : Table → List (List ℕ)
keys t = keys_in (node_of 7 t)

-- the follower has k at 1; then b is set at 2, and k is deleted at 3 and removed
abbrev pub removed_there : World
removed_there =
    after plain_ways
    ((Writing 7 k Nobody (Setting one) ∷ []) ++ (exchange 300 ++ (Writing 7 b Nobody (Setting one) ∷ Writing 7 k Nobody (Deleting 0) ∷ Removing Publishers (ByClock 9 5) ∷ [])))
    (start seven)

abbrev pub forgotten : World
forgotten = after plain_ways (exchange 300) removed_there

-- ---- two nodes in one delta, for a digest of the second edition

abbrev pub both_nodes : World
both_nodes =
    after plain_ways
    (Writing 7 k Nobody (Setting one)
    ∷ Writing 9 b Nobody (Setting one)
    ∷ Writing 9 b Nobody (Setting [])
    ∷ Digesting 1 [] 0 (replicate 64 0)
    ∷ Computing 1 [] (InLine (0 ∷ 0 ∷ [])) 300 0 (replicate 300 0)
    ∷ Applying 50 (0 ∷ 0 ∷ [])
    ∷ [])
    (start (7 ∷ 9 ∷ []))

-- Node 9 is up to date, 7 is not. As many exchanges as the publisher holds records and nodes, by a plan that names node 9, which the digest leaves out.
abbrev pub one_behind : World
one_behind =
    after plain_ways
    (Writing 9 b Nobody (Setting one)
    ∷ Digesting 0 [] 0 (replicate 66 0)
    ∷ Computing 0 [] (InLine (0 ∷ 0 ∷ [])) 300 0 (replicate 300 0)
    ∷ Applying 50 (0 ∷ [])
    ∷ Writing 7 k Nobody (Setting one)
    ∷ [])
    (start (7 ∷ 9 ∷ []))

abbrev leaves_out : List Event
leaves_out = Digesting 0 (9 ∷ []) 0 (replicate 34 0) ∷ Computing 0 [] (AsPlanned (9 ∷ []) (1 ∷ [])) 100 0 (replicate 100 0) ∷ Applying 50 (0 ∷ []) ∷ []

abbrev pub untold : List Event
untold = leaves_out ++ (leaves_out ++ (leaves_out ++ leaves_out))

-- ---- a late delta

-- The follower, in its ways, is at (0,3). Then b is set at 4, with a long value, and k at 5, and a delta from 3 with last_gc 0 and max 5 is on its way.
abbrev pub on_its_way : Ways → World
on_its_way ways =
    after ways
    ((Writing 7 (1 ∷ []) Nobody (Setting one) ∷ Writing 7 (2 ∷ []) Nobody (Setting one) ∷ Writing 7 a Nobody (Setting one) ∷ [])
    ++ (exchange 300 ++ ((Writing 7 b Nobody (Setting (replicate 40 49)) ∷ Writing 7 k Nobody (Setting one) ∷ []) ++ delta 300)))
    (start seven)

-- k is deleted at 8 and removed. The next exchange, whose MTU ends before b, resets the follower to (10,3).
abbrev pub was_reset : Ways → World
was_reset ways =
    after ways
    ((Writing 7 m Nobody (Setting one) ∷ Writing 7 n Nobody (Setting one) ∷ Writing 7 k Nobody (Deleting 0) ∷ Writing 7 m Nobody (Deleting 0) ∷ Writing 7 n Nobody (Deleting 0) ∷ Removing Publishers (ByClock 9 5) ∷ [])
    ++ exchange 100)
    (on_its_way ways)

-- the first delta arrives
abbrev pub took_late : World
took_late = after plain_ways (Applying 50 (0 ∷ []) ∷ []) (on_exchange (on_its_way plain_ways).exchange (was_reset plain_ways))

-- and one more exchange makes the two max equal
abbrev pub caught_up : World
caught_up = after plain_ways (exchange 300) took_late

-- what k was given at 5
abbrev pub dead : KeyValue
dead = record { key = k; value = one; version = 5; status = Set }

-- It arrives at a fenced follower: it is the second of all, for the delta of the reset is newer.
abbrev arriving : List Event
arriving = Arriving (intact 1) 50 (0 ∷ []) ∷ []

abbrev pub held_off : World
held_off = after fenced_ways arriving (was_reset fenced_ways)

-- Two exchanges make the two max equal. It arrives again before the first, and between its steps: when one more is computed, it is the third of all.
abbrev pub amid : List Event
amid =
    arriving
    ++ ((Digesting 0 [] 0 (replicate 34 0) ∷ [])
    ++ (arriving ++ ((Computing 0 [] (InLine (0 ∷ [])) 300 0 (replicate 300 0) ∷ Arriving (intact 2) 50 (0 ∷ []) ∷ Applying 50 (0 ∷ []) ∷ []) ++ exchange 300)))

abbrev pub fenced_up : World
fenced_up = after fenced_ways amid held_off
