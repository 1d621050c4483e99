-- Evidence, and no part of a promise: short runs of nets. Hub 0 owns node 7 and all others follow it. Each delta is computed for the hub's own pair and applied at
-- once. Runs computes them, Witnesses says what they show.
use Prim.Native.Nat.{ℕ, zero, suc}
use mathlib.Core.List.{List, [], ◌∷◌, ◌++◌}
use lib.ListN.{replicate}
use Rattle.rules.specs.Apply.{Ways, plain_ways}
use Rattle.rules.specs.Digest.{NodeDigest, digest_bytes}
use Rattle.rules.specs.Node.{Deleting, KeyValue, Setting, SettingTtl, beats}
use Rattle.rules.specs.Table.{versions}
use Rattle.rules.specs.declared.Party.TheVariants.{Nobody}
use Rattle.rules.specs.declared.Profile.TheVariants.{Free}
use Rattle.rules.specs.declared.Status.TheVariants.{Set}
use Rattle.demand3.proofs.EachNode.{node_at}
use Rattle.demand3.specs.Forms.{ByClock, InLine}
use Rattle.demand3.specs.World.{Before, From, intact}
use Rattle.net.specs.Net.{Adding, Arriving, Computing, Dropping, Event, Net, Plan, Removing, Restoring, Saving, Writing, after, begin, with_table}

-- hub 0 owns every node, and all hubs apply in the same ways, in the free profile
abbrev pub alike : Ways → Plan
alike ways = record { owner = λ i. 0; ways = λ x. ways; profiles = λ x. Free }

-- keys of one letter, and a value
abbrev pub a : List ℕ
a = 97 ∷ []

abbrev pub b : List ℕ
b = 98 ∷ []

abbrev pub c : List ℕ
c = 99 ∷ []

abbrev pub one : List ℕ
one = 49 ∷ []

-- what b was given at 2
abbrev pub dead : KeyValue
dead = record { key = b; value = one; version = 2; status = Set }

abbrev pub set : List ℕ → Event
set k = Writing 0 7 k Nobody (Setting one)

-- hub x, which is at (g, m), hears hub y: its digest, y's delta for it, applied at once
abbrev pub told : ℕ → ℕ → List NodeDigest
told g m = record { number = 7; heartbeat = beats 0; last_gc = g; max = m } ∷ []

abbrev hears_within : ℕ → ℕ → ℕ → ℕ → ℕ → List Event
hears_within mtu x y g m = Computing y 0 (digest_bytes 0 (told g m)) [] (InLine (0 ∷ [])) mtu 0 (replicate 300 0) ∷ Arriving x (intact 0) 50 (0 ∷ []) ∷ []

abbrev pub hears : ℕ → ℕ → ℕ → ℕ → List Event
hears x y g m = hears_within 300 x y g m

-- four hubs have node 7, and its owner sets a and b
abbrev pub began : List Event
began = Adding 0 7 ∷ Adding 1 7 ∷ Adding 2 7 ∷ Adding 3 7 ∷ set a ∷ set b ∷ []

-- b is deleted, and its tombstone removed
abbrev removes : List Event
removes = Writing 0 7 b Nobody (Deleting 0) ∷ Removing 0 (ByClock 9 5) ∷ []

-- the pair of node 7 and the versions that stand in it
abbrev pub pair_at : ℕ → Net → List ℕ
pair_at x w = (node_at 7 (w.hubs x)).last_gc ∷ (node_at 7 (w.hubs x)).max ∷ []

abbrev pub versions_at : ℕ → Net → List ℕ
versions_at x w = versions (node_at 7 (w.hubs x)).recs

-- ---- the triangle

-- Hub 1 hears hub 0. The owner deletes b and removes it. Hub 2 hears hub 0 and is at (3,1); it hears hub 1, and plain it is at (3,2) and has b again.
abbrev pub told_twice : List Event
told_twice = began ++ (hears 1 0 0 0 ++ (removes ++ (hears 2 0 0 0 ++ hears 2 1 3 1)))

-- plain: it hears hub 0, and both are at (3,3)
abbrev pub triangle : List Event
triangle = told_twice ++ hears 2 0 3 2

-- not plain: it stayed at (3,1)
abbrev pub triangle_held_off : List Event
triangle_held_off = told_twice ++ hears 2 0 3 1

-- ---- the line of three, both ways

-- Hub 1 hears hub 0, hub 2 hears hub 1. The owner deletes b and removes it. Hub 1 hears hub 0 and is at (3,1); it hears hub 2, and hub 0.
abbrev pub line : List Event
line = began ++ (hears 1 0 0 0 ++ (hears 2 1 0 0 ++ (removes ++ (hears 1 0 0 2 ++ (hears 1 2 3 1 ++ hears 1 0 3 2)))))

-- ---- a plain relay

-- hub 1 is plain
abbrev ways_but : Ways → ℕ → Ways
ways_but ways zero = ways
ways_but ways (suc zero) = plain_ways
ways_but ways (suc (suc x)) = ways

abbrev pub relay : Ways → Plan
relay ways = record { owner = λ i. 0; ways = ways_but ways; profiles = λ x. Free }

-- Hub 2 hears hub 0. The owner deletes b and removes it. The plain hub 1 hears hub 0, hub 2 and hub 0. Hub 3 hears hub 1 alone, twice.
abbrev pub poison : List Event
poison = began ++ (hears 2 0 0 0 ++ (removes ++ (hears 1 0 0 0 ++ (hears 1 2 3 1 ++ (hears 1 0 3 2 ++ (hears 3 1 0 0 ++ hears 3 1 3 2))))))

-- ---- an owner restored with a write lost

-- hub 1 has what the owner set
abbrev pub heard_all : Ways → Net
heard_all ways = after (alike ways) (began ++ hears 1 0 0 0) begin

-- The owner's table is that of before b was set, and it sets c, at 2 again. No event of a net does that.
abbrev pub lost : Ways → Net
lost ways = after (alike ways) (set c ∷ []) (with_table 0 ((after (alike ways) (Adding 0 7 ∷ set a ∷ []) begin).hubs 0) (heard_all ways))

-- ---- a hub that the fence leaves behind

-- The owner sets a, and b with a TTL; hub 1 hears it and is at (0,2). The owner removes b; hub 2 hears it and is at (2,1).
abbrev pub in_reset : List Event
in_reset = Adding 0 7 ∷ Adding 1 7 ∷ Adding 2 7 ∷ set a ∷ Writing 0 7 b Nobody (SettingTtl one 0) ∷ (hears 1 0 0 0 ++ ((Removing 0 (ByClock 9 5) ∷ []) ++ hears 2 0 0 0))

-- From then on hub 2 hears only hub 1, and hub 1 hears hub 0, which has nothing for it.
abbrev pub round_of : List Event
round_of = hears 1 0 0 2 ++ hears 2 1 2 1

-- ---- an old reading for a while

-- Hub 0 sets a, and hub 2 hears it. Hub 0 deletes a, version 2, and hub 1 hears that.
abbrev pub dead_at_one : List Event
dead_at_one = Adding 0 7 ∷ Adding 1 7 ∷ Adding 2 7 ∷ set a ∷ (hears 2 0 0 0 ++ (Writing 0 7 a Nobody (Deleting 0) ∷ hears 1 0 0 0))

-- Hub 0 gives b a TTL, version 3, and sets a again, version 4. Hub 2 hears it under an MTU of 100, cut before a, and removes b: it is at (3,3) with a at version 1. Hub 1 hears
-- hub 2 and is reset.
abbrev pub back_for_awhile : List Event
back_for_awhile =
    dead_at_one
    ++ (Writing 0 7 b Nobody (SettingTtl (replicate 40 49) 0)
    ∷ Writing 0 7 a Nobody (Setting (replicate 10 50))
    ∷ (hears_within 100 2 0 0 1
    ++ (Removing 2 (ByClock 60 5)
    ∷ hears 1 2 0 2)))

-- it hears hub 0
abbrev pub heard_again : List Event
heard_again = back_for_awhile ++ hears 1 0 3 1

-- ---- a node that was removed and added

-- Hub 1 hears hub 0 twice, before and after b is deleted; it removes the node and adds it, and the first delta comes again
abbrev pub readded : List Event
readded = began ++ (hears 1 0 0 0 ++ (Writing 0 7 b Nobody (Deleting 0) ∷ (hears 1 0 0 2 ++ (Dropping 1 7 ∷ Adding 1 7 ∷ Arriving 1 (intact 1) 50 (0 ∷ []) ∷ []))))

-- ---- a plain leaf whose one neighbour is not steady

-- hub 2 is plain
abbrev leaf_ways : Ways → ℕ → Ways
leaf_ways ways zero = ways
leaf_ways ways (suc zero) = ways
leaf_ways ways (suc (suc x)) = plain_ways

abbrev pub leaf_plan : Ways → Plan
leaf_plan ways = record { owner = λ i. 0; ways = leaf_ways ways; profiles = λ x. Free }

-- Hub 1 hears hub 0. The owner deletes b and removes it; hub 1 hears that and is at (3,1), and so is the leaf, which hears it.
abbrev leaf_began : List Event → List Event
leaf_began saves = began ++ (hears 1 0 0 0 ++ (saves ++ (removes ++ (hears 1 0 0 2 ++ hears 2 1 0 0))))

-- Hub 1 is at (0,2) again. The leaf hears it and has b; hub 1 hears hub 0 twice and is at (3,3); the leaf hears it once more.
abbrev leaf_ends : List Event
leaf_ends = hears 2 1 3 1 ++ (hears 1 0 0 2 ++ (hears 1 0 3 1 ++ hears 2 1 3 2))

-- it was restored
abbrev pub leaf_restored : List Event
leaf_restored = leaf_began (Saving 1 ∷ []) ++ (Restoring 1 0 ∷ leaf_ends)

-- or it removed the node and added it, and the first delta came again
abbrev pub leaf_readded : List Event
leaf_readded = leaf_began [] ++ (Dropping 1 7 ∷ Adding 1 7 ∷ Arriving 1 (intact 2) 50 (0 ∷ []) ∷ leaf_ends)

-- ---- four hubs that lock

-- nodes 7 and 8, at (g, m) and (k, n)
abbrev told_both : ℕ → ℕ → ℕ → ℕ → List NodeDigest
told_both g m k n = record { number = 7; heartbeat = beats 0; last_gc = g; max = m } ∷ record { number = 8; heartbeat = beats 0; last_gc = k; max = n } ∷ []

-- the hub tells this of itself, and the other leaves out these nodes
abbrev hears_both : List ℕ → ℕ → ℕ → ℕ → List NodeDigest → List Event
hears_both out mtu x y ds = Computing y 0 (digest_bytes 0 ds) out (InLine (0 ∷ 0 ∷ [])) mtu 0 (replicate 300 0) ∷ Arriving x (intact 0) 0 (0 ∷ 0 ∷ []) ∷ []

-- values of 64 bytes: under an MTU of 135 one record goes over
abbrev long : List ℕ
long = replicate 64 49

abbrev writes_of : ℕ → List Event
writes_of i = Writing 0 i a Nobody (Setting long) ∷ Writing 0 i b Nobody (Setting long) ∷ Writing 0 i c Nobody (SettingTtl long 0) ∷ []

-- Hub 0 sets a and b and gives c a TTL, in both nodes. Hub 1 removes c of node 7, and hub 2 that of node 8; both have all else. Hub 3 hears node 7 from hub 1 and node 8 from hub 2,
-- each cut behind the first record: both nodes are at (3,1).
abbrev pub locked_up : List Event
locked_up =
    Adding 0 7 ∷ Adding 0 8 ∷ Adding 1 7 ∷ Adding 1 8 ∷ Adding 2 7 ∷ Adding 2 8 ∷ Adding 3 7 ∷ Adding 3 8 ∷ (writes_of 7
    ++ (writes_of 8
    ++ (hears_both (8 ∷ []) 300 1 0 (told_both 0 0 0 0)
    ++ (Removing 1 (ByClock 9 5)
    ∷ (hears_both [] 300 1 0 (told_both 3 3 0 0)
    ++ (hears_both (7 ∷ []) 300 2 0 (told_both 0 0 0 0)
    ++ (Removing 2 (ByClock 9 5)
    ∷ (hears_both [] 300 2 0 (told_both 0 0 3 3)
    ++ (hears_both (8 ∷ []) 135 3 1 (told_both 0 0 0 0) ++ hears_both (7 ∷ []) 135 3 2 (told_both 3 1 0 0))))))))))

-- hub 3 hears all others; they are at one max, and hear nothing
abbrev pub round_locked : List Event
round_locked = hears_both [] 135 3 0 (told_both 3 1 3 1) ++ (hears_both [] 135 3 1 (told_both 3 1 3 1) ++ hears_both [] 135 3 2 (told_both 3 1 3 1))

-- it tells hub 1 the largest number as max of node 8, and hub 2 as that of node 7
abbrev pub unlocking : List Event
unlocking =
    hears_both [] 135 3 1 (told_both 3 1 3 18446744073709551615)
    ++ (hears_both [] 135 3 1 (told_both 3 2 3 18446744073709551615)
    ++ (hears_both [] 135 3 2 (told_both 3 18446744073709551615 3 1) ++ hears_both [] 135 3 2 (told_both 3 18446744073709551615 3 2)))

-- the pair of node 8
abbrev pub pair_at_eight : ℕ → Net → List ℕ
pair_at_eight x w = (node_at 8 (w.hubs x)).last_gc ∷ (node_at 8 (w.hubs x)).max ∷ []

-- ---- a gateway

-- Hub 0 sets a and b in node 7, and those and c in node 8, and computes one delta of both for hubs that have nothing. The Node operation of node 8 starts at its byte 57; a gateway cuts it there.
abbrev cut_delta : List Event
cut_delta =
    Adding 0 7 ∷ Adding 0 8 ∷ Adding 1 7 ∷ Adding 1 8 ∷ Adding 2 7 ∷ Adding 2 8 ∷ set a ∷ set b
    ∷ Writing 0 8 a Nobody (Setting one) ∷ Writing 0 8 b Nobody (Setting one) ∷ Writing 0 8 c Nobody (Setting one)
    ∷ Computing 0 0 (digest_bytes 0 (told_both 0 0 0 0)) [] (InLine (0 ∷ 0 ∷ [])) 300 0 (replicate 300 0) ∷ []

-- the part behind the cut comes first, to hubs 1 and 2
abbrev pub second_first : List Event
second_first = cut_delta ++ (Arriving 1 (record { delta = 0; cuts = From 57 ∷ [] }) 50 (0 ∷ []) ∷ Arriving 2 (record { delta = 0; cuts = From 57 ∷ [] }) 50 (0 ∷ []) ∷ [])

-- The owner deletes b of node 7 and removes it; hub 1 hears that and is at (3,1). Then the first part of the first delta comes, late. At hub 2 it is lost.
abbrev pub first_late : List Event
first_late = second_first ++ (removes ++ (hears_both (8 ∷ []) 300 1 0 (told_both 0 0 0 3) ++ (Arriving 1 (record { delta = 1; cuts = Before 57 ∷ [] }) 50 (0 ∷ []) ∷ [])))

-- the same with the cut at 58, where no Node operation starts: nothing comes
abbrev pub cut_elsewhere : List Event
cut_elsewhere = cut_delta ++ (Arriving 1 (record { delta = 0; cuts = From 58 ∷ [] }) 50 (0 ∷ []) ∷ [])

-- Three nodes with a key each: their Node operations start at 0, 41 and 82. The delta is cut at 41, and its second part once more: of the three the middle one alone comes.
abbrev pub middle_alone : List Event
middle_alone =
    Adding 0 7 ∷ Adding 0 8 ∷ Adding 0 9 ∷ Adding 1 7 ∷ Adding 1 8 ∷ Adding 1 9 ∷ set a ∷ Writing 0 8 a Nobody (Setting one) ∷ Writing 0 9 a Nobody (Setting one)
    ∷ Computing 0 0 (digest_bytes 0 []) [] (InLine (0 ∷ 0 ∷ 0 ∷ [])) 300 0 (replicate 300 0) ∷ Arriving 1 (record { delta = 0; cuts = From 41 ∷ Before 41 ∷ [] }) 50 (0 ∷ []) ∷ []
