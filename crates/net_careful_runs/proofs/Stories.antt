-- Evidence, and no part of a promise: runs of plain nets that are careful but for one condition. Hub 0 owns node 7; hubs 1, 2 and 3 are F, G and H. Each delta is
-- computed for the hub's own pair and applied at once, but for one that is late. Witnesses says what they show.
use Prim.Native.Nat.{ℕ}
use mathlib.Core.List.{List, [], ◌∷◌, ◌++◌}
use lib.ListN.{replicate}
use Rattle.rules.specs.Digest.{digest_bytes}
use Rattle.rules.specs.Node.{Deleting, Setting}
use Rattle.rules.specs.declared.Party.TheVariants.{Nobody}
use Rattle.grid.specs.Grid.{Grid, new_grid, take_out, tell_row}
use Rattle.grid.specs.GridLayout.{encode_grid}
use Rattle.demand3.specs.Forms.{ByClock, Carefully, InLine}
use Rattle.demand3.specs.World.{intact}
use Rattle.net.specs.Net.{Adding, Arriving, Computing, Event, Removing, Restoring, Saving, Writing}
use Rattle.net_runs.proofs.Stories.{a, b, began, c, hears, set, told}

-- what the owner's grid says: of each peer, the max of node 7 that it told
abbrev pub one_told : (peer max : ℕ) → Grid
one_told p m = tell_row p (told 0 m) (new_grid (7 ∷ []))

abbrev pub two_told : (peer max other most : ℕ) → Grid
two_told p m q n = tell_row q (told 0 n) (one_told p m)

abbrev pub deletes_b : List Event
deletes_b = Writing 0 7 b Nobody (Deleting 0) ∷ []

-- ---- careful at the owner alone

-- G hears a. H hears a and b. The owner deletes b and removes nothing; F hears it and removes plainly. G hears F and is at (3,1); H, and has b again; the owner.
abbrev pub owner_alone : List Event
owner_alone =
    (Adding 0 7 ∷ Adding 1 7 ∷ Adding 2 7 ∷ Adding 3 7 ∷ set a ∷ [])
    ++ (hears 2 0 0 0 ++ ((set b ∷ []) ++ (hears 3 0 0 0 ++ (deletes_b ++ (hears 1 0 0 0 ++ ((Removing 1 (ByClock 60 5) ∷ []) ++ (hears 2 1 0 1 ++ (hears 2 3 3 1 ++ hears 2 0 3 2))))))))

-- ---- careful over whoever is present

-- H hears a and b. The owner deletes b; F hears it and tells. The owner removes carefully, with F alone present. G hears the owner, H, the owner.
abbrev pub whoever_there : List Event
whoever_there =
    began ++ (hears 3 0 0 0 ++ (deletes_b ++ (hears 1 0 0 0 ++ ((Removing 0 (Carefully (encode_grid (one_told 1 3)) 9 5) ∷ []) ++ (hears 2 0 0 0 ++ (hears 2 3 3 1 ++ hears 2 0 3 2))))))

-- ---- restored hubs

-- G and H hear a and b, and are saved. The owner deletes b; both hear it and tell, and the owner removes carefully. Both are restored. G hears the owner, H, the owner.
abbrev pub restored_hubs : List Event
restored_hubs =
    (Adding 0 7 ∷ Adding 2 7 ∷ Adding 3 7 ∷ set a ∷ set b ∷ [])
    ++ (hears 2 0 0 0
    ++ (hears 3 0 0 0
    ++ ((Saving 2 ∷ Saving 3 ∷ [])
    ++ (deletes_b
    ++ (hears 2 0 0 2
    ++ (hears 3 0 0 2
    ++ ((Removing 0 (Carefully (encode_grid (two_told 2 3 3 3)) 9 5) ∷ Restoring 2 0 ∷ Restoring 3 0 ∷ []) ++ (hears 2 0 0 2 ++ (hears 2 3 3 1 ++ hears 2 0 3 2)))))))))

-- ---- a follower that was taken out

-- a value of forty bytes, so that a delta of 100 bytes carries one such record
abbrev long : List ℕ
long = replicate 40 49

-- hub 0 computes for G, which is at (g, m)
abbrev computes : (gc max mtu : ℕ) → Event
computes g m mtu = Computing 0 0 (digest_bytes 0 (told g m)) [] (InLine (0 ∷ [])) mtu 0 (replicate 300 0)

-- G hears a and tells. The owner sets b, and the delta for G is late. The owner deletes b; F hears it and tells; G is taken out, and the owner removes carefully, with F
-- alone present, and sets c. G hears the owner in 100 bytes and is at (3,1); the late delta comes, and b with it; G hears the owner.
abbrev pub taken_out : List Event
taken_out =
    (Adding 0 7 ∷ Adding 1 7 ∷ Adding 2 7 ∷ Writing 0 7 a Nobody (Setting long) ∷ [])
    ++ (hears 2 0 0 0
    ++ ((set b ∷ computes 0 1 300 ∷ [])
    ++ (deletes_b
    ++ (hears 1 0 0 0
    ++ ((Removing 0 (Carefully (encode_grid (take_out 2 (two_told 1 3 2 1))) 9 5) ∷ Writing 0 7 c Nobody (Setting long) ∷ computes 0 1 100 ∷ Arriving 2 (intact 0) 50 (0 ∷ []) ∷ Arriving 2 (intact 2) 50 (0 ∷ []) ∷ []) ++ hears 2 0 3 2)))))
