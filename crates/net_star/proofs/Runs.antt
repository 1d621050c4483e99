-- Evidence, and no part of a promise: short runs at an MTU of 135, computed through every byte. In hub 0's star a follower has all after an exchange for each record. Where hub 0 does not
-- exclude what it follows, and where the follower once heard another hub, it gets nothing more. Assumes nothing.
use Prim.Native.Nat.{ℕ}
use mathlib.Core.List.{List, [], ◌++◌, ◌∷◌}
use mathlib.Core.Path.{◌≡◌, refl}
use lib.Dec.{eqb}
use lib.ListN.{replicate}
use Rattle.fields.specs.Blocks.{flat, unblock}
use Rattle.fields.specs.Choice.{all, keep, pick}
use Rattle.fields.specs.Numbers.{bytes_of, nat_of}
use Rattle.fields.specs.Order.{less_bytes, same_bytes}
use Rattle.fields.specs.Parts.{part, put}
use Rattle.rules.specs.Apply.{apply, apply_each, apply_node, codes, delta_status, guarded_ways, newer_of, outcome, status_of, take_all, takes}
use Rattle.rules.specs.Compute.{all_ops, by_version, compute, cut, delta_for, from_of, key_value_ops, ordered, queue, sooner, stale, stale_nodes, told_of}
use Rattle.rules.specs.Delta.{delta_bytes, follow, max_of, op_bytes, parts_of, read_delta, read_key_value, read_node, read_op, read_ops, read_set_max_version, recs_of, size_of, text_bytes}
use Rattle.rules.specs.Digest.{NodeDigest, digest_bytes, entry_bytes, entry_of, head_width, read_digest, read_entries, tell, tell_all}
use Rattle.rules.specs.Local.{add, call, call_as, gc}
use Rattle.rules.specs.Node.{KeyValue, Rec, Setting, SettingTtl, act, beats, decide, find, last_gc_of, remove, store, wish, write}
use Rattle.rules.specs.Table.{Table, add_node, among, node_of, numbers_of, remove_all, set_node, versions}
use Rattle.rules.specs.declared.Party.TheVariants.{Nobody}
use Rattle.rules.specs.declared.Profile.TheVariants.{Free}
use Rattle.rules.specs.declared.Status.{Status}
use Rattle.rules.specs.declared.Status.TheVariants.{Set, Ttl}
use Rattle.demand3.specs.Forms.{ByClock, InLine}
use Rattle.demand3.specs.World.{cut_by, intact, nth_sent}
use Rattle.net.specs.Net.{Adding, Arriving, Computing, Event, Plan, Removing, Writing, after, begin, happen}
use Rattle.net_runs.proofs.Stories.{a, b, c, pair_at, told}

-- hub 2 owns node 3, and hub 0 all others; every hub is guarded
abbrev pub plan : Plan
plan = record { owner = λ i. pick (eqb i 3) 2 0; ways = λ x. guarded_ways; profiles = λ x. Free }

-- so large that one record goes into a delta of 135 bytes
abbrev large : List ℕ
large = replicate 64 49

abbrev sets : (hub node : ℕ) (key : List ℕ) → Event
sets x i k = Writing x i k Nobody (Setting large)

-- hub x hears hub y of this digest, with these nodes excluded; y's table has so many nodes as there are ties
abbrev hears_of : (mtu x y : ℕ) (digest : List NodeDigest) (excluded ties : List ℕ) → List Event
hears_of mtu x y ds excluded ties = Computing y 0 (digest_bytes 0 ds) excluded (InLine ties) mtu 0 (replicate 300 0) ∷ Arriving x (intact 0) 50 (0 ∷ 0 ∷ []) ∷ []

abbrev hears : (mtu x y : ℕ) (last_gc max : ℕ) → List Event
hears mtu x y g m = hears_of mtu x y (told g m) [] (0 ∷ [])

-- ---- a node that is not its own

-- Hub 2 sets a of node 3, and hub 0 hears it; hub 0 sets a and b of node 7. Hub 1 follows node 7 alone.
abbrev pub relaying : List Event
relaying =
    Adding 2 3
    ∷ Adding 0 3
    ∷ Adding 0 7
    ∷ Adding 1 7
    ∷ sets 2 3 a
    ∷ (hears_of 300 0 2 (record { number = 3; heartbeat = beats 0; last_gc = 0; max = 0 } ∷ []) [] (0 ∷ [])
    ++ (sets 0 7 a
    ∷ sets 0 7 b
    ∷ []))

-- hub 1 hears hub 0, with these excluded
abbrev asks : (excluded : List ℕ) (max : ℕ) → List Event
asks excluded m = hears_of 135 1 0 (told 0 m) excluded (0 ∷ 0 ∷ [])

-- without node 3 a record comes with each exchange
pub goes_over : (pair_at 1 (after plan (relaying ++ asks (3 ∷ []) 0) begin) ≡ 0 ∷ 1 ∷ []) × (pair_at 1 (after plan (relaying ++ (asks (3 ∷ []) 0 ++ asks (3 ∷ []) 1)) begin) ≡ 0 ∷ 2 ∷ [])
unfolding after happen nth_sent cut_by add add_node numbers_of call_as call gc node_of set_node remove_all decide wish find act write store remove last_gc_of keep all same_bytes less_bytes among digest_bytes head_width entry_bytes entry_of read_entries read_digest tell tell_all compute delta_for cut all_ops ordered queue sooner stale_nodes told_of from_of stale by_version key_value_ops size_of delta_bytes op_bytes text_bytes bytes_of nat_of part put flat unblock apply apply_each apply_node delta_status status_of newer_of outcome take_all takes codes read_delta read_ops read_op read_node read_key_value read_set_max_version follow parts_of recs_of max_of versions
goes_over = (refl, refl)

-- with node 3, which goes first, nothing comes, and so it goes on
pub others-first : (pair_at 1 (after plan (relaying ++ asks [] 0) begin) ≡ 0 ∷ 0 ∷ []) × ((after plan (asks [] 0) (after plan relaying begin)).hubs 1 ≡ (after plan relaying begin).hubs 1)
unfolding after happen nth_sent cut_by add add_node numbers_of call_as call gc node_of set_node remove_all decide wish find act write store remove last_gc_of keep all same_bytes less_bytes among digest_bytes head_width entry_bytes entry_of read_entries read_digest tell tell_all compute delta_for cut all_ops ordered queue sooner stale_nodes told_of from_of stale by_version key_value_ops size_of delta_bytes op_bytes text_bytes bytes_of nat_of part put flat unblock apply apply_each apply_node delta_status status_of newer_of outcome take_all takes codes read_delta read_ops read_op read_node read_key_value read_set_max_version follow parts_of recs_of max_of versions
others-first = (refl, refl)

-- ---- a follower that heard another hub

-- Hub 0 sets a and b of node 7, and gives c a TTL. Hub 2 hears it and removes c: (3,3). Hub 1 hears hub 2, cut behind a: (3,1).
abbrev heard_another : List Event
heard_another =
    Adding 0 7
    ∷ Adding 1 7
    ∷ Adding 2 7
    ∷ sets 0 7 a
    ∷ sets 0 7 b
    ∷ Writing 0 7 c Nobody (SettingTtl large 0)
    ∷ (hears 300 2 0 0 0
    ++ (Removing 2 (ByClock 60 5)
    ∷ hears 135 1 2 0 0))

abbrev record_of : (key : List ℕ) (version : ℕ) (status : Status) → Rec
record_of k v s = record { kv = record { key = k; value = large; version = v; status = s }; start = 0 }

-- hub 0's table, and hub 1's
abbrev ours : Table
ours = record { number = 7; node = record { heartbeat = beats 0; max = 3; last_gc = 0; recs = record_of a 1 Set ∷ record_of b 2 Set ∷ record_of c 3 Ttl ∷ [] } } ∷ []

abbrev theirs : Table
theirs = record { number = 7; node = record { heartbeat = beats 0; max = 1; last_gc = 3; recs = record_of a 1 Set ∷ [] } } ∷ []

pub comes-to : ((after plan heard_another begin).hubs 0 ≡ ours) × ((after plan heard_another begin).hubs 1 ≡ theirs)
unfolding after happen nth_sent cut_by add add_node numbers_of call_as call gc node_of set_node remove_all decide wish find act write store remove last_gc_of keep all same_bytes less_bytes among digest_bytes head_width entry_bytes entry_of read_entries read_digest tell tell_all compute delta_for cut all_ops ordered queue sooner stale_nodes told_of from_of stale by_version key_value_ops size_of delta_bytes op_bytes text_bytes bytes_of nat_of part put flat unblock apply apply_each apply_node delta_status status_of newer_of outcome take_all takes codes read_delta read_ops read_op read_node read_key_value read_set_max_version follow parts_of recs_of max_of versions
comes-to = (refl, refl)

-- From then on it hears hub 0 alone, which sends b: version 2 and last_gc 0 are below 3, so it is Fenced. Both tables stay as they are, whatever else there is, and so it goes on.
pub stays-behind : (others : ℕ → Table) (given : ℕ → List KeyValue) (sent : List (List ℕ)) (saved : ℕ → List Table)
    → ((after plan (hears 135 1 0 3 1) (record { hubs = λ y. pick (eqb y 0) ours (pick (eqb y 1) theirs (others y)); given = given; sent = sent; saved = saved })).hubs 0 ≡ ours)
    × ((after plan (hears 135 1 0 3 1) (record { hubs = λ y. pick (eqb y 0) ours (pick (eqb y 1) theirs (others y)); given = given; sent = sent; saved = saved })).hubs 1 ≡ theirs)
unfolding after happen nth_sent cut_by add add_node numbers_of call_as call gc node_of set_node remove_all decide wish find act write store remove last_gc_of keep all same_bytes less_bytes among digest_bytes head_width entry_bytes entry_of read_entries read_digest tell tell_all compute delta_for cut all_ops ordered queue sooner stale_nodes told_of from_of stale by_version key_value_ops size_of delta_bytes op_bytes text_bytes bytes_of nat_of part put flat unblock apply apply_each apply_node delta_status status_of newer_of outcome take_all takes codes read_delta read_ops read_op read_node read_key_value read_set_max_version follow parts_of recs_of max_of versions
stays-behind others given sent saved = (refl, refl)

-- nothing cut, it has all at once
pub not-cut : pair_at 1 (after plan (heard_another ++ hears 300 1 0 3 1) begin) ≡ 3 ∷ 3 ∷ []
unfolding after happen nth_sent cut_by add add_node numbers_of call_as call gc node_of set_node remove_all decide wish find act write store remove last_gc_of keep all same_bytes less_bytes among digest_bytes head_width entry_bytes entry_of read_entries read_digest tell tell_all compute delta_for cut all_ops ordered queue sooner stale_nodes told_of from_of stale by_version key_value_ops size_of delta_bytes op_bytes text_bytes bytes_of nat_of part put flat unblock apply apply_each apply_node delta_status status_of newer_of outcome take_all takes codes read_delta read_ops read_op read_node read_key_value read_set_max_version follow parts_of recs_of max_of versions
not-cut = refl
