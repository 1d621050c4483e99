-- The four runs of FourRuns, computed through every byte. The long line under each statement names all that a run unfolds, from the world down to a byte: a
-- proof opens a definition only by naming it under its own signature, so the line stands with each. Assumes nothing.
use mathlib.Core.Bool.{true}
use mathlib.Core.List.{[], ◌++◌, ◌∷◌}
use mathlib.Core.Path.{◌≡◌, refl}
use Rattle.fields.specs.Blocks.{flat, unblock}
use Rattle.fields.specs.Choice.{keep}
use Rattle.fields.specs.Numbers.{bytes_of, nat_of}
use Rattle.fields.specs.Order.{less_bytes, same_bytes}
use Rattle.fields.specs.Parts.{part, put}
use Rattle.rules.specs.Apply.{apply, apply_each, apply_node, codes, delta_status, fenced_ways, newer_of, outcome, plain_ways, status_of, take_all, takes}
use Rattle.rules.specs.Compute.{all_ops, by_version, compute, cut, delta_for, from_of, key_value_ops, ordered, queue, sooner, stale, stale_nodes, told_of}
use Rattle.rules.specs.Delta.{delta_bytes, follow, max_of, op_bytes, parts_of, read_delta, read_key_value, read_node, read_op, read_ops, read_set_max_version, recs_of, size_of, text_bytes}
use Rattle.rules.specs.Digest.{digest_bytes, digest_of, entry_bytes, entry_of, head_width, read_digest, read_entries, tell, tell_all, write_digest}
use Rattle.rules.specs.Local.{call, gc, local_beat, offer}
use Rattle.rules.specs.Node.{act, decide, find, last_gc_of, offer_of, remove, store, wish, write}
use Rattle.rules.specs.Table.{among, differ, node_of, remove_all, set_node}
use Rattle.plan.specs.Plan.{accepts, compute_plan, delta_by, lines_fit, named, plan_ops}
use Rattle.demand3.specs.Demand3.{NotBegun, holdings, wholes}
use Rattle.demand3.proofs.FourRuns.{all_granted, amid, both_nodes, caught_up, fenced_up, forgotten, held_off, idle, keys, keys_of, lively, one_behind, one_record, pair, pair_at, planned, removed_there, took_late, untold, was_reset, whole}
use Rattle.demand3.specs.World.{after, cut_by, fresh_table, happen, nth_sent, start}

-- the publisher holds one record and one node; one whole exchange brings the follower to (3,1), the second to (3,3), also with beats in it
pub tight : (pair one_record.publisher ≡ 3 ∷ 3 ∷ [])
    × (holdings one_record.publisher ≡ 2)
    × (wholes plain_ways NotBegun (whole ++ lively) one_record ≡ 2)
    × (pair (after plain_ways whole one_record).publisher ≡ 3 ∷ 3 ∷ [])
    × (pair (after plain_ways whole one_record).follower ≡ 3 ∷ 1 ∷ [])
    × (pair (after plain_ways (whole ++ lively) one_record).follower ≡ 3 ∷ 3 ∷ [])
unfolding holdings wholes local_beat offer offer_of after happen start fresh_table call gc node_of set_node remove_all decide wish find act write store remove last_gc_of keep same_bytes less_bytes among write_digest digest_of digest_bytes head_width entry_bytes entry_of read_entries read_digest tell tell_all compute delta_for cut all_ops ordered queue sooner stale_nodes told_of from_of stale by_version key_value_ops size_of delta_bytes op_bytes text_bytes bytes_of nat_of part put flat unblock apply apply_each apply_node delta_status status_of newer_of outcome take_all takes codes read_delta read_ops read_op read_node read_key_value read_set_max_version follow parts_of recs_of max_of
tight = (refl, refl, refl, refl, refl, refl)

-- a planned exchange under an MTU of 100 and one in document 01's order: both count, and the follower is at (3,3)
pub planned-closes : (wholes plain_ways NotBegun planned one_record ≡ 2) × (pair (after plain_ways planned one_record).follower ≡ 3 ∷ 3 ∷ [])
unfolding holdings wholes all_granted after happen start fresh_table call gc node_of set_node remove_all decide wish find act write store remove last_gc_of keep same_bytes less_bytes among write_digest digest_of digest_bytes head_width entry_bytes entry_of read_entries read_digest tell tell_all compute delta_for cut all_ops ordered queue sooner stale_nodes told_of from_of stale by_version key_value_ops size_of delta_bytes op_bytes text_bytes bytes_of nat_of part put flat unblock apply apply_each apply_node delta_status status_of newer_of outcome take_all takes codes read_delta read_ops read_op read_node read_key_value read_set_max_version follow parts_of recs_of max_of compute_plan accepts delta_by lines_fit plan_ops named differ
planned-closes = (refl, refl)

-- two exchanges by the empty plan: nothing is refused, none counts, and the follower stays at (0,0)
pub idle-stays : (all_granted plain_ways idle one_record ≡ true)
    × (wholes plain_ways NotBegun idle one_record ≡ 0)
    × (pair (after plain_ways idle one_record).publisher ≡ 3 ∷ 3 ∷ [])
    × (pair (after plain_ways idle one_record).follower ≡ 0 ∷ 0 ∷ [])
unfolding holdings wholes all_granted after happen start fresh_table call gc node_of set_node remove_all decide wish find act write store remove last_gc_of keep same_bytes less_bytes among write_digest digest_of digest_bytes head_width entry_bytes entry_of read_entries read_digest tell tell_all compute delta_for cut all_ops ordered queue sooner stale_nodes told_of from_of stale by_version key_value_ops size_of delta_bytes op_bytes text_bytes bytes_of nat_of part put flat unblock apply apply_each apply_node delta_status status_of newer_of outcome take_all takes codes read_delta read_ops read_op read_node read_key_value read_set_max_version follow parts_of recs_of max_of compute_plan accepts delta_by lines_fit plan_ops named differ
idle-stays = (refl, refl, refl, refl)

-- four exchanges by a plan that names what the digest left out: nothing is refused, none counts, and node 7 stays at (0,0)
pub untold-stays : (holdings one_behind.publisher ≡ 4)
    × (all_granted plain_ways untold one_behind ≡ true)
    × (wholes plain_ways NotBegun untold one_behind ≡ 0)
    × (pair (after plain_ways untold one_behind).publisher ≡ 0 ∷ 1 ∷ [])
    × (pair (after plain_ways untold one_behind).follower ≡ 0 ∷ 0 ∷ [])
unfolding holdings wholes all_granted after happen start fresh_table call gc node_of set_node remove_all decide wish find act write store remove last_gc_of keep same_bytes less_bytes among write_digest digest_of digest_bytes head_width entry_bytes entry_of read_entries read_digest tell tell_all compute delta_for cut all_ops ordered queue sooner stale_nodes told_of from_of stale by_version key_value_ops size_of delta_bytes op_bytes text_bytes bytes_of nat_of part put flat unblock apply apply_each apply_node delta_status status_of newer_of outcome take_all takes codes read_delta read_ops read_op read_node read_key_value read_set_max_version follow parts_of recs_of max_of compute_plan accepts delta_by lines_fit plan_ops named differ
untold-stays = (refl, refl, refl, refl, refl)

-- the publisher is at (3,3) with b alone; the follower, which had k alone, is reset, has b alone, and is at (3,2)
pub forgets : (keys removed_there.publisher ≡ (2 ∷ 98 ∷ []) ∷ [])
    × (keys removed_there.follower ≡ (1 ∷ 107 ∷ []) ∷ [])
    × (keys forgotten.follower ≡ (2 ∷ 98 ∷ []) ∷ [])
    × (pair forgotten.follower ≡ 3 ∷ 2 ∷ [])
unfolding keys_of after happen start fresh_table call gc node_of set_node remove_all decide wish find act write store remove last_gc_of keep same_bytes less_bytes among write_digest digest_of digest_bytes head_width entry_bytes entry_of read_entries read_digest tell tell_all compute delta_for cut all_ops ordered queue sooner stale_nodes told_of from_of stale by_version key_value_ops size_of delta_bytes op_bytes text_bytes bytes_of nat_of part put flat unblock apply apply_each apply_node delta_status status_of newer_of outcome take_all takes codes read_delta read_ops read_op read_node read_key_value read_set_max_version follow parts_of recs_of max_of
forgets = (refl, refl, refl, refl)

-- both nodes have taken their parts
pub both-nodes : (pair_at 7 both_nodes.follower ≡ 0 ∷ 1 ∷ []) × (pair_at 9 both_nodes.follower ≡ 0 ∷ 2 ∷ [])
unfolding after happen start fresh_table call gc node_of set_node remove_all decide wish find act write store remove last_gc_of keep same_bytes less_bytes among write_digest digest_of digest_bytes head_width entry_bytes entry_of read_entries read_digest tell tell_all compute delta_for cut all_ops ordered queue sooner stale_nodes told_of from_of stale by_version key_value_ops size_of delta_bytes op_bytes text_bytes bytes_of nat_of part put flat unblock apply apply_each apply_node delta_status status_of newer_of outcome take_all takes codes read_delta read_ops read_op read_node read_key_value read_set_max_version follow parts_of recs_of max_of
both-nodes = (refl, refl)

-- the follower at (10,3) takes a delta with last_gc 0, from 3 and max 5, and is at (10,5); at the end both are at (10,10)
pub late : (pair (was_reset plain_ways).publisher ≡ 10 ∷ 10 ∷ [])
    × (pair (was_reset plain_ways).follower ≡ 10 ∷ 3 ∷ [])
    × (pair took_late.follower ≡ 10 ∷ 5 ∷ [])
    × (pair caught_up.publisher ≡ 10 ∷ 10 ∷ [])
    × (pair caught_up.follower ≡ 10 ∷ 10 ∷ [])
unfolding after happen start fresh_table call gc node_of set_node remove_all decide wish find act write store remove last_gc_of keep same_bytes less_bytes among write_digest digest_of digest_bytes head_width entry_bytes entry_of read_entries read_digest tell tell_all compute delta_for cut all_ops ordered queue sooner stale_nodes told_of from_of stale by_version key_value_ops size_of delta_bytes op_bytes text_bytes bytes_of nat_of part put flat unblock apply apply_each apply_node delta_status status_of newer_of outcome take_all takes codes read_delta read_ops read_op read_node read_key_value read_set_max_version follow parts_of recs_of max_of
late = (refl, refl, refl, refl, refl)

-- A fenced follower at (10,3) stays. Two exchanges, among more arrivals, bring it to (10,10), where the publisher is, and to the same keys: a, b and two
-- more, and no k.
pub late-fenced : (pair (was_reset fenced_ways).follower ≡ 10 ∷ 3 ∷ [])
    × (pair held_off.follower ≡ 10 ∷ 3 ∷ [])
    × (wholes fenced_ways NotBegun amid held_off ≡ 2)
    × (pair fenced_up.publisher ≡ 10 ∷ 10 ∷ [])
    × (pair fenced_up.follower ≡ 10 ∷ 10 ∷ [])
    × (keys fenced_up.follower ≡ (1 ∷ 1 ∷ []) ∷ (2 ∷ 2 ∷ []) ∷ (3 ∷ 97 ∷ []) ∷ (4 ∷ 98 ∷ []) ∷ [])
    × (keys fenced_up.publisher ≡ (1 ∷ 1 ∷ []) ∷ (2 ∷ 2 ∷ []) ∷ (3 ∷ 97 ∷ []) ∷ (4 ∷ 98 ∷ []) ∷ [])
unfolding keys_of wholes nth_sent cut_by after happen start fresh_table call gc node_of set_node remove_all decide wish find act write store remove last_gc_of keep same_bytes less_bytes among write_digest digest_of digest_bytes head_width entry_bytes entry_of read_entries read_digest tell tell_all compute delta_for cut all_ops ordered queue sooner stale_nodes told_of from_of stale by_version key_value_ops size_of delta_bytes op_bytes text_bytes bytes_of nat_of part put flat unblock apply apply_each apply_node delta_status status_of newer_of outcome take_all takes codes read_delta read_ops read_op read_node read_key_value read_set_max_version follow parts_of recs_of max_of
late-fenced = (refl, refl, refl, refl, refl, refl, refl)
