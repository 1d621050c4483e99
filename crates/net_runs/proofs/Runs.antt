-- The runs of Stories, computed through every byte. The long line under each statement names all that a run unfolds (demand3/proofs/Runs). Assumes nothing.
use mathlib.Core.List.{[], ◌++◌, ◌∷◌}
use mathlib.Core.Path.{◌≡◌, refl}
use Rattle.fields.specs.Blocks.{flat, unblock}
use Rattle.fields.specs.Choice.{all, keep}
use Rattle.fields.specs.Numbers.{bytes_of, nat_of}
use Rattle.fields.specs.Order.{less_bytes, same_bytes}
use Rattle.fields.specs.Parts.{part, put}
use Rattle.rules.specs.Apply.{apply, apply_each, apply_node, codes, delta_status, fenced_ways, guarded_ways, newer_of, outcome, plain_ways, status_of, take_all, takes}
use Rattle.rules.specs.Compute.{all_ops, by_version, compute, cut, delta_for, from_of, key_value_ops, ordered, queue, sooner, stale, stale_nodes, told_of}
use Rattle.rules.specs.Delta.{delta_bytes, follow, max_of, op_bytes, parts_of, read_delta, read_key_value, read_node, read_op, read_ops, read_set_max_version, recs_of, size_of, text_bytes}
use Rattle.rules.specs.Digest.{digest_bytes, entry_bytes, entry_of, head_width, read_digest, read_entries, tell, tell_all}
use Rattle.rules.specs.Local.{add, call, call_as, gc}
use Rattle.rules.specs.Node.{act, decide, find, last_gc_of, remove, store, wish, write}
use Rattle.rules.specs.Table.{add_node, among, node_of, numbers_of, remove_all, set_node, versions}
use Rattle.demand3.specs.World.{cut_by, nth_sent}
use Rattle.net.specs.Net.{after, begin, happen}
use Rattle.net_runs.proofs.Stories.{alike, in_reset, line, lost, pair_at, poison, relay, round_of, told_twice, triangle, triangle_held_off, versions_at}

-- plain: hub 2 has b again, and is at the owner's pair
pub triangle-plain : (pair_at 2 (after (alike plain_ways) told_twice begin) ≡ 3 ∷ 2 ∷ [])
    × (pair_at 0 (after (alike plain_ways) triangle begin) ≡ 3 ∷ 3 ∷ [])
    × (pair_at 2 (after (alike plain_ways) triangle begin) ≡ 3 ∷ 3 ∷ [])
    × (versions_at 0 (after (alike plain_ways) triangle begin) ≡ 1 ∷ [])
    × (versions_at 2 (after (alike plain_ways) triangle begin) ≡ 1 ∷ 2 ∷ [])
unfolding after happen nth_sent cut_by add add_node numbers_of call_as call gc node_of set_node remove_all decide wish find act write store remove last_gc_of keep all same_bytes less_bytes among digest_bytes head_width entry_bytes entry_of read_entries read_digest tell tell_all compute delta_for cut all_ops ordered queue sooner stale_nodes told_of from_of stale by_version key_value_ops size_of delta_bytes op_bytes text_bytes bytes_of nat_of part put flat unblock apply apply_each apply_node delta_status status_of newer_of outcome take_all takes codes read_delta read_ops read_op read_node read_key_value read_set_max_version follow parts_of recs_of max_of versions
triangle-plain = (refl, refl, refl, refl, refl)

-- fenced or guarded: it stays at (3,1), and is then at (3,3) with a alone
pub triangle-fenced : (pair_at 2 (after (alike fenced_ways) told_twice begin) ≡ 3 ∷ 1 ∷ [])
    × (pair_at 2 (after (alike fenced_ways) triangle_held_off begin) ≡ 3 ∷ 3 ∷ [])
    × (versions_at 2 (after (alike fenced_ways) triangle_held_off begin) ≡ 1 ∷ [])
unfolding after happen nth_sent cut_by add add_node numbers_of call_as call gc node_of set_node remove_all decide wish find act write store remove last_gc_of keep all same_bytes less_bytes among digest_bytes head_width entry_bytes entry_of read_entries read_digest tell tell_all compute delta_for cut all_ops ordered queue sooner stale_nodes told_of from_of stale by_version key_value_ops size_of delta_bytes op_bytes text_bytes bytes_of nat_of part put flat unblock apply apply_each apply_node delta_status status_of newer_of outcome take_all takes codes read_delta read_ops read_op read_node read_key_value read_set_max_version follow parts_of recs_of max_of versions
triangle-fenced = (refl, refl, refl)

pub triangle-guarded : (pair_at 2 (after (alike guarded_ways) told_twice begin) ≡ 3 ∷ 1 ∷ [])
    × (pair_at 2 (after (alike guarded_ways) triangle_held_off begin) ≡ 3 ∷ 3 ∷ [])
    × (versions_at 2 (after (alike guarded_ways) triangle_held_off begin) ≡ 1 ∷ [])
unfolding after happen nth_sent cut_by add add_node numbers_of call_as call gc node_of set_node remove_all decide wish find act write store remove last_gc_of keep all same_bytes less_bytes among digest_bytes head_width entry_bytes entry_of read_entries read_digest tell tell_all compute delta_for cut all_ops ordered queue sooner stale_nodes told_of from_of stale by_version key_value_ops size_of delta_bytes op_bytes text_bytes bytes_of nat_of part put flat unblock apply apply_each apply_node delta_status status_of newer_of outcome take_all takes codes read_delta read_ops read_op read_node read_key_value read_set_max_version follow parts_of recs_of max_of versions
triangle-guarded = (refl, refl, refl)

-- plain: hub 1, between the two, has b again
pub line_plain : (pair_at 0 (after (alike plain_ways) line begin) ≡ 3 ∷ 3 ∷ [])
    × (pair_at 1 (after (alike plain_ways) line begin) ≡ 3 ∷ 3 ∷ [])
    × (versions_at 0 (after (alike plain_ways) line begin) ≡ 1 ∷ [])
    × (versions_at 1 (after (alike plain_ways) line begin) ≡ 1 ∷ 2 ∷ [])
unfolding after happen nth_sent cut_by add add_node numbers_of call_as call gc node_of set_node remove_all decide wish find act write store remove last_gc_of keep all same_bytes less_bytes among digest_bytes head_width entry_bytes entry_of read_entries read_digest tell tell_all compute delta_for cut all_ops ordered queue sooner stale_nodes told_of from_of stale by_version key_value_ops size_of delta_bytes op_bytes text_bytes bytes_of nat_of part put flat unblock apply apply_each apply_node delta_status status_of newer_of outcome take_all takes codes read_delta read_ops read_op read_node read_key_value read_set_max_version follow parts_of recs_of max_of versions
line_plain = (refl, refl, refl, refl)

-- hub 3 is fenced, or guarded, and hears the plain hub alone: it is at the owner's pair and has b
pub poison-fenced : (pair_at 0 (after (relay fenced_ways) poison begin) ≡ 3 ∷ 3 ∷ [])
    × (pair_at 3 (after (relay fenced_ways) poison begin) ≡ 3 ∷ 3 ∷ [])
    × (versions_at 0 (after (relay fenced_ways) poison begin) ≡ 1 ∷ [])
    × (versions_at 3 (after (relay fenced_ways) poison begin) ≡ 1 ∷ 2 ∷ [])
unfolding after happen nth_sent cut_by add add_node numbers_of call_as call gc node_of set_node remove_all decide wish find act write store remove last_gc_of keep all same_bytes less_bytes among digest_bytes head_width entry_bytes entry_of read_entries read_digest tell tell_all compute delta_for cut all_ops ordered queue sooner stale_nodes told_of from_of stale by_version key_value_ops size_of delta_bytes op_bytes text_bytes bytes_of nat_of part put flat unblock apply apply_each apply_node delta_status status_of newer_of outcome take_all takes codes read_delta read_ops read_op read_node read_key_value read_set_max_version follow parts_of recs_of max_of versions
poison-fenced = (refl, refl, refl, refl)

pub poison-guarded : (pair_at 0 (after (relay guarded_ways) poison begin) ≡ 3 ∷ 3 ∷ [])
    × (pair_at 3 (after (relay guarded_ways) poison begin) ≡ 3 ∷ 3 ∷ [])
    × (versions_at 0 (after (relay guarded_ways) poison begin) ≡ 1 ∷ [])
    × (versions_at 3 (after (relay guarded_ways) poison begin) ≡ 1 ∷ 2 ∷ [])
unfolding after happen nth_sent cut_by add add_node numbers_of call_as call gc node_of set_node remove_all decide wish find act write store remove last_gc_of keep all same_bytes less_bytes among digest_bytes head_width entry_bytes entry_of read_entries read_digest tell tell_all compute delta_for cut all_ops ordered queue sooner stale_nodes told_of from_of stale by_version key_value_ops size_of delta_bytes op_bytes text_bytes bytes_of nat_of part put flat unblock apply apply_each apply_node delta_status status_of newer_of outcome take_all takes codes read_delta read_ops read_op read_node read_key_value read_set_max_version follow parts_of recs_of max_of versions
poison-guarded = (refl, refl, refl, refl)

-- the owner and hub 1 are at the same pair, in any mode, and have different records at 2
pub lost-fenced : (pair_at 0 (lost fenced_ways) ≡ 0 ∷ 2 ∷ []) × (pair_at 1 (lost fenced_ways) ≡ 0 ∷ 2 ∷ [])
unfolding after happen nth_sent cut_by add add_node numbers_of call_as call gc node_of set_node remove_all decide wish find act write store remove last_gc_of keep all same_bytes less_bytes among digest_bytes head_width entry_bytes entry_of read_entries read_digest tell tell_all compute delta_for cut all_ops ordered queue sooner stale_nodes told_of from_of stale by_version key_value_ops size_of delta_bytes op_bytes text_bytes bytes_of nat_of part put flat unblock apply apply_each apply_node delta_status status_of newer_of outcome take_all takes codes read_delta read_ops read_op read_node read_key_value read_set_max_version follow parts_of recs_of max_of versions
lost-fenced = (refl, refl)

pub lost-guarded : (pair_at 0 (lost guarded_ways) ≡ 0 ∷ 2 ∷ []) × (pair_at 1 (lost guarded_ways) ≡ 0 ∷ 2 ∷ [])
unfolding after happen nth_sent cut_by add add_node numbers_of call_as call gc node_of set_node remove_all decide wish find act write store remove last_gc_of keep all same_bytes less_bytes among digest_bytes head_width entry_bytes entry_of read_entries read_digest tell tell_all compute delta_for cut all_ops ordered queue sooner stale_nodes told_of from_of stale by_version key_value_ops size_of delta_bytes op_bytes text_bytes bytes_of nat_of part put flat unblock apply apply_each apply_node delta_status status_of newer_of outcome take_all takes codes read_delta read_ops read_op read_node read_key_value read_set_max_version follow parts_of recs_of max_of versions
lost-guarded = (refl, refl)

-- round after round hub 2 is left at (2,1) by the fence; guarded it is at (2,2), without b
pub left_behind : (pair_at 0 (after (alike fenced_ways) in_reset begin) ≡ 2 ∷ 2 ∷ [])
    × (pair_at 1 (after (alike fenced_ways) in_reset begin) ≡ 0 ∷ 2 ∷ [])
    × (pair_at 2 (after (alike fenced_ways) in_reset begin) ≡ 2 ∷ 1 ∷ [])
    × ((after (alike fenced_ways) (in_reset ++ round_of) begin).hubs 1 ≡ (after (alike fenced_ways) in_reset begin).hubs 1)
    × ((after (alike fenced_ways) (in_reset ++ round_of) begin).hubs 2 ≡ (after (alike fenced_ways) in_reset begin).hubs 2)
    × (pair_at 2 (after (alike guarded_ways) (in_reset ++ round_of) begin) ≡ 2 ∷ 2 ∷ [])
    × (versions_at 2 (after (alike guarded_ways) (in_reset ++ round_of) begin) ≡ 1 ∷ [])
unfolding after happen nth_sent cut_by add add_node numbers_of call_as call gc node_of set_node remove_all decide wish find act write store remove last_gc_of keep all same_bytes less_bytes among digest_bytes head_width entry_bytes entry_of read_entries read_digest tell tell_all compute delta_for cut all_ops ordered queue sooner stale_nodes told_of from_of stale by_version key_value_ops size_of delta_bytes op_bytes text_bytes bytes_of nat_of part put flat unblock apply apply_each apply_node delta_status status_of newer_of outcome take_all takes codes read_delta read_ops read_op read_node read_key_value read_set_max_version follow parts_of recs_of max_of versions
left_behind = (refl, refl, refl, refl, refl, refl, refl)
