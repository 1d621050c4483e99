-- Four guarded hubs that lock at an MTU of 135, computed as the runs of Runs, and how they come out of it. Assumes nothing.
use mathlib.Core.List.{[], ◌++◌, ◌∷◌}
use mathlib.Core.Path.{◌≡◌, refl}
use Rattle.fields.specs.Blocks.{flat, unblock}
use Rattle.fields.specs.Choice.{all, keep}
use Rattle.fields.specs.Numbers.{bytes_of, nat_of}
use Rattle.fields.specs.Order.{less_bytes, same_bytes}
use Rattle.fields.specs.Parts.{part, put}
use Rattle.rules.specs.Apply.{apply, apply_each, apply_node, codes, delta_status, guarded_ways, newer_of, outcome, status_of, take_all, takes}
use Rattle.rules.specs.Compute.{all_ops, by_version, compute, cut, delta_for, from_of, key_value_ops, ordered, queue, sooner, stale, stale_nodes, told_of}
use Rattle.rules.specs.Delta.{delta_bytes, follow, max_of, op_bytes, parts_of, read_delta, read_key_value, read_node, read_op, read_ops, read_set_max_version, recs_of, size_of, text_bytes}
use Rattle.rules.specs.Digest.{digest_bytes, entry_bytes, entry_of, head_width, read_digest, read_entries, tell, tell_all}
use Rattle.rules.specs.Local.{add, call, call_as, gc}
use Rattle.rules.specs.Node.{act, decide, find, last_gc_of, remove, store, wish, write}
use Rattle.rules.specs.Table.{add_node, among, node_of, numbers_of, remove_all, set_node}
use Rattle.demand3.specs.World.{cut_by, nth_sent}
use Rattle.net.specs.Net.{after, begin, happen}
use Rattle.net_runs.proofs.Stories.{alike, locked_up, pair_at, pair_at_eight, round_locked, unlocking}

-- all others are at (0,3) or (3,3) with both nodes; hub 3 is at (3,1) with both
pub locks : (pair_at 0 (after (alike guarded_ways) locked_up begin) ≡ 0 ∷ 3 ∷ [])
    × (pair_at_eight 0 (after (alike guarded_ways) locked_up begin) ≡ 0 ∷ 3 ∷ [])
    × (pair_at 1 (after (alike guarded_ways) locked_up begin) ≡ 3 ∷ 3 ∷ [])
    × (pair_at_eight 1 (after (alike guarded_ways) locked_up begin) ≡ 0 ∷ 3 ∷ [])
    × (pair_at 2 (after (alike guarded_ways) locked_up begin) ≡ 0 ∷ 3 ∷ [])
    × (pair_at_eight 2 (after (alike guarded_ways) locked_up begin) ≡ 3 ∷ 3 ∷ [])
    × (pair_at 3 (after (alike guarded_ways) locked_up begin) ≡ 3 ∷ 1 ∷ [])
    × (pair_at_eight 3 (after (alike guarded_ways) locked_up begin) ≡ 3 ∷ 1 ∷ [])
unfolding after happen nth_sent cut_by add add_node numbers_of call_as call gc node_of set_node remove_all decide wish find act write store remove last_gc_of keep all same_bytes less_bytes among digest_bytes head_width entry_bytes entry_of read_entries read_digest tell tell_all compute delta_for cut all_ops ordered queue sooner stale_nodes told_of from_of stale by_version key_value_ops size_of delta_bytes op_bytes text_bytes bytes_of nat_of part put flat unblock apply apply_each apply_node delta_status status_of newer_of outcome take_all takes codes read_delta read_ops read_op read_node read_key_value read_set_max_version follow parts_of recs_of max_of
locks = (refl, refl, refl, refl, refl, refl, refl, refl)

-- and it hears them all in vain
pub in-vain : (pair_at 3 (after (alike guarded_ways) (locked_up ++ round_locked) begin) ≡ 3 ∷ 1 ∷ [])
    × (pair_at_eight 3 (after (alike guarded_ways) (locked_up ++ round_locked) begin) ≡ 3 ∷ 1 ∷ [])
unfolding after happen nth_sent cut_by add add_node numbers_of call_as call gc node_of set_node remove_all decide wish find act write store remove last_gc_of keep all same_bytes less_bytes among digest_bytes head_width entry_bytes entry_of read_entries read_digest tell tell_all compute delta_for cut all_ops ordered queue sooner stale_nodes told_of from_of stale by_version key_value_ops size_of delta_bytes op_bytes text_bytes bytes_of nat_of part put flat unblock apply apply_each apply_node delta_status status_of newer_of outcome take_all takes codes read_delta read_ops read_op read_node read_key_value read_set_max_version follow parts_of recs_of max_of
in-vain = (refl, refl)

-- told the largest number as max of the node that is fenced, the others let the other node through
pub unlocks : (pair_at 3 (after (alike guarded_ways) (locked_up ++ unlocking) begin) ≡ 3 ∷ 3 ∷ [])
    × (pair_at_eight 3 (after (alike guarded_ways) (locked_up ++ unlocking) begin) ≡ 3 ∷ 3 ∷ [])
unfolding after happen nth_sent cut_by add add_node numbers_of call_as call gc node_of set_node remove_all decide wish find act write store remove last_gc_of keep all same_bytes less_bytes among digest_bytes head_width entry_bytes entry_of read_entries read_digest tell tell_all compute delta_for cut all_ops ordered queue sooner stale_nodes told_of from_of stale by_version key_value_ops size_of delta_bytes op_bytes text_bytes bytes_of nat_of part put flat unblock apply apply_each apply_node delta_status status_of newer_of outcome take_all takes codes read_delta read_ops read_op read_node read_key_value read_set_max_version follow parts_of recs_of max_of
unlocks = (refl, refl)
