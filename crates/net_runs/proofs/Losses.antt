-- More runs of Stories, computed as those of Runs: what comes back for a while though no hub is plain, and what a plain leaf takes from a neighbour that is not steady. Assumes nothing.
use mathlib.Core.List.{[], ◌∷◌}
use mathlib.Core.Path.{◌≡◌, refl}
use Rattle.fields.specs.Blocks.{flat, unblock}
use Rattle.fields.specs.Choice.{all, keep}
use Rattle.fields.specs.Numbers.{bytes_of, nat_of}
use Rattle.fields.specs.Order.{less_bytes, same_bytes}
use Rattle.fields.specs.Parts.{part, put}
use Rattle.rules.specs.Apply.{apply, apply_each, apply_node, codes, delta_status, fenced_ways, guarded_ways, newer_of, outcome, status_of, take_all, takes}
use Rattle.rules.specs.Compute.{all_ops, by_version, compute, cut, delta_for, from_of, key_value_ops, ordered, queue, sooner, stale, stale_nodes, told_of}
use Rattle.rules.specs.Delta.{delta_bytes, follow, max_of, op_bytes, parts_of, read_delta, read_key_value, read_node, read_op, read_ops, read_set_max_version, recs_of, size_of, text_bytes}
use Rattle.rules.specs.Digest.{digest_bytes, entry_bytes, entry_of, head_width, read_digest, read_entries, tell, tell_all}
use Rattle.rules.specs.Local.{add, call, call_as, gc, remove_node}
use Rattle.rules.specs.Node.{act, decide, find, last_gc_of, remove, store, wish, write}
use Rattle.rules.specs.Table.{add_node, among, drop_node, node_of, numbers_of, remove_all, set_node, versions}
use Rattle.demand3.specs.World.{cut_by, nth_sent}
use Rattle.net.specs.Net.{after, begin, happen, placed}
use Rattle.net_runs.proofs.Stories.{alike, back_for_awhile, dead_at_one, heard_again, leaf_plan, leaf_readded, leaf_restored, pair_at, readded, versions_at}

-- hub 1 knows that a was deleted at 2; then it has a of version 1 again, until it hears of version 4, which a fenced hub does not for now
pub goes_back : (versions_at 1 (after (alike guarded_ways) dead_at_one begin) ≡ 2 ∷ [])
    × (pair_at 2 (after (alike guarded_ways) back_for_awhile begin) ≡ 3 ∷ 3 ∷ [])
    × (pair_at 1 (after (alike guarded_ways) back_for_awhile begin) ≡ 3 ∷ 1 ∷ [])
    × (versions_at 1 (after (alike guarded_ways) back_for_awhile begin) ≡ 1 ∷ [])
    × (pair_at 1 (after (alike guarded_ways) heard_again begin) ≡ 3 ∷ 4 ∷ [])
    × (versions_at 1 (after (alike guarded_ways) heard_again begin) ≡ 4 ∷ [])
    × (versions_at 1 (after (alike fenced_ways) heard_again begin) ≡ 1 ∷ [])
unfolding after happen nth_sent cut_by add add_node numbers_of call_as call gc node_of set_node remove_all decide wish find act write store remove last_gc_of keep all same_bytes less_bytes among digest_bytes head_width entry_bytes entry_of read_entries read_digest tell tell_all compute delta_for cut all_ops ordered queue sooner stale_nodes told_of from_of stale by_version key_value_ops size_of delta_bytes op_bytes text_bytes bytes_of nat_of part put flat unblock apply apply_each apply_node delta_status status_of newer_of outcome take_all takes codes read_delta read_ops read_op read_node read_key_value read_set_max_version follow parts_of recs_of max_of versions
goes_back = (refl, refl, refl, refl, refl, refl, refl)

-- hub 1 has b again, which it knew to be deleted
pub readded-shows : (pair_at 1 (after (alike guarded_ways) readded begin) ≡ 0 ∷ 2 ∷ []) × (versions_at 1 (after (alike guarded_ways) readded begin) ≡ 1 ∷ 2 ∷ [])
unfolding after happen nth_sent cut_by add add_node numbers_of call_as call gc node_of set_node remove_all decide wish find act write store remove last_gc_of keep all same_bytes less_bytes among digest_bytes head_width entry_bytes entry_of read_entries read_digest tell tell_all compute delta_for cut all_ops ordered queue sooner stale_nodes told_of from_of stale by_version key_value_ops size_of delta_bytes op_bytes text_bytes bytes_of nat_of part put flat unblock apply apply_each apply_node delta_status status_of newer_of outcome take_all takes codes read_delta read_ops read_op read_node read_key_value read_set_max_version follow parts_of recs_of max_of versions remove_node drop_node placed
readded-shows = (refl, refl)

-- the leaf is at the owner's pair and has b
pub leaf-restored : (pair_at 0 (after (leaf_plan guarded_ways) leaf_restored begin) ≡ 3 ∷ 3 ∷ [])
    × (pair_at 2 (after (leaf_plan guarded_ways) leaf_restored begin) ≡ 3 ∷ 3 ∷ [])
    × (versions_at 0 (after (leaf_plan guarded_ways) leaf_restored begin) ≡ 1 ∷ [])
    × (versions_at 2 (after (leaf_plan guarded_ways) leaf_restored begin) ≡ 1 ∷ 2 ∷ [])
unfolding after happen nth_sent cut_by add add_node numbers_of call_as call gc node_of set_node remove_all decide wish find act write store remove last_gc_of keep all same_bytes less_bytes among digest_bytes head_width entry_bytes entry_of read_entries read_digest tell tell_all compute delta_for cut all_ops ordered queue sooner stale_nodes told_of from_of stale by_version key_value_ops size_of delta_bytes op_bytes text_bytes bytes_of nat_of part put flat unblock apply apply_each apply_node delta_status status_of newer_of outcome take_all takes codes read_delta read_ops read_op read_node read_key_value read_set_max_version follow parts_of recs_of max_of versions remove_node drop_node placed
leaf-restored = (refl, refl, refl, refl)

pub leaf-readded : (pair_at 0 (after (leaf_plan guarded_ways) leaf_readded begin) ≡ 3 ∷ 3 ∷ [])
    × (pair_at 2 (after (leaf_plan guarded_ways) leaf_readded begin) ≡ 3 ∷ 3 ∷ [])
    × (versions_at 0 (after (leaf_plan guarded_ways) leaf_readded begin) ≡ 1 ∷ [])
    × (versions_at 2 (after (leaf_plan guarded_ways) leaf_readded begin) ≡ 1 ∷ 2 ∷ [])
unfolding after happen nth_sent cut_by add add_node numbers_of call_as call gc node_of set_node remove_all decide wish find act write store remove last_gc_of keep all same_bytes less_bytes among digest_bytes head_width entry_bytes entry_of read_entries read_digest tell tell_all compute delta_for cut all_ops ordered queue sooner stale_nodes told_of from_of stale by_version key_value_ops size_of delta_bytes op_bytes text_bytes bytes_of nat_of part put flat unblock apply apply_each apply_node delta_status status_of newer_of outcome take_all takes codes read_delta read_ops read_op read_node read_key_value read_set_max_version follow parts_of recs_of max_of versions remove_node drop_node placed
leaf-readded = (refl, refl, refl, refl)
