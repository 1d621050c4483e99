-- Deltas that a gateway cut: parts in the other order, one late, one lost; cut twice; computed as the runs of Runs. Assumes nothing.
use mathlib.Core.List.{[], ◌∷◌}
use mathlib.Core.Path.{◌≡◌, refl}
use Rattle.fields.specs.Blocks.{flat, unblock}
use Rattle.fields.specs.Choice.{all, keep}
use Rattle.fields.specs.Numbers.{bytes_of, nat_of}
use Rattle.fields.specs.Order.{less_bytes, same_bytes}
use Rattle.fields.specs.Parts.{part, put}
use Rattle.rules.specs.Apply.{apply, apply_each, apply_node, codes, delta_status, fenced_ways, guarded_ways, newer_of, outcome, plain_ways, status_of, take_all, takes}
use Rattle.rules.specs.Compute.{all_ops, by_version, compute, cut, delta_for, from_of, key_value_ops, ordered, queue, sooner, stale, stale_nodes, told_of}
use Rattle.rules.specs.Delta.{delta_bytes, follow, max_of, op_bytes, parts_of, read_delta, read_key_value, read_node, read_op, read_ops, read_set_max_version, recs_of, size_of, text_bytes}
use Rattle.rules.specs.Digest.{digest_bytes, entry_bytes, entry_of, head_width, read_digest, read_entries, tell, tell_all}
use Rattle.rules.specs.Local.{add, call, call_as, gc}
use Rattle.rules.specs.Node.{act, decide, find, last_gc_of, remove, store, wish, write}
use Rattle.rules.specs.Table.{add_node, among, node_of, numbers_of, remove_all, set_node, versions}
use Rattle.delta_split.specs.Split.{node_tags}
use Rattle.demand3.proofs.EachNode.{node_at}
use Rattle.demand3.specs.World.{cut_by, nth_sent}
use Rattle.net.specs.Net.{after, begin, happen}
use Rattle.net_runs.proofs.Stories.{alike, cut_elsewhere, first_late, middle_alone, pair_at, pair_at_eight, second_first, versions_at}

-- node 8 is there, and of node 7 nothing yet; cut where no Node operation starts, nothing comes
pub second-first : (pair_at_eight 1 (after (alike guarded_ways) second_first begin) ≡ 0 ∷ 3 ∷ [])
    × (pair_at 1 (after (alike guarded_ways) second_first begin) ≡ 0 ∷ 0 ∷ [])
    × (pair_at_eight 1 (after (alike guarded_ways) cut_elsewhere begin) ≡ 0 ∷ 0 ∷ [])
unfolding after happen nth_sent cut_by add add_node numbers_of call_as call gc node_of set_node remove_all decide wish find act write store remove last_gc_of keep all same_bytes less_bytes among digest_bytes head_width entry_bytes entry_of read_entries read_digest tell tell_all compute delta_for cut all_ops ordered queue sooner stale_nodes told_of from_of stale by_version key_value_ops size_of delta_bytes op_bytes text_bytes bytes_of nat_of part put flat unblock apply apply_each apply_node delta_status status_of newer_of outcome take_all takes codes read_delta read_ops read_op read_node read_key_value read_set_max_version follow parts_of recs_of max_of versions node_tags
second-first = (refl, refl, refl)

-- fenced and guarded, hub 1 is fenced against the late part and b stays dead; plain, b is back. At hub 2 the part of node 7 is lost, and that of node 8 stands.
pub first-late : (pair_at 1 (after (alike guarded_ways) first_late begin) ≡ 3 ∷ 1 ∷ [])
    × (versions_at 1 (after (alike guarded_ways) first_late begin) ≡ 1 ∷ [])
    × (pair_at_eight 1 (after (alike guarded_ways) first_late begin) ≡ 0 ∷ 3 ∷ [])
    × (versions_at 1 (after (alike fenced_ways) first_late begin) ≡ 1 ∷ [])
    × (versions_at 1 (after (alike plain_ways) first_late begin) ≡ 1 ∷ 2 ∷ [])
    × (pair_at 2 (after (alike guarded_ways) first_late begin) ≡ 0 ∷ 0 ∷ [])
    × (pair_at_eight 2 (after (alike guarded_ways) first_late begin) ≡ 0 ∷ 3 ∷ [])
unfolding after happen nth_sent cut_by add add_node numbers_of call_as call gc node_of set_node remove_all decide wish find act write store remove last_gc_of keep all same_bytes less_bytes among digest_bytes head_width entry_bytes entry_of read_entries read_digest tell tell_all compute delta_for cut all_ops ordered queue sooner stale_nodes told_of from_of stale by_version key_value_ops size_of delta_bytes op_bytes text_bytes bytes_of nat_of part put flat unblock apply apply_each apply_node delta_status status_of newer_of outcome take_all takes codes read_delta read_ops read_op read_node read_key_value read_set_max_version follow parts_of recs_of max_of versions node_tags
first-late = (refl, refl, refl, refl, refl, refl, refl)

-- cut twice: the middle node of three is there, and nothing of the others
pub middle-alone : ((node_at 7 ((after (alike guarded_ways) middle_alone begin).hubs 1)).max ≡ 0)
    × ((node_at 8 ((after (alike guarded_ways) middle_alone begin).hubs 1)).max ≡ 1)
    × ((node_at 9 ((after (alike guarded_ways) middle_alone begin).hubs 1)).max ≡ 0)
unfolding after happen nth_sent cut_by add add_node numbers_of call_as call gc node_of set_node remove_all decide wish find act write store remove last_gc_of keep all same_bytes less_bytes among digest_bytes head_width entry_bytes entry_of read_entries read_digest tell tell_all compute delta_for cut all_ops ordered queue sooner stale_nodes told_of from_of stale by_version key_value_ops size_of delta_bytes op_bytes text_bytes bytes_of nat_of part put flat unblock apply apply_each apply_node delta_status status_of newer_of outcome take_all takes codes read_delta read_ops read_op read_node read_key_value read_set_max_version follow parts_of recs_of max_of versions node_tags
middle-alone = (refl, refl, refl)
