-- The runs of Stories, computed through every byte. The long line under each statement names all that a run unfolds. Assumes nothing.
use mathlib.Core.List.{[], ◌∷◌}
use mathlib.Core.Path.{◌≡◌, refl}
use Rattle.fields.specs.Blocks.{all_zero, blocks, fit, flat, unblock, zeros}
use Rattle.fields.specs.Choice.{all, keep}
use Rattle.fields.specs.Numbers.{bytes_of, nat_of}
use Rattle.fields.specs.Order.{less_bytes, same_bytes}
use Rattle.fields.specs.Parts.{part, put}
use Rattle.rules.specs.Apply.{apply, apply_each, apply_node, codes, delta_status, newer_of, outcome, plain_ways, status_of, take_all, takes}
use Rattle.rules.specs.Compute.{all_ops, by_version, compute, cut, delta_for, from_of, key_value_ops, ordered, queue, sooner, stale, stale_nodes, told_of}
use Rattle.rules.specs.Delta.{delta_bytes, follow, max_of, op_bytes, parts_of, read_delta, read_key_value, read_node, read_op, read_ops, read_set_max_version, recs_of, size_of, text_bytes}
use Rattle.rules.specs.Digest.{digest_bytes, entry_bytes, entry_of, head_width, read_digest, read_entries, tell, tell_all}
use Rattle.rules.specs.Local.{add, call, call_as, gc}
use Rattle.rules.specs.Node.{act, decide, find, last_gc_of, remove, store, wish, write}
use Rattle.rules.specs.Table.{add_node, among, node_of, numbers_of, remove_all, rising, set_node, versions}
use Rattle.fields.specs.Widths.{joined}
use Rattle.grid.specs.Grid.{new_grid, no_rows, obeys_grid, of_present, place_of, row_told, rows_obey, take_out, tell_row}
use Rattle.grid.specs.GridLayout.{decode_grid, encode_grid, row_bytes, row_in, rows_bytes, rows_in, valid_grid}
use Rattle.demand3.specs.World.{cut_by, nth_sent}
use Rattle.net.specs.Net.{after, begin, happen, placed}
use Rattle.net_runs.proofs.Stories.{alike, pair_at, versions_at}
use Rattle.net_careful_runs.proofs.Stories.{owner_alone, restored_hubs, taken_out, whoever_there}

-- G is at the owner's max and has b, of which the owner holds the tombstone
pub owner-alone : (pair_at 0 (after (alike plain_ways) owner_alone begin) ≡ 0 ∷ 3 ∷ []) × (pair_at 2 (after (alike plain_ways) owner_alone begin) ≡ 3 ∷ 3 ∷ []) × (versions_at 0 (after (alike plain_ways) owner_alone begin) ≡ 1 ∷ 3 ∷ []) × (versions_at 2 (after (alike plain_ways) owner_alone begin) ≡ 1 ∷ 2 ∷ [])
unfolding after happen nth_sent cut_by add add_node numbers_of call_as call gc node_of set_node remove_all decide wish find act write store remove last_gc_of keep all same_bytes less_bytes among digest_bytes head_width entry_bytes entry_of read_entries read_digest tell tell_all compute delta_for cut all_ops ordered queue sooner stale_nodes told_of from_of stale by_version key_value_ops size_of delta_bytes op_bytes text_bytes bytes_of nat_of part put flat unblock apply apply_each apply_node delta_status status_of newer_of outcome take_all takes codes read_delta read_ops read_op read_node read_key_value read_set_max_version follow parts_of recs_of max_of versions valid_grid obeys_grid encode_grid decode_grid row_bytes row_in rows_bytes rows_in blocks fit zeros joined rising all_zero rows_obey of_present place_of take_out tell_row row_told new_grid no_rows placed
owner-alone = (refl, refl, refl, refl)

-- G is at the owner's pair and has b
pub whoever-there : (pair_at 0 (after (alike plain_ways) whoever_there begin) ≡ 3 ∷ 3 ∷ []) × (pair_at 2 (after (alike plain_ways) whoever_there begin) ≡ 3 ∷ 3 ∷ []) × (versions_at 0 (after (alike plain_ways) whoever_there begin) ≡ 1 ∷ []) × (versions_at 2 (after (alike plain_ways) whoever_there begin) ≡ 1 ∷ 2 ∷ [])
unfolding after happen nth_sent cut_by add add_node numbers_of call_as call gc node_of set_node remove_all decide wish find act write store remove last_gc_of keep all same_bytes less_bytes among digest_bytes head_width entry_bytes entry_of read_entries read_digest tell tell_all compute delta_for cut all_ops ordered queue sooner stale_nodes told_of from_of stale by_version key_value_ops size_of delta_bytes op_bytes text_bytes bytes_of nat_of part put flat unblock apply apply_each apply_node delta_status status_of newer_of outcome take_all takes codes read_delta read_ops read_op read_node read_key_value read_set_max_version follow parts_of recs_of max_of versions valid_grid obeys_grid encode_grid decode_grid row_bytes row_in rows_bytes rows_in blocks fit zeros joined rising all_zero rows_obey of_present place_of take_out tell_row row_told new_grid no_rows placed
whoever-there = (refl, refl, refl, refl)

-- the same
pub restored-hubs : (pair_at 0 (after (alike plain_ways) restored_hubs begin) ≡ 3 ∷ 3 ∷ []) × (pair_at 2 (after (alike plain_ways) restored_hubs begin) ≡ 3 ∷ 3 ∷ []) × (versions_at 0 (after (alike plain_ways) restored_hubs begin) ≡ 1 ∷ []) × (versions_at 2 (after (alike plain_ways) restored_hubs begin) ≡ 1 ∷ 2 ∷ [])
unfolding after happen nth_sent cut_by add add_node numbers_of call_as call gc node_of set_node remove_all decide wish find act write store remove last_gc_of keep all same_bytes less_bytes among digest_bytes head_width entry_bytes entry_of read_entries read_digest tell tell_all compute delta_for cut all_ops ordered queue sooner stale_nodes told_of from_of stale by_version key_value_ops size_of delta_bytes op_bytes text_bytes bytes_of nat_of part put flat unblock apply apply_each apply_node delta_status status_of newer_of outcome take_all takes codes read_delta read_ops read_op read_node read_key_value read_set_max_version follow parts_of recs_of max_of versions valid_grid obeys_grid encode_grid decode_grid row_bytes row_in rows_bytes rows_in blocks fit zeros joined rising all_zero rows_obey of_present place_of take_out tell_row row_told new_grid no_rows placed
restored-hubs = (refl, refl, refl, refl)

-- the same
pub taken_out_lem : (pair_at 0 (after (alike plain_ways) taken_out begin) ≡ 3 ∷ 4 ∷ []) × (pair_at 2 (after (alike plain_ways) taken_out begin) ≡ 3 ∷ 4 ∷ []) × (versions_at 0 (after (alike plain_ways) taken_out begin) ≡ 1 ∷ 4 ∷ []) × (versions_at 2 (after (alike plain_ways) taken_out begin) ≡ 1 ∷ 2 ∷ 4 ∷ [])
unfolding after happen nth_sent cut_by add add_node numbers_of call_as call gc node_of set_node remove_all decide wish find act write store remove last_gc_of keep all same_bytes less_bytes among digest_bytes head_width entry_bytes entry_of read_entries read_digest tell tell_all compute delta_for cut all_ops ordered queue sooner stale_nodes told_of from_of stale by_version key_value_ops size_of delta_bytes op_bytes text_bytes bytes_of nat_of part put flat unblock apply apply_each apply_node delta_status status_of newer_of outcome take_all takes codes read_delta read_ops read_op read_node read_key_value read_set_max_version follow parts_of recs_of max_of versions valid_grid obeys_grid encode_grid decode_grid row_bytes row_in rows_bytes rows_in blocks fit zeros joined rising all_zero rows_obey of_present place_of take_out tell_row row_told new_grid no_rows placed
taken_out_lem = (refl, refl, refl, refl)
