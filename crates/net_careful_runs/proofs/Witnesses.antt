-- What the runs show: each condition of a careful net is needed. In each run every hub is plain, and at its end hub 2 is at the owner's max and holds what the owner
-- deleted, so that the claims fail. Assumes nothing.
use mathlib.Core.List.{List, [], ◌∷◌}
use mathlib.Core.Path.{refl}
use native.Mathlib.Omega.{arith}
use Rattle.fields.specs.Blocks.{all_zero, blocks, fit, flat, unblock, zeros}
use Rattle.fields.specs.Choice.{all, here, keep, later}
use Rattle.fields.specs.Numbers.{bytes_of, nat_of}
use Rattle.fields.specs.Order.{less_bytes, same_bytes}
use Rattle.fields.specs.Parts.{part, put}
use Rattle.rules.specs.Apply.{apply, apply_each, apply_node, codes, delta_status, newer_of, outcome, plain_ways, status_of, take_all, takes}
use Rattle.rules.specs.Compute.{all_ops, by_version, compute, cut, delta_for, from_of, key_value_ops, ordered, queue, sooner, stale, stale_nodes, told_of}
use Rattle.rules.specs.Delta.{delta_bytes, follow, max_of, op_bytes, parts_of, read_delta, read_key_value, read_node, read_op, read_ops, read_set_max_version, recs_of, size_of, text_bytes}
use Rattle.rules.specs.Digest.{digest_bytes, entry_bytes, entry_of, head_width, read_digest, read_entries, tell, tell_all}
use Rattle.rules.specs.Local.{add, call, call_as, gc}
use Rattle.rules.specs.Node.{act, decide, find, last_gc_of, remove, store, wish, write}
use Rattle.rules.specs.Table.{add_node, among, node_of, numbers_of, remove_all, rising, set_node, versions}
use Rattle.fields.specs.Widths.{joined}
use Rattle.grid.specs.Grid.{new_grid, no_rows, obeys_grid, of_present, place_of, row_told, rows_obey, take_out, tell_row}
use Rattle.grid.specs.GridLayout.{decode_grid, encode_grid, row_bytes, row_in, rows_bytes, rows_in, valid_grid}
use Rattle.demand3.specs.World.{cut_by, nth_sent}
use Rattle.net.specs.Net.{Event, Net, NetSound, after, begin, happen, placed}
use Rattle.net_runs.proofs.Stories.{alike, dead}
use Rattle.net_runs.proofs.Witnesses.{There, failed, gone_of}
use Rattle.net_careful_runs.proofs.Runs.{owner-alone, restored-hubs, taken_out_lem, whoever-there}
use Rattle.net_careful_runs.proofs.Stories.{owner_alone, restored_hubs, taken_out, whoever_there}

abbrev ends : List Event → Net
ends es = after (alike plain_ways) es begin

there-owner-alone : There (ends owner_alone) 2
unfolding after happen nth_sent cut_by add add_node numbers_of call_as call gc node_of set_node remove_all decide wish find act write store remove last_gc_of keep all same_bytes less_bytes among digest_bytes head_width entry_bytes entry_of read_entries read_digest tell tell_all compute delta_for cut all_ops ordered queue sooner stale_nodes told_of from_of stale by_version key_value_ops size_of delta_bytes op_bytes text_bytes bytes_of nat_of part put flat unblock apply apply_each apply_node delta_status status_of newer_of outcome take_all takes codes read_delta read_ops read_op read_node read_key_value read_set_max_version follow parts_of recs_of max_of versions valid_grid obeys_grid encode_grid decode_grid row_bytes row_in rows_bytes rows_in blocks fit zeros joined rising all_zero rows_obey of_present place_of take_out tell_row row_told new_grid no_rows placed
there-owner-alone = (record { kv = dead; start = 0 }, later (here refl), refl)

-- every hub must be careful, and not the owner alone
pub owner-alone-fails : NetSound (alike plain_ways) (ends owner_alone) → ⊥
unfolding among
owner-alone-fails s = failed (λ x. plain_ways) (ends owner_alone) 2 0 3 3 (omega arith) owner-alone.0 owner-alone.1 there-owner-alone (gone_of (1 ∷ 3 ∷ []) refl ((ends owner_alone).hubs 0) owner-alone.2) s

there-whoever-there : There (ends whoever_there) 2
unfolding after happen nth_sent cut_by add add_node numbers_of call_as call gc node_of set_node remove_all decide wish find act write store remove last_gc_of keep all same_bytes less_bytes among digest_bytes head_width entry_bytes entry_of read_entries read_digest tell tell_all compute delta_for cut all_ops ordered queue sooner stale_nodes told_of from_of stale by_version key_value_ops size_of delta_bytes op_bytes text_bytes bytes_of nat_of part put flat unblock apply apply_each apply_node delta_status status_of newer_of outcome take_all takes codes read_delta read_ops read_op read_node read_key_value read_set_max_version follow parts_of recs_of max_of versions valid_grid obeys_grid encode_grid decode_grid row_bytes row_in rows_bytes rows_in blocks fit zeros joined rising all_zero rows_obey of_present place_of take_out tell_row row_told new_grid no_rows placed
there-whoever-there = (record { kv = dead; start = 0 }, later (here refl), refl)

-- every other hub must be present
pub whoever-there-fails : NetSound (alike plain_ways) (ends whoever_there) → ⊥
unfolding among
whoever-there-fails s = failed (λ x. plain_ways) (ends whoever_there) 2 3 3 3 (omega arith) whoever-there.0 whoever-there.1 there-whoever-there (gone_of (1 ∷ []) refl ((ends whoever_there).hubs 0) whoever-there.2) s

there-restored-hubs : There (ends restored_hubs) 2
unfolding after happen nth_sent cut_by add add_node numbers_of call_as call gc node_of set_node remove_all decide wish find act write store remove last_gc_of keep all same_bytes less_bytes among digest_bytes head_width entry_bytes entry_of read_entries read_digest tell tell_all compute delta_for cut all_ops ordered queue sooner stale_nodes told_of from_of stale by_version key_value_ops size_of delta_bytes op_bytes text_bytes bytes_of nat_of part put flat unblock apply apply_each apply_node delta_status status_of newer_of outcome take_all takes codes read_delta read_ops read_op read_node read_key_value read_set_max_version follow parts_of recs_of max_of versions valid_grid obeys_grid encode_grid decode_grid row_bytes row_in rows_bytes rows_in blocks fit zeros joined rising all_zero rows_obey of_present place_of take_out tell_row row_told new_grid no_rows placed
there-restored-hubs = (record { kv = dead; start = 0 }, later (here refl), refl)

-- no hub may be restored
pub restored-hubs-fails : NetSound (alike plain_ways) (ends restored_hubs) → ⊥
unfolding among
restored-hubs-fails s = failed (λ x. plain_ways) (ends restored_hubs) 2 3 3 3 (omega arith) restored-hubs.0 restored-hubs.1 there-restored-hubs (gone_of (1 ∷ []) refl ((ends restored_hubs).hubs 0) restored-hubs.2) s

there-taken-out : There (ends taken_out) 2
unfolding after happen nth_sent cut_by add add_node numbers_of call_as call gc node_of set_node remove_all decide wish find act write store remove last_gc_of keep all same_bytes less_bytes among digest_bytes head_width entry_bytes entry_of read_entries read_digest tell tell_all compute delta_for cut all_ops ordered queue sooner stale_nodes told_of from_of stale by_version key_value_ops size_of delta_bytes op_bytes text_bytes bytes_of nat_of part put flat unblock apply apply_each apply_node delta_status status_of newer_of outcome take_all takes codes read_delta read_ops read_op read_node read_key_value read_set_max_version follow parts_of recs_of max_of versions valid_grid obeys_grid encode_grid decode_grid row_bytes row_in rows_bytes rows_in blocks fit zeros joined rising all_zero rows_obey of_present place_of take_out tell_row row_told new_grid no_rows placed
there-taken-out = (record { kv = dead; start = 0 }, later (here refl), refl)

-- nor may a follower be taken out, late deltas being under way
pub taken-out-fails : NetSound (alike plain_ways) (ends taken_out) → ⊥
unfolding among
taken-out-fails s = failed (λ x. plain_ways) (ends taken_out) 2 3 3 4 (omega arith) taken_out_lem.0 taken_out_lem.1 there-taken-out (gone_of (1 ∷ 4 ∷ []) refl ((ends taken_out).hubs 0) taken_out_lem.2) s
