-- Evidence, and no part of a promise: the numbers and values of documents 01 and 02, each beside a call on a small input that gives it. The numbers stand here a
-- second time, so that two of them exchanged in Answers, or two values, do not pass. Assumes nothing.
use Prim.Native.Nat.{ℕ, zero, suc, ◌-◌}
use mathlib.Core.List.{List, [], ◌∷◌}
use mathlib.Core.Path.{◌≡◌, refl}
use Rattle.fields.specs.Blocks.{flat, unblock, zeros}
use Rattle.fields.specs.Choice.{all}
use Rattle.fields.specs.Numbers.{bytes_of, nat_of}
use Rattle.fields.specs.Order.{same_bytes, starts_with}
use Rattle.fields.specs.Parts.{part}
use Rattle.fields.specs.Widths.{joined}
use Rattle.rules.specs.Answers.{Told, answer_told, applied_told, computed_told, listed_told, offered_told, read_told, written_told}
use Rattle.rules.specs.Apply.{apply, apply_each, codes, plain_ways}
use Rattle.rules.specs.Compute.{all_ops, by_version, compute, cut, delta_for, from_of, key_value_ops, ordered, queue, sooner, stale, stale_nodes, told_of}
use Rattle.rules.specs.Delta.{NodeOp, delta_bytes, delta_read, follow, op_bytes, parts_of, read_delta, read_key_value, read_node, read_op, read_ops, read_set_max_version, size_of}
use Rattle.rules.specs.Digest.{digest_bytes, digest_of, entry_bytes, head_width, read_digest, read_entries, tell, tell_all, write_digest}
use Rattle.rules.specs.Layout.{decode, encode}
use Rattle.rules.specs.Memory.{apart, memory_obeys, removed_numbers}
use Rattle.rules.specs.Whole.{decode_memory, encode_whole, obeys_whole, valid_whole}
use Rattle.rules.specs.Lent.{lent_add, on_whole}
use Rattle.rules.specs.Profile.{meter_key, meter_value, numeral, profile_obeys, smaller, total_key}
use Rattle.rules.specs.Local.{add, call, call_as, local_beat, offer, prefixed, remove_node}
use Rattle.rules.specs.Node.{Deleting, Node, Rec, Setting, act, beats, decide, find, fresh, hits_from, offer_of, wish}
use Rattle.rules.specs.Sizes.{top}
use Rattle.rules.specs.Table.{Table, add_node, among, differ, drop_node, node_of, numbers_of, obeys, rising, set_node}
use Rattle.rules.specs.declared.NodeAnswer.TheVariants as node
use Rattle.rules.specs.declared.Party.TheVariants.{Nobody}
use Rattle.rules.specs.declared.Profile.TheVariants.{Meter}
use Rattle.rules.specs.declared.Status.TheVariants.{Set}

-- what a call tells, and what the paper has
pub record Row : Type 0 where
  pub call : Told
  pub number : ℕ
  pub values : List ℕ
  pub need : ℕ

abbrev row : Told → ℕ → List ℕ → Row
row t n vs = record { call = t; number = n; values = vs; need = 0 }

-- 9, and how many bytes the field lacks
abbrev cut_row : Told → List ℕ → ℕ → Row
cut_row t vs k = record { call = t; number = 9; values = vs; need = k }

unfoldable pub in_calls : List Row → List Told
in_calls [] = []
in_calls (r ∷ rs) = r.call ∷ in_calls rs

unfoldable pub in_paper : List Row → List Told
in_paper [] = []
in_paper (r ∷ rs) = record { number = r.number; values = r.values; need = r.need } ∷ in_paper rs

-- ---- what the rows are made of

-- a table of one node, 7
abbrev holding : Node → Table
holding n = record { number = 7; node = n } ∷ []

abbrev at : ℕ → ℕ → List Rec → Node
at beat max recs = record { heartbeat = beats beat; max = max; last_gc = 0; recs = recs }

-- so many records with keys of one byte
unfoldable pub records : ℕ → List Rec
records zero = []
records (suc n) = record { kv = record { key = (100 - n) ∷ []; value = []; version = suc n; status = Set }; start = 0 } ∷ records n

-- the nodes n to 1, in the wrong order, which adding does not ask
unfoldable pub nodes : ℕ → Table
nodes zero = []
nodes (suc n) = record { number = suc n; node = fresh } ∷ nodes n

-- ---- the table

unfoldable pub rows : List Row
rows =
    -- 1: a key over 32
    row (answer_told (call (Setting []) 7 (zeros 33) (holding fresh)).answer) 1 []
    -- 2: no such node
    ∷ row (answer_told (remove_node 7 []).answer) 2 []
    -- 3: no such key, for a delete
    ∷ row (answer_told (call (Deleting 0) 7 [] (holding fresh)).answer) 3 []
    -- 4: ninth node
    ∷ row (answer_told (add 9 (nodes 8)).answer) 4 []
    -- 5: 33rd key
    ∷ row (answer_told (call (Setting []) 7 [] (holding (at 0 32 (records 32)))).answer) 5 []
    -- 6: a heartbeat is 2^64-1 and must rise
    ∷ row (answer_told (local_beat 7 (holding (at top 0 []))).answer) 6 []
    -- 7: MTU below 100
    ∷ row (computed_told (compute 0 [] [] 99 0 [] [] []).answer) 7 []
    -- 8: too few bytes
    ∷ row (written_told (write_digest 0 [] 0 [] []).answer) 8 []
    -- 9: bytes end inside a field, and what that field lacks: a Node's number, ten bytes behind a Node's tag, a Node's last byte
    ∷ cut_row (read_told (delta_read (0 ∷ []))) (0 ∷ []) 8
    ∷ cut_row (read_told (delta_read (0 ∷ zeros 10))) (0 ∷ []) 6
    ∷ cut_row (read_told (delta_read (0 ∷ zeros 23))) (0 ∷ []) 1
    -- a key's length, a key of five bytes, a version behind three bytes, a status, a max
    ∷ cut_row (read_told (delta_read (1 ∷ []))) (0 ∷ []) 2
    ∷ cut_row (read_told (delta_read (1 ∷ 5 ∷ 0 ∷ []))) (0 ∷ []) 5
    ∷ cut_row (read_told (delta_read (1 ∷ zeros 7))) (0 ∷ []) 5
    ∷ cut_row (read_told (delta_read (1 ∷ zeros 12))) (0 ∷ []) 1
    ∷ cut_row (read_told (delta_read (2 ∷ zeros 7))) (0 ∷ []) 1
    -- the same in the second operation, and applied
    ∷ cut_row (applied_told (apply plain_ways (0 ∷ zeros 35) 0 [] []).answer) (25 ∷ []) 6
    -- the count of a digest, and its entries
    ∷ cut_row (computed_told (compute 0 [] [] 100 0 [] [] (zeros 100)).answer) [] 2
    ∷ cut_row (computed_told (compute 0 [] [] 100 0 (1 ∷ []) [] (zeros 100)).answer) [] 1
    ∷ cut_row (computed_told (compute 0 [] [] 100 0 (1 ∷ 0 ∷ []) [] (zeros 100)).answer) [] 8
    ∷ cut_row (computed_told (compute 0 [] [] 100 0 (1 ∷ 0 ∷ zeros 13) [] (zeros 100)).answer) [] 3
    -- in V1 no whole number of entries, above eight too
    ∷ cut_row (computed_told (compute 1 [] [] 100 0 (zeros 8) [] (zeros 100)).answer) [] 8
    ∷ cut_row (computed_told (compute 1 [] [] 100 0 (zeros 289) [] (zeros 100)).answer) [] 7
    -- 10: tag above 2
    ∷ row (read_told (delta_read (3 ∷ []))) 10 (0 ∷ [])
    -- 11: SetMaxVersion before any Node
    ∷ row (read_told (delta_read (2 ∷ zeros 8))) 11 (0 ∷ [])
    -- 12: node repeated, at the second one's tag
    ∷ row (applied_told (apply plain_ways (delta_bytes (NodeOp 7 0 0 ∷ NodeOp 7 0 0 ∷ [])) 0 [] []).answer) 12 (25 ∷ [])
    -- 13: digest count over 8
    ∷ row (computed_told (compute 0 [] [] 100 0 (9 ∷ 0 ∷ []) [] (zeros 100)).answer) 13 []
    ∷ row (computed_told (compute 1 [] [] 100 0 (zeros 288) [] (zeros 100)).answer) 13 []
    -- 14: no bytes are no table
    ∷ row (answer_told (lent_add 7 []).answer) 14 []
    -- 15: tie list not one a node
    ∷ row (computed_told (compute 0 [] (0 ∷ []) 100 0 [] [] (zeros 100)).answer) 15 []
    -- 17: a write out of form, 18: a smaller total
    ∷ row (answer_told (call_as Meter Nobody (Setting []) 7 total_key (holding fresh)).answer) 17 []
    ∷ row (answer_told (call_as Meter Nobody (Setting (54 ∷ [])) 7 total_key (holding (at 0 1 (record { kv = record { key = total_key; value = 55 ∷ []; version = 1; status = Set }; start = 0 } ∷ [])))).answer) 18 []
    -- 20: no such edition, before all that is asked of the datagram and the MTU
    ∷ row (written_told (write_digest 2 [] 0 [] []).answer) 20 []
    ∷ row (computed_told (compute 2 [] [] 99 0 [] [] []).answer) 20 []
    -- accepted, with nothing to tell
    ∷ row (answer_told (add 7 []).answer) 0 []
    -- a heartbeat offer: no is 0, yes is 1
    ∷ row (offered_told (offer 7 (beats 5) (holding fresh)).answer) 0 (0 ∷ [])
    ∷ row (offered_told (offer 7 (beats 6) (holding (at 5 0 []))).answer) 0 (1 ∷ [])
    -- a prefix listing: the hits
    ∷ row (listed_told (prefixed 7 [] (holding (at 0 2 (records 2))) (zeros 2)).answer) 0 (2 ∷ [])
    -- a digest: its bytes
    ∷ row (written_told (write_digest 0 [] 0 (holding fresh) (zeros 34)).answer) 0 (34 ∷ [])
    ∷ row (written_told (write_digest 1 [] 0 (holding fresh) (zeros 32)).answer) 0 (32 ∷ [])
    -- computing: operations, then bytes
    ∷ row (computed_told (compute 0 [] (0 ∷ []) 100 0 (0 ∷ 0 ∷ []) (holding (at 0 1 [])) (zeros 100)).answer) 0 (2 ∷ 34 ∷ [])
    -- delta reading: operations, then nodes
    ∷ row (read_told (delta_read (delta_bytes (NodeOp 7 0 0 ∷ [])))) 0 (1 ∷ 1 ∷ [])
    -- applying: the answers
    ∷ row (applied_told (apply plain_ways (delta_bytes (NodeOp 7 0 0 ∷ [])) 0 [] (zeros 1)).answer) 0 (1 ∷ [])
    ∷ []

pub as-the-paper : in_calls rows ≡ in_paper rows
unfolding in_calls in_paper rows zeros records nodes answer_told computed_told written_told read_told applied_told offered_told listed_told call call_as meter_key meter_value smaller numeral profile_obeys remove_node add local_beat compute write_digest delta_read apply offer prefixed decide act find wish among numbers_of node_of set_node add_node drop_node read_delta read_ops read_op read_node read_key_value read_set_max_version follow delta_bytes op_bytes bytes_of flat parts_of apply_each codes read_digest read_entries tell tell_all digest_of digest_bytes head_width entry_bytes offer_of hits_from same_bytes all_ops by_version cut delta_for from_of key_value_ops ordered queue sooner stale stale_nodes told_of size_of nat_of starts_with unblock on_whole valid_whole obeys_whole memory_obeys removed_numbers differ apart obeys decode part rising all encode encode_whole decode_memory joined
as-the-paper = refl

-- the answers of nodes in a lent list
pub codes-of-the-paper : codes (node.Reject ∷ node.Apply ∷ node.ApplyAfterReset ∷ node.Room ∷ node.Unknown ∷ node.Fenced ∷ []) ≡ 0 ∷ 1 ∷ 2 ∷ 3 ∷ 4 ∷ 5 ∷ []
unfolding codes
codes-of-the-paper = refl
