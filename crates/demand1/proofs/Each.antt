-- Each number of a kind of call is given to some call of that kind: one for each. The tables are small ones that obey the rules, in their bytes; bytes that are
-- no table are none at all. Assumes nothing.
use Prim.Native.Nat.{ℕ, zero, suc, ◌-◌}
use mathlib.Core.Bool.{Bool, true, false, false≢true, ◌&&◌}
use mathlib.Core.List.{List, [], ◌∷◌}
use mathlib.Core.Path.{◌≡◌, ◌∙◌, ap, ap₂, refl, subst, sym}
use native.Mathlib.Omega.{arith}
use lib.Dec.{eqb, ltb}
use lib.ListN.{length}
use borrow.Author.Tests.{eq-eqb, eqb-true, ltb-true}
use Rattle.fields.specs.Blocks.{fit, flat, unblock, zeros}
use Rattle.fields.specs.Choice.{all, keep, pick}
use Rattle.fields.specs.Numbers.{Bytes, bytes_of, nat_of}
use Rattle.fields.specs.Order.{less_bytes, same_bytes, starts_with}
use Rattle.fields.specs.Parts.{part}
use Rattle.fields.specs.Widths.{joined}
use Rattle.fields.proofs.Choice.{all_from, and_intro}
use Rattle.rules.specs.Sizes.{numbers, top}
use Rattle.rules.specs.Answers.{Told, answer_told, applied_told, computed_told, listed_told, offered_told, read_told, remembered_told, written_told}
use Rattle.rules.specs.Apply.{apply, ways_in}
use Rattle.rules.specs.Compute as computing
use Rattle.rules.specs.Compute.{told_of}
use Rattle.rules.specs.Delta.{Good, KeyValueOp, NodeOp, Op, SetMaxVersionOp, delta_bytes, delta_read, follow, op_bytes, parts_of, read_delta, read_key_value, read_node, read_op, read_ops, read_set_max_version, size_of, text_bytes}
use Rattle.rules.specs.Digest.{digest_bytes, digest_of, head_width, read_digest, read_entries, tell, tell_all, write_digest}
use Rattle.rules.specs.Given.{Given, given}
use Rattle.rules.specs.Layout.{node_width, encode_node, decode_node, decode, encode}
use Rattle.rules.specs.Memory.{apart, heartbeat_of, memory_obeys, removed_numbers}
use Rattle.rules.specs.Whole.{Whole, decode_memory, decode_whole, encode_whole, obeys_whole, valid_whole, whole_width, with_table}
use Rattle.rules.specs.declared.Mode.TheVariants as mode
use Rattle.rules.specs.Lent.{TableAndList, add_whole, both, from_table, lent_apply, lent_apply_as, lent_new, lent_removed, on_table, on_whole, remembered_as, remove_whole, stored_in, stored_apply}
use Rattle.rules.specs.Listing.{decimal, digits, listing, listing_of, op_line}
use Rattle.rules.specs.Local.{Outcome, add, call, call_as, gc, local_beat, offer, prefixed, prefixed_as, remove_node, write_as}
use Rattle.rules.specs.Node.{Deleting, DeletingAfterTtl, Node, Rec, act, beats, decide, find, fresh, hits_from, offer_of, wish}
use Rattle.rules.specs.Party.{alone}
use Rattle.rules.specs.Profile.{kind, meter_key, meter_value, numeral, profile_obeys, read_delta_as, read_ops_as, smaller, table_formed, total_key}
use Rattle.rules.specs.Table.{Entry, Table, among, differ, entry_obeys, keys_rise, node_obeys, node_of, numbers_of, obeys, rec_obeys, rising, set_node, versions}
use Rattle.std.specs.Prelude.{Err, Result}
use Rattle.exchange.specs.declared.Exchanged.{Exchanged}
use Rattle.exchange_ask.specs.declared.Stopped.{Stopped}
use Rattle.overrides.specs.declared.RefusedOver.{RefusedOver}
use Rattle.plan.specs.declared.NotSent.{NotSent}
use Rattle.rules.specs.declared.DeltaFault.{DeltaFault}
use Rattle.rules.specs.declared.Refusal.{Refusal}
use Rattle.rules.specs.declared.Sent.{Sent}
use Rattle.rules.specs.Results.{done}
use Rattle.plan.specs.declared.NotSent.TheVariants as not_sent
use Rattle.rules.specs.declared.Profile.{Profile}
use Rattle.rules.specs.declared.Party.TheVariants.{Nobody}
use Rattle.rules.specs.declared.Profile.TheVariants.{Free, Meter, Shared}
use Rattle.rules.specs.declared.Refusal.TheVariants.{BadPeer, BadTable, NobodyPresent}
use Rattle.rules.specs.declared.Status.TheVariants as status
use Rattle.rules.proofs.Calls.{none-obeys}
use Rattle.rules.proofs.Formed.{empty-formed, free-formed}
use Rattle.rules.proofs.Obeys.{among_in}
use Rattle.table.proofs.Encoded.{apply-whole, from-whole, on-whole, whole-whole}
use Rattle.table.proofs.Wholes.{decode-encode-whole, length_whole, valid-encode-whole, without-memory}
use Rattle.table.specs.Changes.{fresh_entry}
use Rattle.table.proofs.Nodes.{entry-obeys, fits-entry, length-node, decode-encode-node}
use Rattle.overrides.specs.Overrides as overrides
use Rattle.overrides.specs.Overrides.{valid_node, stored_node, on_overrides, lent_new_overrides}
use Rattle.overrides.specs.Both.{from_both}
use Rattle.overrides.specs.declared.Which.{Which}
use Rattle.overrides.specs.declared.Which.TheVariants as which
use Rattle.overrides.proofs.Valid.{length-stops, valid-by-node}
use Rattle.over_find.specs.Over.{found_over}
use Rattle.over_find.specs.Told.{found_over_told}
use Rattle.over_list.specs.Merged as merging
use Rattle.over_list.specs.Merged.{list_over}
use Rattle.over_list.specs.Told.{listed_over_told}
use Rattle.grid.specs.Grid.{Grid, add_column, columns, drop_column, max_peers, new_grid, somebody, take_out, tell_row}
use Rattle.grid.specs.GridLayout.{decode_grid, encode_grid, grid_width, valid_grid}
use Rattle.grid.specs.LentGrid.{GridAndTable, both as beside, carefully_removed, fits_table, grid_on, least_in, least_told, lent_careful, lent_column_in, lent_column_out, lent_least, lent_new_grid, lent_seen, lent_take_out, lent_tell, seen_in, seen_told, tell_on, valid_both}
use Rattle.grid.proofs.GridBytes.{length-grid, valid-long}
use Rattle.grid_kept.proofs.Encoded.{decode-encode as decode-encode-grid}
use Rattle.grid_kept.proofs.Keeps.{tell-sound}
use Rattle.grid_kept.proofs.LentKept.{table-columns, table-sound, together}
use Rattle.grid_kept.proofs.Sound.{Sound, sound-valid}
use Rattle.nodes.specs.New.{lent_made}
use Rattle.lookup.specs.Lookup.{find_as, find_rec}
use Rattle.lookup.specs.Told.{found_told}
use Rattle.inspect.specs.Look.{element_at, front_as, node_count, node_header, node_number, node_rows_as, read_key, read_record_as, record_by_key_as, record_count_as, record_of_as}
use Rattle.inspect.specs.Told.{count_told, node_header_told, node_number_told, record_read_told, rows_told}
use Rattle.prefix.specs.Rows.{prefix_rows_as}
use Rattle.inspect_text.specs.Texts.{text_found_as}
use Rattle.inspect_text.specs.declared.Text.TheVariants as text
use Rattle.digest_read.specs.Held.{digest_in}
use Rattle.digest_read.specs.Told.{digest_told}
use Rattle.listing_read.specs.Unlist.{front, read_line, read_lines, unlist, value_from}
use Rattle.listing_make.specs.Make.{made_told, placed}
use Rattle.answers.specs.Shown.{entry_told}
use Rattle.compute.specs.Asking.{asked_of}
use Rattle.exchange.specs.Exchanging.{Lending, after_asking, exchanged_told, lending, lent_exchange, rooms_of}
use Rattle.exchange_ask.specs.Asking.{forms_fit, ready_for, ready_on, rooms_for, taking_for}
use Rattle.exchange_ask.specs.declared.Step.TheVariants.{Delta, Digest}
use Rattle.exchange.proofs.Refusing.{is-ready, ready-done}
use Rattle.plan.specs.Faults.{judge, judge_from, judge_plan, judged_told}
use Rattle.plan.specs.Plan.{accepts, compute_plan, delta_by, lines_fit, plan_ops}
use Rattle.demand1.specs.Calls as calls

-- ---- one call for each number

abbrev Shown : calls.Kind → ℕ → Type 0
Shown k n = (c : calls.Call k) × ((calls.leaves c).answer.number ≡ n)

infixr 20 ◌and◌
data AllShown (k : calls.Kind) : List ℕ → Type 0 where
  no_more : AllShown k []
  ◌and◌ : {n : ℕ} {ns : List ℕ} → Shown k n → AllShown k ns → AllShown k (n ∷ ns)

-- calls for some numbers, and every number of the kind is among these
abbrev Covered : calls.Kind → Type 0
Covered k = (ns : List ℕ) × AllShown k ns × (all (λ n. among n ns) (calls.possible k) ≡ true)

shown-in : (k : calls.Kind) (ns : List ℕ) → AllShown k ns → (n : ℕ) → among n ns ≡ true → Shown k n
unfolding among
shown-in k [] no_more n e = absurd (false≢true e)
shown-in k (m ∷ ns) (a and as-well) n e = go (eqb n m) refl e (shown-in k ns as-well n)
  where
    go : (b : Bool) → eqb n m ≡ b → pick b true (among n ns) ≡ true → (among n ns ≡ true → Shown k n) → Shown k n
    go true q e ih = subst (Shown k) (sym (eqb-true n m q)) a
    go false q e ih = ih e

-- ---- numbers and bytes as code passes them

abbrev seven : calls.U64
seven = record { value = 7; fits = ltb-true 7 numbers refl }

-- wanted statuses of a write
abbrev under-set : calls.U64
under-set = record { value = 0; fits = ltb-true 0 numbers refl }

abbrev under-ttl : calls.U64
under-ttl = record { value = 2; fits = ltb-true 2 numbers refl }

abbrev nine : calls.U64
nine = record { value = 9; fits = ltb-true 9 numbers refl }

received : (l : Bytes) → all (λ b. ltb b 256) l ≡ true → calls.Received
received l e = record { bytes = l; are = λ b m. ltb-true b 256 (all_from (λ b. ltb b 256) l e b m) }

-- ---- tables

-- one node, 7
abbrev holding : Node → Table
holding n = record { number = 7; node = n } ∷ []

-- a record with a key of one byte
abbrev live : ℕ → ℕ → Rec
live k v = record { kv = record { key = k ∷ []; value = []; version = v; status = status.Set }; start = 0 }

abbrev node : (beat max : ℕ) (recs : List Rec) → Node
node b m rs = record { heartbeat = beats b; max = m; last_gc = 0; recs = rs }

-- a fresh node; one with a record; one whose heartbeat and max are at their end
abbrev newly : Table
newly = holding fresh

abbrev usual : Table
usual = holding (node 1 1 (live 1 1 ∷ []))

abbrev ended : Table
ended = holding (node top top (live 1 1 ∷ []))

-- 32 records
unfoldable records : (n : ℕ) → List Rec
records zero = []
records (suc n) = live (100 - n) (suc n) ∷ records n

abbrev packed : Table
packed = holding (node 0 32 (records 32))

-- the nodes 1 to 8
unfoldable nodes : (n : ℕ) → Table
nodes zero = []
nodes (suc n) = record { number = 8 - n; node = fresh } ∷ nodes n

abbrev crowded : Table
crowded = nodes 8

newly-obeys : obeys newly ≡ true
unfolding obeys rising numbers_of all entry_obeys node_obeys differ keys_rise versions
newly-obeys = refl

usual-obeys : obeys usual ≡ true
unfolding obeys rising numbers_of all entry_obeys node_obeys rec_obeys differ keys_rise versions among
usual-obeys = refl

ended-obeys : obeys ended ≡ true
unfolding obeys rising numbers_of all entry_obeys node_obeys rec_obeys differ keys_rise versions among
ended-obeys = refl

packed-obeys : obeys packed ≡ true
unfolding obeys rising numbers_of all entry_obeys node_obeys rec_obeys differ keys_rise versions among records less_bytes
packed-obeys = refl

crowded-obeys : obeys crowded ≡ true
unfolding obeys rising numbers_of all entry_obeys node_obeys rec_obeys differ keys_rise versions among nodes
crowded-obeys = refl

-- a plain table that remembers nothing, and its bytes
abbrev whole : (table : Table) → Whole
whole t = record { kind = kind mode.Plain Free; memory = []; table = t }

abbrev lent : (table : Table) → Bytes
lent t = encode_whole (whole t)

whole-obeys : (t : Table) → obeys t ≡ true → obeys_whole (whole t) ≡ true
whole-obeys t o = without-memory (kind mode.Plain Free) t o (free-formed t)

-- one of the meter profile, with a total of 5
abbrev counting : Table
counting = holding (node 1 1 (record { kv = record { key = total_key; value = 53 ∷ []; version = 1; status = status.Set }; start = 0 } ∷ []))

abbrev metered : Whole
metered = record { kind = kind mode.Plain Meter; memory = []; table = counting }

metered-obeys : obeys_whole metered ≡ true
unfolding obeys rising numbers_of all entry_obeys node_obeys rec_obeys differ keys_rise versions among profile_obeys meter_key meter_value
metered-obeys = without-memory (kind mode.Plain Meter) counting refl refl

-- a shared one
abbrev shared : Table → Whole
shared t = record { kind = kind mode.Plain Shared; memory = []; table = t }

shared-newly-obeys : obeys_whole (shared newly) ≡ true
unfolding profile_obeys all keep
shared-newly-obeys = without-memory (kind mode.Plain Shared) newly newly-obeys refl

-- no bytes are no table
none-valid : valid_whole [] ≡ false
unfolding valid_whole obeys_whole profile_obeys memory_obeys apart removed_numbers differ decode_memory obeys decode part rising numbers_of all encode_whole encode joined nat_of bytes_of same_bytes unblock
none-valid = refl

-- ---- a call on a table that obeys, and on no table

on-good : {A : Type 0} (told : A → Told) (bad : A) (rule : Table → Outcome A) (t : Table) → obeys t ≡ true → (n : ℕ) → (told (rule t).answer).number ≡ n
    → (told (on_table bad rule (lent t)).answer).number ≡ n
on-good {A} told bad rule t o n e = ap (λ (x : Given A Bytes). (told x.answer).number) (on-whole (whole t) (whole-obeys t o) bad rule) ∙ e

on-bad : {A : Type 0} (told : A → Told) (bad : A) (rule : Table → Outcome A) (n : ℕ) → (told bad).number ≡ n → (told (on_table bad rule []).answer).number ≡ n
unfolding on_table
on-bad told bad rule n e = ap (λ (b : Bool). (told (pick b (stored_in (decode_whole []) (rule (decode_whole []).table)) (given bad [])).answer).number) none-valid ∙ e

-- by a rule of the table's profile
as-good : {A : Type 0} (told : A → Told) (bad : A) (rule : Profile → Table → Outcome A) (w : Whole) → obeys_whole w ≡ true → (n : ℕ) → (told (rule w.kind.profile w.table).answer).number ≡ n
    → (told (on_table bad (rule (decode_whole (encode_whole w)).kind.profile) (encode_whole w)).answer).number ≡ n
as-good {A} told bad rule w o n e =
    ap (λ (u : Whole). (told (on_table bad (rule u.kind.profile) (encode_whole w)).answer).number) (decode-encode-whole w o)
    ∙ ap (λ (x : Given A Bytes). (told x.answer).number) (on-whole w o bad (rule w.kind.profile))
    ∙ e

whole-good : {A : Type 0} (told : A → Told) (bad : A) (rule : Whole → Given A Whole) (t : Table) → obeys t ≡ true → (n : ℕ)
    → (told (rule (whole t)).answer).number ≡ n → (told (on_whole bad rule (lent t)).answer).number ≡ n
whole-good {A} told bad rule t o n e = ap (λ (x : Given A Bytes). (told x.answer).number) (whole-whole (whole t) (whole-obeys t o) bad rule) ∙ e

whole-bad : {A : Type 0} (told : A → Told) (bad : A) (rule : Whole → Given A Whole) (n : ℕ) → (told bad).number ≡ n → (told (on_whole bad rule []).answer).number ≡ n
unfolding on_whole
whole-bad told bad rule n e =
    ap (λ (b : Bool). (told (pick b (given (rule (decode_whole [])).answer (encode_whole (rule (decode_whole [])).lent)) (given bad [])).answer).number) none-valid ∙ e

from-good : {A : Type 0} (number : A → ℕ) (bad : A) (rule : Table → A) (t : Table) → obeys t ≡ true → (n : ℕ) → number (rule t) ≡ n
    → number (from_table bad rule (lent t)) ≡ n
from-good number bad rule t o n e = ap number (from-whole (whole t) (whole-obeys t o) bad rule) ∙ e

-- by a rule of the table's profile
seen-good : {A : Type 0} (number : A → ℕ) (bad : A) (rule : Profile → Table → A) (w : Whole) → obeys_whole w ≡ true → (n : ℕ) → number (rule w.kind.profile w.table) ≡ n
    → number (from_table bad (rule (decode_whole (encode_whole w)).kind.profile) (encode_whole w)) ≡ n
seen-good number bad rule w o n e =
    ap (λ (u : Whole). number (from_table bad (rule u.kind.profile) (encode_whole w))) (decode-encode-whole w o) ∙ ap number (from-whole w o bad (rule w.kind.profile)) ∙ e

from-bad : {A : Type 0} (number : A → ℕ) (bad : A) (rule : Table → A) (n : ℕ) → number bad ≡ n → number (from_table bad rule []) ≡ n
unfolding from_table
from-bad number bad rule n e = ap (λ (b : Bool). number (pick b (rule (decode_whole []).table) bad)) none-valid ∙ e

-- ---- nodes

new-tables : AllShown calls.NewTable (0 ∷ 14 ∷ [])
unfolding calls.leaves lent_made answer_told
new-tables = (
  calls.new-table (lent []) mode.Plain Free,
  ap (λ (b : Bool). (answer_told (pick b (given done (lent_new (kind mode.Plain Free))) (given (Err BadTable) (lent []))).answer).number)
      (eq-eqb (length (lent [])) whole_width (length_whole (whole []))),
)
    and (calls.new-table [] mode.Plain Free, refl)
    and no_more

added : AllShown calls.AddNode (0 ∷ 14 ∷ 4 ∷ [])
unfolding calls.leaves answer_told add_whole add among numbers_of nodes
added =
    (calls.add-node (lent []) seven, whole-good answer_told (Err BadTable) (add_whole 7) [] none-obeys 0 refl)
    and (calls.add-node [] seven, whole-bad answer_told (Err BadTable) (add_whole 7) 14 refl)
    and (calls.add-node (lent crowded) nine, whole-good answer_told (Err BadTable) (add_whole 9) crowded crowded-obeys 4 refl)
    and no_more

removed : AllShown calls.RemoveNode (0 ∷ 14 ∷ 2 ∷ [])
unfolding calls.leaves answer_told remove_whole remove_node among numbers_of
removed =
    (calls.remove-node (lent newly) seven, whole-good answer_told (Err BadTable) (remove_whole 7) newly newly-obeys 0 refl)
    and (calls.remove-node [] seven, whole-bad answer_told (Err BadTable) (remove_whole 7) 14 refl)
    and (calls.remove-node (lent []) seven, whole-good answer_told (Err BadTable) (remove_whole 7) [] none-obeys 2 refl)
    and no_more

-- nothing is remembered in a new table
asked : AllShown calls.LastHeartbeat (0 ∷ 14 ∷ [])
unfolding calls.leaves remembered_told lent_removed heartbeat_of
asked = (
  calls.last-heartbeat (lent []) seven,
  let w : Whole = whole [] in
      let o = whole-obeys [] none-obeys in
      ap (λ (b : Bool). (remembered_told (pick b (remembered_as (heartbeat_of 7 (decode_whole (lent [])).memory)) (Err BadTable))).number) (valid-encode-whole w o)
      ∙ ap (λ (u : Whole). (remembered_told (remembered_as (heartbeat_of 7 u.memory))).number) (decode-encode-whole w o),
)
    and (
      calls.last-heartbeat [] seven,
      ap (λ (b : Bool). (remembered_told (pick b (remembered_as (heartbeat_of 7 (decode_whole []).memory)) (Err BadTable))).number) none-valid,
    )
    and no_more

-- ---- records

writes : AllShown calls.Write (0 ∷ 14 ∷ 10 ∷ 2 ∷ 1 ∷ 17 ∷ 19 ∷ 18 ∷ 5 ∷ 6 ∷ [])
unfolding calls.leaves answer_told write_as call_as call node_of set_node decide wish act find same_bytes zeros records meter_key meter_value smaller numeral all
writes =
    (calls.write (lent newly) [] [] seven under-set seven Nobody, as-good answer_told (Err BadTable) (λ p. write_as p Nobody 0 [] 7 7 []) (whole newly) (whole-obeys newly newly-obeys) 0 refl)
    and (calls.write [] [] [] seven under-set seven Nobody, on-bad answer_told (Err BadTable) (write_as (decode_whole []).kind.profile Nobody 0 [] 7 7 []) 14 refl)
    and (calls.write (lent []) [] [] seven seven seven Nobody, as-good answer_told (Err BadTable) (λ p. write_as p Nobody 7 [] 7 7 []) (whole []) (whole-obeys [] none-obeys) 10 refl)
    and (calls.write (lent []) [] [] seven under-ttl seven Nobody, as-good answer_told (Err BadTable) (λ p. write_as p Nobody 2 [] 7 7 []) (whole []) (whole-obeys [] none-obeys) 2 refl)
    and (calls.write (lent newly) (zeros 33) [] seven under-ttl seven Nobody, as-good answer_told (Err BadTable) (λ p. write_as p Nobody 2 [] 7 7 (zeros 33)) (whole newly) (whole-obeys newly newly-obeys) 1 refl)
    and (calls.write (encode_whole metered) [] [] seven under-ttl seven Nobody, as-good answer_told (Err BadTable) (λ p. write_as p Nobody 2 [] 7 7 []) metered metered-obeys 17 refl)
    and (calls.write (encode_whole (shared newly)) [] [] seven under-ttl seven Nobody, as-good answer_told (Err BadTable) (λ p. write_as p Nobody 2 [] 7 7 []) (shared newly) shared-newly-obeys 19 refl)
    and (calls.write (encode_whole metered) total_key (52 ∷ []) seven under-set seven Nobody, as-good answer_told (Err BadTable) (λ p. write_as p Nobody 0 (52 ∷ []) 7 7 total_key) metered metered-obeys 18 refl)
    and (calls.write (lent packed) [] [] seven under-set seven Nobody, as-good answer_told (Err BadTable) (λ p. write_as p Nobody 0 [] 7 7 []) (whole packed) (whole-obeys packed packed-obeys) 5 refl)
    and (calls.write (lent ended) [] [] seven under-ttl seven Nobody, as-good answer_told (Err BadTable) (λ p. write_as p Nobody 2 [] 7 7 []) (whole ended) (whole-obeys ended ended-obeys) 6 refl)
    and no_more

deletes : AllShown calls.Delete (0 ∷ 14 ∷ 2 ∷ 1 ∷ 19 ∷ 3 ∷ 6 ∷ [])
unfolding calls.leaves answer_told call_as call node_of set_node decide wish act find same_bytes zeros records
deletes =
    (calls.delete (lent usual) (1 ∷ []) seven seven Nobody, as-good answer_told (Err BadTable) (λ p. call_as p Nobody (Deleting 7) 7 (1 ∷ [])) (whole usual) (whole-obeys usual usual-obeys) 0 refl)
    and (calls.delete [] [] seven seven Nobody, on-bad answer_told (Err BadTable) (call_as (decode_whole []).kind.profile Nobody (Deleting 7) 7 []) 14 refl)
    and (calls.delete (lent []) [] seven seven Nobody, as-good answer_told (Err BadTable) (λ p. call_as p Nobody (Deleting 7) 7 []) (whole []) (whole-obeys [] none-obeys) 2 refl)
    and (calls.delete (lent newly) (zeros 33) seven seven Nobody, as-good answer_told (Err BadTable) (λ p. call_as p Nobody (Deleting 7) 7 (zeros 33)) (whole newly) (whole-obeys newly newly-obeys) 1 refl)
    and (calls.delete (encode_whole (shared newly)) [] seven seven Nobody, as-good answer_told (Err BadTable) (λ p. call_as p Nobody (Deleting 7) 7 []) (shared newly) shared-newly-obeys 19 refl)
    and (calls.delete (lent newly) [] seven seven Nobody, as-good answer_told (Err BadTable) (λ p. call_as p Nobody (Deleting 7) 7 []) (whole newly) (whole-obeys newly newly-obeys) 3 refl)
    and (calls.delete (lent ended) (1 ∷ []) seven seven Nobody, as-good answer_told (Err BadTable) (λ p. call_as p Nobody (Deleting 7) 7 (1 ∷ [])) (whole ended) (whole-obeys ended ended-obeys) 6 refl)
    and no_more

deletes-ttl : AllShown calls.DeleteAfterTtl (0 ∷ 14 ∷ 2 ∷ 1 ∷ 19 ∷ 3 ∷ 6 ∷ [])
unfolding calls.leaves answer_told call_as call node_of set_node decide wish act find same_bytes zeros records
deletes-ttl =
    (calls.delete-after-ttl (lent usual) (1 ∷ []) seven seven Nobody, as-good answer_told (Err BadTable) (λ p. call_as p Nobody (DeletingAfterTtl 7) 7 (1 ∷ [])) (whole usual) (whole-obeys usual usual-obeys) 0 refl)
    and (calls.delete-after-ttl [] [] seven seven Nobody, on-bad answer_told (Err BadTable) (call_as (decode_whole []).kind.profile Nobody (DeletingAfterTtl 7) 7 []) 14 refl)
    and (calls.delete-after-ttl (lent []) [] seven seven Nobody, as-good answer_told (Err BadTable) (λ p. call_as p Nobody (DeletingAfterTtl 7) 7 []) (whole []) (whole-obeys [] none-obeys) 2 refl)
    and (calls.delete-after-ttl (lent newly) (zeros 33) seven seven Nobody, as-good answer_told (Err BadTable) (λ p. call_as p Nobody (DeletingAfterTtl 7) 7 (zeros 33)) (whole newly) (whole-obeys newly newly-obeys) 1 refl)
    and (calls.delete-after-ttl (encode_whole (shared newly)) [] seven seven Nobody, as-good answer_told (Err BadTable) (λ p. call_as p Nobody (DeletingAfterTtl 7) 7 []) (shared newly) shared-newly-obeys 19 refl)
    and (calls.delete-after-ttl (lent newly) [] seven seven Nobody, as-good answer_told (Err BadTable) (λ p. call_as p Nobody (DeletingAfterTtl 7) 7 []) (whole newly) (whole-obeys newly newly-obeys) 3 refl)
    and (calls.delete-after-ttl (lent ended) (1 ∷ []) seven seven Nobody, as-good answer_told (Err BadTable) (λ p. call_as p Nobody (DeletingAfterTtl 7) 7 (1 ∷ [])) (whole ended) (whole-obeys ended ended-obeys) 6 refl)
    and no_more

collected : AllShown calls.RemoveScheduled (0 ∷ 14 ∷ [])
unfolding calls.leaves answer_told gc
collected =
    (calls.remove-scheduled (lent []) seven seven, on-good answer_told (Err BadTable) (gc 7 7) [] none-obeys 0 refl)
    and (calls.remove-scheduled [] seven seven, on-bad answer_told (Err BadTable) (gc 7 7) 14 refl)
    and no_more

-- ---- heartbeats

offers : AllShown calls.OfferHeartbeat (0 ∷ 14 ∷ 2 ∷ [])
unfolding calls.leaves offered_told offer node_of set_node offer_of
offers =
    (calls.offer-heartbeat (lent newly) seven seven, on-good offered_told (Err BadTable) (offer 7 (beats 7)) newly newly-obeys 0 refl)
    and (calls.offer-heartbeat [] seven seven, on-bad offered_told (Err BadTable) (offer 7 (beats 7)) 14 refl)
    and (calls.offer-heartbeat (lent []) seven seven, on-good offered_told (Err BadTable) (offer 7 (beats 7)) [] none-obeys 2 refl)
    and no_more

beaten : AllShown calls.LocalBeat (0 ∷ 14 ∷ 2 ∷ 6 ∷ [])
unfolding calls.leaves answer_told local_beat node_of set_node
beaten =
    (calls.local-beat (lent newly) seven, on-good answer_told (Err BadTable) (local_beat 7) newly newly-obeys 0 refl)
    and (calls.local-beat [] seven, on-bad answer_told (Err BadTable) (local_beat 7) 14 refl)
    and (calls.local-beat (lent []) seven, on-good answer_told (Err BadTable) (local_beat 7) [] none-obeys 2 refl)
    and (calls.local-beat (lent ended) seven, on-good answer_told (Err BadTable) (local_beat 7) ended ended-obeys 6 refl)
    and no_more

-- ---- readings

finds : AllShown calls.Find (0 ∷ 14 ∷ 2 ∷ 1 ∷ 19 ∷ [])
unfolding calls.leaves found_told node_of find_rec zeros alone keep
finds =
    (calls.find (lent newly) [] seven Nobody, seen-good (λ a. (found_told a).number) (Err BadTable) (λ p. find_as p Nobody 7 []) (whole newly) (whole-obeys newly newly-obeys) 0 refl)
    and (calls.find [] [] seven Nobody, from-bad (λ a. (found_told a).number) (Err BadTable) (find_as (decode_whole []).kind.profile Nobody 7 []) 14 refl)
    and (calls.find (lent []) [] seven Nobody, seen-good (λ a. (found_told a).number) (Err BadTable) (λ p. find_as p Nobody 7 []) (whole []) (whole-obeys [] none-obeys) 2 refl)
    and (calls.find (lent newly) (zeros 33) seven Nobody, seen-good (λ a. (found_told a).number) (Err BadTable) (λ p. find_as p Nobody 7 (zeros 33)) (whole newly) (whole-obeys newly newly-obeys) 1 refl)
    and (calls.find (encode_whole (shared newly)) [] seven Nobody, seen-good (λ a. (found_told a).number) (Err BadTable) (λ p. find_as p Nobody 7 []) (shared newly) shared-newly-obeys 19 refl)
    and no_more

lists : AllShown calls.ListPrefix (0 ∷ 14 ∷ 2 ∷ 1 ∷ 8 ∷ [])
unfolding calls.leaves listed_told prefixed prefixed_as node_of hits_from starts_with zeros
lists =
    (calls.list-prefix (lent newly) [] [] seven Nobody, seen-good (λ (a : Given (Result ℕ Refusal) Bytes). (listed_told a.answer).number) (given (Err BadTable) []) (λ p t. prefixed_as p Nobody 7 [] t []) (whole newly) (whole-obeys newly newly-obeys) 0 refl)
    and (calls.list-prefix [] [] [] seven Nobody, from-bad (λ (a : Given (Result ℕ Refusal) Bytes). (listed_told a.answer).number) (given (Err BadTable) []) (λ t. prefixed_as (decode_whole []).kind.profile Nobody 7 [] t []) 14 refl)
    and (calls.list-prefix (lent []) [] [] seven Nobody, seen-good (λ (a : Given (Result ℕ Refusal) Bytes). (listed_told a.answer).number) (given (Err BadTable) []) (λ p t. prefixed_as p Nobody 7 [] t []) (whole []) (whole-obeys [] none-obeys) 2 refl)
    and (calls.list-prefix (lent newly) (zeros 33) [] seven Nobody, seen-good (λ (a : Given (Result ℕ Refusal) Bytes). (listed_told a.answer).number) (given (Err BadTable) []) (λ p t. prefixed_as p Nobody 7 (zeros 33) t []) (whole newly) (whole-obeys newly newly-obeys) 1 refl)
    and (calls.list-prefix (lent usual) [] [] seven Nobody, seen-good (λ (a : Given (Result ℕ Refusal) Bytes). (listed_told a.answer).number) (given (Err BadTable) []) (λ p t. prefixed_as p Nobody 7 [] t []) (whole usual) (whole-obeys usual usual-obeys) 8 refl)
    and no_more

-- ---- overrides: the node of a table, in its own bytes

abbrev entry : Node → Entry
entry n = record { number = 7; node = n }

newly-entry : entry_obeys (entry fresh) ≡ true
unfolding all entry_obeys node_obeys differ keys_rise versions
newly-entry = refl

usual-entry : entry_obeys (entry (node 1 1 (live 1 1 ∷ []))) ≡ true
unfolding all entry_obeys node_obeys rec_obeys differ keys_rise versions among
usual-entry = refl

ended-entry : entry_obeys (entry (node top top (live 1 1 ∷ []))) ≡ true
unfolding all entry_obeys node_obeys rec_obeys differ keys_rise versions among
ended-entry = refl

packed-entry : entry_obeys (entry (node 0 32 (records 32))) ≡ true
unfolding all entry_obeys node_obeys rec_obeys differ keys_rise versions among records less_bytes
packed-entry = refl

-- no bytes are no overrides
none_over : valid_node [] ≡ false
none_over = sym (length-stops [] (λ e. omega arith))

over-good : (rule : Entry → Given (Result (Unit {0}) Refusal) Entry) (e : Entry) → entry_obeys e ≡ true → (n : ℕ) → (answer_told (rule e).answer).number ≡ n
    → (answer_told (on_overrides (Err BadTable) rule (encode_node e)).answer).number ≡ n
unfolding on_overrides
over-good rule e o n q =
    ap (λ (b : Bool). (answer_told (pick b (stored_node (rule (decode_node (encode_node e)))) (given (Err BadTable) (encode_node e))).answer).number) (valid-by-node e o)
    ∙ ap (λ (x : Entry). (answer_told (rule x).answer).number) (decode-encode-node e (fits-entry e (entry-obeys e o)))
    ∙ q

over-bad : (rule : Entry → Given (Result (Unit {0}) Refusal) Entry) (n : ℕ) → (answer_told (Err BadTable)).number ≡ n → (answer_told (on_overrides (Err BadTable) rule []).answer).number ≡ n
unfolding on_overrides
over-bad rule n e = ap (λ (b : Bool). (answer_told (pick b (stored_node (rule (decode_node []))) (given (Err BadTable) [])).answer).number) none_over ∙ e

new-over : AllShown calls.NewOverrides (0 ∷ 14 ∷ [])
unfolding calls.leaves lent_new_overrides answer_told
new-over = (
  calls.new-overrides (encode_node (entry fresh)) seven,
  ap (λ (b : Bool). (answer_told (pick b (given done (encode_node (fresh_entry 7))) (given (Err BadTable) (encode_node (entry fresh)))).answer).number)
      (eq-eqb (length (encode_node (entry fresh))) node_width (length-node (entry fresh))),
)
    and (calls.new-overrides [] seven, refl)
    and no_more

writes-over : AllShown calls.WriteOverride (0 ∷ 14 ∷ 10 ∷ 1 ∷ 5 ∷ 6 ∷ [])
unfolding calls.leaves answer_told overrides.written decide wish act find same_bytes zeros records
writes-over =
    (calls.write-override (encode_node (entry fresh)) [] [] under-set seven, over-good (overrides.written 0 [] 7 []) (entry fresh) newly-entry 0 refl)
    and (calls.write-override [] [] [] under-set seven, over-bad (overrides.written 0 [] 7 []) 14 refl)
    and (calls.write-override (encode_node (entry fresh)) [] [] seven seven, over-good (overrides.written 7 [] 7 []) (entry fresh) newly-entry 10 refl)
    and (calls.write-override (encode_node (entry fresh)) (zeros 33) [] under-ttl seven, over-good (overrides.written 2 [] 7 (zeros 33)) (entry fresh) newly-entry 1 refl)
    and (calls.write-override (encode_node (entry (node 0 32 (records 32)))) [] [] under-set seven, over-good (overrides.written 0 [] 7 []) (entry (node 0 32 (records 32))) packed-entry 5 refl)
    and (calls.write-override (encode_node (entry (node top top (live 1 1 ∷ [])))) [] [] under-ttl seven, over-good (overrides.written 2 [] 7 []) (entry (node top top (live 1 1 ∷ []))) ended-entry 6 refl)
    and no_more

deletes-over : AllShown calls.DeleteOverride (0 ∷ 14 ∷ 1 ∷ 3 ∷ 6 ∷ [])
unfolding calls.leaves answer_told decide wish act find same_bytes zeros
deletes-over =
    (calls.delete-override (encode_node (entry (node 1 1 (live 1 1 ∷ [])))) (1 ∷ []) seven, over-good (overrides.called (Deleting 7) (1 ∷ [])) (entry (node 1 1 (live 1 1 ∷ []))) usual-entry 0 refl)
    and (calls.delete-override [] [] seven, over-bad (overrides.called (Deleting 7) []) 14 refl)
    and (calls.delete-override (encode_node (entry fresh)) (zeros 33) seven, over-good (overrides.called (Deleting 7) (zeros 33)) (entry fresh) newly-entry 1 refl)
    and (calls.delete-override (encode_node (entry fresh)) [] seven, over-good (overrides.called (Deleting 7) []) (entry fresh) newly-entry 3 refl)
    and (calls.delete-override (encode_node (entry (node top top (live 1 1 ∷ [])))) (1 ∷ []) seven, over-good (overrides.called (Deleting 7) (1 ∷ [])) (entry (node top top (live 1 1 ∷ []))) ended-entry 6 refl)
    and no_more

deletes-over-ttl : AllShown calls.DeleteOverrideAfterTtl (0 ∷ 14 ∷ 1 ∷ 3 ∷ 6 ∷ [])
unfolding calls.leaves answer_told decide wish act find same_bytes zeros
deletes-over-ttl =
    (calls.delete-override-after-ttl (encode_node (entry (node 1 1 (live 1 1 ∷ [])))) (1 ∷ []) seven, over-good (overrides.called (DeletingAfterTtl 7) (1 ∷ [])) (entry (node 1 1 (live 1 1 ∷ []))) usual-entry 0 refl)
    and (calls.delete-override-after-ttl [] [] seven, over-bad (overrides.called (DeletingAfterTtl 7) []) 14 refl)
    and (calls.delete-override-after-ttl (encode_node (entry fresh)) (zeros 33) seven, over-good (overrides.called (DeletingAfterTtl 7) (zeros 33)) (entry fresh) newly-entry 1 refl)
    and (calls.delete-override-after-ttl (encode_node (entry fresh)) [] seven, over-good (overrides.called (DeletingAfterTtl 7) []) (entry fresh) newly-entry 3 refl)
    and (calls.delete-override-after-ttl (encode_node (entry (node top top (live 1 1 ∷ [])))) (1 ∷ []) seven, over-good (overrides.called (DeletingAfterTtl 7) (1 ∷ [])) (entry (node top top (live 1 1 ∷ []))) ended-entry 6 refl)
    and no_more

cleans-over : AllShown calls.RemoveOverrides (0 ∷ 14 ∷ [])
unfolding calls.leaves answer_told
cleans-over =
    (calls.remove-overrides (encode_node (entry fresh)) seven seven, over-good (overrides.cleaned 7 7) (entry fresh) newly-entry 0 refl)
    and (calls.remove-overrides [] seven seven, over-bad (overrides.cleaned 7 7) 14 refl)
    and no_more

-- overrides without a record, read together with a table
abbrev none-laid : Bytes
none-laid = encode_node (entry fresh)

both-good : {A : Type 0} (number : A → ℕ) (bad : Which → A) (rule : Profile → Node → Table → A) (w : Whole) → obeys_whole w ≡ true → (n : ℕ)
    → number (rule w.kind.profile fresh w.table) ≡ n
    → number (from_both bad (rule (decode_whole (encode_whole w)).kind.profile) none-laid (encode_whole w)) ≡ n
unfolding from_both
both-good {A} number bad rule w o n e =
    ap (λ (b : Bool). number (pick b (from_table (bad which.Table) (at (decode_node none-laid).node) (encode_whole w)) (bad which.Overrides))) (valid-by-node (entry fresh) newly-entry)
    ∙ ap (λ (x : Entry). number (from_table (bad which.Table) (at x.node) (encode_whole w))) (decode-encode-node (entry fresh) (fits-entry (entry fresh) (entry-obeys (entry fresh) newly-entry)))
    ∙ seen-good number (bad which.Table) (λ p. rule p fresh) w o n e
  where
    at : Node → Table → A
    at x = rule (decode_whole (encode_whole w)).kind.profile x

both-bad : {A : Type 0} (number : A → ℕ) (bad : Which → A) (rule : Node → Table → A) (t : Bytes) (n : ℕ) → number (bad which.Overrides) ≡ n → number (from_both bad rule [] t) ≡ n
unfolding from_both
both-bad number bad rule t n e = ap (λ (b : Bool). number (pick b (from_table (bad which.Table) (rule (decode_node []).node) t) (bad which.Overrides))) none_over ∙ e

finds-over : AllShown calls.FindOver (0 ∷ 14 ∷ 2 ∷ 1 ∷ 19 ∷ [])
unfolding calls.leaves found_over_told node_of find_rec zeros alone keep
finds-over =
    (calls.find-over (lent newly) none-laid [] seven Nobody, both-good (λ a. (found_over_told a).number) (λ w. (Err (record { which = w; why = BadTable }))) (λ p. found_over p Nobody 7 []) (whole newly) (whole-obeys newly newly-obeys) 0 refl)
    and (calls.find-over [] [] [] seven Nobody, both-bad (λ a. (found_over_told a).number) (λ w. (Err (record { which = w; why = BadTable }))) (found_over (decode_whole []).kind.profile Nobody 7 []) [] 14 refl)
    and (calls.find-over (lent []) none-laid [] seven Nobody, both-good (λ a. (found_over_told a).number) (λ w. (Err (record { which = w; why = BadTable }))) (λ p. found_over p Nobody 7 []) (whole []) (whole-obeys [] none-obeys) 2 refl)
    and (calls.find-over (lent newly) none-laid (zeros 33) seven Nobody, both-good (λ a. (found_over_told a).number) (λ w. (Err (record { which = w; why = BadTable }))) (λ p. found_over p Nobody 7 (zeros 33)) (whole newly) (whole-obeys newly newly-obeys) 1 refl)
    and (calls.find-over (encode_whole (shared newly)) none-laid [] seven Nobody, both-good (λ a. (found_over_told a).number) (λ w. (Err (record { which = w; why = BadTable }))) (λ p. found_over p Nobody 7 []) (shared newly) shared-newly-obeys 19 refl)
    and no_more

lists-over : AllShown calls.ListOver (0 ∷ 14 ∷ 2 ∷ 1 ∷ 8 ∷ [])
unfolding calls.leaves listed_over_told node_of merging.listing merging.hits_by merging.overlaid merging.places_of starts_with zeros
lists-over =
    (calls.list-over (lent newly) none-laid [] [] seven Nobody, both-good (λ (a : Given (Result ℕ RefusedOver) Bytes). (listed_over_told a.answer).number) (λ w. given (Err (record { which = w; why = BadTable })) []) (λ p. list_over p Nobody 7 [] []) (whole newly) (whole-obeys newly newly-obeys) 0 refl)
    and (calls.list-over [] [] [] [] seven Nobody, both-bad (λ (a : Given (Result ℕ RefusedOver) Bytes). (listed_over_told a.answer).number) (λ w. given (Err (record { which = w; why = BadTable })) []) (list_over (decode_whole []).kind.profile Nobody 7 [] []) [] 14 refl)
    and (calls.list-over (lent []) none-laid [] [] seven Nobody, both-good (λ (a : Given (Result ℕ RefusedOver) Bytes). (listed_over_told a.answer).number) (λ w. given (Err (record { which = w; why = BadTable })) []) (λ p. list_over p Nobody 7 [] []) (whole []) (whole-obeys [] none-obeys) 2 refl)
    and (calls.list-over (lent newly) none-laid (zeros 33) [] seven Nobody, both-good (λ (a : Given (Result ℕ RefusedOver) Bytes). (listed_over_told a.answer).number) (λ w. given (Err (record { which = w; why = BadTable })) []) (λ p. list_over p Nobody 7 (zeros 33) []) (whole newly) (whole-obeys newly newly-obeys) 1 refl)
    and (calls.list-over (lent usual) none-laid [] [] seven Nobody, both-good (λ (a : Given (Result ℕ RefusedOver) Bytes). (listed_over_told a.answer).number) (λ w. given (Err (record { which = w; why = BadTable })) []) (λ p. list_over p Nobody 7 [] []) (whole usual) (whole-obeys usual usual-obeys) 8 refl)
    and no_more

-- ---- grids: those of small tables, in their bytes

-- nobody is present; peer 0 is, and has told nothing
abbrev made : (table : Table) → Grid
made t = new_grid (numbers_of t)

abbrev heard : (table : Table) → Grid
heard t = tell_row 0 [] (made t)

heard-sound : (t : Table) → obeys t ≡ true → Sound (heard t)
unfolding told_of
heard-sound t o = tell-sound (made t) (table-sound t o) 0 [] (λ i. ltb-true 0 numbers refl) (λ i. ltb-true 0 numbers refl)

-- no bytes are no grid
none-grid : valid_grid [] ≡ false
none-grid = valid-long [] (λ e. omega arith)

none_both : valid_both [] [] ≡ false
unfolding valid_both
none_both = ap (λ (b : Bool). b && (valid_whole [] && fits_table (decode_grid []) (decode_whole []).table)) none-grid

grid-good : {A : Type 0} (number : A → ℕ) (g : Grid) → Sound g → (rule : Grid → A) (bad : A) (n : ℕ) → number (rule g) ≡ n
    → number (pick (valid_grid (encode_grid g)) (rule (decode_grid (encode_grid g))) bad) ≡ n
grid-good number g s rule bad n e =
    ap (λ (b : Bool). number (pick b (rule (decode_grid (encode_grid g))) bad)) (sound-valid g s) ∙ ap (λ (x : Grid). number (rule x)) (decode-encode-grid g s.fits) ∙ e

grid-bad : {A : Type 0} (number : A → ℕ) (x bad : A) (n : ℕ) → number bad ≡ n → number (pick (valid_grid []) x bad) ≡ n
grid-bad number x bad n e = ap (λ (b : Bool). number (pick b x bad)) none-grid ∙ e

beside-good : {A : Type 0} (number : A → ℕ) (g : Grid) → Sound g → (t : Table) → obeys t ≡ true → columns g ≡ numbers_of t → (rule : Grid → Whole → A) (bad : A) (n : ℕ) → number (rule g (whole t)) ≡ n
    → number (pick (valid_both (encode_grid g) (lent t)) (rule (decode_grid (encode_grid g)) (decode_whole (lent t))) bad) ≡ n
beside-good number g s t o c rule bad n e =
    ap (λ (b : Bool). number (pick b (rule (decode_grid (encode_grid g)) (decode_whole (lent t))) bad)) (together g s (whole t) (whole-obeys t o) c)
    ∙ ap₂ (λ (x : Grid) (w : Whole). number (rule x w)) (decode-encode-grid g s.fits) (decode-encode-whole (whole t) (whole-obeys t o))
    ∙ e

beside-bad : {A : Type 0} (number : A → ℕ) (x bad : A) (n : ℕ) → number bad ≡ n → number (pick (valid_both [] []) x bad) ≡ n
beside-bad number x bad n e = ap (λ (b : Bool). number (pick b x bad)) none_both ∙ e

abbrev answered : {M : Type 0} → Given (Result (Unit {0}) Refusal) M → ℕ
answered a = (answer_told a.answer).number

grids-made : AllShown calls.NewGrid (0 ∷ 14 ∷ [])
unfolding calls.leaves lent_new_grid answer_told
grids-made = (
  calls.new-grid (lent []) (encode_grid (made [])),
  ap (λ (b : Bool). answered (pick b (given done (encode_grid (new_grid (numbers_of (decode_whole (lent [])).table)))) (given (Err BadTable) (encode_grid (made [])))))
      (and_intro (eqb (length (encode_grid (made []))) grid_width) (valid_whole (lent [])) (eq-eqb (length (encode_grid (made []))) grid_width (length-grid (made [])))
      (valid-encode-whole (whole []) (whole-obeys [] none-obeys))),
)
    and (calls.new-grid [] [], refl)
    and no_more

-- what a node that comes with its column gives
abbrev come : (i : ℕ) (g t : Bytes) (x : Grid) (w : Whole) → Given (Result (Unit {0}) Refusal) GridAndTable
come i g t x w = given (add_whole i w).answer (beside (grid_on (add_whole i w).answer (encode_grid (add_column i x)) g) (encode_whole (add_whole i w).lent))

abbrev go-away : (i : ℕ) (g t : Bytes) (x : Grid) (w : Whole) → Given (Result (Unit {0}) Refusal) GridAndTable
go-away i g t x w = given (remove_whole i w).answer (beside (grid_on (remove_whole i w).answer (encode_grid (drop_column i x)) g) (encode_whole (remove_whole i w).lent))

came : AllShown calls.GridAddNode (0 ∷ 14 ∷ 4 ∷ [])
unfolding calls.leaves answer_told lent_column_in add_whole add among numbers_of nodes
came =
    (calls.grid_add_node (lent []) (encode_grid (made [])) seven, beside-good answered (made []) (table-sound [] none-obeys) [] none-obeys (table-columns [] none-obeys) (come 7 (encode_grid (made [])) (lent [])) _ 0 refl)
    and (calls.grid_add_node [] [] seven, beside-bad answered (come 7 [] [] (decode_grid []) (decode_whole [])) _ 14 refl)
    and (calls.grid_add_node (lent crowded) (encode_grid (made crowded)) nine, beside-good answered (made crowded) (table-sound crowded crowded-obeys) crowded crowded-obeys (table-columns crowded crowded-obeys) (come 9 (encode_grid (made crowded)) (lent crowded)) _ 4 refl)
    and no_more

went : AllShown calls.GridRemoveNode (0 ∷ 14 ∷ 2 ∷ [])
unfolding calls.leaves answer_told lent_column_out remove_whole remove_node among numbers_of
went =
    (calls.grid_remove_node (lent newly) (encode_grid (made newly)) seven, beside-good answered (made newly) (table-sound newly newly-obeys) newly newly-obeys (table-columns newly newly-obeys) (go-away 7 (encode_grid (made newly)) (lent newly)) _ 0 refl)
    and (calls.grid_remove_node [] [] seven, beside-bad answered (go-away 7 [] [] (decode_grid []) (decode_whole [])) _ 14 refl)
    and (calls.grid_remove_node (lent []) (encode_grid (made [])) seven, beside-good answered (made []) (table-sound [] none-obeys) [] none-obeys (table-columns [] none-obeys) (go-away 7 (encode_grid (made [])) (lent [])) _ 2 refl)
    and no_more

-- the grid of no node
abbrev bare : Bytes
bare = encode_grid (made [])

abbrev hear : (p edition : ℕ) (digest g : Bytes) (x : Grid) → Given (Result (Unit {0}) Refusal) Bytes
hear p edition digest g x = pick (ltb p max_peers) (tell_on p (read_digest edition digest) g) (given (Err BadPeer) g)

heard-so : (p edition : ℕ) (digest : Bytes) (n : ℕ) → answered (hear p edition digest bare (made [])) ≡ n → answered (lent_tell p edition digest bare) ≡ n
unfolding lent_tell
heard-so p edition digest n e = grid-good answered (made []) (table-sound [] none-obeys) (hear p edition digest bare) (given (Err BadTable) bare) n e

tells : AllShown calls.Tell (0 ∷ 14 ∷ 21 ∷ 20 ∷ 9 ∷ 13 ∷ [])
unfolding calls.leaves answer_told read_digest read_entries nat_of unblock tell_all lent_tell all received
tells =
    (calls.tell bare (received (0 ∷ 0 ∷ []) refl) 0 0, heard-so 0 0 (0 ∷ 0 ∷ []) 0 refl)
    and (calls.tell [] (received [] refl) 0 0, grid-bad answered (hear 0 0 [] [] (decode_grid [])) (given (Err BadTable) []) 14 refl)
    and (calls.tell bare (received [] refl) 8 2, heard-so 8 2 [] 21 refl)
    and (calls.tell bare (received [] refl) 0 2, heard-so 0 2 [] 20 refl)
    and (calls.tell bare (received [] refl) 0 0, heard-so 0 0 [] 9 refl)
    and (calls.tell bare (received (9 ∷ 0 ∷ []) refl) 0 0, heard-so 0 0 (9 ∷ 0 ∷ []) 13 refl)
    and no_more

abbrev take-away : (p : ℕ) (g : Bytes) (x : Grid) → Given (Result (Unit {0}) Refusal) Bytes
take-away p g x = pick (ltb p max_peers) (given done (encode_grid (take_out p x))) (given (Err BadPeer) g)

taken_out : AllShown calls.TakeOut (0 ∷ 14 ∷ 21 ∷ [])
unfolding calls.leaves answer_told lent_take_out
taken_out =
    (calls.take-out bare 0, grid-good answered (made []) (table-sound [] none-obeys) (take-away 0 bare) (given (Err BadTable) bare) 0 refl)
    and (calls.take-out [] 0, grid-bad answered (take-away 0 [] (decode_grid [])) (given (Err BadTable) []) 14 refl)
    and (calls.take-out bare 8, grid-good answered (made []) (table-sound [] none-obeys) (take-away 8 bare) (given (Err BadTable) bare) 21 refl)
    and no_more

leasts : AllShown calls.LeastMax (0 ∷ 14 ∷ 22 ∷ 2 ∷ [])
unfolding calls.leaves least_told lent_least new_grid tell_row numbers_of among fit zeros
leasts =
    (calls.least-max (encode_grid (heard newly)) 7, grid-good (λ a. (least_told a).number) (heard newly) (heard-sound newly newly-obeys) (least_in 7) (Err BadTable) 0 refl)
    and (calls.least-max [] 7, grid-bad (λ a. (least_told a).number) (least_in 7 (decode_grid [])) (Err BadTable) 14 refl)
    and (calls.least-max bare 7, grid-good (λ a. (least_told a).number) (made []) (table-sound [] none-obeys) (least_in 7) (Err BadTable) 22 refl)
    and (calls.least-max (encode_grid (heard [])) 7, grid-good (λ a. (least_told a).number) (heard []) (heard-sound [] none-obeys) (least_in 7) (Err BadTable) 2 refl)
    and no_more

seen-pairs : AllShown calls.SeenBy (0 ∷ 14 ∷ 21 ∷ 2 ∷ [])
unfolding calls.leaves seen_told lent_seen new_grid numbers_of among fit zeros
seen-pairs =
    (calls.seen-by (encode_grid (made newly)) 0 7, grid-good (λ a. (seen_told a).number) (made newly) (table-sound newly newly-obeys) (seen_in 0 7) (Err BadTable) 0 refl)
    and (calls.seen-by [] 0 7, grid-bad (λ a. (seen_told a).number) (seen_in 0 7 (decode_grid [])) (Err BadTable) 14 refl)
    and (calls.seen-by bare 8 7, grid-good (λ a. (seen_told a).number) (made []) (table-sound [] none-obeys) (seen_in 8 7) (Err BadTable) 21 refl)
    and (calls.seen-by bare 0 7, grid-good (λ a. (seen_told a).number) (made []) (table-sound [] none-obeys) (seen_in 0 7) (Err BadTable) 2 refl)
    and no_more

abbrev clear : (t : Bytes) (x : Grid) (w : Whole) → Given (Result (Unit {0}) Refusal) Bytes
clear t x w = pick (somebody x) (given done (encode_whole (with_table (carefully_removed x 7 7 w.table) w))) (given (Err NobodyPresent) t)

carefully : AllShown calls.RemoveCarefully (0 ∷ 14 ∷ 22 ∷ [])
unfolding calls.leaves answer_told lent_careful new_grid tell_row numbers_of among fit zeros
carefully =
    (calls.remove-carefully (lent []) (encode_grid (heard [])) seven seven, beside-good answered (heard []) (heard-sound [] none-obeys) [] none-obeys refl (clear (lent [])) (given (Err BadTable) (lent [])) 0 refl)
    and (calls.remove-carefully [] [] seven seven, beside-bad answered (clear [] (decode_grid []) (decode_whole [])) (given (Err BadTable) []) 14 refl)
    and (calls.remove-carefully (lent []) bare seven seven, beside-good answered (made []) (table-sound [] none-obeys) [] none-obeys refl (clear (lent [])) (given (Err BadTable) (lent [])) 22 refl)
    and no_more

-- ---- readings of a table

counts : AllShown calls.NodeCount (0 ∷ 14 ∷ [])
unfolding calls.leaves count_told
counts =
    (calls.node-count (lent []), from-good (λ a. (count_told a).number) (Err BadTable) node_count [] none-obeys 0 refl)
    and (calls.node-count [], from-bad (λ a. (count_told a).number) (Err BadTable) node_count 14 refl)
    and no_more

numbered : AllShown calls.NodeNumber (0 ∷ 14 ∷ 8 ∷ [])
unfolding calls.leaves node_number_told element_at
numbered =
    (calls.node-number (lent newly) 0, from-good (λ a. (node_number_told a).number) (Err BadTable) (node_number 0) newly newly-obeys 0 refl)
    and (calls.node-number [] 0, from-bad (λ a. (node_number_told a).number) (Err BadTable) (node_number 0) 14 refl)
    and (calls.node-number (lent []) 0, from-good (λ a. (node_number_told a).number) (Err BadTable) (node_number 0) [] none-obeys 8 refl)
    and no_more

headed : AllShown calls.NodeHeader (0 ∷ 14 ∷ 2 ∷ [])
unfolding calls.leaves node_header_told node_of
headed =
    (calls.node-header (lent newly) seven, from-good (λ a. (node_header_told a).number) (Err BadTable) (node_header 7) newly newly-obeys 0 refl)
    and (calls.node-header [] seven, from-bad (λ a. (node_header_told a).number) (Err BadTable) (node_header 7) 14 refl)
    and (calls.node-header (lent []) seven, from-good (λ a. (node_header_told a).number) (Err BadTable) (node_header 7) [] none-obeys 2 refl)
    and no_more

record-counts : AllShown calls.RecordCount (0 ∷ 14 ∷ 2 ∷ [])
unfolding calls.leaves count_told node_of
record-counts =
    (calls.record-count (lent newly) seven Nobody, seen-good (λ a. (count_told a).number) (Err BadTable) (λ p. record_count_as p Nobody 7) (whole newly) (whole-obeys newly newly-obeys) 0 refl)
    and (calls.record-count [] seven Nobody, from-bad (λ a. (count_told a).number) (Err BadTable) (record_count_as (decode_whole []).kind.profile Nobody 7) 14 refl)
    and (calls.record-count (lent []) seven Nobody, seen-good (λ a. (count_told a).number) (Err BadTable) (λ p. record_count_as p Nobody 7) (whole []) (whole-obeys [] none-obeys) 2 refl)
    and no_more

records-at : AllShown calls.RecordAt (0 ∷ 14 ∷ 2 ∷ 8 ∷ [])
unfolding calls.leaves record_read_told node_of element_at
records-at =
    (calls.record-at (lent usual) seven 0 Nobody, seen-good (λ a. (record_read_told a).number) (Err BadTable) (λ p. read_record_as p Nobody 7 0) (whole usual) (whole-obeys usual usual-obeys) 0 refl)
    and (calls.record-at [] seven 0 Nobody, from-bad (λ a. (record_read_told a).number) (Err BadTable) (read_record_as (decode_whole []).kind.profile Nobody 7 0) 14 refl)
    and (calls.record-at (lent []) seven 0 Nobody, seen-good (λ a. (record_read_told a).number) (Err BadTable) (λ p. read_record_as p Nobody 7 0) (whole []) (whole-obeys [] none-obeys) 2 refl)
    and (calls.record-at (lent newly) seven 0 Nobody, seen-good (λ a. (record_read_told a).number) (Err BadTable) (λ p. read_record_as p Nobody 7 0) (whole newly) (whole-obeys newly newly-obeys) 8 refl)
    and no_more

records-of : AllShown calls.RecordOf (0 ∷ 14 ∷ 8 ∷ [])
unfolding calls.leaves record_read_told element_at
records-of =
    (calls.record-of (lent usual) 0 0 Nobody, seen-good (λ a. (record_read_told a).number) (Err BadTable) (λ p. record_of_as p Nobody 0 0) (whole usual) (whole-obeys usual usual-obeys) 0 refl)
    and (calls.record-of [] 0 0 Nobody, from-bad (λ a. (record_read_told a).number) (Err BadTable) (record_of_as (decode_whole []).kind.profile Nobody 0 0) 14 refl)
    and (calls.record-of (lent newly) 0 0 Nobody, seen-good (λ a. (record_read_told a).number) (Err BadTable) (λ p. record_of_as p Nobody 0 0) (whole newly) (whole-obeys newly newly-obeys) 8 refl)
    and no_more

keyed : AllShown calls.RecordByKey (0 ∷ 14 ∷ 2 ∷ 1 ∷ 19 ∷ [])
unfolding calls.leaves record_read_told node_of read_key zeros alone keep
keyed =
    (calls.record-by-key (lent newly) [] seven Nobody, seen-good (λ a. (record_read_told a).number) (Err BadTable) (λ p. record_by_key_as p Nobody 7 []) (whole newly) (whole-obeys newly newly-obeys) 0 refl)
    and (calls.record-by-key [] [] seven Nobody, from-bad (λ a. (record_read_told a).number) (Err BadTable) (record_by_key_as (decode_whole []).kind.profile Nobody 7 []) 14 refl)
    and (calls.record-by-key (lent []) [] seven Nobody, seen-good (λ a. (record_read_told a).number) (Err BadTable) (λ p. record_by_key_as p Nobody 7 []) (whole []) (whole-obeys [] none-obeys) 2 refl)
    and (calls.record-by-key (lent newly) (zeros 33) seven Nobody, seen-good (λ a. (record_read_told a).number) (Err BadTable) (λ p. record_by_key_as p Nobody 7 (zeros 33)) (whole newly) (whole-obeys newly newly-obeys) 1 refl)
    and (calls.record-by-key (encode_whole (shared newly)) [] seven Nobody, seen-good (λ a. (record_read_told a).number) (Err BadTable) (λ p. record_by_key_as p Nobody 7 []) (shared newly) shared-newly-obeys 19 refl)
    and no_more

all-rows : AllShown calls.NodeRows (0 ∷ 14 ∷ 2 ∷ [])
unfolding calls.leaves rows_told node_of
all-rows =
    (calls.node-rows (lent newly) seven Nobody, seen-good (λ a. (rows_told a).number) (Err BadTable) (λ p. node_rows_as p Nobody 7) (whole newly) (whole-obeys newly newly-obeys) 0 refl)
    and (calls.node-rows [] seven Nobody, from-bad (λ a. (rows_told a).number) (Err BadTable) (node_rows_as (decode_whole []).kind.profile Nobody 7) 14 refl)
    and (calls.node-rows (lent []) seven Nobody, seen-good (λ a. (rows_told a).number) (Err BadTable) (λ p. node_rows_as p Nobody 7) (whole []) (whole-obeys [] none-obeys) 2 refl)
    and no_more

fronts : AllShown calls.Front (0 ∷ 14 ∷ 2 ∷ [])
unfolding calls.leaves count_told node_of
fronts =
    (calls.front (lent newly) seven Nobody, seen-good (λ a. (count_told a).number) (Err BadTable) (λ p. front_as p Nobody 7) (whole newly) (whole-obeys newly newly-obeys) 0 refl)
    and (calls.front [] seven Nobody, from-bad (λ a. (count_told a).number) (Err BadTable) (front_as (decode_whole []).kind.profile Nobody 7) 14 refl)
    and (calls.front (lent []) seven Nobody, seen-good (λ a. (count_told a).number) (Err BadTable) (λ p. front_as p Nobody 7) (whole []) (whole-obeys [] none-obeys) 2 refl)
    and no_more

some-rows : AllShown calls.PrefixRows (0 ∷ 14 ∷ 2 ∷ 1 ∷ [])
unfolding calls.leaves rows_told node_of zeros
some-rows =
    (calls.prefix-rows (lent newly) [] seven Nobody, seen-good (λ a. (rows_told a).number) (Err BadTable) (λ p. prefix_rows_as p Nobody 7 []) (whole newly) (whole-obeys newly newly-obeys) 0 refl)
    and (calls.prefix-rows [] [] seven Nobody, from-bad (λ a. (rows_told a).number) (Err BadTable) (prefix_rows_as (decode_whole []).kind.profile Nobody 7 []) 14 refl)
    and (calls.prefix-rows (lent []) [] seven Nobody, seen-good (λ a. (rows_told a).number) (Err BadTable) (λ p. prefix_rows_as p Nobody 7 []) (whole []) (whole-obeys [] none-obeys) 2 refl)
    and (calls.prefix-rows (lent newly) (zeros 33) seven Nobody, seen-good (λ a. (rows_told a).number) (Err BadTable) (λ p. prefix_rows_as p Nobody 7 (zeros 33)) (whole newly) (whole-obeys newly newly-obeys) 1 refl)
    and no_more

texts : AllShown calls.FindText (0 ∷ 14 ∷ 2 ∷ 8 ∷ [])
unfolding calls.leaves found_told node_of element_at
texts =
    (calls.find-text (lent usual) seven 0 text.Key Nobody, seen-good (λ a. (found_told a).number) (Err BadTable) (λ p. text_found_as p Nobody text.Key 7 0) (whole usual) (whole-obeys usual usual-obeys) 0 refl)
    and (calls.find-text [] seven 0 text.Key Nobody, from-bad (λ a. (found_told a).number) (Err BadTable) (text_found_as (decode_whole []).kind.profile Nobody text.Key 7 0) 14 refl)
    and (calls.find-text (lent []) seven 0 text.Key Nobody, seen-good (λ a. (found_told a).number) (Err BadTable) (λ p. text_found_as p Nobody text.Key 7 0) (whole []) (whole-obeys [] none-obeys) 2 refl)
    and (calls.find-text (lent newly) seven 0 text.Key Nobody, seen-good (λ a. (found_told a).number) (Err BadTable) (λ p. text_found_as p Nobody text.Key 7 0) (whole newly) (whole-obeys newly newly-obeys) 8 refl)
    and no_more

-- ---- digests

digests : AllShown calls.WriteDigest (0 ∷ 14 ∷ 20 ∷ 8 ∷ [])
unfolding calls.leaves written_told write_digest digest_of digest_bytes head_width zeros bytes_of flat
digests =
    (calls.write-digest (lent []) 0 [] (zeros 2) 0, from-good (λ (a : Given (Result ℕ Refusal) Bytes). (written_told a.answer).number) (given (Err BadTable) (zeros 2)) (λ t. write_digest 0 [] 0 t (zeros 2)) [] none-obeys 0 refl)
    and (calls.write-digest [] 0 [] [] 0, from-bad (λ (a : Given (Result ℕ Refusal) Bytes). (written_told a.answer).number) (given (Err BadTable) []) (λ t. write_digest 0 [] 0 t []) 14 refl)
    and (calls.write-digest (lent []) 2 [] [] 0, from-good (λ (a : Given (Result ℕ Refusal) Bytes). (written_told a.answer).number) (given (Err BadTable) []) (λ t. write_digest 2 [] 0 t []) [] none-obeys 20 refl)
    and (calls.write-digest (lent []) 0 [] [] 0, from-good (λ (a : Given (Result ℕ Refusal) Bytes). (written_told a.answer).number) (given (Err BadTable) []) (λ t. write_digest 0 [] 0 t []) [] none-obeys 8 refl)
    and no_more

digest-reads : AllShown calls.ReadDigest (0 ∷ 20 ∷ 9 ∷ 13 ∷ [])
unfolding calls.leaves digest_told digest_in read_digest read_entries nat_of unblock tell_all
digest-reads =
    (calls.read-digest 0 (0 ∷ 0 ∷ []), refl)
    and (calls.read-digest 2 [], refl)
    and (calls.read-digest 0 [], refl)
    and (calls.read-digest 0 (9 ∷ 0 ∷ []), refl)
    and no_more

entries : AllShown calls.DigestEntry (0 ∷ 20 ∷ 9 ∷ 13 ∷ 8 ∷ [])
unfolding calls.leaves entry_told digest_in read_digest read_entries nat_of unblock tell tell_all zeros
entries =
    (calls.digest_entry (zeros 32) 1 0, refl)
    and (calls.digest_entry [] 2 0, refl)
    and (calls.digest_entry [] 0 0, refl)
    and (calls.digest_entry (9 ∷ 0 ∷ []) 0 0, refl)
    and (calls.digest_entry [] 1 0, refl)
    and no_more

-- ---- deltas

computes : AllShown calls.Compute (0 ∷ 14 ∷ 20 ∷ 7 ∷ 8 ∷ 15 ∷ 9 ∷ 13 ∷ [])
unfolding calls.leaves computed_told computing.compute read_digest read_entries nat_of unblock tell_all zeros
computes =
    (calls.compute (lent []) 0 (0 ∷ 0 ∷ []) [] [] (zeros 100) 100 0, from-good (λ (a : Given (Result Sent Refusal) Bytes). (computed_told a.answer).number) (given (Err BadTable) (zeros 100)) (λ t. computing.compute 0 [] [] 100 0 (0 ∷ 0 ∷ []) t (zeros 100)) [] none-obeys 0 refl)
    and (calls.compute [] 0 [] [] [] [] 100 0, from-bad (λ (a : Given (Result Sent Refusal) Bytes). (computed_told a.answer).number) (given (Err BadTable) []) (λ t. computing.compute 0 [] [] 100 0 [] t []) 14 refl)
    and (calls.compute (lent []) 2 [] [] [] [] 99 0, from-good (λ (a : Given (Result Sent Refusal) Bytes). (computed_told a.answer).number) (given (Err BadTable) []) (λ t. computing.compute 2 [] [] 99 0 [] t []) [] none-obeys 20 refl)
    and (calls.compute (lent []) 0 [] [] [] [] 99 0, from-good (λ (a : Given (Result Sent Refusal) Bytes). (computed_told a.answer).number) (given (Err BadTable) []) (λ t. computing.compute 0 [] [] 99 0 [] t []) [] none-obeys 7 refl)
    and (calls.compute (lent []) 0 [] [] [] [] 100 0, from-good (λ (a : Given (Result Sent Refusal) Bytes). (computed_told a.answer).number) (given (Err BadTable) []) (λ t. computing.compute 0 [] [] 100 0 [] t []) [] none-obeys 8 refl)
    and (calls.compute (lent []) 0 [] [] (0 ∷ []) (zeros 100) 100 0, from-good (λ (a : Given (Result Sent Refusal) Bytes). (computed_told a.answer).number) (given (Err BadTable) (zeros 100)) (λ t. computing.compute 0 [] (0 ∷ []) 100 0 [] t (zeros 100)) [] none-obeys 15 refl)
    and (calls.compute (lent []) 0 [] [] [] (zeros 100) 100 0, from-good (λ (a : Given (Result Sent Refusal) Bytes). (computed_told a.answer).number) (given (Err BadTable) (zeros 100)) (λ t. computing.compute 0 [] [] 100 0 [] t (zeros 100)) [] none-obeys 9 refl)
    and (calls.compute (lent []) 0 (9 ∷ 0 ∷ []) [] [] (zeros 100) 100 0, from-good (λ (a : Given (Result Sent Refusal) Bytes). (computed_told a.answer).number) (given (Err BadTable) (zeros 100)) (λ t. computing.compute 0 [] [] 100 0 (9 ∷ 0 ∷ []) t (zeros 100)) [] none-obeys 13 refl)
    and no_more

plans : AllShown calls.ComputePlan (0 ∷ 14 ∷ 20 ∷ 7 ∷ 8 ∷ 9 ∷ 13 ∷ 23 ∷ [])
unfolding calls.leaves computed_told compute_plan accepts delta_by lines_fit plan_ops differ among delta_bytes flat read_digest read_entries nat_of unblock tell_all zeros
plans =
    (calls.compute-plan (lent []) 0 (0 ∷ 0 ∷ []) [] [] [] (zeros 100) 100 0, from-good (λ (a : Given (Result Sent Refusal) Bytes). (computed_told a.answer).number) (given (Err BadTable) (zeros 100)) (λ t. compute_plan 0 [] [] [] 100 0 (0 ∷ 0 ∷ []) t (zeros 100)) [] none-obeys 0 refl)
    and (calls.compute-plan [] 0 [] [] [] [] [] 100 0, from-bad (λ (a : Given (Result Sent Refusal) Bytes). (computed_told a.answer).number) (given (Err BadTable) []) (λ t. compute_plan 0 [] [] [] 100 0 [] t []) 14 refl)
    and (calls.compute-plan (lent []) 2 [] [] [] [] [] 99 0, from-good (λ (a : Given (Result Sent Refusal) Bytes). (computed_told a.answer).number) (given (Err BadTable) []) (λ t. compute_plan 2 [] [] [] 99 0 [] t []) [] none-obeys 20 refl)
    and (calls.compute-plan (lent []) 0 [] [] [] [] [] 99 0, from-good (λ (a : Given (Result Sent Refusal) Bytes). (computed_told a.answer).number) (given (Err BadTable) []) (λ t. compute_plan 0 [] [] [] 99 0 [] t []) [] none-obeys 7 refl)
    and (calls.compute-plan (lent []) 0 [] [] [] [] [] 100 0, from-good (λ (a : Given (Result Sent Refusal) Bytes). (computed_told a.answer).number) (given (Err BadTable) []) (λ t. compute_plan 0 [] [] [] 100 0 [] t []) [] none-obeys 8 refl)
    and (calls.compute-plan (lent []) 0 [] [] [] [] (zeros 100) 100 0, from-good (λ (a : Given (Result Sent Refusal) Bytes). (computed_told a.answer).number) (given (Err BadTable) (zeros 100)) (λ t. compute_plan 0 [] [] [] 100 0 [] t (zeros 100)) [] none-obeys 9 refl)
    and (calls.compute-plan (lent []) 0 (9 ∷ 0 ∷ []) [] [] [] (zeros 100) 100 0, from-good (λ (a : Given (Result Sent Refusal) Bytes). (computed_told a.answer).number) (given (Err BadTable) (zeros 100)) (λ t. compute_plan 0 [] [] [] 100 0 (9 ∷ 0 ∷ []) t (zeros 100)) [] none-obeys 13 refl)
    and (calls.compute-plan (lent []) 0 (0 ∷ 0 ∷ []) [] (1 ∷ []) [] (zeros 100) 100 0, from-good (λ (a : Given (Result Sent Refusal) Bytes). (computed_told a.answer).number) (given (Err BadTable) (zeros 100)) (λ t. compute_plan 0 [] (1 ∷ []) [] 100 0 (0 ∷ 0 ∷ []) t (zeros 100)) [] none-obeys 23 refl)
    and no_more

judges : AllShown calls.PlanFault (0 ∷ 14 ∷ 20 ∷ 7 ∷ 9 ∷ 13 ∷ 23 ∷ [])
unfolding calls.leaves judged_told judge_plan judge judge_from read_digest read_entries nat_of unblock tell_all
judges =
    (calls.plan-fault (lent []) 0 (0 ∷ 0 ∷ []) [] [] [] 100, from-good (λ (a : (Result (Unit {0}) NotSent)). (judged_told a).number) (Err (not_sent.Refused BadTable)) (judge_plan 0 [] [] [] 100 (0 ∷ 0 ∷ [])) [] none-obeys 0 refl)
    and (calls.plan-fault [] 0 [] [] [] [] 100, from-bad (λ (a : (Result (Unit {0}) NotSent)). (judged_told a).number) (Err (not_sent.Refused BadTable)) (judge_plan 0 [] [] [] 100 []) 14 refl)
    and (calls.plan-fault (lent []) 2 [] [] [] [] 99, from-good (λ (a : (Result (Unit {0}) NotSent)). (judged_told a).number) (Err (not_sent.Refused BadTable)) (judge_plan 2 [] [] [] 99 []) [] none-obeys 20 refl)
    and (calls.plan-fault (lent []) 0 [] [] [] [] 99, from-good (λ (a : (Result (Unit {0}) NotSent)). (judged_told a).number) (Err (not_sent.Refused BadTable)) (judge_plan 0 [] [] [] 99 []) [] none-obeys 7 refl)
    and (calls.plan-fault (lent []) 0 [] [] [] [] 100, from-good (λ (a : (Result (Unit {0}) NotSent)). (judged_told a).number) (Err (not_sent.Refused BadTable)) (judge_plan 0 [] [] [] 100 []) [] none-obeys 9 refl)
    and (calls.plan-fault (lent []) 0 (9 ∷ 0 ∷ []) [] [] [] 100, from-good (λ (a : (Result (Unit {0}) NotSent)). (judged_told a).number) (Err (not_sent.Refused BadTable)) (judge_plan 0 [] [] [] 100 (9 ∷ 0 ∷ [])) [] none-obeys 13 refl)
    and (calls.plan-fault (lent []) 0 (0 ∷ 0 ∷ []) [] (1 ∷ []) [] 100, from-good (λ (a : (Result (Unit {0}) NotSent)). (judged_told a).number) (Err (not_sent.Refused BadTable)) (judge_plan 0 [] (1 ∷ []) [] 100 (0 ∷ 0 ∷ [])) [] none-obeys 23 refl)
    and no_more

-- nine Nodes, 0 to 8
unfoldable ninth : (n : ℕ) → List Op
ninth zero = []
ninth (suc n) = NodeOp n 0 0 ∷ ninth n

delta-reads : AllShown calls.ReadDelta (0 ∷ 13 ∷ 9 ∷ 1 ∷ 10 ∷ 11 ∷ 12 ∷ [])
unfolding calls.leaves read_told delta_read read_delta read_ops read_op read_node read_key_value read_set_max_version follow nat_of among zeros delta_bytes op_bytes flat bytes_of ninth parts_of
delta-reads =
    (calls.read-delta [], refl)
    and (calls.read-delta (delta_bytes (ninth 9)), refl)
    and (calls.read-delta (0 ∷ []), refl)
    and (calls.read-delta (1 ∷ 33 ∷ 0 ∷ []), refl)
    and (calls.read-delta (3 ∷ []), refl)
    and (calls.read-delta (2 ∷ zeros 8), refl)
    and (calls.read-delta (delta_bytes (NodeOp 7 0 0 ∷ NodeOp 7 0 0 ∷ [])), refl)
    and no_more

applying-as : (w : Whole) → obeys_whole w ≡ true → (delta : calls.Received) (answers : Bytes) (n : ℕ) → (applied_told (apply (ways_in w.kind) delta.bytes 7 w.table answers).answer).number ≡ n
    → (applied_told (lent_apply delta.bytes 7 answers (encode_whole w)).answer).number ≡ n
applying-as w o delta answers n e = ap (λ (x : Given (Result ℕ DeltaFault) TableAndList). (applied_told x.answer).number) (apply-whole w o delta.bytes 7 answers) ∙ e

applying : (delta : calls.Received) (answers : Bytes) (n : ℕ) → (applied_told (apply (ways_in (kind mode.Plain Free)) delta.bytes 7 [] answers).answer).number ≡ n
    → (applied_told (lent_apply delta.bytes 7 answers (lent [])).answer).number ≡ n
applying = applying-as (whole []) (whole-obeys [] none-obeys)

-- a record without a key
abbrev odd : List Op
odd = NodeOp 7 0 0 ∷ KeyValueOp (record { key = []; value = []; version = 1; status = status.Set }) ∷ []

not-applied : (applied_told (lent_apply [] 7 [] []).answer).number ≡ 14
unfolding lent_apply_as applied_told
not-applied = ap (λ (b : Bool). (applied_told (pick b (stored_apply (decode_whole []) (apply (ways_in (decode_whole []).kind) [] 7 (decode_whole []).table [])) (given (Err (record { why = BadTable; at = 0 })) (both [] []))).answer).number) none-valid

applies : AllShown calls.Apply (0 ∷ 14 ∷ 13 ∷ 9 ∷ 1 ∷ 10 ∷ 11 ∷ 17 ∷ 19 ∷ 12 ∷ 8 ∷ [])
unfolding calls.leaves received applied_told apply all read_delta_as read_ops_as meter_key read_op read_node read_key_value read_set_max_version follow nat_of among zeros delta_bytes op_bytes text_bytes flat bytes_of ninth parts_of starts_with
applies =
    (calls.apply (lent []) (received [] refl) [] seven, applying (received [] refl) [] 0 refl)
    and (calls.apply [] (received [] refl) [] seven, not-applied)
    and (calls.apply (lent []) (received (delta_bytes (ninth 9)) refl) [] seven, applying (received (delta_bytes (ninth 9)) refl) [] 13 refl)
    and (calls.apply (lent []) (received (0 ∷ []) refl) [] seven, applying (received (0 ∷ []) refl) [] 9 refl)
    and (calls.apply (lent []) (received (1 ∷ 33 ∷ 0 ∷ []) refl) [] seven, applying (received (1 ∷ 33 ∷ 0 ∷ []) refl) [] 1 refl)
    and (calls.apply (lent []) (received (3 ∷ []) refl) [] seven, applying (received (3 ∷ []) refl) [] 10 refl)
    and (calls.apply (lent []) (received (2 ∷ zeros 8) refl) [] seven, applying (received (2 ∷ zeros 8) refl) [] 11 refl)
    and (calls.apply (encode_whole metered) (received (delta_bytes odd) refl) [] seven, applying-as metered metered-obeys (received (delta_bytes odd) refl) [] 17 refl)
    and (calls.apply (encode_whole (shared newly)) (received (delta_bytes odd) refl) [] seven, applying-as (shared newly) shared-newly-obeys (received (delta_bytes odd) refl) [] 19 refl)
    and (calls.apply (lent []) (received (delta_bytes (NodeOp 7 0 0 ∷ NodeOp 7 0 0 ∷ [])) refl) [] seven, applying (received (delta_bytes (NodeOp 7 0 0 ∷ NodeOp 7 0 0 ∷ [])) refl) [] 12 refl)
    and (calls.apply (lent []) (received (delta_bytes (NodeOp 7 0 0 ∷ [])) refl) [] seven, applying (received (delta_bytes (NodeOp 7 0 0 ∷ [])) refl) [] 8 refl)
    and no_more

shows : AllShown calls.ListDelta (0 ∷ 8 ∷ [])
unfolding calls.leaves written_told listing listing_of decimal digits read_delta read_ops zeros flat
shows =
    (calls.list-delta [] (zeros 100), refl)
    and (calls.list-delta [] [], refl)
    and no_more

-- the listing of any operations, as if they were accepted
abbrev telling : (ops : List Op) → Bytes
telling ops = listing_of (Good ops) (length (delta_bytes ops))

makes : AllShown calls.MakeDelta (0 ∷ 16 ∷ 13 ∷ 11 ∷ 12 ∷ 8 ∷ [])
unfolding calls.leaves made_told placed unlist read_lines read_line front value_from starts_with same_bytes listing_of op_line decimal digits read_delta read_ops read_op read_node read_set_max_version follow nat_of among delta_bytes op_bytes flat bytes_of ninth size_of
makes =
    (calls.make-delta (telling []) [], refl)
    and (calls.make-delta [] [], refl)
    and (calls.make-delta (telling (ninth 9)) [], refl)
    and (calls.make-delta (telling (SetMaxVersionOp 0 ∷ [])) [], refl)
    and (calls.make-delta (telling (NodeOp 7 0 0 ∷ NodeOp 7 0 0 ∷ [])) [], refl)
    and (calls.make-delta (telling (NodeOp 7 0 0 ∷ [])) [], refl)
    and no_more

-- ---- exchanges

-- of two empty tables
abbrev asking : (edition mtu : ℕ) (ties digest delta : List ℕ) → Lending
asking edition mtu ties digest delta = lending edition [] [] ties mtu 7 digest delta []

-- the publisher's table and the follower's
asked-as : (g : Lending) (p f : Whole) → obeys_whole p ≡ true → obeys_whole f ≡ true
    → ready_for g.edition g.unasked (rooms_of g) (encode_whole p) (encode_whole f) ≡ ready_on g.edition g.unasked (rooms_of g) f.kind.profile (table_formed f.kind.profile p.table) p.table f.table
unfolding ready_for
asked-as g p f op of =
    ap₂ (λ (b c : Bool). pick b (pick c (on (decode_whole (encode_whole p)) (decode_whole (encode_whole f))) (Err (record { step = Delta; why = BadTable }))) (Err (record { step = Digest; why = BadTable }))) (valid-encode-whole f of) (valid-encode-whole p op)
    ∙ ap₂ on (decode-encode-whole p op) (decode-encode-whole f of)
  where
    on : Whole → Whole → (Result (Unit {0}) Stopped)
    on u v = ready_on g.edition g.unasked (rooms_of g) v.kind.profile (table_formed v.kind.profile u.table) u.table v.table

refused-by : (g : Lending) (p f : Whole) → obeys_whole p ≡ true → obeys_whole f ≡ true → (n : ℕ)
    → (exchanged_told (after_asking g (encode_whole p) (encode_whole f) (ready_on g.edition g.unasked (rooms_of g) f.kind.profile (table_formed f.kind.profile p.table) p.table f.table)).answer).number ≡ n
    → (exchanged_told (lent_exchange g (encode_whole p) (encode_whole f)).answer).number ≡ n
unfolding lent_exchange
refused-by g p f op of n e = ap (λ (x : (Result (Unit {0}) Stopped)). (exchanged_told (after_asking g (encode_whole p) (encode_whole f) x).answer).number) (asked-as g p f op of) ∙ e

abbrev formed : Bool
formed = table_formed Free []

refused_as : (g : Lending) (n : ℕ) → (exchanged_told (after_asking g (lent []) (lent []) (ready_on g.edition g.unasked (rooms_of g) Free formed [] [])).answer).number ≡ n
    → (exchanged_told (lent_exchange g (lent []) (lent [])).answer).number ≡ n
refused_as g = refused-by g (whole []) (whole []) (whole-obeys [] none-obeys) (whole-obeys [] none-obeys)

done-as : (g : Lending) → ready_on g.edition g.unasked (rooms_of g) Free formed [] [] ≡ done → (exchanged_told (lent_exchange g (lent []) (lent [])).answer).number ≡ 0
unfolding lent_exchange exchanged_told
done-as g e =
    let yes = asked-as g (whole []) (whole []) (whole-obeys [] none-obeys) (whole-obeys [] none-obeys) ∙ e in
    ap (λ (x : (Result (Unit {0}) Stopped)). (exchanged_told (after_asking g (lent []) (lent []) x).answer).number) yes
    ∙ ap (λ (a : (Result Exchanged Stopped)). (exchanged_told a).number) (ready-done g (lent []) (lent []) (is-ready g (lent []) (lent []) yes))

not-asked : (g : Lending) → (exchanged_told (lent_exchange g [] []).answer).number ≡ 14
unfolding lent_exchange ready_for exchanged_told
not-asked g =
    ap (λ (b : Bool). (exchanged_told (after_asking g [] [] (pick b (pick (valid_whole []) (ready_on g.edition g.unasked (rooms_of g) (decode_whole []).kind.profile (forms_fit [] []) (decode_whole []).table (decode_whole []).table) (Err (record { step = Delta; why = BadTable }))) (Err (record { step = Digest; why = BadTable })))).answer).number) none-valid

-- a follower that takes readings alone
abbrev empty-metered : Whole
empty-metered = record { kind = kind mode.Plain Meter; memory = []; table = [] }

empty-metered-obeys : obeys_whole empty-metered ≡ true
empty-metered-obeys = without-memory (kind mode.Plain Meter) [] none-obeys (empty-formed Meter)

-- and one of two firms
abbrev empty-shared : Whole
empty-shared = record { kind = kind mode.Plain Shared; memory = []; table = [] }

empty-shared-obeys : obeys_whole empty-shared ≡ true
empty-shared-obeys = without-memory (kind mode.Plain Shared) [] none-obeys (empty-formed Shared)

exchanges : AllShown calls.Exchange (0 ∷ 14 ∷ 20 ∷ 8 ∷ 7 ∷ 15 ∷ 17 ∷ 19 ∷ [])
unfolding calls.leaves exchanged_told ready_on rooms_for taking_for asked_of digest_of digest_bytes head_width bytes_of flat zeros profile_obeys table_formed all meter_key meter_value starts_with numbers_of differ among
exchanges =
    (calls.exchange (lent []) (lent []) 0 [] [] [] (zeros 2) (zeros 100) [] 100 seven, done-as (asking 0 100 [] (zeros 2) (zeros 100)) refl)
    and (calls.exchange [] [] 0 [] [] [] [] [] [] 100 seven, not-asked (asking 0 100 [] [] []))
    and (calls.exchange (lent []) (lent []) 2 [] [] [] [] [] [] 100 seven, refused_as (asking 2 100 [] [] []) 20 refl)
    and (calls.exchange (lent []) (lent []) 0 [] [] [] [] [] [] 100 seven, refused_as (asking 0 100 [] [] []) 8 refl)
    and (calls.exchange (lent []) (lent []) 0 [] [] [] (zeros 2) [] [] 99 seven, refused_as (asking 0 99 [] (zeros 2) []) 7 refl)
    and (calls.exchange (lent []) (lent []) 0 [] [] (0 ∷ []) (zeros 2) (zeros 100) [] 100 seven, refused_as (asking 0 100 (0 ∷ []) (zeros 2) (zeros 100)) 15 refl)
    and (calls.exchange (lent usual) (encode_whole empty-metered) 0 [] [] (0 ∷ []) (zeros 2) (zeros 100) [] 100 seven, refused-by (asking 0 100 (0 ∷ []) (zeros 2) (zeros 100)) (whole usual) empty-metered (whole-obeys usual usual-obeys) empty-metered-obeys 17 refl)
    and (calls.exchange (lent usual) (encode_whole empty-shared) 0 [] [] (0 ∷ []) (zeros 2) (zeros 100) [] 100 seven, refused-by (asking 0 100 (0 ∷ []) (zeros 2) (zeros 100)) (whole usual) empty-shared (whole-obeys usual usual-obeys) empty-shared-obeys 19 refl)
    and no_more

-- ---- all kinds

all_shown : (k : calls.Kind) → Covered k
unfolding calls.refusals among all
all_shown calls.NewTable = (_, new-tables, refl)
all_shown calls.AddNode = (_, added, refl)
all_shown calls.RemoveNode = (_, removed, refl)
all_shown calls.LastHeartbeat = (_, asked, refl)
all_shown calls.Write = (_, writes, refl)
all_shown calls.Delete = (_, deletes, refl)
all_shown calls.DeleteAfterTtl = (_, deletes-ttl, refl)
all_shown calls.RemoveScheduled = (_, collected, refl)
all_shown calls.OfferHeartbeat = (_, offers, refl)
all_shown calls.LocalBeat = (_, beaten, refl)
all_shown calls.Find = (_, finds, refl)
all_shown calls.ListPrefix = (_, lists, refl)
all_shown calls.NewOverrides = (_, new-over, refl)
all_shown calls.WriteOverride = (_, writes-over, refl)
all_shown calls.DeleteOverride = (_, deletes-over, refl)
all_shown calls.DeleteOverrideAfterTtl = (_, deletes-over-ttl, refl)
all_shown calls.RemoveOverrides = (_, cleans-over, refl)
all_shown calls.FindOver = (_, finds-over, refl)
all_shown calls.ListOver = (_, lists-over, refl)
all_shown calls.NewGrid = (_, grids-made, refl)
all_shown calls.GridAddNode = (_, came, refl)
all_shown calls.GridRemoveNode = (_, went, refl)
all_shown calls.Tell = (_, tells, refl)
all_shown calls.TakeOut = (_, taken_out, refl)
all_shown calls.LeastMax = (_, leasts, refl)
all_shown calls.SeenBy = (_, seen-pairs, refl)
all_shown calls.RemoveCarefully = (_, carefully, refl)
all_shown calls.NodeCount = (_, counts, refl)
all_shown calls.NodeNumber = (_, numbered, refl)
all_shown calls.NodeHeader = (_, headed, refl)
all_shown calls.RecordCount = (_, record-counts, refl)
all_shown calls.RecordAt = (_, records-at, refl)
all_shown calls.RecordOf = (_, records-of, refl)
all_shown calls.RecordByKey = (_, keyed, refl)
all_shown calls.NodeRows = (_, all-rows, refl)
all_shown calls.Front = (_, fronts, refl)
all_shown calls.PrefixRows = (_, some-rows, refl)
all_shown calls.FindText = (_, texts, refl)
all_shown calls.WriteDigest = (_, digests, refl)
all_shown calls.ReadDigest = (_, digest-reads, refl)
all_shown calls.DigestEntry = (_, entries, refl)
all_shown calls.Compute = (_, computes, refl)
all_shown calls.ComputePlan = (_, plans, refl)
all_shown calls.PlanFault = (_, judges, refl)
all_shown calls.ReadDelta = (_, delta-reads, refl)
all_shown calls.Apply = (_, applies, refl)
all_shown calls.ListDelta = (_, shows, refl)
all_shown calls.MakeDelta = (_, makes, refl)
all_shown calls.Exchange = (_, exchanges, refl)

pub each : (k : calls.Kind) (n : ℕ) → among n (calls.possible k) ≡ true → (c : calls.Call k) × ((calls.leaves c).answer.number ≡ n)
each k n e =
    let s = all_shown k in
    shown-in k s.0 s.1 n (all_from (λ m. among m s.0) (calls.possible k) s.2 n (among_in n (calls.possible k) e))
