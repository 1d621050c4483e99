-- The two runs (`parties`) with a party's readings as the entry points promise them: number and values, places in the table's bytes too, and the bytes that are
-- handed out. Two things are left out, since the other's writes change them: a record's version, and max and last_gc of a node's header. The theorem is in
-- proofs/Linked.
use Rattle.std.specs.Prelude.{ℕ, List, [], ◌∷◌}
use Rattle.fields.specs.Choice.{pick}
use Rattle.fields.specs.Numbers.{Bytes}
use Rattle.rules.specs.Answers.{Told, accepted, refused, listed_told}
use Rattle.rules.specs.Given.{Given, given}
use Rattle.rules.specs.Layout.{decode_node}
use Rattle.rules.specs.Node.{Node}
use Rattle.rules.specs.Party.{seen}
use Rattle.rules.specs.Table.{Table}
use Rattle.rules.specs.Local.{prefixed_as}
use Rattle.rules.specs.Lent.{lent_prefixed}
use Rattle.rules.specs.declared.Party.{Party}
use Rattle.rules.specs.declared.Profile.{Profile}
use Rattle.rules.specs.declared.Record.{Record}
use Rattle.rules.specs.declared.Refusal.TheVariants.{BadTable}
use Rattle.lookup.specs.Lookup.{find_as, lent_find, lent_value_part, value_part}
use Rattle.lookup.specs.Told.{found_told}
use Rattle.inspect.specs.Look.{lent_node_count, lent_node_header, lent_node_number, lent_node_rows, lent_read_record, lent_record_by_key, lent_record_count, lent_record_of, node_count, node_header, node_number, node_rows_as, read_record_as, record_by_key_as, record_count_as, record_of_as}
use Rattle.inspect.specs.Told.{count_told, node_number_told, record_read_told, rows_told}
use Rattle.std.specs.Prelude.{Err, None, Ok, Option, Result, Some}
use Rattle.inspect.specs.declared.RecordRead.{RecordRead}
use Rattle.over_find.specs.declared.FoundOver.{FoundOver}
use Rattle.overrides.specs.declared.RefusedOver.{RefusedOver}
use Rattle.rules.specs.declared.Header.{Header}
use Rattle.rules.specs.declared.Refusal.{Refusal}
use Rattle.inspect_text.specs.Texts.{bytes_in, lent_text_found, lent_text_part, text_found}
use Rattle.inspect_text.specs.declared.Text.{Text}
use Rattle.overrides.specs.Overrides.{valid_node}
use Rattle.overrides.specs.declared.Which.TheVariants as which
use Rattle.over_find.specs.Over.{HandedOver, found_over, lent_find_over, lent_value_over, nothing_held, value_over}
use Rattle.over_find.specs.Told.{found_over_told}
use Rattle.over_list.specs.Merged.{lent_list_over, list_over}
use Rattle.over_list.specs.Told.{listed_over_told}
use Rattle.prefix.specs.Rows.{lent_prefix_rows, prefix_rows_as}
use Rattle.parties.specs.TwoRuns.{Said, says}

-- a party's readings: by a node's number, but for one
pub data Asked : Type 0 where
  -- key; prefix and the lent list
  Find : ℕ → List ℕ → Asked
  ListPrefix : ℕ → List ℕ → List ℕ → Asked
  RecordCount : ℕ → Asked
  -- by the record's place, by the places of node and record, by key
  RecordAt : ℕ → ℕ → Asked
  RecordOf : ℕ → ℕ → Asked
  RecordByKey : ℕ → List ℕ → Asked
  -- rows in one piece, all of them or those of a prefix
  NodeRows : ℕ → Asked
  PrefixRows : ℕ → List ℕ → Asked
  -- a record's key or value, by its place
  FindText : ℕ → ℕ → Text → Asked
  -- over the site's own overrides, which are the same in both runs: key; prefix and the lent list
  FindOver : ℕ → List ℕ → List ℕ → Asked
  ListOver : ℕ → List ℕ → List ℕ → List ℕ → Asked
  -- those that name no party
  NodeCount : Asked
  NodeNumber : ℕ → Asked
  Heartbeat : ℕ → Asked

-- a record but for its version
abbrev pub version_left : (numbers : Record) → Record
version_left r = record { keylen = r.keylen; valuelen = r.valuelen; version = 0; status = r.status; start = r.start }

abbrev pub read_left : (answer : (Result (Option RecordRead) Refusal)) → (Result (Option RecordRead) Refusal)
read_left (Ok (Some rr)) = (Ok (Some (record { key = rr.key; value = rr.value; «record» = (version_left rr.«record») })))
read_left (Ok None) = (Ok None)
read_left (Err r) = Err r

abbrev pub record_told : (answer : (Result (Option RecordRead) Refusal)) → Told
record_told a = record_read_told (read_left a)

-- of a header the heartbeat
abbrev pub beat_told : (answer : (Result Header Refusal)) → Told
beat_told (Ok h) = accepted (h.heartbeat.0 ∷ [])
beat_told (Err r) = refused r []

abbrev pub over_said : (found : (Result (Option FoundOver) RefusedOver)) (part : HandedOver) → Said
over_said f part = says (found_over_told f) (part.bytes ∷ [])

abbrev pub list_said : (of : Given (Result ℕ RefusedOver) Bytes) → Said
list_said g = says (listed_over_told g.answer) (g.lent ∷ [])

-- 14 of the overrides, or what is asked of them
abbrev pub with_over : {A : Type 0} (bad : A) (rule : Node → A) (overrides : Bytes) → A
with_over bad rule o = pick (valid_node o) (rule (decode_node o).node) bad

-- of a table
abbrev pub asked : (profile : Profile) (party : Party) (ask : Asked) (table : Table) → Said
asked f p (Find i k) t = says (found_told (find_as f p i k t)) ((value_part f p i k t).bytes ∷ [])
asked f p (ListPrefix i k l) t = says (listed_told (prefixed_as f p i k t l).answer) ((prefixed_as f p i k t l).lent ∷ [])
asked f p (RecordCount i) t = says (count_told (record_count_as f p i t)) []
asked f p (RecordAt i j) t = says (record_told (read_record_as f p i j t)) []
asked f p (RecordOf i j) t = says (record_told (record_of_as f p i j t)) []
asked f p (RecordByKey i k) t = says (record_told (record_by_key_as f p i k t)) []
asked f p (NodeRows i) t = says (rows_told (node_rows_as f p i t)) []
asked f p (PrefixRows i k) t = says (rows_told (prefix_rows_as f p i k t)) []
asked f p (FindText i j x) t = says (found_told (text_found x i j (seen f p t))) (bytes_in x i j (seen f p t) ∷ [])
asked f p (FindOver i k o) t =
    over_said (with_over (Err (record { which = which.Overrides; why = BadTable })) (λ n. found_over f p i k n t) o) (with_over nothing_held (λ n. value_over f p i k n t) o)
asked f p (ListOver i k l o) t = list_said (with_over (given (Err (record { which = which.Overrides; why = BadTable })) l) (λ n. list_over f p i k l n t) o)
asked f p NodeCount t = says (count_told (node_count t)) []
asked f p (NodeNumber i) t = says (node_number_told (node_number i t)) []
asked f p (Heartbeat i) t = says (beat_told (node_header i t)) []

-- of lent bytes
abbrev pub lent_asked : (party : Party) (ask : Asked) (table : Bytes) → Said
lent_asked p (Find i k) l = says (found_told (lent_find p i k l)) ((lent_value_part p i k l).bytes ∷ [])
lent_asked p (ListPrefix i k list) l = says (listed_told (lent_prefixed p i k list l).answer) ((lent_prefixed p i k list l).lent ∷ [])
lent_asked p (RecordCount i) l = says (count_told (lent_record_count p i l)) []
lent_asked p (RecordAt i j) l = says (record_told (lent_read_record p i j l)) []
lent_asked p (RecordOf i j) l = says (record_told (lent_record_of p i j l)) []
lent_asked p (RecordByKey i k) l = says (record_told (lent_record_by_key p i k l)) []
lent_asked p (NodeRows i) l = says (rows_told (lent_node_rows p i l)) []
lent_asked p (PrefixRows i k) l = says (rows_told (lent_prefix_rows p i k l)) []
lent_asked p (FindText i j x) l = says (found_told (lent_text_found p x i j l)) ((lent_text_part p x i j l).bytes ∷ [])
lent_asked p (FindOver i k o) l = over_said (lent_find_over p i k o l) (lent_value_over p i k o l)
lent_asked p (ListOver i k list o) l = list_said (lent_list_over p i k list o l)
lent_asked p NodeCount l = says (count_told (lent_node_count l)) []
lent_asked p (NodeNumber i) l = says (node_number_told (lent_node_number i l)) []
lent_asked p (Heartbeat i) l = says (beat_told (lent_node_header i l)) []
