-- Ticket 9 of lent bytes, with the readings as they are linked. Assumes nothing.
use Prim.Native.Nat.{ℕ}
use mathlib.Core.Bool.{true}
use mathlib.Core.List.{List, [], ◌∷◌}
use mathlib.Core.Path.{◌≡◌, ap, ap₂}
use Rattle.fields.specs.Choice.{pick}
use Rattle.rules.specs.Answers.{listed_told}
use Rattle.rules.specs.Given.{Given, given}
use Rattle.rules.specs.Layout.{decode_node}
use Rattle.rules.specs.Local.{prefixed_as}
use Rattle.rules.specs.Node.{Node}
use Rattle.rules.specs.Table.{Table}
use Rattle.rules.specs.Whole.{Whole, decode_whole, encode_whole, obeys_whole}
use Rattle.std.specs.Prelude.{Err, Option, Result}
use Rattle.inspect.specs.declared.RecordRead.{RecordRead}
use Rattle.inspect.specs.declared.Rows.{Rows}
use Rattle.lookup.specs.declared.Found.{Found}
use Rattle.rules.specs.declared.Header.{Header}
use Rattle.rules.specs.declared.Refusal.{Refusal}
use Rattle.rules.specs.declared.Party.{Party}
use Rattle.rules.specs.declared.Profile.{Profile}
use Rattle.rules.specs.declared.Profile.TheVariants.{Shared}
use Rattle.rules.specs.declared.Refusal.TheVariants.{BadTable}
use Rattle.table.proofs.Encoded.{from-whole}
use Rattle.lookup.specs.Lookup.{HandedOut, find_as, nothing_held, value_part}
use Rattle.lookup.specs.Told.{found_told}
use Rattle.inspect.specs.Look.{node_count, node_header, node_number, node_rows_as, read_record_as, record_by_key_as, record_count_as, record_of_as}
use Rattle.inspect.specs.Told.{count_told, node_number_told, rows_told}
use Rattle.inspect_text.specs.Texts.{text_found_as, text_part}
use Rattle.overrides.specs.Both.{from_both}
use Rattle.overrides.specs.Overrides.{valid_node}
use Rattle.overrides.specs.declared.Which.{Which}
use Rattle.overrides.specs.declared.Which.TheVariants as which
use Rattle.over_find.specs.Over.{found_over as found_over_as, nothing_held as none_held, value_over}
use Rattle.over_list.specs.Merged.{list_over}
use Rattle.prefix.specs.Rows.{prefix_rows_as}
use Rattle.parties.specs.LentRuns.{Alike, Lends, LentUnspent, all_fit}
use Rattle.parties.specs.TwoRuns.{Event, says, stripped}
use Rattle.parties.proofs.LentRuns.{from-profile, lent-two-runs}
use Rattle.parties_calls.specs.Linked as ask
use Rattle.parties_calls.specs.Linked.{Asked, asked, beat_told, lent_asked, list_said, over_said, record_told, with_over}
use Rattle.parties_calls.proofs.Blind.{asked-blind}

-- with overrides
both-lent : {A : Type 0} (w : Whole) → obeys_whole w ≡ true → (bad : Which → A) (rule : Profile → Node → Table → A) (overrides : List ℕ)
    → from_both bad (rule (decode_whole (encode_whole w)).kind.profile) overrides (encode_whole w) ≡ with_over (bad which.Overrides) (λ n. rule w.kind.profile n w.table) overrides
unfolding from_both
both-lent {A} w o bad rule overrides =
    ap (λ (x : A). pick (valid_node overrides) x (bad which.Overrides)) (from-profile w o (bad which.Table) (λ f. rule f (decode_node overrides).node))

asked-lent : Lends lent_asked asked
asked-lent p (ask.Find i k) w o =
    ap₂ (λ (x : (Result (Option Found) Refusal)) (y : HandedOut). says (found_told x) (y.bytes ∷ [])) (from-profile w o (Err BadTable) (λ f. find_as f p i k)) (from-profile w o nothing_held (λ f. value_part f p i k))
asked-lent p (ask.ListPrefix i k list) w o =
    ap (λ (g : Given (Result ℕ Refusal) (List ℕ)). says (listed_told g.answer) (g.lent ∷ [])) (from-profile w o (given (Err BadTable) list) (λ f t. prefixed_as f p i k t list))
asked-lent p (ask.RecordCount i) w o = ap (λ (x : (Result ℕ Refusal)). says (count_told x) []) (from-profile w o (Err BadTable) (λ f. record_count_as f p i))
asked-lent p (ask.RecordAt i j) w o = ap (λ (x : (Result (Option RecordRead) Refusal)). says (record_told x) []) (from-profile w o (Err BadTable) (λ f. read_record_as f p i j))
asked-lent p (ask.RecordOf i j) w o = ap (λ (x : (Result (Option RecordRead) Refusal)). says (record_told x) []) (from-profile w o (Err BadTable) (λ f. record_of_as f p i j))
asked-lent p (ask.RecordByKey i k) w o = ap (λ (x : (Result (Option RecordRead) Refusal)). says (record_told x) []) (from-profile w o (Err BadTable) (λ f. record_by_key_as f p i k))
asked-lent p (ask.NodeRows i) w o = ap (λ (x : (Result Rows Refusal)). says (rows_told x) []) (from-profile w o (Err BadTable) (λ f. node_rows_as f p i))
asked-lent p (ask.PrefixRows i k) w o = ap (λ (x : (Result Rows Refusal)). says (rows_told x) []) (from-profile w o (Err BadTable) (λ f. prefix_rows_as f p i k))
asked-lent p (ask.FindText i j x) w o =
    ap₂ (λ (a : (Result (Option Found) Refusal)) (b : HandedOut). says (found_told a) (b.bytes ∷ [])) (from-profile w o (Err BadTable) (λ f. text_found_as f p x i j)) (from-profile w o nothing_held (λ f. text_part f p x i j))
asked-lent p (ask.FindOver i k over) w o =
    ap₂ over_said
    (both-lent w o (λ a. (Err (record { which = a; why = BadTable }))) (λ f n. found_over_as f p i k n) over) (both-lent w o (λ a. none_held) (λ f n. value_over f p i k n) over)
asked-lent p (ask.ListOver i k list over) w o = ap list_said (both-lent w o (λ a. given (Err (record { which = a; why = BadTable })) list) (λ f n. list_over f p i k list n) over)
asked-lent p ask.NodeCount w o = ap (λ (x : (Result ℕ Refusal)). says (count_told x) []) (from-whole w o (Err BadTable) node_count)
asked-lent p (ask.NodeNumber i) w o = ap (λ (x : (Result ℕ Refusal)). says (node_number_told x) []) (from-whole w o (Err BadTable) (node_number i))
asked-lent p (ask.Heartbeat i) w o = ap (λ (x : (Result Header Refusal)). says (beat_told x) []) (from-whole w o (Err BadTable) (node_header i))

-- Two runs of calls from the same bytes, whatever these are; where they are a table, it is shared. They agree on the party's own calls and on all that is
-- common; none of its own writes and deletes is answered 6. Then all that is said to the party is the same, places in bytes and handed out bytes too, but for
-- versions.
pub linked-two-runs : (p : Party) (es fs : List (Event Asked)) (l : List ℕ) → (decode_whole l).kind.profile ≡ Shared → all_fit es ≡ true → all_fit fs ≡ true
    → LentUnspent lent_asked p es l → LentUnspent lent_asked p fs l → stripped p es ≡ stripped p fs → Alike lent_asked p es fs l
linked-two-runs = lent-two-runs lent_asked asked asked-lent asked-blind
