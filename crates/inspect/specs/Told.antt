-- The number and the values that stand for each answer of the small readings.
use Rattle.std.specs.Prelude.{ℕ, List, [], ◌∷◌}
use Rattle.rules.specs.Answers.{Told, accepted, refused}
use Rattle.rules.specs.Delta.{status_byte}
use Rattle.rules.specs.declared.Record.{Record}
use Rattle.std.specs.Prelude.{Err, None, Ok, Option, Result, Some}
use Rattle.inspect.specs.declared.RecordRead.{RecordRead}
use Rattle.inspect.specs.declared.Rows.{Rows}
use Rattle.rules.specs.declared.Header.{Header}
use Rattle.rules.specs.declared.Refusal.{Refusal}

unfoldable pub count_told : (answer : (Result ℕ Refusal)) → Told
count_told (Ok n) = accepted (n ∷ [])
count_told (Err r) = refused r []

unfoldable pub node_number_told : (answer : (Result ℕ Refusal)) → Told
node_number_told (Ok n) = accepted (n ∷ [])
node_number_told (Err r) = refused r []

unfoldable pub node_header_told : (answer : (Result Header Refusal)) → Told
node_header_told (Ok h) = accepted (h.heartbeat.0 ∷ h.max ∷ h.last_gc ∷ [])
node_header_told (Err r) = refused r []

-- where the key and the value begin, and the record's numbers
abbrev pub record_values : (key value : ℕ) (numbers : Record) → List ℕ
record_values k v r = k ∷ v ∷ r.keylen ∷ r.valuelen ∷ r.version ∷ status_byte r.status ∷ r.start ∷ []

unfoldable pub record_read_told : (answer : (Result (Option RecordRead) Refusal)) → Told
record_read_told (Ok (Some rr)) = accepted (record_values rr.key rr.value rr.«record»)
record_read_told (Ok None) = accepted []
record_read_told (Err r) = refused r []

unfoldable pub rows_told : (answer : (Result Rows Refusal)) → Told
rows_told (Ok r) = accepted (r.at ∷ r.count ∷ [])
rows_told (Err r) = refused r []
