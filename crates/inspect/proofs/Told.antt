-- The number and the values that are told of an answer tell it. Assumes nothing.
use Prim.Native.Nat.{ℕ}
use mathlib.Core.Path.{◌≡◌, refl, ap, ap₂, sym, ◌∙◌}
use native.Mathlib.Omega.{arith}
use Rattle.rules.specs.Node.{beats}
use Rattle.rules.specs.Delta.{status_byte}
use Rattle.rules.specs.Layout.{status_of_byte}
use Rattle.rules.specs.declared.Status.{Status}
use Rattle.rules.specs.declared.Status.TheVariants.{Set, Delete, Ttl}
use Rattle.rules.specs.declared.Header.{Header}
use Rattle.rules.specs.declared.Record.{Record}
use Rattle.rules.proofs.Told.{number_is, value-is, values-long, need-is, not-refused, same-refusal}
use Rattle.inspect.specs.Told.{count_told, node_number_told, node_header_told, record_read_told, rows_told}
use Rattle.std.specs.Prelude.{Err, None, Ok, Option, Result, Some}
use Rattle.inspect.specs.declared.RecordRead.{RecordRead}
use Rattle.inspect.specs.declared.Rows.{Rows}
use Rattle.rules.specs.declared.Refusal.{Refusal}

pub same_count : (a b : (Result ℕ Refusal)) → count_told a ≡ count_told b → a ≡ b
unfolding count_told
same_count (Ok n) (Ok m) e = ap Ok (value-is e 0)
same_count (Ok n) (Err r) e = not-refused r (number_is e)
same_count (Err r) (Ok n) e = not-refused r (sym (number_is e))
same_count (Err r) (Err s) e = ap Err (same-refusal r s (number_is e) (need-is e))

pub same-node-number : (a b : (Result ℕ Refusal)) → node_number_told a ≡ node_number_told b → a ≡ b
unfolding node_number_told
same-node-number (Ok n) (Ok m) e = ap Ok (value-is e 0)
same-node-number (Ok n) (Err r) e = not-refused r (number_is e)
same-node-number (Err r) (Ok n) e = not-refused r (sym (number_is e))
same-node-number (Err r) (Err s) e = ap Err (same-refusal r s (number_is e) (need-is e))

-- a header by its numbers
abbrev headed : ℕ → ℕ → ℕ → Header
headed h m g = record { heartbeat = beats h; max = m; last_gc = g }

pub same-node-header : (a b : (Result Header Refusal)) → node_header_told a ≡ node_header_told b → a ≡ b
unfolding node_header_told
same-node-header (Ok h) (Ok k) e =
    ap₂ (λ (x y : ℕ). Ok (headed x y h.last_gc)) (value-is e 0) (value-is e 1)
    ∙ ap (λ (x : ℕ). Ok (headed k.heartbeat.0 k.max x)) (value-is e 2)
same-node-header (Ok h) (Err r) e = not-refused r (number_is e)
same-node-header (Err r) (Ok h) e = not-refused r (sym (number_is e))
same-node-header (Err r) (Err s) e = ap Err (same-refusal r s (number_is e) (need-is e))

-- a status by its byte
status-back : (s : Status) → status_of_byte (status_byte s) ≡ s
status-back Set = refl
status-back Delete = refl
status-back Ttl = refl

-- a record by its numbers
abbrev numbered : ℕ → ℕ → ℕ → Status → ℕ → Record
numbered k v n s t = record { keylen = k; valuelen = v; version = n; status = s; start = t }

pub same-record : (a b : (Result (Option RecordRead) Refusal)) → record_read_told a ≡ record_read_told b → a ≡ b
unfolding record_read_told
same-record (Ok (Some a)) (Ok (Some b)) e =
    let r = a.«record» in
    let q = b.«record» in
    let s : r.status ≡ q.status = sym (status-back r.status) ∙ ap status_of_byte (value-is e 5) ∙ status-back q.status in
    ap₂ (λ (x y : ℕ). (Ok (Some (record { key = x; value = y; «record» = (numbered r.keylen r.valuelen r.version r.status r.start) })))) (value-is e 0) (value-is e 1)
    ∙ ap₂ (λ (x y : ℕ). (Ok (Some (record { key = b.key; value = b.value; «record» = (numbered x y r.version r.status r.start) })))) (value-is e 2) (value-is e 3)
    ∙ ap₂ (λ (x : ℕ) (y : Status). (Ok (Some (record { key = b.key; value = b.value; «record» = (numbered q.keylen q.valuelen x y r.start) })))) (value-is e 4) s
    ∙ ap (λ (x : ℕ). (Ok (Some (record { key = b.key; value = b.value; «record» = (numbered q.keylen q.valuelen q.version q.status x) })))) (value-is e 6)
same-record (Ok (Some r)) (Ok None) e = absurd (omega (arith, values-long e))
same-record (Ok None) (Ok (Some r)) e = absurd (omega (arith, values-long e))
same-record (Ok None) (Ok None) e = refl
same-record (Ok (Some rr)) (Err r) e = not-refused r (number_is e)
same-record (Ok None) (Err r) e = not-refused r (number_is e)
same-record (Err r) (Ok (Some rr)) e = not-refused r (sym (number_is e))
same-record (Err r) (Ok None) e = not-refused r (sym (number_is e))
same-record (Err r) (Err s) e = ap Err (same-refusal r s (number_is e) (need-is e))

pub same_rows : (a b : (Result Rows Refusal)) → rows_told a ≡ rows_told b → a ≡ b
unfolding rows_told
same_rows (Ok r) (Ok rr) e = ap₂ (λ a b. Ok (record { at = a; count = b })) (value-is e 0) (value-is e 1)
same_rows (Ok rr) (Err r) e = not-refused r (number_is e)
same_rows (Err r) (Ok rr) e = not-refused r (sym (number_is e))
same_rows (Err r) (Err s) e = ap Err (same-refusal r s (number_is e) (need-is e))
