-- `answers::record` meets its contract, case by case. Assumes nothing.
use Prim.Native.Nat.{ℕ}
use mathlib.Core.Path.{◌≡◌, ap, sym, ◌∙◌}
use Rattle.inspect.specs.Told.{record_read_told}
use Rattle.std.specs.Prelude.{None, Ok, Option, Result, Some}
use Rattle.inspect.specs.declared.RecordRead.{RecordRead}
use Rattle.rules.specs.declared.Refusal.{Refusal}
use Rattle.rules.specs.declared.Record.{Record}
use Rattle.answers.specs.Shown.{record_shown, no_record}
use Rattle.answers.specs.declared.KevRecord.{KevRecord}
use Rattle.answers.proofs.record.Goals as goal

abbrev shown : (key value : ℕ) (of : Record) (status : ℕ) → KevRecord
shown k v r s =
    record {
      number = 0;
      found = 1;
      key_at = k;
      value_at = v;
      keylen = r.keylen;
      valuelen = r.valuelen;
      version = r.version;
      status = s;
      start = r.start;
    }

pub returns-in-Ok-Some : goal.returns-in-Ok-Some
unfolding record_read_told
returns-in-Ok-Some c =
    let f : c.in-Ok-Some.field-0 ≡ Some c.in-Ok-Some.row = rw c.in-Ok-Some.is at c.in-Ok-Some.field-0-is in
    ap (shown c.in-Ok-Some.row.key c.in-Ok-Some.row.value c.in-Ok-Some.row.record) c.byte.ensures
    ∙ sym (ap (λ (a : (Result (Option RecordRead) Refusal)). record_shown (record_read_told a)) (c.in-Ok-Some.is ∙ ap Ok f))

pub returns-in-Ok-None : goal.returns-in-Ok-None
unfolding record_read_told
returns-in-Ok-None c =
    let f : c.in-Ok-None.field-0 ≡ None = rw c.in-Ok-None.is at c.in-Ok-None.field-0-is in
    c.no_record.ensures ∙ sym (ap (λ (a : (Result (Option RecordRead) Refusal)). record_shown (record_read_told a)) (c.in-Ok-None.is ∙ ap Ok f))

pub returns-in-Err : goal.returns-in-Err
unfolding record_read_told
returns-in-Err c =
    c.no_record-in-Err.ensures ∙ ap no_record c.number.ensures ∙ sym (ap (λ (a : (Result (Option RecordRead) Refusal)). record_shown (record_read_told a)) c.in-Err.is)
