-- `table_read::read_record` meets its contract. Assumes nothing.
use Prim.Native.Nat.{ℕ, ◌≤◌}
use mathlib.Core.Path.{◌≡◌, ap, sym, ◌∙◌}
use mathlib.Core.List.{List}
use native.Mathlib.Omega.{arith}
use lib.ListN.{length}
use Rattle.fields.specs.Numbers.{nat_of}
use Rattle.fields.specs.Parts.{part}
use Rattle.fields.proofs.Parts.{length_part}
use Rattle.rules.specs.Sizes.{max_key, max_value}
use Rattle.rules.specs.Layout.{rec_width, decode_rec, status_of_byte}
use Rattle.rules.specs.declared.Status.{Status}
use Rattle.table.specs.Tests.{key_length, value_length}
use Rattle.table_read.specs.Find.{record_of}
use Rattle.table_read.proofs.read_record.Goals as goal

record_is : (b : List ℕ) (k v version start code : ℕ) (status : Status) → length b ≡ rec_width → key_length b ≤ max_key → value_length b ≤ max_value
    → k ≡ key_length b → v ≡ value_length b → version ≡ nat_of (part 98 8 b) → status ≡ status_of_byte code → code ≡ nat_of (part 106 1 b) → start ≡ nat_of (part 107 8 b)
    → record { keylen = k; valuelen = v; version = version; status = status; start = start } ≡ record_of (decode_rec b)
unfolding decode_rec
record_is b k v version start code status e hk hv ek ev en es ec et =
    let pk : k ≡ length (part 1 (key_length b) b) = ek ∙ sym (length_part 1 (key_length b) b (omega arith)) in
    let pv : v ≡ length (part 34 (value_length b) b) = ev ∙ sym (length_part 34 (value_length b) b (omega arith)) in
    let ps : status ≡ status_of_byte (nat_of (part 106 1 b)) = es ∙ ap status_of_byte ec in
    λ i. record { keylen = pk i; valuelen = pv i; version = en i; status = ps i; start = et i }

pub returns : goal.returns
returns c =
    record_is c.args.«record».now c.byte_at-2.result c.byte_at-3.result c.read_u64.result c.read_u64-2.result c.byte_at.result c.of_byte-status.result
    c.requires.0 c.requires.1 c.requires.2 c.byte_at-2.ensures.0 c.byte_at-3.ensures.0 c.read_u64.ensures c.of_byte-status.ensures c.byte_at.ensures.0 c.read_u64-2.ensures
