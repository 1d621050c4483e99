-- `record_write::store_record` meets its contract: its fields are one put, side by side; what comes with a text is put over. Assumes nothing.
use Prim.Native.Nat.{◌+◌}
use mathlib.Core.List.{◌++◌}
use mathlib.Core.Path.{◌∙◌, ◌≡◌, ap}
use native.Mathlib.Omega.{arith}
use Rattle.fields.specs.Numbers.{bytes_of, nat_of}
use Rattle.fields.specs.Parts.{part, put}
use Rattle.rules.specs.Delta.{length_width, status_byte}
use Rattle.rules.specs.Layout.{status_of_byte}
use Rattle.table.specs.Tests.{key_length, value_length, version_of}
use Rattle.record_write.proofs.Words.{record-fields}
use Rattle.record_write.proofs.store_record.Goals as goal

pub returns : goal.returns
returns c =
    let b = c.args.«record».now in
    let ek : c.byte_at-keylen.result ≡ key_length b = c.byte_at-keylen.ensures.0 in
    let ev : c.byte_at-valuelen.result ≡ value_length b = c.byte_at-valuelen.ensures.0 in
    let en : c.read_u64.result ≡ version_of b = c.read_u64.ensures in
    let es : c.byte.result ≡ status_byte (status_of_byte (nat_of (part 106 1 b))) = c.byte.ensures ∙ ap status_byte (c.of_byte-status.ensures ∙ ap status_of_byte c.byte_at.ensures.0) in
    let k = c.store_text.ensures in
    let v = c.store_text-2.ensures in (
      omega (arith, ek, ev),
      record-fields b c.requires.0 c.requires.1 c.requires.2 c.args.datagram.now c.write_byte.new.s c.store_text.new.s c.store_text-2.new.s
          c.write_u64.new.s c.write_byte-2.new.s c.store_text.result c.store_text-2.result (omega (arith, ek, k.0)) (omega (arith, ek, k.1))
          (omega (arith, ev, v.0)) (omega (arith, ev, v.1)) c.requires.3 c.write_byte.ensures
          (k.2 ∙ (λ i. put 1 (bytes_of length_width (ek i) ++ part 1 c.store_text.result b) c.write_byte.new.s))
          (v.2 ∙ (λ i. put (3 + ek i) (bytes_of length_width (ev i) ++ part 34 c.store_text-2.result b) c.store_text.new.s))
          (c.write_u64.ensures ∙ (λ i. put (3 + ek i + 2 + ev i) (bytes_of 8 (en i)) c.store_text-2.new.s))
          (c.write_byte-2.ensures ∙ (λ i. put (3 + ek i + 2 + ev i + 8) (bytes_of 1 (es i)) c.write_u64.new.s)),
    )
