-- The fields are one put, side by side. Assumes nothing.
use Prim.Native.Nat.{ℕ, ◌+◌}
use mathlib.Core.Path.{◌∙◌, ap}
use lib.ListN.{length}
use Rattle.fields.specs.Numbers.{bytes_of}
use Rattle.fields.specs.Parts.{put}
use Rattle.delta_write.proofs.Fronts.{behind_value, key-value-fields}
use Rattle.rules.specs.Delta.{byte_width, number_width}
use Rattle.delta_write.proofs.store_key_value.Goals as goal

pub returns : goal.returns
returns c =
    let a = c.args in
    let status = behind_value (length a.key.now) (length a.value.now) + number_width in
    key-value-fields a.key.now a.value.now a.version a.status a.datagram.now _ _ _ _ _ c.requires c.write_byte.ensures
    c.write_text.ensures c.write_text-2.ensures c.write_u64.ensures
    (c.write_byte-2.ensures ∙ ap (λ (v : ℕ). put status (bytes_of byte_width v) c.write_u64.new.s) c.byte.ensures)
