-- Record j of a node's bytes: its own bytes, and what is read in them.
use Rattle.std.specs.Prelude.{ℕ}
use Rattle.fields.specs.Numbers.{Bytes}
use Rattle.fields.specs.Parts.{part}
use Rattle.rules.specs.Node.{Rec}
use Rattle.rules.specs.Layout.{rec_place, rec_width, decode_rec}

abbrev pub rec_bytes : (j : ℕ) (node : Bytes) → Bytes
rec_bytes j node = part (rec_place j) rec_width node

abbrev pub rec_at : (j : ℕ) (node : Bytes) → Rec
rec_at j node = decode_rec (rec_bytes j node)
