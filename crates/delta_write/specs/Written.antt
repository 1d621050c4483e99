-- An operation written to the front of the lent bytes, where it fits: what is answered, and the bytes afterwards. Where it does not fit, the
-- bytes are as they were.
use Rattle.std.specs.Prelude.{ℕ, length, leb}
use Rattle.fields.specs.Choice.{pick}
use Rattle.fields.specs.Numbers.{Bytes}
use Rattle.fields.specs.Parts.{put}
use Rattle.rules.specs.Given.{Given, given}
use Rattle.rules.specs.Delta.{Op, KeyValueOp, op_bytes, size_of}
use Rattle.rules.specs.declared.Status.{Status}
use Rattle.std.specs.Prelude.{None, Option, Some}

unfoldable pub write_op : (op : Op) (datagram : Bytes) → Given (Option ℕ) Bytes
write_op o l = pick (leb (size_of o) (length l)) (given (Some (size_of o)) (put 0 (op_bytes o) l)) (given None l)

abbrev pub key_value : (key value : Bytes) (version : ℕ) (status : Status) → Op
key_value k v n s = KeyValueOp (record { key = k; value = v; version = n; status = s })
