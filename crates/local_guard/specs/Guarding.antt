-- What a profile refuses of a local call (Profile of `rules`), as code answers it.
use Rattle.std.proofs.Math.Option.{Option, none, some}
use Rattle.fields.specs.Numbers.{Bytes}
use Rattle.rules.specs.Node.{KeyValue}
use Rattle.rules.specs.declared.Refusal.{Refusal}
use Rattle.rules.specs.declared.Status.{Status}
use Rattle.std.specs.Prelude.{Err, Result}
use Rattle.rules.specs.Results.{done}

abbrev pub guarded_by : (refused : Option Refusal) → (Result (Unit {0}) Refusal)
guarded_by none = done
guarded_by (some r) = Err r

-- the record that a write with this status brings, but for its version
abbrev pub bringing : (key value : Bytes) (status : Status) → KeyValue
bringing k v st = record { key = k; value = v; version = 0; status = st }
