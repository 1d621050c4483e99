-- What a rule on the whole table leaves in its bytes, and the heartbeat of a node that may be held.
use Rattle.std.proofs.Math.Option.{Option, none, some}
use Rattle.fields.specs.Numbers.{Bytes}
use Rattle.rules.specs.Given.{Given, given}
use Rattle.rules.specs.Node.{Node, beats}
use Rattle.rules.specs.Whole.{Whole, encode_whole}
use Rattle.rules.specs.declared.Heartbeat.{Heartbeat}

abbrev pub stored_whole : {A : Type 0} (outcome : Given A Whole) → Given A Bytes
stored_whole o = given o.answer (encode_whole o.lent)

-- 0 where it is not
abbrev pub beat_of : (held : Option Node) → Heartbeat
beat_of none = beats 0
beat_of (some n) = n.heartbeat
