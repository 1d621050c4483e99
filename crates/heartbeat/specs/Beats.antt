-- What the two heartbeat calls make of a node's bytes: the answer, and the bytes afterwards.
use Rattle.fields.specs.Choice.{pick}
use Rattle.fields.specs.Numbers.{Bytes}
use Rattle.rules.specs.Given.{Given, given}
use Rattle.rules.specs.Node.{offer_of}
use Rattle.rules.specs.Local.{yes_no}
use Rattle.rules.specs.Layout.{encode_node, decode_node}
use Rattle.rules.specs.declared.Heartbeat.{Heartbeat}
use Rattle.std.specs.Prelude.{Bool, Err, Result}
use Rattle.rules.specs.declared.Refusal.{Refusal}
use Rattle.rules.specs.Results.{done}
use Rattle.rules.specs.declared.Refusal.TheVariants.{Exhausted}
use Rattle.table.specs.Changes.{with_beat}
use Rattle.heartbeat_header.specs.Headers.{can_rise, risen_from}

-- the heartbeat that stands in a node's bytes
abbrev pub heartbeat_in : (node : Bytes) → Heartbeat
heartbeat_in node = (decode_node node).node.heartbeat

-- an offer to the node
abbrev pub node_offered : (got : Heartbeat) (node : Bytes) → Given (Result Bool Refusal) Bytes
node_offered got node = given (yes_no (offer_of (heartbeat_in node) got).news) (encode_node (with_beat (offer_of (heartbeat_in node) got).heartbeat (decode_node node)))

-- a heartbeat of 2^64-1 cannot rise: 6
abbrev pub beat_told : (held : Heartbeat) → (Result (Unit {0}) Refusal)
beat_told held = pick (can_rise held) done (Err Exhausted)

-- a local beat of the node
abbrev pub node_beaten : (node : Bytes) → Given (Result (Unit {0}) Refusal) Bytes
node_beaten node = given (beat_told (heartbeat_in node)) (encode_node (with_beat (risen_from (heartbeat_in node)) (decode_node node)))
