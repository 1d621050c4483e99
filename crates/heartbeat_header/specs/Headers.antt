-- What the two heartbeat rules of document 01 make of a node's small header. An offer stores the heartbeat that `offer_of` of rules says; a
-- local beat raises the heartbeat by one, unless it is 2^64-1 already. Each definition is the whole header, so max and last_gc stand in it
-- as they were.
use Rattle.std.specs.Prelude.{◌+◌, Bool, ltb}
use Rattle.fields.specs.Choice.{pick}
use Rattle.rules.specs.Sizes.{top}
use Rattle.rules.specs.Given.{Given, given}
use Rattle.rules.specs.Node.{beats, offer_of}
use Rattle.rules.specs.declared.Heartbeat.{Heartbeat}
use Rattle.rules.specs.declared.Header.{Header}
use Rattle.heartbeat_header.specs.declared.OfferedHeader.{OfferedHeader}
use Rattle.heartbeat_header.specs.declared.RaisedHeader.{RaisedHeader}

-- the header with this heartbeat, and nothing else changed
abbrev pub beating : (heartbeat : Heartbeat) (header : Header) → Header
beating b h = record { heartbeat = b; max = h.max; last_gc = h.last_gc }

-- the header after an offer
abbrev pub offered_header : (header : Header) (got : Heartbeat) → Header
offered_header h got = beating (offer_of h.heartbeat got).heartbeat h

-- the header after an offer, and whether the offer was news
abbrev pub offered_to : (header : Header) (got : Heartbeat) → OfferedHeader
offered_to h got = record { header = offered_header h got; news = (offer_of h.heartbeat got).news }

-- whether a heartbeat can rise
unfoldable pub can_rise : (held : Heartbeat) → Bool
can_rise held = ltb held.0 top

-- the heartbeat after a local beat: one more, and where it cannot rise, the same
abbrev pub risen_from : (held : Heartbeat) → Heartbeat
risen_from held = pick (can_rise held) (beats (held.0 + 1)) held

-- the header after a local beat: where the heartbeat cannot rise, the header as it was
abbrev pub raised_header : (header : Header) → Header
raised_header h = pick (can_rise h.heartbeat) (beating (beats (h.heartbeat.0 + 1)) h) h

-- the header after a local beat, and whether the heartbeat rose
abbrev pub raised_of : (header : Header) → RaisedHeader
raised_of h = record { header = raised_header h; rose = can_rise h.heartbeat }

-- ---- a header that is lent

-- an offer answers whether it was news
abbrev pub lent_offered : (got : Heartbeat) (header : Header) → Given Bool Header
lent_offered got h = given (offered_to h got).news (offered_to h got).header

-- a local beat answers whether the heartbeat rose
abbrev pub lent_raised : (header : Header) → Given Bool Header
lent_raised h = given (raised_of h).rose (raised_of h).header
