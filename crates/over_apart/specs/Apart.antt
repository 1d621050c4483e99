-- Overrides never enter a digest or delta (document 02, ticket 10). They could only by a call that writes one or takes one; such a call takes a table, and to
-- overrides that are lent for a table it answers 14 and changes nothing. The theorem is in proofs/Apart.
use Rattle.std.specs.Prelude.{true, ◌≡◌, take}
use Rattle.fields.specs.Choice.{◌∈◌}
use Rattle.fields.specs.Numbers.{Bytes}
use Rattle.overrides.specs.Overrides.{valid_node}
use Rattle.demand1.specs.Calls as calls
use Rattle.demand1.specs.Calls.{Kind, Call, lent_to, leaves, tables}

-- the kinds of calls that write a digest, write a delta, take a delta, or do all three
pub data Gossips : Kind → Type 0 where
  writes_digest : Gossips calls.WriteDigest
  computes : Gossips calls.Compute
  plans : Gossips calls.ComputePlan
  applies : Gossips calls.Apply
  exchanges : Gossips calls.Exchange

-- whichever of the call's tables they are lent for, in an exchange the publisher's or the follower's
unfoldable pub NeverGossiped : Type 0
NeverGossiped =
    (k : Kind) → Gossips k → (c : Call k) (overrides : Bytes) → valid_node overrides ≡ true → overrides ∈ take (tables k) (lent_to c)
    → ((leaves c).answer.number ≡ 14) × ((leaves c).lent ≡ lent_to c)
