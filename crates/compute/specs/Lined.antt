-- What computing works out before it writes: how far behind the digest is with each node, and the line of the stale nodes with their froms. And what
-- is written then.
use Rattle.std.specs.Prelude.{ℕ, ◌≤◌, ◌≡◌, List, length, get_or}
use Rattle.fields.specs.Numbers.{Bytes}
use Rattle.fields.specs.Choice.{pick, ◌∈◌}
use Rattle.fields.specs.Parts.{put}
use Rattle.rules.specs.Given.{Given, given}
use Rattle.rules.specs.Sizes.{max_nodes}
use Rattle.rules.specs.Table.{Table}
use Rattle.rules.specs.Digest.{NodeDigest}
use Rattle.rules.specs.Delta.{Op, delta_bytes}
use Rattle.rules.specs.Compute.{told_of, from_of, delta_for}
use Rattle.table_read.specs.Find.{entry_at}
use Rattle.compute_stale.specs.Arranged.{listed}
use Rattle.compute_order.specs.Line.{is_stale, line_of}
use Rattle.compute_write.specs.Sending.{counts}
use Rattle.rules.specs.declared.Sent.{Sent}
use Rattle.std.specs.Prelude.{None, Option, Some}
use Rattle.compute.specs.declared.Lined.{Lined}

-- ---- the line

-- the from of the node at a place, where it goes
abbrev pub from_at : (digest : List NodeDigest) (table : Table) (p : ℕ) → ℕ
from_at ds t p = from_of (entry_at t p).node.last_gc (told_of (entry_at t p).number ds).last_gc (told_of (entry_at t p).number ds).max

abbrev pub staleness_of : (excluded : List ℕ) (digest : List NodeDigest) (table : Table) (p : ℕ) → (Option ℕ)
staleness_of excluded ds t p = pick (is_stale excluded ds t p) (Some (from_at ds t p)) None

-- the stale nodes in their order, each with its from
pub record LinedUp (excluded : List ℕ) (digest : List NodeDigest) (ties : List ℕ) (table : Table) (r : Lined) : Type 0 where
  pub count_low : r.count ≤ max_nodes
  pub line_long : length r.line ≡ max_nodes
  pub froms-long : length r.froms ≡ max_nodes
  pub in_line : listed r.count r.line ≡ line_of excluded digest ties table
  pub from-of : (p : ℕ) → p ∈ listed r.count r.line → get_or r.froms p 0 ≡ from_at digest table p

-- ---- the delta

-- these operations, written to the front of a part of the datagram
abbrev pub at_front : (ops : List Op) (part : Bytes) → Given Sent Bytes
at_front ops part = given (counts (length ops) (length (delta_bytes ops))) (put 0 (delta_bytes ops) part)

-- the delta for a digest, as much of it as the part can hold
abbrev pub delta_in : (excluded ties : List ℕ) (digest : List NodeDigest) (table : Table) (part : Bytes) → Given Sent Bytes
delta_in excluded ties ds t part = at_front (delta_for excluded ties (length part) ds t) part
