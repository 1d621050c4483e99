-- `table_lines::put_records` meets its contract: what stands and what is left are the whole. Assumes nothing.
use Prim.Native.Nat.{ℕ}
use lib.ListN.{drop}
use Rattle.fields.specs.Blocks.{flat}
use Rattle.fields.specs.Numbers.{Bytes}
use Rattle.table.specs.Tests.{recs_in}
use Rattle.listing_room.proofs.Lines.{Left}
use Rattle.table_listing.specs.TableListing.{record_line}
use Rattle.table_lines.proofs.put_records.Given as goal

-- the lines of the records from place i on
abbrev pub lines : (node : Bytes) (i : ℕ) → Bytes
lines b i = flat record_line (drop i (recs_in b))

abbrev pub invariant-loop-i : goal.invariant-loop-i
invariant-loop-i l = Left l.at (flat record_line (recs_in l.node)) l.initial.out l.n (lines l.node l.i) l.out
