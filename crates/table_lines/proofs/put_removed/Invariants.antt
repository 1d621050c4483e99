-- `table_lines::put_removed` meets its contract: what stands and what is left are the whole. Assumes nothing.
use Prim.Native.Nat.{ℕ}
use Rattle.fields.specs.Blocks.{flat}
use Rattle.fields.specs.Numbers.{Bytes}
use Rattle.rules.specs.Whole.{decode_memory}
use Rattle.listing_room.proofs.Lines.{Left}
use Rattle.table_listing.specs.TableListing.{removed_line}
use lib.ListN.{drop}
use Rattle.table_lines.proofs.put_removed.Given as goal

-- the lines of the removed nodes from place i on
abbrev pub lines : (tail : Bytes) (i : ℕ) → Bytes
lines b i = flat removed_line (drop i (decode_memory b))

abbrev pub invariant-loop-i : goal.invariant-loop-i
invariant-loop-i l = Left l.at (flat removed_line (decode_memory l.tail)) l.initial.out l.n (lines l.tail l.i) l.out
