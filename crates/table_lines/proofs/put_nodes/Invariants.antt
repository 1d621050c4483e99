-- `table_lines::put_nodes` meets its contract: what stands and what is left are the whole. Assumes nothing.
use Prim.Native.Nat.{ℕ}
use lib.ListN.{drop}
use Rattle.fields.specs.Blocks.{flat}
use Rattle.fields.specs.Numbers.{Bytes}
use Rattle.rules.specs.Layout.{decode}
use Rattle.listing_room.proofs.Lines.{Left}
use Rattle.table_listing.specs.TableListing.{entry_text}
use Rattle.table_lines.proofs.put_nodes.Given as goal

-- the lines of the nodes from place i on
abbrev pub lines : (area : Bytes) (i : ℕ) → Bytes
lines b i = flat entry_text (drop i (decode b))

abbrev pub invariant-loop-i : goal.invariant-loop-i
invariant-loop-i l = Left l.at (flat entry_text (decode l.area)) l.initial.out l.n (lines l.area l.i) l.out
