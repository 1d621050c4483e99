-- `table_lines::count_records` meets its contract: what is counted and what is left are the whole. Assumes nothing.
use Prim.Native.Nat.{ℕ, ◌+◌, ◌<◌}
use mathlib.Core.Path.{◌≡◌, ap, subst, sym, ◌∙◌}
use native.Mathlib.Omega.{arith}
use lib.ListN.{drop}
use Rattle.fields.specs.Numbers.{Bytes}
use Rattle.rules.specs.Layout.{decode}
use Rattle.table.specs.Fits.{LaidNode, LaidTable}
use Rattle.table.specs.Tests.{count_of, nodes_of}
use Rattle.table.proofs.Laid.{laid-at}
use Rattle.table.proofs.Places.{node_bytes}
use Rattle.table_listing.specs.TableListing.{records_of}
use Rattle.table_lines.proofs.Pieces.{records-done, records-next}
use Rattle.table_lines.proofs.count_records.Goals as goal

-- one turn
turn : (l x : Bytes) (i n k : ℕ) → i < nodes_of l → x ≡ node_bytes i l → k ≡ count_of x → n + records_of (drop i (decode l)) ≡ records_of (decode l)
    → n + k + records_of (drop (i + 1) (decode l)) ≡ records_of (decode l)
turn l x i n k h e q p = omega (arith, records-next l i h, q ∙ ap count_of e)

-- the node that is read is laid out
laid : (b x : Bytes) (i : ℕ) → LaidTable b → i < nodes_of b → x ≡ node_bytes i b → LaidNode x
laid b x i o h e = subst LaidNode (sym e) (laid-at b o i h)

pub byte_at-n-requires : goal.byte_at-n-requires
byte_at-n-requires c =
    let low : c.loop-i.i < nodes_of c.args.area.now = omega (arith, c.byte_at-count.ensures.0, c.loop-i-test.true) in
    omega (arith, (laid c.args.area.now _ c.loop-i.i c.requires low c.node_of-node.ensures).long)

pub loop-i-preserved : goal.loop-i-preserved
loop-i-preserved c =
    let q = c.loop-i in
    let b = c.args.area.now in
    let low : q.i < nodes_of b = omega (arith, c.byte_at-count.ensures.0, c.loop-i-test.true) in (
      omega (arith, q.invariant.0, (laid b _ q.i c.requires low c.node_of-node.ensures).few, c.byte_at-n.ensures.0),
      turn b _ q.i q.n _ low c.node_of-node.ensures c.byte_at-n.ensures.0 q.invariant.1,
    )

pub returns : goal.returns
returns c =
    let q = c.loop-i in
    let l = c.args.area.now in
    omega (arith, q.invariant.1, records-done l q.i (omega (arith, c.byte_at-count.ensures.0, c.loop-i-test.false)))
