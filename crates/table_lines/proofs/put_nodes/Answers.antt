-- `table_lines::put_nodes` meets its contract: what stands and what is left are the whole. Assumes nothing.
use Prim.Native.Nat.{ℕ, ◌+◌, ◌<◌}
use mathlib.Core.Path.{◌≡◌, ap, sym, ◌∙◌, subst}
use mathlib.Core.List.{◌++◌}
use native.Mathlib.Omega.{arith}
use Rattle.fields.specs.Blocks.{flat}
use Rattle.fields.specs.Numbers.{Bytes}
use Rattle.rules.specs.Layout.{decode, decode_node}
use Rattle.table.specs.Fits.{LaidNode}
use Rattle.table.specs.Tests.{nodes_of}
use Rattle.table.proofs.Laid.{laid-at}
use Rattle.table.proofs.Places.{decode-drop, node_at, node_bytes}
use Rattle.table.proofs.Tables.{length-decode}
use Rattle.listing_room.proofs.Lines.{Left, left-ends, left-none, left-turn, lines-done, lines_next}
use Rattle.table_listing.specs.TableListing.{entry_text}
use Rattle.table_lines.proofs.put_nodes.Goals as goal
use Rattle.table_lines.proofs.put_nodes.Invariants.{lines}

next : (b : Bytes) (i : ℕ) (x : Bytes) → i < nodes_of b → x ≡ node_bytes i b → lines b i ≡ entry_text (decode_node x) ++ lines b (i + 1)
next b i x h e =
    lines_next entry_text (decode b) i (node_at i b) (decode-drop i b h) ∙ ap (λ (y : Bytes). entry_text (decode_node y) ++ lines b (i + 1)) (sym e)

-- what is left, the next node first
left : (b out₀ : Bytes) (at n i : ℕ) (x out : Bytes) → i < nodes_of b → x ≡ node_bytes i b → Left at (flat entry_text (decode b)) out₀ n (lines b i) out
    → Left at (flat entry_text (decode b)) out₀ n (entry_text (decode_node x) ++ lines b (i + 1)) out
left b out₀ at n i x out h e = subst (λ (t : Bytes). Left at (flat entry_text (decode b)) out₀ n t out) (next b i x h e)

pub put_node-n-requires : goal.put_node-n-requires
put_node-n-requires c =
    let q = c.loop-i in
    let s = c.args in
    let b = s.area.now in
    let low : q.i < nodes_of b = omega (arith, c.byte_at-count.ensures.0, c.loop-i-test.true) in (
      subst LaidNode (sym c.node_of-node.ensures) (laid-at b c.requires.0 q.i low),
      left-ends s.at (flat entry_text (decode b)) s.out.now q.n q.out (entry_text (decode_node c.node_of-node.result.now)) (lines b (q.i + 1))
          (left b s.out.now s.at q.n q.i _ q.out low c.node_of-node.ensures q.invariant) c.requires.1,
    )

pub loop-i-preserved : goal.loop-i-preserved
loop-i-preserved c =
    let q = c.loop-i in
    let s = c.args in
    let b = s.area.now in
    let low : q.i < nodes_of b = omega (arith, c.byte_at-count.ensures.0, c.loop-i-test.true) in
    left-turn s.at _ s.out.now q.n q.out _ _ (left b s.out.now s.at q.n q.i _ q.out low c.node_of-node.ensures q.invariant) _ _ c.put_node-n.ensures

pub returns : goal.returns
returns c =
    let q = c.loop-i in
    let s = c.args in
    let b = s.area.now in
    let done = lines-done entry_text (decode b) q.i (omega (arith, length-decode b, c.byte_at-count.ensures.0, c.loop-i-test.false)) in
    left-none s.at _ s.out.now q.n q.out (subst (λ (t : Bytes). Left s.at (flat entry_text (decode b)) s.out.now q.n t q.out) done q.invariant)
