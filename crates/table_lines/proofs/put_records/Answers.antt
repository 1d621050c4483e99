-- `table_lines::put_records` meets its contract: what stands and what is left are the whole. Assumes nothing.
use Prim.Native.Nat.{ℕ, ◌+◌, ◌≤◌, ◌<◌}
use mathlib.Core.Path.{◌≡◌, ap, sym, ◌∙◌, subst}
use mathlib.Core.List.{◌++◌}
use native.Mathlib.Omega.{arith}
use lib.ListN.{length}
use Rattle.fields.specs.Blocks.{flat}
use Rattle.fields.specs.Numbers.{Bytes}
use Rattle.rules.specs.Layout.{decode_rec}
use Rattle.rules.specs.Sizes.{max_key, max_value}
use Rattle.table.specs.Tests.{count_of, key_length, recs_in, value_length}
use Rattle.table.proofs.Laid.{laid-key, laid-value, rec-long}
use Rattle.table.proofs.Places.{length-recs, rec_at, rec_bytes, recs-drop}
use Rattle.listing_room.proofs.Lines.{Left, left-ends, left-none, left-turn, lines-done, lines_next}
use Rattle.table_listing.specs.TableListing.{record_line}
use Rattle.table_lines.proofs.put_records.Goals as goal
use Rattle.table_lines.proofs.put_records.Invariants.{lines}

next : (b : Bytes) (i : ℕ) (x : Bytes) → i < count_of b → x ≡ rec_bytes i b → lines b i ≡ record_line (decode_rec x) ++ lines b (i + 1)
next b i x h e =
    lines_next record_line (recs_in b) i (rec_at i b) (recs-drop i b h) ∙ ap (λ (y : Bytes). record_line (decode_rec y) ++ lines b (i + 1)) (sym e)

-- what is left, the next record first
left : (b out₀ : Bytes) (at n i : ℕ) (x out : Bytes) → i < count_of b → x ≡ rec_bytes i b → Left at (flat record_line (recs_in b)) out₀ n (lines b i) out
    → Left at (flat record_line (recs_in b)) out₀ n (record_line (decode_rec x) ++ lines b (i + 1)) out
left b out₀ at n i x out h e = subst (λ (t : Bytes). Left at (flat record_line (recs_in b)) out₀ n t out) (next b i x h e)

pub put_record-n-requires : goal.put_record-n-requires
put_record-n-requires c =
    let q = c.loop-i in
    let s = c.args in
    let b = s.node.now in
    let low : q.i < count_of b = omega (arith, c.byte_at-count.ensures.0, c.loop-i-test.true) in (
      ap length c.record_of-record.ensures ∙ rec-long b c.requires.0 q.i low,
      subst (λ (x : Bytes). key_length x ≤ max_key) (sym c.record_of-record.ensures) (laid-key b c.requires.0 q.i low),
      subst (λ (x : Bytes). value_length x ≤ max_value) (sym c.record_of-record.ensures) (laid-value b c.requires.0 q.i low),
      left-ends s.at (flat record_line (recs_in b)) s.out.now q.n q.out (record_line (decode_rec c.record_of-record.result.now)) (lines b (q.i + 1))
          (left b s.out.now s.at q.n q.i _ q.out low c.record_of-record.ensures q.invariant) c.requires.1,
    )

pub loop-i-preserved : goal.loop-i-preserved
loop-i-preserved c =
    let q = c.loop-i in
    let s = c.args in
    let b = s.node.now in
    let low : q.i < count_of b = omega (arith, c.byte_at-count.ensures.0, c.loop-i-test.true) in
    left-turn s.at _ s.out.now q.n q.out _ _ (left b s.out.now s.at q.n q.i _ q.out low c.record_of-record.ensures q.invariant) _ _ c.put_record-n.ensures

pub returns : goal.returns
returns c =
    let q = c.loop-i in
    let s = c.args in
    let b = s.node.now in
    let done = lines-done record_line (recs_in b) q.i (omega (arith, length-recs b, c.byte_at-count.ensures.0, c.loop-i-test.false)) in
    left-none s.at _ s.out.now q.n q.out (subst (λ (t : Bytes). Left s.at (flat record_line (recs_in b)) s.out.now q.n t q.out) done q.invariant)
