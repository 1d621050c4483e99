-- `table_lines::put_removed` meets its contract: what stands and what is left are the whole. Assumes nothing.
use Prim.Native.Nat.{ℕ, ◌+◌, ◌≤◌, ◌<◌}
use mathlib.Core.Path.{◌≡◌, ap, ap₂, sym, ◌∙◌, subst}
use mathlib.Core.List.{◌++◌}
use native.Mathlib.Omega.{arith}
use lib.ListN.{length}
use Rattle.fields.specs.Blocks.{flat}
use Rattle.fields.specs.Numbers.{Bytes, nat_of}
use Rattle.fields.specs.Parts.{part}
use Rattle.rules.specs.Listing.{ascii}
use Rattle.rules.specs.Sizes.{max_removed}
use Rattle.rules.specs.Whole.{decode_memory, removed_place, tail_width}
use Rattle.table.specs.Tests.{removed_in}
use Rattle.table.proofs.Memories.{length-memory, memory-drop, removed-beat, removed-number, removed_at}
use Rattle.listing_room.specs.Room.{last_two}
use Rattle.listing_room.proofs.Lines.{Left, left-ends, left-none, left-turn, lines-done, lines_next}
use Rattle.table_listing.specs.TableListing.{removed_line}
use Rattle.table_lines.proofs.put_removed.Goals as goal
use Rattle.table_lines.proofs.put_removed.Invariants.{lines}

-- the next line by what was read
abbrev line : (number beat : ℕ) → Bytes
line n h = last_two (ascii "removed=") n (ascii " heartbeat=") h

next : (b : Bytes) (i a n h : ℕ) → length b ≡ tail_width → removed_in b ≤ max_removed → i < removed_in b → a ≡ removed_place i → n ≡ nat_of (part (a + 0) 8 b)
    → h ≡ nat_of (part (a + 8) 8 b) → lines b i ≡ line n h ++ lines b (i + 1)
unfolding removed_line
next b i a n h e f g p q r =
    let low : i < max_removed = omega arith in
    lines_next removed_line (decode_memory b) i (removed_at i b) (memory-drop i b g)
    ∙ ap (λ (t : Bytes). t ++ lines b (i + 1))
    (ap₂ line (removed-number i b e low ∙ sym (q ∙ ap (λ (k : ℕ). nat_of (part (k + 0) 8 b)) p)) (removed-beat i b e low ∙ sym (r ∙ ap (λ (k : ℕ). nat_of (part (k + 8) 8 b)) p)))

-- what is left, the next removed node first
left : (b out₀ : Bytes) (at n i a x h : ℕ) (out : Bytes) → length b ≡ tail_width → removed_in b ≤ max_removed → i < removed_in b → a ≡ removed_place i
    → x ≡ nat_of (part (a + 0) 8 b) → h ≡ nat_of (part (a + 8) 8 b) → Left at (flat removed_line (decode_memory b)) out₀ n (lines b i) out
    → Left at (flat removed_line (decode_memory b)) out₀ n (line x h ++ lines b (i + 1)) out
left b out₀ at n i a x h out e f g p q r =
    subst (λ (t : Bytes). Left at (flat removed_line (decode_memory b)) out₀ n t out) (next b i a x h e f g p q r)

pub put_last_two-n-requires : goal.put_last_two-n-requires
put_last_two-n-requires c =
    let q = c.loop-i in
    let b = c.args.tail.now in
    let low : q.i < removed_in b = omega (arith, c.byte_at-count.ensures.0, c.loop-i-test.true) in
    left-ends c.args.at (flat removed_line (decode_memory b)) c.args.out.now q.n q.out
    (line c.read_u64-number.result c.read_u64-beat.result) (lines b (q.i + 1))
    (left b c.args.out.now c.args.at q.n q.i _ _ _ q.out c.requires.0 c.requires.1 low c.removed_place-a.ensures c.read_u64-number.ensures c.read_u64-beat.ensures q.invariant)
    c.requires.2

pub loop-i-preserved : goal.loop-i-preserved
loop-i-preserved c =
    let q = c.loop-i in
    let b = c.args.tail.now in
    let low : q.i < removed_in b = omega (arith, c.byte_at-count.ensures.0, c.loop-i-test.true) in
    left-turn c.args.at _ c.args.out.now q.n q.out _ _
    (left b c.args.out.now c.args.at q.n q.i _ _ _ q.out c.requires.0 c.requires.1 low c.removed_place-a.ensures c.read_u64-number.ensures c.read_u64-beat.ensures q.invariant)
    _ _ c.put_last_two-n.ensures

pub returns : goal.returns
returns c =
    let q = c.loop-i in
    let s = c.args in
    let b = s.tail.now in
    let done = lines-done removed_line (decode_memory b) q.i (omega (arith, length-memory b, c.byte_at-count.ensures.0, c.loop-i-test.false)) in
    left-none s.at _ s.out.now q.n q.out (subst (λ (t : Bytes). Left s.at (flat removed_line (decode_memory b)) s.out.now q.n t q.out) done q.invariant)
