-- `listing_text::shown_len` meets its contract: what is counted and the length of what is left are the whole's. Assumes nothing.
use Prim.Native.Nat.{ℕ, ◌+◌, ◌≤◌, ◌<◌}
use mathlib.Core.Path.{◌≡◌, ap}
use mathlib.Core.List.{List}
use native.Mathlib.Omega.{arith}
use lib.ListN.{length, get_or, drop, length-append, drop_of_length-le}
use Rattle.rules.specs.Listing.{shown_byte, shown_bytes}
use Rattle.listing_text.proofs.Texts.{shown-long, shown-next}
use Rattle.listing_text.proofs.shown_len.Goals as goal

turn : (l : List ℕ) (i n k : ℕ) → i < length l → k ≡ length (shown_byte (get_or l i 0)) → n + length (shown_bytes (drop i l)) ≡ length (shown_bytes l)
    → n + k + length (shown_bytes (drop (i + 1) l)) ≡ length (shown_bytes l)
turn l i n k h q e = omega (arith, ap length (shown-next l i h), length-append (shown_byte (get_or l i 0)) (shown_bytes (drop (i + 1) l)))

done : (l : List ℕ) (i n : ℕ) → length l ≤ i → n + length (shown_bytes (drop i l)) ≡ length (shown_bytes l) → n ≡ length (shown_bytes l)
unfolding shown_bytes
done l i n g e = let z = ap (λ (r : List ℕ). length (shown_bytes r)) (drop_of_length-le l g) in omega (arith, z)

pub overflow_add-n : goal.overflow_add-n
overflow_add-n c =
    let q = c.loop-b in
    let l = c.args.text.now in
    omega (arith, turn l q.b-index q.n _ c.loop-b-test.true c.byte_len-n.ensures q.invariant, shown-long l, c.requires)

pub loop-b-preserved : goal.loop-b-preserved
loop-b-preserved c =
    turn _ _ _ _ c.loop-b-test.true c.byte_len-n.ensures c.loop-b.invariant

pub returns : goal.returns
returns c =
    done _ _ _ c.loop-b-test.false c.loop-b.invariant
