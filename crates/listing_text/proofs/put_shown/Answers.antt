-- `listing_text::put_shown` meets its contract: what is left of the text, put now as it is shown, gives what the contract says. Assumes nothing.
use Prim.Native.Nat.{ℕ, ◌+◌, ◌≤◌, ◌<◌}
use mathlib.Core.Path.{◌≡◌, ap, sym, ◌∙◌}
use mathlib.Core.List.{List, []}
use native.Mathlib.Omega.{arith}
use lib.ListN.{length, get_or, drop, length-append, drop_of_length-le}
use Rattle.fields.specs.Parts.{put}
use Rattle.fields.proofs.Parts.{put-behind, put-nil}
use Rattle.rules.specs.Listing.{shown_byte, shown_bytes}
use Rattle.listing_text.specs.Texts.{TextFits}
use Rattle.listing_text.proofs.Texts.{Put, put-long, shown-next}
use Rattle.listing_text.proofs.put_shown.Goals as goal

-- one turn: room for the byte, and what is left then
module _ (l out : List ℕ) (n i all : ℕ) (h : i < length l) (e : n + length (shown_bytes (drop i l)) ≡ all) (fits : all ≤ length out) where
  abbrev shown : List ℕ
  shown = shown_byte (get_or l i 0)

  abbrev left : List ℕ
  left = shown_bytes (drop (i + 1) l)

  long : length (shown_bytes (drop i l)) ≡ length shown + length left
  long = ap length (shown-next l i h) ∙ length-append shown left

  room : TextFits n shown out
  room = omega (arith, long)

  again : (out' : List ℕ) (n' : ℕ) (t : List ℕ) → Put n shown out out' n' → put n (shown_bytes (drop i l)) out ≡ t
      → (length out' ≡ length out) × (n' + length left ≡ all) × (put n' left out' ≡ t)
  again out' n' t w p = (
    put-long n shown out out' n' room w,
    omega (arith, long, w.0),
    ap (λ (j : ℕ). put j left out') w.0
        ∙ ap (put (n + length shown) left) w.1
        ∙ put-behind n shown left out (omega (arith, long))
        ∙ ap (λ (x : List ℕ). put n x out) (sym (shown-next l i h))
        ∙ p,
  )

done : (l out out₀ : List ℕ) (at n i : ℕ) → length l ≤ i → n + length (shown_bytes (drop i l)) ≡ at + length (shown_bytes l)
    → put n (shown_bytes (drop i l)) out ≡ put at (shown_bytes l) out₀ → Put at (shown_bytes l) out₀ out n
unfolding shown_bytes
done l out out₀ at n i g e p =
    let z : shown_bytes (drop i l) ≡ [] = ap shown_bytes (drop_of_length-le l g) in
    (omega (arith, ap length z), sym (put-nil n out) ∙ ap (λ (x : List ℕ). put n x out) (sym z) ∙ p)

pub put_byte-n-requires : goal.put_byte-n-requires
put_byte-n-requires c =
    let q = c.loop-b in
    room c.args.text.now q.out q.n q.b-index _ c.loop-b-test.true q.invariant.1 (omega (arith, c.requires, q.invariant.0))

pub loop-b-preserved : goal.loop-b-preserved
loop-b-preserved c =
    let q = c.loop-b in
    let t = again c.args.text.now q.out q.n q.b-index _ c.loop-b-test.true q.invariant.1 (omega (arith, c.requires, q.invariant.0)) _ _ _
    c.put_byte-n.ensures q.invariant.2 in
    (t.0 ∙ q.invariant.0, t.1, t.2)

pub returns : goal.returns
returns c =
    let inv = c.loop-b.invariant in done _ _ _ _ _ _ c.loop-b-test.false inv.1 inv.2
