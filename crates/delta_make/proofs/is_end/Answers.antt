-- `delta_make::is_end` meets its contract: the end line is printed, and compared. Assumes nothing.
use Prim.Native.Nat.{ℕ, ◌≤◌}
use mathlib.Core.Path.{◌≡◌, ap, sym, ◌∙◌}
use mathlib.Core.List.{List, ◌++◌}
use native.Mathlib.Omega.{arith}
use lib.ListN.{length, length-append, replicate, take}
use lib.Seq.{length-take-le}
use Rattle.fields.specs.Order.{same_bytes}
use Rattle.rules.specs.Listing.{ascii, end_line, line_feed}
use Rattle.listing_text.specs.Texts.{TextFits, numbered}
use Rattle.listing_text.proofs.Texts.{Put, decimal-long, fits-first, fits-three, fits-two, three}
use Rattle.listing_words.proofs.Read.{put_front, put-within}
use Rattle.delta_make.proofs.is_end.Goals as goal

-- the buffer, and the line's pieces
abbrev own : List ℕ
own = replicate 59 0

abbrev counted : ℕ → List ℕ
counted n = numbered (ascii "end=ok ops=") n

abbrev sized : ℕ → List ℕ
sized b = numbered (ascii " bytes=") b

room : (n b : ℕ) → length (end_line n b) ≤ length own
room n b = simp length-append (omega (arith, decimal-long n, decimal-long b))

fits : (n b : ℕ) → TextFits 0 (end_line n b) own
fits n b = omega (arith, room n b)

-- the line that the three calls print
module _ (n b m k r : ℕ) (l₁ l₂ l₃ : List ℕ) (w₁ : Put 0 (counted n) own l₁ m) (w₂ : Put m (sized b) l₁ l₂ k) (w₃ : Put k line_feed l₂ l₃ r) where
  printed : Put 0 (end_line n b) own l₃ r
  printed = three 0 (counted n) (sized b) line_feed own _ _ (fits n b) w₁ _ _ w₂ _ _ w₃

  within : r ≤ length l₃
  within = put-within (end_line n b) own _ _ (room n b) printed

  front : take r l₃ ≡ end_line n b
  front = put_front (end_line n b) own _ _ (room n b) printed

pub put_numbered-m-requires : goal.put_numbered-m-requires
put_numbered-m-requires c =
    fits-first 0 (counted c.args.ops) (sized c.args.bytes ++ line_feed) own (fits c.args.ops c.args.bytes)

pub put_numbered-n-requires : goal.put_numbered-n-requires
put_numbered-n-requires c =
    fits-two 0 (counted c.args.ops) (sized c.args.bytes) line_feed own _ _ (fits c.args.ops c.args.bytes) c.put_numbered-m.ensures

pub put_text-k-requires : goal.put_text-k-requires
put_text-k-requires c =
    fits-three 0 (counted c.args.ops) (sized c.args.bytes) line_feed own _ _ (fits c.args.ops c.args.bytes) c.put_numbered-m.ensures _ _ c.put_numbered-n.ensures

pub slice_bounds-own-end : goal.slice_bounds-own-end
slice_bounds-own-end c =
    within c.args.ops c.args.bytes _ _ _ _ _ _ c.put_numbered-m.ensures c.put_numbered-n.ensures c.put_text-k.ensures

pub slice_bounds-same-end : goal.slice_bounds-same-end
slice_bounds-same-end c =
    sym (length-take-le _ _ (within c.args.ops c.args.bytes _ _ _ _ _ _ c.put_numbered-m.ensures c.put_numbered-n.ensures c.put_text-k.ensures))

pub returns : goal.returns
returns c =
    c.same.ensures
    ∙ ap (λ (x : List ℕ). same_bytes x c.args.line.now)
    (front c.args.ops c.args.bytes _ _ _ _ _ _ c.put_numbered-m.ensures c.put_numbered-n.ensures c.put_text-k.ensures)
