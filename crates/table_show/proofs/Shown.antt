-- The listing in a buffer: what is known of a good table, and of a text that was measured before it is written. Assumes nothing.
use Prim.Native.Nat.{ℕ, ◌+◌, ◌-◌, ◌<◌, ◌≤◌}
use mathlib.Core.Path.{◌≡◌, refl, ap, subst, sym, ◌∙◌}
use mathlib.Core.Bool.{Bool, true, false}
use mathlib.Core.List.{[], ◌∷◌, ◌++◌}
use native.Mathlib.Omega.{arith}
use lib.ListN.{drop, length, take}
use lib.Dec.{eqb, leb, ltb}
use borrow.Author.Tests.{le-leb}
use Rattle.fields.specs.Choice.{pick}
use Rattle.fields.specs.Numbers.{Bytes}
use Rattle.fields.specs.Parts.{put}
use Rattle.rules.specs.Given.{Gives}
use Rattle.rules.specs.Answers.{mode_of, profile_of}
use Rattle.rules.specs.Digest.{write_bytes}
use Rattle.rules.specs.Layout.{decode}
use Rattle.rules.specs.Sizes.{max_nodes, max_removed}
use Rattle.rules.specs.Whole.{area_of, decode_memory, decode_whole, mode_of_byte, profile_of_byte, tail_of, tail_width, valid_whole, whole_width}
use Rattle.rules.specs.declared.Refusal.{Refusal}
use Rattle.rules.specs.declared.Refusal.TheVariants.{NoPlace}
use Rattle.std.specs.Prelude.{Err, Ok}
use Rattle.rules.proofs.Memories.{whole-memory, whole-table}
use Rattle.table.specs.Fits.{LaidTable}
use Rattle.table.specs.Tests.{mode_in, nodes_of, profile_in, removed_in}
use Rattle.table.proofs.Memories.{length-memory, tail-laid}
use Rattle.table.proofs.Tables.{length-decode, obeys-fits, valid-laid}
use Rattle.table.proofs.Wholes.{area-valid, whole-obeys}
use Rattle.listing.proofs.Lines.{front-none, front-whole}
use Rattle.listing_room.specs.Room.{Ends, within}
use Rattle.listing_room.proofs.Room.{Put, all_room}
use Rattle.table_listing.specs.TableListing.{bad_place, end_text, list_table, longest_listing, records_of, refused_line, table_listing, whole_text}
use Rattle.table_listing.specs.TableListing.{wrong_area, wrong_line, wrong_tail, wrong_text}
use Rattle.table_listing.proofs.Long as long
use Rattle.table_listing.proofs.Told.{listing-bad, listing-good}

-- the counts of the end line
pub end_is : (l t : Bytes) (a b c : ℕ) → a ≡ nodes_of l → b ≡ records_of (decode l) → c ≡ removed_in t
    → end_text a b c ≡ end_text (length (decode l)) (records_of (decode l)) (length (decode_memory t))
end_is l t a b c p q r = λ z. end_text ((p ∙ sym (length-decode l)) z) (q z) ((r ∙ sym (length-memory t)) z)

-- ---- a good table

module _ (l : Bytes) (v : valid_whole l ≡ true) where
  pub good-most : length (whole_text (decode_whole l)) ≤ longest_listing
  good-most =
      let o = whole-obeys l v in
      long.whole_long (decode_whole l) (obeys-fits (decode_whole l).table (whole-table (decode_whole l) o)) (whole-memory (decode_whole l) o).few

  pub good-ends : Ends 0 (whole_text (decode_whole l))
  good-ends = omega (arith, good-most)

  pub good-area : LaidTable (area_of l)
  good-area = valid-laid (area_of l) (area-valid l v)

  -- the tail as it is lent
  pub good-tail : (t : Bytes) → t ≡ tail_of l → (length t ≡ tail_width) × (removed_in t ≤ max_removed)
  good-tail t e = (ap length e ∙ (tail-laid l v).long, subst (λ (x : Bytes). removed_in x ≤ max_removed) (sym e) (tail-laid l v).few)

-- ---- a text that was measured

-- with no room the buffer is as it was
pub nothing_put : (s l : Bytes) → length s ≡ length (take 0 l) → s ++ drop 0 l ≡ l
nothing_put [] l e = refl
nothing_put (b ∷ s) l e = absurd (omega (arith, e))

module _ (text l s m : Bytes) (n : ℕ) (p : n ≡ 0 + length text) (e : length s ≡ length (take 0 l)) where
  pub too_long : length (s ++ drop 0 l) < n → Gives (write_bytes text 0 l) (Err NoPlace) (s ++ drop 0 l)
  too_long h = let q = nothing_put s l e in subst (λ (x : Bytes). Gives (write_bytes text 0 l) (Err NoPlace) x) (sym q) (front-none text l (omega (arith, ap length q)))

  pub has_room : n ≤ length (s ++ drop 0 l) → (r : ℕ) → Put 0 text (s ++ drop 0 l) m r → Gives (write_bytes text 0 l) (Ok n) m
  has_room h r w =
      let q = nothing_put s l e in
      let fits : length text ≤ length l = omega (arith, ap length q) in
      front-whole text l n m fits (omega arith)
      (w.1 ∙ ap (λ (x : Bytes). put 0 (within (length x) 0 text) x) q ∙ all_room 0 text l (omega arith))

-- ---- room for every listing

-- of bytes that are no good table
by : (t : Bool) (x y : Bytes) → length x ≤ longest_listing → length y ≤ longest_listing → length (pick t x y) ≤ longest_listing
by true x y p q = p
by false x y p q = q

wrong-most : (name : Bytes) (v : ℕ) → length name ≤ 16 → length (wrong_line name v) ≤ longest_listing
wrong-most name v h = omega (arith, long.wrong-long name v h)

bad-most : (l : Bytes) → length (wrong_text l) ≤ longest_listing
unfolding wrong_text refused_line
bad-most l =
    by (eqb (length l) whole_width) (wrong_area (area_of l) (tail_of l)) _
    (by (leb (nodes_of (area_of l)) max_nodes) _ _
    (by (ltb (bad_place (area_of l)) (nodes_of (area_of l))) _ (wrong_tail (tail_of l)) (wrong-most _ _ (omega arith)) (tail-most (tail_of l))) (wrong-most _ _ (omega arith)))
    (wrong-most _ _ (omega arith))
  where
    tail-most : (b : Bytes) → length (wrong_tail b) ≤ longest_listing
    tail-most b =
        by (eqb (mode_of (mode_of_byte (mode_in b))) (mode_in b)) _ _
        (by (eqb (profile_of (profile_of_byte (profile_in b))) (profile_in b)) refused_line _ (omega arith) (wrong-most _ _ (omega arith))) (wrong-most _ _ (omega arith))

pub listing-most : (l : Bytes) → length (table_listing l) ≤ longest_listing
listing-most l = go (valid_whole l) refl
  where
    go : (t : Bool) → valid_whole l ≡ t → length (table_listing l) ≤ longest_listing
    go true v = omega (arith, ap length (listing-good l v), good-most l v)
    go false v = omega (arith, ap length (listing-bad l v), bad-most l)

-- so a buffer of that size is never refused, and the answer is within it
module _ (l out : Bytes) (h : longest_listing ≤ length out) where
  answered : (list_table l out).answer ≡ Ok (length (table_listing l))
  answered =
      let most = listing-most l in
      rw (le-leb 0 (length out) (omega arith), le-leb (length (table_listing l)) (length out - 0) (omega arith))

  pub shown-fits : (r : Refusal) → (list_table l out).answer ≡ Err r → ⊥
  shown-fits r e =
      let f = sym answered ∙ e in
      let z : ◌≡◌ {A = ℕ} 0 1 = cc in
      omega arith

  pub shown-within : (k : ℕ) → (list_table l out).answer ≡ Ok k → k ≤ length out
  shown-within k e =
      let f = sym answered ∙ e in
      let g : length (table_listing l) ≡ k = cc in
      omega (arith, listing-most l)
