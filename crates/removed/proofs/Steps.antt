-- What the code leaves in a tail's bytes: one less, one more. Assumes nothing.
use Prim.Native.Nat.{ℕ, ◌+◌, ◌≤◌, ◌<◌}
use mathlib.Core.Path.{◌≡◌, refl, sym, ap, ap₂, subst, ◌∙◌}
use mathlib.Core.Bool.{Bool, true, false}
use mathlib.Core.List.{List, [], ◌∷◌, ◌++◌, append-nil}
use native.Mathlib.Omega.{arith}
use lib.Dec.{ltb}
use lib.ListN.{length, drop, length-drop}
use borrow.Author.Tests.{lt-ltb, le-ltb, ltb-true}
use Rattle.fields.specs.Choice.{pick, ◌∈◌}
use Rattle.fields.specs.Numbers.{bytes_of}
use Rattle.fields.specs.Parts.{put}
use Rattle.fields.specs.Blocks.{remove_at}
use Rattle.fields.specs.Widths.{joined, offset}
use Rattle.fields.proofs.Choice.{in-drop}
use Rattle.fields.proofs.Numbers.{length-bytes_of}
use Rattle.fields.proofs.Parts.{put-behind}
use Rattle.rules.specs.Sizes.{max_removed}
use Rattle.rules.specs.Memory.{Memory, Removed, forget, make_room, remember, removed, removed_obeys}
use Rattle.rules.specs.Whole.{decode_memory, decode_removed, decode_tail, encode_removed, encode_tail, removed_place, removed_width, tail_widths}
use Rattle.rules.specs.declared.Heartbeat.{Heartbeat}
use Rattle.table.specs.Fits.{LaidTail}
use Rattle.table.specs.Tests.{removed_in}
use Rattle.table.proofs.Memories.{laid-tail, length-memory, tail-append, tail-remove}
use Rattle.table.proofs.Wholes.{tail-memory, tail-kind}
use Rattle.table_write.specs.Rows.{less_block, without_block}
use Rattle.table_write.proofs.Steps.{less-suc}
use Rattle.removed.specs.Find.{index_of}
use Rattle.removed.proofs.Found.{forget-at, forget-past}

module _ (b : List ℕ) (o : LaidTail b) where
  abbrev mem : Memory
  mem = decode_memory b

  abbrev left : Memory → List ℕ
  left m = encode_tail (decode_tail b) m

  few : length mem ≤ max_removed
  few = rw length-memory o.few

  -- the one at i goes
  gone : (i : ℕ) → i < removed_in b → without_block (offset tail_widths 2) removed_width i b ≡ left (remove_at i mem)
  gone i h =
      ap₂ (λ (n : ℕ) (l : List ℕ). less_block (offset tail_widths 2) removed_width i n l) (sym (length-memory b)) (sym o.is)
      ∙ less-suc (offset tail_widths 2) removed_width i (length mem) (left mem)
      ∙ tail-remove (decode_tail b) mem few i (decode_removed []) (rw length-memory h)

  -- ---- forgetting

  module _ (k i : ℕ) (e : i ≡ index_of k mem) where
    pub forget-one : (s : List ℕ) → i < removed_in b → s ≡ without_block (offset tail_widths 2) removed_width i b → s ≡ left (forget k mem)
    forget-one s h q =
        q ∙ gone i h
        ∙ ap left (ap (λ (n : ℕ). remove_at n mem) e ∙ sym (forget-at k mem (rw (length-memory b, ← e) h)))

    pub forget-none : removed_in b ≤ i → b ≡ left (forget k mem)
    forget-none h = sym o.is ∙ ap left (sym (forget-past k mem (rw (length-memory b, ← e) h)))

  -- ---- making room

  first : remove_at 0 mem ≡ drop 1 mem
  unfolding remove_at
  first = refl

  pub no_room : (s : List ℕ) → max_removed ≤ removed_in b → s ≡ without_block (offset tail_widths 2) removed_width 0 b → s ≡ left (make_room mem)
  unfolding make_room
  no_room s h q =
      q ∙ gone 0 (omega arith) ∙ ap left first
      ∙ ap (λ (t : Bool). left (pick t mem (drop 1 mem))) (sym (le-ltb (length mem) max_removed (rw length-memory h)))

  pub has_room : removed_in b < max_removed → b ≡ left (make_room mem)
  unfolding make_room
  has_room h = sym o.is ∙ ap (λ (t : Bool). left (pick t mem (drop 1 mem))) (sym (lt-ltb (length mem) max_removed (rw length-memory h)))

  -- ---- one more

  pub one_more : (s1 s2 s3 : List ℕ) (n a k : ℕ) (h : Heartbeat) → n ≡ removed_in b → n < max_removed → a ≡ removed_place n → s1 ≡ put a (bytes_of 8 k) b
      → s2 ≡ put (a + 8) (bytes_of 8 h.0) s1 → s3 ≡ put (offset tail_widths 2) (bytes_of 1 (n + 1)) s2 → s3 ≡ left (mem ++ (removed k h ∷ []))
  unfolding encode_removed joined
  one_more s1 s2 s3 n a k h en hn ea e1 e2 e3 =
      let long : length (bytes_of 8 k) ≡ 8 = length-bytes_of 8 k in
      let wide : length (bytes_of 8 h.0) ≡ 8 = length-bytes_of 8 h.0 in
      let pair : encode_removed (removed k h) ≡ bytes_of 8 k ++ bytes_of 8 h.0 = ap (λ (l : List ℕ). bytes_of 8 k ++ l) (append-nil (bytes_of 8 h.0)) in
      let both : s2 ≡ put a (encode_removed (removed k h)) b =
      e2
      ∙ ap (put (a + 8) (bytes_of 8 h.0)) e1
      ∙ ap (λ (w : ℕ). put (a + w) (bytes_of 8 h.0) (put a (bytes_of 8 k) b)) (sym long)
      ∙ put-behind a (bytes_of 8 k) (bytes_of 8 h.0) b (rw (long, wide) (omega (arith, o.long, ea, hn)))
      ∙ ap (λ (l : List ℕ). put a l b) (sym pair) in
      let count : n ≡ length mem = en ∙ sym (length-memory b) in
      let full : ℕ → ℕ → List ℕ → List ℕ = λ m p l. put (offset tail_widths 2) (bytes_of 1 (m + 1)) (put p (encode_removed (removed k h)) l) in
      e3
      ∙ ap (put (offset tail_widths 2) (bytes_of 1 (n + 1))) both
      ∙ (λ z. full (count z) ((ea ∙ ap removed_place count) z) (sym o.is z))
      ∙ tail-append (decode_tail b) mem few (removed k h) (subst (λ (m : ℕ). m < max_removed) count hn)

  -- ---- room made, and one more

  room-few : length (make_room mem) < max_removed
  unfolding make_room
  room-few = go (ltb (length mem) max_removed) refl
    where
      go : (t : Bool) → ltb (length mem) max_removed ≡ t → length (pick t mem (drop 1 mem)) < max_removed
      go true q = ltb-true (length mem) max_removed q
      go false q = let c = few in rw length-drop (omega arith)

  room_fits : (r : Removed) → r ∈ make_room mem → removed_obeys r ≡ true
  unfolding make_room
  room_fits r m = go (ltb (length mem) max_removed) m
    where
      go : (t : Bool) → r ∈ pick t mem (drop 1 mem) → removed_obeys r ≡ true
      go true n = o.fits r n
      go false n = o.fits r (in-drop 1 mem n)

  module _ (s : List ℕ) (e : s ≡ left (make_room mem)) where
    back : decode_memory s ≡ make_room mem
    back = ap decode_memory e ∙ tail-memory (decode_tail b) (make_room mem) (let h = room-few in omega arith) room_fits

    pub room-laid : LaidTail s × (removed_in s < max_removed)
    room-laid = (
      subst LaidTail (sym e) (laid-tail (decode_tail b) (make_room mem) (let h = room-few in omega arith) room_fits),
      subst (λ (n : ℕ). n < max_removed) (ap length (sym back) ∙ length-memory s) room-few,
    )

    pub room-then : (k : ℕ) (h : Heartbeat) (t : List ℕ) → t ≡ encode_tail (decode_tail s) (decode_memory s ++ (removed k h ∷ [])) → t ≡ left (remember k h mem)
    unfolding remember
    room-then k h t q = q ∙ (λ z. encode_tail ((ap decode_tail e ∙ tail-kind (decode_tail b) (make_room mem)) z) (back z ++ (removed k h ∷ [])))
