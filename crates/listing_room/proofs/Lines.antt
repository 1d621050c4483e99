-- Lines written one behind the other by a loop: what stands already and what is left to write are together the whole. Assumes nothing.
use Prim.Native.Nat.{ℕ, suc, ◌+◌, ◌-◌, ◌≤◌}
use mathlib.Core.Path.{◌≡◌, refl, ap, sym, ◌∙◌}
use mathlib.Core.List.{List, [], ◌∷◌, ◌++◌}
use native.Mathlib.Omega.{arith}
use native.Mathlib.Numerals.{add-one}
use lib.ListN.{length, drop, drop_of_length-le, length-append}
use lib.Seq.{take-nil}
use Rattle.fields.specs.Blocks.{flat}
use Rattle.fields.specs.Numbers.{Bytes}
use Rattle.fields.specs.Parts.{put}
use Rattle.fields.proofs.Parts.{put-nil}
use Rattle.listing_room.specs.Room.{Ends, within}
use Rattle.listing_room.proofs.Room.{Put, then}

-- the text was to be written from `at` on into the buffer `before`; `left` is to be written from n on into the buffer as it is now
pub record Left (at : ℕ) (text before : Bytes) (n : ℕ) (left now : Bytes) : Type 0 where
  pub ends : n + length left ≡ at + length text
  pub same : put n (within (length now) n left) now ≡ put at (within (length before) at text) before

module _ (at : ℕ) (text before : Bytes) where
  module _ (n : ℕ) (now : Bytes) where
    -- nothing is left
    pub left-none : Left at text before n [] now → Put at text before now n
    left-none l = (omega (arith, l.ends), sym (put-nil n now) ∙ ap (λ (t : List ℕ). put n t now) (sym (take-nil {A = ℕ} (length now - n))) ∙ l.same)

    module _ (vs ws : Bytes) (l : Left at text before n (vs ++ ws) now) where
      -- the place behind the next piece is a number
      pub left-ends : Ends at text → Ends n vs
      left-ends h = omega (arith, l.ends, length-append vs ws)

      -- and when it is written
      pub left-turn : (now' : Bytes) (n' : ℕ) → Put n vs now now' n' → Left at text before n' ws now'
      left-turn now' n' w =
          let p = then n vs ws now now' (put n' (within (length now') n' ws) now') n' (n' + length ws) w (refl, refl) in
          record { ends = p.0 ∙ l.ends; same = p.1 ∙ l.same }

-- the lines of the elements from place i on
module _ {A : Type 0} (line : A → Bytes) (es : List A) (i : ℕ) where
  pub lines_next : (a : A) → drop i es ≡ a ∷ drop (suc i) es → flat line (drop i es) ≡ line a ++ flat line (drop (i + 1) es)
  unfolding flat
  lines_next a e = ap (flat line) e ∙ ap (λ (k : ℕ). line a ++ flat line (drop k es)) (sym (add-one i))

  pub lines-done : length es ≤ i → flat line (drop i es) ≡ []
  unfolding flat
  lines-done h = ap (flat line) (drop_of_length-le es {i = i} h)
