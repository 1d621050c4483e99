-- Laws of texts written as far as there is room: one behind another is the two joined, wherever the room ends; with no room nothing is written; with room
-- for all of it the text stands there. Assumes nothing.
use Prim.Native.Nat.{ℕ, ◌+◌, ◌-◌, ◌≤◌}
use mathlib.Core.Path.{◌≡◌, ap, sym, ◌∙◌}
use mathlib.Core.List.{List, ◌++◌}
use native.Mathlib.Decide.{dec_le}
use native.Mathlib.Omega.{arith}
use lib.ListN.{length, take, length-append, length-take}
use lib.Seq.{take_all, take-append-add, take-append-le}
use Rattle.fields.specs.Numbers.{Bytes}
use Rattle.fields.specs.Parts.{put}
use Rattle.fields.proofs.Lent.{seen_first}
use Rattle.fields.proofs.Parts.{length-put, part-put, put-behind, put-nil}
use Rattle.rules.specs.Given.{Gives}
use Rattle.listing_text.specs.Texts.{put_text}
use Rattle.listing_room.specs.Room.{Ends, put_within, within}

-- what is promised of a text that was written
abbrev pub Put : (at : ℕ) (text before after : Bytes) (r : ℕ) → Type 0
Put at text before after r = Gives (put_within at text before) r after

-- ---- where the room ends

module _ (at : ℕ) (vs l : Bytes) where
  -- none of the text has room
  pub no_room : length l ≤ at → put at (within (length l) at vs) l ≡ l
  no_room h =
      let z : length l - at ≡ 0 = omega arith in
      ap (λ (k : ℕ). put at (take k vs) l) z ∙ put-nil at l

  -- all of it has
  pub all_room : at + length vs ≤ length l → put at (within (length l) at vs) l ≡ put at vs l
  all_room h = ap (λ (t : List ℕ). put at t l) (take_all (length l - at) vs (omega arith))

  -- a buffer stays as long
  pub within-long : length (put at (within (length l) at vs) l) ≡ length l
  within-long = elim (dec_le (length l) at) [
    | yes h ↦ ap length (no_room h)
    | no h ↦ length-put at (take (length l - at) vs) l (rw length-take (omega arith))
  ]

-- what was put to the front of a buffer is read there
pub front_read : (text l m : Bytes) (n : ℕ) → length text ≤ length l → Gives (put_text 0 text l) n m → take n m ≡ text
front_read text l m n h w =
    let e : n ≡ length text = omega (arith, w.0) in
    ap (λ (k : ℕ). take k m) e ∙ ap (take (length text)) w.1 ∙ seen_first (length text) (put 0 text l) ∙ part-put 0 text l (omega arith)

-- ---- one text behind another

module _ (at : ℕ) (vs ws l : Bytes) where
  abbrev first : Bytes
  first = put at (within (length l) at vs) l

  -- the second, from behind the first
  joined-within : put (at + length vs) (within (length l) (at + length vs) ws) first ≡ put at (within (length l) at (vs ++ ws)) l
  joined-within = elim (dec_le (at + length vs) (length l)) [
    | yes h ↦
        let k : ℕ = length l - (at + length vs) in
        let e : length l - at ≡ length vs + k = omega arith in
        let t : List ℕ = take k ws in
        let both : take (length l - at) (vs ++ ws) ≡ vs ++ t = ap (λ (n : ℕ). take n (vs ++ ws)) e ∙ take-append-add vs ws k in
        ap (put (at + length vs) t) (all_room at vs l h)
        ∙ put-behind at vs t l (rw length-take (omega arith))
        ∙ ap (λ (x : List ℕ). put at x l) (sym both)
    | no h ↦
        let z : length l - (at + length vs) ≡ 0 = omega arith in
        let part : take (length l - at) vs ≡ take (length l - at) (vs ++ ws) = sym (take-append-le (length l - at) vs ws (omega arith)) in
        ap (λ (k : ℕ). put (at + length vs) (take k ws) first) z
        ∙ put-nil (at + length vs) first
        ∙ ap (λ (x : List ℕ). put at x l) part
  ]

  pub then : (m n : Bytes) (r q : ℕ) → Put at vs l m r → Put r ws m n q → Put at (vs ++ ws) l n q
  then m n r q a b =
      let long : length m ≡ length l = ap length a.1 ∙ within-long at vs l in (
        omega (arith, a.0, b.0, length-append vs ws),
        b.1
            ∙ ap (λ (k : ℕ). put k (within (length m) k ws) m) a.0
            ∙ ap (λ (k : ℕ). put (at + length vs) (within k (at + length vs) ws) m) long
            ∙ ap (put (at + length vs) (within (length l) (at + length vs) ws)) a.1
            ∙ joined-within,
      )

-- where the place behind both is a number, so is that behind the first, and behind the second
pub ends-first : (at : ℕ) (vs ws : Bytes) → Ends at (vs ++ ws) → Ends at vs
ends-first at vs ws h = omega (arith, length-append vs ws)

pub ends-second : (at : ℕ) (vs ws l m : Bytes) (r : ℕ) → Ends at (vs ++ ws) → Put at vs l m r → Ends r ws
ends-second at vs ws l m r h a = omega (arith, length-append vs ws, a.0)

-- three texts, one behind the other
module _ (at : ℕ) (a b c l l₁ : Bytes) (r₁ : ℕ) (ends : Ends at (a ++ (b ++ c))) (w₁ : Put at a l l₁ r₁) where
  pub ends-two : Ends r₁ b
  ends-two = ends-first r₁ b c (ends-second at a (b ++ c) l l₁ r₁ ends w₁)

  module _ (l₂ : Bytes) (r₂ : ℕ) (w₂ : Put r₁ b l₁ l₂ r₂) where
    pub ends-three : Ends r₂ c
    ends-three = ends-second r₁ b c l₁ l₂ r₂ (ends-second at a (b ++ c) l l₁ r₁ ends w₁) w₂

    pub three : (l₃ : Bytes) (r₃ : ℕ) → Put r₂ c l₂ l₃ r₃ → Put at (a ++ (b ++ c)) l l₃ r₃
    three l₃ r₃ w₃ = then at a (b ++ c) l l₁ l₃ r₁ r₃ w₁ (then r₁ b c l₁ l₂ l₃ r₂ r₃ w₂ w₃)
