-- `record_check::clean_behind` meets its contract: what was seen is zero where the bytes passed behind the text are. Assumes nothing.
use Prim.Native.Nat.{ℕ, zero, suc, ◌+◌, ◌-◌, ◌≤◌, ◌<◌}
use mathlib.Core.Path.{◌≡◌, refl, sym, ap, ◌∙◌}
use mathlib.Core.Bool.{Bool, true, ◌&&◌}
use mathlib.Core.List.{List, [], ◌∷◌, ◌++◌}
use native.Mathlib.Omega.{arith}
use lib.Bits.{bit_or, bit_and, and_mask, and_zero_r, or_zero_r}
use native.Mathlib.Nat.{le_of_suc-le-suc, not-suc-le-zero}
use lib.Dec.{eqb}
use lib.ListN.{length, get_or, replicate}
use lib.Seq.{get_or-append-add}
use native.Mathlib.Decide.{dec_lt}
use Rattle.rules.specs.Sizes.{max_value}
use Rattle.record_check.specs.Mask.{mask_width, mask_bytes}
use Rattle.fields.proofs.Bits.{or-none}
use Rattle.fields.proofs.Parts.{part-snoc}
use Rattle.fields.proofs.Choice.{and_assoc, and_last}
use Rattle.fields.specs.Parts.{part}
use Rattle.fields.specs.Blocks.{all_zero}
use Rattle.record_check.proofs.clean_behind.Goals as goal

-- ---- the mask: zeros, and then as many times 255
long-mask : length mask_bytes ≡ mask_width
unfolding mask_bytes
long-mask = refl

low : (n i : ℕ) (ys : List ℕ) → i < n → get_or (replicate n 0 ++ ys) i 0 ≡ 0
low zero i ys h = absurd (not-suc-le-zero h)
low (suc n) zero ys h = refl
low (suc n) (suc i) ys h = low n i ys (le_of_suc-le-suc h)

full : (n i : ℕ) → i < n → ◌≡◌ {A = ℕ} (get_or (replicate n 255) i 0) 255
full zero i h = absurd (not-suc-le-zero h)
full (suc n) zero h = refl
full (suc n) (suc i) h = full n i (le_of_suc-le-suc h)

drops : (i : ℕ) → i < max_value → get_or mask_bytes i 0 ≡ 0
unfolding mask_bytes
drops i h = low max_value i (replicate max_value 255) h

keeps : (i : ℕ) → i < max_value → get_or mask_bytes (max_value + i) 0 ≡ 255
unfolding mask_bytes
keeps i h = get_or-append-add (replicate max_value 0) (replicate max_value 255) i 0 ∙ full max_value i h

-- one byte more at the end
zero-snoc : (xs : List ℕ) (b : ℕ) → all_zero (xs ++ (b ∷ [])) ≡ (all_zero xs && eqb b 0)
unfolding all_zero
zero-snoc [] b = and_last (eqb b 0)
zero-snoc (x ∷ xs) b = ap (λ (t : Bool). eqb x 0 && t) (zero-snoc xs b) ∙ sym (and_assoc (eqb x 0) (all_zero xs) (eqb b 0))

none : (a k : ℕ) (l : List ℕ) → true ≡ all_zero (part a (0 - k) l)
unfolding all_zero part
none a k l =
    let z : 0 - k ≡ 0 = omega arith in
    rw z refl

-- one byte more, behind the text and in it
module _ (at k i d : ℕ) (l : List ℕ) (fits : at + i < length l) (long : k ≤ max_value) (room : i < max_value) (byte : get_or l (at + i) 0 < 256)
    (e : eqb d 0 ≡ all_zero (part (at + k) (i - k) l)) where
  behind : k ≤ i → eqb (bit_or d (bit_and (get_or l (at + i) 0) (get_or mask_bytes (max_value - k + i) 0))) 0 ≡ all_zero (part (at + k) (i + 1 - k) l)
  behind h =
      let x : ℕ = get_or l (at + i) 0 in
      let p : i + 1 - k ≡ suc (i - k) = omega arith in
      let q : at + k + (i - k) ≡ at + i = omega arith in
      let j : max_value - k + i ≡ max_value + (i - k) = omega arith in
      let m : get_or mask_bytes (max_value - k + i) 0 ≡ 255 = ap (λ (z : ℕ). get_or mask_bytes z 0) j ∙ keeps (i - k) (omega arith) in
      let whole : bit_and x 255 ≡ x = and_mask x 8 ∙ omega arith in
      ap (λ (z : ℕ). eqb (bit_or d (bit_and x z)) 0) m
      ∙ ap (λ (z : ℕ). eqb (bit_or d z) 0) whole
      ∙ or-none d x
      ∙ ap (λ (t : Bool). t && eqb x 0) e
      ∙ ap (λ (z : ℕ). all_zero (part (at + k) (i - k) l) && eqb (get_or l z 0) 0) (sym q)
      ∙ sym (zero-snoc (part (at + k) (i - k) l) (get_or l (at + k + (i - k)) 0))
      ∙ ap all_zero (sym (part-snoc (at + k) (i - k) l (omega arith)))
      ∙ ap (λ (z : ℕ). all_zero (part (at + k) z l)) (sym p)

  within : i < k → eqb (bit_or d (bit_and (get_or l (at + i) 0) (get_or mask_bytes (max_value - k + i) 0))) 0 ≡ all_zero (part (at + k) (i + 1 - k) l)
  within h =
      let x : ℕ = get_or l (at + i) 0 in
      let p : i - k ≡ i + 1 - k = omega arith in
      ap (λ (z : ℕ). eqb (bit_or d (bit_and x z)) 0) (drops (max_value - k + i) (omega arith))
      ∙ ap (λ (z : ℕ). eqb (bit_or d z) 0) (and_zero_r x)
      ∙ ap (λ (z : ℕ). eqb z 0) (or_zero_r d)
      ∙ e
      ∙ ap (λ (z : ℕ). all_zero (part (at + k) z l)) p

  turn : eqb (bit_or d (bit_and (get_or l (at + i) 0) (get_or mask_bytes (max_value - k + i) 0))) 0 ≡ all_zero (part (at + k) (i + 1 - k) l)
  turn =
      elim (dec_lt i k) [
        | yes p ↦ within p
        | no p ↦ behind (omega arith)
      ]

pub loop-i-init : goal.loop-i-init
loop-i-init c =
    none (c.args.at + c.args.k) c.args.k c.args.«record».now

pub bounds-m-k : goal.bounds-m-k
bounds-m-k c =
    omega (arith, ap length c.requires.3 ∙ long-mask)

pub loop-i-preserved : goal.loop-i-preserved
loop-i-preserved c =
    let a = c.args in
    let i : ℕ = c.loop-i.i in
    let d : ℕ = c.loop-i.seen in
    ap (λ (m : List ℕ). eqb (bit_or d (bit_and (get_or a.«record».now (a.at + i) 0) (get_or m (max_value - a.k + i) 0))) 0) c.requires.3
    ∙ turn a.at a.k i d a.«record».now (omega arith) (omega arith) (omega arith) (c.type_inv.«record» (a.at + i)).fits c.loop-i.invariant

pub returns : goal.returns
returns c =
    let a = c.args in
    let p : c.loop-i.i ≡ a.n = omega arith in
    c.loop-i.invariant ∙ ap (λ (j : ℕ). all_zero (part (a.at + a.k) (j - a.k) a.«record».now)) p
