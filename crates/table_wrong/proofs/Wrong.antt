-- The first thing that is wrong, by what the code has found: the first bad node, a byte that stands for no mode or no profile. Assumes nothing.
use Prim.Native.Nat.{ℕ, suc, ◌+◌, ◌-◌, ◌<◌, ◌≤◌}
use mathlib.Core.Path.{◌≡◌, ap, sym, ◌∙◌}
use mathlib.Core.Bool.{Bool, true, false}
use native.Mathlib.Omega.{arith}
use lib.Dec.{eqb}
use lib.ListN.{drop, length}
use lib.Seq.{drop-drop}
use borrow.Author.Tests.{eq-eqb, ne_eqb}
use Rattle.fields.specs.Choice.{pick}
use Rattle.fields.specs.Numbers.{Bytes}
use Rattle.fields.specs.Parts.{part}
use Rattle.fields.proofs.Choice.{pick-false, pick_true}
use Rattle.rules.specs.Answers.{mode_of, profile_of}
use Rattle.rules.specs.Layout.{node_place, node_width}
use Rattle.rules.specs.Listing.{ascii}
use Rattle.rules.specs.Whole.{area_of, mode_of_byte, profile_of_byte, tail_of, whole_width}
use Rattle.rules.specs.declared.Mode.{Mode}
use Rattle.rules.specs.declared.Profile.{Profile}
use Rattle.table.specs.Tests.{mode_in, node_good, profile_in}
use Rattle.table_listing.specs.TableListing.{first_bad, refused_line, wrong_area, wrong_line, wrong_tail, wrong_text}

-- ---- the first bad node

module _ (n i : ℕ) (l : Bytes) (h : i < n) where
  abbrev behind : ℕ
  behind = first_bad (n - (i + 1)) (drop (node_place (i + 1)) l)

  turn : first_bad (n - i) (drop (node_place i) l) ≡ pick (node_good (part (node_place i) node_width l)) (suc behind) 0
  unfolding first_bad part
  turn =
      let p : n - i ≡ suc (n - (i + 1)) = omega arith in
      let q : node_place i + node_width ≡ node_place (i + 1) = omega arith in
      ap (λ (k : ℕ). first_bad k (drop (node_place i) l)) p
      ∙ ap (λ (x : Bytes). pick (node_good (part (node_place i) node_width l)) (suc (first_bad (n - (i + 1)) x)) 0)
      (drop-drop node_width (node_place i) l ∙ ap (λ (k : ℕ). drop k l) q)

  pub bad-on : node_good (part (node_place i) node_width l) ≡ true → first_bad (n - i) (drop (node_place i) l) ≡ suc behind
  bad-on e = turn ∙ pick_true (node_good (part (node_place i) node_width l)) (suc behind) 0 e

  pub bad-here : node_good (part (node_place i) node_width l) ≡ false → first_bad (n - i) (drop (node_place i) l) ≡ 0
  bad-here e = turn ∙ pick-false (node_good (part (node_place i) node_width l)) (suc behind) 0 e

pub bad-none : (n i : ℕ) (l : Bytes) → n ≤ i → first_bad (n - i) l ≡ 0
unfolding first_bad
bad-none n i l h = let p : n - i ≡ 0 = omega arith in ap (λ (k : ℕ). first_bad k l) p

-- ---- the tail

module _ (b : Bytes) where
  abbrev mode_test : Bool
  mode_test = eqb (mode_of (mode_of_byte (mode_in b))) (mode_in b)

  abbrev profile_test : Bool
  profile_test = eqb (profile_of (profile_of_byte (profile_in b))) (profile_in b)

  abbrev wrong_profile : Bytes
  wrong_profile = pick profile_test refused_line (wrong_line (ascii " profile=") (profile_in b))

  -- a mode that was read, and the byte that stands for it
  module _ (m r : ℕ) (mode : Mode) (p : m ≡ mode_in b) (q : mode ≡ mode_of_byte m) (s : r ≡ mode_of mode) where
    byte-is : r ≡ mode_of (mode_of_byte (mode_in b))
    byte-is = s ∙ ap mode_of (q ∙ ap mode_of_byte p)

    pub some-mode : r ≡ m → wrong_tail b ≡ wrong_profile
    some-mode e = pick_true mode_test wrong_profile (wrong_line (ascii " mode=") (mode_in b)) (eq-eqb _ _ (sym byte-is ∙ e ∙ p))

  -- and a profile
  module _ (m r : ℕ) (profile : Profile) (p : m ≡ profile_in b) (q : profile ≡ profile_of_byte m) (s : r ≡ profile_of profile) where
    profile-is : r ≡ profile_of (profile_of_byte (profile_in b))
    profile-is = s ∙ ap profile_of (q ∙ ap profile_of_byte p)

    pub some-profile : r ≡ m → wrong_profile ≡ refused_line
    some-profile e = pick_true profile_test refused_line (wrong_line (ascii " profile=") (profile_in b)) (eq-eqb _ _ (sym profile-is ∙ e ∙ p))

-- ---- any bytes

module _ (l : Bytes) where
  pub other-long : (n : ℕ) → n ≡ length l → (n ≡ whole_width → ⊥) → wrong_line (ascii " length=") n ≡ wrong_text l
  unfolding wrong_text
  other-long n p h =
      ap (wrong_line (ascii " length=")) p
      ∙ sym (pick-false (eqb (length l) whole_width) (wrong_area (area_of l) (tail_of l)) (wrong_line (ascii " length=") (length l)) (ne_eqb _ _ (λ e. h (p ∙ e))))

  pub as_long : length l ≡ whole_width → wrong_area (area_of l) (tail_of l) ≡ wrong_text l
  unfolding wrong_text
  as_long e = sym (pick_true (eqb (length l) whole_width) (wrong_area (area_of l) (tail_of l)) (wrong_line (ascii " length=") (length l)) (eq-eqb _ _ e))
