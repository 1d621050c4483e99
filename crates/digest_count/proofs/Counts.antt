-- How many entries a digest has, in each edition: what is answered in each case. Assumes nothing.
use Prim.Native.Nat.{ℕ, ◌*◌, ◌-◌, ◌/◌, ◌%◌, ◌<◌, ◌≤◌}
use mathlib.Core.Path.{◌≡◌}
use mathlib.Core.List.{List}
use native.Mathlib.Omega.{arith}
use lib.ListN.{length}
use borrow.Author.Tests.{eq-eqb, le-leb, lt-leb, ne_eqb}
use Rattle.fields.specs.Numbers.{nat_of}
use Rattle.fields.specs.Parts.{part}
use Rattle.rules.specs.Sizes.{max_nodes}
use Rattle.rules.specs.Delta.{number_lacks}
use Rattle.rules.specs.Digest.{count_width, entry_width}
use Rattle.rules.specs.declared.Refusal.TheVariants.{Cut, TooMany, BadEdition}
use Rattle.digest_count.specs.Counting.{count_in, count_told, count_whole}
use Rattle.std.specs.Prelude.{Err, Ok}

-- ---- each case; n is the count

module _ (l : List ℕ) where
  pub no-count : length l < count_width → Err (Cut (count_width - length l)) ≡ count_told l
  unfolding count_told
  no-count h = rw (lt-leb count_width (length l) h)

  module _ (n : ℕ) (is : n ≡ nat_of (part 0 count_width l)) (there : count_width ≤ length l) where
    pub too_many : max_nodes < n → Err TooMany ≡ count_told l
    unfolding count_told
    too_many h = rw (le-leb count_width (length l) there, ← is, lt-leb n max_nodes h)

    pub entries-cut : n ≤ max_nodes → length l - count_width < n * entry_width → (k : ℕ) → k ≡ number_lacks (length l - count_width)
        → Err (Cut k) ≡ count_told l
    unfolding count_told
    entries-cut h g k e = rw (e, le-leb count_width (length l) there, ← is, le-leb n max_nodes h, lt-leb (n * entry_width) (length l - count_width) g)

    pub entries-there : n ≤ max_nodes → n * entry_width ≤ length l - count_width → Ok n ≡ count_told l
    unfolding count_told
    entries-there h g = rw (le-leb count_width (length l) there, ← is, le-leb n max_nodes h, le-leb (n * entry_width) (length l - count_width) g)

  -- V1
  pub inside : (k : ℕ) → 0 < length l % entry_width → k ≡ number_lacks (length l) → Err (Cut k) ≡ count_whole l
  unfolding count_whole
  inside k h e = rw (e, ne_eqb (length l % entry_width) 0 (λ z. omega arith))

  module _ (whole : length l % entry_width ≡ 0) where
    pub few-whole : length l / entry_width ≤ max_nodes → Ok (length l / entry_width) ≡ count_whole l
    unfolding count_whole
    few-whole h = rw (eq-eqb (length l % entry_width) 0 whole, le-leb (length l / entry_width) max_nodes h)

    pub many-whole : max_nodes < length l / entry_width → Err TooMany ≡ count_whole l
    unfolding count_whole
    many-whole h = rw (eq-eqb (length l % entry_width) 0 whole, lt-leb (length l / entry_width) max_nodes h)

  -- by the edition
  module _ (edition : ℕ) where
    pub in-v0 : edition ≡ 0 → count_told l ≡ count_in edition l
    unfolding count_in
    in-v0 e = rw (eq-eqb edition 0 e)

    pub in-v1 : edition ≡ 1 → count_whole l ≡ count_in edition l
    unfolding count_in
    in-v1 e = rw (ne_eqb edition 0 (λ z. omega arith), eq-eqb edition 1 e)

    pub in-none : (edition ≡ 0 → ⊥) → (edition ≡ 1 → ⊥) → Err BadEdition ≡ count_in edition l
    unfolding count_in
    in-none f g = rw (ne_eqb edition 0 f, ne_eqb edition 1 g)
