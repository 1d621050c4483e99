-- The outcome of writing a digest, case by case. Assumes nothing.
use Prim.Native.Nat.{ℕ, ◌+◌, ◌*◌, ◌-◌, ◌<◌, ◌≤◌}
use mathlib.Core.Path.{◌≡◌, ◌∙◌, ap, sym}
use mathlib.Core.Bool.{Bool, true, false}
use mathlib.Core.List.{List}
use native.Mathlib.Omega.{arith}
use lib.Dec.{eqb}
use lib.ListN.{length, length-append}
use borrow.Author.Tests.{eq-eqb, le-leb, lt-leb, ne_eqb}
use Rattle.fields.specs.Blocks.{flat}
use Rattle.fields.specs.Choice.{pick}
use Rattle.fields.specs.Numbers.{bytes_of}
use Rattle.fields.specs.Parts.{put}
use Rattle.fields.proofs.Choice.{pick_true}
use Rattle.fields.proofs.Numbers.{length-bytes_of}
use Rattle.fields.proofs.Parts.{put-field}
use Rattle.rules.specs.Given.{Gives}
use Rattle.rules.specs.Table.{Table}
use Rattle.rules.specs.Digest.{NodeDigest, count_width, digest_bytes, digest_of, entry_bytes, entry_width, head_width, is_edition, write_digest}
use Rattle.rules.specs.Whole.{decode_whole, valid_whole}
use Rattle.rules.specs.Lent.{from_table, lent_digest}
use Rattle.rules.specs.declared.Refusal.TheVariants.{BadEdition, BadTable, NoPlace}
use Rattle.std.specs.Prelude.{Err, Ok}
use Rattle.digest_write.proofs.Entries.{entries-long}

-- by the width of what stands before the entries
module _ (edition : ℕ) where
  abbrev head : ℕ
  head = head_width edition

  pub digest-long : (ds : List NodeDigest) → length (digest_bytes edition ds) ≡ head + length ds * entry_width
  unfolding digest_bytes
  digest-long ds =
      let e = entries-long ds in
      let b = length-bytes_of head (length ds) in
      let g : length (bytes_of head (length ds)) + length (flat entry_bytes ds) ≡ head + length ds * entry_width = omega arith in
      length-append (bytes_of head (length ds)) (flat entry_bytes ds) ∙ g

  pub size_is : (ds : List NodeDigest) (n size : ℕ) → n ≡ length ds → size ≡ head + n * entry_width → size ≡ length (digest_bytes edition ds)
  size_is ds n size e h = h ∙ ap (λ (k : ℕ). head + k * entry_width) e ∙ sym (digest-long ds)

  -- the count, and the entries behind it
  pub stored : (ds : List NodeDigest) (n : ℕ) (l a b : List ℕ) → n ≡ length ds → head + length ds * entry_width ≤ length l
      → a ≡ put 0 (bytes_of head n) l → b ≡ put head (flat entry_bytes ds) a → b ≡ put 0 (digest_bytes edition ds) l
  unfolding digest_bytes
  stored ds n l a b e h p q =
      let k = entries-long ds in
      put-field _ (bytes_of head (length ds)) (flat entry_bytes ds) l a b (length-bytes_of head (length ds)) (omega arith)
      (p ∙ ap (λ (m : ℕ). put 0 (bytes_of head m) l) e) q

  pub head-low : head ≤ count_width
  unfolding head_width
  head-low = go (eqb edition 0)
    where
      go : (b : Bool) → pick b count_width 0 ≤ count_width
      go true = omega arith
      go false = omega arith

  pub head-counted : edition ≡ 0 → head ≡ count_width
  unfolding head_width
  head-counted e = rw (eq-eqb edition 0 e)

  -- where there is no count, nothing is put in front
  pub counted : edition ≡ 0 → (n : ℕ) (l : List ℕ) → put 0 (bytes_of count_width n) l ≡ put 0 (bytes_of head n) l
  unfolding head_width
  counted e n l = rw (eq-eqb edition 0 e)

  pub uncounted : (edition ≡ 0 → ⊥) → (n : ℕ) (l : List ℕ) → l ≡ put 0 (bytes_of head n) l
  unfolding head_width put bytes_of
  uncounted e n l = rw (ne_eqb edition 0 e)

-- ---- on a table

module _ (edition : ℕ) (excluded : List ℕ) (place : ℕ) (d : List ℕ) (t : Table) where
  pub no-edition : is_edition edition ≡ false → Gives (write_digest edition excluded place t d) (Err BadEdition) d
  unfolding write_digest
  no-edition v = (rw v, rw v)

  module _ (known : is_edition edition ≡ true) where
    pub past_end : length d < place → Gives (write_digest edition excluded place t d) (Err NoPlace) d
    unfolding write_digest
    past_end h = let g = lt-leb place (length d) h in (rw (known, g), rw (known, g))

    module _ (n : ℕ) (is : n ≡ length (digest_bytes edition (digest_of excluded t))) (h : place ≤ length d) where
      pub no_room : length d - place < n → Gives (write_digest edition excluded place t d) (Err NoPlace) d
      unfolding write_digest
      no_room g =
          let b = le-leb place (length d) h in
          let u = lt-leb n (length d - place) g in
          (rw (known, b, sym is, u), rw (known, b, sym is, u))

      pub written : (a : List ℕ) → n ≤ length d - place → a ≡ put place (digest_bytes edition (digest_of excluded t)) d
          → Gives (write_digest edition excluded place t d) (Ok n) a
      unfolding write_digest
      written a g e =
          let b = le-leb place (length d) h in
          let u = le-leb n (length d - place) g in
          (rw (known, b, sym is, u), rw (known, b, sym is, u) e)

-- ---- 14

module _ (edition : ℕ) (excluded : List ℕ) (place : ℕ) (d l : List ℕ) where
  pub bad-table : valid_whole l ≡ false → Gives (lent_digest edition excluded place d l) (Err BadTable) d
  unfolding from_table
  bad-table v = (rw v, rw v)

  pub good-table : valid_whole l ≡ true → write_digest edition excluded place (decode_whole l).table d ≡ lent_digest edition excluded place d l
  unfolding from_table
  good-table v = sym (pick_true (valid_whole l) _ _ v)
