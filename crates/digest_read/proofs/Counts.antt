-- How many entries a digest has, in each edition: the definitions of `rules` read so many entries, with the same rest, or refuse for the same reason.
-- Assumes nothing.
use Prim.Native.Nat.{ℕ, ◌+◌, ◌*◌, ◌-◌, ◌/◌, ◌%◌, ◌≤◌}
use mathlib.Core.Path.{◌≡◌, ◌∙◌, ap, refl, sym}
use mathlib.Core.Bool.{Bool, true, false}
use mathlib.Core.List.{List, []}
use native.Mathlib.Omega.{arith}
use lib.Dec.{leb, eqb}
use lib.ListN.{length, take, drop, length-drop}
use lib.Seq.{drop-drop}
use borrow.Author.Tests.{leb-true}
use Rattle.fields.specs.Choice.{pick}
use Rattle.fields.specs.Numbers.{nat_of}
use Rattle.fields.specs.Parts.{part}
use Rattle.rules.specs.Sizes.{max_nodes}
use Rattle.rules.specs.Delta.{number_lacks}
use Rattle.rules.specs.Digest as wire
use Rattle.rules.specs.Digest.{DigestRead, Entries, NodeDigest, Refused, count_width, entry_width, first_entries, head_width, read_counted, read_digest, read_entries, read_to_end, tell_all}
use Rattle.rules.specs.declared.Refusal.{Refusal}
use Rattle.rules.specs.declared.Refusal.TheVariants.{Cut, TooMany, BadEdition}
use Rattle.digest_count.specs.Counting.{count_in, count_told, count_whole}
use Rattle.digest_read.specs.Held.{digest_in, entries_at, held_of, in_places, places, rest_at, rest_of}
use Rattle.std.specs.Prelude.{Err, Ok, Result}
use Rattle.digest_read.specs.declared.Digest.{Digest}
use Rattle.digest_read.specs.declared.Gathered.{Gathered}

-- ---- what a count means

-- so many entries behind the first bytes, and what stands behind them
abbrev read_by : ℕ → List ℕ → Result ℕ Refusal → DigestRead
read_by head l (Ok n) = first_entries n (drop head l)
read_by head l (Err r) = Refused r

read_told : (l : List ℕ) → read_counted l ≡ read_by count_width l (count_told l)
unfolding count_told part
read_told l =
    ap (λ (k : ℕ). pick (leb count_width (length l)) (pick (leb n max_nodes) (pick (leb (n * entry_width) k) good (Refused (Cut (number_lacks k)))) (Refused TooMany)) (Refused (Cut (count_width - length l))))
    (length-drop count_width l)
    ∙ go (leb count_width (length l)) (leb n max_nodes) (leb (n * entry_width) (length l - count_width))
  where
    n : ℕ
    n = nat_of (take count_width l)

    good : DigestRead
    good = first_entries n (drop count_width l)

    none : Refusal
    none = Cut (count_width - length l)

    some : Refusal
    some = Cut (number_lacks (length l - count_width))

    go : (a b c : Bool) → pick a (pick b (pick c good (Refused some)) (Refused TooMany)) (Refused none)
        ≡ read_by count_width l (pick a (pick b (pick c (Ok n) (Err some)) (Err TooMany)) (Err none))
    go true true true = refl
    go true true false = refl
    go true false c = refl
    go false b c = refl

read_whole : (l : List ℕ) → read_to_end l ≡ read_by 0 l (count_whole l)
unfolding count_whole
read_whole l = go (eqb (length l % entry_width) 0) (leb (length l / entry_width) max_nodes)
  where
    n : ℕ
    n = length l / entry_width

    some : Refusal
    some = Cut (number_lacks (length l))

    go : (a b : Bool) → pick a (pick b (first_entries n l) (Refused TooMany)) (Refused some)
        ≡ read_by 0 l (pick a (pick b (Ok n) (Err TooMany)) (Err some))
    go true true = refl
    go true false = refl
    go false b = refl

pub read-by : (edition : ℕ) (l : List ℕ) → read_entries edition l ≡ read_by (head_width edition) l (count_in edition l)
unfolding read_entries count_in head_width
read-by edition l = go (eqb edition 0) (eqb edition 1)
  where
    go : (a b : Bool) → pick a (read_counted l) (pick b (read_to_end l) (Refused BadEdition))
        ≡ read_by (pick a count_width 0) l (pick a (count_told l) (pick b (count_whole l) (Err BadEdition)))
    go true b = read_told l
    go false true = read_whole l
    go false false = refl

-- where the rest begins
abbrev pub rest_place : (edition n : ℕ) → ℕ
rest_place edition n = head_width edition + n * entry_width

pub record Announced (edition : ℕ) (l : List ℕ) (n : ℕ) : Type 0 where
  pub head : head_width edition ≤ count_width
  pub few : n ≤ max_nodes
  pub there : rest_place edition n ≤ length l
  pub read : read_entries edition l ≡ Entries (entries_at n (drop (head_width edition) l)) (drop (rest_place edition n) l)

no-entries : {A : Type 0} (r : Refusal) (n : ℕ) → Err r ≡ Ok n → A
no-entries r n e = let z : ◌≡◌ {A = ℕ} 0 1 = cc in absurd (omega arith)

-- so many are there behind the first bytes
abbrev There : ℕ → List ℕ → ℕ → Type 0
There head l n = (head ≤ count_width) × (n ≤ max_nodes) × (head + n * entry_width ≤ length l)

there-told : (l : List ℕ) (n : ℕ) → count_told l ≡ Ok n → There count_width l n
unfolding count_told
there-told l n e = go (leb count_width (length l)) (leb m max_nodes) (leb (m * entry_width) (length l - count_width)) refl refl refl e
  where
    m : ℕ
    m = nat_of (part 0 count_width l)

    none : Refusal
    none = Cut (count_width - length l)

    some : Refusal
    some = Cut (number_lacks (length l - count_width))

    go : (a b c : Bool) → leb count_width (length l) ≡ a → leb m max_nodes ≡ b → leb (m * entry_width) (length l - count_width) ≡ c
        → pick a (pick b (pick c (Ok m) (Err some)) (Err TooMany)) (Err none) ≡ Ok n
        → There count_width l n
    go true true true p q r s =
        let same : m ≡ n = cc in
        let x = leb-true count_width (length l) p in
        let y = leb-true m max_nodes q in
        let z = leb-true (m * entry_width) (length l - count_width) r in
        (omega arith, omega arith, omega arith)
    go true true false p q r s = no-entries some n s
    go true false c p q r s = no-entries TooMany n s
    go false b c p q r s = no-entries none n s

there-whole : (l : List ℕ) (n : ℕ) → count_whole l ≡ Ok n → There 0 l n
unfolding count_whole
there-whole l n e = go (eqb (length l % entry_width) 0) (leb m max_nodes) refl e
  where
    m : ℕ
    m = length l / entry_width

    some : Refusal
    some = Cut (number_lacks (length l))

    go : (a b : Bool) → leb m max_nodes ≡ b
        → pick a (pick b (Ok m) (Err TooMany)) (Err some) ≡ Ok n
        → There 0 l n
    go true true q s =
        let same : m ≡ n = cc in
        let y = leb-true m max_nodes q in
        (omega arith, omega arith, omega arith)
    go true false q s = no-entries TooMany n s
    go false b q s = no-entries some n s

there-in : (edition : ℕ) (l : List ℕ) (n : ℕ) → count_in edition l ≡ Ok n → There (head_width edition) l n
unfolding count_in head_width
there-in edition l n = go (eqb edition 0) (eqb edition 1)
  where
    go : (a b : Bool) → pick a (count_told l) (pick b (count_whole l) (Err BadEdition)) ≡ Ok n → There (pick a count_width 0) l n
    go true b e = there-told l n e
    go false true e = there-whole l n e
    go false false e = no-entries BadEdition n e

pub announced : (edition : ℕ) (l : List ℕ) (n : ℕ) → count_in edition l ≡ Ok n → Announced edition l n
announced edition l n e =
    let t = there-in edition l n e in
    record {
      head = t.0;
      few = t.1;
      there = t.2;
      read =
          read-by edition l
          ∙ ap (read_by (head_width edition) l) e
          ∙ ap (Entries (entries_at n (drop (head_width edition) l))) (drop-drop (n * entry_width) (head_width edition) l);
    }

-- the same of what the code counted
pub counted : (edition : ℕ) (l : List ℕ) (n : ℕ) (c : Result ℕ Refusal) → c ≡ count_in edition l → c ≡ Ok n → Announced edition l n
counted edition l n c is e = announced edition l n (sym is ∙ e)

pub refused : (edition : ℕ) (l : List ℕ) (r : Refusal) → count_in edition l ≡ Err r → read_entries edition l ≡ Refused r
refused edition l r e = read-by edition l ∙ ap (read_by (head_width edition) l) e

-- ---- the digest

module _ (edition : ℕ) (l : List ℕ) (n : ℕ) (e : count_in edition l ≡ Ok n) where
  abbrev told : List NodeDigest
  told = tell_all (entries_at n (drop (head_width edition) l)) []

  pub whole : read_digest edition l ≡ Entries told (drop (rest_place edition n) l)
  unfolding read_digest
  whole = ap wire.gathered (announced edition l n e).read

  begins : length l - length (drop (rest_place edition n) l) ≡ rest_place edition n
  begins = let h = (announced edition l n e).there in rw length-drop (omega arith)

  pub digest-read : (g : Gathered) → g ≡ in_places told
      → ◌≡◌ {A = Digest} (record { read = Ok (record { count = g.count; rest = rest_place edition n }); entries = g.entries }) (digest_in edition l)
  unfolding digest_in
  digest-read g p =
      ap (λ (x : Gathered). record { read = Ok (record { count = x.count; rest = rest_place edition n }); entries = x.entries }) p
      ∙ ap (λ (k : ℕ). record { read = Ok (record { count = length told; rest = k }); entries = places max_nodes told })
      (sym begins)
      ∙ ap (held_of (length l)) (sym whole)

  pub rest_read : drop (rest_place edition n) l ≡ rest_of (read_digest edition l)
  rest_read = ap rest_of (sym whole)

  pub rest-begins : rest_place edition n ≡ rest_at edition l
  unfolding rest_at
  rest-begins = rw whole (sym begins)

module _ (edition : ℕ) (l : List ℕ) (r : Refusal) (e : count_in edition l ≡ Err r) where
  pub none : read_digest edition l ≡ Refused r
  unfolding read_digest
  none = ap wire.gathered (refused edition l r e)

  pub digest-refused : ◌≡◌ {A = Digest} (record { read = Err r; entries = places max_nodes [] }) (digest_in edition l)
  unfolding digest_in
  digest-refused = ap (held_of (length l)) (sym none)

  pub rest-refused : [] ≡ rest_of (read_digest edition l)
  rest-refused = ap rest_of (sym none)

  pub rest-at-refused : 0 ≡ rest_at edition l
  unfolding rest_at
  rest-at-refused = rw none
