-- A digest and its bytes: reading what was written gives it back, in either edition, what was read writes its bytes, and of an ascending digest
-- every entry counts. Assumes nothing.
-- the entry's numbers have eight bytes
use Prim.Native.Nat.{◌%◌, ◌*◌, ◌+◌, ◌-◌, ◌/◌, ◌<◌, ◌≤◌, suc, zero, ℕ}
use mathlib.Core.Bool.{Bool, false, true}
use mathlib.Core.List.{List, [], ◌++◌, ◌∷◌, append_assoc, append-nil}
use mathlib.Core.Logic.{◌⊎◌, inl, inr}
use mathlib.Core.Path.{◌∙◌, ◌≡◌, ap, ap₂, refl, subst, subst₂, sym}
use native.Mathlib.Omega.{arith}
use lib.Dec.{eqb, leb}
use lib.ListN.{drop, length, length-append, length-drop, take, take-append-drop}
use lib.Seq.{drop_at, drop-drop, drop-length, length-take-le, take_at}
use borrow.Author.Tests.{eq-eqb, eqb-true, le-leb, le-ltb, leb-true, ne_eqb}
use Rattle.fields.proofs.Blocks.{length-flat, length-unblock}
use Rattle.fields.proofs.Choice.{in-append, in-cons, in-none}
use Rattle.fields.proofs.Numbers.{bytes_back, bytes_drop, bytes_take, length-bytes_of, nat-bytes, nat-part, part-back}
use Rattle.fields.proofs.Parts.{part-add, part_left, part_right, part-whole}
use Rattle.fields.specs.Blocks.{flat, unblock}
use Rattle.fields.specs.Choice.{◌∈◌, here, later, pick}
use Rattle.fields.specs.Numbers.{AreBytes, bytes_of, nat_of}
use Rattle.fields.specs.Parts.{part}
use Rattle.rules.proofs.Obeys.{Ascending, OkEntry, OkTable, number_in, table-facts}
use Rattle.rules.proofs.Ops.{Number}
use Rattle.rules.specs.Delta.{number_lacks}
use Rattle.rules.specs.Digest.{Entries, NodeDigest, Refused, count_width, digest_bytes, digest_of, digest_of_node, entry_bytes, entry_of, entry_width, first_entries, gathered, head_width, is_edition, read_count, read_counted, read_digest, read_entries, read_to_end, tell, tell_all}
use Rattle.rules.specs.Node.{beats}
use Rattle.rules.specs.Sizes.{max_nodes}
use Rattle.rules.specs.Table.{Entry, Table, among, numbers_of, obeys}
use Rattle.rules.specs.declared.Refusal.{Refusal}
use Rattle.rules.specs.declared.Refusal.TheVariants.{BadEdition, Cut, TooMany}

pub record SmallEntry (d : NodeDigest) : Type 0 where
  pub number_fits : Number d.number
  pub beat_fits : Number d.heartbeat.0
  pub gc_fits : Number d.last_gc
  pub max-fits : Number d.max

-- ---- one entry

pub entry-long : (d : NodeDigest) → length (entry_bytes d) ≡ entry_width
unfolding entry_bytes
entry-long d =
    simp (length-append, length-bytes_of)

-- four numbers of eight bytes
four-parts : (a b c d : List ℕ) → length a ≡ 8 → length b ≡ 8 → length c ≡ 8 → length d ≡ 8
    → (part 0 8 (a ++ (b ++ (c ++ d))) ≡ a) × (part 8 8 (a ++ (b ++ (c ++ d))) ≡ b) × (part 16 8 (a ++ (b ++ (c ++ d))) ≡ c) × (part 24 8 (a ++ (b ++ (c ++ d))) ≡ d)
four-parts a b c d p q r s = (
  part_left 0 8 a (b ++ (c ++ d)) (omega arith) ∙ part-whole 8 a p,
  part_right 8 0 8 a (b ++ (c ++ d)) p ∙ part_left 0 8 b (c ++ d) (omega arith) ∙ part-whole 8 b q,
  part_right 8 8 8 a (b ++ (c ++ d)) p ∙ part_right 8 0 8 b (c ++ d) q ∙ part_left 0 8 c d (omega arith) ∙ part-whole 8 c r,
  part_right 8 16 8 a (b ++ (c ++ d)) p ∙ part_right 8 8 8 b (c ++ d) q ∙ part_right 8 0 8 c d r ∙ part-whole 8 d s,
)

pub entry-back : (d : NodeDigest) → SmallEntry d → entry_of (entry_bytes d) ≡ d
unfolding entry_of entry_bytes
entry-back d s =
    let x = four-parts (bytes_of 8 d.number) (bytes_of 8 d.heartbeat.0) (bytes_of 8 d.last_gc) (bytes_of 8 d.max) (length-bytes_of 8 _) (length-bytes_of 8 _) (length-bytes_of 8 _) (length-bytes_of 8 _) in
    let n = ap nat_of x.0 ∙ nat-bytes 8 d.number s.number_fits in
    let h = ap nat_of x.1 ∙ nat-bytes 8 d.heartbeat.0 s.beat_fits in
    let g = ap nat_of x.2 ∙ nat-bytes 8 d.last_gc s.gc_fits in
    let m = ap nat_of x.3 ∙ nat-bytes 8 d.max s.max-fits in
    λ i. record { number = n i; heartbeat = beats (h i); last_gc = g i; max = m i }

pub back-entry : (b : List ℕ) → AreBytes b → length b ≡ entry_width → entry_bytes (entry_of b) ≡ b
unfolding entry_of entry_bytes
back-entry b h e =
    let p : (at : ℕ) → at + 8 ≤ 32 → bytes_of 8 (nat_of (part at 8 b)) ≡ part at 8 b = λ at g. part-back at 8 b h (omega arith) in
    ap₂ (λ (x y : List ℕ). x ++ y) (p 0 (omega arith))
    (ap₂ (λ (x y : List ℕ). x ++ y) (p 8 (omega arith))
    (ap₂ (λ (x y : List ℕ). x ++ y) (p 16 (omega arith)) (p 24 (omega arith)) ∙ sym (part-add 16 8 8 b))
    ∙ sym (part-add 8 8 16 b))
    ∙ sym (part-add 0 8 24 b)
    ∙ part-whole 32 b e

pub entry-small : (b : List ℕ) → AreBytes b → length b ≡ entry_width → SmallEntry (entry_of b)
unfolding entry_of
entry-small b h e =
    record {
      number_fits = nat-part 0 8 b h (omega arith);
      beat_fits = nat-part 8 8 b h (omega arith);
      gc_fits = nat-part 16 8 b h (omega arith);
      max-fits = nat-part 24 8 b h (omega arith);
    }

-- ---- many

unfoldable pub AllEntries : List NodeDigest → Type 0
AllEntries [] = Unit {0}
AllEntries (d ∷ ds) = SmallEntry d × AllEntries ds

pub entries-long : (ds : List NodeDigest) → length (flat entry_bytes ds) ≡ length ds * entry_width
entries-long ds = length-flat entry_bytes entry_width entry-long ds

entries-back : (ds : List NodeDigest) (rest : List ℕ) → AllEntries ds → unblock entry_width entry_of (length ds) (flat entry_bytes ds ++ rest) ≡ ds
unfolding unblock flat AllEntries
entries-back [] rest a = refl
entries-back (d ∷ ds) rest a =
    let e : (entry_bytes d ++ flat entry_bytes ds) ++ rest ≡ entry_bytes d ++ (flat entry_bytes ds ++ rest) = append_assoc (entry_bytes d) (flat entry_bytes ds) rest in
    let t : take entry_width ((entry_bytes d ++ flat entry_bytes ds) ++ rest) ≡ entry_bytes d = ap (take entry_width) e ∙ take_at (entry_bytes d) (flat entry_bytes ds ++ rest) entry_width (entry-long d) in
    let u : drop entry_width ((entry_bytes d ++ flat entry_bytes ds) ++ rest) ≡ flat entry_bytes ds ++ rest = ap (drop entry_width) e ∙ drop_at (entry_bytes d) (flat entry_bytes ds ++ rest) entry_width (entry-long d) in
    λ i. (ap entry_of t ∙ entry-back d a.0) i ∷ (ap (unblock entry_width entry_of (length ds)) u ∙ entries-back ds rest a.1) i

back-entries : (n : ℕ) (l : List ℕ) → AreBytes l → n * entry_width ≤ length l → flat entry_bytes (unblock entry_width entry_of n l) ++ drop (n * entry_width) l ≡ l
unfolding unblock flat
back-entries zero l b h = refl
back-entries (suc n) l b h =
    let long : length (take entry_width l) ≡ entry_width = length-take-le entry_width l (omega arith) in
    let more : drop (suc n * entry_width) l ≡ drop (n * entry_width) (drop entry_width l) =
    ap (λ (k : ℕ). drop k l) (let q : suc n * entry_width ≡ entry_width + n * entry_width = omega arith in q) ∙ sym (drop-drop (n * entry_width) entry_width l) in
    append_assoc (entry_bytes (entry_of (take entry_width l))) (flat entry_bytes (unblock entry_width entry_of n (drop entry_width l))) (drop (suc n * entry_width) l)
    ∙ ap₂ (λ (x y : List ℕ). x ++ y) (back-entry (take entry_width l) (bytes_take entry_width l b) long)
    (ap (λ (x : List ℕ). flat entry_bytes (unblock entry_width entry_of n (drop entry_width l)) ++ x) more
    ∙ back-entries n (drop entry_width l) (bytes_drop entry_width l b) (simp length-drop (omega arith)))
    ∙ take-append-drop entry_width l

entries-small : (n : ℕ) (l : List ℕ) → AreBytes l → n * entry_width ≤ length l → AllEntries (unblock entry_width entry_of n l)
unfolding unblock AllEntries
entries-small zero l b h = tt
entries-small (suc n) l b h = (
  entry-small (take entry_width l) (bytes_take entry_width l b) (length-take-le entry_width l (omega arith)),
  entries-small n (drop entry_width l) (bytes_drop entry_width l b) (simp length-drop (omega arith)),
)

-- ---- the editions

-- what holds of V0 and of V1 holds of each edition
pub by-edition : (P : ℕ → Type 0) → P 0 → P 1 → (edition : ℕ) → is_edition edition ≡ true → P edition
by-edition P a b zero e = a
by-edition P a b (suc zero) e = b
by-edition P a b (suc (suc n)) e = let h = leb-true (suc (suc n)) 1 e in absurd (omega arith)

-- what may stand behind the entries: anything in V0, nothing in V1
abbrev pub MayFollow : (edition : ℕ) (rest : List ℕ) → Type 0
MayFollow edition rest = edition ≡ 1 → rest ≡ []

-- ---- the digest

-- entries that were written, and what stands behind them
first-entries : (ds : List NodeDigest) (rest : List ℕ) → AllEntries ds → first_entries (length ds) (flat entry_bytes ds ++ rest) ≡ Entries ds rest
first-entries ds rest a = ap₂ Entries (entries-back ds rest a) (drop_at (flat entry_bytes ds) rest (length ds * entry_width) (entries-long ds))

-- V0: behind their count
read-counted : (n : ℕ) (m : List ℕ) → n ≤ max_nodes → n * entry_width ≤ length m → read_counted (bytes_of count_width n ++ m) ≡ first_entries n m
read-counted n m h enough =
    let c : List ℕ = bytes_of count_width n in
    let lc : length c ≡ count_width = length-bytes_of count_width n in
    let long : count_width ≤ length (c ++ m) = simp length-append (omega arith) in
    let count : nat_of (take count_width (c ++ m)) ≡ n = ap nat_of (take_at c m count_width lc) ∙ nat-bytes count_width n (omega arith) in
    rw (le-leb _ _ long)
    (ap₂ read_count count (drop_at c m count_width lc)
    ∙ rw (le-leb _ _ h, le-leb _ _ enough))

-- V1: to the end
read-to-end : (n : ℕ) (l : List ℕ) → n ≤ max_nodes → length l ≡ n * entry_width → read_to_end l ≡ first_entries n l
read-to-end n l h long =
    let whole : length l % entry_width ≡ 0 = omega arith in
    let count : length l / entry_width ≡ n = omega arith in
    rw (eq-eqb (length l % entry_width) 0 whole, count, le-leb n max_nodes h)

-- reading what was written, in either edition
pub read-entries : (edition : ℕ) → is_edition edition ≡ true → (ds : List NodeDigest) (rest : List ℕ) → MayFollow edition rest → length ds ≤ max_nodes → AllEntries ds → read_entries edition (digest_bytes edition ds ++ rest) ≡ Entries ds rest
unfolding read_entries digest_bytes head_width bytes_of
read-entries edition is ds rest follows h a =
    by-edition (λ e. MayFollow e rest → read_entries e (digest_bytes e ds ++ rest) ≡ Entries ds rest)
    (λ f. ap read_counted (append_assoc (bytes_of count_width (length ds)) (flat entry_bytes ds) rest) ∙ read-counted (length ds) body h (let k = long in omega arith) ∙ first-entries ds rest a)
    (λ f. read-to-end (length ds) body h (let g = ap length (f refl) in let k = long in omega arith) ∙ first-entries ds rest a)
    edition is follows
  where
    body : List ℕ
    body = flat entry_bytes ds ++ rest

    long : length body ≡ length ds * entry_width + length rest
    long = let k = entries-long ds in simp length-append (omega arith)

pub record EntriesAre (edition : ℕ) (l : List ℕ) (ds : List NodeDigest) (rest : List ℕ) : Type 0 where
  pub bytes : digest_bytes edition ds ++ rest ≡ l
  pub few : length ds ≤ max_nodes
  pub small : AllEntries ds
  pub follows : MayFollow edition rest

not-entries : {A : Type 0} (r : Refusal) (ds : List NodeDigest) (rest : List ℕ) → Refused r ≡ Entries ds rest → A
not-entries r ds rest e = let z : ◌≡◌ {A = ℕ} 0 1 = cc in absurd (omega arith)

-- the first n entries of bytes, written again, are the front of those bytes
record FirstAre (n : ℕ) (m : List ℕ) (ds : List NodeDigest) (rest : List ℕ) : Type 0 where
  bytes : flat entry_bytes ds ++ rest ≡ m
  long : length ds ≡ n
  small : AllEntries ds
  left : rest ≡ drop (n * entry_width) m

first-are : (n : ℕ) (m : List ℕ) (ds : List NodeDigest) (rest : List ℕ) → AreBytes m → n * entry_width ≤ length m → first_entries n m ≡ Entries ds rest → FirstAre n m ds rest
first-are n m ds rest b h e =
    let p : unblock entry_width entry_of n m ≡ ds = cc in
    let r : drop (n * entry_width) m ≡ rest = cc in
    subst₂ (λ (a : List NodeDigest) (z : List ℕ). FirstAre n m a z) p r
    (record {
      bytes = back-entries n m b h;
      long = length-unblock entry_width entry_of n m;
      small = entries-small n m b h;
      left = refl;
    })

module _ (l : List ℕ) (ds : List NodeDigest) (rest : List ℕ) (b : AreBytes l) where
  counted-are : read_counted l ≡ Entries ds rest → EntriesAre 0 l ds rest
  unfolding digest_bytes head_width
  counted-are e = count (leb count_width (length l)) refl e
    where
      n : ℕ
      n = nat_of (take count_width l)

      m : List ℕ
      m = drop count_width l

      got : count_width ≤ length l → n ≤ max_nodes → FirstAre n m ds rest → EntriesAre 0 l ds rest
      got h g x =
          let front : bytes_of count_width n ≡ take count_width l = bytes_back count_width (take count_width l) (length-take-le count_width l h) (bytes_take count_width l b) in
          record {
            bytes =
                append_assoc (bytes_of count_width (length ds)) (flat entry_bytes ds) rest
                ∙ ap₂ (λ (y z : List ℕ). y ++ z) (ap (bytes_of count_width) x.long ∙ front) x.bytes
                ∙ take-append-drop count_width l;
            few = rw x.long g;
            small = x.small;
            follows = λ z. absurd (omega arith);
          }

      all_there : (s : Bool) → leb (n * entry_width) (length m) ≡ s → count_width ≤ length l → n ≤ max_nodes → pick s (first_entries n m) (Refused (Cut (number_lacks (length m)))) ≡ Entries ds rest → EntriesAre 0 l ds rest
      all_there true q h g e = got h g (first-are n m ds rest (bytes_drop count_width l b) (leb-true _ _ q) e)
      all_there false q h g e = not-entries (Cut (number_lacks (length m))) ds rest e

      few : (s : Bool) → leb n max_nodes ≡ s → count_width ≤ length l → pick s (pick (leb (n * entry_width) (length m)) (first_entries n m) (Refused (Cut (number_lacks (length m))))) (Refused TooMany) ≡ Entries ds rest → EntriesAre 0 l ds rest
      few true q h e = all_there (leb (n * entry_width) (length m)) refl h (leb-true _ _ q) e
      few false q h e = not-entries TooMany ds rest e

      count : (s : Bool) → leb count_width (length l) ≡ s → pick s (read_count n m) (Refused (Cut (count_width - length l))) ≡ Entries ds rest → EntriesAre 0 l ds rest
      count true q e = few (leb n max_nodes) refl (leb-true _ _ q) e
      count false q e = not-entries (Cut (count_width - length l)) ds rest e

  to-end-are : read_to_end l ≡ Entries ds rest → EntriesAre 1 l ds rest
  unfolding digest_bytes head_width bytes_of
  to-end-are e = whole (eqb (length l % entry_width) 0) refl e
    where
      n : ℕ
      n = length l / entry_width

      got : length l % entry_width ≡ 0 → n ≤ max_nodes → FirstAre n l ds rest → EntriesAre 1 l ds rest
      got h g x =
          record {
            bytes = x.bytes;
            few = rw x.long g;
            small = x.small;
            follows = λ z. x.left ∙ ap (λ (k : ℕ). drop k l) (let q : n * entry_width ≡ length l = omega arith in q) ∙ drop-length l;
          }

      few : (s : Bool) → leb n max_nodes ≡ s → length l % entry_width ≡ 0 → pick s (first_entries n l) (Refused TooMany) ≡ Entries ds rest → EntriesAre 1 l ds rest
      few true q h e = got h (leb-true _ _ q) (first-are n l ds rest b (omega arith) e)
      few false q h e = not-entries TooMany ds rest e

      whole : (s : Bool) → eqb (length l % entry_width) 0 ≡ s → pick s (pick (leb n max_nodes) (first_entries n l) (Refused TooMany)) (Refused (Cut (number_lacks (length l)))) ≡ Entries ds rest → EntriesAre 1 l ds rest
      whole true q e = few (leb n max_nodes) refl (eqb-true _ _ q) e
      whole false q e = not-entries (Cut (number_lacks (length l))) ds rest e

-- what was read writes its bytes, in the edition that it was read in; and in V1 nothing is left unread
pub entries-are : (edition : ℕ) (l : List ℕ) (ds : List NodeDigest) (rest : List ℕ) → AreBytes l → read_entries edition l ≡ Entries ds rest → EntriesAre edition l ds rest
unfolding read_entries
entries-are edition l ds rest b e = go (eqb edition 0) refl (eqb edition 1) refl e
  where
    go : (x : Bool) → eqb edition 0 ≡ x → (y : Bool) → eqb edition 1 ≡ y → pick x (read_counted l) (pick y (read_to_end l) (Refused BadEdition)) ≡ Entries ds rest → EntriesAre edition l ds rest
    go true p y q e = subst (λ (k : ℕ). EntriesAre k l ds rest) (sym (eqb-true edition 0 p)) (counted-are l ds rest b e)
    go false p true q e = subst (λ (k : ℕ). EntriesAre k l ds rest) (sym (eqb-true edition 1 q)) (to-end-are l ds rest b e)
    go false p false q e = not-entries BadEdition ds rest e

-- ---- an ascending digest is read as it stands

unfoldable pub Ascends : List NodeDigest → Type 0
Ascends [] = Unit {0}
Ascends (d ∷ ds) = ((x : NodeDigest) → x ∈ ds → d.number < x.number) × Ascends ds

tell-last : (d : NodeDigest) (l : List NodeDigest) → ((x : NodeDigest) → x ∈ l → x.number < d.number) → tell d l ≡ l ++ (d ∷ [])
unfolding tell
tell-last d [] h = refl
tell-last d (a ∷ l) h =
    let g = h a (here refl) in
    rw (ne_eqb d.number a.number (λ e. omega arith), le-ltb d.number a.number (omega arith)) (ap (λ (r : List NodeDigest). a ∷ r) (tell-last d l (λ x m. h x (later m))))

pub tell-all : (ds l : List NodeDigest) → Ascends ds → ((x y : NodeDigest) → x ∈ l → y ∈ ds → x.number < y.number) → tell_all ds l ≡ l ++ ds
unfolding tell_all Ascends
tell-all [] l a h = sym (append-nil l)
tell-all (d ∷ ds) l a h =
    ap (tell_all ds) (tell-last d l (λ x m. h x d m (here refl)))
    ∙ tell-all ds (l ++ (d ∷ [])) a.1 (λ x y m n. at x y (in-append l (d ∷ []) m) n)
    ∙ append_assoc l (d ∷ []) ds
  where
    at : (x y : NodeDigest) → (x ∈ l) ⊎ (x ∈ d ∷ []) → y ∈ ds → x.number < y.number
    at x y (inl m) n = h x y m (later n)
    at x y (inr m) n = one (in-cons m)
      where
        one : (x ≡ d) ⊎ (x ∈ []) → x.number < y.number
        one (inl e) = subst (λ (z : NodeDigest). z.number < y.number) (sym e) (a.0 y n)
        one (inr o) = absurd (in-none o)

pub read-ascending : (edition : ℕ) → is_edition edition ≡ true → (ds : List NodeDigest) (rest : List ℕ) → MayFollow edition rest → length ds ≤ max_nodes → AllEntries ds → Ascends ds → read_digest edition (digest_bytes edition ds ++ rest) ≡ Entries ds rest
unfolding read_digest
read-ascending edition is ds rest follows h a s =
    ap gathered (read-entries edition is ds rest follows h a) ∙ ap (λ (x : List NodeDigest). Entries x rest) (tell-all ds [] s (λ x y m n. absurd (in-none m)))

-- ---- the digest of a table that obeys the rules

digest-from : (excluded : List ℕ) (t : Table) {x : NodeDigest} → x ∈ digest_of excluded t → (e : Entry) × (e ∈ t) × (x ≡ digest_of_node e)
unfolding digest_of
digest-from excluded [] m = absurd (in-none m)
digest-from excluded (e ∷ t) {x} m = go (among e.number excluded) m (digest-from excluded t)
  where
    Out : Table → Type 0
    Out t = (e : Entry) × (e ∈ t) × (x ≡ digest_of_node e)

    up : Out t → Out (e ∷ t)
    up y = (y.0, later y.1, y.2)

    at : (x ≡ digest_of_node e) ⊎ (x ∈ digest_of excluded t) → (x ∈ digest_of excluded t → Out t) → Out (e ∷ t)
    at (inl q) ih = (e, here refl, q)
    at (inr n) ih = up (ih n)

    go : (b : Bool) → x ∈ pick b (digest_of excluded t) (digest_of_node e ∷ digest_of excluded t) → (x ∈ digest_of excluded t → Out t) → Out (e ∷ t)
    go true m ih = up (ih m)
    go false m ih = at (in-cons m) ih

digest-few : (excluded : List ℕ) (t : Table) → length (digest_of excluded t) ≤ length t
unfolding digest_of
digest-few excluded [] = omega arith
digest-few excluded (e ∷ t) = go (among e.number excluded) (digest-few excluded t)
  where
    go : (b : Bool) → length (digest_of excluded t) ≤ length t → length (pick b (digest_of excluded t) (digest_of_node e ∷ digest_of excluded t)) ≤ suc (length t)
    go true h = omega arith
    go false h = omega arith

digest-ascends : (excluded : List ℕ) (t : Table) → Ascending (numbers_of t) → Ascends (digest_of excluded t)
unfolding digest_of Ascends numbers_of Ascending
digest-ascends excluded [] s = tt
digest-ascends excluded (e ∷ t) s = go (among e.number excluded) (digest-ascends excluded t s.1)
  where
    low : (x : NodeDigest) → x ∈ digest_of excluded t → e.number < x.number
    low x m =
        let y = digest-from excluded t m in
        let q : x.number ≡ y.0.number = ap (λ (z : NodeDigest). z.number) y.2 in
        let g = s.0 y.0.number (number_in y.1) in
        omega arith

    go : (b : Bool) → Ascends (digest_of excluded t) → Ascends (pick b (digest_of excluded t) (digest_of_node e ∷ digest_of excluded t))
    go true ih = ih
    go false ih = (low, ih)

all_small : (ds : List NodeDigest) → ((x : NodeDigest) → x ∈ ds → SmallEntry x) → AllEntries ds
unfolding AllEntries
all_small [] f = tt
all_small (d ∷ ds) f = (f d (here refl), all_small ds (λ x m. f x (later m)))

digest-small : (excluded : List ℕ) (t : Table) → OkTable t → AllEntries (digest_of excluded t)
digest-small excluded t ok = all_small (digest_of excluded t) (λ x m. at x (digest-from excluded t m))
  where
    of_node : (e : Entry) → OkEntry e → SmallEntry (digest_of_node e)
    of_node e o =
        record {
          number_fits = o.number_fits;
          beat_fits = o.node_ok.beat_fits;
          gc_fits = o.node_ok.gc_fits;
          max-fits = o.node_ok.max-fits;
        }

    at : (x : NodeDigest) → (e : Entry) × (e ∈ t) × (x ≡ digest_of_node e) → SmallEntry x
    at x y = subst SmallEntry (sym y.2) (of_node y.0 (ok.each y.0 y.1))

-- what a table writes in an edition, reading in the same gives back, and hands out what stands behind it
pub read-digest : (edition : ℕ) → is_edition edition ≡ true → (excluded : List ℕ) (t : Table) (rest : List ℕ) → MayFollow edition rest → obeys t ≡ true → read_digest edition (digest_bytes edition (digest_of excluded t) ++ rest) ≡ Entries (digest_of excluded t) rest
read-digest edition is excluded t rest follows e =
    let ok = table-facts t e in
    read-ascending edition is (digest_of excluded t) rest follows (let a = digest-few excluded t in let b = ok.few in omega arith) (digest-small excluded t ok) (digest-ascends excluded t ok.ascending)

-- and where nothing stands behind it, which is what an exchange sends
pub read-written : (edition : ℕ) → is_edition edition ≡ true → (excluded : List ℕ) (t : Table) → obeys t ≡ true → read_digest edition (digest_bytes edition (digest_of excluded t)) ≡ Entries (digest_of excluded t) []
read-written edition is excluded t e =
    ap (read_digest edition) (sym (append-nil (digest_bytes edition (digest_of excluded t)))) ∙ read-digest edition is excluded t [] (λ z. refl) e
