-- The call to compute, case by case: refused by its numbers, by the digest, or done. Assumes nothing.
use Prim.Native.Nat.{ℕ, ◌+◌, ◌-◌, ◌≤◌, ◌<◌}
use mathlib.Core.Path.{◌≡◌, refl, sym, ap, ◌∙◌, subst}
use mathlib.Core.Bool.{Bool, true, false}
use mathlib.Core.List.{List}
use native.Mathlib.Omega.{arith}
use lib.ListN.{length, take, drop}
use native.Mathlib.Nat.{add-zero, zero-add}
use lib.Dec.{leb, eqb}
use borrow.Author.Tests.{leb-true, eqb-true, le-leb, lt-leb}
use borrow.Rule.Slice.PartMut.{put_mid}
use Rattle.fields.specs.Numbers.{Bytes}
use Rattle.fields.specs.Choice.{pick}
use Rattle.fields.specs.Parts.{put}
use Rattle.fields.proofs.Choice.{and_left, and_right, pick_true, pick-false}
use Rattle.fields.proofs.Parts.{length_part}
use Rattle.fields.proofs.Lent.{seen, lent-put}
use Rattle.rules.specs.Given.{Given, Gives, given}
use Rattle.rules.specs.Sizes.{least_mtu, max_delta}
use Rattle.rules.specs.Table.{Table}
use Rattle.rules.specs.Digest.{NodeDigest, DigestRead, Entries, Refused, is_edition, read_digest}
use Rattle.rules.specs.Delta.{Op, delta_bytes}
use Rattle.rules.specs.Compute.{delta_for, written, on_digest, compute, compute_for}
use Rattle.rules.specs.declared.Refusal.{Refusal}
use Rattle.rules.specs.Whole.{decode_whole, valid_whole}
use Rattle.rules.specs.Lent.{from_table, lent_compute}
use Rattle.rules.proofs.Accepted.{cut-bytes}
use Rattle.rules.specs.declared.Refusal.TheVariants.{BadMtu, NoPlace, BadTies, BadTable, BadEdition}
use Rattle.rules.specs.declared.Sent.{Sent}
use Rattle.compute_write.proofs.Steps.{gives}
use Rattle.std.specs.Prelude.{Err, Ok, Result}
use Rattle.rules.specs.Results.{done}
use Rattle.compute.specs.Lined.{at_front, delta_in}
use Rattle.compute.specs.Asking.{mtu_fits, is_free, asked_of}

-- ---- what the numbers of a call say

pub record Granted (mtu place room ties nodes : ℕ) : Type 0 where
  pub before : place ≤ room
  pub free : mtu ≤ room - place
  pub one_each : ties ≡ nodes
  pub most : mtu ≤ max_delta

module _ (mtu place room ties nodes : ℕ) where
  pub granted : asked_of mtu place room ties nodes ≡ done → Granted mtu place room ties nodes
  unfolding asked_of
  granted e = go (mtu_fits mtu) refl (is_free place mtu room) refl (eqb ties nodes) refl e
    where
      go : (a : Bool) → mtu_fits mtu ≡ a → (b : Bool) → is_free place mtu room ≡ b → (c : Bool) → eqb ties nodes ≡ c
          → pick a (pick b (pick c done (Err BadTies)) (Err NoPlace)) (Err BadMtu) ≡ done
          → Granted mtu place room ties nodes
      go true m true f true g q =
          record {
            before = leb-true place room (and_left (leb place room) (leb mtu (room - place)) f);
            free = leb-true mtu (room - place) (and_right (leb place room) (leb mtu (room - place)) f);
            one_each = eqb-true ties nodes g;
            most = leb-true mtu max_delta (and_right (leb least_mtu mtu) (leb mtu max_delta) m);
          }
      go true m true f false g q = let z : ◌≡◌ {A = ℕ} 0 1 = cc in absurd (omega arith)
      go true m false f c g q = let z : ◌≡◌ {A = ℕ} 0 1 = cc in absurd (omega arith)
      go false m b f c g q = let z : ◌≡◌ {A = ℕ} 0 1 = cc in absurd (omega arith)

-- ---- the outcome

delta-fits : (excluded ties : List ℕ) (mtu : ℕ) (ds : List NodeDigest) (t : Table) → length (delta_bytes (delta_for excluded ties mtu ds t)) ≤ mtu
unfolding delta_for
delta-fits excluded ties mtu ds t = cut-bytes mtu _

module _ (excluded ties : List ℕ) (mtu place : ℕ) (read : DigestRead) (t : Table) (l : Bytes) where
  abbrev numbers : (Result (Unit {0}) Refusal)
  numbers = asked_of mtu place (length l) (length ties) (length t)

  abbrev on : (Result (Unit {0}) Refusal) → Given (Result Sent Refusal) Bytes
  on (Ok _) = on_digest excluded ties mtu place read t l
  on (Err r) = given (Err r) l

  by-numbers : on numbers ≡ compute_for excluded ties mtu place read t l
  unfolding asked_of
  by-numbers = go (mtu_fits mtu) (is_free place mtu (length l)) (eqb (length ties) (length t))
    where
      go : (a b c : Bool) → on (pick a (pick b (pick c done (Err BadTies)) (Err NoPlace)) (Err BadMtu))
          ≡ pick a (pick b (pick c (on done) (on (Err BadTies))) (on (Err NoPlace))) (on (Err BadMtu))
      go true true true = refl
      go true true false = refl
      go true false c = refl
      go false b c = refl

  -- 7, 8, 15
  pub by-refused : (r : Refusal) → numbers ≡ Err r → Gives (compute_for excluded ties mtu place read t l) (Err r) l
  by-refused r e = gives _ _ (compute_for excluded ties mtu place read t l) (ap on (sym e) ∙ by-numbers)

  -- the digest's
  pub by-digest : (r : Refusal) → numbers ≡ done → read ≡ Refused r
      → Gives (compute_for excluded ties mtu place read t l) (Err r) l
  by-digest r e f =
      gives _ _ (compute_for excluded ties mtu place read t l)
      (ap (λ (d : DigestRead). on_digest excluded ties mtu place d t l) (sym f) ∙ ap on (sym e) ∙ by-numbers)

  -- the delta is written
  pub by-delta : (ds : List NodeDigest) (rest : List ℕ) → numbers ≡ done → read ≡ Entries ds rest
      → written (delta_for excluded ties mtu ds t) place l ≡ compute_for excluded ties mtu place read t l
  by-delta ds rest e f = ap (λ (d : DigestRead). on_digest excluded ties mtu place d t l) (sym f) ∙ ap on (sym e) ∙ by-numbers

  -- what was written into the part of the datagram that is as long as the MTU
  pub by_part : (ds : List NodeDigest) (rest : Bytes) (r : Sent) (after : Bytes) → place + mtu ≤ length l → numbers ≡ done
      → read ≡ Entries ds rest → let part : Bytes = take (place + mtu - place) (drop place l) in
      Gives (delta_in excluded ties ds t part) r after → length after ≡ length part
      → Gives (compute_for excluded ties mtu place read t l) (Ok (record { ops = r.ops; bytes = r.bytes })) (put_mid place (place + mtu - place) l after)
  by_part ds rest r after h e f g k =
      let part : Bytes = take (place + mtu - place) (drop place l) in
      let long : length part ≡ mtu = ap length (seen place mtu l) ∙ length_part place mtu l h in
      let d : List Op = delta_for excluded ties mtu ds t in
      let own = subst (λ (n : ℕ). Gives (at_front (delta_for excluded ties n ds t) part) r after) long g in
      let whole : put_mid place (place + mtu - place) l after ≡ put place (delta_bytes d) l =
      lent-put place mtu 0 (delta_bytes d) l after h (rw zero-add (delta-fits excluded ties mtu ds t)) own.1 k
      ∙ ap (λ (n : ℕ). put n (delta_bytes d) l) (add-zero place) in
      gives _ _ (compute_for excluded ties mtu place read t l) ((λ i. given (Ok (record { ops = (own.0 i).ops; bytes = (own.0 i).bytes })) (whole i)) ∙ by-delta ds rest e f)

-- ---- 20

module _ (edition : ℕ) (excluded ties : List ℕ) (mtu place : ℕ) (digest : Bytes) (t : Table) (l : Bytes) where
  pub no-edition : is_edition edition ≡ false → Gives (compute edition excluded ties mtu place digest t l) (Err BadEdition) l
  unfolding compute
  no-edition e = gives _ _ _ (sym (pick-false (is_edition edition) _ _ e))

  pub in-edition : is_edition edition ≡ true → compute_for excluded ties mtu place (read_digest edition digest) t l ≡ compute edition excluded ties mtu place digest t l
  unfolding compute
  in-edition e = sym (pick_true (is_edition edition) _ _ e)

-- ---- 14

pub bad-table : (edition : ℕ) (excluded ties : List ℕ) (mtu place : ℕ) (digest l datagram : Bytes) → valid_whole l ≡ false
    → Gives (lent_compute edition excluded ties mtu place digest datagram l) (Err BadTable) datagram
unfolding from_table
bad-table edition excluded ties mtu place digest l datagram e = gives _ _ _ (sym (pick-false (valid_whole l) _ _ e))

pub good-table : (edition : ℕ) (excluded ties : List ℕ) (mtu place : ℕ) (digest l datagram : Bytes) → valid_whole l ≡ true
    → compute edition excluded ties mtu place digest (decode_whole l).table datagram ≡ lent_compute edition excluded ties mtu place digest datagram l
unfolding from_table
good-table edition excluded ties mtu place digest l datagram e = sym (pick_true (valid_whole l) _ _ e)

-- ---- the numbers

module _ (mtu place room ties nodes : ℕ) where
  pub mtu-low : mtu < least_mtu → false ≡ mtu_fits mtu
  mtu-low h = rw (lt-leb least_mtu mtu h) refl

  pub mtu-high : least_mtu ≤ mtu → leb mtu max_delta ≡ mtu_fits mtu
  mtu-high h = rw (le-leb least_mtu mtu h) refl

  pub past_end : room < place → false ≡ is_free place mtu room
  past_end h = rw (lt-leb place room h) refl

  pub before-end : place ≤ room → leb mtu (room - place) ≡ is_free place mtu room
  before-end h = rw (le-leb place room h) refl

  pub asks : (a b c : Bool) → mtu_fits mtu ≡ a → is_free place mtu room ≡ b → eqb ties nodes ≡ c
      → pick a (pick b (pick c done (Err BadTies)) (Err NoPlace)) (Err BadMtu) ≡ asked_of mtu place room ties nodes
  unfolding asked_of
  asks a b c e f g = λ i. pick (sym e i) (pick (sym f i) (pick (sym g i) done (Err BadTies)) (Err NoPlace)) (Err BadMtu)
