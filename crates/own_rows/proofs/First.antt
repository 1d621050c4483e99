-- The first byte of a key tells whose it is in a shared table, and so on which side of it the records of the two part. Assumes nothing.
use Prim.Native.Nat.{ℕ, zero, suc, ◌+◌, ◌-◌, ◌≤◌, ◌<◌}
use mathlib.Core.Path.{◌≡◌, ap, ap₂, sym, ◌∙◌, subst}
use mathlib.Core.Bool.{true}
use mathlib.Core.List.{List, [], ◌∷◌}
use native.Mathlib.Omega.{arith}
use native.Mathlib.Decide.{dec_le}
use lib.ListN.{length, get_or, take, drop, length-append, get_or-append}
use lib.Seq.{get_or-append-add}
use Rattle.fields.specs.Numbers.{nat_of}
use Rattle.fields.specs.Order.{starts_with}
use Rattle.fields.specs.Parts.{part}
use Rattle.fields.specs.Widths.{offset}
use Rattle.fields.proofs.Choice.{in-at, keep-from}
use Rattle.rules.specs.Node.{Rec}
use Rattle.rules.specs.Table.{keys_rise}
use Rattle.rules.specs.Party.{own, of_keys}
use Rattle.rules.specs.Profile.{recs_formed}
use Rattle.rules.specs.Layout.{rec_widths, rec_place, decode_rec}
use Rattle.rules.specs.declared.Profile.{Profile}
use Rattle.rules.specs.declared.Profile.TheVariants.{Free, Meter, Shared}
use Rattle.rules.specs.declared.Party.{Party}
use Rattle.rules.specs.declared.Party.TheVariants.{Metering, Building}
use Rattle.table.specs.Fits.{LaidNode}
use Rattle.table.specs.Tests.{key_length, count_of, recs_in}
use Rattle.table.proofs.Places.{rec_bytes, rec_at, recs-at, in-rec, length-recs}
use Rattle.own_rows.specs.Sight.{sight_in}
use Rattle.own_rows.proofs.Parted.{begins, parted}

-- ---- by the place

-- there are no others
pub both-counted : (l : List Rec) → keys_rise l ≡ true → recs_formed Shared l ≡ true
    → length l ≡ length (of_keys (own Building) l) + length (of_keys (own Metering) l)
both-counted l s f = ap length (parted l s f) ∙ length-append (of_keys (own Building) l) (of_keys (own Metering) l)

-- behind the metering firm's stands no other, in any table
pub all-behind : (p : Profile) (q : Party) → q ≡ Metering → (l : List Rec) → keys_rise l ≡ true → recs_formed p l ≡ true
    → (sight_in p q l).low + (sight_in p q l).count ≡ length l
all-behind p q u l s f = ap (λ (x : Party). (sight_in p x l).low + (sight_in p x l).count) u ∙ go p f
  where
    go : (p : Profile) → recs_formed p l ≡ true → (sight_in p Metering l).low + (sight_in p Metering l).count ≡ length l
    go Free f = omega arith
    go Meter f = omega arith
    go Shared f = sym (both-counted l s f)

module _ (l : List Rec) (s : keys_rise l ≡ true) (f : recs_formed Shared l ≡ true) (j : ℕ) (d : Rec) (h : j < length l) where
  abbrev first : List Rec
  first = of_keys (own Building) l

  abbrev second : List Rec
  second = of_keys (own Metering) l

  -- before where they part stands the one's
  before : j < length first → own Building (get_or l j d).kv.key ≡ true
  before g =
      ap (λ (r : Rec). own Building r.kv.key) (ap (λ (x : List Rec). get_or x j d) (parted l s f) ∙ get_or-append first second d j g)
      ∙ (keep-from (λ (r : Rec). own Building r.kv.key) l (in-at first j d g)).1

  -- from there on the other's
  from : length first ≤ j → own Metering (get_or l j d).kv.key ≡ true
  from g =
      let m : ℕ = j - length first in
      let e : j ≡ length first + m = omega arith in
      ap (λ (r : Rec). own Metering r.kv.key)
      (ap₂ (λ (x : List Rec) (n : ℕ). get_or x n d) (parted l s f) e ∙ get_or-append-add first second m d)
      ∙ (keep-from (λ (r : Rec). own Metering r.kv.key) l (in-at second m d (omega (arith, both-counted l s f)))).1

-- ---- by the byte

first_of : (x : List ℕ) (n a : ℕ) (rest : List ℕ) → take n x ≡ a ∷ rest → nat_of (take 1 x) ≡ a
unfolding nat_of
first_of x zero a rest e = let z : ◌≡◌ {A = ℕ} 0 1 = cc in absurd (omega arith)
first_of [] (suc n) a rest e = let z : ◌≡◌ {A = ℕ} 0 1 = cc in absurd (omega arith)
first_of (y ∷ x) (suc n) a rest e = let z : y ≡ a = cc in omega arith

module _ (b : List ℕ) (o : LaidNode b) (j : ℕ) (h : j < count_of b) where
  first_byte : (a : ℕ) (k : List ℕ) → starts_with (a ∷ k) (rec_at j b).kv.key ≡ true → nat_of (part (rec_place j + offset rec_widths 1) 1 b) ≡ a
  unfolding decode_rec part
  first_byte a k e =
      let x = begins a k (rec_at j b).kv.key e in
      ap nat_of (sym (in-rec j (offset rec_widths 1) 1 b o.long (omega (arith, o.few)) (omega arith)))
      ∙ first_of (drop (offset rec_widths 1) (rec_bytes j b)) (key_length (rec_bytes j b)) a x.rest x.is

  module _ (s : keys_rise (recs_in b) ≡ true) (f : recs_formed Shared (recs_in b) ≡ true) where
    abbrev parts : ℕ
    parts = length (of_keys (own Building) (recs_in b))

    inside : j < length (recs_in b)
    inside = rw length-recs h

    at : get_or (recs_in b) j (decode_rec []) ≡ rec_at j b
    at = recs-at j b (decode_rec []) h

    pub left-of : nat_of (part (rec_place j + offset rec_widths 1) 1 b) ≡ 98 → j + 1 ≤ parts
    left-of e = elim (dec_le parts j) [
      | yes g ↦
          let m = first_byte 109 (47 ∷ []) (subst (λ (r : Rec). own Metering r.kv.key ≡ true) at (from (recs_in b) s f j (decode_rec []) inside g)) in
          absurd (omega (arith, m, e))
      | no g ↦ omega arith
    ]

    pub right_of : (nat_of (part (rec_place j + offset rec_widths 1) 1 b) ≡ 98 → ⊥) → parts ≤ j
    right_of e = elim (dec_le parts j) [
      | yes g ↦ g
      | no g ↦
          let m = first_byte 98 (47 ∷ []) (subst (λ (r : Rec). own Building r.kv.key ≡ true) at (before (recs_in b) s f j (decode_rec []) inside (omega arith))) in
          absurd (e m)
    ]
