-- What a party sees of a node's records is the piece of them that `sight_in` names (`seen-piece`), and it lies within them. What stands in a place of the piece
-- stands so many places further back among all records (`seen_at`). A key that the party may name is found in the piece exactly where it is found among all,
-- less the records before the piece (`seen-place`). Assumes nothing.
use Prim.Native.Nat.{ℕ, ◌+◌, ◌≤◌, ◌<◌}
use mathlib.Core.Path.{◌≡◌, refl, ap, ap₂, sym, ◌∙◌}
use mathlib.Core.Bool.{true}
use mathlib.Core.List.{List, [], ◌∷◌, ◌++◌, append-nil}
use native.Mathlib.Omega.{arith}
use lib.ListN.{length, get_or, take, drop, length-append}
use lib.Seq.{take-append_seam, drop-append_seam, get_or-take, get_or-drop}
use Rattle.fields.specs.Choice.{keep, ◌∈◌, here, later}
use Rattle.std.specs.declared.cmp.Ordering.{Ordering}
use Rattle.std.specs.declared.cmp.Ordering.TheVariants.{Less, Greater}
use Rattle.fields.proofs.Choice.{in-none, keep-from}
use Rattle.fields.proofs.Ordered.{less-order, more-order}
use Rattle.rules.specs.Node.{Rec}
use Rattle.rules.specs.Table.{keys_rise}
use Rattle.rules.specs.Party.{own, of_keys, sees, seen_recs}
use Rattle.rules.specs.Profile.{recs_formed}
use Rattle.rules.specs.declared.Profile.{Profile}
use Rattle.rules.specs.declared.Profile.TheVariants.{Free, Meter, Shared}
use Rattle.rules.specs.declared.Party.{Party}
use Rattle.rules.specs.declared.Party.TheVariants.{Metering, Building, Nobody}
use Rattle.rules.proofs.Records.{Sorted, sorted-keep}
use Rattle.rules.proofs.Obeys.{keys-sorted}
use Rattle.table_read.specs.Find.{further, seek, find_by, to_key, find_key}
use Rattle.table_read.proofs.Found.{further-none, further-further}
use Rattle.own_rows.specs.Sight.{sight_in}
use Rattle.own_rows.proofs.Parted.{false-true, keep-none, parted, building-less}

-- nobody sees none
none_seen : (l : List Rec) → of_keys (own Nobody) l ≡ []
none_seen l = keep-none (λ (r : Rec). own Nobody r.kv.key) l (λ x i. refl)

-- as many as the piece has
pub seen-count : (p : Profile) (q : Party) (l : List Rec) → length (seen_recs p q l) ≡ (sight_in p q l).count
seen-count Free q l = refl
seen-count Meter q l = refl
seen-count Shared Metering l = refl
seen-count Shared Building l = refl
seen-count Shared Nobody l = ap length (none_seen l)

-- their keys rise too
pub seen-sorted : (p : Profile) (q : Party) (l : List Rec) → keys_rise l ≡ true → Sorted (seen_recs p q l)
seen-sorted Free q l s = keys-sorted l s
seen-sorted Meter q l s = keys-sorted l s
seen-sorted Shared q l s = sorted-keep (λ (r : Rec). own q r.kv.key) l (keys-sorted l s)

-- ---- the piece

-- the records are what stands before the piece, the piece, and what stands behind it
pub record Cut (p : Profile) (q : Party) (l : List Rec) : Type 0 where
  pub front : List Rec
  pub back : List Rec
  pub is : l ≡ front ++ (seen_recs p q l ++ back)
  pub low : length front ≡ (sight_in p q l).low
  -- a key that the party may name comes behind the one and before the other
  pub before : (k : List ℕ) → sees p q k ≡ true → (x : Rec) → x ∈ front → to_key k x ≡ Greater
  pub behind : (k : List ℕ) → sees p q k ≡ true → (x : Rec) → x ∈ back → to_key k x ≡ Less

pub cut : (p : Profile) (q : Party) (l : List Rec) → keys_rise l ≡ true → recs_formed p l ≡ true → Cut p q l
unfolding keep
cut Free q l s f =
    record { front = []; back = []; is = sym (append-nil l); low = refl; before = λ k h x m. absurd (in-none m); behind = λ k h x m. absurd (in-none m) }
cut Meter q l s f =
    record { front = []; back = []; is = sym (append-nil l); low = refl; before = λ k h x m. absurd (in-none m); behind = λ k h x m. absurd (in-none m) }
cut Shared Metering l s f =
    record {
      front = of_keys (own Building) l;
      back = [];
      is = parted l s f ∙ ap (λ (x : List Rec). of_keys (own Building) l ++ x) (sym (append-nil (of_keys (own Metering) l)));
      low = refl;
      before = λ k h x m. more-order k x.kv.key (building-less x.kv.key k (keep-from (λ (r : Rec). own Building r.kv.key) l m).1 h);
      behind = λ k h x m. absurd (in-none m);
    }
cut Shared Building l s f =
    record {
      front = [];
      back = of_keys (own Metering) l;
      is = parted l s f;
      low = refl;
      before = λ k h x m. absurd (in-none m);
      behind = λ k h x m. less-order k x.kv.key (building-less k x.kv.key h (keep-from (λ (r : Rec). own Metering r.kv.key) l m).1);
    }
cut Shared Nobody l s f =
    record {
      front = [];
      back = l;
      is = ap (λ (x : List Rec). x ++ l) (sym (none_seen l));
      low = refl;
      before = λ k h x m. absurd (in-none m);
      behind = λ k h x m. false-true h;
    }

module _ (p : Profile) (q : Party) (l : List Rec) (s : keys_rise l ≡ true) (f : recs_formed p l ≡ true) where
  c : Cut p q l
  c = cut p q l s f

  abbrev mid : List Rec
  mid = seen_recs p q l

  rest-is : drop (sight_in p q l).low l ≡ mid ++ c.back
  rest-is = ap₂ (λ (n : ℕ) (x : List Rec). drop n x) (sym c.low) c.is ∙ drop-append_seam c.front (mid ++ c.back)

  pub seen-piece : seen_recs p q l ≡ take (sight_in p q l).count (drop (sight_in p q l).low l)
  seen-piece =
      sym (take-append_seam mid c.back) ∙ ap₂ (λ (n : ℕ) (x : List Rec). take n x) (seen-count p q l) (sym rest-is)

  pub seen-within : (sight_in p q l).low + (sight_in p q l).count ≤ length l
  seen-within =
      let e : length l ≡ length c.front + length (mid ++ c.back) = ap length c.is ∙ length-append c.front (mid ++ c.back) in
      let g : length (mid ++ c.back) ≡ length mid + length c.back = length-append mid c.back in
      omega (arith, e, g, c.low, seen-count p q l)

  -- what stands in place j of the piece
  pub seen_at : (j : ℕ) (d : Rec) → j < (sight_in p q l).count → get_or (seen_recs p q l) j d ≡ get_or l ((sight_in p q l).low + j) d
  seen_at j d h =
      ap (λ (x : List Rec). get_or x j d) seen-piece
      ∙ get_or-take (sight_in p q l).count (drop (sight_in p q l).low l) j d h
      ∙ get_or-drop (sight_in p q l).low l j d

-- ---- a key that the party may name

module _ {A : Type 0} (g : A → Ordering) where
  past : (xs ys : List A) → ((x : A) → x ∈ xs → g x ≡ Greater) → find_by g (xs ++ ys) ≡ further (length xs) (find_by g ys)
  unfolding find_by
  past [] ys h = sym (further-none (find_by g ys))
  past (a ∷ xs) ys h =
      rw (h a (here refl)) (ap (further 1) (past xs ys (λ x m. h x (later m)))
      ∙ further-further 1 (length xs) (find_by g ys)
      ∙ ap (λ (n : ℕ). further n (find_by g ys)) (omega arith))

  short-of : (xs ys : List A) → ((y : A) → y ∈ ys → g y ≡ Less) → find_by g (xs ++ ys) ≡ find_by g xs
  unfolding find_by
  short-of [] [] h = refl
  short-of [] (b ∷ ys) h = ap (λ (o : Ordering). seek o (find_by g ys)) (h b (here refl))
  short-of (a ∷ xs) ys h = ap (seek (g a)) (short-of xs ys h)

pub seen-place : (p : Profile) (q : Party) (l : List Rec) → keys_rise l ≡ true → recs_formed p l ≡ true → (k : List ℕ) → sees p q k ≡ true
    → find_key k l ≡ further (sight_in p q l).low (find_key k (seen_recs p q l))
seen-place p q l s f k h =
    let c = cut p q l s f in
    let m : List Rec = seen_recs p q l in
    ap (find_key k) c.is
    ∙ past (to_key k) c.front (m ++ c.back) (c.before k h)
    ∙ ap₂ further c.low (short-of (to_key k) m c.back (c.behind k h))
