-- A search by halves: what one comparison in the middle tells of the whole search. One that comes too late cuts off what stands behind it, whatever
-- that is. One that comes too early cuts off what stands before it where all of that comes too early as well, and in a list that rises it does.
-- Assumes nothing.
use Prim.Native.Nat.{ℕ, zero, suc, ◌+◌, ◌≤◌, ◌<◌}
use mathlib.Core.Path.{◌≡◌, refl, ap, sym, ◌∙◌, subst}
use mathlib.Core.Bool.{true}
use mathlib.Core.List.{List, [], ◌∷◌}
use native.Mathlib.Omega.{arith}
use native.Mathlib.Nat.{not-suc-le-zero, le_of_suc-le-suc}
use lib.ListN.{length, get_or, take, drop, length-take}
use Rattle.fields.specs.Choice.{◌∈◌, here, later}
use Rattle.fields.specs.Order.{less_bytes, order_of}
use Rattle.std.specs.declared.cmp.Ordering.{Ordering}
use Rattle.std.specs.declared.cmp.Ordering.TheVariants.{Less, Equal, Greater}
use Rattle.fields.proofs.Choice.{in-at, in-none}
use Rattle.fields.proofs.Ordered.{same_true, less-trans, more-order, order_same, order-more}
use Rattle.rules.specs.Node.{Rec}
use Rattle.rules.specs.Table.{keys_rise}
use Rattle.rules.proofs.Records.{Above, Sorted}
use Rattle.rules.proofs.Obeys.{keys-sorted}
use Rattle.table.specs.Tests.{count_of, recs_in}
use Rattle.table.proofs.Places.{rec_at, recs-at, recs-drop, length-recs}
use Rattle.table_read.specs.Find.{further, seek, find_by, to_key, find_key}
use Rattle.table_read.specs.declared.Place.{Place}
use Rattle.table_read.specs.declared.Place.TheVariants.{At, Free}
use Rattle.table_read.proofs.Found.{further-further, further-none, step_same, step-more}
use Rattle.table_read.proofs.Searched.{place-in}
use Rattle.table_read.proofs.Placed.{free_in}

-- ---- any search

module _ {A : Type 0} (f : A → Ordering) where
  -- one that comes too late: what stands before it has the whole's answer
  pub before-late : (l : List A) (j : ℕ) (a : A) → drop j l ≡ a ∷ drop (suc j) l → f a ≡ Less → find_by f (take j l) ≡ find_by f l
  unfolding find_by
  before-late [] zero a e q = let z : ◌≡◌ {A = ℕ} 0 1 = cc in absurd (omega arith)
  before-late [] (suc j) a e q = let z : ◌≡◌ {A = ℕ} 0 1 = cc in absurd (omega arith)
  before-late (b ∷ l) zero a e q =
      let y : b ≡ a = cc in
      ap (λ (o : Ordering). seek o (find_by f l)) (sym (ap f y ∙ q))
  before-late (b ∷ l) (suc j) a e q = ap (seek (f b)) (before-late l j a e q)

  -- where all before j come too early, the search goes on at j
  pub behind-early : (l : List A) (j : ℕ) → j ≤ length l → ((x : A) → x ∈ take j l → f x ≡ Greater) → further j (find_by f (drop j l)) ≡ find_by f l
  unfolding find_by
  behind-early l zero g h = further-none (find_by f l)
  behind-early [] (suc j) g h = absurd (not-suc-le-zero g)
  behind-early (b ∷ l) (suc j) g h =
      let i : suc j ≡ 1 + j = omega arith in
      ap (λ (n : ℕ). further n (find_by f (drop j l))) i
      ∙ sym (further-further 1 j (find_by f (drop j l)))
      ∙ ap (further 1) (behind-early l j (le_of_suc-le-suc g) (λ x m. h x (later m)))
      ∙ ap (λ (o : Ordering). seek o (find_by f l)) (sym (h b (here refl)))

  -- where both halves end at i, nothing is found and i is the place
  pub met : (l : List A) (i : ℕ) → find_by f (take i l) ≡ find_by f l → further i (find_by f (drop i l)) ≡ find_by f l → find_by f l ≡ Free i
  met l i p q = go (find_by f (take i l)) (find_by f (drop i l)) refl refl
    where
      few : length (take i l) ≤ i
      few = rw length-take (omega arith)

      go : (r s : Place) → find_by f (take i l) ≡ r → find_by f (drop i l) ≡ s → find_by f l ≡ Free i
      go (At m) (At k) x y =
          let z : At m ≡ At (i + k) = sym x ∙ p ∙ sym q ∙ ap (further i) y in
          let w : m ≡ i + k = cc in
          absurd (omega (arith, place-in f (take i l) m x, few))
      go (At m) (Free k) x y =
          let z : At m ≡ Free (i + k) = sym x ∙ p ∙ sym q ∙ ap (further i) y in
          let w : ◌≡◌ {A = ℕ} 0 1 = cc in
          absurd (omega arith)
      go (Free m) (At k) x y =
          let z : Free m ≡ At (i + k) = sym x ∙ p ∙ sym q ∙ ap (further i) y in
          let w : ◌≡◌ {A = ℕ} 0 1 = cc in
          absurd (omega arith)
      go (Free m) (Free k) x y =
          let z : Free m ≡ Free (i + k) = sym x ∙ p ∙ sym q ∙ ap (further i) y in
          let w : m ≡ i + k = cc in
          let v : m ≡ i = omega (arith, free_in f (take i l) m x, few) in
          sym p ∙ x ∙ ap Free v

-- ---- records whose keys rise

-- each before the one at j comes before it
before : (l : List Rec) → Sorted l → (j : ℕ) (d : Rec) → j < length l → (x : Rec) → x ∈ take j l → less_bytes x.kv.key (get_or l j d).kv.key ≡ true
unfolding Sorted Above
before [] s j d h x m = absurd (not-suc-le-zero h)
before (b ∷ l) s zero d h x m = absurd (in-none m)
before (b ∷ l) s (suc j) d h x (here e) = subst (λ (y : Rec). less_bytes y.kv.key (get_or l j d).kv.key ≡ true) (sym e) (s.0 (get_or l j d) (in-at l j d (le_of_suc-le-suc h)))
before (b ∷ l) s (suc j) d h x (later m) = before l s.1 j d (le_of_suc-le-suc h) x m

module _ (k b : List ℕ) (s : keys_rise (recs_in b) ≡ true) (j : ℕ) (h : j < count_of b) where
  below : (x : Rec) → x ∈ take j (recs_in b) → less_bytes x.kv.key (rec_at j b).kv.key ≡ true
  below x m =
      let d : Rec = rec_at j b in
      subst (λ (y : Rec). less_bytes x.kv.key y.kv.key ≡ true) (recs-at j b d h) (before (recs_in b) (keys-sorted (recs_in b) s) j d (rw length-recs h) x m)

  inside : j ≤ length (recs_in b)
  inside = rw length-recs (omega arith)

  at_same : order_of k (rec_at j b).kv.key ≡ Equal → (x : Rec) → x ∈ take j (recs_in b) → to_key k x ≡ Greater
  at_same q x m =
      more-order k x.kv.key (subst (λ (y : List ℕ). less_bytes x.kv.key y ≡ true) (sym (same_true k (rec_at j b).kv.key (order_same k (rec_at j b).kv.key q))) (below x m))

  at_more : order_of k (rec_at j b).kv.key ≡ Greater → (x : Rec) → x ∈ take j (recs_in b) → to_key k x ≡ Greater
  at_more q x m = more-order k x.kv.key (less-trans x.kv.key (rec_at j b).kv.key k (below x m) (order-more k (rec_at j b).kv.key q))

  pub half-same : order_of k (rec_at j b).kv.key ≡ Equal → At j ≡ find_key k (recs_in b)
  half-same q =
      sym (step_same (to_key k) (recs_in b) j (rec_at j b) (recs-drop j b h) q) ∙ behind-early (to_key k) (recs_in b) j inside (at_same q)

  pub half-less : order_of k (rec_at j b).kv.key ≡ Less → find_key k (take j (recs_in b)) ≡ find_key k (recs_in b)
  half-less q = before-late (to_key k) (recs_in b) j (rec_at j b) (recs-drop j b h) q

  pub half-more : order_of k (rec_at j b).kv.key ≡ Greater → further (j + 1) (find_key k (drop (j + 1) (recs_in b))) ≡ find_key k (recs_in b)
  half-more q =
      sym (step-more (to_key k) (recs_in b) j (rec_at j b) (recs-drop j b h) q) ∙ behind-early (to_key k) (recs_in b) j inside (at_more q)
