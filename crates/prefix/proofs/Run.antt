-- Keys ascend, so those that begin with a prefix stand together. Where they would begin is what the search for the prefix itself answers; a look at one key
-- behind that place says of all on one side of it whether they begin with the prefix. Assumes nothing.
use Prim.Native.Nat.{ℕ, zero, suc, ◌≤◌, ◌<◌, zero-le}
use mathlib.Core.Path.{◌≡◌, refl, ap, sym, ◌∙◌, subst}
use mathlib.Core.Bool.{Bool, true, false, false≢true, true≢false}
use mathlib.Core.List.{List, [], ◌∷◌}
use native.Mathlib.Omega.{arith}
use native.Mathlib.Nat.{not-suc-le-zero, le_of_suc-le-suc}
use lib.Dec.{eqb, ltb}
use lib.ListN.{length, get_or}
use borrow.Author.Tests.{ltb-true, ltb-false, eqb-true, eq-eqb, le-ltb}
use Rattle.fields.specs.Choice.{pick}
use Rattle.fields.specs.Order.{less_bytes, starts_with}
use Rattle.std.specs.declared.cmp.Ordering.{Ordering}
use Rattle.std.specs.declared.cmp.Ordering.TheVariants.{Less, Equal, Greater}
use Rattle.fields.proofs.Choice.{pick_true, pick-false, in-at}
use Rattle.fields.proofs.Ordered.{same_true, less-self, less-not, less-trans, order_same, order-less, order-more}
use Rattle.rules.specs.Node.{Rec}
use Rattle.rules.specs.Table.{keys_rise}
use Rattle.rules.specs.Layout.{decode_rec}
use Rattle.rules.proofs.Records.{Above, Sorted, key_of}
use Rattle.rules.proofs.Obeys.{keys-sorted}
use Rattle.table.specs.Tests.{count_of, recs_in}
use Rattle.table.proofs.Places.{recs-at, length-recs}
use Rattle.table_read.specs.Find.{further, seek, find_by, to_key, find_key}
use Rattle.table_read.specs.declared.Place.{Place}
use Rattle.table_read.specs.declared.Place.TheVariants.{At, Free}
use Rattle.prefix.specs.Run.{key_at, FirstOf, RunOf, brought_in, RunIn}

-- ---- byte strings

-- what comes before a prefix does not begin with it
pub early-not : (p a : List ℕ) → less_bytes a p ≡ true → starts_with p a ≡ false
unfolding less_bytes starts_with
early-not [] [] e = absurd (false≢true e)
early-not [] (x ∷ a) e = absurd (false≢true e)
early-not (y ∷ p) [] e = refl
early-not (y ∷ p) (x ∷ a) e = go (eqb y x) refl e (early-not p a)
  where
    go : (t : Bool) → eqb y x ≡ t → pick (ltb x y) true (pick (eqb x y) (less_bytes a p) false) ≡ true → (less_bytes a p ≡ true → starts_with p a ≡ false)
        → pick t (starts_with p a) false ≡ false
    go true q e ih =
        let s : y ≡ x = eqb-true y x q in
        ih
        (sym (pick_true (eqb x y) (less_bytes a p) false (eq-eqb x y (sym s)))
        ∙ sym (pick-false (ltb x y) true (pick (eqb x y) (less_bytes a p) false) (le-ltb x y (omega arith)))
        ∙ e)
    go false q e ih = refl

-- what stands between a prefix and a string that begins with it begins with it
pub between : (p a b : List ℕ) → less_bytes a p ≡ false → less_bytes b a ≡ false → starts_with p b ≡ true → starts_with p a ≡ true
unfolding less_bytes starts_with
between [] a b e f s = refl
between (y ∷ p) [] b e f s = absurd (true≢false e)
between (y ∷ p) (x ∷ a) [] e f s = absurd (false≢true s)
between (y ∷ p) (x ∷ a) (z ∷ b) e f s = go (ltb x y) (ltb z x) (eqb y z) refl refl refl e f s (between p a b)
  where
    go : (t u v : Bool) → ltb x y ≡ t → ltb z x ≡ u → eqb y z ≡ v → pick t true (pick (eqb x y) (less_bytes a p) false) ≡ false
        → pick u true (pick (eqb z x) (less_bytes b a) false) ≡ false → pick v (starts_with p b) false ≡ true
        → (less_bytes a p ≡ false → less_bytes b a ≡ false → starts_with p b ≡ true → starts_with p a ≡ true) → pick (eqb y x) (starts_with p a) false ≡ true
    go true u v q r w e f s ih = absurd (true≢false e)
    go false true v q r w e f s ih = absurd (true≢false f)
    go false false false q r w e f s ih = absurd (false≢true s)
    go false false true q r w e f s ih =
        let yz : y ≡ z = eqb-true y z w in
        let yx : y ≡ x = omega (arith, ltb-false x y q, ltb-false z x r) in
        pick_true (eqb y x) (starts_with p a) false (eq-eqb y x yx)
        ∙ ih (sym (pick_true (eqb x y) (less_bytes a p) false (eq-eqb x y (sym yx))) ∙ e)
        (sym (pick_true (eqb z x) (less_bytes b a) false (eq-eqb z x (sym yz ∙ yx))) ∙ f) s

-- ---- places in a list that rises

abbrev pub place_in : Place → ℕ
place_in (At i) = i
place_in (Free i) = i

placed-further : (p : Place) → place_in (further 1 p) ≡ suc (place_in p)
placed-further (At i) = omega arith
placed-further (Free i) = omega arith

module _ (k : List ℕ) (d : Rec) where
  first-in : (l : List Rec) → place_in (find_key k l) ≤ length l
  unfolding find_by
  first-in [] = zero-le
  first-in (a ∷ l) = go (to_key k a) (first-in l)
    where
      go : (o : Ordering) → place_in (find_key k l) ≤ length l → place_in (seek o (find_key k l)) ≤ suc (length l)
      go Less ih = zero-le
      go Equal ih = zero-le
      go Greater ih = omega (arith, placed-further (find_key k l))

  first-early : (l : List Rec) (i : ℕ) → i < place_in (find_key k l) → less_bytes (key_of (get_or l i d)) k ≡ true
  unfolding find_by
  first-early [] i h = absurd (not-suc-le-zero h)
  first-early (a ∷ l) i h = go (to_key k a) refl i h (first-early l)
    where
      go : (o : Ordering) → to_key k a ≡ o → (i : ℕ) → i < place_in (seek o (find_key k l)) → ((m : ℕ) → m < place_in (find_key k l) → less_bytes (key_of (get_or l m d)) k ≡ true)
          → less_bytes (key_of (get_or (a ∷ l) i d)) k ≡ true
      go Less q i h ih = absurd (not-suc-le-zero h)
      go Equal q i h ih = absurd (not-suc-le-zero h)
      go Greater q zero h ih = order-more k (key_of a) q
      go Greater q (suc i) h ih = ih i (omega (arith, placed-further (find_key k l)))

  first-late : (l : List Rec) → Sorted l → (i : ℕ) → place_in (find_key k l) ≤ i → i < length l → less_bytes (key_of (get_or l i d)) k ≡ false
  unfolding find_by Sorted Above
  first-late [] s i h g = absurd (not-suc-le-zero g)
  first-late (a ∷ l) s i h g = go (to_key k a) refl i h g (first-late l s.1)
    where
      go : (o : Ordering) → to_key k a ≡ o → (i : ℕ) → place_in (seek o (find_key k l)) ≤ i → i < suc (length l)
          → ((m : ℕ) → place_in (find_key k l) ≤ m → m < length l → less_bytes (key_of (get_or l m d)) k ≡ false) → less_bytes (key_of (get_or (a ∷ l) i d)) k ≡ false
      go Less q zero h g ih = less-not k (key_of a) (order-less k (key_of a) q)
      go Less q (suc i) h g ih =
          less-not k (key_of (get_or l i d)) (less-trans k (key_of a) (key_of (get_or l i d)) (order-less k (key_of a) q) (s.0 (get_or l i d) (in-at l i d (le_of_suc-le-suc g))))
      go Equal q zero h g ih = subst (λ (x : List ℕ). less_bytes x k ≡ false) (same_true k (key_of a) (order_same k (key_of a) q)) (less-self k)
      go Equal q (suc i) h g ih =
          less-not k (key_of (get_or l i d))
          (subst (λ (x : List ℕ). less_bytes x (key_of (get_or l i d)) ≡ true) (sym (same_true k (key_of a) (order_same k (key_of a) q))) (s.0 (get_or l i d) (in-at l i d (le_of_suc-le-suc g))))
      go Greater q zero h g ih = absurd (omega (arith, placed-further (find_key k l)))
      go Greater q (suc i) h g ih = ih i (omega (arith, placed-further (find_key k l))) (le_of_suc-le-suc g)

module _ (d : Rec) where
  rises : (l : List Rec) → Sorted l → (i j : ℕ) → i < j → j < length l → less_bytes (key_of (get_or l i d)) (key_of (get_or l j d)) ≡ true
  unfolding Sorted Above
  rises [] s i j h g = absurd (not-suc-le-zero g)
  rises (a ∷ l) s i zero h g = absurd (not-suc-le-zero h)
  rises (a ∷ l) s zero (suc j) h g = s.0 (get_or l j d) (in-at l j d (le_of_suc-le-suc g))
  rises (a ∷ l) s (suc i) (suc j) h g = rises l s.1 i j (le_of_suc-le-suc h) (le_of_suc-le-suc g)

-- ---- in a node's bytes

module _ (k b : List ℕ) (s : keys_rise (recs_in b) ≡ true) where
  abbrev d : Rec
  d = decode_rec []

  sorted : Sorted (recs_in b)
  sorted = keys-sorted (recs_in b) s

  -- the key that stands at a place
  key-is : (j : ℕ) → j < count_of b → key_of (get_or (recs_in b) j d) ≡ key_at j b
  key-is j h = ap key_of (recs-at j b d h)

  pub first_of : (first : ℕ) → first ≡ place_in (find_key k (recs_in b)) → FirstOf k b first
  first_of first e =
      let n : place_in (find_key k (recs_in b)) ≤ count_of b = rw length-recs at (first-in k d (recs_in b)) in
      let m : first ≤ count_of b = omega arith in
      record {
        inside = m;
        early = λ j h. subst (λ (x : List ℕ). less_bytes x k ≡ true) (key-is j (omega arith)) (first-early k d (recs_in b) j (omega arith));
        late = λ j h g. subst (λ (x : List ℕ). less_bytes x k ≡ false) (key-is j g) (first-late k d (recs_in b) sorted j (omega arith) (rw length-recs g));
      }

  -- no key comes before one that stands before it
  not-before : (i j : ℕ) → i ≤ j → j < count_of b → less_bytes (key_at j b) (key_at i b) ≡ false
  not-before i j h g = go (ltb i j) refl
    where
      go : (t : Bool) → ltb i j ≡ t → less_bytes (key_at j b) (key_at i b) ≡ false
      go true q =
          let o : i < j = ltb-true i j q in
          less-not (key_at i b) (key_at j b)
          (subst (λ (x : List ℕ). less_bytes x (key_at j b) ≡ true) (key-is i (omega arith))
          (subst (λ (x : List ℕ). less_bytes (key_of (get_or (recs_in b) i d)) x ≡ true) (key-is j g) (rises d (recs_in b) sorted i j o (rw length-recs g))))
      go false q =
          let e : j ≡ i = omega (arith, ltb-false i j q) in
          subst (λ (m : ℕ). less_bytes (key_at j b) (key_at m b) ≡ false) e (less-self (key_at j b))

  -- a key that begins with the prefix, and one that does not
  module _ (first : ℕ) (f : FirstOf k b first) (i j : ℕ) (h : first ≤ i) (o : i ≤ j) (g : j < count_of b) where
    pub all-before : starts_with k (key_at j b) ≡ true → starts_with k (key_at i b) ≡ true
    all-before e = between k (key_at i b) (key_at j b) (f.late i h (omega arith)) (not-before i j o g) e

    pub none-behind : starts_with k (key_at i b) ≡ false → starts_with k (key_at j b) ≡ false
    none-behind e = go (starts_with k (key_at j b)) refl
      where
        go : (t : Bool) → starts_with k (key_at j b) ≡ t → t ≡ false
        go true q = absurd (false≢true (sym e ∙ all-before q))
        go false q = refl

-- ---- in a piece of a node's rows

-- a place that was brought into the piece: what stands before it there stands before the place, and what does not, does not
record Brought (x low top y : ℕ) : Type 0 where
  pub from : low ≤ y
  pub to : y ≤ top
  pub less : (j : ℕ) → low ≤ j → j < y → j < x
  pub more : (j : ℕ) → y ≤ j → j < top → x ≤ j

brought : (x low top : ℕ) → low ≤ top → Brought x low top (brought_in x low top)
brought x low top h = go (ltb x low) refl (ltb top x) refl
  where
    go : (s : Bool) → ltb x low ≡ s → (t : Bool) → ltb top x ≡ t → Brought x low top (pick s low (pick t top x))
    go true p t q =
        let l : x < low = ltb-true x low p in
        record { from = omega arith; to = h; less = λ j a c. omega arith; more = λ j a c. omega arith }
    go false p true q =
        let l : top < x = ltb-true top x q in
        record { from = h; to = omega arith; less = λ j a c. omega arith; more = λ j a c. omega arith }
    go false p false q =
        let l : low ≤ x = ltb-false x low p in
        let m : x ≤ top = ltb-false top x q in
        record { from = l; to = m; less = λ j a c. c; more = λ j a c. a }

-- the order of two places is kept
order-kept : (x y low top u v : ℕ) → x ≤ y → Brought x low top u → Brought y low top v → u ≤ v
order-kept x y low top u v h s t = go (ltb v u) refl
  where
    go : (c : Bool) → ltb v u ≡ c → u ≤ v
    go true q =
        let l : v < u = ltb-true v u q in
        absurd (omega (arith, h, s.less v t.from l, t.more v (omega arith) (omega (arith, s.to))))
    go false q = ltb-false v u q

pub run_in : (k b : List ℕ) (first end low top : ℕ) → low ≤ top → top ≤ count_of b → FirstOf k b first → RunOf k b first end → (u v : ℕ) → u ≡ brought_in first low top
    → v ≡ brought_in end low top → RunIn k b low top u v
run_in k b first end low top o h f r u v p q =
    let s = subst (Brought first low top) (sym p) (brought first low top o) in
    let e = subst (Brought end low top) (sym q) (brought end low top o) in
    record {
      from = s.from;
      order = order-kept first end low top u v r.order s e;
      inside = e.to;
      early = λ j a c. f.early j (s.less j a c);
      late = λ j a c. f.late j (s.more j a c) (omega arith);
      before = λ j a c. r.before j (s.less j a c);
      within = λ j a c. r.within j (s.more j a (omega (arith, e.to))) (e.less j (omega (arith, s.from)) c);
      behind = λ j a c. r.behind j (e.more j a c) (omega arith);
    }
