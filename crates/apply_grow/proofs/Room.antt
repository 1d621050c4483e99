-- Taking records raises a party's count by no more than they are, as it does the node's. So what has room for them has room afterwards. Assumes nothing.
use Prim.Native.Nat.{ℕ, suc, ◌+◌, ◌-◌, ◌≤◌, ◌<◌}
use mathlib.Core.Path.{◌≡◌, refl, sym, ◌∙◌}
use mathlib.Core.Bool.{Bool, true, false, ◌&&◌}
use mathlib.Core.List.{List, [], ◌∷◌}
use native.Mathlib.Omega.{arith}
use lib.ListN.{length}
use lib.Dec.{leb}
use borrow.Author.Tests.{le-leb, lt-leb, leb-true}
use Rattle.fields.specs.Choice.{pick, keep}
use Rattle.fields.specs.Order.{same_bytes, less_bytes}
use Rattle.fields.proofs.Choice.{and_intro, and_left, and_no, and_right, and_yes, same_test}
use Rattle.rules.specs.Sizes.{max_records, max_each}
use Rattle.rules.specs.Node.{KeyValue, Rec, store}
use Rattle.rules.specs.Apply.{takes, stamp, take_all}
use Rattle.rules.specs.Party.{own, of_keys}
use Rattle.rules.specs.Profile.{recs_fit, roomy_in}
use Rattle.rules.specs.declared.Party.TheVariants.{Metering, Building}
use Rattle.rules.specs.declared.Profile.{Profile}
use Rattle.rules.specs.declared.Profile.TheVariants.{Free, Meter, Shared}
use Rattle.table.specs.Fits.{LaidNode}
use Rattle.table.specs.Tests.{count_of, recs_in}
use Rattle.table.proofs.Places.{length-recs}
use Rattle.apply_node.proofs.Taken.{takes-few}
use Rattle.apply_grow.specs.Growing.{fit_for, roomy_for}

-- ---- two tests

pub and_second : (a b : Bool) → b ≡ false → a && b ≡ false
and_second true b e = e
and_second false b e = refl

pub and-with : (a b : Bool) → b ≡ true → a ≡ (a && b)
and-with true b e = sym e
and-with false b e = refl

-- ---- how many are a party's

module _ (mine : List ℕ → Bool) where
  abbrev count : List Rec → ℕ
  count l = length (of_keys mine l)

  abbrev its : Rec → Bool
  its r = mine r.kv.key

  one_more : (r : Rec) (l : List Rec) → count (r ∷ l) ≤ suc (count l)
  unfolding keep
  one_more r l = go (its r)
    where
      go : (t : Bool) → length (pick t (r ∷ of_keys mine l) (of_keys mine l)) ≤ suc (count l)
      go true = omega arith
      go false = omega arith

  none-fewer : (r : Rec) (l : List Rec) → count l ≤ count (r ∷ l)
  unfolding keep
  none-fewer r l = go (its r)
    where
      go : (t : Bool) → count l ≤ length (pick t (r ∷ of_keys mine l) (of_keys mine l))
      go true = omega arith
      go false = omega arith

  behind : (a : Rec) (x l : List Rec) → count x ≤ suc (count l) → count (a ∷ x) ≤ suc (count (a ∷ l))
  unfolding keep
  behind a x l h = go (its a)
    where
      go : (t : Bool) → length (pick t (a ∷ of_keys mine x) (of_keys mine x)) ≤ suc (length (pick t (a ∷ of_keys mine l) (of_keys mine l)))
      go true = omega (arith, h)
      go false = omega (arith, h)

  store-own : (r : Rec) (l : List Rec) → count (store r l) ≤ suc (count l)
  unfolding store
  store-own r [] = one_more r []
  store-own r (a ∷ l) = go (same_bytes r.kv.key a.kv.key) (less_bytes r.kv.key a.kv.key) (store-own r l)
    where
      go : (s t : Bool) → count (store r l) ≤ suc (count l) → count (pick s (r ∷ l) (pick t (r ∷ a ∷ l) (a ∷ store r l))) ≤ suc (count (a ∷ l))
      go true t h = omega (arith, one_more r l, none-fewer a l)
      go false true h = one_more r (a ∷ l)
      go false false h = behind a (store r l) l h

  module _ (held gc clock : ℕ) where
    takes-own : (rs : List KeyValue) (l : List Rec) → count (take_all held gc clock rs l) ≤ count l + length rs
    unfolding take_all
    takes-own [] l = omega arith
    takes-own (r ∷ rs) l = go (takes held gc r) (takes-own rs (store (stamp clock r) l)) (takes-own rs l)
      where
        go : (t : Bool) → count (take_all held gc clock rs (store (stamp clock r) l)) ≤ count (store (stamp clock r) l) + length rs
            → count (take_all held gc clock rs l) ≤ count l + length rs
            → count (take_all held gc clock rs (pick t (store (stamp clock r) l) l)) ≤ count l + suc (length rs)
        go true p q = omega (arith, p, store-own (stamp clock r) l)
        go false p q = omega (arith, q)

-- ---- room for all that come

within : (x y n m : ℕ) → x ≤ n + y → leb (n + y) m ≡ true → leb x m ≡ true
within x y n m h e = le-leb x m (let k = leb-true (n + y) m e in omega (arith, h, k))

module _ (held gc clock : ℕ) (rs : List KeyValue) (l : List Rec) (n : ℕ) (h : length rs ≤ n) where
  after : List Rec
  after = take_all held gc clock rs l

  few : length after ≤ n + length l
  unfolding after
  few = omega (arith, takes-few held gc clock rs l, h)

  few-own : (mine : List ℕ → Bool) → length (of_keys mine after) ≤ n + length (of_keys mine l)
  unfolding after
  few-own mine = omega (arith, takes-own mine held gc clock rs l, h)

  fit : (p : Profile) → fit_for p n l ≡ true → recs_fit p after ≡ true
  fit Free e = refl
  fit Meter e = refl
  fit Shared e =
      and_intro (leb (length (of_keys (own Metering) after)) max_each) (leb (length (of_keys (own Building) after)) max_each)
      (within _ _ n max_each (few-own (own Metering)) (and_left (leb (n + length (of_keys (own Metering) l)) max_each) (leb (n + length (of_keys (own Building) l)) max_each) e))
      (within _ _ n max_each (few-own (own Building)) (and_right (leb (n + length (of_keys (own Metering) l)) max_each) (leb (n + length (of_keys (own Building) l)) max_each) e))

pub takes-roomy : (p : Profile) (held gc clock : ℕ) (rs : List KeyValue) (l : List Rec) (n : ℕ) → length rs ≤ n → roomy_for p n l ≡ true → roomy_in p (take_all held gc clock rs l) ≡ true
unfolding after
takes-roomy p held gc clock rs l n h e =
    and_intro (recs_fit p (take_all held gc clock rs l)) (leb (length (take_all held gc clock rs l)) max_records)
    (fit held gc clock rs l n h p (and_right (leb (n + length l) max_records) (fit_for p n l) e))
    (within _ _ n max_records (few held gc clock rs l n h) (and_left (leb (n + length l) max_records) (fit_for p n l) e))

-- an empty node has room for as many
pub none-roomy : (p : Profile) (n : ℕ) (l : List Rec) → roomy_for p n l ≡ true → roomy_for p n [] ≡ true
unfolding keep
none-roomy p n l e =
    and_intro (leb (n + 0) max_records) (fit_for p n []) (within (n + 0) (length l) n max_records (omega arith) (and_left (leb (n + length l) max_records) (fit_for p n l) e))
    (go p (and_right (leb (n + length l) max_records) (fit_for p n l) e))
  where
    go : (p : Profile) → fit_for p n l ≡ true → fit_for p n [] ≡ true
    go Free e = refl
    go Meter e = refl
    go Shared e =
        and_intro (leb (n + 0) max_each) (leb (n + 0) max_each)
        (within (n + 0) (length (of_keys (own Metering) l)) n max_each (omega arith) (and_left (leb (n + length (of_keys (own Metering) l)) max_each) (leb (n + length (of_keys (own Building) l)) max_each) e))
        (within (n + 0) (length (of_keys (own Building) l)) n max_each (omega arith) (and_right (leb (n + length (of_keys (own Metering) l)) max_each) (leb (n + length (of_keys (own Building) l)) max_each) e))

-- ---- what the code asks

-- one test, then another
pub both_hold : (a b r s : Bool) → r ≡ a → r ≡ true → s ≡ b → s ≡ (a && b)
both_hold a b r s e q f = f ∙ sym (and_yes a b (sym e ∙ q))

pub first-fails : (a b r : Bool) → r ≡ a → r ≡ false → false ≡ (a && b)
first-fails a b r e q = sym (and_no a b (sym e ∙ q))

module _ (k n m : ℕ) (e : k ≡ n) where
  pub left_over : (count : ℕ) → k ≤ m → leb count (m - k) ≡ leb (count + n) m
  left_over count h =
      same_test (leb count (m - k)) (leb (count + n) m) (λ q. le-leb (count + n) m (let g = leb-true count (m - k) q in omega (arith, g)))
      (λ q. le-leb count (m - k) (let g = leb-true (count + n) m q in omega (arith, g)))

  pub none_left : (count : ℕ) → m < k → false ≡ leb (count + n) m
  none_left count h = sym (lt-leb (count + n) m (omega arith))

module _ (b : List ℕ) (o : LaidNode b) (k : ℕ) (e : k ≡ count_of b) (p : Profile) (count : ℕ) where
  pub sure : count ≤ max_records - k → (r : Bool) → r ≡ fit_for p count (recs_in b) → r ≡ roomy_for p count (recs_in b)
  sure h r q =
      q ∙ sym (and_yes (leb (count + length (recs_in b)) max_records) (fit_for p count (recs_in b)) (le-leb (count + length (recs_in b)) max_records (omega (arith, length-recs b, o.few))))

  pub not-sure : max_records - k < count → false ≡ roomy_for p count (recs_in b)
  not-sure h =
      sym (and_no (leb (count + length (recs_in b)) max_records) (fit_for p count (recs_in b)) (lt-leb (count + length (recs_in b)) max_records (omega (arith, length-recs b))))
