-- Rows of a grid when a place comes or goes, or a row is replaced: what stands in them, and the zeros behind the columns. Assumes nothing.
use Prim.Native.Nat.{ℕ, zero, suc, ◌+◌, ◌-◌, ◌≤◌, ◌<◌}
use mathlib.Core.Bool.{Bool, true, false}
use mathlib.Core.List.{List, [], ◌∷◌, ◌++◌, map, append_assoc}
use mathlib.Core.Logic.{◌⊎◌, inl, inr}
use mathlib.Core.Path.{◌≡◌, ◌∙◌, ap, ap₂, refl, subst, sym}
use native.Mathlib.Omega.{arith}
use lib.Dec.{eqb}
use lib.ListN.{length, take, drop, set, take-append-drop}
use lib.Seq.{drop-append-le, drop_at, length-take-le, take-append-add, take-append-le, take_at}
use borrow.Author.Tests.{eq-eqb, eqb-true}
use Rattle.fields.specs.Choice.{◌∈◌, here, later, pick}
use Rattle.fields.specs.Blocks.{all_zero, insert_at, remove_at, zeros}
use Rattle.fields.proofs.Blocks.{all-zero, length-insert, length-remove}
use Rattle.fields.proofs.Choice.{and_intro, and_left, and_right, in-append, in-cons, in-drop, in-none, in_take}
use Rattle.rules.specs.Sizes.{max_nodes}
use Rattle.grid.specs.Grid.{place_in, place_out, rows_obey}

-- ---- zeros

pub zero_in : (l : List ℕ) → all_zero l ≡ true → (x : ℕ) → x ∈ l → x ≡ 0
unfolding all_zero
zero_in [] e x m = absurd (in-none m)
zero_in (a ∷ l) e x m = go (in-cons m) (zero_in l (and_right (eqb a 0) (all_zero l) e) x)
  where
    go : (x ≡ a) ⊎ (x ∈ l) → (x ∈ l → x ≡ 0) → x ≡ 0
    go (inl q) ih = q ∙ eqb-true a 0 (and_left (eqb a 0) (all_zero l) e)
    go (inr n) ih = ih n

pub in-zero : (l : List ℕ) → ((x : ℕ) → x ∈ l → x ≡ 0) → all_zero l ≡ true
unfolding all_zero
in-zero [] f = refl
in-zero (a ∷ l) f = and_intro (eqb a 0) (all_zero l) (eq-eqb a 0 (f a (here refl))) (in-zero l (λ x m. f x (later m)))

pub zeros-in : (n x : ℕ) → x ∈ zeros n → x ≡ 0
zeros-in n x m = zero_in (zeros n) (all-zero n) x m

-- ---- what stands in a list

pub in_map : {A B : Type 0} (P : B → Type 0) (f : A → B) (l : List A) → ((a : A) → a ∈ l → P (f a)) → (b : B) → b ∈ map f l → P b
in_map P f [] h b m = absurd (in-none m)
in_map P f (a ∷ l) h b m = go (in-cons m) (in_map P f l (λ x n. h x (later n)) b)
  where
    go : (b ≡ f a) ⊎ (b ∈ map f l) → (b ∈ map f l → P b) → P b
    go (inl e) ih = subst P (sym e) (h a (here refl))
    go (inr n) ih = ih n

pub in-set : {A : Type 0} (P : A → Type 0) (l : List A) (i : ℕ) (a : A) → P a → ((x : A) → x ∈ l → P x) → (x : A) → x ∈ set l i a → P x
in-set P [] i a p f x m = absurd (in-none m)
in-set P (y ∷ l) zero a p f x m = go (in-cons m)
  where
    go : (x ≡ a) ⊎ (x ∈ l) → P x
    go (inl e) = subst P (sym e) p
    go (inr n) = f x (later n)
in-set P (y ∷ l) (suc i) a p f x m = go (in-cons m) (in-set P l i a p (λ z n. f z (later n)) x)
  where
    go : (x ≡ y) ⊎ (x ∈ set l i a) → (x ∈ set l i a → P x) → P x
    go (inl e) ih = f x (here e)
    go (inr n) ih = ih n

-- ---- a place that comes

pub in-place-in : (j v : ℕ) (r : List ℕ) (x : ℕ) → x ∈ place_in j v r → (x ≡ v) ⊎ (x ∈ r)
unfolding place_in insert_at
in-place-in j v r x m = go (in-append (take j r) (v ∷ drop j r) (in_take max_nodes (take j r ++ (v ∷ drop j r)) m))
  where
    behind : (x ≡ v) ⊎ (x ∈ drop j r) → (x ≡ v) ⊎ (x ∈ r)
    behind (inl e) = inl e
    behind (inr n) = inr (in-drop j r n)

    go : (x ∈ take j r) ⊎ (x ∈ v ∷ drop j r) → (x ≡ v) ⊎ (x ∈ r)
    go (inl n) = inr (in_take j r n)
    go (inr n) = behind (in-cons n)

insert-append : {A : Type 0} (j : ℕ) (a : A) (xs ys : List A) → j ≤ length xs → insert_at j a (xs ++ ys) ≡ insert_at j a xs ++ ys
unfolding insert_at
insert-append {A} j a xs ys h =
    ap₂ (λ (p q : List A). p ++ (a ∷ q)) (take-append-le j xs ys h) (drop-append-le j xs ys h) ∙ sym (append_assoc (take j xs) (a ∷ drop j xs) ys)

module _ (n j v : ℕ) (r : List ℕ) (long : length r ≡ max_nodes) (h : j ≤ n) (g : n < max_nodes) where
  abbrev first : List ℕ
  first = insert_at j v (take n r)

  many : length (take n r) ≡ n
  many = length-take-le n r (omega arith)

  first-long : length first ≡ n + 1
  first-long = length-insert j v (take n r) (omega (arith, many)) ∙ omega (arith, many)

  come : place_in j v r ≡ first ++ take (max_nodes - (n + 1)) (drop n r)
  unfolding place_in
  come =
      ap (λ (l : List ℕ). take max_nodes (insert_at j v l)) (sym (take-append-drop n r))
      ∙ ap (take max_nodes) (insert-append j v (take n r) (drop n r) (omega (arith, many)))
      ∙ ap (λ (k : ℕ). take k (first ++ drop n r)) (let e : max_nodes ≡ length first + (max_nodes - (n + 1)) = omega (arith, first-long) in e)
      ∙ take-append-add first (drop n r) (max_nodes - (n + 1))

  -- the columns, and what stands behind them
  pub come-first : take (n + 1) (place_in j v r) ≡ insert_at j v (take n r)
  come-first = ap (take (n + 1)) come ∙ take_at first (take (max_nodes - (n + 1)) (drop n r)) (n + 1) first-long

  pub come-behind : all_zero (drop n r) ≡ true → all_zero (drop (n + 1) (place_in j v r)) ≡ true
  come-behind z =
      in-zero (drop (n + 1) (place_in j v r))
      (λ x m. zero_in (drop n r) z x
      (in_take (max_nodes - (n + 1)) (drop n r) (subst (λ (l : List ℕ). x ∈ l) (ap (drop (n + 1)) come ∙ drop_at first (take (max_nodes - (n + 1)) (drop n r)) (n + 1) first-long) m)))

pub come-zero : (j : ℕ) (r : List ℕ) → all_zero r ≡ true → all_zero (place_in j 0 r) ≡ true
come-zero j r z = in-zero (place_in j 0 r) (λ x m. go x (in-place-in j 0 r x m))
  where
    go : (x : ℕ) → (x ≡ 0) ⊎ (x ∈ r) → x ≡ 0
    go x (inl e) = e
    go x (inr n) = zero_in r z x n

-- ---- a place that goes

pub in-place-out : (j : ℕ) (r : List ℕ) (x : ℕ) → x ∈ place_out j r → (x ≡ 0) ⊎ (x ∈ r)
unfolding place_out remove_at
in-place-out j r x m = go (in-append (take j r ++ drop (suc j) r) (0 ∷ []) m)
  where
    last : (x ≡ 0) ⊎ (x ∈ []) → (x ≡ 0) ⊎ (x ∈ r)
    last (inl e) = inl e
    last (inr n) = absurd (in-none n)

    kept : (x ∈ take j r) ⊎ (x ∈ drop (suc j) r) → (x ≡ 0) ⊎ (x ∈ r)
    kept (inl n) = inr (in_take j r n)
    kept (inr n) = inr (in-drop (suc j) r n)

    go : (x ∈ take j r ++ drop (suc j) r) ⊎ (x ∈ 0 ∷ []) → (x ≡ 0) ⊎ (x ∈ r)
    go (inl n) = kept (in-append (take j r) (drop (suc j) r) n)
    go (inr n) = last (in-cons n)

remove-append : {A : Type 0} (j : ℕ) (xs ys : List A) → j < length xs → remove_at j (xs ++ ys) ≡ remove_at j xs ++ ys
unfolding remove_at
remove-append {A} j xs ys h =
    ap₂ (λ (p q : List A). p ++ q) (take-append-le j xs ys (omega arith)) (drop-append-le (suc j) xs ys (omega arith)) ∙ sym (append_assoc (take j xs) (drop (suc j) xs) ys)

module _ (n j : ℕ) (r : List ℕ) (long : length r ≡ max_nodes) (h : j < n) (g : n ≤ max_nodes) where
  abbrev left : List ℕ
  left = remove_at j (take n r)

  all_of : length (take n r) ≡ n
  all_of = length-take-le n r (omega arith)

  left-long : length left ≡ n - 1
  left-long = omega (arith, length-remove j (take n r) (omega (arith, all_of)), all_of)

  gone : place_out j r ≡ left ++ (drop n r ++ (0 ∷ []))
  unfolding place_out
  gone =
      ap (λ (l : List ℕ). remove_at j l ++ (0 ∷ [])) (sym (take-append-drop n r))
      ∙ ap (λ (l : List ℕ). l ++ (0 ∷ [])) (remove-append j (take n r) (drop n r) (omega (arith, all_of)))
      ∙ append_assoc left (drop n r) (0 ∷ [])

  pub gone-first : take (n - 1) (place_out j r) ≡ remove_at j (take n r)
  gone-first = ap (take (n - 1)) gone ∙ take_at left (drop n r ++ (0 ∷ [])) (n - 1) left-long

  pub gone-behind : all_zero (drop n r) ≡ true → all_zero (drop (n - 1) (place_out j r)) ≡ true
  gone-behind z =
      in-zero (drop (n - 1) (place_out j r))
      (λ x m. go x (in-append (drop n r) (0 ∷ []) (subst (λ (l : List ℕ). x ∈ l) (ap (drop (n - 1)) gone ∙ drop_at left (drop n r ++ (0 ∷ [])) (n - 1) left-long) m)))
    where
      last : (x : ℕ) → (x ≡ 0) ⊎ (x ∈ []) → x ≡ 0
      last x (inl e) = e
      last x (inr n) = absurd (in-none n)

      go : (x : ℕ) → (x ∈ drop n r) ⊎ (x ∈ 0 ∷ []) → x ≡ 0
      go x (inl m) = zero_in (drop n r) z x m
      go x (inr m) = last x (in-cons m)

pub gone-zero : (j : ℕ) (r : List ℕ) → all_zero r ≡ true → all_zero (place_out j r) ≡ true
gone-zero j r z = in-zero (place_out j r) (λ x m. go x (in-place-out j r x m))
  where
    go : (x : ℕ) → (x ≡ 0) ⊎ (x ∈ r) → x ≡ 0
    go x (inl e) = e
    go x (inr n) = zero_in r z x n

-- ---- the rows of all peers

pub rows-map : (m n : ℕ) (f : List ℕ → List ℕ) (fs : List ℕ) (rs : List (List ℕ)) → ((r : List ℕ) → r ∈ rs → all_zero (drop n r) ≡ true → all_zero (drop m (f r)) ≡ true)
    → ((r : List ℕ) → all_zero r ≡ true → all_zero (f r) ≡ true)
    → rows_obey n fs rs ≡ true → rows_obey m fs (map f rs) ≡ true
unfolding rows_obey
rows-map m n f [] rs p q e = refl
rows-map m n f (a ∷ fs) [] p q e = refl
rows-map m n f (a ∷ fs) (r ∷ rs) p q e =
    and_intro (all_zero (drop (pick (eqb a 1) m 0) (f r))) (rows_obey m fs (map f rs)) (go (eqb a 1) (and_left (all_zero (drop (pick (eqb a 1) n 0) r)) (rows_obey n fs rs) e))
    (rows-map m n f fs rs (λ s t. p s (later t)) q (and_right (all_zero (drop (pick (eqb a 1) n 0) r)) (rows_obey n fs rs) e))
  where
    go : (b : Bool) → all_zero (drop (pick b n 0) r) ≡ true → all_zero (drop (pick b m 0) (f r)) ≡ true
    go true z = p r (here refl) z
    go false z = q r z

pub rows-set : (n p f : ℕ) (r : List ℕ) (fs : List ℕ) (rs : List (List ℕ)) → all_zero (drop (pick (eqb f 1) n 0) r) ≡ true → rows_obey n fs rs ≡ true
    → rows_obey n (set fs p f) (set rs p r) ≡ true
unfolding rows_obey
rows-set n p f r [] rs z e = refl
rows-set n zero f r (a ∷ fs) [] z e = refl
rows-set n (suc p) f r (a ∷ fs) [] z e = refl
rows-set n zero f r (a ∷ fs) (b ∷ rs) z e =
    and_intro (all_zero (drop (pick (eqb f 1) n 0) r)) (rows_obey n fs rs) z (and_right (all_zero (drop (pick (eqb a 1) n 0) b)) (rows_obey n fs rs) e)
rows-set n (suc p) f r (a ∷ fs) (b ∷ rs) z e =
    and_intro (all_zero (drop (pick (eqb a 1) n 0) b)) (rows_obey n (set fs p f) (set rs p r)) (and_left (all_zero (drop (pick (eqb a 1) n 0) b)) (rows_obey n fs rs) e)
    (rows-set n p f r fs rs z (and_right (all_zero (drop (pick (eqb a 1) n 0) b)) (rows_obey n fs rs) e))
