-- How many records of a party there are after one is stored: at most one more; as many as before, where the key is another's; and as many, where the key is there.
-- Assumes nothing.
use Prim.Native.Nat.{ℕ, suc, ◌≤◌}
use mathlib.Core.Bool.{Bool, true, false}
use mathlib.Core.List.{List, [], ◌∷◌}
use mathlib.Core.Option.{some}
use mathlib.Core.Path.{◌≡◌, refl, ap, sym, ◌∙◌, subst}
use native.Mathlib.Omega.{arith}
use lib.ListN.{length}
use Rattle.fields.specs.Choice.{pick, keep}
use Rattle.fields.specs.Order.{same_bytes, less_bytes}
use Rattle.fields.proofs.Ordered.{less_other, less-trans, same_true}
use Rattle.rules.specs.Node.{Rec, find, store}
use Rattle.rules.specs.Party.{of_keys}
use Rattle.rules.proofs.Keeps.{find-in}
use Rattle.rules.proofs.Records.{Above, Sorted, key_of}

module _ (mine : List ℕ → Bool) where
  -- how many more a record is
  abbrev more : (b : Bool) (n : ℕ) → ℕ
  more b n = pick b (suc n) n

  count-cons : (r : Rec) (l : List Rec) → length (of_keys mine (r ∷ l)) ≡ more (mine (key_of r)) (length (of_keys mine l))
  unfolding keep
  count-cons r l = go (mine (key_of r))
    where
      go : (b : Bool) → length (pick b (r ∷ of_keys mine l) (of_keys mine l)) ≡ more b (length (of_keys mine l))
      go true = refl
      go false = refl

  same_more : (r a : Rec) (n : ℕ) → same_bytes (key_of r) (key_of a) ≡ true → more (mine (key_of r)) n ≡ more (mine (key_of a)) n
  same_more r a n q = ap (λ (k : List ℕ). more (mine k) n) (same_true (key_of r) (key_of a) q)

  grows : (b : Bool) (n m : ℕ) → n ≤ suc m → more b n ≤ suc (more b m)
  grows true n m h = omega (arith, h)
  grows false n m h = omega (arith, h)

  one : (b : Bool) (n : ℕ) → more b n ≤ suc n
  one true n = omega arith
  one false n = omega arith

  pub count-stored : (r : Rec) (l : List Rec) → length (of_keys mine (store r l)) ≤ suc (length (of_keys mine l))
  unfolding store
  count-stored r [] = subst (λ (x : ℕ). x ≤ suc (length (of_keys mine []))) (sym (count-cons r [])) (one (mine (key_of r)) (length (of_keys mine [])))
  count-stored r (a ∷ l) = go (same_bytes (key_of r) (key_of a)) refl (less_bytes (key_of r) (key_of a)) (count-stored r l)
    where
      go : (b : Bool) → same_bytes (key_of r) (key_of a) ≡ b → (c : Bool) → length (of_keys mine (store r l)) ≤ suc (length (of_keys mine l))
          → length (of_keys mine (pick b (r ∷ l) (pick c (r ∷ a ∷ l) (a ∷ store r l)))) ≤ suc (length (of_keys mine (a ∷ l)))
      go true q c ih =
          let e : length (of_keys mine (r ∷ l)) ≡ length (of_keys mine (a ∷ l)) = count-cons r l ∙ same_more r a (length (of_keys mine l)) q ∙ sym (count-cons a l) in
          omega (arith, e)
      go false q true ih = let e = count-cons r (a ∷ l) in let h = one (mine (key_of r)) (length (of_keys mine (a ∷ l))) in omega (arith, e, h)
      go false q false ih =
          let e = count-cons a (store r l) in
          let f = count-cons a l in
          let h = grows (mine (key_of a)) (length (of_keys mine (store r l))) (length (of_keys mine l)) ih in
          omega (arith, e, f, h)

  -- another's key
  pub count-other : (r : Rec) (l : List Rec) → mine (key_of r) ≡ false → length (of_keys mine (store r l)) ≡ length (of_keys mine l)
  unfolding store
  count-other r [] m = count-cons r [] ∙ ap (λ (b : Bool). more b (length (of_keys mine []))) m
  count-other r (a ∷ l) m = go (same_bytes (key_of r) (key_of a)) refl (less_bytes (key_of r) (key_of a)) (count-other r l m)
    where
      go : (b : Bool) → same_bytes (key_of r) (key_of a) ≡ b → (c : Bool) → length (of_keys mine (store r l)) ≡ length (of_keys mine l)
          → length (of_keys mine (pick b (r ∷ l) (pick c (r ∷ a ∷ l) (a ∷ store r l)))) ≡ length (of_keys mine (a ∷ l))
      go true q c ih = count-cons r l ∙ same_more r a (length (of_keys mine l)) q ∙ sym (count-cons a l)
      go false q true ih = count-cons r (a ∷ l) ∙ ap (λ (b : Bool). more b (length (of_keys mine (a ∷ l)))) m
      go false q false ih = count-cons a (store r l) ∙ ap (more (mine (key_of a))) ih ∙ sym (count-cons a l)

  -- a key that is there
  pub count_held : (r : Rec) (l : List Rec) {x : Rec} → Sorted l → find (key_of r) l ≡ some x → length (of_keys mine (store r l)) ≡ length (of_keys mine l)
  unfolding store find Sorted Above
  count_held r [] s e = let z : ◌≡◌ {A = ℕ} 0 1 = cc in absurd (omega arith)
  count_held r (a ∷ l) {x} s e = go (same_bytes (key_of r) (key_of a)) refl (less_bytes (key_of r) (key_of a)) refl e (count_held r l {x = x} s.1)
    where
      go : (b : Bool)
          → same_bytes (key_of r) (key_of a) ≡ b
          → (c : Bool)
          → less_bytes (key_of r) (key_of a) ≡ c
          → pick b (some a) (find (key_of r) l) ≡ some x
          → (find (key_of r) l ≡ some x → length (of_keys mine (store r l)) ≡ length (of_keys mine l))
          → length (of_keys mine (pick b (r ∷ l) (pick c (r ∷ a ∷ l) (a ∷ store r l)))) ≡ length (of_keys mine (a ∷ l))
      go true q c p e ih = count-cons r l ∙ same_more r a (length (of_keys mine l)) q ∙ sym (count-cons a l)
      go false q true p e ih =
          let f = find-in (key_of r) l e in
          absurd (less_other _ _ (less-trans _ _ _ p (s.0 x f.0)) f.1)
      go false q false p e ih = count-cons a (store r l) ∙ ap (more (mine (key_of a))) (ih e) ∙ sym (count-cons a l)
