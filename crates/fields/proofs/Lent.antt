-- A part that is lent to a callee: what the callee sees of it, and, of one lent as `&mut`, what the whole is once the part has come back. The
-- part is written as the code's `s[a..e]` leaves it: the e - a elements from a on. ys is what the callee left, and f what its contract says it
-- makes of what it sees. Assumes nothing.
use Prim.Native.Nat.{ℕ, ◌+◌, ◌-◌, ◌≤◌}
use mathlib.Core.Path.{◌≡◌, refl, ap, sym, ◌∙◌}
use mathlib.Core.List.{List, ◌++◌, append-nil}
use native.Mathlib.Nat.{add-sub_cancel_left, le_of_eq}
use lib.ListN.{length, take, drop, length-drop, drop_of_length-le}
use lib.Seq.{drop-drop, take_all}
use borrow.Rule.Slice.PartMut.{put_mid}
use Rattle.fields.specs.Parts.{part, put}
use Rattle.fields.proofs.Parts.{length_part, put-part, put_rest}

-- ---- `s[a..e]`, where e is a + n

pub seen : (a n : ℕ) (xs : List ℕ) → take (a + n - a) (drop a xs) ≡ part a n xs
unfolding part
seen a n xs = ap (λ (k : ℕ). take k (drop a xs)) (add-sub_cancel_left a n)

-- k elements come back
pub lent_back : (a k : ℕ) (xs ys : List ℕ) → length ys ≡ k → put_mid a k xs ys ≡ put a ys xs
unfolding put
lent_back a k xs ys e = ap (λ (r : List ℕ). take a xs ++ (ys ++ r)) (drop-drop k a xs ∙ ap (λ (j : ℕ). drop (a + j) xs) (sym e))

pub lent : (a n : ℕ) (xs ys zs : List ℕ) → ys ≡ zs → length ys ≡ n → put_mid a (a + n - a) xs ys ≡ put a zs xs
lent a n xs ys zs q e = lent_back a (a + n - a) xs ys (e ∙ sym (add-sub_cancel_left a n)) ∙ ap (λ (r : List ℕ). put a r xs) q

-- the two hypotheses on ys are a call's `ensures` and `kept`, as they stand
pub lent_by : (f : List ℕ → List ℕ) (a n : ℕ) (xs ys : List ℕ) → a + n ≤ length xs → ys ≡ f (take (a + n - a) (drop a xs))
    → length ys ≡ length (take (a + n - a) (drop a xs)) → put_mid a (a + n - a) xs ys ≡ put a (f (part a n xs)) xs
lent_by f a n xs ys h q e = lent a n xs ys (f (part a n xs)) (q ∙ ap f (seen a n xs)) (e ∙ ap length (seen a n xs) ∙ length_part a n xs h)

-- the callee put vs at b of its part
pub lent-put : (a n b : ℕ) (vs xs ys : List ℕ) → a + n ≤ length xs → b + length vs ≤ n → ys ≡ put b vs (take (a + n - a) (drop a xs))
    → length ys ≡ length (take (a + n - a) (drop a xs)) → put_mid a (a + n - a) xs ys ≡ put (a + b) vs xs
lent-put a n b vs xs ys h g q e = lent_by (put b vs) a n xs ys h q e ∙ put-part a n b vs xs h g

-- ---- `s[..n]`

pub seen_first : (n : ℕ) (xs : List ℕ) → take n xs ≡ part 0 n xs
unfolding part
seen_first n xs = refl

-- ---- `s[a..]`

pub seen-rest : (a : ℕ) (xs : List ℕ) → take (length xs - a) (drop a xs) ≡ drop a xs
seen-rest a xs = take_all (length xs - a) (drop a xs) (le_of_eq (length-drop a xs))

pub lent-rest : (a : ℕ) (xs ys : List ℕ) → put_mid a (length xs - a) xs ys ≡ take a xs ++ ys
lent-rest a xs ys =
    ap (λ (r : List ℕ). take a xs ++ (ys ++ r)) (drop_of_length-le (drop a xs) {i = length xs - a} (le_of_eq (length-drop a xs)))
    ∙ ap (λ (r : List ℕ). take a xs ++ r) (append-nil ys)

pub lent-rest-by : (f : List ℕ → List ℕ) (a : ℕ) (xs ys : List ℕ) → ys ≡ f (take (length xs - a) (drop a xs))
    → put_mid a (length xs - a) xs ys ≡ take a xs ++ f (drop a xs)
lent-rest-by f a xs ys q = lent-rest a xs ys ∙ ap (λ (r : List ℕ). take a xs ++ r) (q ∙ ap f (seen-rest a xs))

pub lent-rest-put : (a b : ℕ) (vs xs ys : List ℕ) → a ≤ length xs → ys ≡ put b vs (take (length xs - a) (drop a xs))
    → put_mid a (length xs - a) xs ys ≡ put (a + b) vs xs
lent-rest-put a b vs xs ys h q = lent-rest-by (put b vs) a xs ys q ∙ put_rest a b vs xs h
