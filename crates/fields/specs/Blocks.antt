-- Blocks of one width, one behind the other, and zeros behind them.
use Rattle.std.specs.Prelude.{ℕ, zero, suc, ◌*◌, Bool, true, ◌&&◌, List, [], ◌∷◌, ◌++◌, take, drop, replicate, eqb}
use Rattle.fields.specs.Numbers.{Bytes}

unfoldable pub zeros : (n : ℕ) → Bytes
zeros n = replicate n 0

unfoldable pub all_zero : List ℕ → Bool
all_zero [] = true
all_zero (x ∷ xs) = eqb x 0 && all_zero xs

-- xs in n places, the others zero
unfoldable pub fit : (n : ℕ) (xs : List ℕ) → Bytes
fit n xs = take n (xs ++ zeros n)

-- the encodings of the elements, one behind the other
unfoldable pub flat : {A : Type 0} (enc : A → List ℕ) (list : List A) → Bytes
flat enc [] = []
flat enc (a ∷ es) = enc a ++ flat enc es

-- n blocks of w bytes for the elements, the free ones zero
unfoldable pub blocks : {A : Type 0} (n w : ℕ) (enc : A → List ℕ) (es : List A) → Bytes
blocks n w enc es = fit (n * w) (flat enc es)

-- n elements out of blocks of w bytes
unfoldable pub unblock : {A : Type 0} (w : ℕ) (dec : List ℕ → A) (count : ℕ) (l : Bytes) → List A
unblock w dec zero l = []
unblock w dec (suc n) l = dec (take w l) ∷ unblock w dec n (drop w l)

-- each of n blocks of w bytes passes the test
unfoldable pub all_blocks : (f : List ℕ → Bool) (w count : ℕ) (l : Bytes) → Bool
all_blocks f w zero l = true
all_blocks f w (suc n) l = f (take w l) && all_blocks f w n (drop w l)

-- a new element at place i, and one less
unfoldable pub insert_at : {A : Type 0} (i : ℕ) (a : A) (es : List A) → List A
insert_at i a es = take i es ++ (a ∷ drop i es)

unfoldable pub remove_at : {A : Type 0} (i : ℕ) (es : List A) → List A
remove_at i es = take i es ++ drop (suc i) es
