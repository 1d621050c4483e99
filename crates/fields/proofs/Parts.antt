-- Laws of `part` and `put`: how long they are, what is read of what was put, one behind another, and a part or a put in a list that stands in
-- two or three pieces. Assumes nothing.
use Prim.Native.Nat.{ℕ, suc, ◌+◌, ◌-◌, ◌≤◌, ◌<◌}
use mathlib.Core.Path.{◌≡◌, refl, ap, ap₂, sym, ◌∙◌}
use mathlib.Core.List.{List, [], ◌∷◌, ◌++◌, append_assoc}
use native.Mathlib.Omega.{arith}
use native.Mathlib.Nat.{add-zero}
use lib.ListN.{length, take, drop, get_or, set, length-append, length-take, length-drop, length-set, take-append-drop}
use lib.Seq.{drop-cons, take_at, drop_at, length-take-le, take-append-le, drop-append-le, drop-drop, take-take, take-add, take_all, take-append-add, take-suc-set, drop-set-lt, take-set-le, get_or-set_same, drop-append-add, take-suc, get_or-drop, drop-set-add}
use Rattle.fields.specs.Parts.{part, put}

-- ---- how long they are

pub length-put : (at : ℕ) (vs l : List ℕ) → at + length vs ≤ length l → length (put at vs l) ≡ length l
unfolding put
length-put at vs l h = simp (length-append, length-drop, length-take) (omega arith)

pub length_part : (at n : ℕ) (l : List ℕ) → at + n ≤ length l → length (part at n l) ≡ n
unfolding part
length_part at n l h = simp (length-drop, length-take) (omega arith)

-- ---- a part: by its elements, of a part, of two or three lists joined, and where one element is set

pub part-cons : (s : List ℕ) (j k : ℕ) → j < length s → part j (suc k) s ≡ get_or s j 0 ∷ part (suc j) k s
unfolding part
part-cons s j k h = rw (drop-cons s j 0)

pub part-snoc : (a n : ℕ) (l : List ℕ) → a + n < length l → part a (suc n) l ≡ part a n l ++ (get_or l (a + n) 0 ∷ [])
unfolding part
part-snoc a n l h =
    rw (part, take-suc (drop a l) n 0 (simp length-drop (omega arith)), get_or-drop a l n 0)

pub part-add : (at k m : ℕ) (l : List ℕ) → part at (k + m) l ≡ part at k l ++ part (at + k) m l
unfolding part
part-add at k m l = rw (part, take-add k m (drop at l), drop-drop k at l)

pub part-whole : (n : ℕ) (l : List ℕ) → length l ≡ n → part 0 n l ≡ l
unfolding part
part-whole n l e = take_all n l (omega arith)

pub part-drop : (a n b : ℕ) (l : List ℕ) → part a n (drop b l) ≡ part (b + a) n l
unfolding part
part-drop a n b l = rw (part, drop-drop a b l)

pub part_left : (a n : ℕ) (xs ys : List ℕ) → a + n ≤ length xs → part a n (xs ++ ys) ≡ part a n xs
unfolding part
part_left a n xs ys h =
    rw (part, drop-append-le a xs ys (omega arith), take-append-le n (drop a xs) ys (simp length-drop (omega arith)))

pub part-part : (a n b m : ℕ) (l : List ℕ) → a + n ≤ m → b + m ≤ length l → part a n (part b m l) ≡ part (b + a) n l
unfolding part
part-part a n b m l h g =
    let ys : List ℕ = drop b l in
    sym (part_left a n (take m ys) (drop m ys) (simp (length-take, length-drop) (omega arith)))
    ∙ ap (part a n) (take-append-drop m ys)
    ∙ ap (take n) (drop-drop a b l)

-- m is how long xs is
pub part_right : (m a n : ℕ) (xs ys : List ℕ) → length xs ≡ m → part (m + a) n (xs ++ ys) ≡ part a n ys
unfolding part
part_right m a n xs ys e = rw (← e, part, drop-append-add xs ys a)

pub part_at : (m n : ℕ) (pre mid post : List ℕ) → length pre ≡ m → length mid ≡ n → part m n (pre ++ (mid ++ post)) ≡ mid
unfolding part
part_at m n pre mid post e f = rw (part, drop_at pre (mid ++ post) m e, take_at mid post n f)

pub part-set-after : (a n i b : ℕ) (l : List ℕ) → i < a → part a n (set l i b) ≡ part a n l
unfolding part
part-set-after a n i b l h = rw (part, drop-set-lt a l i b h)

pub part-set-before : (a n i b : ℕ) (l : List ℕ) → a + n ≤ i → part a n (set l i b) ≡ part a n l
unfolding part
part-set-before a n i b l h =
    let k : ℕ = i - a in
    let e : i ≡ a + k = omega arith in
    rw (e, part, drop-set-add a l k b, take-set-le n (drop a l) k b (omega arith))

-- ---- a put: by its elements, and in two or three lists joined

pub put-nil : (at : ℕ) (l : List ℕ) → put at [] l ≡ l
unfolding put
put-nil at l = rw (put, add-zero) (take-append-drop at l)

-- the first of what is put, and then the rest
pub put-cons : (at b : ℕ) (vs l : List ℕ) → at < length l → put (suc at) vs (set l at b) ≡ put at (b ∷ vs) l
unfolding put
put-cons at b vs l h =
    let p : suc at + length vs ≡ at + suc (length vs) = omega arith in
    rw (put, take-suc-set l at b h, drop-set-lt (suc at + length vs) l at b (omega arith), p, append_assoc)

-- one more at the end of what is put
pub put-snoc : (at b : ℕ) (vs l : List ℕ) → at + length vs < length l → put at vs (set l (at + length vs) b) ≡ put at (vs ++ (b ∷ [])) l
unfolding put
put-snoc at b vs l h =
    let j : ℕ = at + length vs in
    let g : j < length (set l j b) = simp length-set h in
    let p : at + (length vs + 1) ≡ suc (at + length vs) = omega arith in
    rw (put, take-set-le at l j b (omega arith), drop-cons (set l j b) j 0 g, get_or-set_same l j b 0 h, drop-set-lt (suc j) l j b (omega arith), append_assoc, length-append, p)

-- one byte put is one element set
pub put_one : (at b : ℕ) (l : List ℕ) → at < length l → put at (b ∷ []) l ≡ set l at b
put_one at b l h = sym (put-cons at b [] l h) ∙ put-nil (suc at) (set l at b)

pub put_right : (m a : ℕ) (vs xs ys : List ℕ) → length xs ≡ m → put (m + a) vs (xs ++ ys) ≡ xs ++ put a vs ys
unfolding put
put_right m a vs xs ys e =
    let f : length xs + a + length vs ≡ length xs + (a + length vs) = omega arith in
    rw (← e, put, take-append-add xs ys a, f, drop-append-add xs ys (a + length vs), append_assoc)

pub put-mid : (m a : ℕ) (vs pre mid post : List ℕ) → length pre ≡ m → a + length vs ≤ length mid
    → put (m + a) vs (pre ++ (mid ++ post)) ≡ pre ++ (put a vs mid ++ post)
unfolding put
put-mid m a vs pre mid post e h =
    let f : length pre + a + length vs ≡ length pre + (a + length vs) = omega arith in
    rw (← e, put, take-append-add pre (mid ++ post) a, take-append-le a mid post (omega arith), f, drop-append-add pre (mid ++ post) (a + length vs), drop-append-le (a + length vs) mid post h)
    (simp append_assoc)

-- a whole middle replaced
pub put-at : (m : ℕ) (vs pre mid post : List ℕ) → length pre ≡ m → length vs ≡ length mid → put m vs (pre ++ (mid ++ post)) ≡ pre ++ (vs ++ post)
unfolding put
put-at m vs pre mid post e h =
    rw (put, take_at pre (mid ++ post) m e, ← e, drop-append-add pre (mid ++ post) (length vs), drop_at mid post (length vs) (sym h))

-- ---- what is read of what was put

-- what was put is there
pub part-put : (at : ℕ) (vs l : List ℕ) → at + length vs ≤ length l → part at (length vs) (put at vs l) ≡ vs
unfolding part put
part-put at vs l h =
    let e : length (take at l) ≡ at = length-take-le at l (omega arith) in
    rw (part, put, drop_at (take at l) _ at e, take_at vs _ (length vs) refl)

-- a put within the rest
pub put_rest : (a b : ℕ) (vs l : List ℕ) → a ≤ length l → take a l ++ put b vs (drop a l) ≡ put (a + b) vs l
put_rest a b vs l h = sym (put_right a b vs (take a l) (drop a l) (length-take-le a l h)) ∙ ap (put (a + b) vs) (take-append-drop a l)

-- what stands before n, and from n on, of a put that begins no earlier
pub take_put : (n k : ℕ) (vs l : List ℕ) → n ≤ length l → take n (put (n + k) vs l) ≡ take n l
take_put n k vs l h = ap (take n) (sym (put_rest n k vs l h)) ∙ take_at (take n l) (put k vs (drop n l)) n (length-take-le n l h)

pub drop-put : (n d : ℕ) (vs l : List ℕ) → n ≤ length l → drop n (put (n + d) vs l) ≡ put d vs (drop n l)
drop-put n d vs l h =
    ap (drop n) (sym (put_rest n d vs l h)) ∙ drop_at (take n l) (put d vs (drop n l)) n (length-take-le n l h)

-- a part that ends before the put, and one that begins behind it
pub part-before : (a n at : ℕ) (vs l : List ℕ) → a + n ≤ at → at ≤ length l → part a n (put at vs l) ≡ part a n l
unfolding put
part-before a n at vs l h g =
    let f : a + n ≤ length (take at l) = rw (length-take-le at l g) h in
    part_left a n (take at l) (vs ++ drop (at + length vs) l) f ∙ sym (part_left a n (take at l) (drop at l) f) ∙ ap (part a n) (take-append-drop at l)

pub part-behind : (a n at : ℕ) (vs l : List ℕ) → at + length vs ≤ a → at + length vs ≤ length l → part a n (put at vs l) ≡ part a n l
unfolding part put
part-behind a n at vs l h g =
    let m : ℕ = at + length vs in
    let e : a ≡ m + (a - m) = omega arith in
    let long : length (take at l ++ vs) ≡ m = simp (length-append, length-take) (omega arith) in
    ap (λ (k : ℕ). part k n (put at vs l)) e
    ∙ ap (part (m + (a - m)) n) (sym (append_assoc (take at l) vs (drop m l)))
    ∙ part_right m (a - m) n (take at l ++ vs) (drop m l) long
    ∙ part-drop (a - m) n m l
    ∙ ap (λ (k : ℕ). part k n l) (sym e)

-- ---- two puts, one after the other

-- put again into what was put
pub put-put : (at : ℕ) (vs ws l : List ℕ) → length vs ≤ length ws → at + length ws ≤ length l → put at vs (put at ws l) ≡ put at (put 0 vs ws) l
unfolding put
put-put at vs ws l h g =
    let long : length (put 0 vs ws) ≡ length ws = length-put 0 vs ws (omega arith) in
    ap (λ (k : ℕ). put k vs (put at ws l)) (sym (add-zero at))
    ∙ put-mid at 0 vs (take at l) ws (drop (at + length ws) l) (length-take-le at l (omega arith)) (omega arith)
    ∙ ap (λ (k : ℕ). take at l ++ (put 0 vs ws ++ drop (at + k) l)) (sym long)

-- two puts side by side are one
pub put-append : (at : ℕ) (vs ws l : List ℕ) → at + (length vs + length ws) ≤ length l → put at vs (put (at + length vs) ws l) ≡ put at (vs ++ ws) l
unfolding put
put-append at vs ws l h =
    let m : ℕ = at + length vs in
    let long : length (take m l) ≡ m = length-take-le m l (omega arith) in
    let q : m + length ws ≡ at + (length vs + length ws) = omega arith in
    rw (put, take-append-le at (take m l) _ (rw long (omega arith)), take-take at m l (omega arith), drop_at (take m l) _ m long, q, length-append, append_assoc)

-- what stands there already
pub put-own : (at n : ℕ) (l : List ℕ) → at + n ≤ length l → put at (part at n l) l ≡ l
unfolding put part
put-own at n l h =
    ap (λ (k : ℕ). take at l ++ (part at n l ++ drop (at + k) l)) (length_part at n l h)
    ∙ ap (λ (r : List ℕ). take at l ++ (part at n l ++ r)) (sym (drop-drop n at l))
    ∙ ap (λ (r : List ℕ). take at l ++ r) (take-append-drop n (drop at l))
    ∙ take-append-drop at l

-- so that what stands behind may be put too
pub put-further : (at q : ℕ) (vs l : List ℕ) → at + (length vs + q) ≤ length l → put at vs l ≡ put at (vs ++ part (at + length vs) q l) l
put-further at q vs l h =
    ap (put at vs) (sym (put-own (at + length vs) q l (omega arith)))
    ∙ put-append at vs (part (at + length vs) q l) l (rw (length_part (at + length vs) q l (omega arith)) h)

-- two puts that do not touch, in either order
pub put-swap : (a b : ℕ) (vs ws l : List ℕ) → a + length vs ≤ b → b + length ws ≤ length l → put a vs (put b ws l) ≡ put b ws (put a vs l)
unfolding put
put-swap a b vs ws l h g =
    let d : ℕ = b - (a + length vs) in
    let e : b ≡ a + (length vs + d) = omega arith in
    let f : b ≡ a + length vs + d = omega arith in
    let long : length (take a l) ≡ a = length-take-le a l (omega arith) in
    let left : put a vs (put b ws l) ≡ take a l ++ (vs ++ put d ws (drop (a + length vs) l)) =
    ap₂ (λ (x y : List ℕ). x ++ (vs ++ y))
    (ap (take a) (ap (λ (k : ℕ). put k ws l) e) ∙ take_put a (length vs + d) ws l (omega arith))
    (ap (λ (k : ℕ). drop (a + length vs) (put k ws l)) f ∙ drop-put (a + length vs) d ws l (omega arith)) in
    let right : put b ws (put a vs l) ≡ take a l ++ (vs ++ put d ws (drop (a + length vs) l)) =
    ap (λ (k : ℕ). put k ws (put a vs l)) e
    ∙ put_right a (length vs + d) ws (take a l) (vs ++ drop (a + length vs) l) long
    ∙ ap (λ (r : List ℕ). take a l ++ r) (put_right (length vs) d ws vs (drop (a + length vs) l) refl) in
    left ∙ sym right

-- the other way round: the second put is right behind the first
pub put-behind : (at : ℕ) (vs ws l : List ℕ) → at + (length vs + length ws) ≤ length l → put (at + length vs) ws (put at vs l) ≡ put at (vs ++ ws) l
put-behind at vs ws l h = sym (put-swap at (at + length vs) vs ws l (omega arith) (omega arith)) ∙ put-append at vs ws l h

-- a put within a part that is put back
pub put-part : (a n b : ℕ) (vs l : List ℕ) → a + n ≤ length l → b + length vs ≤ n → put a (put b vs (part a n l)) l ≡ put (a + b) vs l
unfolding put part
put-part a n b vs l h g =
    let mid : List ℕ = part a n l in
    let post : List ℕ = drop (a + n) l in
    let long : length mid ≡ n = length_part a n l h in
    let all : l ≡ take a l ++ (mid ++ post) =
    sym (ap (λ (r : List ℕ). take a l ++ (mid ++ r)) (sym (drop-drop n a l)) ∙ ap (λ (r : List ℕ). take a l ++ r) (take-append-drop n (drop a l)) ∙ take-append-drop a l) in
    ap (λ (k : ℕ). take a l ++ (put b vs mid ++ drop (a + k) l)) (length-put b vs mid (rw long g) ∙ long)
    ∙ sym (put-mid a b vs (take a l) mid post (length-take-le a l (omega arith)) (rw long g))
    ∙ ap (put (a + b) vs) (sym all)

-- ---- one step of a loop over i below n, as the code counts: `i + 1`

pub part-next : (at i n : ℕ) (l : List ℕ) → i < n → at + n ≤ length l → part (at + i) (n - i) l ≡ get_or l (at + i) 0 ∷ part (at + (i + 1)) (n - (i + 1)) l
part-next at i n l h g =
    let p : n - i ≡ suc (n - (i + 1)) = omega arith in
    let q : at + (i + 1) ≡ suc (at + i) = omega arith in
    rw (p, q) (part-cons l (at + i) (n - (i + 1)) (omega arith))

pub put_next : (at i b : ℕ) (vs l : List ℕ) → at + i < length l → put (at + (i + 1)) vs (set l (at + i) b) ≡ put (at + i) (b ∷ vs) l
put_next at i b vs l h =
    let q : at + (i + 1) ≡ suc (at + i) = omega arith in
    rw q (put-cons (at + i) b vs l h)

-- ---- a field more behind those that were put to the front of a list

-- ws behind the n bytes vs; a and b are the lists as the writes before and of this field left them
pub put-field : (n : ℕ) (vs ws l a b : List ℕ) → length vs ≡ n → n + length ws ≤ length l → a ≡ put 0 vs l → b ≡ put n ws a → b ≡ put 0 (vs ++ ws) l
put-field n vs ws l a b e h p q =
    let k : n ≡ 0 + length vs = omega arith in
    q ∙ ap (put n ws) p ∙ ap (λ (j : ℕ). put j ws (put 0 vs l)) k ∙ put-behind 0 vs ws l (omega arith)
