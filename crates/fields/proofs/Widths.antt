-- Laws of fields of fixed widths: each stands where its offset says, one is replaced or changed within, and the fields cut out of a list are
-- of their widths and joined give the part again. Assumes nothing.
use Prim.Native.Nat.{ℕ, zero, suc, ◌+◌, ◌≤◌, ◌<◌}
use mathlib.Core.Path.{◌≡◌, refl, ap, sym, ◌∙◌, subst}
use mathlib.Core.List.{List, [], ◌∷◌, ◌++◌}
use native.Mathlib.Nat.{le_of_suc-le-suc, not-suc-le-zero, add_assoc}
use lib.ListN.{length, get_or, set, length-append}
use Rattle.fields.specs.Parts.{part, put}
use Rattle.fields.specs.Widths.{joined, offset, total, Widths, cut_at}
use Rattle.fields.proofs.Parts.{part_right, part-add, part_at, part-whole, put-at, put-mid, put_right}

pub field : (ws : List ℕ) (fs : List (List ℕ)) → Widths ws fs → (k : ℕ) → k < length ws → part (offset ws k) (get_or ws k 0) (joined fs) ≡ get_or fs k []
unfolding joined
field [] fs e k h = absurd (not-suc-le-zero h)
field (w ∷ ws) [] e k h = absurd e
field (w ∷ ws) (f ∷ fs) e zero h = part_at 0 w [] f (joined fs) refl e.0
field (w ∷ ws) (f ∷ fs) e (suc k) h = part_right w (offset ws k) (get_or ws k 0) f (joined fs) e.0 ∙ field ws fs e.1 k (le_of_suc-le-suc h)

pub field-set : (ws : List ℕ) (fs : List (List ℕ)) → Widths ws fs → (k : ℕ) (v : List ℕ) → k < length ws → length v ≡ get_or ws k 0 → put (offset ws k) v (joined fs) ≡ joined (set fs k v)
unfolding joined
field-set [] fs e k v h g = absurd (not-suc-le-zero h)
field-set (w ∷ ws) [] e k v h g = absurd e
field-set (w ∷ ws) (f ∷ fs) e zero v h g = put-at 0 v [] f (joined fs) refl (g ∙ sym e.0)
field-set (w ∷ ws) (f ∷ fs) e (suc k) v h g =
    put_right w (offset ws k) v f (joined fs) e.0 ∙ ap (λ (r : List ℕ). f ++ r) (field-set ws fs e.1 k v (le_of_suc-le-suc h) g)

-- a put within field k
pub field_put : (ws : List ℕ) (fs : List (List ℕ)) → Widths ws fs → (k a : ℕ) (vs : List ℕ) → k < length ws → a + length vs ≤ get_or ws k 0
    → put (offset ws k + a) vs (joined fs) ≡ joined (set fs k (put a vs (get_or fs k [])))
unfolding joined
field_put [] fs e k a vs h g = absurd (not-suc-le-zero h)
field_put (w ∷ ws) [] e k a vs h g = absurd e
field_put (w ∷ ws) (f ∷ fs) e zero a vs h g = put-mid 0 a vs [] f (joined fs) refl (subst (λ (n : ℕ). a + length vs ≤ n) (sym e.0) g)
field_put (w ∷ ws) (f ∷ fs) e (suc k) a vs h g =
    ap (λ (n : ℕ). put n vs (f ++ joined fs)) (add_assoc w (offset ws k) a)
    ∙ put_right w (offset ws k + a) vs f (joined fs) e.0
    ∙ ap (λ (r : List ℕ). f ++ r) (field_put ws fs e.1 k a vs (le_of_suc-le-suc h) g)

pub length-joined : (ws : List ℕ) (fs : List (List ℕ)) → Widths ws fs → length (joined fs) ≡ total ws
unfolding joined
length-joined [] [] e = refl
length-joined [] (f ∷ fs) e = absurd e
length-joined (w ∷ ws) [] e = absurd e
length-joined (w ∷ ws) (f ∷ fs) e = rw (length-append f (joined fs), e.0, length-joined ws fs e.1)

pub joined-cut : (at : ℕ) (ws l : List ℕ) → joined (cut_at at ws l) ≡ part at (total ws) l
unfolding joined part
joined-cut at [] l = refl
joined-cut at (w ∷ ws) l = ap (λ (r : List ℕ). part at w l ++ r) (joined-cut (at + w) ws l) ∙ sym (part-add at w (total ws) l)

-- a whole structure, cut and joined
pub joined-whole : (ws l : List ℕ) → length l ≡ total ws → joined (cut_at 0 ws l) ≡ l
joined-whole ws l e = joined-cut 0 ws l ∙ part-whole (total ws) l e

-- fields of these widths, of which one is replaced by one as wide
pub widths-set : (ws : List ℕ) (fs : List (List ℕ)) → Widths ws fs → (k : ℕ) (v : List ℕ) → length v ≡ get_or ws k 0 → Widths ws (set fs k v)
widths-set [] [] e k v h = e
widths-set [] (f ∷ fs) e k v h = absurd e
widths-set (w ∷ ws) [] e k v h = absurd e
widths-set (w ∷ ws) (f ∷ fs) e zero v h = (h, e.1)
widths-set (w ∷ ws) (f ∷ fs) e (suc k) v h = (e.0, widths-set ws fs e.1 k v h)
