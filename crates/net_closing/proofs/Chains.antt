-- Where a last_gc came from, in a graph that stays as it is: from hub to heard hub last_gc does not fall, up to one whose last_gc is within its max. Assumes nothing.
use Prim.Native.Nat.{◌<◌, ◌≤◌, max, ℕ}
use mathlib.Core.Logic.{◌⊎◌, inl, inr}
use mathlib.Core.Path.{◌≡◌, ap, subst, sym}
use native.Mathlib.Omega.{arith}
use Rattle.rules.specs.Node.{Node}

pub data Chain (hears : (x y : ℕ) → Type 0) (f : ℕ → Node) : ℕ → ℕ → Type 0 where
  ends : (g x : ℕ) → g ≤ (f x).last_gc → (f x).last_gc ≤ (f x).max → Chain hears f g x
  leads : (g x z : ℕ) → g ≤ (f x).last_gc → hears x z → Chain hears f (f x).last_gc z → Chain hears f g x

-- how the one hub that an event changes may change
pub data Turns (hears : (x y : ℕ) → Type 0) (f : ℕ → Node) (u : ℕ) (a b : Node) : Type 0 where
  grows : a.last_gc ≡ b.last_gc → a.max ≤ b.max → Turns hears f u a b
  settles : a.last_gc ≤ b.last_gc → b.last_gc ≤ b.max → Turns hears f u a b
  follows : (z : ℕ) → a.last_gc < b.last_gc → hears u z → Chain hears f b.last_gc z → Turns hears f u a b

module _ (hears : (x y : ℕ) → Type 0) where
  chain-low : (f : ℕ → Node) (g x : ℕ) → Chain hears f g x → g ≤ (f x).last_gc
  chain-low f g x (ends k z a b) = a
  chain-low f g x (leads k z y a e c) = a

  -- from any number that is not above
  pub chain-from : (f : ℕ → Node) (g k x : ℕ) → k ≤ (f x).last_gc → Chain hears f g x → Chain hears f k x
  chain-from f g k x l (ends i z a b) = ends k z l b
  chain-from f g k x l (leads i z y a e c) = leads k z y l e c

  pub turns-low : (f : ℕ → Node) (u : ℕ) (a b : Node) → Turns hears f u a b → a.last_gc ≤ b.last_gc
  turns-low f u a b (grows p q) = omega arith
  turns-low f u a b (settles p q) = p
  turns-low f u a b (follows z p h k) = omega arith

  module _ (f f' : ℕ → Node) (u : ℕ) (same : (x : ℕ) → (f' x ≡ f x) ⊎ (x ≡ u)) where
    -- a chain above u's last_gc does not meet u
    above : (g x : ℕ) → (f u).last_gc < g → Chain hears f g x → Chain hears f' g x
    above g x b (ends j z a c) = go (same z)
      where
        go : (f' z ≡ f z) ⊎ (z ≡ u) → Chain hears f' g z
        go (inl e) = ends g z (subst (λ (n : Node). g ≤ n.last_gc) (sym e) a) (subst (λ (n : Node). n.last_gc ≤ n.max) (sym e) c)
        go (inr e) = let k : (f z).last_gc ≡ (f u).last_gc = ap (λ (y : ℕ). (f y).last_gc) e in absurd (omega arith)
    above g x b (leads j z y a h c) = go (same z) (above (f z).last_gc y (omega arith) c)
      where
        go : (f' z ≡ f z) ⊎ (z ≡ u) → Chain hears f' (f z).last_gc y → Chain hears f' g z
        go (inl e) d = leads g z y (subst (λ (n : Node). g ≤ n.last_gc) (sym e) a) h (subst (λ (n : Node). Chain hears f' n.last_gc y) (sym e) d)
        go (inr e) d = let k : (f z).last_gc ≡ (f u).last_gc = ap (λ (y : ℕ). (f y).last_gc) e in absurd (omega arith)

    pub chain-turns : Turns hears f u (f u) (f' u) → (g x : ℕ) → Chain hears f g x → Chain hears f' g x
    chain-turns t g x (ends j z a c) = go (same z)
      where
        at-u : Turns hears f u (f u) (f' u) → g ≤ (f u).last_gc → (f u).last_gc ≤ (f u).max → Chain hears f' g u
        at-u (grows p q) i j = ends g u (omega arith) (omega arith)
        at-u (settles p q) i j = ends g u (omega arith) q
        at-u (follows y p h k) i j = leads g u y (omega arith) h (above (f' u).last_gc y p k)

        go : (f' z ≡ f z) ⊎ (z ≡ u) → Chain hears f' g z
        go (inl e) = ends g z (subst (λ (n : Node). g ≤ n.last_gc) (sym e) a) (subst (λ (n : Node). n.last_gc ≤ n.max) (sym e) c)
        go (inr e) = subst (Chain hears f' g) (sym e) (at-u t (subst (λ (y : ℕ). g ≤ (f y).last_gc) e a) (subst (λ (y : ℕ). (f y).last_gc ≤ (f y).max) e c))
    chain-turns t g x (leads j z y a h c) = go (same z) (chain-turns t (f z).last_gc y c)
      where
        at-u : Turns hears f u (f u) (f' u) → g ≤ (f u).last_gc → hears u y → Chain hears f' (f u).last_gc y → Chain hears f' g u
        at-u (grows p q) i h d = leads g u y (omega arith) h (subst (λ (k : ℕ). Chain hears f' k y) p d)
        at-u (settles p q) i h d = ends g u (omega arith) q
        at-u (follows v p k l) i h d = leads g u v (omega arith) k (above (f' u).last_gc v p l)

        go : (f' z ≡ f z) ⊎ (z ≡ u) → Chain hears f' (f z).last_gc y → Chain hears f' g z
        go (inl e) d = leads g z y (subst (λ (n : Node). g ≤ n.last_gc) (sym e) a) h (subst (λ (n : Node). Chain hears f' n.last_gc y) (sym e) d)
        go (inr e) d =
            subst (Chain hears f' g) (sym e)
            (at-u t (subst (λ (v : ℕ). g ≤ (f v).last_gc) e a) (subst (λ (v : ℕ). hears v y) e h) (subst (λ (v : ℕ). Chain hears f' (f v).last_gc y) e d))

  -- ---- where no exchange raises a pair

  -- whom x hears is not ahead of it, unless x is in the midst of a reset to a higher last_gc
  abbrev pub Level : (ℕ → Node) → Type 0
  Level f = (x y : ℕ) → hears x y → (f x).last_gc ≤ max (f x).max (f y).last_gc → (f y).max ≤ (f x).max

  -- then nobody is in the midst of a reset
  pub level-settled : (f : ℕ → Node) → Level f → (g x : ℕ) → Chain hears f g x → (f x).last_gc ≤ (f x).max
  level-settled f level g x (ends k z a b) = b
  level-settled f level g x (leads k z y a h c) =
      let i = level-settled f level (f z).last_gc y c in
      let l = chain-low f (f z).last_gc y c in
      let m = level z y h (omega arith) in
      omega arith
