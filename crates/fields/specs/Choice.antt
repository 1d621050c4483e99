-- One of two, by a test; every test of a list; a thing that stands in a list, and those of a list that pass a test.
use Rattle.std.specs.Prelude.{◌≡◌, Bool, true, false, ◌&&◌, List, [], ◌∷◌}

-- the first where the test holds, else the second
abbrev pub pick {ℓ} : {X : Type ℓ} → Bool → X → X → X
pick true x y = x
pick false x y = y

-- every test holds
abbrev pub every : List Bool → Bool
every [] = true
every (t ∷ ts) = t && every ts

-- x stands in the list
infix 40 ◌∈◌
pub data ◌∈◌ {A : Type 0} (x : A) : List A → Type 0 where
  here : {a : A} {l : List A} → x ≡ a → x ∈ a ∷ l
  later : {a : A} {l : List A} → x ∈ l → x ∈ a ∷ l

-- those that pass the test
unfoldable pub keep : {A : Type 0} (p : A → Bool) (list : List A) → List A
keep p [] = []
keep p (a ∷ l) = pick (p a) (a ∷ keep p l) (keep p l)

-- all of them pass the test
unfoldable pub all : {A : Type 0} (p : A → Bool) (list : List A) → Bool
all p [] = true
all p (a ∷ l) = p a && all p l
