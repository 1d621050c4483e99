-- Node deltas taken in two goes, in either order: where no node has one in both, the table and each answer are the same. Assumes nothing.
use Prim.Native.Nat.{ℕ}
use mathlib.Core.Path.{◌≡◌, refl, ap, ap₂, sym, ◌∙◌}
use mathlib.Core.Bool.{Bool, true, false}
use mathlib.Core.List.{List, [], ◌∷◌, ◌++◌}
use mathlib.Core.Option.{Option, none, some}
use lib.Dec.{eqb}
use borrow.Author.Tests.{eqb-true, eqb-false, ne_eqb}
use Rattle.fields.specs.Choice.{pick, ◌∈◌, here, later}
use Rattle.rules.specs.Node.{Node}
use Rattle.rules.specs.Table.{Table, node_of, set_node}
use Rattle.rules.specs.Delta.{Part}
use Rattle.rules.specs.Apply.{Taking, Stream, answering, on_node, apply_each}
use Rattle.rules.specs.declared.NodeAnswer.{NodeAnswer}
use Rattle.rules.specs.declared.NodeAnswer.TheVariants as node
use Rattle.rules.proofs.Tables.{node-set-other}

-- ---- one node delta

abbrev pub answer_on : Taking → Part → Option Node → NodeAnswer
answer_on take x none = node.Unknown
answer_on take x (some n) = (take x.delta n).answer

abbrev pub table_on : Taking → Part → Option Node → Table → Table
table_on take x none t = t
table_on take x (some n) t = set_node x.number (take x.delta n).node t

abbrev pub answer_to : Taking → Part → Table → NodeAnswer
answer_to take x t = answer_on take x (node_of x.number t)

abbrev pub after : Taking → Part → Table → Table
after take x t = table_on take x (node_of x.number t) t

pub each-cons : (take : Taking) (x : Part) (xs : List Part) (t : Table) → apply_each take (x ∷ xs) t ≡ answering (answer_to take x t) (apply_each take xs (after take x t))
unfolding apply_each
each-cons take x xs t = go (node_of x.number t)
  where
    go : (o : Option Node) → on_node take x o t (apply_each take xs) ≡ answering (answer_on take x o) (apply_each take xs (table_on take x o t))
    go none = refl
    go (some n) = refl

-- ---- two goes

-- first these, then those
abbrev joined : (first second : Stream) → Stream
joined s u = record { answers = s.answers ++ u.answers; table = u.table }

pub each_append : (take : Taking) (xs ys : List Part) (t : Table) → apply_each take (xs ++ ys) t ≡ joined (apply_each take xs t) (apply_each take ys (apply_each take xs t).table)
unfolding apply_each
each_append take [] ys t = refl
each_append take (x ∷ xs) ys t =
    each-cons take x (xs ++ ys) t
    ∙ ap (answering (answer_to take x t)) (each_append take xs ys (after take x t))
    ∙ ap (λ (s : Stream). joined s (apply_each take ys s.table)) (sym (each-cons take x xs t))

-- ---- different nodes do not meet

symmetric : (i j : ℕ) → eqb i j ≡ false → eqb j i ≡ false
symmetric i j e = ne_eqb j i (λ f. eqb-false i j e (sym f))

set-commutes : (i j : ℕ) (n m : Node) (t : Table) → eqb i j ≡ false → set_node i n (set_node j m t) ≡ set_node j m (set_node i n t)
unfolding set_node
set-commutes i j n m [] h = refl
set-commutes i j n m (e ∷ t) h = go (eqb i e.number) refl (eqb j e.number) refl (set-commutes i j n m t h)
  where
    go : (p : Bool) → eqb i e.number ≡ p → (q : Bool) → eqb j e.number ≡ q → set_node i n (set_node j m t) ≡ set_node j m (set_node i n t)
        → set_node i n (pick q (record { number = e.number; node = m } ∷ t) (e ∷ set_node j m t)) ≡ set_node j m (pick p (record { number = e.number; node = n } ∷ t) (e ∷ set_node i n t))
    go true a true b ih = absurd (eqb-false i j h (eqb-true i e.number a ∙ sym (eqb-true j e.number b)))
    go true a false b ih = rw (a, b) refl
    go false a true b ih = rw (a, b) refl
    go false a false b ih = rw (a, b) (ap (λ (u : Table). e ∷ u) ih)

module _ (take : Taking) (x y : Part) (t : Table) (h : eqb x.number y.number ≡ false) where
  -- what x finds is as it was before y
  unmoved : node_of x.number (after take y t) ≡ node_of x.number t
  unmoved = go (node_of y.number t)
    where
      go : (o : Option Node) → node_of x.number (table_on take y o t) ≡ node_of x.number t
      go none = refl
      go (some n) = node-set-other x.number y.number (take y.delta n).node t h

  same_answer : answer_to take x (after take y t) ≡ answer_to take x t
  same_answer = ap (answer_on take x) unmoved

-- and they leave the same table in either order
after-commutes : (take : Taking) (x y : Part) (t : Table) → eqb x.number y.number ≡ false → after take x (after take y t) ≡ after take y (after take x t)
after-commutes take x y t h =
    ap (λ (o : Option Node). table_on take x o (after take y t)) (unmoved take x y t h)
    ∙ go (node_of x.number t) (node_of y.number t)
    ∙ ap (λ (o : Option Node). table_on take y o (after take x t)) (sym (unmoved take y x t (symmetric x.number y.number h)))
  where
    go : (o u : Option Node) → table_on take x o (table_on take y u t) ≡ table_on take y u (table_on take x o t)
    go none u = refl
    go (some n) none = refl
    go (some n) (some m) = set-commutes x.number y.number (take x.delta n).node (take y.delta m).node t h

-- ---- a list of them beside another

-- no node of the first is one of the second
abbrev pub Apart : List Part → List Part → Type 0
Apart xs ys = (x y : Part) → x ∈ xs → y ∈ ys → eqb x.number y.number ≡ false

-- one before or behind those of other nodes
module _ (take : Taking) (x : Part) where
  each_after : (ys : List Part) (t : Table) → ((y : Part) → y ∈ ys → eqb x.number y.number ≡ false)
      → ((apply_each take ys (after take x t)).answers ≡ (apply_each take ys t).answers) × ((apply_each take ys (after take x t)).table ≡ after take x (apply_each take ys t).table)
      × (answer_to take x (apply_each take ys t).table ≡ answer_to take x t)
  unfolding apply_each
  each_after [] t h = (refl, refl, refl)
  each_after (y ∷ ys) t h =
      let g : eqb x.number y.number ≡ false = h y (here refl) in
      let u : Table = after take y t in
      let ih = each_after ys u (λ z k. h z (later k)) in
      let turned : after take y (after take x t) ≡ after take x u = sym (after-commutes take x y t g) in
      let moved : apply_each take (y ∷ ys) (after take x t) ≡ answering (answer_to take y t) (apply_each take ys (after take x u)) =
      each-cons take y ys (after take x t)
      ∙ ap₂ (λ (a : NodeAnswer) (z : Table). answering a (apply_each take ys z)) (same_answer take y x t (symmetric x.number y.number g)) turned in
      let plain : apply_each take (y ∷ ys) t ≡ answering (answer_to take y t) (apply_each take ys u) = each-cons take y ys t in (
        ap (λ (s : Stream). s.answers) moved ∙ ap (λ (l : List NodeAnswer). answer_to take y t ∷ l) ih.0 ∙ ap (λ (s : Stream). s.answers) (sym plain),
        ap (λ (s : Stream). s.table) moved ∙ ih.1 ∙ ap (λ (s : Stream). after take x s.table) (sym plain),
        ap (λ (s : Stream). answer_to take x s.table) plain ∙ ih.2 ∙ same_answer take x y t g,
      )

-- those of xs behind those of ys: the same answers as without, and the same table as before them
pub each-swapped : (take : Taking) (xs ys : List Part) (t : Table) → Apart xs ys
    → ((apply_each take xs (apply_each take ys t).table).answers ≡ (apply_each take xs t).answers)
    × ((apply_each take xs (apply_each take ys t).table).table ≡ (apply_each take ys (apply_each take xs t).table).table)
    × ((apply_each take ys (apply_each take xs t).table).answers ≡ (apply_each take ys t).answers)
unfolding apply_each
each-swapped take [] ys t h = (refl, refl, refl)
each-swapped take (x ∷ xs) ys t h =
    let one = each_after take x ys t (λ y k. h x y (here refl) k) in
    let u : Table = after take x t in
    let ih = each-swapped take xs ys u (λ z y k l. h z y (later k) l) in
    let w : Table = (apply_each take ys t).table in
    let behind : apply_each take (x ∷ xs) w ≡ answering (answer_to take x t) (apply_each take xs (apply_each take ys u).table) =
    each-cons take x xs w ∙ ap₂ (λ (a : NodeAnswer) (z : Table). answering a (apply_each take xs z)) one.2 (sym one.1) in
    let plain : apply_each take (x ∷ xs) t ≡ answering (answer_to take x t) (apply_each take xs u) = each-cons take x xs t in (
      ap (λ (s : Stream). s.answers) behind ∙ ap (λ (l : List NodeAnswer). answer_to take x t ∷ l) ih.0 ∙ ap (λ (s : Stream). s.answers) (sym plain),
      ap (λ (s : Stream). s.table) behind ∙ ih.1 ∙ ap (λ (s : Stream). (apply_each take ys s.table).table) (sym plain),
      ap (λ (s : Stream). (apply_each take ys s.table).answers) plain ∙ ih.2 ∙ one.0,
    )
