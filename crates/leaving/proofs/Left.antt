-- What applying but for the named nodes does, by what applying does: the named nodes are those from before, all else is as `apply` leaves it. Of any bytes, in any ways. Assumes nothing.
use Prim.Native.Nat.{ℕ}
use mathlib.Core.Path.{◌≡◌, refl, ap, ap₂, sym, ◌∙◌, subst}
use mathlib.Core.Bool.{Bool, true, false}
use mathlib.Core.List.{List, [], ◌∷◌}
use mathlib.Core.Option.{Option, none, some}
use native.Mathlib.Omega.{arith}
use lib.ListN.{length}
use lib.Dec.{leb, eqb}
use borrow.Author.Tests.{eqb-true}
use Rattle.fields.specs.Choice.{pick}
use Rattle.fields.specs.Parts.{put}
use Rattle.rules.specs.Node.{Node}
use Rattle.rules.specs.Table.{Entry, Table, node_of, set_node, numbers_of, among}
use Rattle.rules.specs.Delta.{Part, Ops, Good, Faulty, parts_of}
use Rattle.rules.specs.Apply.{Ways, Taking, Stream, ApplyOutcome, answering, on_node, apply_node, apply_each, apply_ops, codes, apply}
use Rattle.rules.specs.declared.NodeAnswer.{NodeAnswer}
use Rattle.rules.specs.declared.NodeAnswer.TheVariants as node
use Rattle.rules.specs.declared.Refusal.TheVariants.{NoPlace}
use Rattle.std.specs.Prelude.{Err, Ok}
use Rattle.rules.proofs.Refusing.{set_same}
use Rattle.rules.proofs.Tables.{numbers-set, numbers-apply}
use Rattle.leaving.specs.Leaving.{left_alone, leaving_each, leaving_ops, apply_leaving, kept_entry, kept, left_answer, told}

-- ---- where none is named

pub none_named : (take : Taking) (xs : List Part) (t : Table) → leaving_each [] take xs t ≡ apply_each take xs t
unfolding leaving_each apply_each among
none_named take [] t = refl
none_named take (x ∷ xs) t = go (node_of x.number t) (none_named take xs)
  where
    go : (o : Option Node) → ((u : Table) → leaving_each [] take xs u ≡ apply_each take xs u) → on_node take x o t (leaving_each [] take xs) ≡ on_node take x o t (apply_each take xs)
    go none ih = ap (answering node.Unknown) (ih t)
    go (some n) ih = ap (answering (take x.delta n).answer) (ih (set_node x.number (take x.delta n).node t))

-- equal by definition
pub none-apply : (ways : Ways) (b : List ℕ) (now : ℕ) (t : Table) (l : List ℕ) → apply_leaving [] ways b now t l ≡ apply ways b now t l
unfolding apply_leaving
none-apply ways b now t l = refl

-- the definition is one for every list of numbers
pub by-ops : (own : List ℕ) (ways : Ways) (b : List ℕ) (now : ℕ) (t : Table) (l : List ℕ) → apply_leaving own ways b now t l ≡ leaving_ops own (apply_node ways now) (ways.reads b) t l
unfolding apply_leaving apply
by-ops [] ways b now t l = go (ways.reads b)
  where
    go : (o : Ops) → apply_ops (apply_node ways now) o t l ≡ leaving_ops [] (apply_node ways now) o t l
    go (Good ops) =
        ap (λ (s : Stream). pick {X = ApplyOutcome} (leb (length (parts_of ops)) (length l)) (record { answer = Ok (length (parts_of ops)); table = s.table; list = put 0 (codes s.answers) l }) (record { answer = (Err (record { why = NoPlace; at = 0 })); table = t; list = l }))
        (sym (none_named (apply_node ways now) (parts_of ops) t))
    go (Faulty r at) = refl
by-ops (i ∷ is) ways b now t l = refl

-- ---- the tables before and after

abbrev kept_as : (number : ℕ) (node : Node) (table : Table) → Table
kept_as i n t = record { number = i; node = n } ∷ t

pub numbers-kept : (own : List ℕ) (t u : Table) → numbers_of (kept own t u) ≡ numbers_of u
unfolding kept numbers_of
numbers-kept own [] u = refl
numbers-kept own (e ∷ t) [] = refl
numbers-kept own (e ∷ t) (f ∷ u) = ap (λ (l : List ℕ). f.number ∷ l) (numbers-kept own t u)

pub kept_same : (own : List ℕ) (t : Table) → kept own t t ≡ t
unfolding kept
kept_same own [] = refl
kept_same own (e ∷ t) = ap₂ (λ (x : Entry) (y : Table). x ∷ y) (go (among e.number own)) (kept_same own t)
  where
    go : (b : Bool) → ◌≡◌ {A = Entry} (record { number = e.number; node = pick b e.node e.node }) e
    go true = refl
    go false = refl

-- a node that is not named is the one after
pub node-other : (own : List ℕ) (i : ℕ) (t u : Table) → among i own ≡ false → node_of i (kept own t u) ≡ node_of i u
unfolding kept node_of
node-other own i [] u h = refl
node-other own i (e ∷ t) [] h = refl
node-other own i (e ∷ t) (f ∷ u) h = go (eqb i f.number) refl (node-other own i t u h)
  where
    go : (b : Bool) → eqb i f.number ≡ b → node_of i (kept own t u) ≡ node_of i u → pick b (some (pick (among f.number own) e.node f.node)) (node_of i (kept own t u)) ≡ pick b (some f.node) (node_of i u)
    go true q ih = ap (λ (c : Bool). some (pick c e.node f.node)) (ap (λ (j : ℕ). among j own) (sym (eqb-true i f.number q)) ∙ h)
    go false q ih = ih

set_other : (own : List ℕ) (i : ℕ) (m : Node) (t u : Table) → among i own ≡ false → set_node i m (kept own t u) ≡ kept own t (set_node i m u)
unfolding kept set_node
set_other own i m [] u h = refl
set_other own i m (e ∷ t) [] h = refl
set_other own i m (e ∷ t) (f ∷ u) h = go (eqb i f.number) refl (set_other own i m t u h)
  where
    go : (b : Bool) → eqb i f.number ≡ b → set_node i m (kept own t u) ≡ kept own t (set_node i m u)
        → pick b (record { number = f.number; node = m } ∷ kept own t u) (kept_entry own e f ∷ set_node i m (kept own t u)) ≡ kept own (e ∷ t) (pick b (record { number = f.number; node = m } ∷ u) (f ∷ set_node i m u))
    go true q ih =
        ap (λ (c : Bool). kept_as f.number (pick c e.node m) (kept own t u)) (sym (ap (λ (j : ℕ). among j own) (sym (eqb-true i f.number q)) ∙ h))
    go false q ih = ap (λ (z : Table). kept_entry own e f ∷ z) ih

-- a named one is the one before
pub node-named : (own : List ℕ) (i : ℕ) (t u : Table) → among i own ≡ true → numbers_of u ≡ numbers_of t → node_of i (kept own t u) ≡ node_of i t
unfolding kept node_of numbers_of
node-named own i [] [] h e = refl
node-named own i [] (f ∷ u) h e = let z : ◌≡◌ {A = ℕ} 0 1 = cc in absurd (omega arith)
node-named own i (a ∷ t) [] h e = let z : ◌≡◌ {A = ℕ} 0 1 = cc in absurd (omega arith)
node-named own i (a ∷ t) (f ∷ u) h e = let p : f.number ≡ a.number = cc in let q : numbers_of u ≡ numbers_of t = cc in go (eqb i f.number) refl p (node-named own i t u h q)
  where
    go : (b : Bool) → eqb i f.number ≡ b → f.number ≡ a.number → node_of i (kept own t u) ≡ node_of i t → pick b (some (pick (among f.number own) a.node f.node)) (node_of i (kept own t u)) ≡ pick (eqb i a.number) (some a.node) (node_of i t)
    go true q p ih =
        ap (λ (c : Bool). some (pick c a.node f.node)) (ap (λ (j : ℕ). among j own) (sym (eqb-true i f.number q)) ∙ h)
        ∙ ap (λ (c : Bool). pick c (some a.node) (node_of i t)) (sym (ap (eqb i) (sym p) ∙ q))
    go false q p ih = ih ∙ ap (λ (c : Bool). pick c (some a.node) (node_of i t)) (sym (ap (eqb i) (sym p) ∙ q))

-- and nothing is seen of it
set-named : (own : List ℕ) (i : ℕ) (m : Node) (t u : Table) → among i own ≡ true → numbers_of u ≡ numbers_of t → kept own t (set_node i m u) ≡ kept own t u
unfolding kept set_node numbers_of
set-named own i m [] [] h e = refl
set-named own i m [] (f ∷ u) h e = let z : ◌≡◌ {A = ℕ} 0 1 = cc in absurd (omega arith)
set-named own i m (a ∷ t) [] h e = refl
set-named own i m (a ∷ t) (f ∷ u) h e = let q : numbers_of u ≡ numbers_of t = cc in go (eqb i f.number) refl (set-named own i m t u h q)
  where
    go : (b : Bool) → eqb i f.number ≡ b → kept own t (set_node i m u) ≡ kept own t u → kept own (a ∷ t) (pick b (record { number = f.number; node = m } ∷ u) (f ∷ set_node i m u)) ≡ kept_entry own a f ∷ kept own t u
    go true q ih =
        let g : among f.number own ≡ true = ap (λ (j : ℕ). among j own) (sym (eqb-true i f.number q)) ∙ h in
        ap (λ (c : Bool). kept_as f.number (pick c a.node m) (kept own t u)) g
        ∙ ap (λ (c : Bool). kept_as f.number (pick c a.node f.node) (kept own t u)) (sym g)
    go false q ih = ap (λ (z : Table). kept_entry own a f ∷ z) ih

-- ---- the stream, beside that of `apply`

-- the table `kept own t u` takes the node deltas as u does without leaving any alone
pub record Beside (own : List ℕ) (t : Table) (xs : List Part) (plain left : Stream) : Type 0 where
  pub table_is : left.table ≡ kept own t plain.table
  pub answers_are : left.answers ≡ told own t xs plain.answers

module _ (own : List ℕ) (take : Taking) (t : Table) (x : Part) (xs : List Part) where
  -- what is known of those behind it
  abbrev Rest : Type 0
  Rest = (u : Table) → numbers_of u ≡ numbers_of t → Beside own t xs (apply_each take xs u) (leaving_each own take xs (kept own t u))

  abbrev Here : Bool → Table → Option Node → Option Node → Type 0
  Here b u o p = Beside own t (x ∷ xs) (on_node take x o u (apply_each take xs)) (on_node (pick b left_alone take) x p (kept own t u) (leaving_each own take xs))

  -- one more on both sides
  one_more : (b : Bool) → among x.number own ≡ b → (a c : NodeAnswer) (s r : Stream) → Beside own t xs s r → c ≡ pick b (left_answer (node_of x.number t)) a → Beside own t (x ∷ xs) (answering a s) (answering c r)
  unfolding told
  one_more b q a c s r w z =
      record {
        table_is = w.table_is;
        answers_are = ap₂ (λ (y : NodeAnswer) (l : List NodeAnswer). y ∷ l) (z ∙ ap (λ (d : Bool). pick d (left_answer (node_of x.number t)) a) (sym q)) w.answers_are;
      }

  module _ (u : Table) (e : numbers_of u ≡ numbers_of t) (ih : Rest) where
    named : among x.number own ≡ true → (o p : Option Node) → node_of x.number (kept own t u) ≡ p → Here true u o p
    named q o p f = plainly o
      where
        held : node_of x.number t ≡ p
        held = sym (node-named own x.number t u q e) ∙ f

        -- whatever the plain stream does to the node
        left : (a : NodeAnswer) (s : Stream) → Beside own t xs s (leaving_each own take xs (kept own t u)) → (p : Option Node) → node_of x.number (kept own t u) ≡ p → node_of x.number t ≡ p
            → Beside own t (x ∷ xs) (answering a s) (on_node left_alone x p (kept own t u) (leaving_each own take xs))
        left a s w none f g = one_more true q a node.Unknown s _ w (ap left_answer (sym g))
        left a s w (some m) f g =
            one_more true q a node.Reject s _ (subst (λ (z : Table). Beside own t xs s (leaving_each own take xs z)) (sym (set_same x.number m (kept own t u) f)) w) (ap left_answer (sym g))

        plainly : (o : Option Node) → Here true u o p
        plainly none = left node.Unknown (apply_each take xs u) (ih u e) p f held
        plainly (some n) =
            let v : Table = set_node x.number (take x.delta n).node u in
            left (take x.delta n).answer (apply_each take xs v)
            (subst (λ (z : Table). Beside own t xs (apply_each take xs v) (leaving_each own take xs z)) (set-named own x.number (take x.delta n).node t u q e) (ih v (numbers-set x.number (take x.delta n).node u ∙ e)))
            p f held

    others : among x.number own ≡ false → (o : Option Node) → Here false u o o
    others q none = one_more false q node.Unknown node.Unknown _ _ (ih u e) refl
    others q (some n) =
        let v : Table = set_node x.number (take x.delta n).node u in
        one_more false q _ _ _ _
        (subst (λ (z : Table). Beside own t xs (apply_each take xs v) (leaving_each own take xs z)) (sym (set_other own x.number (take x.delta n).node t u q)) (ih v (numbers-set x.number (take x.delta n).node u ∙ e)))
        refl

    this-one : (b : Bool) → among x.number own ≡ b → Here b u (node_of x.number u) (node_of x.number (kept own t u))
    this-one true q = named q (node_of x.number u) (node_of x.number (kept own t u)) refl
    this-one false q = subst (Here false u (node_of x.number u)) (sym (node-other own x.number t u q)) (others q (node_of x.number u))

pub each-beside : (own : List ℕ) (take : Taking) (t : Table) (xs : List Part) (u : Table) → numbers_of u ≡ numbers_of t → Beside own t xs (apply_each take xs u) (leaving_each own take xs (kept own t u))
unfolding leaving_each apply_each told
each-beside own take t [] u e = record { table_is = refl; answers_are = refl }
each-beside own take t (x ∷ xs) u e = this-one own take t x xs u e (each-beside own take t xs) (among x.number own) refl

-- from the same table on
pub each_left : (own : List ℕ) (take : Taking) (xs : List Part) (t : Table) → Beside own t xs (apply_each take xs t) (leaving_each own take xs t)
each_left own take xs t = subst (λ (z : Table). Beside own t xs (apply_each take xs t) (leaving_each own take xs z)) (kept_same own t) (each-beside own take t xs t refl)

-- ---- the call: what it answers, and what it leaves, of any bytes

module _ (own : List ℕ) (ways : Ways) (b : List ℕ) (now : ℕ) (t : Table) (l : List ℕ) where
  -- it answers what `apply` answers, so it refuses what that refuses
  pub same_answer : (apply_leaving own ways b now t l).answer ≡ (apply ways b now t l).answer
  unfolding apply
  same_answer = ap (λ (o : ApplyOutcome). o.answer) (by-ops own ways b now t l) ∙ go (ways.reads b)
    where
      room : (xs : List Part) (c : Bool)
          → (pick {X = ApplyOutcome} c (record { answer = Ok (length xs); table = (leaving_each own (apply_node ways now) xs t).table; list = put 0 (codes (leaving_each own (apply_node ways now) xs t).answers) l }) (record { answer = (Err (record { why = NoPlace; at = 0 })); table = t; list = l })).answer
          ≡ (pick {X = ApplyOutcome} c (record { answer = Ok (length xs); table = (apply_each (apply_node ways now) xs t).table; list = put 0 (codes (apply_each (apply_node ways now) xs t).answers) l }) (record { answer = (Err (record { why = NoPlace; at = 0 })); table = t; list = l })).answer
      room xs true = refl
      room xs false = refl

      go : (o : Ops) → (leaving_ops own (apply_node ways now) o t l).answer ≡ (apply_ops (apply_node ways now) o t l).answer
      go (Good ops) = room (parts_of ops) (leb (length (parts_of ops)) (length l))
      go (Faulty r at) = refl

  -- the named nodes are those from before, and all else is what `apply` leaves
  pub left-table : (apply_leaving own ways b now t l).table ≡ kept own t (apply ways b now t l).table
  unfolding apply
  left-table = ap (λ (o : ApplyOutcome). o.table) (by-ops own ways b now t l) ∙ go (ways.reads b)
    where
      room : (xs : List Part) (c : Bool)
          → (pick {X = ApplyOutcome} c (record { answer = Ok (length xs); table = (leaving_each own (apply_node ways now) xs t).table; list = put 0 (codes (leaving_each own (apply_node ways now) xs t).answers) l }) (record { answer = (Err (record { why = NoPlace; at = 0 })); table = t; list = l })).table
          ≡ kept own t (pick {X = ApplyOutcome} c (record { answer = Ok (length xs); table = (apply_each (apply_node ways now) xs t).table; list = put 0 (codes (apply_each (apply_node ways now) xs t).answers) l }) (record { answer = (Err (record { why = NoPlace; at = 0 })); table = t; list = l })).table
      room xs true = (each_left own (apply_node ways now) xs t).table_is
      room xs false = sym (kept_same own t)

      go : (o : Ops) → (leaving_ops own (apply_node ways now) o t l).table ≡ kept own t (apply_ops (apply_node ways now) o t l).table
      go (Good ops) = room (parts_of ops) (leb (length (parts_of ops)) (length l))
      go (Faulty r at) = sym (kept_same own t)

  -- whatever the bytes, forged ones too
  pub named-stays : (i : ℕ) → among i own ≡ true → node_of i (apply_leaving own ways b now t l).table ≡ node_of i t
  named-stays i h = ap (node_of i) left-table ∙ node-named own i t (apply ways b now t l).table h (numbers-apply ways b now t l)

  pub others-apply : (i : ℕ) → among i own ≡ false → node_of i (apply_leaving own ways b now t l).table ≡ node_of i (apply ways b now t l).table
  others-apply i h = ap (node_of i) left-table ∙ node-other own i t (apply ways b now t l).table h

  pub numbers-leaving : numbers_of (apply_leaving own ways b now t l).table ≡ numbers_of t
  numbers-leaving = ap numbers_of left-table ∙ numbers-kept own t (apply ways b now t l).table ∙ numbers-apply ways b now t l
