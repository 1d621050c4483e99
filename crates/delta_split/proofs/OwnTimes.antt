-- The parts of a delta at two times of receipt: each node stands as if the uncut delta had come when its part came. Assumes nothing.
use Prim.Native.Nat.{ℕ, ◌≤◌}
use mathlib.Core.Path.{◌≡◌, refl, ap, sym, ◌∙◌, subst}
use mathlib.Core.Bool.{Bool, true, false, true≢false}
use mathlib.Core.List.{List, [], ◌∷◌, ◌++◌}
use mathlib.Core.Option.{Option, none, some}
use lib.Dec.{eqb}
use lib.ListN.{length, take, drop}
use borrow.Author.Tests.{eqb-true}
use Rattle.fields.specs.Choice.{◌∈◌, pick}
use Rattle.fields.specs.Numbers.{AreBytes}
use Rattle.rules.specs.Node.{Node}
use Rattle.rules.specs.Table.{Table, among, node_of, set_node}
use Rattle.rules.specs.Delta.{Ops, Part, parts_of}
use Rattle.rules.specs.Apply.{ApplyOutcome, Lawful, Stream, Taking, Ways, apply, apply_each, apply_node}
use Rattle.rules.proofs.Tables.{mapped, node-set-other, node-set-same}
use Rattle.delta_split.specs.Split.{Cuttable, Roomy, cut_places, wanted}
use Rattle.delta_split.specs.Times.{in_order_at, named, numbers_in, reversed_at}
use Rattle.delta_split.proofs.Each.{after, each_append, each-cons, table_on}
use Rattle.delta_split.proofs.Cutting.{parts_cut}
use Rattle.delta_split.proofs.Parts.{Parts, call-accepted, parts-of}

-- ---- what node deltas do to one node

after-at : (take : Taking) (x : Part) (t : Table) (i : ℕ) → node_of i (after take x t) ≡ pick (eqb i x.number) (mapped (λ n. (take x.delta n).node) (node_of i t)) (node_of i t)
after-at take x t i = go (eqb i x.number) refl (node_of x.number t) refl
  where
    f : Node → Node
    f n = (take x.delta n).node

    go : (b : Bool) → eqb i x.number ≡ b → (o : Option Node) → node_of x.number t ≡ o → node_of i (table_on take x o t) ≡ pick b (mapped f (node_of i t)) (node_of i t)
    go true e none q = let k : node_of i t ≡ none = ap (λ (j : ℕ). node_of j t) (eqb-true i x.number e) ∙ q in k ∙ sym (ap (mapped f) k)
    go true e (some n) q =
        let j : i ≡ x.number = eqb-true i x.number e in
        ap (λ (k : ℕ). node_of k (set_node x.number (f n) t)) j ∙ node-set-same x.number (f n) t q ∙ sym (ap (mapped f) (ap (λ (k : ℕ). node_of k t) j ∙ q))
    go false e none q = refl
    go false e (some n) q = node-set-other i x.number (f n) t e

each_at : (take : Taking) (x : Part) (l : List Part) (t : Table) (i : ℕ) → node_of i (apply_each take (x ∷ l) t).table ≡ node_of i (apply_each take l (after take x t)).table
each_at take x l t i = ap (λ (s : Stream). node_of i s.table) (each-cons take x l t)

-- nothing, where they do not name it
untouched : (take : Taking) (l : List Part) (t : Table) (i : ℕ) → among i (numbers_in l) ≡ false → node_of i (apply_each take l t).table ≡ node_of i t
unfolding apply_each numbers_in among
untouched take [] t i h = refl
untouched take (x ∷ l) t i h = go (eqb i x.number) refl h (untouched take l (after take x t) i)
  where
    go : (b : Bool) → eqb i x.number ≡ b → pick b true (among i (numbers_in l)) ≡ false
        → (among i (numbers_in l) ≡ false → node_of i (apply_each take l (after take x t)).table ≡ node_of i (after take x t))
        → node_of i (apply_each take (x ∷ l) t).table ≡ node_of i t
    go true e q ih = absurd (true≢false q)
    go false e q ih =
        each_at take x l t i ∙ ih q ∙ after-at take x t i
        ∙ ap (λ (b : Bool). pick b (mapped (λ n. (take x.delta n).node) (node_of i t)) (node_of i t)) e

-- and nothing else of the table matters
agree : (take : Taking) (l : List Part) (t u : Table) (i : ℕ) → node_of i t ≡ node_of i u → node_of i (apply_each take l t).table ≡ node_of i (apply_each take l u).table
unfolding apply_each
agree take [] t u i h = h
agree take (x ∷ l) t u i h =
    each_at take x l t i
    ∙ agree take l (after take x t) (after take x u) i
    (after-at take x t i ∙ ap (λ (o : Option Node). pick (eqb i x.number) (mapped (λ n. (take x.delta n).node) o) o) h ∙ sym (after-at take x u i))
    ∙ sym (each_at take x l u i)

-- ---- the two parts

module _ (ways : Ways) (lawful : Lawful ways) (cuttable : Cuttable ways) (b : List ℕ) (are : AreBytes b) (place : ℕ) (at : place ∈ cut_places (ways.reads b)) (t : Table) (list list₁ list₂ : List ℕ)
    (h : Roomy ways b place list list₁ list₂) (i : ℕ) where
  both : Parts ways b place
  both = parts-of ways lawful cuttable b are place (ways.reads b) refl at

  abbrev one : List Part
  one = parts_of both.first

  abbrev two : List Part
  two = parts_of both.second

  abbrev took : ℕ → List Part → Table → Table
  took now l u = (apply_each (apply_node ways now) l u).table

  first_is : (now : ℕ) (u : Table) → (apply ways (take place b) now u list₁).table ≡ took now one u
  first_is now u = ap (λ (o : ApplyOutcome). o.table) (call-accepted ways (take place b) both.first now u list₁ both.first_read (subst (λ (n : ℕ). n ≤ length list₁) (ap wanted both.first_read) h.1))

  second_is : (now : ℕ) (u : Table) → (apply ways (drop place b) now u list₂).table ≡ took now two u
  second_is now u = ap (λ (o : ApplyOutcome). o.table) (call-accepted ways (drop place b) both.second now u list₂ both.second_read (subst (λ (n : ℕ). n ≤ length list₂) (ap wanted both.second_read) h.2))

  whole_is : (now : ℕ) → (apply ways b now t list).table ≡ took now two (took now one t)
  whole_is now =
      ap (λ (o : ApplyOutcome). o.table) (call-accepted ways b (both.first ++ both.second) now t list both.whole_read (subst (λ (n : ℕ). n ≤ length list) (ap wanted both.whole_read) h.0))
      ∙ ap (λ (l : List Part). took now l t) (parts_cut both.first both.second both.from_node)
      ∙ ap (λ (s : Stream). s.table) (each_append (apply_node ways now) one two t)

  -- a node that the second part does not name, or the first
  not-second : among i (named (ways.reads (drop place b))) ≡ false → among i (numbers_in two) ≡ false
  not-second q = ap (λ (o : Ops). among i (named o)) (sym both.second_read) ∙ q

  not_first : among i (named (ways.reads (take place b))) ≡ false → among i (numbers_in one) ≡ false
  not_first q = ap (λ (o : Ops). among i (named o)) (sym both.first_read) ∙ q

  -- the uncut delta does to it what the other part does
  whole-first : (now : ℕ) → among i (numbers_in two) ≡ false → node_of i (apply ways b now t list).table ≡ node_of i (took now one t)
  whole-first now q = ap (node_of i) (whole_is now) ∙ untouched (apply_node ways now) two (took now one t) i q

  whole-second : (now : ℕ) → among i (numbers_in one) ≡ false → node_of i (apply ways b now t list).table ≡ node_of i (took now two t)
  whole-second now q = ap (node_of i) (whole_is now) ∙ agree (apply_node ways now) two (took now one t) t i (untouched (apply_node ways now) one t i q)

  module _ (now₁ now₂ : ℕ) where
    in_order : (in_order_at ways b place now₁ now₂ t list₁ list₂).second.table ≡ took now₂ two (took now₁ one t)
    in_order = second_is now₂ (apply ways (take place b) now₁ t list₁).table ∙ ap (took now₂ two) (first_is now₁ t)

    in-reverse : (reversed_at ways b place now₁ now₂ t list₁ list₂).first.table ≡ took now₁ one (took now₂ two t)
    in-reverse = first_is now₁ (apply ways (drop place b) now₂ t list₂).table ∙ ap (took now₁ one) (second_is now₂ t)

    -- what the second part does not name stands as if the uncut delta had come with the first
    pub first-time : among i (named (ways.reads (drop place b))) ≡ false
        → (node_of i (in_order_at ways b place now₁ now₂ t list₁ list₂).second.table ≡ node_of i (apply ways b now₁ t list).table)
        × (node_of i (reversed_at ways b place now₁ now₂ t list₁ list₂).first.table ≡ node_of i (apply ways b now₁ t list).table)
    first-time q =
        let n = not-second q in
        let w = sym (whole-first now₁ n) in (
          ap (node_of i) in_order ∙ untouched (apply_node ways now₂) two (took now₁ one t) i n ∙ w,
          ap (node_of i) in-reverse ∙ agree (apply_node ways now₁) one (took now₂ two t) t i (untouched (apply_node ways now₂) two t i n) ∙ w,
        )

    -- and what the first does not name, as if it had come with the second
    pub second-time : among i (named (ways.reads (take place b))) ≡ false
        → (node_of i (in_order_at ways b place now₁ now₂ t list₁ list₂).second.table ≡ node_of i (apply ways b now₂ t list).table)
        × (node_of i (reversed_at ways b place now₁ now₂ t list₁ list₂).first.table ≡ node_of i (apply ways b now₂ t list).table)
    second-time q =
        let n = not_first q in
        let w = sym (whole-second now₂ n) in (
          ap (node_of i) in_order ∙ agree (apply_node ways now₂) two (took now₁ one t) t i (untouched (apply_node ways now₁) one t i n) ∙ w,
          ap (node_of i) in-reverse ∙ untouched (apply_node ways now₁) one (took now₂ two t) i n ∙ w,
        )
