-- `table_check::numbers_rise` meets its contract: the numbers that are left rise where all do, by `rising-turn` of the rules. Assumes nothing.
use Prim.Native.Nat.{ℕ, zero, suc, ◌+◌, ◌-◌, ◌≤◌, ◌<◌}
use mathlib.Core.Path.{◌≡◌, refl, sym, ap, ◌∙◌}
use mathlib.Core.Bool.{true, false, ◌&&◌}
use mathlib.Core.List.{List, [], ◌∷◌}
use native.Mathlib.Omega.{arith}
use lib.ListN.{length, drop, get_or}
use lib.Dec.{ltb}
use borrow.Author.Tests.{lt-ltb, le-ltb}
use Rattle.fields.specs.Numbers.{nat_of}
use Rattle.fields.specs.Parts.{part}
use Rattle.fields.proofs.Choice.{and_yes, and_no}
use Rattle.rules.specs.Sizes.{max_nodes}
use Rattle.rules.specs.Table.{Entry, Table, rising, numbers_of}
use Rattle.rules.specs.Layout.{node_place, decode_node, decode, table_width}
use Rattle.rules.proofs.Obeys.{rising-turn, rising-last}
use Rattle.table.specs.Tests.{nodes_of}
use Rattle.table.proofs.Places.{decode-at, number_at}
use Rattle.table.proofs.Tables.{length-decode}
use Rattle.table_check.proofs.numbers_rise.Goals as goal

-- ---- the numbers of a table
numbers-long : (t : Table) → length (numbers_of t) ≡ length t
unfolding numbers_of
numbers-long [] = refl
numbers-long (e ∷ t) = ap suc (numbers-long t)

number_of : (t : Table) (i : ℕ) (d : Entry) → i < length t → get_or (numbers_of t) i 0 ≡ (get_or t i d).number
unfolding numbers_of
number_of [] i d h = absurd (omega arith)
number_of (e ∷ t) zero d h = refl
number_of (e ∷ t) (suc i) d h = number_of t i d (omega arith)

module _ (l : List ℕ) (long : length l ≡ table_width) (few : nodes_of l ≤ max_nodes) where
  all : length (numbers_of (decode l)) ≡ nodes_of l
  all = numbers-long (decode l) ∙ length-decode l

  -- what was read is the number of node i
  read : (i x : ℕ) → i < nodes_of l → x ≡ nat_of (part (node_place i) 8 l) → x ≡ get_or (numbers_of (decode l)) i 0
  read i x h e =
      let d : Entry = decode_node [] in
      e
      ∙ sym (number_at i l long (omega arith))
      ∙ sym (ap (λ (y : Entry). y.number) (decode-at i l d h))
      ∙ sym (number_of (decode l) i d (rw length-decode h))

  -- the numbers of node i and of the next, read at p and at q
  module _ (i j x y p q : ℕ) (s : j ≡ i + 1) (h : j < nodes_of l) (ep : p ≡ node_place i) (eq : q ≡ node_place j) (ex : x ≡ nat_of (part p 8 l)) (ey : y ≡ nat_of (part q 8 l)) where
    turn : (k : ℕ) → k ≡ i + 1 → rising (drop i (numbers_of (decode l))) ≡ (ltb x y && rising (drop k (numbers_of (decode l))))
    turn k u =
        let first = read i x (omega arith) (ex ∙ ap (λ (z : ℕ). nat_of (part z 8 l)) ep) in
        let second = read j y h (ey ∙ ap (λ (z : ℕ). nat_of (part z 8 l)) eq) ∙ ap (λ (z : ℕ). get_or (numbers_of (decode l)) z 0) s in
        rising-turn (numbers_of (decode l)) i x y (rw all (omega arith)) first second
        ∙ ap (λ (z : ℕ). ltb x y && rising (drop z (numbers_of (decode l)))) (sym u)

    on : (k : ℕ) → k ≡ i + 1 → x < y → rising (drop k (numbers_of (decode l))) ≡ rising (drop i (numbers_of (decode l)))
    on k u f = sym (turn k u ∙ and_yes _ _ (lt-ltb x y f))

    stop : y ≤ x → false ≡ rising (drop i (numbers_of (decode l)))
    stop f = sym (turn (i + 1) refl ∙ and_no _ _ (le-ltb x y f))

  last : (i : ℕ) → nodes_of l ≤ i + 1 → rising (drop i (numbers_of (decode l))) ≡ true
  last i h = rising-last (numbers_of (decode l)) i (rw all h)

pub loop-i-init : goal.loop-i-init
loop-i-init c =
    refl

pub loop-i-preserved : goal.loop-i-preserved
loop-i-preserved c =
    let l : List ℕ = c.args.table.now in
    on l (omega arith) (omega arith) (c.loop-i.i - 1) c.loop-i.i c.read_u64-x.result c.read_u64-y.result _ _ (omega arith) (omega arith) c.node_place.ensures c.node_place-in-loop-i.ensures c.read_u64-x.ensures c.read_u64-y.ensures (c.loop-i.i + 1 - 1) (omega arith) (omega arith)
    ∙ c.loop-i.invariant

pub returns-then-y-x : goal.returns-then-y-x
returns-then-y-x c =
    let l : List ℕ = c.args.table.now in
    stop l (omega arith) (omega arith) (c.loop-i.i - 1) c.loop-i.i c.read_u64-x.result c.read_u64-y.result _ _ (omega arith) (omega arith) c.node_place.ensures c.node_place-in-loop-i.ensures c.read_u64-x.ensures c.read_u64-y.ensures (omega arith)
    ∙ c.loop-i.invariant

pub returns : goal.returns
returns c =
    let l : List ℕ = c.args.table.now in
    sym (last l (omega arith) (omega arith) (c.loop-i.i - 1) (omega arith)) ∙ c.loop-i.invariant
