-- What a hub's digest tells, the hub has: a row that a digest of its own told, with any nodes left out, says nothing that the hub has not; and as no max falls in a
-- careful net (`maxes_rise`), the hub has it at every later moment, so that old and repeated digests serve as well. Assumes nothing.
use Prim.Native.Nat.{ℕ, zero, suc, ◌≤◌, ◌<◌}
use mathlib.Core.Path.{◌≡◌, ◌∙◌, ap, refl, subst, sym}
use mathlib.Core.Bool.{Bool, true, false}
use mathlib.Core.List.{List, [], ◌∷◌, ◌++◌, map}
use mathlib.Core.Option.{some}
use native.Mathlib.Omega.{arith}
use lib.Dec.{eqb}
use lib.ListN.{length, take, get_or, set}
use lib.Seq.{get_or-set_same}
use borrow.Author.Tests.{eqb-true}
use Rattle.fields.specs.Choice.{pick}
use Rattle.fields.specs.Blocks.{fit, zeros}
use Rattle.rules.specs.Sizes.{max_nodes}
use Rattle.rules.specs.Compute.{told_of}
use Rattle.rules.specs.Digest.{NodeDigest, digest_of, digest_of_node}
use Rattle.rules.specs.Table.{Table, among, node_of}
use Rattle.grid.specs.Grid.{Grid, columns, place_of, row_told, tell_row}
use Rattle.net_careful.specs.Careful.{ToldBy, max_at, max_on}

-- ---- a digest

-- of a node that it leaves out it tells 0
left_out : (excluded : List ℕ) (t : Table) (i : ℕ) → among i excluded ≡ true → (told_of i (digest_of excluded t)).max ≡ 0
unfolding told_of digest_of
left_out excluded [] i e = refl
left_out excluded (a ∷ t) i e = go (among a.number excluded) refl (left_out excluded t i e)
  where
    go : (b : Bool) → among a.number excluded ≡ b → (told_of i (digest_of excluded t)).max ≡ 0 → (told_of i (pick b (digest_of excluded t) (digest_of_node a ∷ digest_of excluded t))).max ≡ 0
    go true q h = h
    go false q h = by (eqb i a.number) refl
      where
        by : (c : Bool) → eqb i a.number ≡ c → (pick c (digest_of_node a) (told_of i (digest_of excluded t))).max ≡ 0
        by true p = let z : true ≡ false = sym e ∙ ap (λ (k : ℕ). among k excluded) (eqb-true i a.number p) ∙ q in absurd (differ z)
          where
            differ : true ≡ false → ⊥
            differ z = let y : ◌≡◌ {A = ℕ} 0 1 = cc in omega arith
        by false p = h

pub digest-has : (excluded : List ℕ) (t : Table) (i : ℕ) → (told_of i (digest_of excluded t)).max ≤ max_at i t
unfolding told_of digest_of node_of
digest-has excluded [] i = omega arith
digest-has excluded (a ∷ t) i = go (among a.number excluded) refl (eqb i a.number) refl (digest-has excluded t i)
  where
    go : (b : Bool) → among a.number excluded ≡ b → (c : Bool) → eqb i a.number ≡ c → (told_of i (digest_of excluded t)).max ≤ max_at i t
        → (told_of i (pick b (digest_of excluded t) (digest_of_node a ∷ digest_of excluded t))).max ≤ max_on (pick (eqb i a.number) (some a.node) (node_of i t))
    go true q true p h =
        let z = left_out excluded t i (ap (λ (k : ℕ). among k excluded) (eqb-true i a.number p) ∙ q) in
        omega arith
    go true q false p h = subst (λ (c : Bool). (told_of i (digest_of excluded t)).max ≤ max_on (pick c (some a.node) (node_of i t))) (sym p) h
    go false q true p h =
        subst (λ (c : Bool). (pick c (digest_of_node a) (told_of i (digest_of excluded t))).max ≤ max_on (pick c (some a.node) (node_of i t))) (sym p) (omega arith)
    go false q false p h =
        subst (λ (c : Bool). (pick c (digest_of_node a) (told_of i (digest_of excluded t))).max ≤ max_on (pick c (some a.node) (node_of i t))) (sym p) h

-- ---- a row

pub behind : (n j : ℕ) → get_or (zeros n) j 0 ≡ 0
unfolding zeros
behind zero j = refl
behind (suc n) zero = refl
behind (suc n) (suc j) = behind n j

with-zeros : (xs : List ℕ) (n j : ℕ) → get_or (xs ++ zeros n) j 0 ≡ get_or xs j 0
with-zeros [] n j = behind n j
with-zeros (x ∷ xs) n zero = refl
with-zeros (x ∷ xs) n (suc j) = with-zeros xs n j

pub taken : (n : ℕ) (l : List ℕ) (j : ℕ) → get_or (take n l) j 0 ≤ get_or l j 0
taken zero l j = omega arith
taken (suc n) [] j = omega arith
taken (suc n) (x ∷ l) zero = omega arith
taken (suc n) (x ∷ l) (suc j) = taken n l j

row_at : (f : ℕ → ℕ) (cols : List ℕ) (i : ℕ) → get_or (map f cols) (place_of i cols) 0 ≤ f i
unfolding place_of
row_at f [] i = omega arith
row_at f (n ∷ ns) i = go (eqb i n) refl (row_at f ns i)
  where
    go : (b : Bool) → eqb i n ≡ b → get_or (map f ns) (place_of i ns) 0 ≤ f i → get_or (f n ∷ map f ns) (pick b 0 (suc (place_of i ns))) 0 ≤ f i
    go true q h = subst (λ (k : ℕ). f n ≤ f k) (sym (eqb-true i n q)) (omega arith)
    go false q h = h

pub row_has : (ds : List NodeDigest) (cols : List ℕ) (i : ℕ) → get_or (row_told (λ d. d.max) ds cols) (place_of i cols) 0 ≤ (told_of i ds).max
unfolding row_told fit
row_has ds cols i =
    let f : ℕ → ℕ = λ k. (told_of k ds).max in
    let a = taken max_nodes (map f cols ++ zeros max_nodes) (place_of i cols) in
    let b = with-zeros (map f cols) max_nodes (place_of i cols) in
    let c = row_at f cols i in
    omega arith

-- a hub of which a digest was told, in a grid that has its row
pub told-by : (g : Grid) (p : ℕ) (excluded : List ℕ) (t : Table) → p < length g.present → p < length g.maxes → ToldBy t (tell_row p (digest_of excluded t) g)
unfolding tell_row
told-by g p excluded t h k =
    record {
      peer = p;
      present = get_or-set_same g.present p 1 0 h;
      within =
          λ i.
          let a : get_or (set g.maxes p (row_told (λ d. d.max) (digest_of excluded t) (columns g))) p [] ≡ row_told (λ d. d.max) (digest_of excluded t) (columns g) =
          get_or-set_same g.maxes p (row_told (λ d. d.max) (digest_of excluded t) (columns g)) [] k in
          let b = row_has (digest_of excluded t) (columns g) i in
          let c = digest-has excluded t i in
          let e = ap (λ (r : List ℕ). get_or r (place_of i (columns g)) 0) a in
          omega arith;
    }

-- it has what it told as long as no max falls
pub told-still : (t u : Table) (g : Grid) → ((i : ℕ) → max_at i t ≤ max_at i u) → ToldBy t g → ToldBy u g
told-still t u g up d = record { peer = d.peer; present = d.present; within = λ i. let a = d.within i in let b = up i in omega arith }
