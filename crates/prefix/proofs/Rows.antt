-- The rows of a prefix are the records whose keys begin with it: of records whose keys ascend, as many as begin with the prefix, behind as many as come
-- before it, are those that begin with it. They are rows of the node's. Assumes nothing.
use Prim.Native.Nat.{ℕ, suc, ◌+◌, ◌*◌, ◌≤◌, zero-le}
use mathlib.Core.Path.{◌≡◌, refl, ap, sym, ◌∙◌}
use mathlib.Core.Bool.{Bool, true, false, false≢true}
use mathlib.Core.List.{List, [], ◌∷◌}
use mathlib.Core.Option.{Option, none, some}
use native.Mathlib.Omega.{arith}
use lib.ListN.{length, take, drop}
use lib.Dec.{leb}
use Rattle.fields.specs.Choice.{pick, keep, ◌∈◌, here, later}
use Rattle.fields.specs.Order.{less_bytes, starts_with}
use Rattle.fields.proofs.Ordered.{less-not, less-trans}
use Rattle.rules.specs.Sizes.{max_key}
use Rattle.rules.specs.Node.{Rec, Node}
use Rattle.rules.specs.Table.{Table, node_of}
use Rattle.rules.specs.Layout.{rec_width, rec_place}
use Rattle.rules.specs.declared.Refusal.{Refusal}
use Rattle.rules.specs.declared.Refusal.TheVariants.{TooLong, NoNode}
use Rattle.rules.proofs.Records.{Above, Sorted, key_of}
use Rattle.table_read.specs.Find.{node_start}
use Rattle.rules.proofs.Results.{ok-is}
use Rattle.inspect.specs.declared.Rows.{Rows}
use Rattle.inspect.specs.Look.{rows_on, node_rows}
use Rattle.std.specs.Prelude.{Err, Ok, Result}
use Rattle.prefix.specs.Rows.{earlier, begun, run_rows, prefix_rows_on, prefix_rows}
use Rattle.prefix.proofs.Run.{early-not, between}

-- none is kept where none passes
none_kept : (f : Rec → Bool) (l : List Rec) → ((x : Rec) → x ∈ l → f x ≡ false) → keep f l ≡ []
unfolding keep
none_kept f [] h = refl
none_kept f (r ∷ l) h = ap (λ (t : Bool). pick t (r ∷ keep f l) (keep f l)) (h r (here refl)) ∙ none_kept f l (λ x m. h x (later m))

module _ (k : List ℕ) where
  abbrev rows : List Rec → List Rec
  rows l = take (length (keep (begun k) l)) (drop (length (keep (earlier k) l)) l)

  -- where a key is not before the prefix, none behind it is
  none-earlier : (r : Rec) (l : List Rec) → Above (key_of r) l → earlier k r ≡ false → keep (earlier k) l ≡ []
  unfolding Above
  none-earlier r l a e = none_kept (earlier k) l (λ x m. go x (less_bytes (key_of x) k) refl (a x m))
    where
      go : (x : Rec) (t : Bool) → less_bytes (key_of x) k ≡ t → less_bytes (key_of r) (key_of x) ≡ true → t ≡ false
      go x true q h = absurd (false≢true (sym e ∙ less-trans (key_of r) (key_of x) k h q))
      go x false q h = refl

  -- where it does not begin with the prefix either, none behind it does
  none-begun : (r : Rec) (l : List Rec) → Above (key_of r) l → earlier k r ≡ false → begun k r ≡ false → keep (begun k) l ≡ []
  unfolding Above
  none-begun r l a e b = none_kept (begun k) l (λ x m. go x (starts_with k (key_of x)) refl (a x m))
    where
      go : (x : Rec) (t : Bool) → starts_with k (key_of x) ≡ t → less_bytes (key_of r) (key_of x) ≡ true → t ≡ false
      go x true q h = absurd (false≢true (sym b ∙ between k (key_of r) (key_of x) e (less-not (key_of r) (key_of x) h) q))
      go x false q h = refl

  pub rows-begin : (l : List Rec) → Sorted l → rows l ≡ keep (begun k) l
  unfolding keep Sorted
  rows-begin [] s = refl
  rows-begin (r ∷ l) s = go (earlier k r) (begun k r) refl refl (rows-begin l s.1)
    where
      go : (t u : Bool) → earlier k r ≡ t → begun k r ≡ u → rows l ≡ keep (begun k) l
          → take (length (pick u (r ∷ keep (begun k) l) (keep (begun k) l))) (drop (length (pick t (r ∷ keep (earlier k) l) (keep (earlier k) l))) (r ∷ l))
          ≡ pick u (r ∷ keep (begun k) l) (keep (begun k) l)
      go true true e b ih = absurd (false≢true (sym (early-not k (key_of r) e) ∙ b))
      go true false e b ih = ih
      go false true e b ih =
          let z : keep (earlier k) l ≡ [] = none-earlier r l s.0 e in
          ap (λ (x : List Rec). take (suc (length (keep (begun k) l))) (drop (length x) (r ∷ l))) z
          ∙ ap (λ (x : List Rec). r ∷ x) (ap (λ (x : List Rec). take (length (keep (begun k) l)) (drop (length x) l)) (sym z) ∙ ih)
      go false false e b ih =
          let z : keep (begun k) l ≡ [] = none-begun r l s.0 e b in
          ap (λ (x : List Rec). take (length x) (drop (length (keep (earlier k) l)) (r ∷ l))) z ∙ sym z

  -- a record that comes before the prefix does not begin with it
  both-fit : (l : List Rec) → length (keep (earlier k) l) + length (keep (begun k) l) ≤ length l
  unfolding keep
  both-fit [] = zero-le
  both-fit (r ∷ l) = go (earlier k r) (begun k r) refl refl (both-fit l)
    where
      go : (t u : Bool) → earlier k r ≡ t → begun k r ≡ u → length (keep (earlier k) l) + length (keep (begun k) l) ≤ length l
          → length (pick t (r ∷ keep (earlier k) l) (keep (earlier k) l)) + length (pick u (r ∷ keep (begun k) l) (keep (begun k) l)) ≤ suc (length l)
      go true true e b ih = absurd (false≢true (sym (early-not k (key_of r) e) ∙ b))
      go true false e b ih = omega arith
      go false true e b ih = omega arith
      go false false e b ih = omega arith

-- `m` rows that begin at `at` are some of the `n` rows that begin at `all`
pub record Among (at m all n : ℕ) : Type 0 where
  pub first : ℕ
  pub begins : at ≡ all + first * rec_width
  pub inside : first + m ≤ n

-- a refusal is no rows
never : (why : Refusal) (at m : ℕ) → ◌≡◌ {A = Result Rows Refusal} (Err why) (Ok (record { at = at; count = m })) → ⊥
never why at m e = let y : ◌≡◌ {A = ℕ} 0 1 = cc in absurd (omega arith)

among-on : (k : List ℕ) (start : ℕ) (held : Option Node) (at m all n : ℕ) → prefix_rows_on k start held ≡ (Ok (record { at = at; count = m })) → rows_on start held ≡ (Ok (record { at = all; count = n })) → Among at m all n
among-on k start none at m all n e f = absurd (never NoNode at m e)
among-on k start (some x) at m all n e f = go (leb (length k) max_key) e
  where
    go : (t : Bool) → pick t (run_rows k start x.recs) (Err TooLong) ≡ (Ok (record { at = at; count = m })) → Among at m all n
    go false q = absurd (never TooLong at m q)
    go true q =
        let first : ℕ = length (keep (earlier k) x.recs) in
        let a : at ≡ start + rec_place first = ap (λ (x : Rows). x.at) (sym (ok-is _ _ q)) in
        let b : m ≡ length (keep (begun k) x.recs) = ap (λ (x : Rows). x.count) (sym (ok-is _ _ q)) in
        let c : all ≡ start + rec_place 0 = ap (λ (x : Rows). x.at) (sym (ok-is _ _ f)) in
        let d : n ≡ length x.recs = ap (λ (x : Rows). x.count) (sym (ok-is _ _ f)) in
        record { first = first; begins = omega arith; inside = omega (arith, both-fit k x.recs) }

pub rows-among : (number : ℕ) (k : List ℕ) (t : Table) (at m all n : ℕ) → prefix_rows number k t ≡ (Ok (record { at = at; count = m })) → node_rows number t ≡ (Ok (record { at = all; count = n })) → Among at m all n
rows-among number k t at m all n e f = among-on k (node_start number t) (node_of number t) at m all n e f
