-- What a table that obeys tells in its digest are numbers of eight bytes. Assumes nothing.
use Prim.Native.Nat.{ℕ, ◌<◌}
use mathlib.Core.Bool.{Bool, true, false}
use mathlib.Core.List.{List, [], ◌∷◌}
use mathlib.Core.Path.{refl}
use native.Mathlib.Omega.{arith}
use lib.Dec.{eqb}
use Rattle.fields.specs.Choice.{◌∈◌, here, later, pick}
use Rattle.rules.specs.Compute.{told_of}
use Rattle.rules.specs.Digest.{NodeDigest, digest_of, digest_of_node}
use Rattle.rules.specs.Sizes.{numbers}
use Rattle.rules.specs.Table.{Entry, Table, among}
use Rattle.rules.proofs.Obeys.{OkTable}

-- a number that every node has within eight bytes, and that is 0 of a node left out
told-fits : (f : NodeDigest → ℕ) → ((i : ℕ) → f (told_of i []) < numbers) → (excluded : List ℕ) (t : Table) → ((e : Entry) → e ∈ t → f (digest_of_node e) < numbers)
    → (i : ℕ) → f (told_of i (digest_of excluded t)) < numbers
unfolding told_of digest_of
told-fits f z excluded [] h i = z i
told-fits f z excluded (a ∷ t) h i = go (among a.number excluded) (told-fits f z excluded t (λ e m. h e (later m)) i)
  where
    go : (b : Bool) → f (told_of i (digest_of excluded t)) < numbers → f (told_of i (pick b (digest_of excluded t) (digest_of_node a ∷ digest_of excluded t))) < numbers
    go true ih = ih
    go false ih = by (eqb i a.number)
      where
        by : (c : Bool) → f (pick c (digest_of_node a) (told_of i (digest_of excluded t))) < numbers
        by true = h a (here refl)
        by false = ih

pub told-gc-fits : (excluded : List ℕ) (t : Table) → OkTable t → (i : ℕ) → (told_of i (digest_of excluded t)).last_gc < numbers
unfolding told_of
told-gc-fits excluded t ok = told-fits (λ d. d.last_gc) (λ i. omega arith) excluded t (λ e m. (ok.each e m).node_ok.gc_fits)

pub told-max-fits : (excluded : List ℕ) (t : Table) → OkTable t → (i : ℕ) → (told_of i (digest_of excluded t)).max < numbers
unfolding told_of
told-max-fits excluded t ok = told-fits (λ d. d.max) (λ i. omega arith) excluded t (λ e m. (ok.each e m).node_ok.max-fits)
