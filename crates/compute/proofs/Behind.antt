-- How a digest stands to a node, case by case. Assumes nothing.
use Prim.Native.Nat.{ℕ, ◌≤◌, ◌<◌}
use mathlib.Core.Path.{◌≡◌, refl, sym, ap, ap₂, ◌∙◌}
use mathlib.Core.Bool.{Bool, true, false, not, ◌&&◌}
use mathlib.Core.List.{List}
use native.Mathlib.Omega.{arith}
use lib.Dec.{ltb}
use borrow.Author.Tests.{lt-ltb, le-ltb}
use Rattle.fields.specs.Choice.{pick}
use Rattle.rules.specs.Table.{Table, among}
use Rattle.rules.specs.Digest.{NodeDigest}
use Rattle.rules.specs.Compute.{told_of, from_of}
use Rattle.digest_read.specs.Held.{pair_of}
use Rattle.rules.specs.declared.Pair.{Pair}
use Rattle.table_read.specs.Find.{entry_at}
use Rattle.compute_order.specs.Line.{is_stale}
use Rattle.compute.specs.Lined.{from_at, staleness_of}
use Rattle.std.specs.Prelude.{None, Option, Some}

-- ---- from

module _ (own gc max : ℕ) where
  pub gc-told : own ≤ gc → max ≡ from_of own gc max
  unfolding from_of
  gc-told h = rw (from_of, le-ltb gc own h) refl

  pub gc-reached : gc < own → own ≤ max → max ≡ from_of own gc max
  unfolding from_of
  gc-reached h g = rw (from_of, lt-ltb gc own h, le-ltb max own g) refl

  pub gc-missed : gc < own → max < own → 0 ≡ from_of own gc max
  unfolding from_of
  gc-missed h g = rw (from_of, lt-ltb gc own h, lt-ltb max own g) refl

-- ---- a node

module _ (excluded : List ℕ) (ds : List NodeDigest) (t : Table) (p n : ℕ) (e : n ≡ (entry_at t p).number) where
  is-so : (b c : Bool) → among n excluded ≡ b → ltb (told_of n ds).max (entry_at t p).node.max ≡ c → is_stale excluded ds t p ≡ (not b && c)
  is-so b c f g =
      ap₂ (λ (x : Bool) (y : Bool). not x && y) (ap (λ (k : ℕ). among k excluded) (sym e) ∙ f)
      (ap (λ (k : ℕ). ltb (told_of k ds).max (entry_at t p).node.max) (sym e) ∙ g)

  pub left_out : (b : Bool) → b ≡ among n excluded → b ≡ true → None ≡ staleness_of excluded ds t p
  left_out b f g =
      ap (λ (x : Bool). pick x (Some (from_at ds t p)) None)
      (sym (is-so true (ltb (told_of n ds).max (entry_at t p).node.max) (sym f ∙ g) refl))

  module _ (b : Bool) (f : b ≡ among n excluded) (g : b ≡ false) (r : Pair) (told : r ≡ pair_of (told_of n ds)) (m : ℕ) (own : m ≡ (entry_at t p).node.max) where
    told-max : r.max ≡ (told_of n ds).max
    told-max = ap (λ (x : Pair). x.max) told

    pub level : m ≤ r.max → None ≡ staleness_of excluded ds t p
    level h =
        let no : ltb (told_of n ds).max (entry_at t p).node.max ≡ false = le-ltb (told_of n ds).max (entry_at t p).node.max (rw (← told-max, ← own) h) in
        ap (λ (x : Bool). pick x (Some (from_at ds t p)) None) (sym (is-so false false (sym f ∙ g) no))

    pub behind : r.max < m → (w x : ℕ) → w ≡ (entry_at t p).node.last_gc → x ≡ from_of w r.last_gc r.max → Some x ≡ staleness_of excluded ds t p
    behind h w x q k =
        let yes : ltb (told_of n ds).max (entry_at t p).node.max ≡ true = lt-ltb (told_of n ds).max (entry_at t p).node.max (rw (← told-max, ← own) h) in
        let is : x ≡ from_at ds t p =
        k
        ∙ (λ i. from_of (q i) (told i).last_gc (told i).max)
        ∙ ap (λ (j : ℕ). from_of (entry_at t p).node.last_gc (told_of j ds).last_gc (told_of j ds).max) e in
        ap Some is ∙ ap (λ (x : Bool). pick x (Some (from_at ds t p)) None) (sym (is-so false true (sym f ∙ g) yes))

-- what an answer says
module _ (excluded : List ℕ) (ds : List NodeDigest) (t : Table) (p : ℕ) (r : (Option ℕ)) (e : r ≡ staleness_of excluded ds t p) where
  pub told-stale : (x : ℕ) → r ≡ Some x → (is_stale excluded ds t p ≡ true) × (x ≡ from_at ds t p)
  told-stale x f = go (is_stale excluded ds t p) (sym f ∙ e)
    where
      go : (b : Bool) → Some x ≡ pick b (Some (from_at ds t p)) None → (b ≡ true) × (x ≡ from_at ds t p)
      go true q = (refl, cc)
      go false q = let z : ◌≡◌ {A = ℕ} 0 1 = cc in absurd (omega arith)

  pub told-level : r ≡ None → is_stale excluded ds t p ≡ false
  told-level f = go (is_stale excluded ds t p) (sym f ∙ e)
    where
      go : (b : Bool) → None ≡ pick b (Some (from_at ds t p)) None → b ≡ false
      go true q = let z : ◌≡◌ {A = ℕ} 0 1 = cc in absurd (omega arith)
      go false q = refl
