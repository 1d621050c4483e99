-- `delta_status::check_delta_status` meets its contract: step by step. Assumes nothing.
use Prim.Native.Nat.{ℕ, ◌≤◌, ◌<◌}
use mathlib.Core.Bool.{true, false}
use mathlib.Core.Path.{◌≡◌, ◌∙◌, sym}
use native.Mathlib.Omega.{arith}
use borrow.Author.Tests.{lt-ltb, le-ltb, eq-eqb, ne_eqb}
use Rattle.rules.specs.Apply.{Fence, status_of, newer_of, ways_of}
use Rattle.rules.specs.declared.DeltaStatus.TheVariants.{Reject, ApplyAfterReset, Fenced}
use Rattle.delta_status.proofs.check_delta_status.Goals as goal

-- on plain numbers
module _ (fence : Fence) (g m from gc max : ℕ) where
  ahead : m < from → Reject ≡ status_of fence g m from gc max
  unfolding status_of
  ahead h = rw (lt-ltb m from h)

  off : from ≤ m → fence g m gc max ≡ true → Fenced ≡ status_of fence g m from gc max
  unfolding status_of
  off h e = rw (le-ltb m from h, e)

  not-gc : from ≤ m → fence g m gc max ≡ false → gc ≤ g → newer_of m max ≡ status_of fence g m from gc max
  unfolding status_of
  not-gc h o k = rw (le-ltb m from h, o, le-ltb g gc k)

  not-max : from ≤ m → fence g m gc max ≡ false → g < gc → gc ≤ m → newer_of m max ≡ status_of fence g m from gc max
  unfolding status_of
  not-max h o j k = rw (le-ltb m from h, o, lt-ltb g gc j, le-ltb m gc k)

  due : from ≤ m → fence g m gc max ≡ false → g < gc → m < gc → from ≡ 0 → ApplyAfterReset ≡ status_of fence g m from gc max
  unfolding status_of
  due h o j k e = rw (le-ltb m from h, o, lt-ltb g gc j, lt-ltb m gc k, eq-eqb from 0 e)

  late : from ≤ m → fence g m gc max ≡ false → g < gc → m < gc → (from ≡ 0 → ⊥) → Reject ≡ status_of fence g m from gc max
  unfolding status_of
  late h o j k e = rw (le-ltb m from h, o, lt-ltb g gc j, lt-ltb m gc k, ne_eqb from 0 e)

pub returns-then-own_max-from : goal.returns-then-own_max-from
returns-then-own_max-from c =
    ahead _ _ _ _ _ _ (omega arith)

pub returns-then-is_fenced : goal.returns-then-is_fenced
returns-then-is_fenced c =
    off _ _ _ _ _ _ (omega arith) (sym c.is_fenced.ensures ∙ c.if-is_fenced.true)

pub returns-then-last_gc-own_last_gc : goal.returns-then-last_gc-own_last_gc
returns-then-last_gc-own_last_gc c =
    let let-in : let a = c.args in (ways_of a.mode).fence a.own_last_gc a.own_max a.last_gc a.max ≡ false = sym c.is_fenced.ensures ∙ c.if-is_fenced.false in
    c.check_newer.ensures ∙ not-gc _ _ _ _ _ _ (omega arith) (let-in) (omega arith)

pub returns-then-last_gc-own_max : goal.returns-then-last_gc-own_max
returns-then-last_gc-own_max c =
    let let-in : let a = c.args in (ways_of a.mode).fence a.own_last_gc a.own_max a.last_gc a.max ≡ false = sym c.is_fenced.ensures ∙ c.if-is_fenced.false in
    c.check_newer-then-last_gc-own_max.ensures ∙ not-max _ _ _ _ _ _ (omega arith) (let-in) (omega arith) (omega arith)

pub returns-then-from-eq0 : goal.returns-then-from-eq0
returns-then-from-eq0 c =
    let let-in : let a = c.args in (ways_of a.mode).fence a.own_last_gc a.own_max a.last_gc a.max ≡ false = sym c.is_fenced.ensures ∙ c.if-is_fenced.false in
    due _ _ _ _ _ _ (omega arith) (let-in) (omega arith) (omega arith) (omega arith)

pub returns : goal.returns
returns c =
    let let-in : let a = c.args in (ways_of a.mode).fence a.own_last_gc a.own_max a.last_gc a.max ≡ false = sym c.is_fenced.ensures ∙ c.if-is_fenced.false in
    late _ _ _ _ _ _ (omega arith) (let-in) (omega arith) (omega arith) (omega arith)
