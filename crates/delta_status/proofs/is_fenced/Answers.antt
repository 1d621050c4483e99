-- `delta_status::is_fenced` meets its contract: what no mode fences off, and then by the mode. Assumes nothing.
use Prim.Native.Nat.{ℕ, ◌≤◌, ◌<◌}
use mathlib.Core.Path.{◌≡◌, refl}
use mathlib.Core.Bool.{Bool, true, false, ◌&&◌}
use native.Mathlib.Omega.{arith}
use borrow.Author.Tests.{lt-ltb, le-ltb}
use lib.Dec.{ltb}
use Rattle.rules.specs.Apply.{ways_of}
use Rattle.rules.specs.declared.Mode.{Mode}
use Rattle.rules.specs.declared.Mode.TheVariants.{Plain, Fenced, Guarded}
use Rattle.delta_status.proofs.is_fenced.Goals as goal

never : (b : Bool) → false ≡ (b && false)
never true = refl
never false = refl

-- on plain numbers
module _ (g m gc x : ℕ) where
  within : (v : Mode) → g ≤ m → false ≡ (ways_of v).fence g m gc x
  within Plain h = refl
  within Fenced h = rw (le-ltb m g h)
  within Guarded h = rw (le-ltb m g h)

  as-old : (v : Mode) → g ≤ gc → false ≡ (ways_of v).fence g m gc x
  as-old Plain h = refl
  as-old Fenced h = rw (le-ltb gc g h) (never (ltb m g))
  as-old Guarded h = rw (le-ltb gc g h) (never (ltb m g))

  fenced : (v : Mode) → v ≡ Fenced → m < g → gc < g → true ≡ (ways_of v).fence g m gc x
  fenced v e h k = rw (e, lt-ltb m g h, lt-ltb gc g k)

  guarded : (v : Mode) → v ≡ Guarded → m < g → gc < g → ltb x g ≡ (ways_of v).fence g m gc x
  guarded v e h k = rw (e, lt-ltb m g h, lt-ltb gc g k)

pub returns-then-own_last_gc-own_max : goal.returns-then-own_last_gc-own_max
returns-then-own_last_gc-own_max c =
    let a = c.args in
    within a.own_last_gc a.own_max a.last_gc a.max a.mode c.if-own_last_gc-own_max.true

pub returns-then-own_last_gc-last_gc : goal.returns-then-own_last_gc-last_gc
returns-then-own_last_gc-last_gc c =
    let a = c.args in
    as-old a.own_last_gc a.own_max a.last_gc a.max a.mode c.if-own_last_gc-last_gc.true

pub returns-in-Fenced : goal.returns-in-Fenced
returns-in-Fenced c =
    fenced _ _ _ _ _ c.in-Fenced.is (omega arith) (omega arith)

pub returns-in-Guarded : goal.returns-in-Guarded
returns-in-Guarded c =
    guarded _ _ _ _ _ c.in-Guarded.is (omega arith) (omega arith)
