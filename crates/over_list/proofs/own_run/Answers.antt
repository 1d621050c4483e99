-- `over_list::own_run` meets its contract: the run of the party's own keys. Assumes nothing.
use Prim.Native.Nat.{ℕ}
use mathlib.Core.Path.{◌≡◌, refl, sym, subst}
use mathlib.Core.List.{List}
use native.Mathlib.Omega.{arith}
use Rattle.fields.specs.Order.{starts_with}
use Rattle.rules.specs.Party.{metering_keys, building_keys, own}
use Rattle.rules.specs.declared.Party.{Party}
use Rattle.prefix.specs.Run.{RunOf}
use Rattle.over_list.specs.Turns.{PassIn}
use Rattle.over_list.proofs.own_run.Goals as goal

-- a run is of the keys that begin so
passes : (k b : List ℕ) (start end : ℕ) → RunOf k b start end → PassIn (starts_with k) b start end
passes k b start end r =
    record { order = r.order; inside = r.inside; before = r.before; within = r.within; behind = r.behind }

told : {p x : Party} → p ≡ x → (b : List ℕ) (start end : ℕ) → PassIn (own x) b start end → PassIn (own p) b start end
told e b start end h = subst (λ (y : Party). PassIn (own y) b start end) (sym e) h

pub returns-in-Metering : goal.returns-in-Metering
returns-in-Metering c =
    let a = c.args in
    told c.in-Metering.is a.overrides.now _ _ (passes metering_keys a.overrides.now _ _ c.run_of.ensures)

pub returns-in-Building : goal.returns-in-Building
returns-in-Building c =
    let a = c.args in
    told c.in-Building.is a.overrides.now _ _ (passes building_keys a.overrides.now _ _ c.run_of-in-Building.ensures)

pub returns-in-Nobody : goal.returns-in-Nobody
returns-in-Nobody c =
    let a = c.args in
    told c.in-Nobody.is a.overrides.now _ _
    (record { order = omega arith; inside = omega arith; before = λ j h. absurd (omega arith); within = λ j h g. absurd (omega arith); behind = λ j h g. refl })
