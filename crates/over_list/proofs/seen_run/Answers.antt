-- `over_list::seen_run` meets its contract: all records, or in a shared table the party's own. Assumes nothing.
use Prim.Native.Nat.{ℕ}
use mathlib.Core.Path.{◌≡◌, refl, sym, subst}
use mathlib.Core.Bool.{Bool, true}
use mathlib.Core.List.{List}
use native.Mathlib.Omega.{arith}
use Rattle.rules.specs.Party.{sees}
use Rattle.rules.specs.declared.Profile.{Profile}
use Rattle.rules.specs.declared.Party.{Party}
use Rattle.table.specs.Tests.{count_of}
use Rattle.over_list.specs.Turns.{PassIn}
use Rattle.over_list.proofs.seen_run.Goals as goal

all_pass : (f : List ℕ → Bool) (b : List ℕ) (n : ℕ) → n ≡ count_of b → ((k : List ℕ) → f k ≡ true) → PassIn f b 0 n
all_pass f b n e h =
    record { order = omega arith; inside = omega arith; before = λ j i. absurd (omega arith); within = λ j i g. h _; behind = λ j i g. absurd (omega arith) }

told : {p x : Profile} → p ≡ x → (q : Party) (b : List ℕ) (start end : ℕ) → PassIn (sees x q) b start end → PassIn (sees p q) b start end
told e q b start end h = subst (λ (y : Profile). PassIn (sees y q) b start end) (sym e) h

pub returns-in-Free : goal.returns-in-Free
returns-in-Free c =
    let a = c.args in
    told c.in-Free.is a.party a.overrides.now _ _ (all_pass _ a.overrides.now _ c.byte_at-n.ensures.0 (λ k. refl))

pub returns-in-Meter : goal.returns-in-Meter
returns-in-Meter c =
    let a = c.args in
    told c.in-Meter.is a.party a.overrides.now _ _ (all_pass _ a.overrides.now _ c.byte_at-n.ensures.0 (λ k. refl))

pub returns-in-Shared : goal.returns-in-Shared
returns-in-Shared c =
    let a = c.args in
    told c.in-Shared.is a.party a.overrides.now _ _ c.own_run.ensures
