-- A refused computing by a plan leaves the datagram. Assumes nothing.
use Prim.Native.Nat.{ℕ}
use mathlib.Core.Bool.{Bool, ◌&&◌, false, true}
use mathlib.Core.List.{List}
use mathlib.Core.Path.{◌≡◌, refl}
use native.Mathlib.Omega.{arith}
use lib.Dec.{leb}
use Rattle.fields.specs.Choice.{pick}
use Rattle.fields.specs.Numbers.{Bytes}
use Rattle.rules.specs.Compute.{written}
use Rattle.rules.specs.Digest.{DigestRead, Entries, Refused, fits_at, is_edition, read_digest}
use Rattle.rules.specs.Given.{Given, given}
use Rattle.rules.specs.Sizes.{least_mtu, max_delta}
use Rattle.rules.specs.Table.{Table}
use Rattle.std.specs.Prelude.{Err, Result}
use Rattle.rules.specs.declared.Sent.{Sent}
use Rattle.rules.specs.declared.Refusal.{Refusal}
use Rattle.rules.specs.declared.Refusal.TheVariants.{BadEdition, BadMtu, BadPlan, NoPlace}
use Rattle.plan.specs.Plan.{accepts, compute_plan, delta_by, plan_on}

module _ (edition : ℕ) (excluded nodes counts : List ℕ) (mtu place : ℕ) (digest : Bytes) (t : Table) (l : Bytes) (r : Refusal) where
  abbrev Leaves : Given (Result Sent Refusal) Bytes → Type 0
  Leaves o = o.answer ≡ Err r → o.lent ≡ l

  pub plan-refused : Leaves (compute_plan edition excluded nodes counts mtu place digest t l)
  unfolding compute_plan
  plan-refused = go (is_edition edition) (leb least_mtu mtu && leb mtu max_delta) (fits_at place mtu l) (read_digest edition digest)
    where
      by : (b : Bool) (d : Given (Result Sent Refusal) Bytes) → Leaves d → Leaves (pick b d (given (Err BadPlan) l))
      by true d h e = h e
      by false d h e = refl

      on : (x : DigestRead) → Leaves (plan_on excluded nodes counts mtu place x t l)
      on (Entries ds rest) =
          by (accepts excluded nodes counts mtu ds t) (written (delta_by excluded nodes counts ds t) place l) (λ e. let z : ◌≡◌ {A = ℕ} 0 1 = cc in absurd (omega arith))
      on (Refused s) = λ e. refl

      go : (a b c : Bool) (x : DigestRead)
          → Leaves (pick a (pick b (pick c (plan_on excluded nodes counts mtu place x t l) (given (Err NoPlace) l)) (given (Err BadMtu) l)) (given (Err BadEdition) l))
      go false b c x e = refl
      go true false c x e = refl
      go true true false x e = refl
      go true true true x e = on x e
