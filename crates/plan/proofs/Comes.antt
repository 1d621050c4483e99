-- What a planned computing comes to: a refusal, or the delta of an accepted plan, whose bytes stand in the datagram. Assumes nothing.
use Prim.Native.Nat.{◌+◌, ◌-◌, ◌≤◌, ℕ}
use mathlib.Core.Bool.{Bool, ◌&&◌, false, true}
use mathlib.Core.List.{List}
use mathlib.Core.Path.{◌≡◌, refl}
use native.Mathlib.Omega.{arith}
use lib.Dec.{leb}
use lib.ListN.{length}
use borrow.Author.Tests.{le-leb, leb-true}
use Rattle.fields.proofs.Parts.{part-put}
use Rattle.fields.specs.Choice.{pick}
use Rattle.fields.specs.Parts.{part, put}
use Rattle.rules.specs.Compute.{written}
use Rattle.rules.specs.Delta.{delta_bytes}
use Rattle.rules.specs.Digest.{DigestRead, Entries, NodeDigest, Refused, is_edition, read_digest}
use Rattle.rules.specs.Given.{Given, given}
use Rattle.rules.specs.Sizes.{least_mtu, max_delta}
use Rattle.rules.specs.Table.{Table}
use Rattle.rules.specs.declared.Refusal.{Refusal}
use Rattle.rules.specs.declared.Refusal.TheVariants.{BadEdition, BadMtu, BadPlan, NoPlace}
use Rattle.std.specs.Prelude.{Err, Result}
use Rattle.rules.specs.declared.Sent.{Sent}
use Rattle.plan.specs.Plan.{accepts, compute_plan, delta_by, plan_on}

module _ (edition : ℕ) (excluded nodes counts : List ℕ) (mtu place : ℕ) (d : List ℕ) (t : Table) (l : List ℕ) where
  pub data PlanComes : Given (Result Sent Refusal) (List ℕ) → Type 0 where
    refuses : (r : Refusal) → PlanComes (given (Err r) l)
    writes : (ds : List NodeDigest) (rest : List ℕ) → read_digest edition d ≡ Entries ds rest → accepts excluded nodes counts mtu ds t ≡ true → mtu ≤ max_delta → place + mtu ≤ length l → PlanComes (written (delta_by excluded nodes counts ds t) place l)

  pub plan-comes : PlanComes (compute_plan edition excluded nodes counts mtu place d t l)
  unfolding compute_plan
  plan-comes =
      go (is_edition edition) (leb least_mtu mtu) (leb mtu max_delta) refl (leb place (length l)) refl (leb mtu (length l - place)) refl (read_digest edition d) refl
    where
      no : Refusal → Given (Result Sent Refusal) (List ℕ)
      no r = given (Err r) l

      by : (ds : List NodeDigest) (rest : List ℕ) → read_digest edition d ≡ Entries ds rest → mtu ≤ max_delta → place + mtu ≤ length l → (b : Bool) → accepts excluded nodes counts mtu ds t ≡ b → PlanComes (pick b (written (delta_by excluded nodes counts ds t) place l) (no BadPlan))
      by ds rest e h g true q = writes ds rest e q h g
      by ds rest e h g false q = refuses BadPlan

      go : (y a b : Bool)
          → leb mtu max_delta ≡ b
          → (p : Bool)
          → leb place (length l) ≡ p
          → (q : Bool)
          → leb mtu (length l - place) ≡ q
          → (x : DigestRead)
          → read_digest edition d ≡ x
          → PlanComes (pick y (pick (a && b) (pick (p && q) (plan_on excluded nodes counts mtu place x t l) (no NoPlace)) (no BadMtu)) (no BadEdition))
      go false a b b' p p' q q' x e = refuses BadEdition
      go true false b b' p p' q q' x e = refuses BadMtu
      go true true false b p p' q q' x e = refuses BadMtu
      go true true true b false p q q' x e = refuses NoPlace
      go true true true b true p false q x e = refuses NoPlace
      go true true true b true p true q (Entries ds rest) e =
          let g = leb-true place (length l) p in
          let h = leb-true mtu (length l - place) q in
          by ds rest e (leb-true mtu max_delta b) (omega arith) (accepts excluded nodes counts mtu ds t) refl
      go true true true b true p true q (Refused r) e = refuses r

  -- the bytes of its delta, where they are within the MTU
  pub plan-bytes : (ds : List NodeDigest)
      → length (delta_bytes (delta_by excluded nodes counts ds t)) ≤ mtu
      → place + mtu ≤ length l
      → part place (length (delta_bytes (delta_by excluded nodes counts ds t))) (put place (delta_bytes (delta_by excluded nodes counts ds t)) l) ≡ delta_bytes (delta_by excluded nodes counts ds t)
  plan-bytes ds h g = part-put place (delta_bytes (delta_by excluded nodes counts ds t)) l (omega arith)

  -- an accepted plan is written, where no number before 23 comes
  pub plan-written : is_edition edition ≡ true → least_mtu ≤ mtu → mtu ≤ max_delta → place + mtu ≤ length l
      → (ds : List NodeDigest) (rest : List ℕ) → read_digest edition d ≡ Entries ds rest
      → accepts excluded nodes counts mtu ds t ≡ true
      → compute_plan edition excluded nodes counts mtu place d t l ≡ written (delta_by excluded nodes counts ds t) place l
  unfolding compute_plan
  plan-written known least most room ds rest read fine =
      rw (known, le-leb least_mtu mtu least, le-leb mtu max_delta most, le-leb place (length l) (omega arith), le-leb mtu (length l - place) (omega arith), read, fine)
