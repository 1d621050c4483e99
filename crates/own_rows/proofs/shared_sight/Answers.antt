-- `own_rows::shared_sight` meets its contract: the metering firm's records are those behind the building manager's. Assumes nothing.
use Prim.Native.Nat.{ℕ, ◌+◌}
use mathlib.Core.Path.{◌≡◌, ap, ap₂, sym, ◌∙◌}
use mathlib.Core.Bool.{true}
use mathlib.Core.List.{List}
use native.Mathlib.Omega.{arith}
use lib.ListN.{length}
use Rattle.rules.specs.Node.{Rec}
use Rattle.rules.specs.Party.{own, of_keys}
use Rattle.rules.specs.declared.Party.{Party}
use Rattle.rules.specs.declared.Party.TheVariants.{Metering, Building}
use Rattle.rules.specs.declared.Profile.TheVariants.{Shared}
use Rattle.rules.specs.Table.{keys_rise}
use Rattle.rules.specs.Profile.{recs_formed}
use Rattle.table.specs.Tests.{count_of, recs_in}
use Rattle.table.proofs.Places.{length-recs}
use Rattle.own_rows.specs.Sight.{sight, shared_sight}
use Rattle.own_rows.proofs.First.{both-counted}
use Rattle.own_rows.proofs.shared_sight.Goals as goal

-- by the party
told : {q p : Party} → q ≡ p → (l : List Rec) → shared_sight p l ≡ shared_sight q l
told e l = ap (λ (x : Party). shared_sight x l) (sym e)

-- what was counted, of each
counted : (b : List ℕ) (first n : ℕ) → keys_rise (recs_in b) ≡ true → recs_formed Shared (recs_in b) ≡ true → first ≡ length (of_keys (own Building) (recs_in b)) → n ≡ count_of b
    → (first ≡ length (of_keys (own Building) (recs_in b))) × (n ≡ length (of_keys (own Building) (recs_in b)) + length (of_keys (own Metering) (recs_in b)))
counted b first n s f e q = (e, q ∙ sym (length-recs b) ∙ both-counted (recs_in b) s f)

pub overflow_sub-result : goal.overflow_sub-result
overflow_sub-result c =
    let n = counted c.args.node.now _ _ c.requires.1 c.requires.2 c.building_count-first.ensures c.byte_at-n.ensures.0 in omega (arith, n.0, n.1)

pub returns-in-Metering : goal.returns-in-Metering
returns-in-Metering c =
    let n = counted c.args.node.now _ _ c.requires.1 c.requires.2 c.building_count-first.ensures c.byte_at-n.ensures.0 in
    ap₂ sight n.0 (omega (arith, n.0, n.1)) ∙ told c.in-Metering.is _
