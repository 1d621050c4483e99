-- Nets in which nodes change hands stay sound: at every moment the claims hold, between the owner of that moment and every hub. Assumes nothing but that no hub is plain.
use Prim.Native.Nat.{ℕ}
use mathlib.Core.Bool.{Bool, false, true}
use mathlib.Core.List.{List, [], ◌∷◌}
use mathlib.Core.Path.{◌≡◌, refl}
use Rattle.fields.specs.Choice.{pick}
use Rattle.net.specs.Net.{Plan, Ready}
use Rattle.net_losing.proofs.Firm.{Firm, firm-start}
use Rattle.net_losing.proofs.Losing.{firm-doing, firm-sound}
use Rattle.net_losing.specs.Losing.{LosingSound}
use Rattle.net_owners.proofs.Handing.{firm-handing}
use Rattle.net_owners.specs.Owners.{Goes, Handed, Handing, Turn, handed_over, handed_start, may_own, plan_now, turn, turns}

module _ (plan : Plan) (ready : Ready plan) where
  abbrev ready-now : (owner : ℕ → ℕ) → Ready (plan_now plan owner)
  ready-now owner = record { lawful = ready.lawful; late = ready.late }

  abbrev Firmly : Handed → Type 0
  Firmly v = Firm v.owner v.losing

  firm-turn : (t : Turn) (v : Handed) → Firmly v → Firmly (turn plan t v)
  unfolding turn
  firm-turn (Goes e) v ok = firm-doing (plan_now plan v.owner) (ready-now v.owner) v.losing ok e
  firm-turn (Handing i y) v ok = go (may_own i y v.losing) refl
    where
      go : (b : Bool) → may_own i y v.losing ≡ b → Firmly (pick b (handed_over i y v) v)
      go true q = firm-handing v ok i y q
      go false q = ok

  firm-turns : (ts : List Turn) (v : Handed) → Firmly v → Firmly (turns plan ts v)
  unfolding turns
  firm-turns [] v ok = ok
  firm-turns (t ∷ ts) v ok = firm-turns ts (turn plan t v) (firm-turn t v ok)

  -- Where no hub is plain: whoever gets which node, if it has all that was given, the claims hold at every moment.
  pub owners-sound : (ts : List Turn) → LosingSound (plan_now plan (turns plan ts (handed_start plan)).owner) (turns plan ts (handed_start plan)).losing
  owners-sound ts =
      let v : Handed = turns plan ts (handed_start plan) in
      firm-sound (plan_now plan v.owner) (ready-now v.owner) v.losing (firm-turns ts (handed_start plan) (firm-start plan.owner))
