-- The rules on a header are the rules that `rules` gives for a table. An offer to a node answers what the offer to its header says, and the
-- node takes that header's heartbeat; a local beat likewise, and where the heartbeat did not rise the answer is 6 and the table stays. The header
-- is any that has the node's heartbeat. Assumes nothing.
use Prim.Native.Nat.{ℕ, ◌+◌}
use mathlib.Core.Path.{◌≡◌, refl, ap, sym, ◌∙◌}
use mathlib.Core.Bool.{Bool, true, false}
use mathlib.Core.Option.{some}
use Rattle.fields.specs.Choice.{pick}
use Rattle.rules.specs.Node.{Node, beats, offer_of, with_heartbeat}
use Rattle.rules.specs.Table.{Table, set_node}
use Rattle.rules.specs.Local.{Outcome, gives, yes_no, offer_on, beat_on}
use Rattle.rules.specs.declared.Heartbeat.{Heartbeat}
use Rattle.rules.specs.declared.Header.{Header}
use Rattle.std.specs.Prelude.{Err, Ok, Result}
use Rattle.rules.specs.declared.Refusal.{Refusal}
use Rattle.rules.specs.Results.{done}
use Rattle.rules.specs.declared.Refusal.TheVariants.{Exhausted}
use Rattle.heartbeat_header.specs.Headers.{offered_to, can_rise, raised_of}

module _ (i : ℕ) (n : Node) (h : Header) (e : h.heartbeat ≡ n.heartbeat) (t : Table) where
  pub offer-is : (got : Heartbeat)
      → offer_on i got (some n) t ≡ gives (yes_no (offered_to h got).news) (set_node i (with_heartbeat (offered_to h got).header.heartbeat n) t)
  offer-is got = ap (λ (x : Heartbeat). gives (yes_no (offer_of x got).news) (set_node i (with_heartbeat (offer_of x got).heartbeat n) t)) (sym e)

  pub beat-is : beat_on i (some n) t
      ≡ pick (raised_of h).rose (gives done (set_node i (with_heartbeat (raised_of h).header.heartbeat n) t)) (gives (Err Exhausted) t)
  unfolding can_rise
  beat-is = ap up (sym e) ∙ go (can_rise h.heartbeat)
    where
      up : Heartbeat → Outcome (Result (Unit {0}) Refusal)
      up x = pick (can_rise x) (gives done (set_node i (with_heartbeat (beats (x.0 + 1)) n) t)) (gives (Err Exhausted) t)

      risen : Header
      risen = record { heartbeat = beats (h.heartbeat.0 + 1); max = h.max; last_gc = h.last_gc }

      go : (b : Bool)
          → pick b (gives (Ok _) (set_node i (with_heartbeat (beats (h.heartbeat.0 + 1)) n) t)) (gives {A = (Result (Unit {0}) Refusal)} (Err Exhausted) t)
          ≡ pick b (gives done (set_node i (with_heartbeat (pick b risen h).heartbeat n) t)) (gives (Err Exhausted) t)
      go true = refl
      go false = refl
