-- Demand 3: the theorem. Whatever happens to a publisher and a follower that began fresh with the same nodes, the claims of specs/Demand3 hold
-- at every moment, no pair falls, and the closing count ends it. Nothing is assumed but that the fresh tables obey document 01's rules: at most
-- eight nodes, ascending numbers below 2^64. It is proved of a follower in any lawful ways (specs/Apply); document 01's are the plain ones, and those of
-- ticket 3 the fenced ones.
use Prim.Native.Nat.{◌≤◌, ℕ}
use mathlib.Core.Bool.{true}
use mathlib.Core.List.{List, ◌++◌}
use mathlib.Core.Option.{some}
use mathlib.Core.Path.{◌≡◌, ap, subst, subst₂}
use Rattle.rules.proofs.Keeps.{fenced-lawful, guarded-lawful, plain-lawful}
use Rattle.rules.proofs.Obeys.{facts-table}
use Rattle.rules.specs.Apply.{Lawful, Ways, fenced_ways, guarded_ways, plain_ways}
use Rattle.rules.specs.Node.{KeyValue, Node}
use Rattle.rules.specs.Table.{node_of, obeys}
use Rattle.rules.specs.declared.Status.TheVariants.{Set}
use Rattle.demand3.proofs.Closing.{after-append, closing}
use Rattle.demand3.proofs.EachNode.{at, or_fresh}
use Rattle.demand3.proofs.Moments.{InOrder, Moment, moment, moment-claims, run-rises}
use Rattle.demand3.specs.Demand3.{AllRise, Claims, Demand3, Holds, NotBegun, Rises, Sound, all_quiet, holdings, wholes}
use Rattle.demand3.specs.World.{Event, World, after, fresh_table, start}

module _ (ways : Ways) (law : Lawful ways) (is : List ℕ) (ok : obeys (fresh_table is) ≡ true) where
  -- At every moment: both tables hold their nodes and obey document 01's rules; the follower's max never passes the publisher's; and where they
  -- are equal, both hold the same Set records, and any other record of the follower carries the last version that its key was given.
  pub sound : (es : List Event) → Sound is (after ways es (start is))
  sound es =
      record {
        publisher_nodes = o.publisher_nodes;
        follower_nodes = o.follower_nodes;
        publisher_obeys = facts-table w.publisher o.publisher_ok;
        follower_obeys = facts-table w.follower o.follower_ok;
        claims =
            λ i p f a b. subst₂ (Claims (w.given i)) (ap or_fresh a) (ap or_fresh b) (moment-claims ways is w m i);
      }
    where
      w : World
      w = after ways es (start is)

      m : Moment ways is w
      m = moment is ok ways law es

      o : InOrder is w
      o = m.order

  -- Between any two moments: no node's pair (last_gc, max) falls, in either table.
  pub never-falls : (es fs : List Event)
      → AllRise (after ways es (start is)).publisher (after ways fs (after ways es (start is))).publisher
      × AllRise (after ways es (start is)).follower (after ways fs (after ways es (start is))).follower
  never-falls es fs = (λ i a b p q. subst₂ Rises (ap or_fresh p) (ap or_fresh q) (r i).0, λ i a b p q. subst₂ Rises (ap or_fresh p) (ap or_fresh q) (r i).1)
    where
      w : World
      w = after ways es (start is)

      r : (i : ℕ) → Rises (at i w).ours (at i (after ways fs w)).ours × Rises (at i w).theirs (at i (after ways fs w)).theirs
      r i = run-rises ways law is fs w (moment is ok ways law es).order i

  pub demand3-as : Demand3 ways is
  demand3-as = record { at_every_moment = sound; between_moments = never-falls; closing_count = closing ways law is ok }

  -- So that in the end every Set record of the publisher has arrived, and the follower has no other.
  pub all-arrives : (es fs : List Event)
      → all_quiet fs ≡ true
      → holdings (after ways es (start is)).publisher ≤ wholes ways NotBegun fs (after ways es (start is))
      → (i : ℕ) (p f : Node)
      → node_of i (after ways fs (after ways es (start is))).publisher ≡ some p
      → node_of i (after ways fs (after ways es (start is))).follower ≡ some f
      → (s : KeyValue)
      → s.status ≡ Set
      → (Holds p s → Holds f s) × (Holds f s → Holds p s)
  all-arrives es fs calm h i p f a b =
      let end = subst (Sound is) (after-append ways es fs (start is)) (sound (es ++ fs)) in
      (end.claims i p f a b).same_set (closing ways law is ok es fs calm h i p f a b)

-- of plain tables
pub demand3 : (is : List ℕ) → obeys (fresh_table is) ≡ true → Demand3 plain_ways is
demand3 = demand3-as plain_ways plain-lawful

-- of fenced ones, to which deltas may come late, again and in any order, also within the counted exchanges
pub demand3-fenced : (is : List ℕ) → obeys (fresh_table is) ≡ true → Demand3 fenced_ways is
demand3-fenced = demand3-as fenced_ways fenced-lawful

-- and of guarded ones, to which they may come too
pub demand3-guarded : (is : List ℕ) → obeys (fresh_table is) ≡ true → Demand3 guarded_ways is
demand3-guarded = demand3-as guarded_ways guarded-lawful
