-- An exchange through a gateway: both parts of the delta on its way, applied at one time in either order, are the delta applied whole. So a run with parts is a run without them, and such an
-- exchange counts as the one that it is. Assumes nothing.
use Prim.Native.Nat.{ℕ}
use mathlib.Core.Bool.{Bool, false, true}
use mathlib.Core.List.{List, [], ◌∷◌}
use mathlib.Core.Path.{◌∙◌, ◌≡◌, ap, refl, subst, sym}
use lib.Dec.{ltb}
use lib.ListN.{drop, take}
use Rattle.fields.specs.Choice.{◌∈◌, pick}
use Rattle.fields.specs.Numbers.{AreBytes}
use Rattle.fields.proofs.Choice.{in-none}
use Rattle.rules.specs.Apply.{Lawful, Ways, apply}
use Rattle.rules.specs.Delta.{Faulty, Good, Ops, read_delta}
use Rattle.rules.specs.Sizes.{numbers}
use Rattle.rules.specs.Table.{Table, among}
use Rattle.rules.proofs.Obeys.{in-among}
use Rattle.delta_split.specs.Split.{Cuttable, Roomy, cut_places}
use Rattle.delta_split.proofs.Parts.{cut-in-order, cut-reversed}
use Rattle.demand3.specs.World.{Applying, Before, Cut, DeltaSent, Exchange, Followers, From, Idle, Receiving, World, after, applied_to, cut_by, happen, on_side}

module _ (ways : Ways) (law : Lawful ways) (cuttable : Cuttable ways) (b : List ℕ) (are : AreBytes b) (place : ℕ) (at : place ∈ cut_places (ways.reads b)) where
  -- a gateway may cut there
  is-place : among place (cut_places (read_delta b)) ≡ true
  is-place = go (ways.reads b) refl at
    where
      go : (o : Ops) → ways.reads b ≡ o → place ∈ cut_places o → among place (cut_places (read_delta b)) ≡ true
      go (Good ops) e m = in-among (subst (λ (r : Ops). place ∈ cut_places r) (sym (law.reads_so b ops e)) m)
      go (Faulty r p) e m = absurd (in-none m)

  module _ (w : World) (way : w.exchange ≡ DeltaSent b) (now : ℕ) (l l₁ l₂ : List ℕ) (room : Roomy ways b place l l₁ l₂) where
    taken : (cuts : List Cut) (k : List ℕ) (t : Table) → Table
    taken cuts k t = applied_to ways now k (cut_by cuts w.exchange) t

    front-is : (t : Table) → taken (Before place ∷ []) l₁ t ≡ (apply ways (take place b) now t l₁).table
    unfolding taken cut_by
    front-is t = ap (λ (x : Exchange). applied_to ways now l₁ (cut_by (Before place ∷ []) x) t) way ∙ ap (λ (c : Bool). applied_to ways now l₁ (pick c (DeltaSent (take place b)) Idle) t) is-place

    rest-is : (t : Table) → taken (From place ∷ []) l₂ t ≡ (apply ways (drop place b) now t l₂).table
    unfolding taken cut_by
    rest-is t = ap (λ (x : Exchange). applied_to ways now l₂ (cut_by (From place ∷ []) x) t) way ∙ ap (λ (c : Bool). applied_to ways now l₂ (pick c (DeltaSent (drop place b)) Idle) t) is-place

    whole_is : (t : Table) → applied_to ways now l w.exchange t ≡ (apply ways b now t l).table
    whole_is t = ap (λ (x : Exchange). applied_to ways now l x t) way

    -- the follower's table, where the two calls lead to the same
    module _ (c d : List Cut) (k j : List ℕ) (same : taken d j (taken c k w.follower) ≡ applied_to ways now l w.exchange w.follower) where
      one-run : after ways (Receiving c now k ∷ Receiving d now j ∷ []) w ≡ after ways (Applying now l ∷ []) w
      unfolding after happen taken
      one-run = go (ltb now numbers)
        where
          first : World
          first = on_side Followers (applied_to ways now k (cut_by c w.exchange)) w

          go : (t : Bool) → pick t (on_side Followers (applied_to ways now j (cut_by d (pick t first w).exchange)) (pick t first w)) (pick t first w) ≡ pick t (on_side Followers (applied_to ways now l w.exchange) w) w
          go true = λ z. record { publisher = w.publisher; follower = same z; given = w.given; exchange = w.exchange; sent = w.sent }
          go false = refl

    -- the first part, then the second
    pub both-parts : after ways (Receiving (Before place ∷ []) now l₁ ∷ Receiving (From place ∷ []) now l₂ ∷ []) w ≡ after ways (Applying now l ∷ []) w
    both-parts =
        one-run (Before place ∷ []) (From place ∷ []) l₁ l₂
        (ap (taken (From place ∷ []) l₂) (front-is w.follower)
        ∙ rest-is (apply ways (take place b) now w.follower l₁).table
        ∙ (cut-in-order ways law cuttable b are place at now w.follower l l₁ l₂ room.0 room.1 room.2).table_is
        ∙ sym (whole_is w.follower))

    -- the second part, then the first
    pub both-reversed : after ways (Receiving (From place ∷ []) now l₂ ∷ Receiving (Before place ∷ []) now l₁ ∷ []) w ≡ after ways (Applying now l ∷ []) w
    both-reversed =
        one-run (From place ∷ []) (Before place ∷ []) l₂ l₁
        (ap (taken (Before place ∷ []) l₁) (rest-is w.follower)
        ∙ front-is (apply ways (drop place b) now w.follower l₂).table
        ∙ (cut-reversed ways law cuttable b are place at now w.follower l l₁ l₂ room.0 room.1 room.2).table_is
        ∙ sym (whole_is w.follower))
