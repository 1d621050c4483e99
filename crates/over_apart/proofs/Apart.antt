-- Overrides are never gossiped: by their length they are no table, and every call that gossips asks that first. Assumes nothing.
use Prim.Native.Nat.{ℕ}
use mathlib.Core.Bool.{Bool, true, false, true≢false}
use mathlib.Core.List.{[], ◌∷◌}
use mathlib.Core.Logic.{◌⊎◌, inl, inr}
use mathlib.Core.Path.{◌≡◌, ◌∙◌, ap, refl, sym, subst}
use native.Mathlib.Omega.{arith}
use lib.ListN.{take}
use Rattle.fields.specs.Choice.{pick, ◌∈◌}
use Rattle.fields.specs.Numbers.{Bytes}
use Rattle.fields.proofs.Choice.{in-none, in-cons}
use Rattle.rules.specs.Answers.{applied_told, computed_told, written_told}
use Rattle.rules.specs.Apply.{apply, ways_in}
use Rattle.rules.specs.Compute as computing
use Rattle.rules.specs.Digest.{write_digest}
use Rattle.rules.specs.Given.{Given, given}
use Rattle.rules.specs.Lent.{both, from_table, lent_apply_as, stored_apply}
use Rattle.rules.specs.Whole.{decode_whole, valid_whole}
use Rattle.std.specs.Prelude.{Err, Result}
use Rattle.exchange_ask.specs.declared.Stopped.{Stopped}
use Rattle.rules.specs.declared.Refusal.{Refusal}
use Rattle.rules.specs.declared.Sent.{Sent}
use Rattle.rules.specs.declared.Refusal.TheVariants.{BadTable}
use Rattle.exchange.specs.Exchanging.{Lending, after_asking, exchanged_told, lending, lent_exchange, rooms_of}
use Rattle.exchange_ask.specs.Asking.{forms_fit, ready_for, ready_on}
use Rattle.exchange_ask.specs.declared.Step.TheVariants.{Delta, Digest}
use Rattle.plan.specs.Plan as planning
use Rattle.overrides.specs.Overrides.{valid_node}
use Rattle.overrides.proofs.Valid.{never-table}
use Rattle.demand1.specs.Calls as calls
use Rattle.demand1.specs.Calls.{Kind, Call, lent_to, leaves, tables}
use Rattle.demand1.proofs.Demand1.{demand1}
use Rattle.over_apart.specs.Apart.{Gossips, writes_digest, computes, plans, applies, exchanges, NeverGossiped}

-- the table is the overrides
no_table : (o t : Bytes) → valid_node o ≡ true → o ≡ t → valid_whole t ≡ false
no_table o t v e = subst (λ (x : Bytes). valid_whole x ≡ false) e (never-table o v)

only : (o t : Bytes) → o ∈ t ∷ [] → o ≡ t
only o t m = go (in-cons m)
  where
    go : (o ≡ t) ⊎ (o ∈ []) → o ≡ t
    go (inl e) = e
    go (inr n) = absurd (in-none n)

either : (o p f : Bytes) → o ∈ p ∷ f ∷ [] → (o ≡ p) ⊎ (o ≡ f)
either o p f m = go (in-cons m)
  where
    go : (o ≡ p) ⊎ (o ∈ f ∷ []) → (o ≡ p) ⊎ (o ≡ f)
    go (inl e) = inl e
    go (inr n) = inr (only o f n)

-- ---- each call

not-exchanged : (g : Lending) (publisher follower : Bytes) → (valid_whole publisher ≡ false) ⊎ (valid_whole follower ≡ false)
    → (exchanged_told (lent_exchange g publisher follower).answer).number ≡ 14
unfolding lent_exchange ready_for exchanged_told
not-exchanged g publisher follower h = go (valid_whole follower) refl (valid_whole publisher) refl h
  where
    next : (Result (Unit {0}) Stopped)
    next = ready_on g.edition g.unasked (rooms_of g) (decode_whole follower).kind.profile (forms_fit publisher follower) (decode_whole publisher).table (decode_whole follower).table

    go : (f : Bool) → valid_whole follower ≡ f → (p : Bool) → valid_whole publisher ≡ p → (p ≡ false) ⊎ (f ≡ false)
        → (exchanged_told (after_asking g publisher follower (pick f (pick p next (Err (record { step = Delta; why = BadTable }))) (Err (record { step = Digest; why = BadTable })))).answer).number ≡ 14
    go false q p w x = refl
    go true q false w x = refl
    go true q true w (inl e) = absurd (true≢false e)
    go true q true w (inr e) = absurd (true≢false e)

fourteen : (k : Kind) → Gossips k → (c : Call k) (o : Bytes) → valid_node o ≡ true → o ∈ take (tables k) (lent_to c) → (leaves c).answer.number ≡ 14
unfolding leaves lent_to from_table lent_apply_as written_told computed_told applied_told
fourteen k writes_digest (calls.write-digest t edition excluded datagram place) o v m =
    ap (λ (b : Bool). (written_told (pick {X = Given (Result ℕ Refusal) Bytes} b (write_digest edition excluded place (decode_whole t).table datagram) (given (Err BadTable) datagram)).answer).number)
    (no_table o t v (only o t m))
fourteen k computes (calls.compute t edition digest excluded ties datagram mtu place) o v m =
    ap (λ (b : Bool). (computed_told (pick {X = Given (Result Sent Refusal) Bytes} b (computing.compute edition excluded ties mtu place digest (decode_whole t).table datagram) (given (Err BadTable) datagram)).answer).number)
    (no_table o t v (only o t m))
fourteen k plans (calls.compute-plan t edition digest excluded nodes counts datagram mtu place) o v m =
    ap (λ (b : Bool). (computed_told (pick {X = Given (Result Sent Refusal) Bytes} b (planning.compute_plan edition excluded nodes counts mtu place digest (decode_whole t).table datagram) (given (Err BadTable) datagram)).answer).number)
    (no_table o t v (only o t m))
fourteen k applies (calls.apply t delta answers now) o v m =
    ap (λ (b : Bool). (applied_told (pick b (stored_apply (decode_whole t) (apply (ways_in (decode_whole t).kind) delta.bytes now.value (decode_whole t).table answers)) (given (Err (record { why = BadTable; at = 0 })) (both t answers))).answer).number)
    (no_table o t v (only o t m))
fourteen k exchanges (calls.exchange publisher follower edition unasked unsent ties digest delta answers mtu now) o v m =
    not-exchanged (lending edition unasked unsent ties mtu now.value digest delta answers) publisher follower (which (either o publisher follower m))
  where
    which : (o ≡ publisher) ⊎ (o ≡ follower) → (valid_whole publisher ≡ false) ⊎ (valid_whole follower ≡ false)
    which (inl e) = inl (no_table o publisher v e)
    which (inr e) = inr (no_table o follower v e)

-- ---- the theorem

pub never-gossiped : NeverGossiped
unfolding NeverGossiped
never-gossiped k g c o v m =
    let n = fourteen k g c o v m in
    (n, demand1.refused_changes_nothing k c (λ z. let e : ◌≡◌ {A = ℕ} 14 0 = sym n ∙ z in omega arith))
