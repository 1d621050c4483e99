-- No call but the making of a table, adding and removing changes what a table remembers, or its order. Assumes nothing.
use Prim.Native.Nat.{ℕ}
use mathlib.Core.Bool.{Bool, true, false, true≢false}
use mathlib.Core.List.{[], ◌∷◌}
use mathlib.Core.Path.{◌≡◌, ◌∙◌, ap, refl, sym}
use lib.ListN.{take}
use Rattle.fields.specs.Choice.{pick}
use Rattle.fields.specs.Numbers.{Bytes}
use Rattle.rules.specs.Apply.{apply, ways_in}
use Rattle.rules.specs.Given.{Given, given}
use Rattle.rules.specs.Local.{Outcome, call_as, gc, local_beat, offer, write_as}
use Rattle.rules.specs.Memory.{Memory}
use Rattle.rules.specs.Node.{Deleting, DeletingAfterTtl, beats}
use Rattle.rules.specs.Table.{Table}
use Rattle.rules.specs.Whole.{decode_memory, decode_whole, encode_whole, tail_of, valid_whole, with_table}
use Rattle.rules.specs.Lent.{both, lent_apply, lent_apply_as, on_table, stored_apply, stored_in}
use Rattle.std.specs.Prelude.{Err, Ok, Result}
use Rattle.exchange_ask.specs.declared.Stopped.{Stopped}
use Rattle.rules.specs.declared.Refusal.{Refusal}
use Rattle.rules.specs.declared.Sent.{Sent}
use Rattle.rules.specs.Results.{done}
use Rattle.rules.specs.declared.Refusal.TheVariants.{BadTable, NobodyPresent}
use Rattle.rules.proofs.Refusing.{whole-bytes}
use Rattle.table.proofs.Wholes.{whole-tail}
use Rattle.grid.specs.Grid.{somebody}
use Rattle.grid.specs.GridLayout.{decode_grid}
use Rattle.grid.specs.LentGrid.{carefully_removed, lent_careful, valid_both}
use Rattle.grid_kept.proofs.LentKept.{both-table}
use Rattle.exchange.specs.Exchanging.{Lending, after_asking, after_computing, after_digesting, lent_answer, lent_exchange, lending, rooms_of, three_calls}
use Rattle.exchange_ask.specs.Asking.{ready_for}
use Rattle.exchange.proofs.Refusing.{IsReady, delta-made, digest-told, is-ready}
use Rattle.demand1.specs.Calls as calls
use Rattle.demand1.specs.Demand1.{memories_in}

-- ---- calls on a table

abbrev memory_in : Bytes → Memory
memory_in l = (decode_whole l).memory

-- other nodes leave the tail
tail-stays : (l : Bytes) → valid_whole l ≡ true → (t : Table) → memory_in (encode_whole (with_table t (decode_whole l))) ≡ memory_in l
tail-stays l v t =
    ap decode_memory (whole-tail (with_table t (decode_whole l)) ∙ sym (whole-tail (decode_whole l)))
    ∙ ap (λ (x : Bytes). decode_memory (tail_of x)) (whole-bytes l v)

on-table : {A : Type 0} (bad : A) (rule : Table → Outcome A) (l : Bytes) → memory_in (on_table bad rule l).lent ≡ memory_in l
unfolding on_table
on-table {A} bad rule l = go (valid_whole l) refl
  where
    go : (b : Bool) → valid_whole l ≡ b → memory_in (pick b (stored_in (decode_whole l) (rule (decode_whole l).table)) (given bad l)).lent ≡ memory_in l
    go true v = tail-stays l v (rule (decode_whole l).table).table
    go false v = refl

applying : (delta : Bytes) (now : ℕ) (answers l : Bytes) → memory_in (lent_apply delta now answers l).lent.table ≡ memory_in l
unfolding lent_apply_as
applying delta now answers l = go (valid_whole l) refl
  where
    go : (b : Bool) → valid_whole l ≡ b
        → memory_in (pick b (stored_apply (decode_whole l) (apply (ways_in (decode_whole l).kind) delta now (decode_whole l).table answers)) (given (Err (record { why = BadTable; at = 0 })) (both l answers))).lent.table ≡ memory_in l
    go true v = tail-stays l v _
    go false v = refl

carefully : (now grace : ℕ) (g l : Bytes) → memory_in (lent_careful now grace g l).lent ≡ memory_in l
unfolding lent_careful
carefully now grace g l = go (valid_both g l) refl (somebody (decode_grid g))
  where
    go : (b : Bool) → valid_both g l ≡ b → (c : Bool)
        → memory_in (pick b (pick c (given done (encode_whole (with_table (carefully_removed (decode_grid g) now grace (decode_whole l).table) (decode_whole l)))) (given (Err NobodyPresent) l)) (given (Err BadTable) l)).lent ≡ memory_in l
    go true v true = tail-stays l (both-table g l v) _
    go true v false = refl
    go false v c = refl

module _ (g : Lending) (publisher follower : Bytes) where
  ready-stays : IsReady g publisher follower → memory_in (three_calls g publisher follower).lent.follower ≡ memory_in follower
  unfolding three_calls lent_answer
  ready-stays r =
      ap (λ (o : Given (Result ℕ Refusal) Bytes). memory_in (after_digesting g publisher follower o.lent o.answer).lent.follower) (digest-told g publisher follower r)
      ∙ ap (λ (o : Given (Result Sent Refusal) Bytes). memory_in (after_computing g.clock g.answers follower o.lent o.answer).lent.follower) (delta-made g publisher follower r)
      ∙ applying _ g.clock g.answers follower

  exchanged : memory_in (lent_exchange g publisher follower).lent.follower ≡ memory_in follower
  unfolding lent_exchange
  exchanged = go (ready_for g.edition g.unasked (rooms_of g) publisher follower) refl
    where
      go : (x : (Result (Unit {0}) Stopped)) → ready_for g.edition g.unasked (rooms_of g) publisher follower ≡ x → memory_in (after_asking g publisher follower x).lent.follower ≡ memory_in follower
      go (Ok _) e = ready-stays (is-ready g publisher follower e)
      go (Err s) e = refl

-- ---- all calls

one : (a b : Bytes) → memory_in b ≡ memory_in a → memories_in (b ∷ []) ≡ memories_in (a ∷ [])
unfolding memories_in
one a b e = ap (λ (m : Memory). m ∷ []) e

two : (p a b : Bytes) → memory_in b ≡ memory_in a → memories_in (p ∷ b ∷ []) ≡ memories_in (p ∷ a ∷ [])
unfolding memories_in
two p a b e = ap (λ (m : Memory). memory_in p ∷ m ∷ []) e

pub remembered : {k : calls.Kind} (c : calls.Call k) → calls.remembers k ≡ false
    → memories_in (take (calls.tables k) (calls.leaves c).lent) ≡ memories_in (take (calls.tables k) (calls.lent_to c))
unfolding calls.leaves calls.lent_to
remembered (calls.new-table t m p) e = absurd (true≢false e)
remembered (calls.add-node t i) e = absurd (true≢false e)
remembered (calls.remove-node t i) e = absurd (true≢false e)
remembered (calls.last-heartbeat t i) e = refl
remembered (calls.write t k v i wanted now who) e = one t _ (on-table (Err BadTable) (write_as (decode_whole t).kind.profile who wanted.value v now.value i.value k) t)
remembered (calls.delete t k i now who) e = one t _ (on-table (Err BadTable) (call_as (decode_whole t).kind.profile who (Deleting now.value) i.value k) t)
remembered (calls.delete-after-ttl t k i now who) e = one t _ (on-table (Err BadTable) (call_as (decode_whole t).kind.profile who (DeletingAfterTtl now.value) i.value k) t)
remembered (calls.remove-scheduled t now grace) e = one t _ (on-table (Err BadTable) (gc now.value grace.value) t)
remembered (calls.offer-heartbeat t i h) e = one t _ (on-table (Err BadTable) (offer i.value (beats h.value)) t)
remembered (calls.local-beat t i) e = one t _ (on-table (Err BadTable) (local_beat i.value) t)
remembered (calls.find t k i who) e = refl
remembered (calls.list-prefix t k out i who) e = refl
remembered (calls.new-overrides o i) e = refl
remembered (calls.write-override o k v wanted now) e = refl
remembered (calls.delete-override o k now) e = refl
remembered (calls.delete-override-after-ttl o k now) e = refl
remembered (calls.remove-overrides o now grace) e = refl
remembered (calls.find-over t o k i who) e = refl
remembered (calls.list-over t o k out i who) e = refl
remembered (calls.new-grid t g) e = refl
remembered (calls.grid_add_node t g i) e = absurd (true≢false e)
remembered (calls.grid_remove_node t g i) e = absurd (true≢false e)
remembered (calls.tell g digest p edition) e = refl
remembered (calls.take-out g p) e = refl
remembered (calls.least-max g i) e = refl
remembered (calls.seen-by g p i) e = refl
remembered (calls.remove-carefully t g now grace) e = one t _ (carefully now.value grace.value g t)
remembered (calls.node-count t) e = refl
remembered (calls.node-number t i) e = refl
remembered (calls.node-header t i) e = refl
remembered (calls.record-count t i who) e = refl
remembered (calls.record-at t i j who) e = refl
remembered (calls.record-of t i j who) e = refl
remembered (calls.record-by-key t k i who) e = refl
remembered (calls.node-rows t i who) e = refl
remembered (calls.front t i who) e = refl
remembered (calls.prefix-rows t k i who) e = refl
remembered (calls.find-text t i j x who) e = refl
remembered (calls.write-digest t edition excluded datagram place) e = refl
remembered (calls.read-digest edition digest) e = refl
remembered (calls.digest_entry digest edition i) e = refl
remembered (calls.compute t edition digest excluded ties datagram mtu place) e = refl
remembered (calls.compute-plan t edition digest excluded nodes counts datagram mtu place) e = refl
remembered (calls.plan-fault t edition digest excluded nodes counts mtu) e = refl
remembered (calls.read-delta delta) e = refl
remembered (calls.apply t delta answers now) e = one t _ (applying delta.bytes now.value answers t)
remembered (calls.list-delta delta out) e = refl
remembered (calls.make-delta text out) e = refl
remembered (calls.exchange publisher follower edition unasked unsent ties digest delta answers mtu now) e =
    two publisher follower _ (exchanged (lending edition unasked unsent ties mtu now.value digest delta answers) publisher follower)
