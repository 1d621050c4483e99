-- Ticket 8's demand 2, of every call: answered neither 17 nor 18 it does on valid tables that are not shared what it does on the freed ones. Only the local calls,
-- applying and an exchange look at the profile (Guarded, Applying, Exchanging), and readings for what a party sees; of the others there is one law for each way in
-- which a table is lent. Assumes nothing.
use Prim.Native.Nat.{ℕ}
use mathlib.Core.Path.{◌≡◌, refl, ap, ap₂, sym, ◌∙◌}
use mathlib.Core.Bool.{Bool, true}
use mathlib.Core.List.{List, [], ◌∷◌}
use mathlib.Core.Option.{Option, none, some}
use lib.ListN.{take}
use Rattle.fields.specs.Choice.{pick, all}
use Rattle.fields.specs.Numbers.{Bytes}
use Rattle.fields.proofs.Choice.{and_left, and_right}
use Rattle.rules.specs.Answers.{Told, answer_told, applied_told, computed_told, listed_told, offered_told, remembered_told, written_told}
use Rattle.rules.specs.Compute.{compute}
use Rattle.rules.specs.Digest.{write_digest}
use Rattle.rules.specs.Given.{Given, given}
use Rattle.rules.specs.Layout.{decode_node}
use Rattle.rules.specs.Lent.{TableAndList, add_whole, from_table, lent_removed, on_table, on_whole, remembered_as, remove_whole}
use Rattle.rules.specs.Local.{Outcome, gc, local_beat, offer, prefixed_as}
use Rattle.rules.specs.Memory.{heartbeat_of}
use Rattle.rules.specs.Node.{Deleting, DeletingAfterTtl, Node, beats}
use Rattle.rules.specs.Table.{Table, node_of}
use Rattle.rules.specs.Whole.{Whole, decode_whole, valid_whole}
use Rattle.std.specs.Prelude.{Option as Optional}
use Rattle.std.specs.Prelude.{Err, Result}
use Rattle.exchange.specs.declared.Exchanged.{Exchanged}
use Rattle.exchange_ask.specs.declared.Stopped.{Stopped}
use Rattle.over_find.specs.declared.FoundOver.{FoundOver}
use Rattle.overrides.specs.declared.RefusedOver.{RefusedOver}
use Rattle.rules.specs.declared.DeltaFault.{DeltaFault}
use Rattle.rules.specs.declared.Heartbeat.{Heartbeat}
use Rattle.rules.specs.declared.Refusal.{Refusal}
use Rattle.plan.specs.declared.NotSent.TheVariants as not_sent
use Rattle.rules.specs.declared.Party.{Party}
use Rattle.rules.specs.declared.Profile.{Profile}
use Rattle.rules.specs.declared.Profile.TheVariants.{Free, Meter}
use Rattle.rules.specs.declared.Refusal.TheVariants.{BadTable}
use Rattle.lookup.specs.Lookup.{find_as}
use Rattle.lookup.specs.Told.{found_told}
use Rattle.overrides.specs.Both.{from_both}
use Rattle.overrides.specs.Overrides.{valid_node}
use Rattle.overrides.specs.declared.Which.{Which}
use Rattle.overrides.specs.declared.Which.TheVariants as which
use Rattle.over_find.specs.Over.{found_over}
use Rattle.over_find.specs.Told.{found_over_told}
use Rattle.over_list.specs.Merged.{list_over}
use Rattle.over_list.specs.Told.{listed_over_told}
use Rattle.grid.specs.LentGrid.{GridAndTable}
use Rattle.inspect.specs.Look.{front_as, front_told, node_count, node_header, node_number, node_rows_as, read_record_as, record_by_key_as, record_count_as, record_of_as}
use Rattle.inspect.specs.Told.{count_told, node_header_told, node_number_told, record_read_told, rows_told}
use Rattle.prefix.specs.Rows.{prefix_rows_as}
use Rattle.inspect_text.specs.Texts.{text_found_as}
use Rattle.plan.specs.Faults.{judge_plan, judged_told}
use Rattle.plan.specs.Plan.{compute_plan}
use Rattle.exchange.specs.Exchanging.{ExchangeLent, exchanged_told, lending}
use Rattle.demand1.specs.Calls as calls
use Rattle.demand1.specs.Calls.{Call, Kind, as_told, leaves, lent_to, tables}
use Rattle.profile_plain.specs.Plain.{AsPlain, Demand2, freed, freed_call, freed_first, unshared, valid_unshared}
use Rattle.profile_plain.proofs.Applying.{apply-freed}
use Rattle.profile_plain.proofs.Exchanging.{exchange-freed}
use Rattle.profile_plain.proofs.Freed.{freed-back, freed-valid, from-freed, on-freed, seen-freed, whole-freed}
use Rattle.profile_plain.proofs.Grids.{careful-freed, in-freed, made-freed, out-freed}
use Rattle.profile_plain.proofs.Guarded.{call-freed, write-freed}

-- ---- one table

first : (t : Bytes) (ls : List Bytes) → all valid_unshared (t ∷ ls) ≡ true → valid_unshared t ≡ true
unfolding all
first t ls v = and_left (valid_unshared t) (all valid_unshared ls) v

second : (s t : Bytes) (ls : List Bytes) → all valid_unshared (s ∷ t ∷ ls) ≡ true → valid_unshared t ≡ true
unfolding all
second s t ls v = first t ls (and_right (valid_unshared s) (all valid_unshared (t ∷ ls)) v)

good : (t : Bytes) → valid_unshared t ≡ true → valid_whole t ≡ true
good t v = and_left (valid_whole t) (unshared (decode_whole t).kind.profile) v

alone : (t : Bytes) → valid_unshared t ≡ true → unshared (decode_whole t).kind.profile ≡ true
alone t v = and_right (valid_whole t) (unshared (decode_whole t).kind.profile) v

module _ (t : Bytes) (v : all valid_unshared (t ∷ []) ≡ true) where
  ok : valid_whole t ≡ true
  ok = good t (first t [] v)

  lone : unshared (decode_whole t).kind.profile ≡ true
  lone = alone t (first t [] v)

  -- lent for reading
  reading : {A : Type 0} (told : A → Told) (bad : A) (rule : Table → A) (rest : List Bytes)
      → given (told (from_table bad rule (freed t))) (freed t ∷ rest) ≡ given (told (from_table bad rule t)) (freed t ∷ rest)
  reading {A} told bad rule rest = ap (λ (a : A). given (told a) (freed t ∷ rest)) (from-freed t ok bad rule)

  -- by a party
  seeing : {A : Type 0} (told : A → Told) (bad : A) (rule : Profile → Table → A) → rule Meter ≡ rule Free → (rest : List Bytes)
      → given (told (from_table bad (rule (decode_whole (freed t)).kind.profile) (freed t))) (freed t ∷ rest)
      ≡ given (told (from_table bad (rule (decode_whole t).kind.profile) t)) (freed t ∷ rest)
  seeing {A} told bad rule m rest = ap (λ (a : A). given (told a) (freed t ∷ rest)) (seen-freed t ok lone bad rule m)

  -- with a list that is filled
  filling : {A : Type 0} (told : A → Told) (bad : Given A Bytes) (rule : Table → Given A Bytes) (lent : Bytes → List Bytes)
      → as_told told (λ u. freed t ∷ lent u) (from_table bad rule (freed t)) ≡ as_told told (λ u. freed t ∷ lent u) (from_table bad rule t)
  filling {A} told bad rule lent = ap (λ (o : Given A Bytes). as_told told (λ u. freed t ∷ lent u) o) (from-freed t ok bad rule)

  listing : (bad : Given (Result ℕ Refusal) Bytes) (rule : Profile → Table → Given (Result ℕ Refusal) Bytes) → rule Meter ≡ rule Free → (lent : Bytes → List Bytes)
      → as_told listed_told (λ u. freed t ∷ lent u) (from_table bad (rule (decode_whole (freed t)).kind.profile) (freed t))
      ≡ as_told listed_told (λ u. freed t ∷ lent u) (from_table bad (rule (decode_whole t).kind.profile) t)
  listing bad rule m lent = ap (λ (o : Given (Result ℕ Refusal) Bytes). as_told listed_told (λ u. freed t ∷ lent u) o) (seen-freed t ok lone bad rule m)

  -- with overrides
  laid : {A : Type 0} (bad : Which → A) (rule : Profile → Node → Table → A) (o : Bytes) → rule Meter (decode_node o).node ≡ rule Free (decode_node o).node
      → from_both bad (rule (decode_whole (freed t)).kind.profile) o (freed t) ≡ from_both bad (rule (decode_whole t).kind.profile) o t
  unfolding from_both
  laid {A} bad rule o m =
      ap (λ (a : A). pick (valid_node o) a (bad which.Overrides)) (seen-freed t ok lone (bad which.Table) (λ p. rule p (decode_node o).node) m)

  -- for a change of its nodes
  changing : {A : Type 0} (told : A → Told) (bad : A) (rule : Table → Outcome A) (rest : List Bytes)
      → as_told told (λ u. u ∷ rest) (on_table bad rule (freed t)) ≡ as_told told (λ u. freed u ∷ rest) (on_table bad rule t)
  changing {A} told bad rule rest = ap (λ (o : Given A Bytes). as_told told (λ u. u ∷ rest) o) (on-freed t ok bad rule)

  -- and of the memory with them
  added : (i : ℕ) → as_told answer_told (λ u. u ∷ []) (on_whole (Err BadTable) (add_whole i) (freed t)) ≡ as_told answer_told (λ u. freed u ∷ []) (on_whole (Err BadTable) (add_whole i) t)
  unfolding add_whole
  added i = ap (λ (o : Given (Result (Unit {0}) Refusal) Bytes). as_told answer_told (λ u. u ∷ []) o) (whole-freed t ok (Err BadTable) (add_whole i) refl)

  removed : (i : ℕ) → as_told answer_told (λ u. u ∷ []) (on_whole (Err BadTable) (remove_whole i) (freed t)) ≡ as_told answer_told (λ u. freed u ∷ []) (on_whole (Err BadTable) (remove_whole i) t)
  unfolding remove_whole
  removed i = ap (λ (o : Given (Result (Unit {0}) Refusal) Bytes). as_told answer_told (λ u. u ∷ []) o) (whole-freed t ok (Err BadTable) (remove_whole i) refl)

  -- for a reading of the memory
  asked-for : (i : ℕ) → lent_removed i (freed t) ≡ lent_removed i t
  unfolding lent_removed
  asked-for i =
      ap₂ (λ (b : Bool) (w : Whole). pick b (remembered_as (heartbeat_of i w.memory)) (Err BadTable)) (freed-valid t ok ∙ sym ok) (freed-back t ok)

-- no front but in a shared table
no_front : (q : Party) (i : ℕ) → front_as Meter q i ≡ front_as Free q i
no_front q i = λ j t. on (node_of i t) j
  where
    on : (o : Option Node) → front_told Meter q o ≡ front_told Free q o
    on none = refl
    on (some n) = refl

-- ---- all calls

plainly : {k : Kind} (c : Call k) → (k ≡ calls.NewTable → ⊥) → all valid_unshared (take (tables k) (lent_to c)) ≡ true
    → ((leaves c).answer.number ≡ 17 → ⊥) → ((leaves c).answer.number ≡ 18 → ⊥) → AsPlain c
unfolding leaves lent_to freed_call freed_first prefixed_as
plainly (calls.new-table t m p) n v f s = absurd (n refl)
plainly (calls.add-node t i) n v f s = added t v i.value
plainly (calls.remove-node t i) n v f s = removed t v i.value
plainly (calls.last-heartbeat t i) n v f s = ap (λ (a : (Result (Optional Heartbeat) Refusal)). given (remembered_told a) (freed t ∷ [])) (asked-for t v i.value)
plainly (calls.write t k x i wanted now who) n v f s =
    ap (λ (o : Given (Result (Unit {0}) Refusal) Bytes). as_told answer_told (λ u. u ∷ k ∷ x ∷ []) o) (write-freed t (ok t v) (lone t v) who wanted.value x now.value i.value k (f, s))
plainly (calls.delete t k i now who) n v f s =
    ap (λ (o : Given (Result (Unit {0}) Refusal) Bytes). as_told answer_told (λ u. u ∷ k ∷ []) o) (call-freed t (ok t v) (lone t v) who (Deleting now.value) i.value k (f, s))
plainly (calls.delete-after-ttl t k i now who) n v f s =
    ap (λ (o : Given (Result (Unit {0}) Refusal) Bytes). as_told answer_told (λ u. u ∷ k ∷ []) o) (call-freed t (ok t v) (lone t v) who (DeletingAfterTtl now.value) i.value k (f, s))
plainly (calls.remove-scheduled t now grace) n v f s = changing t v answer_told (Err BadTable) (gc now.value grace.value) []
plainly (calls.offer-heartbeat t i h) n v f s = changing t v offered_told (Err BadTable) (offer i.value (beats h.value)) []
plainly (calls.local-beat t i) n v f s = changing t v answer_told (Err BadTable) (local_beat i.value) []
plainly (calls.find t k i who) n v f s = seeing t v found_told (Err BadTable) (λ p. find_as p who i.value k) refl (k ∷ [])
plainly (calls.list-prefix t k out i who) n v f s =
    listing t v (given (Err BadTable) out) (λ p t. prefixed_as p who i.value k t out) refl (λ u. k ∷ u ∷ [])
plainly (calls.new-overrides o i) n v f s = refl
plainly (calls.write-override o k x wanted now) n v f s = refl
plainly (calls.delete-override o k now) n v f s = refl
plainly (calls.delete-override-after-ttl o k now) n v f s = refl
plainly (calls.remove-overrides o now grace) n v f s = refl
plainly (calls.find-over t o k i who) n v f s =
    ap (λ (a : (Result (Optional FoundOver) RefusedOver)). given (found_over_told a) (freed t ∷ o ∷ k ∷ [])) (laid t v (λ w. (Err (record { which = w; why = BadTable }))) (λ p. found_over p who i.value k) o refl)
plainly (calls.list-over t o k out i who) n v f s =
    ap (λ (a : Given (Result ℕ RefusedOver) Bytes). as_told listed_over_told (λ u. freed t ∷ o ∷ k ∷ u ∷ []) a) (laid t v (λ w. given (Err (record { which = w; why = BadTable })) out) (λ p. list_over p who i.value k out) o refl)
plainly (calls.new-grid t g) n v f s = ap (λ (o : Given (Result (Unit {0}) Refusal) Bytes). as_told answer_told (λ u. freed t ∷ u ∷ []) o) (made-freed t (ok t v) g)
plainly (calls.grid_add_node t g i) n v f s =
    ap (λ (o : Given (Result (Unit {0}) Refusal) GridAndTable). as_told answer_told (λ u. u.table ∷ u.grid ∷ []) o) (in-freed t (ok t v) g i.value)
plainly (calls.grid_remove_node t g i) n v f s =
    ap (λ (o : Given (Result (Unit {0}) Refusal) GridAndTable). as_told answer_told (λ u. u.table ∷ u.grid ∷ []) o) (out-freed t (ok t v) g i.value)
plainly (calls.tell g digest p edition) n v f s = refl
plainly (calls.take-out g p) n v f s = refl
plainly (calls.least-max g i) n v f s = refl
plainly (calls.seen-by g p i) n v f s = refl
plainly (calls.remove-carefully t g now grace) n v f s =
    ap (λ (o : Given (Result (Unit {0}) Refusal) Bytes). as_told answer_told (λ u. u ∷ g ∷ []) o) (careful-freed t (ok t v) g now.value grace.value)
plainly (calls.node-count t) n v f s = reading t v count_told (Err BadTable) node_count []
plainly (calls.node-number t i) n v f s = reading t v node_number_told (Err BadTable) (node_number i) []
plainly (calls.node-header t i) n v f s = reading t v node_header_told (Err BadTable) (node_header i.value) []
plainly (calls.record-count t i who) n v f s = seeing t v count_told (Err BadTable) (λ p. record_count_as p who i.value) refl []
plainly (calls.record-at t i j who) n v f s = seeing t v record_read_told (Err BadTable) (λ p. read_record_as p who i.value j) refl []
plainly (calls.record-of t i j who) n v f s = seeing t v record_read_told (Err BadTable) (λ p. record_of_as p who i j) refl []
plainly (calls.record-by-key t k i who) n v f s = seeing t v record_read_told (Err BadTable) (λ p. record_by_key_as p who i.value k) refl (k ∷ [])
plainly (calls.node-rows t i who) n v f s = seeing t v rows_told (Err BadTable) (λ p. node_rows_as p who i.value) refl []
plainly (calls.front t i who) n v f s = seeing t v count_told (Err BadTable) (λ p. front_as p who i.value) (no_front who i.value) []
plainly (calls.prefix-rows t k i who) n v f s = seeing t v rows_told (Err BadTable) (λ p. prefix_rows_as p who i.value k) refl (k ∷ [])
plainly (calls.find-text t i j x who) n v f s = seeing t v found_told (Err BadTable) (λ p. text_found_as p who x i.value j) refl []
plainly (calls.write-digest t edition excluded datagram place) n v f s =
    filling t v written_told (given (Err BadTable) datagram) (λ t. write_digest edition excluded place t datagram) (λ u. excluded ∷ u ∷ [])
plainly (calls.read-digest edition digest) n v f s = refl
plainly (calls.digest_entry digest edition i) n v f s = refl
plainly (calls.compute t edition digest excluded ties datagram mtu place) n v f s =
    filling t v computed_told (given (Err BadTable) datagram) (λ t. compute edition excluded ties mtu place digest t datagram) (λ u. digest ∷ excluded ∷ ties ∷ u ∷ [])
plainly (calls.compute-plan t edition digest excluded nodes counts datagram mtu place) n v f s =
    filling t v computed_told (given (Err BadTable) datagram) (λ t. compute_plan edition excluded nodes counts mtu place digest t datagram)
    (λ u. digest ∷ excluded ∷ nodes ∷ counts ∷ u ∷ [])
plainly (calls.plan-fault t edition digest excluded nodes counts mtu) n v f s =
    reading t v judged_told (Err (not_sent.Refused BadTable)) (judge_plan edition excluded nodes counts mtu digest) (digest ∷ excluded ∷ nodes ∷ counts ∷ [])
plainly (calls.read-delta delta) n v f s = refl
plainly (calls.apply t delta answers now) n v f s =
    ap (λ (o : Given (Result ℕ DeltaFault) TableAndList). as_told applied_told (λ u. u.table ∷ delta.bytes ∷ u.list ∷ []) o) (apply-freed t (ok t v) (lone t v) delta.bytes now.value answers f)
plainly (calls.list-delta delta out) n v f s = refl
plainly (calls.make-delta text out) n v f s = refl
plainly (calls.exchange publisher follower edition unasked unsent ties digest delta answers mtu now) n v f s =
    ap (λ (o : Given (Result Exchanged Stopped) ExchangeLent). as_told exchanged_told (λ u. freed publisher ∷ u.follower ∷ unasked ∷ unsent ∷ ties ∷ u.digest ∷ u.delta ∷ u.answers ∷ []) o)
    (exchange-freed publisher follower (good publisher (first publisher (follower ∷ []) v)) (good follower (second publisher follower [] v)) (alone follower (second publisher follower [] v)) (lending edition unasked unsent ties mtu now.value digest delta answers) f)

pub demand2 : Demand2
demand2 k c = plainly c
