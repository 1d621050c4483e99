-- The rules that a profile adds to 14 are kept by every call on a table: applying any bytes, in every mode, the local calls, heartbeats, removal. Assumes nothing.
use Prim.Native.Nat.{ℕ, ◌+◌}
use mathlib.Core.Bool.{Bool, true, false, ◌&&◌}
use mathlib.Core.List.{List, [], ◌∷◌}
use mathlib.Core.Logic.{◌⊎◌, inl, inr}
use mathlib.Core.Option.{Option, none, some}
use mathlib.Core.Path.{◌≡◌, refl, sym, subst}
use native.Mathlib.Omega.{arith}
use lib.Dec.{eqb, leb, ltb}
use lib.ListN.{length}
use Rattle.fields.specs.Choice.{pick, all, ◌∈◌, here, later}
use Rattle.fields.specs.Order.{same_bytes}
use Rattle.fields.proofs.Choice.{all_from, and_intro, and_left, and_right, in-cons, in-none}
use Rattle.rules.specs.Sizes.{max_records, top}
use Rattle.rules.specs.Node.{KeyValue, Rec, Node, Call, Setting, SettingTtl, Deleting, DeletingAfterTtl, Change, Decision, Refuse, Leave, Give, act, allowed, beats, decide, due, find, full_for, offer_of, same_status, scheduled, store, unless_same, if_there, wish, with_heartbeat, write}
use Rattle.rules.specs.Table.{Table, node_of, obeys, set_node}
use Rattle.rules.specs.Local.{Outcome, beat_on, call, call_as, call_on, gc, gives, local_beat, offer, offer_on, unless_guarded}
use Rattle.rules.specs.Local as local
use Rattle.rules.specs.Delta.{Op, NodeOp, KeyValueOp, SetMaxVersionOp, NodeDelta, Part, parts_of, recs_of, max_of}
use Rattle.rules.specs.Apply.{apply, apply_each, apply_node, on_node, outcome, take_all, takes, stamp, ways_in}
use Rattle.rules.specs.Profile.{Kind, kind, brings, guard_at, guard_in, guard_of, in_form, is_digit, max_digits, meter_guard, meter_key, meter_value, op_in_form, profile_obeys, recs_fit, recs_formed, recs_obey, roomy_in, sizes_fit, smaller}
use Rattle.rules.specs.declared.Heartbeat.{Heartbeat}
use Rattle.rules.specs.declared.Profile.{Profile}
use Rattle.rules.specs.declared.Mode.{Mode}
use Rattle.rules.specs.declared.Party.{Party}
use Rattle.rules.specs.declared.Profile.TheVariants.{Free, Meter, Shared}
use Rattle.rules.specs.declared.Refusal.{Refusal}
use Rattle.rules.specs.declared.Refusal.TheVariants.{BadForm, Exhausted, NodeFull, SmallerTotal, TooLong}
use Rattle.std.specs.Prelude.{Err, Result}
use Rattle.rules.specs.Results.{done}
use Rattle.rules.specs.declared.Status.{Status}
use Rattle.rules.specs.declared.Status.TheVariants.{Set, Delete, Ttl}
use Rattle.rules.proofs.Calls.{node-ok-in}
use Rattle.rules.proofs.Keeps.{find-in}
use Rattle.rules.proofs.Obeys.{table-facts}
use Rattle.rules.proofs.Records.{Sorted}
use Rattle.rules.proofs.Formed.{formed-fit, node-obeys, none-formed, obey-fit, obey-formed, removed-formed, set-formed, store-formed}
use Rattle.rules.proofs.Tables.{applied-table}
use Rattle.rules.proofs.Taking.{Came, left, reset, took, came}
use Rattle.rules.proofs.Writing.{write_as_lem}
use Rattle.profiles.proofs.Reading.{delta-plain}
use Rattle.profiles.proofs.Shared.{own-formed, passes, stored-few}

-- ---- applying

module _ (p : Profile) where
  abbrev good : Rec → Bool
  good r = in_form p r.kv

  take-good : (held gc now : ℕ) (ss : List KeyValue) (l : List Rec) → all (in_form p) ss ≡ true → all good l ≡ true → all good (take_all held gc now ss l) ≡ true
  unfolding take_all all
  take-good held gc now [] l f h = h
  take-good held gc now (s ∷ ss) l f h = take-good held gc now ss (pick (takes held gc s) (store (stamp now s) l) l) (and_right (in_form p s) (all (in_form p) ss) f) (go (takes held gc s))
    where
      go : (b : Bool) → all good (pick b (store (stamp now s) l) l) ≡ true
      go true = store-formed p (stamp now s) l (and_left (in_form p s) (all (in_form p) ss) f) h
      go false = h

  -- ---- a node delta

  fit : (l : List Rec) → roomy_in p l ≡ true → recs_fit p l ≡ true
  fit l e = and_left (recs_fit p l) (leb (length l) max_records) e

  node-taken : (m : Mode) (now : ℕ) (d : NodeDelta) (n : Node) → all (in_form p) d.recs ≡ true → recs_obey p n.recs ≡ true → recs_obey p (apply_node (ways_in (kind m p)) now d n).node.recs ≡ true
  unfolding outcome
  node-taken m now d n f h = go _ (came (ways_in (kind m p)) now d n)
    where
      go : (x : Node) → Came (ways_in (kind m p)) now d n x → recs_obey p x.recs ≡ true
      go x left = h
      go x (reset r) = formed-fit p (take_all 0 d.last_gc now d.recs []) (take-good 0 d.last_gc now d.recs [] f (none-formed p)) (fit (take_all 0 d.last_gc now d.recs []) r.roomy)
      go x (took r) =
          formed-fit p (take_all n.max n.last_gc now d.recs n.recs) (take-good n.max n.last_gc now d.recs n.recs f (obey-formed p n.recs h))
          (fit (take_all n.max n.last_gc now d.recs n.recs) r.roomy)

  -- ---- the node deltas of a delta that was read

  recs-form : (ops : List Op) → all (op_in_form p) ops ≡ true → all (in_form p) (recs_of ops) ≡ true
  unfolding recs_of all
  recs-form [] f = refl
  recs-form (NodeOp n g m ∷ ops) f = refl
  recs-form (KeyValueOp r ∷ ops) f = and_intro (in_form p r) (all (in_form p) (recs_of ops)) (and_left (in_form p r) (all (op_in_form p) ops) f) (recs-form ops (and_right (in_form p r) (all (op_in_form p) ops) f))
  recs-form (SetMaxVersionOp m ∷ ops) f = recs-form ops f

  parts-form : (ops : List Op) → all (op_in_form p) ops ≡ true → (x : Part) → x ∈ parts_of ops → all (in_form p) x.delta.recs ≡ true
  unfolding parts_of all
  parts-form [] f x k = absurd (in-none k)
  parts-form (NodeOp n g m ∷ ops) f x k = at (in-cons k) (parts-form ops f x)
    where
      at : (x ≡ record { number = n; delta = record { from = m; last_gc = g; recs = recs_of ops; max = max_of 0 ops } }) ⊎ (x ∈ parts_of ops) → (x ∈ parts_of ops → all (in_form p) x.delta.recs ≡ true) → all (in_form p) x.delta.recs ≡ true
      at (inl e) ih = subst (λ (y : Part). all (in_form p) y.delta.recs ≡ true) (sym e) (recs-form ops f)
      at (inr j) ih = ih j
  parts-form (KeyValueOp r ∷ ops) f x k = parts-form ops (and_right (in_form p r) (all (op_in_form p) ops) f) x k
  parts-form (SetMaxVersionOp m ∷ ops) f x k = parts-form ops f x k

  -- ---- the table

  each-taken : (m : Mode) (now : ℕ) (xs : List Part) (t : Table) → ((x : Part) → x ∈ xs → all (in_form p) x.delta.recs ≡ true) → profile_obeys p t ≡ true → profile_obeys p (apply_each (apply_node (ways_in (kind m p)) now) xs t).table ≡ true
  unfolding apply_each
  each-taken m now [] t f h = h
  each-taken m now (x ∷ xs) t f h = go (node_of x.number t) refl (λ u g. each-taken m now xs u (λ y mem. f y (later mem)) g)
    where
      go : (o : Option Node) → node_of x.number t ≡ o → ((u : Table) → profile_obeys p u ≡ true → profile_obeys p (apply_each (apply_node (ways_in (kind m p)) now) xs u).table ≡ true)
          → profile_obeys p (on_node (apply_node (ways_in (kind m p)) now) x o t (apply_each (apply_node (ways_in (kind m p)) now) xs)).table ≡ true
      go none q ih = ih t h
      go (some n) q ih = ih _ (set-formed p x.number (apply_node (ways_in (kind m p)) now x.delta n).node t h (node-taken m now x.delta n (f x (here refl)) (node-obeys p x.number t h q)))

-- applying keeps the profile's rules, whatever the bytes
pub apply-formed : (k : Kind) (bytes : List ℕ) (now : ℕ) (t : Table) (l : List ℕ) → profile_obeys k.profile t ≡ true → profile_obeys k.profile (apply (ways_in k) bytes now t l).table ≡ true
apply-formed k bytes now t l h =
    applied-table (ways_in k) bytes now t l (λ u. profile_obeys k.profile u ≡ true) h
    (λ ops q. each-taken k.profile k.mode now (parts_of ops) t (parts-form k.profile ops (delta-plain k.profile bytes ops q).1) h)

-- ---- heartbeats and removal

pub offer-formed : (p : Profile) (i : ℕ) (h : Heartbeat) (t : Table) → profile_obeys p t ≡ true → profile_obeys p (offer i h t).table ≡ true
unfolding offer
offer-formed p i h t o = go (node_of i t) refl
  where
    go : (x : Option Node) → node_of i t ≡ x → profile_obeys p (offer_on i h x t).table ≡ true
    go none q = o
    go (some n) q = set-formed p i (with_heartbeat (offer_of n.heartbeat h).heartbeat n) t o (node-obeys p i t o q)

pub beat-formed : (p : Profile) (i : ℕ) (t : Table) → profile_obeys p t ≡ true → profile_obeys p (local_beat i t).table ≡ true
unfolding local_beat
beat-formed p i t o = go (node_of i t) refl
  where
    at : (n : Node) → node_of i t ≡ some n → (b : Bool) → profile_obeys p (pick b (gives done (set_node i (with_heartbeat (beats (n.heartbeat.0 + 1)) n) t)) (gives (Err Exhausted) t)).table ≡ true
    at n q true = set-formed p i (with_heartbeat (beats (n.heartbeat.0 + 1)) n) t o (node-obeys p i t o q)
    at n q false = o

    go : (x : Option Node) → node_of i t ≡ x → profile_obeys p (beat_on i x t).table ≡ true
    go none q = o
    go (some n) q = at n q (ltb n.heartbeat.0 top)

pub gc-formed : (p : Profile) (now grace : ℕ) (t : Table) → profile_obeys p t ≡ true → profile_obeys p (gc now grace t).table ≡ true
unfolding gc
gc-formed p now grace t h = removed-formed p (λ i. due now grace) t h

-- ---- the local calls

-- by the node's rules
is_call : (p : Profile) (q : Party) (c : Call) (i : ℕ) (k : List ℕ) (t : Table) (P : Outcome (Result (Unit {0}) Refusal) → Type 0) → P (unless_guarded (guard_in p q c k (node_of i t)) (call_on c i k (node_of i t) t) t) → P (call_as p q c i k t)
unfolding call_as call
is_call p q c i k t P x = x

some-none : {A X : Type 0} (x : A) → some x ≡ none → X
some-none {A} x e = let z : ◌≡◌ {A = ℕ} 0 1 = cc in absurd (omega arith)

-- what the guard lets through is in form
guard-form : (r : KeyValue) (o : Option Rec) → meter_guard (some r) o ≡ none → in_form Meter r ≡ true
guard-form r o = go (in_form Meter r) (smaller r o)
  where
    go : (a b : Bool) → pick a (pick b (some SmallerTotal) none) (some BadForm) ≡ none → a ≡ true
    go true b e = refl
    go false b e = some-none BadForm e

refuse-give : {X : Type 0} (r : Refusal) (c : Change) → Refuse r ≡ Give c → X
refuse-give r c e = let z : ◌≡◌ {A = ℕ} 0 1 = cc in absurd (omega arith)

leave-give : {X : Type 0} (c : Change) → Leave ≡ Give c → X
leave-give c e = let z : ◌≡◌ {A = ℕ} 0 1 = cc in absurd (omega arith)

give-is : (c d : Change) → Give c ≡ Give d → c ≡ d
give-is c d e = cc

unless-is : (o : Option Rec) (c d : Change) → unless_same o c ≡ Give d → c ≡ d
unless-is none c d e = give-is c d e
unless-is (some r) c d e = go (same_status r.kv.status c.status && same_bytes r.kv.value c.value) e
  where
    go : (b : Bool) → pick b Leave (Give c) ≡ Give d → c ≡ d
    go true e = leave-give d e
    go false e = give-is c d e

-- the record that a change makes
abbrev made : (k : List ℕ) (v : ℕ) (c : Change) → KeyValue
made k v c = record { key = k; value = c.value; version = v; status = c.status }

-- what is in form under any status is in form under TTL
ttl-form : (st : Status) (l : List ℕ) → meter_value st l ≡ true → meter_value Ttl l ≡ true
unfolding meter_value
ttl-form st l e = go (eqb (length l) 0) e
  where
    go : (b : Bool) → pick b (scheduled st) (leb (length l) max_digits && all is_digit l) ≡ true → pick b true (leb (length l) max_digits && all is_digit l) ≡ true
    go true e = refl
    go false e = e

-- nothing is in form under Delete
empty-form : meter_value Delete [] ≡ true
unfolding meter_value
empty-form = refl

module _ (k : List ℕ) (n : Node) (v : ℕ) (ch : Change) (forms : recs_formed Meter n.recs ≡ true) where
  held-form : (x : Rec) → find k n.recs ≡ some x → (meter_key k ≡ true) × (meter_value x.kv.status x.kv.value ≡ true)
  held-form x e =
      let f = find-in k n.recs e in
      let g = all_from (λ (r : Rec). in_form Meter r.kv) n.recs forms x f.0 in (
        subst (λ (y : List ℕ). meter_key y ≡ true) (sym f.1) (and_left (meter_key x.kv.key) (meter_value x.kv.status x.kv.value) g),
        and_right (meter_key x.kv.key) (meter_value x.kv.status x.kv.value) g,
      )

  meter-form : (c : Call) → wish c (find k n.recs) ≡ Give ch → meter_guard (brings c k) (find k n.recs) ≡ none → in_form Meter (made k v ch) ≡ true
  unfolding wish
  meter-form (Setting l) w g =
      subst (λ (x : Change). in_form Meter (made k v x) ≡ true) (unless-is (find k n.recs) (record { value = l; status = Set; start = 0 }) ch w) (guard-form (record { key = k; value = l; version = 0; status = Set }) (find k n.recs) g)
  meter-form (SettingTtl l now) w g =
      subst (λ (x : Change). in_form Meter (made k v x) ≡ true) (unless-is (find k n.recs) (record { value = l; status = Ttl; start = now }) ch w) (guard-form (record { key = k; value = l; version = 0; status = Ttl }) (find k n.recs) g)
  meter-form (Deleting now) w g = go (find k n.recs) refl w
    where
      go : (o : Option Rec) → find k n.recs ≡ o → if_there o (λ r. record { value = []; status = Delete; start = now }) ≡ Give ch → in_form Meter (made k v ch) ≡ true
      go none e w = refuse-give _ ch w
      go (some x) e w = subst (λ (y : Change). in_form Meter (made k v y) ≡ true) (give-is _ ch w) (and_intro (meter_key k) (meter_value Delete []) (held-form x e).0 empty-form)
  meter-form (DeletingAfterTtl now) w g = go (find k n.recs) refl w
    where
      go : (o : Option Rec) → find k n.recs ≡ o → if_there o (λ r. record { value = r.kv.value; status = Ttl; start = now }) ≡ Give ch → in_form Meter (made k v ch) ≡ true
      go none e w = refuse-give _ ch w
      go (some x) e w =
          subst (λ (y : Change). in_form Meter (made k v y) ≡ true) (give-is _ ch w)
          (and_intro (meter_key k) (meter_value Ttl x.kv.value) (held-form x e).0 (ttl-form x.kv.status x.kv.value (held-form x e).1))

-- the record that a change makes is in form, and there is room for it
module _ (q : Party) (c : Call) (k : List ℕ) (n : Node) (ch : Change) (w : wish c (find k n.recs) ≡ Give ch) where
  abbrev new : Rec
  new = record { kv = made k (n.max + 1) ch; start = ch.start }

  given-obeys : (p : Profile) → Sorted n.recs → recs_obey p n.recs ≡ true → guard_of p q c k n.recs ≡ none → recs_obey p (store new n.recs) ≡ true
  given-obeys Free s h g = store-formed Free new n.recs refl h
  given-obeys Meter s h g = store-formed Meter new n.recs (meter-form k n (n.max + 1) ch h c w g) h
  given-obeys Shared s h g =
      let x = passes k n.recs ch q c w g in
      formed-fit Shared (store new n.recs) (store-formed Shared new n.recs (own-formed q (made k (n.max + 1) ch) x.0) (obey-formed Shared n.recs h))
      (stored-few new n.recs s q x.0 (obey-fit Shared n.recs h) x.1)

-- the records of a node after a call that the guard lets through
acted : (p : Profile) (q : Party) (c : Call) (k : List ℕ) (n : Node) → Sorted n.recs → recs_obey p n.recs ≡ true → guard_at p q c k n.recs ≡ none → recs_obey p (act k (decide c k n) n).recs ≡ true
unfolding decide act write
acted p q c k n s h = go (sizes_fit c k)
  where
    wanted : (d : Decision) → wish c (find k n.recs) ≡ d → guard_of p q c k n.recs ≡ none → recs_obey p (act k (allowed k n d) n).recs ≡ true
    wanted (Refuse r) w g = h
    wanted Leave w g = h
    wanted (Give ch) w g = at (full_for (find k n.recs) n) (ltb n.max top)
      where
        at : (a b : Bool) → recs_obey p (act k (pick a (Refuse NodeFull) (pick b (Give ch) (Refuse Exhausted))) n).recs ≡ true
        at true b = h
        at false true = given-obeys q c k n ch w p s h g
        at false false = h

    go : (a : Bool) → pick a (guard_of p q c k n.recs) none ≡ none → recs_obey p (act k (pick a (allowed k n (wish c (find k n.recs))) (Refuse TooLong)) n).recs ≡ true
    go true g = wanted (wish c (find k n.recs)) refl g
    go false g = h

-- the keys of a table that obeys document 01's rules rise
sorted-in : (i : ℕ) (t : Table) {n : Node} → obeys t ≡ true → node_of i t ≡ some n → Sorted n.recs
sorted-in i t o e = (node-ok-in i t (table-facts t o) e).sorted

at-guard : (p : Profile) (q : Party) (c : Call) (k : List ℕ) (n : Node) → guard_in p q c k (some n) ≡ none → guard_at p q c k n.recs ≡ none
at-guard Free q c k n e = free-guard (sizes_fit c k)
  where
    free-guard : (b : Bool) → ◌≡◌ {A = Option Refusal} (pick b none none) none
    free-guard true = refl
    free-guard false = refl
at-guard Meter q c k n e = e
at-guard Shared q c k n e = e

pub call-formed : (p : Profile) (q : Party) (c : Call) (i : ℕ) (k : List ℕ) (t : Table) → obeys t ≡ true → profile_obeys p t ≡ true → profile_obeys p (call_as p q c i k t).table ≡ true
call-formed p q c i k t ok h = is_call p q c i k t (λ o. profile_obeys p o.table ≡ true) (on (node_of i t) refl (guard_in p q c k (node_of i t)) refl)
  where
    on : (o : Option Node) → node_of i t ≡ o → (g : Option Refusal) → guard_in p q c k o ≡ g → profile_obeys p (unless_guarded g (call_on c i k o t) t).table ≡ true
    on o e (some r) f = h
    on none e none f = h
    on (some n) e none f = set-formed p i (act k (decide c k n) n) t h (acted p q c k n (sorted-in i t ok e) (node-obeys p i t h e) (at-guard p q c k n f))

pub write-formed : (p : Profile) (q : Party) (wanted : ℕ) (v : List ℕ) (now i : ℕ) (k : List ℕ) (t : Table) → obeys t ≡ true → profile_obeys p t ≡ true → profile_obeys p (local.write_as p q wanted v now i k t).table ≡ true
write-formed p q wanted v now i k t ok h =
    write_as_lem p q wanted v now i k t (λ o. profile_obeys p o.table ≡ true) (call-formed p q (Setting v) i k t ok h) (call-formed p q (SettingTtl v now) i k t ok h) h
