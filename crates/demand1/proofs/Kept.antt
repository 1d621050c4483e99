-- Tables that obey the rules are left as tables that obey them, by every call. Assumes nothing.
use Prim.Native.Nat.{ℕ, ◌<◌}
use mathlib.Core.Bool.{Bool, true, false, ◌&&◌}
use mathlib.Core.List.{List, [], ◌∷◌}
use mathlib.Core.Path.{◌≡◌, ◌∙◌, ap, refl, subst, sym}
use lib.Dec.{eqb}
use lib.ListN.{length}
use Rattle.fields.specs.Choice.{pick, ◌∈◌}
use Rattle.fields.specs.Numbers.{Bytes}
use Rattle.fields.proofs.Choice.{and_intro, and_left, and_right}
use Rattle.rules.specs.Apply.{Ways, apply, apply_node, ways_in}
use Rattle.rules.specs.Delta.{Good, Op, Part, nothing_read, parts_of, read_delta}
use Rattle.rules.specs.Given.{Given, given}
use Rattle.rules.specs.Whole.{Whole, area_of, decode_whole, encode_whole, obeys_whole, valid_whole, whole_width, with_table}
use Rattle.rules.specs.Lent.{add_whole, both, lent_apply, lent_apply_as, lent_new, on_table, on_whole, remove_whole, stored_in, stored_apply}
use Rattle.rules.specs.Local.{Outcome, call_as, gc, local_beat, offer, write_as}
use Rattle.rules.specs.Node.{Call, Deleting, DeletingAfterTtl, Setting, SettingTtl, beats, due}
use Rattle.rules.specs.Profile.{Kind, kind, profile_obeys}
use Rattle.rules.specs.Sizes.{numbers}
use Rattle.rules.specs.Table.{Table, numbers_of, obeys}
use Rattle.std.specs.Prelude.{Err, Ok, Result}
use Rattle.exchange_ask.specs.declared.Stopped.{Stopped}
use Rattle.rules.specs.declared.Refusal.{Refusal}
use Rattle.rules.specs.declared.Sent.{Sent}
use Rattle.rules.specs.Results.{done}
use Rattle.rules.specs.declared.Party.{Party}
use Rattle.rules.specs.declared.Profile.{Profile}
use Rattle.rules.specs.declared.Refusal.TheVariants.{BadTable}
use Rattle.rules.proofs.Accepted.{computed-chain, computed-small}
use Rattle.rules.proofs.Calls.{apply-keeps, beat-keeps, call-keeps, gc-keeps, none-obeys, numbers-beat, numbers-call, numbers-offer, offer-keeps, ok-each}
use Rattle.rules.proofs.Formed.{empty-formed}
use Rattle.rules.proofs.Keeps.{ClockFits}
use Rattle.rules.proofs.Obeys.{facts-table, table-facts}
use Rattle.rules.proofs.Received.{OkDelta, parts-ok}
use Rattle.rules.proofs.Memories.{add-keeps-whole, remove-keeps-whole, same_nodes, whole-profile}
use Rattle.rules.proofs.Tables.{applied-table, numbers-each, numbers-remove}
use Rattle.rules.proofs.Writing.{call-as, write_as_lem}
use Rattle.table.proofs.Tables.{valid-obeys}
use Rattle.table.proofs.Wholes.{area-valid, valid-encode-whole, without-memory}
use Rattle.table.proofs.Wholes as valid
use Rattle.profiles.proofs.Kept.{apply-formed, beat-formed, call-formed, gc-formed, offer-formed, write-formed}
use Rattle.profiles.proofs.Lawful.{kind-lawful}
use Rattle.nodes.specs.New.{lent_made}
use Rattle.overrides.specs.Overrides.{valid_node}
use Rattle.overrides.proofs.Valid.{over-long}
use Rattle.overrides.proofs.Keeps.{new-keeps as over-new-keeps, removal-keeps, call-keeps as over-call-keeps, write_keeps as over-write-keeps}
use Rattle.grid.specs.GridLayout.{valid_grid}
use Rattle.grid.specs.LentGrid.{GridAndTable, lent_careful, lent_column_in, lent_column_out, valid_both}
use Rattle.grid_kept.proofs.LentKept.{both-grid, both-table, careful-bad, careful-together, in-bad, in-together, new-keeps, out-bad, out-together, take-out-keeps, tell-keeps}
use Rattle.exchange.specs.Exchanging.{Lending, after_asking, after_computing, after_digesting, lent_answer, lent_exchange, rooms_of, three_calls, lending}
use Rattle.exchange_ask.specs.Asking.{ready_for}
use Rattle.exchange.proofs.Refusing.{IsReady, delta-made, delta-read, digest-told, ds, is-ready, sent}
use Rattle.demand1.specs.Calls as calls
use Rattle.demand1.specs.Demand1.{obey_all}

-- a valid table obeys
whole-obeys : (l : Bytes) → valid_whole l ≡ true → obeys (decode_whole l).table ≡ true
whole-obeys l v = valid-obeys (area_of l) (area-valid l v)

-- its profile
abbrev profile_in : Bytes → Profile
profile_in l = (decode_whole l).kind.profile

-- and so does one with the same nodes, in the form of the profile
stays : (l : Bytes) → valid_whole l ≡ true → (t : Table) → obeys t ≡ true → profile_obeys (profile_in l) t ≡ true → numbers_of t ≡ numbers_of (decode_whole l).table
    → valid_whole (encode_whole (with_table t (decode_whole l))) ≡ true
stays l v t o f e = valid-encode-whole (with_table t (decode_whole l)) (same_nodes (decode_whole l) (valid.whole-obeys l v) t o f e)

-- ---- calls that change the table

kept : {A : Type 0} (bad : A) (rule : Table → Outcome A) → ((t : Table) → obeys t ≡ true → obeys (rule t).table ≡ true)
    → ((t : Table) → numbers_of (rule t).table ≡ numbers_of t)
    → (l : Bytes) → ((t : Table) → obeys t ≡ true → profile_obeys (profile_in l) t ≡ true → profile_obeys (profile_in l) (rule t).table ≡ true)
    → valid_whole l ≡ true → valid_whole (on_table bad rule l).lent ≡ true
unfolding on_table
kept {A} bad rule f same l formed v =
    ap (λ (b : Bool). valid_whole (pick b (stored_in (decode_whole l) (rule (decode_whole l).table)) (given bad l)).lent) v
    ∙ stays l v (rule (decode_whole l).table).table (f (decode_whole l).table (whole-obeys l v))
    (formed (decode_whole l).table (whole-obeys l v) (whole-profile (decode_whole l) (valid.whole-obeys l v))) (same (decode_whole l).table)

-- with the memory too
kept_whole : {A : Type 0} (bad : A) (rule : Whole → Given A Whole) → ((w : Whole) → obeys_whole w ≡ true → obeys_whole (rule w).lent ≡ true)
    → (l : Bytes) → valid_whole l ≡ true → valid_whole (on_whole bad rule l).lent ≡ true
unfolding on_whole
kept_whole {A} bad rule f l v =
    ap (λ (b : Bool). valid_whole (pick b (given (rule (decode_whole l)).answer (encode_whole (rule (decode_whole l)).lent)) (given bad l)).lent) v
    ∙ valid-encode-whole (rule (decode_whole l)).lent (f (decode_whole l) (valid.whole-obeys l v))

made : (m : Kind) (l : Bytes) → valid_whole l ≡ true → valid_whole (lent_made m l).lent ≡ true
unfolding lent_made lent_new
made m l v = go (eqb (length l) whole_width)
  where
    go : (b : Bool) → valid_whole (pick b (given done (lent_new m)) (given (Err BadTable) l)).lent ≡ true
    go true = valid-encode-whole (record { kind = m; memory = []; table = [] }) (without-memory m [] none-obeys (empty-formed m.profile))
    go false = v

-- what a profile refuses changes nothing
call-keeps-as : (p : Profile) (q : Party) (c : Call) (i : ℕ) (k : Bytes) (t : Table) → ClockFits c → obeys t ≡ true → obeys (call_as p q c i k t).table ≡ true
call-keeps-as p q c i k t fits o = call-as p q c i k t (λ x. obeys x.table ≡ true) (call-keeps c i k t fits o) (λ r by. o)

write-keeps-as : (p : Profile) (q : Party) (wanted : ℕ) (v : Bytes) (now i : ℕ) (k : Bytes) (t : Table) → now < numbers → obeys t ≡ true → obeys (write_as p q wanted v now i k t).table ≡ true
write-keeps-as p q wanted v now i k t fits o =
    write_as_lem p q wanted v now i k t (λ x. obeys x.table ≡ true) (call-keeps-as p q (Setting v) i k t tt o) (call-keeps-as p q (SettingTtl v now) i k t fits o) o

-- no node comes or goes by a write, a removal of records or a delta
numbers-call-as : (p : Profile) (q : Party) (c : Call) (i : ℕ) (k : Bytes) (t : Table) → numbers_of (call_as p q c i k t).table ≡ numbers_of t
numbers-call-as p q c i k t = call-as p q c i k t (λ o. numbers_of o.table ≡ numbers_of t) (numbers-call c i k t) (λ r by. refl)

numbers-write : (p : Profile) (q : Party) (wanted : ℕ) (v : Bytes) (now i : ℕ) (k : Bytes) (t : Table) → numbers_of (write_as p q wanted v now i k t).table ≡ numbers_of t
numbers-write p q wanted v now i k t =
    write_as_lem p q wanted v now i k t (λ o. numbers_of o.table ≡ numbers_of t) (numbers-call-as p q (Setting v) i k t) (numbers-call-as p q (SettingTtl v now) i k t) refl

numbers-gc : (now grace : ℕ) (t : Table) → numbers_of (gc now grace t).table ≡ numbers_of t
unfolding gc
numbers-gc now grace t = numbers-remove (λ i. due now grace) t

numbers-apply : (ways : Ways) (delta : Bytes) (now : ℕ) (t : Table) (answers : Bytes) → numbers_of (apply ways delta now t answers).table ≡ numbers_of t
numbers-apply ways delta now t answers =
    applied-table ways delta now t answers (λ u. numbers_of u ≡ numbers_of t) refl (λ ops q. numbers-each (apply_node ways now) (parts_of ops) t)

-- applying a delta of which it is known that the table is kept
applying : (delta : Bytes) (now : ℕ) (answers l : Bytes) → valid_whole l ≡ true
    → (obeys (decode_whole l).table ≡ true → obeys (apply (ways_in (decode_whole l).kind) delta now (decode_whole l).table answers).table ≡ true)
    → valid_whole (lent_apply delta now answers l).lent.table ≡ true
unfolding lent_apply_as
applying delta now answers l v f =
    let o = apply (ways_in (decode_whole l).kind) delta now (decode_whole l).table answers in
    ap (λ (b : Bool). valid_whole (pick b (stored_apply (decode_whole l) o) (given (Err (record { why = BadTable; at = 0 })) (both l answers))).lent.table) v
    ∙ stays l v o.table (f (whole-obeys l v))
    (apply-formed (decode_whole l).kind delta now (decode_whole l).table answers (whole-profile (decode_whole l) (valid.whole-obeys l v)))
    (numbers-apply (ways_in (decode_whole l).kind) delta now (decode_whole l).table answers)

-- ---- grids

-- a node that comes or goes with its column: what belongs together does so afterwards, and all else is left
grown : (i : ℕ) → i < numbers → (t g : Bytes) → valid_whole t ≡ true → valid_grid g ≡ true → (valid_whole (lent_column_in i g t).lent.table ≡ true) × (valid_grid (lent_column_in i g t).lent.grid ≡ true)
grown i h t g w v = go (valid_both g t) refl
  where
    go : (b : Bool) → valid_both g t ≡ b → (valid_whole (lent_column_in i g t).lent.table ≡ true) × (valid_grid (lent_column_in i g t).lent.grid ≡ true)
    go true e = let x = in-together g t e i h in (both-table _ _ x, both-grid _ _ x)
    go false e = let x = in-bad i g t e in (ap (λ (u : GridAndTable). valid_whole u.table) x ∙ w, ap (λ (u : GridAndTable). valid_grid u.grid) x ∙ v)

shrunk : (i : ℕ) (t g : Bytes) → valid_whole t ≡ true → valid_grid g ≡ true → (valid_whole (lent_column_out i g t).lent.table ≡ true) × (valid_grid (lent_column_out i g t).lent.grid ≡ true)
shrunk i t g w v = go (valid_both g t) refl
  where
    go : (b : Bool) → valid_both g t ≡ b → (valid_whole (lent_column_out i g t).lent.table ≡ true) × (valid_grid (lent_column_out i g t).lent.grid ≡ true)
    go true e = let x = out-together g t e i in (both-table _ _ x, both-grid _ _ x)
    go false e = let x = out-bad i g t e in (ap (λ (u : GridAndTable). valid_whole u.table) x ∙ w, ap (λ (u : GridAndTable). valid_grid u.grid) x ∙ v)

carefully : (now grace : ℕ) (t g : Bytes) → valid_whole t ≡ true → valid_whole (lent_careful now grace g t).lent ≡ true
carefully now grace t g w = go (valid_both g t) refl
  where
    go : (b : Bool) → valid_both g t ≡ b → valid_whole (lent_careful now grace g t).lent ≡ true
    go true e = both-table _ _ (careful-together g t e now grace)
    go false e = ap valid_whole (careful-bad now grace g t e) ∙ w

-- ---- an exchange

-- the publisher's delta keeps the follower's rules
read_keeps : (m : Kind) (delta : Bytes) (ops : List Op) (now : ℕ) (answers : Bytes) (t : Table) → now < numbers → read_delta delta ≡ Good ops
    → ((x : Part) → x ∈ parts_of ops → OkDelta x.delta)
    → obeys t ≡ true → obeys (apply (ways_in m) delta now t answers).table ≡ true
read_keeps m delta ops now answers t clock e fine o =
    applied-table (ways_in m) delta now t answers (λ u. obeys u ≡ true) o
    (λ os q. let same : Good ops ≡ Good os = sym e ∙ (kind-lawful m).reads_so delta os q in facts-table _ (ok-each (ways_in m) (kind-lawful m) now clock (parts_of os) t (known os same) (table-facts t o)))
  where
    known : (os : List Op) → Good ops ≡ Good os → (x : Part) → x ∈ parts_of os → OkDelta x.delta
    known os q = let s : ops ≡ os = cc in subst (λ (l : List Op). (x : Part) → x ∈ parts_of l → OkDelta x.delta) s fine

module _ (g : Lending) (publisher follower : Bytes) (clock : g.clock < numbers) where
  ready-kept : IsReady g publisher follower → valid_whole (three_calls g publisher follower).lent.follower ≡ true
  unfolding three_calls lent_answer
  ready-kept r =
      let ok = whole-obeys publisher r.publisher_valid in
      let d = ds g publisher follower r in
      ap (λ (o : Given (Result ℕ Refusal) Bytes). valid_whole (after_digesting g publisher follower o.lent o.answer).lent.follower) (digest-told g publisher follower r)
      ∙ ap (λ (o : Given (Result Sent Refusal) Bytes). valid_whole (after_computing g.clock g.answers follower o.lent o.answer).lent.follower) (delta-made g publisher follower r)
      ∙ applying _ g.clock g.answers follower r.follower_valid
      (read_keeps (decode_whole follower).kind _ (sent g publisher follower r) g.clock g.answers (decode_whole follower).table clock (delta-read g publisher follower r)
      (parts-ok (sent g publisher follower r) nothing_read (computed-chain g.unsent g.ties d (decode_whole publisher).table ok g.mtu)
      (computed-small g.unsent g.ties d (decode_whole publisher).table ok g.mtu)))

  exchanged : valid_whole follower ≡ true → valid_whole (lent_exchange g publisher follower).lent.follower ≡ true
  unfolding lent_exchange
  exchanged v = go (ready_for g.edition g.unasked (rooms_of g) publisher follower) refl
    where
      go : (x : (Result (Unit {0}) Stopped)) → ready_for g.edition g.unasked (rooms_of g) publisher follower ≡ x → valid_whole (after_asking g publisher follower x).lent.follower ≡ true
      go (Ok _) e = ready-kept (is-ready g publisher follower e)
      go (Err s) e = v

-- ---- all calls

-- overrides
over : (a b : Bytes) → (valid_node a ≡ true → valid_node b ≡ true) → obey_all (valid_node ∷ []) (a ∷ []) ≡ true → obey_all (valid_node ∷ []) (b ∷ []) ≡ true
unfolding obey_all
over a b f e = and_intro (valid_node b) true (f (and_left (valid_node a) true e)) refl

-- a grid
watched : (a b : Bytes) → (valid_grid a ≡ true → valid_grid b ≡ true) → obey_all (valid_grid ∷ []) (a ∷ []) ≡ true → obey_all (valid_grid ∷ []) (b ∷ []) ≡ true
unfolding obey_all
watched a b f e = and_intro (valid_grid b) true (f (and_left (valid_grid a) true e)) refl

-- a table and a grid
pair : (t g u h : Bytes) → (valid_whole t ≡ true → valid_grid g ≡ true → (valid_whole u ≡ true) × (valid_grid h ≡ true))
    → obey_all (valid_whole ∷ valid_grid ∷ []) (t ∷ g ∷ []) ≡ true
    → obey_all (valid_whole ∷ valid_grid ∷ []) (u ∷ h ∷ []) ≡ true
unfolding obey_all
pair t g u h f e =
    let x = f (and_left (valid_whole t) (valid_grid g && true) e) (and_left (valid_grid g) true (and_right (valid_whole t) (valid_grid g && true) e)) in
    and_intro (valid_whole u) (valid_grid h && true) x.0 (and_intro (valid_grid h) true x.1 refl)

-- one table
one : (a b : Bytes) → (valid_whole a ≡ true → valid_whole b ≡ true) → obey_all (valid_whole ∷ []) (a ∷ []) ≡ true → obey_all (valid_whole ∷ []) (b ∷ []) ≡ true
unfolding obey_all
one a b f e = and_intro (valid_whole b) true (f (and_left (valid_whole a) true e)) refl

-- two tables, of which the first stays
two : (p a b : Bytes) → (valid_whole a ≡ true → valid_whole b ≡ true)
    → obey_all (valid_whole ∷ valid_whole ∷ []) (p ∷ a ∷ []) ≡ true
    → obey_all (valid_whole ∷ valid_whole ∷ []) (p ∷ b ∷ []) ≡ true
unfolding obey_all
two p a b f e =
    and_intro (valid_whole p) (valid_whole b && true) (and_left (valid_whole p) (valid_whole a && true) e) (one a b f (and_right (valid_whole p) (valid_whole a && true) e))

pub obeying : {k : calls.Kind} (c : calls.Call k)
    → obey_all (calls.checks k) (calls.lent_to c) ≡ true
    → obey_all (calls.checks k) (calls.leaves c).lent ≡ true
unfolding calls.leaves calls.lent_to obey_all
obeying (calls.new-table t m p) = one t _ (made (kind m p) t)
obeying (calls.add-node t i) = one t _ (kept_whole (Err BadTable) (add_whole i.value) (λ w o. add-keeps-whole w o i.value i.fits) t)
obeying (calls.remove-node t i) = one t _ (kept_whole (Err BadTable) (remove_whole i.value) (λ w o. remove-keeps-whole w o i.value) t)
obeying (calls.last-heartbeat t i) = λ e. e
obeying (calls.write t k v i wanted now who) =
    let p = profile_in t in
    one t _ (kept (Err BadTable) (write_as p who wanted.value v now.value i.value k) (λ t. write-keeps-as p who wanted.value v now.value i.value k t now.fits) (numbers-write p who wanted.value v now.value i.value k) t
    (write-formed p who wanted.value v now.value i.value k))
obeying (calls.delete t k i now who) =
    let p = profile_in t in
    let c = Deleting now.value in
    one t _ (kept (Err BadTable) (call_as p who c i.value k) (λ t. call-keeps-as p who c i.value k t now.fits) (numbers-call-as p who c i.value k) t (call-formed p who c i.value k))
obeying (calls.delete-after-ttl t k i now who) =
    let p = profile_in t in
    let c = DeletingAfterTtl now.value in
    one t _ (kept (Err BadTable) (call_as p who c i.value k) (λ t. call-keeps-as p who c i.value k t now.fits) (numbers-call-as p who c i.value k) t (call-formed p who c i.value k))
obeying (calls.remove-scheduled t now grace) =
    one t _ (kept (Err BadTable) (gc now.value grace.value) (gc-keeps now.value grace.value) (numbers-gc now.value grace.value) t (λ u ok. gc-formed (profile_in t) now.value grace.value u))
obeying (calls.offer-heartbeat t i h) =
    one t _ (kept (Err BadTable) (offer i.value (beats h.value)) (λ t. offer-keeps i.value (beats h.value) t h.fits) (numbers-offer i.value (beats h.value)) t (λ u ok. offer-formed (profile_in t) i.value (beats h.value) u))
obeying (calls.local-beat t i) = one t _ (kept (Err BadTable) (local_beat i.value) (beat-keeps i.value) (numbers-beat i.value) t (λ u ok. beat-formed (profile_in t) i.value u))
obeying (calls.find t k i who) = λ e. e
obeying (calls.list-prefix t k out i who) = λ e. e
obeying (calls.new-overrides o i) = over o _ (λ v. over-new-keeps i.value o i.fits (over-long o v))
obeying (calls.write-override o k v wanted now) = over o _ (over-write-keeps wanted.value v now.value k o now.fits)
obeying (calls.delete-override o k now) = over o _ (over-call-keeps (Deleting now.value) k o now.fits)
obeying (calls.delete-override-after-ttl o k now) = over o _ (over-call-keeps (DeletingAfterTtl now.value) k o now.fits)
obeying (calls.remove-overrides o now grace) = over o _ (removal-keeps now.value grace.value o)
obeying (calls.find-over t o k i who) = λ e. e
obeying (calls.list-over t o k out i who) = λ e. e
obeying (calls.new-grid t g) = pair t g t _ (λ w v. (w, new-keeps t g w v))
obeying (calls.grid_add_node t g i) = pair t g _ _ (λ w v. grown i.value i.fits t g w v)
obeying (calls.grid_remove_node t g i) = pair t g _ _ (λ w v. shrunk i.value t g w v)
obeying (calls.tell g digest p edition) = watched g _ (tell-keeps p edition digest.bytes g digest.are)
obeying (calls.take-out g p) = watched g _ (take-out-keeps p g)
obeying (calls.least-max g i) = λ e. e
obeying (calls.seen-by g p i) = λ e. e
obeying (calls.remove-carefully t g now grace) = pair t g _ g (λ w v. (carefully now.value grace.value t g w, v))
obeying (calls.node-count t) = λ e. e
obeying (calls.node-number t i) = λ e. e
obeying (calls.node-header t i) = λ e. e
obeying (calls.record-count t i who) = λ e. e
obeying (calls.record-at t i j who) = λ e. e
obeying (calls.record-of t i j who) = λ e. e
obeying (calls.record-by-key t k i who) = λ e. e
obeying (calls.node-rows t i who) = λ e. e
obeying (calls.front t i who) = λ e. e
obeying (calls.prefix-rows t k i who) = λ e. e
obeying (calls.find-text t i j x who) = λ e. e
obeying (calls.write-digest t edition excluded datagram place) = λ e. e
obeying (calls.read-digest edition digest) = λ e. e
obeying (calls.digest_entry digest edition i) = λ e. e
obeying (calls.compute t edition digest excluded ties datagram mtu place) = λ e. e
obeying (calls.compute-plan t edition digest excluded nodes counts datagram mtu place) = λ e. e
obeying (calls.plan-fault t edition digest excluded nodes counts mtu) = λ e. e
obeying (calls.read-delta delta) = λ e. e
obeying (calls.apply t delta answers now) =
    one t _
    (λ v. applying delta.bytes now.value answers t v (apply-keeps (ways_in (decode_whole t).kind) (kind-lawful (decode_whole t).kind) delta.bytes now.value (decode_whole t).table answers delta.are now.fits))
obeying (calls.list-delta delta out) = λ e. e
obeying (calls.make-delta text out) = λ e. e
obeying (calls.exchange publisher follower edition unasked unsent ties digest delta answers mtu now) =
    two publisher follower _ (exchanged (lending edition unasked unsent ties mtu now.value digest delta answers) publisher follower now.fits)
