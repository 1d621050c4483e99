-- A refused call leaves everything that was lent to it as it was. A refusal is known by its number, which is not 0. Assumes nothing.
use Prim.Native.Nat.{ℕ}
use mathlib.Core.Bool.{Bool, false, true, ◌&&◌}
use mathlib.Core.List.{[], ◌∷◌}
use mathlib.Core.Option.{Option, none, some}
use mathlib.Core.Path.{◌≡◌, ◌∙◌, ap, ap₂, refl}
use lib.Dec.{eqb, leb, ltb}
use lib.ListN.{length}
use Rattle.fields.specs.Choice.{pick}
use Rattle.fields.specs.Numbers.{Bytes}
use Rattle.fields.specs.Parts.{put}
use Rattle.rules.specs.Answers.{Told, answer_told, applied_told, computed_told, listed_told, offered_told, written_told}
use Rattle.rules.specs.Apply.{ways_in}
use Rattle.rules.specs.Compute as computing
use Rattle.rules.specs.Digest.{DigestRead, Entries, Refused as NotRead, fits_at, read_digest, write_bytes, write_digest}
use Rattle.rules.specs.Given.{Given, given}
use Rattle.rules.specs.Whole.{Whole, decode_whole, encode_whole, valid_whole, whole_width, with_table}
use Rattle.rules.specs.Lent.{add_whole, from_table, lent_new, on_table, remove_whole}
use Rattle.rules.specs.Listing.{listing}
use Rattle.rules.specs.Delta.{status_byte}
use Rattle.rules.specs.Layout.{node_width, encode_node, decode_node}
use Rattle.rules.specs.Sizes.{max_key}
use Rattle.rules.specs.Local.{Outcome, answer_of, call_as, gc, local_beat, offer, prefixed_as, write_as}
use Rattle.rules.specs.Node.{Call, Decision, Deleting, DeletingAfterTtl, Give, Leave, Node, Refuse, Setting, SettingTtl, act, beats, decide}
use Rattle.rules.specs.Party.{seen, sees}
use Rattle.rules.specs.Profile.{Kind, kind}
use Rattle.rules.specs.Table.{Entry, Table, node_of, numbers_of}
use Rattle.std.specs.Prelude.{Err, Ok, Result}
use Rattle.exchange.specs.declared.Exchanged.{Exchanged}
use Rattle.exchange_ask.specs.declared.Stopped.{Stopped}
use Rattle.overrides.specs.declared.RefusedOver.{RefusedOver}
use Rattle.rules.specs.declared.DeltaFault.{DeltaFault}
use Rattle.rules.specs.declared.Sent.{Sent}
use Rattle.rules.specs.Results.{done}
use Rattle.delta_make.specs.Making.{refused_at}
use Rattle.rules.specs.declared.Party.{Party}
use Rattle.rules.specs.declared.Profile.{Profile}
use Rattle.rules.specs.declared.Refusal.{Refusal}
use Rattle.rules.specs.declared.Refusal.TheVariants.{BadPeer, BadTable, BadTag, NoPlace, NobodyPresent, TooLong}
use Rattle.rules.specs.declared.Status.TheVariants.{Set, Ttl}
use Rattle.rules.proofs.Refusing.{beat-refused, call-as-refused, compute-refused, digest-refused, lent-apply-refused, lent-refused, offer-refused, prefixed-refused, whole-bytes, write-as-refused}
use Rattle.rules.proofs.Memories.{add-whole-refused, remove-whole-refused, whole-refused}
use Rattle.nodes.specs.New.{lent_made}
use Rattle.table.specs.Changes.{with_node, fresh_entry}
use Rattle.overrides.specs.Overrides.{valid_node, stored_node, on_overrides, called, cleaned, lent_new_overrides}
use Rattle.overrides.specs.Overrides as overrides
use Rattle.overrides.specs.Both.{from_both}
use Rattle.overrides.specs.declared.Which.{Which}
use Rattle.overrides.specs.declared.Which.TheVariants as which
use Rattle.overrides.proofs.Valid.{over-back}
use Rattle.over_list.specs.Merged.{places_of, list_into, list_on, list_over, lent_list_over, listing as merged}
use Rattle.over_list.specs.Told.{listed_over_told}
use Rattle.grid.specs.Grid.{add_column, drop_column, max_peers, new_grid, somebody, take_out}
use Rattle.grid.specs.GridLayout.{decode_grid, encode_grid, grid_width, valid_grid}
use Rattle.grid.specs.LentGrid.{GridAndTable, both as beside, carefully_removed, grid_on, lent_careful, lent_column_in, lent_column_out, lent_new_grid, lent_take_out, lent_tell, tell_on, valid_both}
use Rattle.grid_kept.proofs.LentKept.{both-table}
use Rattle.listing_read.specs.Unlist.{Delta, Faulty, NotInForm, Unlisted, unlist}
use Rattle.listing_make.specs.Make.{lent_make, lent_unlisted, made_told, placed}
use Rattle.plan.proofs.Refusing.{plan-refused}
use Rattle.plan.specs.Plan.{compute_plan}
use Rattle.exchange.specs.Exchanging.{ExchangeLent, Lending, after_asking, all_four, exchanged_told, lending, lent_exchange, rooms_of}
use Rattle.exchange_ask.specs.Asking.{ready_for}
use Rattle.exchange.proofs.Refusing.{is-ready, ready-done}
use Rattle.demand1.specs.Calls as calls

-- ---- an answer whose number is not 0 is a refusal

abbrev Refuses : Told → Type 0
Refuses t = t.number ≡ 0 → ⊥

by_answer : (a : (Result (Unit {0}) Refusal)) → Refuses (answer_told a) → (r : Refusal) × (a ≡ Err r)
unfolding answer_told
by_answer (Ok _) h = absurd (h refl)
by_answer (Err r) h = (r, refl)

by-offered : (a : (Result Bool Refusal)) → Refuses (offered_told a) → (r : Refusal) × (a ≡ Err r)
unfolding offered_told
by-offered (Ok true) h = absurd (h refl)
by-offered (Ok false) h = absurd (h refl)
by-offered (Err r) h = (r, refl)

by-listed : (a : (Result ℕ Refusal)) → Refuses (listed_told a) → (r : Refusal) × (a ≡ Err r)
unfolding listed_told
by-listed (Ok n) h = absurd (h refl)
by-listed (Err r) h = (r, refl)

by_written : (a : (Result ℕ Refusal)) → Refuses (written_told a) → (r : Refusal) × (a ≡ Err r)
unfolding written_told
by_written (Ok n) h = absurd (h refl)
by_written (Err r) h = (r, refl)

by-computed : (a : (Result Sent Refusal)) → Refuses (computed_told a) → (r : Refusal) × (a ≡ Err r)
unfolding computed_told
by-computed (Ok s) h = absurd (h refl)
by-computed (Err r) h = (r, refl)

by-applied : (a : (Result ℕ DeltaFault)) → Refuses (applied_told a) → (r : Refusal) × (at : ℕ) × (a ≡ (Err (record { why = r; at = at })))
unfolding applied_told
by-applied (Ok n) h = absurd (h refl)
by-applied (Err f) h = (f.why, f.at, refl)

-- ---- calls on a table

-- one that changes the table
on-table : {A : Type 0} (told : A → Told) (bad : A) (rule : Table → Outcome A)
    → ((t : Table) → Refuses (told (rule t).answer) → (rule t).table ≡ t)
    → (l : Bytes)
    → Refuses (told (on_table bad rule l).answer)
    → (on_table bad rule l).lent ≡ l
on-table told bad rule f l h = lent-refused bad rule (λ a. Refuses (told a)) f l h

-- one that fills a lent list
into-list : {A : Type 0} (told : A → Told) (bad : A) (rule : Table → Given A Bytes) (m : Bytes)
    → ((t : Table) → Refuses (told (rule t).answer) → (rule t).lent ≡ m)
    → (l : Bytes)
    → Refuses (told (from_table (given bad m) rule l).answer)
    → (from_table (given bad m) rule l).lent ≡ m
unfolding from_table
into-list {A} told bad rule m f l = go (valid_whole l)
  where
    out : Bool → Given A Bytes
    out b = pick b (rule (decode_whole l).table) (given bad m)

    go : (b : Bool) → Refuses (told (out b).answer) → (out b).lent ≡ m
    go true h = f (decode_whole l).table h
    go false h = refl

made : (m : Kind) (l : Bytes) → Refuses (answer_told (lent_made m l).answer) → (lent_made m l).lent ≡ l
unfolding lent_made answer_told
made m l = go (eqb (length l) whole_width)
  where
    out : Bool → Given (Result (Unit {0}) Refusal) Bytes
    out b = pick b (given done (lent_new m)) (given (Err BadTable) l)

    go : (b : Bool) → Refuses (answer_told (out b).answer) → (out b).lent ≡ l
    go true h = absurd (h refl)
    go false h = refl

scheduled : (now grace : ℕ) (t : Table) → Refuses (answer_told (gc now grace t).answer) → (gc now grace t).table ≡ t
unfolding gc answer_told
scheduled now grace t h = absurd (h refl)

shown : (text out : Bytes) → Refuses (written_told (write_bytes text 0 out).answer) → (write_bytes text 0 out).lent ≡ out
unfolding written_told
shown text l = go (fits_at 0 (length text) l)
  where
    out : Bool → Given (Result ℕ Refusal) Bytes
    out b = pick b (given (Ok (length text)) (put 0 text l)) (given (Err NoPlace) l)

    go : (b : Bool) → Refuses (written_told (out b).answer) → (out b).lent ≡ l
    go true h = absurd (h refl)
    go false h = refl

made-delta : (text out : Bytes) → Refuses (made_told (lent_make text out).answer) → (lent_make text out).lent ≡ out
unfolding placed made_told
made-delta text out = go (unlist text)
  where
    fits : (b : Bytes) (t : Bool) → Refuses (made_told (pick t (given (Ok (length b)) (put 0 b out)) (given (refused_at NoPlace 0) out)).answer)
        → (pick t (given (Ok (length b)) (put 0 b out)) (given (refused_at NoPlace 0) out)).lent ≡ out
    fits b true h = absurd (h refl)
    fits b false h = refl

    go : (x : Unlisted) → Refuses (made_told (lent_unlisted x out).answer) → (lent_unlisted x out).lent ≡ out
    go (Delta b) h = fits b (leb (length b) (length out)) h
    go (NotInForm n) h = refl
    go (Faulty why at) h = refl

-- ---- calls on overrides

-- one that changes them
on-over : (rule : Entry → Given (Result (Unit {0}) Refusal) Entry) → ((e : Entry) → Refuses (answer_told (rule e).answer) → (rule e).lent ≡ e) → (o : Bytes)
    → Refuses (answer_told (on_overrides (Err BadTable) rule o).answer) → (on_overrides (Err BadTable) rule o).lent ≡ o
unfolding on_overrides
on-over rule f o = go (valid_node o) refl
  where
    out : Bool → Given (Result (Unit {0}) Refusal) Bytes
    out b = pick b (stored_node (rule (decode_node o))) (given (Err BadTable) o)

    go : (b : Bool) → valid_node o ≡ b → Refuses (answer_told (out b).answer) → (out b).lent ≡ o
    go true v h = ap encode_node (f (decode_node o) h) ∙ over-back o v
    go false v h = refl

-- a refused call leaves the node
over-called : (c : Call) (k : Bytes) (e : Entry) → Refuses (answer_told (called c k e).answer) → (called c k e).lent ≡ e
unfolding answer_told act
over-called c k e h = go (decide c k e.node) h
  where
    go : (d : Decision) → Refuses (answer_told (answer_of d)) → with_node (act k d e.node) e ≡ e
    go (Refuse r) h = refl
    go Leave h = refl
    go (Give x) h = absurd (h refl)

over-written : (wanted : ℕ) (v : Bytes) (now : ℕ) (k : Bytes) (e : Entry) → Refuses (answer_told (overrides.written wanted v now k e).answer) → (overrides.written wanted v now k e).lent ≡ e
unfolding overrides.written
over-written wanted v now k e = go (eqb wanted (status_byte Set)) (eqb wanted (status_byte Ttl))
  where
    out : Bool → Bool → Given (Result (Unit {0}) Refusal) Entry
    out s t = pick s (called (Setting v) k e) (pick t (called (SettingTtl v now) k e) (given (Err BadTag) e))

    go : (s t : Bool) → Refuses (answer_told (out s t).answer) → (out s t).lent ≡ e
    go true t h = over-called (Setting v) k e h
    go false true h = over-called (SettingTtl v now) k e h
    go false false h = refl

over-cleaned : (now grace : ℕ) (e : Entry) → Refuses (answer_told (cleaned now grace e).answer) → (cleaned now grace e).lent ≡ e
unfolding answer_told
over-cleaned now grace e h = absurd (h refl)

over-made : (i : ℕ) (o : Bytes) → Refuses (answer_told (lent_new_overrides i o).answer) → (lent_new_overrides i o).lent ≡ o
unfolding lent_new_overrides answer_told
over-made i o = go (eqb (length o) node_width)
  where
    out : Bool → Given (Result (Unit {0}) Refusal) Bytes
    out b = pick b (given done (encode_node (fresh_entry i))) (given (Err BadTable) o)

    go : (b : Bool) → Refuses (answer_told (out b).answer) → (out b).lent ≡ o
    go true h = absurd (h refl)
    go false h = refl

-- one that fills a lent list
over-listed : (q : Party) (i : ℕ) (k out o t : Bytes) → Refuses (listed_over_told (lent_list_over q i k out o t).answer) → (lent_list_over q i k out o t).lent ≡ out
unfolding from_both from_table listed_over_told
over-listed q i k out o t = go (valid_node o) (valid_whole t)
  where
    p : Profile
    p = (decode_whole t).kind.profile

    n : Node
    n = (decode_node o).node

    u : Table
    u = (decode_whole t).table

    into : (found : Bytes) (b : Bool) → Refuses (listed_over_told (pick b (given (Ok (length found)) (put 0 found out)) (given (Err (record { which = which.Neither; why = NoPlace })) out)).answer)
        → (pick {X = Given (Result ℕ RefusedOver) Bytes} b (given (Ok (length found)) (put 0 found out)) (given (Err (record { which = which.Neither; why = NoPlace })) out)).lent ≡ out
    into found true h = absurd (h refl)
    into found false h = refl

    limit : (found : Bytes) (b : Bool) → Refuses (listed_over_told (pick b (list_into found out) (given (Err (record { which = which.Neither; why = TooLong })) out)).answer)
        → (pick {X = Given (Result ℕ RefusedOver) Bytes} b (list_into found out) (given (Err (record { which = which.Neither; why = TooLong })) out)).lent ≡ out
    limit found true h = into found (leb (length found) (length out)) h
    limit found false h = refl

    held : (m : Option Node) → Refuses (listed_over_told (list_on (sees p q) k n m out).answer) → (list_on (sees p q) k n m out).lent ≡ out
    held none h = refl
    held (some m) h = limit (places_of (merged (sees p q) k n.recs m.recs)) (leb (length k) max_key) h

    bad : Which → Given (Result ℕ RefusedOver) Bytes
    bad w = given (Err (record { which = w; why = BadTable })) out

    go : (a b : Bool) → Refuses (listed_over_told (pick a (pick b (list_over p q i k out n u) (bad which.Table)) (bad which.Overrides)).answer)
        → (pick a (pick b (list_over p q i k out n u) (bad which.Table)) (bad which.Overrides)).lent ≡ out
    go true true h = held (node_of i (seen p q u)) h
    go true false h = refl
    go false b h = refl

-- ---- calls on a grid

grid-made : (t g : Bytes) → Refuses (answer_told (lent_new_grid t g).answer) → (lent_new_grid t g).lent ≡ g
unfolding lent_new_grid answer_told
grid-made t g = go (eqb (length g) grid_width && valid_whole t)
  where
    out : Bool → Given (Result (Unit {0}) Refusal) Bytes
    out b = pick b (given done (encode_grid (new_grid (numbers_of (decode_whole t).table)))) (given (Err BadTable) g)

    go : (b : Bool) → Refuses (answer_told (out b).answer) → (out b).lent ≡ g
    go true h = absurd (h refl)
    go false h = refl

-- a refused node leaves the table, and the grid goes with it
with-column : (g t : Bytes) (o : Given (Result (Unit {0}) Refusal) Whole) (after : Bytes) → ((r : Refusal) → o.answer ≡ Err r → o.lent ≡ decode_whole t)
    → Refuses (answer_told (pick (valid_both g t) (given o.answer (beside (grid_on o.answer after g) (encode_whole o.lent))) (given (Err BadTable) (beside g t))).answer)
    → (pick (valid_both g t) (given o.answer (beside (grid_on o.answer after g) (encode_whole o.lent))) (given (Err BadTable) (beside g t))).lent ≡ beside g t
with-column g t o after f = go (valid_both g t) refl
  where
    out : Bool → Given (Result (Unit {0}) Refusal) GridAndTable
    out b = pick b (given o.answer (beside (grid_on o.answer after g) (encode_whole o.lent))) (given (Err BadTable) (beside g t))

    go : (b : Bool) → valid_both g t ≡ b → Refuses (answer_told (out b).answer) → (out b).lent ≡ beside g t
    go true v h =
        let x = by_answer o.answer h in
        let a : grid_on o.answer after g ≡ g = ap (λ (y : (Result (Unit {0}) Refusal)). grid_on y after g) x.1 in
        let b : encode_whole o.lent ≡ t = ap encode_whole (f x.0 x.1) ∙ whole-bytes t (both-table g t v) in
        λ z. beside (a z) (b z)
    go false v h = refl

came : (i : ℕ) (g t : Bytes) → Refuses (answer_told (lent_column_in i g t).answer) → (lent_column_in i g t).lent ≡ beside g t
unfolding lent_column_in
came i g t = with-column g t (add_whole i (decode_whole t)) (encode_grid (add_column i (decode_grid g))) (add-whole-refused i (decode_whole t))

went : (i : ℕ) (g t : Bytes) → Refuses (answer_told (lent_column_out i g t).answer) → (lent_column_out i g t).lent ≡ beside g t
unfolding lent_column_out
went i g t = with-column g t (remove_whole i (decode_whole t)) (encode_grid (drop_column i (decode_grid g))) (remove-whole-refused i (decode_whole t))

-- a refused digest makes nobody present
was-told : (p edition : ℕ) (digest g : Bytes) → Refuses (answer_told (lent_tell p edition digest g).answer) → (lent_tell p edition digest g).lent ≡ g
unfolding lent_tell answer_told
was-told p edition digest g = go (valid_grid g) (ltb p max_peers) (read_digest edition digest)
  where
    out : Bool → Bool → DigestRead → Given (Result (Unit {0}) Refusal) Bytes
    out b c r = pick b (pick c (tell_on p r g) (given (Err BadPeer) g)) (given (Err BadTable) g)

    go : (b c : Bool) (r : DigestRead) → Refuses (answer_told (out b c r).answer) → (out b c r).lent ≡ g
    go true true (Entries ds rest) h = absurd (h refl)
    go true true (NotRead r) h = refl
    go true false r h = refl
    go false c r h = refl

taken_out : (p : ℕ) (g : Bytes) → Refuses (answer_told (lent_take_out p g).answer) → (lent_take_out p g).lent ≡ g
unfolding lent_take_out answer_told
taken_out p g = go (valid_grid g) (ltb p max_peers)
  where
    out : Bool → Bool → Given (Result (Unit {0}) Refusal) Bytes
    out b c = pick b (pick c (given done (encode_grid (take_out p (decode_grid g)))) (given (Err BadPeer) g)) (given (Err BadTable) g)

    go : (b c : Bool) → Refuses (answer_told (out b c).answer) → (out b c).lent ≡ g
    go true true h = absurd (h refl)
    go true false h = refl
    go false c h = refl

carefully : (now grace : ℕ) (g t : Bytes) → Refuses (answer_told (lent_careful now grace g t).answer) → (lent_careful now grace g t).lent ≡ t
unfolding lent_careful answer_told
carefully now grace g t = go (valid_both g t) (somebody (decode_grid g))
  where
    out : Bool → Bool → Given (Result (Unit {0}) Refusal) Bytes
    out b c =
        pick b
        (pick c (given done (encode_whole (with_table (carefully_removed (decode_grid g) now grace (decode_whole t).table) (decode_whole t)))) (given (Err NobodyPresent) t))
        (given (Err BadTable) t)

    go : (b c : Bool) → Refuses (answer_told (out b c).answer) → (out b c).lent ≡ t
    go true true h = absurd (h refl)
    go true false h = refl
    go false c h = refl

-- an exchange that goes ahead is not refused
exchanged : (g : Lending) (publisher follower : Bytes) → Refuses (exchanged_told (lent_exchange g publisher follower).answer)
    → (lent_exchange g publisher follower).lent ≡ all_four follower g.digest g.delta g.answers
unfolding lent_exchange exchanged_told
exchanged g publisher follower = go (ready_for g.edition g.unasked (rooms_of g) publisher follower) refl
  where
    go : (x : (Result (Unit {0}) Stopped)) → ready_for g.edition g.unasked (rooms_of g) publisher follower ≡ x
        → Refuses (exchanged_told (after_asking g publisher follower x).answer)
        → (after_asking g publisher follower x).lent ≡ all_four follower g.digest g.delta g.answers
    go (Ok _) e h = absurd (h (ap (λ (a : (Result Exchanged Stopped)). (exchanged_told a).number) (ready-done g publisher follower (is-ready g publisher follower e))))
    go (Err s) e h = refl

-- a listing by a party: that of what it sees
listed-refused : (p : Profile) (q : Party) (i : ℕ) (k : Bytes) (t : Table) (l : Bytes) (r : Refusal) → (prefixed_as p q i k t l).answer ≡ Err r
    → (prefixed_as p q i k t l).lent ≡ l
unfolding prefixed_as
listed-refused p q i k t = prefixed-refused i k (seen p q t)

-- ---- all calls

pub nothing : {k : calls.Kind} (c : calls.Call k) → Refuses (calls.leaves c).answer → (calls.leaves c).lent ≡ calls.lent_to c
unfolding calls.leaves calls.lent_to
nothing (calls.new-table t m p) h = ap (λ (u : Bytes). u ∷ []) (made (kind m p) t h)
nothing (calls.add-node t i) h =
    ap (λ (u : Bytes). u ∷ [])
    (whole-refused (Err BadTable) (add_whole i.value) (λ a. Refuses (answer_told a)) (λ w g. let x = by_answer _ g in add-whole-refused i.value w x.0 x.1) t h)
nothing (calls.remove-node t i) h =
    ap (λ (u : Bytes). u ∷ [])
    (whole-refused (Err BadTable) (remove_whole i.value) (λ a. Refuses (answer_told a)) (λ w g. let x = by_answer _ g in remove-whole-refused i.value w x.0 x.1) t h)
nothing (calls.last-heartbeat t i) h = refl
nothing (calls.write t k v i wanted now who) h =
    let p = (decode_whole t).kind.profile in
    let rule = write_as p who wanted.value v now.value i.value k in
    ap (λ (u : Bytes). u ∷ k ∷ v ∷ [])
    (on-table answer_told (Err BadTable) rule (λ t g. let x = by_answer _ g in write-as-refused p who wanted.value v now.value i.value k t x.0 x.1) t h)
nothing (calls.delete t k i now who) h =
    let p = (decode_whole t).kind.profile in
    let c = Deleting now.value in
    ap (λ (u : Bytes). u ∷ k ∷ [])
    (on-table answer_told (Err BadTable) (call_as p who c i.value k) (λ t g. let x = by_answer _ g in call-as-refused p who c i.value k t x.0 x.1) t h)
nothing (calls.delete-after-ttl t k i now who) h =
    let p = (decode_whole t).kind.profile in
    let c = DeletingAfterTtl now.value in
    ap (λ (u : Bytes). u ∷ k ∷ [])
    (on-table answer_told (Err BadTable) (call_as p who c i.value k) (λ t g. let x = by_answer _ g in call-as-refused p who c i.value k t x.0 x.1) t h)
nothing (calls.remove-scheduled t now grace) h =
    ap (λ (u : Bytes). u ∷ []) (on-table answer_told (Err BadTable) (gc now.value grace.value) (scheduled now.value grace.value) t h)
nothing (calls.offer-heartbeat t i b) h =
    let o = beats b.value in
    ap (λ (u : Bytes). u ∷ [])
    (on-table offered_told (Err BadTable) (offer i.value o) (λ t g. let x = by-offered _ g in offer-refused i.value o t x.0 x.1) t h)
nothing (calls.local-beat t i) h =
    ap (λ (u : Bytes). u ∷ [])
    (on-table answer_told (Err BadTable) (local_beat i.value) (λ t g. let x = by_answer _ g in beat-refused i.value t x.0 x.1) t h)
nothing (calls.find t k i who) h = refl
nothing (calls.list-prefix t k out i who) h =
    let p = (decode_whole t).kind.profile in
    ap (λ (u : Bytes). t ∷ k ∷ u ∷ [])
    (into-list listed_told (Err BadTable) (λ t. prefixed_as p who i.value k t out) out
    (λ t g. let x = by-listed _ g in listed-refused p who i.value k t out x.0 x.1) t h)
nothing (calls.new-overrides o i) h = ap (λ (u : Bytes). u ∷ []) (over-made i.value o h)
nothing (calls.write-override o k v wanted now) h =
    ap (λ (u : Bytes). u ∷ k ∷ v ∷ []) (on-over (overrides.written wanted.value v now.value k) (over-written wanted.value v now.value k) o h)
nothing (calls.delete-override o k now) h =
    ap (λ (u : Bytes). u ∷ k ∷ []) (on-over (called (Deleting now.value) k) (over-called (Deleting now.value) k) o h)
nothing (calls.delete-override-after-ttl o k now) h =
    ap (λ (u : Bytes). u ∷ k ∷ []) (on-over (called (DeletingAfterTtl now.value) k) (over-called (DeletingAfterTtl now.value) k) o h)
nothing (calls.remove-overrides o now grace) h =
    ap (λ (u : Bytes). u ∷ []) (on-over (cleaned now.value grace.value) (over-cleaned now.value grace.value) o h)
nothing (calls.find-over t o k i who) h = refl
nothing (calls.list-over t o k out i who) h = ap (λ (u : Bytes). t ∷ o ∷ k ∷ u ∷ []) (over-listed who i.value k out o t h)
nothing (calls.new-grid t g) h = ap (λ (u : Bytes). t ∷ u ∷ []) (grid-made t g h)
nothing (calls.grid_add_node t g i) h = ap (λ (u : GridAndTable). u.table ∷ u.grid ∷ []) (came i.value g t h)
nothing (calls.grid_remove_node t g i) h = ap (λ (u : GridAndTable). u.table ∷ u.grid ∷ []) (went i.value g t h)
nothing (calls.tell g digest p edition) h = ap (λ (u : Bytes). u ∷ digest.bytes ∷ []) (was-told p edition digest.bytes g h)
nothing (calls.take-out g p) h = ap (λ (u : Bytes). u ∷ []) (taken_out p g h)
nothing (calls.least-max g i) h = refl
nothing (calls.seen-by g p i) h = refl
nothing (calls.remove-carefully t g now grace) h = ap (λ (u : Bytes). u ∷ g ∷ []) (carefully now.value grace.value g t h)
nothing (calls.node-count t) h = refl
nothing (calls.node-number t i) h = refl
nothing (calls.node-header t i) h = refl
nothing (calls.record-count t i who) h = refl
nothing (calls.record-at t i j who) h = refl
nothing (calls.record-of t i j who) h = refl
nothing (calls.record-by-key t k i who) h = refl
nothing (calls.node-rows t i who) h = refl
nothing (calls.front t i who) h = refl
nothing (calls.prefix-rows t k i who) h = refl
nothing (calls.find-text t i j x who) h = refl
nothing (calls.write-digest t edition excluded datagram place) h =
    ap (λ (u : Bytes). t ∷ excluded ∷ u ∷ [])
    (into-list written_told (Err BadTable) (λ t. write_digest edition excluded place t datagram) datagram
    (λ t g. let x = by_written _ g in digest-refused edition excluded place t datagram x.0 x.1) t h)
nothing (calls.read-digest edition digest) h = refl
nothing (calls.digest_entry digest edition i) h = refl
nothing (calls.compute t edition digest excluded ties datagram mtu place) h =
    ap (λ (u : Bytes). t ∷ digest ∷ excluded ∷ ties ∷ u ∷ [])
    (into-list computed_told (Err BadTable) (λ t. computing.compute edition excluded ties mtu place digest t datagram) datagram
    (λ t g. let x = by-computed _ g in compute-refused edition excluded ties mtu place digest t datagram x.0 x.1) t h)
nothing (calls.compute-plan t edition digest excluded nodes counts datagram mtu place) h =
    ap (λ (u : Bytes). t ∷ digest ∷ excluded ∷ nodes ∷ counts ∷ u ∷ [])
    (into-list computed_told (Err BadTable) (λ t. compute_plan edition excluded nodes counts mtu place digest t datagram) datagram
    (λ t g. let x = by-computed _ g in plan-refused edition excluded nodes counts mtu place digest t datagram x.0 x.1) t h)
nothing (calls.plan-fault t edition digest excluded nodes counts mtu) h = refl
nothing (calls.read-delta delta) h = refl
nothing (calls.apply t delta answers now) h =
    let x = by-applied _ h in
    let s = lent-apply-refused (ways_in (decode_whole t).kind) delta.bytes now.value answers t x.0 x.1 x.2 in
    ap₂ (λ (u m : Bytes). u ∷ delta.bytes ∷ m ∷ []) s.0 s.1
nothing (calls.list-delta delta out) h = ap (λ (u : Bytes). delta ∷ u ∷ []) (shown (listing delta) out h)
nothing (calls.make-delta text out) h = ap (λ (u : Bytes). text ∷ u ∷ []) (made-delta text out h)
nothing (calls.exchange publisher follower edition unasked unsent ties digest delta answers mtu now) h =
    ap (λ (u : ExchangeLent). publisher ∷ u.follower ∷ unasked ∷ unsent ∷ ties ∷ u.digest ∷ u.delta ∷ u.answers ∷ [])
    (exchanged (lending edition unasked unsent ties mtu now.value digest delta answers) publisher follower h)
