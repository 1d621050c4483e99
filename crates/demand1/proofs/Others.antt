-- No call gives a number that is not among those of its kind. Assumes nothing.
use Prim.Native.Nat.{ℕ, suc}
use mathlib.Core.Bool.{Bool, true, false, ◌&&◌}
use mathlib.Core.List.{List, [], ◌∷◌}
use mathlib.Core.Option.{Option, none, some}
use mathlib.Core.Path.{◌∙◌, ◌≡◌, ap, refl, subst, sym}
use lib.Dec.{eqb, leb, ltb}
use lib.ListN.{get_or, length}
use borrow.Author.Tests.{eq-eqb}
use Rattle.fields.specs.Choice.{pick}
use Rattle.fields.specs.Numbers.{Bytes}
use Rattle.fields.specs.Order.{same_bytes}
use Rattle.fields.specs.Parts.{put}
use Rattle.rules.specs.Sizes.{least_mtu, max_delta, max_key, max_nodes, max_value, top}
use Rattle.rules.specs.Answers.{Told, refused, number_of, answer_told, applied_told, computed_told, listed_told, offered_told, read_told, remembered_told, written_told}
use Rattle.rules.specs.Apply.{ApplyOutcome, apply, apply_node, apply_ops, ways_in}
use Rattle.rules.specs.Compute as computing
use Rattle.rules.specs.Delta.{Faulty, Good, Op, Ops, delta_read, parts_of, read_answer, read_delta}
use Rattle.rules.specs.Digest as digest
use Rattle.rules.specs.Given.{Given, given}
use Rattle.rules.specs.Memory.{heartbeat_of}
use Rattle.rules.specs.Whole.{Whole, decode_whole, encode_whole, valid_whole, whole_width, with_table}
use Rattle.rules.specs.Lent.{add_whole, both, from_table, lent_apply, lent_apply_as, lent_new, lent_removed, on_table, on_whole, remembered_as, remove_whole, stored_in, stored_apply}
use Rattle.rules.specs.Listing.{listing}
use Rattle.rules.specs.Local.{Outcome, add, answer_of, beat_on, call, call_as, call_on, gc, gives, list_into, local_beat, offer, offer_on, prefix_on, prefixed, prefixed_as, remove_node, unless_guarded, write_as, yes_no}
use Rattle.rules.specs.Node.{Call, Change, Deleting, DeletingAfterTtl, Give, KeyValue, Leave, Node, Rec, Refuse, Setting, SettingTtl, allowed, beats, brought, decide, find, full_for, hidden, hits_from, offer_of, same_status, unless_same, wish}
use Rattle.rules.specs.Party.{own, seen, sees}
use Rattle.rules.specs.Profile.{Kind, brings, guard_in, kind, meter_guard, odd_number, party_guard, sizes_fit}
use Rattle.rules.specs.Table.{Entry, Table, add_node, among, drop_node, node_of, numbers_of}
use Rattle.rules.specs.Layout.{node_place, node_width, encode_node, decode_node}
use Rattle.rules.specs.Delta.{status_byte}
use Rattle.std.specs.Prelude.{Option as Optional}
use Rattle.std.specs.Prelude.{Err, None, Ok, Result, Some}
use Rattle.exchange.specs.declared.Exchanged.{Exchanged}
use Rattle.exchange_ask.specs.declared.Stopped.{Stopped}
use Rattle.inspect.specs.declared.RecordRead.{RecordRead}
use Rattle.lookup.specs.declared.Found.{Found}
use Rattle.over_find.specs.declared.FoundOver.{FoundOver}
use Rattle.overrides.specs.declared.RefusedOver.{RefusedOver}
use Rattle.plan.specs.declared.NotSent.{NotSent}
use Rattle.rules.specs.declared.Sent.{Sent}
use Rattle.rules.specs.Results.{done}
use Rattle.plan.specs.declared.NotSent.TheVariants as not_sent
use Rattle.over_find.specs.declared.FoundOver.TheVariants as place
use Rattle.rules.specs.declared.Heartbeat.{Heartbeat}
use Rattle.rules.specs.declared.Party.{Party}
use Rattle.rules.specs.declared.Profile.{Profile}
use Rattle.rules.specs.declared.Profile.TheVariants.{Free, Meter, Shared}
use Rattle.rules.specs.declared.Refusal.{Refusal}
use Rattle.rules.specs.declared.Refusal.TheVariants.{BadMtu, BadPeer, BadPlan, BadTable, BadTag, BadTies, Exhausted, NinthNode, NoNode, NobodyPresent, NodeFull, NoPlace, OtherParty, TooLong, BadEdition}
use Rattle.rules.specs.declared.Status.TheVariants.{Set, Ttl}
use Rattle.table_read.specs.Find.{node_start}
use Rattle.nodes.specs.New.{lent_made}
use Rattle.lookup.specs.Lookup as placed
use Rattle.lookup.specs.Lookup.{find_as, find_on, find_rec, found_in, value_place}
use Rattle.lookup.specs.Told.{found_told}
use Rattle.table.specs.Changes.{fresh_entry}
use Rattle.overrides.specs.Overrides as overrides
use Rattle.overrides.specs.Overrides.{valid_node, stored_node, on_overrides, lent_new_overrides, lent_write_override, lent_call_override, lent_remove_overrides}
use Rattle.overrides.specs.Both.{from_both}
use Rattle.overrides.specs.declared.Which.{Which}
use Rattle.overrides.specs.declared.Which.TheVariants as which
use Rattle.over_find.specs.Over.{first_of, over_of, found_over, lent_find_over}
use Rattle.over_find.specs.Told.{found_over_told}
use Rattle.over_list.specs.Merged as merging
use Rattle.over_list.specs.Merged.{list_on, list_over, lent_list_over}
use Rattle.over_list.specs.Told.{listed_over_told}
use Rattle.over_list.proofs.Listed.{searched}
use Rattle.grid.specs.Grid.{Grid, add_column, columns, drop_column, least_of, max_peers, maxes_told, new_grid, place_of, somebody, take_out}
use Rattle.grid.specs.GridLayout.{decode_grid, encode_grid, grid_width, valid_grid}
use Rattle.grid.specs.LentGrid.{both as beside, carefully_removed, grid_on, least_told, lent_careful, lent_column_in, lent_column_out, lent_least, lent_new_grid, lent_seen, lent_take_out, lent_tell, seen_told, tell_on, valid_both}
use Rattle.inspect.specs.Look as looking
use Rattle.inspect.specs.Look.{element_at, front_as, front_told, header_on, node_count, node_header, node_number, node_rows_as, number_on, read_at, read_key, read_rec, read_record_as, record_by_key, record_by_key_as, record_by_key_on, record_count_as, record_in, record_of_as, record_on, records_on, rows_on}
use Rattle.inspect.specs.Told.{count_told, node_header_told, node_number_told, record_read_told, rows_told}
use Rattle.prefix.specs.Rows.{run_rows, prefix_rows_as, prefix_rows_on}
use Rattle.inspect_text.specs.Texts.{place_on, text_found_as, text_on}
use Rattle.inspect_text.specs.declared.Text.{Text}
use Rattle.digest_read.specs.Held.{digest_in, held_of, in_places, unused}
use Rattle.digest_read.specs.declared.NodeDigest.{NodeDigest as Place}
use Rattle.digest_read.specs.Told.{digest_told}
use Rattle.compute.specs.Asking.{asked_of, is_free, mtu_fits}
use Rattle.exchange.specs.Exchanging.{Lending, after_asking, exchanged_told, lending, lent_exchange, rooms_of}
use Rattle.exchange_ask.specs.Asking.{Rooms, forms_fit, ready_for, ready_on, rooms_for, taking_for, unless_refused}
use Rattle.exchange_ask.specs.declared.Step.TheVariants.{Applying, Delta, Digest}
use Rattle.rules.proofs.Obeys.{in-among}
use Rattle.rules.proofs.Writing.{ByProfile, call-as, form, full, party, total, write_as_lem}
use Rattle.exchange.proofs.Refusing.{is-ready, ready-done}
use Rattle.listing_make.specs.Make.{lent_make, made_told}
use Rattle.listing_make.proofs.Numbers.{made-numbers}
use Rattle.answers.specs.Shown.{entry_told, place_told}
use Rattle.demand1.specs.Calls as calls
use Rattle.plan.proofs.Judging.{is_accepted, said-number}
use Rattle.plan.specs.Faults.{judge, judge_on, judge_plan, judged_told}
use Rattle.plan.specs.Plan.{accepts, compute_plan, delta_by, plan_on}
use Rattle.demand1.proofs.Deltas.{OpsSo, delta-as, delta-comes, digest-comes}

-- the number is one that the kind of call can give
abbrev Of : calls.Kind → Told → Type 0
Of k t = among t.number (calls.possible k) ≡ true

among_first : (n : ℕ) (ns : List ℕ) → among n (n ∷ ns) ≡ true
unfolding among
among_first n ns = ap (λ (b : Bool). pick b true (among n ns)) (eq-eqb n n refl)

-- ---- 14 first, else by the rule

on-table : {A : Type 0} (P : A → Type 0) (bad : A) (rule : Table → Outcome A) → P bad → ((t : Table) → P (rule t).answer) → (l : Bytes)
    → P (on_table bad rule l).answer
unfolding on_table
on-table P bad rule b f l = go (valid_whole l)
  where
    go : (v : Bool) → P (pick v (stored_in (decode_whole l) (rule (decode_whole l).table)) (given bad l)).answer
    go true = f (decode_whole l).table
    go false = b

on-whole : {A : Type 0} (P : A → Type 0) (bad : A) (rule : Whole → Given A Whole) → P bad → ((w : Whole) → P (rule w).answer) → (l : Bytes)
    → P (on_whole bad rule l).answer
unfolding on_whole
on-whole P bad rule b f l = go (valid_whole l)
  where
    go : (v : Bool) → P (pick v (given (rule (decode_whole l)).answer (encode_whole (rule (decode_whole l)).lent)) (given bad l)).answer
    go true = f (decode_whole l)
    go false = b

from-table : {A : Type 0} (P : A → Type 0) (bad : A) (rule : Table → A) → P bad → ((t : Table) → P (rule t)) → (l : Bytes) → P (from_table bad rule l)
unfolding from_table
from-table P bad rule b f l = go (valid_whole l)
  where
    go : (v : Bool) → P (pick v (rule (decode_whole l).table) bad)
    go true = f (decode_whole l).table
    go false = b

-- ---- nodes, heartbeats

made : (m : Kind) (l : Bytes) → Of calls.NewTable (answer_told (lent_made m l).answer)
unfolding lent_made answer_told among calls.refusals
made m l = go (eqb (length l) whole_width)
  where
    go : (b : Bool) → Of calls.NewTable (answer_told (pick b (given done (lent_new m)) (given (Err BadTable) l)).answer)
    go true = refl
    go false = refl

added : (i : ℕ) (l : Bytes) → Of calls.AddNode (answer_told (on_whole (Err BadTable) (add_whole i) l).answer)
unfolding add_whole add answer_told among calls.refusals
added i l =
    on-whole (λ a. Of calls.AddNode (answer_told a)) (Err BadTable) (add_whole i) refl
    (λ w. go w.table (among i (numbers_of w.table)) (ltb (length w.table) max_nodes)) l
  where
    go : (t : Table) (a b : Bool) → Of calls.AddNode (answer_told (pick a (gives done t) (pick b (gives done (add_node i t)) (gives (Err NinthNode) t))).answer)
    go t true b = refl
    go t false true = refl
    go t false false = refl

removed : (i : ℕ) (l : Bytes) → Of calls.RemoveNode (answer_told (on_whole (Err BadTable) (remove_whole i) l).answer)
unfolding remove_whole remove_node answer_told among calls.refusals
removed i l =
    on-whole (λ a. Of calls.RemoveNode (answer_told a)) (Err BadTable) (remove_whole i) refl (λ w. go w.table (among i (numbers_of w.table))) l
  where
    go : (t : Table) (a : Bool) → Of calls.RemoveNode (answer_told (pick a (gives done (drop_node i t)) (gives (Err NoNode) t)).answer)
    go t true = refl
    go t false = refl

asked-for : (i : ℕ) (l : Bytes) → Of calls.LastHeartbeat (remembered_told (lent_removed i l))
unfolding lent_removed remembered_told among calls.refusals
asked-for i l = go (valid_whole l) (heartbeat_of i (decode_whole l).memory)
  where
    go : (b : Bool) (h : Option Heartbeat) → Of calls.LastHeartbeat (remembered_told (pick b (remembered_as h) (Err BadTable)))
    go true none = refl
    go true (some h) = refl
    go false h = refl

collected : (now grace : ℕ) (l : Bytes) → Of calls.RemoveScheduled (answer_told (on_table (Err BadTable) (gc now grace) l).answer)
unfolding gc answer_told among calls.refusals
collected now grace l = on-table (λ a. Of calls.RemoveScheduled (answer_told a)) (Err BadTable) (gc now grace) refl (λ t. refl) l

offers : (i h : ℕ) (l : Bytes) → Of calls.OfferHeartbeat (offered_told (on_table (Err BadTable) (offer i (beats h)) l).answer)
unfolding offer offered_told among calls.refusals
offers i h l =
    on-table (λ a. Of calls.OfferHeartbeat (offered_told a)) (Err BadTable) (offer i (beats h)) refl (λ t. go t (node_of i t)) l
  where
    say : (b : Bool) → Of calls.OfferHeartbeat (offered_told (yes_no b))
    say true = refl
    say false = refl

    go : (t : Table) (o : Option Node) → Of calls.OfferHeartbeat (offered_told (offer_on i (beats h) o t).answer)
    go t none = refl
    go t (some n) = say (offer_of n.heartbeat (beats h)).news

beaten : (i : ℕ) (l : Bytes) → Of calls.LocalBeat (answer_told (on_table (Err BadTable) (local_beat i) l).answer)
unfolding local_beat answer_told among calls.refusals
beaten i l = on-table (λ a. Of calls.LocalBeat (answer_told a)) (Err BadTable) (local_beat i) refl (λ t. go t (node_of i t)) l
  where
    rise : (t u : Table) (b : Bool) → Of calls.LocalBeat (answer_told (pick b (gives done u) (gives (Err Exhausted) t)).answer)
    rise t u true = refl
    rise t u false = refl

    go : (t : Table) (o : Option Node) → Of calls.LocalBeat (answer_told (beat_on i o t).answer)
    go t none = refl
    go t (some n) = rise t _ (ltb n.heartbeat.0 top)

-- ---- records

-- 2, 1, then what the call wants of the node
called_on : (kind : calls.Kind) (c : Call) → Of kind (answer_told (Err NoNode))
    → Of kind (answer_told (Err TooLong))
    → ((k : Bytes) (n : Node) (o : Option Rec) → find k n.recs ≡ o → Of kind (answer_told (answer_of (allowed k n (wish c o)))))
    → (i : ℕ) (k : Bytes) (t : Table)
    → Of kind (answer_told (call c i k t).answer)
unfolding call decide
called_on kind c missing long f i k t = go (node_of i t)
  where
    limits : (n : Node) (b : Bool) → Of kind (answer_told (answer_of (pick b (allowed k n (wish c (find k n.recs))) (Refuse TooLong))))
    limits n true = f k n (find k n.recs) refl
    limits n false = long

    go : (o : Option Node) → Of kind (answer_told (call_on c i k o t).answer)
    go none = missing
    go (some n) = limits n (leb (length k) max_key && leb (length (brought c)) max_value)

-- of a call that brings no record a profile refuses another's key alone
unguarded : (p : Profile) (q : Party) (c : Call) (k : Bytes) → brings c k ≡ none → (o : Option Node) (P : Option Refusal → Type 0) → P none → P (some OtherParty) → P (guard_in p q c k o)
unguarded Free q c k e o P a b = a
unguarded Meter q c k e none P a b = a
unguarded Meter q c k e (some n) P a b = subst (λ (g : Option KeyValue). P (pick (sizes_fit c k) (meter_guard g (find k n.recs)) none)) (sym e) (go (sizes_fit c k))
  where
    go : (x : Bool) → P (pick x none none)
    go true = a
    go false = a
unguarded Shared q c k e none P a b = a
unguarded Shared q c k e (some n) P a b = subst (λ (g : Option KeyValue). P (pick (sizes_fit c k) (party_guard (own q) k g (find k n.recs) n.recs) none)) (sym e) (go (sizes_fit c k) (own q k))
  where
    go : (x y : Bool) → P (pick x (pick y none (some OtherParty)) none)
    go true true = a
    go true false = b
    go false y = a

-- 14 first
called : (kind : calls.Kind) (p : Profile) (q : Party) (c : Call) → ((k : Bytes) → brings c k ≡ none) → Of kind (answer_told (Err BadTable)) → Of kind (answer_told (Err OtherParty))
    → Of kind (answer_told (Err NoNode))
    → Of kind (answer_told (Err TooLong))
    → ((k : Bytes) (n : Node) (o : Option Rec) → find k n.recs ≡ o → Of kind (answer_told (answer_of (allowed k n (wish c o)))))
    → (i : ℕ) (k l : Bytes)
    → Of kind (answer_told (on_table (Err BadTable) (call_as p q c i k) l).answer)
unfolding call_as
called kind p q c none-brought bad other missing long f i k =
    on-table (λ a. Of kind (answer_told a)) (Err BadTable) (call_as p q c i k) bad
    (λ t. unguarded p q c k (none-brought k) (node_of i t) (λ g. Of kind (answer_told (unless_guarded g (call c i k t) t).answer)) (called_on kind c missing long f i k t) other)

-- a set: nothing to change, 5, 6
sets : (kind : calls.Kind) → Of kind (answer_told done) → Of kind (answer_told (Err NodeFull)) → Of kind (answer_told (Err Exhausted)) → (c : Change) (k : Bytes) (n : Node) (o : Option Rec) → Of kind (answer_told (answer_of (allowed k n (unless_same o c))))
sets kind done no_room over c k n o = go o
  where
    grant : (f b : Bool) → Of kind (answer_told (answer_of (pick f (Refuse NodeFull) (pick b (Give c) (Refuse Exhausted)))))
    grant true b = no_room
    grant false true = done
    grant false false = over

    same : (b : Bool) → Of kind (answer_told (answer_of (allowed k n (pick b Leave (Give c)))))
    same true = done
    same false = grant (full_for (find k n.recs) n) (ltb n.max top)

    go : (o : Option Rec) → Of kind (answer_told (answer_of (allowed k n (unless_same o c))))
    go none = grant (full_for (find k n.recs) n) (ltb n.max top)
    go (some r) = same (same_status r.kv.status c.status && same_bytes r.kv.value c.value)

-- a delete of a key that is there: 6 alone
drops : (kind : calls.Kind) → Of kind (answer_told done) → Of kind (answer_told (Err Exhausted)) → (c : Change) (k : Bytes) (n : Node) (r : Rec) → find k n.recs ≡ some r → Of kind (answer_told (answer_of (allowed k n (Give c))))
drops kind done over c k n r e =
    subst (λ (x : Option Rec). Of kind (answer_told (answer_of (pick (full_for x n) (Refuse NodeFull) (pick (ltb n.max top) (Give c) (Refuse Exhausted))))))
    (sym e) (rise (ltb n.max top))
  where
    rise : (b : Bool) → Of kind (answer_told (answer_of (pick b (Give c) (Refuse Exhausted))))
    rise true = done
    rise false = over

-- 17, 18 and 19 of the profile
wrote : (p : Profile) (q : Party) (wanted : ℕ) (v : Bytes) (now i : ℕ) (k l : Bytes) → Of calls.Write (answer_told (on_table (Err BadTable) (write_as p q wanted v now i k) l).answer)
unfolding wish answer_told among calls.refusals
wrote p q wanted v now i k =
    on-table (λ a. Of calls.Write (answer_told a)) (Err BadTable) (write_as p q wanted v now i k) refl
    (λ t. write_as_lem p q wanted v now i k t (λ o. Of calls.Write (answer_told o.answer)) (in-profile t (Setting v) (called_on calls.Write (Setting v) refl refl (λ k n o e. sets calls.Write refl refl refl _ k n o) i k t))
    (in-profile t (SettingTtl v now) (called_on calls.Write (SettingTtl v now) refl refl (λ k n o e. sets calls.Write refl refl refl _ k n o) i k t)) refl)
  where
    in-profile : (t : Table) (c : Call) → Of calls.Write (answer_told (call c i k t).answer) → Of calls.Write (answer_told (call_as p q c i k t).answer)
    in-profile t c h = call-as p q c i k t (λ o. Of calls.Write (answer_told o.answer)) h by
      where
        by : (r : Refusal) → ByProfile r → Of calls.Write (answer_told (Err r))
        by r form = refl
        by r total = refl
        by r party = refl
        by r full = refl

deleted : (p : Profile) (q : Party) (now i : ℕ) (k l : Bytes) → Of calls.Delete (answer_told (on_table (Err BadTable) (call_as p q (Deleting now) i k) l).answer)
unfolding wish answer_told among calls.refusals
deleted p q now = called calls.Delete p q (Deleting now) (λ k. refl) refl refl refl refl go
  where
    go : (k : Bytes) (n : Node) (o : Option Rec) → find k n.recs ≡ o → Of calls.Delete (answer_told (answer_of (allowed k n (wish (Deleting now) o))))
    go k n none e = refl
    go k n (some r) e = drops calls.Delete refl refl _ k n r e

deleted-ttl : (p : Profile) (q : Party) (now i : ℕ) (k l : Bytes) → Of calls.DeleteAfterTtl (answer_told (on_table (Err BadTable) (call_as p q (DeletingAfterTtl now) i k) l).answer)
unfolding wish answer_told among calls.refusals
deleted-ttl p q now = called calls.DeleteAfterTtl p q (DeletingAfterTtl now) (λ k. refl) refl refl refl refl go
  where
    go : (k : Bytes) (n : Node) (o : Option Rec) → find k n.recs ≡ o
        → Of calls.DeleteAfterTtl (answer_told (answer_of (allowed k n (wish (DeletingAfterTtl now) o))))
    go k n none e = refl
    go k n (some r) e = drops calls.Delete refl refl _ k n r e

-- ---- readings

-- 0 where a key was looked for
looked : (k : Bytes) (start j : ℕ) (l : List Rec) → Of calls.Find (found_told (find_rec k start j l))
unfolding find_rec found_told among calls.refusals
looked k start j [] = refl
looked k start j (r ∷ l) = go (same_bytes k r.kv.key) (hidden r.kv.status) (looked k start (suc j) l)
  where
    go : (b h : Bool) → Of calls.Find (found_told (find_rec k start (suc j) l))
        → Of calls.Find (found_told (pick b (pick h (Ok None) (Ok (Some (record { start = (value_place start j); len = (length r.kv.value) })))) (find_rec k start (suc j) l)))
    go true true e = refl
    go true false e = refl
    go false h e = e

finds : (p : Profile) (q : Party) (i : ℕ) (k l : Bytes) → Of calls.Find (found_told (from_table (Err BadTable) (find_as p q i k) l))
unfolding found_told among calls.refusals
finds p q i k l =
    from-table (λ a. Of calls.Find (found_told a)) (Err BadTable) (find_as p q i k) refl (λ t. named (sees p q k) (found_in i k (seen p q t)) (go (node_start i (seen p q t)) (node_of i (seen p q t)))) l
  where
    named : (b : Bool) (f : (Result (Optional Found) Refusal)) → Of calls.Find (found_told f) → Of calls.Find (found_told (placed.unless_other b f))
    named true f h = h
    named false (Ok (Some f)) h = refl
    named false (Ok None) h = refl
    named false (Err r) h = h

    limit : (start : ℕ) (n : Node) (b : Bool) → Of calls.Find (found_told (pick b (find_rec k start 0 n.recs) (Err TooLong)))
    limit start n true = looked k start 0 n.recs
    limit start n false = refl

    go : (start : ℕ) (o : Option Node) → Of calls.Find (found_told (find_on k start o))
    go start none = refl
    go start (some n) = limit start n (leb (length k) max_key)

lists : (p : Profile) (q : Party) (i : ℕ) (k out l : Bytes) → Of calls.ListPrefix (listed_told (from_table (given (Err BadTable) out) (λ t. prefixed_as p q i k t out) l).answer)
unfolding prefixed prefixed_as listed_told among calls.refusals
lists p q i k out l =
    from-table (λ (a : Given (Result ℕ Refusal) Bytes). Of calls.ListPrefix (listed_told a.answer)) (given (Err BadTable) out) (λ t. prefixed_as p q i k t out) refl
    (λ t. go (node_of i (seen p q t))) l
  where
    into : (hits : Bytes) (b : Bool) → Of calls.ListPrefix (listed_told (pick b (given (Ok (length hits)) (put 0 hits out)) (given (Err NoPlace) out)).answer)
    into hits true = refl
    into hits false = refl

    limit : (n : Node) (b : Bool) → Of calls.ListPrefix (listed_told (pick b (list_into (hits_from k 0 n.recs) out) (given (Err TooLong) out)).answer)
    limit n true = into (hits_from k 0 n.recs) (leb (length (hits_from k 0 n.recs)) (length out))
    limit n false = refl

    go : (o : Option Node) → Of calls.ListPrefix (listed_told (prefix_on k o out).answer)
    go none = refl
    go (some n) = limit n (leb (length k) max_key)

-- ---- overrides

over-made : (i : ℕ) (o : Bytes) → Of calls.NewOverrides (answer_told (lent_new_overrides i o).answer)
unfolding lent_new_overrides answer_told among calls.refusals
over-made i o = go (eqb (length o) node_width)
  where
    go : (b : Bool) → Of calls.NewOverrides (answer_told (pick b (given done (encode_node (fresh_entry i))) (given (Err BadTable) o)).answer)
    go true = refl
    go false = refl

on-over : (kind : calls.Kind) (rule : Entry → Given (Result (Unit {0}) Refusal) Entry) → Of kind (answer_told (Err BadTable)) → ((e : Entry) → Of kind (answer_told (rule e).answer)) → (o : Bytes)
    → Of kind (answer_told (on_overrides (Err BadTable) rule o).answer)
unfolding on_overrides
on-over kind rule bad f o = go (valid_node o)
  where
    go : (b : Bool) → Of kind (answer_told (pick b (stored_node (rule (decode_node o))) (given (Err BadTable) o)).answer)
    go true = f (decode_node o)
    go false = bad

-- 1, then what the call wants of the node
over-called : (kind : calls.Kind) (c : Call) → Of kind (answer_told (Err TooLong))
    → ((k : Bytes) (n : Node) (o : Option Rec) → find k n.recs ≡ o → Of kind (answer_told (answer_of (allowed k n (wish c o)))))
    → (k : Bytes) (e : Entry) → Of kind (answer_told (overrides.called c k e).answer)
unfolding decide
over-called kind c long f k e = go (leb (length k) max_key && leb (length (brought c)) max_value)
  where
    go : (b : Bool) → Of kind (answer_told (answer_of (pick b (allowed k e.node (wish c (find k e.node.recs))) (Refuse TooLong))))
    go true = f k e.node (find k e.node.recs) refl
    go false = long

over-wrote : (wanted : ℕ) (v : Bytes) (now : ℕ) (k o : Bytes) → Of calls.WriteOverride (answer_told (lent_write_override wanted v now k o).answer)
unfolding overrides.written wish answer_told among calls.refusals
over-wrote wanted v now k o = on-over calls.WriteOverride (overrides.written wanted v now k) refl (λ e. go e (eqb wanted (status_byte Set)) (eqb wanted (status_byte Ttl))) o
  where
    go : (e : Entry) (s t : Bool)
        → Of calls.WriteOverride (answer_told (pick s (overrides.called (Setting v) k e) (pick t (overrides.called (SettingTtl v now) k e) (given (Err BadTag) e))).answer)
    go e true t = over-called calls.WriteOverride (Setting v) refl (λ k n o q. sets calls.WriteOverride refl refl refl _ k n o) k e
    go e false true = over-called calls.WriteOverride (SettingTtl v now) refl (λ k n o q. sets calls.WriteOverride refl refl refl _ k n o) k e
    go e false false = refl

over-deleted : (now : ℕ) (k o : Bytes) → Of calls.DeleteOverride (answer_told (lent_call_override (Deleting now) k o).answer)
unfolding wish answer_told among calls.refusals
over-deleted now k o = on-over calls.DeleteOverride (overrides.called (Deleting now) k) refl (over-called calls.DeleteOverride (Deleting now) refl go k) o
  where
    go : (k : Bytes) (n : Node) (o : Option Rec) → find k n.recs ≡ o → Of calls.DeleteOverride (answer_told (answer_of (allowed k n (wish (Deleting now) o))))
    go k n none e = refl
    go k n (some r) e = drops calls.DeleteOverride refl refl _ k n r e

over-deleted-ttl : (now : ℕ) (k o : Bytes) → Of calls.DeleteOverrideAfterTtl (answer_told (lent_call_override (DeletingAfterTtl now) k o).answer)
unfolding wish answer_told among calls.refusals
over-deleted-ttl now k o =
    on-over calls.DeleteOverrideAfterTtl (overrides.called (DeletingAfterTtl now) k) refl (over-called calls.DeleteOverrideAfterTtl (DeletingAfterTtl now) refl go k) o
  where
    go : (k : Bytes) (n : Node) (o : Option Rec) → find k n.recs ≡ o
        → Of calls.DeleteOverrideAfterTtl (answer_told (answer_of (allowed k n (wish (DeletingAfterTtl now) o))))
    go k n none e = refl
    go k n (some r) e = drops calls.DeleteOverrideAfterTtl refl refl _ k n r e

over-cleaned : (now grace : ℕ) (o : Bytes) → Of calls.RemoveOverrides (answer_told (lent_remove_overrides now grace o).answer)
unfolding answer_told among calls.refusals
over-cleaned now grace o = on-over calls.RemoveOverrides (overrides.cleaned now grace) refl (λ e. refl) o

-- 14 of either, else by the rule
from-both : {A : Type 0} (P : A → Type 0) (bad : Which → A) (rule : Node → Table → A) → ((w : Which) → P (bad w)) → ((n : Node) (t : Table) → P (rule n t)) → (o t : Bytes)
    → P (from_both bad rule o t)
unfolding from_both
from-both P bad rule b f o t = go (valid_node o)
  where
    go : (v : Bool) → P (pick v (from_table (bad which.Table) (rule (decode_node o).node) t) (bad which.Overrides))
    go true = from-table P (bad which.Table) (rule (decode_node o).node) (b which.Table) (f (decode_node o).node) t
    go false = b which.Overrides

found-over : (q : Party) (i : ℕ) (k o t : Bytes) → Of calls.FindOver (found_over_told (lent_find_over q i k o t))
unfolding found_over_told among calls.refusals
found-over q i k o t =
    from-both (λ a. Of calls.FindOver (found_over_told a)) (λ w. (Err (record { which = w; why = BadTable }))) (found_over (p t) q i k) (λ w. refl)
    (λ n u. named (sees (p t) q k) (find_on k 0 (some n)) (found_in i k (seen (p t) q u)) (go (find_on k 0 (some n)) (node_start i (seen (p t) q u)) (node_of i (seen (p t) q u)))) o t
  where
    p : Bytes → Profile
    p t = (decode_whole t).kind.profile

    named : (b : Bool) (own f : (Result (Optional Found) Refusal)) → Of calls.FindOver (found_over_told (over_of own f)) → Of calls.FindOver (found_over_told (over_of own (placed.unless_other b f)))
    named true own f h = h
    named false own (Ok (Some f)) h = refl
    named false own (Ok None) h = refl
    named false own (Err r) h = h

    first : (own : (Result (Optional Found) Refusal)) (x : (Result (Optional FoundOver) RefusedOver)) → Of calls.FindOver (found_over_told x) → Of calls.FindOver (found_over_told (first_of own x))
    first (Ok (Some f)) x h = refl
    first (Ok None) x h = h
    first (Err r) x h = h

    shows : (own : (Result (Optional Found) Refusal)) (start j : ℕ) (l : List Rec) → Of calls.FindOver (found_over_told (over_of own (find_rec k start j l)))
    shows own start j l =
        searched (λ f. Of calls.FindOver (found_over_told (over_of own f))) k start (first own (Ok None) refl) (λ s n. first own (Ok (Some (place.InTable s n))) refl) j l

    limit : (own : (Result (Optional Found) Refusal)) (start : ℕ) (n : Node) (b : Bool) → Of calls.FindOver (found_over_told (over_of own (pick b (find_rec k start 0 n.recs) (Err TooLong))))
    limit own start n true = shows own start 0 n.recs
    limit own start n false = refl

    go : (own : (Result (Optional Found) Refusal)) (start : ℕ) (m : Option Node) → Of calls.FindOver (found_over_told (over_of own (find_on k start m)))
    go own start none = refl
    go own start (some n) = limit own start n (leb (length k) max_key)

listed-over : (q : Party) (i : ℕ) (k out o t : Bytes) → Of calls.ListOver (listed_over_told (lent_list_over q i k out o t).answer)
unfolding listed_over_told among calls.refusals
listed-over q i k out o t =
    from-both (λ (a : Given (Result ℕ RefusedOver) Bytes). Of calls.ListOver (listed_over_told a.answer)) (λ w. given (Err (record { which = w; why = BadTable })) out) (list_over (p t) q i k out) (λ w. refl)
    (λ n u. go (sees (p t) q) n (node_of i (seen (p t) q u))) o t
  where
    p : Bytes → Profile
    p t = (decode_whole t).kind.profile

    into : (hits : Bytes) (b : Bool)
        → Of calls.ListOver (listed_over_told (pick b (given (Ok (length hits)) (put 0 hits out)) (given (Err (record { which = which.Neither; why = NoPlace })) out)).answer)
    into hits true = refl
    into hits false = refl

    limit : (hits : Bytes) (b : Bool) → Of calls.ListOver (listed_over_told (pick b (merging.list_into hits out) (given (Err (record { which = which.Neither; why = TooLong })) out)).answer)
    limit hits true = into hits (leb (length hits) (length out))
    limit hits false = refl

    go : (mine : Bytes → Bool) (n : Node) (m : Option Node) → Of calls.ListOver (listed_over_told (list_on mine k n m out).answer)
    go mine n none = refl
    go mine n (some m) = limit (merging.places_of (merging.listing mine k n.recs m.recs)) (leb (length k) max_key)

-- ---- grids

grid-made : (t g : Bytes) → Of calls.NewGrid (answer_told (lent_new_grid t g).answer)
unfolding lent_new_grid answer_told among calls.refusals
grid-made t g = go (eqb (length g) grid_width && valid_whole t)
  where
    go : (b : Bool) → Of calls.NewGrid (answer_told (pick b (given done (encode_grid (new_grid (numbers_of (decode_whole t).table)))) (given (Err BadTable) g)).answer)
    go true = refl
    go false = refl

-- 14 of the two, else what the table says
with-column : (kind : calls.Kind) (g t : Bytes) (o : Given (Result (Unit {0}) Refusal) Whole) (after : Bytes) → Of kind (answer_told (Err BadTable)) → Of kind (answer_told o.answer)
    → Of kind (answer_told (pick (valid_both g t) (given o.answer (beside (grid_on o.answer after g) (encode_whole o.lent))) (given (Err BadTable) (beside g t))).answer)
with-column kind g t o after bad f = go (valid_both g t)
  where
    go : (b : Bool) → Of kind (answer_told (pick b (given o.answer (beside (grid_on o.answer after g) (encode_whole o.lent))) (given (Err BadTable) (beside g t))).answer)
    go true = f
    go false = bad

came : (i : ℕ) (g t : Bytes) → Of calls.GridAddNode (answer_told (lent_column_in i g t).answer)
unfolding lent_column_in add_whole add answer_told among calls.refusals
came i g t =
    with-column calls.GridAddNode g t (add_whole i (decode_whole t)) (encode_grid (add_column i (decode_grid g))) refl
    (go (decode_whole t).table (among i (numbers_of (decode_whole t).table)) (ltb (length (decode_whole t).table) max_nodes))
  where
    go : (u : Table) (a b : Bool) → Of calls.GridAddNode (answer_told (pick a (gives done u) (pick b (gives done (add_node i u)) (gives (Err NinthNode) u))).answer)
    go u true b = refl
    go u false true = refl
    go u false false = refl

went : (i : ℕ) (g t : Bytes) → Of calls.GridRemoveNode (answer_told (lent_column_out i g t).answer)
unfolding lent_column_out remove_whole remove_node answer_told among calls.refusals
went i g t =
    with-column calls.GridRemoveNode g t (remove_whole i (decode_whole t)) (encode_grid (drop_column i (decode_grid g))) refl
    (go (decode_whole t).table (among i (numbers_of (decode_whole t).table)))
  where
    go : (u : Table) (a : Bool) → Of calls.GridRemoveNode (answer_told (pick a (gives done (drop_node i u)) (gives (Err NoNode) u)).answer)
    go u true = refl
    go u false = refl

was-told : (p edition : ℕ) (d g : Bytes) → Of calls.Tell (answer_told (lent_tell p edition d g).answer)
unfolding lent_tell answer_told among calls.refusals
was-told p edition d g = go (valid_grid g) (ltb p max_peers)
  where
    go : (b c : Bool) → Of calls.Tell (answer_told (pick b (pick c (tell_on p (digest.read_digest edition d) g) (given (Err BadPeer) g)) (given (Err BadTable) g)).answer)
    go true true = digest-comes (λ x. Of calls.Tell (answer_told (tell_on p x g).answer)) refl (λ n. refl) refl (λ ds rest. refl) edition d
    go true false = refl
    go false c = refl

taken_out : (p : ℕ) (g : Bytes) → Of calls.TakeOut (answer_told (lent_take_out p g).answer)
unfolding lent_take_out answer_told among calls.refusals
taken_out p g = go (valid_grid g) (ltb p max_peers)
  where
    go : (b c : Bool)
        → Of calls.TakeOut (answer_told (pick b (pick c (given done (encode_grid (take_out p (decode_grid g)))) (given (Err BadPeer) g)) (given (Err BadTable) g)).answer)
    go true true = refl
    go true false = refl
    go false c = refl

least-is : (i : ℕ) (g : Bytes) → Of calls.LeastMax (least_told (lent_least i g))
unfolding lent_least least_told among calls.refusals
least-is i g = go (valid_grid g) (somebody (decode_grid g)) (among i (columns (decode_grid g)))
  where
    go : (b c d : Bool)
        → Of calls.LeastMax (least_told (pick b (pick c (pick d (Ok (least_of (maxes_told i (decode_grid g)))) (Err NoNode)) (Err NobodyPresent)) (Err BadTable)))
    go true true true = refl
    go true true false = refl
    go true false d = refl
    go false c d = refl

seen-is : (p i : ℕ) (g : Bytes) → Of calls.SeenBy (seen_told (lent_seen p i g))
unfolding lent_seen seen_told among calls.refusals
seen-is p i g = go (valid_grid g) (ltb p max_peers) (among i (columns (decode_grid g))) (eqb (get_or (decode_grid g).present p 0) 1)
  where
    x : Grid
    x = decode_grid g

    j : ℕ
    j = place_of i (columns x)

    go : (b c d e : Bool)
        → Of calls.SeenBy (seen_told (pick b (pick c (pick d (pick e (Ok (Some (record { last_gc = (get_or (get_or x.gcs p []) j 0); max = (get_or (get_or x.maxes p []) j 0) }))) (Ok None)) (Err NoNode)) (Err BadPeer)) (Err BadTable)))
    go true true true true = refl
    go true true true false = refl
    go true true false e = refl
    go true false d e = refl
    go false c d e = refl

carefully : (now grace : ℕ) (g t : Bytes) → Of calls.RemoveCarefully (answer_told (lent_careful now grace g t).answer)
unfolding lent_careful answer_told among calls.refusals
carefully now grace g t = go (valid_both g t) (somebody (decode_grid g))
  where
    go : (b c : Bool)
        → Of calls.RemoveCarefully (answer_told (pick b (pick c (given done (encode_whole (with_table (carefully_removed (decode_grid g) now grace (decode_whole t).table) (decode_whole t)))) (given (Err NobodyPresent) t)) (given (Err BadTable) t)).answer)
    go true true = refl
    go true false = refl
    go false c = refl

-- ---- readings of a table

counts : (l : Bytes) → Of calls.NodeCount (count_told (from_table (Err BadTable) node_count l))
unfolding count_told among calls.refusals
counts l = from-table (λ a. Of calls.NodeCount (count_told a)) (Err BadTable) node_count refl (λ t. refl) l

numbered : (i : ℕ) (l : Bytes) → Of calls.NodeNumber (node_number_told (from_table (Err BadTable) (node_number i) l))
unfolding node_number_told among calls.refusals
numbered i l = from-table (λ a. Of calls.NodeNumber (node_number_told a)) (Err BadTable) (node_number i) refl (λ t. go (element_at i t)) l
  where
    go : (o : Option Entry) → Of calls.NodeNumber (node_number_told (number_on o))
    go none = refl
    go (some e) = refl

headed : (i : ℕ) (l : Bytes) → Of calls.NodeHeader (node_header_told (from_table (Err BadTable) (node_header i) l))
unfolding node_header_told among calls.refusals
headed i l = from-table (λ a. Of calls.NodeHeader (node_header_told a)) (Err BadTable) (node_header i) refl (λ t. go (node_of i t)) l
  where
    go : (o : Option Node) → Of calls.NodeHeader (node_header_told (header_on o))
    go none = refl
    go (some n) = refl

record-counts : (p : Profile) (q : Party) (i : ℕ) (l : Bytes) → Of calls.RecordCount (count_told (from_table (Err BadTable) (record_count_as p q i) l))
unfolding count_told among calls.refusals
record-counts p q i l = from-table (λ a. Of calls.RecordCount (count_told a)) (Err BadTable) (record_count_as p q i) refl (λ t. go (node_of i (seen p q t))) l
  where
    go : (o : Option Node) → Of calls.RecordCount (count_told (records_on o))
    go none = refl
    go (some n) = refl

records : (p : Profile) (q : Party) (i j : ℕ) (l : Bytes) → Of calls.RecordAt (record_read_told (from_table (Err BadTable) (read_record_as p q i j) l))
unfolding record_read_told among calls.refusals
records p q i j l =
    from-table (λ a. Of calls.RecordAt (record_read_told a)) (Err BadTable) (read_record_as p q i j) refl (λ t. go (node_start i (seen p q t)) (node_of i (seen p q t))) l
  where
    at : (start : ℕ) (o : Option Rec) → Of calls.RecordAt (record_read_told (read_at start j o))
    at start none = refl
    at start (some r) = refl

    go : (start : ℕ) (o : Option Node) → Of calls.RecordAt (record_read_told (record_on j start o))
    go start none = refl
    go start (some n) = at start (element_at j n.recs)

record-places : (p : Profile) (q : Party) (i j : ℕ) (l : Bytes) → Of calls.RecordOf (record_read_told (from_table (Err BadTable) (record_of_as p q i j) l))
unfolding record_read_told among calls.refusals
record-places p q i j l =
    from-table (λ a. Of calls.RecordOf (record_read_told a)) (Err BadTable) (record_of_as p q i j) refl (λ t. go (node_place i) (element_at i (seen p q t))) l
  where
    at : (start : ℕ) (o : Option Rec) → Of calls.RecordOf (record_read_told (read_at start j o))
    at start none = refl
    at start (some r) = refl

    go : (start : ℕ) (o : Option Entry) → Of calls.RecordOf (record_read_told (record_in j start o))
    go start none = refl
    go start (some e) = at start (element_at j e.node.recs)

-- 0 where a key was sought
sought : (k : Bytes) (start j : ℕ) (l : List Rec) → Of calls.RecordByKey (record_read_told (read_key k start j l))
unfolding read_key record_read_told among calls.refusals
sought k start j [] = refl
sought k start j (r ∷ l) = go (same_bytes k r.kv.key) (sought k start (suc j) l)
  where
    go : (b : Bool) → Of calls.RecordByKey (record_read_told (read_key k start (suc j) l))
        → Of calls.RecordByKey (record_read_told (pick b (read_rec start j r) (read_key k start (suc j) l)))
    go true e = refl
    go false e = e

keyed : (p : Profile) (q : Party) (i : ℕ) (k l : Bytes) → Of calls.RecordByKey (record_read_told (from_table (Err BadTable) (record_by_key_as p q i k) l))
unfolding record_read_told among calls.refusals
keyed p q i k l =
    from-table (λ a. Of calls.RecordByKey (record_read_told a)) (Err BadTable) (record_by_key_as p q i k) refl
    (λ t. named (sees p q k) (record_by_key i k (seen p q t)) (go (node_start i (seen p q t)) (node_of i (seen p q t)))) l
  where
    named : (b : Bool) (r : (Result (Optional RecordRead) Refusal)) → Of calls.RecordByKey (record_read_told r) → Of calls.RecordByKey (record_read_told (looking.unless_other b r))
    named true r h = h
    named false (Ok (Some r)) h = refl
    named false (Ok None) h = refl
    named false (Err r) h = h

    limit : (start : ℕ) (n : Node) (b : Bool) → Of calls.RecordByKey (record_read_told (pick b (read_key k start 0 n.recs) (Err TooLong)))
    limit start n true = sought k start 0 n.recs
    limit start n false = refl

    go : (start : ℕ) (o : Option Node) → Of calls.RecordByKey (record_read_told (record_by_key_on k start o))
    go start none = refl
    go start (some n) = limit start n (leb (length k) max_key)

-- where a party's rows begin
fronts : (p : Profile) (q : Party) (i : ℕ) (l : Bytes) → Of calls.Front (count_told (from_table (Err BadTable) (front_as p q i) l))
unfolding count_told among calls.refusals
fronts p q i l = from-table (λ a. Of calls.Front (count_told a)) (Err BadTable) (front_as p q i) refl (λ t. go (node_of i t)) l
  where
    go : (o : Option Node) → Of calls.Front (count_told (front_told p q o))
    go none = refl
    go (some n) = refl

all-rows : (p : Profile) (q : Party) (i : ℕ) (l : Bytes) → Of calls.NodeRows (rows_told (from_table (Err BadTable) (node_rows_as p q i) l))
unfolding rows_told among calls.refusals
all-rows p q i l = from-table (λ a. Of calls.NodeRows (rows_told a)) (Err BadTable) (node_rows_as p q i) refl (λ t. go (node_start i (seen p q t)) (node_of i (seen p q t))) l
  where
    go : (start : ℕ) (o : Option Node) → Of calls.NodeRows (rows_told (rows_on start o))
    go start none = refl
    go start (some n) = refl

some-rows : (p : Profile) (q : Party) (i : ℕ) (k l : Bytes) → Of calls.PrefixRows (rows_told (from_table (Err BadTable) (prefix_rows_as p q i k) l))
unfolding rows_told among calls.refusals
some-rows p q i k l = from-table (λ a. Of calls.PrefixRows (rows_told a)) (Err BadTable) (prefix_rows_as p q i k) refl (λ t. go (node_start i (seen p q t)) (node_of i (seen p q t))) l
  where
    limit : (start : ℕ) (n : Node) (b : Bool) → Of calls.PrefixRows (rows_told (pick b (run_rows k start n.recs) (Err TooLong)))
    limit start n true = refl
    limit start n false = refl

    go : (start : ℕ) (o : Option Node) → Of calls.PrefixRows (rows_told (prefix_rows_on k start o))
    go start none = refl
    go start (some n) = limit start n (leb (length k) max_key)

texts : (p : Profile) (q : Party) (x : Text) (i j : ℕ) (l : Bytes) → Of calls.FindText (found_told (from_table (Err BadTable) (text_found_as p q x i j) l))
unfolding found_told among calls.refusals
texts p q x i j l =
    from-table (λ a. Of calls.FindText (found_told a)) (Err BadTable) (text_found_as p q x i j) refl (λ t. go (node_start i (seen p q t)) (node_of i (seen p q t))) l
  where
    at : (start : ℕ) (o : Option Rec) → Of calls.FindText (found_told (place_on x start j o))
    at start none = refl
    at start (some r) = refl

    go : (start : ℕ) (o : Option Node) → Of calls.FindText (found_told (text_on x j start o))
    go start none = refl
    go start (some n) = at start (element_at j n.recs)

-- ---- digests

writes : (k : calls.Kind) (b : Bytes) (place : ℕ) (d : Bytes) → Of k (written_told (Err NoPlace)) → ((n : ℕ) → Of k (written_told (Ok n)))
    → Of k (written_told (digest.write_bytes b place d).answer)
writes k b place d short fits = go (digest.fits_at place (length b) d)
  where
    go : (c : Bool) → Of k (written_told (pick c (given (Ok (length b)) (put place b d)) (given (Err NoPlace) d)).answer)
    go true = fits (length b)
    go false = short

digests : (edition : ℕ) (excluded : List ℕ) (place : ℕ) (d l : Bytes)
    → Of calls.WriteDigest (written_told (from_table (given (Err BadTable) d) (λ t. digest.write_digest edition excluded place t d) l).answer)
unfolding digest.write_digest written_told among calls.refusals
digests edition excluded place d l =
    from-table (λ (a : Given (Result ℕ Refusal) Bytes). Of calls.WriteDigest (written_told a.answer)) (given (Err BadTable) d)
    (λ t. digest.write_digest edition excluded place t d) refl
    (λ t. known t (digest.is_edition edition)) l
  where
    known : (t : Table) (b : Bool)
        → Of calls.WriteDigest (written_told (pick b (digest.write_bytes (digest.digest_bytes edition (digest.digest_of excluded t)) place d) (given (Err BadEdition) d)).answer)
    known t true = writes calls.WriteDigest (digest.digest_bytes edition (digest.digest_of excluded t)) place d refl (λ n. refl)
    known t false = refl

digest-reads : (edition : ℕ) (l : Bytes) → Of calls.ReadDigest (digest_told (digest_in edition l))
unfolding digest_in digest_told among calls.refusals
digest-reads edition l = digest-comes (λ x. Of calls.ReadDigest (digest_told (held_of (length l) x))) refl (λ n. refl) refl (λ ds rest. refl) edition l

-- past the last entry 8
entries : (edition : ℕ) (l : Bytes) (i : ℕ) → Of calls.DigestEntry (entry_told i (digest_in edition l))
unfolding digest_in entry_told among calls.refusals
entries edition l i =
    digest-comes (λ x. Of calls.DigestEntry (entry_told i (held_of (length l) x))) refl (λ n. refl) refl (λ ds rest. go (leb max_nodes i) (leb (length ds) i) (in_places ds).entries) edition l
  where
    go : (a b : Bool) (ps : List Place) → Of calls.DigestEntry (pick a (refused NoPlace []) (pick b (refused NoPlace []) (place_told (get_or ps i unused))))
    go true b ps = refl
    go false true ps = refl
    go false false ps = refl

-- ---- deltas

computes : (edition : ℕ) (excluded ties : List ℕ) (mtu place : ℕ) (told d l : Bytes)
    → Of calls.Compute (computed_told (from_table (given (Err BadTable) d) (λ t. computing.compute edition excluded ties mtu place told t d) l).answer)
unfolding computing.compute computed_told among calls.refusals
computes edition excluded ties mtu place told d l =
    from-table (λ (a : Given (Result Sent Refusal) Bytes). Of calls.Compute (computed_told a.answer)) (given (Err BadTable) d)
    (λ t. computing.compute edition excluded ties mtu place told t d) refl
    (λ t. known t (digest.is_edition edition)) l
  where
    read : (t : Table) → Of calls.Compute (computed_told (computing.on_digest excluded ties mtu place (digest.read_digest edition told) t d).answer)
    read t = digest-comes (λ x. Of calls.Compute (computed_told (computing.on_digest excluded ties mtu place x t d).answer)) refl (λ n. refl) refl (λ ds rest. refl) edition told

    go : (t : Table) (a b c : Bool)
        → Of calls.Compute (computed_told (pick a (pick b (pick c (computing.on_digest excluded ties mtu place (digest.read_digest edition told) t d) (given (Err BadTies) d)) (given (Err NoPlace) d)) (given (Err BadMtu) d)).answer)
    go t false b c = refl
    go t true false c = refl
    go t true true false = refl
    go t true true true = read t

    known : (t : Table) (b : Bool)
        → Of calls.Compute (computed_told (pick b (computing.compute_for excluded ties mtu place (digest.read_digest edition told) t d) (given (Err BadEdition) d)).answer)
    known t true = go t (leb least_mtu mtu && leb mtu max_delta) (digest.fits_at place mtu d) (eqb (length ties) (length t))
    known t false = refl

plans : (edition : ℕ) (excluded nodes counts : List ℕ) (mtu place : ℕ) (told d l : Bytes)
    → Of calls.ComputePlan (computed_told (from_table (given (Err BadTable) d) (λ t. compute_plan edition excluded nodes counts mtu place told t d) l).answer)
unfolding compute_plan computed_told among calls.refusals
plans edition excluded nodes counts mtu place told d l =
    from-table (λ (a : Given (Result Sent Refusal) Bytes). Of calls.ComputePlan (computed_told a.answer)) (given (Err BadTable) d)
    (λ t. compute_plan edition excluded nodes counts mtu place told t d) refl
    (λ t. go t (digest.is_edition edition) (leb least_mtu mtu && leb mtu max_delta) (digest.fits_at place mtu d)) l
  where
    by : (x : List Op) (b : Bool) → Of calls.ComputePlan (computed_told (pick b (computing.written x place d) (given (Err BadPlan) d)).answer)
    by x true = refl
    by x false = refl

    read : (t : Table) → Of calls.ComputePlan (computed_told (plan_on excluded nodes counts mtu place (digest.read_digest edition told) t d).answer)
    read t =
        digest-comes (λ x. Of calls.ComputePlan (computed_told (plan_on excluded nodes counts mtu place x t d).answer)) refl (λ n. refl) refl
        (λ ds rest. by (delta_by excluded nodes counts ds t) (accepts excluded nodes counts mtu ds t)) edition told

    go : (t : Table) (a b c : Bool)
        → Of calls.ComputePlan (computed_told (pick a (pick b (pick c (plan_on excluded nodes counts mtu place (digest.read_digest edition told) t d) (given (Err NoPlace) d)) (given (Err BadMtu) d)) (given (Err BadEdition) d)).answer)
    go t false b c = refl
    go t true false c = refl
    go t true true false = refl
    go t true true true = read t

judges : (edition : ℕ) (excluded nodes counts : List ℕ) (mtu : ℕ) (told l : Bytes) → Of calls.PlanFault (judged_told (from_table (Err (not_sent.Refused BadTable)) (judge_plan edition excluded nodes counts mtu told) l))
unfolding judge_plan judged_told among calls.refusals
judges edition excluded nodes counts mtu told l =
    from-table (λ (a : (Result (Unit {0}) NotSent)). Of calls.PlanFault (judged_told a)) (Err (not_sent.Refused BadTable)) (judge_plan edition excluded nodes counts mtu told) refl
    (λ t. go t (digest.is_edition edition) (leb least_mtu mtu && leb mtu max_delta)) l
  where
    by : (n : ℕ) (b : Bool) → n ≡ pick b 0 23 → among n (calls.possible calls.PlanFault) ≡ true
    by n true e = ap (λ (m : ℕ). among m (calls.possible calls.PlanFault)) e
    by n false e = ap (λ (m : ℕ). among m (calls.possible calls.PlanFault)) e

    read : (t : Table) → Of calls.PlanFault (judged_told (judge_on excluded nodes counts mtu (digest.read_digest edition told) t))
    read t =
        digest-comes (λ x. Of calls.PlanFault (judged_told (judge_on excluded nodes counts mtu x t))) refl (λ n. refl) refl
        (λ ds rest. by (judged_told (judge excluded nodes counts mtu ds t)).number (is_accepted (judge excluded nodes counts mtu ds t)) (said-number excluded nodes counts mtu ds t)) edition told

    go : (t : Table) (a b : Bool) → Of calls.PlanFault (judged_told (pick a (pick b (judge_on excluded nodes counts mtu (digest.read_digest edition told) t) (Err (not_sent.Refused BadMtu))) (Err (not_sent.Refused BadEdition))))
    go t false b = refl
    go t true false = refl
    go t true true = read t

delta-reads : (l : Bytes) → Of calls.ReadDelta (read_told (delta_read l))
unfolding delta_read read_told among calls.refusals
delta-reads l = go (read_delta l) (delta-comes F refl (λ n. refl) refl refl refl refl l)
  where
    F : Refusal → Type 0
    F r = among (number_of r) (calls.possible calls.ReadDelta) ≡ true

    go : (x : Ops) → OpsSo F refl (λ n. refl) refl refl refl refl x → Of calls.ReadDelta (read_told (read_answer x))
    go (Good ops) h = refl
    go (Faulty r at) h = h

applies : (delta : Bytes) (now : ℕ) (answers l : Bytes) → Of calls.Apply (applied_told (lent_apply delta now answers l).answer)
unfolding lent_apply_as apply applied_told among calls.refusals
applies delta now answers l = start (valid_whole l)
  where
    F : Refusal → Type 0
    F r = among (number_of r) (calls.possible calls.Apply) ≡ true

    room : (ops : List Op) (u : Table) (m : Bytes) (b : Bool)
        → Of calls.Apply (applied_told (pick {X = ApplyOutcome} b (record { answer = Ok (length (parts_of ops)); table = u; list = m }) (record { answer = (Err (record { why = NoPlace; at = 0 })); table = (decode_whole l).table; list = answers })).answer)
    room ops u m true = refl
    room ops u m false = refl

    go : (x : Ops) → OpsSo F refl (λ n. refl) refl refl refl refl x → Of calls.Apply (applied_told (apply_ops (apply_node (ways_in (decode_whole l).kind) now) x (decode_whole l).table answers).answer)
    go (Good ops) h = room ops _ _ (leb (length (parts_of ops)) (length answers))
    go (Faulty r at) h = h

    start : (v : Bool) → Of calls.Apply (applied_told (pick v (stored_apply (decode_whole l) (apply_ops (apply_node (ways_in (decode_whole l).kind) now) ((ways_in (decode_whole l).kind).reads delta) (decode_whole l).table answers)) (given (Err (record { why = BadTable; at = 0 })) (both l answers))).answer)
    start true = go ((ways_in (decode_whole l).kind).reads delta) (delta-as F refl (λ n. refl) refl refl refl refl (decode_whole l).kind.profile refl refl delta)
    start false = refl

shows : (delta out : Bytes) → Of calls.ListDelta (written_told (digest.write_bytes (listing delta) 0 out).answer)
unfolding written_told among calls.refusals
shows delta out = writes calls.ListDelta (listing delta) 0 out refl (λ n. refl)

makes : (text out : Bytes) → Of calls.MakeDelta (made_told (lent_make text out).answer)
unfolding calls.refusals
makes text out = in-among (made-numbers text out)

-- ---- an exchange

abbrev Asks : (Result (Unit {0}) Stopped) → Type 0
Asks (Ok _) = Unit {0}
Asks (Err s) = among (number_of s.why) (calls.possible calls.Exchange) ≡ true

asks-numbers : (a b c : Bool) (next : (Result (Unit {0}) Stopped)) → Asks next
    → Asks (unless_refused (pick a (pick b (pick c done (Err BadTies)) (Err NoPlace)) (Err BadMtu)) next)
unfolding among calls.refusals
asks-numbers false b c next h = refl
asks-numbers true false c next h = refl
asks-numbers true true false next h = refl
asks-numbers true true true next h = h

asks-taking : (o : Profile) (formed b : Bool) → Asks (pick formed (pick b done (Err (record { step = Applying; why = NoPlace }))) (Err (record { step = Applying; why = (odd_number o) })))
unfolding among calls.refusals
asks-taking o true true = tt
asks-taking o true false = refl
asks-taking Free false b = refl
asks-taking Meter false b = refl
asks-taking Shared false b = refl

asks-on : (edition : ℕ) (unasked : List ℕ) (k : Rooms) (o : Profile) (formed : Bool) (p f : Table) → Asks (ready_on edition unasked k o formed p f)
unfolding ready_on rooms_for taking_for asked_of among calls.refusals
asks-on edition unasked k o formed p f = known (digest.is_edition edition)
  where
    go : (b : Bool) → Asks (pick b (unless_refused (asked_of k.mtu 0 k.delta k.ties (length p)) (taking_for o formed k.answers (length p))) (Err (record { step = Digest; why = NoPlace })))
    go true = asks-numbers (mtu_fits k.mtu) (is_free 0 k.mtu k.delta) (eqb k.ties (length p)) _ (asks-taking o formed (leb (length p) k.answers))
    go false = refl

    known : (b : Bool) → Asks (pick b (rooms_for edition unasked k o formed p f) (Err (record { step = Digest; why = BadEdition })))
    known true = go (leb (length (digest.digest_bytes edition (digest.digest_of unasked f))) k.digest)
    known false = refl

asks : (edition : ℕ) (unasked : List ℕ) (k : Rooms) (publisher follower : Bytes) → Asks (ready_for edition unasked k publisher follower)
unfolding ready_for among calls.refusals
asks edition unasked k publisher follower = go (valid_whole follower) (valid_whole publisher)
  where
    go : (u v : Bool) → Asks (pick u (pick v (ready_on edition unasked k (decode_whole follower).kind.profile (forms_fit publisher follower) (decode_whole publisher).table (decode_whole follower).table) (Err (record { step = Delta; why = BadTable }))) (Err (record { step = Digest; why = BadTable })))
    go false v = refl
    go true false = refl
    go true true = asks-on edition unasked k (decode_whole follower).kind.profile (forms_fit publisher follower) (decode_whole publisher).table (decode_whole follower).table

exchanges : (g : Lending) (publisher follower : Bytes) → Of calls.Exchange (exchanged_told (lent_exchange g publisher follower).answer)
unfolding lent_exchange exchanged_told
exchanges g publisher follower = go (ready_for g.edition g.unasked (rooms_of g) publisher follower) refl (asks g.edition g.unasked (rooms_of g) publisher follower)
  where
    accepted : among 0 (calls.possible calls.Exchange) ≡ true
    accepted = among_first 0 (calls.refusals calls.Exchange)

    go : (x : (Result (Unit {0}) Stopped)) → ready_for g.edition g.unasked (rooms_of g) publisher follower ≡ x → Asks (ready_for g.edition g.unasked (rooms_of g) publisher follower)
        → Of calls.Exchange (exchanged_told (after_asking g publisher follower x).answer)
    go (Ok _) e h =
        ap (λ (a : (Result Exchanged Stopped)). among (exchanged_told a).number (calls.possible calls.Exchange)) (ready-done g publisher follower (is-ready g publisher follower e)) ∙ accepted
    go (Err s) e h = subst Asks e h

-- ---- all calls

pub no_other : {k : calls.Kind} (c : calls.Call k) → Of k (calls.leaves c).answer
unfolding calls.leaves
no_other (calls.new-table t m p) = made (kind m p) t
no_other (calls.add-node t i) = added i.value t
no_other (calls.remove-node t i) = removed i.value t
no_other (calls.last-heartbeat t i) = asked-for i.value t
no_other (calls.write t k v i wanted now who) = wrote (decode_whole t).kind.profile who wanted.value v now.value i.value k t
no_other (calls.delete t k i now who) = deleted (decode_whole t).kind.profile who now.value i.value k t
no_other (calls.delete-after-ttl t k i now who) = deleted-ttl (decode_whole t).kind.profile who now.value i.value k t
no_other (calls.remove-scheduled t now grace) = collected now.value grace.value t
no_other (calls.offer-heartbeat t i h) = offers i.value h.value t
no_other (calls.local-beat t i) = beaten i.value t
no_other (calls.find t k i who) = finds (decode_whole t).kind.profile who i.value k t
no_other (calls.list-prefix t k out i who) = lists (decode_whole t).kind.profile who i.value k out t
no_other (calls.new-overrides o i) = over-made i.value o
no_other (calls.write-override o k v wanted now) = over-wrote wanted.value v now.value k o
no_other (calls.delete-override o k now) = over-deleted now.value k o
no_other (calls.delete-override-after-ttl o k now) = over-deleted-ttl now.value k o
no_other (calls.remove-overrides o now grace) = over-cleaned now.value grace.value o
no_other (calls.find-over t o k i who) = found-over who i.value k o t
no_other (calls.list-over t o k out i who) = listed-over who i.value k out o t
no_other (calls.new-grid t g) = grid-made t g
no_other (calls.grid_add_node t g i) = came i.value g t
no_other (calls.grid_remove_node t g i) = went i.value g t
no_other (calls.tell g d p edition) = was-told p edition d.bytes g
no_other (calls.take-out g p) = taken_out p g
no_other (calls.least-max g i) = least-is i g
no_other (calls.seen-by g p i) = seen-is p i g
no_other (calls.remove-carefully t g now grace) = carefully now.value grace.value g t
no_other (calls.node-count t) = counts t
no_other (calls.node-number t i) = numbered i t
no_other (calls.node-header t i) = headed i.value t
no_other (calls.record-count t i who) = record-counts (decode_whole t).kind.profile who i.value t
no_other (calls.record-at t i j who) = records (decode_whole t).kind.profile who i.value j t
no_other (calls.record-of t i j who) = record-places (decode_whole t).kind.profile who i j t
no_other (calls.record-by-key t k i who) = keyed (decode_whole t).kind.profile who i.value k t
no_other (calls.node-rows t i who) = all-rows (decode_whole t).kind.profile who i.value t
no_other (calls.front t i who) = fronts (decode_whole t).kind.profile who i.value t
no_other (calls.prefix-rows t k i who) = some-rows (decode_whole t).kind.profile who i.value k t
no_other (calls.find-text t i j x who) = texts (decode_whole t).kind.profile who x i.value j t
no_other (calls.write-digest t edition excluded datagram place) = digests edition excluded place datagram t
no_other (calls.read-digest edition digest) = digest-reads edition digest
no_other (calls.digest_entry digest edition i) = entries edition digest i
no_other (calls.compute t edition digest excluded ties datagram mtu place) = computes edition excluded ties mtu place digest datagram t
no_other (calls.compute-plan t edition digest excluded nodes counts datagram mtu place) = plans edition excluded nodes counts mtu place digest datagram t
no_other (calls.plan-fault t edition digest excluded nodes counts mtu) = judges edition excluded nodes counts mtu digest t
no_other (calls.read-delta delta) = delta-reads delta
no_other (calls.apply t delta answers now) = applies delta.bytes now.value answers t
no_other (calls.list-delta delta out) = shows delta out
no_other (calls.make-delta text out) = makes text out
no_other (calls.exchange publisher follower edition unasked unsent ties digest delta answers mtu now) =
    exchanges (lending edition unasked unsent ties mtu now.value digest delta answers) publisher follower
