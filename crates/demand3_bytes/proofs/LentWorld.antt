-- The world of lent bytes goes as the world of tables goes: whatever happens, its tables are the encodings of that world's tables. So every law of the
-- rules is a law of the bytes. A write that the publisher's profile refuses happens in the bytes and changes nothing there; in the world of tables it does not happen. Assumes nothing.
use Prim.Native.Nat.{ℕ}
use mathlib.Core.Path.{◌≡◌, ◌∙◌, ap, refl, subst}
use mathlib.Core.Bool.{Bool, false, false≢true, true}
use mathlib.Core.List.{List, [], ◌∷◌}
use mathlib.Core.Logic.{◌⊎◌, inl, inr}
use mathlib.Core.Option.{Option, none, some}
use native.Mathlib.Omega.{arith}
use lib.Dec.{eqb}
use Rattle.fields.specs.Choice.{◌∈◌, all, pick}
use Rattle.fields.proofs.Choice.{and_intro, and_left, and_right, in-none}
use Rattle.rules.specs.Given.{Given, given}
use Rattle.rules.specs.Node.{Call, KeyValue}
use Rattle.rules.specs.Table.{Entry, Table, node_of, obeys}
use Rattle.rules.specs.Local.{Outcome, call, call_as, gives, local_beat, offer, unless_guarded}
use Rattle.rules.specs.Digest.{write_digest}
use Rattle.rules.specs.Apply.{Ways, apply, ways_in}
use Rattle.rules.specs.Profile.{Kind, guard_in, profile_obeys, recs_obey}
use Rattle.rules.specs.Whole.{Whole, decode_whole, encode_whole, obeys_whole}
use Rattle.rules.specs.Lent.{TableAndList, from_table, lent_apply, on_table, on_whole, stored_apply, stored_in}
use Rattle.std.specs.Prelude.{Err, Result}
use Rattle.rules.specs.declared.DeltaFault.{DeltaFault}
use Rattle.rules.specs.declared.Sent.{Sent}
use Rattle.rules.specs.Results.{done}
use Rattle.rules.specs.declared.Profile.{Profile}
use Rattle.rules.specs.declared.Party.{Party}
use Rattle.rules.specs.declared.Refusal.{Refusal}
use Rattle.rules.specs.declared.Refusal.TheVariants.{BadTable}
use Rattle.rules.proofs.Obeys.{facts-table}
use Rattle.profiles.proofs.Kept.{apply-formed, beat-formed, call-formed, offer-formed}
use Rattle.profiles.proofs.Lawful.{kind-lawful}
use Rattle.demand3.specs.Demand3.{all_quiet, quiet}
use Rattle.demand3.specs.Forms.{Order, Removal, compute_by, lent_compute_by, lent_removed_by, removed_by}
use Rattle.demand3.specs.World.{Applying, Arriving, Beating, Computing, DeltaSent, DigestSent, Digesting, Event, Exchange, Followers, Idle, Offering, Publishers, Receiving, Removing, Sending, Side, World, Writing, after, after_delta, after_digest, calls, computed_for, applied_to, arrives, cut_by, fresh_table, given_as, given_in, happen, on_exchange, on_sent, on_side, possible, sent_after, sent_on, start, unless_refused}
use Rattle.rules.proofs.Formed.{none-obey}
use Rattle.demand3.proofs.Formed.{removal-formed, sent-read}
use Rattle.demand3.proofs.Forms.{comes, lent-computing, lent-removal}
use Rattle.demand3.proofs.Moments.{InOrder, moment-start, next-event}
use Rattle.demand3.proofs.Parted.{IsRead, ReadsWell}
use Rattle.table.proofs.Encoded.{apply-whole, from-whole, on-whole, whole-whole}
use Rattle.table.proofs.Wholes.{decode-encode-whole, without-memory}
use Rattle.demand3_bytes.specs.LentWorld.{LentWorld, kind_in, lent_after, lent_applied, lent_calls, lent_computed, lent_happen, lent_sent_on, lent_start, of_kind, on_lent, on_way}

-- ---- a call on the bytes of a table that obeys and is in form, of any kind

module _ (k : Kind) (t : Table) (o : obeys t ≡ true) (f : profile_obeys k.profile t ≡ true) where
  abbrev pub whole : Whole
  whole = record { kind = k; memory = []; table = t }

  pub whole_is : obeys_whole whole ≡ true
  whole_is = without-memory k t o f

  -- what stands in the bytes
  pub stands : decode_whole (of_kind k t) ≡ whole
  stands = decode-encode-whole whole whole_is

  pub on-encoded : {A : Type 0} (bad : A) (rule : Table → Outcome A) → on_table bad rule (of_kind k t) ≡ stored_in whole (rule t)
  on-encoded bad rule = on-whole whole whole_is bad rule

  pub from-encoded : {A : Type 0} (bad : A) (rule : Table → A) → from_table bad rule (of_kind k t) ≡ rule t
  from-encoded bad rule = from-whole whole whole_is bad rule

  pub whole-encoded : {A : Type 0} (bad : A) (rule : Whole → Given A Whole) → on_whole bad rule (of_kind k t) ≡ given (rule whole).answer (encode_whole (rule whole).lent)
  whole-encoded bad rule = whole-whole whole whole_is bad rule

  pub apply-encoded : (delta : List ℕ) (now : ℕ) (list : List ℕ) → lent_apply delta now list (of_kind k t) ≡ stored_apply whole (apply (ways_in k) delta now t list)
  apply-encoded delta now list = apply-whole whole whole_is delta now list

none-some : {X : Type 0} (r : Refusal) → ◌≡◌ {A = Option Refusal} none (some r) → X
none-some r e = let z : ◌≡◌ {A = ℕ} 0 1 = cc in absurd (omega arith)

pub fresh-formed : (p : Profile) (is : List ℕ) → profile_obeys p (fresh_table is) ≡ true
unfolding profile_obeys fresh_table all
fresh-formed p [] = refl
fresh-formed p (i ∷ is) = and_intro (recs_obey p []) (all (λ (e : Entry). recs_obey p e.node.recs) (fresh_table is)) (none-obey p) (fresh-formed p is)

-- ---- the bytes of a world of tables, the publisher's of kind pk and the follower's of kind fk

module _ (pk fk : Kind) where
  abbrev pub lent : World → LentWorld
  lent w = record { publisher = of_kind pk w.publisher; follower = of_kind fk w.follower; given = w.given; exchange = w.exchange; sent = w.sent }

  abbrev pub ways : Ways
  ways = ways_in fk

  -- each table is in the form of its profile, and what was ever computed is read in the publisher's
  pub record Formed (w : World) : Type 0 where
    pub publisher : profile_obeys pk.profile w.publisher ≡ true
    pub follower : profile_obeys fk.profile w.follower ≡ true
    pub sent : (b : List ℕ) → b ∈ w.sent → IsRead pk.profile b

  pub start-formed : (is : List ℕ) → Formed (start is)
  unfolding start
  start-formed is = record { publisher = fresh-formed pk.profile is; follower = fresh-formed fk.profile is; sent = λ b m. absurd (in-none m) }

  -- what the publisher's profile refuses of an event: a write
  abbrev pub guard_on : Event → World → Option Refusal
  guard_on (Writing i k who c) w = guard_in pk.profile who c k (node_of i w.publisher)
  guard_on (Beating s i) w = none
  guard_on (Offering s i h) w = none
  guard_on (Removing s removal) w = none
  guard_on (Digesting edition excluded place l) w = none
  guard_on (Computing edition excluded order mtu place l) w = none
  guard_on (Applying now l) w = none
  guard_on (Receiving cuts now l) w = none
  guard_on (Sending edition digest excluded order mtu place l) w = none
  guard_on (Arriving k now l) w = none

  pub quiet-free : (e : Event) (w : World) → quiet e ≡ true → guard_on e w ≡ none
  quiet-free (Writing i k who c) w q = absurd (false≢true q)
  quiet-free (Beating s i) w q = refl
  quiet-free (Offering s i h) w q = refl
  quiet-free (Removing s removal) w q = refl
  quiet-free (Digesting edition excluded place l) w q = refl
  quiet-free (Computing edition excluded order mtu place l) w q = refl
  quiet-free (Applying now l) w q = refl
  quiet-free (Receiving cuts now l) w q = refl
  quiet-free (Sending edition digest excluded order mtu place l) w q = refl
  quiet-free (Arriving k now l) w q = refl

  module _ (w : World) (p : obeys w.publisher ≡ true) (f : obeys w.follower ≡ true) (form : Formed w) where
    -- a call that changes the table of one side
    on-side : {A : Type 0} (s : Side) (bad : A) (rule : Table → Outcome A) → on_lent s (λ l. (on_table bad rule l).lent) (lent w) ≡ lent (on_side s (λ t. (rule t).table) w)
    on-side {A} Publishers bad rule = ap (λ (o : Given A (List ℕ)). on_lent Publishers (λ l. o.lent) (lent w)) (on-encoded pk w.publisher p form.publisher bad rule)
    on-side {A} Followers bad rule = ap (λ (o : Given A (List ℕ)). on_lent Followers (λ l. o.lent) (lent w)) (on-encoded fk w.follower f form.follower bad rule)

    pub computed-lent : (edition : ℕ) (digest excluded : List ℕ) (order : Order) (mtu place : ℕ) (d : List ℕ) → lent_compute_by edition excluded order mtu place digest d (of_kind pk w.publisher) ≡ compute_by edition excluded order mtu place digest w.publisher d
    computed-lent edition digest excluded order mtu place d =
        lent-computing edition excluded order mtu place digest d (of_kind pk w.publisher)
        ∙ from-encoded pk w.publisher p form.publisher (given (Err BadTable) d) (λ t. compute_by edition excluded order mtu place digest t d)

    removed-lent : (s : Side) (removal : Removal) → on_lent s (lent_removed_by removal) (lent w) ≡ lent (on_side s (removed_by removal) w)
    removed-lent Publishers removal =
        ap (λ (l : List ℕ). on_lent Publishers (λ m. l) (lent w)) (lent-removal removal (of_kind pk w.publisher))
        ∙ on-side Publishers (Err BadTable) (λ t. gives done (removed_by removal t))
    removed-lent Followers removal =
        ap (λ (l : List ℕ). on_lent Followers (λ m. l) (lent w)) (lent-removal removal (of_kind fk w.follower))
        ∙ on-side Followers (Err BadTable) (λ t. gives done (removed_by removal t))

    applied-lent : (now : ℕ) (answers : List ℕ) (x : Exchange) → lent_applied now answers x (of_kind fk w.follower) ≡ of_kind fk (applied_to ways now answers x w.follower)
    applied-lent now answers Idle = refl
    applied-lent now answers (DigestSent b) = refl
    applied-lent now answers (DeltaSent b) = ap (λ (o : Given (Result ℕ DeltaFault) TableAndList). o.lent.table) (apply-encoded fk w.follower f form.follower b now answers)

    -- ---- a write

    module _ (i : ℕ) (k : List ℕ) (who : Party) (c : Call) where
      abbrev guarded : Option Refusal → World
      guarded g =
          record {
            publisher = (unless_guarded g (call c i k w.publisher) w.publisher).table;
            follower = w.follower;
            given = λ j. pick (eqb j i) (unless_refused g (given_in k c (node_of i w.publisher) (w.given j)) (w.given j)) (w.given j);
            exchange = w.exchange;
            sent = w.sent;
          }

      -- the call goes by what stands in the bytes
      abbrev bytes_by : Whole → LentWorld
      bytes_by u =
          record {
            publisher = (on_table (Err BadTable) (call_as u.kind.profile who c i k) (of_kind pk w.publisher)).lent;
            follower = of_kind fk w.follower;
            given = λ j. pick (eqb j i) (given_as u.kind.profile who k c (node_of i u.table) (w.given j)) (w.given j);
            exchange = w.exchange;
            sent = w.sent;
          }

      writing-lent : lent_calls (Writing i k who c) (lent w) ≡ lent (guarded (guard_on (Writing i k who c) w))
      unfolding call_as
      writing-lent =
          ap bytes_by (stands pk w.publisher p form.publisher)
          ∙ ap (λ (o : Given (Result (Unit {0}) Refusal) (List ℕ)). record { publisher = o.lent; follower = of_kind fk w.follower; given = (guarded (guard_on (Writing i k who c) w)).given; exchange = w.exchange; sent = w.sent })
          (on-encoded pk w.publisher p form.publisher (Err BadTable) (call_as pk.profile who c i k))

      refused-writing : (r : Refusal) → guarded (some r) ≡ w
      refused-writing r =
          let same : (j : ℕ) → pick (eqb j i) (w.given j) (w.given j) ≡ w.given j = λ j. go (w.given j) (eqb j i) in
          λ z. record { publisher = w.publisher; follower = w.follower; given = λ j. same j z; exchange = w.exchange; sent = w.sent }
        where
          go : (h : List KeyValue) (b : Bool) → pick b h h ≡ h
          go h true = refl
          go h false = refl

      written-formed : guard_on (Writing i k who c) w ≡ none → profile_obeys pk.profile (call c i k w.publisher).table ≡ true
      unfolding call_as
      written-formed e =
          subst (λ (g : Option Refusal). profile_obeys pk.profile (unless_guarded g (call c i k w.publisher) w.publisher).table ≡ true) e
          (call-formed pk.profile who c i k w.publisher p form.publisher)

    -- ---- what the profile lets through

    calls-lent : (e : Event) → guard_on e w ≡ none → lent_calls e (lent w) ≡ lent (calls ways e w)
    calls-lent (Writing i k who c) g = writing-lent i k who c ∙ ap (λ (r : Option Refusal). lent (guarded i k who c r)) g
    calls-lent (Beating s i) g = on-side s (Err BadTable) (local_beat i)
    calls-lent (Offering s i h) g = on-side s (Err BadTable) (offer i h)
    calls-lent (Removing s removal) g = removed-lent s removal
    calls-lent (Digesting edition excluded place d) g =
        ap (λ (o : Given (Result ℕ Refusal) (List ℕ)). on_way (after_digest place o.lent o.answer w.exchange) w.sent (lent w))
        (from-encoded fk w.follower f form.follower (given (Err BadTable) d) (λ t. write_digest edition excluded place t d))
    calls-lent (Computing edition excluded order mtu place d) g = go w.exchange
      where
        go : (x : Exchange) → on_way (lent_computed edition excluded order mtu place d (of_kind pk w.publisher) x) (lent_sent_on edition excluded order mtu place d (of_kind pk w.publisher) x w.sent) (lent w) ≡ lent (on_exchange (computed_for edition excluded order mtu place d w.publisher x) (on_sent (sent_on edition excluded order mtu place d w.publisher x w.sent) w))
        go Idle = refl
        go (DigestSent b) =
            ap (λ (o : Given (Result Sent Refusal) (List ℕ)). on_way (after_delta place o.lent o.answer (DigestSent b)) (sent_after place o.lent o.answer w.sent) (lent w))
            (computed-lent edition b excluded order mtu place d)
        go (DeltaSent b) = refl
    calls-lent (Applying now answers) g = ap (λ (l : List ℕ). on_lent Followers (λ m. l) (lent w)) (applied-lent now answers w.exchange)
    calls-lent (Receiving cuts now answers) g = ap (λ (l : List ℕ). on_lent Followers (λ m. l) (lent w)) (applied-lent now answers (cut_by cuts w.exchange))
    calls-lent (Sending edition digest excluded order mtu place d) g =
        ap (λ (o : Given (Result Sent Refusal) (List ℕ)). on_way w.exchange (sent_after place o.lent o.answer w.sent) (lent w)) (computed-lent edition digest excluded order mtu place d)
    calls-lent (Arriving k now answers) g = ap (λ (l : List ℕ). on_lent Followers (λ m. l) (lent w)) (applied-lent now answers (arrives k w.sent))

    -- ---- and keeps in form

    side-formed : (s : Side) (g : Table → Table) → ((q : Profile) (t : Table) → profile_obeys q t ≡ true → profile_obeys q (g t) ≡ true) → Formed (on_side s g w)
    side-formed Publishers g h = record { publisher = h pk.profile w.publisher form.publisher; follower = form.follower; sent = form.sent }
    side-formed Followers g h = record { publisher = form.publisher; follower = h fk.profile w.follower form.follower; sent = form.sent }

    -- one delta more
    more-sent : (x : Exchange) (edition : ℕ) (digest excluded : List ℕ) (order : Order) (mtu place : ℕ) (d : List ℕ) → Formed (on_exchange x (on_sent (sent_after place (compute_by edition excluded order mtu place digest w.publisher d).lent (compute_by edition excluded order mtu place digest w.publisher d).answer w.sent) w))
    more-sent x edition digest excluded order mtu place d =
        record {
          publisher = form.publisher;
          follower = form.follower;
          sent = λ b m. go b (sent-read pk.profile edition excluded order mtu place digest w.publisher d w.sent _ form.publisher (comes edition excluded order mtu place digest w.publisher d p) b m);
        }
      where
        go : (b : List ℕ) → (b ∈ w.sent) ⊎ (IsRead pk.profile b × ReadsWell b) → IsRead pk.profile b
        go b (inl m) = form.sent b m
        go b (inr r) = r.0

    applied-formed : (now : ℕ) (answers : List ℕ) (x : Exchange) → Formed (on_side Followers (applied_to ways now answers x) w)
    applied-formed now answers Idle = form
    applied-formed now answers (DigestSent b) = form
    applied-formed now answers (DeltaSent b) = record { publisher = form.publisher; follower = apply-formed fk b now w.follower answers form.follower; sent = form.sent }

    calls-formed : (e : Event) → guard_on e w ≡ none → Formed (calls ways e w)
    calls-formed (Writing i k who c) g = record { publisher = written-formed i k who c g; follower = form.follower; sent = form.sent }
    calls-formed (Beating s i) g = side-formed s (λ t. (local_beat i t).table) (λ q. beat-formed q i)
    calls-formed (Offering s i h) g = side-formed s (λ t. (offer i h t).table) (λ q. offer-formed q i h)
    calls-formed (Removing s removal) g = side-formed s (removed_by removal) (λ q. removal-formed q removal)
    calls-formed (Digesting edition excluded place d) g = record { publisher = form.publisher; follower = form.follower; sent = form.sent }
    calls-formed (Computing edition excluded order mtu place d) g = go w.exchange
      where
        go : (x : Exchange) → Formed (on_exchange (computed_for edition excluded order mtu place d w.publisher x) (on_sent (sent_on edition excluded order mtu place d w.publisher x w.sent) w))
        go Idle = record { publisher = form.publisher; follower = form.follower; sent = form.sent }
        go (DigestSent b) = more-sent _ edition b excluded order mtu place d
        go (DeltaSent b) = record { publisher = form.publisher; follower = form.follower; sent = form.sent }
    calls-formed (Applying now answers) g = applied-formed now answers w.exchange
    calls-formed (Receiving cuts now answers) g = applied-formed now answers (cut_by cuts w.exchange)
    calls-formed (Sending edition digest excluded order mtu place d) g = more-sent w.exchange edition digest excluded order mtu place d
    calls-formed (Arriving k now answers) g = applied-formed now answers (arrives k w.sent)

    -- ---- an event

    -- the follower's ways are those of its kind
    pub ways-lent : ways_in (kind_in (lent w).follower) ≡ ways
    ways-lent = ap (λ (u : Whole). ways_in u.kind) (stands fk w.follower f form.follower)

    pub happen-lent : (e : Event) → guard_on e w ≡ none → (lent_happen e (lent w) ≡ lent (happen ways e w)) × Formed (happen ways e w)
    unfolding lent_happen happen
    happen-lent e g = let r = go (possible ways e) in (ap (λ (u : Ways). pick (possible u e) (lent_calls e (lent w)) (lent w)) ways-lent ∙ r.0, r.1)
      where
        go : (b : Bool) → (pick b (lent_calls e (lent w)) (lent w) ≡ lent (pick b (calls ways e w) w)) × Formed (pick b (calls ways e w) w)
        go true = (calls-lent e g, calls-formed e g)
        go false = (refl, form)

    -- a write that the profile refuses changes nothing
    refused-calls : (e : Event) (r : Refusal) → guard_on e w ≡ some r → lent_calls e (lent w) ≡ lent w
    refused-calls (Writing i k who c) r g = writing-lent i k who c ∙ ap (λ (o : Option Refusal). lent (guarded i k who c o)) g ∙ ap lent (refused-writing i k who c r)
    refused-calls (Beating s i) r g = none-some r g
    refused-calls (Offering s i h) r g = none-some r g
    refused-calls (Removing s removal) r g = none-some r g
    refused-calls (Digesting edition excluded place l) r g = none-some r g
    refused-calls (Computing edition excluded order mtu place l) r g = none-some r g
    refused-calls (Applying now l) r g = none-some r g
    refused-calls (Receiving cuts now l) r g = none-some r g
    refused-calls (Sending edition digest excluded order mtu place l) r g = none-some r g
    refused-calls (Arriving k now l) r g = none-some r g

    pub refused-lent : (e : Event) (r : Refusal) → guard_on e w ≡ some r → lent_happen e (lent w) ≡ lent w
    unfolding lent_happen
    refused-lent e r g = go (possible (ways_in (kind_in (lent w).follower)) e)
      where
        go : (b : Bool) → pick b (lent_calls e (lent w)) (lent w) ≡ lent w
        go true = refused-calls e r g
        go false = refl

  -- ---- a run

  module _ (is : List ℕ) where
    -- A run of the bytes is a run of the tables: that of the events which the publisher's profile lets through.
    pub record Ran (es : List Event) (w : World) : Type 0 where
      pub events : List Event
      pub goes : lent_after es (lent w) ≡ lent (after ways events w)
      pub order : InOrder is (after ways events w)
      pub forms : Formed (after ways events w)

    pub ran : (es : List Event) (w : World) → InOrder is w → Formed w → Ran es w
    unfolding lent_after after
    ran [] w o form = record { events = []; goes = refl; order = o; forms = form }
    ran (e ∷ es) w o form = go (guard_on e w) refl (ran es)
      where
        p : obeys w.publisher ≡ true
        p = facts-table w.publisher o.publisher_ok

        f : obeys w.follower ≡ true
        f = facts-table w.follower o.follower_ok

        go : (g : Option Refusal) → guard_on e w ≡ g → ((v : World) → InOrder is v → Formed v → Ran es v) → Ran (e ∷ es) w
        go none q on =
            let h = happen-lent w p f form e q in
            let r = on (happen ways e w) (next-event ways (kind-lawful fk) is w o e).order h.1 in
            record { events = e ∷ r.events; goes = ap (lent_after es) h.0 ∙ r.goes; order = r.order; forms = r.forms }
        go (some r) q on =
            let s = on w o form in
            record { events = s.events; goes = ap (lent_after es) (refused-lent w p f form e r q) ∙ s.goes; order = s.order; forms = s.forms }

    -- where it is quiet, of all of them
    pub record Quietly (es : List Event) (w : World) : Type 0 where
      pub went : lent_after es (lent w) ≡ lent (after ways es w)
      pub order : InOrder is (after ways es w)
      pub forms : Formed (after ways es w)

    pub quiet-lent : (es : List Event) (w : World) → all_quiet es ≡ true → InOrder is w → Formed w → Quietly es w
    unfolding lent_after after all_quiet
    quiet-lent [] w calm o form = record { went = refl; order = o; forms = form }
    quiet-lent (e ∷ es) w calm o form =
        let h =
        happen-lent w (facts-table w.publisher o.publisher_ok) (facts-table w.follower o.follower_ok) form e (quiet-free e w (and_left (quiet e) _ calm)) in
        let r = quiet-lent es (happen ways e w) (and_right (quiet e) _ calm) (next-event ways (kind-lawful fk) is w o e).order h.1 in
        record { went = ap (lent_after es) h.0 ∙ r.went; order = r.order; forms = r.forms }

    start-lent : lent_start pk fk is ≡ lent (start is)
    unfolding lent_start start
    start-lent = refl

    module _ (ok : obeys (fresh_table is) ≡ true) where
      -- from the start
      pub from_start : (es : List Event) → Ran es (start is)
      from_start es = ran es (start is) (moment-start is ok ways).order (start-formed is)

      -- At every moment of every run, the bytes are those of the world of tables.
      pub lent-run : (es : List Event) → lent_after es (lent_start pk fk is) ≡ lent (after ways (from_start es).events (start is))
      lent-run es = ap (lent_after es) start-lent ∙ (from_start es).goes
