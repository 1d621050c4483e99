-- Between tables of one profile nothing that was ever computed is refused with 17 or 19. Assumes nothing but that the fresh tables obey document 01's rules.
use Prim.Native.Nat.{ℕ}
use mathlib.Core.Bool.{Bool, false, false≢true, true}
use mathlib.Core.List.{List}
use mathlib.Core.Path.{◌∙◌, ◌≡◌, ap, refl, subst, sym}
use native.Mathlib.Omega.{arith}
use lib.Dec.{leb}
use lib.ListN.{length}
use Rattle.fields.specs.Choice.{pick}
use Rattle.rules.specs.Apply.{Taking, Ways, answered, apply, apply_node, apply_ops, apply_parts, delta_status, outcome, ways_in}
use Rattle.rules.specs.Delta.{NodeDelta, Ops, Part, parts_of}
use Rattle.rules.specs.Digest.{digest_bytes, digest_of, is_edition}
use Rattle.rules.specs.Given.{Given, given}
use Rattle.rules.specs.Lent.{TableAndList, both, lent_apply, lent_apply_as, stored_apply}
use Rattle.rules.specs.Node.{Node}
use Rattle.rules.specs.Profile.{Kind, odd_number, profile_obeys, table_formed}
use Rattle.rules.specs.Table.{Table, obeys}
use Rattle.rules.specs.Whole.{Whole, decode_whole, encode_whole, obeys_whole, valid_whole}
use Rattle.std.specs.Prelude.{Err, Ok, Result}
use Rattle.exchange_ask.specs.declared.Stopped.{Stopped}
use Rattle.exchange.specs.declared.Exchanged.{Exchanged}
use Rattle.rules.specs.declared.DeltaFault.{DeltaFault}
use Rattle.rules.specs.Results.{done}
use Rattle.rules.specs.declared.DeltaStatus.{DeltaStatus}
use Rattle.rules.specs.declared.DeltaStatus.TheVariants.{Apply, ApplyAfterReset, Fenced, Reject}
use Rattle.rules.specs.declared.Profile.{Profile}
use Rattle.rules.specs.declared.Refusal.{Refusal}
use Rattle.rules.specs.declared.Refusal.TheVariants.{BadEdition, BadTable, NoPlace}
use Rattle.rules.proofs.Formed.{table-formed}
use Rattle.rules.proofs.Obeys.{facts-table}
use Rattle.rules.proofs.Results.{err-is}
use Rattle.profiles.proofs.Reading.{delta-plain}
use Rattle.table.proofs.Wholes.{decode-encode-whole, valid-encode-whole}
use Rattle.compute.specs.Asking.{asked_of}
use Rattle.exchange_ask.specs.Asking.{Rooms, forms_fit, ready_for, ready_on, rooms_for, taking_for, unless_refused}
use Rattle.exchange_ask.specs.declared.Step.{Step}
use Rattle.exchange_ask.specs.declared.Step.TheVariants.{Applying, Delta, Digest}
use Rattle.exchange.specs.Exchanging.{Lending, after_asking, lent_exchange, rooms_of}
use Rattle.exchange.proofs.Refusing.{is-ready, ready-done}
use Rattle.demand3.proofs.Formed.{only-places}
use Rattle.demand3.proofs.Parted.{IsRead, arrived-so}
use Rattle.demand3.specs.World.{DeltaSent, Event, Which, World, after, arrives, fresh_table, start}
use Rattle.demand3_bytes.proofs.LentWorld.{apply-encoded, from_start, lent, lent-run, stands, ways, whole, whole_is}
use Rattle.demand3_bytes.specs.LentDemand3.{LentOneProfile, reading_all}
use Rattle.demand3_bytes.specs.LentWorld.{LentWorld, lent_after, lent_start, of_kind}

-- ---- a delta that the table's profile reads

module _ (k : Kind) (b : List ℕ) (read : IsRead k.profile b) (now : ℕ) (t : Table) (l : List ℕ) where
  abbrev parts : List Part
  parts = parts_of read.0

  it-is : apply (ways_in k) b now t l ≡ apply_parts (apply_node (ways_in k) now) parts t l
  unfolding apply
  it-is = ap (λ (o : Ops). apply_ops (apply_node (ways_in k) now) o t l) read.1

  -- what a node takes does not hang on the reading
  one : (d : NodeDelta) (n : Node) → apply_node (ways_in k) now d n ≡ apply_node (reading_all k) now d n
  unfolding apply_node
  one d n = go (delta_status (ways_in k).fence n d)
    where
      go : (s : DeltaStatus) → answered (ways_in k) s (outcome s now d n) n ≡ answered (reading_all k) s (outcome s now d n) n
      go Reject = refl
      go Apply = refl
      go ApplyAfterReset = refl
      go Fenced = refl

  taking : apply_node (ways_in k) now ≡ apply_node (reading_all k) now
  taking = λ z d n. one d n z

  as_read : apply (ways_in k) b now t l ≡ apply (reading_all k) b now t l
  unfolding apply
  as_read = it-is ∙ ap (λ (take : Taking). apply_parts take parts t l) taking ∙ ap (λ (o : Ops). apply_ops (apply_node (reading_all k) now) o t l) (sym (delta-plain k.profile b read.0 read.1).0)

-- applying in any ways, of the bytes of a whole that obeys
apply-as : (w : Whole) → obeys_whole w ≡ true → (its : Ways) (b : List ℕ) (now : ℕ) (l : List ℕ) → lent_apply_as its b now l (encode_whole w) ≡ stored_apply w (apply its b now w.table l)
unfolding lent_apply_as
apply-as w o its b now l =
    ap (λ (c : Bool). pick c (stored_apply (decode_whole (encode_whole w)) (apply its b now (decode_whole (encode_whole w)).table l)) (given (Err (record { why = BadTable; at = 0 })) (both (encode_whole w) l)))
    (valid-encode-whole w o)
    ∙ ap (λ (u : Whole). stored_apply u (apply its b now u.table l)) (decode-encode-whole w o)

-- ---- an exchange in one call, of a publisher whose records are in the follower's form

module _ (edition : ℕ) (unasked : List ℕ) (k : Rooms) (publisher follower : List ℕ) (fit : forms_fit publisher follower ≡ true) where
  asks-places : (why : Refusal) → ready_for edition unasked k publisher follower ≡ (Err (record { step = Applying; why = why })) → why ≡ NoPlace
  unfolding ready_for ready_on rooms_for taking_for
  asks-places why =
      go (valid_whole follower) (valid_whole publisher) (is_edition edition) (leb (length (digest_bytes edition (digest_of unasked (decode_whole follower).table))) k.digest)
      (asked_of k.mtu 0 k.delta k.ties (length (decode_whole publisher).table)) (forms_fit publisher follower) fit (leb (length (decode_whole publisher).table) k.answers)
    where
      go : (u v e d : Bool) (n : (Result (Unit {0}) Refusal)) (x : Bool) → x ≡ true → (p : Bool)
          → pick u (pick v (pick e (pick d (unless_refused n (pick x (pick p done (Err (record { step = Applying; why = NoPlace }))) (Err (record { step = Applying; why = (odd_number (decode_whole follower).kind.profile) })))) (Err (record { step = Digest; why = NoPlace }))) (Err (record { step = Digest; why = BadEdition }))) (Err (record { step = Delta; why = BadTable }))) (Err (record { step = Digest; why = BadTable })) ≡ (Err (record { step = Applying; why = why }))
          → why ≡ NoPlace
      go true true true true (Ok _) true f true q = let z : ◌≡◌ {A = ℕ} 0 1 = cc in absurd (omega arith)
      go true true true true (Ok _) true f false q = sym (ap (λ (y : Stopped). y.why) (err-is _ _ q))
      go true true true true (Ok _) false f p q = absurd (false≢true f)
      go true true true true (Err r) x f p q = let e = ap (λ (y : Stopped). y.step) (err-is _ _ q) in let z : ◌≡◌ {A = ℕ} 0 1 = cc in absurd (omega arith)
      go true true true false n x f p q = let e = ap (λ (y : Stopped). y.step) (err-is _ _ q) in let z : ◌≡◌ {A = ℕ} 0 1 = cc in absurd (omega arith)
      go true true false d n x f p q = let e = ap (λ (y : Stopped). y.step) (err-is _ _ q) in let z : ◌≡◌ {A = ℕ} 0 1 = cc in absurd (omega arith)
      go true false e d n x f p q = let e = ap (λ (y : Stopped). y.step) (err-is _ _ q) in let z : ◌≡◌ {A = ℕ} 0 1 = cc in absurd (omega arith)
      go false v e d n x f p q = let e = ap (λ (y : Stopped). y.step) (err-is _ _ q) in let z : ◌≡◌ {A = ℕ} 0 1 = cc in absurd (omega arith)

exchange-asks : (g : Lending) (publisher follower : List ℕ) → forms_fit publisher follower ≡ true → (why : Refusal) → (lent_exchange g publisher follower).answer ≡ (Err (record { step = Applying; why = why })) → why ≡ NoPlace
unfolding lent_exchange
exchange-asks g publisher follower fit why e = go (ready_for g.edition g.unasked (rooms_of g) publisher follower) refl e
  where
    same : (s : Step) (r : Refusal) → ◌≡◌ {A = Result Exchanged Stopped} (Err (record { step = s; why = r })) (Err (record { step = Applying; why = why })) → (s ≡ Applying) × (r ≡ why)
    same s r q = let x = err-is _ _ q in (ap (λ (y : Stopped). y.step) x, ap (λ (y : Stopped). y.why) x)

    go : (a : (Result (Unit {0}) Stopped)) → ready_for g.edition g.unasked (rooms_of g) publisher follower ≡ a → (after_asking g publisher follower a).answer ≡ (Err (record { step = Applying; why = why })) → why ≡ NoPlace
    go (Ok _) q r = let done = sym (ready-done g publisher follower (is-ready g publisher follower q)) ∙ r in let z : ◌≡◌ {A = ℕ} 0 1 = cc in absurd (omega arith)
    go (Err ss) q t = let x = same ss.step ss.why t in asks-places g.edition g.unasked (rooms_of g) publisher follower fit why (q ∙ ap (λ (y : Step). (Err (record { step = y; why = ss.why }))) x.0 ∙ ap (λ (r : Refusal). Err (record { step = Applying; why = r })) x.1)

-- ---- a table of the publisher's profile

module _ (k : Kind) (t : Table) (o : obeys t ≡ true) (f : profile_obeys k.profile t ≡ true) (b : List ℕ) (read : IsRead k.profile b) (now : ℕ) (answers : List ℕ) where
  bytes-places : (why : Refusal) (at : ℕ) → (lent_apply b now answers (of_kind k t)).answer ≡ (Err (record { why = why; at = at })) → why ≡ NoPlace
  bytes-places why at e = only-places k b read now t answers why at (ap (λ (g : Given (Result ℕ DeltaFault) TableAndList). g.answer) (sym (apply-encoded k t o f b now answers)) ∙ e)

  bytes-free : lent_apply b now answers (of_kind k t) ≡ lent_apply_as (reading_all k) b now answers (of_kind k t)
  bytes-free =
      apply-encoded k t o f b now answers
      ∙ ap (stored_apply (whole k t o f)) (as_read k b read now t answers)
      ∙ sym (apply-as (whole k t o f) (whole_is k t o f) (reading_all k) b now answers)

module _ (pk fk : Kind) (is : List ℕ) (ok : obeys (fresh_table is) ≡ true) where
  -- whatever was computed is read by the follower, and so are its parts
  module _ (alike : pk.profile ≡ fk.profile) (es : List Event) where
    abbrev w : World
    w = after (ways pk fk) (from_start pk fk is ok es).events (start is)

    -- what holds of the world of tables, and of what was computed in it
    here : (P : LentWorld → Type 0) → P (lent pk fk w) → P (lent_after es (lent_start pk fk is))
    here P x = subst P (sym (lent-run pk fk is ok es)) x

    reads : (k : Which) (b : List ℕ) → arrives k w.sent ≡ DeltaSent b → IsRead fk.profile b
    reads k =
        arrived-so (IsRead fk.profile) k w.sent (from_start pk fk is ok es).order.all_read
        (λ c d m y. y.in-form fk.profile (subst (λ (p : Profile). IsRead p c) alike ((from_start pk fk is ok es).forms.sent c m)))

    obeyed : obeys w.follower ≡ true
    obeyed = facts-table w.follower (from_start pk fk is ok es).order.follower_ok

    formed : profile_obeys fk.profile w.follower ≡ true
    formed = (from_start pk fk is ok es).forms.follower

    -- every record of the publisher is in the follower's form
    fits : forms_fit (lent pk fk w).publisher (lent pk fk w).follower ≡ true
    fits =
        let sender = (from_start pk fk is ok es).forms.publisher in
        ap (λ (u : Whole). table_formed u.kind.profile (decode_whole (of_kind pk w.publisher)).table) (stands fk w.follower obeyed formed)
        ∙ ap (λ (u : Whole). table_formed fk.profile u.table) (stands pk w.publisher (facts-table w.publisher (from_start pk fk is ok es).order.publisher_ok) sender)
        ∙ table-formed fk.profile w.publisher (subst (λ (p : Profile). profile_obeys p w.publisher ≡ true) alike sender)

  pub lent-one-profile : LentOneProfile pk fk is
  lent-one-profile =
      record {
        only-places =
            λ alike es k b.
            here alike es (λ v. arrives k v.sent ≡ DeltaSent b → (now : ℕ) (answers : List ℕ) (why : Refusal) (at : ℕ) → (lent_apply b now answers v.follower).answer ≡ (Err (record { why = why; at = at })) → why ≡ NoPlace)
            (λ e now answers. bytes-places fk (w alike es).follower (obeyed alike es) (formed alike es) b (reads alike es k b e) now answers);
        as-free =
            λ alike es k b.
            here alike es (λ v. arrives k v.sent ≡ DeltaSent b → (now : ℕ) (answers : List ℕ) → lent_apply b now answers v.follower ≡ lent_apply_as (reading_all fk) b now answers v.follower)
            (λ e now answers. bytes-free fk (w alike es).follower (obeyed alike es) (formed alike es) b (reads alike es k b e) now answers);
        exchange_places = λ alike es g. here alike es (λ v. (why : Refusal) → (lent_exchange g v.publisher v.follower).answer ≡ (Err (record { step = Applying; why = why })) → why ≡ NoPlace) (exchange-asks g _ _ (fits alike es));
      }
