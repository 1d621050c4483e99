-- A call of `exchange::exchange` is a run of the world of lent bytes, refused or not. Nothing is assumed but that its clock is a number of eight bytes.
use Prim.Native.Nat.{ℕ, ◌<◌}
use mathlib.Core.Path.{◌≡◌, ◌∙◌, ap, refl, subst, sym}
use mathlib.Core.Bool.{Bool, ◌&&◌, false, false≢true, true}
use mathlib.Core.List.{List, [], ◌∷◌}
use lib.Dec.{ltb}
use borrow.Author.Tests.{lt-ltb}
use Rattle.fields.specs.Choice.{pick}
use Rattle.fields.specs.Parts.{part}
use Rattle.rules.specs.Given.{Given}
use Rattle.rules.specs.Sizes.{numbers}
use Rattle.rules.specs.Lent.{lent_apply, lent_compute, lent_digest}
use Rattle.std.specs.Prelude.{Err, Ok, Result}
use Rattle.exchange.specs.declared.Exchanged.{Exchanged}
use Rattle.exchange_ask.specs.declared.Stopped.{Stopped}
use Rattle.rules.specs.declared.DeltaFault.{DeltaFault}
use Rattle.rules.specs.declared.Refusal.{Refusal}
use Rattle.rules.specs.declared.Sent.{Sent}
use Rattle.demand3.specs.Forms.{InLine}
use Rattle.demand3.specs.World.{Applying, Computing, DeltaSent, DigestSent, Digesting, Event, Exchange, after_delta, after_digest, sent_after}
use Rattle.demand3.specs.Demand3.{no_room, wrote_delta, wrote_digest}
use Rattle.exchange.specs.Exchanging.{ExchangeLent, Lending, after_asking, after_computing, after_digesting, exchanged_as, lent_answer, lent_exchange, rooms_of, three_calls, with_digest}
use Rattle.exchange_ask.specs.Asking.{ready_for}
use Rattle.exchange.proofs.Refusing.{digest-told, is-ready, ready-done}
use Rattle.demand3_bytes.specs.LentWorld.{LentWorld, lent_after, lent_calls, lent_happen, on_way}
use Rattle.demand3_bytes.specs.LentDemand3.{lent_granted}
use Rattle.demand3_bytes.specs.Runs.{IsRun, events_of, exchanged_to, granted_as, is_granted, run_of}

-- the calls of a run are all granted
unfoldable pub all_lent_granted : List Event → LentWorld → Bool
all_lent_granted [] w = true
all_lent_granted (e ∷ es) w = lent_granted e w && all_lent_granted es (lent_happen e w)

and-true : (b : Bool) → (b && true) ≡ b
and-true true = refl
and-true false = refl

module _ (g : Lending) (w : LentWorld) (clock : g.clock < numbers) where
  abbrev told : Given (Result ℕ Refusal) (List ℕ)
  told = lent_digest g.edition g.unasked 0 g.digest w.follower

  abbrev made : List ℕ → Given (Result Sent Refusal) (List ℕ)
  made b = lent_compute g.edition g.unsent g.ties g.mtu 0 b g.delta w.publisher

  abbrev asking : Event
  asking = Digesting g.edition g.unasked 0 g.digest

  abbrev answering : Event
  answering = Computing g.edition g.unsent (InLine g.ties) g.mtu 0 g.delta

  abbrev taking-in : Event
  taking-in = Applying g.clock g.answers

  -- ---- the three events

  first : (n : ℕ) → told.answer ≡ Ok n → lent_happen asking w ≡ on_way (DigestSent (part 0 n told.lent)) w.sent w
  unfolding lent_happen
  first n e = ap (λ (a : (Result ℕ Refusal)). on_way (after_digest 0 told.lent a w.exchange) w.sent w) e

  second : (b : List ℕ) (a : (Result Sent Refusal)) → (made b).answer ≡ a → lent_happen answering (on_way (DigestSent b) w.sent w) ≡ on_way (after_delta 0 (made b).lent a (DigestSent b)) (sent_after 0 (made b).lent a w.sent) w
  unfolding lent_happen
  second b a e = ap (λ (x : (Result Sent Refusal)). on_way (after_delta 0 (made b).lent x (DigestSent b)) (sent_after 0 (made b).lent x w.sent) w) e

  third : (b : List ℕ) (ss : List (List ℕ)) → lent_happen taking-in (on_way (DeltaSent b) ss w) ≡ exchanged_to (lent_apply b g.clock g.answers w.follower).lent.table (DeltaSent b) ss w
  unfolding lent_happen
  third b ss = ap (λ (c : Bool). pick c (lent_calls taking-in (on_way (DeltaSent b) ss w)) (on_way (DeltaSent b) ss w)) (lt-ltb g.clock numbers clock)

  -- a digest that nobody answered
  third-none : (b : List ℕ) → lent_happen taking-in (on_way (DigestSent b) w.sent w) ≡ exchanged_to w.follower (DigestSent b) w.sent w
  unfolding lent_happen
  third-none b = ap (λ (c : Bool). pick c (lent_calls taking-in (on_way (DigestSent b) w.sent w)) (on_way (DigestSent b) w.sent w)) (lt-ltb g.clock numbers clock)

  -- the three together
  three : (b : List ℕ) (u v : LentWorld) → lent_happen asking w ≡ on_way (DigestSent b) w.sent w → lent_happen answering (on_way (DigestSent b) w.sent w) ≡ u → lent_happen taking-in u ≡ v → lent_after (events_of g) w ≡ v
  unfolding lent_after
  three b u v p q r = ap (λ (x : LentWorld). lent_happen taking-in (lent_happen answering x)) p ∙ ap (lent_happen taking-in) q ∙ r

  -- ---- the run

  -- The three calls are the three events, once there is a digest.
  three-run : (n : ℕ) → told.answer ≡ Ok n → (x : Exchange) × (ss : List (List ℕ)) × (lent_after (events_of g) w ≡ exchanged_to (three_calls g w.publisher w.follower).lent.follower x ss w)
  unfolding three_calls lent_answer
  three-run n e = subst (λ (a : (Result ℕ Refusal)). Run (after_digesting g w.publisher w.follower told.lent a)) (sym e) (answered (made b).answer refl)
    where
      b : List ℕ
      b = part 0 n told.lent

      Run : Given (Result Exchanged Stopped) ExchangeLent → Type 0
      Run o = (x : Exchange) × (ss : List (List ℕ)) × (lent_after (events_of g) w ≡ exchanged_to o.lent.follower x ss w)

      answered : (a : (Result Sent Refusal)) → (made b).answer ≡ a → Run (with_digest told.lent (after_computing g.clock g.answers w.follower (made b).lent a))
      answered (Ok s) q = let d = part 0 s.bytes (made b).lent in (DeltaSent d, d ∷ w.sent, three b _ _ (first n e) (second b _ q) (third d (d ∷ w.sent)))
      answered (Err r) q = (DigestSent b, w.sent, three b _ _ (first n e) (second b _ q) (third-none b))

  abbrev is-asked : (Result (Unit {0}) Stopped)
  is-asked = ready_for g.edition g.unasked (rooms_of g) w.publisher w.follower

  -- Whatever the call answers, it is this run.
  pub exchange-run : IsRun g w (lent_exchange g w.publisher w.follower)
  unfolding lent_exchange lent_after
  exchange-run = go is-asked refl
    where
      go : (a : (Result (Unit {0}) Stopped)) → is-asked ≡ a → IsRun g w (after_asking g w.publisher w.follower a)
      go (Ok _) e =
          let r = is-ready g w.publisher w.follower e in
          let run = three-run _ (ap (λ (o : Given (Result ℕ Refusal) (List ℕ)). o.answer) (digest-told g w.publisher w.follower r)) in
          (run.0, run.1, ap (λ (a : (Result Exchanged Stopped)). lent_after (run_of g a) w) (ready-done g w.publisher w.follower r) ∙ run.2)
      go (Err s) e = (w.exchange, w.sent, refl)

  -- ---- nothing refused

  -- The three calls grant what the three events grant.
  three-granted : all_lent_granted (events_of g) w ≡ is_granted (three_calls g w.publisher w.follower)
  unfolding three_calls lent_answer all_lent_granted
  three-granted = asked told.answer refl
    where
      -- of an exchange that goes on with a digest of these bytes
      rest : LentWorld → Bool
      rest u = lent_granted answering u && (lent_granted taking-in (lent_happen answering u) && true)

      after-made : LentWorld → Bool
      after-made u = lent_granted taking-in u && true

      clock-is : ltb g.clock numbers ≡ true
      clock-is = lt-ltb g.clock numbers clock

      taken : (ops bytes : ℕ) (a : (Result ℕ DeltaFault)) (l : List ℕ) → (no_room a l && true) ≡ granted_as (exchanged_as ops bytes a) l
      taken ops bytes (Ok n) l = and-true _
      taken ops bytes (Err f) l = refl

      answered : (b : List ℕ) (a : (Result Sent Refusal)) → (made b).answer ≡ a → rest (on_way (DigestSent b) w.sent w) ≡ is_granted (with_digest told.lent (after_computing g.clock g.answers w.follower (made b).lent a))
      answered b (Ok s) q =
          let d = part 0 s.bytes (made b).lent in
          let o = lent_apply d g.clock g.answers w.follower in
          ap (λ (a : (Result Sent Refusal)). wrote_delta a && after-made (lent_happen answering (on_way (DigestSent b) w.sent w))) q
          ∙ ap after-made (second b _ q)
          ∙ ap (λ (c : Bool). (c && no_room o.answer o.lent.list) && true) clock-is
          ∙ taken s.ops s.bytes o.answer o.lent.list
      answered b (Err r) q = ap (λ (a : (Result Sent Refusal)). wrote_delta a && after-made (lent_happen answering (on_way (DigestSent b) w.sent w))) q

      asked : (a : (Result ℕ Refusal)) → told.answer ≡ a → (wrote_digest told.answer && rest (lent_happen asking w)) ≡ is_granted (after_digesting g w.publisher w.follower told.lent a)
      asked (Ok n) e =
          ap (λ (a : (Result ℕ Refusal)). wrote_digest a && rest (lent_happen asking w)) e
          ∙ ap rest (first n e)
          ∙ answered (part 0 n told.lent) (made (part 0 n told.lent)).answer refl
      asked (Err r) e = ap (λ (a : (Result ℕ Refusal)). wrote_digest a && rest (lent_happen asking w)) e

  -- What the call grants, its three events grant.
  pub exchange-granted : is_granted (lent_exchange g w.publisher w.follower) ≡ true → all_lent_granted (events_of g) w ≡ true
  unfolding lent_exchange
  exchange-granted = go is-asked
    where
      go : (a : (Result (Unit {0}) Stopped)) → is_granted (after_asking g w.publisher w.follower a) ≡ true → all_lent_granted (events_of g) w ≡ true
      go (Ok _) e = three-granted ∙ e
      go (Err s) e = absurd (false≢true e)
