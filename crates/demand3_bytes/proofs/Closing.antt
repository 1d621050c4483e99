-- Demand 3's end by calls of `exchange::exchange`: after any run, let there be calls of it, and beats and offers between them. As many whole calls as the
-- publisher holds records and nodes make every max equal, and both tables then hold the same Set records.
use Prim.Native.Nat.{ℕ, ◌≤◌, ◌<◌, ◌+◌, suc}
use mathlib.Core.Path.{◌≡◌, ◌∙◌, ap, refl, subst, sym}
use mathlib.Core.Bool.{Bool, ◌&&◌, false, false≢true, true}
use mathlib.Core.List.{List, [], ◌∷◌, ◌++◌}
use mathlib.Core.Option.{some}
use native.Mathlib.Omega.{arith}
use lib.Dec.{leb, ltb}
use borrow.Author.Tests.{eq-eqb, ltb-true}
use Rattle.fields.specs.Choice.{pick}
use Rattle.fields.proofs.Choice.{and_intro, and_left, and_right}
use Rattle.rules.specs.Node.{KeyValue, Node}
use Rattle.rules.specs.Sizes.{numbers}
use Rattle.rules.specs.Table.{node_of, obeys}
use Rattle.rules.specs.Given.{Given}
use Rattle.rules.specs.declared.Heartbeat.{Heartbeat}
use Rattle.rules.specs.Profile.{Kind}
use Rattle.rules.specs.declared.Status.TheVariants.{Set}
use Rattle.demand3.specs.Forms.{InLine}
use Rattle.demand3.specs.World.{Applying, Beating, Computing, Digesting, Event, Followers, Offering, Publishers, Side, fresh_table}
use Rattle.demand3.specs.Demand3.{Answered, Asked, Holds, NotBegun, SameMax, Stage, all_quiet, ending, holdings, is_none, least_width, onward, quiet, unlimited}
use Rattle.std.specs.Prelude.{Err, Ok, Result}
use Rattle.exchange.specs.declared.Exchanged.{Exchanged}
use Rattle.exchange_ask.specs.declared.Stopped.{Stopped}
use Rattle.exchange.specs.Exchanging.{ExchangeLent, Lending, lent_exchange}
use Rattle.demand3_bytes.specs.LentWorld.{LentWorld, lent_after, lent_calls, lent_happen, lent_start, table_in}
use Rattle.demand3_bytes.specs.LentDemand3.{LentSound, lent_granted, lent_wholes}
use Rattle.demand3_bytes.specs.Runs.{Act, Beats, Exchanges, Hubs, Offers, after_act, after_acts, all_fit, events_of, fits, granted_as, hubs, is_whole, run_of, whole_calls}
use Rattle.demand3_bytes.proofs.LentDemand3.{lent-append, lent-demand3}
use Rattle.demand3_bytes.proofs.Runs.{all_lent_granted, exchange-granted, exchange-run}

-- ---- the count of a run and what follows it

quiet-append : (es fs : List Event) → all_quiet es ≡ true → all_quiet fs ≡ true → all_quiet (es ++ fs) ≡ true
unfolding all_quiet
quiet-append [] fs a b = b
quiet-append (e ∷ es) fs a b = and_intro (quiet e) _ (and_left (quiet e) _ a) (quiet-append es fs (and_right (quiet e) _ a) b)

-- what comes before takes nothing away
before : (es fs : List Event) (n : ℕ) (st : Stage) (w : LentWorld) → ((s : Stage) → n ≤ lent_wholes s fs (lent_after es w)) → n ≤ lent_wholes st (es ++ fs) w
unfolding lent_wholes lent_after
before [] fs n st w h = h st
before (e ∷ es) fs n st w h =
    go (unlimited e && lent_granted e w) (before es fs n (onward e st) (lent_happen e w) h) (before es fs n NotBegun (lent_happen e w) h)
  where
    go : (b : Bool)
        → n ≤ lent_wholes (onward e st) (es ++ fs) (lent_happen e w)
        → n ≤ lent_wholes NotBegun (es ++ fs) (lent_happen e w)
        → n ≤ pick b (ending e st + lent_wholes (onward e st) (es ++ fs) (lent_happen e w)) (lent_wholes NotBegun (es ++ fs) (lent_happen e w))
    go true x y = omega arith
    go false x y = y

one-step : (e : Event) (es : List Event) (st : Stage) (w : LentWorld) → unlimited e ≡ true → lent_granted e w ≡ true → lent_wholes st (e ∷ es) w ≡ ending e st + lent_wholes (onward e st) es (lent_happen e w)
unfolding lent_wholes
one-step e es st w u g =
    ap (λ (b : Bool). pick b (ending e st + lent_wholes (onward e st) es (lent_happen e w)) (lent_wholes NotBegun es (lent_happen e w)))
    (and_intro (unlimited e) (lent_granted e w) u g)

-- a call with nothing excluded, a wide MTU and all its events granted is one
module _ (g : Lending) (fs : List Event) (n : ℕ) (st : Stage) (w : LentWorld) where
  abbrev asking : Event
  asking = Digesting g.edition g.unasked 0 g.digest

  abbrev answering : Event
  answering = Computing g.edition g.unsent (InLine g.ties) g.mtu 0 g.delta

  abbrev taking-in : Event
  taking-in = Applying g.clock g.answers

  counted : (is_none g.unasked && (is_none g.unsent && leb least_width g.mtu)) ≡ true
      → all_lent_granted (events_of g) w ≡ true
      → n ≤ lent_wholes NotBegun fs (lent_after (events_of g) w)
      → suc n ≤ lent_wholes st (events_of g ++ fs) w
  unfolding lent_after all_lent_granted
  counted p a h =
      let x = lent_happen asking w in
      let y = lent_happen answering x in
      let b = and_right (lent_granted asking w) _ a in
      let c = and_right (lent_granted answering x) _ b in
      let i = one-step asking (answering ∷ taking-in ∷ fs) st w (and_left (is_none g.unasked) _ p) (and_left (lent_granted asking w) _ a) in
      let j = one-step answering (taking-in ∷ fs) (Asked g.edition) x (and_right (is_none g.unasked) _ p) (and_left (lent_granted answering x) _ b) in
      let k = one-step taking-in fs Answered y refl (and_left (lent_granted taking-in y) _ c) in
      let one = ap (λ (b : Bool). lent_wholes (pick b Answered NotBegun) (taking-in ∷ fs) y) (eq-eqb g.edition g.edition refl) in
      omega arith

-- ---- a call, a beat, an offer

abbrev hubs_of : LentWorld → Hubs
hubs_of w = hubs w.publisher w.follower

-- the quiet run that an act is
record Ran (a : Act) (w : LentWorld) : Type 0 where
  events : List Event
  calm : all_quiet events ≡ true
  ends : hubs_of (lent_after events w) ≡ after_act a (hubs_of w)
  counts : (fs : List Event) (n : ℕ) (st : Stage)
      → ((s : Stage) → n ≤ lent_wholes s fs (lent_after events w))
      → pick (is_whole a (hubs_of w)) (suc n) n ≤ lent_wholes st (events ++ fs) w

-- whatever a call of the exchange answers
quiet-run : (g : Lending) (a : (Result Exchanged Stopped)) → all_quiet (run_of g a) ≡ true
unfolding all_quiet
quiet-run g (Ok x) = refl
quiet-run g (Err s) = refl

-- a granted one is all its events
granted-run : (g : Lending) (a : (Result Exchanged Stopped)) (l : List ℕ) → granted_as a l ≡ true → run_of g a ≡ events_of g
granted-run g (Ok x) l e = refl
granted-run g (Err s) l e = absurd (false≢true e)

module _ (w : LentWorld) where
  ran-exchange : (g : Lending) → g.clock < numbers → Ran (Exchanges g) w
  ran-exchange g clock =
      record {
        events = run;
        calm = quiet-run g came-to.answer;
        ends = ap hubs_of (exchange-run g w clock).2;
        counts = λ fs n st h. go (is_whole (Exchanges g) (hubs_of w)) refl fs n st h;
      }
    where
      came-to : Given (Result Exchanged Stopped) ExchangeLent
      came-to = lent_exchange g w.publisher w.follower

      run : List Event
      run = run_of g came-to.answer

      go : (b : Bool) → is_whole (Exchanges g) (hubs_of w) ≡ b → (fs : List Event) (n : ℕ) (st : Stage) → ((s : Stage) → n ≤ lent_wholes s fs (lent_after run w)) → pick b (suc n) n ≤ lent_wholes st (run ++ fs) w
      go true q fs n st h =
          let plain = and_left (is_none g.unasked && (is_none g.unsent && leb least_width g.mtu)) _ q in
          let granted = and_right (is_none g.unasked && (is_none g.unsent && leb least_width g.mtu)) _ q in
          let all-of-it = granted-run g came-to.answer came-to.lent.answers granted in
          subst (λ (es : List Event). suc n ≤ lent_wholes st (es ++ fs) w) (sym all-of-it)
          (counted g fs n st w plain (exchange-granted g w clock granted)
          (subst (λ (es : List Event). n ≤ lent_wholes NotBegun fs (lent_after es w)) all-of-it (h NotBegun)))
      go false q fs n st h = before run fs n st w h

  ran-beat : (s : Side) (i : ℕ) → Ran (Beats s i) w
  unfolding all_quiet lent_after lent_happen
  ran-beat s i = record { events = Beating s i ∷ []; calm = refl; ends = at s; counts = λ fs n st h. before (Beating s i ∷ []) fs n st w h }
    where
      at : (s : Side) → hubs_of (lent_calls (Beating s i) w) ≡ after_act (Beats s i) (hubs_of w)
      at Publishers = refl
      at Followers = refl

  ran-offer : (s : Side) (i : ℕ) (b : Heartbeat) → ltb b.0 numbers ≡ true → Ran (Offers s i b) w
  unfolding all_quiet lent_after lent_happen
  ran-offer s i b fit = record { events = Offering s i b ∷ []; calm = refl; ends = rw fit (at s); counts = λ fs n st h. before (Offering s i b ∷ []) fs n st w h }
    where
      at : (s : Side) → hubs_of (lent_calls (Offering s i b) w) ≡ after_act (Offers s i b) (hubs_of w)
      at Publishers = refl
      at Followers = refl

  ran : (a : Act) → fits a ≡ true → Ran a w
  ran (Exchanges g) fit = ran-exchange g (ltb-true _ _ fit)
  ran (Beats s i) fit = ran-beat s i
  ran (Offers s i b) fit = ran-offer s i b fit

-- ---- one after the other

-- the quiet run that they all are
record AllRan (acts : List Act) (w : LentWorld) : Type 0 where
  events : List Event
  calm : all_quiet events ≡ true
  ends : hubs_of (lent_after events w) ≡ after_acts acts (hubs_of w)
  counts : (st : Stage) → whole_calls acts (hubs_of w) ≤ lent_wholes st events w

runs : (acts : List Act) (w : LentWorld) → all_fit acts ≡ true → AllRan acts w
unfolding all_fit after_acts whole_calls all_quiet lent_after lent_wholes
runs [] w fit = record { events = []; calm = refl; ends = refl; counts = λ st. omega arith }
runs (a ∷ acts) w fit =
    let one = ran w a (and_left (fits a) _ fit) in
    let x = lent_after one.events w in
    let rest = runs acts x (and_right (fits a) _ fit) in
    record {
      events = one.events ++ rest.events;
      calm = quiet-append one.events rest.events one.calm rest.calm;
      ends = ap hubs_of (lent-append one.events rest.events w) ∙ rest.ends ∙ ap (after_acts acts) one.ends;
      counts =
          λ st.
          one.counts rest.events (whole_calls acts (after_act a (hubs_of w))) st
          (λ s. subst (λ (h : Hubs). whole_calls acts h ≤ lent_wholes s rest.events x) one.ends (rest.counts s));
    }

module _ (pm fm : Kind) (is : List ℕ) (ok : obeys (fresh_table is) ≡ true) where
  -- After any run the whole calls make every node's max the same in both tables.
  pub exchanges-close : (es : List Event) (acts : List Act)
      → all_fit acts ≡ true
      → let w = lent_after es (lent_start pm fm is) in let h = hubs w.publisher w.follower in holdings (table_in h.publisher) ≤ whole_calls acts h
      → SameMax (table_in (after_acts acts h).publisher) (table_in (after_acts acts h).follower)
  exchanges-close es acts fit held =
      let w = lent_after es (lent_start pm fm is) in
      let r = runs acts w fit in
      subst (λ (x : Hubs). SameMax (table_in x.publisher) (table_in x.follower)) r.ends
      ((lent-demand3 pm fm is ok).closing_count es r.events r.calm (let k = r.counts NotBegun in omega arith))

  -- So that in the end every Set record of the publisher has arrived, and the follower has no other.
  pub exchanges-arrive : (es : List Event) (acts : List Act)
      → all_fit acts ≡ true
      → let w = lent_after es (lent_start pm fm is) in let h = hubs w.publisher w.follower in holdings (table_in h.publisher) ≤ whole_calls acts h
      → (i : ℕ) (p f : Node)
      → node_of i (table_in (after_acts acts h).publisher) ≡ some p
      → node_of i (table_in (after_acts acts h).follower) ≡ some f
      → (s : KeyValue)
      → s.status ≡ Set
      → (Holds p s → Holds f s) × (Holds f s → Holds p s)
  exchanges-arrive es acts fit held i p f a b =
      let w = lent_after es (lent_start pm fm is) in
      let r = runs acts w fit in
      let sound = subst (LentSound is) (lent-append es r.events (lent_start pm fm is)) ((lent-demand3 pm fm is ok).at_every_moment (es ++ r.events)) in
      let publisher-is = ap (λ (x : Hubs). node_of i (table_in x.publisher)) r.ends in
      let follower-is = ap (λ (x : Hubs). node_of i (table_in x.follower)) r.ends in
      (sound.claims i p f (publisher-is ∙ a) (follower-is ∙ b)).same_set (exchanges-close es acts fit held i p f a b)
