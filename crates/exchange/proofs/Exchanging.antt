-- An exchange, case by case: refused it leaves everything, accepted it is the three calls. Assumes nothing.
use Prim.Native.Nat.{ℕ, ◌≤◌}
use mathlib.Core.Path.{◌≡◌, ◌∙◌, ap, refl, subst, sym}
use mathlib.Core.Bool.{true}
use mathlib.Core.List.{List}
use native.Mathlib.Omega.{arith}
use lib.ListN.{length, take}
use Rattle.fields.specs.Parts.{part}
use Rattle.rules.specs.Given.{Given, Gives}
use Rattle.rules.specs.Compute.{compute}
use Rattle.rules.specs.Digest.{write_digest}
use Rattle.rules.specs.Whole.{decode_whole, valid_whole}
use Rattle.rules.specs.Lent.{TableAndList, both, lent_apply, lent_compute, lent_digest}
use Rattle.rules.specs.declared.Refusal.{Refusal}
use Rattle.std.specs.Prelude.{Err, Ok, Result}
use Rattle.std.specs.Result.{is_err}
use Rattle.std.proofs.lemmas.Bool.{false≢true}
use Rattle.exchange.specs.declared.Exchanged.{Exchanged}
use Rattle.exchange_ask.specs.declared.Stopped.{Stopped}
use Rattle.rules.specs.declared.DeltaFault.{DeltaFault}
use Rattle.rules.specs.declared.Sent.{Sent}
use Rattle.rules.specs.Results.{done}
use Rattle.compute.proofs.Calling.{good-table}
use Rattle.digest_write.proofs.Outcomes as Outcomes
use Rattle.exchange.specs.Exchanging.{AnswerLent, Lending, after_applying, after_asking, all_four, all_three, exchanged_as, lent_answer, lent_exchange, rooms_of, three_calls, with_digest}
use Rattle.exchange_ask.specs.Asking.{ready_for}
use Rattle.exchange_ask.specs.declared.Step.{Step}
use Rattle.exchange_ask.specs.declared.Step.TheVariants.{Delta, Digest}
use Rattle.exchange.proofs.Datagrams.{delta-within, digest-within}
use Rattle.exchange.proofs.Refusing.{is-ready, ready-done}

-- ---- the second step and the third

module _ (edition : ℕ) (unsent ties : List ℕ) (mtu clock : ℕ) (told delta answers publisher follower : List ℕ) where
  abbrev made : Given (Result Sent Refusal) (List ℕ)
  made = lent_compute edition unsent ties mtu 0 told delta publisher

  abbrev outcome : Given (Result Exchanged Stopped) AnswerLent
  outcome = lent_answer edition unsent ties mtu clock told delta answers publisher follower

  -- of any bytes
  pub fits-within : (s : Sent) (d : List ℕ) → made.answer ≡ Ok s → d ≡ made.lent → s.bytes ≤ length d
  fits-within s d e q = let h = delta-within edition unsent ties mtu told delta publisher s.ops s.bytes e in omega (arith, ap length q)

  pub none-made : (r : Refusal) (d : List ℕ) → made.answer ≡ Err r → d ≡ made.lent → Gives outcome (Err (record { step = Delta; why = r })) (all_three follower d answers)
  unfolding lent_answer
  none-made r d e q = rw e (refl, ap (λ (k : List ℕ). all_three follower k answers) q)

  pub then-applied : (s : Sent) (d : List ℕ) → made.answer ≡ Ok s → d ≡ made.lent → (b : Result ℕ DeltaFault) (f m : List ℕ)
      → Gives (lent_apply (take s.bytes d) clock answers follower) b (both f m) → Gives outcome (exchanged_as s.ops s.bytes b) (all_three f d m)
  unfolding lent_answer part
  then-applied s d e q b f m x =
      rw e (
        ap (exchanged_as s.ops s.bytes) x.0
            ∙ ap (λ (k : List ℕ). exchanged_as s.ops s.bytes (lent_apply (take s.bytes k) clock answers follower).answer) q,
        ap (λ (o : TableAndList). all_three o.table d o.list) x.1
            ∙ ap (λ (k : List ℕ). (after_applying s.ops s.bytes k (lent_apply (take s.bytes k) clock answers follower)).lent) q,
      )

  -- of a good table it is the rule on it
  module _ (v : valid_whole publisher ≡ true) (a : Result Sent Refusal) (d : List ℕ)
      (w : Gives (compute edition unsent ties mtu 0 told (decode_whole publisher).table delta) a d) where
    pub made-good : Gives made a d
    made-good =
        let same = good-table edition unsent ties mtu 0 told publisher delta v in
        (w.0 ∙ ap (λ (o : Given (Result Sent Refusal) (List ℕ)). o.answer) same, w.1 ∙ ap (λ (o : Given (Result Sent Refusal) (List ℕ)). o.lent) same)

    pub made-within : (s : Sent) → a ≡ Ok s → s.bytes ≤ length d
    made-within s e = fits-within s d (sym made-good.0 ∙ e) made-good.1

    pub no-delta : (r : Refusal) → a ≡ Err r → Gives outcome (Err (record { step = Delta; why = r })) (all_three follower d answers)
    no-delta r e = none-made r d (sym made-good.0 ∙ e) made-good.1

    pub delta-taken : (s : Sent) → a ≡ Ok s → (b : Result ℕ DeltaFault) (f m : List ℕ) → Gives (lent_apply (take s.bytes d) clock answers follower) b (both f m)
        → Gives outcome (exchanged_as s.ops s.bytes b) (all_three f d m)
    delta-taken s e = then-applied s d (sym made-good.0 ∙ e) made-good.1

-- ---- the whole

module _ (g : Lending) (publisher follower : List ℕ) where
  abbrev told : Given (Result ℕ Refusal) (List ℕ)
  told = lent_digest g.edition g.unasked 0 g.digest follower

  -- the publisher's answer to a digest
  abbrev answer-to : List ℕ → Given (Result Exchanged Stopped) AnswerLent
  answer-to b = lent_answer g.edition g.unsent g.ties g.mtu g.clock b g.delta g.answers publisher follower

  -- of any bytes
  pub written-within : (n : ℕ) (d : List ℕ) → told.answer ≡ Ok n → d ≡ told.lent → n ≤ length d
  written-within n d e q = let h = digest-within g.edition g.unasked g.digest follower n e in omega (arith, ap length q)

  pub none-written : (r : Refusal) (d : List ℕ) → told.answer ≡ Err r → d ≡ told.lent
      → Gives (three_calls g publisher follower) (Err (record { step = Digest; why = r })) (all_four follower d g.delta g.answers)
  unfolding three_calls
  none-written r d e q = rw e (refl, ap (λ (k : List ℕ). all_four follower k g.delta g.answers) q)

  pub then-answered : (n : ℕ) (d : List ℕ) → told.answer ≡ Ok n → d ≡ told.lent → (r : Result Exchanged Stopped) (f e m : List ℕ)
      → Gives (answer-to (take n d)) r (all_three f e m) → Gives (three_calls g publisher follower) r (all_four f d e m)
  unfolding three_calls part
  then-answered n d e q r f x m b =
      let w : Gives (answer-to (take n told.lent)) r (all_three f x m) = subst (λ (k : List ℕ). Gives (answer-to (take n k)) r (all_three f x m)) q b in
      rw e (
        w.0,
        ap (λ (o : AnswerLent). all_four o.follower d o.delta o.answers) w.1 ∙ ap (λ (k : List ℕ). (with_digest k (answer-to (take n told.lent))).lent) q,
      )

  -- of a good table it is the rule on it
  module _ (v : valid_whole follower ≡ true) (a : Result ℕ Refusal) (d : List ℕ)
      (w : Gives (write_digest g.edition g.unasked 0 (decode_whole follower).table g.digest) a d) where
    pub told-good : Gives told a d
    told-good =
        let same = Outcomes.good-table g.edition g.unasked 0 g.digest follower v in
        (w.0 ∙ ap (λ (o : Given (Result ℕ Refusal) (List ℕ)). o.answer) same, w.1 ∙ ap (λ (o : Given (Result ℕ Refusal) (List ℕ)). o.lent) same)

    pub told-within : (n : ℕ) → a ≡ Ok n → n ≤ length d
    told-within n e = written-within n d (sym told-good.0 ∙ e) told-good.1

    pub no-digest : (r : Refusal) → a ≡ Err r → Gives (three_calls g publisher follower) (Err (record { step = Digest; why = r })) (all_four follower d g.delta g.answers)
    no-digest r e = none-written r d (sym told-good.0 ∙ e) told-good.1

    pub answered : (n : ℕ) → a ≡ Ok n → (r : Result Exchanged Stopped) (f e m : List ℕ) → Gives (answer-to (take n d)) r (all_three f e m)
        → Gives (three_calls g publisher follower) r (all_four f d e m)
    answered n e = then-answered n d (sym told-good.0 ∙ e) told-good.1

  -- ---- the exchange

  pub not-ready : (s : Stopped) → ready_for g.edition g.unasked (rooms_of g) publisher follower ≡ Err s
      → Gives (lent_exchange g publisher follower) (Err s) (all_four follower g.digest g.delta g.answers)
  unfolding lent_exchange
  not-ready s e = rw e (refl, refl)

  pub goes-ahead : ready_for g.edition g.unasked (rooms_of g) publisher follower ≡ done → lent_exchange g publisher follower ≡ three_calls g publisher follower
  unfolding lent_exchange
  goes-ahead e = rw e refl

  -- Refused, it leaves the follower's table, both datagrams and the answers as they were.
  pub refused-leaves : (s : Step) (r : Refusal) → (lent_exchange g publisher follower).answer ≡ (Err (record { step = s; why = r }))
      → (lent_exchange g publisher follower).lent ≡ all_four follower g.digest g.delta g.answers
  unfolding lent_exchange
  refused-leaves s r = go (ready_for g.edition g.unasked (rooms_of g) publisher follower) refl
    where
      go : (a : (Result (Unit {0}) Stopped)) → ready_for g.edition g.unasked (rooms_of g) publisher follower ≡ a → (after_asking g publisher follower a).answer ≡ (Err (record { step = s; why = r }))
          → (after_asking g publisher follower a).lent ≡ all_four follower g.digest g.delta g.answers
      go (Ok _) e f = absurd (false≢true (ap is_err (sym (ready-done g publisher follower (is-ready g publisher follower e)) ∙ f)))
      go (Err s) e f = refl

  -- Accepted, it is the three calls.
  pub accepted-three : (ops bytes nodes : ℕ) → (lent_exchange g publisher follower).answer ≡ (Ok (record { ops = ops; bytes = bytes; nodes = nodes }))
      → lent_exchange g publisher follower ≡ three_calls g publisher follower
  unfolding lent_exchange
  accepted-three ops bytes nodes = go (ready_for g.edition g.unasked (rooms_of g) publisher follower)
    where
      go : (a : (Result (Unit {0}) Stopped)) → (after_asking g publisher follower a).answer ≡ (Ok (record { ops = ops; bytes = bytes; nodes = nodes })) → after_asking g publisher follower a ≡ three_calls g publisher follower
      go (Ok _) f = refl
      go (Err s) f = absurd (false≢true (sym (ap is_err f)))
