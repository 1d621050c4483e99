-- An exchange, which looks at the profile of the follower: first whether it takes the publisher's records, then where it applies. What it does where the follower
-- is not shared and it does not answer 17 it does of the freed tables. Assumes nothing.
use Prim.Native.Nat.{ℕ}
use mathlib.Core.Path.{◌≡◌, refl, ap, ap₂, sym, ◌∙◌}
use mathlib.Core.Bool.{Bool, true, false}
use mathlib.Core.List.{List}
use lib.Dec.{leb}
use lib.ListN.{length}
use Rattle.fields.specs.Choice.{pick}
use Rattle.fields.specs.Parts.{part}
use Rattle.rules.specs.Answers.{applied_told}
use Rattle.rules.specs.Compute.{compute}
use Rattle.rules.specs.Digest.{digest_bytes, digest_of, is_edition, write_digest}
use Rattle.rules.specs.Given.{Given, given}
use Rattle.rules.specs.Lent.{lent_apply, lent_compute, lent_digest}
use Rattle.rules.specs.Profile.{odd_number, table_formed}
use Rattle.rules.specs.Table.{Table}
use Rattle.rules.specs.Whole.{Whole, decode_whole, valid_whole}
use Rattle.std.specs.Prelude.{Err, Ok, Result}
use Rattle.exchange.specs.declared.Exchanged.{Exchanged}
use Rattle.exchange_ask.specs.declared.Stopped.{Stopped}
use Rattle.rules.specs.declared.DeltaFault.{DeltaFault}
use Rattle.rules.specs.declared.Refusal.{Refusal}
use Rattle.rules.specs.declared.Sent.{Sent}
use Rattle.rules.specs.declared.Profile.{Profile}
use Rattle.rules.specs.declared.Profile.TheVariants.{Free}
use Rattle.rules.specs.declared.Refusal.TheVariants.{BadEdition, BadForm, BadTable, NoPlace}
use Rattle.rules.proofs.Formed.{free-formed, table-formed}
use Rattle.compute.specs.Asking.{asked_of}
use Rattle.exchange.specs.Exchanging.{AnswerLent, ExchangeLent, Lending, after_applying, after_asking, after_computing, after_digesting, all_four, all_three, exchanged_as, exchanged_told, lent_answer, lent_exchange, rooms_of, three_calls, with_digest}
use Rattle.exchange_ask.specs.Asking.{Rooms, forms_fit, ready_for, ready_on, rooms_for, taking_for, unless_refused}
use Rattle.exchange_ask.specs.declared.Step.TheVariants.{Applying, Delta, Digest}
use Rattle.profile_plain.specs.Plain.{freed, unshared}
use Rattle.profile_plain.proofs.Applying.{apply-freed}
use Rattle.profile_plain.proofs.Freed.{as-free, freed-back, freed-valid, from-freed}

abbrev Not17 : (Result Exchanged Stopped) → Type 0
Not17 a = (exchanged_told a).number ≡ 17 → ⊥

-- ---- what is asked beforehand

-- 17, or as where every record is in form
abbrev AsksSo : (formed all-formed : (Result (Unit {0}) Stopped)) → Type 0
AsksSo x y = (x ≡ (Err (record { step = Applying; why = BadForm })) → ⊥) → y ≡ x

asks-on : (edition : ℕ) (unasked : List ℕ) (k : Rooms) (pr : Profile) → odd_number pr ≡ BadForm → (formed : Bool) (p f : Table)
    → AsksSo (ready_on edition unasked k pr formed p f) (ready_on edition unasked k Free true p f)
unfolding ready_on rooms_for taking_for
asks-on edition unasked k pr odd formed p f = known (is_edition edition)
  where
    taking : (b : Bool) → AsksSo (taking_for pr b k.answers (length p)) (taking_for Free true k.answers (length p))
    taking true h = refl
    taking false h = absurd (h (ap (λ (r : Refusal). Err (record { step = Applying; why = r })) odd))

    numbers : (a : (Result (Unit {0}) Refusal)) → AsksSo (unless_refused a (taking_for pr formed k.answers (length p))) (unless_refused a (taking_for Free true k.answers (length p)))
    numbers (Ok _) = taking formed
    numbers (Err r) = λ h. refl

    a : (Result (Unit {0}) Refusal)
    a = asked_of k.mtu 0 k.delta k.ties (length p)

    fits : (b : Bool) → AsksSo (pick b (unless_refused a (taking_for pr formed k.answers (length p))) (Err (record { step = Digest; why = NoPlace }))) (pick b (unless_refused a (taking_for Free true k.answers (length p))) (Err (record { step = Digest; why = NoPlace })))
    fits true = numbers a
    fits false = λ h. refl

    known : (b : Bool) → AsksSo (pick b (rooms_for edition unasked k pr formed p f) (Err (record { step = Digest; why = BadEdition }))) (pick b (rooms_for edition unasked k Free true p f) (Err (record { step = Digest; why = BadEdition })))
    known true = fits (leb (length (digest_bytes edition (digest_of unasked f))) k.digest)
    known false = λ h. refl

module _ (publisher follower : List ℕ) (pv : valid_whole publisher ≡ true) (fv : valid_whole follower ≡ true) (fo : unshared (decode_whole follower).kind.profile ≡ true) where
  asks-freed : (edition : ℕ) (unasked : List ℕ) (k : Rooms) → (ready_for edition unasked k publisher follower ≡ (Err (record { step = Applying; why = BadForm })) → ⊥)
      → ready_for edition unasked k (freed publisher) (freed follower) ≡ ready_for edition unasked k publisher follower
  unfolding ready_for
  asks-freed edition unasked k h =
      ap₂ (λ (a b : Bool). pick a (pick b (on (decode_whole (freed publisher)) (decode_whole (freed follower))) (Err (record { step = Delta; why = BadTable }))) (Err (record { step = Digest; why = BadTable }))) (freed-valid follower fv) (freed-valid publisher pv)
      ∙ ap₂ on (freed-back publisher pv) (freed-back follower fv)
      ∙ ap (λ (b : Bool). ready_on edition unasked k Free b p f) (table-formed Free p (free-formed p))
      ∙ asks-on edition unasked k (decode_whole follower).kind.profile (sym (as-free (decode_whole follower).kind.profile fo odd_number refl)) (forms_fit publisher follower) p f (λ e. h (here ∙ e))
      ∙ sym here
    where
      p : Table
      p = (decode_whole publisher).table

      f : Table
      f = (decode_whole follower).table

      on : Whole → Whole → (Result (Unit {0}) Stopped)
      on u w = ready_on edition unasked k w.kind.profile (table_formed w.kind.profile u.table) u.table w.table

      here : ready_for edition unasked k publisher follower ≡ ready_on edition unasked k (decode_whole follower).kind.profile (forms_fit publisher follower) p f
      here = ap₂ (λ (a b : Bool). pick a (pick b (ready_on edition unasked k (decode_whole follower).kind.profile (forms_fit publisher follower) p f) (Err (record { step = Delta; why = BadTable }))) (Err (record { step = Digest; why = BadTable }))) fv pv

  -- ---- the three calls

  abbrev freed_three : Given (Result Exchanged Stopped) AnswerLent → Given (Result Exchanged Stopped) AnswerLent
  freed_three o = given o.answer (all_three (freed o.lent.follower) o.lent.delta o.lent.answers)

  abbrev freed_four : Given (Result Exchanged Stopped) ExchangeLent → Given (Result Exchanged Stopped) ExchangeLent
  freed_four o = given o.answer (all_four (freed o.lent.follower) o.lent.digest o.lent.delta o.lent.answers)

  said : (ops bytes : ℕ) (a : (Result ℕ DeltaFault)) → (exchanged_told (exchanged_as ops bytes a)).number ≡ (applied_told a).number
  unfolding exchanged_told applied_told
  said ops bytes (Ok n) = refl
  said ops bytes (Err f) = refl

  computed-freed : (clock : ℕ) (answers delta : List ℕ) (c : (Result Sent Refusal)) → Not17 (after_computing clock answers follower delta c).answer
      → after_computing clock answers (freed follower) delta c ≡ freed_three (after_computing clock answers follower delta c)
  computed-freed clock answers delta (Ok s) h =
      ap (after_applying s.ops s.bytes delta) (apply-freed follower fv fo (part 0 s.bytes delta) clock answers (λ e. h (said s.ops s.bytes (lent_apply (part 0 s.bytes delta) clock answers follower).answer ∙ e)))
  computed-freed clock answers delta (Err r) h = refl

  module _ (g : Lending) where
    answer-freed : (told : List ℕ) → Not17 (lent_answer g.edition g.unsent g.ties g.mtu g.clock told g.delta g.answers publisher follower).answer
        → lent_answer g.edition g.unsent g.ties g.mtu g.clock told g.delta g.answers (freed publisher) (freed follower)
        ≡ freed_three (lent_answer g.edition g.unsent g.ties g.mtu g.clock told g.delta g.answers publisher follower)
    unfolding lent_answer
    answer-freed told h =
        ap (λ (o : Given (Result Sent Refusal) (List ℕ)). after_computing g.clock g.answers (freed follower) o.lent o.answer)
        (from-freed publisher pv (given (Err BadTable) g.delta) (λ t. compute g.edition g.unsent g.ties g.mtu 0 told t g.delta))
        ∙ computed-freed g.clock g.answers c.lent c.answer h
      where
        c : Given (Result Sent Refusal) (List ℕ)
        c = lent_compute g.edition g.unsent g.ties g.mtu 0 told g.delta publisher

    digested-freed : (digest : List ℕ) (w : (Result ℕ Refusal)) → Not17 (after_digesting g publisher follower digest w).answer
        → after_digesting g (freed publisher) (freed follower) digest w ≡ freed_four (after_digesting g publisher follower digest w)
    digested-freed digest (Ok n) h = ap (with_digest digest) (answer-freed (part 0 n digest) h)
    digested-freed digest (Err r) h = refl

    three-freed : Not17 (three_calls g publisher follower).answer → three_calls g (freed publisher) (freed follower) ≡ freed_four (three_calls g publisher follower)
    unfolding three_calls
    three-freed h =
        ap (λ (o : Given (Result ℕ Refusal) (List ℕ)). after_digesting g (freed publisher) (freed follower) o.lent o.answer)
        (from-freed follower fv (given (Err BadTable) g.digest) (λ t. write_digest g.edition g.unasked 0 t g.digest))
        ∙ digested-freed d.lent d.answer h
      where
        d : Given (Result ℕ Refusal) (List ℕ)
        d = lent_digest g.edition g.unasked 0 g.digest follower

    pub exchange-freed : Not17 (lent_exchange g publisher follower).answer → lent_exchange g (freed publisher) (freed follower) ≡ freed_four (lent_exchange g publisher follower)
    unfolding lent_exchange exchanged_told
    exchange-freed h =
        ap (after_asking g (freed publisher) (freed follower))
        (asks-freed g.edition g.unasked (rooms_of g) (λ e. h (ap (λ (x : (Result (Unit {0}) Stopped)). (exchanged_told (after_asking g publisher follower x).answer).number) e)))
        ∙ go (ready_for g.edition g.unasked (rooms_of g) publisher follower) h
      where
        go : (x : (Result (Unit {0}) Stopped)) → Not17 (after_asking g publisher follower x).answer → after_asking g (freed publisher) (freed follower) x ≡ freed_four (after_asking g publisher follower x)
        go (Ok _) h = three-freed h
        go (Err s) h = refl
