-- One whole exchange of two lent tables, bytes to bytes: the follower's digest, the publisher's delta for it, the delta applied. Whatever could refuse it is
-- asked before anything is written. An exchange that goes ahead is what the three calls promise (Lent of `rules`), one after the other.
use Rattle.std.specs.Prelude.{ℕ, List, [], ◌∷◌, length}
use Rattle.fields.specs.Numbers.{Bytes}
use Rattle.fields.specs.Parts.{part}
use Rattle.rules.specs.Answers.{Told, accepted, refused}
use Rattle.rules.specs.Given.{Given, given}
use Rattle.rules.specs.Lent.{TableAndList, lent_digest, lent_compute, lent_apply}
use Rattle.std.specs.Prelude.{Err, Ok, Result}
use Rattle.exchange.specs.declared.Exchanged.{Exchanged}
use Rattle.exchange_ask.specs.declared.Stopped.{Stopped}
use Rattle.rules.specs.declared.DeltaFault.{DeltaFault}
use Rattle.rules.specs.declared.Refusal.{Refusal}
use Rattle.rules.specs.declared.Sent.{Sent}
use Rattle.exchange_ask.specs.Asking.{Rooms, rooms, ready_for}
use Rattle.exchange_ask.specs.declared.Step.{Step}
use Rattle.exchange_ask.specs.declared.Step.TheVariants.{Digest, Delta, Applying}

-- ---- what is lent

-- What an exchange is given beside the tables: the digest's edition, one for both ends; nodes that the follower leaves out of its digest, nodes that the
-- publisher leaves out of its delta, ties, MTU, the follower's clock; the datagrams for the digest and the delta, each used from its first byte on; the
-- list for the answers.
pub record Lending : Type 0 where
  pub edition : ℕ
  pub unasked : List ℕ
  pub unsent : List ℕ
  pub ties : List ℕ
  pub mtu : ℕ
  pub clock : ℕ
  pub digest : Bytes
  pub delta : Bytes
  pub answers : Bytes

abbrev pub lending : (edition : ℕ) (unasked unsent ties : List ℕ) (mtu clock : ℕ) (digest delta answers : Bytes) → Lending
lending edition unasked unsent ties mtu clock digest delta answers =
    record { edition = edition; unasked = unasked; unsent = unsent; ties = ties; mtu = mtu; clock = clock; digest = digest; delta = delta; answers = answers }

-- what it may change: the follower's table, the datagrams of the digest and of the delta, the list of answers
pub record ExchangeLent : Type 0 where
  pub follower : Bytes
  pub digest : Bytes
  pub delta : Bytes
  pub answers : Bytes

abbrev pub all_four : (follower digest delta answers : Bytes) → ExchangeLent
all_four follower digest delta answers = record { follower = follower; digest = digest; delta = delta; answers = answers }

-- ---- what is asked of it

abbrev pub rooms_of : (lending : Lending) → Rooms
rooms_of g = rooms g.mtu (length g.ties) (length g.digest) (length g.delta) (length g.answers)

-- ---- the second call and the third

-- what is lent to them: the follower's table, the delta's datagram, the list of answers
pub record AnswerLent : Type 0 where
  pub follower : Bytes
  pub delta : Bytes
  pub answers : Bytes

abbrev pub all_three : (follower delta answers : Bytes) → AnswerLent
all_three follower delta answers = record { follower = follower; delta = delta; answers = answers }

-- what applying answers to a delta of so many operations and bytes
abbrev pub exchanged_as : (ops bytes : ℕ) (applied : (Result ℕ DeltaFault)) → (Result Exchanged Stopped)
exchanged_as ops bytes (Ok n) = (Ok (record { ops = ops; bytes = bytes; nodes = n }))
exchanged_as ops bytes (Err f) = (Err (record { step = Applying; why = f.why }))

abbrev pub after_applying : (ops bytes : ℕ) (delta : Bytes) (applied : Given (Result ℕ DeltaFault) TableAndList) → Given (Result Exchanged Stopped) AnswerLent
after_applying ops bytes delta o = given (exchanged_as ops bytes o.answer) (all_three o.lent.table delta o.lent.list)

-- the delta is applied, where there is one
abbrev pub after_computing : (clock : ℕ) (answers follower delta : Bytes) (computed : (Result Sent Refusal)) → Given (Result Exchanged Stopped) AnswerLent
after_computing clock answers follower delta (Ok s) = after_applying s.ops s.bytes delta (lent_apply (part 0 s.bytes delta) clock answers follower)
after_computing clock answers follower delta (Err r) = given (Err (record { step = Delta; why = r })) (all_three follower delta answers)

-- the publisher's delta for a digest, applied
unfoldable pub lent_answer : (edition : ℕ) (unsent ties : List ℕ) (mtu clock : ℕ) (told delta answers publisher follower : Bytes) → Given (Result Exchanged Stopped) AnswerLent
lent_answer edition unsent ties mtu clock told delta answers publisher follower =
    after_computing clock answers follower
    (lent_compute edition unsent ties mtu 0 told delta publisher).lent
    (lent_compute edition unsent ties mtu 0 told delta publisher).answer

-- ---- the three calls

abbrev pub with_digest : (digest : Bytes) (answered : Given (Result Exchanged Stopped) AnswerLent) → Given (Result Exchanged Stopped) ExchangeLent
with_digest digest o = given o.answer (all_four o.lent.follower digest o.lent.delta o.lent.answers)

-- the publisher answers the digest, where there is one
abbrev pub after_digesting : (lending : Lending) (publisher follower digest : Bytes) (written : (Result ℕ Refusal)) → Given (Result Exchanged Stopped) ExchangeLent
after_digesting g publisher follower digest (Ok n) =
    with_digest digest (lent_answer g.edition g.unsent g.ties g.mtu g.clock (part 0 n digest) g.delta g.answers publisher follower)
after_digesting g publisher follower digest (Err r) = given (Err (record { step = Digest; why = r })) (all_four follower digest g.delta g.answers)

-- one after the other; the first that is refused would end it
unfoldable pub three_calls : (lending : Lending) (publisher follower : Bytes) → Given (Result Exchanged Stopped) ExchangeLent
three_calls g publisher follower =
    after_digesting g publisher follower
    (lent_digest g.edition g.unasked 0 g.digest follower).lent
    (lent_digest g.edition g.unasked 0 g.digest follower).answer

-- ---- the whole

-- a refused exchange leaves everything as it was
abbrev pub after_asking : (lending : Lending) (publisher follower : Bytes) (ready : (Result (Unit {0}) Stopped)) → Given (Result Exchanged Stopped) ExchangeLent
after_asking g publisher follower (Ok _) = three_calls g publisher follower
after_asking g publisher follower (Err ss) = given (Err (record { step = ss.step; why = ss.why })) (all_four follower g.digest g.delta g.answers)

unfoldable pub lent_exchange : (lending : Lending) (publisher follower : Bytes) → Given (Result Exchanged Stopped) ExchangeLent
lent_exchange g publisher follower = after_asking g publisher follower (ready_for g.edition g.unasked (rooms_of g) publisher follower)

-- ---- what is told of it

abbrev pub step_code : Step → ℕ
step_code Digest = 1
step_code Delta = 2
step_code Applying = 3

-- The number and the values of an answer. A refusal tells the step that it belongs to.
unfoldable pub exchanged_told : (answer : (Result Exchanged Stopped)) → Told
exchanged_told (Ok x) = accepted (x.ops ∷ x.bytes ∷ x.nodes ∷ [])
exchanged_told (Err ss) = refused ss.why (step_code ss.step ∷ [])
