-- An exchange that is ready is not refused: the digest fits, the publisher reads it and writes a delta, the follower reads that and has a place for each answer.
-- Assumes nothing.
use Prim.Native.Nat.{ℕ, ◌-◌, ◌≤◌}
use mathlib.Core.Path.{◌≡◌, ◌∙◌, ap, refl, sym}
use mathlib.Core.Bool.{Bool, false, true}
use mathlib.Core.List.{List, []}
use native.Mathlib.Omega.{arith}
use lib.Dec.{leb}
use lib.ListN.{length}
use borrow.Author.Tests.{le-leb, leb-true}
use Rattle.fields.specs.Choice.{pick}
use Rattle.fields.specs.Parts.{part, put}
use Rattle.fields.proofs.Parts.{part-put}
use Rattle.rules.specs.Given.{Given, given}
use Rattle.rules.specs.Digest.{Entries, NodeDigest, digest_bytes, digest_of, is_edition, read_digest, write_digest}
use Rattle.rules.specs.Delta.{Good, Op, delta_bytes, parts_of, read_delta}
use Rattle.rules.specs.Compute.{delta_for, written}
use Rattle.rules.specs.Apply.{apply, ways_in}
use Rattle.rules.specs.Profile.{odd_number}
use Rattle.rules.specs.Whole.{area_of, decode_whole, valid_whole}
use Rattle.rules.specs.Lent.{from_table, lent_apply, lent_apply_as, lent_compute, lent_digest}
use Rattle.rules.specs.declared.Refusal.TheVariants.{BadEdition, BadTable, NoPlace}
use Rattle.std.specs.Prelude.{Err, Ok, Result}
use Rattle.std.specs.Result.{is_err}
use Rattle.std.proofs.lemmas.Bool.{false≢true}
use Rattle.rules.specs.declared.Refusal.{Refusal}
use Rattle.rules.specs.declared.Sent.{Sent}
use Rattle.rules.specs.Results.{done}
use Rattle.rules.proofs.Accepted.{read-computed, within-mtu}
use Rattle.rules.proofs.Digests.{read-written}
use Rattle.table.proofs.Tables.{valid-obeys}
use Rattle.table.proofs.Wholes.{area-valid}
use Rattle.profiles.proofs.Reading.{delta-formed}
use Rattle.profiles.proofs.Sent.{sent-in-form}
use Rattle.compute.specs.Asking.{asked_of}
use Rattle.compute.proofs.Calling.{by-delta, good-table, granted, in-edition}
use Rattle.exchange.specs.Exchanging.{Lending, after_computing, after_digesting, exchanged_as, lent_answer, rooms_of, three_calls}
use Rattle.exchange_ask.specs.Asking.{forms_fit, ready_for, ready_on, rooms_for, taking_for, unless_refused}
use Rattle.exchange_ask.specs.declared.Step.TheVariants.{Applying, Delta, Digest}
use Rattle.exchange.proofs.FewNodes.{few-parts}

-- ---- what was asked

pub record IsReady (g : Lending) (publisher follower : List ℕ) : Type 0 where
  pub follower_valid : valid_whole follower ≡ true
  pub publisher_valid : valid_whole publisher ≡ true
  pub known : is_edition g.edition ≡ true
  pub digest_fits : length (digest_bytes g.edition (digest_of g.unasked (decode_whole follower).table)) ≤ length g.digest
  pub formed : forms_fit publisher follower ≡ true
  pub numbers_good : asked_of g.mtu 0 (length g.delta) (length g.ties) (length (decode_whole publisher).table) ≡ done
  pub places : length (decode_whole publisher).table ≤ length g.answers

pub is-ready : (g : Lending) (publisher follower : List ℕ) → ready_for g.edition g.unasked (rooms_of g) publisher follower ≡ done → IsReady g publisher follower
unfolding ready_for ready_on rooms_for taking_for
is-ready g publisher follower =
    go (valid_whole follower) refl (valid_whole publisher) refl (is_edition g.edition) refl (leb (length b) (length g.digest)) refl
    (asked_of g.mtu 0 (length g.delta) (length g.ties) (length (decode_whole publisher).table)) refl
    (forms_fit publisher follower) refl (leb (length (decode_whole publisher).table) (length g.answers)) refl
  where
    b : List ℕ
    b = digest_bytes g.edition (digest_of g.unasked (decode_whole follower).table)

    go : (u : Bool) → valid_whole follower ≡ u
        → (v : Bool) → valid_whole publisher ≡ v
        → (k : Bool) → is_edition g.edition ≡ k
        → (d : Bool) → leb (length b) (length g.digest) ≡ d
        → (n : (Result (Unit {0}) Refusal)) → asked_of g.mtu 0 (length g.delta) (length g.ties) (length (decode_whole publisher).table) ≡ n
        → (x : Bool) → forms_fit publisher follower ≡ x
        → (p : Bool) → leb (length (decode_whole publisher).table) (length g.answers) ≡ p
        → pick u (pick v (pick k (pick d (unless_refused n (pick x (pick p done (Err (record { step = Applying; why = NoPlace }))) (Err (record { step = Applying; why = (odd_number (decode_whole follower).kind.profile) })))) (Err (record { step = Digest; why = NoPlace }))) (Err (record { step = Digest; why = BadEdition }))) (Err (record { step = Delta; why = BadTable }))) (Err (record { step = Digest; why = BadTable })) ≡ done
        → IsReady g publisher follower
    go true u true v true k true d (Ok _) n true x true p e =
        record { follower_valid = u; publisher_valid = v; known = k; digest_fits = leb-true _ _ d; formed = x; numbers_good = n; places = leb-true _ _ p }
    go true u true v true k true d (Ok _) n true x false p e = absurd (false≢true (sym (ap is_err e)))
    go true u true v true k true d (Ok _) n false x p q e = absurd (false≢true (sym (ap is_err e)))
    go true u true v true k true d (Err r) n x y p q e = absurd (false≢true (sym (ap is_err e)))
    go true u true v true k false d n m x y p q e = absurd (false≢true (sym (ap is_err e)))
    go true u true v false k d f n m x y p q e = absurd (false≢true (sym (ap is_err e)))
    go true u false v k l d f n m x y p q e = absurd (false≢true (sym (ap is_err e)))
    go false u v w k l d f n m x y p q e = absurd (false≢true (sym (ap is_err e)))

-- ---- the three calls

module _ (g : Lending) (publisher follower : List ℕ) (r : IsReady g publisher follower) where
  abbrev pub ds : List NodeDigest
  ds = digest_of g.unasked (decode_whole follower).table

  -- the digest's bytes, as they stand in their datagram
  abbrev pub bytes : List ℕ
  bytes = digest_bytes g.edition ds

  abbrev pub told : List ℕ
  told = put 0 bytes g.digest

  abbrev pub sent : List Op
  sent = delta_for g.unsent g.ties g.mtu ds (decode_whole publisher).table

  pub digest-told : lent_digest g.edition g.unasked 0 g.digest follower ≡ given (Ok (length bytes)) told
  unfolding from_table write_digest
  digest-told =
      let h = r.digest_fits in
      let a = le-leb 0 (length g.digest) (omega arith) in
      let b = le-leb (length bytes) (length g.digest - 0) (omega arith) in
      rw (r.follower_valid, r.known, a, b) refl

  digest-read : read_digest g.edition (part 0 (length bytes) told) ≡ Entries ds []
  digest-read =
      let h = r.digest_fits in
      ap (read_digest g.edition) (part-put 0 bytes g.digest (omega arith))
      ∙ read-written g.edition r.known g.unasked (decode_whole follower).table (valid-obeys (area_of follower) (area-valid follower r.follower_valid))

  pub delta-made : lent_compute g.edition g.unsent g.ties g.mtu 0 (part 0 (length bytes) told) g.delta publisher ≡ written sent 0 g.delta
  delta-made =
      sym
      (by-delta g.unsent g.ties g.mtu 0 (read_digest g.edition (part 0 (length bytes) told)) (decode_whole publisher).table g.delta ds [] r.numbers_good digest-read
      ∙ in-edition g.edition g.unsent g.ties g.mtu 0 (part 0 (length bytes) told) (decode_whole publisher).table g.delta r.known
      ∙ good-table g.edition g.unsent g.ties g.mtu 0 (part 0 (length bytes) told) publisher g.delta r.publisher_valid)

  pub delta-read : read_delta (part 0 (length (delta_bytes sent)) (put 0 (delta_bytes sent) g.delta)) ≡ Good sent
  delta-read =
      let ok = valid-obeys (area_of publisher) (area-valid publisher r.publisher_valid) in
      let n = granted g.mtu 0 (length g.delta) (length g.ties) (length (decode_whole publisher).table) r.numbers_good in
      let f = n.free in
      let w = within-mtu g.unsent g.ties ds (decode_whole publisher).table ok g.mtu in
      ap read_delta (part-put 0 (delta_bytes sent) g.delta (omega arith)) ∙ read-computed g.unsent g.ties ds (decode_whole publisher).table ok g.mtu n.most

  delta-taken : (lent_apply (part 0 (length (delta_bytes sent)) (put 0 (delta_bytes sent) g.delta)) g.clock g.answers follower).answer ≡ Ok (length (parts_of sent))
  unfolding lent_apply_as apply
  delta-taken =
      let f = few-parts g.unsent g.ties g.mtu ds (decode_whole publisher).table in
      let p = r.places in
      let b = le-leb (length (parts_of sent)) (length g.answers) (omega arith) in
      let d = part 0 (length (delta_bytes sent)) (put 0 (delta_bytes sent) g.delta) in
      let q : (ways_in (decode_whole follower).kind).reads d ≡ Good sent =
      delta-formed (decode_whole follower).kind.profile d sent (sent-in-form (decode_whole follower).kind.profile g.unsent g.ties ds (decode_whole publisher).table r.formed g.mtu) delta-read in
      rw (r.follower_valid, q, b) refl

  -- Nothing is refused.
  pub ready-done : (three_calls g publisher follower).answer ≡ (Ok (record { ops = (length sent); bytes = (length (delta_bytes sent)); nodes = (length (parts_of sent)) }))
  unfolding three_calls lent_answer
  ready-done =
      ap (λ (o : Given (Result ℕ Refusal) (List ℕ)). (after_digesting g publisher follower o.lent o.answer).answer) digest-told
      ∙ ap (λ (o : Given (Result Sent Refusal) (List ℕ)). (after_computing g.clock g.answers follower o.lent o.answer).answer) delta-made
      ∙ ap (exchanged_as (length sent) (length (delta_bytes sent))) delta-taken
