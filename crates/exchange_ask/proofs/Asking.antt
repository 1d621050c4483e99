-- What is asked before an exchange, case by case. Assumes nothing.
use Prim.Native.Nat.{ℕ, ◌≤◌, ◌<◌}
use mathlib.Core.Path.{◌≡◌, ◌∙◌, ap, refl, sym}
use mathlib.Core.Bool.{Bool, false, true}
use mathlib.Core.List.{List}
use lib.ListN.{length}
use borrow.Author.Tests.{le-leb, lt-leb}
use Rattle.rules.specs.Digest.{digest_bytes, digest_of, is_edition}
use Rattle.rules.specs.Profile.{odd_number}
use Rattle.rules.specs.Whole.{decode_whole, valid_whole}
use Rattle.rules.specs.Table.{Table}
use Rattle.rules.specs.declared.Profile.{Profile}
use Rattle.rules.specs.declared.Refusal.{Refusal}
use Rattle.rules.specs.declared.Refusal.TheVariants.{BadEdition, BadTable, NoPlace}
use Rattle.compute.specs.Asking.{asked_of}
use Rattle.std.specs.Prelude.{Err, Result}
use Rattle.exchange_ask.specs.declared.Stopped.{Stopped}
use Rattle.rules.specs.Results.{done}
use Rattle.exchange_ask.specs.Asking.{Rooms, forms_fit, ready_for, ready_on, rooms_for, taking_for}
use Rattle.exchange_ask.specs.declared.Step.TheVariants.{Applying, Delta, Digest}

module _ (edition : ℕ) (unasked : List ℕ) (k : Rooms) (profile : Profile) (formed : Bool) (publisher follower : Table) (size : ℕ) (is : size ≡ length (digest_bytes edition (digest_of unasked follower))) where
  pub no-digest-room : k.digest < size → (Err (record { step = Digest; why = NoPlace })) ≡ rooms_for edition unasked k profile formed publisher follower
  unfolding rooms_for
  no-digest-room h = let d = lt-leb size k.digest h in rw (sym is, d) refl

  module _ (fits : size ≤ k.digest) (nodes : ℕ) (are : nodes ≡ length publisher) where
    pub no-delta : (r : Refusal) → asked_of k.mtu 0 k.delta k.ties nodes ≡ Err r → (Err (record { step = Delta; why = r })) ≡ rooms_for edition unasked k profile formed publisher follower
    unfolding rooms_for
    no-delta r e = let d = le-leb size k.digest fits in rw (sym is, d, sym are, e) refl

    module _ (good : asked_of k.mtu 0 k.delta k.ties nodes ≡ done) where
      pub asked-all : (r : Result (Unit {0}) Stopped) → r ≡ taking_for profile formed k.answers nodes → r ≡ rooms_for edition unasked k profile formed publisher follower
      unfolding rooms_for
      asked-all r e = e ∙ (let d = le-leb size k.digest fits in rw (sym is, d, sym are, good) refl)

-- ---- 17 or 19, 8 of applying

module _ (profile : Profile) (answers nodes : ℕ) where
  pub taken : (f : Bool) → f ≡ true → nodes ≤ answers → done ≡ taking_for profile f answers nodes
  unfolding taking_for
  taken f e h = let a = le-leb nodes answers h in rw (e, a) refl

  pub no-answer-room : (f : Bool) → f ≡ true → answers < nodes → (Err (record { step = Applying; why = NoPlace })) ≡ taking_for profile f answers nodes
  unfolding taking_for
  no-answer-room f e h = let a = lt-leb nodes answers h in rw (e, a) refl

  pub out-of-form : (r : Refusal) → r ≡ odd_number profile → (f : Bool) → f ≡ false → (Err (record { step = Applying; why = r })) ≡ taking_for profile f answers nodes
  unfolding taking_for
  out-of-form r o f e = ap (λ (r : Refusal). Err (record { step = Applying; why = r })) o ∙ rw e refl

-- ---- 20

module _ (edition : ℕ) (unasked : List ℕ) (k : Rooms) (profile : Profile) (formed : Bool) (publisher follower : Table) where
  pub no-edition : is_edition edition ≡ false → (Err (record { step = Digest; why = BadEdition })) ≡ ready_on edition unasked k profile formed publisher follower
  unfolding ready_on
  no-edition e = rw e refl

  pub in-edition : is_edition edition ≡ true → rooms_for edition unasked k profile formed publisher follower ≡ ready_on edition unasked k profile formed publisher follower
  unfolding ready_on
  in-edition e = rw e refl

-- ---- 14 first

module _ (edition : ℕ) (unasked : List ℕ) (k : Rooms) (publisher follower : List ℕ) where
  pub follower-bad : valid_whole follower ≡ false → (Err (record { step = Digest; why = BadTable })) ≡ ready_for edition unasked k publisher follower
  unfolding ready_for
  follower-bad f = rw f refl

  module _ (f : valid_whole follower ≡ true) where
    pub publisher-bad : valid_whole publisher ≡ false → (Err (record { step = Delta; why = BadTable })) ≡ ready_for edition unasked k publisher follower
    unfolding ready_for
    publisher-bad p = rw (f, p) refl

    pub both-good : valid_whole publisher ≡ true → ready_on edition unasked k (decode_whole follower).kind.profile (forms_fit publisher follower) (decode_whole publisher).table (decode_whole follower).table ≡ ready_for edition unasked k publisher follower
    unfolding ready_for
    both-good p = rw (f, p) refl
