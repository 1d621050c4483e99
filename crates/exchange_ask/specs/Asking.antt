-- What refuses an exchange of two lent tables. It is asked before anything is written, in the order in which the three calls would ask it.
use Rattle.std.specs.Prelude.{ℕ, Bool, List, leb, length}
use Rattle.fields.specs.Choice.{pick}
use Rattle.fields.specs.Numbers.{Bytes}
use Rattle.rules.specs.Digest.{digest_bytes, digest_of, is_edition}
use Rattle.rules.specs.Profile.{odd_number, table_formed}
use Rattle.rules.specs.Whole.{decode_whole, valid_whole}
use Rattle.rules.specs.Table.{Table}
use Rattle.rules.specs.declared.Profile.{Profile}
use Rattle.rules.specs.declared.Refusal.TheVariants.{BadEdition, BadTable, NoPlace}
use Rattle.compute.specs.Asking.{asked_of}
use Rattle.std.specs.Prelude.{Err, Ok, Result}
use Rattle.exchange_ask.specs.declared.Stopped.{Stopped}
use Rattle.rules.specs.declared.Refusal.{Refusal}
use Rattle.rules.specs.Results.{done}
use Rattle.exchange_ask.specs.declared.Step.TheVariants.{Digest, Delta, Applying}

-- by the MTU, and by what is lent: how many ties, how many bytes for the digest and for the delta, how many places for answers
pub record Rooms : Type 0 where
  pub mtu : ℕ
  pub ties : ℕ
  pub digest : ℕ
  pub delta : ℕ
  pub answers : ℕ

abbrev pub rooms : (mtu ties digest delta answers : ℕ) → Rooms
rooms mtu ties digest delta answers = record { mtu = mtu; ties = ties; digest = digest; delta = delta; answers = answers }

-- 7, 8, 15 of computing, or what is asked next
abbrev pub unless_refused : (numbers : (Result (Unit {0}) Refusal)) (next : (Result (Unit {0}) Stopped)) → (Result (Unit {0}) Stopped)
unless_refused (Ok _) next = next
unless_refused (Err r) next = (Err (record { step = Delta; why = r }))

-- of applying: 17 or 19 where a record of the publisher is not in the form of the follower's profile, then 8 where there are fewer places for answers than the
-- publisher has nodes
unfoldable pub taking_for : (profile : Profile) (formed : Bool) (answers nodes : ℕ) → (Result (Unit {0}) Stopped)
taking_for profile formed answers nodes = pick formed (pick (leb nodes answers) done (Err (record { step = Applying; why = NoPlace }))) (Err (record { step = Applying; why = (odd_number profile) }))

-- 8 where the digest does not fit, then 7, 8, 15 of computing, then of applying
unfoldable pub rooms_for : (edition : ℕ) (unasked : List ℕ) (rooms : Rooms) (profile : Profile) (formed : Bool) (publisher follower : Table) → (Result (Unit {0}) Stopped)
rooms_for edition unasked k profile formed publisher follower =
    pick (leb (length (digest_bytes edition (digest_of unasked follower))) k.digest)
    (unless_refused (asked_of k.mtu 0 k.delta k.ties (length publisher)) (taking_for profile formed k.answers (length publisher)))
    (Err (record { step = Digest; why = NoPlace }))

-- of two good tables: 20 for another edition, told of the digest, then as above
unfoldable pub ready_on : (edition : ℕ) (unasked : List ℕ) (rooms : Rooms) (profile : Profile) (formed : Bool) (publisher follower : Table) → (Result (Unit {0}) Stopped)
ready_on edition unasked k profile formed publisher follower = pick (is_edition edition) (rooms_for edition unasked k profile formed publisher follower) (Err (record { step = Digest; why = BadEdition }))

-- Whether every record of the publisher's table is in the form of the follower's profile. It is asked of the table and not of the delta, so that nothing is
-- written before. Of tables of one profile it is true, and of a free follower.
abbrev pub forms_fit : (publisher follower : Bytes) → Bool
forms_fit publisher follower = table_formed (decode_whole follower).kind.profile (decode_whole publisher).table

-- 14 first: of the follower's table, of the publisher's
unfoldable pub ready_for : (edition : ℕ) (unasked : List ℕ) (rooms : Rooms) (publisher follower : Bytes) → (Result (Unit {0}) Stopped)
ready_for edition unasked k publisher follower =
    pick (valid_whole follower)
    (pick (valid_whole publisher)
    (ready_on edition unasked k (decode_whole follower).kind.profile (forms_fit publisher follower) (decode_whole publisher).table (decode_whole follower).table)
    (Err (record { step = Delta; why = BadTable })))
    (Err (record { step = Digest; why = BadTable }))
