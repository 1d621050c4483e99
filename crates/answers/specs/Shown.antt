-- What a C caller is told of an answer: the number and the values of document 01's answer (`..Told`), each in a field of its own. A value that there is not
-- is 0. The bytes that are lacking with 9 have their field. Where a refusal has values too, they have fields apart from those of an answer that was accepted.
use Rattle.std.specs.Prelude.{ℕ, List, [], ◌∷◌, eqb, leb, get_or}
use Rattle.fields.specs.Choice.{pick}
use Rattle.rules.specs.Answers.{Told, accepted, refused}
use Rattle.rules.specs.Given.{Given, given}
use Rattle.rules.specs.Sizes.{max_nodes}
use Rattle.rules.specs.declared.Refusal.TheVariants.{NoPlace}
use Rattle.digest_read.specs.Held.{unused}
use Rattle.digest_read.specs.declared.NodeDigest.{NodeDigest as Place}
use Rattle.digest_read.specs.declared.Digest.{Digest}
use Rattle.std.specs.Prelude.{Err, Ok, Result}
use Rattle.digest_read.specs.declared.DigestRead.{DigestRead}
use Rattle.rules.specs.declared.Refusal.{Refusal}
use Rattle.answers.specs.declared.KevCount.{KevCount}
use Rattle.answers.specs.declared.KevNode.{KevNode}
use Rattle.answers.specs.declared.KevHeartbeat.{KevHeartbeat}
use Rattle.answers.specs.declared.KevFound.{KevFound}
use Rattle.answers.specs.declared.KevFoundOver.{KevFoundOver}
use Rattle.answers.specs.declared.KevListedOver.{KevListedOver}
use Rattle.answers.specs.declared.KevHeader.{KevHeader}
use Rattle.answers.specs.declared.KevRecord.{KevRecord}
use Rattle.answers.specs.declared.KevRows.{KevRows}
use Rattle.answers.specs.declared.KevDigest.{KevDigest}
use Rattle.answers.specs.declared.KevEntry.{KevEntry}
use Rattle.answers.specs.declared.KevComputed.{KevComputed}
use Rattle.answers.specs.declared.KevJudged.{KevJudged}
use Rattle.answers.specs.declared.KevDelta.{KevDelta}
use Rattle.answers.specs.declared.KevApplied.{KevApplied}
use Rattle.answers.specs.declared.KevExchanged.{KevExchanged}
use Rattle.answers.specs.declared.KevMade.{KevMade}

-- what a call gives, its answer told and shown
abbrev pub shown_as : {A B M : Type 0} (told : A → Told) (shown : Told → B) (of : Given A M) → Given B M
shown_as told shown o = given (shown (told o.answer)) o.lent

-- the i-th value
abbrev pub value_at : (i : ℕ) (values : List ℕ) → ℕ
value_at i vs = get_or vs i 0

-- the values where the call was accepted, and where it was refused
abbrev pub accepted_values : (told : Told) → List ℕ
accepted_values t = pick (eqb t.number 0) t.values []

abbrev pub refused_values : (told : Told) → List ℕ
refused_values t = pick (eqb t.number 0) [] t.values

-- 1 where there are values
abbrev pub some_of : (values : List ℕ) → ℕ
some_of [] = 0
some_of (v ∷ vs) = 1

-- ---- a number alone, a number and one value

abbrev pub number_shown : (told : Told) → ℕ
number_shown t = t.number

abbrev pub count_shown : (told : Told) → KevCount
count_shown t = record { number = t.number; count = value_at 0 t.values }

abbrev pub node_shown : (told : Told) → KevNode
node_shown t = record { number = t.number; node = value_at 0 t.values }

-- ---- readings

abbrev pub heartbeat_shown : (told : Told) → KevHeartbeat
heartbeat_shown t = record { number = t.number; found = some_of t.values; heartbeat = value_at 0 t.values }

abbrev pub found_shown : (told : Told) → KevFound
found_shown t = record { number = t.number; found = some_of t.values; start = value_at 0 t.values; len = value_at 1 t.values }

-- in which of two slices; where it is refused, of which
abbrev pub found_over_shown : (told : Told) → KevFoundOver
found_over_shown t =
    record {
      number = t.number;
      found = some_of (accepted_values t);
      over = value_at 0 (accepted_values t);
      start = value_at 1 (accepted_values t);
      len = value_at 2 (accepted_values t);
      which = value_at 0 (refused_values t);
    }

abbrev pub listed_over_shown : (told : Told) → KevListedOver
listed_over_shown t = record { number = t.number; count = value_at 0 (accepted_values t); which = value_at 0 (refused_values t) }

abbrev pub header_shown : (told : Told) → KevHeader
header_shown t =
    record { number = t.number; heartbeat = value_at 0 t.values; max = value_at 1 t.values; last_gc = value_at 2 t.values }

abbrev pub record_shown : (told : Told) → KevRecord
record_shown t =
    record {
      number = t.number;
      found = some_of t.values;
      key_at = value_at 0 t.values;
      value_at = value_at 1 t.values;
      keylen = value_at 2 t.values;
      valuelen = value_at 3 t.values;
      version = value_at 4 t.values;
      status = value_at 5 t.values;
      start = value_at 6 t.values;
    }

abbrev pub no_record : (number : ℕ) → KevRecord
no_record n = record { number = n; found = 0; key_at = 0; value_at = 0; keylen = 0; valuelen = 0; version = 0; status = 0; start = 0 }

abbrev pub rows_shown : (told : Told) → KevRows
rows_shown t = record { number = t.number; at = value_at 0 t.values; count = value_at 1 t.values }

-- ---- digests

abbrev pub digest_shown : (told : Told) → KevDigest
digest_shown t = record { number = t.number; count = value_at 0 (accepted_values t); rest = value_at 1 (accepted_values t); need = t.need }

-- the i-th node that a digest tells of: 8 past the last
abbrev pub place_told : (place : Place) → Told
place_told p = accepted (p.number ∷ p.heartbeat.0 ∷ p.last_gc ∷ p.max ∷ [])

abbrev pub entry_at : (i : ℕ) (read : (Result DigestRead Refusal)) (places : List Place) → Told
entry_at i (Ok d) ps = pick (leb max_nodes i) (refused NoPlace []) (pick (leb d.count i) (refused NoPlace []) (place_told (get_or ps i unused)))
entry_at i (Err why) ps = refused why []

unfoldable pub entry_told : (i : ℕ) (digest : Digest) → Told
entry_told i d = entry_at i d.read d.entries

abbrev pub entry_shown : (told : Told) → KevEntry
entry_shown t =
    record {
      number = t.number;
      node = value_at 0 t.values;
      heartbeat = value_at 1 t.values;
      last_gc = value_at 2 t.values;
      max = value_at 3 t.values;
      need = t.need;
    }

-- ---- deltas

abbrev pub computed_shown : (told : Told) → KevComputed
computed_shown t = record { number = t.number; ops = value_at 0 t.values; bytes = value_at 1 t.values; need = t.need }

-- what is said of a plan: with 23 it has a line and a fault
abbrev pub judged_shown : (told : Told) → KevJudged
judged_shown t = record { number = t.number; line = value_at 0 t.values; why = value_at 1 t.values; need = t.need }

abbrev pub delta_shown : (told : Told) → KevDelta
delta_shown t =
    record { number = t.number; ops = value_at 0 (accepted_values t); nodes = value_at 1 (accepted_values t); at = value_at 0 (refused_values t); need = t.need }

abbrev pub applied_shown : (told : Told) → KevApplied
applied_shown t =
    record { number = t.number; nodes = value_at 0 (accepted_values t); at = value_at 0 (refused_values t); need = t.need }

-- a delta made from its listing: 16 has a line, the numbers of a refused delta have a place
abbrev pub made_shown : (told : Told) → KevMade
made_shown t =
    record {
      number = t.number;
      bytes = value_at 0 (accepted_values t);
      line = value_at 0 (refused_values t);
      at = value_at 1 (refused_values t);
      need = t.need;
    }

-- ---- an exchange

abbrev pub exchanged_shown : (told : Told) → KevExchanged
exchanged_shown t =
    record {
      number = t.number;
      ops = value_at 0 (accepted_values t);
      bytes = value_at 1 (accepted_values t);
      nodes = value_at 2 (accepted_values t);
      step = value_at 0 (refused_values t);
    }
