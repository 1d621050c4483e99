-- What is told of an answer in numbers (specs/Answers) tells the answer: no two refusals have one number and lack the same, no two answers of a node have
-- one code, and no two answers of a call the same number and values and the same bytes lacking. So a caller that sees numbers alone, or a script, loses nothing. Assumes nothing.
use Prim.Native.Nat.{ℕ, ◌<◌}
use mathlib.Core.Path.{◌≡◌, refl, ap, ap₂, sym, ◌∙◌}
use native.Mathlib.Omega.{arith}
use lib.Dec.{eqb}
use lib.ListN.{length, get_or}
use Rattle.fields.specs.Choice.{pick}
use Rattle.rules.specs.Node.{beats}
use Rattle.rules.specs.Answers.{Told, number_of, need_of, code_of, answer_told, offered_told, remembered_told, listed_told, written_told, computed_told, read_told, applied_told}
use Rattle.rules.specs.declared.Refusal.{Refusal}
use Rattle.rules.specs.declared.Refusal.TheVariants.{TooLong, NoNode, NoKey, NinthNode, NodeFull, Exhausted, BadMtu, NoPlace, Cut, BadTag, OutOfOrder, NodeTwice, TooMany, BadTable, BadTies, BadForm, SmallerTotal, OtherParty, BadEdition, BadPeer, NobodyPresent, BadPlan}
use Rattle.rules.specs.declared.NodeAnswer.{NodeAnswer}
use Rattle.rules.specs.declared.NodeAnswer.TheVariants as node
use Rattle.std.specs.Prelude.{Bool, Err, None, Ok, Option, Result, Some, false, true}
use Rattle.rules.specs.declared.DeltaFault.{DeltaFault}
use Rattle.rules.specs.declared.DeltaRead.{DeltaRead}
use Rattle.rules.specs.declared.Sent.{Sent}
use Rattle.rules.specs.declared.Heartbeat.{Heartbeat}

-- ---- refusals and nodes' answers

-- the refusal of a number, with what is lacking
abbrev refusal_of : ℕ → ℕ → Refusal
refusal_of n k =
    pick (eqb n 1) TooLong
    (pick (eqb n 2) NoNode
    (pick (eqb n 3) NoKey
    (pick (eqb n 4) NinthNode
    (pick (eqb n 5) NodeFull
    (pick (eqb n 6) Exhausted
    (pick (eqb n 7) BadMtu
    (pick (eqb n 8) NoPlace
    (pick (eqb n 9) (Cut k)
    (pick (eqb n 10) BadTag
    (pick (eqb n 11) OutOfOrder
    (pick (eqb n 12) NodeTwice
    (pick (eqb n 13) TooMany
    (pick (eqb n 14) BadTable
    (pick (eqb n 15) BadTies
    (pick (eqb n 17) BadForm
    (pick (eqb n 18) SmallerTotal
    (pick (eqb n 19) OtherParty
    (pick (eqb n 20) BadEdition
    (pick (eqb n 21) BadPeer
    (pick (eqb n 22) NobodyPresent BadPlan))))))))))))))))))))

numbered : (r : Refusal) → refusal_of (number_of r) (need_of r) ≡ r
numbered TooLong = refl
numbered NoNode = refl
numbered NoKey = refl
numbered NinthNode = refl
numbered NodeFull = refl
numbered Exhausted = refl
numbered BadMtu = refl
numbered NoPlace = refl
numbered (Cut n) = refl
numbered BadTag = refl
numbered OutOfOrder = refl
numbered NodeTwice = refl
numbered TooMany = refl
numbered BadTable = refl
numbered BadTies = refl
numbered BadForm = refl
numbered SmallerTotal = refl
numbered OtherParty = refl
numbered BadEdition = refl
numbered BadPeer = refl
numbered NobodyPresent = refl
numbered BadPlan = refl

-- 0 is no refusal's: it stands for an accepted call
positive : (r : Refusal) → 0 < number_of r
positive TooLong = omega arith
positive NoNode = omega arith
positive NoKey = omega arith
positive NinthNode = omega arith
positive NodeFull = omega arith
positive Exhausted = omega arith
positive BadMtu = omega arith
positive NoPlace = omega arith
positive (Cut n) = omega arith
positive BadTag = omega arith
positive OutOfOrder = omega arith
positive NodeTwice = omega arith
positive TooMany = omega arith
positive BadTable = omega arith
positive BadTies = omega arith
positive BadForm = omega arith
positive SmallerTotal = omega arith
positive OtherParty = omega arith
positive BadEdition = omega arith
positive BadPeer = omega arith
positive NobodyPresent = omega arith
positive BadPlan = omega arith

pub same-refusal : (a b : Refusal) → number_of a ≡ number_of b → need_of a ≡ need_of b → a ≡ b
same-refusal a b e n = sym (numbered a) ∙ ap₂ refusal_of e n ∙ numbered b

-- the answer of a code
abbrev answer_of : ℕ → NodeAnswer
answer_of n = pick (eqb n 0) node.Reject (pick (eqb n 1) node.Apply (pick (eqb n 2) node.ApplyAfterReset (pick (eqb n 3) node.Room (pick (eqb n 4) node.Unknown node.Fenced))))

coded : (a : NodeAnswer) → answer_of (code_of a) ≡ a
coded node.Reject = refl
coded node.Apply = refl
coded node.ApplyAfterReset = refl
coded node.Room = refl
coded node.Unknown = refl
coded node.Fenced = refl

pub same_code : (a b : NodeAnswer) → code_of a ≡ code_of b → a ≡ b
same_code a b e = sym (coded a) ∙ ap answer_of e ∙ coded b

-- ---- answers of calls

module _ {a b : Told} (e : a ≡ b) where
  pub number_is : a.number ≡ b.number
  number_is = ap (λ (t : Told). t.number) e

  pub need-is : a.need ≡ b.need
  need-is = ap (λ (t : Told). t.need) e

  pub values-long : length a.values ≡ length b.values
  values-long = ap (λ (t : Told). length t.values) e

  pub value-is : (i : ℕ) → get_or a.values i 0 ≡ get_or b.values i 0
  value-is i = ap (λ (t : Told). get_or t.values i 0) e

-- an accepted call is told otherwise than a refused one
pub not-refused : {X : Type 0} (r : Refusal) → 0 ≡ number_of r → X
not-refused r e = absurd (omega (arith, positive r))

pub same_answer : (a b : (Result (Unit {0}) Refusal)) → answer_told a ≡ answer_told b → a ≡ b
unfolding answer_told
same_answer (Ok _) (Ok _) e = refl
same_answer (Ok _) (Err r) e = not-refused r (number_is e)
same_answer (Err r) (Ok _) e = not-refused r (sym (number_is e))
same_answer (Err r) (Err s) e = ap Err (same-refusal r s (number_is e) (need-is e))

pub same-offered : (a b : (Result Bool Refusal)) → offered_told a ≡ offered_told b → a ≡ b
unfolding offered_told
same-offered (Ok true) (Ok true) e = refl
same-offered (Ok true) (Ok false) e = absurd (omega (arith, value-is e 0))
same-offered (Ok false) (Ok true) e = absurd (omega (arith, value-is e 0))
same-offered (Ok false) (Ok false) e = refl
same-offered (Ok true) (Err r) e = not-refused r (number_is e)
same-offered (Ok false) (Err r) e = not-refused r (number_is e)
same-offered (Err r) (Ok true) e = not-refused r (sym (number_is e))
same-offered (Err r) (Ok false) e = not-refused r (sym (number_is e))
same-offered (Err r) (Err s) e = ap Err (same-refusal r s (number_is e) (need-is e))

-- a heartbeat is its number
beat-is : (h k : Heartbeat) → h.0 ≡ k.0 → h ≡ k
beat-is h k e = ap beats e

pub same-remembered : (a b : (Result (Option Heartbeat) Refusal)) → remembered_told a ≡ remembered_told b → a ≡ b
unfolding remembered_told
same-remembered (Ok (Some h)) (Ok (Some k)) e = ap (λ a. Ok (Some a)) (beat-is h k (value-is e 0))
same-remembered (Ok (Some h)) (Ok None) e = absurd (omega (arith, values-long e))
same-remembered (Ok (Some h)) (Err r) e = not-refused r (number_is e)
same-remembered (Ok None) (Ok (Some h)) e = absurd (omega (arith, values-long e))
same-remembered (Ok None) (Ok None) e = refl
same-remembered (Ok None) (Err r) e = not-refused r (number_is e)
same-remembered (Err r) (Ok (Some h)) e = not-refused r (sym (number_is e))
same-remembered (Err r) (Ok None) e = not-refused r (sym (number_is e))
same-remembered (Err r) (Err s) e = ap Err (same-refusal r s (number_is e) (need-is e))

pub same-listed : (a b : (Result ℕ Refusal)) → listed_told a ≡ listed_told b → a ≡ b
unfolding listed_told
same-listed (Ok n) (Ok m) e = ap Ok (value-is e 0)
same-listed (Ok n) (Err r) e = not-refused r (number_is e)
same-listed (Err r) (Ok n) e = not-refused r (sym (number_is e))
same-listed (Err r) (Err s) e = ap Err (same-refusal r s (number_is e) (need-is e))

pub same-written : (a b : (Result ℕ Refusal)) → written_told a ≡ written_told b → a ≡ b
unfolding written_told
same-written (Ok n) (Ok m) e = ap Ok (value-is e 0)
same-written (Ok n) (Err r) e = not-refused r (number_is e)
same-written (Err r) (Ok n) e = not-refused r (sym (number_is e))
same-written (Err r) (Err s) e = ap Err (same-refusal r s (number_is e) (need-is e))

pub same-computed : (a b : (Result Sent Refusal)) → computed_told a ≡ computed_told b → a ≡ b
unfolding computed_told
same-computed (Ok s) (Ok ss) e = ap₂ (λ a b. Ok (record { ops = a; bytes = b })) (value-is e 0) (value-is e 1)
same-computed (Ok s) (Err r) e = not-refused r (number_is e)
same-computed (Err r) (Ok s) e = not-refused r (sym (number_is e))
same-computed (Err r) (Err s) e = ap Err (same-refusal r s (number_is e) (need-is e))

pub same_read : (a b : (Result DeltaRead DeltaFault)) → read_told a ≡ read_told b → a ≡ b
unfolding read_told
same_read (Ok d) (Ok dd) e = ap₂ (λ a b. Ok (record { ops = a; nodes = b })) (value-is e 0) (value-is e 1)
same_read (Ok d) (Err f) e = not-refused f.why (number_is e)
same_read (Err f) (Ok d) e = not-refused f.why (sym (number_is e))
same_read (Err f) (Err ff) e = ap₂ (λ a b. Err (record { why = a; at = b })) (same-refusal f.why ff.why (number_is e) (need-is e)) (value-is e 0)

pub same-applied : (a b : (Result ℕ DeltaFault)) → applied_told a ≡ applied_told b → a ≡ b
unfolding applied_told
same-applied (Ok n) (Ok m) e = ap Ok (value-is e 0)
same-applied (Ok n) (Err f) e = not-refused f.why (number_is e)
same-applied (Err f) (Ok n) e = not-refused f.why (sym (number_is e))
same-applied (Err f) (Err ff) e = ap₂ (λ a b. Err (record { why = a; at = b })) (same-refusal f.why ff.why (number_is e) (need-is e)) (value-is e 0)
