-- What stands for each case of an answer: document 01's number of a refusal and the bytes that are lacking with 9, the number of a node's
-- answer in a lent list, the number of a table's mode, and for each answer of a call its number (0 where it was accepted) and its values.
use Rattle.std.specs.Prelude.{ℕ, List, [], ◌∷◌, eqb}
use Rattle.fields.specs.Choice.{pick}
use Rattle.rules.specs.declared.Refusal.{Refusal}
use Rattle.rules.specs.declared.Refusal.TheVariants.{TooLong, NoNode, NoKey, NinthNode, NodeFull, Exhausted, BadMtu, NoPlace, Cut, BadTag, OutOfOrder, NodeTwice, TooMany, BadTable, BadTies, BadForm, SmallerTotal, OtherParty, BadEdition, BadPeer, NobodyPresent, BadPlan}
use Rattle.rules.specs.declared.NodeAnswer.{NodeAnswer}
use Rattle.rules.specs.declared.NodeAnswer.TheVariants as node
use Rattle.rules.specs.declared.Mode.{Mode}
use Rattle.rules.specs.declared.Profile.{Profile}
use Rattle.rules.specs.declared.Party.{Party}
use Rattle.rules.specs.declared.Party.TheVariants.{Metering, Building, Nobody}
use Rattle.rules.specs.declared.Profile.TheVariants as profile
use Rattle.rules.specs.declared.Mode.TheVariants as mode
use Rattle.std.specs.Prelude.{Bool, Err, None, Ok, Option, Result, Some, false, true}
use Rattle.rules.specs.declared.DeltaFault.{DeltaFault}
use Rattle.rules.specs.declared.DeltaRead.{DeltaRead}
use Rattle.rules.specs.declared.Heartbeat.{Heartbeat}
use Rattle.rules.specs.declared.Sent.{Sent}

-- the number of the refusal: document 01's from 1 to 15, document 02's behind them
abbrev pub number_of : Refusal → ℕ
number_of TooLong = 1
number_of NoNode = 2
number_of NoKey = 3
number_of NinthNode = 4
number_of NodeFull = 5
number_of Exhausted = 6
number_of BadMtu = 7
number_of NoPlace = 8
number_of (Cut n) = 9
number_of BadTag = 10
number_of OutOfOrder = 11
number_of NodeTwice = 12
number_of TooMany = 13
number_of BadTable = 14
number_of BadTies = 15
number_of BadForm = 17
number_of SmallerTotal = 18
number_of OtherParty = 19
number_of BadEdition = 20
number_of BadPeer = 21
number_of NobodyPresent = 22
number_of BadPlan = 23

-- how many bytes the field lacks in which the bytes end; 0 for every number but 9
abbrev pub need_of : Refusal → ℕ
need_of (Cut n) = n
need_of TooLong = 0
need_of NoNode = 0
need_of NoKey = 0
need_of NinthNode = 0
need_of NodeFull = 0
need_of Exhausted = 0
need_of BadMtu = 0
need_of NoPlace = 0
need_of BadTag = 0
need_of OutOfOrder = 0
need_of NodeTwice = 0
need_of TooMany = 0
need_of BadTable = 0
need_of BadTies = 0
need_of BadForm = 0
need_of SmallerTotal = 0
need_of OtherParty = 0
need_of BadEdition = 0
need_of BadPeer = 0
need_of NobodyPresent = 0
need_of BadPlan = 0

-- a node's answer in a lent list
abbrev pub code_of : NodeAnswer → ℕ
code_of node.Reject = 0
code_of node.Apply = 1
code_of node.ApplyAfterReset = 2
code_of node.Room = 3
code_of node.Unknown = 4
code_of node.Fenced = 5

-- the number of a table's mode
abbrev pub mode_of : Mode → ℕ
mode_of mode.Plain = 0
mode_of mode.Fenced = 1
mode_of mode.Guarded = 2

-- the number of its profile
abbrev pub profile_of : Profile → ℕ
profile_of profile.Free = 0
profile_of profile.Meter = 1
profile_of profile.Shared = 2

-- the party that a number names
abbrev pub party_of : ℕ → Party
party_of n = pick (eqb n 1) Metering (pick (eqb n 2) Building Nobody)

-- the number and the values of an answer, and with 9 the bytes that are lacking
pub record Told : Type 0 where
  pub number : ℕ
  pub values : List ℕ
  pub need : ℕ

abbrev pub accepted : (vs : List ℕ) → Told
accepted vs = record { number = 0; values = vs; need = 0 }

abbrev pub refused : (why : Refusal) (vs : List ℕ) → Told
refused r vs = record { number = number_of r; values = vs; need = need_of r }

unfoldable pub answer_told : (Result (Unit {0}) Refusal) → Told
answer_told (Ok _) = accepted []
answer_told (Err r) = refused r []

-- yes is 1, no is 0
unfoldable pub offered_told : (Result Bool Refusal) → Told
offered_told (Ok true) = accepted (1 ∷ [])
offered_told (Ok false) = accepted (0 ∷ [])
offered_told (Err r) = refused r []

-- the heartbeat, or nothing
unfoldable pub remembered_told : (Result (Option Heartbeat) Refusal) → Told
remembered_told (Ok (Some h)) = accepted (h.0 ∷ [])
remembered_told (Ok None) = accepted []
remembered_told (Err r) = refused r []

unfoldable pub listed_told : (Result ℕ Refusal) → Told
listed_told (Ok n) = accepted (n ∷ [])
listed_told (Err r) = refused r []

unfoldable pub written_told : (Result ℕ Refusal) → Told
written_told (Ok n) = accepted (n ∷ [])
written_told (Err r) = refused r []

unfoldable pub computed_told : (Result Sent Refusal) → Told
computed_told (Ok s) = accepted (s.ops ∷ s.bytes ∷ [])
computed_told (Err r) = refused r []

unfoldable pub read_told : (Result DeltaRead DeltaFault) → Told
read_told (Ok d) = accepted (d.ops ∷ d.nodes ∷ [])
read_told (Err f) = refused f.why (f.at ∷ [])

unfoldable pub applied_told : (Result ℕ DeltaFault) → Told
applied_told (Ok n) = accepted (n ∷ [])
applied_told (Err f) = refused f.why (f.at ∷ [])
