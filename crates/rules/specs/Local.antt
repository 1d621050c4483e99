-- The calls on a table that a hub makes by itself: nodes come and go, records are written and deleted, heartbeats, reading, removal.
-- Each gives its answer and the table afterwards, in document 01's order of refusals. That the lent table obeys the rules (14) is asked
-- before any of them, in Lent.
use Rattle.std.specs.Prelude.{ℕ, ◌+◌, Bool, true, false, List, length, leb, ltb, eqb}
use Rattle.std.proofs.Math.Option.{Option, none, some}
use Rattle.fields.specs.Numbers.{Bytes}
use Rattle.fields.specs.Choice.{pick}
use Rattle.fields.specs.Parts.{put}
use Rattle.rules.specs.Sizes.{max_nodes, max_key, top}
use Rattle.rules.specs.Given.{Given, given}
use Rattle.rules.specs.Node.{Node, Call, Setting, SettingTtl, Decision, Refuse, Leave, Give, decide, act, find, shown, hits_from, due, offer_of, beats, with_heartbeat}
use Rattle.rules.specs.Table.{Table, node_of, set_node, add_node, drop_node, remove_all, numbers_of, among}
use Rattle.rules.specs.Delta.{status_byte}
use Rattle.rules.specs.Party.{sees, seen}
use Rattle.rules.specs.Profile.{guard_in}
use Rattle.rules.specs.declared.Status.TheVariants.{Set, Ttl}
use Rattle.rules.specs.declared.Heartbeat.{Heartbeat}
use Rattle.rules.specs.declared.Profile.{Profile}
use Rattle.rules.specs.declared.Party.{Party}
use Rattle.rules.specs.declared.Refusal.{Refusal}
use Rattle.rules.specs.declared.Refusal.TheVariants.{TooLong, NoNode, NinthNode, Exhausted, NoPlace, BadTag, OtherParty}
use Rattle.std.specs.Prelude.{Err, Ok, Result}
use Rattle.rules.specs.Results.{done}

-- an answer, and the table after the call
pub record Outcome (A : Type 0) : Type 0 where
  pub answer : A
  pub table : Table

abbrev pub gives : {A : Type 0} (answer : A) (table : Table) → Outcome A
gives a t = record { answer = a; table = t }

-- ---- nodes

-- a node held already changes nothing, else 4
unfoldable pub add : (number : ℕ) (table : Table) → Outcome (Result (Unit {0}) Refusal)
add i t =
    pick (among i (numbers_of t)) (gives done t)
    (pick (ltb (length t) max_nodes) (gives done (add_node i t)) (gives (Err NinthNode) t))

unfoldable pub remove_node : (number : ℕ) (table : Table) → Outcome (Result (Unit {0}) Refusal)
remove_node i t = pick (among i (numbers_of t)) (gives done (drop_node i t)) (gives (Err NoNode) t)

-- ---- records

abbrev pub answer_of : Decision → (Result (Unit {0}) Refusal)
answer_of (Refuse r) = Err r
answer_of Leave = done
answer_of (Give c) = done

-- a local call at a key of the node: 2, then what the node rules say
abbrev pub call_on : (call : Call) (number : ℕ) (key : Bytes) (held : Option Node) (table : Table) → Outcome (Result (Unit {0}) Refusal)
call_on c i k none t = gives (Err NoNode) t
call_on c i k (some n) t = gives (answer_of (decide c k n)) (set_node i (act k (decide c k n) n) t)

-- set, set with TTL, delete, delete after TTL
unfoldable pub call : (call : Call) (number : ℕ) (key : Bytes) (table : Table) → Outcome (Result (Unit {0}) Refusal)
call c i k t = call_on c i k (node_of i t) t

-- The one write (ticket 6), by the number of the wanted status: a set or a set with TTL, and 10 for any other number, before all that the node says. Under
-- Set the time is not looked at.
unfoldable pub write : (wanted : ℕ) (value : Bytes) (now number : ℕ) (key : Bytes) (table : Table) → Outcome (Result (Unit {0}) Refusal)
write wanted v now i k t =
    pick (eqb wanted (status_byte Set)) (call (Setting v) i k t)
    (pick (eqb wanted (status_byte Ttl)) (call (SettingTtl v now) i k t) (gives (Err BadTag) t))

-- In a profile, by a party: what the profile refuses (behind 2 and 1) leaves the table, and what it lets through is document 01's call.
abbrev pub unless_guarded : (refused : Option Refusal) (outcome : Outcome (Result (Unit {0}) Refusal)) (table : Table) → Outcome (Result (Unit {0}) Refusal)
unless_guarded none o t = o
unless_guarded (some r) o t = gives (Err r) t

unfoldable pub call_as : (profile : Profile) (party : Party) (call : Call) (number : ℕ) (key : Bytes) (table : Table) → Outcome (Result (Unit {0}) Refusal)
call_as p q c i k t = unless_guarded (guard_in p q c k (node_of i t)) (call c i k t) t

unfoldable pub write_as : (profile : Profile) (party : Party) (wanted : ℕ) (value : Bytes) (now number : ℕ) (key : Bytes) (table : Table) → Outcome (Result (Unit {0}) Refusal)
write_as p q wanted v now i k t =
    pick (eqb wanted (status_byte Set)) (call_as p q (Setting v) i k t)
    (pick (eqb wanted (status_byte Ttl)) (call_as p q (SettingTtl v now) i k t) (gives (Err BadTag) t))

-- removal over all nodes by the clock
unfoldable pub gc : (now grace : ℕ) (table : Table) → Outcome (Result (Unit {0}) Refusal)
gc now grace t = gives done (remove_all (λ i. due now grace) t)

-- ---- heartbeats

abbrev pub yes_no : Bool → (Result Bool Refusal)
yes_no true = (Ok true)
yes_no false = (Ok false)

abbrev pub offer_on : (number : ℕ) (heartbeat : Heartbeat) (held : Option Node) (table : Table) → Outcome (Result Bool Refusal)
offer_on i h none t = gives (Err NoNode) t
offer_on i h (some n) t = gives (yes_no (offer_of n.heartbeat h).news) (set_node i (with_heartbeat (offer_of n.heartbeat h).heartbeat n) t)

unfoldable pub offer : (number : ℕ) (heartbeat : Heartbeat) (table : Table) → Outcome (Result Bool Refusal)
offer i h t = offer_on i h (node_of i t) t

-- a local beat raises it by one: 2, 6
abbrev pub beat_on : (number : ℕ) (held : Option Node) (table : Table) → Outcome (Result (Unit {0}) Refusal)
beat_on i none t = gives (Err NoNode) t
beat_on i (some n) t =
    pick (ltb n.heartbeat.0 top) (gives done (set_node i (with_heartbeat (beats (n.heartbeat.0 + 1)) n) t)) (gives (Err Exhausted) t)

unfoldable pub local_beat : (number : ℕ) (table : Table) → Outcome (Result (Unit {0}) Refusal)
local_beat i t = beat_on i (node_of i t) t

-- ---- reading: the table stays

-- what a lookup finds: the value, nothing (no such key, or hidden), or a refusal
pub data Found : Type 0 where
  Value : List ℕ → Found
  Nothing : Found
  NotFound : Refusal → Found

abbrev pub found_of : Option (List ℕ) → Found
found_of none = Nothing
found_of (some v) = Value v

abbrev pub lookup_on : (key : Bytes) (held : Option Node) → Found
lookup_on k none = NotFound NoNode
lookup_on k (some n) = pick (leb (length k) max_key) (found_of (shown (find k n.recs))) (NotFound TooLong)

-- 2, 1
unfoldable pub lookup : (number : ℕ) (key : Bytes) (table : Table) → Found
lookup i k t = lookup_on k (node_of i t)

-- the places of the hits go to the front of the lent list, where it has room for them (8)
abbrev pub list_into : (found list : Bytes) → Given (Result ℕ Refusal) Bytes
list_into found l = pick (leb (length found) (length l)) (given (Ok (length found)) (put 0 found l)) (given (Err NoPlace) l)

abbrev pub prefix_on : (key : Bytes) (held : Option Node) (list : Bytes) → Given (Result ℕ Refusal) Bytes
prefix_on k none l = given (Err NoNode) l
prefix_on k (some n) l = pick (leb (length k) max_key) (list_into (hits_from k 0 n.recs) l) (given (Err TooLong) l)

-- a prefix listing: 2, 1, 8
unfoldable pub prefixed : (number : ℕ) (key : Bytes) (table : Table) (list : Bytes) → Given (Result ℕ Refusal) Bytes
prefixed i k t l = prefix_on k (node_of i t) l

-- ---- reading by a party: in what it sees of the table

-- 19 behind the others
abbrev pub unless_other : (sees : Bool) (found : Found) → Found
unless_other true f = f
unless_other false (Value v) = NotFound OtherParty
unless_other false Nothing = NotFound OtherParty
unless_other false (NotFound r) = NotFound r

-- 2, 1, 19
unfoldable pub lookup_as : (profile : Profile) (party : Party) (number : ℕ) (key : Bytes) (table : Table) → Found
lookup_as p q i k t = unless_other (sees p q k) (lookup i k (seen p q t))

-- 2, 1, 8: places are counted among what it sees
unfoldable pub prefixed_as : (profile : Profile) (party : Party) (number : ℕ) (prefix : Bytes) (table : Table) (list : Bytes) → Given (Result ℕ Refusal) Bytes
prefixed_as p q i k t l = prefixed i k (seen p q t) l
