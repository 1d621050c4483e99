-- The first line of a plan that is at fault, and why. Lines are counted from 0. That there is none exactly where the plan is accepted is proved (proofs/Judging).
use Rattle.std.specs.Prelude.{ℕ, suc, ◌-◌, ◌&&◌, List, [], ◌∷◌, ◌++◌, length, leb, ltb, eqb}
use Rattle.std.proofs.Math.Option.{Option, none, some}
use Rattle.fields.specs.Choice.{pick}
use Rattle.fields.specs.Numbers.{Bytes}
use Rattle.rules.specs.Answers.{Told, accepted, refused}
use Rattle.rules.specs.Sizes.{least_mtu, max_delta}
use Rattle.rules.specs.Node.{Node, KeyValue}
use Rattle.rules.specs.Table.{Table, among, node_of}
use Rattle.rules.specs.Digest.{NodeDigest, DigestRead, Entries, Refused, is_edition, read_digest}
use Rattle.rules.specs.Delta.{delta_bytes}
use Rattle.rules.specs.Compute.{StaleNode, told_of, stale_node, stale_of}
use Rattle.rules.specs.Lent.{from_table}
use Rattle.rules.specs.declared.Refusal.TheVariants.{BadMtu, BadTable, BadEdition, BadPlan}
use Rattle.plan.specs.declared.Fault.{Fault}
use Rattle.plan.specs.declared.Fault.TheVariants.{NotHeld, Excluded, NamedBefore, UpToDate, TooMany, TooFew, NoFit, Alone}
use Rattle.std.specs.Prelude.{Err, Ok, Result}
use Rattle.plan.specs.declared.NotSent.{NotSent}
use Rattle.rules.specs.Results.{done}
use Rattle.plan.specs.declared.NotSent.TheVariants as not_sent
use Rattle.plan.specs.Plan.{line_ops}

-- ---- the numbers

abbrev pub fault_code : Fault → ℕ
fault_code NotHeld = 1
fault_code Excluded = 2
fault_code NamedBefore = 3
fault_code UpToDate = 4
fault_code TooMany = 5
fault_code TooFew = 6
fault_code NoFit = 7
fault_code Alone = 8

-- where a line is at fault, number 23 with the line and the fault's number
unfoldable pub judged_told : (Result (Unit {0}) NotSent) → Told
judged_told (Ok _) = accepted []
judged_told (Err (not_sent.AtFault line why)) = refused BadPlan (line ∷ fault_code why ∷ [])
judged_told (Err (not_sent.Refused r)) = refused r []

-- ---- a line

-- of a node with these stale records, so many bytes being left of the MTU: the count, then the bytes
abbrev pub count_fault : (count : ℕ) (stale : List KeyValue) (size left : ℕ) → Option Fault
count_fault c all size left =
    pick (ltb (length all) c) (some TooMany)
    (pick (eqb c 0 && ltb 0 (length all)) (some TooFew)
    (pick (ltb left size) (some NoFit) none))

-- the node under its number, with what the digest tells of it
abbrev pub stale_held : (ds : List NodeDigest) (number : ℕ) (node : Node) → StaleNode
stale_held ds i n = stale_node 0 (told_of i ds) (record { number = i; node = n })

abbrev pub size_of_line : (count : ℕ) (stale : StaleNode) → ℕ
size_of_line c s = length (delta_bytes (line_ops c (some s)))

-- held, not excluded, named once, stale; then the count and the bytes
abbrev pub held_fault : (excluded before : List ℕ) (left : ℕ) (ds : List NodeDigest) (number count : ℕ) (node : Node) → Option Fault
held_fault excluded before left ds i c n =
    pick (among i excluded) (some Excluded)
    (pick (among i before) (some NamedBefore)
    (pick (leb n.max (told_of i ds).max) (some UpToDate)
    (count_fault c (stale_of (stale_held ds i n)) (size_of_line c (stale_held ds i n)) left)))

abbrev pub line_fault : (excluded before : List ℕ) (left : ℕ) (ds : List NodeDigest) (number count : ℕ) (node : Option Node) → Option Fault
line_fault excluded before left ds i c none = some NotHeld
line_fault excluded before left ds i c (some n) = held_fault excluded before left ds i c n

-- the bytes of a line that is not at fault
abbrev pub line_size : (ds : List NodeDigest) (number count : ℕ) (node : Option Node) → ℕ
line_size ds i c none = 0
line_size ds i c (some n) = size_of_line c (stale_held ds i n)

-- ---- the lines

-- by what the line was found to be, with what the lines behind it come to
abbrev pub or_else : (line : ℕ) (fault : Option Fault) (rest : (Result (Unit {0}) NotSent)) → (Result (Unit {0}) NotSent)
or_else line none rest = rest
or_else line (some why) rest = (Err (not_sent.AtFault line why))

-- the lines from this one on: those before it name these nodes and leave so many bytes of the MTU
unfoldable pub judge_from : (excluded : List ℕ) (ds : List NodeDigest) (table : Table) (line : ℕ) (before : List ℕ) (left : ℕ) (nodes counts : List ℕ) → (Result (Unit {0}) NotSent)
judge_from excluded ds t line before left [] [] = done
judge_from excluded ds t line before left [] (c ∷ cs) = (Err (not_sent.AtFault line Alone))
judge_from excluded ds t line before left (i ∷ is) [] = (Err (not_sent.AtFault line Alone))
judge_from excluded ds t line before left (i ∷ is) (c ∷ cs) =
    or_else line (line_fault excluded before left ds i c (node_of i t))
    (judge_from excluded ds t (suc line) (before ++ (i ∷ [])) (left - line_size ds i c (node_of i t)) is cs)

unfoldable pub judge : (excluded nodes counts : List ℕ) (mtu : ℕ) (ds : List NodeDigest) (table : Table) → (Result (Unit {0}) NotSent)
judge excluded nodes counts mtu ds t = judge_from excluded ds t 0 [] mtu nodes counts

-- ---- as a call: 20, 7, the digest's numbers, then what the lines come to. No datagram is lent, so that 8 cannot come.

abbrev pub judge_on : (excluded nodes counts : List ℕ) (mtu : ℕ) (read : DigestRead) (table : Table) → (Result (Unit {0}) NotSent)
judge_on excluded nodes counts mtu (Entries ds rest) t = judge excluded nodes counts mtu ds t
judge_on excluded nodes counts mtu (Refused r) t = (Err (not_sent.Refused r))

abbrev pub judge_for : (excluded nodes counts : List ℕ) (mtu : ℕ) (read : DigestRead) (table : Table) → (Result (Unit {0}) NotSent)
judge_for excluded nodes counts mtu read t = pick (leb least_mtu mtu && leb mtu max_delta) (judge_on excluded nodes counts mtu read t) (Err (not_sent.Refused BadMtu))

unfoldable pub judge_plan : (edition : ℕ) (excluded nodes counts : List ℕ) (mtu : ℕ) (digest : Bytes) (table : Table) → (Result (Unit {0}) NotSent)
judge_plan edition excluded nodes counts mtu digest t =
    pick (is_edition edition) (judge_for excluded nodes counts mtu (read_digest edition digest) t) (Err (not_sent.Refused BadEdition))

-- on lent memory: 14, then as above
abbrev pub lent_judge : (edition : ℕ) (excluded nodes counts : List ℕ) (mtu : ℕ) (digest table : Bytes) → (Result (Unit {0}) NotSent)
lent_judge edition excluded nodes counts mtu digest table = from_table (Err (not_sent.Refused BadTable)) (judge_plan edition excluded nodes counts mtu digest) table
