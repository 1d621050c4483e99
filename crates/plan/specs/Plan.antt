-- Plans for the air time (document 02, ticket 13): a list of node numbers, and how many stale records of each are to be sent. When a plan is accepted, the
-- delta that an accepted one sends, and computing by a plan as a call, on a table and on lent bytes.
use Rattle.std.specs.Prelude.{ℕ, Bool, true, false, ◌&&◌, List, [], ◌∷◌, ◌++◌, length, take, leb, eqb}
use Rattle.std.proofs.Math.Option.{Option, none, some}
use Rattle.fields.specs.Choice.{pick, every}
use Rattle.fields.specs.Numbers.{Bytes}
use Rattle.rules.specs.Given.{Given, given}
use Rattle.rules.specs.Sizes.{least_mtu, max_delta}
use Rattle.rules.specs.Node.{KeyValue}
use Rattle.rules.specs.Table.{Table, differ}
use Rattle.rules.specs.Digest.{NodeDigest, DigestRead, Entries, Refused, is_edition, read_digest, fits_at}
use Rattle.rules.specs.Delta.{Op, NodeOp, delta_bytes}
use Rattle.rules.specs.Compute.{StaleNode, stale_nodes, from_for, stale_of, body_ops, written}
use Rattle.rules.specs.Lent.{from_table}
use Rattle.rules.specs.declared.Refusal.TheVariants.{BadMtu, NoPlace, BadTable, BadEdition, BadPlan}
use Rattle.std.specs.Prelude.{Err, Result}
use Rattle.rules.specs.declared.Refusal.{Refusal}
use Rattle.rules.specs.declared.Sent.{Sent}

-- ---- a line: a node's number and a count

-- the stale node of this number; there is none where the node is not held, is excluded, or is not stale
unfoldable pub named : (number : ℕ) (stale : List StaleNode) → Option StaleNode
named i [] = none
named i (s ∷ ss) = pick (eqb i s.number) (some s) (named i ss)

-- at most the node's stale records, and not 0 unless there are none
abbrev pub count_fits : (count : ℕ) (stale : List KeyValue) → Bool
count_fits c [] = eqb c 0
count_fits c (s ∷ ss) = leb 1 c && leb c (length (s ∷ ss))

abbrev pub line_fits : (count : ℕ) (stale : Option StaleNode) → Bool
line_fits c none = false
line_fits c (some s) = count_fits c (stale_of s)

-- a Node operation with document 01's from, then the lowest versions, or SetMaxVersion with own max where the node has no stale records
abbrev pub line_ops : (count : ℕ) (stale : Option StaleNode) → List Op
line_ops c none = []
line_ops c (some s) = NodeOp s.number s.node.last_gc (from_for s) ∷ body_ops s.node.max (take c (stale_of s))

-- ---- the lines, in the plan's order

-- every line fits, and the two lists are as long as each other
unfoldable pub lines_fit : (stale : List StaleNode) (nodes counts : List ℕ) → Bool
lines_fit ss [] [] = true
lines_fit ss [] (c ∷ cs) = false
lines_fit ss (i ∷ is) [] = false
lines_fit ss (i ∷ is) (c ∷ cs) = line_fits c (named i ss) && lines_fit ss is cs

unfoldable pub plan_ops : (stale : List StaleNode) (nodes counts : List ℕ) → List Op
plan_ops ss [] cs = []
plan_ops ss (i ∷ is) [] = []
plan_ops ss (i ∷ is) (c ∷ cs) = line_ops c (named i ss) ++ plan_ops ss is cs

-- the nodes that are held, not excluded, and stale by document 01; a plan has no ties
abbrev pub stale_for : (excluded : List ℕ) (ds : List NodeDigest) (table : Table) → List StaleNode
stale_for excluded ds t = stale_nodes excluded ds [] t

-- the delta of a plan
unfoldable pub delta_by : (excluded nodes counts : List ℕ) (ds : List NodeDigest) (table : Table) → List Op
delta_by excluded nodes counts ds t = plan_ops (stale_for excluded ds t) nodes counts

-- Accepted exactly if every node is held, not excluded, named once, and stale; each count is at most the node's stale records, and not 0 unless there are
-- none; and the bytes fit the MTU.
unfoldable pub accepts : (excluded nodes counts : List ℕ) (mtu : ℕ) (ds : List NodeDigest) (table : Table) → Bool
accepts excluded nodes counts mtu ds t =
    every (differ nodes ∷ lines_fit (stale_for excluded ds t) nodes counts ∷ leb (length (delta_bytes (delta_by excluded nodes counts ds t))) mtu ∷ [])

-- ---- computing by a plan as a call

-- 23 where the plan is not accepted; else its delta goes into the datagram whole
abbrev pub on_plan : (excluded nodes counts : List ℕ) (mtu place : ℕ) (ds : List NodeDigest) (table : Table) (datagram : Bytes) → Given (Result Sent Refusal) Bytes
on_plan excluded nodes counts mtu place ds t l =
    pick (accepts excluded nodes counts mtu ds t) (written (delta_by excluded nodes counts ds t) place l) (given (Err BadPlan) l)

abbrev pub plan_on : (excluded nodes counts : List ℕ) (mtu place : ℕ) (read : DigestRead) (table : Table) (datagram : Bytes) → Given (Result Sent Refusal) Bytes
plan_on excluded nodes counts mtu place (Entries ds rest) t l = on_plan excluded nodes counts mtu place ds t l
plan_on excluded nodes counts mtu place (Refused r) t l = given (Err r) l

-- 7, 8 (a whole MTU must be free), what the reading of the digest says, then 23
abbrev pub plan_for : (excluded nodes counts : List ℕ) (mtu place : ℕ) (read : DigestRead) (table : Table) (datagram : Bytes) → Given (Result Sent Refusal) Bytes
plan_for excluded nodes counts mtu place read t l =
    pick (leb least_mtu mtu && leb mtu max_delta)
    (pick (fits_at place mtu l) (plan_on excluded nodes counts mtu place read t l) (given (Err NoPlace) l))
    (given (Err BadMtu) l)

-- 20, then as above
unfoldable pub compute_plan : (edition : ℕ) (excluded nodes counts : List ℕ) (mtu place : ℕ) (digest : Bytes) (table : Table) (datagram : Bytes) → Given (Result Sent Refusal) Bytes
compute_plan edition excluded nodes counts mtu place digest t l =
    pick (is_edition edition) (plan_for excluded nodes counts mtu place (read_digest edition digest) t l) (given (Err BadEdition) l)

-- on lent memory: 14, then as above
abbrev pub lent_compute_plan : (edition : ℕ) (excluded nodes counts : List ℕ) (mtu place : ℕ) (digest datagram table : Bytes) → Given (Result Sent Refusal) Bytes
lent_compute_plan edition excluded nodes counts mtu place digest datagram table =
    from_table (given (Err BadTable) datagram) (λ t. compute_plan edition excluded nodes counts mtu place digest t datagram) table
