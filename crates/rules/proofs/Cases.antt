-- Evidence, and no part of a promise: document 01's bench cases as one table. In each row stands what the rules give, what the paper says, and the line of the
-- paper's list, starred or not; rows of no line are here because they tell a wrong rule from the right one. That every row holds is one statement, `all_hold`;
-- that the starred rows are those of the paper is another, `stars`.
-- Assumes nothing.
use Prim.Native.Nat.{ℕ}
use mathlib.Core.Bool.{Bool, true, false}
use mathlib.Core.List.{List, [], ◌∷◌, ◌++◌}
use mathlib.Core.Path.{◌≡◌, refl}
use lib.ListN.{length, replicate}
use Rattle.fields.specs.Choice.{all, keep, pick}
use Rattle.fields.specs.Order.{same_bytes, less_bytes}
use Rattle.fields.specs.Blocks.{flat}
use Rattle.fields.specs.Numbers.{bytes_of}
use Rattle.rules.specs.Sizes.{max_delta}
use Rattle.rules.specs.Answers.{answer_told, code_of, computed_told}
use Rattle.rules.specs.Node.{KeyValue, Rec, Node, act, beats, decide, due, find, last_gc_of, offer_of, remove, store, wish}
use Rattle.rules.specs.Node as one
use Rattle.rules.specs.Given.{Given}
use Rattle.rules.specs.Table.{Entry, Table, add_node, drop_node, numbers_of, versions, among, node_of, set_node}
use Rattle.rules.specs.Memory.{Memory, forget, make_room, remember}
use Rattle.rules.specs.Memory.{removed as gone}
use Rattle.rules.specs.Local.{Outcome, add, call, remove_node, write}
use Rattle.rules.specs.Profile.{kind}
use Rattle.rules.specs.Whole.{Whole}
use Rattle.rules.specs.Lent.{add_whole, remove_whole}
use Rattle.rules.specs.declared.Mode.TheVariants.{Plain}
use Rattle.rules.specs.declared.Profile.TheVariants.{Free}
use Rattle.rules.specs.Digest.{NodeDigest}
use Rattle.rules.specs.Delta.{Op, size_of, status_byte, NodeDelta, Part, delta_bytes, parts_of, max_of, op_bytes, recs_of, text_bytes}
use Rattle.rules.specs.Compute.{from_of, delta_for, all_ops, by_version, cut, key_value_ops, ordered, queue, sooner, stale, stale_nodes, told_of, written}
use Rattle.rules.specs.Apply.{Stream, Taken, apply_each, apply_node, codes, delta_status, fenced_ways, guarded_ways, newer_of, outcome, plain_ways, status_of, take_all, takes}
use Rattle.std.specs.Prelude.{Result}
use Rattle.rules.specs.declared.Refusal.{Refusal}
use Rattle.rules.specs.declared.Beat.{Beat}
use Rattle.rules.specs.declared.Status.{Status}
use Rattle.rules.specs.declared.Status.TheVariants.{Set, Delete, Ttl}

pub record Case : Type 0 where
  -- its line in the paper's list of bench cases, from 1 on; 0 where it is none of them
  pub line : ℕ
  pub starred : Bool
  pub rules : List ℕ
  pub paper : List ℕ

-- of a starred line, of a line without a star, of no line
abbrev star : ℕ → List ℕ → List ℕ → Case
star n r p = record { line = n; starred = true; rules = r; paper = p }

abbrev plain : ℕ → List ℕ → List ℕ → Case
plain n r p = record { line = n; starred = false; rules = r; paper = p }

abbrev case : List ℕ → List ℕ → Case
case r p = plain 0 r p

unfoldable pub holds : Case → Bool
holds c = same_bytes c.rules c.paper

-- the lines of the starred rows
unfoldable pub starred_lines : List Case → List ℕ
starred_lines [] = []
starred_lines (c ∷ cs) = pick c.starred (c.line ∷ starred_lines cs) (starred_lines cs)

-- ---- what the rows are made of

-- a node at (last_gc, max) with these records
abbrev node : ℕ → ℕ → List Rec → Node
node g m rs = record { heartbeat = beats 7; max = m; last_gc = g; recs = rs }

-- a key of one byte
abbrev kv : ℕ → ℕ → Status → KeyValue
kv k v st = record { key = k ∷ []; value = []; version = v; status = st }

abbrev delta : ℕ → ℕ → List KeyValue → ℕ → NodeDelta
delta g from rs m = record { from = from; last_gc = g; recs = rs; max = m }

-- the answer's code, then heartbeat, last_gc and max afterwards, then the versions held
abbrev told : Taken → List ℕ
told x = code_of x.answer ∷ x.node.heartbeat.0 ∷ x.node.last_gc ∷ x.node.max ∷ versions x.node.recs

abbrev applied : Node → NodeDelta → List ℕ
applied n d = told (apply_node plain_ways 1000 d n)

-- by a node of a fenced table
abbrev fenced : Node → NodeDelta → List ℕ
fenced n d = told (apply_node fenced_ways 1000 d n)

-- and of a guarded one
abbrev guarded : Node → NodeDelta → List ℕ
guarded n d = told (apply_node guarded_ways 1000 d n)

-- a tombstone of version 3 that starts at 100, under a grace of 50: last_gc afterwards, and the versions held
abbrev tombstone : Rec
tombstone = record { kv = kv 1 3 Delete; start = 100 }

abbrev removed : ℕ → List ℕ
removed now =
    let n : Node = remove (due now 50) (node 0 3 (tombstone ∷ [])) in
    n.last_gc ∷ versions n.recs

abbrev live : ℕ → Rec
live v = record { kv = kv v v Set; start = 0 }

abbrev entry : ℕ → ℕ → List Rec → Entry
entry i m rs = record { number = i; node = node 0 m rs }

-- what a digest tells of node i: no last_gc, this max
abbrev digest : ℕ → ℕ → NodeDigest
digest i m = record { number = i; heartbeat = beats 0; last_gc = 0; max = m }

unfoldable pub numbers_in : List Part → List ℕ
numbers_in [] = []
numbers_in (x ∷ xs) = x.number ∷ numbers_in xs

unfoldable pub sizes_in : List Op → List ℕ
sizes_in [] = []
sizes_in (o ∷ ops) = size_of o ∷ sizes_in ops

-- the nodes of a delta in their order, for a large MTU
abbrev order : List ℕ → List NodeDigest → Table → List ℕ
order ties ds t = numbers_in (parts_of (delta_for [] ties max_delta ds t))

-- what is sent from for a digest pair, of an own node at (4,9), for a large MTU
unfoldable pub froms_in : List Part → List ℕ
froms_in [] = []
froms_in (x ∷ xs) = x.delta.from ∷ froms_in xs

abbrev sent_from : ℕ → ℕ → List ℕ
sent_from g m =
    let d : NodeDigest = record { number = 1; heartbeat = beats 0; last_gc = g; max = m } in
    let e : Entry = record { number = 1; node = node 4 9 (live 9 ∷ []) } in
    froms_in (parts_of (delta_for [] (0 ∷ []) max_delta (d ∷ []) (e ∷ [])))

-- the sizes of the operations
abbrev sizes : ℕ → Table → List ℕ
sizes mtu t = sizes_in (delta_for [] (replicate (length t) 0) mtu [] t)

-- what computing answers: the counts of operations and of bytes
abbrev counts : ℕ → Table → List ℕ
counts mtu t = (computed_told (written (delta_for [] (replicate (length t) 0) mtu [] t) 0 []).answer).values

-- 32 bytes of key and 64 of value: 110 bytes
abbrev largest : Rec
largest = record { kv = record { key = replicate 32 107; value = replicate 64 118; version = 1; status = Set }; start = 0 }

-- of each record version, status and start
unfoldable pub stamps : List Rec → List ℕ
stamps [] = []
stamps (r ∷ rs) = r.kv.version ∷ status_byte r.kv.status ∷ r.start ∷ stamps rs

unfoldable pub all_stamps : Table → List ℕ
all_stamps [] = []
all_stamps (e ∷ t) = stamps e.node.recs ++ all_stamps t

-- a delta of several nodes: the answers, and what is held afterwards
abbrev part : ℕ → NodeDelta → Part
part i d = record { number = i; delta = d }

abbrev streamed : List Part → Table → List ℕ
streamed xs t =
    let o : Stream = apply_each (apply_node plain_ways 1000) xs t in
    codes o.answers ++ all_stamps o.table

-- A write at time 9 with this wanted status and value, at key 1 of node i; node 7 has that key, without a value, under Set. The number of the answer, and
-- what is held afterwards.
abbrev wrote : ℕ → List ℕ → ℕ → List ℕ
wrote wanted v i =
    let o : Outcome (Result (Unit {0}) Refusal) = write wanted v 9 i (1 ∷ []) (entry 7 1 (live 1 ∷ []) ∷ []) in
    (answer_told o.answer).number ∷ all_stamps o.table

-- removed nodes with heartbeat 0
unfoldable pub plainly : List ℕ → Memory
plainly [] = []
plainly (i ∷ is) = gone i (beats 0) ∷ plainly is

-- number and heartbeat of each removed node
unfoldable pub memory_of : Memory → List ℕ
memory_of [] = []
memory_of (r ∷ m) = r.number ∷ r.heartbeat.0 ∷ memory_of m

-- A removal from a table of node 7, whose heartbeat is 7, and an addition to a table, beside these removed nodes: the number of the answer, and the memory
-- afterwards.
abbrev removing : ℕ → List ℕ → List ℕ
removing i is =
    let o : Given (Result (Unit {0}) Refusal) Whole = remove_whole i (record { kind = kind Plain Free; memory = plainly is; table = entry 7 1 [] ∷ [] }) in
    (answer_told o.answer).number ∷ memory_of o.lent.memory

abbrev adding : ℕ → Table → List ℕ → List ℕ
adding i t is =
    let o : Given (Result (Unit {0}) Refusal) Whole = add_whole i (record { kind = kind Plain Free; memory = plainly is; table = t }) in
    (answer_told o.answer).number ∷ memory_of o.lent.memory

-- news of three offers to one who holds 0
abbrev yes : Bool → ℕ
yes true = 1
yes false = 0

abbrev offered : List ℕ
offered =
    let a : Beat = offer_of (beats 0) (beats 5) in
    let b : Beat = offer_of a.heartbeat (beats 5) in
    let c : Beat = offer_of b.heartbeat (beats 6) in
    yes a.news ∷ yes b.news ∷ yes c.news ∷ c.heartbeat.0 ∷ []

-- ---- the table

unfoldable pub cases : List Case
cases =
    -- * own (0,5), delta last_gc 0: from 6 to 9 Reject; from 5 to 5 Reject; from 5 to 6 Apply
    star 1 (applied (node 0 5 []) (delta 0 6 [] 9)) (0 ∷ 7 ∷ 0 ∷ 5 ∷ [])
    ∷ star 1 (applied (node 0 5 []) (delta 0 5 [] 5)) (0 ∷ 7 ∷ 0 ∷ 5 ∷ [])
    ∷ star 1 (applied (node 0 5 []) (delta 0 5 [] 6)) (1 ∷ 7 ∷ 0 ∷ 6 ∷ [])
    -- * own (0,5): last_gc 5, from 0, max 6 Apply; last_gc 6, from 0, max 6 ApplyAfterReset; last_gc 6, from 1, max 9 Reject
    ∷ star 2 (applied (node 0 5 []) (delta 5 0 [] 6)) (1 ∷ 7 ∷ 0 ∷ 6 ∷ [])
    ∷ star 2 (applied (node 0 5 []) (delta 6 0 [] 6)) (2 ∷ 0 ∷ 6 ∷ 6 ∷ [])
    ∷ star 2 (applied (node 0 5 []) (delta 6 1 [] 9)) (0 ∷ 7 ∷ 0 ∷ 5 ∷ [])
    -- * own (0,5): last_gc 6, from 0, no records, max 0: reset to (6,0)
    ∷ star 3 (applied (node 0 5 []) (delta 6 0 [] 0)) (2 ∷ 0 ∷ 6 ∷ 0 ∷ [])
    -- * start 100, grace 50: kept at 149, gone at 150
    ∷ star 4 (removed 149) (0 ∷ 3 ∷ [])
    ∷ star 4 (removed 150) (3 ∷ [])
    -- * own (4,9): digest (0,3) gives from 0; (0,4) from 4; (4,3) from 3
    ∷ star 5 (sent_from 0 3) (0 ∷ [])
    ∷ star 5 (sent_from 0 4) (4 ∷ [])
    ∷ star 5 (sent_from 4 3) (3 ∷ [])
    -- * from-0 nodes with max 9 and 4, others with 3 and 5 stale: order 4, 9, 5 stale, 3 stale
    ∷ star 6
    (order (0 ∷ 0 ∷ 0 ∷ 0 ∷ []) (digest 3 5 ∷ digest 4 4 ∷ [])
    (entry 1 9 [] ∷ entry 2 4 [] ∷ entry 3 8 (live 6 ∷ live 7 ∷ live 8 ∷ []) ∷ entry 4 9 (live 5 ∷ live 6 ∷ live 7 ∷ live 8 ∷ live 9 ∷ []) ∷ []))
    (2 ∷ 1 ∷ 4 ∷ 3 ∷ [])
    -- * largest record (110 bytes) first: MTU 135 carries it; MTU 134 carries the Node alone
    ∷ star 7 (sizes 135 (entry 1 1 (largest ∷ []) ∷ [])) (25 ∷ 110 ∷ [])
    ∷ star 7 (sizes 134 (entry 1 1 (largest ∷ []) ∷ [])) (25 ∷ [])
    -- heartbeat 0, offers 5, 5, 6: no, no, yes
    ∷ plain 8 offered (0 ∷ 0 ∷ 1 ∷ 6 ∷ [])
    -- ties: the smaller tie number, then the smaller node number
    ∷ case (order (2 ∷ 1 ∷ []) [] (entry 1 4 [] ∷ entry 2 4 [] ∷ [])) (2 ∷ 1 ∷ [])
    ∷ case (order (3 ∷ 3 ∷ []) [] (entry 1 4 [] ∷ entry 2 4 [] ∷ [])) (1 ∷ 2 ∷ [])
    -- SetMaxVersion (9 bytes) is sent only where there are no records
    ∷ case (sizes 16384 (entry 1 1 (live 1 ∷ []) ∷ entry 2 2 [] ∷ [])) (25 ∷ 15 ∷ 25 ∷ 9 ∷ [])
    -- a record that does not fit ends the whole delta, though the next Node would fit; a SetMaxVersion that does not fit is dropped
    ∷ case (sizes 134 (entry 1 1 (largest ∷ []) ∷ entry 2 2 (live 1 ∷ []) ∷ [])) (25 ∷ [])
    ∷ case (sizes 33 (entry 1 1 [] ∷ entry 2 2 [] ∷ [])) (25 ∷ [])
    ∷ case (sizes 108 (entry 1 1 (live 1 ∷ live 2 ∷ []) ∷ entry 2 2 [] ∷ [])) (25 ∷ 15 ∷ 15 ∷ 25 ∷ 9 ∷ [])
    -- two operations, 135 bytes
    ∷ case (counts 135 (entry 1 1 (largest ∷ []) ∷ [])) (2 ∷ 135 ∷ [])
    -- a reset takes a live record below last_gc, skips a scheduled one, and takes a scheduled one above it
    ∷ case (applied (node 0 5 []) (delta 6 0 (kv 1 3 Set ∷ kv 2 4 Delete ∷ kv 3 7 Delete ∷ []) 7)) (2 ∷ 0 ∷ 6 ∷ 7 ∷ 3 ∷ 7 ∷ [])
    -- without a reset, records up to own max are skipped
    ∷ case (applied (node 0 5 (live 5 ∷ [])) (delta 0 0 (kv 1 4 Set ∷ kv 2 6 Ttl ∷ []) 6)) (1 ∷ 7 ∷ 0 ∷ 6 ∷ 6 ∷ 5 ∷ [])
    -- a 33rd key has no room: the node stays
    ∷ case (applied (node 0 1 (replicate 32 (live 1))) (delta 0 1 (kv 2 2 Set ∷ []) 2)) (3 ∷ 7 ∷ 0 ∷ 1 ∷ replicate 32 1)
    -- node by node, in stream order: a rejected delta and a missing node (Unknown) do not end it, and a missing node is not made
    ∷ case
    (streamed (part 7 (delta 0 2 [] 3) ∷ part 8 (delta 0 1 (kv 2 2 Ttl ∷ []) 2) ∷ part 9 (delta 0 0 (kv 1 1 Set ∷ []) 1) ∷ part 6 (delta 0 0 (kv 3 3 Set ∷ []) 3) ∷ [])
    (entry 6 0 [] ∷ entry 7 1 (live 1 ∷ []) ∷ entry 8 1 (live 1 ∷ []) ∷ []))
    (0 ∷ 1 ∷ 4 ∷ 1 ∷ 3 ∷ 0 ∷ 0 ∷ 1 ∷ 0 ∷ 0 ∷ 1 ∷ 0 ∷ 0 ∷ 2 ∷ 2 ∷ 1000 ∷ [])
    -- a late delta is taken by the rule: own (10,3) takes last_gc 0, from 3, max 5
    ∷ case (applied (node 10 3 []) (delta 0 3 (kv 1 5 Set ∷ []) 5)) (1 ∷ 7 ∷ 10 ∷ 5 ∷ 5 ∷ [])
    -- a fenced node at (10,3) answers Fenced to it and stays, also where step 3 would reject; but a delta from the future is rejected
    ∷ case (fenced (node 10 3 (live 2 ∷ [])) (delta 0 3 (kv 1 5 Set ∷ []) 5)) (5 ∷ 7 ∷ 10 ∷ 3 ∷ 2 ∷ [])
    ∷ case (fenced (node 10 3 (live 2 ∷ [])) (delta 9 0 [] 3)) (5 ∷ 7 ∷ 10 ∷ 3 ∷ 2 ∷ [])
    ∷ case (fenced (node 10 3 (live 2 ∷ [])) (delta 0 4 (kv 1 5 Set ∷ []) 5)) (0 ∷ 7 ∷ 10 ∷ 3 ∷ 2 ∷ [])
    -- it takes one with the same last_gc, and is reset by one with a greater; at (10,12) no delta is fenced off, at (10,10) neither
    ∷ case (fenced (node 10 3 (live 2 ∷ [])) (delta 10 3 (kv 1 5 Set ∷ []) 5)) (1 ∷ 7 ∷ 10 ∷ 5 ∷ 5 ∷ 2 ∷ [])
    ∷ case (fenced (node 10 3 (live 2 ∷ [])) (delta 11 0 (kv 1 5 Set ∷ []) 5)) (2 ∷ 0 ∷ 11 ∷ 5 ∷ 5 ∷ [])
    ∷ case (fenced (node 10 12 []) (delta 0 12 (kv 1 13 Set ∷ []) 13)) (1 ∷ 7 ∷ 10 ∷ 13 ∷ 13 ∷ [])
    ∷ case (fenced (node 10 10 []) (delta 0 10 (kv 1 13 Set ∷ []) 13)) (1 ∷ 7 ∷ 10 ∷ 13 ∷ 13 ∷ [])
    -- a guarded node answers Fenced to a delta whose last_gc and max are below its own last_gc, and takes one that reaches it
    ∷ case (guarded (node 10 3 (live 2 ∷ [])) (delta 9 3 (kv 1 9 Set ∷ []) 9)) (5 ∷ 7 ∷ 10 ∷ 3 ∷ 2 ∷ [])
    ∷ case (guarded (node 10 3 (live 2 ∷ [])) (delta 0 3 (kv 1 10 Set ∷ []) 10)) (1 ∷ 7 ∷ 10 ∷ 10 ∷ 10 ∷ 2 ∷ [])
    ∷ case (guarded (node 10 3 (live 2 ∷ [])) (delta 9 0 [] 3)) (5 ∷ 7 ∷ 10 ∷ 3 ∷ 2 ∷ [])
    ∷ case (guarded (node 10 3 (live 2 ∷ [])) (delta 0 4 (kv 1 5 Set ∷ []) 5)) (0 ∷ 7 ∷ 10 ∷ 3 ∷ 2 ∷ [])
    ∷ case (guarded (node 10 3 (live 2 ∷ [])) (delta 10 3 (kv 1 5 Set ∷ []) 5)) (1 ∷ 7 ∷ 10 ∷ 5 ∷ 5 ∷ 2 ∷ [])
    ∷ case (guarded (node 10 10 []) (delta 0 10 (kv 1 13 Set ∷ []) 13)) (1 ∷ 7 ∷ 10 ∷ 13 ∷ 13 ∷ [])
    -- A hub at (2,1), to which its neighbour at (0,2) sends the scheduled record of version 2: a fenced one is left behind, a guarded one is at (2,2)
    ∷ case (fenced (node 2 1 (live 1 ∷ [])) (delta 0 1 (kv 2 2 Ttl ∷ []) 2)) (5 ∷ 7 ∷ 2 ∷ 1 ∷ 1 ∷ [])
    ∷ case (guarded (node 2 1 (live 1 ∷ [])) (delta 0 1 (kv 2 2 Ttl ∷ []) 2)) (1 ∷ 7 ∷ 2 ∷ 2 ∷ 1 ∷ [])
    -- the one write: the same under Set; a new value under Set starts at no time; under TTL it starts at the time, the same value too
    ∷ case (wrote 0 [] 7) (0 ∷ 1 ∷ 0 ∷ 0 ∷ [])
    ∷ case (wrote 0 (5 ∷ []) 7) (0 ∷ 2 ∷ 0 ∷ 0 ∷ [])
    ∷ case (wrote 2 [] 7) (0 ∷ 2 ∷ 2 ∷ 9 ∷ [])
    -- Delete and any other number are 10, before there is no such node (2)
    ∷ case (wrote 1 [] 7) (10 ∷ 1 ∷ 0 ∷ 0 ∷ [])
    ∷ case (wrote 3 [] 7) (10 ∷ 1 ∷ 0 ∷ 0 ∷ [])
    ∷ case (wrote 1 [] 8) (10 ∷ 1 ∷ 0 ∷ 0 ∷ [])
    ∷ case (wrote 2 [] 8) (2 ∷ 1 ∷ 0 ∷ 0 ∷ [])
    -- removed nodes: the last heartbeat is remembered, behind those remembered longer; a node that is not held is not (2)
    ∷ case (removing 7 (9 ∷ 8 ∷ [])) (0 ∷ 9 ∷ 0 ∷ 8 ∷ 0 ∷ 7 ∷ 7 ∷ [])
    ∷ case (removing 6 (9 ∷ 8 ∷ [])) (2 ∷ 9 ∷ 0 ∷ 8 ∷ 0 ∷ [])
    -- the longest remembered goes when a seventeenth comes
    ∷ case (memory_of (remember 7 (beats 3) (plainly (replicate 16 1)))) (memory_of (plainly (replicate 15 1)) ++ (7 ∷ 3 ∷ []))
    ∷ case (memory_of (remember 7 (beats 3) (plainly (1 ∷ replicate 15 2)))) (memory_of (plainly (replicate 15 2)) ++ (7 ∷ 3 ∷ []))
    ∷ case (memory_of (remember 7 (beats 3) (plainly (replicate 15 1)))) (memory_of (plainly (replicate 15 1)) ++ (7 ∷ 3 ∷ []))
    -- adding forgets the node, and the others keep their order; a ninth node is refused (4) and forgets nothing
    ∷ case (adding 5 (entry 7 1 [] ∷ []) (9 ∷ 5 ∷ 8 ∷ [])) (0 ∷ 9 ∷ 0 ∷ 8 ∷ 0 ∷ [])
    ∷ case (adding 5 (replicate 8 (entry 7 1 [])) (9 ∷ 5 ∷ 8 ∷ [])) (4 ∷ 9 ∷ 0 ∷ 5 ∷ 0 ∷ 8 ∷ 0 ∷ [])
    ∷ []

pub all_hold : all holds cases ≡ true
unfolding plainly memory_of remove_whole add_whole remove_node add add_node drop_node numbers_of remember make_room forget all holds cases answer_told computed_told codes apply_each delta_bytes flat same_bytes less_bytes numbers_in froms_in sizes_in stamps all_stamps write call decide wish find act one.write node_of set_node apply_node delta_status status_of newer_of outcome take_all takes store versions remove last_gc_of keep from_of delta_for cut all_ops ordered queue sooner stale_nodes told_of among stale by_version key_value_ops size_of op_bytes text_bytes bytes_of parts_of recs_of max_of offer_of
all_hold = refl

-- the paper stars seven lines, and they have fifteen cases
pub stars : starred_lines cases ≡ 1 ∷ 1 ∷ 1 ∷ 2 ∷ 2 ∷ 2 ∷ 3 ∷ 4 ∷ 4 ∷ 5 ∷ 5 ∷ 5 ∷ 6 ∷ 7 ∷ 7 ∷ []
unfolding starred_lines cases
stars = refl
