-- Evidence, and no part of a promise: small plans, each telling the right rule from a wrong one. In each row stands what the rules give, and what document 02
-- says. That every row holds is one statement, `all_hold`.
-- Assumes nothing.
use Prim.Native.Nat.{ℕ}
use mathlib.Core.Bool.{Bool, false, true}
use mathlib.Core.List.{List, [], ◌∷◌}
use mathlib.Core.Path.{◌≡◌, refl}
use lib.ListN.{replicate}
use Rattle.fields.specs.Blocks.{flat}
use Rattle.fields.specs.Choice.{all}
use Rattle.fields.specs.Numbers.{Bytes, bytes_of, nat_of}
use Rattle.fields.specs.Order.{less_bytes, same_bytes}
use Rattle.rules.specs.Answers.{computed_told}
use Rattle.rules.specs.Compute.{by_version, from_of, key_value_ops, stale, stale_nodes, told_of}
use Rattle.rules.specs.Delta.{KeyValueOp, NodeOp, Op, SetMaxVersionOp, delta_bytes, op_bytes, size_of, text_bytes}
use Rattle.rules.specs.Digest.{NodeDigest, read_digest, read_entries, tell_all}
use Rattle.rules.specs.Node.{Rec, beats}
use Rattle.rules.specs.Table.{Entry, Table, among, differ, node_of}
use Rattle.rules.specs.declared.Status.TheVariants.{Set}
use Rattle.plan.specs.Faults.{judge, judge_from, judged_told}
use Rattle.plan.specs.Plan.{accepts, compute_plan, delta_by, lines_fit, named, plan_ops}

pub record Case : Type 0 where
  pub rules : List ℕ
  pub paper : List ℕ

abbrev case : List ℕ → List ℕ → Case
case r p = record { rules = r; paper = p }

unfoldable pub holds : Case → Bool
holds c = same_bytes c.rules c.paper

-- ---- what the rows are made of

abbrev entry : ℕ → ℕ → ℕ → List Rec → Entry
entry i g m rs = record { number = i; node = record { heartbeat = beats 0; max = m; last_gc = g; recs = rs } }

-- node 1 has two records of 15 bytes, the later first by key; 2 has nothing but its max; 3 is level with the digest, 4 stands at (2,2) without records
abbrev table : Table
table =
    entry 1 0 5 (record { kv = record { key = 97 ∷ []; value = []; version = 5; status = Set }; start = 0 } ∷ record { kv = record { key = 98 ∷ []; value = []; version = 4; status = Set }; start = 0 } ∷ [])
    ∷ entry 2 0 3 []
    ∷ entry 3 0 7 []
    ∷ entry 4 2 2 []
    ∷ []

-- 1 is told 3, 3 its own max, 4 (0,1)
abbrev digest : List NodeDigest
digest =
    record { number = 1; heartbeat = beats 0; last_gc = 0; max = 3 }
    ∷ record { number = 3; heartbeat = beats 0; last_gc = 0; max = 7 }
    ∷ record { number = 4; heartbeat = beats 0; last_gc = 0; max = 1 }
    ∷ []

-- an operation in three numbers: its tag, and what tells it apart
unfoldable pub shown : List Op → List ℕ
shown [] = []
shown (NodeOp n g f ∷ ops) = 0 ∷ n ∷ f ∷ shown ops
shown (KeyValueOp r ∷ ops) = 1 ∷ r.version ∷ shown ops
shown (SetMaxVersionOp m ∷ ops) = 2 ∷ m ∷ shown ops

abbrev yes : Bool → ℕ
yes true = 1
yes false = 0

-- whether the plan is accepted under this MTU, and its operations
abbrev planned : (excluded nodes counts : List ℕ) (mtu : ℕ) → List ℕ
planned excluded nodes counts mtu = yes (accepts excluded nodes counts mtu digest table) ∷ shown (delta_by excluded nodes counts digest table)

abbrev accepted : (excluded nodes counts : List ℕ) (mtu : ℕ) → List ℕ
accepted excluded nodes counts mtu = yes (accepts excluded nodes counts mtu digest table) ∷ []

-- number, line and fault
abbrev said : (excluded nodes counts : List ℕ) (mtu : ℕ) → List ℕ
said excluded nodes counts mtu = (judged_told (judge excluded nodes counts mtu digest table)).number ∷ (judged_told (judge excluded nodes counts mtu digest table)).values

-- the number of the call, for these bytes as a digest
abbrev number : (edition : ℕ) (nodes counts : List ℕ) (mtu : ℕ) (digest : Bytes) (room : ℕ) → List ℕ
number edition nodes counts mtu d room = (computed_told (compute_plan edition [] nodes counts mtu 0 d [] (replicate room 0)).answer).number ∷ []

-- ---- the rows

abbrev cases : List Case
cases =
    -- the empty plan
    case (planned [] [] [] 100) (1 ∷ [])
    -- 01's from, the lowest version first
    ∷ case (planned [] (1 ∷ []) (1 ∷ []) 100) (1 ∷ 0 ∷ 1 ∷ 3 ∷ 1 ∷ 4 ∷ [])
    -- all of them, and no SetMaxVersion behind
    ∷ case (planned [] (1 ∷ []) (2 ∷ []) 100) (1 ∷ 0 ∷ 1 ∷ 3 ∷ 1 ∷ 4 ∷ 1 ∷ 5 ∷ [])
    -- SetMaxVersion where there are no stale records; from 0 where a reset is due
    ∷ case (planned [] (4 ∷ 2 ∷ []) (0 ∷ 0 ∷ []) 100) (1 ∷ 0 ∷ 4 ∷ 0 ∷ 2 ∷ 2 ∷ 0 ∷ 2 ∷ 0 ∷ 2 ∷ 3 ∷ [])
    -- a count of 0 with stale records, one too many, one where there are none
    ∷ case (accepted [] (1 ∷ []) (0 ∷ []) 100) (0 ∷ [])
    ∷ case (accepted [] (1 ∷ []) (3 ∷ []) 100) (0 ∷ [])
    ∷ case (accepted [] (2 ∷ []) (1 ∷ []) 100) (0 ∷ [])
    -- excluded, not held, not stale, named twice
    ∷ case (accepted (1 ∷ []) (1 ∷ []) (1 ∷ []) 100) (0 ∷ [])
    ∷ case (accepted [] (9 ∷ []) (0 ∷ []) 100) (0 ∷ [])
    ∷ case (accepted [] (3 ∷ []) (0 ∷ []) 100) (0 ∷ [])
    ∷ case (accepted [] (2 ∷ 2 ∷ []) (0 ∷ 0 ∷ []) 100) (0 ∷ [])
    -- lists of unequal length
    ∷ case (accepted [] (2 ∷ []) [] 100) (0 ∷ [])
    ∷ case (accepted [] [] (0 ∷ []) 100) (0 ∷ [])
    -- 55 bytes under an MTU of 55, and of 54
    ∷ case (accepted [] (1 ∷ []) (2 ∷ []) 55) (1 ∷ [])
    ∷ case (accepted [] (1 ∷ []) (2 ∷ []) 54) (0 ∷ [])
    -- the first line at fault
    ∷ case (said [] (1 ∷ 2 ∷ []) (2 ∷ 0 ∷ []) 100) (0 ∷ [])
    ∷ case (said [] (2 ∷ 9 ∷ []) (0 ∷ 0 ∷ []) 100) (23 ∷ 1 ∷ 1 ∷ [])
    ∷ case (said (1 ∷ []) (1 ∷ []) (1 ∷ []) 100) (23 ∷ 0 ∷ 2 ∷ [])
    ∷ case (said [] (2 ∷ 1 ∷ 2 ∷ []) (0 ∷ 1 ∷ 0 ∷ []) 100) (23 ∷ 2 ∷ 3 ∷ [])
    ∷ case (said [] (3 ∷ []) (0 ∷ []) 100) (23 ∷ 0 ∷ 4 ∷ [])
    ∷ case (said [] (1 ∷ []) (3 ∷ []) 100) (23 ∷ 0 ∷ 5 ∷ [])
    ∷ case (said [] (1 ∷ []) (0 ∷ []) 100) (23 ∷ 0 ∷ 6 ∷ [])
    ∷ case (said [] (1 ∷ 2 ∷ []) (2 ∷ 0 ∷ []) 88) (23 ∷ 1 ∷ 7 ∷ [])
    ∷ case (said [] (2 ∷ 1 ∷ []) (0 ∷ []) 100) (23 ∷ 1 ∷ 8 ∷ [])
    -- 20, 7, 8, 9 and 13 come before 23
    ∷ case (number 2 (9 ∷ []) [] 99 [] 0) (20 ∷ [])
    ∷ case (number 0 (9 ∷ []) [] 99 [] 0) (7 ∷ [])
    ∷ case (number 0 (9 ∷ []) [] 100 [] 99) (8 ∷ [])
    ∷ case (number 0 (9 ∷ []) [] 100 (0 ∷ []) 100) (9 ∷ [])
    ∷ case (number 0 (9 ∷ []) [] 100 (9 ∷ 0 ∷ []) 100) (13 ∷ [])
    ∷ case (number 0 (9 ∷ []) [] 100 (0 ∷ 0 ∷ []) 100) (23 ∷ [])
    ∷ []

pub all_hold : all holds cases ≡ true
unfolding all holds same_bytes shown accepts delta_by lines_fit plan_ops named differ among stale_nodes told_of from_of stale by_version key_value_ops delta_bytes flat op_bytes text_bytes bytes_of nat_of size_of judge judge_from judged_told node_of compute_plan computed_told read_digest read_entries tell_all less_bytes
all_hold = refl
