-- Evidence, and no part of a promise: rows that tell the meter profile (Profile, ticket 8) from others that are near it. Each row is a call on a small input, and
-- what the ticket says of it. Assumes nothing.
use Prim.Native.Nat.{ℕ}
use mathlib.Core.Bool.{Bool, true}
use mathlib.Core.List.{List, [], ◌∷◌}
use mathlib.Core.Option.{Option, none, some}
use mathlib.Core.Path.{◌≡◌, refl}
use lib.ListN.{replicate}
use Rattle.fields.specs.Blocks.{flat}
use Rattle.fields.specs.Choice.{all}
use Rattle.fields.specs.Numbers.{bytes_of, nat_of}
use Rattle.fields.specs.Order.{less_bytes, same_bytes}
use Rattle.rules.specs.Answers.{answer_told, applied_told, read_told}
use Rattle.rules.specs.Apply.{ApplyOutcome, apply, apply_each, apply_node, codes, delta_status, newer_of, outcome, status_of, take_all, takes, ways_in}
use Rattle.rules.specs.Delta.{NodeOp, KeyValueOp, Op, delta_bytes, follow, max_of, op_bytes, parts_of, read_answer, read_key_value, read_node, read_op, read_set_max_version, recs_of, text_bytes}
use Rattle.rules.specs.Local.{call, call_as}
use Rattle.rules.specs.Node.{Call, Setting, SettingTtl, Deleting, DeletingAfterTtl, Rec, Node, act, beats, decide, find, store, wish}
use Rattle.rules.specs.Node as one
use Rattle.rules.specs.Profile.{kind, meter_key, meter_value, numeral, read_delta_as, read_ops_as, smaller, total_key}
use Rattle.rules.specs.Sizes.{top}
use Rattle.rules.specs.Table.{Table, among, node_of, set_node}
use Rattle.rules.specs.declared.Mode.TheVariants.{Plain}
use Rattle.rules.specs.declared.Party.TheVariants.{Nobody}
use Rattle.rules.specs.declared.Profile.TheVariants.{Meter}
use Rattle.rules.specs.declared.Status.{Status}
use Rattle.rules.specs.declared.Status.TheVariants.{Set, Delete, Ttl}

-- what the profile says, and what the ticket does
pub record Row : Type 0 where
  pub profile : List ℕ
  pub ticket : List ℕ

abbrev row : List ℕ → List ℕ → Row
row p t = record { profile = p; ticket = t }

unfoldable pub agrees : Row → Bool
agrees r = same_bytes r.profile r.ticket

-- ---- local calls at node 7

abbrev rec : List ℕ → List ℕ → Status → Rec
rec k v st = record { kv = record { key = k; value = v; version = 1; status = st }; start = 0 }

abbrev holding : ℕ → List Rec → Table
holding m l = record { number = 7; node = record { heartbeat = beats 0; max = m; last_gc = 0; recs = l } } ∷ []

-- the answer's number
abbrev said : Call → List ℕ → Table → List ℕ
said c k t = (answer_told (call_as Meter Nobody c 7 k t).answer).number ∷ []

-- at `total`, which holds this value under this status
abbrev over_total : Call → List ℕ → Status → List ℕ
over_total c v st = said c total_key (holding 1 (rec total_key v st ∷ []))

-- a write to another key
abbrev written : List ℕ → List ℕ → List ℕ
written k v = said (Setting v) k (holding 0 [])

-- ---- deltas

-- accepted: 0; else the number and the place
abbrev heard : List Op → List ℕ
heard ops = (read_told (read_answer (read_delta_as Meter (delta_bytes ops)))).number ∷ (read_told (read_answer (read_delta_as Meter (delta_bytes ops)))).values

abbrev sent : List ℕ → List ℕ → ℕ → Status → Op
sent k v n st = KeyValueOp (record { key = k; value = v; version = n; status = st })

abbrev node : Op
node = NodeOp 7 0 0

-- ---- applying them to node 7, in the plain mode

abbrev value_of : Option Rec → List ℕ
value_of none = []
value_of (some r) = r.kv.value

abbrev total_in : Option Node → List ℕ
total_in none = []
total_in (some n) = value_of (find total_key n.recs)

-- the answer's number, and the value at `total` afterwards
abbrev taken : Table → List Op → List ℕ
taken t ops =
    let o : ApplyOutcome = apply (ways_in (kind Plain Meter)) (delta_bytes ops) 0 t (0 ∷ []) in
    (applied_told o.answer).number ∷ total_in (node_of 7 o.table)

unfoldable pub rows : List Row
rows =
    -- numbers and not texts: 10 over 9 is done, 9 over 10 is 18
    row (over_total (Setting (49 ∷ 48 ∷ [])) (57 ∷ []) Set) (0 ∷ [])
    ∷ row (over_total (Setting (57 ∷ [])) (49 ∷ 48 ∷ []) Set) (18 ∷ [])
    -- 007 is 7: neither way smaller
    ∷ row (over_total (Setting (48 ∷ 48 ∷ 55 ∷ [])) (55 ∷ []) Set) (0 ∷ [])
    ∷ row (over_total (Setting (55 ∷ [])) (48 ∷ 48 ∷ 55 ∷ []) Set) (0 ∷ [])
    -- the same again, and a greater one
    ∷ row (over_total (Setting (55 ∷ [])) (55 ∷ []) Set) (0 ∷ [])
    ∷ row (over_total (Setting (56 ∷ [])) (55 ∷ []) Set) (0 ∷ [])
    -- empty counts as 0: under TTL it is smaller than 7, and nothing is smaller than an empty one; under Set it is out of form
    ∷ row (over_total (SettingTtl [] 5) (55 ∷ []) Set) (18 ∷ [])
    ∷ row (over_total (Setting (48 ∷ [])) [] Ttl) (0 ∷ [])
    ∷ row (over_total (Setting []) (55 ∷ []) Set) (17 ∷ [])
    -- a TTL record is not hidden, a deleted one is, with digits too
    ∷ row (over_total (Setting (54 ∷ [])) (55 ∷ []) Ttl) (18 ∷ [])
    ∷ row (over_total (Setting (54 ∷ [])) [] Delete) (0 ∷ [])
    ∷ row (over_total (Setting (54 ∷ [])) (55 ∷ []) Delete) (0 ∷ [])
    -- the deletes state nothing, and are never 17
    ∷ row (over_total (Deleting 5) (55 ∷ []) Set) (0 ∷ [])
    ∷ row (over_total (DeletingAfterTtl 5) (55 ∷ []) Set) (0 ∷ [])
    ∷ row (said (Deleting 5) (47 ∷ []) (holding 0 [])) (3 ∷ [])
    ∷ row (said (DeletingAfterTtl 5) [] (holding 0 [])) (3 ∷ [])
    -- any other key may fall
    ∷ row (said (Setting (54 ∷ [])) (116 ∷ []) (holding 1 (rec (116 ∷ []) (55 ∷ []) Set ∷ []))) (0 ∷ [])
    -- 18 comes before 6, and 17 before 18; 1 and 2 before 17
    ∷ row (said (Setting (52 ∷ [])) total_key (holding top (rec total_key (53 ∷ []) Set ∷ []))) (18 ∷ [])
    ∷ row (said (Setting (54 ∷ [])) total_key (holding top (rec total_key (53 ∷ []) Set ∷ []))) (6 ∷ [])
    ∷ row (over_total (Setting (45 ∷ 49 ∷ [])) (55 ∷ []) Set) (17 ∷ [])
    ∷ row (written (replicate 33 47) []) (1 ∷ [])
    ∷ row (written (97 ∷ []) (replicate 65 47)) (1 ∷ [])
    ∷ row (said (Setting []) [] []) (2 ∷ [])
    -- keys: 1 to 32 of a to z, 0 to 9 and the dot
    ∷ row (written (97 ∷ 122 ∷ 48 ∷ 57 ∷ 46 ∷ []) (48 ∷ [])) (0 ∷ [])
    ∷ row (written (replicate 32 97) (48 ∷ [])) (0 ∷ [])
    ∷ row (written [] (48 ∷ [])) (17 ∷ [])
    ∷ row (written (96 ∷ []) (48 ∷ [])) (17 ∷ [])
    ∷ row (written (123 ∷ []) (48 ∷ [])) (17 ∷ [])
    ∷ row (written (47 ∷ []) (48 ∷ [])) (17 ∷ [])
    ∷ row (written (58 ∷ []) (48 ∷ [])) (17 ∷ [])
    ∷ row (written (45 ∷ []) (48 ∷ [])) (17 ∷ [])
    ∷ row (written (97 ∷ 65 ∷ []) (48 ∷ [])) (17 ∷ [])
    -- values: 1 to 10 digits
    ∷ row (written (97 ∷ []) (replicate 10 57)) (0 ∷ [])
    ∷ row (written (97 ∷ []) (replicate 11 48)) (17 ∷ [])
    ∷ row (written (97 ∷ []) (47 ∷ [])) (17 ∷ [])
    ∷ row (written (97 ∷ []) (58 ∷ [])) (17 ∷ [])
    ∷ row (written (97 ∷ []) (48 ∷ 46 ∷ [])) (17 ∷ [])
    -- in a delta: a record out of form is 17 at its tag, behind its own 11; the first operation at fault decides
    ∷ row (heard (node ∷ sent (97 ∷ []) (49 ∷ []) 1 Set ∷ [])) (0 ∷ 2 ∷ 1 ∷ [])
    ∷ row (heard (node ∷ sent (47 ∷ []) (49 ∷ []) 1 Set ∷ [])) (17 ∷ 25 ∷ [])
    ∷ row (heard (sent (47 ∷ []) (49 ∷ []) 1 Set ∷ [])) (11 ∷ 0 ∷ [])
    ∷ row (heard (node ∷ sent (97 ∷ []) (49 ∷ []) 1 Set ∷ sent (47 ∷ []) (49 ∷ []) 1 Set ∷ [])) (11 ∷ 41 ∷ [])
    ∷ row (heard (node ∷ sent (47 ∷ []) (49 ∷ []) 1 Set ∷ node ∷ [])) (17 ∷ 25 ∷ [])
    ∷ row (heard (node ∷ node ∷ sent (47 ∷ []) (49 ∷ []) 1 Set ∷ [])) (12 ∷ 25 ∷ [])
    -- empty under Delete or TTL, not under Set; digits under Delete; and no record is judged for size
    ∷ row (heard (node ∷ sent total_key [] 1 Delete ∷ sent total_key [] 2 Ttl ∷ sent total_key (55 ∷ []) 3 Delete ∷ [])) (0 ∷ 4 ∷ 1 ∷ [])
    ∷ row (heard (node ∷ sent total_key [] 1 Set ∷ [])) (17 ∷ 25 ∷ [])
    ∷ row (heard (node ∷ sent total_key (55 ∷ []) 1 Set ∷ sent total_key (54 ∷ []) 2 Set ∷ [])) (0 ∷ 3 ∷ 1 ∷ [])
    -- so a smaller total is taken from a peer
    ∷ row (taken (holding 1 (rec total_key (55 ∷ []) Set ∷ [])) (node ∷ sent total_key (54 ∷ []) 2 Set ∷ [])) (0 ∷ 54 ∷ [])
    -- the form is asked of a record that would be skipped too, and of a node that the table does not have
    ∷ row (taken (holding 1 (rec total_key (55 ∷ []) Set ∷ [])) (node ∷ sent total_key [] 1 Set ∷ sent total_key (56 ∷ []) 2 Set ∷ [])) (17 ∷ 55 ∷ [])
    ∷ row (taken [] (node ∷ sent (47 ∷ []) [] 1 Set ∷ [])) (17 ∷ [])
    ∷ []

pub all-agree : all agrees rows ≡ true
unfolding all agrees rows same_bytes less_bytes answer_told read_told applied_told apply apply_each apply_node codes delta_status status_of newer_of outcome take_all takes call_as call decide wish find act store one.write node_of set_node among meter_key meter_value numeral smaller read_delta_as read_ops_as read_op read_node read_key_value read_set_max_version follow delta_bytes op_bytes text_bytes bytes_of nat_of flat parts_of max_of recs_of
all-agree = refl
