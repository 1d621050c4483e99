-- Evidence, and no part of a promise: rows that tell the shared profile (Party, Profile, ticket 9) from others that are near it. Each row is a call on a small input, and
-- what the ticket says of it. Assumes nothing.
use Prim.Native.Nat.{ℕ, zero, suc}
use mathlib.Core.Bool.{Bool, true, false}
use mathlib.Core.List.{List, [], ◌∷◌, ◌++◌}
use mathlib.Core.Path.{◌≡◌, refl}
use lib.ListN.{replicate}
use Rattle.fields.specs.Blocks.{flat}
use Rattle.fields.specs.Choice.{all, keep}
use Rattle.fields.specs.Numbers.{bytes_of, nat_of}
use Rattle.fields.specs.Order.{less_bytes, same_bytes, starts_with}
use Rattle.fields.specs.Parts.{put}
use Rattle.rules.specs.Answers.{Told, answer_told, listed_told, read_told, refused}
use Rattle.rules.specs.Apply.{apply, apply_each, apply_node, codes, delta_status, newer_of, outcome, status_of, take_all, takes, ways_in}
use Rattle.rules.specs.Delta.{NodeOp, KeyValueOp, Op, delta_bytes, follow, max_of, op_bytes, parts_of, read_answer, read_key_value, read_node, read_op, read_set_max_version, recs_of, text_bytes}
use Rattle.rules.specs.Local.{Found, NotFound, Nothing, Value, call, call_as, lookup, lookup_as, prefixed, prefixed_as}
use Rattle.rules.specs.Node.{Call, Setting, SettingTtl, Deleting, DeletingAfterTtl, Rec, act, beats, decide, find, hits_from, store, wish}
use Rattle.rules.specs.Node as one
use Rattle.rules.specs.Party.{alone}
use Rattle.rules.specs.Profile.{kind, profile_obeys, read_delta_as, read_ops_as}
use Rattle.rules.specs.Sizes.{top}
use Rattle.rules.specs.Table.{Table, among, node_of, set_node}
use Rattle.rules.specs.declared.Mode.TheVariants.{Plain}
use Rattle.rules.specs.declared.Party.{Party}
use Rattle.rules.specs.declared.Party.TheVariants.{Metering, Building, Nobody}
use Rattle.rules.specs.declared.Profile.TheVariants.{Shared}
use Rattle.rules.specs.declared.Status.TheVariants.{Set}

-- what the profile says, and what the ticket does
pub record Row : Type 0 where
  pub profile : List ℕ
  pub ticket : List ℕ

abbrev row : List ℕ → List ℕ → Row
row p t = record { profile = p; ticket = t }

unfoldable pub agrees : Row → Bool
agrees r = same_bytes r.profile r.ticket

-- ---- records and tables

-- keys `m/..` and `b/..`
abbrev m : List ℕ → List ℕ
m k = 109 ∷ 47 ∷ k

abbrev b : List ℕ → List ℕ
b k = 98 ∷ 47 ∷ k

abbrev rec : List ℕ → ℕ → Rec
rec k v = record { kv = record { key = k; value = []; version = v; status = Set }; start = 0 }

-- so many of a party's records, with keys of one byte behind its prefix
unfoldable pub some_of : (prefix : ℕ) (n v : ℕ) → List Rec
some_of p zero v = []
some_of p (suc n) v = rec (p ∷ 47 ∷ v ∷ []) v ∷ some_of p n (suc v)

abbrev holding : ℕ → List Rec → Table
holding mx l = record { number = 7; node = record { heartbeat = beats 0; max = mx; last_gc = 0; recs = l } } ∷ []

-- full of one party's, and of both
abbrev full : ℕ → Table
full p = holding 16 (some_of p 16 1)

abbrev both_full : Table
both_full = holding 32 (some_of 98 16 1 ++ some_of 109 16 17)

-- ---- calls at node 7

abbrev said : Party → Call → List ℕ → Table → List ℕ
said q c k t = (answer_told (call_as Shared q c 7 k t).answer).number ∷ []

-- 0 and the value, or the number
abbrev found : Found → List ℕ
found (Value v) = 0 ∷ v
found Nothing = 0 ∷ 9 ∷ []
found (NotFound r) = (refused r []).number ∷ []

abbrev looked : Party → List ℕ → Table → List ℕ
looked q k t = found (lookup_as Shared q 7 k t)

-- the number, how many, and their places in a list of three
abbrev told_of : Told → List ℕ → List ℕ
told_of t l = t.number ∷ t.values ++ l

abbrev listed : Party → List ℕ → Table → List ℕ
listed q k t = told_of (listed_told (prefixed_as Shared q 7 k t (9 ∷ 9 ∷ 9 ∷ [])).answer) (prefixed_as Shared q 7 k t (9 ∷ 9 ∷ 9 ∷ [])).lent

-- ---- deltas

abbrev heard : List Op → List ℕ
heard ops = (read_told (read_answer (read_delta_as Shared (delta_bytes ops)))).number ∷ (read_told (read_answer (read_delta_as Shared (delta_bytes ops)))).values

abbrev sent : List ℕ → ℕ → Op
sent k v = KeyValueOp (record { key = k; value = []; version = v; status = Set })

abbrev node : ℕ → Op
node from = NodeOp 7 0 from

unfoldable pub sent_of : List Rec → List Op
sent_of [] = []
sent_of (r ∷ l) = KeyValueOp r.kv ∷ sent_of l

-- the node's answer
abbrev taken : Table → List Op → List ℕ
taken t ops = (apply (ways_in (kind Plain Shared)) (delta_bytes ops) 0 t (9 ∷ [])).list

abbrev bit : Bool → List ℕ
bit true = 1 ∷ []
bit false = 0 ∷ []

abbrev obeying : Table → List ℕ
obeying t = bit (profile_obeys Shared t)

abbrev x : Rec
x = rec (b (120 ∷ [])) 1

abbrev a : Rec
a = rec (m (97 ∷ [])) 2

-- one of the building manager's, two of the metering firm's
abbrev three : Table
three = holding 3 (x ∷ a ∷ rec (m (98 ∷ [])) 3 ∷ [])

unfoldable pub rows : List Row
rows =
    -- whose a key is: the two bytes, and nothing less
    row (said Metering (Setting []) (m []) (holding 0 [])) (0 ∷ [])
    ∷ row (said Building (Setting []) (b []) (holding 0 [])) (0 ∷ [])
    ∷ row (said Metering (Setting []) (b []) (holding 0 [])) (19 ∷ [])
    ∷ row (said Building (Setting []) (m []) (holding 0 [])) (19 ∷ [])
    ∷ row (said Metering (Setting []) (109 ∷ []) (holding 0 [])) (19 ∷ [])
    ∷ row (said Metering (Setting []) [] (holding 0 [])) (19 ∷ [])
    ∷ row (said Metering (Setting []) (77 ∷ 47 ∷ []) (holding 0 [])) (19 ∷ [])
    ∷ row (said Nobody (Setting []) (m []) (holding 0 [])) (19 ∷ [])
    ∷ row (said Nobody (Setting []) (b []) (holding 0 [])) (19 ∷ [])
    -- 2 and 1 before 19; 19 before 3, before nothing to change, before 5 and 6
    ∷ row (said Metering (Setting []) (b []) []) (2 ∷ [])
    ∷ row (said Metering (Setting []) (b (replicate 31 97)) (holding 0 [])) (1 ∷ [])
    ∷ row (said Metering (Setting (replicate 65 97)) (b []) (holding 0 [])) (1 ∷ [])
    ∷ row (said Metering (Deleting 5) (b []) (holding 0 [])) (19 ∷ [])
    ∷ row (said Metering (DeletingAfterTtl 5) (b []) (holding 0 [])) (19 ∷ [])
    ∷ row (said Metering (Deleting 5) (m []) (holding 0 [])) (3 ∷ [])
    ∷ row (said Metering (Setting []) (b (120 ∷ [])) three) (19 ∷ [])
    ∷ row (said Metering (Deleting 5) (b (120 ∷ [])) three) (19 ∷ [])
    ∷ row (said Metering (Setting []) (b []) (full 109)) (19 ∷ [])
    ∷ row (said Metering (Setting []) (b []) (holding top [])) (19 ∷ [])
    -- 5 at the 17th of its own, whatever the other has; a key that is there is no new one; the deletes ask for no room
    ∷ row (said Metering (Setting []) (m []) (full 109)) (5 ∷ [])
    ∷ row (said Metering (SettingTtl [] 5) (m []) (full 109)) (5 ∷ [])
    ∷ row (said Metering (Setting []) (m []) (full 98)) (0 ∷ [])
    ∷ row (said Building (Setting []) (b []) (full 109)) (0 ∷ [])
    ∷ row (said Metering (Setting []) (m []) (holding 15 (some_of 109 15 1))) (0 ∷ [])
    ∷ row (said Metering (Setting (49 ∷ [])) (m (1 ∷ [])) (full 109)) (0 ∷ [])
    ∷ row (said Metering (Setting []) (m (1 ∷ [])) (full 109)) (0 ∷ [])
    ∷ row (said Metering (Deleting 5) (m (1 ∷ [])) (full 109)) (0 ∷ [])
    ∷ row (said Metering (Deleting 5) (m []) (full 109)) (3 ∷ [])
    ∷ row (said Metering (Setting []) (m []) both_full) (5 ∷ [])
    -- 6 behind 5
    ∷ row (said Metering (Setting []) (m []) (holding top (some_of 109 16 1))) (5 ∷ [])
    ∷ row (said Metering (Setting []) (m []) (holding top [])) (6 ∷ [])
    -- a lookup: 2, 1, 19
    ∷ row (looked Metering (m (97 ∷ [])) three) (0 ∷ [])
    ∷ row (looked Metering (m (99 ∷ [])) three) (0 ∷ 9 ∷ [])
    ∷ row (looked Metering (b (120 ∷ [])) three) (19 ∷ [])
    ∷ row (looked Metering (b (99 ∷ [])) three) (19 ∷ [])
    ∷ row (looked Metering (b (replicate 31 97)) three) (1 ∷ [])
    ∷ row (looked Metering (b []) []) (2 ∷ [])
    ∷ row (looked Nobody (m (97 ∷ [])) three) (19 ∷ [])
    -- a listing: its own keys alone, places among them, and never 19
    ∷ row (listed Metering [] three) (0 ∷ 2 ∷ 0 ∷ 1 ∷ 9 ∷ [])
    ∷ row (listed Building [] three) (0 ∷ 1 ∷ 0 ∷ 9 ∷ 9 ∷ [])
    ∷ row (listed Metering (b []) three) (0 ∷ 0 ∷ 9 ∷ 9 ∷ 9 ∷ [])
    ∷ row (listed Metering (m (98 ∷ [])) three) (0 ∷ 1 ∷ 1 ∷ 9 ∷ 9 ∷ [])
    ∷ row (listed Nobody [] three) (0 ∷ 0 ∷ 9 ∷ 9 ∷ 9 ∷ [])
    -- in a delta: a key of either is taken, one of neither is 19 at its tag, behind its own 11; the first operation at fault decides
    ∷ row (heard (node 0 ∷ sent (m []) 1 ∷ sent (b []) 2 ∷ [])) (0 ∷ 3 ∷ 1 ∷ [])
    ∷ row (heard (node 0 ∷ sent (120 ∷ []) 1 ∷ [])) (19 ∷ 25 ∷ [])
    ∷ row (heard (sent (120 ∷ []) 1 ∷ [])) (11 ∷ 0 ∷ [])
    ∷ row (heard (node 0 ∷ sent (120 ∷ []) 1 ∷ node 0 ∷ [])) (19 ∷ 25 ∷ [])
    ∷ row (heard (node 0 ∷ node 0 ∷ sent (120 ∷ []) 1 ∷ [])) (12 ∷ 25 ∷ [])
    -- Room over 16 of either, though the node has fewer than 33; 16 of both are taken
    ∷ row (taken (full 109) (node 0 ∷ sent (m (99 ∷ [])) 17 ∷ [])) (3 ∷ [])
    ∷ row (taken (full 109) (node 0 ∷ sent (b (99 ∷ [])) 17 ∷ [])) (1 ∷ [])
    ∷ row (taken (holding 0 []) (node 0 ∷ sent_of (some_of 98 17 1))) (3 ∷ [])
    ∷ row (taken (holding 0 []) (node 0 ∷ sent_of (some_of 98 16 1) ++ sent_of (some_of 109 16 17))) (1 ∷ [])
    -- the rules of 14
    ∷ row (obeying both_full) (1 ∷ [])
    ∷ row (obeying (holding 17 (some_of 98 17 1))) (0 ∷ [])
    ∷ row (obeying (holding 1 (rec (120 ∷ []) 1 ∷ []))) (0 ∷ [])
    ∷ []

pub all-agree : all agrees rows ≡ true
unfolding all agrees rows some_of sent_of same_bytes less_bytes starts_with keep answer_told listed_told read_told put apply apply_each apply_node codes delta_status status_of newer_of outcome take_all takes call_as call lookup_as lookup prefixed_as prefixed alone hits_from decide wish find act store one.write node_of set_node among profile_obeys read_delta_as read_ops_as read_op read_node read_key_value read_set_max_version follow delta_bytes op_bytes text_bytes bytes_of nat_of flat parts_of max_of recs_of
all-agree = refl
