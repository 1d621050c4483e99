-- What the two runs do not promise (ticket 9's theorem, Runs): each claim with two runs that agree on what concerns the metering firm, and what then differs.
-- All of it is computed. Assumes nothing.
use Prim.Native.Nat.{ℕ, ◌-◌}
use mathlib.Core.Bool.{true}
use mathlib.Core.List.{List, [], ◌∷◌}
use mathlib.Core.Option.{Option, none, some}
use mathlib.Core.Path.{◌≡◌, refl}
use lib.ListN.{length, get_or, replicate}
use Rattle.fields.specs.Blocks.{all_zero, flat, zeros}
use Rattle.fields.specs.Choice.{all, keep}
use Rattle.fields.specs.Numbers.{Bytes, bytes_of, nat_of}
use Rattle.fields.specs.Order.{less_bytes, same_bytes, starts_with}
use Rattle.fields.specs.Parts.{put}
use Rattle.rules.specs.Sizes.{top}
use Rattle.rules.specs.Answers.{answer_told}
use Rattle.rules.specs.Apply.{apply, apply_each, apply_node, codes, delta_status, newer_of, outcome, status_of, take_all, takes, ways_in}
use Rattle.rules.specs.Delta.{KeyValueOp, NodeOp, delta_bytes, follow, max_of, op_bytes, parts_of, read_key_value, read_node, read_op, read_set_max_version, recs_of, text_bytes}
use Rattle.rules.specs.Digest.{digest_bytes, digest_of, entry_bytes, head_width}
use Rattle.rules.specs.Local.{call, call_as, gc, prefixed}
use Rattle.rules.specs.Memory.{apart, memory_obeys, removed_numbers}
use Rattle.rules.specs.Node.{Setting, SettingTtl, Rec, Node, act, beats, decide, find, fresh, hits_from, last_gc_of, remove, store, wish}
use Rattle.rules.specs.Node as one
use Rattle.rules.specs.Profile.{kind, profile_obeys, read_delta_as, read_ops_as}
use Rattle.rules.specs.Table.{among, differ, entry_obeys, keys_rise, node_obeys, node_of, numbers_of, obeys, remove_all, rising, set_node, versions}
use Rattle.rules.specs.Whole.{Whole, obeys_whole}
use Rattle.rules.specs.declared.Mode.TheVariants as mode
use Rattle.rules.specs.declared.Party.TheVariants.{Metering, Building}
use Rattle.rules.specs.declared.Profile.TheVariants.{Shared}
use Rattle.rules.specs.declared.Status.TheVariants as status
use Rattle.grid.specs.Grid.{Grid, no_rows, obeys_grid, of_present, place_of, rows_obey}
use Rattle.grid.specs.LentGrid.{carefully_removed}
use Rattle.parties.specs.Readings.{Reading, reading_said}
use Rattle.parties.specs.TwoRuns.{Event, Calling, Removing, Said, after, heard, stripped}

-- ---- runs

-- a shared table of one node, 7
abbrev holding : (node : Node) → Whole
holding n = record { kind = kind mode.Plain Shared; memory = []; table = record { number = 7; node = n } ∷ [] }

abbrev pub start : Whole
start = holding fresh

-- `m/a`, `b/x`
abbrev mine : Bytes
mine = 109 ∷ 47 ∷ 97 ∷ []

abbrev theirs : Bytes
theirs = 98 ∷ 47 ∷ 120 ∷ []

abbrev pub sets : Event Reading
sets = Calling Metering 7 mine (Setting (49 ∷ []))

abbrev sets_ttl : Event Reading
sets_ttl = Calling Metering 7 mine (SettingTtl (49 ∷ []) 0)

abbrev pub other : Event Reading
other = Calling Building 7 theirs (Setting [])

abbrev other_ttl : Event Reading
other_ttl = Calling Building 7 theirs (SettingTtl [] 0)

-- the runs agree on what concerns the metering firm, and what is shown of the one and of the other differs
abbrev pub Differ : (from : Whole) (es fs : List (Event Reading)) (shown : Whole → List ℕ) (one another : List ℕ) → Type 0
Differ w es fs f a b = (stripped Metering es ≡ stripped Metering fs) × (f (after es w) ≡ a) × (f (after fs w) ≡ b)

-- ---- what may be shown

abbrev of_node : (shown : Node → List ℕ) (held : Option Node) → List ℕ
of_node f none = []
of_node f (some n) = f n

abbrev node_in : (shown : Node → List ℕ) (whole : Whole) → List ℕ
node_in f w = of_node f (node_of 7 w.table)

abbrev version_of : Option Rec → List ℕ
version_of none = []
version_of (some r) = r.kv.version ∷ []

-- where it starts it obeys the rules
pub start-obeys : obeys_whole start ≡ true
unfolding obeys_whole obeys rising numbers_of all entry_obeys node_obeys keys_rise differ versions memory_obeys removed_numbers apart among profile_obeys keep
start-obeys = refl

-- the version of a record: the other has written before
pub version-told : Differ start (sets ∷ []) (other ∷ sets ∷ []) (node_in (λ n. version_of (find mine n.recs))) (1 ∷ []) (2 ∷ [])
unfolding after keep call_as call decide wish find act store one.write node_of set_node same_bytes less_bytes starts_with
version-told = (refl, refl, refl)

-- max and last_gc of the node
pub max-told : Differ start (sets ∷ []) (other ∷ sets ∷ []) (node_in (λ n. n.max ∷ [])) (1 ∷ []) (2 ∷ [])
unfolding after keep call_as call decide wish find act store one.write node_of set_node same_bytes less_bytes starts_with
max-told = (refl, refl, refl)

pub last-gc-told : Differ start (sets ∷ Removing 0 0 ∷ []) (other_ttl ∷ sets ∷ Removing 0 0 ∷ []) (node_in (λ n. n.last_gc ∷ [])) (0 ∷ []) (1 ∷ [])
unfolding after keep call_as call decide wish find act store one.write node_of set_node same_bytes less_bytes starts_with gc remove_all remove last_gc_of
last-gc-told = (refl, refl, refl)

-- a digest's bytes, here the 27th, which is max's lowest
pub digest-told : Differ start (sets ∷ []) (other ∷ sets ∷ []) (λ w. get_or (digest_bytes 0 (digest_of [] w.table)) 26 0 ∷ []) (1 ∷ []) (2 ∷ [])
unfolding after keep call_as call decide wish find act store one.write node_of set_node same_bytes less_bytes starts_with digest_bytes digest_of entry_bytes head_width flat bytes_of among
digest-told = (refl, refl, refl)

-- places counted in the node, and how many records it has
pub place-told : Differ start (sets ∷ []) (other ∷ sets ∷ []) (λ w. (prefixed 7 (109 ∷ []) w.table (9 ∷ [])).lent) (0 ∷ []) (1 ∷ [])
unfolding after keep call_as call decide wish find act store one.write node_of set_node same_bytes less_bytes starts_with prefixed hits_from put
place-told = (refl, refl, refl)

pub count-told : Differ start (sets ∷ []) (other ∷ sets ∷ []) (node_in (λ n. length n.recs ∷ [])) (1 ∷ []) (2 ∷ [])
unfolding after keep call_as call decide wish find act store one.write node_of set_node same_bytes less_bytes starts_with
count-told = (refl, refl, refl)

-- the same delta, applied in both: Apply against Reject
abbrev delta : Bytes
delta = delta_bytes (NodeOp 7 0 0 ∷ KeyValueOp (record { key = mine; value = []; version = 1; status = status.Set }) ∷ [])

pub delta-applied : Differ start [] (other ∷ []) (λ w. (apply (ways_in w.kind) delta 0 w.table (9 ∷ [])).list) (1 ∷ []) (0 ∷ [])
unfolding after keep call_as call decide wish find act store one.write node_of set_node same_bytes less_bytes starts_with apply apply_each apply_node codes delta_status status_of newer_of outcome take_all takes read_delta_as read_ops_as read_op read_node read_key_value read_set_max_version follow delta_bytes op_bytes text_bytes bytes_of nat_of flat parts_of max_of recs_of among put
delta-applied = (refl, refl, refl)

-- an own write is answered 6, where the other has taken the last version
abbrev numbers_of_all : List Said → List ℕ
numbers_of_all [] = []
numbers_of_all (s ∷ l) = s.told.number ∷ numbers_of_all l

abbrev near_top : Whole
near_top = holding (record { heartbeat = beats 0; max = top - 1; last_gc = 0; recs = [] })

pub own-six : (stripped Metering (sets ∷ []) ≡ stripped Metering (other ∷ sets ∷ [])) × (numbers_of_all (heard reading_said Metering (sets ∷ []) near_top) ≡ 0 ∷ []) × (numbers_of_all (heard reading_said Metering (other ∷ sets ∷ []) near_top) ≡ 6 ∷ [])
unfolding heard keep call_as call decide wish find act store one.write node_of set_node same_bytes less_bytes starts_with answer_told
own-six = (refl, refl, refl)

-- careful removal (ticket 12), where a peer has told version 1: the own record goes, or stays
abbrev told : Grid
told = record { count = 1; numbers = 7 ∷ zeros 7; present = 1 ∷ zeros 7; gcs = no_rows; maxes = (1 ∷ zeros 7) ∷ replicate 7 (zeros 8) }

pub told-obeys : obeys_grid told ≡ true
unfolding obeys_grid rising all no_rows rows_obey all_zero zeros
told-obeys = refl

pub careful : Differ start (sets_ttl ∷ []) (other ∷ sets_ttl ∷ []) (λ w. of_node (λ n. length (keep (λ (r : Rec). starts_with (109 ∷ []) r.kv.key) n.recs) ∷ []) (node_of 7 (carefully_removed told 0 0 w.table))) (0 ∷ []) (1 ∷ [])
unfolding after keep call_as call decide wish find act store one.write node_of set_node same_bytes less_bytes starts_with remove_all remove last_gc_of all place_of of_present zeros
careful = (refl, refl, refl)

-- Keys, values and statuses alone are not what a party has: where starts differ, a removal takes one record and leaves the other.
abbrev begun : (at : ℕ) → Whole
begun n = holding (record { heartbeat = beats 0; max = 1; last_gc = 0; recs = record { kv = record { key = mine; value = []; version = 1; status = status.Ttl }; start = n } ∷ [] })

abbrev removes : Event Reading
removes = Removing 5 3

pub starts : (node_in (λ n. length n.recs ∷ []) (after (removes ∷ []) (begun 0)) ≡ 0 ∷ []) × (node_in (λ n. length n.recs ∷ []) (after (removes ∷ []) (begun 5)) ≡ 1 ∷ [])
unfolding after keep node_of gc remove_all remove last_gc_of
starts = (refl, refl)
