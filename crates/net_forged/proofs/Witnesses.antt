-- What a forged delta can do to a follower, the smallest run of it, and the two ways out. Computed. Assumes nothing.
use Prim.Native.Nat.{ℕ}
use mathlib.Core.List.{List, [], ◌∷◌, ◌++◌}
use mathlib.Core.Option.{Option, none, some}
use mathlib.Core.Path.{◌≡◌, refl}
use Rattle.fields.specs.Blocks.{flat}
use Rattle.fields.specs.Choice.{all}
use Rattle.fields.specs.Numbers.{bytes_of, nat_of}
use Rattle.fields.specs.Order.{less_bytes, same_bytes}
use Rattle.fields.specs.Parts.{part, put}
use Rattle.rules.specs.Apply.{apply, apply_each, apply_node, codes, delta_status, guarded_ways, newer_of, outcome, status_of, take_all, takes}
use Rattle.rules.specs.Delta.{NodeOp, KeyValueOp, delta_bytes, follow, max_of, op_bytes, parts_of, read_delta, read_key_value, read_node, read_op, read_ops, read_set_max_version, recs_of, text_bytes}
use Rattle.rules.specs.Local.{add, call, call_as, remove_node}
use Rattle.rules.specs.Node.{Node, Setting, act, decide, find, store, wish, write}
use Rattle.rules.specs.Table.{add_node, among, drop_node, node_of, numbers_of, set_node, versions}
use Rattle.rules.specs.declared.Party.TheVariants.{Nobody}
use Rattle.rules.specs.declared.Profile.TheVariants.{Free}
use Rattle.rules.specs.declared.Status.TheVariants as status
use Rattle.leaving.specs.Leaving.{apply_leaving, leaving_each}
use Rattle.net.specs.Net.{Plan, Writing, Adding, Dropping, begin, happen}
use Rattle.net_forged.specs.Forged.{Doing, Own, Coming, happens, own_of, runs}

-- hub 0 owns every node, all hubs are guarded
abbrev pub plan : Plan
plan = record { owner = λ i. 0; ways = λ x. guarded_ways; profiles = λ x. Free }

-- key a of node 7, of one byte, under a version
abbrev pub told : (from version value : ℕ) → List ℕ
told from v b = delta_bytes (NodeOp 7 0 from ∷ KeyValueOp (record { key = 97 ∷ []; value = b ∷ []; version = v; status = status.Set }) ∷ [])

abbrev pub writes : (value : ℕ) → Doing
writes b = Own (Writing 0 7 (97 ∷ []) Nobody (Setting (b ∷ [])))

-- the owner wrote a, and hub 1 heard it
abbrev pub heard : List Doing
heard = Own (Adding 0 7) ∷ Own (Adding 1 7) ∷ writes 1 ∷ Coming 1 (told 0 1 1) 0 (0 ∷ []) ∷ []

-- one forged delta, with version 3, comes to both
abbrev pub forged : List Doing
forged = Coming 0 (told 0 3 9) 0 (0 ∷ []) ∷ Coming 1 (told 0 3 9) 0 (0 ∷ []) ∷ []

-- the owner writes again, and what it computes comes to hub 1: for a digest that tells nothing
abbrev pub goes_on : List Doing
goes_on = writes 2 ∷ Coming 1 (told 0 2 2) 0 (0 ∷ []) ∷ []

abbrev max_on : Option Node → List ℕ
max_on none = []
max_on (some n) = n.max ∷ versions n.recs

-- max and the versions of node 7 at a hub
abbrev pub at : (hub : ℕ) (doings : List Doing) → List ℕ
at x ds = max_on (node_of 7 ((runs plan ds begin).hubs x))

-- The owner keeps version 1 and goes on with 2. Hub 1 shows the forged value, and rejects what the owner sends.
pub follower-shows : (at 0 (heard ++ forged) ≡ 1 ∷ 1 ∷ []) × (at 1 (heard ++ forged) ≡ 3 ∷ 3 ∷ []) × (at 0 (heard ++ (forged ++ goes_on)) ≡ 2 ∷ 2 ∷ []) × (at 1 (heard ++ (forged ++ goes_on)) ≡ 3 ∷ 3 ∷ [])
unfolding runs happens happen own_of add add_node numbers_of among call_as call node_of set_node decide wish find act write store same_bytes less_bytes delta_bytes op_bytes text_bytes bytes_of nat_of part put flat all apply apply_leaving leaving_each apply_each apply_node delta_status status_of newer_of outcome take_all takes codes read_delta read_ops read_op read_node read_key_value read_set_max_version follow parts_of recs_of max_of versions
follower-shows = (refl, refl, refl, refl)

-- the first way out: hub 1 removes the node, adds it again, and hears the owner
abbrev pub again : List Doing
again = Own (Dropping 1 7) ∷ Own (Adding 1 7) ∷ Coming 1 (told 0 2 2) 0 (0 ∷ []) ∷ []

pub heals-again : at 1 (heard ++ (forged ++ (goes_on ++ again))) ≡ 2 ∷ 2 ∷ []
unfolding runs happens happen own_of add add_node numbers_of among call_as call node_of set_node remove_node drop_node decide wish find act write store same_bytes less_bytes delta_bytes op_bytes text_bytes bytes_of nat_of part put flat all apply apply_leaving leaving_each apply_each apply_node delta_status status_of newer_of outcome take_all takes codes read_delta read_ops read_op read_node read_key_value read_set_max_version follow parts_of recs_of max_of versions
heals-again = refl

-- the second: the owner's max comes above the forged one, here by two writes, and what it computes then for hub 1's digest is taken
abbrev pub above : List Doing
above = writes 3 ∷ writes 4 ∷ Coming 1 (told 3 4 4) 0 (0 ∷ []) ∷ []

pub heals-above : at 1 (heard ++ (forged ++ (goes_on ++ above))) ≡ 4 ∷ 4 ∷ []
unfolding runs happens happen own_of add add_node numbers_of among call_as call node_of set_node decide wish find act write store same_bytes less_bytes delta_bytes op_bytes text_bytes bytes_of nat_of part put flat all apply apply_leaving leaving_each apply_each apply_node delta_status status_of newer_of outcome take_all takes codes read_delta read_ops read_op read_node read_key_value read_set_max_version follow parts_of recs_of max_of versions
heals-above = refl
