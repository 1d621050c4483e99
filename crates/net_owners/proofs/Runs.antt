-- Evidence, and no part of a promise: short runs in which a node changes hands, computed through every byte. Hub 0 owned node 7; hub 1 writes it from then on. Where it has all that
-- was given it goes well; where it lags, and where the old owner goes on writing, the claims fail. Assumes nothing.
use Prim.Native.Nat.{◌<◌, ℕ}
use mathlib.Core.List.{List, [], ◌++◌, ◌∷◌}
use mathlib.Core.Logic.{◌⊎◌, inl, inr}
use mathlib.Core.Option.{Option, none, some}
use mathlib.Core.Path.{◌∙◌, ◌≡◌, ap, refl, subst, sym}
use native.Mathlib.Omega.{arith}
use Rattle.fields.proofs.Choice.{in-cons, in-none}
use Rattle.fields.specs.Blocks.{flat, unblock}
use Rattle.fields.specs.Choice.{◌∈◌, all, here, keep, later}
use Rattle.fields.specs.Numbers.{bytes_of, nat_of}
use Rattle.fields.specs.Order.{less_bytes, same_bytes}
use Rattle.fields.specs.Parts.{part, put}
use Rattle.rules.specs.Apply.{apply, apply_each, apply_node, codes, delta_status, guarded_ways, newer_of, outcome, status_of, take_all, takes}
use Rattle.rules.specs.Compute.{all_ops, by_version, compute, cut, delta_for, from_of, key_value_ops, ordered, queue, sooner, stale, stale_nodes, told_of}
use Rattle.rules.specs.Delta.{delta_bytes, follow, max_of, op_bytes, parts_of, read_delta, read_key_value, read_node, read_op, read_ops, read_set_max_version, recs_of, size_of, text_bytes}
use Rattle.rules.specs.Digest.{digest_bytes, entry_bytes, entry_of, head_width, read_digest, read_entries, tell, tell_all}
use Rattle.rules.specs.Local.{add, call, call_as, gc}
use Rattle.rules.specs.Node.{KeyValue, Node, Rec, Setting, act, decide, find, last_gc_of, remove, store, wish, write}
use Rattle.rules.specs.Table.{add_node, among, node_of, numbers_of, remove_all, set_node, versions}
use Rattle.rules.specs.declared.Party.TheVariants.{Nobody}
use Rattle.rules.specs.declared.Status.TheVariants.{Set}
use Rattle.demand3.proofs.EachNode.{node_at, or_fresh}
use Rattle.demand3.specs.Demand3.{Holds}
use Rattle.demand3.specs.World.{cut_by, nth_sent}
use Rattle.net.specs.Net.{Adding, Event, Net, NetSound, Plan, Writing, after, begin, happen}
use Rattle.net_losing.specs.Losing.{Ordinary, Storing, doing}
use Rattle.net_runs.proofs.Stories.{a, alike, b, c, dead, hears, one, pair_at, set}
use Rattle.net_owners.specs.Owners.{Goes, Handing, Turn, handed_start, plan_now, turn, turns}

-- ---- the runs

-- hub 1 sets c
abbrev sets_c : Event
sets_c = Writing 1 7 c Nobody (Setting one)

-- hub 1 owns every node
abbrev new_plan : Plan
new_plan = plan_now (alike guarded_ways) (λ i. 1)

-- Hub 0 sets a, and hub 1 hears it. Hub 0 sets b, version 2, and hub 2 hears it. Hub 1, which has not, sets c: version 2 again.
abbrev lagging : Net
lagging = after new_plan (sets_c ∷ []) (after (alike guarded_ways) (Adding 0 7 ∷ Adding 1 7 ∷ Adding 2 7 ∷ set a ∷ (hears 1 0 0 0 ++ (set b ∷ hears 2 0 0 0))) begin)

-- Hub 0 sets a, and hub 1 hears it: it has all. It sets c, version 2; and hub 0 sets b all the same.
abbrev both_write : Net
both_write = after (alike guarded_ways) (set b ∷ []) (after new_plan (sets_c ∷ []) (after (alike guarded_ways) (Adding 0 7 ∷ Adding 1 7 ∷ set a ∷ hears 1 0 0 0) begin))

-- ---- one that goes well

unfoldable pub ordinary : List Event → List Turn
ordinary [] = []
ordinary (e ∷ es) = Goes (Ordinary e) ∷ ordinary es

-- hub 0 sets a, stores and sends it; hub 1 hears and stores it; before that it may not own the node, then it may, and sets c; hub 0 hears that
abbrev handed : List Turn
handed =
    ordinary (Adding 0 7 ∷ Adding 1 7 ∷ set a ∷ [])
    ++ (Goes (Storing 0)
    ∷ (ordinary (hears 1 0 0 0)
    ++ (Handing 7 1
    ∷ Goes (Storing 1)
    ∷ Handing 7 1
    ∷ (ordinary (sets_c ∷ [])
    ++ (Goes (Storing 1)
    ∷ ordinary (hears 0 1 0 1))))))

-- before it stored, hub 1 does not become the owner
abbrev too_soon : List Turn
too_soon = ordinary (Adding 0 7 ∷ Adding 1 7 ∷ set a ∷ []) ++ (Goes (Storing 0) ∷ (ordinary (hears 1 0 0 0) ++ (Handing 7 1 ∷ [])))

pub goes-well : ((turns (alike guarded_ways) too_soon (handed_start (alike guarded_ways))).owner 7 ≡ 0)
    × ((turns (alike guarded_ways) handed (handed_start (alike guarded_ways))).owner 7 ≡ 1)
    × (pair_at 0 (turns (alike guarded_ways) handed (handed_start (alike guarded_ways))).losing.net ≡ 0 ∷ 2 ∷ [])
    × (pair_at 1 (turns (alike guarded_ways) handed (handed_start (alike guarded_ways))).losing.net ≡ 0 ∷ 2 ∷ [])
unfolding after happen nth_sent cut_by add add_node numbers_of call_as call gc node_of set_node remove_all decide wish find act write store remove last_gc_of keep all same_bytes less_bytes among digest_bytes head_width entry_bytes entry_of read_entries read_digest tell tell_all compute delta_for cut all_ops ordered queue sooner stale_nodes told_of from_of stale by_version key_value_ops size_of delta_bytes op_bytes text_bytes bytes_of nat_of part put flat unblock apply apply_each apply_node delta_status status_of newer_of outcome take_all takes codes read_delta read_ops read_op read_node read_key_value read_set_max_version follow parts_of recs_of max_of versions turns turn ordinary doing
goes-well = (refl, refl, refl, refl)

-- ---- the others fail

lagging-pairs : (pair_at 1 lagging ≡ 0 ∷ 2 ∷ []) × (pair_at 2 lagging ≡ 0 ∷ 2 ∷ [])
unfolding after happen nth_sent cut_by add add_node numbers_of call_as call gc node_of set_node remove_all decide wish find act write store remove last_gc_of keep all same_bytes less_bytes among digest_bytes head_width entry_bytes entry_of read_entries read_digest tell tell_all compute delta_for cut all_ops ordered queue sooner stale_nodes told_of from_of stale by_version key_value_ops size_of delta_bytes op_bytes text_bytes bytes_of nat_of part put flat unblock apply apply_each apply_node delta_status status_of newer_of outcome take_all takes codes read_delta read_ops read_op read_node read_key_value read_set_max_version follow parts_of recs_of max_of versions
lagging-pairs = (refl, refl)

both-pairs : (pair_at 1 both_write ≡ 0 ∷ 2 ∷ []) × (pair_at 0 both_write ≡ 0 ∷ 2 ∷ [])
unfolding after happen nth_sent cut_by add add_node numbers_of call_as call gc node_of set_node remove_all decide wish find act write store remove last_gc_of keep all same_bytes less_bytes among digest_bytes head_width entry_bytes entry_of read_entries read_digest tell tell_all compute delta_for cut all_ops ordered queue sooner stale_nodes told_of from_of stale by_version key_value_ops size_of delta_bytes op_bytes text_bytes bytes_of nat_of part put flat unblock apply apply_each apply_node delta_status status_of newer_of outcome take_all takes codes read_delta read_ops read_op read_node read_key_value read_set_max_version follow parts_of recs_of max_of versions
both-pairs = (refl, refl)

there : Holds (node_at 7 (lagging.hubs 2)) dead × Holds (node_at 7 (both_write.hubs 0)) dead
unfolding after happen nth_sent cut_by add add_node numbers_of call_as call gc node_of set_node remove_all decide wish find act write store remove last_gc_of keep all same_bytes less_bytes among digest_bytes head_width entry_bytes entry_of read_entries read_digest tell tell_all compute delta_for cut all_ops ordered queue sooner stale_nodes told_of from_of stale by_version key_value_ops size_of delta_bytes op_bytes text_bytes bytes_of nat_of part put flat unblock apply apply_each apply_node delta_status status_of newer_of outcome take_all takes codes read_delta read_ops read_op read_node read_key_value read_set_max_version follow parts_of recs_of max_of versions
there = ((record { kv = dead; start = 0 }, later (here refl), refl), (record { kv = dead; start = 0 }, later (here refl), refl))

-- what hub 1 holds: a and c
abbrev held : (key : List ℕ) (version : ℕ) → Rec
held k v = record { kv = record { key = k; value = one; version = v; status = Set }; start = 0 }

theirs : ((node_at 7 (lagging.hubs 1)).recs ≡ held a 1 ∷ held c 2 ∷ []) × ((node_at 7 (both_write.hubs 1)).recs ≡ held a 1 ∷ held c 2 ∷ [])
unfolding after happen nth_sent cut_by add add_node numbers_of call_as call gc node_of set_node remove_all decide wish find act write store remove last_gc_of keep all same_bytes less_bytes among digest_bytes head_width entry_bytes entry_of read_entries read_digest tell tell_all compute delta_for cut all_ops ordered queue sooner stale_nodes told_of from_of stale by_version key_value_ops size_of delta_bytes op_bytes text_bytes bytes_of nat_of part put flat unblock apply apply_each apply_node delta_status status_of newer_of outcome take_all takes codes read_delta read_ops read_op read_node read_key_value read_set_max_version follow parts_of recs_of max_of versions
theirs = (refl, refl)

gone : (n : Node) → n.recs ≡ held a 1 ∷ held c 2 ∷ [] → Holds n dead → ⊥
unfolding nat_of
gone n e x = at (in-cons (subst (λ (l : List Rec). x.0 ∈ l) e x.1))
  where
    no : (k : List ℕ) (v : ℕ) → (nat_of k ≡ 98 → ⊥) → x.0 ≡ held k v → ⊥
    no k v f q = f (ap (λ (r : Rec). nat_of r.kv.key) (sym q) ∙ ap (λ (s : KeyValue). nat_of s.key) x.2)

    or : (x.0 ≡ held c 2) ⊎ (x.0 ∈ []) → ⊥
    or (inl q) = no c 2 (λ z. omega arith) q
    or (inr m) = in-none m

    at : (x.0 ≡ held a 1) ⊎ (x.0 ∈ held c 2 ∷ []) → ⊥
    at (inl q) = no a 1 (λ z. omega arith) q
    at (inr m) = or (in-cons m)

-- a node with a version is there
is-there : (o : Option Node) → 0 < (or_fresh o).max → o ≡ some (or_fresh o)
is-there none h = absurd (omega arith)
is-there (some n) h = refl

max-of : (x : ℕ) (w : Net) → pair_at x w ≡ 0 ∷ 2 ∷ [] → (node_at 7 (w.hubs x)).max ≡ 2
max-of x w e = cc

-- hub x is at the owner's max and holds what the owner does not
failed : (w : Net) (x : ℕ) → pair_at 1 w ≡ 0 ∷ 2 ∷ [] → pair_at x w ≡ 0 ∷ 2 ∷ [] → Holds (node_at 7 (w.hubs x)) dead → (Holds (node_at 7 (w.hubs 1)) dead → ⊥) → NetSound new_plan w → ⊥
failed w x p q its lacks s =
    let m = max-of 1 w p in
    let n = max-of x w q in
    let c = s.claims 7 x (node_at 7 (w.hubs 1)) (node_at 7 (w.hubs x)) (is-there (node_of 7 (w.hubs 1)) (omega arith)) (is-there (node_of 7 (w.hubs x)) (omega arith)) in
    lacks ((c.same_set (n ∙ sym m) dead refl).1 its)

-- a new owner that lags gives a version twice
pub lagging-fails : NetSound new_plan lagging → ⊥
lagging-fails s = failed lagging 2 lagging-pairs.0 lagging-pairs.1 there.0 (gone (node_at 7 (lagging.hubs 1)) theirs.0) s

-- and so do two that write
pub both-fail : NetSound new_plan both_write → ⊥
both-fail s = failed both_write 0 both-pairs.0 both-pairs.1 there.1 (gone (node_at 7 (both_write.hubs 1)) theirs.1) s
