-- What the runs of FourRuns show: one exchange too few does not end, empty plans do not end, nor plans for what the digest leaves out, and the claims fail of a late delta. Assumes nothing.
use Prim.Native.Nat.{ℕ}
use mathlib.Core.Bool.{true}
use mathlib.Core.List.{[], ◌∷◌}
use mathlib.Core.Option.{Option, none, some}
use mathlib.Core.Path.{◌∙◌, ◌≡◌, ap, refl, subst, sym}
use native.Mathlib.Omega.{arith}
use Rattle.fields.specs.Blocks.{flat, unblock}
use Rattle.fields.specs.Choice.{◌∈◌, here, keep, later}
use Rattle.fields.specs.Numbers.{bytes_of, nat_of}
use Rattle.fields.specs.Order.{less_bytes, same_bytes}
use Rattle.fields.specs.Parts.{part, put}
use Rattle.rules.proofs.Obeys.{among-not, version-in}
use Rattle.rules.specs.Apply.{apply, apply_each, apply_node, codes, delta_status, newer_of, outcome, plain_ways, status_of, take_all, takes}
use Rattle.rules.specs.Compute.{all_ops, by_version, compute, cut, delta_for, from_of, key_value_ops, ordered, queue, sooner, stale, stale_nodes, told_of}
use Rattle.rules.specs.Delta.{delta_bytes, follow, max_of, op_bytes, parts_of, read_delta, read_key_value, read_node, read_op, read_ops, read_set_max_version, recs_of, size_of, text_bytes}
use Rattle.rules.specs.Digest.{digest_bytes, digest_of, entry_bytes, entry_of, head_width, read_digest, read_entries, tell, tell_all, write_digest}
use Rattle.rules.specs.Local.{call, gc}
use Rattle.rules.specs.Node.{KeyValue, Node, Rec, act, decide, find, last_gc_of, remove, store, wish, write}
use Rattle.rules.specs.Table.{Table, among, node_of, remove_all, set_node, versions}
use Rattle.demand3.proofs.EachNode.{node_at, or_fresh}
use Rattle.demand3.proofs.Runs.{idle-stays, late, tight, untold-stays}
use Rattle.demand3.specs.Demand3.{Holds, SameMax, Sound}
use Rattle.demand3.proofs.FourRuns.{all_granted, caught_up, dead, idle, one_behind, one_record, pair_at, pair_in, seven, untold, whole}
use Rattle.demand3.specs.World.{after, fresh_table, happen, start}

-- a node with this pair
with_pair : (o : Option Node) (g m : ℕ) → pair_in o ≡ g ∷ m ∷ [] → (o ≡ some (or_fresh o)) × ((or_fresh o).max ≡ m)
with_pair none g m e = let z : ◌≡◌ {A = ℕ} 0 1 = cc in absurd (omega arith)
with_pair (some n) g m e = (refl, cc)

-- tables in which node 7 has these pairs
not_same : (t u : Table) (g m h n : ℕ) → pair_at 7 t ≡ g ∷ m ∷ [] → pair_at 7 u ≡ h ∷ n ∷ [] → (n ≡ m → ⊥) → SameMax t u → ⊥
not_same t u g m h n p q other s =
    let a = with_pair (node_of 7 t) g m p in
    let b = with_pair (node_of 7 u) h n q in
    let e : (node_at 7 u).max ≡ (node_at 7 t).max = s 7 (node_at 7 t) (node_at 7 u) a.0 b.0 in
    let c = a.1 in
    let d = b.1 in
    other (omega arith)

-- one exchange is not enough
pub one-too-few : SameMax (after plain_ways whole one_record).publisher (after plain_ways whole one_record).follower → ⊥
one-too-few = not_same (after plain_ways whole one_record).publisher (after plain_ways whole one_record).follower 3 3 3 1 tight.3 tight.4 (λ e. omega arith)

-- With any accepted plans the count does not hold: as many exchanges as it asks for, nothing refused, and no max is equal. The plans are empty;
pub empty-plans-fail : (all_granted plain_ways idle one_record ≡ true) × (SameMax (after plain_ways idle one_record).publisher (after plain_ways idle one_record).follower → ⊥)
empty-plans-fail = (idle-stays.0, not_same (after plain_ways idle one_record).publisher (after plain_ways idle one_record).follower 3 3 0 0 idle-stays.2 idle-stays.3 (λ e. omega arith))

-- or they name what the digest leaves out
pub untold-plans-fail : (all_granted plain_ways untold one_behind ≡ true) × (SameMax (after plain_ways untold one_behind).publisher (after plain_ways untold one_behind).follower → ⊥)
untold-plans-fail = (untold-stays.1, not_same (after plain_ways untold one_behind).publisher (after plain_ways untold one_behind).follower 0 1 0 0 untold-stays.3 untold-stays.4 (λ e. omega arith))

-- the publisher has no k any more, and the follower has it
not_there : (r : Rec) → r ∈ (node_at 7 caught_up.publisher).recs → r.kv ≡ dead → ⊥
unfolding after happen start fresh_table call gc node_of set_node remove_all decide wish find act write store remove last_gc_of keep same_bytes less_bytes among write_digest digest_of digest_bytes head_width entry_bytes entry_of read_entries read_digest tell tell_all compute delta_for cut all_ops ordered queue sooner stale_nodes told_of from_of stale by_version key_value_ops size_of delta_bytes op_bytes text_bytes bytes_of nat_of part put flat unblock apply apply_each apply_node delta_status status_of newer_of outcome take_all takes codes read_delta read_ops read_op read_node read_key_value read_set_max_version follow parts_of recs_of max_of versions
not_there r h e =
    among-not 5 (versions (node_at 7 caught_up.publisher).recs) refl
    (subst (λ (v : ℕ). v ∈ versions (node_at 7 caught_up.publisher).recs) (ap (λ (s : KeyValue). s.version) e) (version-in h))

there : Holds (node_at 7 caught_up.follower) dead
unfolding after happen start fresh_table call gc node_of set_node remove_all decide wish find act write store remove last_gc_of keep same_bytes less_bytes among write_digest digest_of digest_bytes head_width entry_bytes entry_of read_entries read_digest tell tell_all compute delta_for cut all_ops ordered queue sooner stale_nodes told_of from_of stale by_version key_value_ops size_of delta_bytes op_bytes text_bytes bytes_of nat_of part put flat unblock apply apply_each apply_node delta_status status_of newer_of outcome take_all takes codes read_delta read_ops read_op read_node read_key_value read_set_max_version follow parts_of recs_of max_of
there = (record { kv = dead; start = 0 }, later (later (later (later (here refl)))), refl)

-- so that demand 3's claims fail of late deltas
pub late-fails : Sound seven caught_up → ⊥
late-fails s =
    let p = with_pair (node_of 7 caught_up.publisher) 10 10 late.3 in
    let f = with_pair (node_of 7 caught_up.follower) 10 10 late.4 in
    let c = s.claims 7 (node_at 7 caught_up.publisher) (node_at 7 caught_up.follower) p.0 f.0 in
    let x = (c.same_set (f.1 ∙ sym p.1) dead refl).1 there in
    not_there x.0 x.1 x.2
