-- Two plans that are accepted: while the digest is behind with a node, a plan of that one line, under any MTU from 135 on; and always the empty one, which brings nothing.
-- Assumes nothing.
use Prim.Native.Nat.{◌+◌, ◌<◌, ◌≤◌, suc, ℕ}
use mathlib.Core.Bool.{true}
use mathlib.Core.List.{List, [], ◌∷◌}
use mathlib.Core.Option.{some}
use mathlib.Core.Path.{◌∙◌, ◌≡◌, refl, subst, sym}
use native.Mathlib.Omega.{arith}
use lib.ListN.{length, length-append}
use borrow.Author.Tests.{le-leb, lt-ltb}
use Rattle.fields.specs.Blocks.{flat}
use Rattle.fields.specs.Choice.{◌∈◌, here}
use Rattle.rules.proofs.Calls.{node_in}
use Rattle.rules.proofs.Obeys.{table-facts}
use Rattle.rules.proofs.Sending.{record_size, size-max, size-node, size-record}
use Rattle.rules.proofs.Stale.{stale-from}
use Rattle.rules.specs.Compute.{StaleNode, from_for, key_value_ops, stale_of, told_of}
use Rattle.rules.specs.Delta.{KeyValueOp, NodeOp, Op, SetMaxVersionOp, delta_bytes, size_of}
use Rattle.rules.specs.Digest.{NodeDigest}
use Rattle.rules.specs.Node.{KeyValue, Node}
use Rattle.rules.specs.Table.{Table, among, differ, node_of, obeys}
use Rattle.plan.proofs.Held.{named-held}
use Rattle.plan.specs.Faults.{stale_held}
use Rattle.plan.specs.Plan.{accepts, delta_by, lines_fit, named, plan_ops, stale_for}

two-long : (a b : Op) → length (delta_bytes (a ∷ b ∷ [])) ≡ size_of a + size_of b
unfolding delta_bytes flat size_of
two-long a b = simp length-append (omega arith)

-- one record, or SetMaxVersion where there is none
one : (mtu : ℕ) → 135 ≤ mtu → (ds : List NodeDigest) (t : Table) (i : ℕ) (s : StaleNode) → named i (stale_for [] ds t) ≡ some s → (all : List KeyValue) → stale_of s ≡ all → ((r : KeyValue) → r ∈ all → record_size r ≤ 110) → (c : ℕ) × (accepts [] (i ∷ []) (c ∷ []) mtu ds t ≡ true)
unfolding accepts delta_by lines_fit plan_ops differ among key_value_ops
one mtu wide ds t i s is [] e small =
    (0, rw (is, e, two-long (NodeOp s.number s.node.last_gc (from_for s)) (SetMaxVersionOp s.node.max), size-node s.number s.node.last_gc (from_for s), size-max s.node.max) (rw (le-leb 34 mtu (omega arith))))
one mtu wide ds t i s is (r ∷ rs) e small =
    let z = small r (here refl) in
    (1, rw (is, e, two-long (NodeOp s.number s.node.last_gc (from_for s)) (KeyValueOp r), size-node s.number s.node.last_gc (from_for s), size-record r) (rw (le-leb (25 + record_size r) mtu (omega arith), le-leb 1 (suc (length rs)) (omega arith))))

pub one_line : (mtu : ℕ) → 135 ≤ mtu → (ds : List NodeDigest) (t : Table) → obeys t ≡ true → (i : ℕ) (n : Node) → node_of i t ≡ some n → (told_of i ds).max < n.max → (c : ℕ) × (accepts [] (i ∷ []) (c ∷ []) mtu ds t ≡ true)
unfolding among
one_line mtu wide ds t ok i n held late = one mtu wide ds t i (stale_held ds i n) named_so (stale_of (stale_held ds i n)) refl small
  where
    named_so : named i (stale_for [] ds t) ≡ some (stale_held ds i n)
    named_so = named-held [] ds i t (table-facts t ok).ascending ∙ rw (held, lt-ltb _ _ late)

    small : (r : KeyValue) → r ∈ stale_of (stale_held ds i n) → record_size r ≤ 110
    small r m =
        let y = stale-from (from_for (stale_held ds i n)) n.recs m in
        let x = node_in i t held in
        let k : y.0 ∈ x.0.node.recs = subst (λ (a : Node). y.0 ∈ a.recs) (sym x.2) y.1 in
        let o = ((table-facts t ok).each x.0 x.1).node_ok.each y.0 k in
        let a = o.key_fits in
        let b = o.value-fits in
        subst (λ (k : KeyValue). record_size k ≤ 110) y.2 (omega arith)

pub empty-plan : (excluded : List ℕ) (mtu : ℕ) (ds : List NodeDigest) (t : Table) → (accepts excluded [] [] mtu ds t ≡ true) × (delta_by excluded [] [] ds t ≡ [])
unfolding accepts delta_by lines_fit plan_ops differ delta_bytes flat
empty-plan excluded mtu ds t = (rw (le-leb 0 mtu (omega arith)), refl)
