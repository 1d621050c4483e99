-- The planner of demand 3 in lent bytes: while a max differs, computing by a plan of one line for the follower's own digest is not refused. The MTU is 135 or more, and the datagram has
-- room for it. Assumes nothing.
use Prim.Native.Nat.{◌+◌, ◌≤◌, ℕ}
use mathlib.Core.Bool.{true}
use mathlib.Core.List.{List, [], ◌∷◌}
use mathlib.Core.Option.{some}
use mathlib.Core.Path.{◌∙◌, ◌≡◌, ap}
use native.Mathlib.Omega.{arith}
use lib.ListN.{length}
use Rattle.fields.proofs.Choice.{and_left}
use Rattle.rules.proofs.Digests.{read-written}
use Rattle.rules.specs.Digest.{digest_bytes, digest_of, is_edition}
use Rattle.rules.specs.Given.{Given}
use Rattle.rules.specs.Lent.{from_table}
use Rattle.rules.specs.Node.{Node}
use Rattle.rules.specs.Sizes.{max_delta}
use Rattle.rules.specs.Table.{node_of, obeys}
use Rattle.rules.specs.Whole.{obeys_whole, valid_whole}
use Rattle.std.specs.Prelude.{Result}
use Rattle.rules.specs.declared.Refusal.{Refusal}
use Rattle.rules.specs.declared.Sent.{Sent}
use Rattle.rules.specs.Profile.{Kind}
use Rattle.plan.proofs.Comes.{plan-written}
use Rattle.plan.specs.Plan.{compute_plan, lent_compute_plan}
use Rattle.demand3.proofs.Planner.{behind-can}
use Rattle.demand3.specs.Demand3.{least_width, wrote_delta}
use Rattle.demand3.specs.World.{Event, fresh_table}
use Rattle.table.proofs.Wholes.{whole-obeys}
use Rattle.demand3_bytes.proofs.LentDemand3.{lent-demand3}
use Rattle.demand3_bytes.specs.LentDemand3.{LentSound}
use Rattle.demand3_bytes.specs.LentWorld.{LentWorld, lent_after, lent_start, table_in}

-- a valid table obeys the rules
good : (l : List ℕ) → valid_whole l ≡ true → obeys (table_in l) ≡ true
unfolding obeys_whole
good l v = and_left (obeys (table_in l)) _ (whole-obeys l v)

-- a planned computing of a valid table is the table's
valid-plan : (edition : ℕ) (excluded nodes counts : List ℕ) (mtu place : ℕ) (digest d l : List ℕ) → valid_whole l ≡ true → lent_compute_plan edition excluded nodes counts mtu place digest d l ≡ compute_plan edition excluded nodes counts mtu place digest (table_in l) d
unfolding from_table
valid-plan edition excluded nodes counts mtu place digest d l v = rw v

pub lent-planner-can : (pm fm : Kind) (is : List ℕ) → obeys (fresh_table is) ≡ true → (es : List Event)
    → let w = lent_after es (lent_start pm fm is) in (i : ℕ) (a b : Node)
    → node_of i (table_in w.publisher) ≡ some a
    → node_of i (table_in w.follower) ≡ some b
    → (b.max ≡ a.max → ⊥)
    → (edition mtu place : ℕ) (d : List ℕ)
    → is_edition edition ≡ true
    → least_width ≤ mtu
    → mtu ≤ max_delta
    → place + mtu ≤ length d
    → (c : ℕ) × (wrote_delta (lent_compute_plan edition [] (i ∷ []) (c ∷ []) mtu place (digest_bytes edition (digest_of [] (table_in w.follower))) d w.publisher).answer ≡ true)
lent-planner-can pm fm is ok es i a b x y other edition mtu place d known wide most room =
    let w : LentWorld = lent_after es (lent_start pm fm is) in
    let s : LentSound is w = (lent-demand3 pm fm is ok).at_every_moment es in
    let low = (s.claims i a b x y).never_ahead in
    let p = good w.publisher s.publisher_valid in
    let f = good w.follower s.follower_valid in
    let can = behind-can mtu wide (table_in w.publisher) (table_in w.follower) p i a b x y (omega arith) in
    let wrote =
    valid-plan edition [] (i ∷ []) (can.0 ∷ []) mtu place (digest_bytes edition (digest_of [] (table_in w.follower))) d w.publisher s.publisher_valid
    ∙ plan-written edition [] (i ∷ []) (can.0 ∷ []) mtu place (digest_bytes edition (digest_of [] (table_in w.follower))) (table_in w.publisher) d known (omega arith) most room
    (digest_of [] (table_in w.follower)) [] (read-written edition known [] (table_in w.follower) f) can.1 in
    (can.0, ap (λ (o : Given (Result Sent Refusal) (List ℕ)). wrote_delta o.answer) wrote)
