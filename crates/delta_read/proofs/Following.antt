-- What may follow, by the code's own state: the numbers of the nodes seen in an array, oldest first, with their count, and the running max. It
-- is the rules' `follow` of the same state (`follows`). And the counts of operations and nodes along a delta (`counted`). Assumes nothing.
use Prim.Native.Nat.{ℕ, zero, suc, ◌+◌, ◌≤◌, ◌<◌}
use mathlib.Core.Path.{◌≡◌, refl, ap, ap₂, ◌∙◌, subst}
use mathlib.Core.Bool.{Bool, true, false}
use mathlib.Core.List.{List, ◌∷◌}
use native.Mathlib.Omega.{arith}
use native.Mathlib.Nat.{zero-add}
use lib.ListN.{length, set}
use lib.Seq.{get_or-set_same, get_or-set_other}
use lib.Dec.{leb, ltb}
use borrow.Author.Tests.{ltb-true}
use Rattle.fields.specs.Choice.{pick}
use Rattle.rules.specs.Sizes.{max_nodes}
use Rattle.rules.specs.Table.{among}
use Rattle.rules.specs.Delta as rule
use Rattle.rules.specs.declared.Refusal.{Refusal}
use Rattle.rules.specs.declared.Refusal.TheVariants.{OutOfOrder, NodeTwice, TooMany}
use Rattle.std.specs.Prelude.{Err, Ok, Result}
use Rattle.delta_follow.specs.declared.Followed.{Followed}
use Rattle.rules.specs.declared.DeltaFault.{DeltaFault}
use Rattle.rules.specs.declared.DeltaRead.{DeltaRead}
use Rattle.delta_follow.specs.declared.Followed.TheVariants.{Entered}
use Rattle.delta_follow.specs.declared.Followed.TheVariants.{Under}
use Rattle.delta_op.specs.declared.Op.{Op}
use Rattle.delta_op.specs.declared.Op.TheVariants.{Node, KeyValue, SetMaxVersion}
use Rattle.delta_op.specs.Places.{op_of}
use Rattle.delta_follow.specs.Following.{seen_of, under_nodes, node_follows, record_follows, max_follows, follow_at}

pub length_seen : (n : ℕ) (a : List ℕ) → length (seen_of n a) ≡ n
unfolding seen_of
length_seen zero a = refl
length_seen (suc n) a = ap suc (length_seen n a)

-- a store behind those seen
seen-before : (n i v : ℕ) (a : List ℕ) → n ≤ i → seen_of n (set a i v) ≡ seen_of n a
unfolding seen_of
seen-before zero i v a h = refl
seen-before (suc n) i v a h =
    ap₂ (λ (x : ℕ) (xs : List ℕ). x ∷ xs) (get_or-set_other a i n v 0 (λ e. omega arith)) (seen-before n i v a (omega arith))

pub seen_more : (n v : ℕ) (a : List ℕ) → n < length a → seen_of (suc n) (set a n v) ≡ v ∷ seen_of n a
unfolding seen_of
seen_more n v a h = ap₂ (λ (x : ℕ) (xs : List ℕ). x ∷ xs) (get_or-set_same a n v 0 h) (seen-before n n v a (omega arith))

-- ---- the code's state as the rules have it

abbrev pub reading : ℕ → List ℕ → ℕ → rule.Reading
reading nodes a running = record { seen = seen_of nodes a; running = running }

abbrev pub now_reading : ℕ → List ℕ → (Result Followed Refusal) → rule.Followed
now_reading nodes a (Ok (Entered n)) = rule.Next (record { seen = n ∷ seen_of nodes a; running = 0 })
now_reading nodes a (Ok (Under v)) = rule.Next (reading nodes a v)
now_reading nodes a (Err r) = rule.Fault r

-- a pick of what may follow, in both words
picked : (nodes : ℕ) (a : List ℕ) (t : Bool) (x y : (Result Followed Refusal)) → pick t (now_reading nodes a x) (now_reading nodes a y) ≡ now_reading nodes a (pick t x y)
picked nodes a true x y = refl
picked nodes a false x y = refl

under : (nodes : ℕ) (a : List ℕ) (x : (Result Followed Refusal)) → rule.under_node (seen_of nodes a) (now_reading nodes a x) ≡ now_reading nodes a (under_nodes nodes x)
unfolding seen_of
under zero a x = refl
under (suc n) a x = refl

pub follows : (l : List ℕ) (nodes : ℕ) (a : List ℕ) (running : ℕ) (o : Op)
    → rule.follow (reading nodes a running) (op_of l o) ≡ now_reading nodes a (follow_at nodes a running o)
unfolding rule.follow follow_at node_follows record_follows max_follows
follows l nodes a running (Node n g f) =
    rw (length_seen nodes a)
    (ap (pick (among n (seen_of nodes a)) (rule.Fault _)) (picked nodes a (ltb nodes max_nodes) (Ok (Entered n)) (Err _))
    ∙ picked nodes a (among n (seen_of nodes a)) (Err _) (pick (ltb nodes max_nodes) (Ok (Entered n)) (Err _)))
follows l nodes a running (KeyValue k n v m ver st) =
    ap (rule.under_node (seen_of nodes a)) (picked nodes a (ltb running ver) (Ok (Under ver)) (Err _)) ∙ under nodes a (pick (ltb running ver) (Ok (Under ver)) (Err _))
follows l nodes a running (SetMaxVersion m) =
    ap (rule.under_node (seen_of nodes a)) (picked nodes a (leb running m) (Ok (Under m)) (Err _)) ∙ under nodes a (pick (leb running m) (Ok (Under m)) (Err _))

-- ---- the counts

-- the answer for what is left, with the operations and nodes counted so far
abbrev pub counted : ℕ → ℕ → rule.Ops → (Result DeltaRead DeltaFault)
counted ops nodes (rule.Good os) = (Ok (record { ops = (ops + length os); nodes = (nodes + length (rule.parts_of os)) }))
counted ops nodes (rule.Faulty r at) = (Err (record { why = r; at = at }))

pub none-counted : (x : rule.Ops) → counted 0 0 x ≡ rule.read_answer x
none-counted (rule.Good os) = ap₂ (λ a b. Ok (record { ops = a; nodes = b })) (zero-add (length os)) (zero-add (length (rule.parts_of os)))
none-counted (rule.Faulty r at) = refl

-- whether an operation is a Node
abbrev pub nodes_in : rule.Op → ℕ
nodes_in (rule.NodeOp n g f) = 1
nodes_in (rule.KeyValueOp r) = 0
nodes_in (rule.SetMaxVersionOp m) = 0

parts_more : (o : rule.Op) (os : List rule.Op) → length (rule.parts_of (o ∷ os)) ≡ nodes_in o + length (rule.parts_of os)
unfolding rule.parts_of
parts_more (rule.NodeOp n g f) os = omega arith
parts_more (rule.KeyValueOp r) os = omega arith
parts_more (rule.SetMaxVersionOp m) os = omega arith

pub one-counted : (ops nodes : ℕ) (o : rule.Op) (x : rule.Ops) → counted ops nodes (rule.and_then o x) ≡ counted (ops + 1) (nodes + nodes_in o) x
one-counted ops nodes o (rule.Good os) = ap₂ (λ a b. Ok (record { ops = a; nodes = b })) (omega arith) (rw (parts_more o os) (omega arith))
one-counted ops nodes o (rule.Faulty r at) = refl

-- ---- what was found to follow tells the kind of operation

abbrev Kind : ℕ → ℕ → (Result Followed Refusal) → Type 0
Kind nodes k (Ok (Entered n)) = (k ≡ 1) × (nodes < max_nodes)
Kind nodes k (Ok (Under v)) = k ≡ 0
Kind nodes k (Err r) = Unit {0}

-- under a node, by a test
kind-under : (nodes : ℕ) (t : Bool) (v : ℕ) (r : Refusal) → Kind nodes 0 (under_nodes nodes (pick t (Ok (Under v)) (Err r)))
kind-under zero t v r = tt
kind-under (suc n) true v r = refl
kind-under (suc n) false v r = tt

kind : (l : List ℕ) (nodes : ℕ) (a : List ℕ) (running : ℕ) (o : Op) → Kind nodes (nodes_in (op_of l o)) (follow_at nodes a running o)
unfolding follow_at node_follows record_follows max_follows
kind l nodes a running (Node n g f) = go (among n (seen_of nodes a)) (ltb nodes max_nodes) (ltb-true nodes max_nodes)
  where
    go : (s t : Bool) → (t ≡ true → nodes < max_nodes) → Kind nodes 1 (pick s (Err NodeTwice) (pick t (Ok (Entered n)) (Err TooMany)))
    go true t h = tt
    go false true h = (refl, h refl)
    go false false h = tt
kind l nodes a running (KeyValue k n v m ver st) = kind-under nodes (ltb running ver) ver OutOfOrder
kind l nodes a running (SetMaxVersion m) = kind-under nodes (leb running m) m OutOfOrder

pub entered : (l : List ℕ) (nodes : ℕ) (a : List ℕ) (running : ℕ) (o : Op) (n : ℕ) → follow_at nodes a running o ≡ (Ok (Entered n))
    → (nodes_in (op_of l o) ≡ 1) × (nodes < max_nodes)
entered l nodes a running o n e = subst (Kind nodes (nodes_in (op_of l o))) e (kind l nodes a running o)

pub stayed : (l : List ℕ) (nodes : ℕ) (a : List ℕ) (running : ℕ) (o : Op) (v : ℕ) → follow_at nodes a running o ≡ (Ok (Under v)) → nodes_in (op_of l o) ≡ 0
stayed l nodes a running o v e = subst (Kind nodes (nodes_in (op_of l o))) e (kind l nodes a running o)
