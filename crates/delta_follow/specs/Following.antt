-- What may follow what, by the numbers of the nodes seen so far and the running max under the last of them. `delta_read: Following.follows` shows that it is
-- the rules' `follow`.
use Rattle.std.specs.Prelude.{ℕ, zero, suc, List, [], ◌∷◌, get_or, leb, ltb}
use Rattle.fields.specs.Choice.{pick}
use Rattle.rules.specs.Sizes.{max_nodes}
use Rattle.rules.specs.Table.{among}
use Rattle.rules.specs.declared.Refusal.TheVariants.{OutOfOrder, NodeTwice, TooMany}
use Rattle.delta_op.specs.declared.Op.{Op}
use Rattle.delta_op.specs.declared.Op.TheVariants.{Node, KeyValue, SetMaxVersion}
use Rattle.std.specs.Prelude.{Err, Ok, Result}
use Rattle.delta_follow.specs.declared.Followed.{Followed}
use Rattle.rules.specs.declared.Refusal.{Refusal}
use Rattle.delta_follow.specs.declared.Followed.TheVariants.{Entered}
use Rattle.delta_follow.specs.declared.Followed.TheVariants.{Under}

-- the first n of the numbers, newest first
unfoldable pub seen_of : (n : ℕ) (numbers : List ℕ) → List ℕ
seen_of zero a = []
seen_of (suc n) a = get_or a n 0 ∷ seen_of n a

-- before any Node: 11
abbrev pub under_nodes : (nodes : ℕ) (followed : (Result Followed Refusal)) → (Result Followed Refusal)
under_nodes zero f = Err OutOfOrder
under_nodes (suc n) f = f

unfoldable pub node_follows : (nodes : ℕ) (seen : List ℕ) (number : ℕ) → (Result Followed Refusal)
node_follows nodes a n = pick (among n (seen_of nodes a)) (Err NodeTwice) (pick (ltb nodes max_nodes) (Ok (Entered n)) (Err TooMany))

unfoldable pub record_follows : (nodes running version : ℕ) → (Result Followed Refusal)
record_follows nodes running v = under_nodes nodes (pick (ltb running v) (Ok (Under v)) (Err OutOfOrder))

unfoldable pub max_follows : (nodes running max : ℕ) → (Result Followed Refusal)
max_follows nodes running m = under_nodes nodes (pick (leb running m) (Ok (Under m)) (Err OutOfOrder))

unfoldable pub follow_at : (nodes : ℕ) (seen : List ℕ) (running : ℕ) (op : Op) → (Result Followed Refusal)
follow_at nodes a running (Node n g f) = node_follows nodes a n
follow_at nodes a running (KeyValue k n v m ver st) = record_follows nodes running ver
follow_at nodes a running (SetMaxVersion m) = max_follows nodes running m
