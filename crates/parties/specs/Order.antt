-- A party's local call in the order that ticket 9 names: 1, 19, 3, nothing to change, 5 counted by party, 6. The rules have a guard in front of document 01's
-- call (Profile, Local); that it is the same where the table obeys the rules is proved (proofs/Order).
use Rattle.std.specs.Prelude.{ℕ, Bool, false, ◌&&◌, length, leb, ltb}
use Rattle.std.proofs.Math.Option.{Option, none, some}
use Rattle.fields.specs.Choice.{pick}
use Rattle.fields.specs.Numbers.{Bytes}
use Rattle.rules.specs.Sizes.{max_each, max_key, max_value, top}
use Rattle.rules.specs.Node.{Rec, Node, Call, brought, Decision, Refuse, Leave, Give, wish, act, find}
use Rattle.rules.specs.Table.{Table, node_of, set_node}
use Rattle.rules.specs.Party.{of_keys}
use Rattle.rules.specs.Local.{Outcome, gives, answer_of}
use Rattle.rules.specs.declared.Refusal.TheVariants.{TooLong, NoNode, NodeFull, Exhausted, OtherParty}
use Rattle.std.specs.Prelude.{Err, Result}
use Rattle.rules.specs.declared.Refusal.{Refusal}

-- the key would be the party's 17th
abbrev pub full_for : (mine : Bytes → Bool) (found : Option Rec) (node : Node) → Bool
full_for mine none n = leb max_each (length (of_keys mine n.recs))
full_for mine (some r) n = false

abbrev pub allowed_for : (mine : Bytes → Bool) (key : Bytes) (node : Node) (decision : Decision) → Decision
allowed_for mine k n (Refuse r) = Refuse r
allowed_for mine k n Leave = Leave
allowed_for mine k n (Give c) = pick (full_for mine (find k n.recs) n) (Refuse NodeFull) (pick (ltb n.max top) (Give c) (Refuse Exhausted))

unfoldable pub decide_for : (mine : Bytes → Bool) (call : Call) (key : Bytes) (node : Node) → Decision
decide_for mine c k n =
    pick (leb (length k) max_key && leb (length (brought c)) max_value)
    (pick (mine k) (allowed_for mine k n (wish c (find k n.recs))) (Refuse OtherParty))
    (Refuse TooLong)

-- 2, then as above
abbrev pub call_for : (mine : Bytes → Bool) (call : Call) (number : ℕ) (key : Bytes) (held : Option Node) (table : Table) → Outcome (Result (Unit {0}) Refusal)
call_for mine c i k none t = gives (Err NoNode) t
call_for mine c i k (some n) t = gives (answer_of (decide_for mine c k n)) (set_node i (act k (decide_for mine c k n) n) t)

unfoldable pub call_by : (mine : Bytes → Bool) (call : Call) (number : ℕ) (key : Bytes) (table : Table) → Outcome (Result (Unit {0}) Refusal)
call_by mine c i k t = call_for mine c i k (node_of i t) t
