-- A local call of the meter profile in the order that ticket 8 names: 1, 17, 3, nothing to change, 18, 5, 6. The rules have a guard in front of document 01's call
-- (Profile, Local); that it is the same is proved (proofs/Order).
use Rattle.std.specs.Prelude.{Bool, true, false, ◌&&◌, leb, length}
use Rattle.std.proofs.Math.Option.{Option, none, some}
use Rattle.fields.specs.Choice.{pick}
use Rattle.fields.specs.Numbers.{Bytes}
use Rattle.rules.specs.Sizes.{max_key, max_value}
use Rattle.rules.specs.Node.{KeyValue, Rec, Node, Call, brought, Decision, Refuse, Leave, Give, find, wish, allowed}
use Rattle.rules.specs.Profile.{brings, in_form, smaller}
use Rattle.rules.specs.declared.Profile.TheVariants.{Meter}
use Rattle.rules.specs.declared.Refusal.TheVariants.{TooLong, BadForm, SmallerTotal}

abbrev pub smaller_by : (brings : Option KeyValue) (found : Option Rec) → Bool
smaller_by none o = false
smaller_by (some r) o = smaller r o

abbrev pub formed_by : (brings : Option KeyValue) → Bool
formed_by none = true
formed_by (some r) = in_form Meter r

-- 18 of a change, before 5 and 6
abbrev pub with_total : (small : Bool) (key : Bytes) (node : Node) (decision : Decision) → Decision
with_total b k n (Refuse r) = Refuse r
with_total b k n Leave = Leave
with_total b k n (Give c) = pick b (Refuse SmallerTotal) (allowed k n (Give c))

unfoldable pub decide_meter : (call : Call) (key : Bytes) (node : Node) → Decision
decide_meter c k n =
    pick (leb (length k) max_key && leb (length (brought c)) max_value)
    (pick (formed_by (brings c k)) (with_total (smaller_by (brings c k) (find k n.recs)) k n (wish c (find k n.recs))) (Refuse BadForm))
    (Refuse TooLong)
