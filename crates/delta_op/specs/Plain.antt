-- The operations that stand one behind the other from a place on, up to the end or to the first that is refused, whatever may follow what.
-- Of a delta that is accepted these are its operations (proofs/Plain.antt). So who knows the verdict can go through the bytes again without it.
use Rattle.std.specs.Prelude.{ℕ, zero, suc, ◌-◌, List, [], ◌∷◌, length, drop}
use Rattle.fields.specs.Numbers.{Bytes}
use Rattle.rules.specs.Node.{KeyValue}
use Rattle.rules.specs.Delta as rule

abbrev pub on_plain : (next : Bytes → List rule.Op) (read : rule.OpRead) → List rule.Op
on_plain next (rule.Got o rest) = o ∷ next rest
on_plain next (rule.Bad r) = []

-- the first number only bounds the operations, as in the rules
unfoldable pub plain_ops : (bound : ℕ) (bytes : Bytes) → List rule.Op
plain_ops zero l = []
plain_ops (suc n) l = on_plain (λ rest. plain_ops n rest) (rule.read_op l)

unfoldable pub ops_from : (delta : Bytes) (at : ℕ) → List rule.Op
ops_from l at = plain_ops (length l - at) (drop at l)

-- the records from a place up to the next Node
unfoldable pub recs_from : (delta : Bytes) (at : ℕ) → List KeyValue
recs_from s at = rule.recs_of (ops_from s at)
