-- Overrides and a table, lent together. 14 is asked of the overrides first, then of the table; both are number 14, and the answer says of which.
use Rattle.std.specs.Prelude.{ℕ}
use Rattle.fields.specs.Choice.{pick}
use Rattle.fields.specs.Numbers.{Bytes}
use Rattle.rules.specs.Node.{Node}
use Rattle.rules.specs.Table.{Table}
use Rattle.rules.specs.Lent.{from_table}
use Rattle.rules.specs.Layout.{decode_node}
use Rattle.overrides.specs.Overrides.{valid_node}
use Rattle.overrides.specs.declared.Which.{Which}
use Rattle.overrides.specs.declared.Which.TheVariants as which

-- its number: 0 where the refusal is of neither
abbrev pub which_code : Which → ℕ
which_code which.Neither = 0
which_code which.Overrides = 1
which_code which.Table = 2

-- 14 of the overrides, 14 of the table, or the rule on both
unfoldable pub from_both : {A : Type 0} (bad : Which → A) (rule : Node → Table → A) (overrides table : Bytes) → A
from_both bad rule o t = pick (valid_node o) (from_table (bad which.Table) (rule (decode_node o).node) t) (bad which.Overrides)
