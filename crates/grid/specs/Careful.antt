-- Careful removal (ticket 12): a scheduled record goes exactly if document 01's clock says so and every peer present has told a max not below its version.
use Rattle.std.specs.Prelude.{ℕ, Bool, ◌&&◌, List, leb}
use Rattle.fields.specs.Choice.{all}
use Rattle.rules.specs.Node.{Rec, due}
use Rattle.grid.specs.Grid.{Grid, maxes_told}

-- none of those who told these maxes lacks the record's version
abbrev pub seen_by : (maxes : List ℕ) (rec : Rec) → Bool
seen_by ms r = all (λ m. leb r.kv.version m) ms

-- the test of a careful removal, by node number and record
abbrev pub careful_due : (grid : Grid) (now grace number : ℕ) (rec : Rec) → Bool
careful_due g now grace i r = due now grace r && seen_by (maxes_told i g) r
