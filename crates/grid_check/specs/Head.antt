-- The rules of a grid that are asked of what stands in front of its rows.
use Rattle.std.specs.Prelude.{Bool, ◌&&◌, leb, drop}
use Rattle.fields.specs.Choice.{all}
use Rattle.fields.specs.Blocks.{all_zero}
use Rattle.rules.specs.Sizes.{max_nodes}
use Rattle.rules.specs.Table.{rising}
use Rattle.grid.specs.Grid.{Grid, columns}

unfoldable pub head_obeys : (grid : Grid) → Bool
head_obeys g = leb g.count max_nodes && (rising (columns g) && (all_zero (drop g.count g.numbers) && all (λ f. leb f 1) g.present))
