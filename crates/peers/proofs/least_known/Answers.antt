-- `peers::least_known` meets its contract: 22, 2, or the least of the column. Assumes nothing.
use Prim.Native.Nat.{ℕ}
use mathlib.Core.List.{List}
use mathlib.Core.Path.{◌∙◌, ap, ap₂, sym}
use native.Mathlib.Omega.{arith}
use lib.ListN.{length}
use Rattle.fields.proofs.Lent.{seen}
use Rattle.fields.proofs.Parts.{length_part}
use Rattle.rules.specs.Table.{among}
use Rattle.grid.specs.Grid.{column_at, least_of, max_peers, of_present}
use Rattle.grid.specs.GridLayout.{row_in, row_width, rows_in, rows_width}
use Rattle.grid.proofs.GridBytes.{good-grid}
use Rattle.grid_change.proofs.Storing.{few}
use Rattle.peers.proofs.Watching.{least-found, least-missing, least-nobody, present-is}
use Rattle.peers.proofs.least_known.Goals as goal

pub slice_bounds-somebody-end : goal.slice_bounds-somebody-end
slice_bounds-somebody-end c =
    omega (arith, (good-grid c.args.grid.now c.requires).long)

pub byte_at-n-requires : goal.byte_at-n-requires
byte_at-n-requires c =
    omega (arith, (good-grid c.args.grid.now c.requires).long)

pub slice_bounds-read_row-end : goal.slice_bounds-read_row-end
slice_bounds-read_row-end c =
    omega (arith, (good-grid c.args.grid.now c.requires).long)

pub place_of-j-requires : goal.place_of-j-requires
place_of-j-requires c =
    few c.args.grid.now c.requires c.byte_at-n.result c.read_row-numbers.result c.byte_at-n.ensures.0 (c.read_row-numbers.ensures ∙ ap row_in (seen 1 row_width c.args.grid.now))

pub slice_bounds-read_rows-end : goal.slice_bounds-read_rows-end
slice_bounds-read_rows-end c =
    omega (arith, (good-grid c.args.grid.now c.requires).long)

pub slice_bounds-least_of-end : goal.slice_bounds-least_of-end
slice_bounds-least_of-end c =
    omega (arith, (good-grid c.args.grid.now c.requires).long)

pub least_of-requires : goal.least_of-requires
least_of-requires c =
    (ap length (seen 65 max_peers c.args.grid.now) ∙ length_part 65 max_peers c.args.grid.now (omega (arith, (good-grid c.args.grid.now c.requires).long)), omega (arith, c.if-n-j.false, few c.args.grid.now c.requires c.byte_at-n.result c.read_row-numbers.result c.byte_at-n.ensures.0 (c.read_row-numbers.ensures ∙ ap row_in (seen 1 row_width c.args.grid.now))))

pub returns : goal.returns
returns c =
    let maxes = c.read_rows-maxes.ensures ∙ ap rows_in (seen 585 rows_width c.args.grid.now) in
    least-found c.args.grid.now c.requires c.byte_at-n.result c.read_row-numbers.result c.byte_at-n.ensures.0 (c.read_row-numbers.ensures ∙ ap row_in (seen 1 row_width c.args.grid.now)) c.args.number c.place_of-j.result c.place_of-j.ensures (sym (present-is c.args.grid.now c.somebody.result (c.somebody.ensures ∙ ap (among 1) (seen 65 max_peers c.args.grid.now))) ∙ c.if-not-somebody.false) c.if-n-j.false c.least_of.result
    (c.least_of.ensures ∙ ap₂ (λ (x : List ℕ) (y : List (List ℕ)). least_of (of_present x (column_at c.place_of-j.result y))) (seen 65 max_peers c.args.grid.now) maxes)

pub returns-then-n-j : goal.returns-then-n-j
returns-then-n-j c =
    least-missing c.args.grid.now c.requires c.byte_at-n.result c.read_row-numbers.result c.byte_at-n.ensures.0 (c.read_row-numbers.ensures ∙ ap row_in (seen 1 row_width c.args.grid.now)) c.args.number c.place_of-j.result c.place_of-j.ensures (sym (present-is c.args.grid.now c.somebody.result (c.somebody.ensures ∙ ap (among 1) (seen 65 max_peers c.args.grid.now))) ∙ c.if-not-somebody.false) c.if-n-j.true

pub returns-then-not-somebody : goal.returns-then-not-somebody
returns-then-not-somebody c =
    least-nobody c.args.grid.now c.args.number (sym (present-is c.args.grid.now c.somebody.result (c.somebody.ensures ∙ ap (among 1) (seen 65 max_peers c.args.grid.now))) ∙ c.if-not-somebody.true)
