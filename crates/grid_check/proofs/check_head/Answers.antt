-- `grid_check::check_head` meets its contract: each rule in turn. Assumes nothing.
use Prim.Native.Nat.{ℕ}
use mathlib.Core.List.{List}
use mathlib.Core.Path.{◌∙◌, ap, refl, sym}
use native.Mathlib.Omega.{arith}
use Rattle.fields.specs.Parts.{part}
use Rattle.fields.proofs.Lent.{seen}
use Rattle.grid.specs.Grid.{max_peers}
use Rattle.grid.specs.GridLayout.{row_in, row_width}
use lib.Dec.{leb}
use Rattle.fields.specs.Choice.{all}
use Rattle.grid_check.proofs.Checked.{head-falls, head-flags, head-many, head_more}
use Rattle.grid_check.proofs.check_head.Goals as goal

pub returns-then-n-gt-NODES : goal.returns-then-n-gt-NODES
returns-then-n-gt-NODES c =
    let g : List ℕ = c.args.grid.now in
    sym (head-many g c.byte_at-n.result (row_in (part 1 row_width g)) c.byte_at-n.ensures.0 refl c.if-n-gt-NODES.true)

pub returns-then-empty_from : goal.returns-then-empty_from
returns-then-empty_from c =
    let g : List ℕ = c.args.grid.now in
    let row = c.read_row-numbers.ensures ∙ ap row_in (seen 1 row_width g) in
    c.flags_obey.ensures
    ∙ ap (all (λ f. leb f 1)) (seen 65 max_peers g)
    ∙ sym (head-flags g c.byte_at-n.result c.read_row-numbers.result c.byte_at-n.ensures.0 row (omega arith) (sym c.numbers_rise.ensures ∙ c.if-numbers_rise.true) (sym c.empty_from.ensures ∙ c.if-empty_from.true))

pub returns-else-empty_from : goal.returns-else-empty_from
returns-else-empty_from c =
    let g : List ℕ = c.args.grid.now in
    let row = c.read_row-numbers.ensures ∙ ap row_in (seen 1 row_width g) in
    sym (head_more g c.byte_at-n.result c.read_row-numbers.result c.byte_at-n.ensures.0 row (omega arith) (sym c.numbers_rise.ensures ∙ c.if-numbers_rise.true) (sym c.empty_from.ensures ∙ c.if-empty_from.false))

pub returns-else-numbers_rise : goal.returns-else-numbers_rise
returns-else-numbers_rise c =
    let g : List ℕ = c.args.grid.now in
    let row = c.read_row-numbers.ensures ∙ ap row_in (seen 1 row_width g) in
    sym (head-falls g c.byte_at-n.result c.read_row-numbers.result c.byte_at-n.ensures.0 row (omega arith) (sym c.numbers_rise.ensures ∙ c.if-numbers_rise.false))
