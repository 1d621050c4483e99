-- `table_write::remove_block` meets its contract: the blocks behind the one that goes end where the row ends. Assumes nothing.
use Prim.Native.Nat.{ℕ, ◌+◌, ◌≤◌, ◌<◌}
use mathlib.Core.Path.{◌≡◌, ap₂, sym, subst, ◌∙◌}
use mathlib.Core.List.{List}
use native.Mathlib.Omega.{arith}
use lib.ListN.{length}
use Rattle.fields.specs.Parts.{part, put}
use Rattle.fields.specs.Blocks.{zeros}
use Rattle.table_write.specs.Rows.{blocks_in, block_place, behind_block}
use Rattle.table_write.proofs.Steps.{row-end, gone-steps}
use Rattle.table_write.proofs.remove_block.Goals as goal

-- the row is within the bytes
row_fits : (at w i n m len : ℕ) → n ≡ m → i < m → block_place at w m ≤ len → block_place at w i + w + behind_block w i n ≤ len
row_fits at w i n m len e h g = rw e (subst (λ (k : ℕ). k ≤ len) (sym (row-end at w i m h)) g)

pub times-requires : goal.times-requires
times-requires c =
    (omega (arith, c.byte_at-n.ensures.0, c.byte_at-n.ensures.1), c.requires.2)

pub overflow_add-a-2 : goal.overflow_add-a-2
overflow_add-a-2 c =
    let fits : let a = c.args in
    block_place a.at a.width a.i + a.width + behind_block a.width a.i c.byte_at-n.result ≤ length a.row.now = let a = c.args in
    row_fits a.at a.width a.i c.byte_at-n.result (blocks_in a.at a.row.now) (length a.row.now) c.byte_at-n.ensures.0 c.requires.0 c.requires.1 in
    omega (arith, fits, c.times.ensures)

pub times-m-requires : goal.times-m-requires
times-m-requires c =
    (omega (arith, c.byte_at-n.ensures.1), c.requires.2)

pub overflow_add-a-3 : goal.overflow_add-a-3
overflow_add-a-3 c =
    let fits : let a = c.args in
    block_place a.at a.width a.i + a.width + behind_block a.width a.i c.byte_at-n.result ≤ length a.row.now = let a = c.args in
    row_fits a.at a.width a.i c.byte_at-n.result (blocks_in a.at a.row.now) (length a.row.now) c.byte_at-n.ensures.0 c.requires.0 c.requires.1 in
    let lies : let a = c.args in
    a.at + 1 + c.times.result + a.width + c.times-m.result ≤ length a.row.now = omega (arith, fits, c.times.ensures, c.times-m.ensures) in
    omega (arith, lies)

pub move_down-requires : goal.move_down-requires
move_down-requires c =
    let fits : let a = c.args in
    block_place a.at a.width a.i + a.width + behind_block a.width a.i c.byte_at-n.result ≤ length a.row.now = let a = c.args in
    row_fits a.at a.width a.i c.byte_at-n.result (blocks_in a.at a.row.now) (length a.row.now) c.byte_at-n.ensures.0 c.requires.0 c.requires.1 in
    let lies : let a = c.args in
    a.at + 1 + c.times.result + a.width + c.times-m.result ≤ length a.row.now = omega (arith, fits, c.times.ensures, c.times-m.ensures) in
    omega (arith, lies)

pub overflow_add-a-4 : goal.overflow_add-a-4
overflow_add-a-4 c =
    let fits : let a = c.args in
    block_place a.at a.width a.i + a.width + behind_block a.width a.i c.byte_at-n.result ≤ length a.row.now = let a = c.args in
    row_fits a.at a.width a.i c.byte_at-n.result (blocks_in a.at a.row.now) (length a.row.now) c.byte_at-n.ensures.0 c.requires.0 c.requires.1 in
    let lies : let a = c.args in
    a.at + 1 + c.times.result + a.width + c.times-m.result ≤ length a.row.now = omega (arith, fits, c.times.ensures, c.times-m.ensures) in
    omega (arith, lies)

pub clear-requires : goal.clear-requires
clear-requires c =
    let fits : let a = c.args in
    block_place a.at a.width a.i + a.width + behind_block a.width a.i c.byte_at-n.result ≤ length a.row.now = let a = c.args in
    row_fits a.at a.width a.i c.byte_at-n.result (blocks_in a.at a.row.now) (length a.row.now) c.byte_at-n.ensures.0 c.requires.0 c.requires.1 in
    let lies : let a = c.args in
    a.at + 1 + c.times.result + a.width + c.times-m.result ≤ length a.row.now = omega (arith, fits, c.times.ensures, c.times-m.ensures) in
    omega (arith, lies, c.move_down.auto.s)

pub returns : goal.returns
returns c =
    let a = c.args in
    let l : List ℕ = a.row.now in
    gone-steps l _ _ _ a.at a.width a.i c.byte_at-n.result c.byte_at-n.ensures.0
    (c.move_down.ensures ∙ ap₂ (λ (k m : ℕ). put (a.at + 1 + k) (part (a.at + 1 + k + a.width) m l) l) c.times.ensures
    c.times-m.ensures)
    (c.clear.ensures ∙ ap₂ (λ (k m : ℕ). put (a.at + 1 + k + m) (zeros a.width) c.move_down.new.s) c.times.ensures
    c.times-m.ensures)
    c.write_byte.ensures
