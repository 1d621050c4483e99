-- `tail_check::check_numbers` meets its contract. Assumes nothing.
use mathlib.Core.Path.{◌∙◌}
use native.Mathlib.Omega.{arith}
use lib.ListN.{take}
use Rattle.rules.specs.Table.{numbers_of}
use Rattle.rules.specs.Memory.{removed_numbers}
use Rattle.rules.specs.Layout.{decode}
use Rattle.rules.specs.Whole.{decode_memory}
use Rattle.table.proofs.Memories.{length-memory}
use Rattle.tail_check.proofs.Numbers.{nothing-removed}
use Rattle.tail_check.proofs.Tails.{read-once, read_twice}
use Rattle.tail_check.proofs.check_numbers.Goals as goal

pub returns-then-n-eq0 : goal.returns-then-n-eq0
returns-then-n-eq0 c =
    let a = c.args in
    nothing-removed (numbers_of (decode a.area.now)) (decode_memory a.tail.now) (length-memory a.tail.now ∙ omega arith)

pub returns-then-all_differ : goal.returns-then-all_differ
returns-then-all_differ c =
    let a = c.args in
    read-once (numbers_of (decode a.area.now)) (removed_numbers (decode_memory a.tail.now)) (take a.n c.removed_numbers-ns.result) c.removed_numbers-ns.ensures.1
    c.all_differ.ensures c.if-all_differ.true _ c.none_held.ensures

pub returns : goal.returns
returns c =
    let a = c.args in
    read_twice (numbers_of (decode a.area.now)) (removed_numbers (decode_memory a.tail.now)) (take a.n c.removed_numbers-ns.result) c.removed_numbers-ns.ensures.1
    c.all_differ.ensures c.if-all_differ.false
