-- `table_wrong::first_bad` meets its contract: the nodes that are passed and the first bad one of those left. Assumes nothing.
use mathlib.Core.Bool.{Bool, true, false}
use mathlib.Core.Path.{◌≡◌, ap, sym, ◌∙◌}
use native.Mathlib.Omega.{arith}
use lib.ListN.{length, drop}
use Rattle.fields.specs.Numbers.{Bytes}
use Rattle.fields.proofs.Parts.{length_part}
use Rattle.rules.specs.Layout.{node_place, node_width}
use Rattle.table.specs.Tests.{node_good}
use Rattle.table_wrong.proofs.Wrong.{bad-here, bad-none, bad-on}
use Rattle.table_wrong.proofs.first_bad.Goals as goal

-- whether the node that is read is good
flag : (x y : Bytes) (t : Bool) → x ≡ y → t ≡ node_good x → node_good y ≡ t
flag x y t e p = sym (ap node_good e) ∙ sym p

pub check_node-requires : goal.check_node-requires
check_node-requires c =
    ap length c.node_of.ensures ∙ length_part (node_place c.loop-i.i) node_width c.args.area.now (omega arith)

pub returns-then-not-check_node : goal.returns-then-not-check_node
returns-then-not-check_node c =
    let a = c.args in
    let no : c.check_node.result ≡ false = cc in
    omega (arith, bad-here a.n c.loop-i.i a.area.now (omega arith) (flag _ _ _ c.node_of.ensures c.check_node.ensures ∙ no), c.loop-i.invariant)

pub loop-i-preserved : goal.loop-i-preserved
loop-i-preserved c =
    let a = c.args in
    let yes : c.check_node.result ≡ true = cc in
    omega (arith, bad-on a.n c.loop-i.i a.area.now (omega arith) (flag _ _ _ c.node_of.ensures c.check_node.ensures ∙ yes), c.loop-i.invariant)

pub returns : goal.returns
returns c =
    let a = c.args in
    omega (arith, bad-none a.n c.loop-i.i (drop (node_place c.loop-i.i) a.area.now) c.loop-i-test.false, c.loop-i.invariant)
