-- `table_nodes::raise_from` meets its contract: from the last place down, those above are raised and those below are as they were. Assumes nothing.
use Prim.Native.Nat.{ℕ, ◌+◌, ◌-◌}
use mathlib.Core.Path.{◌≡◌, refl, ap, ◌∙◌}
use native.Mathlib.Omega.{arith}
use lib.ListN.{length}
use Rattle.table_nodes.proofs.Moves.{up_from, up_none, up-long, up-asked, up_done}
use Rattle.table_nodes.proofs.raise_from.Goals as goal

pub loop-k-init : goal.loop-k-init
loop-k-init c =
    (c.requires.1, refl, up_none c.args.table.now c.requires.0 c.args.n c.requires.2)

pub raise-requires : goal.raise-requires
raise-requires c =
    let a = c.args in
    let q = c.loop-k in
    let k : q.k ≡ q.k - 1 + 1 = omega (arith, c.loop-k-test.true) in
    let so_far = q.invariant.2 ∙ ap (λ (j : ℕ). up_from a.n j a.table.now) k in
    up-asked a.table.now c.requires.0 a.n c.requires.2 (q.k - 1) (omega arith) q.table so_far _ c.node_place-a.ensures

pub loop-k-preserved : goal.loop-k-preserved
loop-k-preserved c =
    let a = c.args in
    let q = c.loop-k in
    let k : q.k ≡ q.k - 1 + 1 = omega (arith, c.loop-k-test.true) in
    let so_far = q.invariant.2 ∙ ap (λ (j : ℕ). up_from a.n j a.table.now) k in
    let e = up_done a.table.now c.requires.0 a.n c.requires.2 (q.k - 1) (omega arith) q.table so_far _ c.node_place-a.ensures
    c.raise.new.pair c.raise.ensures c.raise.auto.pair in
    (omega (arith, c.loop-k-test.true), ap length e ∙ up-long a.table.now c.requires.0 a.n c.requires.2 (q.k - 1) (omega arith), e)

pub returns : goal.returns
returns c =
    let a = c.args in
    let k : c.loop-k.k ≡ a.i = omega arith in
    c.loop-k.invariant.2 ∙ ap (λ (j : ℕ). up_from a.n j a.table.now) k
