-- `delta_names::put_numbers` meets its contract: what stands and what is left are the whole. Assumes nothing.
use Prim.Native.Nat.{ℕ, ◌+◌, ◌-◌}
use mathlib.Core.Path.{◌≡◌, ap, sym, ◌∙◌}
use mathlib.Core.List.{List}
use native.Mathlib.Omega.{arith}
use native.Mathlib.Nat.{sub-zero}
use lib.ListN.{set}
use Rattle.fields.specs.Parts.{put}
use Rattle.delta_names.specs.Names.{numbers_at}
use Rattle.delta_names.proofs.Names.{over, turn}
use Rattle.delta_names.proofs.put_numbers.Goals as goal

-- what was read is stored
stored : (s at list t : List ℕ) (i n v w : ℕ) → v ≡ w → put (i + 1) (numbers_at s at (i + 1) (n - (i + 1))) (set list i w) ≡ t
    → put (i + 1) (numbers_at s at (i + 1) (n - (i + 1))) (set list i v) ≡ t
stored s at list t i n v w e p = ap (λ (x : ℕ). put (i + 1) (numbers_at s at (i + 1) (n - (i + 1))) (set list i x)) e ∙ p

pub loop-i-init : goal.loop-i-init
loop-i-init c =
    let a = c.args in
    ap (λ (k : ℕ). put 0 (numbers_at a.delta.now a.places.now 0 k) a.list.now) (sub-zero a.n)

pub loop-i-preserved : goal.loop-i-preserved
loop-i-preserved c =
    let q = c.loop-i in
    let a = c.args in
    let low = c.loop-i-test.true in
    stored a.delta.now a.places.now q.list (put 0 (numbers_at a.delta.now a.places.now 0 a.n) a.list.now) q.i a.n c.read_u64.result _ c.read_u64.ensures
    (turn a.delta.now a.places.now q.list _ q.i a.n low (omega (arith, low, c.requires.1, q.auto.list)) q.invariant)

pub returns : goal.returns
returns c =
    let q = c.loop-i in
    let a = c.args in
    sym (over a.delta.now a.places.now q.list q.i a.n c.loop-i-test.false) ∙ q.invariant
