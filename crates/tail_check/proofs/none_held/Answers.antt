-- `tail_check::none_held` meets its contract: none of those that are left is remembered where none of all is. Assumes nothing.
use Prim.Native.Nat.{ℕ, ◌-◌}
use mathlib.Core.Path.{◌≡◌, refl, sym, ap, ◌∙◌}
use mathlib.Core.List.{List}
use native.Mathlib.Omega.{arith}
use native.Mathlib.Nat.{sub-zero}
use lib.ListN.{take, drop}
use Rattle.fields.specs.Numbers.{nat_of}
use Rattle.fields.specs.Parts.{part}
use Rattle.rules.specs.Table.{among}
use Rattle.tail_check.proofs.Numbers.{one-held, not-held, no_more}
use Rattle.tail_check.proofs.none_held.Goals as goal

-- from the first on
all_of : (ns : List ℕ) (n x : ℕ) → among x (take (n - 0) (drop 0 ns)) ≡ among x (take n ns)
all_of ns n x = rw sub-zero refl

pub loop-i-init : goal.loop-i-init
loop-i-init c =
    refl

pub returns-then-stands_from : goal.returns-then-stands_from
returns-then-stands_from c =
    let a = c.args in
    let l : List ℕ = a.area.now in
    one-held l (omega arith) (omega arith) (take a.n a.ns.now) c.loop-i.i c.read_u64-x.result (omega arith)
    (c.read_u64-x.ensures ∙ ap (λ (k : ℕ). nat_of (part k 8 l)) c.node_place.ensures)
    (c.stands_from.ensures ∙ all_of a.ns.now a.n _) c.loop-i.invariant c.if-stands_from.true

pub loop-i-preserved : goal.loop-i-preserved
loop-i-preserved c =
    let a = c.args in
    let l : List ℕ = a.area.now in
    not-held l (omega arith) (omega arith) (take a.n a.ns.now) c.loop-i.i c.read_u64-x.result (omega arith)
    (c.read_u64-x.ensures ∙ ap (λ (k : ℕ). nat_of (part k 8 l)) c.node_place.ensures)
    (c.stands_from.ensures ∙ all_of a.ns.now a.n _) c.loop-i.invariant c.if-stands_from.false

pub returns : goal.returns
returns c =
    let a = c.args in
    sym (no_more a.area.now (omega arith) (omega arith) (take a.n a.ns.now) c.loop-i.i (omega arith)) ∙ c.loop-i.invariant
