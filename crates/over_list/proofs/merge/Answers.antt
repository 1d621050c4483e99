-- `over_list::merge` meets its contract: what is listed and what is left are the whole listing. Assumes nothing.
use Prim.Native.Nat.{ℕ, zero, suc, ◌+◌, ◌≤◌, ◌<◌}
use mathlib.Core.Path.{◌≡◌, refl, ap, ap₂, sym, ◌∙◌, subst}
use mathlib.Core.List.{List, [], ◌∷◌, ◌++◌, append_assoc, append-nil}
use native.Mathlib.Omega.{arith}
use native.Mathlib.Nat.{add-zero}
use native.Mathlib.Numerals.{add-one}
use lib.ListN.{length, take, set, length-set}
use lib.Seq.{length-take-le, take-set-le, take-suc-set}
use Rattle.over_list.specs.Turns.{left_in}
use Rattle.over_list.proofs.Turning.{TurnIs, none_left, turn_is}
use Rattle.over_list.proofs.merge.Goals as goal

-- a byte is written behind those that were listed, and it is listed or not
gathered : (out : List ℕ) (i h m : ℕ) → i < length out → m ≤ 1 → take (i + m) (set out i h) ≡ take i out ++ take m (h ∷ [])
gathered out i h zero l q = ap (λ (n : ℕ). take n (set out i h)) (add-zero i) ∙ take-set-le i out i h (omega arith) ∙ sym (append-nil (take i out))
gathered out i h (suc zero) l q = ap (λ (n : ℕ). take n (set out i h)) (add-one i) ∙ take-suc-set out i h l
gathered out i h (suc (suc m)) l q = absurd (omega arith)

pub loop-a-init : goal.loop-a-init
loop-a-init c =
    (c.requires.4, c.requires.6, c.requires.7, omega arith, refl, refl)

pub overflow_add-a : goal.overflow_add-a
overflow_add-a c =
    let fewer : let a = c.args in (a.own.end ≤ 32) × (a.shared.end ≤ 32) = (omega (arith, c.requires.5, c.requires.0.few), omega (arith, c.requires.8, c.requires.2.few)) in
    let f = fewer in
    let v = c.loop-a.invariant in
    omega (arith, f.0, f.1, v.0, v.2)

pub overflow_add-a_end : goal.overflow_add-a_end
overflow_add-a_end c =
    let fewer : let a = c.args in (a.own.end ≤ 32) × (a.shared.end ≤ 32) = (omega (arith, c.requires.5, c.requires.0.few), omega (arith, c.requires.8, c.requires.2.few)) in
    let f = fewer in omega (arith, f.0, f.1)

pub next_turn-t-requires : goal.next_turn-t-requires
next_turn-t-requires c =
    let v = c.loop-a.invariant in
    (c.requires.0, c.requires.2, v.0, c.requires.5, v.2, c.requires.8, c.loop-a-test.true, v.1)

pub overflow_cast-out : goal.overflow_cast-out
overflow_cast-out c =
    let turned : let a = c.args in
    TurnIs a.overrides.now c.loop-a.a a.own.end a.node.now a.base c.loop-a.b a.shared.end c.next_turn-t.result = let a = c.args in
    let v = c.loop-a.invariant in
    subst (TurnIs a.overrides.now c.loop-a.a a.own.end a.node.now a.base c.loop-a.b a.shared.end) (sym c.next_turn-t.ensures)
    (turn_is a.overrides.now a.node.now c.requires.0 c.requires.1 c.requires.2 c.requires.3 a.own.end a.base a.shared.end c.requires.5 c.requires.8
    c.loop-a.a c.loop-a.b v.0 v.1 v.2 c.loop-a-test.true) in
    omega (arith, (turned).small)

pub bounds-out-next : goal.bounds-out-next
bounds-out-next c =
    let fewer : let a = c.args in (a.own.end ≤ 32) × (a.shared.end ≤ 32) = (omega (arith, c.requires.5, c.requires.0.few), omega (arith, c.requires.8, c.requires.2.few)) in
    let f = fewer in
    let v = c.loop-a.invariant in
    omega (arith, f.0, f.1, c.loop-a-test.true, v.3, v.4, c.requires.9)

pub overflow_add-next : goal.overflow_add-next
overflow_add-next c =
    let fewer : let a = c.args in (a.own.end ≤ 32) × (a.shared.end ≤ 32) = (omega (arith, c.requires.5, c.requires.0.few), omega (arith, c.requires.8, c.requires.2.few)) in
    let turned : let a = c.args in
    TurnIs a.overrides.now c.loop-a.a a.own.end a.node.now a.base c.loop-a.b a.shared.end c.next_turn-t.result = let a = c.args in
    let v = c.loop-a.invariant in
    subst (TurnIs a.overrides.now c.loop-a.a a.own.end a.node.now a.base c.loop-a.b a.shared.end) (sym c.next_turn-t.ensures)
    (turn_is a.overrides.now a.node.now c.requires.0 c.requires.1 c.requires.2 c.requires.3 a.own.end a.base a.shared.end c.requires.5 c.requires.8
    c.loop-a.a c.loop-a.b v.0 v.1 v.2 c.loop-a-test.true) in
    let f = fewer in
    let v = c.loop-a.invariant in
    omega (arith, f.0, f.1, v.0, v.2, v.3, (turned).once)

pub overflow_add-a-in-loop-a : goal.overflow_add-a-in-loop-a
overflow_add-a-in-loop-a c =
    let fewer : let a = c.args in (a.own.end ≤ 32) × (a.shared.end ≤ 32) = (omega (arith, c.requires.5, c.requires.0.few), omega (arith, c.requires.8, c.requires.2.few)) in
    let turned : let a = c.args in
    TurnIs a.overrides.now c.loop-a.a a.own.end a.node.now a.base c.loop-a.b a.shared.end c.next_turn-t.result = let a = c.args in
    let v = c.loop-a.invariant in
    subst (TurnIs a.overrides.now c.loop-a.a a.own.end a.node.now a.base c.loop-a.b a.shared.end) (sym c.next_turn-t.ensures)
    (turn_is a.overrides.now a.node.now c.requires.0 c.requires.1 c.requires.2 c.requires.3 a.own.end a.base a.shared.end c.requires.5 c.requires.8
    c.loop-a.a c.loop-a.b v.0 v.1 v.2 c.loop-a-test.true) in
    let f = fewer in
    omega (arith, f.0, (turned).over-in)

pub overflow_add-b : goal.overflow_add-b
overflow_add-b c =
    let fewer : let a = c.args in (a.own.end ≤ 32) × (a.shared.end ≤ 32) = (omega (arith, c.requires.5, c.requires.0.few), omega (arith, c.requires.8, c.requires.2.few)) in
    let turned : let a = c.args in
    TurnIs a.overrides.now c.loop-a.a a.own.end a.node.now a.base c.loop-a.b a.shared.end c.next_turn-t.result = let a = c.args in
    let v = c.loop-a.invariant in
    subst (TurnIs a.overrides.now c.loop-a.a a.own.end a.node.now a.base c.loop-a.b a.shared.end) (sym c.next_turn-t.ensures)
    (turn_is a.overrides.now a.node.now c.requires.0 c.requires.1 c.requires.2 c.requires.3 a.own.end a.base a.shared.end c.requires.5 c.requires.8
    c.loop-a.a c.loop-a.b v.0 v.1 v.2 c.loop-a-test.true) in
    let f = fewer in
    omega (arith, f.1, (turned).node_in)

pub loop-a-smaller : goal.loop-a-smaller
loop-a-smaller c =
    let turned : let a = c.args in
    TurnIs a.overrides.now c.loop-a.a a.own.end a.node.now a.base c.loop-a.b a.shared.end c.next_turn-t.result = let a = c.args in
    let v = c.loop-a.invariant in
    subst (TurnIs a.overrides.now c.loop-a.a a.own.end a.node.now a.base c.loop-a.b a.shared.end) (sym c.next_turn-t.ensures)
    (turn_is a.overrides.now a.node.now c.requires.0 c.requires.1 c.requires.2 c.requires.3 a.own.end a.base a.shared.end c.requires.5 c.requires.8
    c.loop-a.a c.loop-a.b v.0 v.1 v.2 c.loop-a-test.true) in
    let x = turned in
    omega (arith, x.goes, x.over-in, x.node_in, c.loop-a-test.true)

pub loop-a-preserved : goal.loop-a-preserved
loop-a-preserved c =
    let fewer : let a = c.args in (a.own.end ≤ 32) × (a.shared.end ≤ 32) = (omega (arith, c.requires.5, c.requires.0.few), omega (arith, c.requires.8, c.requires.2.few)) in
    let turned : let a = c.args in
    TurnIs a.overrides.now c.loop-a.a a.own.end a.node.now a.base c.loop-a.b a.shared.end c.next_turn-t.result = let a = c.args in
    let v = c.loop-a.invariant in
    subst (TurnIs a.overrides.now c.loop-a.a a.own.end a.node.now a.base c.loop-a.b a.shared.end) (sym c.next_turn-t.ensures)
    (turn_is a.overrides.now a.node.now c.requires.0 c.requires.1 c.requires.2 c.requires.3 a.own.end a.base a.shared.end c.requires.5 c.requires.8
    c.loop-a.a c.loop-a.b v.0 v.1 v.2 c.loop-a-test.true) in
    let a = c.args in
    let v = c.loop-a.invariant in
    let f = fewer in
    let x = turned in
    let r = c.next_turn-t.result in
    let out : List ℕ = c.loop-a.out in
    let next : ℕ = c.loop-a.next in
    let rest : List ℕ = left_in a.overrides.now (c.loop-a.a + r.over) a.own.end a.node.now a.base (c.loop-a.b + r.node) a.shared.end in
    let room : next < length out = omega (arith, f.0, f.1, c.loop-a-test.true, v.3, v.4, c.requires.9) in (
      x.over-in,
      omega (arith, v.1),
      x.node_in,
      omega (arith, v.3, x.paid),
      simp length-set v.4,
      ap (λ (l : List ℕ). l ++ rest) (gathered out next r.hit r.listed room x.once)
          ∙ append_assoc (take next out) (take r.listed (r.hit ∷ [])) rest
          ∙ ap (λ (l : List ℕ). take next out ++ l) (sym x.splits)
          ∙ v.5,
    )

pub shape_of-out : goal.shape_of-out
shape_of-out c =
    c.loop-a.invariant.4

pub returns : goal.returns
returns c =
    let fewer : let a = c.args in (a.own.end ≤ 32) × (a.shared.end ≤ 32) = (omega (arith, c.requires.5, c.requires.0.few), omega (arith, c.requires.8, c.requires.2.few)) in
    let t = c.args in
    let v = c.loop-a.invariant in
    let f = fewer in
    let a_over : c.loop-a.a ≡ t.own.end = omega (arith, c.loop-a-test.false, v.0, v.2) in
    let b_over : c.loop-a.b ≡ t.shared.end = omega (arith, c.loop-a-test.false, v.0, v.2) in
    let none : left_in t.overrides.now c.loop-a.a t.own.end t.node.now t.base c.loop-a.b t.shared.end ≡ [] = ap₂ (λ (a b : ℕ). left_in t.overrides.now a t.own.end t.node.now t.base b t.shared.end) a_over b_over
    ∙ none_left t.overrides.now t.own.end t.node.now t.base t.shared.end in
    let all : take c.loop-a.next c.loop-a.out ≡ left_in t.overrides.now t.own.start t.own.end t.node.now t.base t.shared.start t.shared.end = sym (ap (λ (l : List ℕ). take c.loop-a.next c.loop-a.out ++ l) none ∙ append-nil (take c.loop-a.next c.loop-a.out)) ∙ v.5 in
    (sym (length-take-le c.loop-a.next c.loop-a.out (omega (arith, f.0, f.1, v.0, v.2, v.3, v.4, c.requires.9))) ∙ ap length all, all)
