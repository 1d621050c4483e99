-- `numbers_differ::all_differ` meets its contract: the numbers from i on differ, and each has its mark. Assumes nothing.
use Prim.Native.Nat.{ℕ, ◌+◌, ◌-◌, ◌%◌, ◌≤◌, ◌<◌}
use mathlib.Core.Path.{◌≡◌, refl, sym, ap, ◌∙◌}
use mathlib.Core.Bool.{Bool, true, false}
use mathlib.Core.Logic.{⊎_elim}
use mathlib.Core.List.{List, [], ◌∷◌}
use native.Mathlib.Omega.{arith}
use native.Mathlib.Nat.{sub-zero}
use lib.ListN.{length, get_or, set, take, drop, length-set}
use Rattle.rules.specs.Table.{among, differ}
use Rattle.numbers_differ.proofs.Seen.{Marked, none-among, unmarked, marked, differ-cons, twice-cons, differ-rest}
use Rattle.numbers_differ.proofs.Row.{rest-next}
use Rattle.numbers_differ.proofs.all_differ.Goals as goal

-- the numbers from i on
abbrev left : List ℕ → ℕ → ℕ → List ℕ
left ns n i = take (n - i) (drop i ns)

none_left : (ns : List ℕ) (n i : ℕ) → n ≤ i → left ns n i ≡ []
none_left ns n i h = let z : n - i ≡ 0 = omega arith in rw z refl

ends : {l : List ℕ} → l ≡ [] → differ l ≡ true
unfolding differ
ends e = ap differ e

-- one number more: i goes down to i - 1
module _ (ns seen : List ℕ) (n i k : ℕ) (h : 0 < i) (g : i ≤ n) (l : n ≤ length ns) (e : k ≡ get_or ns (i - 1) 0 % 1024) where
  behind : i - 1 + 1 ≡ i
  behind = omega arith

  longer : left ns n (i - 1) ≡ get_or ns (i - 1) 0 ∷ left ns n i
  longer = rest-next ns (i - 1) n (omega arith) l ∙ ap (λ (m : ℕ). get_or ns (i - 1) 0 ∷ left ns n m) behind

  found : {t : Bool} → t ≡ among (get_or ns (i - 1) 0) (take (n - (i - 1 + 1)) (drop (i - 1 + 1) ns)) → among (get_or ns (i - 1) 0) (left ns n i) ≡ t
  found q = sym (q ∙ ap (λ (m : ℕ). among (get_or ns (i - 1) 0) (left ns n m)) behind)

  twice : among (get_or ns (i - 1) 0) (left ns n i) ≡ true → false ≡ differ (take n ns)
  twice q = sym (differ-rest (i - 1) n ns (omega arith) l (ap differ longer ∙ twice-cons _ (left ns n i) q))

  once : among (get_or ns (i - 1) 0) (left ns n i) ≡ false → differ (left ns n i) ≡ true → differ (left ns n (i - 1)) ≡ true
  once q d = ap differ longer ∙ differ-cons _ (left ns n i) q d

  unseen : Marked seen (left ns n i) → (get_or seen k 0 ≡ 1 → ⊥) → among (get_or ns (i - 1) 0) (left ns n i) ≡ false
  unseen m q = unmarked seen (left ns n i) (get_or ns (i - 1) 0) m (λ r. q (ap (λ (x : ℕ). get_or seen x 0) e ∙ r))

  marks : length seen ≡ 1024 → Marked seen (left ns n i) → Marked (set seen k 1) (left ns n (i - 1))
  marks d m x q =
      ap (λ (y : ℕ). get_or (set seen y 1) (x % 1024) 0) e
      ∙ marked seen (left ns n i) (get_or ns (i - 1) 0) d m x (ap (among x) (sym longer) ∙ q)

pub loop-i-init : goal.loop-i-init
loop-i-init c =
    let a = c.args in
    let z = none_left a.ns.now a.n a.n (omega arith) in
    (omega arith, refl, ends z, λ x q. none-among x (sym (ap (among x) z) ∙ q))

pub returns-then-stands_from : goal.returns-then-stands_from
returns-then-stands_from c =
    let a = c.args in
    let p = c.place_of-k.ensures.0 in
    let laws = twice a.ns.now c.loop-i.seen a.n c.loop-i.i _ (omega arith) (omega arith) (omega arith) p in
    laws (found a.ns.now c.loop-i.seen a.n c.loop-i.i _ (omega arith) (omega arith) (omega arith) p c.stands_from.ensures ∙ c.if-stands_from.true)

pub loop-i-preserved : goal.loop-i-preserved
loop-i-preserved c =
    let a = c.args in
    let ns : List ℕ = a.ns.now in
    let i : ℕ = c.loop-i.i in
    let seen : List ℕ = c.loop-i.seen in
    let k : ℕ = c.place_of-k.result in
    let p = c.place_of-k.ensures.0 in
    let h : 0 < i = omega arith in
    let g : i ≤ a.n = omega arith in
    let l : a.n ≤ length ns = omega arith in
    let new : among (get_or ns (i - 1) 0) (left ns a.n i) ≡ false = ⊎_elim (λ w. found ns seen a.n i k h g l p w.stands_from.ensures ∙ w.if-stands_from.false) (λ w. unseen ns seen a.n i k h g l p c.loop-i.invariant.3 w.if-seen-k-eq1.false)
    c.if-seen-k-eq1.branch-raw in (
      omega arith,
      length-set seen k 1 ∙ c.loop-i.invariant.1,
      once ns seen a.n i k h g l p new c.loop-i.invariant.2,
      marks ns seen a.n i k h g l p c.loop-i.invariant.1 c.loop-i.invariant.3,
    )

pub returns : goal.returns
returns c =
    let z : c.loop-i.i ≡ 0 = omega arith in
    sym (rw (z, sub-zero) at c.loop-i.invariant.2)
