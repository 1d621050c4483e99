-- The operations of a plan: they may follow each other, have their sizes, and bring of each named node what computing makes of it, with the plan's count.
-- Assumes nothing.
use Prim.Native.Nat.{◌+◌, ◌<◌, ◌≤◌, suc, zero, ℕ}
use mathlib.Core.Bool.{Bool, ◌&&◌, false, false≢true, true}
use mathlib.Core.List.{List, [], ◌++◌, ◌∷◌, append-nil}
use mathlib.Core.Logic.{◌⊎◌, inl, inr}
use mathlib.Core.Option.{Option, none, some}
use mathlib.Core.Path.{◌∙◌, ◌≡◌, ap, refl, subst, sym}
use native.Mathlib.Omega.{arith}
use lib.Dec.{eqb, leb}
use lib.ListN.{length, take}
use borrow.Author.Tests.{eq-eqb, eqb-true, leb-true, lt-ltb, ne_eqb}
use Rattle.fields.proofs.Choice.{and_left, and_right, in-cons, in-none}
use Rattle.fields.specs.Choice.{◌∈◌, here, later, pick}
use Rattle.rules.proofs.Accepted.{OkStale, append-small, body-chain, body-small, from-small}
use Rattle.rules.proofs.Deltas.{AllSmall, Chain}
use Rattle.rules.proofs.Next.{Differ, Strict, strict-stale}
use Rattle.rules.proofs.Obeys.{OkRec}
use Rattle.rules.proofs.Ops.{SmallKeyValue}
use Rattle.rules.proofs.Received.{strict-lower}
use Rattle.rules.proofs.Sending.{carried, max-records, node_delta, parts-records, recs-records}
use Rattle.rules.proofs.Stale.{stale-from, take_in, top_of}
use Rattle.rules.proofs.Tables.{part_at}
use Rattle.rules.specs.Compute.{StaleNode, body_ops, from_for, key_value_ops, stale_of}
use Rattle.rules.specs.Delta.{NodeDelta, NodeOp, Op, Part, Reading, follow, max_of, parts_of, recs_of}
use Rattle.rules.specs.Node.{KeyValue, Rec}
use Rattle.rules.specs.Sizes.{max_nodes}
use Rattle.rules.specs.Table.{Table, among, differ, numbers_of}
use Rattle.plan.proofs.Few.{first-new, others-differ}
use Rattle.plan.specs.Plan.{count_fits, line_fits, line_ops, lines_fit, named, plan_ops}

abbrev reading : List ℕ → ℕ → Reading
reading ns m = record { seen = ns; running = m }

-- ---- the named node

pub named-is : (i : ℕ) (ss : List StaleNode) {s : StaleNode} → named i ss ≡ some s → (s ∈ ss) × (i ≡ s.number)
unfolding named
named-is i [] e = let z : ◌≡◌ {A = ℕ} 0 1 = cc in absurd (omega arith)
named-is i (a ∷ ss) {s} e = go (eqb i a.number) refl e (named-is i ss)
  where
    go : (b : Bool) → eqb i a.number ≡ b → pick b (some a) (named i ss) ≡ some s → (named i ss ≡ some s → (s ∈ ss) × (i ≡ s.number)) → (s ∈ a ∷ ss) × (i ≡ s.number)
    go true q e ih = let is : s ≡ a = cc in (here is, eqb-true i a.number q ∙ sym (ap (λ (x : StaleNode). x.number) is))
    go false q e ih = let x = ih e in (later x.0, x.1)

-- ---- a chain

strict-take : (m n : ℕ) (l : List KeyValue) → Strict m l → Strict m (take n l)
unfolding Strict
strict-take m zero l s = tt
strict-take m (suc n) [] s = tt
strict-take m (suc n) (a ∷ l) s = (s.0, strict-take a.version n l s.1)

module _ (ss : List StaleNode) where
  pub plan-chain : (is cs ns : List ℕ) (m : ℕ) → ((s : StaleNode) → s ∈ ss → Differ s.node.recs) → lines_fit ss is cs ≡ true → differ is ≡ true → ((i : ℕ) → i ∈ is → among i ns ≡ false) → length ns + length is ≤ max_nodes → Chain (reading ns m) (plan_ops ss is cs)
  unfolding plan_ops lines_fit Chain follow among
  plan-chain [] cs ns m d ok one new few = tt
  plan-chain (i ∷ is) [] ns m d ok one new few = tt
  plan-chain (i ∷ is) (c ∷ cs) ns m d ok one new few = go (named i ss) refl ok (λ n k fit newer less. plan-chain is cs (n ∷ ns) k d fit (others-differ i is one) newer less)
    where
      Rest : Type 0
      Rest = (n k : ℕ) → lines_fit ss is cs ≡ true → ((j : ℕ) → j ∈ is → among j (n ∷ ns) ≡ false) → length (n ∷ ns) + length is ≤ max_nodes → Chain (reading (n ∷ ns) k) (plan_ops ss is cs)

      go : (o : Option StaleNode) → named i ss ≡ o → (line_fits c o && lines_fit ss is cs) ≡ true → Rest → Chain (reading ns m) (line_ops c o ++ plan_ops ss is cs)
      go none q ok ih = absurd (false≢true ok)
      go (some s) q ok ih =
          let x = named-is i ss q in
          let n : i ≡ s.number = x.1 in (
            reading (s.number ∷ ns) 0,
            rw (subst (λ (k : ℕ). among k ns ≡ false) n (new i (here refl)), lt-ltb (length ns) max_nodes (omega arith)),
            body-chain s.number ns s.node.max (take c (stale_of s)) (plan_ops ss is cs)
                (strict-take 0 c (stale_of s) (strict-lower (from_for s) 0 (stale_of s) (omega arith) (strict-stale (from_for s) s.node.recs (d s x.0))))
                (λ k.
                ih s.number k (and_right (line_fits c (some s)) _ ok)
                (λ j m. rw (ne_eqb j s.number (λ e. first-new i is one j m (e ∙ sym n))) (new j (later m))) (omega arith)),
          )

-- ---- sizes

line_small : (s : StaleNode) (c : ℕ) → OkStale s → AllSmall (line_ops c (some s))
unfolding AllSmall
line_small s c k = (
  (k.number_fits, k.node_ok.gc_fits, from-small s k),
  body-small s.node.max (take c (stale_of s)) k.node_ok.max-fits (λ r i. small r (stale-from (from_for s) s.node.recs (take_in c (stale_of s) i))),
)
  where
    kept : (x : Rec) → OkRec s.node.max x → SmallKeyValue x.kv
    kept x y = record { key_fits = y.key_fits; value-fits = y.value-fits; version_fits = let h = y.version_high in let g = k.node_ok.max-fits in omega arith }

    small : (r : KeyValue) → (x : Rec) × (x ∈ s.node.recs) × (x.kv ≡ r) × (from_for s < r.version) → SmallKeyValue r
    small r x = subst SmallKeyValue x.2 (kept x.0 (k.node_ok.each x.0 x.1))

pub plan-small : (ss : List StaleNode) (is cs : List ℕ) → ((s : StaleNode) → s ∈ ss → OkStale s) → AllSmall (plan_ops ss is cs)
unfolding plan_ops AllSmall
plan-small ss [] cs f = tt
plan-small ss (i ∷ is) [] f = tt
plan-small ss (i ∷ is) (c ∷ cs) f = go (named i ss) refl (plan-small ss is cs f)
  where
    go : (o : Option StaleNode) → named i ss ≡ o → AllSmall (plan_ops ss is cs) → AllSmall (line_ops c o ++ plan_ops ss is cs)
    go none q ih = ih
    go (some s) q ih = append-small (line_ops c (some s)) (plan_ops ss is cs) (line_small s c (f s (named-is i ss q).0)) ih

-- ---- what a named node brings

-- what follows a line begins with a Node, or is empty
rest-recs : (ss : List StaleNode) (is cs : List ℕ) → recs_of (plan_ops ss is cs) ≡ []
unfolding recs_of plan_ops
rest-recs ss [] cs = refl
rest-recs ss (i ∷ is) [] = refl
rest-recs ss (i ∷ is) (c ∷ cs) = go (named i ss) (rest-recs ss is cs)
  where
    go : (o : Option StaleNode) → recs_of (plan_ops ss is cs) ≡ [] → recs_of (line_ops c o ++ plan_ops ss is cs) ≡ []
    go none ih = ih
    go (some s) ih = refl

rest-max : (ss : List StaleNode) (is cs : List ℕ) (m : ℕ) → max_of m (plan_ops ss is cs) ≡ m
unfolding max_of plan_ops
rest-max ss [] cs m = refl
rest-max ss (i ∷ is) [] m = refl
rest-max ss (i ∷ is) (c ∷ cs) m = go (named i ss) (rest-max ss is cs m)
  where
    go : (o : Option StaleNode) → max_of m (plan_ops ss is cs) ≡ m → max_of m (line_ops c o ++ plan_ops ss is cs) ≡ m
    go none ih = ih
    go (some s) ih = refl

abbrev one_part : ℕ → ℕ → ℕ → List KeyValue → ℕ → Part
one_part number gc from recs max = record { number = number; delta = record { from = from; last_gc = gc; recs = recs; max = max } }

line-parts : (number gc from own c : ℕ) (all : List KeyValue) (rest : List Op) → count_fits c all ≡ true → recs_of rest ≡ [] → ((m : ℕ) → max_of m rest ≡ m) → parts_of (NodeOp number gc from ∷ (body_ops own (take c all) ++ rest)) ≡ one_part number gc from (take c all) (carried true own all (take c all)) ∷ parts_of rest
unfolding parts_of recs_of max_of
line-parts number gc from own zero [] rest ok r m = λ i. one_part number gc from (r i) (m own i) ∷ parts_of rest
line-parts number gc from own (suc c) [] rest ok r m = let z : suc c ≡ 0 = eqb-true (suc c) 0 ok in absurd (omega arith)
line-parts number gc from own zero (s ∷ ss) rest ok r m = let z : 1 ≤ 0 = leb-true 1 0 (and_left (leb 1 0) (leb 0 (length (s ∷ ss))) ok) in absurd (omega arith)
line-parts number gc from own (suc c) (s ∷ ss) rest ok r m =
    let sent : List KeyValue = s ∷ take c ss in
    let rs : recs_of (key_value_ops sent ++ rest) ≡ sent = recs-records sent rest ∙ ap (λ (l : List KeyValue). sent ++ l) r ∙ append-nil sent in
    let mx : max_of 0 (key_value_ops sent ++ rest) ≡ top_of 0 sent = max-records 0 sent rest ∙ m (top_of 0 sent) in
    let ps : parts_of (key_value_ops sent ++ rest) ≡ parts_of rest = parts-records sent rest in
    λ i. one_part number gc from (rs i) (mx i) ∷ ps i

-- a part of a plan: of a named node, with the plan's count, which fits
pub record PlannedPart (ss : List StaleNode) (i : ℕ) (d : NodeDelta) : Type 0 where
  pub of : StaleNode
  pub named_so : named i ss ≡ some of
  pub count : ℕ
  pub fits : count_fits count (stale_of of) ≡ true
  pub delta-is : d ≡ node_delta of.node of.told_gc of.told-max count true

pub part-planned : (ss : List StaleNode) (i : ℕ) (is cs : List ℕ) {d : NodeDelta} → lines_fit ss is cs ≡ true → part_at i (parts_of (plan_ops ss is cs)) ≡ some d → PlannedPart ss i d
unfolding plan_ops parts_of part_at lines_fit node_delta
part-planned ss i [] cs ok e = let z : ◌≡◌ {A = ℕ} 0 1 = cc in absurd (omega arith)
part-planned ss i (j ∷ is) [] ok e = let z : ◌≡◌ {A = ℕ} 0 1 = cc in absurd (omega arith)
part-planned ss i (j ∷ is) (c ∷ cs) {d} ok e = go (named j ss) refl ok e (part-planned ss i is cs)
  where
    go : (o : Option StaleNode)
        → named j ss ≡ o
        → (line_fits c o && lines_fit ss is cs) ≡ true
        → part_at i (parts_of (line_ops c o ++ plan_ops ss is cs)) ≡ some d
        → (lines_fit ss is cs ≡ true → part_at i (parts_of (plan_ops ss is cs)) ≡ some d → PlannedPart ss i d)
        → PlannedPart ss i d
    go none q ok e ih = absurd (false≢true ok)
    go (some s) q ok e ih =
        let fit : count_fits c (stale_of s) ≡ true = and_left (line_fits c (some s)) _ ok in
        let parts = line-parts s.number s.node.last_gc (from_for s) s.node.max c (stale_of s) (plan_ops ss is cs) fit (rest-recs ss is cs) (rest-max ss is cs) in
        at (eqb i s.number) refl fit (sym (ap (part_at i) parts) ∙ e)
      where
        mine : NodeDelta
        mine = node_delta s.node s.told_gc s.told-max c true

        at : (b : Bool) → eqb i s.number ≡ b → count_fits c (stale_of s) ≡ true → pick (eqb i s.number) (some mine) (part_at i (parts_of (plan_ops ss is cs))) ≡ some d → PlannedPart ss i d
        at true p fit e =
            let same : some mine ≡ some d = rw p at e in
            let n : j ≡ i = (named-is j ss q).1 ∙ sym (eqb-true i s.number p) in
            record { of = s; named_so = subst (λ (k : ℕ). named k ss ≡ some s) n q; count = c; fits = fit; delta-is = cc }
        at false p fit e = ih (and_right (line_fits c (some s)) _ ok) (rw p at e)

-- each named node has a part
pub named-part : (ss : List StaleNode) (is cs : List ℕ) → lines_fit ss is cs ≡ true → (i : ℕ) → i ∈ is → (d : NodeDelta) × (part_at i (parts_of (plan_ops ss is cs)) ≡ some d)
unfolding plan_ops parts_of part_at lines_fit
named-part ss [] cs ok i m = absurd (in-none m)
named-part ss (j ∷ is) [] ok i m = absurd (false≢true ok)
named-part ss (j ∷ is) (c ∷ cs) ok i m = go (named j ss) refl ok (in-cons m) (named-part ss is cs)
  where
    Has : List Op → Type 0
    Has ops = (d : NodeDelta) × (part_at i (parts_of ops) ≡ some d)

    go : (o : Option StaleNode) → named j ss ≡ o → (line_fits c o && lines_fit ss is cs) ≡ true → (i ≡ j) ⊎ (i ∈ is) → (lines_fit ss is cs ≡ true → (k : ℕ) → k ∈ is → (d : NodeDelta) × (part_at k (parts_of (plan_ops ss is cs)) ≡ some d)) → Has (line_ops c o ++ plan_ops ss is cs)
    go none q ok x ih = absurd (false≢true ok)
    go (some s) q ok x ih =
        let fit : count_fits c (stale_of s) ≡ true = and_left (line_fits c (some s)) _ ok in
        let parts = line-parts s.number s.node.last_gc (from_for s) s.node.max c (stale_of s) (plan_ops ss is cs) fit (rest-recs ss is cs) (rest-max ss is cs) in
        let found = at (eqb i s.number) refl x in
        (found.0, ap (part_at i) parts ∙ found.1)
      where
        mine : NodeDelta
        mine = record { from = from_for s; last_gc = s.node.last_gc; recs = take c (stale_of s); max = carried true s.node.max (stale_of s) (take c (stale_of s)) }

        at : (b : Bool) → eqb i s.number ≡ b → (i ≡ j) ⊎ (i ∈ is) → (d : NodeDelta) × (pick (eqb i s.number) (some mine) (part_at i (parts_of (plan_ops ss is cs))) ≡ some d)
        at true p x = (mine, rw p)
        at false p (inl e) = absurd (false≢true (sym p ∙ eq-eqb i s.number (e ∙ (named-is j ss q).1)))
        at false p (inr k) = let r = ih (and_right (line_fits c (some s)) _ ok) i k in (r.0, rw p r.1)

pub length-numbers : (t : Table) → length (numbers_of t) ≡ length t
unfolding numbers_of
length-numbers [] = refl
length-numbers (e ∷ t) = ap suc (length-numbers t)
