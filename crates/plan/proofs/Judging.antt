-- No line of a plan is at fault exactly where the plan is accepted. Assumes nothing.
use Prim.Native.Nat.{ℕ, suc, ◌+◌, ◌-◌, ◌≤◌}
use mathlib.Core.Bool.{Bool, ◌&&◌, false, false≢true, not, true}
use mathlib.Core.List.{List, [], ◌++◌, ◌∷◌, append_assoc}
use mathlib.Core.Option.{Option, none, some}
use mathlib.Core.Path.{◌∙◌, ◌≡◌, ap, refl, sym}
use native.Mathlib.Omega.{arith}
use lib.Dec.{eqb, leb, ltb}
use lib.ListN.{length, length-append}
use borrow.Author.Tests.{eqb-true, eqb-false, le-leb, leb-true, leb-false, lt-leb, le-ltb, lt-ltb, ltb-true, ltb-false, ne_eqb, eq-eqb}
use Rattle.fields.proofs.Choice.{and_last, and_no, and_right}
use Rattle.fields.specs.Blocks.{flat}
use Rattle.fields.specs.Choice.{pick}
use Rattle.fields.specs.Numbers.{Bytes}
use Rattle.rules.proofs.Obeys.{Ascending, table-facts}
use Rattle.rules.specs.Answers.{computed_told}
use Rattle.rules.specs.Compute.{StaleNode, stale_of, told_of, written}
use Rattle.rules.specs.Delta.{Op, delta_bytes}
use Rattle.rules.specs.Digest.{DigestRead, Entries, NodeDigest, Refused, fits_at, is_edition, read_digest}
use Rattle.rules.specs.Given.{given}
use Rattle.rules.specs.Node.{KeyValue, Node}
use Rattle.rules.specs.Sizes.{least_mtu, max_delta}
use Rattle.rules.specs.Table.{Table, among, differ, node_of, numbers_of, obeys}
use Rattle.std.specs.Prelude.{Err, Ok, Result}
use Rattle.plan.specs.declared.NotSent.{NotSent}
use Rattle.plan.specs.declared.NotSent.TheVariants as not_sent
use Rattle.rules.specs.declared.Refusal.TheVariants.{BadEdition, BadMtu, BadPlan, NoPlace}
use Rattle.plan.proofs.Held.{named-held, sendable, stale_if}
use Rattle.plan.specs.declared.Fault.{Fault}
use Rattle.plan.specs.declared.Fault.TheVariants.{Excluded, NamedBefore, NoFit, TooFew, TooMany, UpToDate}
use Rattle.plan.specs.Faults.{count_fault, judge, judge_from, judge_on, judge_plan, judged_told, line_fault, line_size, or_else, size_of_line, stale_held}
use Rattle.plan.specs.Plan.{accepts, compute_plan, count_fits, delta_by, line_fits, line_ops, lines_fit, plan_on, plan_ops, stale_for}

abbrev pub is_accepted : (Result (Unit {0}) NotSent) → Bool
is_accepted (Ok _) = true
is_accepted (Err (not_sent.AtFault line why)) = false
is_accepted (Err (not_sent.Refused r)) = false

-- ---- named once, looking back

-- none of the numbers is one of those before
unfoldable pub new_to : (before numbers : List ℕ) → Bool
new_to before [] = true
new_to before (i ∷ is) = not (among i before) && new_to before is

eqb_swap : (a b : ℕ) → eqb a b ≡ eqb b a
eqb_swap a b = go (eqb a b) refl
  where
    go : (t : Bool) → eqb a b ≡ t → t ≡ eqb b a
    go true q = sym (eq-eqb b a (sym (eqb-true a b q)))
    go false q = sym (ne_eqb b a (λ e. eqb-false a b q (sym e)))

among-last : (j i : ℕ) (l : List ℕ) → among j (l ++ (i ∷ [])) ≡ pick (among j l) true (eqb j i)
unfolding among
among-last j i [] = go (eqb j i)
  where
    go : (b : Bool) → pick b true false ≡ b
    go true = refl
    go false = refl
among-last j i (n ∷ l) = go (eqb j n) (among-last j i l)
  where
    go : (b : Bool) → among j (l ++ (i ∷ [])) ≡ pick (among j l) true (eqb j i) → pick b true (among j (l ++ (i ∷ []))) ≡ pick (pick b true (among j l)) true (eqb j i)
    go true ih = refl
    go false ih = ih

new-last : (before : List ℕ) (i : ℕ) (is : List ℕ) → new_to (before ++ (i ∷ [])) is ≡ (new_to before is && not (among i is))
unfolding new_to among
new-last before i [] = refl
new-last before i (j ∷ is) =
    (λ k. not (among-last j i before k) && new-last before i is k)
    ∙ go (among j before) (eqb j i) (new_to before is) (among i is)
    ∙ ap (λ (b : Bool). (not (among j before) && new_to before is) && not (pick b true (among i is))) (eqb_swap j i)
  where
    never : (c : Bool) → false ≡ (c && false)
    never true = refl
    never false = refl

    go : (a b c d : Bool) → (not (pick a true b) && (c && not d)) ≡ ((not a && c) && not (pick b true d))
    go true b c d = refl
    go false true c d = never c
    go false false c d = refl

-- with none before, the numbers differ
new_none : (is : List ℕ) → new_to [] is ≡ true
unfolding new_to among
new_none [] = refl
new_none (i ∷ is) = new_none is

-- ---- a line

abbrev pub no_fault : Option Fault → Bool
no_fault none = true
no_fault (some f) = false

size-law : (size left : ℕ) → no_fault (pick (ltb left size) (some NoFit) none) ≡ leb size left
size-law size left = go (ltb left size) refl
  where
    go : (b : Bool) → ltb left size ≡ b → no_fault (pick b (some NoFit) none) ≡ leb size left
    go true q = sym (lt-leb size left (ltb-true left size q))
    go false q = sym (le-leb size left (ltb-false left size q))

-- the count fits, and the bytes
count_law : (c : ℕ) (all : List KeyValue) (size left : ℕ) → no_fault (count_fault c all size left) ≡ (count_fits c all && leb size left)
count_law c [] size left = go (ltb 0 c) refl
  where
    none_of : (b : Bool) → pick (b && false) (some TooFew) (pick (ltb left size) (some NoFit) none) ≡ pick (ltb left size) (some NoFit) none
    none_of true = refl
    none_of false = refl

    go : (b : Bool) → ltb 0 c ≡ b → no_fault (pick b (some TooMany) (pick (eqb c 0 && ltb 0 0) (some TooFew) (pick (ltb left size) (some NoFit) none))) ≡ (eqb c 0 && leb size left)
    go true q = let h = ltb-true 0 c q in sym (and_no (eqb c 0) (leb size left) (ne_eqb c 0 (λ e. omega arith)))
    go false q =
        let h = ltb-false 0 c q in
        ap no_fault (none_of (eqb c 0)) ∙ size-law size left ∙ ap (λ (b : Bool). b && leb size left) (sym (eq-eqb c 0 (omega arith)))
count_law c (s ∷ ss) size left = go (ltb n c) refl (eqb c 0) refl
  where
    n : ℕ
    n = length (s ∷ ss)

    some-there : ltb 0 n ≡ true
    some-there = lt-ltb 0 n (omega arith)

    go : (b : Bool) → ltb n c ≡ b → (d : Bool) → eqb c 0 ≡ d
        → no_fault (pick b (some TooMany) (pick (d && ltb 0 n) (some TooFew) (pick (ltb left size) (some NoFit) none))) ≡ ((leb 1 c && leb c n) && leb size left)
    go true q d p = let h = ltb-true n c q in rw (lt-leb c n h, and-last-no (leb 1 c)) refl
      where
        and-last-no : (b : Bool) → b && false ≡ false
        and-last-no true = refl
        and-last-no false = refl
    go false q true p =
        let h = eqb-true c 0 p in
        ap (λ (b : Bool). no_fault (pick b (some TooFew) (pick (ltb left size) (some NoFit) none))) some-there
        ∙ ap (λ (b : Bool). (b && leb c n) && leb size left) (sym (lt-leb 1 c (omega arith)))
    go false q false p =
        let h = ltb-false n c q in
        let g = eqb-false c 0 p in
        let low : leb 1 c ≡ true = le-leb 1 c (omega (arith, g)) in
        size-law size left ∙ sym (ap (λ (b : Bool). b && leb size left) (λ i. low i && le-leb c n h i))

flip : (a b : ℕ) → ltb b a ≡ not (leb a b)
flip a b = go (leb a b) refl
  where
    go : (t : Bool) → leb a b ≡ t → ltb b a ≡ not t
    go true q = le-ltb b a (leb-true a b q)
    go false q = lt-ltb b a (leb-false a b q)

module _ (excluded : List ℕ) (ds : List NodeDigest) (i c : ℕ) where
  -- named once, held, not excluded and stale, with a count that fits; and the bytes
  line-law : (before : List ℕ) (left : ℕ) (o : Option Node)
      → no_fault (line_fault excluded before left ds i c o) ≡ (not (among i before) && (line_fits c (stale_if excluded ds i o) && leb (line_size ds i c o) left))
  line-law before left none = sym (no (among i before))
    where
      no : (b : Bool) → (not b && false) ≡ false
      no true = refl
      no false = refl
  line-law before left (some n) =
      go (among i excluded) (among i before) (leb n.max (told_of i ds).max)
      ∙ ap (λ (b : Bool). not (among i before) && (line_fits c (pick (not (among i excluded) && b) (some s) none) && leb size left)) (sym (flip n.max (told_of i ds).max))
    where
      s : StaleNode
      s = stale_held ds i n

      size : ℕ
      size = size_of_line c s

      no : (b : Bool) → false ≡ (not b && false)
      no true = refl
      no false = refl

      go : (a b m : Bool) → no_fault (pick a (some Excluded) (pick b (some NamedBefore) (pick m (some UpToDate) (count_fault c (stale_of s) size left))))
          ≡ (not b && (line_fits c (pick (not a && not m) (some s) none) && leb size left))
      go true b m = no b
      go false true m = refl
      go false false true = refl
      go false false false = count_law c (stale_of s) size left

  -- a line that is not at fault fits
  pub fault-fits : (before : List ℕ) (left : ℕ) (o : Option Node) → line_fault excluded before left ds i c o ≡ none → line_size ds i c o ≤ left
  fault-fits before left o e =
      let whole = sym (line-law before left o) ∙ ap no_fault e in
      leb-true _ _ (and_right (line_fits c (stale_if excluded ds i o)) _ (and_right (not (among i before)) _ whole))

  -- the bytes of a line that fits
  line-size : (o : Option Node) → line_fits c (stale_if excluded ds i o) ≡ true → length (delta_bytes (line_ops c (stale_if excluded ds i o))) ≡ line_size ds i c o
  line-size none e = absurd (false≢true e)
  line-size (some n) e = go (sendable excluded ds i n) e
    where
      go : (b : Bool) → line_fits c (pick b (some (stale_held ds i n)) none) ≡ true → length (delta_bytes (line_ops c (pick b (some (stale_held ds i n)) none))) ≡ size_of_line c (stale_held ds i n)
      go true e = refl
      go false e = absurd (false≢true e)

-- ---- the lines

pub bytes-append : (xs ys : List Op) → delta_bytes (xs ++ ys) ≡ delta_bytes xs ++ delta_bytes ys
unfolding delta_bytes flat
bytes-append [] ys = refl
bytes-append (x ∷ xs) ys = rw (bytes-append xs ys, append_assoc)

first-no : (a b : Bool) → (a && (b && false)) ≡ false
first-no true true = refl
first-no true false = refl
first-no false b = refl

last-no : (a b c : Bool) → (a && (b && (c && false))) ≡ false
last-no true true true = refl
last-no true true false = refl
last-no true false c = refl
last-no false b c = refl

module _ (excluded : List ℕ) (ds : List NodeDigest) (t : Table) (asc : Ascending (numbers_of t)) where
  abbrev ss : List StaleNode
  ss = stale_for excluded ds t

  abbrev whole : (before : List ℕ) (left : ℕ) (is cs : List ℕ) → Bool
  whole before left is cs = new_to before is && (differ is && (lines_fit ss is cs && leb (length (delta_bytes (plan_ops ss is cs))) left))

  judge-law : (is cs : List ℕ) (line : ℕ) (before : List ℕ) (left : ℕ) → is_accepted (judge_from excluded ds t line before left is cs) ≡ whole before left is cs
  unfolding judge_from new_to differ lines_fit plan_ops
  judge-law [] [] line before left = unfold delta_bytes flat in sym (le-leb 0 left (omega arith))
  judge-law [] (c ∷ cs) line before left = refl
  judge-law (i ∷ is) [] line before left = sym (first-no (new_to before (i ∷ is)) (differ (i ∷ is)))
  judge-law (i ∷ is) (c ∷ cs) line before left =
      go (line_fault excluded before left ds i c held) (line-law excluded ds i c before left held) (judge-law is cs (suc line) (before ++ (i ∷ [])) (left - size))
      ∙ ap (λ (x : Option StaleNode). after x) (sym (named-held excluded ds i t asc))
    where
      held : Option Node
      held = node_of i t

      st : Option StaleNode
      st = stale_if excluded ds i held

      size : ℕ
      size = line_size ds i c held

      rest : ℕ
      rest = length (delta_bytes (plan_ops ss is cs))

      after : Option StaleNode → Bool
      after x =
          (not (among i before) && new_to before is)
          && ((not (among i is) && differ is) && ((line_fits c x && lines_fit ss is cs) && leb (length (delta_bytes (line_ops c x ++ plan_ops ss is cs))) left))

      long : line_fits c st ≡ true → length (delta_bytes (line_ops c st ++ plan_ops ss is cs)) ≡ size + rest
      long e = ap length (bytes-append (line_ops c st) (plan_ops ss is cs)) ∙ length-append (delta_bytes (line_ops c st)) (delta_bytes (plan_ops ss is cs)) ∙ ap (λ (n : ℕ). n + rest) (line-size excluded ds i c held e)

      -- the line is at fault
      no : (b : Bool) → among i before ≡ b → (f : Bool) → line_fits c st ≡ f → (x : Bool) → leb size left ≡ x → false ≡ (not b && (f && x))
          → false ≡ ((not b && new_to before is) && ((not (among i is) && differ is) && ((f && lines_fit ss is cs) && leb (length (delta_bytes (line_ops c st ++ plan_ops ss is cs))) left)))
      no true p f q x r e = refl
      no false p false q x r e = sym (first-no (new_to before is) (not (among i is) && differ is))
      no false p true q true r e = absurd (false≢true e)
      no false p true q false r e =
          let h = leb-false size left r in
          let over : leb (length (delta_bytes (line_ops c st ++ plan_ops ss is cs))) left ≡ false = ap (λ (n : ℕ). leb n left) (long q) ∙ lt-leb (size + rest) left (omega arith) in
          sym (ap (λ (b : Bool). new_to before is && ((not (among i is) && differ is) && (lines_fit ss is cs && b))) over ∙ last-no (new_to before is) (not (among i is) && differ is) (lines_fit ss is cs))

      -- it is not
      yes : (b : Bool) → among i before ≡ b → (f : Bool) → line_fits c st ≡ f → (x : Bool) → leb size left ≡ x → true ≡ (not b && (f && x))
          → whole (before ++ (i ∷ [])) (left - size) is cs
          ≡ ((not b && new_to before is) && ((not (among i is) && differ is) && ((f && lines_fit ss is cs) && leb (length (delta_bytes (line_ops c st ++ plan_ops ss is cs))) left)))
      yes true p f q x r e = absurd (false≢true (sym e))
      yes false p false q x r e = absurd (false≢true (sym e))
      yes false p true q false r e = absurd (false≢true (sym e))
      yes false p true q true r e =
          let h = leb-true size left r in
          let room : leb rest (left - size) ≡ leb (length (delta_bytes (line_ops c st ++ plan_ops ss is cs))) left = shift h ∙ sym (ap (λ (n : ℕ). leb n left) (long q)) in
          ap (λ (b : Bool). b && (differ is && (lines_fit ss is cs && leb rest (left - size)))) (new-last before i is)
          ∙ turn (new_to before is) (not (among i is)) (differ is) (lines_fit ss is cs && leb rest (left - size))
          ∙ ap (λ (b : Bool). new_to before is && ((not (among i is) && differ is) && (lines_fit ss is cs && b))) room
        where
          turn : (a b d x : Bool) → ((a && b) && (d && x)) ≡ (a && ((b && d) && x))
          turn true true d x = refl
          turn true false d x = refl
          turn false b d x = refl

          shift : size ≤ left → leb rest (left - size) ≡ leb (size + rest) left
          shift h = by (leb rest (left - size)) refl
            where
              by : (b : Bool) → leb rest (left - size) ≡ b → b ≡ leb (size + rest) left
              by true q = let g = leb-true rest (left - size) q in sym (le-leb (size + rest) left (omega arith))
              by false q = let g = leb-false rest (left - size) q in sym (lt-leb (size + rest) left (omega arith))

      go : (f : Option Fault) → no_fault f ≡ (not (among i before) && (line_fits c st && leb size left))
          → is_accepted (judge_from excluded ds t (suc line) (before ++ (i ∷ [])) (left - size) is cs) ≡ whole (before ++ (i ∷ [])) (left - size) is cs
          → is_accepted (or_else line f (judge_from excluded ds t (suc line) (before ++ (i ∷ [])) (left - size) is cs)) ≡ after st
      go none e ih = ih ∙ yes (among i before) refl (line_fits c st) refl (leb size left) refl e
      go (some f) e ih = no (among i before) refl (line_fits c st) refl (leb size left) refl e

-- the law: a plan is judged to be accepted exactly where it is
pub judged-accepts : (excluded nodes counts : List ℕ) (mtu : ℕ) (ds : List NodeDigest) (t : Table) → obeys t ≡ true
    → is_accepted (judge excluded nodes counts mtu ds t) ≡ accepts excluded nodes counts mtu ds t
unfolding judge accepts delta_by
judged-accepts excluded nodes counts mtu ds t ok =
    judge-law excluded ds t (table-facts t ok).ascending nodes counts 0 [] mtu
    ∙ ap (λ (b : Bool). b && (differ nodes && (lines_fit (stale_for excluded ds t) nodes counts && fits))) (new_none nodes)
    ∙ ap (λ (b : Bool). differ nodes && (lines_fit (stale_for excluded ds t) nodes counts && b)) (sym (and_last fits))
  where
    fits : Bool
    fits = leb (length (delta_bytes (plan_ops (stale_for excluded ds t) nodes counts))) mtu

-- ---- the two calls

-- the number of what is said of the lines: 0 or 23
lines-number : (excluded : List ℕ) (ds : List NodeDigest) (t : Table) (is cs : List ℕ) (line : ℕ) (before : List ℕ) (left : ℕ)
    → let j : (Result (Unit {0}) NotSent) = judge_from excluded ds t line before left is cs in (judged_told j).number ≡ pick (is_accepted j) 0 23
unfolding judge_from judged_told
lines-number excluded ds t [] [] line before left = refl
lines-number excluded ds t [] (c ∷ cs) line before left = refl
lines-number excluded ds t (i ∷ is) [] line before left = refl
lines-number excluded ds t (i ∷ is) (c ∷ cs) line before left =
    go (line_fault excluded before left ds i c (node_of i t)) (lines-number excluded ds t is cs (suc line) (before ++ (i ∷ [])) (left - line_size ds i c (node_of i t)))
  where
    rest : (Result (Unit {0}) NotSent)
    rest = judge_from excluded ds t (suc line) (before ++ (i ∷ [])) (left - line_size ds i c (node_of i t)) is cs

    go : (f : Option Fault) → (judged_told rest).number ≡ pick (is_accepted rest) 0 23 → (judged_told (or_else line f rest)).number ≡ pick (is_accepted (or_else line f rest)) 0 23
    go none ih = ih
    go (some why) ih = refl

-- what is said of a plan that is looked at is 0 or 23
pub said-number : (excluded nodes counts : List ℕ) (mtu : ℕ) (ds : List NodeDigest) (t : Table)
    → (judged_told (judge excluded nodes counts mtu ds t)).number ≡ pick (is_accepted (judge excluded nodes counts mtu ds t)) 0 23
unfolding judge
said-number excluded nodes counts mtu ds t = lines-number excluded ds t nodes counts 0 [] mtu

-- Where a whole MTU is free, what is said of a plan has the number that computing by it gives: 0 exactly where its delta is written.
pub same_number : (edition : ℕ) (excluded nodes counts : List ℕ) (mtu place : ℕ) (digest : Bytes) (t : Table) (l : Bytes) → obeys t ≡ true → fits_at place mtu l ≡ true
    → (judged_told (judge_plan edition excluded nodes counts mtu digest t)).number ≡ (computed_told (compute_plan edition excluded nodes counts mtu place digest t l).answer).number
unfolding judge_plan compute_plan judged_told computed_told
same_number edition excluded nodes counts mtu place digest t l ok free =
    go (is_edition edition) (leb least_mtu mtu && leb mtu max_delta) (fits_at place mtu l) free (read_digest edition digest)
  where
    by : (ds : List NodeDigest) (b : Bool) → accepts excluded nodes counts mtu ds t ≡ b
        → (judged_told (judge excluded nodes counts mtu ds t)).number ≡ (computed_told (pick b (written (delta_by excluded nodes counts ds t) place l) (given (Err BadPlan) l)).answer).number
    by ds b q = said-number excluded nodes counts mtu ds t ∙ ap (λ (x : Bool). pick x 0 23) (judged-accepts excluded nodes counts mtu ds t ok ∙ q) ∙ is b
      where
        is : (b : Bool) → pick b 0 23 ≡ (computed_told (pick b (written (delta_by excluded nodes counts ds t) place l) (given (Err BadPlan) l)).answer).number
        is true = refl
        is false = refl

    go : (a m f : Bool) → f ≡ true → (read : DigestRead)
        → (judged_told (pick a (pick m (judge_on excluded nodes counts mtu read t) (Err (not_sent.Refused BadMtu))) (Err (not_sent.Refused BadEdition)))).number
        ≡ (computed_told (pick a (pick m (pick f (plan_on excluded nodes counts mtu place read t l) (given (Err NoPlace) l)) (given (Err BadMtu) l)) (given (Err BadEdition) l)).answer).number
    go false m f e read = refl
    go true false f e read = refl
    go true true false e read = absurd (false≢true e)
    go true true true e (Entries ds rest) = by ds (accepts excluded nodes counts mtu ds t) refl
    go true true true e (Refused r) = refl
