-- Computing by a plan, case by case: refused by its numbers, by the digest, by a line at fault, or done. Assumes nothing.
use Prim.Native.Nat.{ℕ, suc, ◌+◌, ◌-◌, ◌≤◌}
use mathlib.Core.Bool.{Bool, false, false≢true, true}
use mathlib.Core.List.{List, [], ◌∷◌}
use mathlib.Core.Path.{◌∙◌, ◌≡◌, ap, refl, sym}
use native.Mathlib.Nat.{add-zero, zero-add}
use native.Mathlib.Omega.{arith}
use lib.Dec.{leb}
use lib.ListN.{drop, length, take}
use borrow.Author.Tests.{leb-true}
use borrow.Rule.Slice.PartMut.{put_mid}
use Rattle.fields.proofs.Choice.{and_left, and_right, every-at, pick-false, pick_true}
use Rattle.fields.proofs.Lent.{lent-put, seen}
use Rattle.fields.proofs.Parts.{length_part}
use Rattle.fields.specs.Choice.{pick}
use Rattle.fields.specs.Numbers.{Bytes}
use Rattle.fields.specs.Parts.{put}
use Rattle.rules.specs.Compute.{StaleNode}
use Rattle.rules.specs.Delta.{Op, delta_bytes}
use Rattle.rules.specs.Digest.{DigestRead, Entries, NodeDigest, Refused, fits_at, is_edition, read_digest}
use Rattle.rules.specs.Given.{Given, Gives, given}
use Rattle.rules.specs.Lent.{from_table}
use Rattle.rules.specs.Table.{Table, differ, obeys}
use Rattle.rules.specs.Whole.{decode_whole, valid_whole}
use Rattle.std.specs.Prelude.{Err, Ok, Result}
use Rattle.std.specs.Result.{is_err}
use Rattle.plan.specs.declared.NotSent.{NotSent}
use Rattle.plan.specs.declared.NotSent.TheVariants as not_sent
use Rattle.rules.specs.declared.Refusal.{Refusal}
use Rattle.rules.specs.declared.Refusal.TheVariants.{BadEdition, BadMtu, BadPlan, BadTable, NoPlace}
use Rattle.compute.specs.Asking.{mtu_fits}
use Rattle.compute.specs.Lined.{at_front}
use Rattle.compute_write.proofs.Steps.{gives}
use Rattle.rules.specs.declared.Sent.{Sent}
use Rattle.plan.proofs.Judging.{is_accepted, judged-accepts}
use Rattle.plan.specs.Faults.{judge, judge_for, judge_on, judge_plan, lent_judge}
use Rattle.plan.specs.Plan.{accepts, compute_plan, delta_by, lent_compute_plan, line_fits, lines_fit, named, on_plan, plan_for, plan_on, plan_ops, stale_for}

-- ---- a plan that is accepted

lines-equal : (ss : List StaleNode) (is cs : List ℕ) → lines_fit ss is cs ≡ true → length is ≡ length cs
unfolding lines_fit
lines-equal ss [] [] e = refl
lines-equal ss [] (c ∷ cs) e = absurd (false≢true e)
lines-equal ss (i ∷ is) [] e = absurd (false≢true e)
lines-equal ss (i ∷ is) (c ∷ cs) e = ap suc (lines-equal ss is cs (and_right (line_fits c (named i ss)) _ e))

err-not : (j : Result (Unit {0}) NotSent) → is_err j ≡ true → is_accepted j ≡ false
err-not (Ok _) e = absurd (false≢true e)
err-not (Err (not_sent.AtFault line why)) e = refl
err-not (Err (not_sent.Refused r)) e = refl

ok-accepted : (j : Result (Unit {0}) NotSent) → is_err j ≡ false → is_accepted j ≡ true
ok-accepted (Ok _) e = refl
ok-accepted (Err r) e = absurd (false≢true (sym e))

module _ (excluded nodes counts : List ℕ) (mtu : ℕ) (ds : List NodeDigest) (t : Table) where
  abbrev ss : List StaleNode
  ss = stale_for excluded ds t

  abbrev ops : List Op
  ops = plan_ops ss nodes counts

  module _ (obeyed : obeys t ≡ true) (j : Result (Unit {0}) NotSent) (e : j ≡ judge excluded nodes counts mtu ds t) (b : Bool) (p : b ≡ is_err j) where
    accepted-is : accepts excluded nodes counts mtu ds t ≡ is_accepted j
    accepted-is = sym (judged-accepts excluded nodes counts mtu ds t obeyed) ∙ ap is_accepted (sym e)

    pub at-fault : b ≡ true → accepts excluded nodes counts mtu ds t ≡ false
    at-fault q = accepted-is ∙ err-not j (sym p ∙ q)

    pub good-plan : b ≡ false → accepts excluded nodes counts mtu ds t ≡ true
    good-plan q = accepted-is ∙ ok-accepted j (sym p ∙ q)

  module _ (yes : accepts excluded nodes counts mtu ds t ≡ true) where
    pub as_long : length nodes ≡ length counts
    unfolding accepts
    as_long = lines-equal ss nodes counts (every-at (differ nodes ∷ lines_fit ss nodes counts ∷ leb (length (delta_bytes (delta_by excluded nodes counts ds t))) mtu ∷ []) yes 1)

    pub within : length (delta_bytes ops) ≤ mtu
    unfolding accepts delta_by
    within = leb-true _ _ (every-at (differ nodes ∷ lines_fit ss nodes counts ∷ leb (length (delta_bytes (delta_by excluded nodes counts ds t))) mtu ∷ []) yes 2)

  module _ (place : ℕ) (l : Bytes) where
    -- a line is at fault
    pub not_taken : accepts excluded nodes counts mtu ds t ≡ false → Gives (on_plan excluded nodes counts mtu place ds t l) (Err BadPlan) l
    not_taken e = gives _ _ _ (sym (pick-false (accepts excluded nodes counts mtu ds t) _ _ e))

    -- what was written into the part of the datagram that is as long as the MTU
    pub taken-whole : accepts excluded nodes counts mtu ds t ≡ true → (r : Sent) (after : Bytes) → place + mtu ≤ length l → let part : Bytes = take (place + mtu - place) (drop place l) in
        Gives (at_front ops part) r after → length after ≡ length part
        → Gives (on_plan excluded nodes counts mtu place ds t l) (Ok r) (put_mid place (place + mtu - place) l after)
    unfolding delta_by
    taken-whole ok r after h g k =
        let fits : 0 + length (delta_bytes ops) ≤ mtu = rw zero-add (within ok) in
        let whole : put_mid place (place + mtu - place) l after ≡ put place (delta_bytes ops) l =
        lent-put place mtu 0 (delta_bytes ops) l after h fits g.1 k ∙ ap (λ (n : ℕ). put n (delta_bytes ops) l) (add-zero place) in
        gives _ _ (on_plan excluded nodes counts mtu place ds t l)
        ((λ i. given (Ok (g.0 i)) (whole i)) ∙ sym (pick_true (accepts excluded nodes counts mtu ds t) _ _ ok))

-- the part is as long as the MTU
pub part-long : (place mtu : ℕ) (l : Bytes) → place + mtu ≤ length l → length (take (place + mtu - place) (drop place l)) ≡ mtu
part-long place mtu l h = ap length (seen place mtu l) ∙ length_part place mtu l h

-- ---- 7, 8, the digest's numbers

module _ (excluded nodes counts : List ℕ) (mtu : ℕ) (read : DigestRead) (t : Table) where
  module _ (place : ℕ) (l : Bytes) where
    abbrev shape : Bool → Bool → DigestRead → Given (Result Sent Refusal) Bytes
    shape a b x = pick a (pick b (plan_on excluded nodes counts mtu place x t l) (given (Err NoPlace) l)) (given (Err BadMtu) l)

    pub bad-mtu : mtu_fits mtu ≡ false → Gives (plan_for excluded nodes counts mtu place read t l) (Err BadMtu) l
    bad-mtu e = gives _ _ _ (ap (λ (b : Bool). shape b (fits_at place mtu l) read) (sym e))

    pub no_place : mtu_fits mtu ≡ true → fits_at place mtu l ≡ false → Gives (plan_for excluded nodes counts mtu place read t l) (Err NoPlace) l
    no_place e f = gives _ _ _ (λ i. shape (sym e i) (sym f i) read)

    pub bad-digest : mtu_fits mtu ≡ true → fits_at place mtu l ≡ true → (r : Refusal) → read ≡ Refused r → Gives (plan_for excluded nodes counts mtu place read t l) (Err r) l
    bad-digest e f r g = gives _ _ _ (λ i. shape (sym e i) (sym f i) (sym g i))

    pub by-plan : mtu_fits mtu ≡ true → fits_at place mtu l ≡ true → (ds : List NodeDigest) (rest : Bytes) → read ≡ Entries ds rest
        → on_plan excluded nodes counts mtu place ds t l ≡ plan_for excluded nodes counts mtu place read t l
    by-plan e f ds rest g = λ i. shape (sym e i) (sym f i) (sym g i)

  abbrev said : Bool → DigestRead → Result (Unit {0}) NotSent
  said a x = pick a (judge_on excluded nodes counts mtu x t) (Err (not_sent.Refused BadMtu))

  pub said-mtu : mtu_fits mtu ≡ false → (Err (not_sent.Refused BadMtu)) ≡ judge_for excluded nodes counts mtu read t
  said-mtu e = ap (λ (b : Bool). said b read) (sym e)

  pub said-digest : mtu_fits mtu ≡ true → (r : Refusal) → read ≡ Refused r → (Err (not_sent.Refused r)) ≡ judge_for excluded nodes counts mtu read t
  said-digest e r g = λ i. said (sym e i) (sym g i)

  pub said-lines : mtu_fits mtu ≡ true → (ds : List NodeDigest) (rest : Bytes) → read ≡ Entries ds rest → judge excluded nodes counts mtu ds t ≡ judge_for excluded nodes counts mtu read t
  said-lines e ds rest g = λ i. said (sym e i) (sym g i)

pub free-so : (place mtu : ℕ) (l : Bytes) → fits_at place mtu l ≡ true → place + mtu ≤ length l
free-so place mtu l e =
    let a = leb-true place (length l) (and_left (leb place (length l)) _ e) in
    let b = leb-true mtu (length l - place) (and_right (leb place (length l)) _ e) in
    omega arith

-- ---- 20

module _ (edition : ℕ) (excluded nodes counts : List ℕ) (mtu : ℕ) (digest : Bytes) (t : Table) where
  pub no-edition : (place : ℕ) (l : Bytes) → is_edition edition ≡ false → Gives (compute_plan edition excluded nodes counts mtu place digest t l) (Err BadEdition) l
  unfolding compute_plan
  no-edition place l e = gives _ _ _ (sym (pick-false (is_edition edition) _ _ e))

  pub in-edition : (place : ℕ) (l : Bytes) → is_edition edition ≡ true → plan_for excluded nodes counts mtu place (read_digest edition digest) t l ≡ compute_plan edition excluded nodes counts mtu place digest t l
  unfolding compute_plan
  in-edition place l e = sym (pick_true (is_edition edition) _ _ e)

  pub said-no-edition : is_edition edition ≡ false → (Err (not_sent.Refused BadEdition)) ≡ judge_plan edition excluded nodes counts mtu digest t
  unfolding judge_plan
  said-no-edition e = sym (pick-false (is_edition edition) _ _ e)

  pub said-in-edition : is_edition edition ≡ true → judge_for excluded nodes counts mtu (read_digest edition digest) t ≡ judge_plan edition excluded nodes counts mtu digest t
  unfolding judge_plan
  said-in-edition e = sym (pick_true (is_edition edition) _ _ e)

-- ---- 14

module _ (edition : ℕ) (excluded nodes counts : List ℕ) (mtu : ℕ) (digest l : Bytes) where
  pub bad-table : (place : ℕ) (datagram : Bytes) → valid_whole l ≡ false → Gives (lent_compute_plan edition excluded nodes counts mtu place digest datagram l) (Err BadTable) datagram
  unfolding from_table
  bad-table place datagram e = gives _ _ _ (sym (pick-false (valid_whole l) _ _ e))

  pub good-table : (place : ℕ) (datagram : Bytes) → valid_whole l ≡ true
      → compute_plan edition excluded nodes counts mtu place digest (decode_whole l).table datagram ≡ lent_compute_plan edition excluded nodes counts mtu place digest datagram l
  unfolding from_table
  good-table place datagram e = sym (pick_true (valid_whole l) _ _ e)

  pub said-bad-table : valid_whole l ≡ false → (Err (not_sent.Refused BadTable)) ≡ lent_judge edition excluded nodes counts mtu digest l
  unfolding from_table
  said-bad-table e = sym (pick-false (valid_whole l) _ _ e)

  pub said-good-table : valid_whole l ≡ true → judge_plan edition excluded nodes counts mtu digest (decode_whole l).table ≡ lent_judge edition excluded nodes counts mtu digest l
  unfolding from_table
  said-good-table e = sym (pick_true (valid_whole l) _ _ e)
