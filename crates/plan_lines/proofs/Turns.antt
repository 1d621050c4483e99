-- The lines of a plan from one on: what the first pass comes to, line by line, and the operations that the second has left. Assumes nothing.
use Prim.Native.Nat.{ℕ, suc, ◌+◌, ◌-◌, ◌≤◌, ◌<◌}
use mathlib.Core.List.{List, [], ◌∷◌, ◌++◌}
use mathlib.Core.Option.{Option, none, some}
use mathlib.Core.Path.{◌∙◌, ◌≡◌, ap, refl, sym}
use native.Mathlib.Numerals.{add-one}
use native.Mathlib.Omega.{arith}
use lib.ListN.{drop, drop_of_length-le, get_or, length, take}
use lib.Seq.{drop-cons, take-suc}
use Rattle.rules.specs.Compute.{StaleNode}
use Rattle.rules.specs.Digest.{NodeDigest}
use Rattle.rules.specs.Table.{Table, node_of}
use Rattle.plan.proofs.Judging.{fault-fits}
use Rattle.plan.specs.Faults.{judge, judge_from, line_fault, line_size, or_else}
use Rattle.plan.specs.Plan.{line_ops, named, plan_ops}
use Rattle.plan.specs.declared.Fault.{Fault}
use Rattle.plan.specs.declared.Fault.TheVariants.{Alone}
use Rattle.std.specs.Prelude.{Err, Ok, Result}
use Rattle.plan.specs.declared.NotSent.{NotSent}
use Rattle.rules.specs.Results.{done}
use Rattle.plan.specs.declared.NotSent.TheVariants as not_sent
use Rattle.plan_lines.specs.Lines.{as_line}

-- ---- what an answer says

is-bytes : (f : Option Fault) (size n : ℕ) → Ok n ≡ as_line f size → (f ≡ none) × (n ≡ size)
is-bytes none size n e = (refl, cc)
is-bytes (some why) size n e = let z : ◌≡◌ {A = ℕ} 0 1 = cc in absurd (omega arith)

is-fault : (f : Option Fault) (size : ℕ) (why : Fault) → Err why ≡ as_line f size → f ≡ some why
is-fault none size why e = let z : ◌≡◌ {A = ℕ} 0 1 = cc in absurd (omega arith)
is-fault (some x) size why e = let same : why ≡ x = cc in ap some (sym same)

-- ---- the first pass

module _ (excluded : List ℕ) (ds : List NodeDigest) (t : Table) (nodes counts : List ℕ) where
  -- what the lines from j on come to
  abbrev pub from-line : ℕ → ℕ → (Result (Unit {0}) NotSent)
  from-line j left = judge_from excluded ds t j (take j nodes) left (drop j nodes) (drop j counts)

  pub all_lines : (mtu : ℕ) → from-line 0 mtu ≡ judge excluded nodes counts mtu ds t
  unfolding judge
  all_lines mtu = refl

  pub lone-node : (j left : ℕ) → j < length nodes → length counts ≤ j → (Err (not_sent.AtFault j Alone)) ≡ from-line j left
  unfolding judge_from
  lone-node j left h g =
      sym (λ i. judge_from excluded ds t j (take j nodes) left (drop-cons nodes j 0 h i) (drop_of_length-le counts {i = j} g i))

  pub lone-count : (j left : ℕ) → length nodes ≤ j → j < length counts → (Err (not_sent.AtFault j Alone)) ≡ from-line j left
  unfolding judge_from
  lone-count j left h g = sym (λ i. judge_from excluded ds t j (take j nodes) left (drop_of_length-le nodes {i = j} h i) (drop-cons counts j 0 g i))

  pub no_line : (j left : ℕ) → length nodes ≤ j → length counts ≤ j → done ≡ from-line j left
  unfolding judge_from
  no_line j left h g = sym (λ i. judge_from excluded ds t j (take j nodes) left (drop_of_length-le nodes {i = j} h i) (drop_of_length-le counts {i = j} g i))

  module _ (j left : ℕ) (h : j < length nodes) (g : j < length counts) where
    abbrev fault : Option Fault
    fault = line_fault excluded (take j nodes) left ds (get_or nodes j 0) (get_or counts j 0) (node_of (get_or nodes j 0) t)

    abbrev size : ℕ
    size = line_size ds (get_or nodes j 0) (get_or counts j 0) (node_of (get_or nodes j 0) t)

    abbrev rest : (Result (Unit {0}) NotSent)
    rest = judge_from excluded ds t (suc j) (take j nodes ++ (get_or nodes j 0 ∷ [])) (left - size) (drop (suc j) nodes) (drop (suc j) counts)

    one_line : from-line j left ≡ or_else j fault rest
    unfolding judge_from
    one_line = λ i. judge_from excluded ds t j (take j nodes) left (drop-cons nodes j 0 h i) (drop-cons counts j 0 g i)

    pub at-fault : (why : Fault) (r : (Result ℕ Fault)) → r ≡ as_line fault size → r ≡ Err why → (Err (not_sent.AtFault j why)) ≡ from-line j left
    at-fault why r e f = sym (one_line ∙ ap (λ (x : Option Fault). or_else j x rest) (is-fault fault size why (sym f ∙ e)))

    pub line-good : (n : ℕ) (r : (Result ℕ Fault)) → r ≡ as_line fault size → r ≡ Ok n → (n ≤ left) × (from-line j left ≡ from-line (j + 1) (left - n))
    line-good n r e f =
        let k = is-bytes fault size n (sym f ∙ e) in
        let fits = fault-fits excluded ds (get_or nodes j 0) (get_or counts j 0) (take j nodes) left (node_of (get_or nodes j 0) t) k.0 in (
          rw k.1 fits,
          one_line
              ∙ ap (λ (x : Option Fault). or_else j x rest) k.0
              ∙ ap (λ (l : List ℕ). judge_from excluded ds t (suc j) l (left - size) (drop (suc j) nodes) (drop (suc j) counts)) (sym (take-suc nodes j 0 h))
              ∙ (λ i. from-line (sym (add-one j) i) (left - sym k.1 i)),
        )

-- ---- the second pass

module _ (ss : List StaleNode) (nodes counts : List ℕ) where
  pub next-line : (j : ℕ) → j < length nodes → j < length counts
      → plan_ops ss (drop j nodes) (drop j counts) ≡ line_ops (get_or counts j 0) (named (get_or nodes j 0) ss) ++ plan_ops ss (drop (j + 1) nodes) (drop (j + 1) counts)
  unfolding plan_ops
  next-line j h g =
      (λ i. plan_ops ss (drop-cons nodes j 0 h i) (drop-cons counts j 0 g i))
      ∙ ap (λ (k : ℕ). line_ops (get_or counts j 0) (named (get_or nodes j 0) ss) ++ plan_ops ss (drop k nodes) (drop k counts)) (sym (add-one j))

  pub no_lines : (j : ℕ) → length nodes ≤ j → plan_ops ss (drop j nodes) (drop j counts) ≡ []
  unfolding plan_ops
  no_lines j h = ap (λ (l : List ℕ). plan_ops ss l (drop j counts)) (drop_of_length-le nodes {i = j} h)
