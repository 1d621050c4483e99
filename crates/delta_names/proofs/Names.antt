-- The numbers of a delta's nodes by the places that reading found, and what is answered by what reading has answered. Assumes nothing.
use Prim.Native.Nat.{ℕ, suc, ◌+◌, ◌-◌, ◌≤◌, ◌<◌}
use mathlib.Core.Path.{◌≡◌, refl, ap, ap₂, sym, ◌∙◌}
use mathlib.Core.List.{List, [], ◌∷◌}
use native.Mathlib.Omega.{arith}
use lib.ListN.{length, get_or, set}
use borrow.Author.Tests.{le-leb, lt-leb}
use Rattle.fields.specs.Parts.{put}
use Rattle.fields.proofs.Parts.{put-cons, put-nil}
use Rattle.rules.specs.Delta as rule
use Rattle.rules.specs.Given.{Gives, given}
use Rattle.rules.proofs.Results.{err-is, ok-is}
use Rattle.rules.specs.declared.DeltaFault.{DeltaFault}
use Rattle.rules.specs.declared.DeltaRead.{DeltaRead}
use Rattle.rules.specs.declared.Refusal.{Refusal}
use Rattle.rules.specs.declared.Refusal.TheVariants.{NoPlace}
use Rattle.std.specs.Prelude.{Err, Ok}
use Rattle.delta_op.proofs.Plain.{good-plain}
use Rattle.delta_read.specs.NodeDeltas.{AllHeads, no_part, parts_from}
use Rattle.delta_names.specs.Names.{NodesLie, delta_nodes, list_numbers, nodes_on, number_at, numbers_at, numbers_in}

-- ---- one turn of the loop

pub turn : (s at list t : List ℕ) (i n : ℕ) → i < n → i < length list → put i (numbers_at s at i (n - i)) list ≡ t
    → put (i + 1) (numbers_at s at (i + 1) (n - (i + 1))) (set list i (number_at s (get_or at i 0))) ≡ t
unfolding numbers_at
turn s at list t i n h g e =
    let p : n - i ≡ suc (n - suc i) = omega arith in
    let q : i + 1 ≡ suc i = omega arith in
    let v : ℕ = number_at s (get_or at i 0) in
    ap (λ (k : ℕ). put k (numbers_at s at k (n - k)) (set list i v)) q
    ∙ put-cons i v (numbers_at s at (suc i) (n - suc i)) list g
    ∙ sym (ap (λ (k : ℕ). put i (numbers_at s at i k) list) p)
    ∙ e

pub over : (s at list : List ℕ) (i n : ℕ) → n ≤ i → put i (numbers_at s at i (n - i)) list ≡ list
unfolding numbers_at
over s at list i n h = let p : n - i ≡ 0 = omega arith in ap (λ (k : ℕ). put i (numbers_at s at i k) list) p ∙ put-nil i list

-- ---- the numbers

long : (xs : List rule.Part) → length (numbers_in xs) ≡ length xs
unfolding numbers_in
long [] = refl
long (x ∷ xs) = ap suc (long xs)

same_numbers : (s at : List ℕ) (xs : List rule.Part) (i : ℕ) → ((j : ℕ) → j < length xs → (get_or xs j no_part).number ≡ number_at s (get_or at (i + j) 0))
    → numbers_at s at i (length xs) ≡ numbers_in xs
unfolding numbers_at numbers_in
same_numbers s at [] i h = refl
same_numbers s at (x ∷ xs) i h =
    let here : x.number ≡ number_at s (get_or at i 0) =
    h 0 (omega arith) ∙ ap (λ (k : ℕ). number_at s (get_or at k 0)) (omega arith) in
    ap₂ (λ (n : ℕ) (ns : List ℕ). n ∷ ns) (sym here)
    (same_numbers s at xs (suc i) (λ j l. h (suc j) (omega arith) ∙ ap (λ (k : ℕ). number_at s (get_or at k 0)) (omega arith)))

-- ---- by what reading has answered

module _ (l list : List ℕ) where
  pub on-refused : (r : Refusal) (at : ℕ) → rule.delta_read l ≡ (Err (record { why = r; at = at })) → delta_nodes l list ≡ given (Err (record { why = r; at = at })) list
  unfolding rule.delta_read delta_nodes
  on-refused r at e = go (rule.read_delta l) e
    where
      go : (x : rule.Ops) → rule.read_answer x ≡ (Err (record { why = r; at = at })) → nodes_on x list ≡ given (Err (record { why = r; at = at })) list
      go (rule.Good os) a = let z : ◌≡◌ {A = ℕ} 0 1 = cc in absurd (omega arith)
      go (rule.Faulty s b) a =
          let f = err-is _ _ a in
          let p : s ≡ r = ap (λ (x : DeltaFault). x.why) f in
          let q : b ≡ at = ap (λ (x : DeltaFault). x.at) f in
          ap₂ (λ (x : Refusal) (y : ℕ). given (Err (record { why = x; at = y })) list) p q

  module _ (ops nodes : ℕ) (e : rule.delta_read l ≡ (Ok (record { ops = ops; nodes = nodes }))) where
    by_parts : (delta_nodes l list ≡ list_numbers (numbers_in (parts_from l 0)) list) × (length (parts_from l 0) ≡ nodes)
    unfolding rule.delta_read delta_nodes parts_from
    by_parts = go (rule.read_delta l) refl e
      where
        go : (x : rule.Ops) → rule.read_delta l ≡ x → rule.read_answer x ≡ (Ok (record { ops = ops; nodes = nodes }))
            → (nodes_on x list ≡ list_numbers (numbers_in (parts_from l 0)) list) × (length (parts_from l 0) ≡ nodes)
        go (rule.Good os) q a =
            let p = good-plain l os q in
            let k : length (rule.parts_of os) ≡ nodes = ap (λ (x : DeltaRead). x.nodes) (ok-is _ _ a) in
            (rw p.0, rw p.0 k)
        go (rule.Faulty r at) q a = let z : ◌≡◌ {A = ℕ} 0 1 = cc in absurd (omega arith)

    module _ (at count max : List ℕ) (heads : AllHeads l at count max) where
      pub few : nodes ≤ 8
      few = heads.few ops nodes (sym e)

      pub lie : NodesLie l at nodes
      lie i h = (heads.heads ops nodes (sym e) i h).inside

      numbers : numbers_at l at 0 nodes ≡ numbers_in (parts_from l 0)
      numbers =
          let k : length (parts_from l 0) ≡ nodes = by_parts.1 in
          ap (numbers_at l at 0) (sym k)
          ∙ same_numbers l at (parts_from l 0) 0
          (λ j h.
          ap (λ (x : rule.Part). x.number) (heads.heads ops nodes (sym e) j (omega (arith, k))).is
          ∙ ap (λ (i : ℕ). number_at l (get_or at i 0)) (omega arith))

      count-is : length (numbers_in (parts_from l 0)) ≡ nodes
      count-is = long (parts_from l 0) ∙ by_parts.1

      pub on-short : length list < nodes → Gives (delta_nodes l list) (Err (record { why = NoPlace; at = 0 })) list
      on-short h =
          let f = by_parts.0 in
          let g = lt-leb (length (numbers_in (parts_from l 0))) (length list) (omega (arith, count-is)) in
          rw (f, g) (refl, refl)

      pub on-good : nodes ≤ length list → (m : List ℕ) → m ≡ put 0 (numbers_at l at 0 nodes) list → Gives (delta_nodes l list) (Ok nodes) m
      on-good h m q =
          let f = by_parts.0 in
          let g = le-leb (length (numbers_in (parts_from l 0))) (length list) (omega (arith, count-is)) in
          rw (f, g) (ap Ok (sym count-is), q ∙ ap (λ (ns : List ℕ). put 0 ns list) numbers)
