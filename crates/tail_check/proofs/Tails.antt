-- The tests of a tail, one after the other: one that fails is one of them, and past the first four the numbers decide. Assumes nothing.
use Prim.Native.Nat.{ℕ, ◌*◌, ◌-◌, ◌≤◌, ◌<◌}
use mathlib.Core.Path.{◌≡◌, sym, ap, ◌∙◌}
use mathlib.Core.Bool.{Bool, true, false, ◌&&◌}
use mathlib.Core.List.{List}
use native.Mathlib.Omega.{arith}
use lib.ListN.{get_or, take, drop}
use borrow.Author.Tests.{le-leb, lt-leb}
use Rattle.fields.specs.Parts.{part}
use Rattle.fields.specs.Blocks.{all_zero}
use Rattle.fields.proofs.Choice.{and_last}
use Rattle.rules.specs.Sizes.{max_removed}
use Rattle.rules.specs.Table.{differ}
use Rattle.rules.specs.Memory.{apart, removed_numbers}
use Rattle.rules.specs.Whole.{removed_place, removed_width, tail_width, decode_memory}
use Rattle.table.specs.Tests.{mode_in, profile_in, removed_in, tail_tests, tail_good}
use Rattle.table.proofs.Records.{every-no}

module _ (held b : List ℕ) where
  tail-stop : (k : ℕ) → get_or (tail_tests held b) k true ≡ false → false ≡ tail_good held b
  unfolding tail_good
  tail-stop k e = sym (every-no (tail_tests held b) k e)

  pub no_mode : (n : ℕ) → n ≡ mode_in b → 2 < n → false ≡ tail_good held b
  no_mode n e h = tail-stop 0 (rw (← e) (lt-leb n 2 h))

  pub no-profile : (n : ℕ) → n ≡ profile_in b → 2 < n → false ≡ tail_good held b
  no-profile n e h = tail-stop 1 (rw (← e) (lt-leb n 2 h))

  pub too_many : (n : ℕ) → n ≡ removed_in b → max_removed < n → false ≡ tail_good held b
  too_many n e h = tail-stop 2 (rw (← e) (lt-leb n max_removed h))

  -- what stands behind the removed nodes
  free-is : (a n : ℕ) → n ≡ removed_in b → n ≤ max_removed → a ≡ removed_place n → all_zero (take (tail_width - a) (drop a b)) ≡ get_or (tail_tests held b) 3 true
  unfolding part
  free-is a n e h p =
      let q : tail_width - removed_place n ≡ (max_removed - n) * removed_width = omega arith in
      ap (λ (k : ℕ). all_zero (take (tail_width - k) (drop k b))) p
      ∙ ap (λ (k : ℕ). all_zero (take k (drop (removed_place n) b))) q
      ∙ ap (λ (k : ℕ). all_zero (part (removed_place k) ((max_removed - k) * removed_width) b)) e

  pub not_free : (a n : ℕ) (t : Bool) → n ≡ removed_in b → n ≤ max_removed → a ≡ removed_place n → t ≡ all_zero (take (tail_width - a) (drop a b)) → t ≡ false
      → false ≡ tail_good held b
  not_free a n t e h p z q = tail-stop 3 (sym (z ∙ free-is a n e h p) ∙ q)

  pub numbers-decide : (m p n a : ℕ) (t u : Bool) → m ≡ mode_in b → m ≤ 2 → p ≡ profile_in b → p ≤ 2 → n ≡ removed_in b → n ≤ max_removed
      → a ≡ removed_place n → t ≡ all_zero (take (tail_width - a) (drop a b)) → t ≡ true
      → u ≡ (differ (removed_numbers (decode_memory b)) && apart held (removed_numbers (decode_memory b)))
      → u ≡ tail_good held b
  unfolding tail_good part
  numbers-decide m p n a t u em hm ep hp en hn ea ez hz eu =
      let p0 : get_or (tail_tests held b) 0 true ≡ true = rw (← em) (le-leb m 2 hm) in
      let p1 : get_or (tail_tests held b) 1 true ≡ true = rw (← ep) (le-leb p 2 hp) in
      let p2 : get_or (tail_tests held b) 2 true ≡ true = rw (← en) (le-leb n max_removed hn) in
      let p3 : get_or (tail_tests held b) 3 true ≡ true = sym (ez ∙ free-is a n en hn ea) ∙ hz in
      let d : Bool = differ (removed_numbers (decode_memory b)) in
      let h : Bool = apart held (removed_numbers (decode_memory b)) in
      eu
      ∙ ap (λ (x : Bool). d && x) (sym (and_last h))
      ∙ sym (λ z. p0 z && (p1 z && (p2 z && (p3 z && (d && (h && true))))))

-- ---- by the numbers that were read

module _ (held : List ℕ) (ns ks : List ℕ) (e : ks ≡ ns) {s : Bool} (is : s ≡ differ ks) where
  pub read_twice : s ≡ false → false ≡ (differ ns && apart held ns)
  read_twice q = sym (ap (λ (b : Bool). b && apart held ns) (ap differ (sym e) ∙ sym is ∙ q))

  pub read-once : s ≡ true → (t : Bool) → t ≡ apart held ks → t ≡ (differ ns && apart held ns)
  read-once q t et = et ∙ ap (apart held) e ∙ sym (ap (λ (b : Bool). b && apart held ns) (ap differ (sym e) ∙ sym is ∙ q))
