-- `party_count::count_own` meets its contract: those counted and those that are left are all. Assumes nothing.
use Prim.Native.Nat.{ℕ, ◌+◌, ◌≤◌, ◌<◌}
use mathlib.Core.Bool.{Bool, true, false}
use mathlib.Core.List.{List, ◌∷◌}
use mathlib.Core.Path.{◌≡◌, ap, subst, sym, ◌∙◌}
use native.Mathlib.Nat.{zero-add}
use native.Mathlib.Numerals.{add-one}
use native.Mathlib.Omega.{arith}
use lib.ListN.{length, drop, drop_of_length-le}
use Rattle.fields.specs.Choice.{pick, keep}
use Rattle.fields.proofs.Choice.{pick_true, pick-false}
use Rattle.rules.specs.Layout.{decode_rec}
use Rattle.rules.specs.Node.{Rec}
use Rattle.rules.specs.Party.{own, of_keys}
use Rattle.rules.specs.Sizes.{max_key}
use Rattle.table.specs.Tests.{count_of, key_length, recs_in}
use Rattle.table.proofs.Laid.{laid-key, rec-long}
use Rattle.table.proofs.Places.{length-recs, rec_at, rec_bytes, recs-drop}
use Rattle.party_count.proofs.count_own.Goals as goal
use Rattle.party_count.proofs.count_own.Goals.{then-owns, else-owns}

-- one record more
module _ (mine : List ℕ → Bool) (b : List ℕ) (i k t : ℕ) (q : k + length (of_keys mine (drop i (recs_in b))) ≡ t) where
  module _ (h : i < count_of b) (y : List ℕ) (e : y ≡ rec_bytes i b) (key : List ℕ) (is : key ≡ (decode_rec y).kv.key) (s : Bool) (told : s ≡ mine key) where
    abbrev left : List Rec
    left = of_keys mine (drop (i + 1) (recs_in b))

    next : length (of_keys mine (drop i (recs_in b))) ≡ length (pick s (rec_at i b ∷ left) left)
    unfolding keep
    next =
        ap (λ (l : List Rec). length (of_keys mine l)) (recs-drop i b h ∙ ap (λ (n : ℕ). rec_at i b ∷ drop n (recs_in b)) (sym (add-one i)))
        ∙ ap (λ (u : Bool). length (pick u (rec_at i b ∷ left) left)) (sym (told ∙ ap mine (is ∙ ap (λ (z : List ℕ). (decode_rec z).kv.key) e)))

    counted : s ≡ true → k + 1 + length left ≡ t
    counted g = let n = next ∙ ap length (pick_true s (rec_at i b ∷ left) left g) in omega (arith, n, q)

    passed : s ≡ false → k + length left ≡ t
    passed g = let n = next ∙ ap length (pick-false s (rec_at i b ∷ left) left g) in omega (arith, n, q)

  over : count_of b ≤ i → k ≡ t
  unfolding keep
  over h =
      let n : length (of_keys mine (drop i (recs_in b))) ≡ 0 = ap (λ (l : List Rec). length (of_keys mine l)) (drop_of_length-le (recs_in b) {i = i} (rw length-recs h)) in
      omega (arith, n, q)

pub loop-i-init : goal.loop-i-init
loop-i-init c =
    (omega arith, zero-add _)

pub key_of-requires : goal.key_of-requires
key_of-requires c =
    let b : List ℕ = c.args.node.now in
    let i : ℕ = c.loop-i.i in (
      ap length c.record_of.ensures ∙ rec-long b c.requires i (omega arith),
      subst (λ (x : List ℕ). key_length x ≤ max_key) (sym c.record_of.ensures) (laid-key b c.requires i (omega arith)),
    )

pub loop-i-preserved : goal.loop-i-preserved
loop-i-preserved c =
    let a = c.args in
    let b : List ℕ = a.node.now in
    let i : ℕ = c.loop-i.i in
    let h : i < count_of b = omega arith in
    let mine : List ℕ → Bool = own a.party in
    let more = counted mine b i c.loop-i.count _ c.loop-i.invariant.1 h _ c.record_of.ensures _ c.key_of.ensures _ c.owns.ensures in
    let same = passed mine b i c.loop-i.count _ c.loop-i.invariant.1 h _ c.record_of.ensures _ c.key_of.ensures _ c.owns.ensures in
    let with_rest : ℕ → ℕ = λ n. n + length (of_keys mine (drop (i + 1) (recs_in b))) in
    elim c.if-owns.branch [
      | then-owns w ↦ (omega arith, ap with_rest w.count-is ∙ more w.if-owns.true)
      | else-owns w ↦ (omega arith, ap with_rest w.count-is ∙ same w.if-owns.false)
    ]

pub returns : goal.returns
returns c =
    let a = c.args in
    over (own a.party) a.node.now c.loop-i.i c.loop-i.count _ c.loop-i.invariant.1 (omega arith)
