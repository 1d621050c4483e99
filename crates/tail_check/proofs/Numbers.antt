-- Numbers in a row, one after the other: all different, and apart from those of the nodes held. Assumes nothing.
use Prim.Native.Nat.{ℕ, suc, ◌+◌, ◌≤◌, ◌<◌}
use mathlib.Core.Path.{◌≡◌, sym, ap, ◌∙◌}
use mathlib.Core.Bool.{Bool, true, false, not, ◌&&◌}
use mathlib.Core.List.{List, [], ◌∷◌}
use native.Mathlib.Omega.{arith}
use native.Mathlib.Numerals.{add-one}
use lib.ListN.{length, drop, drop_of_length-le}
use Rattle.fields.specs.Choice.{all}
use Rattle.fields.specs.Numbers.{nat_of}
use Rattle.fields.specs.Parts.{part}
use Rattle.rules.specs.Sizes.{max_nodes}
use Rattle.rules.specs.Table.{Table, among, differ, numbers_of}
use Rattle.rules.specs.Memory.{Memory, apart, removed_numbers}
use Rattle.rules.specs.Layout.{node_place, table_width, decode}
use Rattle.rules.proofs.Memories.{no-memory}
use Rattle.table.specs.Tests.{nodes_of}
use Rattle.table.proofs.Places.{decode-drop, number_at}
use Rattle.table.proofs.Tables.{length-decode}
use Rattle.table.proofs.Wholes.{memory-apart}

-- ---- none held

module _ (l : List ℕ) (long : length l ≡ table_width) (few : nodes_of l ≤ max_nodes) (ks : List ℕ) where
  held_next : (i x : ℕ) → i < nodes_of l → x ≡ nat_of (part (node_place i) 8 l)
      → apart (numbers_of (drop i (decode l))) ks ≡ (not (among x ks) && apart (numbers_of (drop (i + 1) (decode l))) ks)
  unfolding apart numbers_of all
  held_next i x h e =
      ap (λ (t : Table). apart (numbers_of t) ks) (decode-drop i l h)
      ∙ ap (λ (k : ℕ). not (among k ks) && apart (numbers_of (drop (suc i) (decode l))) ks) (number_at i l long (omega arith) ∙ sym e)
      ∙ ap (λ (k : ℕ). not (among x ks) && apart (numbers_of (drop k (decode l))) ks) (sym (add-one i))

  module _ (i x : ℕ) {s t : Bool} (h : i < nodes_of l) (e : x ≡ nat_of (part (node_place i) 8 l)) (is : s ≡ among x ks) (inv : apart (numbers_of (drop i (decode l))) ks ≡ t) where
    pub one-held : s ≡ true → false ≡ t
    one-held q = sym (held_next i x h e ∙ ap (λ (b : Bool). not b && apart (numbers_of (drop (i + 1) (decode l))) ks) (sym is ∙ q)) ∙ inv

    pub not-held : s ≡ false → apart (numbers_of (drop (i + 1) (decode l))) ks ≡ t
    not-held q = sym (held_next i x h e ∙ ap (λ (b : Bool). not b && apart (numbers_of (drop (i + 1) (decode l))) ks) (sym is ∙ q)) ∙ inv

  pub no_more : (i : ℕ) → nodes_of l ≤ i → apart (numbers_of (drop i (decode l))) ks ≡ true
  unfolding apart numbers_of all
  no_more i h = ap (λ (t : Table). apart (numbers_of t) ks) (drop_of_length-le (decode l) {i = i} (rw length-decode h))

-- ---- nothing remembered

pub nothing-removed : (held : List ℕ) (m : Memory) → length m ≡ 0 → true ≡ (differ (removed_numbers m) && apart held (removed_numbers m))
unfolding removed_numbers differ
nothing-removed held [] e = sym (memory-apart held [] (no-memory held))
nothing-removed held (r ∷ m) e = absurd (omega arith)
