-- `table_check::versions_of` meets its contract: the versions that are stored and those that are left are all. Assumes nothing.
use Prim.Native.Nat.{ℕ, suc, ◌+◌, ◌≤◌, ◌<◌}
use mathlib.Core.Path.{◌≡◌, refl, sym, ap, ◌∙◌}
use mathlib.Core.List.{List, [], ◌∷◌, ◌++◌, append-nil, append_assoc}
use native.Mathlib.Omega.{arith}
use native.Mathlib.Numerals.{add-one}
use lib.ListN.{length, take, drop, set, length-set, drop_of_length-le}
use lib.Seq.{take-suc-set}
use Rattle.fields.specs.Numbers.{nat_of}
use Rattle.fields.specs.Parts.{part}
use Rattle.fields.specs.Widths.{offset}
use Rattle.rules.specs.Node.{Rec}
use Rattle.rules.specs.Table.{versions}
use Rattle.rules.specs.Sizes.{max_records}
use Rattle.rules.specs.Layout.{rec_place, rec_widths, node_width}
use Rattle.table.specs.Tests.{count_of, recs_in}
use Rattle.table.proofs.Places.{recs-drop, version-at, rec_at, length-recs}
use Rattle.table_check.proofs.versions_of.Goals as goal

-- one version more
turn : (b vs : List ℕ) (i x : ℕ) (t : List ℕ) → length b ≡ node_width → i < count_of b → count_of b ≤ max_records → length vs ≡ max_records
    → x ≡ nat_of (part (rec_place i + offset rec_widths 4) 8 b) → take i vs ++ versions (drop i (recs_in b)) ≡ t
    → take (i + 1) (set vs i x) ++ versions (drop (i + 1) (recs_in b)) ≡ t
unfolding versions
turn b vs i x t e h g l q p =
    let v : x ≡ (rec_at i b).kv.version = q ∙ sym (version-at i b e (omega arith)) in
    ap (λ (k : ℕ). take k (set vs i x) ++ versions (drop k (recs_in b))) (add-one i)
    ∙ ap (λ (r : List ℕ). r ++ versions (drop (suc i) (recs_in b))) (take-suc-set vs i x (omega arith))
    ∙ append_assoc (take i vs) (x ∷ []) (versions (drop (suc i) (recs_in b)))
    ∙ ap (λ (y : ℕ). take i vs ++ (y ∷ versions (drop (suc i) (recs_in b)))) v
    ∙ ap (λ (r : List Rec). take i vs ++ versions r) (sym (recs-drop i b h))
    ∙ p

-- at the end
over : (b vs : List ℕ) (i n : ℕ) (t : List ℕ) → i ≡ n → n ≡ count_of b → take i vs ++ versions (drop i (recs_in b)) ≡ t → take n vs ≡ t
unfolding versions
over b vs i n t p q e =
    ap (λ (k : ℕ). take k vs) (sym p)
    ∙ sym (append-nil (take i vs))
    ∙ ap (λ (r : List Rec). take i vs ++ versions r) (sym (drop_of_length-le (recs_in b) {i = i} (rw length-recs (omega arith))))
    ∙ e

pub loop-i-init : goal.loop-i-init
loop-i-init c =
    (refl, refl)

pub loop-i-preserved : goal.loop-i-preserved
loop-i-preserved c =
    let a = c.args in
    let read = c.read_u64.ensures ∙ ap (λ (k : ℕ). nat_of (part (k + offset rec_widths 4) 8 a.node.now)) c.record_place.ensures in (
      length-set c.loop-i.vs c.loop-i.i c.read_u64.result ∙ c.loop-i.invariant.0,
      turn a.node.now c.loop-i.vs c.loop-i.i c.read_u64.result _ (omega arith) (omega arith) (omega arith) c.loop-i.invariant.0 read c.loop-i.invariant.1,
    )

pub returns : goal.returns
returns c =
    let a = c.args in
    (c.loop-i.invariant.0, over a.node.now c.loop-i.vs c.loop-i.i a.n _ (omega arith) (omega arith) c.loop-i.invariant.1)
