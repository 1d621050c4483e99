-- The line of the stale nodes grows by one node of the table after the other, from the last to the first. Assumes nothing.
use Prim.Native.Nat.{ℕ, ◌+◌, ◌-◌, ◌≤◌, ◌<◌}
use mathlib.Core.Path.{◌≡◌, sym, ap, ap₂, ◌∙◌, subst}
use mathlib.Core.Bool.{true, false}
use mathlib.Core.List.{List}
use mathlib.Core.Logic.{⊎_elim}
use native.Mathlib.Omega.{arith}
use lib.ListN.{length, get_or, set, length-set}
use lib.Seq.{get_or-set_same, get_or-set_other}
use Rattle.fields.specs.Choice.{◌∈◌}
use Rattle.fields.proofs.Choice.{in-none}
use Rattle.rules.specs.Sizes.{max_nodes}
use Rattle.rules.specs.Table.{Table}
use Rattle.rules.specs.Digest.{NodeDigest}
use Rattle.rules.specs.Compute.{stale}
use Rattle.compute_stale.specs.Arranged.{span, listed, insert, put_in, arranged}
use Rattle.compute_stale.proofs.Arranged.{insert-in, length-put-in, listed-put-in, insert-agree, arranged-start, arranged-takes, arranged-leaves, arranged-in}
use Rattle.table_read.specs.Find.{entry_at}
use Rattle.compute_order.specs.Line.{rank_for, ahead, rank_at, ahead_at, stale_at, is_stale, sooner_at}
use Rattle.compute_order.proofs.Lined.{ahead-is}
use Rattle.compute.specs.Lined.{from_at, LinedUp}

module _ (excluded : List ℕ) (ds : List NodeDigest) (ties : List ℕ) (t : Table) where
  abbrev count_at : ℕ → ℕ
  count_at p = length (stale (from_at ds t p) (entry_at t p).node.recs)

  -- from and count of a node stand at its place
  abbrev pub Right : List ℕ → List ℕ → ℕ → Type 0
  Right froms counts p = (get_or froms p 0 ≡ from_at ds t p) × (get_or counts p 0 ≡ count_at p)

  -- the nodes from i on stand in line
  pub record Upto (n i : ℕ) (line froms counts : List ℕ) : Type 0 where
    pub within : i ≤ length t
    pub few : n ≤ length t - i
    pub line_long : length line ≡ max_nodes
    pub froms-long : length froms ≡ max_nodes
    pub counts-long : length counts ≡ max_nodes
    pub is : listed n line ≡ arranged (is_stale excluded ds t) (sooner_at ds ties t) i (length t - i)
    pub right : (p : ℕ) → p ∈ listed n line → Right froms counts p

  pub none_yet : (i : ℕ) (line froms counts : List ℕ) → i ≡ length t → length line ≡ max_nodes → length froms ≡ max_nodes → length counts ≡ max_nodes
      → Upto 0 i line froms counts
  unfolding span
  none_yet i line froms counts e a b c =
      record {
        within = omega arith;
        few = omega arith;
        line_long = a;
        froms-long = b;
        counts-long = c;
        is = sym (arranged-start (is_stale excluded ds t) (sooner_at ds ties t) i)
            ∙ ap (λ (k : ℕ). arranged (is_stale excluded ds t) (sooner_at ds ties t) i (k - i)) e;
        right = λ p m. absurd (in-none m);
      }

  -- where from and count are right, the rank is the node's
  rank_is : (froms counts : List ℕ) (p : ℕ) → Right froms counts p → rank_at t froms counts ties p ≡ rank_for (stale_at ds ties t p)
  rank_is froms counts p r =
      λ j. record { from = r.0 j; max = (entry_at t p).node.max; count = r.1 j; tie = get_or ties p 0; number = (entry_at t p).number }

  module _ (n i : ℕ) (line froms counts : List ℕ) (u : Upto n i line froms counts) (h : 0 < i) where
    -- the places in line are from i on
    pub above : (p : ℕ) → p ∈ listed n line → (i ≤ p) × (p < length t)
    above p m =
        let b = arranged-in (is_stale excluded ds t) (sooner_at ds ties t) i (length t - i) (subst (λ (l : List ℕ). p ∈ l) u.is m) in
        let g = b.0 in
        let k = b.1 in
        let w = u.within in
        (g, omega arith)

    pub stays : is_stale excluded ds t (i - 1) ≡ false → Upto n (i - 1) line froms counts
    stays e =
        let w = u.within in
        let f = u.few in
        record {
          within = omega arith;
          few = omega arith;
          line_long = u.line_long;
          froms-long = u.froms-long;
          counts-long = u.counts-long;
          is = u.is ∙ sym (arranged-leaves (is_stale excluded ds t) (sooner_at ds ties t) i (length t) h w e);
          right = u.right;
        }

    module _ (few : length t ≤ max_nodes) (x y : ℕ) (fx : x ≡ from_at ds t (i - 1)) (fy : y ≡ count_at (i - 1)) where
      abbrev froms' : List ℕ
      froms' = set froms (i - 1) x

      abbrev counts' : List ℕ
      counts' = set counts (i - 1) y

      own-right : Right froms' counts' (i - 1)
      own-right =
          let w = u.within in
          let a = u.froms-long in
          let b = u.counts-long in
          (get_or-set_same froms (i - 1) x 0 (omega arith) ∙ fx, get_or-set_same counts (i - 1) y 0 (omega arith) ∙ fy)

      others-right : (p : ℕ) → p ∈ listed n line → Right froms' counts' p
      others-right p m =
          let g = (above p m).0 in
          let r = u.right p m in
          let ne : p ≡ i - 1 → ⊥ = λ e. omega arith in
          (get_or-set_other froms (i - 1) p x 0 ne ∙ r.0, get_or-set_other counts (i - 1) p y 0 ne ∙ r.1)

      agree : (q : ℕ) → q ∈ listed n line → ahead_at t froms' counts' ties (i - 1) q ≡ sooner_at ds ties t (i - 1) q
      agree q m =
          ap₂ ahead (rank_is froms' counts' (i - 1) own-right) (rank_is froms' counts' q (others-right q m))
          ∙ ahead-is (stale_at ds ties t (i - 1)) (stale_at ds ties t q)

      pub joins : is_stale excluded ds t (i - 1) ≡ true → (line' : List ℕ) → line' ≡ put_in (ahead_at t froms' counts' ties) n (i - 1) line
          → Upto (n + 1) (i - 1) line' froms' counts'
      joins e line' put =
          let w = u.within in
          let f = u.few in
          let long = u.line_long in
          let room : n < length line = omega arith in
          let q : listed (n + 1) line' ≡ insert (ahead_at t froms' counts' ties) (i - 1) (listed n line) =
          ap (listed (n + 1)) put ∙ listed-put-in (ahead_at t froms' counts' ties) n (i - 1) line room in
          record {
            within = omega arith;
            few = omega arith;
            line_long = ap length put ∙ length-put-in (ahead_at t froms' counts' ties) n (i - 1) line room ∙ long;
            froms-long = length-set froms (i - 1) x ∙ u.froms-long;
            counts-long = length-set counts (i - 1) y ∙ u.counts-long;
            is = q
                ∙ insert-agree (ahead_at t froms' counts' ties) (sooner_at ds ties t) (i - 1) (listed n line) agree
                ∙ ap (insert (sooner_at ds ties t) (i - 1)) u.is
                ∙ sym (arranged-takes (is_stale excluded ds t) (sooner_at ds ties t) i (length t) h w e);
            right = λ p m. ⊎_elim (λ s. subst (Right froms' counts') (sym s) own-right) (λ o. others-right p o)
                (insert-in (ahead_at t froms' counts' ties) (i - 1) (listed n line) (subst (λ (l : List ℕ). p ∈ l) q m));
          }

  -- all nodes are through
  pub all-in-line : (n i : ℕ) (line froms counts : List ℕ) → length t ≤ max_nodes → i ≡ 0 → Upto n i line froms counts
      → LinedUp excluded ds ties t (record { line = line; froms = froms; count = n })
  all-in-line n i line froms counts h z u =
      let f = u.few in
      let e : length t - i ≡ length t = omega arith in
      record {
        count_low = omega arith;
        line_long = u.line_long;
        froms-long = u.froms-long;
        in_line = u.is ∙ ap₂ (arranged (is_stale excluded ds t) (sooner_at ds ties t)) z e;
        from-of = λ p m. (u.right p m).0;
      }
