-- The loops over the places of a table, on plain lists: what two neighbouring places are before a turn, and what a turn makes of the whole. Assumes nothing.
use Prim.Native.Nat.{ℕ, ◌+◌, ◌*◌, ◌-◌, ◌≤◌, ◌<◌}
use mathlib.Core.Path.{◌≡◌, ap, ap₂, sym, ◌∙◌, subst}
use mathlib.Core.List.{List}
use native.Mathlib.Omega.{arith}
use native.Mathlib.Nat.{add-zero}
use lib.ListN.{length, take, drop}
use borrow.Rule.Slice.PartMut.{put_mid}
use Rattle.fields.specs.Parts.{part, put}
use Rattle.fields.proofs.Parts.{length_part, length-put, part-part, part-before, part-behind, put-nil}
use Rattle.fields.proofs.Lent.{seen, lent-put}
use Rattle.rules.specs.Sizes.{max_nodes}
use Rattle.rules.specs.Layout.{node_place, node_width}
use Rattle.table.specs.Fits.{LaidNode, LaidTable}
use Rattle.table.proofs.Laid.{place-laid}
use Rattle.table_nodes.proofs.Steps.{raised, lowered}

-- ---- two places one behind the other, lent

-- as the code's `table[a..e]` leaves them
abbrev pub pair_at : (a : ℕ) (s : List ℕ) → List ℕ
pair_at a s = take (a + (node_width + node_width) - a) (drop a s)

module _ (a : ℕ) (s : List ℕ) (h : a + (node_width + node_width) ≤ length s) where
  -- a place of the pair is one of the whole
  in_pair : (c : ℕ) → c ≤ node_width → part c node_width (pair_at a s) ≡ part (a + c) node_width s
  in_pair c g = ap (part c node_width) (seen a (node_width + node_width) s) ∙ part-part c node_width a (node_width + node_width) s (omega arith) h

  pub pair-laid : LaidNode (part a node_width s) → LaidNode (part (a + node_width) node_width s)
      → (length (pair_at a s) ≡ node_width + node_width) × LaidNode (part 0 node_width (pair_at a s)) × LaidNode (part node_width node_width (pair_at a s))
  pair-laid o p = (
    ap length (seen a (node_width + node_width) s) ∙ length_part a (node_width + node_width) s h,
    subst LaidNode (sym (in_pair 0 (omega arith) ∙ ap (λ (k : ℕ). part k node_width s) (add-zero a))) o,
    subst LaidNode (sym (in_pair node_width (omega arith))) p,
  )

  -- place b became as place c
  pub pair-back : (b c : ℕ) (ys : List ℕ) → b ≤ node_width → c ≤ node_width → ys ≡ put b (part c node_width (pair_at a s)) (pair_at a s) → length ys ≡ length (pair_at a s)
      → put_mid a (a + (node_width + node_width) - a) s ys ≡ put (a + b) (part (a + c) node_width s) s
  pair-back b c ys hb hc e k =
      let v : List ℕ = part c node_width (pair_at a s) in
      let vl : length v ≡ node_width = ap length (in_pair c hc) ∙ length_part (a + c) node_width s (omega arith) in
      lent-put a (node_width + node_width) b v s ys h (rw vl (omega arith)) e k ∙ ap (λ (z : List ℕ). put (a + b) z s) (in_pair c hc)

-- ---- up

-- the nodes from k up to n stand one place higher
abbrev pub up_from : (n k : ℕ) (l : List ℕ) → List ℕ
up_from n k l = put (node_place k + node_width) (part (node_place k) ((n - k) * node_width) l) l

module _ (l : List ℕ) (o : LaidTable l) (n : ℕ) (room : n < max_nodes) where
  pub up_none : l ≡ up_from n n l
  unfolding part
  up_none =
      let e : (n - n) * node_width ≡ 0 = omega arith in
      sym (ap (λ (k : ℕ). put (node_place n + node_width) (part (node_place n) k l) l) e ∙ put-nil (node_place n + node_width) l)

  up-part : (k : ℕ) → k ≤ n → length (part (node_place k) ((n - k) * node_width) l) ≡ (n - k) * node_width
  up-part k g = length_part (node_place k) ((n - k) * node_width) l (omega (arith, o.long))

  pub up-long : (k : ℕ) → k ≤ n → length (up_from n k l) ≡ length l
  up-long k g = length-put (node_place k + node_width) (part (node_place k) ((n - k) * node_width) l) l (rw (up-part k g) (omega (arith, o.long)))

  -- a place below those that are raised is as it was
  pub up_same : (k : ℕ) → k ≤ n → (j : ℕ) → j ≤ k → part (node_place j) node_width (up_from n k l) ≡ part (node_place j) node_width l
  up_same k g j f =
      part-before (node_place j) node_width (node_place k + node_width) (part (node_place k) ((n - k) * node_width) l) l (omega arith) (omega (arith, o.long))

  -- a turn: place j, at a, is raised
  module _ (j : ℕ) (h : j < n) (s : List ℕ) (e : s ≡ up_from n (j + 1) l) (a : ℕ) (q : a ≡ node_place j) where
    up_fits : a + (node_width + node_width) ≤ length s
    up_fits = omega (arith, o.long, ap length e, up-long (j + 1) (omega arith))

    up-laid : (k c : ℕ) → k ≤ j + 1 → c ≡ node_place k → LaidNode (part c node_width s)
    up-laid k c g r =
        subst LaidNode (sym (ap₂ (λ (x : ℕ) (t : List ℕ). part x node_width t) r e ∙ up_same (j + 1) (omega arith) k g)) (place-laid l o k (omega arith))

    pub up-asked : (length (pair_at a s) ≡ node_width + node_width) × LaidNode (part 0 node_width (pair_at a s)) × LaidNode (part node_width node_width (pair_at a s))
    up-asked = pair-laid a s up_fits (up-laid j a (omega arith) q) (up-laid (j + 1) (a + node_width) (omega arith) (omega arith))

    pub up_done : (ys : List ℕ) → ys ≡ put node_width (part 0 node_width (pair_at a s)) (pair_at a s) → length ys ≡ length (pair_at a s)
        → put_mid a (a + (node_width + node_width) - a) s ys ≡ up_from n j l
    up_done ys f k =
        let m : ℕ = (n - (j + 1)) * node_width in
        let next : node_place (j + 1) ≡ node_place j + node_width = omega arith in
        let all : node_width + m ≡ (n - j) * node_width = omega arith in
        pair-back a s up_fits node_width 0 ys (omega arith) (omega arith) f k
        ∙ ap₂ (λ (x y : ℕ). put (x + node_width) (part y node_width s) s) q (add-zero a ∙ q)
        ∙ raised l s (node_place j) node_width m (omega (arith, o.long)) (e ∙ ap (λ (x : ℕ). put (x + node_width) (part x m l) l) next)
        ∙ ap (λ (x : ℕ). put (node_place j + node_width) (part (node_place j) x l) l) all

  -- the place that falls free, lent
  pub up-free : (i : ℕ) → i ≤ n → (s : List ℕ) → s ≡ up_from n i l → (a : ℕ) → a ≡ node_place i → LaidNode (take (a + node_width - a) (drop a s))
  up-free i g s e a q =
      subst LaidNode (sym (seen a node_width s ∙ ap₂ (λ (x : ℕ) (t : List ℕ). part x node_width t) q e ∙ up_same i g i (omega arith))) (place-laid l o i (omega arith))

-- ---- down

-- the nodes behind i up to k stand one place lower
abbrev pub down_to : (i k : ℕ) (l : List ℕ) → List ℕ
down_to i k l = put (node_place i) (part (node_place i + node_width) ((k - i) * node_width) l) l

module _ (l : List ℕ) (o : LaidTable l) (i : ℕ) where
  pub down-none : l ≡ down_to i i l
  unfolding part
  down-none =
      let e : (i - i) * node_width ≡ 0 = omega arith in
      sym (ap (λ (k : ℕ). put (node_place i) (part (node_place i + node_width) k l) l) e ∙ put-nil (node_place i) l)

  down-part : (k : ℕ) → i ≤ k → k < max_nodes → length (part (node_place i + node_width) ((k - i) * node_width) l) ≡ (k - i) * node_width
  down-part k h g = length_part (node_place i + node_width) ((k - i) * node_width) l (omega (arith, o.long))

  pub down-long : (k : ℕ) → i ≤ k → k < max_nodes → length (down_to i k l) ≡ length l
  down-long k h g = length-put (node_place i) (part (node_place i + node_width) ((k - i) * node_width) l) l (rw (down-part k h g) (omega (arith, o.long)))

  -- a place behind those that are filled is as it was
  pub down-same : (k : ℕ) → i ≤ k → k < max_nodes → (j : ℕ) → k ≤ j → part (node_place j) node_width (down_to i k l) ≡ part (node_place j) node_width l
  down-same k h g j f =
      part-behind (node_place j) node_width (node_place i) (part (node_place i + node_width) ((k - i) * node_width) l) l (rw (down-part k h g) (omega arith))
      (rw (down-part k h g) (omega (arith, o.long)))

  -- the place that falls free, lent
  pub down-free : (k : ℕ) → i ≤ k → k < max_nodes → (s : List ℕ) → s ≡ down_to i k l → (a : ℕ) → a ≡ node_place k → LaidNode (take (a + node_width - a) (drop a s))
  down-free k h g s e a q =
      subst LaidNode (sym (seen a node_width s ∙ ap₂ (λ (x : ℕ) (t : List ℕ). part x node_width t) q e ∙ down-same k h g k (omega arith))) (place-laid l o k g)

  -- a turn: place k, at a, becomes as the one behind it
  module _ (k : ℕ) (h : i ≤ k) (g : k + 1 < max_nodes) (s : List ℕ) (e : s ≡ down_to i k l) (a : ℕ) (q : a ≡ node_place k) where
    down_fits : a + (node_width + node_width) ≤ length s
    down_fits = omega (arith, o.long, ap length e, down-long k h (omega arith))

    down-laid : (j c : ℕ) → k ≤ j → j < max_nodes → c ≡ node_place j → LaidNode (part c node_width s)
    down-laid j c f u r =
        subst LaidNode (sym (ap₂ (λ (x : ℕ) (t : List ℕ). part x node_width t) r e ∙ down-same k h (omega arith) j f)) (place-laid l o j u)

    pub down-asked : (length (pair_at a s) ≡ node_width + node_width) × LaidNode (part 0 node_width (pair_at a s)) × LaidNode (part node_width node_width (pair_at a s))
    down-asked = pair-laid a s down_fits (down-laid k a (omega arith) (omega arith) q) (down-laid (k + 1) (a + node_width) (omega arith) g (omega arith))

    pub down-done : (ys : List ℕ) → ys ≡ put 0 (part node_width node_width (pair_at a s)) (pair_at a s) → length ys ≡ length (pair_at a s)
        → put_mid a (a + (node_width + node_width) - a) s ys ≡ down_to i (k + 1) l
    down-done ys f u =
        let m : ℕ = (k - i) * node_width in
        let at : a ≡ node_place i + m = omega arith in
        let all : m + node_width ≡ (k + 1 - i) * node_width = omega arith in
        pair-back a s down_fits 0 node_width ys (omega arith) (omega arith) f u
        ∙ ap₂ (λ (x y : ℕ). put x (part (y + node_width) node_width s) s) (add-zero a ∙ at) at
        ∙ lowered l s (node_place i) node_width m (omega (arith, o.long)) e
        ∙ ap (λ (x : ℕ). put (node_place i) (part (node_place i + node_width) x l) l) all
