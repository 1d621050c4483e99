-- One turn of the merging: what it lists and what is left give what was left before it. Before, what is left where it begins: the hits of either side are the
-- records of its run that are not hidden. Assumes nothing.
use Prim.Native.Nat.{ℕ, zero, suc, ◌+◌, ◌-◌, ◌≤◌, ◌<◌}
use mathlib.Core.Path.{◌≡◌, refl, ap, ap₂, sym, ◌∙◌, subst}
use mathlib.Core.Bool.{Bool, true, false, not, ◌&&◌}
use mathlib.Core.List.{List, [], ◌∷◌, ◌++◌}
use mathlib.Core.Logic.{◌⊎◌, inl, inr}
use native.Mathlib.Omega.{arith}
use native.Mathlib.Numerals.{add-one}
use native.Mathlib.Nat.{add-zero, zero-add}
use lib.ListN.{take, drop}
use lib.Seq.{take_all}
use lib.Dec.{eqb, ltb}
use borrow.Author.Tests.{eqb-true, eqb-false, ltb-true, ltb-false}
use Rattle.fields.specs.Choice.{pick, ◌∈◌, here, later}
use Rattle.fields.specs.Order.{less_bytes, starts_with, order_of}
use Rattle.std.specs.declared.cmp.Ordering.{Ordering}
use Rattle.std.specs.declared.cmp.Ordering.TheVariants.{Less, Equal, Greater}
use Rattle.fields.proofs.Choice.{in-none, in-cons}
use Rattle.fields.proofs.Ordered.{same_true, less-trans, order_same, order-less, order-more}
use Rattle.rules.specs.Node.{Rec, hidden, hits}
use Rattle.rules.specs.Table.{keys_rise}
use Rattle.rules.proofs.Records.{Above, Sorted, key_of}
use Rattle.rules.proofs.Obeys.{keys-sorted}
use Rattle.table.specs.Tests.{count_of, recs_in}
use Rattle.table.specs.Fits.{LaidNode}
use Rattle.table.proofs.Places.{rec_at, recs-drop, length-recs}
use Rattle.prefix.specs.Run.{RunIn}
use Rattle.over_list.specs.Merged.{Hit, hit, over_place, hits_by, hits_in, own_hits, overlaid, places_of, listing}
use Rattle.over_list.specs.Turns.{next_key, shown_once, both_turn, turn_of, unhidden, shown_hits, left_in, PassIn}
use Rattle.over_list.specs.declared.Turn.{Turn}
use Rattle.over_list.proofs.Laying.{AllAbove, none_above, hits-above, over_first, node-first, both_first}

-- ---- on lists

above-cons : (k : List ℕ) (r : Rec) (l : List Rec) → less_bytes k (key_of r) ≡ true → Above (key_of r) l → Above k (r ∷ l)
unfolding Above
above-cons k r l e a x m = go (in-cons m)
  where
    go : (x ≡ r) ⊎ (x ∈ l) → less_bytes k (key_of x) ≡ true
    go (inl q) = ap (λ (y : Rec). less_bytes k (key_of y)) q ∙ e
    go (inr n) = less-trans k (key_of r) (key_of x) e (a x n)

sorted-drop : (n : ℕ) (l : List Rec) → Sorted l → Sorted (drop n l)
unfolding Sorted
sorted-drop zero l s = s
sorted-drop (suc n) [] s = s
sorted-drop (suc n) (r ∷ l) s = sorted-drop n l s.1

take-from : (n : ℕ) (l : List Rec) {x : Rec} → x ∈ take n l → x ∈ l
take-from zero l m = absurd (in-none m)
take-from (suc n) [] m = m
take-from (suc n) (y ∷ l) {x} m = go (in-cons m) (take-from n l)
  where
    go : (x ≡ y) ⊎ (x ∈ take n l) → (x ∈ take n l → x ∈ l) → x ∈ y ∷ l
    go (inl e) ih = here e
    go (inr u) ih = later (ih u)

sorted-take : (n : ℕ) (l : List Rec) → Sorted l → Sorted (take n l)
unfolding Sorted Above
sorted-take zero l s = tt
sorted-take (suc n) [] s = tt
sorted-take (suc n) (r ∷ l) s = (λ x m. s.0 x (take-from n l m), sorted-take n l s.1)

-- what two lists of hits leave to be listed
abbrev left : List Hit → List Hit → List ℕ
left os ns = places_of (overlaid os ns)

-- those of records that are not hidden
abbrev shown : ℕ → List Rec → List Hit
shown i l = hits_by unhidden i l

module _ (i : ℕ) (r : Rec) (l : List Rec) where
  abbrev rest : List Hit
  rest = shown (suc i) l

  -- the override comes next
  over-turn : Above (key_of r) l → (ns : List Hit) → AllAbove (key_of r) ns → left (shown i (r ∷ l)) ns ≡ take (shown_once r) (i ∷ []) ++ left rest ns
  unfolding places_of hits_by
  over-turn a ns b = go (hidden r.kv.status)
    where
      go : (t : Bool) → left (pick (not t) (hit i r ∷ rest) rest) ns ≡ take (pick t 0 1) (i ∷ []) ++ left rest ns
      go true = refl
      go false = ap places_of (over_first (hit i r) rest ns (hits-above unhidden (key_of r) (suc i) l a) b)

  -- the node's record comes next
  node-turn : (os : List Hit) → AllAbove (key_of r) os → left os (shown i (r ∷ l)) ≡ take (shown_once r) (i ∷ []) ++ left os rest
  unfolding places_of hits_by
  node-turn os b = go (hidden r.kv.status)
    where
      go : (t : Bool) → left os (pick (not t) (hit i r ∷ rest) rest) ≡ take (pick t 0 1) (i ∷ []) ++ left os rest
      go true = refl
      go false = ap places_of (node-first (hit i r) os rest b)

-- both have the key
module _ (i j : ℕ) (r s : Rec) (l m : List Rec) (same : key_of r ≡ key_of s) (a : Above (key_of r) l) (b : Above (key_of s) m) where
  hidden-turn : hidden r.kv.status ≡ true → left (shown i (r ∷ l)) (shown j (s ∷ m)) ≡ take (shown_once s) (j ∷ []) ++ left (shown (suc i) l) (shown (suc j) m)
  unfolding hits_by
  hidden-turn e =
      ap (λ (t : Bool). left (pick (not t) (hit i r ∷ shown (suc i) l) (shown (suc i) l)) (shown j (s ∷ m))) e
      ∙ node-turn j s m (shown (suc i) l) (hits-above unhidden (key_of s) (suc i) l (subst (λ (k : List ℕ). Above k l) same a))

  shown-turn : hidden r.kv.status ≡ false → left (shown i (r ∷ l)) (shown j (s ∷ m)) ≡ take 1 (i ∷ []) ++ left (shown (suc i) l) (shown (suc j) m)
  unfolding places_of hits_by
  shown-turn e =
      ap (λ (t : Bool). left (pick (not t) (hit i r ∷ os) os) (pick (not (hidden s.kv.status)) (hit j s ∷ ns) ns)) e ∙ go (hidden s.kv.status)
    where
      os : List Hit
      os = shown (suc i) l

      ns : List Hit
      ns = shown (suc j) m

      above : AllAbove (key_of r) os
      above = hits-above unhidden (key_of r) (suc i) l a

      go : (t : Bool) → left (hit i r ∷ os) (pick (not t) (hit j s ∷ ns) ns) ≡ take 1 (i ∷ []) ++ left os ns
      go true = ap places_of (over_first (hit i r) os ns above (hits-above unhidden (key_of r) (suc j) m (subst (λ (k : List ℕ). Above k m) (sym same) b)))
      go false = ap places_of (both_first (hit i r) (hit j s) os ns same above)

-- ---- a piece of a node's rows

-- the records from j up to `end` of a node's bytes
abbrev pub piece : (j end : ℕ) (node : List ℕ) → List Rec
piece j end b = take (end - j) (drop j (recs_in b))

piece-drop : (b : List ℕ) (j end : ℕ) → j < end → end ≤ count_of b → piece j end b ≡ rec_at j b ∷ piece (suc j) end b
piece-drop b j end h g =
    let n : ℕ = end - suc j in
    let p : end - j ≡ suc n = omega arith in
    ap (λ (m : ℕ). take m (drop j (recs_in b))) p ∙ ap (take (suc n)) (recs-drop j b (omega arith))

piece-none : (b : List ℕ) (j end : ℕ) → end ≤ j → piece j end b ≡ []
piece-none b j end h = let p : end - j ≡ 0 = omega arith in ap (λ (m : ℕ). take m (drop j (recs_in b))) p

-- those behind a record come after it
piece-above : (b : List ℕ) → keys_rise (recs_in b) ≡ true → (j end : ℕ) → j < end → end ≤ count_of b → Above (key_of (rec_at j b)) (piece (suc j) end b)
unfolding Sorted
piece-above b s j end h g =
    (subst Sorted (piece-drop b j end h g) (sorted-take (end - j) (drop j (recs_in b)) (sorted-drop j (recs_in b) (keys-sorted (recs_in b) s)))).0

-- Of the piece from `low` up to `top`, the records from `start` up to `end` pass a test where they are not hidden, and no others do: then the hits by the test are
-- the hits of those that are not hidden.
module _ (f : Rec → Bool) (b : List ℕ) (low top start end : ℕ) (fits : top ≤ count_of b) (from : low ≤ start) (order : start ≤ end) (inside : end ≤ top)
    (before : (j : ℕ) → low ≤ j → j < start → f (rec_at j b) ≡ false)
    (within : (j : ℕ) → start ≤ j → j < end → f (rec_at j b) ≡ unhidden (rec_at j b))
    (behind : (j : ℕ) → end ≤ j → j < top → f (rec_at j b) ≡ false) where
  abbrev hits_at : ℕ → ℕ → List Hit
  hits_at i j = hits_by f i (piece j top b)

  step : (i j : ℕ) → j < top → (t : Bool) → f (rec_at j b) ≡ t → hits_at i j ≡ pick t (hit i (rec_at j b) ∷ hits_at (suc i) (suc j)) (hits_at (suc i) (suc j))
  unfolding hits_by
  step i j h t e =
      ap (hits_by f i) (piece-drop b j top h fits) ∙ ap (λ (s : Bool). pick s (hit i (rec_at j b) ∷ hits_at (suc i) (suc j)) (hits_at (suc i) (suc j))) e

  skipped : (n i j : ℕ) → j + n ≡ start → low ≤ j → hits_at i j ≡ hits_at (i + n) start
  skipped zero i j e h = let p : j ≡ start = omega arith in ap₂ hits_at (sym (add-zero i)) p
  skipped (suc n) i j e h =
      step i j (omega arith) false (before j h (omega arith))
      ∙ skipped n (suc i) (suc j) (omega arith) (omega arith)
      ∙ ap (λ (x : ℕ). hits_at x start) (omega arith)

  over : (n i j : ℕ) → j + n ≡ top → end ≤ j → hits_at i j ≡ []
  unfolding hits_by
  over zero i j e h = ap (hits_by f i) (piece-none b j top (omega arith))
  over (suc n) i j e h = step i j (omega arith) false (behind j h (omega arith)) ∙ over n (suc i) (suc j) (omega arith) (omega arith)

  along : (n i j : ℕ) → j + n ≡ end → start ≤ j → hits_at i j ≡ shown_hits i j end b
  unfolding hits_by
  along zero i j e h = over (top - j) i j (omega arith) (omega arith) ∙ sym (ap (hits_by unhidden i) (piece-none b j end (omega arith)))
  along (suc n) i j e h =
      step i j (omega arith) (unhidden (rec_at j b)) (within j h (omega arith))
      ∙ ap (λ (y : List Hit). pick (unhidden (rec_at j b)) (hit i (rec_at j b) ∷ y) y) (along n (suc i) (suc j) (omega arith) (omega arith))
      ∙ sym (ap (hits_by unhidden i) (piece-drop b j end (omega arith) (omega arith)))

  cut-hits : (i : ℕ) → hits_by f i (piece low top b) ≡ shown_hits (i + (start - low)) start end b
  cut-hits i = skipped (start - low) i low (omega arith) (omega arith) ∙ along (end - start) (i + (start - low)) start (omega arith) (omega arith)

-- ---- all hits

-- a test that does not pass, beside another; one that passes
none_both : (t u : Bool) → u ≡ false → t && u ≡ false
none_both true u e = e
none_both false u e = refl

-- of the overrides
module _ (mine : List ℕ → Bool) (k b : List ℕ) (low top start end : ℕ) (pass : PassIn mine b low top) (run : RunIn k b low top start end) where
  abbrev test : Rec → Bool
  test r = mine (key_of r) && hits k r

  not-begun : (j : ℕ) → starts_with k (key_of (rec_at j b)) ≡ false → test (rec_at j b) ≡ false
  not-begun j e = none_both (mine (key_of (rec_at j b))) (hits k (rec_at j b)) (ap (λ (t : Bool). t && unhidden (rec_at j b)) e)

  not-mine : (j : ℕ) → mine (key_of (rec_at j b)) ≡ false → test (rec_at j b) ≡ false
  not-mine j e = ap (λ (t : Bool). t && hits k (rec_at j b)) e

  own-hits : (i : ℕ) → own_hits mine k i (recs_in b) ≡ shown_hits (i + start) start end b
  own-hits i =
      ap (hits_by test i) (sym (take_all (count_of b - 0) (recs_in b) (rw length-recs (omega arith))))
      ∙ cut-hits test b 0 (count_of b) start end (omega arith) (omega arith) run.order (omega (arith, run.inside, pass.inside))
      (λ j h g. early j (ltb j low) refl g)
      (λ j h g.
      ap₂ (λ (t u : Bool). t && (u && unhidden (rec_at j b))) (pass.within j (omega (arith, run.from)) (omega (arith, run.inside))) (run.within j h g))
      (λ j h g. late j (ltb j top) refl h g)
      i
      ∙ ap (λ (n : ℕ). shown_hits (i + n) start end b) (omega arith)
    where
      early : (j : ℕ) (t : Bool) → ltb j low ≡ t → j < start → test (rec_at j b) ≡ false
      early j true q g = not-mine j (pass.before j (ltb-true j low q))
      early j false q g = not-begun j (run.before j (ltb-false j low q) g)

      late : (j : ℕ) (t : Bool) → ltb j top ≡ t → end ≤ j → j < count_of b → test (rec_at j b) ≡ false
      late j true q h g = not-begun j (run.behind j h (ltb-true j top q))
      late j false q h g = not-mine j (pass.behind j (ltb-false j top q) g)

-- of the node
node-hits : (k b : List ℕ) (low top start end : ℕ) → top ≤ count_of b → RunIn k b low top start end → hits_in k 0 (piece low top b) ≡ shown_hits (start - low) start end b
node-hits k b low top start end fits run =
    cut-hits (hits k) b low top start end fits run.from run.order run.inside
    (λ j h g. ap (λ (t : Bool). t && unhidden (rec_at j b)) (run.before j h g))
    (λ j h g. ap (λ (t : Bool). t && unhidden (rec_at j b)) (run.within j h g))
    (λ j h g. ap (λ (t : Bool). t && unhidden (rec_at j b)) (run.behind j h g))
    0
    ∙ ap (λ (n : ℕ). shown_hits n start end b) (zero-add (start - low))

-- of both: all is left where the merging begins
pub all_left : (mine : List ℕ → Bool) (k o n : List ℕ) (low_o top_o a a_end low top b b_end : ℕ) → PassIn mine o low_o top_o → RunIn k o low_o top_o a a_end → top ≤ count_of n
    → RunIn k n low top b b_end → places_of (listing mine k (recs_in o) (piece low top n)) ≡ left_in o a a_end n low b b_end
unfolding listing
all_left mine k o n low_o top_o a a_end low top b b_end pass ro fits rn =
    ap₂ left (own-hits mine k o low_o top_o a a_end pass ro over_place) (node-hits k n low top b b_end fits rn)

-- ---- a turn

pub record TurnIs (o : List ℕ) (a a_end : ℕ) (n : List ℕ) (base b b_end : ℕ) (t : Turn) : Type 0 where
  pub splits : left_in o a a_end n base b b_end ≡ take t.listed (t.hit ∷ []) ++ left_in o (a + t.over) a_end n base (b + t.node) b_end
  pub small : t.hit < 256
  pub once : t.listed ≤ 1
  pub paid : t.listed ≤ t.over + t.node
  pub goes : 1 ≤ t.over + t.node
  pub over-in : a + t.over ≤ a_end
  pub node_in : b + t.node ≤ b_end

shown-once : (t : Bool) → pick t 0 1 ≤ 1
shown-once true = omega arith
shown-once false = omega arith

-- nothing is left at the end
pub none_left : (o : List ℕ) (a_end : ℕ) (n : List ℕ) (base b_end : ℕ) → left_in o a_end a_end n base b_end b_end ≡ []
unfolding hits_by overlaid places_of
none_left o a_end n base b_end =
    ap₂ (λ (x y : List Rec). left (shown (over_place + a_end) x) (shown (b_end - base) y)) (piece-none o a_end a_end (omega arith)) (piece-none n b_end b_end (omega arith))

module _ (o n : List ℕ) (laid : LaidNode o) (rises : keys_rise (recs_in o) ≡ true) (laid_n : LaidNode n) (rises_n : keys_rise (recs_in n) ≡ true)
    (a_end base b_end : ℕ) (a_fits : a_end ≤ count_of o) (b_fits : b_end ≤ count_of n) (a b : ℕ) (a_to : a ≤ a_end) (b_from : base ≤ b) (b_to : b ≤ b_end) where
  abbrev r : Rec
  r = rec_at a o

  abbrev s : Rec
  s = rec_at b n

  abbrev i : ℕ
  i = over_place + a

  abbrev j : ℕ
  j = b - base

  abbrev os : List Hit
  os = shown_hits i a a_end o

  abbrev ns : List Hit
  ns = shown_hits j b b_end n

  -- each side one record further, or where it was
  o-on : shown_hits (suc i) (suc a) a_end o ≡ shown_hits (over_place + (a + 1)) (a + 1) a_end o
  o-on = ap₂ (λ (x y : ℕ). shown_hits x y a_end o) (omega arith) (sym (add-one a))

  n-on : shown_hits (suc j) (suc b) b_end n ≡ shown_hits (b + 1 - base) (b + 1) b_end n
  n-on = ap₂ (λ (x y : ℕ). shown_hits x y b_end n) (omega arith) (sym (add-one b))

  o-stays : os ≡ shown_hits (over_place + (a + 0)) (a + 0) a_end o
  o-stays = ap (λ (x : ℕ). shown_hits (over_place + x) x a_end o) (sym (add-zero a))

  n-stays : ns ≡ shown_hits (b + 0 - base) (b + 0) b_end n
  n-stays = ap (λ (x : ℕ). shown_hits (x - base) x b_end n) (sym (add-zero b))

  -- the next record of each side, with those behind it
  o_is : a < a_end → os ≡ shown i (r ∷ piece (suc a) a_end o)
  o_is h = ap (shown i) (piece-drop o a a_end h a_fits)

  o-above : a < a_end → Above (key_of r) (piece (suc a) a_end o)
  o-above h = piece-above o rises a a_end h a_fits

  n-is : b < b_end → ns ≡ shown j (s ∷ piece (suc b) b_end n)
  n-is h = ap (shown j) (piece-drop n b b_end h b_fits)

  n-above : b < b_end → Above (key_of s) (piece (suc b) b_end n)
  n-above h = piece-above n rises_n b b_end h b_fits

  -- the override comes next
  less-is : a < a_end → AllAbove (key_of r) ns → TurnIs o a a_end n base b b_end (turn_of Less a j r s)
  less-is h x =
      record {
        splits =
            ap (λ (y : List Hit). left y ns) (o_is h)
            ∙ over-turn i r (piece (suc a) a_end o) (o-above h) ns x
            ∙ ap₂ (λ (y z : List Hit). take (shown_once r) (i ∷ []) ++ left y z) o-on n-stays;
        small = omega (arith, laid.few);
        once = shown-once (hidden r.kv.status);
        paid = omega (arith, shown-once (hidden r.kv.status));
        goes = omega arith;
        over-in = omega arith;
        node_in = omega arith;
      }

  -- the node's record comes next
  more-is : b < b_end → AllAbove (key_of s) os → TurnIs o a a_end n base b b_end (turn_of Greater a j r s)
  more-is h x =
      record {
        splits =
            ap (left os) (n-is h)
            ∙ node-turn j s (piece (suc b) b_end n) os x
            ∙ ap₂ (λ (y z : List Hit). take (shown_once s) (j ∷ []) ++ left y z) o-stays n-on;
        small = omega (arith, laid_n.few);
        once = shown-once (hidden s.kv.status);
        paid = omega (arith, shown-once (hidden s.kv.status));
        goes = omega arith;
        over-in = omega arith;
        node_in = omega arith;
      }

  -- both have the key
  same-is : a < a_end → b < b_end → key_of r ≡ key_of s → TurnIs o a a_end n base b b_end (turn_of Equal a j r s)
  same-is h g e = go (hidden r.kv.status) refl
    where
      go : (t : Bool) → hidden r.kv.status ≡ t → TurnIs o a a_end n base b b_end (both_turn t a j s)
      go true q =
          record {
            splits =
                ap₂ left (o_is h) (n-is g)
                ∙ hidden-turn i j r s (piece (suc a) a_end o) (piece (suc b) b_end n) e (o-above h) (n-above g) q
                ∙ ap₂ (λ (y z : List Hit). take (shown_once s) (j ∷ []) ++ left y z) o-on n-on;
            small = omega (arith, laid_n.few);
            once = shown-once (hidden s.kv.status);
            paid = omega (arith, shown-once (hidden s.kv.status));
            goes = omega arith;
            over-in = omega arith;
            node_in = omega arith;
          }
      go false q =
          record {
            splits =
                ap₂ left (o_is h) (n-is g)
                ∙ shown-turn i j r s (piece (suc a) a_end o) (piece (suc b) b_end n) e (o-above h) (n-above g) q
                ∙ ap₂ (λ (y z : List Hit). take 1 (i ∷ []) ++ left y z) o-on n-on;
            small = omega (arith, laid.few);
            once = omega arith;
            paid = omega arith;
            goes = omega arith;
            over-in = omega arith;
            node_in = omega arith;
          }

  -- by the order of the two keys
  keyed-is : a < a_end → b < b_end → (x : Ordering) → order_of (key_of r) (key_of s) ≡ x → TurnIs o a a_end n base b b_end (turn_of x a j r s)
  keyed-is h g Less e =
      less-is h
      (subst (AllAbove (key_of r)) (sym (n-is g))
      (hits-above unhidden (key_of r) j (s ∷ piece (suc b) b_end n) (above-cons (key_of r) s (piece (suc b) b_end n) (order-less (key_of r) (key_of s) e) (n-above g))))
  keyed-is h g Equal e = same-is h g (same_true (key_of r) (key_of s) (order_same (key_of r) (key_of s) e))
  keyed-is h g Greater e =
      more-is g
      (subst (AllAbove (key_of s)) (sym (o_is h))
      (hits-above unhidden (key_of s) i (r ∷ piece (suc a) a_end o)
      (above-cons (key_of s) r (piece (suc a) a_end o) (order-more (key_of r) (key_of s) e) (o-above h))))

  -- a side at its end has no hits
  side-over : (f : List ℕ) (x y end : ℕ) (k : List ℕ) → y ≡ end → AllAbove k (shown_hits x y end f)
  unfolding hits_by
  side-over f x y end k e = subst (λ (l : List Rec). AllAbove k (shown x l)) (sym (piece-none f y end (omega arith))) (none_above k)

  pub turn_is : a + b < a_end + b_end → TurnIs o a a_end n base b b_end (turn_of (next_key a a_end b b_end o n) a j r s)
  turn_is some = go (eqb a a_end) refl (eqb b b_end) refl
    where
      go : (x : Bool) → eqb a a_end ≡ x → (y : Bool) → eqb b b_end ≡ y → TurnIs o a a_end n base b b_end (turn_of (pick x Greater (pick y Less (order_of (key_of r) (key_of s)))) a j r s)
      go true p y q =
          let e : a ≡ a_end = eqb-true a a_end p in
          more-is (omega arith) (side-over o i a a_end (key_of s) e)
      go false p true q =
          let e : b ≡ b_end = eqb-true b b_end q in
          let d : a ≡ a_end → ⊥ = eqb-false a a_end p in
          less-is (omega arith) (side-over n j b b_end (key_of r) e)
      go false p false q =
          let d : a ≡ a_end → ⊥ = eqb-false a a_end p in
          let e : b ≡ b_end → ⊥ = eqb-false b b_end q in
          keyed-is (omega arith) (omega arith) (order_of (key_of r) (key_of s)) refl
