-- One step of a listing that stands at record j of a node's bytes, of those up to `high`: what is left of the records that are not hidden, how many they
-- are, and what they leave of the list; places are told `base` less. That those of the run are the hits of the piece that it is in. Then whether the list has
-- room for them. Assumes nothing.
use Prim.Native.Nat.{ℕ, zero, suc, ◌+◌, ◌-◌, ◌≤◌, ◌<◌, zero-le}
use mathlib.Core.Path.{◌≡◌, refl, ap, ap₂, sym, ◌∙◌}
use mathlib.Core.Bool.{Bool, true, false, not, ◌&&◌}
use mathlib.Core.List.{List, [], ◌∷◌}
use native.Mathlib.Omega.{arith}
use native.Mathlib.Nat.{add-zero, zero-add}
use native.Mathlib.Numerals.{add-one}
use lib.ListN.{length, take, drop, set}
use borrow.Author.Tests.{le-leb, lt-leb}
use Rattle.fields.specs.Choice.{pick}
use Rattle.fields.specs.Parts.{put}
use Rattle.fields.proofs.Parts.{put-cons}
use Rattle.rules.specs.Given.{Gives}
use Rattle.rules.specs.Node.{Rec, hidden, hits, hits_from}
use Rattle.rules.specs.Local.{list_into}
use Rattle.rules.specs.declared.Refusal.TheVariants.{NoPlace}
use Rattle.std.specs.Prelude.{Err, Ok}
use Rattle.table.specs.Tests.{count_of, recs_in}
use Rattle.table.proofs.Places.{rec_at, recs-drop}
use Rattle.prefix.specs.Run.{RunIn, shown_from, shown_in}

-- record j is not hidden
abbrev pub shown_at : ℕ → List ℕ → Bool
shown_at j b = not (hidden (rec_at j b).kv.status)

-- nothing is left behind the last record
pub none_left : (b : List ℕ) (base j high : ℕ) → high ≤ j → shown_in base j high b ≡ []
unfolding shown_from
none_left b base j high h = let p : high - j ≡ 0 = omega arith in ap (λ (m : ℕ). shown_from (j - base) m (drop j (recs_in b))) p

-- no more than there are records
few : (i n : ℕ) (l : List Rec) → length (shown_from i n l) ≤ n
unfolding shown_from
few i zero l = zero-le
few i (suc n) [] = zero-le
few i (suc n) (r ∷ l) = go (not (hidden r.kv.status)) (few (suc i) n l)
  where
    go : (t : Bool) → length (shown_from (suc i) n l) ≤ n → length (pick t (i ∷ shown_from (suc i) n l) (shown_from (suc i) n l)) ≤ suc n
    go true ih = omega arith
    go false ih = omega arith

pub shown-few : (b : List ℕ) (base low high : ℕ) → length (shown_in base low high b) ≤ high - low
shown-few b base low high = few (low - base) (high - low) (drop low (recs_in b))

-- as many, whatever their places are told as
same-many : (i k n : ℕ) (l : List Rec) → length (shown_from i n l) ≡ length (shown_from k n l)
unfolding shown_from
same-many i k zero l = refl
same-many i k (suc n) [] = refl
same-many i k (suc n) (r ∷ l) = go (not (hidden r.kv.status)) (same-many (suc i) (suc k) n l)
  where
    go : (t : Bool) → length (shown_from (suc i) n l) ≡ length (shown_from (suc k) n l)
        → length (pick t (i ∷ shown_from (suc i) n l) (shown_from (suc i) n l)) ≡ length (pick t (k ∷ shown_from (suc k) n l) (shown_from (suc k) n l))
    go true ih = ap suc ih
    go false ih = ih

pub shown-many : (b : List ℕ) (base low high : ℕ) → length (shown_in 0 low high b) ≡ length (shown_in base low high b)
shown-many b base low high = same-many (low - 0) (low - base) (high - low) (drop low (recs_in b))

module _ (b : List ℕ) (base j high : ℕ) (o : base ≤ j) (h : j < high) (g : high ≤ count_of b) where
  step : (t : Bool) → shown_at j b ≡ t → shown_in base j high b ≡ pick t ((j - base) ∷ shown_in base (j + 1) high b) (shown_in base (j + 1) high b)
  unfolding shown_from
  step t e =
      let n : ℕ = high - (j + 1) in
      let i : ℕ = j - base in
      let p : high - j ≡ suc n = omega arith in
      let q : suc i ≡ j + 1 - base = omega arith in
      ap (λ (m : ℕ). shown_from i m (drop j (recs_in b))) p
      ∙ ap (shown_from i (suc n)) (recs-drop j b (omega arith))
      ∙ ap (λ (s : Bool). pick s (i ∷ shown_from (suc i) n (drop (suc j) (recs_in b))) (shown_from (suc i) n (drop (suc j) (recs_in b)))) e
      ∙ ap₂ (λ (x m : ℕ). pick t (i ∷ shown_from x n (drop m (recs_in b))) (shown_from x n (drop m (recs_in b)))) q (sym (add-one j))

  pub step-shown : shown_at j b ≡ true → shown_in base j high b ≡ (j - base) ∷ shown_in base (j + 1) high b
  step-shown e = step true e

  pub step-hidden : shown_at j b ≡ false → shown_in base j high b ≡ shown_in base (j + 1) high b
  step-hidden e = step false e

  -- how many they are
  pub count-shown : (found n : ℕ) → shown_at j b ≡ true → found + length (shown_in base j high b) ≡ n → found + 1 + length (shown_in base (j + 1) high b) ≡ n
  count-shown found n e q = omega (arith, ap length (step-shown e))

  pub count-hidden : (found n : ℕ) → shown_at j b ≡ false → found + length (shown_in base j high b) ≡ n → found + length (shown_in base (j + 1) high b) ≡ n
  count-hidden found n e q = omega (arith, ap length (step-hidden e))

  -- what they leave of the list
  pub put-shown : (found : ℕ) (out l : List ℕ) → found < length out → shown_at j b ≡ true → put found (shown_in base j high b) out ≡ l
      → put (found + 1) (shown_in base (j + 1) high b) (set out found (j - base)) ≡ l
  put-shown found out l r e q =
      let s : found + 1 ≡ suc found = add-one found in
      rw s (put-cons found (j - base) (shown_in base (j + 1) high b) out r) ∙ ap (λ (x : List ℕ). put found x out) (sym (step-shown e)) ∙ q

  pub put-hidden : (found : ℕ) (out l : List ℕ) → shown_at j b ≡ false → put found (shown_in base j high b) out ≡ l → put found (shown_in base (j + 1) high b) out ≡ l
  put-hidden found out l e q = ap (λ (x : List ℕ). put found x out) (sym (step-hidden e)) ∙ q

  -- one that is not hidden has a place left
  pub shown-room : (found n : ℕ) → shown_at j b ≡ true → found + length (shown_in base j high b) ≤ n → found < n
  shown-room found n e q = omega (arith, ap length (step-shown e))

-- ---- the hits are those of the run

module _ (k b : List ℕ) (low top start end : ℕ) (fits : top ≤ count_of b) (r : RunIn k b low top start end) where
  -- the hits of the piece from record j on, its place being i
  abbrev hits_left : ℕ → ℕ → List ℕ
  hits_left i j = hits_from k i (take (top - j) (drop j (recs_in b)))

  hit : (i j : ℕ) → j < top → (t : Bool) → hits k (rec_at j b) ≡ t → hits_left i j ≡ pick t (i ∷ hits_left (suc i) (suc j)) (hits_left (suc i) (suc j))
  unfolding hits_from
  hit i j h t e =
      let n : ℕ = top - suc j in
      let p : top - j ≡ suc n = omega arith in
      ap (λ (m : ℕ). hits_from k i (take m (drop j (recs_in b)))) p
      ∙ ap (λ (x : List Rec). hits_from k i (take (suc n) x)) (recs-drop j b (omega arith))
      ∙ ap (λ (s : Bool). pick s (i ∷ hits_left (suc i) (suc j)) (hits_left (suc i) (suc j))) e

  miss : (i j : ℕ) → j < top → hits k (rec_at j b) ≡ false → hits_left i j ≡ hits_left (suc i) (suc j)
  miss i j h e = hit i j h false e

  -- none before the run
  skipped : (n i j : ℕ) → j + n ≡ start → low ≤ j → hits_left i j ≡ hits_left (i + n) start
  skipped zero i j e h = let p : j ≡ start = omega arith in ap₂ hits_left (sym (add-zero i)) p
  skipped (suc n) i j e h =
      miss i j (omega (arith, r.order, r.inside)) (ap (λ (t : Bool). t && shown_at j b) (r.before j h (omega arith)))
      ∙ skipped n (suc i) (suc j) (omega arith) (omega arith)
      ∙ ap (λ (x : ℕ). hits_left x start) (omega arith)

  -- none behind it
  over : (n i j : ℕ) → j + n ≡ top → end ≤ j → hits_left i j ≡ []
  unfolding hits_from
  over zero i j e h = let p : top - j ≡ 0 = omega arith in ap (λ (m : ℕ). hits_from k i (take m (drop j (recs_in b)))) p
  over (suc n) i j e h =
      miss i j (omega arith) (ap (λ (t : Bool). t && shown_at j b) (r.behind j h (omega arith))) ∙ over n (suc i) (suc j) (omega arith) (omega arith)

  -- in it, those that are not hidden
  along : (n i j : ℕ) → j + n ≡ end → start ≤ j → hits_left i j ≡ shown_from i n (drop j (recs_in b))
  unfolding shown_from
  along zero i j e h = over (top - j) i j (omega (arith, r.inside)) (omega arith)
  along (suc n) i j e h =
      let g : j < top = omega (arith, r.inside) in
      hit i j g (shown_at j b) (ap (λ (t : Bool). t && shown_at j b) (r.within j h (omega arith)))
      ∙ ap (λ (y : List ℕ). pick (shown_at j b) (i ∷ y) y) (along n (suc i) (suc j) (omega arith) (omega arith))
      ∙ sym (ap (shown_from i (suc n)) (recs-drop j b (omega arith)))

  pub run-hits : hits_from k 0 (take (top - low) (drop low (recs_in b))) ≡ shown_in low start end b
  run-hits =
      skipped (start - low) 0 low (omega (arith, r.from)) (omega arith)
      ∙ ap (λ (x : ℕ). hits_left x start) (zero-add (start - low))
      ∙ along (end - start) (start - low) start (omega (arith, r.order)) (omega arith)

-- ---- into the lent list

module _ (found l : List ℕ) (n : ℕ) (e : n ≡ length found) where
  pub no_room : length l < n → Gives (list_into found l) (Err NoPlace) l
  no_room h = rw (lt-leb (length found) (length l) (omega arith)) (refl, refl)

  pub all_listed : n ≤ length l → (m : List ℕ) → m ≡ put 0 found l → Gives (list_into found l) (Ok n) m
  all_listed h m q = rw (le-leb (length found) (length l) (omega arith)) (ap Ok e, q)
