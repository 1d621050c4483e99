-- What the node deltas of a delta that was read are like: versions rise, none is above max, all have their sizes, no node comes twice.
-- Assumes nothing.
use Prim.Native.Nat.{◌<◌, ◌≤◌, ℕ}
use mathlib.Core.Bool.{Bool, false, true, true≢false}
use mathlib.Core.List.{List, [], ◌∷◌}
use mathlib.Core.Logic.{◌⊎◌, inl, inr}
use mathlib.Core.Path.{◌∙◌, ◌≡◌, ap, refl, subst, sym}
use native.Mathlib.Omega.{arith}
use lib.Dec.{eqb}
use lib.ListN.{length}
use Rattle.fields.proofs.Choice.{in-cons, in-none}
use Rattle.fields.specs.Choice.{◌∈◌, pick}
use Rattle.rules.proofs.Deltas.{AllSmall, Chain, follow-max, follow-node, follow-record}
use Rattle.rules.proofs.Next.{Strict}
use Rattle.rules.proofs.Ops.{Number, SmallKeyValue}
use Rattle.rules.specs.Delta.{KeyValueOp, NodeDelta, NodeOp, Op, Part, Reading, SetMaxVersionOp, max_of, parts_of, recs_of}
use Rattle.rules.specs.Node.{KeyValue}
use Rattle.rules.specs.Sizes.{max_nodes}
use Rattle.rules.specs.Table.{among}

pub record OkDelta (d : NodeDelta) : Type 0 where
  pub strict : Strict 0 d.recs
  pub within : (r : KeyValue) → r ∈ d.recs → r.version ≤ d.max
  pub small : (r : KeyValue) → r ∈ d.recs → SmallKeyValue r
  pub max-fits : Number d.max
  pub gc_fits : Number d.last_gc
  pub from_fits : Number d.from

pub strict-lower : (m n : ℕ) (l : List KeyValue) → n ≤ m → Strict m l → Strict n l
unfolding Strict
strict-lower m n [] h s = tt
strict-lower m n (a ∷ l) h s = let g = s.0 in (omega arith, s.1)

-- the operations up to the next Node, where m is the running max
pub record Body (m : ℕ) (ops : List Op) : Type 0 where
  pub strict : Strict m (recs_of ops)
  pub low : m ≤ max_of m ops
  pub within : (r : KeyValue) → r ∈ recs_of ops → r.version ≤ max_of m ops
  pub small : (r : KeyValue) → r ∈ recs_of ops → SmallKeyValue r
  pub fits : Number (max_of m ops)

nothing_left : (m : ℕ) → Number m → (ops : List Op) → recs_of ops ≡ [] → max_of m ops ≡ m → Body m ops
unfolding Strict
nothing_left m h ops e q =
    record {
      strict = subst (Strict m) (sym e) tt;
      low = omega arith;
      within = λ r i. absurd (in-none (subst (λ (l : List KeyValue). r ∈ l) e i));
      small = λ r i. absurd (in-none (subst (λ (l : List KeyValue). r ∈ l) e i));
      fits = subst Number (sym q) h;
    }

pub body : (ops : List Op) (s : Reading) (m : ℕ) → s.running ≡ m → Number m → Chain s ops → AllSmall ops → Body m ops
unfolding Chain AllSmall recs_of max_of Strict
body [] s m e h c a = nothing_left m h [] refl refl
body (NodeOp n g f ∷ ops) s m e h c a = nothing_left m h (NodeOp n g f ∷ ops) refl refl
body (KeyValueOp r ∷ ops) s m e h c a =
    let x = follow-record s c.0 r c.1 in
    let g : m < r.version = let k = x.0 in omega arith in
    grown g (body ops c.0 r.version x.2 a.0.version_fits c.2 a.1)
  where
    grown : m < r.version → Body r.version ops → Body m (KeyValueOp r ∷ ops)
    grown g b =
        record {
          strict = (g, b.strict);
          low = let k = b.low in omega arith;
          within = λ y i. within y (in-cons i);
          small = λ y i. small y (in-cons i);
          fits = b.fits;
        }
      where
        within : (y : KeyValue) → (y ≡ r) ⊎ (y ∈ recs_of ops) → y.version ≤ max_of r.version ops
        within y (inl q) = let v : y.version ≡ r.version = ap (λ (z : KeyValue). z.version) q in let k = b.low in omega arith
        within y (inr i) = b.within y i

        small : (y : KeyValue) → (y ≡ r) ⊎ (y ∈ recs_of ops) → SmallKeyValue y
        small y (inl q) = subst SmallKeyValue (sym q) a.0
        small y (inr i) = b.small y i
body (SetMaxVersionOp x ∷ ops) s m e h c a =
    let y = follow-max s c.0 x c.1 in
    let g : m ≤ x = let k = y.0 in omega arith in
    let b = body ops c.0 x y.2 a.0 c.2 a.1 in
    record {
      strict = strict-lower x m (recs_of ops) g b.strict;
      low = let k = b.low in omega arith;
      within = b.within;
      small = b.small;
      fits = b.fits;
    }

pub parts-ok : (ops : List Op) (s : Reading) → Chain s ops → AllSmall ops → (x : Part) → x ∈ parts_of ops → OkDelta x.delta
unfolding Chain AllSmall parts_of
parts-ok [] s c a x m = absurd (in-none m)
parts-ok (NodeOp n g f ∷ ops) s c a x m = at (in-cons m) (parts-ok ops c.0 c.2 a.1 x)
  where
    first : Body 0 ops → OkDelta (record { from = f; last_gc = g; recs = recs_of ops; max = max_of 0 ops })
    first b = record { strict = b.strict; within = b.within; small = b.small; max-fits = b.fits; gc_fits = a.0.1; from_fits = a.0.2 }

    at : (x ≡ record { number = n; delta = record { from = f; last_gc = g; recs = recs_of ops; max = max_of 0 ops } }) ⊎ (x ∈ parts_of ops) → (x ∈ parts_of ops → OkDelta x.delta) → OkDelta x.delta
    at (inl e) ih = subst (λ (y : Part). OkDelta y.delta) (sym e) (first (body ops c.0 0 (follow-node s c.0 n g f c.1).3 (omega arith) c.2 a.1))
    at (inr i) ih = ih i
parts-ok (KeyValueOp r ∷ ops) s c a x m = parts-ok ops c.0 c.2 a.1 x m
parts-ok (SetMaxVersionOp y ∷ ops) s c a x m = parts-ok ops c.0 c.2 a.1 x m

-- a node seen before does not come again
pub parts-new : (ops : List Op) (s : Reading) → Chain s ops → (x : Part) → x ∈ parts_of ops → among x.number s.seen ≡ false
unfolding Chain parts_of among
parts-new [] s c x m = absurd (in-none m)
parts-new (NodeOp n g f ∷ ops) s c x m = at (in-cons m) (parts-new ops c.0 c.2 x)
  where
    now : (among n s.seen ≡ false) × (length s.seen < max_nodes) × (c.0.seen ≡ n ∷ s.seen) × (c.0.running ≡ 0)
    now = follow-node s c.0 n g f c.1

    before : (b : Bool) → pick b true (among x.number s.seen) ≡ false → among x.number s.seen ≡ false
    before true e = absurd (true≢false e)
    before false e = e

    at : (x ≡ record { number = n; delta = record { from = f; last_gc = g; recs = recs_of ops; max = max_of 0 ops } }) ⊎ (x ∈ parts_of ops) → (x ∈ parts_of ops → among x.number c.0.seen ≡ false) → among x.number s.seen ≡ false
    at (inl e) ih = ap (λ (y : Part). among y.number s.seen) e ∙ now.0
    at (inr i) ih = before (eqb x.number n) (ap (among x.number) (sym now.2) ∙ ih i)
parts-new (KeyValueOp r ∷ ops) s c x m = ap (among x.number) (sym (follow-record s c.0 r c.1).1) ∙ parts-new ops c.0 c.2 x m
parts-new (SetMaxVersionOp y ∷ ops) s c x m = ap (among x.number) (sym (follow-max s c.0 y c.1).1) ∙ parts-new ops c.0 c.2 x m
