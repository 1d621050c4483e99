-- A whole delta and its bytes: reading what was written gives it back, what was read writes its bytes, and what a delta that was read is like.
-- Assumes nothing.
-- the operations may follow each other from here on
use Prim.Native.Nat.{◌+◌, ◌-◌, ◌<◌, ◌≤◌, suc, zero, ℕ}
use mathlib.Core.Bool.{Bool, false, true}
use mathlib.Core.List.{List, [], ◌++◌, ◌∷◌}
use mathlib.Core.Path.{◌∙◌, ◌≡◌, ap, refl, subst, sym}
use native.Mathlib.Omega.{arith}
use lib.Dec.{leb, ltb}
use lib.ListN.{length, length-append}
use borrow.Author.Tests.{le-leb, leb-true, ltb-true}
use Rattle.fields.specs.Blocks.{flat}
use Rattle.fields.specs.Choice.{pick}
use Rattle.fields.specs.Numbers.{AreBytes}
use Rattle.rules.proofs.Ops.{ReadAs, SmallOp, read_is, read-written}
use Rattle.rules.specs.Delta.{Bad, Fault, Faulty, Followed, Good, Got, KeyValueOp, Next, NodeOp, Op, OpRead, Ops, Reading, SetMaxVersionOp, and_then, delta_bytes, follow, nothing_read, on_followed, on_read, op_bytes, read_delta, read_op, read_ops, under_node, unless_end}
use Rattle.rules.specs.Node.{KeyValue}
use Rattle.rules.specs.Sizes.{max_delta, max_nodes}
use Rattle.rules.specs.Table.{among}
use Rattle.rules.specs.declared.Refusal.{Refusal}
use Rattle.rules.specs.declared.Refusal.TheVariants.{NodeTwice, OutOfOrder, TooMany}

unfoldable pub Chain : Reading → List Op → Type 0
Chain s [] = Unit {0}
Chain s (o ∷ ops) = (t : Reading) × (follow s o ≡ Next t) × Chain t ops

-- each has its sizes
unfoldable pub AllSmall : List Op → Type 0
AllSmall [] = Unit {0}
AllSmall (o ∷ ops) = SmallOp o × AllSmall ops

-- ---- when an operation may follow

module _ (s t : Reading) where
  fault : {A : Type 0} (r : Refusal) → Fault r ≡ Next t → A
  fault r e = let z : ◌≡◌ {A = ℕ} 0 1 = cc in absurd (omega arith)

  under : (f : Followed) → under_node s.seen f ≡ Next t → f ≡ Next t
  under f e = go s.seen e
    where
      go : (ns : List ℕ) → under_node ns f ≡ Next t → f ≡ Next t
      go [] e = fault OutOfOrder e
      go (n ∷ ns) e = e

  pub follow-node : (n g f : ℕ) → follow s (NodeOp n g f) ≡ Next t → (among n s.seen ≡ false) × (length s.seen < max_nodes) × (t.seen ≡ n ∷ s.seen) × (t.running ≡ 0)
  unfolding follow
  follow-node n g f e = go (among n s.seen) refl (ltb (length s.seen) max_nodes) refl e
    where
      go : (a : Bool)
          → among n s.seen ≡ a
          → (b : Bool)
          → ltb (length s.seen) max_nodes ≡ b
          → pick a (Fault NodeTwice) (pick b (Next (record { seen = n ∷ s.seen; running = 0 })) (Fault TooMany)) ≡ Next t
          → (among n s.seen ≡ false) × (length s.seen < max_nodes) × (t.seen ≡ n ∷ s.seen) × (t.running ≡ 0)
      go true a b q e = fault NodeTwice e
      go false a true q e =
          let r : record { seen = n ∷ s.seen; running = 0 } ≡ t = cc in
          (a, ltb-true _ _ q, ap (λ (x : Reading). x.seen) (sym r), ap (λ (x : Reading). x.running) (sym r))
      go false a false q e = fault TooMany e

  pub follow-record : (r : KeyValue) → follow s (KeyValueOp r) ≡ Next t → (s.running < r.version) × (t.seen ≡ s.seen) × (t.running ≡ r.version)
  unfolding follow
  follow-record r e = go (ltb s.running r.version) refl (under _ e)
    where
      go : (b : Bool) → ltb s.running r.version ≡ b → pick b (Next (record { seen = s.seen; running = r.version })) (Fault OutOfOrder) ≡ Next t → (s.running < r.version) × (t.seen ≡ s.seen) × (t.running ≡ r.version)
      go true q e =
          let x : record { seen = s.seen; running = r.version } ≡ t = cc in
          (ltb-true _ _ q, ap (λ (x : Reading). x.seen) (sym x), ap (λ (x : Reading). x.running) (sym x))
      go false q e = fault OutOfOrder e

  pub follow-max : (m : ℕ) → follow s (SetMaxVersionOp m) ≡ Next t → (s.running ≤ m) × (t.seen ≡ s.seen) × (t.running ≡ m)
  unfolding follow
  follow-max m e = go (leb s.running m) refl (under _ e)
    where
      go : (b : Bool) → leb s.running m ≡ b → pick b (Next (record { seen = s.seen; running = m })) (Fault OutOfOrder) ≡ Next t → (s.running ≤ m) × (t.seen ≡ s.seen) × (t.running ≡ m)
      go true q e =
          let x : record { seen = s.seen; running = m } ≡ t = cc in
          (leb-true _ _ q, ap (λ (x : Reading). x.seen) (sym x), ap (λ (x : Reading). x.running) (sym x))
      go false q e = fault OutOfOrder e

-- ---- reading what was written

pub op-long : (o : Op) → 1 ≤ length (op_bytes o)
unfolding op_bytes
op-long (NodeOp n g f) = omega arith
op-long (KeyValueOp r) = omega arith
op-long (SetMaxVersionOp m) = omega arith

pub not_end : (o : Op) (l : List ℕ) (x : Ops) → unless_end (op_bytes o ++ l) x ≡ x
unfolding op_bytes
not_end (NodeOp n g f) l x = refl
not_end (KeyValueOp r) l x = refl
not_end (SetMaxVersionOp m) l x = refl

pub read_none : (n at : ℕ) (s : Reading) → read_ops n at s [] ≡ Good []
unfolding read_ops
read_none zero at s = refl
read_none (suc n) at s = refl

pub read-chain : (ops : List Op) (n at : ℕ) (s : Reading) → Chain s ops → AllSmall ops → length (delta_bytes ops) ≤ n → read_ops n at s (delta_bytes ops) ≡ Good ops
unfolding delta_bytes flat read_ops Chain AllSmall
read-chain [] n at s c a h = read_none n at s
read-chain (o ∷ ops) zero at s c a h =
    let k = op-long o in
    let j : length (op_bytes o) + length (flat op_bytes ops) ≤ 0 = simp length-append at h in
    absurd (omega arith)
read-chain (o ∷ ops) (suc n) at s c a h =
    let rest : List ℕ = flat op_bytes ops in
    let k = op-long o in
    let j : length (op_bytes o) + length rest ≤ suc n = simp length-append at h in
    not_end o rest _
    ∙ ap (on_read at s (λ s' r. read_ops n (at + (length (op_bytes o ++ rest) - length r)) s' r)) (read-written o rest a.0)
    ∙ ap (on_followed at o (λ s'. read_ops n (at + (length (op_bytes o ++ rest) - length rest)) s' rest)) c.1
    ∙ ap (and_then o) (read-chain ops n _ c.0 c.2 a.1 (omega arith))

pub read-delta : (ops : List Op) → Chain nothing_read ops → AllSmall ops → length (delta_bytes ops) ≤ max_delta → read_delta (delta_bytes ops) ≡ Good ops
unfolding read_delta
read-delta ops c a h =
    ap (λ (b : Bool). pick b (read_ops (length (delta_bytes ops)) 0 nothing_read (delta_bytes ops)) (Faulty TooMany 0)) (le-leb _ _ h)
    ∙ read-chain ops (length (delta_bytes ops)) 0 nothing_read c a (omega arith)

-- ---- what was read

pub record DeltaIs (s : Reading) (l : List ℕ) (ops : List Op) : Type 0 where
  pub bytes : delta_bytes ops ≡ l
  pub chain : Chain s ops
  pub small : AllSmall ops

-- the operations that were read
as-ops : (s : Reading) (l : List ℕ) (a ops : List Op) → DeltaIs s l a → Good a ≡ Good ops → DeltaIs s l ops
as-ops s l a ops x e = let q : a ≡ ops = cc in subst (DeltaIs s l) q x

none_is : (s : Reading) → DeltaIs s [] []
unfolding delta_bytes flat Chain AllSmall
none_is s = record { bytes = refl; chain = tt; small = tt }

faulty : {A : Type 0} (r : Refusal) (at : ℕ) (ops : List Op) → Faulty r at ≡ Good ops → A
faulty r at ops e = let z : ◌≡◌ {A = ℕ} 0 1 = cc in absurd (omega arith)

one_more : (s t : Reading) (l rest : List ℕ) (o : Op) (ops : List Op) → ReadAs l o rest → follow s o ≡ Next t → DeltaIs t rest ops → DeltaIs s l (o ∷ ops)
unfolding delta_bytes flat Chain AllSmall
one_more s t l rest o ops x e d =
    record {
      bytes = ap (λ (r : List ℕ). op_bytes o ++ r) d.bytes ∙ x.is;
      chain = (t, e, d.chain);
      small = (x.small, d.small);
    }

ops-is : (n at : ℕ) (s : Reading) (l : List ℕ) (ops : List Op) → AreBytes l → length l ≤ n → read_ops n at s l ≡ Good ops → DeltaIs s l ops
unfolding read_ops
ops-is zero at s [] ops b h e = as-ops s [] [] ops (none_is s) e
ops-is zero at s (x ∷ l) ops b h e = absurd (omega arith)
ops-is (suc n) at s [] ops b h e = as-ops s [] [] ops (none_is s) e
ops-is (suc n) at s (x ∷ l) ops b h e = by_read (read_op (x ∷ l)) refl e (λ p t rest more. ops-is n p t rest more)
  where
    next : List ℕ → Reading → Ops
    next rest t = read_ops n (at + (suc (length l) - length rest)) t rest

    Before : Type 0
    Before = (p : ℕ) (t : Reading) (rest : List ℕ) (more : List Op) → AreBytes rest → length rest ≤ n → read_ops n p t rest ≡ Good more → DeltaIs t rest more

    by-rest : (o : Op) (rest : List ℕ) → ReadAs (x ∷ l) o rest → (t : Reading) → follow s o ≡ Next t → (y : Ops) → next rest t ≡ y → and_then o y ≡ Good ops → Before → DeltaIs s (x ∷ l) ops
    by-rest o rest a t f (Good more) q e ih =
        let k = op-long o in
        let j : length (op_bytes o) + length rest ≡ suc (length l) = simp length-append at (ap length a.is) in
        as-ops s (x ∷ l) (o ∷ more) ops (one_more s t (x ∷ l) rest o more a f (ih _ t rest more a.bytes (omega arith) q)) e
    by-rest o rest a t f (Faulty r p) q e ih = faulty r p ops e

    by-follow : (o : Op) (rest : List ℕ) → ReadAs (x ∷ l) o rest → (f : Followed) → follow s o ≡ f → on_followed at o (next rest) f ≡ Good ops → Before → DeltaIs s (x ∷ l) ops
    by-follow o rest a (Next t) f e ih = by-rest o rest a t f (next rest t) refl e ih
    by-follow o rest a (Fault r) f e ih = faulty r at ops e

    by_read : (g : OpRead) → read_op (x ∷ l) ≡ g → on_read at s (λ t rest. next rest t) g ≡ Good ops → Before → DeltaIs s (x ∷ l) ops
    by_read (Got o rest) q e ih = by-follow o rest (read_is o rest (x ∷ l) b q) (follow s o) refl e ih
    by_read (Bad r) q e ih = faulty r at ops e

pub delta-is : (l : List ℕ) (ops : List Op) → AreBytes l → read_delta l ≡ Good ops → DeltaIs nothing_read l ops × (length l ≤ max_delta)
unfolding read_delta
delta-is l ops b e = go (leb (length l) max_delta) refl e
  where
    go : (t : Bool) → leb (length l) max_delta ≡ t → pick t (read_ops (length l) 0 nothing_read l) (Faulty TooMany 0) ≡ Good ops → DeltaIs nothing_read l ops × (length l ≤ max_delta)
    go true q e = (ops-is (length l) 0 nothing_read l ops b (omega arith) e, leb-true _ _ q)
    go false q e = faulty TooMany 0 ops e
