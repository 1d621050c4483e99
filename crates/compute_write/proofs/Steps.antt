-- One step of writing leaves the whole outcome as it was: an operation that fits, one that ends the delta, a SetMaxVersion that is dropped. The
-- writers' promises enter as they stand. Assumes nothing.
use Prim.Native.Nat.{ℕ, zero, suc, ◌+◌, ◌-◌, ◌≤◌, ◌<◌}
use mathlib.Core.Path.{◌≡◌, refl, sym, ap, ◌∙◌, subst}
use mathlib.Core.Bool.{Bool, true, false}
use mathlib.Core.List.{List, [], ◌∷◌, ◌++◌}
use native.Mathlib.Omega.{arith}
use native.Mathlib.Nat.{add-zero}
use lib.ListN.{length, take, drop, length-append, length-drop, take-append-drop}
use lib.Dec.{leb}
use borrow.Author.Tests.{leb-true, leb-false, le-leb, lt-leb}
use borrow.Rule.Slice.PartMut.{put_mid}
use Rattle.fields.specs.Numbers.{Bytes}
use Rattle.fields.specs.Choice.{pick}
use Rattle.fields.specs.Parts.{put}
use Rattle.fields.specs.Blocks.{flat}
use Rattle.fields.proofs.Choice.{pick_true, pick-false}
use Rattle.fields.proofs.Parts.{length-put, put-nil, put-behind, put_rest}
use Rattle.fields.proofs.Lent.{lent-rest, seen-rest}
use Rattle.rules.specs.Given.{Given, Gives, given}
use Rattle.rules.specs.Node.{KeyValue}
use Rattle.rules.specs.Delta.{Op, NodeOp, KeyValueOp, SetMaxVersionOp, op_bytes, size_of, delta_bytes}
use Rattle.rules.specs.Compute.{key_value_ops, body_ops, cut}
use Rattle.rules.proofs.Accepted.{cut-bytes}
use Rattle.delta_write.specs.Written.{write_op}
use Rattle.std.specs.Prelude.{None, Option, Some}
use Rattle.compute_write.specs.Sending.{counts, behind, sending, closed}
use Rattle.rules.specs.declared.Sent.{Sent}

-- what an equation of two outcomes says
pub gives : {A M : Type 0} (a : A) (m : M) (of : Given A M) → given a m ≡ of → Gives of a m
gives a m of e = (ap (λ (x : Given _ _). x.answer) e, ap (λ (x : Given _ _). x.lent) e)

pub gives_as : {A M : Type 0} {of other : Given A M} {a : A} {m : M} → of ≡ other → Gives of a m → Gives other a m
gives_as e g = (g.0 ∙ ap (λ (x : Given _ _). x.answer) e, g.1 ∙ ap (λ (x : Given _ _). x.lent) e)

-- ---- what a writer did

size_low : (o : Op) → 1 ≤ size_of o
unfolding size_of op_bytes
size_low (NodeOp n g f) = omega arith
size_low (KeyValueOp r) = omega arith
size_low (SetMaxVersionOp m) = omega arith

-- it fitted
record Took (o : Op) (m : Bytes) (n : ℕ) (after : Bytes) : Type 0 where
  size : n ≡ size_of o
  fits : size_of o ≤ length m
  front : after ≡ put 0 (op_bytes o) m

took : (o : Op) (m : Bytes) (answer : (Option ℕ)) (after : Bytes) (n : ℕ) → Gives (write_op o m) answer after → answer ≡ Some n → Took o m n after
unfolding write_op
took o m answer after n w e = go (leb (size_of o) (length m)) refl (sym e ∙ w.0) w.1
  where
    does : Bool → Given (Option ℕ) Bytes
    does t = pick t (given (Some (size_of o)) (put 0 (op_bytes o) m)) (given None m)

    go : (t : Bool) → leb (size_of o) (length m) ≡ t → Some n ≡ (does t).answer → after ≡ (does t).lent → Took o m n after
    go true q a b = record { size = cc; fits = leb-true (size_of o) (length m) q; front = b }
    go false q a b = let z : ◌≡◌ {A = ℕ} 0 1 = cc in absurd (omega arith)

-- it did not
record Left (o : Op) (m after : Bytes) : Type 0 where
  over : length m < size_of o
  same : after ≡ m

left : (o : Op) (m : Bytes) (answer : (Option ℕ)) (after : Bytes) → Gives (write_op o m) answer after → answer ≡ None → Left o m after
unfolding write_op
left o m answer after w e = go (leb (size_of o) (length m)) refl (sym e ∙ w.0) w.1
  where
    does : Bool → Given (Option ℕ) Bytes
    does t = pick t (given (Some (size_of o)) (put 0 (op_bytes o) m)) (given None m)

    go : (t : Bool) → leb (size_of o) (length m) ≡ t → None ≡ (does t).answer → after ≡ (does t).lent → Left o m after
    go true q a b = let z : ◌≡◌ {A = ℕ} 0 1 = cc in absurd (omega arith)
    go false q a b = record { over = leb-false (size_of o) (length m) q; same = b }

-- ---- the outcome, by the first operation that is left

-- it fits
one_more : (ops used : ℕ) (o : Op) (rest : List Op) (l : Bytes) → used ≤ length l → size_of o ≤ length l - used
    → sending ops used (o ∷ rest) l ≡ sending (ops + 1) (used + size_of o) rest (put used (op_bytes o) l)
unfolding sending cut delta_bytes flat size_of
one_more ops used o rest l h g =
    let n : ℕ = length (op_bytes o) in
    let l' : Bytes = put used (op_bytes o) l in
    let os : List Op = cut (length l - used - n) rest in
    let long : length l' ≡ length l = length-put used (op_bytes o) l (omega arith) in
    let room : length l - used - n ≡ length l' - (used + n) = rw long (omega arith) in
    let small : length (flat op_bytes os) ≤ length l - used - n = cut-bytes (length l - used - n) rest in
    let stored = sym (put-behind used (op_bytes o) (flat op_bytes os) l (omega arith)) in
    ap (λ (xs : List Op). behind ops used xs l) (pick_true (leb n (length l - used)) _ _ (le-leb n (length l - used) g))
    ∙ (λ i. given (counts (op-count ops (length os) i) (byte-count used (op_bytes o) (flat op_bytes os) i)) (stored i))
    ∙ ap (λ (k : ℕ). behind (ops + 1) (used + n) (cut k rest) l') room
  where
    op-count : (a b : ℕ) → a + suc b ≡ a + 1 + b
    op-count a b = omega arith

    byte-count : (a : ℕ) (x y : Bytes) → a + length (x ++ y) ≡ a + length x + length y
    byte-count a x y = rw length-append (omega arith)

-- nothing is written any more
nothing : (ops used : ℕ) (l : Bytes) → behind ops used [] l ≡ given (counts ops used) l
unfolding delta_bytes flat
nothing ops used l = λ i. given (counts (add-zero ops i) (add-zero used i)) (put-nil used l i)

-- there is none
none_left : (ops used : ℕ) (l : Bytes) → sending ops used [] l ≡ given (counts ops used) l
unfolding sending cut
none_left ops used l = nothing ops used l

module _ (ops used : ℕ) (rest : List Op) (l : Bytes) where
  -- a Node that does not fit ends the delta
  node-ends : (n g f : ℕ) → length l - used < size_of (NodeOp n g f) → sending ops used (NodeOp n g f ∷ rest) l ≡ given (counts ops used) l
  unfolding sending cut
  node-ends n g f h =
      ap (λ (os : List Op). behind ops used os l)
      (pick-false (leb (size_of (NodeOp n g f)) (length l - used)) _ _ (lt-leb (size_of (NodeOp n g f)) (length l - used) h))
      ∙ nothing ops used l

  -- so does a record
  record-ends : (r : KeyValue) → length l - used < size_of (KeyValueOp r) → sending ops used (KeyValueOp r ∷ rest) l ≡ given (counts ops used) l
  unfolding sending cut
  record-ends r h =
      ap (λ (os : List Op). behind ops used os l)
      (pick-false (leb (size_of (KeyValueOp r)) (length l - used)) _ _ (lt-leb (size_of (KeyValueOp r)) (length l - used) h))
      ∙ nothing ops used l

  -- a SetMaxVersion that does not fit is dropped
  max-dropped : (m : ℕ) → length l - used < size_of (SetMaxVersionOp m) → sending ops used (SetMaxVersionOp m ∷ rest) l ≡ sending ops used rest l
  unfolding sending cut
  max-dropped m h =
      ap (λ (os : List Op). behind ops used os l)
      (pick-false (leb (size_of (SetMaxVersionOp m)) (length l - used)) _ _ (lt-leb (size_of (SetMaxVersionOp m)) (length l - used) h))

-- ---- the part of the datagram that a writer is lent, from `used` on

-- as the writer sees it
abbrev pub lent : (used : ℕ) (datagram : Bytes) → Bytes
lent used l = take (length l - used) (drop used l)

-- the whole datagram once the part has come back
abbrev pub back : (used : ℕ) (datagram after : Bytes) → Bytes
back used l after = put_mid used (length l - used) l after

lent-long : (used : ℕ) (l : Bytes) → length (lent used l) ≡ length l - used
lent-long used l = ap length (seen-rest used l) ∙ length-drop used l

back-same : (used : ℕ) (l after : Bytes) → after ≡ lent used l → back used l after ≡ l
back-same used l after e = lent-rest used l after ∙ ap (λ (r : Bytes). take used l ++ r) (e ∙ seen-rest used l) ∙ take-append-drop used l

back-put : (used : ℕ) (vs l after : Bytes) → used ≤ length l → after ≡ put 0 vs (lent used l) → back used l after ≡ put used vs l
back-put used vs l after h e =
    lent-rest used l after
    ∙ ap (λ (r : Bytes). take used l ++ r) (e ∙ ap (put 0 vs) (seen-rest used l))
    ∙ put_rest used 0 vs l h
    ∙ ap (λ (m : ℕ). put m vs l) (add-zero used)

-- an operation did not fit: the datagram is as it was
not_written : (used : ℕ) (o : Op) (l : Bytes) (answer : (Option ℕ)) (after : Bytes) → Gives (write_op o (lent used l)) answer after → answer ≡ None
    → (length l - used < size_of o) × (back used l after ≡ l)
not_written used o l answer after p e =
    let k = left o (lent used l) answer after p e in
    (subst (λ (m : ℕ). m < size_of o) (lent-long used l) k.over, back-same used l after k.same)

-- ---- how far writing has come

-- so many operations stand in the first used bytes of the datagram, and these are left
pub record Writing : Type 0 where
  pub ops : ℕ
  pub used : ℕ
  pub left : List Op
  pub datagram : Bytes

abbrev pub writing : (ops used : ℕ) (left : List Op) (datagram : Bytes) → Writing
writing ops used left l = record { ops = ops; used = used; left = left; datagram = l }

abbrev pub outcome : Writing → Given Sent Bytes
outcome w = sending w.ops w.used w.left w.datagram

-- it went on from a to b, with the same outcome
pub record Reached (a b : Writing) : Type 0 where
  pub room : b.used ≤ length b.datagram
  pub few : b.ops ≤ b.used
  pub long : length b.datagram ≡ length a.datagram
  pub same : outcome b ≡ outcome a

pub at_first : (os : List Op) (l : Bytes) → Reached (writing 0 0 os l) (writing 0 0 os l)
at_first os l = record { room = omega arith; few = omega arith; long = refl; same = refl }

pub from-here : {a b : Writing} → Reached a b → Reached b b
from-here w = record { room = w.room; few = w.few; long = refl; same = refl }

pub then : {a b c : Writing} → Reached a b → Reached b c → Reached a c
then v w = record { room = w.room; few = w.few; long = w.long ∙ v.long; same = w.same ∙ v.same }

module _ {a : Writing} {ops used : ℕ} {l : Bytes} where
  -- what is left, said otherwise
  pub left_is : {os xs : List Op} → os ≡ xs → Reached a (writing ops used os l) → Reached a (writing ops used xs l)
  left_is e w = record { room = w.room; few = w.few; long = w.long; same = ap (λ (ys : List Op). sending ops used ys l) (sym e) ∙ w.same }

  -- nothing is left
  pub all-written : Reached a (writing ops used [] l) → Gives (outcome a) (counts ops used) l
  all-written w = gives (counts ops used) l (outcome a) (sym (none_left ops used l) ∙ w.same)

  module _ {rest : List Op} {after : Bytes} where
    by-took : (o : Op) (n : ℕ) → Took o (lent used l) n after → Reached a (writing ops used (o ∷ rest) l)
        → Reached a (writing (ops + 1) (used + n) rest (back used l after))
    unfolding size_of
    by-took o n k w =
        let size : n ≡ size_of o = k.size in
        let fits : size_of o ≤ length l - used = subst (λ (m : ℕ). size_of o ≤ m) (lent-long used l) k.fits in
        let is : back used l after ≡ put used (op_bytes o) l = back-put used (op_bytes o) l after w.room k.front in
        let h = w.room in
        let few = w.few in
        let low = size_low o in
        let long : length (back used l after) ≡ length l = ap length is ∙ length-put used (op_bytes o) l (omega arith) in
        record {
          room = rw long (omega arith);
          few = omega arith;
          long = long ∙ w.long;
          same = (λ i. sending (ops + 1) (used + size i) rest (is i)) ∙ sym (one_more ops used o rest l h fits) ∙ w.same;
        }

    module _ {o : Op} {answer : (Option ℕ)} (p : Gives (write_op o (lent used l)) answer after) where
      -- an operation was written
      pub op-written : {n : ℕ} → answer ≡ Some n → Reached a (writing ops used (o ∷ rest) l)
          → Reached a (writing (ops + 1) (used + n) rest (back used l after))
      op-written {n} e w = by-took o n (took o (lent used l) answer after n p e) w

      -- one did not fit
      pub unfit-long : answer ≡ None → Reached a (writing ops used (o ∷ rest) l) → length (back used l after) ≡ length a.datagram
      unfit-long e w = ap length (not_written used o l answer after p e).1 ∙ w.long

      -- it ends the delta
      unfit-ends : answer ≡ None → (length l - used < size_of o → sending ops used (o ∷ rest) l ≡ given (counts ops used) l)
          → Reached a (writing ops used (o ∷ rest) l) → Gives (outcome a) (counts ops used) (back used l after)
      unfit-ends e ends w =
          let u = not_written used o l answer after p e in
          gives (counts ops used) _ (outcome a) (ap (given (counts ops used)) u.1 ∙ sym (ends u.0) ∙ w.same)

    -- a Node that does not fit ends the delta
    pub node-unfit : {n g f : ℕ} {answer : (Option ℕ)} → Gives (write_op (NodeOp n g f) (lent used l)) answer after → answer ≡ None
        → Reached a (writing ops used (NodeOp n g f ∷ rest) l) → Gives (outcome a) (counts ops used) (back used l after)
    node-unfit {n} {g} {f} p e w = unfit-ends p e (node-ends ops used rest l n g f) w

    -- so does a record
    pub record-unfit : {r : KeyValue} {answer : (Option ℕ)} → Gives (write_op (KeyValueOp r) (lent used l)) answer after → answer ≡ None
        → Reached a (writing ops used (KeyValueOp r ∷ rest) l) → Gives (outcome a) (counts ops used) (back used l after)
    record-unfit {r} p e w = unfit-ends p e (record-ends ops used rest l r) w

  -- a node's SetMaxVersion was written, dropped, or not due
  module _ {rest : List Op} {r : Sent} {after : Bytes} where
    idle : r ≡ counts 0 0 → after ≡ lent used l → Reached a (writing ops used rest l)
        → Reached a (writing (ops + r.ops) (used + r.bytes) rest (back used l after))
    idle e f w =
        let x : r.ops ≡ 0 = ap (λ (s : Sent). s.ops) e in
        let y : r.bytes ≡ 0 = ap (λ (s : Sent). s.bytes) e in
        let is : back used l after ≡ l = back-same used l after f in
        let room = w.room in
        let few = w.few in
        record {
          room = rw is (omega arith);
          few = omega arith;
          long = ap length is ∙ w.long;
          same = (λ i. sending (ops + x i) (used + y i) rest (is i)) ∙ (λ i. sending (add-zero ops i) (add-zero used i) rest l) ∙ w.same;
        }

    max-first : (m : ℕ) → Gives (closed 0 m (lent used l)) r after → Reached a (writing ops used (SetMaxVersionOp m ∷ rest) l)
        → Reached a (writing (ops + r.ops) (used + r.bytes) rest (back used l after))
    max-first m p w = go (leb (size_of o) (length (lent used l))) refl p.0 p.1
      where
        o : Op
        o = SetMaxVersionOp m

        does : Bool → Given Sent Bytes
        does b = pick b (given (counts 1 (size_of o)) (put 0 (op_bytes o) (lent used l))) (given (counts 0 0) (lent used l))

        go : (b : Bool) → leb (size_of o) (length (lent used l)) ≡ b → r ≡ (does b).answer → after ≡ (does b).lent
            → Reached a (writing (ops + r.ops) (used + r.bytes) rest (back used l after))
        go true q e f =
            let k : Took o (lent used l) r.bytes after =
            record { size = ap (λ (s : Sent). s.bytes) e; fits = leb-true (size_of o) (length (lent used l)) q; front = f } in
            let one : 1 ≡ r.ops = sym (ap (λ (s : Sent). s.ops) e) in
            subst (λ (k : ℕ). Reached a (writing (ops + k) (used + r.bytes) rest (back used l after))) one (by-took o r.bytes k w)
        go false q e f =
            let over : length l - used < size_of o = subst (λ (k : ℕ). k < size_of o) (lent-long used l) (leb-false (size_of o) (length (lent used l)) q) in
            idle e f (record { room = w.room; few = w.few; long = w.long; same = sym (max-dropped ops used rest l m over) ∙ w.same })

  pub max-written : (m : ℕ) (recs : List KeyValue) (n : ℕ) (rest : List Op) {r : Sent} {after : Bytes} → n ≡ length recs
      → Gives (closed n m (lent used l)) r after → Reached a (writing ops used (body_ops m recs ++ rest) l)
      → Reached a (writing (ops + r.ops) (used + r.bytes) (key_value_ops recs ++ rest) (back used l after))
  unfolding key_value_ops
  max-written m [] n rest {r} {after} e p w = max-first m (subst (λ (k : ℕ). Gives (closed k m (lent used l)) r after) e p) w
  max-written m (x ∷ xs) n rest {r} {after} e p w =
      let q = subst (λ (k : ℕ). Gives (closed k m (lent used l)) r after) e p in
      idle q.0 q.1 w

-- ---- the SetMaxVersion of a node with n stale records

pub not-due : (n m : ℕ) (l : Bytes) → (n ≡ 0 → ⊥) → Gives (closed n m l) (counts 0 0) l
not-due zero m l h = absurd (h refl)
not-due (suc n) m l h = (refl, refl)

module _ (n m : ℕ) (l : Bytes) (answer : (Option ℕ)) (after : Bytes) (z : n ≡ 0) (w : Gives (write_op (SetMaxVersionOp m) l) answer after) where
  abbrev o : Op
  o = SetMaxVersionOp m

  due : (t : Bool) → leb (size_of o) (length l) ≡ t → pick t (given (counts 1 (size_of o)) (put 0 (op_bytes o) l)) (given (counts 0 0) l) ≡ closed n m l
  due t e =
      ap (λ (b : Bool). pick b (given (counts 1 (size_of o)) (put 0 (op_bytes o) l)) (given (counts 0 0) l)) (sym e)
      ∙ ap (λ (j : ℕ). closed j m l) (sym z)

  pub max-sent : (k : ℕ) → answer ≡ Some k → Gives (closed n m l) (counts 1 k) after
  max-sent k e =
      let s = took o l answer after k w e in
      gives (counts 1 k) after (closed n m l) ((λ i. given (counts 1 (s.size i)) (s.front i)) ∙ due true (le-leb (size_of o) (length l) s.fits))

  pub max-left : answer ≡ None → Gives (closed n m l) (counts 0 0) after
  max-left e =
      let s = left o l answer after w e in
      gives (counts 0 0) after (closed n m l) (ap (given (counts 0 0)) s.same ∙ due false (lt-leb (size_of o) (length l) s.over))
