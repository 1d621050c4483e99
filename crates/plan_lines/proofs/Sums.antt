-- Operations that fit are written whole; and some behind others, into the part of the datagram that is left. Assumes nothing.
use Prim.Native.Nat.{ℕ, ◌+◌, ◌-◌, ◌≤◌}
use mathlib.Core.List.{List, [], ◌∷◌, ◌++◌}
use mathlib.Core.Path.{◌∙◌, ◌≡◌, ap, refl, subst, sym}
use native.Mathlib.Nat.{add_assoc, add-zero, sub-zero, zero-add}
use native.Mathlib.Omega.{arith}
use lib.Dec.{leb}
use lib.ListN.{drop, length, length-append, length-drop, take, take-append-drop}
use borrow.Author.Tests.{le-leb}
use Rattle.fields.proofs.Choice.{pick_true}
use Rattle.fields.proofs.Lent.{lent-rest, seen-rest}
use Rattle.fields.proofs.Parts.{length-put, put-behind, put-nil, put_rest}
use Rattle.fields.specs.Blocks.{flat}
use Rattle.fields.specs.Numbers.{Bytes}
use Rattle.fields.specs.Parts.{put}
use Rattle.rules.proofs.Accepted.{cut-bytes}
use Rattle.rules.specs.Compute.{cut}
use Rattle.rules.specs.Delta.{KeyValueOp, NodeOp, Op, SetMaxVersionOp, delta_bytes, op_bytes, size_of}
use Rattle.rules.specs.Given.{Gives, given}
use Rattle.plan.proofs.Judging.{bytes-append}
use Rattle.compute.specs.Lined.{at_front}
use Rattle.compute_write.proofs.Steps.{Reached, Writing, back, gives, lent, outcome, writing}
use Rattle.compute_write.specs.Sending.{behind, counts, sending}
use Rattle.rules.specs.declared.Sent.{Sent}
use Rattle.plan_lines.proofs.First.{bytes-cons}

-- what fits is not cut
cut_all : (left : ℕ) (ops : List Op) → length (delta_bytes ops) ≤ left → cut left ops ≡ ops
unfolding cut
cut_all left [] h = refl
cut_all left (o ∷ ops) h =
    let e = bytes-cons o ops in
    pick_true (leb (size_of o) left) _ _ (le-leb (size_of o) left (omega arith)) ∙ ap (λ (os : List Op). o ∷ os) (cut_all (left - size_of o) ops (omega arith))

front : (os : List Op) (l : Bytes) → behind 0 0 os l ≡ at_front os l
front os l = λ i. given (counts (zero-add (length os) i) (zero-add (length (delta_bytes os)) i)) (put 0 (delta_bytes os) l)

pub sent-whole : (os : List Op) (l : Bytes) → length (delta_bytes os) ≤ length l → sending 0 0 os l ≡ at_front os l
unfolding sending
sent-whole os l h = ap (λ (xs : List Op). behind 0 0 xs l) (ap (λ (n : ℕ). cut n os) (sub-zero (length l)) ∙ cut_all (length l) os h) ∙ front os l

-- no operation
pub sent-none : (os : List Op) (l : Bytes) → os ≡ [] → Gives (at_front os l) (counts 0 0) l
unfolding delta_bytes flat
sent-none os l e = gives (counts 0 0) l (at_front os l) (ap (given (counts 0 0)) (sym (put-nil 0 l)) ∙ ap (λ (xs : List Op). at_front xs l) (sym e))

-- ---- the part of the datagram from `used` on

pub lent-long : (used : ℕ) (l : Bytes) → length (lent used l) ≡ length l - used
lent-long used l = ap length (seen-rest used l) ∙ length-drop used l

back-put : (used : ℕ) (vs l after : Bytes) → used ≤ length l → after ≡ put 0 vs (lent used l) → back used l after ≡ put used vs l
back-put used vs l after h e =
    lent-rest used l after
    ∙ ap (λ (r : Bytes). take used l ++ r) (e ∙ ap (put 0 vs) (seen-rest used l))
    ∙ put_rest used 0 vs l h
    ∙ ap (λ (m : ℕ). put m vs l) (add-zero used)

-- what is left was written into that part by another
pub rest-written : {a : Writing} (ops used : ℕ) (os : List Op) (l : Bytes) (r : Sent) (after : Bytes) → Gives (sending 0 0 os (lent used l)) r after
    → Reached a (writing ops used os l) → Gives (outcome a) (counts (ops + r.ops) (used + r.bytes)) (back used l after)
unfolding sending
rest-written {a} ops used os l r after g w =
    let room : length (lent used l) - 0 ≡ length l - used = sub-zero (length (lent used l)) ∙ lent-long used l in
    let xs : List Op = cut (length (lent used l) - 0) os in
    let is : back used l after ≡ put used (delta_bytes xs) l = back-put used (delta_bytes xs) l after w.room g.1 in
    let o : r.ops ≡ length xs = ap (λ (s : Sent). s.ops) g.0 ∙ zero-add (length xs) in
    let b : r.bytes ≡ length (delta_bytes xs) = ap (λ (s : Sent). s.bytes) g.0 ∙ zero-add (length (delta_bytes xs)) in
    gives _ _ (outcome a) ((λ i. given (counts (ops + o i) (used + b i)) (is i)) ∙ ap (λ (n : ℕ). behind ops used (cut n os) l) room ∙ w.same)

pub rest-long : {a : Writing} (ops used : ℕ) (os : List Op) (l after : Bytes) → Reached a (writing ops used os l) → length after ≡ length (lent used l)
    → length (back used l after) ≡ length a.datagram
rest-long {a} ops used os l after w e =
    ap length (lent-rest used l after) ∙ length-append (take used l) after ∙ ap (λ (n : ℕ). length (take used l) + n) (e ∙ ap length (seen-rest used l)) ∙ sym (length-append (take used l) (drop used l)) ∙ ap length (take-append-drop used l) ∙ w.long

-- the first operation stands at the front
pub one-first : {a : Writing} (n : ℕ) (os : List Op) (l : Bytes) → Reached a (writing (0 + 1) (0 + n) os l) → Reached a (writing 1 n os l)
one-first {a} n os l w = subst (λ (m : ℕ). Reached a (writing 1 m os l)) (zero-add n) (subst (λ (k : ℕ). Reached a (writing k (0 + n) os l)) (zero-add 1) w)

-- ---- lines behind lines, all of which fit

-- so many operations stand in the first used bytes; these are left, and fit
pub record Summed (all : List Op) (before : Bytes) (ops used : ℕ) (left : List Op) (l : Bytes) : Type 0 where
  pub long : length l ≡ length before
  pub few : ops ≤ used
  pub room : used + length (delta_bytes left) ≤ length l
  pub same : behind ops used left l ≡ behind 0 0 all before

pub none-summed : (all : List Op) (l : Bytes) → length (delta_bytes all) ≤ length l → Summed all l 0 0 all l
none-summed all l h = record { long = refl; few = omega arith; room = omega arith; same = refl }

size_low : (o : Op) → 1 ≤ size_of o
unfolding size_of op_bytes
size_low (NodeOp n g f) = omega arith
size_low (KeyValueOp r) = omega arith
size_low (SetMaxVersionOp m) = omega arith

ops-low : (os : List Op) → length os ≤ length (delta_bytes os)
ops-low [] = omega arith
ops-low (o ∷ os) = let a = bytes-cons o os in let b = size_low o in let c = ops-low os in omega arith

-- a line more
pub line-summed : {all : List Op} {before : Bytes} (ops used : ℕ) (xs rest : List Op) (l : Bytes) (r : Sent) (after : Bytes) → Gives (at_front xs (lent used l)) r after
    → Summed all before ops used (xs ++ rest) l → Summed all before (ops + r.ops) (used + r.bytes) rest (back used l after)
line-summed {all} {before} ops used xs rest l r after g w =
    let a : Bytes = delta_bytes xs in
    let b : Bytes = delta_bytes rest in
    let joined = ap length (bytes-append xs rest) ∙ length-append a b in
    let room = w.room in
    let is : back used l after ≡ put used a l = back-put used a l after (omega arith) g.1 in
    let o : r.ops ≡ length xs = ap (λ (s : Sent). s.ops) g.0 in
    let n : r.bytes ≡ length a = ap (λ (s : Sent). s.bytes) g.0 in
    let long : length (back used l after) ≡ length l = ap length is ∙ length-put used a l (omega arith) in
    let low = ops-low xs in
    let few = w.few in
    let sums : ops + length xs + length rest ≡ ops + length (xs ++ rest) = add_assoc ops (length xs) (length rest) ∙ ap (λ (k : ℕ). ops + k) (sym (length-append xs rest)) in
    let bytes : used + length a + length b ≡ used + length (delta_bytes (xs ++ rest)) = omega arith in
    let stored : put (used + length a) b (put used a l) ≡ put used (delta_bytes (xs ++ rest)) l = put-behind used a b l (omega arith) ∙ ap (λ (x : Bytes). put used x l) (sym (bytes-append xs rest)) in
    record {
      long = long ∙ w.long;
      few = omega arith;
      room = rw long (omega arith);
      same = (λ i. behind (ops + o i) (used + n i) rest (is i)) ∙ (λ i. given (counts (sums i) (bytes i)) (stored i)) ∙ w.same;
    }

-- no line is left
pub all-summed : {all : List Op} {before : Bytes} (ops used : ℕ) (left : List Op) (l : Bytes) → left ≡ [] → Summed all before ops used left l → Gives (at_front all before) (counts ops used) l
unfolding delta_bytes flat
all-summed {all} {before} ops used left l e w =
    gives (counts ops used) l (at_front all before)
    (sym (λ i. given (counts (add-zero ops i) (add-zero used i)) (put-nil used l i)) ∙ ap (λ (xs : List Op). behind ops used xs l) (sym e) ∙ w.same ∙ front all before)

-- what was written into the part that is left lies in it, a byte an operation at least
pub rest-room : {a : Writing} (ops used : ℕ) (os : List Op) (l : Bytes) (r : Sent) (after : Bytes) → Gives (sending 0 0 os (lent used l)) r after
    → Reached a (writing ops used os l) → (ops + r.ops ≤ used + r.bytes) × (used + r.bytes ≤ length l)
unfolding sending
rest-room {a} ops used os l r after g w =
    let xs : List Op = cut (length (lent used l) - 0) os in
    let o : r.ops ≡ length xs = ap (λ (s : Sent). s.ops) g.0 ∙ zero-add (length xs) in
    let b : r.bytes ≡ length (delta_bytes xs) = ap (λ (s : Sent). s.bytes) g.0 ∙ zero-add (length (delta_bytes xs)) in
    let low = ops-low xs in
    let most = cut-bytes (length (lent used l) - 0) os in
    let long = lent-long used l in
    let room = w.room in
    let few = w.few in
    (omega arith, omega arith)
