-- What the steps are good for: taken in whole, or by any pieces, a text gives what reading that listing gives. Assumes nothing.
use Prim.Native.Nat.{ℕ, ◌+◌, ◌≤◌, ◌<◌}
use mathlib.Core.Path.{◌≡◌, refl, ap, sym, subst}
use mathlib.Core.Bool.{Bool, true, false}
use mathlib.Core.List.{[], ◌∷◌, ◌++◌, append_assoc, append-nil}
use native.Mathlib.Omega.{arith}
use lib.Dec.{eqb, leb}
use lib.ListN.{length, set, take}
use lib.Seq.{take_all}
use borrow.Author.Tests.{eqb-false, eqb-true, leb-false, leb-true}
use Rattle.fields.specs.Choice.{pick}
use Rattle.fields.specs.Numbers.{Bytes}
use Rattle.fields.specs.Order.{same_bytes}
use Rattle.rules.specs.Delta.{Op, op_bytes, size_of}
use Rattle.rules.specs.Given.{Given}
use Rattle.rules.specs.Listing.{end_line}
use Rattle.rules.specs.Sizes.{max_delta, numbers}
use Rattle.listing_read.specs.Unlist.{Line, LineRead, NoLine, read_line, unlist}
use Rattle.listing_line.specs.Told.{LineTold}
use Rattle.delta_make.specs.Making.{LineAndDelta, Outcome, among, among_taken, bad_at, behind_end, byte_at, closing, finished, finished_at, kept}
use Rattle.delta_make.specs.Making.{line_taken, longest_line, on_read, placed_byte, read_made, started, stored_at, taken_byte, taken_in, up_by}
use Rattle.delta_make.specs.declared.Stage.{Stage}
use Rattle.delta_make.specs.declared.Stage.TheVariants.{Lines, End, Bad}
use Rattle.delta_make.specs.declared.Making.{Making}
use Rattle.delta_make.proofs.Holding.{Holds, HoldsIn, TakesLine}
use Rattle.delta_make.proofs.Steps.{up-sum}
use Rattle.delta_make.proofs.Taken.{among-line, among-long, among-more, byte-bad, byte-end, ends-bad, ends-end, ends-lines, no_size, starts}
use Rattle.delta_make.proofs.Taken.{taken-bad, taken-end, taken_more}

-- a text of pieces may be taken in by these
pub taken-in-pieces : (a b : Bytes) (before : Given Making LineAndDelta) → taken_in (a ++ b) before ≡ taken_in b (taken_in a before)
unfolding taken_in
taken-in-pieces [] b s = refl
taken-in-pieces (c ∷ a) b s = taken-in-pieces a b (taken_byte c s)

-- ---- each step keeps that the text is held

-- the counts have not come to their end
up_is : (n by : ℕ) → n + by < numbers → up_by n by ≡ n + by
up_is n by h = sym (up-sum n by (omega arith))

op-whole : (o : Op) → take (size_of o) (op_bytes o) ≡ op_bytes o
unfolding size_of
op-whole o = take_all (length (op_bytes o)) (op_bytes o) (omega arith)

module _ (l : Bytes) (ops bytes : ℕ) (delta : Bytes) where
  takes_none : LineTold (read_line l) 0 [] → TakesLine l ops bytes delta (closing ops bytes l) delta
  takes_none told = go (same_bytes (end_line ops bytes) l) refl
    where
      go : (s : Bool) → same_bytes (end_line ops bytes) l ≡ s → TakesLine l ops bytes delta (pick s (behind_end ops bytes) (bad_at (up_by ops 1))) delta
      go true e = taken-end l ops bytes delta true (sym e) refl
      go false e = taken-bad l ops bytes delta 0 [] false (up_by ops 1) (bad_at (up_by ops 1)) told refl (sym e) refl (up_is ops 1) refl

  takes-line : TakesLine l ops bytes delta (line_taken ops bytes l delta).answer (line_taken ops bytes l delta).lent
  unfolding line_taken
  takes-line = go (read_line l) refl
    where
      go : (y : LineRead) → read_line l ≡ y → TakesLine l ops bytes delta (on_read ops bytes l delta y).answer (on_read ops bytes l delta y).lent
      go (Line o []) e =
          taken_more l ops bytes delta (size_of o) (op_bytes o) (stored_at bytes (op_bytes o) delta) (up_by ops 1) (up_by bytes (size_of o))
          (subst (λ (y : LineRead). LineTold y (size_of o) (op_bytes o)) (sym e) (refl, op-whole o)) (no_size o) (up_is ops 1) (up_is bytes (size_of o))
          (ap (λ (x : Bytes). stored_at bytes x delta) (sym (op-whole o)))
      go (Line o (b ∷ rest)) e = takes_none (subst (λ (y : LineRead). LineTold y 0 []) (sym e) refl)
      go NoLine e = takes_none (subst (λ (y : LineRead). LineTold y 0 []) (sym e) refl)

module _ (c : ℕ) (m : Making) (line delta t : Bytes) (h : Holds t m line delta) where
  abbrev own : Bytes
  own = set line m.held c

  abbrev line-done : Given Making Bytes
  line-done = line_taken m.ops m.bytes (take (m.held + 1) own) delta

  takes-among : m.stage ≡ Lines → HoldsIn (t ++ (c ∷ [])) (among_taken c m line delta)
  unfolding among_taken
  takes-among e = go (leb (length line) m.held) refl
    where
      placed : (s : Bool) → eqb c 10 ≡ s → m.held < length line
          → HoldsIn (t ++ (c ∷ []))
          (pick s (kept line-done.answer own line-done.lent) (kept (among (m.held + 1) m.ops m.bytes) own delta))
      placed true q g =
          among-line m line delta c line-done.answer line-done.lent g (eqb-true c 10 q) (takes-line (take (m.held + 1) own) m.ops m.bytes delta) e t h
      placed false q g = among-more m line delta c g (eqb-false c 10 q) e t h

      go : (s : Bool) → leb (length line) m.held ≡ s
          → HoldsIn (t ++ (c ∷ [])) (pick s (kept (bad_at (up_by m.ops 1)) line delta) (placed_byte c m.held m.ops m.bytes own delta))
      go true q = among-long m line delta c (up_by m.ops 1) (bad_at (up_by m.ops 1)) (leb-true (length line) m.held q) (up_is m.ops 1) refl e t h
      go false q = placed (eqb c 10) refl (leb-false (length line) m.held q)

  takes-byte : HoldsIn (t ++ (c ∷ [])) (byte_at m.stage c m line delta)
  takes-byte = go m.stage refl
    where
      go : (s : Stage) → m.stage ≡ s → HoldsIn (t ++ (c ∷ [])) (byte_at s c m line delta)
      go Lines e = takes-among e
      go End e = byte-end m line delta c (up_by m.ops 2) (bad_at (up_by m.ops 2)) e (up_is m.ops 2) refl t h
      go (Bad n) e = byte-bad m line delta c n e t h

takes-in : (piece : Bytes) (s : Given Making LineAndDelta) (t : Bytes) → HoldsIn t s → HoldsIn (t ++ piece) (taken_in piece s)
unfolding taken_in taken_byte
takes-in [] s t h = subst (λ (x : Bytes). HoldsIn x s) (sym (append-nil t)) h
takes-in (c ∷ piece) s t h =
    subst (λ (x : Bytes). HoldsIn x (taken_in piece (taken_byte c s))) (append_assoc t (c ∷ []) piece)
    (takes-in piece (taken_byte c s) (t ++ (c ∷ [])) (takes-byte c s.answer s.lent.line s.lent.delta t h))

ends : (m : Making) (line delta t : Bytes) → length t < numbers → Holds t m line delta → Outcome (unlist t) (finished m delta) delta
unfolding finished
ends m line delta t small h = go m.stage refl
  where
    go : (s : Stage) → m.stage ≡ s → Outcome (unlist t) (finished_at s m delta) delta
    go Lines e = ends-lines m line delta t small h (up_by m.ops 1) e (up_is m.ops 1)
    go End e = ends-end m line delta t small h (read_made m.bytes delta) e refl
    go (Bad n) e = ends-bad m line delta t small h n e

-- A text of less than 2^64 bytes, with room for the longest line and the longest delta: what comes at its end is what reading that listing gives, and the
-- bytes of an accepted delta stand at the front of the lent memory.
pub made-of-text : (t line delta : Bytes) → length t < numbers → longest_line ≤ length line → max_delta ≤ length delta
    → let after : Given Making LineAndDelta = taken_in t (kept started line delta) in
    Outcome (unlist t) (finished after.answer after.lent.delta) after.lent.delta
made-of-text t line delta small p q =
    let after : Given Making LineAndDelta = taken_in t (kept started line delta) in
    ends after.answer after.lent.line after.lent.delta t small (takes-in t (kept started line delta) [] (starts line delta p q))
