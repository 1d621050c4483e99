-- What each way out of a step gives. Assumes nothing.
use Prim.Native.Nat.{ℕ, suc, ◌+◌, ◌≤◌, ◌<◌}
use mathlib.Core.Path.{◌≡◌, refl, ap, ap₂, sym, ◌∙◌, subst}
use mathlib.Core.Bool.{Bool, true, false}
use mathlib.Core.List.{[], ◌∷◌}
use native.Mathlib.Numerals.{add-one}
use native.Mathlib.Omega.{arith}
use lib.Dec.{eqb, leb}
use lib.ListN.{length, drop, get_or, set, take}
use lib.Seq.{drop-cons, drop-length}
use borrow.Author.Tests.{eq-eqb, le-leb, lt-leb, ne_eqb}
use Rattle.fields.specs.Numbers.{Bytes}
use Rattle.fields.specs.Order.{same_bytes}
use Rattle.fields.proofs.Choice.{pick-false, pick_true}
use Rattle.rules.specs.Given.{Given, Gives, given}
use Rattle.rules.specs.Listing.{end_line}
use Rattle.rules.specs.Sizes.{top}
use Rattle.listing_read.specs.Unlist.{Line, LineRead, NoLine, read_line}
use Rattle.listing_line.specs.Told.{LineTold}
use Rattle.delta_make.specs.Making.{LineAndDelta, among, among_taken, bad_at, behind_end, both, byte_at, closing, finished, finished_at, kept, line_taken}
use Rattle.delta_make.specs.Making.{on_read, placed_byte, read_made, stored_at, taken_byte, taken_in, up_by}
use Rattle.delta_make.specs.declared.Stage.{Stage}
use Rattle.delta_make.specs.declared.Stage.TheVariants.{Lines, End, Bad}
use Rattle.delta_make.specs.declared.Making.{Making}
use Rattle.std.specs.Prelude.{Err, Result}
use Rattle.delta_make.specs.declared.NotMade.{NotMade}
use Rattle.delta_make.specs.declared.NotMade.TheVariants as not_made
use Rattle.delta_make.proofs.Taken.{no_size}

gives : {A M : Type 0} (of : Given A M) (a : A) (m : M) → of ≡ given a m → Gives of a m
gives {A} {M} of a m e = (ap (λ (x : Given A M). x.answer) (sym e), ap (λ (x : Given A M). x.lent) (sym e))

-- ---- a count

pub up_top : (n by : ℕ) → top < n + by → top ≡ up_by n by
unfolding up_by
up_top n by h = sym (pick-false (leb (n + by) top) (n + by) top (lt-leb (n + by) top h))

pub up-sum : (n by : ℕ) → n + by ≤ top → n + by ≡ up_by n by
unfolding up_by
up-sum n by h = sym (pick_true (leb (n + by) top) (n + by) top (le-leb (n + by) top h))

-- ---- a whole line

module _ (l : Bytes) (ops bytes : ℕ) (delta : Bytes) (r : ℕ) (out : Bytes) (told : LineTold (read_line l) r out) where
  no_line : r ≡ 0 → line_taken ops bytes l delta ≡ given (closing ops bytes l) delta
  unfolding line_taken
  no_line z = go (read_line l) told
    where
      go : (y : LineRead) → LineTold y r out → on_read ops bytes l delta y ≡ given (closing ops bytes l) delta
      go (Line o []) w = absurd (no_size o (sym w.0 ∙ z))
      go (Line o (b ∷ rest)) w = refl
      go NoLine w = refl

  pub line-end : (s : Bool) → r ≡ 0 → s ≡ same_bytes (end_line ops bytes) l → s ≡ true → Gives (line_taken ops bytes l delta) (behind_end ops bytes) delta
  line-end s z p q =
      gives (line_taken ops bytes l delta) (behind_end ops bytes) delta
      (no_line z
      ∙ ap (λ (m : Making). given m delta) (pick_true (same_bytes (end_line ops bytes) l) (behind_end ops bytes) (bad_at (up_by ops 1)) (sym p ∙ q)))

  pub line-bad : (s : Bool) (n : ℕ) (m : Making) → r ≡ 0 → s ≡ same_bytes (end_line ops bytes) l → s ≡ false → n ≡ up_by ops 1 → m ≡ bad_at n
      → Gives (line_taken ops bytes l delta) m delta
  line-bad s n m z p q u e =
      gives (line_taken ops bytes l delta) m delta
      (no_line z
      ∙ ap (λ (x : Making). given x delta)
      (pick-false (same_bytes (end_line ops bytes) l) (behind_end ops bytes) (bad_at (up_by ops 1)) (sym p ∙ q) ∙ sym (e ∙ ap bad_at u)))

  pub line-op : (n k : ℕ) (left : Bytes) → (r ≡ 0 → ⊥) → n ≡ up_by ops 1 → k ≡ up_by bytes r → left ≡ stored_at bytes (take r out) delta
      → Gives (line_taken ops bytes l delta) (among 0 n k) left
  unfolding line_taken
  line-op n k left nz p q w = go (read_line l) told
    where
      go : (y : LineRead) → LineTold y r out → Gives (on_read ops bytes l delta y) (among 0 n k) left
      go (Line o []) t =
          (ap₂ (among 0) p (q ∙ ap (up_by bytes) t.0), w ∙ ap (λ (x : Bytes). stored_at bytes x delta) t.1)
      go (Line o (b ∷ rest)) t = absurd (nz t)
      go NoLine t = absurd (nz t)

-- ---- a byte

module _ (m : Making) (line delta : Bytes) (byte : ℕ) where
  pub among-long : (n : ℕ) (r : Making) → length line ≤ m.held → n ≡ up_by m.ops 1 → r ≡ bad_at n → Gives (among_taken byte m line delta) r (both line delta)
  unfolding among_taken
  among-long n r h u e =
      gives (among_taken byte m line delta) r (both line delta)
      (pick_true (leb (length line) m.held) (kept (bad_at (up_by m.ops 1)) line delta)
      (placed_byte byte m.held m.ops m.bytes (set line m.held byte) delta) (le-leb (length line) m.held h)
      ∙ ap (λ (x : Making). kept x line delta) (sym (e ∙ ap bad_at u)))

  -- the byte is in its place
  has-place : m.held < length line → among_taken byte m line delta ≡ placed_byte byte m.held m.ops m.bytes (set line m.held byte) delta
  unfolding among_taken
  has-place h =
      pick-false (leb (length line) m.held) (kept (bad_at (up_by m.ops 1)) line delta)
      (placed_byte byte m.held m.ops m.bytes (set line m.held byte) delta) (lt-leb (length line) m.held h)

  abbrev whole : Given Making Bytes
  whole = line_taken m.ops m.bytes (take (m.held + 1) (set line m.held byte)) delta

  pub among-line : (r : Making) (left : Bytes) → m.held < length line → byte ≡ 10 → Gives whole r left
      → Gives (among_taken byte m line delta) r (both (set line m.held byte) left)
  among-line r left h e g =
      let own : Bytes = set line m.held byte in
      gives (among_taken byte m line delta) r (both own left)
      (has-place h
      ∙ pick_true (eqb byte 10) (kept whole.answer own whole.lent) (kept (among (m.held + 1) m.ops m.bytes) own delta) (eq-eqb byte 10 e)
      ∙ ap₂ (λ (x : Making) (y : Bytes). kept x own y) (sym g.0) (sym g.1))

  pub among-more : m.held < length line → (byte ≡ 10 → ⊥)
      → Gives (among_taken byte m line delta) (among (m.held + 1) m.ops m.bytes) (both (set line m.held byte) delta)
  among-more h e =
      let own : Bytes = set line m.held byte in
      gives (among_taken byte m line delta) (among (m.held + 1) m.ops m.bytes) (both own delta)
      (has-place h
      ∙ pick-false (eqb byte 10) (kept whole.answer own whole.lent) (kept (among (m.held + 1) m.ops m.bytes) own delta) (ne_eqb byte 10 e))

  -- by how far the text has come
  pub byte-at : (s : Stage) (r : Making) (left : LineAndDelta) → m.stage ≡ s → Gives (byte_at s byte m line delta) r left
      → Gives (taken_byte byte (kept m line delta)) r left
  unfolding taken_byte
  byte-at s r left e g = subst (λ (x : Stage). Gives (byte_at x byte m line delta) r left) (sym e) g

  pub byte-end : (n : ℕ) (r : Making) → m.stage ≡ End → n ≡ up_by m.ops 2 → r ≡ bad_at n → Gives (taken_byte byte (kept m line delta)) r (both line delta)
  byte-end n r e u q = byte-at End r (both line delta) e (q ∙ ap bad_at u, refl)

  pub byte-bad : (n : ℕ) → m.stage ≡ Bad n → Gives (taken_byte byte (kept m line delta)) m (both line delta)
  byte-bad n e = byte-at (Bad n) m (both line delta) e (refl, refl)

-- ---- a piece

pub piece-more : (piece : Bytes) (i : ℕ) (m : Making) (line delta : Bytes) (r : Making) (line-left delta-left : Bytes) (whole : Given Making LineAndDelta)
    → i < length piece → Gives (taken_byte (get_or piece i 0) (kept m line delta)) r (both line-left delta-left)
    → taken_in (drop i piece) (kept m line delta) ≡ whole → taken_in (drop (i + 1) piece) (kept r line-left delta-left) ≡ whole
unfolding taken_in
piece-more piece i m line delta r line-left delta-left whole h g e =
    ap (λ (j : ℕ). taken_in (drop j piece) (kept r line-left delta-left)) (add-one i)
    ∙ ap (taken_in (drop (suc i) piece)) (ap₂ given g.0 g.1)
    ∙ ap (λ (x : Bytes). taken_in x (kept m line delta)) (sym (drop-cons piece i 0 h))
    ∙ e

pub piece-all : (piece : Bytes) (i : ℕ) (m : Making) (line delta : Bytes) (whole : Given Making LineAndDelta)
    → i ≤ length piece → length piece ≤ i → taken_in (drop i piece) (kept m line delta) ≡ whole → Gives whole m (both line delta)
unfolding taken_in
piece-all piece i m line delta whole h g e =
    let j : i ≡ length piece = omega arith in
    gives whole m (both line delta)
    (sym e ∙ ap (λ (x : Bytes). taken_in x (kept m line delta)) (ap (λ (k : ℕ). drop k piece) j ∙ drop-length piece))

-- ---- the end of the text

module _ (m : Making) (delta : Bytes) where
  finished-at : (s : Stage) → m.stage ≡ s → finished_at s m delta ≡ finished m delta
  unfolding finished
  finished-at s e = ap (λ (x : Stage). finished_at x m delta) (sym e)

  pub finished-lines : (n : ℕ) → m.stage ≡ Lines → n ≡ up_by m.ops 1 → (Err (not_made.BadLine n)) ≡ finished m delta
  finished-lines n e u = ap (λ a. Err (not_made.BadLine a)) u ∙ finished-at Lines e

  pub finished-end : (r : Result ℕ NotMade) → m.stage ≡ End → r ≡ read_made m.bytes delta → r ≡ finished m delta
  finished-end r e q = q ∙ finished-at End e

  pub finished-bad : (n : ℕ) → m.stage ≡ Bad n → (Err (not_made.BadLine n)) ≡ finished m delta
  finished-bad n e = finished-at (Bad n) e
