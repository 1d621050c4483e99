-- What a text of lines gives, whatever stands behind the lines of its operations; where a line ends; how long it is. Assumes nothing.
use Prim.Native.Nat.{ℕ, zero, suc, ◌+◌, ◌-◌, ◌/◌, ◌%◌, ◌≤◌}
use mathlib.Core.Path.{◌≡◌, refl, ap, sym, ◌∙◌}
use mathlib.Core.Bool.{Bool, true, false, not}
use mathlib.Core.List.{List, [], ◌∷◌, ◌++◌, append_assoc, append-nil}
use native.Mathlib.Omega.{arith}
use lib.Dec.{eqb, leb}
use lib.ListN.{length, drop, length-append}
use borrow.Author.Tests.{leb-true, ne_eqb}
use Rattle.fields.specs.Blocks.{flat}
use Rattle.fields.specs.Choice.{all, pick}
use Rattle.fields.specs.Numbers.{AreBytes, Bytes}
use Rattle.fields.specs.Order.{starts_with}
use Rattle.fields.proofs.Choice.{all_from, all_in, and_intro, and_left, and_right}
use Rattle.rules.specs.Delta.{Op, NodeOp, KeyValueOp, SetMaxVersionOp, delta_bytes, op_bytes, read_delta, size_of}
use Rattle.rules.specs.Listing.{ascii, decimal, end_line, hex_digit, line_feed, op_line, plain, shown_byte, shown_bytes, status_text}
use Rattle.rules.specs.Sizes.{max_key, max_value}
use Rattle.rules.specs.declared.Status.{Status}
use Rattle.rules.specs.declared.Status.TheVariants.{Set, Delete, Ttl}
use Rattle.rules.proofs.Ops.{Number, SmallOp}
use Rattle.rules.proofs.Sending.{size-max, size-node, size-record}
use Rattle.listing_text.proofs.Texts.{decimal-long, decimal-some, shown-long}
use Rattle.listing_read.specs.Unlist.{All, BadLine, Lines, NoLine, NotInForm, at_end, is_digit, is_graphic, judged, of_lines, on_line, read_line, read_lines}
use Rattle.listing_read.specs.Unlist.{unlist, with_line}
use Rattle.listing_read.proofs.Lines.{BytesOp, line-some}
use Rattle.listing_read.proofs.Pieces.{number-readable, text-readable, word_read}
use Rattle.delta_make.proofs.Holding.{AllBack, no_feed}

-- ---- the lines of the operations, then the rest

-- all operations before what was read
unfoldable with_all : (ops : List Op) (read : Lines) → Lines
with_all [] x = x
with_all (o ∷ ops) x = with_line o (with_all ops x)

all-bad : (ops : List Op) (n : ℕ) → with_all ops (BadLine n) ≡ BadLine n
unfolding with_all
all-bad [] n = refl
all-bad (o ∷ ops) n = ap (with_line o) (all-bad ops n)

all-good : (ops : List Op) → with_all ops (All []) ≡ All ops
unfolding with_all
all-good [] = refl
all-good (o ∷ ops) = ap (with_line o) (all-good ops)

lines-first : (ops : List Op) (k n b : ℕ) (x : Bytes) → AllBack ops
    → read_lines (length ops + k) n b (flat op_line ops ++ x) ≡ with_all ops (read_lines k (n + length ops) (b + length (flat op_bytes ops)) x)
unfolding read_lines flat AllBack with_all size_of
lines-first [] k n b x a =
    let z : 0 + k ≡ k = omega arith in
    let p : n + 0 ≡ n = omega arith in
    let q : b + 0 ≡ b = omega arith in
    rw (z, p, q)
lines-first (o ∷ ops) k n b x a =
    let rest : Bytes = flat op_line ops ++ x in
    let next : Op → Bytes → Lines = λ o rest. read_lines (length ops + k) (n + 1) (b + length (op_bytes o)) rest in
    let z : suc (length ops) + k ≡ suc (length ops + k) = omega arith in
    let p : n + 1 + length ops ≡ n + suc (length ops) = omega arith in
    let q : b + length (op_bytes o) + length (flat op_bytes ops) ≡ b + length (op_bytes o ++ flat op_bytes ops) = omega (arith, length-append (op_bytes o) (flat op_bytes ops)) in
    ap (λ (j : ℕ). read_lines j n b ((op_line o ++ flat op_line ops) ++ x)) z
    ∙ ap (λ (y : Bytes). on_line n b next y (read_line y)) (append_assoc (op_line o) (flat op_line ops) x)
    ∙ ap (on_line n b next (op_line o ++ rest)) (a.0 rest)
    ∙ ap (with_line o)
    (lines-first ops k (n + 1) (b + length (op_bytes o)) x a.1
    ∙ ap (λ (j : ℕ). with_all ops (read_lines k j (b + length (op_bytes o) + length (flat op_bytes ops)) x)) p
    ∙ ap (λ (j : ℕ). with_all ops (read_lines k (n + suc (length ops)) j x)) q)

lines_long : (ops : List Op) (x : Bytes) → length ops + length x ≤ length (flat op_line ops ++ x)
unfolding flat
lines_long [] x = omega arith
lines_long (o ∷ ops) x =
    omega (
      arith,
      ap length (append_assoc (op_line o) (flat op_line ops) x),
      length-append (op_line o) (flat op_line ops ++ x),
      line-some o,
      lines_long ops x,
    )

-- the reader of a listing, behind its operations
behind-all : (ops : List Op) (x : Bytes) → AllBack ops
    → unlist (flat op_line ops ++ x)
    ≡ of_lines (with_all ops (read_lines (length (flat op_line ops ++ x) - length ops) (length ops) (length (flat op_bytes ops)) x))
unfolding unlist
behind-all ops x a =
    let t : Bytes = flat op_line ops ++ x in
    let k : ℕ = length t - length ops in
    let e : length t ≡ length ops + k = omega (arith, lines_long ops x) in
    let p : 0 + length ops ≡ length ops = omega arith in
    let q : 0 + length (flat op_bytes ops) ≡ length (flat op_bytes ops) = omega arith in
    ap (λ (j : ℕ). of_lines (read_lines j 0 0 t)) e
    ∙ ap of_lines (lines-first ops k 0 0 x a)
    ∙ ap (λ (j : ℕ). of_lines (with_all ops (read_lines k j (0 + length (flat op_bytes ops)) x))) p
    ∙ ap (λ (j : ℕ). of_lines (with_all ops (read_lines k (length ops) j x))) q

-- a line that is neither an operation's nor the end line
line-bad : (k n b : ℕ) (x : Bytes) → read_line x ≡ NoLine → starts_with (end_line n b) x ≡ false → read_lines k n b x ≡ BadLine (n + 1)
unfolding read_lines
line-bad zero n b x e f = refl
line-bad (suc k) n b x e f =
    ap (on_line n b (λ o rest. read_lines k (n + 1) (b + size_of o) rest) x) e
    ∙ ap (λ (t : Bool). pick t (at_end (n + 2) (drop (length (end_line n b)) x)) (BadLine (n + 1))) f

pub unlist-bad : (ops : List Op) (x : Bytes) → AllBack ops → read_line x ≡ NoLine → starts_with (end_line (length ops) (length (flat op_bytes ops))) x ≡ false
    → unlist (flat op_line ops ++ x) ≡ NotInForm (length ops + 1)
unlist-bad ops x a e f =
    behind-all ops x a ∙ ap (λ (y : Lines). of_lines (with_all ops y)) (line-bad _ _ _ x e f) ∙ ap of_lines (all-bad ops (length ops + 1))

-- the end line, and what stands behind it
at-end : (k n b : ℕ) (x : Bytes) → 1 ≤ k → read_line (end_line n b ++ x) ≡ NoLine → read_lines k n b (end_line n b ++ x) ≡ at_end (n + 2) x
unfolding read_lines
at-end zero n b x h e = absurd (omega arith)
at-end (suc k) n b x h e =
    let l : Bytes = end_line n b ++ x in
    ap (on_line n b (λ o rest. read_lines k (n + 1) (b + size_of o) rest) l) e ∙ word_read (end_line n b) (BadLine (n + 1)) (at_end (n + 2)) x

no-line-end : (n b : ℕ) (x : Bytes) → read_line (end_line n b ++ x) ≡ NoLine
unfolding read_line starts_with
no-line-end n b x = refl

module _ (ops : List Op) (a : AllBack ops) where
  abbrev end : Bytes
  end = end_line (length ops) (length (flat op_bytes ops))

  enough : (x : Bytes) → 1 ≤ length (flat op_line ops ++ (end ++ x)) - length ops
  enough x = omega (arith, lines_long ops (end ++ x), length-append end x)

  to_end : (x : Bytes) → unlist (flat op_line ops ++ (end ++ x)) ≡ of_lines (with_all ops (at_end (length ops + 2) x))
  to_end x =
      behind-all ops (end ++ x) a
      ∙ ap (λ (y : Lines). of_lines (with_all ops y))
      (at-end (length (flat op_line ops ++ (end ++ x)) - length ops) (length ops) (length (flat op_bytes ops)) x (enough x) (no-line-end _ _ x))

  pub unlist-end : unlist (flat op_line ops ++ end) ≡ judged (delta_bytes ops) (read_delta (delta_bytes ops))
  unlist-end = ap (λ (y : Bytes). unlist (flat op_line ops ++ y)) (sym (append-nil end)) ∙ to_end [] ∙ ap of_lines (all-good ops)

  pub unlist-behind : (c : ℕ) (x : Bytes) → unlist (flat op_line ops ++ (end ++ (c ∷ x))) ≡ NotInForm (length ops + 2)
  unlist-behind c x = to_end (c ∷ x) ∙ ap of_lines (all-bad ops (length ops + 2))

-- ---- where a line ends

-- a line: no line feed but the last byte, and so long at most
pub record Closed (l : Bytes) : Type 0 where
  pub front : Bytes
  pub is : front ++ line_feed ≡ l
  pub none : no_feed front ≡ true
  pub short : length front ≤ 348

no-feed-append : (a b : Bytes) → no_feed a ≡ true → no_feed b ≡ true → no_feed (a ++ b) ≡ true
unfolding all
no-feed-append [] b h g = g
no-feed-append (x ∷ a) b h g =
    and_intro (not (eqb x 10)) (no_feed (a ++ b)) (and_left (not (eqb x 10)) (no_feed a) h) (no-feed-append a b (and_right (not (eqb x 10)) (no_feed a) h) g)

above-ten : (p : ℕ → Bool) (l : Bytes) → ((x : ℕ) → p x ≡ true → 11 ≤ x) → all p l ≡ true → no_feed l ≡ true
above-ten p l h a = all_in (λ b. not (eqb b 10)) l (λ x m. let g = h x (all_from p l a x m) in ap not (ne_eqb x 10 (λ e. omega arith)))

digits-no-feed : (n : ℕ) → Number n → no_feed (decimal n) ≡ true
digits-no-feed n h =
    above-ten is_digit (decimal n) (λ x e. let g = leb-true 48 x (and_left (leb 48 x) (leb x 57) e) in omega arith) (number-readable n h).own

text-no-feed : (most : ℕ) (t : Bytes) → AreBytes t → length t ≤ most → no_feed (shown_bytes t) ≡ true
text-no-feed most t b h =
    above-ten is_graphic (shown_bytes t) (λ x e. let g = leb-true 33 x (and_left (leb 33 x) (leb x 126) e) in omega arith) (text-readable most t b h).own

status-no-feed : (st : Status) → no_feed (status_text st) ≡ true
unfolding all
status-no-feed Set = refl
status-no-feed Delete = refl
status-no-feed Ttl = refl

status-short : (st : Status) → length (status_text st) ≤ 6
status-short Set = omega arith
status-short Delete = omega arith
status-short Ttl = omega arith

two : (a b l : Bytes) → (a ++ b) ++ l ≡ a ++ (b ++ l)
two a b l = append_assoc a b l

four : (a b c d l : Bytes) → (a ++ (b ++ (c ++ d))) ++ l ≡ a ++ (b ++ (c ++ (d ++ l)))
four a b c d l = simp append_assoc

six : (a b c d e f l : Bytes) → (a ++ (b ++ (c ++ (d ++ (e ++ f))))) ++ l ≡ a ++ (b ++ (c ++ (d ++ (e ++ (f ++ l)))))
six a b c d e f l = simp append_assoc

eight : (a b c d e f g h l : Bytes)
    → (a ++ (b ++ (c ++ (d ++ (e ++ (f ++ (g ++ h))))))) ++ l ≡ a ++ (b ++ (c ++ (d ++ (e ++ (f ++ (g ++ (h ++ l)))))))
eight a b c d e f g h l = simp append_assoc

no-feed-four : (a b c d : Bytes) → no_feed a ≡ true → no_feed b ≡ true → no_feed c ≡ true → no_feed d ≡ true → no_feed (a ++ (b ++ (c ++ d))) ≡ true
no-feed-four a b c d p q r s = no-feed-append a (b ++ (c ++ d)) p (no-feed-append b (c ++ d) q (no-feed-append c d r s))

module _ (n g f : ℕ) (s : SmallOp (NodeOp n g f)) where
  node-front : Bytes
  node-front = ascii "op=node id=" ++ (decimal n ++ (ascii " gc=" ++ (decimal g ++ (ascii " from=" ++ decimal f))))

  node-closed : Closed (op_line (NodeOp n g f))
  unfolding op_line all node-front
  node-closed =
      record {
        front = node-front;
        is = six (ascii "op=node id=") (decimal n) (ascii " gc=") (decimal g) (ascii " from=") (decimal f) line_feed;
        none =
            no-feed-four (ascii "op=node id=") (decimal n) (ascii " gc=") (decimal g ++ (ascii " from=" ++ decimal f)) refl (digits-no-feed n s.0) refl
            (no-feed-append (decimal g) (ascii " from=" ++ decimal f) (digits-no-feed g s.1)
            (no-feed-append (ascii " from=") (decimal f) refl (digits-no-feed f s.2)));
        short = simp length-append (omega (arith, decimal-long n, decimal-long g, decimal-long f));
      }

module _ (m : ℕ) (s : Number m) where
  max-closed : Closed (op_line (SetMaxVersionOp m))
  unfolding op_line all
  max-closed =
      record {
        front = ascii "op=max version=" ++ decimal m;
        is = two (ascii "op=max version=") (decimal m) line_feed;
        none = no-feed-append (ascii "op=max version=") (decimal m) refl (digits-no-feed m s);
        short = simp length-append (omega (arith, decimal-long m));
      }

record-closed : (ver : ℕ) (st : Status) (k v : Bytes) → Number ver → length k ≤ max_key → length v ≤ max_value → AreBytes k → AreBytes v
    → Closed (op_line (KeyValueOp (record { key = k; value = v; version = ver; status = st })))
unfolding op_line all
record-closed ver st k v h p q a b =
    record {
      front =
          ascii "op=kv version="
          ++ (decimal ver ++ (ascii " status=" ++ (status_text st ++ (ascii " key=" ++ (shown_bytes k ++ (ascii " value=" ++ shown_bytes v))))));
      is = eight (ascii "op=kv version=") (decimal ver) (ascii " status=") (status_text st) (ascii " key=") (shown_bytes k) (ascii " value=") (shown_bytes v) line_feed;
      none =
          no-feed-four (ascii "op=kv version=") (decimal ver) (ascii " status=") (status_text st ++ (ascii " key=" ++ (shown_bytes k ++ (ascii " value=" ++ shown_bytes v)))) refl
          (digits-no-feed ver h) refl
          (no-feed-four (status_text st) (ascii " key=") (shown_bytes k) (ascii " value=" ++ shown_bytes v) (status-no-feed st) refl (text-no-feed max_key k a p)
          (no-feed-append (ascii " value=") (shown_bytes v) refl (text-no-feed max_value v b q)));
      short = simp length-append (omega (arith, decimal-long ver, status-short st, shown-long k, shown-long v));
    }

pub line-closed : (o : Op) → SmallOp o → BytesOp o → Closed (op_line o)
line-closed (NodeOp n g f) s b = node-closed n g f s
line-closed (KeyValueOp r) s b = record-closed r.version r.status r.key r.value s.version_fits s.key_fits s.value-fits b.0 b.1
line-closed (SetMaxVersionOp m) s b = max-closed m s

pub end-closed : (n b : ℕ) → Number n → Number b → Closed (end_line n b)
unfolding all
end-closed n b p q =
    record {
      front = ascii "end=ok ops=" ++ (decimal n ++ (ascii " bytes=" ++ decimal b));
      is = four (ascii "end=ok ops=") (decimal n) (ascii " bytes=") (decimal b) line_feed;
      none = no-feed-four (ascii "end=ok ops=") (decimal n) (ascii " bytes=") (decimal b) refl (digits-no-feed n p) refl (digits-no-feed b q);
      short = simp length-append (omega (arith, decimal-long n, decimal-long b));
    }

-- ---- sizes

shown-first : (b : ℕ) (l : Bytes) → suc (length l) ≤ length (shown_byte b ++ l)
shown-first b l = go (plain b)
  where
    go : (x : Bool) → suc (length l) ≤ length (pick x (b ∷ []) (37 ∷ hex_digit (b / 16) ∷ hex_digit (b % 16) ∷ []) ++ l)
    go true = omega arith
    go false = omega arith

byte-some : (t : Bytes) → length t ≤ length (shown_bytes t)
unfolding shown_bytes
byte-some [] = omega arith
byte-some (b ∷ t) = omega (arith, shown-first b (shown_bytes t), byte-some t)

line-size : (o : Op) → size_of o ≤ length (op_line o)
unfolding op_line
line-size (NodeOp n g f) = simp length-append (omega (arith, size-node n g f, decimal-some n, decimal-some g, decimal-some f))
line-size (KeyValueOp r) =
    simp length-append (omega (arith, size-record r, decimal-some r.version, byte-some r.key, byte-some r.value))
line-size (SetMaxVersionOp m) = simp length-append (omega (arith, size-max m, decimal-some m))

pub lines-size : (ops : List Op) → length (flat op_bytes ops) ≤ length (flat op_line ops)
unfolding flat size_of
lines-size [] = omega arith
lines-size (o ∷ ops) =
    omega (arith, length-append (op_bytes o) (flat op_bytes ops), length-append (op_line o) (flat op_line ops), line-size o, lines-size ops)

line-two : (o : Op) → 2 ≤ length (op_line o)
unfolding op_line
line-two (NodeOp n g f) = omega arith
line-two (KeyValueOp r) = omega arith
line-two (SetMaxVersionOp m) = omega arith

pub lines-count : (ops : List Op) → length ops + length ops ≤ length (flat op_line ops)
unfolding flat
lines-count [] = omega arith
lines-count (o ∷ ops) = omega (arith, length-append (op_line o) (flat op_line ops), line-two o, lines-count ops)
