-- Whichever lines are accepted are listed again unchanged: what was read as an operation's line is that operation's line, and a text whose lines are all
-- read is the listing of the delta that they tell. Assumes nothing.
use Prim.Native.Nat.{ℕ, zero, suc, ◌+◌, ◌-◌, ◌^◌, ◌≤◌}
use mathlib.Core.Path.{◌≡◌, refl, ap, sym, ◌∙◌, subst, subst₂}
use mathlib.Core.Bool.{Bool, true, false, ◌&&◌}
use mathlib.Core.List.{List, [], ◌∷◌, ◌++◌, append_assoc, append-nil}
use native.Mathlib.Omega.{arith}
use lib.Dec.{leb}
use lib.ListN.{length, drop, length-append, take-append-drop}
use borrow.Author.Tests.{leb-true, ltb-true}
use Rattle.fields.specs.Blocks.{flat}
use Rattle.fields.specs.Choice.{all, pick}
use Rattle.fields.specs.Numbers.{AreBytes, Bytes}
use Rattle.fields.specs.Order.{same_bytes, starts_with}
use Rattle.fields.proofs.Choice.{all_from, and_left, and_right}
use Rattle.fields.proofs.Ordered.{same_true, starts-take}
use Rattle.rules.specs.Delta as rule
use Rattle.rules.specs.Delta.{Op, NodeOp, KeyValueOp, SetMaxVersionOp, Ops, Good, Faulty, Followed, Next, Fault, Reading, delta_bytes, follow, nothing_read}
use Rattle.rules.specs.Delta.{on_followed, on_read, op_bytes, read_delta, read_ops, size_of, unless_end}
use Rattle.rules.specs.Listing.{ascii, decimal, end_line, line_feed, listing, listing_of, op_line, shown_bytes, status_text}
use Rattle.rules.specs.Sizes.{max_delta, max_key, max_value}
use Rattle.rules.specs.declared.Refusal.{Refusal}
use Rattle.rules.specs.declared.Refusal.TheVariants.{TooMany}
use Rattle.rules.specs.declared.Status.{Status}
use Rattle.rules.specs.declared.Status.TheVariants.{Set, Delete, Ttl}
use Rattle.rules.proofs.Deltas.{AllSmall, op-long}
use Rattle.rules.proofs.Ops.{Number, SmallOp, read-written}
use Rattle.listing_read.specs.Unlist.{All, BadLine, Delta, Form, Line, LineRead, Lines, NoLine, NotInForm, after_gc, after_id, after_key}
use Rattle.listing_read.specs.Unlist.{after_max, after_status, after_version, at_end, closed, front, is_byte, judged, number_form, of_lines, on_line, printed}
use Rattle.listing_read.specs.Unlist.{read_line, read_lines, status, text_form, unlist, with_line, word}
use Rattle.listing_read.proofs.Lines.{BytesOp}

-- ---- what was read at the front of a text

no-line-got : {A : Type 0} (o : Op) (rest : Bytes) → NoLine ≡ Line o rest → A
no-line-got o rest e = let z : ◌≡◌ {A = ℕ} 0 1 = cc in absurd (omega arith)

-- a word was read: it stood at the front, and reading went on behind it
pub record GotWord (name : Bytes) (next : Bytes → LineRead) (l : Bytes) (o : Op) (rest : Bytes) : Type 0 where
  pub left : Bytes
  pub is : name ++ left ≡ l
  pub went : next left ≡ Line o rest

-- that, or the other way was gone
pub data GotEither (name : Bytes) (other : LineRead) (next : Bytes → LineRead) (l : Bytes) (o : Op) (rest : Bytes) : Type 0 where
  this : GotWord name next l o rest → GotEither name other next l o rest
  that : other ≡ Line o rest → GotEither name other next l o rest

pub starts-then : (name l : Bytes) → starts_with name l ≡ true → name ++ drop (length name) l ≡ l
starts-then name l e = ap (λ (r : Bytes). r ++ drop (length name) l) (sym (starts-take name l e)) ∙ take-append-drop (length name) l

either-got : (name : Bytes) (other : LineRead) (next : Bytes → LineRead) (l : Bytes) (o : Op) (rest : Bytes) → word name other next l ≡ Line o rest
    → GotEither name other next l o rest
either-got name other next l o rest e = go (starts_with name l) refl e
  where
    go : (t : Bool) → starts_with name l ≡ t → pick t (next (drop (length name) l)) other ≡ Line o rest → GotEither name other next l o rest
    go true q e = this (record { left = drop (length name) l; is = starts-then name l q; went = e })
    go false q e = that e

word_got : (name : Bytes) (next : Bytes → LineRead) (l : Bytes) (o : Op) (rest : Bytes) → word name NoLine next l ≡ Line o rest → GotWord name next l o rest
word_got name next l o rest e = go (either-got name NoLine next l o rest e)
  where
    go : GotEither name NoLine next l o rest → GotWord name next l o rest
    go (this g) = g
    go (that q) = no-line-got o rest q

-- a value was read: what is printed of it stood at the front
pub record GotPrinted {A : Type 0} (form : Form A) (next : A → Bytes → LineRead) (l : Bytes) (o : Op) (rest : Bytes) : Type 0 where
  pub value : A
  pub fits : form.fits value ≡ true
  pub left : Bytes
  pub is : form.print value ++ left ≡ l
  pub went : next value left ≡ Line o rest

front-then : (p : ℕ → Bool) (l : Bytes) → front p l ++ drop (length (front p l)) l ≡ l
unfolding front
front-then p [] = refl
front-then p (b ∷ l) = go (p b) (front-then p l)
  where
    go : (t : Bool) → front p l ++ drop (length (front p l)) l ≡ l → pick t (b ∷ front p l) [] ++ drop (length (pick t (b ∷ front p l) [])) (b ∷ l) ≡ b ∷ l
    go true ih = ap (λ (r : Bytes). b ∷ r) ih
    go false ih = refl

printed-got : {A : Type 0} (form : Form A) (next : A → Bytes → LineRead) (l : Bytes) (o : Op) (rest : Bytes) → printed form next l ≡ Line o rest
    → GotPrinted form next l o rest
printed-got {A} form next l o rest e = go (form.fits v && same_bytes (form.print v) piece) refl e
  where
    piece : Bytes
    piece = front form.within l

    v : A
    v = form.value piece

    go : (t : Bool) → (form.fits v && same_bytes (form.print v) piece) ≡ t → pick t (next v (drop (length piece) l)) NoLine ≡ Line o rest
        → GotPrinted form next l o rest
    go true q e =
        let same : form.print v ≡ piece = same_true (form.print v) piece (and_right (form.fits v) (same_bytes (form.print v) piece) q) in
        record {
          value = v;
          fits = and_left (form.fits v) (same_bytes (form.print v) piece) q;
          left = drop (length piece) l;
          is = ap (λ (r : Bytes). r ++ drop (length piece) l) same ∙ front-then form.within l;
          went = e;
        }
    go false q e = no-line-got o rest e

-- ---- the line of an operation

-- a line was read: it stood at the front, and its operation has its sizes
pub record LineIs (l : Bytes) (o : Op) (rest : Bytes) : Type 0 where
  pub is : op_line o ++ rest ≡ l
  pub small : SmallOp o
  pub bytes : BytesOp o

-- the operation that a reader made
as_line : (l : Bytes) (p : Op) (r : Bytes) (o : Op) (rest : Bytes) → LineIs l p r → Line p r ≡ Line o rest → LineIs l o rest
as_line l p r o rest x e =
    let a : p ≡ o = cc in
    let b : r ≡ rest = cc in
    subst₂ (λ (q : Op) (s : Bytes). LineIs l q s) a b x

-- pieces that stood one behind the other
join : (a b x y l : Bytes) → a ++ x ≡ l → b ++ y ≡ x → (a ++ b) ++ y ≡ l
join a b x y l p q = append_assoc a b y ∙ ap (λ (r : Bytes). a ++ r) q ∙ p

join-three : (a b c x y z l : Bytes) → a ++ x ≡ l → b ++ y ≡ x → c ++ z ≡ y → (a ++ (b ++ c)) ++ z ≡ l
join-three a b c x y z l p q r = join a (b ++ c) x z l p (join b c y z x q r)

join-five : (a b c d e x y z t u l : Bytes) → a ++ x ≡ l → b ++ y ≡ x → c ++ z ≡ y → d ++ t ≡ z → e ++ u ≡ t → (a ++ (b ++ (c ++ (d ++ e)))) ++ u ≡ l
join-five a b c d e x y z t u l p q r s v = join-three a b (c ++ (d ++ e)) x y u l p q (join-three c d e z t u y r s v)

-- words before them
behind-one : (a t y l : Bytes) → t ++ y ≡ l → (a ++ t) ++ y ≡ a ++ l
behind-one a t y l e = join a t l y (a ++ l) refl e

behind-four : (a b c d t y l : Bytes) → t ++ y ≡ l → (a ++ (b ++ (c ++ (d ++ t)))) ++ y ≡ a ++ (b ++ (c ++ (d ++ l)))
behind-four a b c d t y l e =
    behind-one a (b ++ (c ++ (d ++ t))) y (b ++ (c ++ (d ++ l)))
    (behind-one b (c ++ (d ++ t)) y (c ++ (d ++ l)) (behind-one c (d ++ t) y (d ++ l) (behind-one d t y l e)))

text-bytes : (most : ℕ) (t : Bytes) → (text_form most).fits t ≡ true → AreBytes t
text-bytes most t h x m = ltb-true x 256 (all_from is_byte t (and_right (leb (length t) most) (all is_byte t) h) x m)

text-short : (most : ℕ) (t : Bytes) → (text_form most).fits t ≡ true → length t ≤ most
text-short most t h = leb-true (length t) most (and_left (leb (length t) most) (all is_byte t) h)

number_small : (n : ℕ) → number_form.fits n ≡ true → Number n
number_small n h = ltb-true n (256 ^ 8) h

module _ (o : Op) (rest : Bytes) where
  node_is : (l : Bytes) → printed number_form after_id l ≡ Line o rest → LineIs (ascii "op=node id=" ++ l) o rest
  unfolding op_line
  node_is l e =
      let n = printed-got number_form after_id l o rest e in
      let gc = word_got (ascii " gc=") (printed number_form (after_gc n.value)) n.left o rest n.went in
      let g = printed-got number_form (after_gc n.value) gc.left o rest gc.went in
      let from = word_got (ascii " from=") (printed number_form (λ f. closed (NodeOp n.value g.value f))) g.left o rest g.went in
      let f = printed-got number_form (λ f. closed (NodeOp n.value g.value f)) from.left o rest from.went in
      let end = word_got line_feed (λ r. Line (NodeOp n.value g.value f.value) r) f.left o rest f.went in
      let line : Bytes = ascii " gc=" ++ (decimal g.value ++ (ascii " from=" ++ (decimal f.value ++ line_feed))) in
      let behind : line ++ end.left ≡ n.left =
      join-five (ascii " gc=") (decimal g.value) (ascii " from=") (decimal f.value) line_feed gc.left g.left from.left f.left end.left
      n.left gc.is g.is from.is f.is end.is in
      as_line (ascii "op=node id=" ++ l) (NodeOp n.value g.value f.value) end.left o rest
      (record {
        is = behind-one (ascii "op=node id=") (decimal n.value ++ line) end.left l (join (decimal n.value) line n.left end.left l n.is behind);
        small = (number_small n.value n.fits, number_small g.value g.fits, number_small f.value f.fits);
        bytes = tt;
      })
      end.went

  max-is : (l : Bytes) → printed number_form after_max l ≡ Line o rest → LineIs (ascii "op=max version=" ++ l) o rest
  unfolding op_line
  max-is l e =
      let m = printed-got number_form after_max l o rest e in
      let end = word_got line_feed (λ r. Line (SetMaxVersionOp m.value) r) m.left o rest m.went in
      let m-end = join (decimal m.value) line_feed m.left end.left l m.is end.is in
      as_line (ascii "op=max version=" ++ l) (SetMaxVersionOp m.value) end.left o rest
      (record {
        is = behind-one (ascii "op=max version=") (decimal m.value ++ line_feed) end.left l m-end;
        small = number_small m.value m.fits;
        bytes = tt;
      })
      end.went

  -- behind the status
  abbrev OfStatus : (ver : ℕ) (st : Status) (l : Bytes) → Type 0
  OfStatus ver st l = LineIs (ascii "op=kv version=" ++ (decimal ver ++ (ascii " status=" ++ (status_text st ++ l)))) o rest

  texts-are : (ver : ℕ) (st : Status) (l : Bytes) → Number ver → after_status ver st l ≡ Line o rest → OfStatus ver st l
  unfolding op_line
  texts-are ver st l small e =
      let key = word_got (ascii " key=") (printed (text_form max_key) (after_key ver st)) l o rest e in
      let k = printed-got (text_form max_key) (after_key ver st) key.left o rest key.went in
      let of : Bytes → Bytes → LineRead = λ v. closed (KeyValueOp (record { key = k.value; value = v; version = ver; status = st })) in
      let value = word_got (ascii " value=") (printed (text_form max_value) of) k.left o rest k.went in
      let v = printed-got (text_form max_value) of value.left o rest value.went in
      let made : Op = KeyValueOp (record { key = k.value; value = v.value; version = ver; status = st }) in
      let end = word_got line_feed (λ r. Line made r) v.left o rest v.went in
      let line : Bytes = ascii " key=" ++ (shown_bytes k.value ++ (ascii " value=" ++ (shown_bytes v.value ++ line_feed))) in
      let texts : line ++ end.left ≡ l =
      join-five (ascii " key=") (shown_bytes k.value) (ascii " value=") (shown_bytes v.value) line_feed key.left k.left value.left v.left
      end.left l key.is k.is value.is v.is end.is in
      as_line (ascii "op=kv version=" ++ (decimal ver ++ (ascii " status=" ++ (status_text st ++ l)))) made end.left o rest
      (record {
        is = behind-four (ascii "op=kv version=") (decimal ver) (ascii " status=") (status_text st) line end.left l texts;
        small = record {
          key_fits = text-short max_key k.value k.fits;
          value-fits = text-short max_value v.value v.fits;
          version_fits = small;
        };
        bytes = (text-bytes max_key k.value k.fits, text-bytes max_value v.value v.fits);
      })
      end.went

  status-is : (ver : ℕ) (l : Bytes) → Number ver → status (after_status ver) l ≡ Line o rest
      → LineIs (ascii "op=kv version=" ++ (decimal ver ++ (ascii " status=" ++ l))) o rest
  status-is ver l small e = first (either-got (status_text Set) others (after_status ver Set) l o rest e)
    where
      last : LineRead
      last = word (status_text Ttl) NoLine (after_status ver Ttl) l

      others : LineRead
      others = word (status_text Delete) last (after_status ver Delete) l

      of : (st : Status) → GotWord (status_text st) (after_status ver st) l o rest → LineIs (ascii "op=kv version=" ++ (decimal ver ++ (ascii " status=" ++ l))) o rest
      of st g = subst (λ (x : Bytes). LineIs (ascii "op=kv version=" ++ (decimal ver ++ (ascii " status=" ++ x))) o rest) g.is (texts-are ver st g.left small g.went)

      second : GotEither (status_text Delete) last (after_status ver Delete) l o rest → LineIs (ascii "op=kv version=" ++ (decimal ver ++ (ascii " status=" ++ l))) o rest
      second (this g) = of Delete g
      second (that q) = of Ttl (word_got (status_text Ttl) (after_status ver Ttl) l o rest q)

      first : GotEither (status_text Set) others (after_status ver Set) l o rest → LineIs (ascii "op=kv version=" ++ (decimal ver ++ (ascii " status=" ++ l))) o rest
      first (this g) = of Set g
      first (that q) = second (either-got (status_text Delete) last (after_status ver Delete) l o rest q)

  record_is : (l : Bytes) → printed number_form after_version l ≡ Line o rest → LineIs (ascii "op=kv version=" ++ l) o rest
  record_is l e =
      let ver = printed-got number_form after_version l o rest e in
      let st = word_got (ascii " status=") (status (after_status ver.value)) ver.left o rest ver.went in
      subst (λ (x : Bytes). LineIs (ascii "op=kv version=" ++ x) o rest)
      (ap (λ (x : Bytes). decimal ver.value ++ x) st.is ∙ ver.is)
      (status-is ver.value st.left (number_small ver.value ver.fits) st.went)

  pub line-is : (l : Bytes) → read_line l ≡ Line o rest → LineIs l o rest
  unfolding read_line
  line-is l e = first (either-got (ascii "op=node id=") others (printed number_form after_id) l o rest e)
    where
      last : LineRead
      last = word (ascii "op=max version=") NoLine (printed number_form after_max) l

      others : LineRead
      others = word (ascii "op=kv version=") last (printed number_form after_version) l

      third : GotWord (ascii "op=max version=") (printed number_form after_max) l o rest → LineIs l o rest
      third g = subst (λ (x : Bytes). LineIs x o rest) g.is (max-is g.left g.went)

      second : GotEither (ascii "op=kv version=") last (printed number_form after_version) l o rest → LineIs l o rest
      second (this g) = subst (λ (x : Bytes). LineIs x o rest) g.is (record_is g.left g.went)
      second (that q) = third (word_got (ascii "op=max version=") (printed number_form after_max) l o rest q)

      first : GotEither (ascii "op=node id=") others (printed number_form after_id) l o rest → LineIs l o rest
      first (this g) = subst (λ (x : Bytes). LineIs x o rest) g.is (node_is g.left g.went)
      first (that q) = second (either-got (ascii "op=kv version=") last (printed number_form after_version) l o rest q)

-- ---- all lines

-- all lines were read: they are those of the operations, and the end line behind them
pub record LinesAre (n b : ℕ) (l : Bytes) (ops : List Op) : Type 0 where
  pub is : flat op_line ops ++ end_line (n + length ops) (b + length (flat op_bytes ops)) ≡ l
  pub small : AllSmall ops

bad-got : {A : Type 0} (n : ℕ) (ops : List Op) → BadLine n ≡ All ops → A
bad-got n ops e = let z : ◌≡◌ {A = ℕ} 0 1 = cc in absurd (omega arith)

as-lines : (n b : ℕ) (l : Bytes) (a ops : List Op) → LinesAre n b l a → All a ≡ All ops → LinesAre n b l ops
as-lines n b l a ops x e = let q : a ≡ ops = cc in subst (LinesAre n b l) q x

module _ (n b : ℕ) (l : Bytes) (ops : List Op) where
  end_is : word (end_line n b) (BadLine (n + 1)) (at_end (n + 2)) l ≡ All ops → LinesAre n b l ops
  unfolding flat AllSmall
  end_is e = go (starts_with (end_line n b) l) refl e
    where
      counts : end_line (n + 0) (b + 0) ≡ end_line n b
      counts = let p : n + 0 ≡ n = omega arith in let q : b + 0 ≡ b = omega arith in rw (p, q)

      last : (left : Bytes) → end_line n b ++ left ≡ l → at_end (n + 2) left ≡ All ops → LinesAre n b l ops
      last [] p e = as-lines n b l [] ops (record { is = counts ∙ sym (append-nil (end_line n b)) ∙ p; small = tt }) e
      last (c ∷ left) p e = bad-got (n + 2) ops e

      go : (t : Bool) → starts_with (end_line n b) l ≡ t → pick t (at_end (n + 2) (drop (length (end_line n b)) l)) (BadLine (n + 1)) ≡ All ops → LinesAre n b l ops
      go true q e = last (drop (length (end_line n b)) l) (starts-then (end_line n b) l q) e
      go false q e = bad-got (n + 1) ops e

one_more : (n b : ℕ) (l rest : Bytes) (o : Op) (ops : List Op) → LineIs l o rest → LinesAre (n + 1) (b + size_of o) rest ops → LinesAre n b l (o ∷ ops)
unfolding flat AllSmall size_of
one_more n b l rest o ops x y =
    let long : length (op_bytes o ++ flat op_bytes ops) ≡ length (op_bytes o) + length (flat op_bytes ops) = length-append (op_bytes o) (flat op_bytes ops) in
    let p : n + suc (length ops) ≡ n + 1 + length ops = omega arith in
    let q : b + length (op_bytes o ++ flat op_bytes ops) ≡ b + length (op_bytes o) + length (flat op_bytes ops) = omega arith in
    record {
      is =
          ap (λ (k : ℕ). (op_line o ++ flat op_line ops) ++ end_line k (b + length (op_bytes o ++ flat op_bytes ops))) p
          ∙ ap (λ (k : ℕ). (op_line o ++ flat op_line ops) ++ end_line (n + 1 + length ops) k) q
          ∙ join (op_line o) (flat op_line ops) rest _ l x.is y.is;
      small = (x.small, y.small);
    }

pub lines_are : (k n b : ℕ) (l : Bytes) (ops : List Op) → read_lines k n b l ≡ All ops → LinesAre n b l ops
unfolding read_lines
lines_are zero n b l ops e = bad-got (n + 1) ops e
lines_are (suc k) n b l ops e = go (read_line l) refl e (λ o rest more. lines_are k (n + 1) (b + size_of o) rest more)
  where
    Before : Type 0
    Before = (o : Op) (rest : Bytes) (more : List Op) → read_lines k (n + 1) (b + size_of o) rest ≡ All more → LinesAre (n + 1) (b + size_of o) rest more

    by-rest : (o : Op) (rest : Bytes) → LineIs l o rest → (y : Lines) → read_lines k (n + 1) (b + size_of o) rest ≡ y → with_line o y ≡ All ops → Before → LinesAre n b l ops
    by-rest o rest x (All more) q e ih = as-lines n b l (o ∷ more) ops (one_more n b l rest o more x (ih o rest more q)) e
    by-rest o rest x (BadLine m) q e ih = bad-got m ops e

    go : (x : LineRead) → read_line l ≡ x → on_line n b (λ o rest. read_lines k (n + 1) (b + size_of o) rest) l x ≡ All ops → Before → LinesAre n b l ops
    go (Line o rest) q e ih = by-rest o rest (line-is o rest l q) (read_lines k (n + 1) (b + size_of o) rest) refl e ih
    go NoLine q e ih = end_is n b l ops e

-- ---- the delta

not_end : (o : Op) (l : Bytes) (x : Ops) → unless_end (op_bytes o ++ l) x ≡ x
unfolding op_bytes
not_end (NodeOp n g f) l x = refl
not_end (KeyValueOp r) l x = refl
not_end (SetMaxVersionOp m) l x = refl

faulty : {A : Type 0} (r : Refusal) (at : ℕ) (ops : List Op) → Faulty r at ≡ Good ops → A
faulty r at ops e = let z : ◌≡◌ {A = ℕ} 0 1 = cc in absurd (omega arith)

-- the operations that are read are those that were written
good-same : (ops : List Op) (n at : ℕ) (s : Reading) (more : List Op) → AllSmall ops → length (flat op_bytes ops) ≤ n → read_ops n at s (flat op_bytes ops) ≡ Good more → more ≡ ops
unfolding flat read_ops AllSmall
good-same [] zero at s more a h e = let q : more ≡ [] = cc in q
good-same [] (suc n) at s more a h e = let q : more ≡ [] = cc in q
good-same (o ∷ ops) zero at s more a h e =
    let k = op-long o in
    absurd (omega (arith, length-append (op_bytes o) (flat op_bytes ops)))
good-same (o ∷ ops) (suc n) at s more a h e =
    by-follow (follow s o) refl
    (sym (ap (on_read at s next) (read-written o rest a.0)) ∙ sym (not_end o rest _) ∙ e)
    (λ p t later q. good-same ops n p t later a.1 (omega (arith, op-long o, length-append (op_bytes o) (flat op_bytes ops))) q)
  where
    rest : Bytes
    rest = flat op_bytes ops

    next : Reading → Bytes → Ops
    next t r = read_ops n (at + (length (op_bytes o ++ rest) - length r)) t r

    Before : Type 0
    Before = (p : ℕ) (t : Reading) (later : List Op) → read_ops n p t rest ≡ Good later → later ≡ ops

    by-rest : (y : Ops) (t : Reading) → next t rest ≡ y → rule.and_then o y ≡ Good more → Before → more ≡ o ∷ ops
    by-rest (Good later) t q e ih =
        let m : more ≡ o ∷ later = cc in
        m ∙ ap (λ (x : List Op). o ∷ x) (ih _ t later q)
    by-rest (Faulty r p) t q e ih = faulty r p more e

    by-follow : (f : Followed) → follow s o ≡ f → on_followed at o (λ t. next t rest) (follow s o) ≡ Good more → Before → more ≡ o ∷ ops
    by-follow (Next t) q e ih = by-rest (next t rest) t refl (sym (ap (on_followed at o (λ t. next t rest)) q) ∙ e) ih
    by-follow (Fault r) q e ih = faulty r at more (sym (ap (on_followed at o (λ t. next t rest)) q) ∙ e)

delta-good : (ops more : List Op) → AllSmall ops → read_delta (flat op_bytes ops) ≡ Good more → more ≡ ops
unfolding read_delta
delta-good ops more a e = go (leb (length (flat op_bytes ops)) max_delta) e
  where
    go : (t : Bool) → pick t (read_ops (length (flat op_bytes ops)) 0 nothing_read (flat op_bytes ops)) (Faulty TooMany 0) ≡ Good more → more ≡ ops
    go true e = good-same ops (length (flat op_bytes ops)) 0 nothing_read more a (omega arith) e
    go false e = faulty TooMany 0 more e

not-delta : {A : Type 0} (n : ℕ) (b : Bytes) → NotInForm n ≡ Delta b → A
not-delta n b e = let z : ◌≡◌ {A = ℕ} 0 1 = cc in absurd (omega arith)

-- whichever lines are accepted are listed again unchanged
pub listed-again : (t b : Bytes) → unlist t ≡ Delta b → listing b ≡ t
unfolding unlist delta_bytes listing listing_of
listed-again t b e = go (read_lines (length t) 0 0 t) refl e
  where
    accepted : (ops : List Op) → LinesAre 0 0 t ops → (x : Ops) → read_delta (flat op_bytes ops) ≡ x → judged (flat op_bytes ops) x ≡ Delta b → listing b ≡ t
    accepted ops a (Good more) q e =
        let bytes : flat op_bytes ops ≡ b = cc in
        let zero-ops : length ops ≡ 0 + length ops = omega arith in
        let zero-bytes : length (flat op_bytes ops) ≡ 0 + length (flat op_bytes ops) = omega arith in
        let same : more ≡ ops = delta-good ops more a.small q in
        ap listing (sym bytes)
        ∙ ap (λ (x : Ops). listing_of x (length (flat op_bytes ops))) (q ∙ ap Good same)
        ∙ ap (λ (n : ℕ). flat op_line ops ++ end_line n (length (flat op_bytes ops))) zero-ops
        ∙ ap (λ (n : ℕ). flat op_line ops ++ end_line (0 + length ops) n) zero-bytes
        ∙ a.is
    accepted ops a (Faulty r at) q e = let z : ◌≡◌ {A = ℕ} 0 1 = cc in absurd (omega arith)

    go : (x : Lines) → read_lines (length t) 0 0 t ≡ x → of_lines x ≡ Delta b → listing b ≡ t
    go (All ops) q e = accepted ops (lines_are (length t) 0 0 t ops q) (read_delta (flat op_bytes ops)) refl e
    go (BadLine n) q e = not-delta n b e
