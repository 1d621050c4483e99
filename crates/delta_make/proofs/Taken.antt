-- What a text has come to when a byte more is taken in, and what it gives at its end. Assumes nothing.
use Prim.Native.Nat.{ℕ, zero, suc, ◌+◌, ◌≤◌, ◌<◌}
use mathlib.Core.Path.{◌≡◌, refl, ap, sym, ◌∙◌, subst}
use mathlib.Core.Bool.{Bool, true, false, ◌&&◌, not}
use mathlib.Core.List.{List, [], ◌∷◌, ◌++◌, append_assoc, append-nil}
use native.Mathlib.Decide.{dec_le}
use native.Mathlib.Numerals.{add-one}
use native.Mathlib.Omega.{arith}
use lib.Dec.{eqb, leb}
use lib.ListN.{length, drop, take, set, length-append, length-set}
use lib.Seq.{length-take-le, take_at, take-suc-set}
use borrow.Author.Tests.{eqb-false, le-leb, leb-true, lt-leb, ne_eqb, not-true}
use Rattle.fields.specs.Blocks.{flat}
use Rattle.fields.specs.Choice.{all, pick}
use Rattle.fields.specs.Numbers.{Bytes}
use Rattle.fields.specs.Order.{same_bytes, starts_with}
use Rattle.fields.specs.Parts.{put}
use Rattle.fields.proofs.Choice.{and_intro, and_left, and_right}
use Rattle.fields.proofs.Ordered.{same_false, same_true}
use Rattle.fields.proofs.Parts.{length-put}
use Rattle.rules.specs.Delta as rule
use Rattle.rules.specs.Delta.{Op, delta_bytes, op_bytes, read_delta, size_of}
use Rattle.rules.specs.Listing.{end_line, line_feed, op_line}
use Rattle.rules.specs.Sizes.{max_delta, numbers}
use Rattle.rules.specs.declared.Refusal.TheVariants.{TooMany}
use Rattle.rules.proofs.Deltas.{op-long}
use Rattle.rules.proofs.Ops.{Number}
use Rattle.listing_read.specs.Unlist.{Line, LineRead, NoLine, NotInForm, Unlisted, judged, read_line, unlist}
use Rattle.listing_read.proofs.Lines.{line_read}
use Rattle.listing_read.proofs.Relisted.{line-is, starts-then}
use Rattle.listing_line.specs.Told.{LineTold}
use Rattle.delta_make.specs.Making.{Outcome, bad_at, longest_line, made_of, read_made, refused_at, stored_at}
use Rattle.delta_make.specs.declared.Stage.{Stage}
use Rattle.delta_make.specs.declared.Stage.TheVariants.{Lines, End, Bad}
use Rattle.delta_make.specs.declared.Making.{Making}
use Rattle.std.specs.Prelude.{Err, Ok, Result}
use Rattle.delta_make.specs.declared.NotMade.{NotMade}
use Rattle.delta_make.specs.declared.NotMade.TheVariants as not_made
use Rattle.delta_make.proofs.Holding.{AllBack, AtStage, Back, Begun, Counted, Ended, Failed, Holds, TakesLine, no_feed}
use Rattle.delta_make.proofs.Text.{Closed, end-closed, line-closed, lines-count, lines-size, unlist-bad, unlist-behind, unlist-end}

-- ---- the first line feed

feed-first : {A : Type 0} (b : ℕ) (l : Bytes) → no_feed (b ∷ l) ≡ true → 10 ≡ b → A
unfolding all
feed-first b l h e = absurd (eqb-false b 10 (not-true (eqb b 10) (and_left (not (eqb b 10)) (no_feed l) h)) (sym e))

rest-none : (b : ℕ) (l : Bytes) → no_feed (b ∷ l) ≡ true → no_feed l ≡ true
unfolding all
rest-none b l h = and_right (not (eqb b 10)) (no_feed l) h

head-same : (a b : ℕ) (x y : Bytes) → a ∷ x ≡ b ∷ y → (a ≡ b) × (x ≡ y)
head-same a b x y e = (cc, cc)

split : (u w x y : Bytes) → no_feed u ≡ true → no_feed w ≡ true → u ++ (10 ∷ x) ≡ w ++ (10 ∷ y) → (u ≡ w) × (x ≡ y)
split [] [] x y h g e = (refl, (head-same 10 10 x y e).1)
split [] (b ∷ w) x y h g e = feed-first b w g (head-same 10 b x (w ++ (10 ∷ y)) e).0
split (a ∷ u) [] x y h g e = feed-first a u h (sym (head-same a 10 (u ++ (10 ∷ x)) y e).0)
split (a ∷ u) (b ∷ w) x y h g e =
    let p = head-same a b (u ++ (10 ∷ x)) (w ++ (10 ∷ y)) e in
    let q = split u w x y (rest-none a u h) (rest-none b w g) p.1 in
    (ap (λ (z : ℕ). z ∷ u) p.0 ∙ ap (λ (z : Bytes). b ∷ z) q.0, q.1)

-- a line feed that comes within so many bytes is within them
feed-within : {A : Type 0} (w u x y : Bytes) → length w < length u → no_feed u ≡ true → w ++ (10 ∷ x) ≡ u ++ y → A
feed-within w [] x y h g e = absurd (omega arith)
feed-within [] (b ∷ u) x y h g e = feed-first b u g (head-same 10 b x (u ++ y) e).0
feed-within (a ∷ w) (b ∷ u) x y h g e = feed-within w u x y (omega arith) (rest-none b u g) (head-same a b (w ++ (10 ∷ x)) (u ++ y) e).1

-- ---- a line that has its line feed

pub no_size : (o : Op) → size_of o ≡ 0 → ⊥
unfolding size_of
no_size o q = omega (arith, op-long o)

closed-then : (l rest : Bytes) (c : Closed l) → c.front ++ (10 ∷ rest) ≡ l ++ rest
closed-then l rest c = sym (append_assoc c.front line_feed rest) ∙ ap (λ (z : Bytes). z ++ rest) c.is

module _ (u : Bytes) (h : no_feed u ≡ true) where
  -- what is read with more behind it is read without
  line-local : (x : Bytes) (o : Op) (rest : Bytes) → read_line (u ++ (10 ∷ x)) ≡ Line o rest → read_line (u ++ line_feed) ≡ Line o []
  line-local x o rest e =
      let is = line-is o rest (u ++ (10 ∷ x)) e in
      let c = line-closed o is.small is.bytes in
      let same = split u c.front x rest h c.none (sym (closed-then (op_line o) rest c ∙ is.is)) in
      let whole : u ++ line_feed ≡ op_line o ++ [] = ap (λ (z : Bytes). z ++ line_feed) same.0 ∙ c.is ∙ sym (append-nil (op_line o)) in
      ap read_line whole ∙ line_read o [] is.small is.bytes

  module _ (r : ℕ) (out : Bytes) (told : LineTold (read_line (u ++ line_feed)) r out) where
    pub no-line-goes : r ≡ 0 → (x : Bytes) → read_line (u ++ (10 ∷ x)) ≡ NoLine
    no-line-goes z x = go (read_line (u ++ (10 ∷ x))) refl
      where
        go : (y : LineRead) → read_line (u ++ (10 ∷ x)) ≡ y → y ≡ NoLine
        go (Line o rest) e =
            let size : r ≡ size_of o = (subst (λ (y : LineRead). LineTold y r out) (line-local x o rest e) told).0 in
            absurd (no_size o (sym size ∙ z))
        go NoLine e = refl

    -- an operation's line
    pub record GoodLine : Type 0 where
      pub op : Op
      pub is : op_line op ≡ u ++ line_feed
      pub back : Back op
      pub size : r ≡ size_of op
      pub bytes : take r out ≡ op_bytes op

    pub good-line : (r ≡ 0 → ⊥) → GoodLine
    good-line n = go (read_line (u ++ line_feed)) refl told
      where
        got : (o : Op) → read_line (u ++ line_feed) ≡ Line o [] → (r ≡ size_of o) × (take r out ≡ op_bytes o) → GoodLine
        got o e w =
            let is = line-is o [] (u ++ line_feed) e in
            record {
              op = o;
              is = sym (append-nil (op_line o)) ∙ is.is;
              back = λ x. line_read o x is.small is.bytes;
              size = w.0;
              bytes = w.1;
            }

        of : (o : Op) (rest : Bytes) → read_line (u ++ line_feed) ≡ Line o rest → LineTold (Line o rest) r out → GoodLine
        of o [] e w = got o e w
        of o (b ∷ rest) e w = absurd (n w)

        go : (y : LineRead) → read_line (u ++ line_feed) ≡ y → LineTold y r out → GoodLine
        go (Line o rest) e w = of o rest e w
        go NoLine e w = absurd (n w)

  -- the end line is the whole line
  pub no-end-goes : (n b : ℕ) → Number n → Number b → same_bytes (end_line n b) (u ++ line_feed) ≡ false → (x : Bytes) → starts_with (end_line n b) (u ++ (10 ∷ x)) ≡ false
  no-end-goes n b p q f x = go (starts_with (end_line n b) (u ++ (10 ∷ x))) refl
    where
      go : (t : Bool) → starts_with (end_line n b) (u ++ (10 ∷ x)) ≡ t → t ≡ false
      go true e =
          let c = end-closed n b p q in
          let rest : Bytes = drop (length (end_line n b)) (u ++ (10 ∷ x)) in
          let same = split u c.front x rest h c.none (sym (closed-then (end_line n b) rest c ∙ starts-then (end_line n b) (u ++ (10 ∷ x)) e)) in
          absurd (same_false (end_line n b) (u ++ line_feed) f (sym c.is ∙ ap (λ (z : Bytes). z ++ line_feed) (sym same.0)))
      go false e = refl

  -- a line that is longer than every line
  module _ (long : longest_line ≤ length u) (x : Bytes) where
    pub long-no-line : read_line (u ++ x) ≡ NoLine
    long-no-line = go (read_line (u ++ x)) refl
      where
        go : (y : LineRead) → read_line (u ++ x) ≡ y → y ≡ NoLine
        go (Line o rest) e =
            let is = line-is o rest (u ++ x) e in
            let c = line-closed o is.small is.bytes in
            feed-within c.front u rest x (omega (arith, c.short)) h (closed-then (op_line o) rest c ∙ is.is)
        go NoLine e = refl

    pub long-no-end : (n b : ℕ) → Number n → Number b → starts_with (end_line n b) (u ++ x) ≡ false
    long-no-end n b p q = go (starts_with (end_line n b) (u ++ x)) refl
      where
        go : (t : Bool) → starts_with (end_line n b) (u ++ x) ≡ t → t ≡ false
        go true e =
            let c = end-closed n b p q in
            let rest : Bytes = drop (length (end_line n b)) (u ++ x) in
            feed-within c.front u rest x (omega (arith, c.short)) h (closed-then (end_line n b) rest c ∙ starts-then (end_line n b) (u ++ x) e)
        go false e = refl

-- ---- the counts

module _ (ops bytes : ℕ) (delta : Bytes) (list : List Op) (k : Counted ops bytes delta list) (rest t : Bytes) (is : flat op_line list ++ rest ≡ t) where
  counts-small : (ops + ops + length rest ≤ length t) × (bytes + length rest ≤ length t)
  unfolding delta_bytes
  counts-small =
      let long : length (flat op_line list) + length rest ≡ length t = sym (length-append (flat op_line list) rest) ∙ ap length is in
      (omega (arith, k.ops_are, lines-count list), omega (arith, k.bytes_are, lines-size list))

  -- the text went wrong at the line that has begun
  pub fails : (line c : ℕ) → line ≡ ops + 1
      → ((x : Bytes) → (read_line (rest ++ (c ∷ x)) ≡ NoLine) × (starts_with (end_line ops bytes) (rest ++ (c ∷ x)) ≡ false)) → Failed (t ++ (c ∷ [])) line
  unfolding delta_bytes
  fails line c e h x =
      ap unlist
      (ap (λ (z : Bytes). (z ++ (c ∷ [])) ++ x) (sym is)
      ∙ ap (λ (z : Bytes). z ++ x) (append_assoc (flat op_line list) rest (c ∷ []))
      ∙ append_assoc (flat op_line list) (rest ++ (c ∷ [])) x
      ∙ ap (λ (z : Bytes). flat op_line list ++ z) (append_assoc rest (c ∷ []) x))
      ∙ unlist-bad list (rest ++ (c ∷ x)) k.back (h x).0
      (subst (λ (z : ℕ). starts_with (end_line z (length (flat op_bytes list))) (rest ++ (c ∷ x)) ≡ false) k.ops_are
      (subst (λ (z : ℕ). starts_with (end_line ops z) (rest ++ (c ∷ x)) ≡ false) k.bytes_are (h x).1))
      ∙ ap NotInForm (sym (e ∙ ap (λ (z : ℕ). z + 1) k.ops_are))

-- ---- one step

no-feed-one : (u : Bytes) (c : ℕ) → no_feed u ≡ true → (c ≡ 10 → ⊥) → no_feed (u ++ (c ∷ [])) ≡ true
unfolding all
no-feed-one [] c h n = ap (λ (t : Bool). not t && true) (ne_eqb c 10 n)
no-feed-one (a ∷ u) c h n =
    and_intro (not (eqb a 10)) (no_feed (u ++ (c ∷ []))) (and_left (not (eqb a 10)) (no_feed u) h) (no-feed-one u c (and_right (not (eqb a 10)) (no_feed u) h) n)

-- before any text
pub begins : (delta : Bytes) → Begun [] [] 0 0 delta
unfolding flat AllBack delta_bytes all
begins delta =
    record {
      list = [];
      counted = record { back = tt; ops_are = refl; bytes_are = refl; stored = λ h. refl };
      is = refl;
      unclosed = refl;
    }

-- a byte of a line
pub goes_on : (t u : Bytes) (ops bytes : ℕ) (delta : Bytes) (c : ℕ) → (c ≡ 10 → ⊥) → Begun t u ops bytes delta → Begun (t ++ (c ∷ [])) (u ++ (c ∷ [])) ops bytes delta
unfolding all
goes_on t u ops bytes delta c n b =
    record {
      list = b.list;
      counted = b.counted;
      is = sym (append_assoc (flat op_line b.list) u (c ∷ [])) ∙ ap (λ (z : Bytes). z ++ (c ∷ [])) b.is;
      unclosed = no-feed-one u c b.unclosed n;
    }

-- too long a line
pub too_long : (t u : Bytes) (ops bytes : ℕ) (delta : Bytes) (c line : ℕ) → Begun t u ops bytes delta → longest_line ≤ length u → length (t ++ (c ∷ [])) < numbers
    → (ops + 1 < numbers → line ≡ ops + 1) → Failed (t ++ (c ∷ [])) line
too_long t u ops bytes delta c line b long h e =
    let small = counts-small ops bytes delta b.list b.counted u t b.is in
    let size : length (t ++ (c ∷ [])) ≡ length t + 1 = length-append t (c ∷ []) in
    fails ops bytes delta b.list b.counted u t b.is line c (e (omega arith))
    (λ x. (
      long-no-line u b.unclosed long (c ∷ x),
      long-no-end u b.unclosed long (c ∷ x) ops bytes (omega arith) (omega arith),
    ))

-- a byte behind the end line
pub behind-end : (t : Bytes) (ops bytes : ℕ) (delta : Bytes) (c line : ℕ) → Ended t ops bytes delta → length (t ++ (c ∷ [])) < numbers
    → (ops + 2 < numbers → line ≡ ops + 2) → Failed (t ++ (c ∷ [])) line
unfolding delta_bytes
behind-end t ops bytes delta c line b h e x =
    let list : List Op = b.list in
    let k = b.counted in
    let small = counts-small ops bytes delta list k (end_line ops bytes) t b.is in
    let size : length (t ++ (c ∷ [])) ≡ length t + 1 = length-append t (c ∷ []) in
    let is : line ≡ length list + 2 = e (omega arith) ∙ ap (λ (z : ℕ). z + 2) k.ops_are in
    ap unlist
    (ap (λ (z : Bytes). (z ++ (c ∷ [])) ++ x) (sym b.is)
    ∙ ap (λ (z : Bytes). z ++ x) (append_assoc (flat op_line list) (end_line ops bytes) (c ∷ []))
    ∙ append_assoc (flat op_line list) (end_line ops bytes ++ (c ∷ [])) x
    ∙ ap (λ (z : Bytes). flat op_line list ++ z) (append_assoc (end_line ops bytes) (c ∷ []) x)
    ∙ ap (λ (z : ℕ). flat op_line list ++ (end_line z bytes ++ (c ∷ x))) k.ops_are
    ∙ ap (λ (z : ℕ). flat op_line list ++ (end_line (length list) z ++ (c ∷ x))) k.bytes_are)
    ∙ unlist-behind list k.back c x
    ∙ ap NotInForm (sym is)

-- a text that has failed fails with more
pub fails-still : (t : Bytes) (line c : ℕ) → Failed t line → Failed (t ++ (c ∷ [])) line
fails-still t line c h x = ap unlist (append_assoc t (c ∷ []) x) ∙ h (c ∷ x)

-- ---- a whole line

all_back : (list : List Op) (o : Op) → AllBack list → Back o → AllBack (list ++ (o ∷ []))
unfolding AllBack
all_back [] o a b = (b, tt)
all_back (p ∷ list) o a b = (a.0, all_back list o a.1 b)

flat-one : (enc : Op → Bytes) (list : List Op) (o : Op) → flat enc (list ++ (o ∷ [])) ≡ flat enc list ++ enc o
unfolding flat
flat-one enc [] o = append-nil (enc o)
flat-one enc (p ∷ list) o = ap (λ (z : Bytes). enc p ++ z) (flat-one enc list o) ∙ sym (append_assoc (enc p) (flat enc list) (enc o))

-- what is stored then
pub stored-long : (at : ℕ) (op delta : Bytes) → length (stored_at at op delta) ≡ length delta
unfolding stored_at
stored-long at op delta = go (leb (at + length op) (length delta)) refl
  where
    go : (t : Bool) → leb (at + length op) (length delta) ≡ t → length (pick t (put at op delta) delta) ≡ length delta
    go true e = length-put at op delta (leb-true _ _ e)
    go false e = refl

stored-front : (at : ℕ) (op delta : Bytes) → at + length op ≤ length delta → take (at + length op) (stored_at at op delta) ≡ take at delta ++ op
unfolding stored_at put
stored-front at op delta h =
    let head : length (take at delta) ≡ at = length-take-le at delta (omega arith) in
    let both : length (take at delta ++ op) ≡ at + length op = length-append (take at delta) op ∙ ap (λ (z : ℕ). z + length op) head in
    ap (λ (b : Bool). take (at + length op) (pick b (take at delta ++ (op ++ drop (at + length op) delta)) delta)) (le-leb (at + length op) (length delta) h)
    ∙ ap (take (at + length op)) (sym (append_assoc (take at delta) op (drop (at + length op) delta)))
    ∙ take_at (take at delta ++ op) (drop (at + length op) delta) (at + length op) both

counted-more : (ops bytes : ℕ) (delta : Bytes) (list : List Op) (o : Op) (more : Bytes) (k : Counted ops bytes delta list) → Back o → more ≡ op_bytes o
    → max_delta ≤ length delta → Counted (ops + 1) (bytes + size_of o) (stored_at bytes more delta) (list ++ (o ∷ []))
unfolding delta_bytes size_of
counted-more ops bytes delta list o more k b e h =
    let size : length more ≡ length (op_bytes o) = ap length e in
    let whole : flat op_bytes (list ++ (o ∷ [])) ≡ flat op_bytes list ++ op_bytes o = flat-one op_bytes list o in
    record {
      back = all_back list o k.back b;
      ops_are = ap (λ (z : ℕ). z + 1) k.ops_are ∙ sym (length-append list (o ∷ []));
      bytes_are = ap (λ (z : ℕ). z + length (op_bytes o)) k.bytes_are ∙ sym (ap length whole ∙ length-append (flat op_bytes list) (op_bytes o));
      stored = λ few.
          ap (λ (z : ℕ). take (bytes + z) (stored_at bytes more delta)) (sym size)
          ∙ stored-front bytes more delta (omega arith)
          ∙ ap (λ (z : Bytes). z ++ more) (k.stored (omega arith))
          ∙ ap (λ (z : Bytes). flat op_bytes list ++ z) e
          ∙ sym whole;
    }

-- the end line
pub ends-here : (t u : Bytes) (ops bytes : ℕ) (delta : Bytes) → Begun t u ops bytes delta → same_bytes (end_line ops bytes) (u ++ line_feed) ≡ true
    → Ended (t ++ line_feed) ops bytes delta
ends-here t u ops bytes delta b e =
    record {
      list = b.list;
      counted = b.counted;
      is =
          ap (λ (z : Bytes). flat op_line b.list ++ z) (same_true (end_line ops bytes) (u ++ line_feed) e)
          ∙ sym (append_assoc (flat op_line b.list) u line_feed)
          ∙ ap (λ (z : Bytes). z ++ line_feed) b.is;
    }

-- a line that is neither
module _ (t u : Bytes) (ops bytes : ℕ) (delta : Bytes) (b : Begun t u ops bytes delta) (h : length (t ++ line_feed) < numbers) where
  size-more : length (t ++ line_feed) ≡ length t + 1
  size-more = length-append t line_feed

  pub neither : (r line : ℕ) (out : Bytes) → LineTold (read_line (u ++ line_feed)) r out → r ≡ 0 → same_bytes (end_line ops bytes) (u ++ line_feed) ≡ false
      → (ops + 1 < numbers → line ≡ ops + 1) → Failed (t ++ line_feed) line
  neither r line out told z f e =
      let small = counts-small ops bytes delta b.list b.counted u t b.is in
      let size = size-more in
      fails ops bytes delta b.list b.counted u t b.is line 10 (e (omega arith))
      (λ x. (no-line-goes u b.unclosed r out told z x, no-end-goes u b.unclosed ops bytes (omega arith) (omega arith) f x))

  -- an operation's line
  pub one_more : (r : ℕ) (out : Bytes) → LineTold (read_line (u ++ line_feed)) r out → (r ≡ 0 → ⊥) → max_delta ≤ length delta → (n m : ℕ)
      → (ops + 1 < numbers → n ≡ ops + 1) → (bytes + r < numbers → m ≡ bytes + r) → Begun (t ++ line_feed) [] n m (stored_at bytes (take r out) delta)
  unfolding all
  one_more r out told nz big n m p q =
      let g = good-line u b.unclosed r out told nz in
      let list : List Op = b.list ++ (g.op ∷ []) in
      let is : flat op_line list ++ [] ≡ t ++ line_feed =
      append-nil (flat op_line list)
      ∙ flat-one op_line b.list g.op
      ∙ ap (λ (z : Bytes). flat op_line b.list ++ z) g.is
      ∙ sym (append_assoc (flat op_line b.list) u line_feed)
      ∙ ap (λ (z : Bytes). z ++ line_feed) b.is in
      let more = counted-more ops bytes delta b.list g.op (take r out) b.counted g.back g.bytes big in
      let small = counts-small (ops + 1) (bytes + size_of g.op) _ list more [] (t ++ line_feed) is in
      let n-is : n ≡ ops + 1 = p (omega arith) in
      let m-is : m ≡ bytes + size_of g.op = q (omega (arith, g.size)) ∙ ap (λ (z : ℕ). bytes + z) g.size in
      record {
        list = list;
        counted =
            subst (λ (x : ℕ). Counted x m (stored_at bytes (take r out) delta) list) (sym n-is)
            (subst (λ (x : ℕ). Counted (ops + 1) x (stored_at bytes (take r out) delta) list) (sym m-is) more);
        is = is;
        unclosed = refl;
      }

-- ---- the end

module _ (u : Bytes) (h : no_feed u ≡ true) where
  -- a line without its line feed is none
  unclosed-within : {A : Type 0} (l rest : Bytes) → Closed l → l ++ rest ≡ u → A
  unclosed-within l rest c e =
      let whole : c.front ++ (10 ∷ rest) ≡ u ++ [] = closed-then l rest c ∙ e ∙ sym (append-nil u) in
      feed-within c.front u rest [] (omega (arith, ap length (closed-then l rest c ∙ e), length-append c.front (10 ∷ rest))) h whole

  unclosed-line : read_line u ≡ NoLine
  unclosed-line = go (read_line u) refl
    where
      go : (y : LineRead) → read_line u ≡ y → y ≡ NoLine
      go (Line o rest) e = let is = line-is o rest u e in unclosed-within (op_line o) rest (line-closed o is.small is.bytes) is.is
      go NoLine e = refl

  unclosed-end : (n b : ℕ) → Number n → Number b → starts_with (end_line n b) u ≡ false
  unclosed-end n b p q = go (starts_with (end_line n b) u) refl
    where
      go : (t : Bool) → starts_with (end_line n b) u ≡ t → t ≡ false
      go true e = unclosed-within (end_line n b) (drop (length (end_line n b)) u) (end-closed n b p q) (starts-then (end_line n b) u e)
      go false e = refl

-- the end line is missing
pub missing : (t u : Bytes) (ops bytes : ℕ) (delta : Bytes) (line : ℕ) → Begun t u ops bytes delta → length t < numbers → (ops + 1 < numbers → line ≡ ops + 1)
    → unlist t ≡ NotInForm line
unfolding delta_bytes
missing t u ops bytes delta line b h e =
    let list : List Op = b.list in
    let k = b.counted in
    let small = counts-small ops bytes delta list k u t b.is in
    let is : line ≡ length list + 1 = e (omega arith) ∙ ap (λ (z : ℕ). z + 1) k.ops_are in
    let no_end : starts_with (end_line ops bytes) u ≡ false = unclosed-end u b.unclosed ops bytes (omega arith) (omega arith) in
    ap unlist (sym b.is)
    ∙ unlist-bad list u k.back (unclosed-line u b.unclosed)
    (subst (λ (z : ℕ). starts_with (end_line z (length (flat op_bytes list))) u ≡ false) k.ops_are
    (subst (λ (z : ℕ). starts_with (end_line ops z) u ≡ false) k.bytes_are no_end))
    ∙ ap NotInForm (sym is)

-- the delta is read
ended_is : (t : Bytes) (ops bytes : ℕ) (delta : Bytes) (b : Ended t ops bytes delta) → unlist t ≡ judged (delta_bytes b.list) (read_delta (delta_bytes b.list))
unfolding delta_bytes
ended_is t ops bytes delta b =
    let list : List Op = b.list in
    let k = b.counted in
    ap unlist
    (sym b.is
    ∙ ap (λ (z : ℕ). flat op_line list ++ end_line z bytes) k.ops_are
    ∙ ap (λ (z : ℕ). flat op_line list ++ end_line (length list) z) k.bytes_are)
    ∙ unlist-end list k.back

few-made : (bytes : ℕ) (delta : Bytes) → bytes ≤ max_delta → max_delta ≤ length delta → read_made bytes delta ≡ made_of bytes (read_delta (take bytes delta))
unfolding read_made
few-made bytes delta h g =
    let k : bytes ≤ length delta = omega arith in
    rw (le-leb bytes max_delta h, le-leb bytes (length delta) k)

many-made : (bytes : ℕ) (delta : Bytes) → max_delta < bytes → read_made bytes delta ≡ refused_at TooMany 0
unfolding read_made
many-made bytes delta h = rw (lt-leb bytes max_delta h)

many_read : (l : Bytes) → max_delta < length l → read_delta l ≡ rule.Faulty TooMany 0
unfolding read_delta
many_read l h = rw (lt-leb (length l) max_delta h)

outcome : (bytes : ℕ) (delta l : Bytes) (r : Result ℕ NotMade) (read : rule.Ops) → bytes ≡ length l → (bytes ≤ max_delta → take bytes delta ≡ l) → read_delta l ≡ read
    → (bytes ≤ max_delta → r ≡ made_of bytes read) → (max_delta < bytes → r ≡ refused_at TooMany 0) → Outcome (judged l read) r delta
outcome bytes delta l r read e s q few many = elim (dec_le bytes max_delta) [
  | yes h ↦ within read (few h) (s h)
  | no h ↦
      let long : max_delta < length l = omega arith in
      over read (sym q ∙ many_read l long) (many (omega arith))
]
  where
    within : (x : rule.Ops) → r ≡ made_of bytes x → take bytes delta ≡ l → Outcome (judged l x) r delta
    within (rule.Good ops) w p = (w ∙ ap Ok e, ap (λ (z : ℕ). take z delta) (sym e) ∙ p)
    within (rule.Faulty why at) w p = w

    over : (x : rule.Ops) → x ≡ rule.Faulty TooMany 0 → r ≡ refused_at TooMany 0 → Outcome (judged l x) r delta
    over x p w = subst (λ (y : rule.Ops). Outcome (judged l y) r delta) (sym p) w

pub reads : (t : Bytes) (ops bytes : ℕ) (delta : Bytes) (r : Result ℕ NotMade) → Ended t ops bytes delta → max_delta ≤ length delta → r ≡ read_made bytes delta → Outcome (unlist t) r delta
reads t ops bytes delta r b big e =
    let l : Bytes = delta_bytes b.list in
    let k = b.counted in
    subst (λ (x : Unlisted). Outcome x r delta) (sym (ended_is t ops bytes delta b))
    (outcome bytes delta l r (read_delta l) k.bytes_are k.stored refl
    (λ h. e ∙ few-made bytes delta h big ∙ ap (λ (x : Bytes). made_of bytes (read_delta x)) (k.stored h))
    (λ h. e ∙ many-made bytes delta h))

-- ---- the steps, by what is known of them

shorter : (t : Bytes) (c : ℕ) → length (t ++ (c ∷ [])) < numbers → length t < numbers
shorter t c h = omega (arith, length-append t (c ∷ []))

-- a stage that is known
at : (t line delta : Bytes) (m : Making) (s : Stage) → m.stage ≡ s → AtStage m.stage t m.held m.ops m.bytes line delta
    → AtStage s t m.held m.ops m.bytes line delta
at t line delta m s e h = subst (λ (x : Stage). AtStage x t m.held m.ops m.bytes line delta) e h

is-bad : (t line delta : Bytes) (n : ℕ) (r : Making) → r ≡ bad_at n → longest_line ≤ length line → max_delta ≤ length delta → Failed t n
    → (longest_line ≤ length line) × (max_delta ≤ length delta) × AtStage r.stage t r.held r.ops r.bytes line delta
is-bad t line delta n r e p q f =
    subst (λ (x : Making). (longest_line ≤ length line) × (max_delta ≤ length delta) × AtStage x.stage t x.held x.ops x.bytes line delta) (sym e) (p, q, f)

pub starts : (line delta : Bytes) → longest_line ≤ length line → max_delta ≤ length delta → Holds [] (record { stage = Lines; held = 0; ops = 0; bytes = 0 }) line delta
starts line delta p q small = (p, q, (omega arith, begins delta))

module _ (m : Making) (line delta : Bytes) (c : ℕ) where
  pub byte-end : (n : ℕ) (r : Making) → m.stage ≡ End → (m.ops + 2 < numbers → n ≡ m.ops + 2) → r ≡ bad_at n → (t : Bytes) → Holds t m line delta
      → Holds (t ++ (c ∷ [])) r line delta
  byte-end n r e u q t h small =
      let was = h (shorter t c small) in
      is-bad (t ++ (c ∷ [])) line delta n r q was.0 was.1
      (behind-end t m.ops m.bytes delta c n (at t line delta m End e was.2) small u)

  pub byte-bad : (n : ℕ) → m.stage ≡ Bad n → (t : Bytes) → Holds t m line delta → Holds (t ++ (c ∷ [])) m line delta
  byte-bad n e t h small =
      let was = h (shorter t c small) in
      let still : Failed (t ++ (c ∷ [])) n = fails-still t n c (at t line delta m (Bad n) e was.2) in
      (was.0, was.1, subst (λ (x : Stage). AtStage x (t ++ (c ∷ [])) m.held m.ops m.bytes line delta) (sym e) still)

  pub among-long : (n : ℕ) (r : Making) → length line ≤ m.held → (m.ops + 1 < numbers → n ≡ m.ops + 1) → r ≡ bad_at n → m.stage ≡ Lines → (t : Bytes)
      → Holds t m line delta → Holds (t ++ (c ∷ [])) r line delta
  among-long n r g u q e t h small =
      let was = h (shorter t c small) in
      let now = at t line delta m Lines e was.2 in
      let long : longest_line ≤ length (take m.held line) = omega (arith, length-take-le m.held line now.0, was.0) in
      is-bad (t ++ (c ∷ [])) line delta n r q was.0 was.1
      (too_long t (take m.held line) m.ops m.bytes delta c n now.1 long small u)

  -- the line with this byte
  with_byte : m.held < length line → take (m.held + 1) (set line m.held c) ≡ take m.held line ++ (c ∷ [])
  with_byte g = ap (λ (j : ℕ). take j (set line m.held c)) (add-one m.held) ∙ take-suc-set line m.held c g

  pub among-more : m.held < length line → (c ≡ 10 → ⊥) → m.stage ≡ Lines → (t : Bytes) → Holds t m line delta
      → Holds (t ++ (c ∷ [])) (record { stage = Lines; held = m.held + 1; ops = m.ops; bytes = m.bytes }) (set line m.held c) delta
  among-more g n e t h small =
      let was = h (shorter t c small) in
      let now = at t line delta m Lines e was.2 in
      let size : length (set line m.held c) ≡ length line = length-set line m.held c in
      let more = goes_on t (take m.held line) m.ops m.bytes delta c n now.1 in (
        omega (arith, was.0),
        was.1,
        (
          omega arith,
          subst (λ (u : Bytes). Begun (t ++ (c ∷ [])) u m.ops m.bytes delta) (sym (with_byte g)) more,
        ),
      )

  pub among-line : (r : Making) (left : Bytes) → m.held < length line → c ≡ 10
      → TakesLine (take (m.held + 1) (set line m.held c)) m.ops m.bytes delta r left → m.stage ≡ Lines → (t : Bytes) → Holds t m line delta
      → Holds (t ++ (c ∷ [])) r (set line m.held c) left
  among-line r left g q taken e t h small =
      let was = h (shorter t c small) in
      let now = at t line delta m Lines e was.2 in
      let size : length (set line m.held c) ≡ length line = length-set line m.held c in
      let room : longest_line ≤ length (set line m.held c) = omega (arith, was.0) in
      let feed : Bytes = line_feed in
      let small-feed : length (t ++ (10 ∷ [])) < numbers = subst (λ (x : ℕ). length (t ++ (x ∷ [])) < numbers) q small in
      let is = taken t (take m.held line) (set line m.held c) (with_byte g ∙ ap (λ (x : ℕ). take m.held line ++ (x ∷ [])) q) small-feed room was.1 now.1 in (
        room,
        is.0,
        subst (λ (x : ℕ). AtStage r.stage (t ++ (x ∷ [])) r.held r.ops r.bytes (set line m.held c) left) (sym q) is.1,
      )

-- a whole line
module _ (l : Bytes) (ops bytes : ℕ) (delta : Bytes) where
  pub taken-end : (s : Bool) → s ≡ same_bytes (end_line ops bytes) l → s ≡ true
      → TakesLine l ops bytes delta (record { stage = End; held = 0; ops = ops; bytes = bytes }) delta
  taken-end s p q t u memory e small room big b =
      (big, ends-here t u ops bytes delta b (ap (same_bytes (end_line ops bytes)) (sym e) ∙ sym p ∙ q))

  pub taken-bad : (r : ℕ) (out : Bytes) (s : Bool) (n : ℕ) (m : Making) → LineTold (read_line l) r out → r ≡ 0 → s ≡ same_bytes (end_line ops bytes) l → s ≡ false
      → (ops + 1 < numbers → n ≡ ops + 1) → m ≡ bad_at n → TakesLine l ops bytes delta m delta
  taken-bad r out s n m told z p q up is t u memory e small room big b =
      let read : LineTold (read_line (u ++ line_feed)) r out = subst (λ (x : Bytes). LineTold (read_line x) r out) e told in
      let all =
      is-bad (t ++ line_feed) memory delta n m is room big
      (neither t u ops bytes delta b small r n out read z (ap (same_bytes (end_line ops bytes)) (sym e) ∙ sym p ∙ q) up) in
      (all.1, all.2)

  pub taken_more : (r : ℕ) (out left : Bytes) (n k : ℕ) → LineTold (read_line l) r out → (r ≡ 0 → ⊥) → (ops + 1 < numbers → n ≡ ops + 1)
      → (bytes + r < numbers → k ≡ bytes + r) → left ≡ stored_at bytes (take r out) delta
      → TakesLine l ops bytes delta (record { stage = Lines; held = 0; ops = n; bytes = k }) left
  taken_more r out left n k told nz p q w t u memory e small room big b =
      let read : LineTold (read_line (u ++ line_feed)) r out = subst (λ (x : Bytes). LineTold (read_line x) r out) e told in
      let more = one_more t u ops bytes delta b small r out read nz big n k p q in
      let size : length left ≡ length delta = ap length w ∙ stored-long bytes (take r out) delta in (
        omega arith,
        (omega arith, subst (λ (x : Bytes). Begun (t ++ line_feed) [] n k x) (sym w) more),
      )

-- the end of the text
module _ (m : Making) (line delta t : Bytes) (small : length t < numbers) (h : Holds t m line delta) where
  pub ends-lines : (n : ℕ) → m.stage ≡ Lines → (m.ops + 1 < numbers → n ≡ m.ops + 1) → Outcome (unlist t) (Err (not_made.BadLine n)) delta
  ends-lines n e u =
      let now = at t line delta m Lines e (h small).2 in
      subst (λ (x : Unlisted). Outcome x (Err (not_made.BadLine n)) delta) (sym (missing t (take m.held line) m.ops m.bytes delta n now.1 small u)) refl

  pub ends-bad : (n : ℕ) → m.stage ≡ Bad n → Outcome (unlist t) (Err (not_made.BadLine n)) delta
  ends-bad n e =
      let failed : Failed t n = at t line delta m (Bad n) e (h small).2 in
      let is : unlist t ≡ NotInForm n = ap unlist (sym (append-nil t)) ∙ failed [] in
      subst (λ (x : Unlisted). Outcome x (Err (not_made.BadLine n)) delta) (sym is) refl

  pub ends-end : (r : Result ℕ NotMade) → m.stage ≡ End → r ≡ read_made m.bytes delta → Outcome (unlist t) r delta
  ends-end r e q = reads t m.ops m.bytes delta r (at t line delta m End e (h small).2) (h small).1 q

length-take-short : (r : ℕ) (l : Bytes) → length (take r l) ≤ length l
length-take-short zero l = omega arith
length-take-short (suc r) [] = omega arith
length-take-short (suc r) (b ∷ l) = omega (arith, length-take-short r l)

-- the operation's bytes are there
pub told-within : (x : LineRead) (r : ℕ) (out : Bytes) → LineTold x r out → r ≤ length out
unfolding size_of
told-within (Line o []) r out w = omega (arith, w.0, ap length w.1, length-take-short r out)
told-within (Line o (b ∷ l)) r out w = omega arith
told-within NoLine r out w = omega arith
