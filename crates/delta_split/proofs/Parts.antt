-- A delta cut at a Node and applied in two parts does what the uncut one does, in either order, in any ways that allow it. Assumes nothing.
use Prim.Native.Nat.{ℕ, suc, ◌+◌, ◌≤◌}
use mathlib.Core.Path.{◌≡◌, refl, ap, ap₂, sym, ◌∙◌, subst}
use mathlib.Core.List.{List, [], ◌∷◌, ◌++◌}
use mathlib.Core.Option.{Option, none, some}
use native.Mathlib.Omega.{arith}
use native.Mathlib.Nat.{add-zero, zero-add}
use lib.ListN.{length, take, drop, length-append}
use lib.Seq.{take_at, drop_at}
use borrow.Author.Tests.{le-leb}
use Rattle.fields.specs.Choice.{◌∈◌, here, later}
use Rattle.fields.specs.Numbers.{AreBytes}
use Rattle.fields.specs.Blocks.{flat}
use Rattle.fields.specs.Parts.{part, put}
use Rattle.fields.proofs.Choice.{in-none}
use Rattle.fields.proofs.Lent.{seen_first}
use Rattle.fields.proofs.Parts.{part-put}
use Rattle.rules.specs.Sizes.{max_delta}
use Rattle.rules.specs.Node.{Node}
use Rattle.rules.specs.Table.{Table, node_of, set_node}
use Rattle.rules.specs.Delta.{Op, NodeOp, KeyValueOp, SetMaxVersionOp, Ops, Good, Faulty, size_of, op_bytes, delta_bytes, nothing_read, Part, parts_of, read_delta}
use Rattle.rules.specs.Apply.{ApplyOutcome, Lawful, Stream, Taking, Ways, apply, apply_each, apply_node, apply_ops, codes, on_node, ways_in}
use Rattle.rules.specs.Profile.{Kind}
use Rattle.rules.specs.declared.NodeAnswer.{NodeAnswer}
use Rattle.std.specs.Prelude.{Ok}
use Rattle.rules.proofs.Deltas.{AllSmall, Chain, read-delta, delta-is}
use Rattle.profiles.proofs.Reading.{delta-formed, delta-plain, form-first, form-second}
use Rattle.delta_split.specs.Split.{node_tags, cut_places, wanted, in_order, reversed, given, AsUncut, FromNode, Cuttable}
use Rattle.delta_split.proofs.Cutting.{parts_cut, bytes_cut, small-first, small-second, chain_first, chain_second, parts-apart}
use Rattle.delta_split.proofs.Each.{Apart, each_append, each-swapped}

-- ---- the operations on both sides of a Node's tag

pub record CutOps (a place : ℕ) (ops : List Op) : Type 0 where
  pub first : List Op
  pub second : List Op
  pub ops_are : ops ≡ first ++ second
  pub from_node : FromNode second
  pub place_is : place ≡ a + length (delta_bytes first)

-- one operation more before them
with_first : (a place : ℕ) (o : Op) (ops : List Op) → CutOps (a + size_of o) place ops → CutOps a place (o ∷ ops)
unfolding size_of delta_bytes flat
with_first a place o ops c =
    record {
      first = o ∷ c.first;
      second = c.second;
      ops_are = ap (λ (l : List Op). o ∷ l) c.ops_are;
      from_node = c.from_node;
      place_is = c.place_is ∙ rw (length-append (op_bytes o) (flat op_bytes c.first)) (omega arith);
    }

pub tag-cuts : (a place : ℕ) (ops : List Op) → place ∈ node_tags a ops → CutOps a place ops
unfolding node_tags delta_bytes flat
tag-cuts a place [] m = absurd (in-none m)
tag-cuts a place (NodeOp n g f ∷ ops) (here e) = record { first = []; second = NodeOp n g f ∷ ops; ops_are = refl; from_node = tt; place_is = e ∙ sym (add-zero a) }
tag-cuts a place (NodeOp n g f ∷ ops) (later m) = with_first a place (NodeOp n g f) ops (tag-cuts (a + size_of (NodeOp n g f)) place ops m)
tag-cuts a place (KeyValueOp r ∷ ops) m = with_first a place (KeyValueOp r) ops (tag-cuts (a + size_of (KeyValueOp r)) place ops m)
tag-cuts a place (SetMaxVersionOp x ∷ ops) m = with_first a place (SetMaxVersionOp x) ops (tag-cuts (a + size_of (SetMaxVersionOp x)) place ops m)

-- ---- document 01's reading, of both parts

pub read-both : (xs ys : List Op) → FromNode ys → Chain nothing_read (xs ++ ys) → AllSmall (xs ++ ys) → length (delta_bytes (xs ++ ys)) ≤ max_delta
    → (read_delta (delta_bytes xs) ≡ Good xs) × (read_delta (delta_bytes ys) ≡ Good ys)
read-both xs ys k chain small short =
    let long : length (delta_bytes xs) + length (delta_bytes ys) ≤ max_delta = subst (λ (n : ℕ). n ≤ max_delta) (ap length (bytes_cut xs ys) ∙ length-append (delta_bytes xs) (delta_bytes ys)) short in (
      read-delta xs (chain_first nothing_read xs ys chain) (small-first xs ys small) (omega arith),
      read-delta ys (chain_second nothing_read xs ys k chain) (small-second xs ys small) (omega arith),
    )

pub read-parts : (xs ys : List Op) → FromNode ys → AreBytes (delta_bytes (xs ++ ys)) → read_delta (delta_bytes (xs ++ ys)) ≡ Good (xs ++ ys)
    → (read_delta (delta_bytes xs) ≡ Good xs) × (read_delta (delta_bytes ys) ≡ Good ys)
read-parts xs ys k are r = let d = delta-is (delta_bytes (xs ++ ys)) (xs ++ ys) are r in read-both xs ys k d.0.chain d.0.small d.1

-- ---- a call that is accepted

each_long : (take : Taking) (xs : List Part) (t : Table) → length (apply_each take xs t).answers ≡ length xs
unfolding apply_each
each_long take [] t = refl
each_long take (x ∷ xs) t = go (node_of x.number t) (λ u. each_long take xs u)
  where
    go : (o : Option Node) → ((u : Table) → length (apply_each take xs u).answers ≡ length xs) → length (on_node take x o t (apply_each take xs)).answers ≡ suc (length xs)
    go none ih = ap suc (ih t)
    go (some n) ih = ap suc (ih (set_node x.number (take x.delta n).node t))

codes-long : (l : List NodeAnswer) → length (codes l) ≡ length l
unfolding codes
codes-long [] = refl
codes-long (a ∷ l) = ap suc (codes-long l)

codes-append : (l m : List NodeAnswer) → codes (l ++ m) ≡ codes l ++ codes m
unfolding codes
codes-append [] m = refl
codes-append (a ∷ l) m = ap₂ (λ (c : ℕ) (r : List ℕ). c ∷ r) refl (codes-append l m)

-- the node deltas are taken, and the answers told
abbrev pub accepted : Stream → ℕ → List ℕ → ApplyOutcome
accepted s n l = record { answer = Ok n; table = s.table; list = put 0 (codes s.answers) l }

pub call-accepted : (ways : Ways) (b : List ℕ) (ops : List Op) (now : ℕ) (t : Table) (l : List ℕ) → ways.reads b ≡ Good ops → length (parts_of ops) ≤ length l
    → apply ways b now t l ≡ accepted (apply_each (apply_node ways now) (parts_of ops) t) (length (parts_of ops)) l
unfolding apply
call-accepted ways b ops now t l r h =
    ap (λ (o : Ops). apply_ops (apply_node ways now) o t l) r
    ∙ rw (le-leb (length (parts_of ops)) (length l) h) refl

-- as many as there are node deltas, from the front of the list
told : (take : Taking) (xs : List Part) (t : Table) (l : List ℕ) → length xs ≤ length l
    → given (Ok (length xs)) (put 0 (codes (apply_each take xs t).answers) l) ≡ codes (apply_each take xs t).answers
told take xs t l h =
    let c : List ℕ = codes (apply_each take xs t).answers in
    let e : length c ≡ length xs = codes-long (apply_each take xs t).answers ∙ each_long take xs t in
    seen_first (length xs) (put 0 c l) ∙ ap (λ (n : ℕ). part 0 n (put 0 c l)) (sym e) ∙ part-put 0 c l (omega arith)

-- ---- the two parts of a delta that was read

pub record Parts (ways : Ways) (b : List ℕ) (place : ℕ) : Type 0 where
  pub first : List Op
  pub second : List Op
  pub from_node : FromNode second
  pub whole_read : ways.reads b ≡ Good (first ++ second)
  pub first_read : ways.reads (take place b) ≡ Good first
  pub second_read : ways.reads (drop place b) ≡ Good second
  pub apart : Apart (parts_of first) (parts_of second)

module _ (ways : Ways) (lawful : Lawful ways) (cuttable : Cuttable ways) (b : List ℕ) (are : AreBytes b) (place : ℕ) where
  pub parts-of : (o : Ops) → ways.reads b ≡ o → place ∈ cut_places o → Parts ways b place
  parts-of (Faulty r at) e m = absurd (in-none m)
  parts-of (Good ops) e m =
      let c : CutOps 0 place ops = tag-cuts 0 place ops m in
      let xs : List Op = c.first in
      let ys : List Op = c.second in
      let read : ways.reads b ≡ Good (xs ++ ys) = e ∙ ap Good c.ops_are in
      let d = delta-is b (xs ++ ys) are (lawful.reads_so b (xs ++ ys) read) in
      let bytes : delta_bytes (xs ++ ys) ≡ b = d.0.bytes in
      let two : b ≡ delta_bytes xs ++ delta_bytes ys = sym bytes ∙ bytes_cut xs ys in
      let long : length (delta_bytes xs) ≡ place = sym (c.place_is ∙ zero-add (length (delta_bytes xs))) in
      let both = cuttable xs ys c.from_node (subst AreBytes (sym bytes) are) (ap ways.reads bytes ∙ read) in
      record {
        first = xs;
        second = ys;
        from_node = c.from_node;
        whole_read = read;
        first_read = ap (λ (l : List ℕ). ways.reads (take place l)) two ∙ ap ways.reads (take_at (delta_bytes xs) (delta_bytes ys) place long) ∙ both.0;
        second_read = ap (λ (l : List ℕ). ways.reads (drop place l)) two ∙ ap ways.reads (drop_at (delta_bytes xs) (delta_bytes ys) place long) ∙ both.1;
        apart = parts-apart nothing_read xs ys d.0.chain;
      }

-- ---- both calls

-- what the outcomes of the three calls say, if the second's answers and the table after both are those of the uncut delta
module _ (take : Taking) (xs ys : List Part) (t : Table) (list list₁ list₂ : List ℕ) (h : length (xs ++ ys) ≤ length list) (h₁ : length xs ≤ length list₁) (h₂ : length ys ≤ length list₂) where
  together : (t₁ t₂ : Table) → (apply_each take xs t₁).answers ≡ (apply_each take xs t).answers → (apply_each take ys t₂).answers ≡ (apply_each take ys (apply_each take xs t).table).answers
      → (after : Table) → after ≡ (apply_each take ys (apply_each take xs t).table).table
      → let w : ApplyOutcome = accepted (apply_each take (xs ++ ys) t) (length (xs ++ ys)) list in
      let one : ApplyOutcome = accepted (apply_each take xs t₁) (length xs) list₁ in
      let two : ApplyOutcome = accepted (apply_each take ys t₂) (length ys) list₂ in
      AsUncut w.answer one.answer two.answer w.list one.list two.list w.table after
  together t₁ t₂ a₁ a₂ after e =
      let all = each_append take xs ys t in
      record {
        n₁ = length xs;
        n₂ = length ys;
        first_is = refl;
        second_is = refl;
        whole_is = ap Ok (length-append xs ys);
        answers =
            told take (xs ++ ys) t list h
            ∙ ap (λ (s : Stream). codes s.answers) all
            ∙ codes-append (apply_each take xs t).answers (apply_each take ys (apply_each take xs t).table).answers
            ∙ ap₂ (λ (k l : List ℕ). k ++ l) (ap codes (sym a₁) ∙ sym (told take xs t₁ list₁ h₁)) (ap codes (sym a₂) ∙ sym (told take ys t₂ list₂ h₂));
        table_is = e ∙ ap (λ (s : Stream). s.table) (sym all);
      }

-- what holds of three things holds of three that are the same
pub by_three : {A : Type 0} (P : A → A → A → Type 0) {w w' one one' two two' : A} → w ≡ w' → one ≡ one' → two ≡ two' → P w' one' two' → P w one two
by_three {A} P {w} {w'} {one} {one'} {two} {two'} e f g s =
    subst (λ (x : A). P x one two) (sym e) (subst (λ (x : A). P w' x two) (sym f) (subst (λ (x : A). P w' one' x) (sym g) s))

-- of three outcomes, the last of them being the later one's
abbrev pub Says : (whole one two last : ApplyOutcome) → Type 0
Says w one two last = AsUncut w.answer one.answer two.answer w.list one.list two.list w.table last.table

module _ (ways : Ways) (lawful : Lawful ways) (cuttable : Cuttable ways) (b : List ℕ) (are : AreBytes b) (place : ℕ) (at : place ∈ cut_places (ways.reads b)) (now : ℕ) (t : Table)
    (list list₁ list₂ : List ℕ) (h : wanted (ways.reads b) ≤ length list) (h₁ : wanted (ways.reads (take place b)) ≤ length list₁)
    (h₂ : wanted (ways.reads (drop place b)) ≤ length list₂) where
  cut : Parts ways b place
  cut = parts-of ways lawful cuttable b are place (ways.reads b) refl at

  abbrev xs : List Part
  xs = parts_of cut.first

  abbrev ys : List Part
  ys = parts_of cut.second

  -- the parts of the whole are those of both
  whole_parts : parts_of (cut.first ++ cut.second) ≡ xs ++ ys
  whole_parts = parts_cut cut.first cut.second cut.from_node

  room : length (xs ++ ys) ≤ length list
  room = subst (λ (n : ℕ). n ≤ length list) (ap wanted cut.whole_read ∙ ap length whole_parts) h

  room₁ : length xs ≤ length list₁
  room₁ = subst (λ (n : ℕ). n ≤ length list₁) (ap wanted cut.first_read) h₁

  room₂ : length ys ≤ length list₂
  room₂ = subst (λ (n : ℕ). n ≤ length list₂) (ap wanted cut.second_read) h₂

  whole-call : apply ways b now t list ≡ accepted (apply_each (apply_node ways now) (xs ++ ys) t) (length (xs ++ ys)) list
  whole-call =
      call-accepted ways b (cut.first ++ cut.second) now t list cut.whole_read (subst (λ (ps : List Part). length ps ≤ length list) (sym whole_parts) room)
      ∙ ap (λ (ps : List Part). accepted (apply_each (apply_node ways now) ps t) (length ps) list) whole_parts

  first-call : (u : Table) → apply ways (take place b) now u list₁ ≡ accepted (apply_each (apply_node ways now) xs u) (length xs) list₁
  first-call u = call-accepted ways (take place b) cut.first now u list₁ cut.first_read room₁

  second_call : (u : Table) → apply ways (drop place b) now u list₂ ≡ accepted (apply_each (apply_node ways now) ys u) (length ys) list₂
  second_call u = call-accepted ways (drop place b) cut.second now u list₂ cut.second_read room₂

  -- the first part, then the second
  pub cut-in-order : let o = in_order ways b place now t list₁ list₂ in
      let w = apply ways b now t list in
      AsUncut w.answer o.first.answer o.second.answer w.list o.first.list o.second.list w.table o.second.table
  cut-in-order =
      let u : Table = (apply_each (apply_node ways now) xs t).table in
      by_three (λ w one two. Says w one two two) whole-call (first-call t) (ap (λ (o : ApplyOutcome). apply ways (drop place b) now o.table list₂) (first-call t) ∙ second_call u)
      (together (apply_node ways now) xs ys t list list₁ list₂ room room₁ room₂ t u refl refl (apply_each (apply_node ways now) ys u).table refl)

  -- the second part, then the first
  pub cut-reversed : let o = reversed ways b place now t list₁ list₂ in
      let w = apply ways b now t list in
      AsUncut w.answer o.first.answer o.second.answer w.list o.first.list o.second.list w.table o.first.table
  cut-reversed =
      let v : Table = (apply_each (apply_node ways now) ys t).table in
      let s = each-swapped (apply_node ways now) xs ys t cut.apart in
      by_three (λ w one two. Says w one two one) whole-call (ap (λ (o : ApplyOutcome). apply ways (take place b) now o.table list₁) (second_call t) ∙ first-call v) (second_call t)
      (together (apply_node ways now) xs ys t list list₁ list₂ room room₁ room₂ v t s.0 (sym s.2) (apply_each (apply_node ways now) xs v).table s.1)

-- ---- in every mode and profile

pub kind-cuttable : (k : Kind) → Cuttable (ways_in k)
kind-cuttable k xs ys c are e =
    let z = delta-plain k.profile (delta_bytes (xs ++ ys)) (xs ++ ys) e in
    let r = read-parts xs ys c are z.0 in (
      delta-formed k.profile (delta_bytes xs) xs (form-first k.profile xs ys z.1) r.0,
      delta-formed k.profile (delta_bytes ys) ys (form-second k.profile xs ys z.1) r.1,
    )
