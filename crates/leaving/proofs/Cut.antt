-- Ticket 14 with nodes left alone: a delta cut at a Node and applied in two parts does what the uncut one does, in either order, of tables in any ways that allow it and of lent bytes of any
-- kind. Assumes nothing.
use Prim.Native.Nat.{ℕ, suc, ◌≤◌, ◌<◌}
use mathlib.Core.Path.{◌≡◌, refl, ap, ap₂, sym, ◌∙◌, subst}
use mathlib.Core.Bool.{true}
use mathlib.Core.List.{List, [], ◌∷◌, ◌++◌}
use mathlib.Core.Option.{Option, none, some}
use native.Mathlib.Omega.{arith}
use lib.ListN.{length, take, drop, length-append}
use borrow.Author.Tests.{le-leb}
use Rattle.fields.specs.Choice.{◌∈◌}
use Rattle.fields.specs.Numbers.{AreBytes}
use Rattle.fields.specs.Parts.{part, put}
use Rattle.fields.proofs.Lent.{seen_first}
use Rattle.fields.proofs.Numbers.{bytes_take, bytes_drop}
use Rattle.fields.proofs.Parts.{part-put}
use Rattle.rules.specs.Sizes.{numbers}
use Rattle.rules.specs.Node.{Node}
use Rattle.rules.specs.Table.{Table, node_of}
use Rattle.rules.specs.Delta.{Op, Ops, Good, Part, parts_of}
use Rattle.rules.specs.Given.{Given}
use Rattle.rules.specs.Apply.{ApplyOutcome, Lawful, Stream, Taking, Ways, answering, apply_each, apply_node, codes, on_node, ways_in}
use Rattle.rules.specs.Whole.{Whole, with_table, encode_whole, decode_whole, obeys_whole, valid_whole}
use Rattle.rules.specs.Lent.{TableAndList, stored_apply}
use Rattle.rules.specs.declared.NodeAnswer.{NodeAnswer}
use Rattle.std.specs.Prelude.{Ok, Result}
use Rattle.rules.specs.declared.DeltaFault.{DeltaFault}
use Rattle.rules.proofs.Refusing.{whole-bytes}
use Rattle.rules.proofs.Tables.{numbers-each}
use Rattle.table.proofs.Wholes.{whole-obeys}
use Rattle.profiles.proofs.Lawful.{kind-lawful}
use Rattle.delta_split.specs.Split.{cut_places, wanted, Roomy, given, AsUncut, Cuttable}
use Rattle.delta_split.proofs.Cutting.{parts_cut}
use Rattle.delta_split.proofs.Each.{Apart, answer_on, table_on, each-swapped}
use Rattle.delta_split.proofs.Parts.{Parts, Says, accepted, parts-of, by_three, kind-cuttable}
use Rattle.leaving.specs.Leaving.{leaving, leaving_each, leaving_ops, apply_leaving, lent_leaving, kept, told}
use Rattle.leaving.specs.Cut.{in_order, reversed, lent_in_order, lent_reversed}
use Rattle.leaving.proofs.Left.{Beside, by-ops, each-beside, each_left}
use Rattle.leaving.proofs.Keeps.{leaving-whole}
use Rattle.leaving.proofs.Lent.{leaving-encoded}

-- ---- two goes

each-cons : (own : List ℕ) (take : Taking) (x : Part) (xs : List Part) (t : Table)
    → leaving_each own take (x ∷ xs) t
    ≡ answering (answer_on (leaving own take x.number) x (node_of x.number t)) (leaving_each own take xs (table_on (leaving own take x.number) x (node_of x.number t) t))
unfolding leaving_each
each-cons own take x xs t = go (node_of x.number t)
  where
    go : (o : Option Node) → on_node (leaving own take x.number) x o t (leaving_each own take xs) ≡ answering (answer_on (leaving own take x.number) x o) (leaving_each own take xs (table_on (leaving own take x.number) x o t))
    go none = refl
    go (some n) = refl

abbrev joined : (first second : Stream) → Stream
joined s u = record { answers = s.answers ++ u.answers; table = u.table }

each_append : (own : List ℕ) (take : Taking) (xs ys : List Part) (t : Table)
    → leaving_each own take (xs ++ ys) t ≡ joined (leaving_each own take xs t) (leaving_each own take ys (leaving_each own take xs t).table)
unfolding leaving_each
each_append own take [] ys t = refl
each_append own take (x ∷ xs) ys t =
    each-cons own take x (xs ++ ys) t
    ∙ ap (answering (answer_on (leaving own take x.number) x (node_of x.number t))) (each_append own take xs ys (table_on (leaving own take x.number) x (node_of x.number t) t))
    ∙ ap (λ (s : Stream). joined s (leaving_each own take ys s.table)) (sym (each-cons own take x xs t))

each_long : (own : List ℕ) (take : Taking) (xs : List Part) (t : Table) → length (leaving_each own take xs t).answers ≡ length xs
unfolding leaving_each
each_long own take [] t = refl
each_long own take (x ∷ xs) t = ap (λ (s : Stream). length s.answers) (each-cons own take x xs t) ∙ ap suc (each_long own take xs (table_on (leaving own take x.number) x (node_of x.number t) t))

-- those of xs behind those of ys, of other nodes: by what they do without leaving any alone
module _ (own : List ℕ) (take : Taking) (t : Table) where
  -- those of xs behind those of ys
  behind : (xs ys : List Part) → Beside own t xs (apply_each take xs (apply_each take ys t).table) (leaving_each own take xs (leaving_each own take ys t).table)
  behind xs ys =
      let v : Table = (apply_each take ys t).table in
      subst (λ (z : Table). Beside own t xs (apply_each take xs v) (leaving_each own take xs z)) (sym (each_left own take ys t).table_is) (each-beside own take t xs v (numbers-each take ys t))

  swapped : (xs ys : List Part) → Apart xs ys
      → ((leaving_each own take xs (leaving_each own take ys t).table).answers ≡ (leaving_each own take xs t).answers)
      × ((leaving_each own take xs (leaving_each own take ys t).table).table ≡ (leaving_each own take ys (leaving_each own take xs t).table).table)
      × ((leaving_each own take ys (leaving_each own take xs t).table).answers ≡ (leaving_each own take ys t).answers)
  swapped xs ys a =
      let s = each-swapped take xs ys t a in (
        (behind xs ys).answers_are ∙ ap (told own t xs) s.0 ∙ sym (each_left own take xs t).answers_are,
        (behind xs ys).table_is ∙ ap (kept own t) s.1 ∙ sym (behind ys xs).table_is,
        (behind ys xs).answers_are ∙ ap (told own t ys) s.2 ∙ sym (each_left own take ys t).answers_are,
      )

-- ---- a call that is accepted

codes-long : (l : List NodeAnswer) → length (codes l) ≡ length l
unfolding codes
codes-long [] = refl
codes-long (a ∷ l) = ap suc (codes-long l)

codes-append : (l m : List NodeAnswer) → codes (l ++ m) ≡ codes l ++ codes m
unfolding codes
codes-append [] m = refl
codes-append (a ∷ l) m = ap₂ (λ (c : ℕ) (r : List ℕ). c ∷ r) refl (codes-append l m)

pub call-accepted : (own : List ℕ) (ways : Ways) (b : List ℕ) (ops : List Op) (now : ℕ) (t : Table) (l : List ℕ) → ways.reads b ≡ Good ops → length (parts_of ops) ≤ length l
    → apply_leaving own ways b now t l ≡ accepted (leaving_each own (apply_node ways now) (parts_of ops) t) (length (parts_of ops)) l
call-accepted own ways b ops now t l r h =
    by-ops own ways b now t l
    ∙ ap (λ (o : Ops). leaving_ops own (apply_node ways now) o t l) r
    ∙ rw (le-leb (length (parts_of ops)) (length l) h) refl

tells : (own : List ℕ) (take : Taking) (xs : List Part) (t : Table) (l : List ℕ) → length xs ≤ length l
    → given (Ok (length xs)) (put 0 (codes (leaving_each own take xs t).answers) l) ≡ codes (leaving_each own take xs t).answers
tells own take xs t l h =
    let c : List ℕ = codes (leaving_each own take xs t).answers in
    let e : length c ≡ length xs = codes-long (leaving_each own take xs t).answers ∙ each_long own take xs t in
    seen_first (length xs) (put 0 c l) ∙ ap (λ (n : ℕ). part 0 n (put 0 c l)) (sym e) ∙ part-put 0 c l (omega arith)

-- ---- both calls

module _ (own : List ℕ) (take : Taking) (xs ys : List Part) (t : Table) (list list₁ list₂ : List ℕ) (h : length (xs ++ ys) ≤ length list) (h₁ : length xs ≤ length list₁) (h₂ : length ys ≤ length list₂) where
  together : (t₁ t₂ : Table) → (leaving_each own take xs t₁).answers ≡ (leaving_each own take xs t).answers → (leaving_each own take ys t₂).answers ≡ (leaving_each own take ys (leaving_each own take xs t).table).answers
      → (after : Table) → after ≡ (leaving_each own take ys (leaving_each own take xs t).table).table
      → let w : ApplyOutcome = accepted (leaving_each own take (xs ++ ys) t) (length (xs ++ ys)) list in
      let one : ApplyOutcome = accepted (leaving_each own take xs t₁) (length xs) list₁ in
      let two : ApplyOutcome = accepted (leaving_each own take ys t₂) (length ys) list₂ in
      AsUncut w.answer one.answer two.answer w.list one.list two.list w.table after
  together t₁ t₂ a₁ a₂ after e =
      let all = each_append own take xs ys t in
      record {
        n₁ = length xs;
        n₂ = length ys;
        first_is = refl;
        second_is = refl;
        whole_is = ap Ok (length-append xs ys);
        answers =
            tells own take (xs ++ ys) t list h
            ∙ ap (λ (s : Stream). codes s.answers) all
            ∙ codes-append (leaving_each own take xs t).answers (leaving_each own take ys (leaving_each own take xs t).table).answers
            ∙ ap₂ (λ (k l : List ℕ). k ++ l) (ap codes (sym a₁) ∙ sym (tells own take xs t₁ list₁ h₁)) (ap codes (sym a₂) ∙ sym (tells own take ys t₂ list₂ h₂));
        table_is = e ∙ ap (λ (s : Stream). s.table) (sym all);
      }

module _ (own : List ℕ) (ways : Ways) (lawful : Lawful ways) (cuttable : Cuttable ways) (b : List ℕ) (are : AreBytes b) (place : ℕ) (at : place ∈ cut_places (ways.reads b)) (now : ℕ) (t : Table)
    (list list₁ list₂ : List ℕ) (h : wanted (ways.reads b) ≤ length list) (h₁ : wanted (ways.reads (take place b)) ≤ length list₁)
    (h₂ : wanted (ways.reads (drop place b)) ≤ length list₂) where
  cut : Parts ways b place
  cut = parts-of ways lawful cuttable b are place (ways.reads b) refl at

  abbrev xs : List Part
  xs = parts_of cut.first

  abbrev ys : List Part
  ys = parts_of cut.second

  abbrev each : List Part → Table → Stream
  each = leaving_each own (apply_node ways now)

  -- the parts of the whole are those of both
  whole_parts : parts_of (cut.first ++ cut.second) ≡ xs ++ ys
  whole_parts = parts_cut cut.first cut.second cut.from_node

  room : length (xs ++ ys) ≤ length list
  room = subst (λ (n : ℕ). n ≤ length list) (ap wanted cut.whole_read ∙ ap length whole_parts) h

  room₁ : length xs ≤ length list₁
  room₁ = subst (λ (n : ℕ). n ≤ length list₁) (ap wanted cut.first_read) h₁

  room₂ : length ys ≤ length list₂
  room₂ = subst (λ (n : ℕ). n ≤ length list₂) (ap wanted cut.second_read) h₂

  whole-call : apply_leaving own ways b now t list ≡ accepted (each (xs ++ ys) t) (length (xs ++ ys)) list
  whole-call =
      call-accepted own ways b (cut.first ++ cut.second) now t list cut.whole_read (subst (λ (ps : List Part). length ps ≤ length list) (sym whole_parts) room)
      ∙ ap (λ (ps : List Part). accepted (each ps t) (length ps) list) whole_parts

  first-call : (u : Table) → apply_leaving own ways (take place b) now u list₁ ≡ accepted (each xs u) (length xs) list₁
  first-call u = call-accepted own ways (take place b) cut.first now u list₁ cut.first_read room₁

  second_call : (u : Table) → apply_leaving own ways (drop place b) now u list₂ ≡ accepted (each ys u) (length ys) list₂
  second_call u = call-accepted own ways (drop place b) cut.second now u list₂ cut.second_read room₂

  -- the first part, then the second
  pub cut-in-order : let o = in_order own ways b place now t list₁ list₂ in
      let w = apply_leaving own ways b now t list in
      AsUncut w.answer o.first.answer o.second.answer w.list o.first.list o.second.list w.table o.second.table
  cut-in-order =
      let u : Table = (each xs t).table in
      by_three (λ w one two. Says w one two two) whole-call (first-call t) (ap (λ (o : ApplyOutcome). apply_leaving own ways (drop place b) now o.table list₂) (first-call t) ∙ second_call u)
      (together own (apply_node ways now) xs ys t list list₁ list₂ room room₁ room₂ t u refl refl (each ys u).table refl)

  -- the second part, then the first
  pub cut-reversed : let o = reversed own ways b place now t list₁ list₂ in
      let w = apply_leaving own ways b now t list in
      AsUncut w.answer o.first.answer o.second.answer w.list o.first.list o.second.list w.table o.first.table
  cut-reversed =
      let v : Table = (each ys t).table in
      let s = swapped own (apply_node ways now) t xs ys cut.apart in
      by_three (λ w one two. Says w one two one) whole-call (ap (λ (o : ApplyOutcome). apply_leaving own ways (take place b) now o.table list₁) (second_call t) ∙ first-call v) (second_call t)
      (together own (apply_node ways now) xs ys t list list₁ list₂ room room₁ room₂ v t s.0 (sym s.2) (each xs v).table s.1)

-- ---- of lent bytes

module _ (own : List ℕ) (w : Whole) (o : obeys_whole w ≡ true) (now : ℕ) (fits : now < numbers) where
  abbrev ways : Ways
  ways = ways_in w.kind

  -- one call after another
  then-apply : (b c : List ℕ) → AreBytes b → (l k : List ℕ)
      → lent_leaving own c now k (lent_leaving own b now l (encode_whole w)).lent.table ≡ stored_apply w (apply_leaving own ways c now (apply_leaving own ways b now w.table l).table k)
  then-apply b c are l k =
      ap (λ (g : Given (Result ℕ DeltaFault) TableAndList). lent_leaving own c now k g.lent.table) (leaving-encoded own w o b now l)
      ∙ leaving-encoded own (with_table (apply_leaving own ways b now w.table l).table w) (leaving-whole own w o b are now fits l) c now k

-- of three calls, the last of them being the later one
abbrev Told : (whole one two last : Given (Result ℕ DeltaFault) TableAndList) → Type 0
Told w one two last = AsUncut w.answer one.answer two.answer w.lent.list one.lent.list two.lent.list w.lent.table last.lent.table

-- tables that are the same have the same bytes
in_bytes : (w : Whole) {x y z : (Result ℕ DeltaFault)} {l l₁ l₂ : List ℕ} {u v : Table} → AsUncut x y z l l₁ l₂ u v → AsUncut x y z l l₁ l₂ (encode_whole (with_table u w)) (encode_whole (with_table v w))
in_bytes w a =
    record { n₁ = a.n₁; n₂ = a.n₂; first_is = a.first_is; second_is = a.second_is; whole_is = a.whole_is; answers = a.answers; table_is = ap (λ (t : Table). encode_whole (with_table t w)) a.table_is }

module _ (own b : List ℕ) (are : AreBytes b) (place now : ℕ) (fits : now < numbers) (list list₁ list₂ : List ℕ) where
  module _ (w : Whole) (o : obeys_whole w ≡ true) (at : place ∈ cut_places ((ways_in w.kind).reads b)) (room : Roomy (ways_in w.kind) b place list list₁ list₂) where
    whole-in-order : let c = lent_in_order own b place now (encode_whole w) list₁ list₂ in Told (lent_leaving own b now list (encode_whole w)) c.first c.second c.second
    whole-in-order =
        by_three (λ x one two. Told x one two two) (leaving-encoded own w o b now list) (leaving-encoded own w o (take place b) now list₁)
        (then-apply own w o now fits (take place b) (drop place b) (bytes_take place b are) list₁ list₂)
        (in_bytes w
        (cut-in-order own (ways_in w.kind) (kind-lawful w.kind) (kind-cuttable w.kind) b are place at now w.table list list₁ list₂ room.0 room.1 room.2))

    whole-reversed : let c = lent_reversed own b place now (encode_whole w) list₁ list₂ in Told (lent_leaving own b now list (encode_whole w)) c.first c.second c.first
    whole-reversed =
        by_three (λ x one two. Told x one two one) (leaving-encoded own w o b now list)
        (then-apply own w o now fits (drop place b) (take place b) (bytes_drop place b are) list₂ list₁) (leaving-encoded own w o (drop place b) now list₂)
        (in_bytes w
        (cut-reversed own (ways_in w.kind) (kind-lawful w.kind) (kind-cuttable w.kind) b are place at now w.table list list₁ list₂ room.0 room.1 room.2))

  -- Ticket 14 where the hub leaves its own nodes alone: a table that 14 does not refuse, in its mode and its profile; a delta that is accepted, cut at the start of a Node operation, at the same
  -- time of receipt; enough answer places. The two parts in either order leave the bytes that the uncut delta leaves, and their answers are its answers.
  module _ (table : List ℕ) (v : valid_whole table ≡ true) (at : place ∈ cut_places ((ways_in (decode_whole table).kind).reads b)) (room : Roomy (ways_in (decode_whole table).kind) b place list list₁ list₂) where
    pub lent-in-order : let w = lent_leaving own b now list table in
        let c = lent_in_order own b place now table list₁ list₂ in
        AsUncut w.answer c.first.answer c.second.answer w.lent.list c.first.lent.list c.second.lent.list w.lent.table c.second.lent.table
    lent-in-order =
        subst (λ (x : List ℕ). let c = lent_in_order own b place now x list₁ list₂ in Told (lent_leaving own b now list x) c.first c.second c.second) (whole-bytes table v)
        (whole-in-order (decode_whole table) (whole-obeys table v) at room)

    pub lent-reversed : let w = lent_leaving own b now list table in
        let c = lent_reversed own b place now table list₁ list₂ in
        AsUncut w.answer c.first.answer c.second.answer w.lent.list c.first.lent.list c.second.lent.list w.lent.table c.first.lent.table
    lent-reversed =
        subst (λ (x : List ℕ). let c = lent_reversed own b place now x list₁ list₂ in Told (lent_leaving own b now list x) c.first c.second c.first) (whole-bytes table v)
        (whole-reversed (decode_whole table) (whole-obeys table v) at room)
