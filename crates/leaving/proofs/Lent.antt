-- The same of lent bytes, of any kind of table: what is refused, and what is left where it is not. Assumes nothing.
use Prim.Native.Nat.{ℕ, ◌<◌}
use mathlib.Core.Path.{◌≡◌, refl, ap, sym, ◌∙◌, subst}
use mathlib.Core.Bool.{Bool, true, false}
use mathlib.Core.List.{List, []}
use native.Mathlib.Omega.{arith}
use lib.ListN.{length}
use lib.Dec.{leb}
use Rattle.fields.specs.Choice.{pick}
use Rattle.fields.specs.Numbers.{AreBytes}
use Rattle.fields.specs.Parts.{put}
use Rattle.rules.specs.Sizes.{numbers}
use Rattle.rules.specs.Table.{Table, node_of, among}
use Rattle.rules.specs.Delta.{Part, Ops, Good, Faulty, parts_of}
use Rattle.rules.specs.Given.{Given, given}
use Rattle.rules.specs.Apply.{Ways, ApplyOutcome, apply_node, apply, codes, ways_in}
use Rattle.rules.specs.Whole.{Whole, with_table, encode_whole, decode_whole, obeys_whole, valid_whole}
use Rattle.rules.specs.Lent.{TableAndList, both, stored_apply, lent_apply, lent_apply_as}
use Rattle.std.specs.Prelude.{Err, Ok, Result}
use Rattle.rules.specs.declared.DeltaFault.{DeltaFault}
use Rattle.rules.specs.declared.Refusal.{Refusal}
use Rattle.rules.specs.declared.Refusal.TheVariants.{NoPlace, BadTable}
use Rattle.rules.proofs.Refusing.{whole-bytes}
use Rattle.table.proofs.Wholes.{decode-encode-whole, valid-encode-whole, whole-obeys}
use Rattle.leaving.specs.Leaving.{leaving_each, leaving_ops, apply_leaving, lent_leaving, lent_leaving_as, kept}
use Rattle.leaving.proofs.Left.{by-ops, same_answer, left-table, named-stays, others-apply}
use Rattle.leaving.proofs.Keeps.{leaving-whole}

-- equal by definition
pub none_lent : (delta : List ℕ) (now : ℕ) (list table : List ℕ) → lent_leaving [] delta now list table ≡ lent_apply delta now list table
unfolding lent_leaving_as lent_apply_as apply_leaving
none_lent delta now list table = refl

-- ---- what is refused

-- it answers what `lent_apply` answers, of any bytes whatever
pub lent-answer : (own : List ℕ) (ways : Ways) (delta : List ℕ) (now : ℕ) (list table : List ℕ) → (lent_leaving_as own ways delta now list table).answer ≡ (lent_apply_as ways delta now list table).answer
unfolding lent_leaving_as lent_apply_as
lent-answer own ways delta now list table = go (valid_whole table)
  where
    t : Table
    t = (decode_whole table).table

    go : (b : Bool) → (pick b (stored_apply (decode_whole table) (apply_leaving own ways delta now (decode_whole table).table list)) (given (Err (record { why = BadTable; at = 0 })) (both table list))).answer
        ≡ (pick b (stored_apply (decode_whole table) (apply ways delta now (decode_whole table).table list)) (given (Err (record { why = BadTable; at = 0 })) (both table list))).answer
    go true = same_answer own ways delta now (decode_whole table).table list
    go false = refl

-- and a refused call changes nothing
pub leaving-refused : (own : List ℕ) (ways : Ways) (bytes : List ℕ) (now : ℕ) (t : Table) (l : List ℕ) (r : Refusal) (at : ℕ) → (apply_leaving own ways bytes now t l).answer ≡ (Err (record { why = r; at = at }))
    → ((apply_leaving own ways bytes now t l).table ≡ t) × ((apply_leaving own ways bytes now t l).list ≡ l)
leaving-refused own ways bytes now t l r at =
    subst (λ (o : ApplyOutcome). o.answer ≡ (Err (record { why = r; at = at })) → (o.table ≡ t) × (o.list ≡ l)) (sym (by-ops own ways bytes now t l)) (go (ways.reads bytes))
  where
    room : (xs : List Part) (b : Bool)
        → let o : ApplyOutcome = pick b (record { answer = Ok (length xs); table = (leaving_each own (apply_node ways now) xs t).table; list = put 0 (codes (leaving_each own (apply_node ways now) xs t).answers) l }) (record { answer = (Err (record { why = NoPlace; at = 0 })); table = t; list = l }) in
        o.answer ≡ (Err (record { why = r; at = at })) → (o.table ≡ t) × (o.list ≡ l)
    room xs true e = let z : ◌≡◌ {A = ℕ} 0 1 = cc in absurd (omega arith)
    room xs false e = (refl, refl)

    go : (o : Ops) → (leaving_ops own (apply_node ways now) o t l).answer ≡ (Err (record { why = r; at = at })) → ((leaving_ops own (apply_node ways now) o t l).table ≡ t) × ((leaving_ops own (apply_node ways now) o t l).list ≡ l)
    go (Good ops) e = room (parts_of ops) (leb (length (parts_of ops)) (length l)) e
    go (Faulty y b) e = (refl, refl)

pub lent-leaving-refused : (own : List ℕ) (ways : Ways) (delta : List ℕ) (now : ℕ) (list l : List ℕ) (r : Refusal) (at : ℕ) → (lent_leaving_as own ways delta now list l).answer ≡ (Err (record { why = r; at = at }))
    → ((lent_leaving_as own ways delta now list l).lent.table ≡ l) × ((lent_leaving_as own ways delta now list l).lent.list ≡ list)
unfolding lent_leaving_as
lent-leaving-refused own ways delta now list l r at = go (valid_whole l) refl
  where
    t : Table
    t = (decode_whole l).table

    out : Bool → Given (Result ℕ DeltaFault) TableAndList
    out b = pick b (stored_apply (decode_whole l) (apply_leaving own ways delta now t list)) (given (Err (record { why = BadTable; at = 0 })) (both l list))

    go : (b : Bool) → valid_whole l ≡ b → (out b).answer ≡ (Err (record { why = r; at = at })) → ((out b).lent.table ≡ l) × ((out b).lent.list ≡ list)
    go true q e = let x = leaving-refused own ways delta now t list r at e in (ap (λ (u : Table). encode_whole (with_table u (decode_whole l))) x.0 ∙ whole-bytes l q, x.1)
    go false q e = (refl, refl)

-- ---- the bytes of a table that obeys

module _ (own : List ℕ) (w : Whole) (o : obeys_whole w ≡ true) (delta : List ℕ) (now : ℕ) (list : List ℕ) where
  abbrev l : List ℕ
  l = encode_whole w

  pub leaving-encoded : lent_leaving own delta now list (encode_whole w) ≡ stored_apply w (apply_leaving own (ways_in w.kind) delta now w.table list)
  unfolding lent_leaving_as
  leaving-encoded =
      ap (λ (b : Bool). pick b (stored_apply (decode_whole l) (apply_leaving own (ways_in (decode_whole l).kind) delta now (decode_whole l).table list)) (given (Err (record { why = BadTable; at = 0 })) (both l list)))
      (valid-encode-whole w o)
      ∙ ap (λ (u : Whole). stored_apply u (apply_leaving own (ways_in u.kind) delta now u.table list)) (decode-encode-whole w o)

  module _ (are : AreBytes delta) (fits : now < numbers) where
    whole-left : decode_whole (lent_leaving own delta now list (encode_whole w)).lent.table ≡ with_table (apply_leaving own (ways_in w.kind) delta now w.table list).table w
    whole-left =
        ap (λ (g : Given (Result ℕ DeltaFault) TableAndList). decode_whole g.lent.table) leaving-encoded
        ∙ decode-encode-whole (with_table (apply_leaving own (ways_in w.kind) delta now w.table list).table w) (leaving-whole own w o delta are now fits list)

module _ (own : List ℕ) (delta : List ℕ) (are : AreBytes delta) (now : ℕ) (fits : now < numbers) (list table : List ℕ) where
  module _ (v : valid_whole table ≡ true) where
    -- the whole memory: the named nodes are those from before, all else is what `lent_apply` leaves
    left_by : decode_whole (lent_leaving own delta now list table).lent.table ≡ with_table (apply_leaving own (ways_in (decode_whole table).kind) delta now (decode_whole table).table list).table (decode_whole table)
    left_by =
        ap (λ (x : List ℕ). decode_whole (lent_leaving own delta now list x).lent.table) (sym (whole-bytes table v))
        ∙ whole-left own (decode_whole table) (whole-obeys table v) delta now list are fits

  -- a table that is refused stays
  bad : valid_whole table ≡ false → (lent_leaving own delta now list table).lent.table ≡ table
  unfolding lent_leaving_as
  bad e = ap (λ (b : Bool). (pick b (stored_apply (decode_whole table) (apply_leaving own (ways_in (decode_whole table).kind) delta now (decode_whole table).table list)) (given (Err (record { why = BadTable; at = 0 })) (both table list))).lent.table) e

  -- whatever the bytes of the delta, and whatever those of the table: a named node is as it was
  pub lent-named : (i : ℕ) → among i own ≡ true → node_of i (decode_whole (lent_leaving own delta now list table).lent.table).table ≡ node_of i (decode_whole table).table
  lent-named i h = go (valid_whole table) refl
    where
      go : (b : Bool) → valid_whole table ≡ b → node_of i (decode_whole (lent_leaving own delta now list table).lent.table).table ≡ node_of i (decode_whole table).table
      go true v = ap (λ (w : Whole). node_of i w.table) (left_by v) ∙ named-stays own (ways_in (decode_whole table).kind) delta now (decode_whole table).table list i h
      go false e = ap (λ (x : List ℕ). node_of i (decode_whole x).table) (bad e)

-- what `lent_apply` leaves, where the table is good
applied_by : (delta : List ℕ) → AreBytes delta → (now : ℕ) → now < numbers → (list table : List ℕ) → valid_whole table ≡ true
    → decode_whole (lent_apply delta now list table).lent.table ≡ with_table (apply (ways_in (decode_whole table).kind) delta now (decode_whole table).table list).table (decode_whole table)
unfolding lent_leaving_as lent_apply_as apply_leaving
applied_by delta are now fits list table v = left_by [] delta are now fits list table v

bad-apply : (delta : List ℕ) → AreBytes delta → (now : ℕ) → now < numbers → (list table : List ℕ) → valid_whole table ≡ false → (lent_apply delta now list table).lent.table ≡ table
unfolding lent_leaving_as lent_apply_as apply_leaving
bad-apply delta are now fits list table f = bad [] delta are now fits list table f

module _ (own : List ℕ) (delta : List ℕ) (are : AreBytes delta) (now : ℕ) (fits : now < numbers) (list table : List ℕ) where
  -- The whole memory of a good table: the named nodes are those from before, and everything else, what it remembers and its kind too, is what `lent_apply` leaves.
  pub lent-left : valid_whole table ≡ true
      → decode_whole (lent_leaving own delta now list table).lent.table
      ≡ with_table (kept own (decode_whole table).table (decode_whole (lent_apply delta now list table).lent.table).table) (decode_whole (lent_apply delta now list table).lent.table)
  lent-left v =
      left_by own delta are now fits list table v
      ∙ ap (λ (t : Table). with_table t (decode_whole table)) (left-table own (ways_in (decode_whole table).kind) delta now (decode_whole table).table list)
      ∙ ap (λ (w : Whole). with_table (kept own (decode_whole table).table w.table) w) (sym (applied_by delta are now fits list table v))

  -- a node that is not named is as `lent_apply` leaves it
  pub lent-others : (i : ℕ) → among i own ≡ false
      → node_of i (decode_whole (lent_leaving own delta now list table).lent.table).table ≡ node_of i (decode_whole (lent_apply delta now list table).lent.table).table
  lent-others i h = go (valid_whole table) refl
    where
      go : (b : Bool) → valid_whole table ≡ b
          → node_of i (decode_whole (lent_leaving own delta now list table).lent.table).table ≡ node_of i (decode_whole (lent_apply delta now list table).lent.table).table
      go true v =
          ap (λ (w : Whole). node_of i w.table) (left_by own delta are now fits list table v)
          ∙ others-apply own (ways_in (decode_whole table).kind) delta now (decode_whole table).table list i h
          ∙ ap (λ (w : Whole). node_of i w.table) (sym (applied_by delta are now fits list table v))
      go false e =
          ap (λ (x : List ℕ). node_of i (decode_whole x).table) (bad own delta are now fits list table e)
          ∙ ap (λ (x : List ℕ). node_of i (decode_whole x).table) (sym (bad-apply delta are now fits list table e))
