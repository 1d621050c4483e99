-- The same of lent bytes: a table of any kind (a mode and a profile), and the calls that the entry point promises. Assumes nothing.
use Prim.Native.Nat.{ℕ, ◌<◌}
use mathlib.Core.Path.{◌≡◌, ap, ◌∙◌, subst}
use mathlib.Core.Bool.{true}
use mathlib.Core.List.{List}
use lib.ListN.{take, drop}
use Rattle.fields.specs.Choice.{◌∈◌}
use Rattle.fields.specs.Numbers.{AreBytes}
use Rattle.fields.proofs.Numbers.{bytes_take, bytes_drop}
use Rattle.rules.specs.Sizes.{numbers}
use Rattle.rules.specs.Table.{Table}
use Rattle.rules.specs.Given.{Given}
use Rattle.rules.specs.Apply.{Ways, ways_in, apply}
use Rattle.rules.specs.Whole.{Whole, with_table, encode_whole, decode_whole, obeys_whole, valid_whole}
use Rattle.rules.specs.Lent.{TableAndList, lent_apply, stored_apply}
use Rattle.std.specs.Prelude.{Result}
use Rattle.rules.specs.declared.DeltaFault.{DeltaFault}
use Rattle.rules.proofs.Calls.{apply-keeps}
use Rattle.rules.proofs.Memories.{whole-profile, whole-table, same_nodes}
use Rattle.rules.proofs.Refusing.{whole-bytes}
use Rattle.rules.proofs.Tables.{numbers-apply}
use Rattle.table.proofs.Wholes.{whole-obeys}
use Rattle.table.proofs.Encoded.{apply-whole}
use Rattle.profiles.proofs.Kept.{apply-formed}
use Rattle.profiles.proofs.Lawful.{kind-lawful}
use Rattle.delta_split.specs.Split.{cut_places, Roomy, lent_in_order, lent_reversed, AsUncut}
use Rattle.delta_split.proofs.Parts.{by_three, cut-in-order, cut-reversed, kind-cuttable}

module _ (w : Whole) (o : obeys_whole w ≡ true) (now : ℕ) (fits : now < numbers) where
  abbrev ways : Ways
  ways = ways_in w.kind

  -- what a call leaves obeys, and is of the same kind
  kept : (b : List ℕ) → AreBytes b → (l : List ℕ) → obeys_whole (with_table (apply ways b now w.table l).table w) ≡ true
  kept b are l =
      same_nodes w o (apply ways b now w.table l).table (apply-keeps ways (kind-lawful w.kind) b now w.table l are fits (whole-table w o)) (apply-formed w.kind b now w.table l (whole-profile w o)) (numbers-apply ways b now w.table l)

  -- one call after another
  pub then-apply : (b c : List ℕ) → AreBytes b → (l k : List ℕ)
      → lent_apply c now k (lent_apply b now l (encode_whole w)).lent.table ≡ stored_apply w (apply ways c now (apply ways b now w.table l).table k)
  then-apply b c are l k =
      ap (λ (g : Given (Result ℕ DeltaFault) TableAndList). lent_apply c now k g.lent.table) (apply-whole w o b now l)
      ∙ apply-whole (with_table (apply ways b now w.table l).table w) (kept b are l) c now k

-- of three calls, the last of them being the later one
abbrev Told : (whole one two last : Given (Result ℕ DeltaFault) TableAndList) → Type 0
Told w one two last = AsUncut w.answer one.answer two.answer w.lent.list one.lent.list two.lent.list w.lent.table last.lent.table

-- tables that are the same have the same bytes
in_bytes : (w : Whole) {x y z : (Result ℕ DeltaFault)} {l l₁ l₂ : List ℕ} {u v : Table} → AsUncut x y z l l₁ l₂ u v → AsUncut x y z l l₁ l₂ (encode_whole (with_table u w)) (encode_whole (with_table v w))
in_bytes w a =
    record { n₁ = a.n₁; n₂ = a.n₂; first_is = a.first_is; second_is = a.second_is; whole_is = a.whole_is; answers = a.answers; table_is = ap (λ (t : Table). encode_whole (with_table t w)) a.table_is }

module _ (b : List ℕ) (are : AreBytes b) (place now : ℕ) (fits : now < numbers) (list list₁ list₂ : List ℕ) where
  module _ (w : Whole) (o : obeys_whole w ≡ true) (at : place ∈ cut_places ((ways_in w.kind).reads b)) (room : Roomy (ways_in w.kind) b place list list₁ list₂) where
    whole-in-order : let c = lent_in_order b place now (encode_whole w) list₁ list₂ in Told (lent_apply b now list (encode_whole w)) c.first c.second c.second
    whole-in-order =
        by_three (λ x one two. Told x one two two) (apply-whole w o b now list) (apply-whole w o (take place b) now list₁)
        (then-apply w o now fits (take place b) (drop place b) (bytes_take place b are) list₁ list₂)
        (in_bytes w
        (cut-in-order (ways_in w.kind) (kind-lawful w.kind) (kind-cuttable w.kind) b are place at now w.table list list₁ list₂ room.0 room.1 room.2))

    whole-reversed : let c = lent_reversed b place now (encode_whole w) list₁ list₂ in Told (lent_apply b now list (encode_whole w)) c.first c.second c.first
    whole-reversed =
        by_three (λ x one two. Told x one two one) (apply-whole w o b now list)
        (then-apply w o now fits (drop place b) (take place b) (bytes_drop place b are) list₂ list₁) (apply-whole w o (drop place b) now list₂)
        (in_bytes w
        (cut-reversed (ways_in w.kind) (kind-lawful w.kind) (kind-cuttable w.kind) b are place at now w.table list list₁ list₂ room.0 room.1 room.2))

  -- Ticket 14. A table that 14 does not refuse, in its mode and its profile; a delta that is accepted, cut at the start of a Node operation, at the same time of receipt; enough answer
  -- places: the first part and then the second, or the second and then the first, leave the bytes that the uncut delta leaves, and their answers are its answers.
  module _ (table : List ℕ) (v : valid_whole table ≡ true) (at : place ∈ cut_places ((ways_in (decode_whole table).kind).reads b)) (room : Roomy (ways_in (decode_whole table).kind) b place list list₁ list₂) where
    pub lent-in-order : let w = lent_apply b now list table in
        let c = lent_in_order b place now table list₁ list₂ in
        AsUncut w.answer c.first.answer c.second.answer w.lent.list c.first.lent.list c.second.lent.list w.lent.table c.second.lent.table
    lent-in-order =
        subst (λ (x : List ℕ). let c = lent_in_order b place now x list₁ list₂ in Told (lent_apply b now list x) c.first c.second c.second) (whole-bytes table v)
        (whole-in-order (decode_whole table) (whole-obeys table v) at room)

    pub lent-reversed : let w = lent_apply b now list table in
        let c = lent_reversed b place now table list₁ list₂ in
        AsUncut w.answer c.first.answer c.second.answer w.lent.list c.first.lent.list c.second.lent.list w.lent.table c.first.lent.table
    lent-reversed =
        subst (λ (x : List ℕ). let c = lent_reversed b place now x list₁ list₂ in Told (lent_apply b now list x) c.first c.second c.first) (whole-bytes table v)
        (whole-reversed (decode_whole table) (whole-obeys table v) at room)
