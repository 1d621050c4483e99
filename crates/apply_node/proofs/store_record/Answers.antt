-- `apply_node::store_record` meets its contract: by the place of the key. Assumes nothing.
use Prim.Native.Nat.{ℕ, ◌≤◌, ◌<◌}
use mathlib.Core.Path.{◌≡◌, sym, ◌∙◌}
use native.Mathlib.Omega.{arith}
use Rattle.rules.specs.Node.{Rec}
use Rattle.table.specs.Changes.{rec_of}
use Rattle.table.specs.Fits.{FitsRec}
use Rattle.table_read.proofs.Searched.{rec-in}
use Rattle.apply_node.proofs.Taken.{stored_at, stored-new, no_room, place-fits}
use Rattle.apply_node.proofs.store_record.Goals as goal

below-full : (n m : ℕ) → n ≡ m → m ≤ 32 → (n ≡ 32 → ⊥) → m < 32
below-full n m e h g = omega arith

pub put_record-requires : goal.put_record-requires
put_record-requires c =
    (c.requires.0.laid, rec-in _ _ _ (sym c.find_key-found.ensures ∙ c.in-At.is), c.requires.1, c.requires.2)

pub returns-then-byte_at-eq-RECORDS : goal.returns-then-byte_at-eq-RECORDS
returns-then-byte_at-eq-RECORDS c =
    let rec : Rec = let a = c.args in rec_of a.key.now a.value.now a.version a.status a.start in
    let fits : FitsRec (rec) = record { key_fits = c.requires.1; value-fits = c.requires.2; version_high = c.ranges.version.fits; start_high = c.ranges.start.fits } in
    no_room _ c.requires.0 (rec) (fits) _ (sym c.find_key-found.ensures ∙ c.in-Free.is) (sym c.byte_at.ensures.0 ∙ c.if-byte_at-eq-RECORDS.true)

pub insert_record-requires : goal.insert_record-requires
insert_record-requires c =
    let rec : Rec = let a = c.args in rec_of a.key.now a.value.now a.version a.status a.start in
    let fits : FitsRec (rec) = record { key_fits = c.requires.1; value-fits = c.requires.2; version_high = c.ranges.version.fits; start_high = c.ranges.start.fits } in (
      c.requires.0.laid,
      place-fits _ c.requires.0 (rec) (fits) _ (sym c.find_key-found.ensures ∙ c.in-Free.is),
      below-full _ _ c.byte_at.ensures.0 c.requires.0.laid.few c.if-byte_at-eq-RECORDS.false,
      c.requires.1,
      c.requires.2,
    )

pub returns-in-At : goal.returns-in-At
returns-in-At c =
    let rec : Rec = let a = c.args in rec_of a.key.now a.value.now a.version a.status a.start in
    let fits : FitsRec (rec) = record { key_fits = c.requires.1; value-fits = c.requires.2; version_high = c.ranges.version.fits; start_high = c.ranges.start.fits } in
    stored_at _ c.requires.0 (rec) (fits) _ (sym c.find_key-found.ensures ∙ c.in-At.is) _ c.put_record.ensures

pub returns-else-byte_at-eq-RECORDS : goal.returns-else-byte_at-eq-RECORDS
returns-else-byte_at-eq-RECORDS c =
    let rec : Rec = let a = c.args in rec_of a.key.now a.value.now a.version a.status a.start in
    let fits : FitsRec (rec) = record { key_fits = c.requires.1; value-fits = c.requires.2; version_high = c.ranges.version.fits; start_high = c.ranges.start.fits } in
    stored-new _ c.requires.0 (rec) (fits) _ (sym c.find_key-found.ensures ∙ c.in-Free.is)
    (below-full _ _ c.byte_at.ensures.0 c.requires.0.laid.few c.if-byte_at-eq-RECORDS.false) _ c.insert_record.ensures
