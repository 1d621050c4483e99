-- `inspect_text::text_known` meets its contract: the part that was found, which has the record's bytes. Assumes nothing.
use mathlib.Core.Path.{refl, ◌≡◌, ap, ap₂, ◌∙◌}
use Rattle.own_rows.specs.Sight.{front_in}
use Rattle.lookup.specs.Lookup.{moved_by}
use Rattle.lookup.proofs.Values.{found_within, hands-found}
use Rattle.inspect_text.specs.Texts.{counted_or, text_found_as}
use Rattle.inspect_text.proofs.There.{whole-text-stands, counted-front}
use Prim.Native.Nat.{ℕ}
use Rattle.std.specs.Prelude.{Err, Ok, Result}
use Rattle.std.specs.Prelude.{Option as Optional}
use Rattle.std.specs.Result.{result_unwrap_or}
use Rattle.rules.specs.Table.{Table}
use Rattle.rules.specs.declared.Party.{Party}
use Rattle.rules.specs.declared.Profile.{Profile}
use Rattle.rules.specs.declared.Refusal.{Refusal}
use Rattle.lookup.specs.declared.Found.{Found}
use Rattle.inspect.specs.Look.{front_as}
use Rattle.inspect_text.specs.declared.Text.{Text}
use Rattle.inspect_text.proofs.text_known.Goals as goal

-- a count, or 0, as the code has it
unwrapped : (r : Result ℕ Refusal) → result_unwrap_or r 0 ≡ counted_or r
unwrapped (Ok n) = refl
unwrapped (Err e) = refl

-- what is told, moved by the front
module _ (p : Profile) (q : Party) (x : Text) (n j : ℕ) (t : Table) where
  told-moved : {c : Result ℕ Refusal} → c ≡ front_as p q n t → {m : ℕ} → m ≡ result_unwrap_or c 0 → {f : Result (Optional Found) Refusal} → f ≡ text_found_as p q x n j t
      → moved_by m f ≡ moved_by (front_in p q n t) (text_found_as p q x n j t)
  told-moved {c} e m f = ap₂ moved_by (m ∙ unwrapped c ∙ ap counted_or e ∙ counted-front p q n t) f

pub held_behind-requires : goal.held_behind-requires
held_behind-requires c =
    let a = c.args in
    found_within a.table.now (told-moved _ a.party a.text a.number a.j _ c.front_known.ensures c.unwrap_or.ensures c.find_text_known.ensures) _
    (whole-text-stands a.table.now c.requires a.party a.text a.number a.j)

pub returns : goal.returns
returns c =
    let a = c.args in
    hands-found a.table.now (told-moved _ a.party a.text a.number a.j _ c.front_known.ensures c.unwrap_or.ensures c.find_text_known.ensures) _
    (whole-text-stands a.table.now c.requires a.party a.text a.number a.j) _ _ _ c.held_behind.ensures
