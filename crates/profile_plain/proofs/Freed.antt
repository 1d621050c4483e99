-- A valid table with its profile taken away: valid again, with the same area, mode, memory and nodes. So a rule that does not look at the profile does the same,
-- and so does one that looks at it only for what a party sees, where the table is not shared. Assumes nothing.
use Prim.Native.Nat.{ℕ}
use mathlib.Core.Path.{◌≡◌, refl, ap, sym, ◌∙◌}
use mathlib.Core.Bool.{true, ◌&&◌, false≢true}
use mathlib.Core.List.{List}
use Rattle.fields.specs.Numbers.{bytes_of}
use Rattle.fields.proofs.Choice.{and_intro}
use Rattle.rules.specs.Given.{Given, given}
use Rattle.rules.specs.Table.{Table, numbers_of, obeys}
use Rattle.rules.specs.Memory.{memory_obeys}
use Rattle.rules.specs.Profile.{kind, profile_obeys}
use Rattle.rules.specs.Local.{Outcome}
use Rattle.rules.specs.Lent.{from_table, on_table, on_whole, stored_in}
use Rattle.rules.specs.Whole.{Whole, decode_whole, encode_whole, obeys_whole, valid_whole, with_table}
use Rattle.rules.specs.declared.Profile.{Profile}
use Rattle.rules.specs.declared.Profile.TheVariants.{Free, Meter, Shared}
use Rattle.rules.proofs.Formed.{free-formed}
use Rattle.rules.proofs.Memories.{facts-memory, whole-memory, whole-table}
use Rattle.rules.proofs.Refusing.{whole-bytes}
use Rattle.table.proofs.Encoded.{from-whole, on-whole, whole-whole}
use Rattle.table.proofs.Wholes.{decode-encode-whole, profile-put, valid-encode-whole, whole-obeys}
use Rattle.profile_plain.specs.Plain.{freed, unshared}

-- the whole in the free profile
abbrev pub free : Whole → Whole
free w = record { kind = kind w.kind.mode Free; memory = w.memory; table = w.table }

pub free-obeys : (w : Whole) → obeys_whole w ≡ true → obeys_whole (free w) ≡ true
unfolding obeys_whole
free-obeys w o =
    and_intro (obeys w.table) (memory_obeys (numbers_of w.table) w.memory && profile_obeys Free w.table) (whole-table w o)
    (and_intro (memory_obeys (numbers_of w.table) w.memory) (profile_obeys Free w.table) (facts-memory _ _ (whole-memory w o)) (free-formed w.table))

-- what is the same in the meter profile as in the free one is the same in every profile but the shared one
pub as-free : (p : Profile) → unshared p ≡ true → {A : Type 0} (f : Profile → A) → f Meter ≡ f Free → f Free ≡ f p
as-free Free o f m = refl
as-free Meter o f m = sym m
as-free Shared o f m = absurd (false≢true o)

-- of bytes
pub freed-bytes : (w : Whole) → freed (encode_whole w) ≡ encode_whole (free w)
unfolding freed bytes_of
freed-bytes w = profile-put Free w

module _ (l : List ℕ) (v : valid_whole l ≡ true) where
  abbrev w : Whole
  w = decode_whole l

  ok : obeys_whole w ≡ true
  ok = whole-obeys l v

  pub freed-is : freed l ≡ encode_whole (free w)
  freed-is = ap freed (sym (whole-bytes l v)) ∙ freed-bytes w

  pub freed-valid : valid_whole (freed l) ≡ true
  freed-valid = ap valid_whole freed-is ∙ valid-encode-whole (free w) (free-obeys w ok)

  pub freed-back : decode_whole (freed l) ≡ free w
  freed-back = ap decode_whole freed-is ∙ decode-encode-whole (free w) (free-obeys w ok)

  -- a rule that reads the nodes alone
  pub from-freed : {A : Type 0} (bad : A) (rule : Table → A) → from_table bad rule (freed l) ≡ from_table bad rule l
  from-freed bad rule =
      ap (from_table bad rule) freed-is
      ∙ from-whole (free w) (free-obeys w ok) bad rule
      ∙ sym (ap (from_table bad rule) (sym (whole-bytes l v)) ∙ from-whole w ok bad rule)

  -- one that looks at the profile too, and does in the meter profile what it does in the free one
  pub seen-freed : unshared w.kind.profile ≡ true → {A : Type 0} (bad : A) (rule : Profile → Table → A) → rule Meter ≡ rule Free
      → from_table bad (rule (decode_whole (freed l)).kind.profile) (freed l) ≡ from_table bad (rule w.kind.profile) l
  seen-freed o {A} bad rule m =
      ap (λ (u : Whole). from_table bad (rule u.kind.profile) (freed l)) freed-back
      ∙ from-freed bad (rule Free)
      ∙ ap (λ (f : Table → A). from_table bad f l) (as-free w.kind.profile o rule m)

  -- one that changes them
  pub on-freed : {A : Type 0} (bad : A) (rule : Table → Outcome A) → on_table bad rule (freed l) ≡ given (on_table bad rule l).answer (freed (on_table bad rule l).lent)
  on-freed {A} bad rule =
      let here : on_table bad rule l ≡ stored_in w (rule w.table) = ap (on_table bad rule) (sym (whole-bytes l v)) ∙ on-whole w ok bad rule in
      ap (on_table bad rule) freed-is
      ∙ on-whole (free w) (free-obeys w ok) bad rule
      ∙ ap (given (rule w.table).answer) (sym (freed-bytes (with_table (rule w.table).table w)))
      ∙ sym (ap (λ (o : Given A (List ℕ)). given o.answer (freed o.lent)) here)

  -- one that changes the memory too, and does not look at the profile
  pub whole-freed : {A : Type 0} (bad : A) (rule : Whole → Given A Whole) → rule (free w) ≡ given (rule w).answer (free (rule w).lent)
      → on_whole bad rule (freed l) ≡ given (on_whole bad rule l).answer (freed (on_whole bad rule l).lent)
  whole-freed {A} bad rule e =
      let here : on_whole bad rule l ≡ given (rule w).answer (encode_whole (rule w).lent) = ap (on_whole bad rule) (sym (whole-bytes l v)) ∙ whole-whole w ok bad rule in
      ap (on_whole bad rule) freed-is
      ∙ whole-whole (free w) (free-obeys w ok) bad rule
      ∙ ap (λ (o : Given A Whole). given o.answer (encode_whole o.lent)) e
      ∙ ap (given (rule w).answer) (sym (freed-bytes (rule w).lent))
      ∙ sym (ap (λ (o : Given A (List ℕ)). given o.answer (freed o.lent)) here)
