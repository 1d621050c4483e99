-- `profile_check::profile_of` meets its contract: the byte is the tail's second. Assumes nothing.
use mathlib.Core.Path.{◌≡◌, ap, sym, ◌∙◌}
use mathlib.Core.List.{List}
use Prim.Native.Nat.{ℕ, ◌+◌}
use native.Mathlib.Omega.{arith}
use lib.ListN.{length}
use Rattle.fields.specs.Numbers.{nat_of}
use Rattle.fields.specs.Parts.{part}
use Rattle.fields.proofs.Parts.{part-part}
use Rattle.rules.specs.Layout.{table_width}
use Rattle.rules.specs.Whole.{profile_of_byte, tail_width, whole_width, decode_whole}
use Rattle.rules.specs.declared.Profile.{Profile}
use Rattle.profile_check.proofs.profile_of.Goals as goal

second : (l : List ℕ) → length l ≡ whole_width → (n : ℕ) → n ≡ nat_of (part (table_width + 1) 1 l) → (p : Profile) → p ≡ profile_of_byte n → p ≡ (decode_whole l).kind.profile
second l e n q p r = r ∙ ap profile_of_byte (q ∙ ap nat_of (sym (part-part 1 1 table_width tail_width l (omega arith) (omega (arith, e)))))

pub returns : goal.returns
returns c =
    second c.args.table.now c.requires _ c.byte_at.ensures.0 _ c.of_byte.ensures
