-- How many entries a digest has in each edition, or why it is refused: the cases in the order of document 01 and ticket 11.
use Rattle.std.specs.Prelude.{ℕ, ◌*◌, ◌-◌, ◌/◌, ◌%◌, length, leb, eqb}
use Rattle.fields.specs.Choice.{pick}
use Rattle.fields.specs.Numbers.{Bytes, nat_of}
use Rattle.fields.specs.Parts.{part}
use Rattle.rules.specs.Sizes.{max_nodes}
use Rattle.rules.specs.Delta.{number_lacks}
use Rattle.rules.specs.Digest.{count_width, entry_width}
use Rattle.rules.specs.declared.Refusal.TheVariants.{Cut, TooMany, BadEdition}
use Rattle.std.specs.Prelude.{Err, Ok, Result}
use Rattle.rules.specs.declared.Refusal.{Refusal}

-- V0: how many entries follow the count, or the refusal, with what the count lacks or the number in which the entries end
unfoldable pub count_told : (digest : Bytes) → (Result ℕ Refusal)
count_told l =
    pick (leb count_width (length l))
    (pick (leb (nat_of (part 0 count_width l)) max_nodes)
    (pick (leb (nat_of (part 0 count_width l) * entry_width) (length l - count_width)) (Ok (nat_of (part 0 count_width l)))
    (Err (Cut (number_lacks (length l - count_width)))))
    (Err TooMany))
    (Err (Cut (count_width - length l)))

-- V1: how many entries go to the end
unfoldable pub count_whole : (digest : Bytes) → (Result ℕ Refusal)
count_whole l =
    pick (eqb (length l % entry_width) 0)
    (pick (leb (length l / entry_width) max_nodes) (Ok (length l / entry_width)) (Err TooMany))
    (Err (Cut (number_lacks (length l))))

unfoldable pub count_in : (edition : ℕ) (digest : Bytes) → (Result ℕ Refusal)
count_in edition l = pick (eqb edition 0) (count_told l) (pick (eqb edition 1) (count_whole l) (Err BadEdition))
