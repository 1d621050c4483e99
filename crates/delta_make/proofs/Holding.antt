-- That what is kept holds a text: `Holds t making line delta` says that the text t has been taken in, by whatever pieces. Each byte that is taken in
-- stands behind it then, and at its end it gives what reading the listing t gives (Taken). Definitions alone.
use Prim.Native.Nat.{ℕ, ◌≤◌, ◌<◌}
use mathlib.Core.Path.{◌≡◌}
use mathlib.Core.Bool.{Bool, true, not}
use mathlib.Core.List.{List, [], ◌∷◌, ◌++◌}
use lib.Dec.{eqb}
use lib.ListN.{length, take}
use Rattle.fields.specs.Blocks.{flat}
use Rattle.fields.specs.Choice.{all}
use Rattle.fields.specs.Numbers.{Bytes}
use Rattle.rules.specs.Delta.{Op, delta_bytes}
use Rattle.rules.specs.Given.{Given}
use Rattle.rules.specs.Listing.{end_line, op_line}
use Rattle.rules.specs.Sizes.{max_delta, numbers}
use Rattle.listing_read.specs.Unlist.{Line, NotInForm, read_line, unlist}
use Rattle.delta_make.specs.Making.{LineAndDelta, longest_line}
use Rattle.delta_make.specs.declared.Stage.{Stage}
use Rattle.delta_make.specs.declared.Stage.TheVariants.{Lines, End, Bad}
use Rattle.delta_make.specs.declared.Making.{Making}

-- ---- the lines so far

-- the line that is printed of an operation is read back as that operation
abbrev pub Back : (op : Op) → Type 0
Back o = (x : Bytes) → read_line (op_line o ++ x) ≡ Line o x

unfoldable pub AllBack : (ops : List Op) → Type 0
AllBack [] = Unit {0}
AllBack (o ∷ ops) = Back o × AllBack ops

-- so many operations, of so many bytes, which are stored unless they are too many
pub record Counted (ops bytes : ℕ) (delta : Bytes) (list : List Op) : Type 0 where
  pub back : AllBack list
  pub ops_are : ops ≡ length list
  pub bytes_are : bytes ≡ length (delta_bytes list)
  pub stored : bytes ≤ max_delta → take bytes delta ≡ delta_bytes list

-- there is no line feed in it
abbrev pub no_feed : (l : Bytes) → Bool
no_feed l = all (λ b. not (eqb b 10)) l

-- the text is lines of operations and a line that has begun
pub record Begun (t begun : Bytes) (ops bytes : ℕ) (delta : Bytes) : Type 0 where
  pub list : List Op
  pub counted : Counted ops bytes delta list
  pub is : flat op_line list ++ begun ≡ t
  pub unclosed : no_feed begun ≡ true

-- the text is lines of operations and their end line
pub record Ended (t : Bytes) (ops bytes : ℕ) (delta : Bytes) : Type 0 where
  pub list : List Op
  pub counted : Counted ops bytes delta list
  pub is : flat op_line list ++ end_line ops bytes ≡ t

-- however the text goes on, this is its first line that is not in its form
abbrev pub Failed : (t : Bytes) (line : ℕ) → Type 0
Failed t n = (x : Bytes) → unlist (t ++ x) ≡ NotInForm n

abbrev pub AtStage : (stage : Stage) (t : Bytes) (held ops bytes : ℕ) (line delta : Bytes) → Type 0
AtStage Lines t held ops bytes line delta = (held ≤ length line) × Begun t (take held line) ops bytes delta
AtStage End t held ops bytes line delta = Ended t ops bytes delta
AtStage (Bad n) t held ops bytes line delta = Failed t n

-- the text t has been taken in; of one of 2^64 bytes and more nothing is said, since the counts have no more
abbrev pub Holds : (t : Bytes) (making : Making) (line delta : Bytes) → Type 0
Holds t m line delta =
    length t < numbers
    → (longest_line ≤ length line) × (max_delta ≤ length delta) × AtStage m.stage t m.held m.ops m.bytes line delta

-- the same of all that is kept
abbrev pub HoldsIn : (t : Bytes) (kept : Given Making LineAndDelta) → Type 0
HoldsIn t s = Holds t s.answer s.lent.line s.lent.delta

-- a line with its line feed was taken in, behind what was there
abbrev pub TakesLine : (line : Bytes) (ops bytes : ℕ) (delta : Bytes) (made : Making) (left : Bytes) → Type 0
TakesLine line ops bytes delta m left =
    (t begun memory : Bytes)
    → line ≡ begun ++ (10 ∷ [])
    → length (t ++ (10 ∷ [])) < numbers
    → longest_line ≤ length memory
    → max_delta ≤ length delta
    → Begun t begun ops bytes delta
    → (max_delta ≤ length left) × AtStage m.stage (t ++ (10 ∷ [])) m.held m.ops m.bytes memory left
