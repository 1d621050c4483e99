-- TICKET 9's theorem, with the readings in the rules' own terms (specs/Readings): of a table, in the ticket's own words ("no number 6 is given") and with less
-- asked; and of lent bytes. Assumes nothing.
use Prim.Native.Nat.{ℕ}
use mathlib.Core.Bool.{true}
use mathlib.Core.List.{List}
use mathlib.Core.Path.{◌≡◌}
use Rattle.rules.specs.Whole.{Whole, decode_whole, obeys_whole}
use Rattle.rules.specs.declared.Party.{Party}
use Rattle.rules.specs.declared.Profile.TheVariants.{Shared}
use Rattle.parties.specs.Readings.{Reading, reading_said}
use Rattle.parties.specs.TwoRuns.{Event, NoSix, Unspent, after, heard, stripped, view}
use Rattle.parties.specs.LentRuns.{Alike, LentUnspent, all_fit, lent_reading_said}
use Rattle.parties.proofs.Readings.{reading-blind}
use Rattle.parties.proofs.Runs as runs
use Rattle.parties.proofs.LentRuns.{lent-two-runs, readings-lent}

pub ticket-9 : (p : Party) (es fs : List (Event Reading)) (w : Whole) → w.kind.profile ≡ Shared → obeys_whole w ≡ true → NoSix reading_said es w → NoSix reading_said fs w → stripped p es ≡ stripped p fs
    → (heard reading_said p es w ≡ heard reading_said p fs w) × (view p (after es w) ≡ view p (after fs w))
ticket-9 = runs.no_six reading_said reading-blind

-- a 6 of the other's, or of a heartbeat, does no harm
pub own-unspent : (p : Party) (es fs : List (Event Reading)) (w : Whole) → w.kind.profile ≡ Shared → obeys_whole w ≡ true → Unspent reading_said p es w → Unspent reading_said p fs w
    → stripped p es ≡ stripped p fs → (heard reading_said p es w ≡ heard reading_said p fs w) × (view p (after es w) ≡ view p (after fs w))
own-unspent = runs.two_runs reading_said reading-blind

-- of lent bytes, whatever these are
pub lent-ticket-9 : (p : Party) (es fs : List (Event Reading)) (l : List ℕ) → (decode_whole l).kind.profile ≡ Shared → all_fit es ≡ true → all_fit fs ≡ true
    → LentUnspent lent_reading_said p es l → LentUnspent lent_reading_said p fs l → stripped p es ≡ stripped p fs → Alike lent_reading_said p es fs l
lent-ticket-9 = lent-two-runs lent_reading_said reading_said readings-lent reading-blind
