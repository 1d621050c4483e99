-- The room that the parts of a digest's writer ask for.
use Rattle.std.specs.Prelude.{ℕ, ◌+◌, ◌*◌, ◌≤◌, List, length}
use Rattle.fields.specs.Numbers.{Bytes}
use Rattle.rules.specs.Digest.{digest_of, entry_width}
use Rattle.rules.specs.Layout.{decode}

-- n bytes and the entries of the nodes that are not excluded
abbrev pub EntriesFit : (n : ℕ) (excluded : List ℕ) (table datagram : Bytes) → Type 0
EntriesFit n excluded table datagram = n + length (digest_of excluded (decode table)) * entry_width ≤ length datagram
