-- Numbers as bytes, lowest byte first.
use Rattle.std.specs.Prelude.{ℕ, zero, suc, ◌+◌, ◌*◌, ◌/◌, ◌%◌, ◌<◌, List, [], ◌∷◌}
use Rattle.fields.specs.Choice.{◌∈◌}

-- bytes of lent memory, of a datagram, of a text: each is a number below 256
abbrev pub Bytes : Type 0
Bytes = List ℕ

-- the number that the bytes are
unfoldable pub nat_of : List ℕ → ℕ
nat_of [] = 0
nat_of (b ∷ bs) = nat_of bs * 256 + b

-- the n lowest bytes of v
unfoldable pub bytes_of : (width v : ℕ) → Bytes
bytes_of zero v = []
bytes_of (suc n) v = v % 256 ∷ bytes_of n (v / 256)

-- a list of bytes: each of them is below 256
abbrev pub AreBytes : (l : Bytes) → Type 0
AreBytes l = (b : ℕ) → b ∈ l → b < 256
