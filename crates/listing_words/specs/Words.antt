-- What stands at the front of a text, as code answers it: a number, a key or a value, and how many bytes it took. proofs/Read.antt shows that they are
-- what the reader of listings goes by (`Unlist.printed`).
use Rattle.std.specs.Prelude.{ℕ, ◌+◌, ◌-◌, ◌*◌, ◌^◌, ◌≤◌, ◌≡◌, Bool, true, ◌&&◌, ◌∷◌, length, drop, take, ltb}
use Rattle.fields.specs.Choice.{pick}
use Rattle.fields.specs.Numbers.{Bytes}
use Rattle.fields.specs.Order.{same_bytes}
use Rattle.rules.specs.Listing.{decimal, shown_bytes}
use Rattle.listing_read.specs.Unlist.{front, is_digit, is_graphic, text_form, unshown, value_from}
use Rattle.std.specs.Prelude.{None, Option, Some}
use Rattle.listing_words.specs.declared.Numeral.{Numeral}
use Rattle.listing_words.specs.declared.Shown.{Shown}
use Rattle.listing_words.specs.declared.One.{One}

-- the value with one digit more, where it is below 2^64
unfoldable pub grown : (begun digit : ℕ) → (Option ℕ)
grown v b = pick (ltb (v * 10 + (b - 48)) (256 ^ 8)) (Some (v * 10 + (b - 48))) None

-- the number that digits are, where it is below 2^64
unfoldable pub numeral_of : (digits : Bytes) → (Option Numeral)
numeral_of l = pick (ltb (value_from 0 l) (256 ^ 8)) (Some (record { value = (value_from 0 l); len = (length l) })) None

abbrev pub digits_at : (text : Bytes) → (Option Numeral)
digits_at l = numeral_of (front is_digit l)

-- the number at the front, as it is printed
unfoldable pub number_at : (text : Bytes) → (Option Numeral)
number_at l =
    let piece : Bytes = front is_digit l in
    pick (ltb (value_from 0 piece) (256 ^ 8) && same_bytes (decimal (value_from 0 piece)) piece) (Some (record { value = (value_from 0 piece); len = (length piece) })) None

-- the bytes at the front that can belong to a text as it is shown
abbrev pub piece_of : (text : Bytes) → Bytes
piece_of l = front is_graphic l

-- a key or a value: no longer than this, and of bytes
abbrev pub text_fits : (most : ℕ) (text : Bytes) → Bool
text_fits most t = (text_form most).fits t

-- how many bytes a text has, where it fits
unfoldable pub count_of : (most : ℕ) (text : Bytes) → (Option ℕ)
count_of most t = pick (text_fits most t) (Some (length t)) None

-- the key or value at the front, as it is shown
unfoldable pub text_at : (most : ℕ) (text : Bytes) → (Option Shown)
text_at most l =
    let piece : Bytes = piece_of l in
    pick (text_fits most (unshown piece) && same_bytes (shown_bytes (unshown piece)) piece) (Some (record { len = (length (unshown piece)); took = (length piece) })) None

-- ---- what is promised of the lent bytes

-- a text that fits stands at the front
abbrev pub Stored : (most : ℕ) (text out : Bytes) → Type 0
Stored most t out = text_fits most t ≡ true → take (length t) out ≡ t

-- what the byte at `i` stands for, and where the next one stands
abbrev pub OneAt : (piece : Bytes) (i : ℕ) (one : One) → Type 0
OneAt l i one = (unshown (drop i l) ≡ one.value ∷ unshown (drop (i + one.took) l)) × (1 ≤ one.took) × (i + one.took ≤ length l)

-- the bytes that a shown text stands for were stored
abbrev pub Unshows : (piece out : Bytes) (answer : (Option ℕ)) (left : Bytes) → Type 0
Unshows l out r left = (r ≡ count_of (length out) (unshown l)) × Stored (length out) (unshown l) left

-- the key or value at the front was stored
abbrev pub TextRead : (text out : Bytes) (answer : (Option Shown)) (left : Bytes) → Type 0
TextRead l out r left = (r ≡ text_at (length out) l) × Stored (length out) (unshown (piece_of l)) left
