-- What is read out of a line: its pieces, and the numbers and bytes that they write.
use Rattle.std.specs.Prelude.{ℕ, suc, ◌+◌, ◌*◌, ◌-◌, ◌&&◌, List, [], ◌∷◌, length, eqb, leb, ltb, Option, Some, None}
use Rattle.fields.specs.Numbers.{Bytes}
use Rattle.fields.specs.Choice.{pick}
use Rattle.fields.specs.Order.{same_bytes}
use Rattle.fields.specs.Parts.{put}

-- a byte before the first piece
abbrev pub onto : (byte : ℕ) (pieces : List Bytes) → List Bytes
onto x [] = []
onto x (p ∷ ps) = (x ∷ p) ∷ ps

-- what stands between the bytes b; two of them have an empty piece between them, and an empty list is one empty piece
unfoldable pub pieces : (mark : ℕ) (text : Bytes) → List Bytes
pieces b [] = [] ∷ []
pieces b (x ∷ l) = pick (eqb x b) ([] ∷ pieces b l) (onto x (pieces b l))

-- the words of a line
abbrev pub words_of : List ℕ → List (List ℕ)
words_of line = pieces 32 line

-- which of the names it is; as many as there are names where it is none of them
unfoldable pub place_in : (word : Bytes) (words : List Bytes) → ℕ
place_in w [] = 0
place_in w (p ∷ ps) = pick (same_bytes p w) 0 (suc (place_in w ps))

-- the number with one decimal digit more, below 2^64
abbrev pub with_digit : (value byte : ℕ) → Option ℕ
with_digit v b =
    pick (leb 48 b && leb b 57) (pick (ltb (v * 10 + (b - 48)) 18446744073709551616) (Some (v * 10 + (b - 48))) None) None

-- what a number gives, where there is one
abbrev pub then : Option ℕ → (ℕ → Option ℕ) → Option ℕ
then (Some v) f = f v
then None f = None

-- the number with all these digits more
unfoldable pub digits_from : (value : ℕ) (text : Bytes) → Option ℕ
digits_from v [] = Some v
digits_from v (b ∷ l) = then (with_digit v b) (λ more. digits_from more l)

-- the number that the bytes write in decimal digits, of which there is one at least
unfoldable pub numeral_of : List ℕ → Option ℕ
numeral_of [] = None
numeral_of (b ∷ l) = digits_from 0 (b ∷ l)

-- storing a list at the front of a lent one: the answer, and what is left there
abbrev pub counted : (numbers list : List ℕ) → Option ℕ
counted vs l = pick (leb (length vs) (length l)) (Some (length vs)) None

abbrev pub stored_in : (numbers list : List ℕ) → List ℕ
stored_in vs l = pick (leb (length vs) (length l)) (put 0 vs l) l
