-- A text put into a lent buffer at a place where there is room, and the two pieces that lines are made of.
use Rattle.std.specs.Prelude.{ℕ, ◌+◌, ◌≤◌, ◌++◌, length}
use Rattle.fields.specs.Numbers.{Bytes}
use Rattle.fields.specs.Parts.{put}
use Rattle.rules.specs.Given.{Given, given}
use Rattle.rules.specs.Listing.{decimal, shown_bytes}

-- the text stands from `at` on, all else is untouched, and the answer is the place behind it
abbrev pub put_text : (at : ℕ) (text out : Bytes) → Given ℕ Bytes
put_text at text out = given (at + length text) (put at text out)

-- there is room for the text
abbrev pub TextFits : (at : ℕ) (text out : Bytes) → Type 0
TextFits at text out = at + length text ≤ length out

-- a name and a number
abbrev pub numbered : (name : Bytes) (v : ℕ) → Bytes
numbered name v = name ++ decimal v

-- a name and some bytes as they are shown
abbrev pub named : (name text : Bytes) → Bytes
named name text = name ++ shown_bytes text
