-- A row in lent bytes: a count in one byte at `at`, and behind it blocks of one width. The records of a node are such a row, and so are the nodes of a
-- table; what a writer on either leaves is said of the row once.
use Rattle.std.specs.Prelude.{ℕ, ◌+◌, ◌*◌, ◌-◌}
use Rattle.fields.specs.Numbers.{Bytes, nat_of, bytes_of}
use Rattle.fields.specs.Parts.{part, put}
use Rattle.fields.specs.Blocks.{zeros}

-- how many blocks there are
abbrev pub blocks_in : (at : ℕ) (row : Bytes) → ℕ
blocks_in at row = nat_of (part at 1 row)

-- where block i begins
abbrev pub block_place : (at width i : ℕ) → ℕ
block_place at width i = at + 1 + i * width

-- the bytes of the n blocks that stand behind block i
abbrev pub behind_block : (width i n : ℕ) → ℕ
behind_block width i n = (n - (i + 1)) * width

-- block i of n goes: those behind it move down, the place that falls free is cleared, and the count is one less
abbrev pub less_block : (at width i n : ℕ) (row : Bytes) → Bytes
less_block at width i n row =
    put at (bytes_of 1 (n - 1))
    (put (block_place at width i + behind_block width i n) (zeros width)
    (put (block_place at width i) (part (block_place at width i + width) (behind_block width i n) row) row))

abbrev pub without_block : (at width i : ℕ) (row : Bytes) → Bytes
without_block at width i row = less_block at width i (blocks_in at row) row
