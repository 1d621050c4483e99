-- The sizes that document 01 adds. Every definition takes them from here.
use Rattle.std.specs.Prelude.{ℕ, ◌-◌, ◌^◌}

-- nodes in a table, and in a digest or a delta
abbrev pub max_nodes : ℕ
max_nodes = 8

-- removed nodes that a table has room to remember
abbrev pub max_removed : ℕ
max_removed = 16

-- records in a node, tombstones counted
abbrev pub max_records : ℕ
max_records = 32

-- of these a party's, in a node of a shared table
abbrev pub max_each : ℕ
max_each = 16

-- bytes of a key and of a value
abbrev pub max_key : ℕ
max_key = 32

abbrev pub max_value : ℕ
max_value = 64

-- what a number of eight bytes stays below: versions, heartbeats, node numbers, times
abbrev pub numbers : ℕ
numbers = 2 ^ 64

-- the largest of them
abbrev pub top : ℕ
top = 2 ^ 64 - 1

-- bytes of a delta
abbrev pub least_mtu : ℕ
least_mtu = 100

abbrev pub max_delta : ℕ
max_delta = 16384
