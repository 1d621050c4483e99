-- `table_read::read_header` meets its contract. Assumes nothing.
use Prim.Native.Nat.{ℕ}
use mathlib.Core.Path.{◌≡◌}
use mathlib.Core.List.{List}
use Rattle.fields.specs.Numbers.{nat_of}
use Rattle.fields.specs.Parts.{part}
use Rattle.rules.specs.Layout.{decode_node}
use Rattle.table_read.specs.Find.{header_of}
use Rattle.table_read.proofs.read_header.Goals as goal

header_is : (b : List ℕ) (beat max gc : ℕ) → beat ≡ nat_of (part 8 8 b) → max ≡ nat_of (part 16 8 b) → gc ≡ nat_of (part 24 8 b)
    → record { heartbeat = record { 0 = beat }; max = max; last_gc = gc } ≡ header_of (decode_node b).node
unfolding decode_node
header_is b beat max gc p q r = λ i. record { heartbeat = record { 0 = p i }; max = q i; last_gc = r i }

pub returns : goal.returns
returns c =
    header_is c.args.node.now c.read_u64.result c.read_u64-2.result c.read_u64-3.result c.read_u64.ensures c.read_u64-2.ensures c.read_u64-3.ensures
