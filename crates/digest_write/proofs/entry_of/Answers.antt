-- The number stands in front of the header. Assumes nothing.
use Rattle.rules.specs.Layout.{decode_node}
use Rattle.digest_write.proofs.entry_of.Goals as goal

pub returns : goal.returns
unfolding decode_node
returns c =
    let n = c.read_u64.ensures in
    let h = c.read_header-header.ensures in
    λ i. record { number = n i; heartbeat = (h i).heartbeat; last_gc = (h i).last_gc; max = (h i).max }
