-- The four numbers are one put, side by side. Assumes nothing.
use native.Mathlib.Omega.{arith}
use Rattle.digest_read.specs.Held.{back}
use Rattle.digest_write.proofs.Entries.{entry-fields}
use Rattle.digest_write.proofs.write_entry.Goals as goal

pub returns : goal.returns
returns c =
    let a = c.args in
    entry-fields (back a.entry) a.datagram.now _ _ _ _ (omega arith) c.write_u64.ensures c.write_u64-2.ensures
    c.write_u64-3.ensures c.write_u64-4.ensures
