-- `apply_grow::reset` meets its contract: a fresh node, the delta's last_gc. Assumes nothing.
use Rattle.apply_grow.proofs.Growing.{laid-fresh, emptied-bytes}
use Rattle.apply_grow.proofs.reset.Goals as goal

pub set_last_gc-requires : goal.set_last_gc-requires
set_last_gc-requires c =
    laid-fresh _ c.requires _ _ c.read_u64-number.ensures c.write_fresh.ensures

pub returns : goal.returns
returns c =
    emptied-bytes _ c.requires _ _ c.read_u64-number.ensures c.write_fresh.ensures _ _ c.set_last_gc.ensures
