-- The count of the nodes gives the bytes. Assumes nothing.
use Rattle.digest_write.proofs.Outcomes.{size_is}
use Rattle.digest_write.proofs.digest_size.Goals as goal

pub returns : goal.returns
returns c =
    size_is _ _ _ _ c.count_written.ensures.0 c.size_for.ensures
