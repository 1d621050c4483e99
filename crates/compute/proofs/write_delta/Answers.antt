-- `compute::write_delta` meets its contract: the line is the rules' line, and what is written of it their delta. Assumes nothing.
use Rattle.rules.specs.Layout.{decode}
use Rattle.table.proofs.Tables.{length-decode}
use Rattle.digest_read.specs.Held.{entries_in}
use Rattle.compute_write.proofs.Steps.{gives_as}
use Rattle.compute.proofs.Whole.{delta-is, line-within}
use Rattle.compute.proofs.write_delta.Goals as goal

pub write_nodes-requires : goal.write_nodes-requires
write_nodes-requires c =
    let a = c.args in
    let k = c.line_up-lined.ensures in
    let within = line-within a.excluded.now (entries_in a.digest) a.ties.now (decode a.table.now) _ k in
    (c.requires.0, k.froms-long, k.line_long, k.count_low, λ p m. rw (length-decode a.table.now) at (within p m))

pub returns : goal.returns
returns c =
    let a = c.args in
    let is = delta-is a.excluded.now (entries_in a.digest) a.ties.now (decode a.table.now) _ c.line_up-lined.ensures a.part.now in
    gives_as is c.write_nodes.ensures
