-- `local_grant::is_full` meets its contract. Assumes nothing.
use mathlib.Core.Path.{ap, sym, ◌∙◌}
use lib.Dec.{leb}
use Rattle.rules.specs.Sizes.{max_records}
use Rattle.table.proofs.Places.{length-recs}
use Rattle.table_read.specs.declared.Place.{Place}
use Rattle.local_grant.specs.Granting.{node_in, full_at}
use Rattle.local_grant.proofs.is_full.Goals as goal

pub returns-in-At : goal.returns-in-At
returns-in-At c =
    let a = c.args in
    sym (ap (λ (p : Place). full_at p (node_in a.node.now)) c.in-At.is)

pub returns-in-Free : goal.returns-in-Free
returns-in-Free c =
    let a = c.args in
    ap (leb max_records) (c.byte_at.ensures.0 ∙ sym (length-recs a.node.now))
    ∙ sym (ap (λ (p : Place). full_at p (node_in a.node.now)) c.in-Free.is)
