-- `apply_node::takes` meets its contract. Assumes nothing.
use Rattle.apply_node.proofs.Taken.{old, new-set, new-delete, new-ttl}
use Rattle.apply_node.proofs.takes.Goals as goal

pub returns-then-version-held : goal.returns-then-version-held
returns-then-version-held c =
    old _ _ _ _ c.if-version-held.true

pub returns-in-Set : goal.returns-in-Set
returns-in-Set c =
    new-set _ _ _ c.if-version-held.false _ c.in-Set.is

pub returns-in-Delete : goal.returns-in-Delete
returns-in-Delete c =
    new-delete _ _ _ c.if-version-held.false _ c.in-Delete.is

pub returns-in-Ttl : goal.returns-in-Ttl
returns-in-Ttl c =
    new-ttl _ _ _ c.if-version-held.false _ c.in-Ttl.is
