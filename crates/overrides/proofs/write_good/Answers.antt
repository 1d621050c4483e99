-- `overrides::write_good` meets its contract: the call that the wanted status asks for, or 10. Assumes nothing.
use Rattle.overrides.proofs.Valid.{over-laid, over-rises}
use Rattle.overrides.proofs.Calls.{set_gives, ttl-gives, tag-gives}
use Rattle.overrides.proofs.write_good.Goals as goal

pub write_node-requires : goal.write_node-requires
write_node-requires c =
    let v = c.requires in (over-laid _ v, over-rises _ v)

pub write_node-requires-in-Ttl : goal.write_node-requires-in-Ttl
write_node-requires-in-Ttl c =
    let v = c.requires in (over-laid _ v, over-rises _ v)

pub returns-in-Set : goal.returns-in-Set
returns-in-Set c =
    let a = c.args in
    let w = c.write_node in
    set_gives a.value.now a.clock a.key.now a.overrides.now a.wanted c.in-Set.is w.result w.new.node w.ensures

pub returns-in-Delete : goal.returns-in-Delete
returns-in-Delete c =
    let a = c.args in
    tag-gives a.value.now a.clock a.key.now a.overrides.now a.wanted c.in-Delete.is c.requires

pub returns-in-Ttl : goal.returns-in-Ttl
returns-in-Ttl c =
    let a = c.args in
    let w = c.write_node-in-Ttl in
    ttl-gives a.value.now a.clock a.key.now a.overrides.now a.wanted c.in-Ttl.is w.result w.new.node w.ensures
