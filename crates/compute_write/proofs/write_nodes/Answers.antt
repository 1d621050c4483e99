-- `compute_write::write_nodes` meets its contract: in both loops what is left to be written, behind what has been, has the whole's outcome. Each step
-- is a law of proofs/Steps. Assumes nothing.
use Prim.Native.Nat.{ℕ, ◌+◌, ◌-◌, ◌<◌}
use mathlib.Core.Path.{◌≡◌, ◌∙◌}
use mathlib.Core.List.{List, ◌∷◌, ◌++◌}
use native.Mathlib.Omega.{arith}
use lib.ListN.{length, get_or}
use Rattle.fields.specs.Numbers.{Bytes}
use Rattle.rules.specs.Table.{Table}
use Rattle.rules.specs.Delta.{Op, KeyValueOp}
use Rattle.rules.specs.Layout.{decode}
use Rattle.table.specs.Tests.{nodes_of}
use Rattle.table_read.proofs.Located.{lent-node, node-long, count_low}
use Rattle.compute_stale.specs.Arranged.{listed}
use Rattle.compute_stale.proofs.Arranged.{listed_in, listed-lower}
use Rattle.compute_write.specs.Sending.{node_op_at, record_at, body_at, ops_at}
use Rattle.compute_write.proofs.Steps.{Writing, writing, Reached, back, at_first, from-here, then, left_is, all-written}
use Rattle.compute_write.proofs.Steps.{op-written, unfit-long, node-unfit, record-unfit}
use Rattle.compute_write.proofs.Lines.{next-node, no_node, record_ops, next-record, no_record}
use Rattle.compute_write.proofs.Lines.{stale-few, stale-long, stale-within, body-begun}
use Rattle.compute_write.proofs.write_nodes.Goals as goal

-- ---- the needs: a node
pub nodes-init : goal.nodes-init
nodes-init c =
    let a = c.args in
    (omega arith, c.requires.4, at_first (ops_at (decode a.table.now) a.froms.now (listed a.n a.line.now)) a.datagram.now)

pub offset_bounds-froms-p : goal.offset_bounds-froms-p
offset_bounds-froms-p c =
    let own : ℕ = get_or c.args.line.now (c.nodes.j - 1) 0 in
    let node_in : own < nodes_of c.args.table.now = c.nodes.invariant.1 _ (listed_in c.nodes.j c.args.line.now c.nodes-test.true) in
    let h = node_in in let g = c.requires.0.few in omega arith

pub bounds-froms-p : goal.bounds-froms-p
bounds-froms-p c =
    let own : ℕ = get_or c.args.line.now (c.nodes.j - 1) 0 in
    let node_in : own < nodes_of c.args.table.now = c.nodes.invariant.1 _ (listed_in c.nodes.j c.args.line.now c.nodes-test.true) in
    let h = node_in in let g = c.requires.0.few in omega arith

pub write_node-requires : goal.write_node-requires
write_node-requires c =
    let own : ℕ = get_or c.args.line.now (c.nodes.j - 1) 0 in
    let node_in : own < nodes_of c.args.table.now = c.nodes.invariant.1 _ (listed_in c.nodes.j c.args.line.now c.nodes-test.true) in
    (c.requires.0, node_in)

pub overflow_add-used : goal.overflow_add-used
overflow_add-used c =
    let table : Table = decode c.args.table.now in
    let at_entry : Writing = let a = c.args in writing 0 0 (ops_at (table) a.froms.now (listed a.n a.line.now)) a.datagram.now in
    let node-used : ℕ = c.nodes.used + c.in-Some.size in
    let own : ℕ = get_or c.args.line.now (c.nodes.j - 1) 0 in
    let own-from : ℕ = get_or c.args.froms.now (own) 0 in
    let others : List Op = ops_at (table) c.args.froms.now (listed (c.nodes.j - 1) c.args.line.now) in
    let node-datagram : Bytes = let w = c.nodes in back w.used w.datagram c.write_node.new.datagram in
    let node-next : let w = c.nodes in
    let next : List Op = node_op_at (table) (own) (own-from) ∷ (body_at (table) (own) (own-from) ++ others) in
    Reached (at_entry) (writing w.ops w.used next w.datagram) = let a = c.args in
    let w = c.nodes in
    left_is (next-node (table) a.froms.now a.line.now w.j c.nodes-test.true) w.invariant.2 in
    let node-reached : Reached (at_entry) (writing (c.nodes.ops + 1) (node-used) (body_at (table) (own) (own-from) ++ others) (node-datagram)) = op-written c.write_node.ensures c.in-Some.is (node-next) in
    let w = node-reached in omega arith

-- ---- the needs: its stale records, its SetMaxVersion
pub node_of-requires : goal.node_of-requires
node_of-requires c =
    let own : ℕ = get_or c.args.line.now (c.nodes.j - 1) 0 in
    let node_in : own < nodes_of c.args.table.now = c.nodes.invariant.1 _ (listed_in c.nodes.j c.args.line.now c.nodes-test.true) in
    lent-node c.args.table.now c.requires.0 _ (node_in)

pub stale_places-stale-requires : goal.stale_places-stale-requires
stale_places-stale-requires c =
    let own : ℕ = get_or c.args.line.now (c.nodes.j - 1) 0 in
    let node_in : own < nodes_of c.args.table.now = c.nodes.invariant.1 _ (listed_in c.nodes.j c.args.line.now c.nodes-test.true) in
    let l : Bytes = c.args.table.now in
    let laid = c.requires.0 in
    (node-long l laid _ (node_in) _ c.node_of.ensures, count_low l laid _ (node_in) _ c.node_of.ensures)

pub slice_bounds-write_max-count : goal.slice_bounds-write_max-count
slice_bounds-write_max-count c =
    let table : Table = decode c.args.table.now in
    let at_entry : Writing = let a = c.args in writing 0 0 (ops_at (table) a.froms.now (listed a.n a.line.now)) a.datagram.now in
    let node-used : ℕ = c.nodes.used + c.in-Some.size in
    let own : ℕ = get_or c.args.line.now (c.nodes.j - 1) 0 in
    let own-from : ℕ = get_or c.args.froms.now (own) 0 in
    let others : List Op = ops_at (table) c.args.froms.now (listed (c.nodes.j - 1) c.args.line.now) in
    let node-datagram : Bytes = let w = c.nodes in back w.used w.datagram c.write_node.new.datagram in
    let node-next : let w = c.nodes in
    let next : List Op = node_op_at (table) (own) (own-from) ∷ (body_at (table) (own) (own-from) ++ others) in
    Reached (at_entry) (writing w.ops w.used next w.datagram) = let a = c.args in
    let w = c.nodes in
    left_is (next-node (table) a.froms.now a.line.now w.j c.nodes-test.true) w.invariant.2 in
    let node-reached : Reached (at_entry) (writing (c.nodes.ops + 1) (node-used) (body_at (table) (own) (own-from) ++ others) (node-datagram)) = op-written c.write_node.ensures c.in-Some.is (node-next) in
    (node-reached).room

pub slice_bounds-write_max-start : goal.slice_bounds-write_max-start
slice_bounds-write_max-start c =
    let table : Table = decode c.args.table.now in
    let at_entry : Writing = let a = c.args in writing 0 0 (ops_at (table) a.froms.now (listed a.n a.line.now)) a.datagram.now in
    let node-used : ℕ = c.nodes.used + c.in-Some.size in
    let own : ℕ = get_or c.args.line.now (c.nodes.j - 1) 0 in
    let own-from : ℕ = get_or c.args.froms.now (own) 0 in
    let others : List Op = ops_at (table) c.args.froms.now (listed (c.nodes.j - 1) c.args.line.now) in
    let node-datagram : Bytes = let w = c.nodes in back w.used w.datagram c.write_node.new.datagram in
    let node-next : let w = c.nodes in
    let next : List Op = node_op_at (table) (own) (own-from) ∷ (body_at (table) (own) (own-from) ++ others) in
    Reached (at_entry) (writing w.ops w.used next w.datagram) = let a = c.args in
    let w = c.nodes in
    left_is (next-node (table) a.froms.now a.line.now w.j c.nodes-test.true) w.invariant.2 in
    let node-reached : Reached (at_entry) (writing (c.nodes.ops + 1) (node-used) (body_at (table) (own) (own-from) ++ others) (node-datagram)) = op-written c.write_node.ensures c.in-Some.is (node-next) in
    (node-reached).room

pub write_max-sent-requires : goal.write_max-sent-requires
write_max-sent-requires c =
    let own : ℕ = get_or c.args.line.now (c.nodes.j - 1) 0 in
    let node_in : own < nodes_of c.args.table.now = c.nodes.invariant.1 _ (listed_in c.nodes.j c.args.line.now c.nodes-test.true) in
    (c.requires.0, node_in)

pub overflow_add-ops-in-nodes : goal.overflow_add-ops-in-nodes
overflow_add-ops-in-nodes c =
    let table : Table = decode c.args.table.now in
    let at_entry : Writing = let a = c.args in writing 0 0 (ops_at (table) a.froms.now (listed a.n a.line.now)) a.datagram.now in
    let node-used : ℕ = c.nodes.used + c.in-Some.size in
    let own : ℕ = get_or c.args.line.now (c.nodes.j - 1) 0 in
    let others : List Op = ops_at (table) c.args.froms.now (listed (c.nodes.j - 1) c.args.line.now) in
    let node-datagram : Bytes = let w = c.nodes in back w.used w.datagram c.write_node.new.datagram in
    let begun : Writing = let sent = c.write_max-sent in
    writing (c.nodes.ops + 1 + sent.result.ops) (node-used + sent.result.bytes)
    (record_ops (table) (own) (listed c.stale_places-stale.result.count c.stale_places-stale.result.at) ++ others)
    (back (node-used) (node-datagram) sent.new.datagram) in
    let node_in : own < nodes_of c.args.table.now = c.nodes.invariant.1 _ (listed_in c.nodes.j c.args.line.now c.nodes-test.true) in
    let own-from : ℕ = get_or c.args.froms.now (own) 0 in
    let node-next : let w = c.nodes in
    let next : List Op = node_op_at (table) (own) (own-from) ∷ (body_at (table) (own) (own-from) ++ others) in
    Reached (at_entry) (writing w.ops w.used next w.datagram) = let a = c.args in
    let w = c.nodes in
    left_is (next-node (table) a.froms.now a.line.now w.j c.nodes-test.true) w.invariant.2 in
    let node-reached : Reached (at_entry) (writing (c.nodes.ops + 1) (node-used) (body_at (table) (own) (own-from) ++ others) (node-datagram)) = op-written c.write_node.ensures c.in-Some.is (node-next) in
    let records-reached : Reached (at_entry) (begun) = body-begun c.args.table.now c.requires.0 (own) (node_in) _ c.node_of.ensures (own-from) _ c.stale_places-stale.ensures
    (others) c.write_max-sent.ensures (node-reached) in
    let w = records-reached in omega arith

pub overflow_add-used-in-nodes : goal.overflow_add-used-in-nodes
overflow_add-used-in-nodes c =
    let table : Table = decode c.args.table.now in
    let at_entry : Writing = let a = c.args in writing 0 0 (ops_at (table) a.froms.now (listed a.n a.line.now)) a.datagram.now in
    let node-used : ℕ = c.nodes.used + c.in-Some.size in
    let own : ℕ = get_or c.args.line.now (c.nodes.j - 1) 0 in
    let others : List Op = ops_at (table) c.args.froms.now (listed (c.nodes.j - 1) c.args.line.now) in
    let node-datagram : Bytes = let w = c.nodes in back w.used w.datagram c.write_node.new.datagram in
    let begun : Writing = let sent = c.write_max-sent in
    writing (c.nodes.ops + 1 + sent.result.ops) (node-used + sent.result.bytes)
    (record_ops (table) (own) (listed c.stale_places-stale.result.count c.stale_places-stale.result.at) ++ others)
    (back (node-used) (node-datagram) sent.new.datagram) in
    let node_in : own < nodes_of c.args.table.now = c.nodes.invariant.1 _ (listed_in c.nodes.j c.args.line.now c.nodes-test.true) in
    let own-from : ℕ = get_or c.args.froms.now (own) 0 in
    let node-next : let w = c.nodes in
    let next : List Op = node_op_at (table) (own) (own-from) ∷ (body_at (table) (own) (own-from) ++ others) in
    Reached (at_entry) (writing w.ops w.used next w.datagram) = let a = c.args in
    let w = c.nodes in
    left_is (next-node (table) a.froms.now a.line.now w.j c.nodes-test.true) w.invariant.2 in
    let node-reached : Reached (at_entry) (writing (c.nodes.ops + 1) (node-used) (body_at (table) (own) (own-from) ++ others) (node-datagram)) = op-written c.write_node.ensures c.in-Some.is (node-next) in
    let records-reached : Reached (at_entry) (begun) = body-begun c.args.table.now c.requires.0 (own) (node_in) _ c.node_of.ensures (own-from) _ c.stale_places-stale.ensures
    (others) c.write_max-sent.ensures (node-reached) in
    let w = records-reached in omega arith

-- ---- the needs: the loop over the records, and the next node
pub loop-k-init : goal.loop-k-init
loop-k-init c =
    let own : ℕ = get_or c.args.line.now (c.nodes.j - 1) 0 in
    let node_in : own < nodes_of c.args.table.now = c.nodes.invariant.1 _ (listed_in c.nodes.j c.args.line.now c.nodes-test.true) in
    let own-from : ℕ = get_or c.args.froms.now (own) 0 in
    let table : Table = decode c.args.table.now in
    let at_entry : Writing = let a = c.args in writing 0 0 (ops_at (table) a.froms.now (listed a.n a.line.now)) a.datagram.now in
    let node-used : ℕ = c.nodes.used + c.in-Some.size in
    let others : List Op = ops_at (table) c.args.froms.now (listed (c.nodes.j - 1) c.args.line.now) in
    let node-datagram : Bytes = let w = c.nodes in back w.used w.datagram c.write_node.new.datagram in
    let begun : Writing = let sent = c.write_max-sent in
    writing (c.nodes.ops + 1 + sent.result.ops) (node-used + sent.result.bytes)
    (record_ops (table) (own) (listed c.stale_places-stale.result.count c.stale_places-stale.result.at) ++ others)
    (back (node-used) (node-datagram) sent.new.datagram) in
    let node-next : let w = c.nodes in
    let next : List Op = node_op_at (table) (own) (own-from) ∷ (body_at (table) (own) (own-from) ++ others) in
    Reached (at_entry) (writing w.ops w.used next w.datagram) = let a = c.args in
    let w = c.nodes in
    left_is (next-node (table) a.froms.now a.line.now w.j c.nodes-test.true) w.invariant.2 in
    let node-reached : Reached (at_entry) (writing (c.nodes.ops + 1) (node-used) (body_at (table) (own) (own-from) ++ others) (node-datagram)) = op-written c.write_node.ensures c.in-Some.is (node-next) in
    let records-reached : Reached (at_entry) (begun) = body-begun c.args.table.now c.requires.0 (own) (node_in) _ c.node_of.ensures (own-from) _ c.stale_places-stale.ensures
    (others) c.write_max-sent.ensures (node-reached) in
    let l : Bytes = c.args.table.now in
    let laid = c.requires.0 in
    let node = c.node_of.ensures in (
      stale-few l laid (own) (node_in) _ node (own-from) _ c.stale_places-stale.ensures,
      stale-long l laid (own) (node_in) _ node (own-from) _ c.stale_places-stale.ensures,
      stale-within l laid (own) (node_in) _ node (own-from) _ c.stale_places-stale.ensures,
      from-here (records-reached),
    )

pub nodes-preserved : goal.nodes-preserved
nodes-preserved c =
    let table : Table = decode c.args.table.now in
    let own : ℕ = get_or c.args.line.now (c.nodes.j - 1) 0 in
    let own-places : List ℕ = c.stale_places-stale.result.at in
    let others : List Op = ops_at (table) c.args.froms.now (listed (c.nodes.j - 1) c.args.line.now) in
    let at_entry : Writing = let a = c.args in writing 0 0 (ops_at (table) a.froms.now (listed a.n a.line.now)) a.datagram.now in
    let node-used : ℕ = c.nodes.used + c.in-Some.size in
    let node-datagram : Bytes = let w = c.nodes in back w.used w.datagram c.write_node.new.datagram in
    let begun : Writing = let sent = c.write_max-sent in
    writing (c.nodes.ops + 1 + sent.result.ops) (node-used + sent.result.bytes)
    (record_ops (table) (own) (listed c.stale_places-stale.result.count c.stale_places-stale.result.at) ++ others)
    (back (node-used) (node-datagram) sent.new.datagram) in
    let node_in : own < nodes_of c.args.table.now = c.nodes.invariant.1 _ (listed_in c.nodes.j c.args.line.now c.nodes-test.true) in
    let own-from : ℕ = get_or c.args.froms.now (own) 0 in
    let node-next : let w = c.nodes in
    let next : List Op = node_op_at (table) (own) (own-from) ∷ (body_at (table) (own) (own-from) ++ others) in
    Reached (at_entry) (writing w.ops w.used next w.datagram) = let a = c.args in
    let w = c.nodes in
    left_is (next-node (table) a.froms.now a.line.now w.j c.nodes-test.true) w.invariant.2 in
    let node-reached : Reached (at_entry) (writing (c.nodes.ops + 1) (node-used) (body_at (table) (own) (own-from) ++ others) (node-datagram)) = op-written c.write_node.ensures c.in-Some.is (node-next) in
    let records-reached : Reached (at_entry) (begun) = body-begun c.args.table.now c.requires.0 (own) (node_in) _ c.node_of.ensures (own-from) _ c.stale_places-stale.ensures
    (others) c.write_max-sent.ensures (node-reached) in
    let w = c.loop-k in
    let q = c.nodes in
    let left = no_record (table) (own) w.k (own-places) (others) (omega arith) in (
      omega (arith, q),
      λ p o. q.invariant.1 p (listed-lower q.j c.args.line.now c.nodes-test.true o),
      left_is left (then (records-reached) w.invariant.3),
    )

pub write_record-requires : goal.write_record-requires
write_record-requires c =
    let own : ℕ = get_or c.args.line.now (c.nodes.j - 1) 0 in
    let node_in : own < nodes_of c.args.table.now = c.nodes.invariant.1 _ (listed_in c.nodes.j c.args.line.now c.nodes-test.true) in
    let own-places : List ℕ = c.stale_places-stale.result.at in
    let w = c.loop-k in
    (c.requires.0, node_in, w.invariant.2 _ (listed_in w.k (own-places) c.loop-k-test.true))

pub overflow_add-ops-in-loop-k : goal.overflow_add-ops-in-loop-k
overflow_add-ops-in-loop-k c =
    let table : Table = decode c.args.table.now in
    let own : ℕ = get_or c.args.line.now (c.nodes.j - 1) 0 in
    let own-places : List ℕ = c.stale_places-stale.result.at in
    let others : List Op = ops_at (table) c.args.froms.now (listed (c.nodes.j - 1) c.args.line.now) in
    let node-used : ℕ = c.nodes.used + c.in-Some.size in
    let node-datagram : Bytes = let w = c.nodes in back w.used w.datagram c.write_node.new.datagram in
    let begun : Writing = let sent = c.write_max-sent in
    writing (c.nodes.ops + 1 + sent.result.ops) (node-used + sent.result.bytes)
    (record_ops (table) (own) (listed c.stale_places-stale.result.count c.stale_places-stale.result.at) ++ others)
    (back (node-used) (node-datagram) sent.new.datagram) in
    let record-next : let w = c.loop-k in
    let at : List ℕ = own-places in
    let later : List Op = record_ops (table) (own) (listed (w.k - 1) at) ++ others in
    Reached (begun) (writing w.ops w.used (KeyValueOp (record_at (table) (own) (get_or at (w.k - 1) 0)) ∷ later) w.datagram) = let w = c.loop-k in
    left_is (next-record (table) (own) w.k (own-places) (others) c.loop-k-test.true) w.invariant.3 in
    let record-reached : let w = c.loop-k in
    let later : List Op = record_ops (table) (own) (listed (w.k - 1) (own-places)) ++ others in
    let datagram : Bytes = back w.used w.datagram c.write_record.new.datagram in
    Reached (begun) (writing (w.ops + 1) (w.used + c.in-Some-write_record.size) later datagram) = op-written c.write_record.ensures c.in-Some-write_record.is (record-next) in
    let at_entry : Writing = let a = c.args in writing 0 0 (ops_at (table) a.froms.now (listed a.n a.line.now)) a.datagram.now in
    let node_in : own < nodes_of c.args.table.now = c.nodes.invariant.1 _ (listed_in c.nodes.j c.args.line.now c.nodes-test.true) in
    let own-from : ℕ = get_or c.args.froms.now (own) 0 in
    let node-next : let w = c.nodes in
    let next : List Op = node_op_at (table) (own) (own-from) ∷ (body_at (table) (own) (own-from) ++ others) in
    Reached (at_entry) (writing w.ops w.used next w.datagram) = let a = c.args in
    let w = c.nodes in
    left_is (next-node (table) a.froms.now a.line.now w.j c.nodes-test.true) w.invariant.2 in
    let node-reached : Reached (at_entry) (writing (c.nodes.ops + 1) (node-used) (body_at (table) (own) (own-from) ++ others) (node-datagram)) = op-written c.write_node.ensures c.in-Some.is (node-next) in
    let records-reached : Reached (at_entry) (begun) = body-begun c.args.table.now c.requires.0 (own) (node_in) _ c.node_of.ensures (own-from) _ c.stale_places-stale.ensures
    (others) c.write_max-sent.ensures (node-reached) in
    let entry-long : length c.loop-k.datagram ≡ length c.args.datagram.now = c.loop-k.invariant.3.long ∙ (records-reached).long in
    let w = record-reached in
    let e = entry-long in
    omega (arith, c.loop-k)

pub overflow_add-used-in-loop-k : goal.overflow_add-used-in-loop-k
overflow_add-used-in-loop-k c =
    let table : Table = decode c.args.table.now in
    let own : ℕ = get_or c.args.line.now (c.nodes.j - 1) 0 in
    let own-places : List ℕ = c.stale_places-stale.result.at in
    let others : List Op = ops_at (table) c.args.froms.now (listed (c.nodes.j - 1) c.args.line.now) in
    let node-used : ℕ = c.nodes.used + c.in-Some.size in
    let node-datagram : Bytes = let w = c.nodes in back w.used w.datagram c.write_node.new.datagram in
    let begun : Writing = let sent = c.write_max-sent in
    writing (c.nodes.ops + 1 + sent.result.ops) (node-used + sent.result.bytes)
    (record_ops (table) (own) (listed c.stale_places-stale.result.count c.stale_places-stale.result.at) ++ others)
    (back (node-used) (node-datagram) sent.new.datagram) in
    let record-next : let w = c.loop-k in
    let at : List ℕ = own-places in
    let later : List Op = record_ops (table) (own) (listed (w.k - 1) at) ++ others in
    Reached (begun) (writing w.ops w.used (KeyValueOp (record_at (table) (own) (get_or at (w.k - 1) 0)) ∷ later) w.datagram) = let w = c.loop-k in
    left_is (next-record (table) (own) w.k (own-places) (others) c.loop-k-test.true) w.invariant.3 in
    let record-reached : let w = c.loop-k in
    let later : List Op = record_ops (table) (own) (listed (w.k - 1) (own-places)) ++ others in
    let datagram : Bytes = back w.used w.datagram c.write_record.new.datagram in
    Reached (begun) (writing (w.ops + 1) (w.used + c.in-Some-write_record.size) later datagram) = op-written c.write_record.ensures c.in-Some-write_record.is (record-next) in
    let at_entry : Writing = let a = c.args in writing 0 0 (ops_at (table) a.froms.now (listed a.n a.line.now)) a.datagram.now in
    let node_in : own < nodes_of c.args.table.now = c.nodes.invariant.1 _ (listed_in c.nodes.j c.args.line.now c.nodes-test.true) in
    let own-from : ℕ = get_or c.args.froms.now (own) 0 in
    let node-next : let w = c.nodes in
    let next : List Op = node_op_at (table) (own) (own-from) ∷ (body_at (table) (own) (own-from) ++ others) in
    Reached (at_entry) (writing w.ops w.used next w.datagram) = let a = c.args in
    let w = c.nodes in
    left_is (next-node (table) a.froms.now a.line.now w.j c.nodes-test.true) w.invariant.2 in
    let node-reached : Reached (at_entry) (writing (c.nodes.ops + 1) (node-used) (body_at (table) (own) (own-from) ++ others) (node-datagram)) = op-written c.write_node.ensures c.in-Some.is (node-next) in
    let records-reached : Reached (at_entry) (begun) = body-begun c.args.table.now c.requires.0 (own) (node_in) _ c.node_of.ensures (own-from) _ c.stale_places-stale.ensures
    (others) c.write_max-sent.ensures (node-reached) in
    let entry-long : length c.loop-k.datagram ≡ length c.args.datagram.now = c.loop-k.invariant.3.long ∙ (records-reached).long in
    let w = record-reached in
    let e = entry-long in
    omega (arith, c.loop-k)

pub loop-k-preserved : goal.loop-k-preserved
loop-k-preserved c =
    let own-places : List ℕ = c.stale_places-stale.result.at in
    let table : Table = decode c.args.table.now in
    let own : ℕ = get_or c.args.line.now (c.nodes.j - 1) 0 in
    let others : List Op = ops_at (table) c.args.froms.now (listed (c.nodes.j - 1) c.args.line.now) in
    let node-used : ℕ = c.nodes.used + c.in-Some.size in
    let node-datagram : Bytes = let w = c.nodes in back w.used w.datagram c.write_node.new.datagram in
    let begun : Writing = let sent = c.write_max-sent in
    writing (c.nodes.ops + 1 + sent.result.ops) (node-used + sent.result.bytes)
    (record_ops (table) (own) (listed c.stale_places-stale.result.count c.stale_places-stale.result.at) ++ others)
    (back (node-used) (node-datagram) sent.new.datagram) in
    let record-next : let w = c.loop-k in
    let at : List ℕ = own-places in
    let later : List Op = record_ops (table) (own) (listed (w.k - 1) at) ++ others in
    Reached (begun) (writing w.ops w.used (KeyValueOp (record_at (table) (own) (get_or at (w.k - 1) 0)) ∷ later) w.datagram) = let w = c.loop-k in
    left_is (next-record (table) (own) w.k (own-places) (others) c.loop-k-test.true) w.invariant.3 in
    let record-reached : let w = c.loop-k in
    let later : List Op = record_ops (table) (own) (listed (w.k - 1) (own-places)) ++ others in
    let datagram : Bytes = back w.used w.datagram c.write_record.new.datagram in
    Reached (begun) (writing (w.ops + 1) (w.used + c.in-Some-write_record.size) later datagram) = op-written c.write_record.ensures c.in-Some-write_record.is (record-next) in
    let w = c.loop-k in (
      omega (arith, w),
      w.invariant.1,
      λ x m. w.invariant.2 x (listed-lower w.k (own-places) c.loop-k-test.true m),
      record-reached,
    )

pub returns-after-nodes : goal.returns-after-nodes
returns-after-nodes c =
    let w = c.nodes in
    let a = c.args in
    let t : Table = decode a.table.now in
    all-written (left_is (no_node t a.froms.now a.line.now w.j (omega arith)) w.invariant.2)

pub returns-in_default : goal.returns-in_default
returns-in_default c =
    let table : Table = decode c.args.table.now in
    let own : ℕ = get_or c.args.line.now (c.nodes.j - 1) 0 in
    let own-from : ℕ = get_or c.args.froms.now (own) 0 in
    let others : List Op = ops_at (table) c.args.froms.now (listed (c.nodes.j - 1) c.args.line.now) in
    let at_entry : Writing = let a = c.args in writing 0 0 (ops_at (table) a.froms.now (listed a.n a.line.now)) a.datagram.now in
    let node-next : let w = c.nodes in
    let next : List Op = node_op_at (table) (own) (own-from) ∷ (body_at (table) (own) (own-from) ++ others) in
    Reached (at_entry) (writing w.ops w.used next w.datagram) = let a = c.args in
    let w = c.nodes in
    left_is (next-node (table) a.froms.now a.line.now w.j c.nodes-test.true) w.invariant.2 in
    node-unfit c.write_node.ensures c.in_default.is (node-next)

-- a record does not
pub shape_of-datagram-in_default-write_record : goal.shape_of-datagram-in_default-write_record
shape_of-datagram-in_default-write_record c =
    let own-places : List ℕ = c.stale_places-stale.result.at in
    let table : Table = decode c.args.table.now in
    let own : ℕ = get_or c.args.line.now (c.nodes.j - 1) 0 in
    let others : List Op = ops_at (table) c.args.froms.now (listed (c.nodes.j - 1) c.args.line.now) in
    let node-used : ℕ = c.nodes.used + c.in-Some.size in
    let node-datagram : Bytes = let w = c.nodes in back w.used w.datagram c.write_node.new.datagram in
    let begun : Writing = let sent = c.write_max-sent in
    writing (c.nodes.ops + 1 + sent.result.ops) (node-used + sent.result.bytes)
    (record_ops (table) (own) (listed c.stale_places-stale.result.count c.stale_places-stale.result.at) ++ others)
    (back (node-used) (node-datagram) sent.new.datagram) in
    let record-next : let w = c.loop-k in
    let at : List ℕ = own-places in
    let later : List Op = record_ops (table) (own) (listed (w.k - 1) at) ++ others in
    Reached (begun) (writing w.ops w.used (KeyValueOp (record_at (table) (own) (get_or at (w.k - 1) 0)) ∷ later) w.datagram) = let w = c.loop-k in
    left_is (next-record (table) (own) w.k (own-places) (others) c.loop-k-test.true) w.invariant.3 in
    let at_entry : Writing = let a = c.args in writing 0 0 (ops_at (table) a.froms.now (listed a.n a.line.now)) a.datagram.now in
    let node_in : own < nodes_of c.args.table.now = c.nodes.invariant.1 _ (listed_in c.nodes.j c.args.line.now c.nodes-test.true) in
    let own-from : ℕ = get_or c.args.froms.now (own) 0 in
    let node-next : let w = c.nodes in
    let next : List Op = node_op_at (table) (own) (own-from) ∷ (body_at (table) (own) (own-from) ++ others) in
    Reached (at_entry) (writing w.ops w.used next w.datagram) = let a = c.args in
    let w = c.nodes in
    left_is (next-node (table) a.froms.now a.line.now w.j c.nodes-test.true) w.invariant.2 in
    let node-reached : Reached (at_entry) (writing (c.nodes.ops + 1) (node-used) (body_at (table) (own) (own-from) ++ others) (node-datagram)) = op-written c.write_node.ensures c.in-Some.is (node-next) in
    let records-reached : Reached (at_entry) (begun) = body-begun c.args.table.now c.requires.0 (own) (node_in) _ c.node_of.ensures (own-from) _ c.stale_places-stale.ensures
    (others) c.write_max-sent.ensures (node-reached) in
    unfit-long c.write_record.ensures c.in_default-write_record.is (record-next)
    ∙ (records-reached).long

pub returns-in_default-write_record : goal.returns-in_default-write_record
returns-in_default-write_record c =
    let table : Table = decode c.args.table.now in
    let at_entry : Writing = let a = c.args in writing 0 0 (ops_at (table) a.froms.now (listed a.n a.line.now)) a.datagram.now in
    let node-used : ℕ = c.nodes.used + c.in-Some.size in
    let own : ℕ = get_or c.args.line.now (c.nodes.j - 1) 0 in
    let others : List Op = ops_at (table) c.args.froms.now (listed (c.nodes.j - 1) c.args.line.now) in
    let node-datagram : Bytes = let w = c.nodes in back w.used w.datagram c.write_node.new.datagram in
    let begun : Writing = let sent = c.write_max-sent in
    writing (c.nodes.ops + 1 + sent.result.ops) (node-used + sent.result.bytes)
    (record_ops (table) (own) (listed c.stale_places-stale.result.count c.stale_places-stale.result.at) ++ others)
    (back (node-used) (node-datagram) sent.new.datagram) in
    let node_in : own < nodes_of c.args.table.now = c.nodes.invariant.1 _ (listed_in c.nodes.j c.args.line.now c.nodes-test.true) in
    let own-from : ℕ = get_or c.args.froms.now (own) 0 in
    let node-next : let w = c.nodes in
    let next : List Op = node_op_at (table) (own) (own-from) ∷ (body_at (table) (own) (own-from) ++ others) in
    Reached (at_entry) (writing w.ops w.used next w.datagram) = let a = c.args in
    let w = c.nodes in
    left_is (next-node (table) a.froms.now a.line.now w.j c.nodes-test.true) w.invariant.2 in
    let node-reached : Reached (at_entry) (writing (c.nodes.ops + 1) (node-used) (body_at (table) (own) (own-from) ++ others) (node-datagram)) = op-written c.write_node.ensures c.in-Some.is (node-next) in
    let records-reached : Reached (at_entry) (begun) = body-begun c.args.table.now c.requires.0 (own) (node_in) _ c.node_of.ensures (own-from) _ c.stale_places-stale.ensures
    (others) c.write_max-sent.ensures (node-reached) in
    let own-places : List ℕ = c.stale_places-stale.result.at in
    let record-next : let w = c.loop-k in
    let at : List ℕ = own-places in
    let later : List Op = record_ops (table) (own) (listed (w.k - 1) at) ++ others in
    Reached (begun) (writing w.ops w.used (KeyValueOp (record_at (table) (own) (get_or at (w.k - 1) 0)) ∷ later) w.datagram) = let w = c.loop-k in
    left_is (next-record (table) (own) w.k (own-places) (others) c.loop-k-test.true) w.invariant.3 in
    record-unfit c.write_record.ensures c.in_default-write_record.is
    (then (records-reached) (record-next))
