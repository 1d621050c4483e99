-- `plan_lines::write_line` meets its contract: the Node, the SetMaxVersion where it is due, and the records, one behind the other. Assumes nothing.
use Prim.Native.Nat.{ℕ, ◌+◌, ◌-◌, ◌≤◌}
use mathlib.Core.List.{List, [], ◌++◌, append-nil}
use mathlib.Core.Path.{◌∙◌, ◌≡◌, ap, subst, sym}
use native.Mathlib.Omega.{arith}
use lib.ListN.{length, take}
use lib.Seq.{length-take-le}
use Rattle.fields.specs.Numbers.{Bytes}
use Rattle.rules.specs.Compute.{body_ops, key_value_ops, stale}
use Rattle.rules.specs.Delta.{Op}
use Rattle.rules.specs.Layout.{decode}
use Rattle.rules.specs.Node.{KeyValue}
use Rattle.table_read.proofs.Located.{count_low, node-long}
use Rattle.table_read.specs.Find.{entry_at}
use Rattle.compute_stale.specs.Arranged.{listed}
use Rattle.compute_write.proofs.Lines.{stale-few, stale-long, stale-within}
use Rattle.compute_write.proofs.Steps.{Reached, Writing, at_first, back, left_is, max-written, node-unfit, op-written, writing}
use Rattle.plan_lines.specs.Lines.{line_at, records_at, taken}
use Rattle.plan_lines.proofs.First.{taken-first, taken-low}
use Rattle.plan_lines.proofs.Placed as placed
use Rattle.plan_lines.proofs.Sums.{one-first, rest-long, rest-room, rest-written}
use Rattle.plan_lines.proofs.write_line.Goals as goal

pub returns-in_default : goal.returns-in_default
returns-in_default c =
    let at_entry : Writing = let a = c.args in writing 0 0 (line_at (decode a.table.now) a.p a.from a.count) a.datagram.now in
    node-unfit c.write_node.ensures c.in_default.is (at_first (at_entry).left c.args.datagram.now)

pub stale_places-stale-requires : goal.stale_places-stale-requires
stale_places-stale-requires c =
    (node-long c.args.table.now c.requires.0 _ c.requires.1 _ c.node_of.ensures, count_low c.args.table.now c.requires.0 _ c.requires.1 _ c.node_of.ensures)

pub slice_bounds-write_max-count : goal.slice_bounds-write_max-count
slice_bounds-write_max-count c =
    let at_entry : Writing = let a = c.args in writing 0 0 (line_at (decode a.table.now) a.p a.from a.count) a.datagram.now in
    let size : ℕ = c.in-Some.size in
    let own-max : ℕ = (entry_at (decode c.args.table.now) c.args.p).node.max in
    let all : List KeyValue = stale c.args.from (entry_at (decode c.args.table.now) c.args.p).node.recs in
    let with-node : Bytes = back 0 c.args.datagram.now c.write_node.new.datagram in
    let node-reached : Reached (at_entry) (writing 1 (size) (body_ops (own-max) (take c.args.count (all)) ++ []) (with-node)) = left_is (sym (append-nil (body_ops (own-max) (take c.args.count (all)))))
    (one-first (size) _ (with-node) (op-written c.write_node.ensures c.in-Some.is (at_first (at_entry).left c.args.datagram.now))) in
    (node-reached).room

pub slice_bounds-write_max-start : goal.slice_bounds-write_max-start
slice_bounds-write_max-start c =
    let at_entry : Writing = let a = c.args in writing 0 0 (line_at (decode a.table.now) a.p a.from a.count) a.datagram.now in
    let size : ℕ = c.in-Some.size in
    let own-max : ℕ = (entry_at (decode c.args.table.now) c.args.p).node.max in
    let all : List KeyValue = stale c.args.from (entry_at (decode c.args.table.now) c.args.p).node.recs in
    let with-node : Bytes = back 0 c.args.datagram.now c.write_node.new.datagram in
    let node-reached : Reached (at_entry) (writing 1 (size) (body_ops (own-max) (take c.args.count (all)) ++ []) (with-node)) = left_is (sym (append-nil (body_ops (own-max) (take c.args.count (all)))))
    (one-first (size) _ (with-node) (op-written c.write_node.ensures c.in-Some.is (at_first (at_entry).left c.args.datagram.now))) in
    (node-reached).room

pub overflow_add-used : goal.overflow_add-used
overflow_add-used c =
    let at_entry : Writing = let a = c.args in writing 0 0 (line_at (decode a.table.now) a.p a.from a.count) a.datagram.now in
    let size : ℕ = c.in-Some.size in
    let n : ℕ = c.stale_places-stale.result.count in
    let k : ℕ = c.taken-count.result in
    let records : List Op = records_at (decode c.args.table.now) c.args.p (take (n - (n - k)) (listed (n) c.stale_places-stale.result.at)) in
    let with-node : Bytes = back 0 c.args.datagram.now c.write_node.new.datagram in
    let with_max : Bytes = back (size) (with-node) c.write_max-max.new.datagram in
    let all : List KeyValue = stale c.args.from (entry_at (decode c.args.table.now) c.args.p).node.recs in
    let low : c.taken-count.result ≤ n = subst (λ (m : ℕ). m ≤ n) (sym c.taken-count.ensures) (taken-low c.args.count (n)) in
    let long : length (all) ≡ n = placed.stale-long c.args.table.now c.requires.0 c.args.p c.requires.1 _ c.node_of.ensures c.args.from _ c.stale_places-stale.ensures in
    let sent-are : take c.taken-count.result (all) ≡ take c.args.count (all) = (λ i. take ((c.taken-count.ensures ∙ ap (λ (m : ℕ). taken c.args.count m) (sym (long))) i) (all)) ∙ taken-first c.args.count (all) in
    let records-are : key_value_ops (take c.args.count (all)) ++ [] ≡ records = let few = low in
    let back_to : n - (n - k) ≡ k = omega arith in
    append-nil (key_value_ops (take c.args.count (all)))
    ∙ ap key_value_ops
    (sym (sent-are)
    ∙ sym (placed.first-are c.args.table.now c.requires.0 c.args.p c.requires.1 _ c.node_of.ensures c.args.from _ c.stale_places-stale.ensures (k)))
    ∙ ap (λ (m : ℕ). records_at (decode c.args.table.now) c.args.p (take m (listed (n) c.stale_places-stale.result.at))) (sym back_to) in
    let own-max : ℕ = (entry_at (decode c.args.table.now) c.args.p).node.max in
    let sent-long : c.taken-count.result ≡ length (take c.args.count (all)) = sym (length-take-le c.taken-count.result (all) (subst (λ (m : ℕ). c.taken-count.result ≤ m) (sym (long)) (low))) ∙ ap length (sent-are) in
    let node-reached : Reached (at_entry) (writing 1 (size) (body_ops (own-max) (take c.args.count (all)) ++ []) (with-node)) = left_is (sym (append-nil (body_ops (own-max) (take c.args.count (all)))))
    (one-first (size) _ (with-node) (op-written c.write_node.ensures c.in-Some.is (at_first (at_entry).left c.args.datagram.now))) in
    let begun : let sent = c.write_max-max.result in
    Reached (at_entry) (writing (1 + sent.ops) (size + sent.bytes) (records) (with_max)) = left_is (records-are)
    (max-written (own-max) (take c.args.count (all)) (k) [] (sent-long) c.write_max-max.ensures (node-reached)) in
    let w = begun in
    omega (arith, w.room, w.long)

pub overflow_sub-n : goal.overflow_sub-n
overflow_sub-n c =
    let n : ℕ = c.stale_places-stale.result.count in
    let low : c.taken-count.result ≤ n = subst (λ (m : ℕ). m ≤ n) (sym c.taken-count.ensures) (taken-low c.args.count (n)) in
    low

pub slice_bounds-write_records-count : goal.slice_bounds-write_records-count
slice_bounds-write_records-count c =
    let at_entry : Writing = let a = c.args in writing 0 0 (line_at (decode a.table.now) a.p a.from a.count) a.datagram.now in
    let size : ℕ = c.in-Some.size in
    let n : ℕ = c.stale_places-stale.result.count in
    let k : ℕ = c.taken-count.result in
    let records : List Op = records_at (decode c.args.table.now) c.args.p (take (n - (n - k)) (listed (n) c.stale_places-stale.result.at)) in
    let with-node : Bytes = back 0 c.args.datagram.now c.write_node.new.datagram in
    let with_max : Bytes = back (size) (with-node) c.write_max-max.new.datagram in
    let all : List KeyValue = stale c.args.from (entry_at (decode c.args.table.now) c.args.p).node.recs in
    let low : c.taken-count.result ≤ n = subst (λ (m : ℕ). m ≤ n) (sym c.taken-count.ensures) (taken-low c.args.count (n)) in
    let long : length (all) ≡ n = placed.stale-long c.args.table.now c.requires.0 c.args.p c.requires.1 _ c.node_of.ensures c.args.from _ c.stale_places-stale.ensures in
    let sent-are : take c.taken-count.result (all) ≡ take c.args.count (all) = (λ i. take ((c.taken-count.ensures ∙ ap (λ (m : ℕ). taken c.args.count m) (sym (long))) i) (all)) ∙ taken-first c.args.count (all) in
    let records-are : key_value_ops (take c.args.count (all)) ++ [] ≡ records = let few = low in
    let back_to : n - (n - k) ≡ k = omega arith in
    append-nil (key_value_ops (take c.args.count (all)))
    ∙ ap key_value_ops
    (sym (sent-are)
    ∙ sym (placed.first-are c.args.table.now c.requires.0 c.args.p c.requires.1 _ c.node_of.ensures c.args.from _ c.stale_places-stale.ensures (k)))
    ∙ ap (λ (m : ℕ). records_at (decode c.args.table.now) c.args.p (take m (listed (n) c.stale_places-stale.result.at))) (sym back_to) in
    let own-max : ℕ = (entry_at (decode c.args.table.now) c.args.p).node.max in
    let sent-long : c.taken-count.result ≡ length (take c.args.count (all)) = sym (length-take-le c.taken-count.result (all) (subst (λ (m : ℕ). c.taken-count.result ≤ m) (sym (long)) (low))) ∙ ap length (sent-are) in
    let node-reached : Reached (at_entry) (writing 1 (size) (body_ops (own-max) (take c.args.count (all)) ++ []) (with-node)) = left_is (sym (append-nil (body_ops (own-max) (take c.args.count (all)))))
    (one-first (size) _ (with-node) (op-written c.write_node.ensures c.in-Some.is (at_first (at_entry).left c.args.datagram.now))) in
    let begun : let sent = c.write_max-max.result in
    Reached (at_entry) (writing (1 + sent.ops) (size + sent.bytes) (records) (with_max)) = left_is (records-are)
    (max-written (own-max) (take c.args.count (all)) (k) [] (sent-long) c.write_max-max.ensures (node-reached)) in
    (begun).room

pub slice_bounds-write_records-start : goal.slice_bounds-write_records-start
slice_bounds-write_records-start c =
    let at_entry : Writing = let a = c.args in writing 0 0 (line_at (decode a.table.now) a.p a.from a.count) a.datagram.now in
    let size : ℕ = c.in-Some.size in
    let n : ℕ = c.stale_places-stale.result.count in
    let k : ℕ = c.taken-count.result in
    let records : List Op = records_at (decode c.args.table.now) c.args.p (take (n - (n - k)) (listed (n) c.stale_places-stale.result.at)) in
    let with-node : Bytes = back 0 c.args.datagram.now c.write_node.new.datagram in
    let with_max : Bytes = back (size) (with-node) c.write_max-max.new.datagram in
    let all : List KeyValue = stale c.args.from (entry_at (decode c.args.table.now) c.args.p).node.recs in
    let low : c.taken-count.result ≤ n = subst (λ (m : ℕ). m ≤ n) (sym c.taken-count.ensures) (taken-low c.args.count (n)) in
    let long : length (all) ≡ n = placed.stale-long c.args.table.now c.requires.0 c.args.p c.requires.1 _ c.node_of.ensures c.args.from _ c.stale_places-stale.ensures in
    let sent-are : take c.taken-count.result (all) ≡ take c.args.count (all) = (λ i. take ((c.taken-count.ensures ∙ ap (λ (m : ℕ). taken c.args.count m) (sym (long))) i) (all)) ∙ taken-first c.args.count (all) in
    let records-are : key_value_ops (take c.args.count (all)) ++ [] ≡ records = let few = low in
    let back_to : n - (n - k) ≡ k = omega arith in
    append-nil (key_value_ops (take c.args.count (all)))
    ∙ ap key_value_ops
    (sym (sent-are)
    ∙ sym (placed.first-are c.args.table.now c.requires.0 c.args.p c.requires.1 _ c.node_of.ensures c.args.from _ c.stale_places-stale.ensures (k)))
    ∙ ap (λ (m : ℕ). records_at (decode c.args.table.now) c.args.p (take m (listed (n) c.stale_places-stale.result.at))) (sym back_to) in
    let own-max : ℕ = (entry_at (decode c.args.table.now) c.args.p).node.max in
    let sent-long : c.taken-count.result ≡ length (take c.args.count (all)) = sym (length-take-le c.taken-count.result (all) (subst (λ (m : ℕ). c.taken-count.result ≤ m) (sym (long)) (low))) ∙ ap length (sent-are) in
    let node-reached : Reached (at_entry) (writing 1 (size) (body_ops (own-max) (take c.args.count (all)) ++ []) (with-node)) = left_is (sym (append-nil (body_ops (own-max) (take c.args.count (all)))))
    (one-first (size) _ (with-node) (op-written c.write_node.ensures c.in-Some.is (at_first (at_entry).left c.args.datagram.now))) in
    let begun : let sent = c.write_max-max.result in
    Reached (at_entry) (writing (1 + sent.ops) (size + sent.bytes) (records) (with_max)) = left_is (records-are)
    (max-written (own-max) (take c.args.count (all)) (k) [] (sent-long) c.write_max-max.ensures (node-reached)) in
    (begun).room

pub write_records-records-requires : goal.write_records-records-requires
write_records-records-requires c =
    let l = c.args.table.now in (
      c.requires.0,
      c.requires.1,
      stale-long l c.requires.0 c.args.p c.requires.1 _ c.node_of.ensures c.args.from _ c.stale_places-stale.ensures,
      stale-few l c.requires.0 c.args.p c.requires.1 _ c.node_of.ensures c.args.from _ c.stale_places-stale.ensures,
      omega arith,
      stale-within l c.requires.0 c.args.p c.requires.1 _ c.node_of.ensures c.args.from _ c.stale_places-stale.ensures,
    )

pub overflow_add-result : goal.overflow_add-result
overflow_add-result c =
    let size : ℕ = c.in-Some.size in
    let with-node : Bytes = back 0 c.args.datagram.now c.write_node.new.datagram in
    let with_max : Bytes = back (size) (with-node) c.write_max-max.new.datagram in
    let n : ℕ = c.stale_places-stale.result.count in
    let k : ℕ = c.taken-count.result in
    let records : List Op = records_at (decode c.args.table.now) c.args.p (take (n - (n - k)) (listed (n) c.stale_places-stale.result.at)) in
    let at_entry : Writing = let a = c.args in writing 0 0 (line_at (decode a.table.now) a.p a.from a.count) a.datagram.now in
    let all : List KeyValue = stale c.args.from (entry_at (decode c.args.table.now) c.args.p).node.recs in
    let low : c.taken-count.result ≤ n = subst (λ (m : ℕ). m ≤ n) (sym c.taken-count.ensures) (taken-low c.args.count (n)) in
    let long : length (all) ≡ n = placed.stale-long c.args.table.now c.requires.0 c.args.p c.requires.1 _ c.node_of.ensures c.args.from _ c.stale_places-stale.ensures in
    let sent-are : take c.taken-count.result (all) ≡ take c.args.count (all) = (λ i. take ((c.taken-count.ensures ∙ ap (λ (m : ℕ). taken c.args.count m) (sym (long))) i) (all)) ∙ taken-first c.args.count (all) in
    let records-are : key_value_ops (take c.args.count (all)) ++ [] ≡ records = let few = low in
    let back_to : n - (n - k) ≡ k = omega arith in
    append-nil (key_value_ops (take c.args.count (all)))
    ∙ ap key_value_ops
    (sym (sent-are)
    ∙ sym (placed.first-are c.args.table.now c.requires.0 c.args.p c.requires.1 _ c.node_of.ensures c.args.from _ c.stale_places-stale.ensures (k)))
    ∙ ap (λ (m : ℕ). records_at (decode c.args.table.now) c.args.p (take m (listed (n) c.stale_places-stale.result.at))) (sym back_to) in
    let own-max : ℕ = (entry_at (decode c.args.table.now) c.args.p).node.max in
    let sent-long : c.taken-count.result ≡ length (take c.args.count (all)) = sym (length-take-le c.taken-count.result (all) (subst (λ (m : ℕ). c.taken-count.result ≤ m) (sym (long)) (low))) ∙ ap length (sent-are) in
    let node-reached : Reached (at_entry) (writing 1 (size) (body_ops (own-max) (take c.args.count (all)) ++ []) (with-node)) = left_is (sym (append-nil (body_ops (own-max) (take c.args.count (all)))))
    (one-first (size) _ (with-node) (op-written c.write_node.ensures c.in-Some.is (at_first (at_entry).left c.args.datagram.now))) in
    let begun : let sent = c.write_max-max.result in
    Reached (at_entry) (writing (1 + sent.ops) (size + sent.bytes) (records) (with_max)) = left_is (records-are)
    (max-written (own-max) (take c.args.count (all)) (k) [] (sent-long) c.write_max-max.ensures (node-reached)) in
    let done : let sent = c.write_max-max.result in
    (1 + sent.ops + c.write_records-records.result.ops ≤ size + sent.bytes + c.write_records-records.result.bytes)
    × (size + sent.bytes + c.write_records-records.result.bytes ≤ length (with_max)) = rest-room _ _ (records) (with_max) _ _ c.write_records-records.ensures (begun) in
    let d = done in
    let w = begun in
    omega (arith, d.0, d.1, w.long)

pub overflow_add-result-2 : goal.overflow_add-result-2
overflow_add-result-2 c =
    let size : ℕ = c.in-Some.size in
    let with-node : Bytes = back 0 c.args.datagram.now c.write_node.new.datagram in
    let with_max : Bytes = back (size) (with-node) c.write_max-max.new.datagram in
    let n : ℕ = c.stale_places-stale.result.count in
    let k : ℕ = c.taken-count.result in
    let records : List Op = records_at (decode c.args.table.now) c.args.p (take (n - (n - k)) (listed (n) c.stale_places-stale.result.at)) in
    let at_entry : Writing = let a = c.args in writing 0 0 (line_at (decode a.table.now) a.p a.from a.count) a.datagram.now in
    let all : List KeyValue = stale c.args.from (entry_at (decode c.args.table.now) c.args.p).node.recs in
    let low : c.taken-count.result ≤ n = subst (λ (m : ℕ). m ≤ n) (sym c.taken-count.ensures) (taken-low c.args.count (n)) in
    let long : length (all) ≡ n = placed.stale-long c.args.table.now c.requires.0 c.args.p c.requires.1 _ c.node_of.ensures c.args.from _ c.stale_places-stale.ensures in
    let sent-are : take c.taken-count.result (all) ≡ take c.args.count (all) = (λ i. take ((c.taken-count.ensures ∙ ap (λ (m : ℕ). taken c.args.count m) (sym (long))) i) (all)) ∙ taken-first c.args.count (all) in
    let records-are : key_value_ops (take c.args.count (all)) ++ [] ≡ records = let few = low in
    let back_to : n - (n - k) ≡ k = omega arith in
    append-nil (key_value_ops (take c.args.count (all)))
    ∙ ap key_value_ops
    (sym (sent-are)
    ∙ sym (placed.first-are c.args.table.now c.requires.0 c.args.p c.requires.1 _ c.node_of.ensures c.args.from _ c.stale_places-stale.ensures (k)))
    ∙ ap (λ (m : ℕ). records_at (decode c.args.table.now) c.args.p (take m (listed (n) c.stale_places-stale.result.at))) (sym back_to) in
    let own-max : ℕ = (entry_at (decode c.args.table.now) c.args.p).node.max in
    let sent-long : c.taken-count.result ≡ length (take c.args.count (all)) = sym (length-take-le c.taken-count.result (all) (subst (λ (m : ℕ). c.taken-count.result ≤ m) (sym (long)) (low))) ∙ ap length (sent-are) in
    let node-reached : Reached (at_entry) (writing 1 (size) (body_ops (own-max) (take c.args.count (all)) ++ []) (with-node)) = left_is (sym (append-nil (body_ops (own-max) (take c.args.count (all)))))
    (one-first (size) _ (with-node) (op-written c.write_node.ensures c.in-Some.is (at_first (at_entry).left c.args.datagram.now))) in
    let begun : let sent = c.write_max-max.result in
    Reached (at_entry) (writing (1 + sent.ops) (size + sent.bytes) (records) (with_max)) = left_is (records-are)
    (max-written (own-max) (take c.args.count (all)) (k) [] (sent-long) c.write_max-max.ensures (node-reached)) in
    let done : let sent = c.write_max-max.result in
    (1 + sent.ops + c.write_records-records.result.ops ≤ size + sent.bytes + c.write_records-records.result.bytes)
    × (size + sent.bytes + c.write_records-records.result.bytes ≤ length (with_max)) = rest-room _ _ (records) (with_max) _ _ c.write_records-records.ensures (begun) in
    let d = done in
    let w = begun in
    omega (arith, d.0, d.1, w.long)

pub overflow_add-result-3 : goal.overflow_add-result-3
overflow_add-result-3 c =
    let size : ℕ = c.in-Some.size in
    let with-node : Bytes = back 0 c.args.datagram.now c.write_node.new.datagram in
    let with_max : Bytes = back (size) (with-node) c.write_max-max.new.datagram in
    let n : ℕ = c.stale_places-stale.result.count in
    let k : ℕ = c.taken-count.result in
    let records : List Op = records_at (decode c.args.table.now) c.args.p (take (n - (n - k)) (listed (n) c.stale_places-stale.result.at)) in
    let at_entry : Writing = let a = c.args in writing 0 0 (line_at (decode a.table.now) a.p a.from a.count) a.datagram.now in
    let all : List KeyValue = stale c.args.from (entry_at (decode c.args.table.now) c.args.p).node.recs in
    let low : c.taken-count.result ≤ n = subst (λ (m : ℕ). m ≤ n) (sym c.taken-count.ensures) (taken-low c.args.count (n)) in
    let long : length (all) ≡ n = placed.stale-long c.args.table.now c.requires.0 c.args.p c.requires.1 _ c.node_of.ensures c.args.from _ c.stale_places-stale.ensures in
    let sent-are : take c.taken-count.result (all) ≡ take c.args.count (all) = (λ i. take ((c.taken-count.ensures ∙ ap (λ (m : ℕ). taken c.args.count m) (sym (long))) i) (all)) ∙ taken-first c.args.count (all) in
    let records-are : key_value_ops (take c.args.count (all)) ++ [] ≡ records = let few = low in
    let back_to : n - (n - k) ≡ k = omega arith in
    append-nil (key_value_ops (take c.args.count (all)))
    ∙ ap key_value_ops
    (sym (sent-are)
    ∙ sym (placed.first-are c.args.table.now c.requires.0 c.args.p c.requires.1 _ c.node_of.ensures c.args.from _ c.stale_places-stale.ensures (k)))
    ∙ ap (λ (m : ℕ). records_at (decode c.args.table.now) c.args.p (take m (listed (n) c.stale_places-stale.result.at))) (sym back_to) in
    let own-max : ℕ = (entry_at (decode c.args.table.now) c.args.p).node.max in
    let sent-long : c.taken-count.result ≡ length (take c.args.count (all)) = sym (length-take-le c.taken-count.result (all) (subst (λ (m : ℕ). c.taken-count.result ≤ m) (sym (long)) (low))) ∙ ap length (sent-are) in
    let node-reached : Reached (at_entry) (writing 1 (size) (body_ops (own-max) (take c.args.count (all)) ++ []) (with-node)) = left_is (sym (append-nil (body_ops (own-max) (take c.args.count (all)))))
    (one-first (size) _ (with-node) (op-written c.write_node.ensures c.in-Some.is (at_first (at_entry).left c.args.datagram.now))) in
    let begun : let sent = c.write_max-max.result in
    Reached (at_entry) (writing (1 + sent.ops) (size + sent.bytes) (records) (with_max)) = left_is (records-are)
    (max-written (own-max) (take c.args.count (all)) (k) [] (sent-long) c.write_max-max.ensures (node-reached)) in
    let done : let sent = c.write_max-max.result in
    (1 + sent.ops + c.write_records-records.result.ops ≤ size + sent.bytes + c.write_records-records.result.bytes)
    × (size + sent.bytes + c.write_records-records.result.bytes ≤ length (with_max)) = rest-room _ _ (records) (with_max) _ _ c.write_records-records.ensures (begun) in
    let d = done in
    let w = begun in
    omega (arith, d.1, w.long)

pub shape_of-datagram : goal.shape_of-datagram
shape_of-datagram c =
    let n : ℕ = c.stale_places-stale.result.count in
    let k : ℕ = c.taken-count.result in
    let records : List Op = records_at (decode c.args.table.now) c.args.p (take (n - (n - k)) (listed (n) c.stale_places-stale.result.at)) in
    let size : ℕ = c.in-Some.size in
    let with-node : Bytes = back 0 c.args.datagram.now c.write_node.new.datagram in
    let with_max : Bytes = back (size) (with-node) c.write_max-max.new.datagram in
    let at_entry : Writing = let a = c.args in writing 0 0 (line_at (decode a.table.now) a.p a.from a.count) a.datagram.now in
    let all : List KeyValue = stale c.args.from (entry_at (decode c.args.table.now) c.args.p).node.recs in
    let low : c.taken-count.result ≤ n = subst (λ (m : ℕ). m ≤ n) (sym c.taken-count.ensures) (taken-low c.args.count (n)) in
    let long : length (all) ≡ n = placed.stale-long c.args.table.now c.requires.0 c.args.p c.requires.1 _ c.node_of.ensures c.args.from _ c.stale_places-stale.ensures in
    let sent-are : take c.taken-count.result (all) ≡ take c.args.count (all) = (λ i. take ((c.taken-count.ensures ∙ ap (λ (m : ℕ). taken c.args.count m) (sym (long))) i) (all)) ∙ taken-first c.args.count (all) in
    let records-are : key_value_ops (take c.args.count (all)) ++ [] ≡ records = let few = low in
    let back_to : n - (n - k) ≡ k = omega arith in
    append-nil (key_value_ops (take c.args.count (all)))
    ∙ ap key_value_ops
    (sym (sent-are)
    ∙ sym (placed.first-are c.args.table.now c.requires.0 c.args.p c.requires.1 _ c.node_of.ensures c.args.from _ c.stale_places-stale.ensures (k)))
    ∙ ap (λ (m : ℕ). records_at (decode c.args.table.now) c.args.p (take m (listed (n) c.stale_places-stale.result.at))) (sym back_to) in
    let own-max : ℕ = (entry_at (decode c.args.table.now) c.args.p).node.max in
    let sent-long : c.taken-count.result ≡ length (take c.args.count (all)) = sym (length-take-le c.taken-count.result (all) (subst (λ (m : ℕ). c.taken-count.result ≤ m) (sym (long)) (low))) ∙ ap length (sent-are) in
    let node-reached : Reached (at_entry) (writing 1 (size) (body_ops (own-max) (take c.args.count (all)) ++ []) (with-node)) = left_is (sym (append-nil (body_ops (own-max) (take c.args.count (all)))))
    (one-first (size) _ (with-node) (op-written c.write_node.ensures c.in-Some.is (at_first (at_entry).left c.args.datagram.now))) in
    let begun : let sent = c.write_max-max.result in
    Reached (at_entry) (writing (1 + sent.ops) (size + sent.bytes) (records) (with_max)) = left_is (records-are)
    (max-written (own-max) (take c.args.count (all)) (k) [] (sent-long) c.write_max-max.ensures (node-reached)) in
    rest-long _ _ (records) (with_max) c.write_records-records.new.datagram (begun) c.write_records-records.auto.datagram

pub returns : goal.returns
returns c =
    let n : ℕ = c.stale_places-stale.result.count in
    let k : ℕ = c.taken-count.result in
    let records : List Op = records_at (decode c.args.table.now) c.args.p (take (n - (n - k)) (listed (n) c.stale_places-stale.result.at)) in
    let size : ℕ = c.in-Some.size in
    let with-node : Bytes = back 0 c.args.datagram.now c.write_node.new.datagram in
    let with_max : Bytes = back (size) (with-node) c.write_max-max.new.datagram in
    let at_entry : Writing = let a = c.args in writing 0 0 (line_at (decode a.table.now) a.p a.from a.count) a.datagram.now in
    let all : List KeyValue = stale c.args.from (entry_at (decode c.args.table.now) c.args.p).node.recs in
    let low : c.taken-count.result ≤ n = subst (λ (m : ℕ). m ≤ n) (sym c.taken-count.ensures) (taken-low c.args.count (n)) in
    let long : length (all) ≡ n = placed.stale-long c.args.table.now c.requires.0 c.args.p c.requires.1 _ c.node_of.ensures c.args.from _ c.stale_places-stale.ensures in
    let sent-are : take c.taken-count.result (all) ≡ take c.args.count (all) = (λ i. take ((c.taken-count.ensures ∙ ap (λ (m : ℕ). taken c.args.count m) (sym (long))) i) (all)) ∙ taken-first c.args.count (all) in
    let records-are : key_value_ops (take c.args.count (all)) ++ [] ≡ records = let few = low in
    let back_to : n - (n - k) ≡ k = omega arith in
    append-nil (key_value_ops (take c.args.count (all)))
    ∙ ap key_value_ops
    (sym (sent-are)
    ∙ sym (placed.first-are c.args.table.now c.requires.0 c.args.p c.requires.1 _ c.node_of.ensures c.args.from _ c.stale_places-stale.ensures (k)))
    ∙ ap (λ (m : ℕ). records_at (decode c.args.table.now) c.args.p (take m (listed (n) c.stale_places-stale.result.at))) (sym back_to) in
    let own-max : ℕ = (entry_at (decode c.args.table.now) c.args.p).node.max in
    let sent-long : c.taken-count.result ≡ length (take c.args.count (all)) = sym (length-take-le c.taken-count.result (all) (subst (λ (m : ℕ). c.taken-count.result ≤ m) (sym (long)) (low))) ∙ ap length (sent-are) in
    let node-reached : Reached (at_entry) (writing 1 (size) (body_ops (own-max) (take c.args.count (all)) ++ []) (with-node)) = left_is (sym (append-nil (body_ops (own-max) (take c.args.count (all)))))
    (one-first (size) _ (with-node) (op-written c.write_node.ensures c.in-Some.is (at_first (at_entry).left c.args.datagram.now))) in
    let begun : let sent = c.write_max-max.result in
    Reached (at_entry) (writing (1 + sent.ops) (size + sent.bytes) (records) (with_max)) = left_is (records-are)
    (max-written (own-max) (take c.args.count (all)) (k) [] (sent-long) c.write_max-max.ensures (node-reached)) in
    rest-written _ _ (records) (with_max) _ _ c.write_records-records.ensures (begun)
