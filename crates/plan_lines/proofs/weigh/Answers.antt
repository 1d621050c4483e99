-- `plan_lines::weigh` meets its contract: the count, then the bytes. Assumes nothing.
use Prim.Native.Nat.{ℕ, ◌<◌, ◌≤◌}
use mathlib.Core.List.{List}
use mathlib.Core.Path.{◌∙◌, ◌≡◌, ap, subst, sym}
use lib.ListN.{length}
use Rattle.rules.specs.Compute.{stale}
use Rattle.rules.specs.Delta.{delta_bytes}
use Rattle.rules.specs.Layout.{decode}
use Rattle.rules.specs.Node.{KeyValue}
use Rattle.table_read.specs.Find.{entry_at}
use Rattle.plan_lines.specs.Lines.{line_at}
use Rattle.plan_lines.specs.declared.Above.{Above}
use Rattle.std.specs.Prelude.{Ok}
use Rattle.plan_lines.proofs.Placed.{it-fits, no-fit, too_few, too_many}
use Rattle.plan_lines.proofs.weigh.Goals.{then-count-eq0+else-n-ne0, else-count-eq0}
use Rattle.plan_lines.proofs.weigh.Goals as goal

pub returns-then-n-count : goal.returns-then-n-count
returns-then-n-count c =
    let count : ℕ = c.args.count in
    let all : List KeyValue = stale c.args.from (entry_at (decode c.args.table.now) c.args.p).node.recs in
    let size : ℕ = let a = c.args in length (delta_bytes (line_at (decode a.table.now) a.p a.from a.count)) in
    let left : ℕ = c.args.left in
    let count-is : length (all) ≡ c.weigh_all-all.result.count = sym (ap (λ (x : Above). x.count) c.weigh_all-all.ensures) in
    too_many (count) (all) (size) (left) _ (count-is) c.if-n-count.true

pub returns-then-n-ne0 : goal.returns-then-n-ne0
returns-then-n-ne0 c =
    let count : ℕ = c.args.count in
    let all : List KeyValue = stale c.args.from (entry_at (decode c.args.table.now) c.args.p).node.recs in
    let size : ℕ = let a = c.args in length (delta_bytes (line_at (decode a.table.now) a.p a.from a.count)) in
    let left : ℕ = c.args.left in
    let count-is : length (all) ≡ c.weigh_all-all.result.count = sym (ap (λ (x : Above). x.count) c.weigh_all-all.ensures) in
    too_few (count) (all) (size) (left) _ (count-is) c.if-n-count.false c.if-count-eq0.true c.if-n-ne0.true

pub returns-then-left-size : goal.returns-then-left-size
returns-then-left-size c =
    let count : ℕ = c.args.count in
    let all : List KeyValue = stale c.args.from (entry_at (decode c.args.table.now) c.args.p).node.recs in
    let size : ℕ = let a = c.args in length (delta_bytes (line_at (decode a.table.now) a.p a.from a.count)) in
    let left : ℕ = c.args.left in
    let count-is : length (all) ≡ c.weigh_all-all.result.count = sym (ap (λ (x : Above). x.count) c.weigh_all-all.ensures) in
    let zero-so : count ≡ 0 → c.weigh_all-all.result.count ≡ 0 = λ (z : count ≡ 0). elim c.if-count-eq0.branch [ then-count-eq0+else-n-ne0 w ↦ w.if-n-ne0.false | else-count-eq0 w ↦ absurd (w.if-count-eq0.false z) ] in
    no-fit (count) (all) (size) (left) _ (count-is) c.if-n-count.false (zero-so) (subst (λ (n : ℕ). left < n) c.line_size-size.ensures c.if-left-size.true)

pub returns : goal.returns
returns c =
    let count : ℕ = c.args.count in
    let all : List KeyValue = stale c.args.from (entry_at (decode c.args.table.now) c.args.p).node.recs in
    let size : ℕ = let a = c.args in length (delta_bytes (line_at (decode a.table.now) a.p a.from a.count)) in
    let left : ℕ = c.args.left in
    let count-is : length (all) ≡ c.weigh_all-all.result.count = sym (ap (λ (x : Above). x.count) c.weigh_all-all.ensures) in
    let zero-so : count ≡ 0 → c.weigh_all-all.result.count ≡ 0 = λ (z : count ≡ 0). elim c.if-count-eq0.branch [ then-count-eq0+else-n-ne0 w ↦ w.if-n-ne0.false | else-count-eq0 w ↦ absurd (w.if-count-eq0.false z) ] in
    ap Ok c.line_size-size.ensures
    ∙ it-fits (count) (all) (size) (left) _ (count-is) c.if-n-count.false (zero-so) (subst (λ (n : ℕ). n ≤ left) c.line_size-size.ensures c.if-left-size.false)
