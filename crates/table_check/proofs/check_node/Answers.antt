-- `table_check::check_node` meets its contract: a test that fails is one of the node's tests, and past four of them only the zeros are left.
-- Assumes nothing.
use Prim.Native.Nat.{ℕ, ◌-◌, ◌*◌, ◌≤◌}
use mathlib.Core.Path.{◌≡◌, ◌∙◌, ap, ap₂, sym}
use mathlib.Core.Bool.{Bool, true}
use mathlib.Core.List.{List}
use native.Mathlib.Omega.{arith}
use lib.ListN.{get_or, take, drop}
use borrow.Author.Tests.{le-leb, lt-leb}
use Rattle.fields.specs.Parts.{part}
use Rattle.fields.specs.Blocks.{all_zero, all_blocks}
use Rattle.fields.proofs.Choice.{and_last}
use Rattle.rules.specs.Table.{versions, differ}
use Rattle.rules.specs.Sizes.{max_records}
use Rattle.rules.specs.Layout.{rec_place, rec_width, node_width}
use Rattle.table.specs.Tests.{rec_good, node_tests, node_good, count_of, max_in, recs_in}
use Rattle.table.proofs.Nodes.{node-stop}
use Rattle.table_check.proofs.check_node.Goals as goal

-- the tests of a node's bytes, as the calls answer them
module _ (b : List ℕ) (n max : ℕ) (en : n ≡ count_of b) (em : max ≡ max_in b) where
  records-test : (t : Bool) → t ≡ all_blocks (rec_good max) rec_width n (drop (rec_place 0) b) → get_or (node_tests b) 1 true ≡ t
  records-test t e = sym (e ∙ ap₂ (λ (m k : ℕ). all_blocks (rec_good m) rec_width k (drop (rec_place 0) b)) em en)

  zeros-test : (t : Bool) → n ≤ max_records → t ≡ all_zero (take (node_width - rec_place n) (drop (rec_place n) b)) → get_or (node_tests b) 4 true ≡ t
  unfolding part
  zeros-test t h e =
      let p : node_width - rec_place n ≡ (max_records - n) * rec_width = omega arith in
      sym (e ∙ ap (λ (k : ℕ). all_zero (take k (drop (rec_place n) b))) p ∙ ap (λ (k : ℕ). all_zero (part (rec_place k) ((max_records - k) * rec_width) b)) en)

different : (b vs : List ℕ) (n : ℕ) (t : Bool) → t ≡ differ (take n vs) → take n vs ≡ versions (recs_in b) → get_or (node_tests b) 3 true ≡ t
different b vs n t e f = sym (e ∙ ap differ f)

all_pass : (b : List ℕ) (t : Bool) → get_or (node_tests b) 0 true ≡ true → get_or (node_tests b) 1 true ≡ true → get_or (node_tests b) 2 true ≡ true
    → get_or (node_tests b) 3 true ≡ true → get_or (node_tests b) 4 true ≡ t → t ≡ node_good b
unfolding node_good
all_pass b t h0 h1 h2 h3 h4 = sym (rw (node_good, h0, h1, h2, h3, h4) (and_last t))

pub returns-then-n-gt-RECORDS : goal.returns-then-n-gt-RECORDS
returns-then-n-gt-RECORDS c =
    let b : List ℕ = c.args.node.now in
    node-stop b 0 (lt-leb (count_of b) max_records (omega arith))

pub returns-then-all_differ : goal.returns-then-all_differ
returns-then-all_differ c =
    let b : List ℕ = c.args.node.now in
    all_pass b _ (le-leb (count_of b) max_records (omega (arith, c.byte_at-n.ensures.0, c.if-n-gt-RECORDS.false)))
    (records-test b _ _ c.byte_at-n.ensures.0 c.read_u64-max.ensures _ c.check_records.ensures ∙ c.if-check_records.true)
    (sym c.keys_rise.ensures ∙ c.if-keys_rise.true)
    (different b c.versions_of-vs.result c.byte_at-n.result _ c.all_differ.ensures c.versions_of-vs.ensures.1 ∙ c.if-all_differ.true)
    (zeros-test b _ _ c.byte_at-n.ensures.0 c.read_u64-max.ensures _ c.if-n-gt-RECORDS.false
    (c.is_zero.ensures ∙ ap (λ (k : ℕ). all_zero (take (node_width - k) (drop k b))) c.record_place-a.ensures))

pub returns-else-all_differ : goal.returns-else-all_differ
returns-else-all_differ c =
    let b : List ℕ = c.args.node.now in
    node-stop b 3 (different b c.versions_of-vs.result c.byte_at-n.result _ c.all_differ.ensures c.versions_of-vs.ensures.1 ∙ c.if-all_differ.false)

pub returns-else-keys_rise : goal.returns-else-keys_rise
returns-else-keys_rise c =
    let b : List ℕ = c.args.node.now in
    node-stop b 2 (sym c.keys_rise.ensures ∙ c.if-keys_rise.false)

pub returns-else-check_records : goal.returns-else-check_records
returns-else-check_records c =
    let b : List ℕ = c.args.node.now in
    node-stop b 1
    (records-test b _ _ c.byte_at-n.ensures.0 c.read_u64-max.ensures _ c.check_records.ensures ∙ c.if-check_records.false)
