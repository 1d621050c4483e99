-- `plan_lines::judge_line` meets its contract: missing, excluded, named before, up to date, or weighed. Assumes nothing.
use mathlib.Core.List.{[]}
use mathlib.Core.Path.{◌∙◌, sym}
use Rattle.rules.specs.Layout.{decode}
use Rattle.table.proofs.Tables.{valid-few, valid-laid, valid-long}
use Rattle.digest_read.specs.Held.{entries_in}
use Rattle.compute.proofs.Behind.{told-level, told-stale}
use Rattle.plan_lines.proofs.Placed.{found_in, is-left-out, is-level, is-missing, is-named, is-weighed}
use Rattle.plan_lines.proofs.judge_line.Goals as goal

pub find_node-requires : goal.find_node-requires
find_node-requires c =
    (valid-long c.args.table.now c.requires, valid-few c.args.table.now c.requires)

pub returns-in_default : goal.returns-in_default
returns-in_default c =
    let a = c.args in
    is-missing a.table.now c.requires a.number _ (sym c.find_node.ensures ∙ c.in_default.is) a.excluded.now a.before.now a.left (entries_in a.digest) a.count

pub returns-then-is_excluded : goal.returns-then-is_excluded
returns-then-is_excluded c =
    let found_at = sym c.find_node.ensures ∙ c.in-At.is in
    let a = c.args in
    is-left-out a.table.now c.requires a.number _ found_at a.excluded.now a.before.now a.left (entries_in a.digest) a.count
    (sym c.is_excluded.ensures ∙ c.if-is_excluded.true)

pub returns-then-is_excluded-2 : goal.returns-then-is_excluded-2
returns-then-is_excluded-2 c =
    let found_at = sym c.find_node.ensures ∙ c.in-At.is in
    let a = c.args in
    is-named a.table.now c.requires a.number _ found_at a.excluded.now a.before.now a.left (entries_in a.digest) a.count
    (sym c.is_excluded.ensures ∙ c.if-is_excluded.false) (sym c.is_excluded-2.ensures ∙ c.if-is_excluded-2.true)

pub stale_from-requires : goal.stale_from-requires
stale_from-requires c =
    let found_at = sym c.find_node.ensures ∙ c.in-At.is in
    (valid-laid c.args.table.now c.requires, found_in c.args.table.now c.requires c.args.number _ found_at)

pub weigh-requires : goal.weigh-requires
weigh-requires c =
    let found_at = sym c.find_node.ensures ∙ c.in-At.is in
    (valid-laid c.args.table.now c.requires, found_in c.args.table.now c.requires c.args.number _ found_at)

pub returns : goal.returns
returns c =
    let found_at = sym c.find_node.ensures ∙ c.in-At.is in
    let not-left-out = sym c.is_excluded.ensures ∙ c.if-is_excluded.false in
    let not_named = sym c.is_excluded-2.ensures ∙ c.if-is_excluded-2.false in
    let a = c.args in
    let stale = told-stale [] (entries_in a.digest) (decode a.table.now) _ _ c.stale_from.ensures _ c.in-Some.is in
    is-weighed a.table.now c.requires a.number _ found_at a.excluded.now a.before.now a.left (entries_in a.digest) a.count
    not-left-out not_named stale.0 _ stale.1 _ c.weigh.ensures

pub returns-in_default-stale_from : goal.returns-in_default-stale_from
returns-in_default-stale_from c =
    let found_at = sym c.find_node.ensures ∙ c.in-At.is in
    let not-left-out = sym c.is_excluded.ensures ∙ c.if-is_excluded.false in
    let not_named = sym c.is_excluded-2.ensures ∙ c.if-is_excluded-2.false in
    let a = c.args in
    is-level a.table.now c.requires a.number _ found_at a.excluded.now a.before.now a.left (entries_in a.digest) a.count
    not-left-out not_named
    (told-level [] (entries_in a.digest) (decode a.table.now) _ _ c.stale_from.ensures c.in_default-stale_from.is)
