-- `plan_lines::write_named` meets its contract: the node's line, or nothing where it has none. Assumes nothing.
use Prim.Native.Nat.{◌≤◌}
use mathlib.Core.List.{List}
use mathlib.Core.Path.{◌∙◌, ◌≡◌, ap, subst, sym}
use lib.ListN.{length}
use Rattle.rules.specs.Delta.{Op, delta_bytes}
use Rattle.rules.specs.Layout.{decode}
use Rattle.table.proofs.Tables.{valid-few, valid-laid, valid-long}
use Rattle.table_read.specs.Find.{find_node}
use Rattle.table_read.specs.declared.Place.TheVariants.{At}
use Rattle.digest_read.specs.Held.{entries_in}
use Rattle.compute.proofs.Behind.{told-level, told-stale}
use Rattle.compute.specs.Lined.{at_front}
use Rattle.compute_write.proofs.Steps.{gives_as}
use Rattle.plan_lines.proofs.Placed.{found_in, named-level, named-missing, named-stale}
use Rattle.plan_lines.proofs.Sums.{sent-none, sent-whole}
use Rattle.plan_lines.proofs.write_named.Goals as goal

pub find_node-requires : goal.find_node-requires
find_node-requires c =
    (valid-long c.args.table.now c.requires.0, valid-few c.args.table.now c.requires.0)

pub returns-in_default : goal.returns-in_default
returns-in_default c =
    let a = c.args in
    sent-none _ a.datagram.now
    (named-missing a.table.now c.requires.0 a.number _ (sym c.find_node.ensures ∙ c.in_default.is) a.excluded.now (entries_in a.digest) a.count)

pub stale_from-requires : goal.stale_from-requires
stale_from-requires c =
    let found_at : find_node c.args.number (decode c.args.table.now) ≡ At c.in-At.p = sym c.find_node.ensures ∙ c.in-At.is in
    (valid-laid c.args.table.now c.requires.0, found_in c.args.table.now c.requires.0 c.args.number _ (found_at))

pub returns-in_default-stale_from : goal.returns-in_default-stale_from
returns-in_default-stale_from c =
    let found_at : find_node c.args.number (decode c.args.table.now) ≡ At c.in-At.p = sym c.find_node.ensures ∙ c.in-At.is in
    let a = c.args in
    sent-none _ a.datagram.now
    (named-level a.table.now c.requires.0 a.number _ (found_at) a.excluded.now (entries_in a.digest)
    (told-level a.excluded.now (entries_in a.digest) (decode a.table.now) _ _ c.stale_from.ensures c.in_default-stale_from.is) a.count)

pub write_line-requires : goal.write_line-requires
write_line-requires c =
    let found_at : find_node c.args.number (decode c.args.table.now) ≡ At c.in-At.p = sym c.find_node.ensures ∙ c.in-At.is in
    (valid-laid c.args.table.now c.requires.0, found_in c.args.table.now c.requires.0 c.args.number _ (found_at))

pub returns : goal.returns
returns c =
    let found_at : find_node c.args.number (decode c.args.table.now) ≡ At c.in-At.p = sym c.find_node.ensures ∙ c.in-At.is in
    let a = c.args in
    let is = told-stale a.excluded.now (entries_in a.digest) (decode a.table.now) _ _ c.stale_from.ensures _ c.in-Some.is in
    let ops = named-stale a.table.now c.requires.0 a.number _ (found_at) a.excluded.now (entries_in a.digest) is.0 _ is.1 a.count in
    let fits = subst (λ (os : List Op). length (delta_bytes os) ≤ length a.datagram.now) ops c.requires.1 in
    gives_as (sent-whole _ a.datagram.now fits ∙ ap (λ (os : List Op). at_front os a.datagram.now) (sym ops)) c.write_line.ensures
