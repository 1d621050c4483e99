-- `prefix::list_seen` meets its contract: the listing of the piece of the node's rows that the party sees, or 2. Assumes nothing.
use Prim.Native.Nat.{ℕ, ◌-◌}
use mathlib.Core.Path.{◌≡◌}
use mathlib.Core.Bool.{true}
use mathlib.Core.List.{List}
use mathlib.Core.Option.{Option}
use lib.ListN.{take, drop}
use native.Mathlib.Omega.{arith}
use Rattle.std.specs.Prelude.{None, Some}
use Rattle.std.proofs.lemmas.Result.{err_from_is_err_and}
use Rattle.rules.specs.declared.Refusal.TheVariants.{NoNode}
use Rattle.rules.specs.Node.{Node}
use Rattle.rules.specs.Table.{keys_rise}
use Rattle.rules.specs.Profile.{recs_formed}
use Rattle.rules.specs.Local.{prefix_on}
use Rattle.rules.specs.Layout.{decode}
use Rattle.table.specs.Tests.{recs_in}
use Rattle.table_read.proofs.Reading.{lent_fits, lent_laid, lent-rises, node-fills, no-node-fills}
use Rattle.own_rows.specs.Sight.{seen_held}
use Rattle.own_rows.proofs.Tables.{lent-formed}
use Rattle.prefix.proofs.Seen.{piece-within, seen-fills, table-fills}
use Rattle.prefix.proofs.list_seen.Goals as goal

pub returns-in_err-span : goal.returns-in_err-span
returns-in_err-span c =
    let p = c.args.profile in
    let q = c.args.party in
    let k = c.args.prefix.now in
    let o = c.args.out.now in
    let h : c.node_span.result ≡ None = grind arith in
    let why : c.in_err-span.field-0.0 ≡ NoNode = grind arith in
    let e = err_from_is_err_and c.from_residual.result c.from_residual.ensures.1 in
    rw (e.1, e.2, why)
    (table-fills p q c.args.number (decode c.args.area.now) k o _ _
    (no-node-fills (λ (x : Option Node). prefix_on k (seen_held p q x) o) _ _ c.requires.0 c.node_span.ensures h))

pub slice_bounds-sight_of-end : goal.slice_bounds-sight_of-end
slice_bounds-sight_of-end c =
    let h : c.node_span.result ≡ Some c.in_ok-span.span = grind arith in
    lent_fits _ _ c.requires.0 c.node_span.ensures h

pub sight_of-sight-requires : goal.sight_of-sight-requires
sight_of-sight-requires c =
    let h : c.node_span.result ≡ Some c.in_ok-span.span = grind arith in
    let lent : List ℕ = take (c.in_ok-span.span.end - c.in_ok-span.span.start) (drop c.in_ok-span.span.start c.args.area.now) in
    let rises : keys_rise (recs_in (lent)) ≡ true = lent-rises _ _ c.requires.0 c.node_span.ensures h in
    let formed : recs_formed c.args.profile (recs_in (lent)) ≡ true = lent-formed _ _ c.requires.0 c.node_span.ensures h c.args.profile c.requires.1 in
    (lent_laid _ _ c.requires.0 c.node_span.ensures h, rises, formed)

pub slice_bounds-in_node-end : goal.slice_bounds-in_node-end
slice_bounds-in_node-end c =
    let h : c.node_span.result ≡ Some c.in_ok-span.span = grind arith in
    lent_fits _ _ c.requires.0 c.node_span.ensures h

pub in_node-requires : goal.in_node-requires
in_node-requires c =
    let h : c.node_span.result ≡ Some c.in_ok-span.span = grind arith in
    let lent : List ℕ = take (c.in_ok-span.span.end - c.in_ok-span.span.start) (drop c.in_ok-span.span.start c.args.area.now) in
    let rises : keys_rise (recs_in (lent)) ≡ true = lent-rises _ _ c.requires.0 c.node_span.ensures h in
    let formed : recs_formed c.args.profile (recs_in (lent)) ≡ true = lent-formed _ _ c.requires.0 c.node_span.ensures h c.args.profile c.requires.1 in
    (lent_laid _ _ c.requires.0 c.node_span.ensures h, rises, piece-within c.args.profile c.args.party (lent) (rises) (formed) _ c.sight_of-sight.ensures)

pub returns : goal.returns
returns c =
    let h : c.node_span.result ≡ Some c.in_ok-span.span = grind arith in
    let lent : List ℕ = take (c.in_ok-span.span.end - c.in_ok-span.span.start) (drop c.in_ok-span.span.start c.args.area.now) in
    let rises : keys_rise (recs_in (lent)) ≡ true = lent-rises _ _ c.requires.0 c.node_span.ensures h in
    let formed : recs_formed c.args.profile (recs_in (lent)) ≡ true = lent-formed _ _ c.requires.0 c.node_span.ensures h c.args.profile c.requires.1 in
    let p = c.args.profile in
    let q = c.args.party in
    let k = c.args.prefix.now in
    let o = c.args.out.now in
    table-fills p q c.args.number (decode c.args.area.now) k o _ _
    (node-fills (λ (x : Option Node). prefix_on k (seen_held p q x) o) _ _ c.requires.0 c.node_span.ensures h _ _
    (seen-fills p q (lent) (rises) (formed) _ c.sight_of-sight.ensures k o _ _ c.in_node.ensures))
