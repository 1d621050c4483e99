-- `over_list::in_nodes` meets its contract: 1, or the hits of both where there is room. Assumes nothing.
use Prim.Native.Nat.{ℕ, ◌≤◌}
use mathlib.Core.Path.{◌≡◌, ap, sym, ◌∙◌}
use mathlib.Core.List.{List}
use native.Mathlib.Omega.{arith}
use lib.ListN.{length, take}
use Rattle.fields.specs.Parts.{put}
use Rattle.rules.specs.Node.{Rec}
use Rattle.rules.specs.Party.{sees, seen_recs}
use Rattle.rules.specs.Layout.{decode_node}
use Rattle.table.specs.Tests.{recs_in}
use Rattle.table.proofs.Places.{length-recs}
use Rattle.table_read.proofs.Reading.{short-fills, long-fills}
use Rattle.own_rows.specs.Sight.{seen_node}
use Rattle.own_rows.proofs.Tables.{seen-recs}
use Rattle.over_list.specs.Merged.{places_of, listing, places_as, list_into}
use Rattle.over_list.proofs.Listed.{seen-short, listing-few, no_room, all_listed}
use Rattle.over_list.proofs.in_nodes.Goals as goal

pub returns-then-prefix-gt-KEY : goal.returns-then-prefix-gt-KEY
returns-then-prefix-gt-KEY c =
    search long-fills

pub returns-then-out-n : goal.returns-then-out-n
returns-then-out-n c =
    let found : List ℕ = let a = c.args in
    places_of (listing (sees a.profile a.party) a.prefix.now (recs_in a.overrides.now) (seen_node a.profile a.party (decode_node a.node.now).node).recs) in
    let merged : let a = c.args in places_as a.profile a.party a.prefix.now (recs_in a.overrides.now) (recs_in a.node.now) ≡ found = let a = c.args in
    ap (λ (l : List Rec). places_of (listing (sees a.profile a.party) a.prefix.now (recs_in a.overrides.now) l)) (sym (seen-recs a.profile a.party (decode_node a.node.now).node)) in
    short-fills (list_into (found) c.args.out.now) c.args.prefix.now _ c.if-prefix-gt-KEY.false _ _
    (no_room (found) c.args.out.now c.merge_seen-n.result (c.merge_seen-n.ensures.0 ∙ ap length (merged)) c.if-out-n.true)

pub slice_bounds-found-end : goal.slice_bounds-found-end
slice_bounds-found-end c =
    let few : c.merge_seen-n.result ≤ 64 = let a = c.args in
    omega
    (arith, c.merge_seen-n.ensures.0, listing-few (sees a.profile a.party) a.prefix.now (recs_in a.overrides.now) (seen_recs a.profile a.party (recs_in a.node.now)), seen-short a.profile a.party (recs_in a.node.now), length-recs a.overrides.now, length-recs a.node.now, c.requires.0.few, c.requires.2.few) in
    omega (arith, few)

pub slice_bounds-copy_to-end : goal.slice_bounds-copy_to-end
slice_bounds-copy_to-end c =
    let long : c.merge_seen-n.result ≡ length (take c.merge_seen-n.result c.merge_seen-n.new.out) = c.merge_seen-n.ensures.0 ∙ sym (ap length c.merge_seen-n.ensures.1) in
    long

pub copy_to-requires : goal.copy_to-requires
copy_to-requires c =
    let long : c.merge_seen-n.result ≡ length (take c.merge_seen-n.result c.merge_seen-n.new.out) = c.merge_seen-n.ensures.0 ∙ sym (ap length c.merge_seen-n.ensures.1) in
    omega (arith, long, c.if-out-n.false)

pub returns : goal.returns
returns c =
    let found : List ℕ = let a = c.args in
    places_of (listing (sees a.profile a.party) a.prefix.now (recs_in a.overrides.now) (seen_node a.profile a.party (decode_node a.node.now).node).recs) in
    let merged : let a = c.args in places_as a.profile a.party a.prefix.now (recs_in a.overrides.now) (recs_in a.node.now) ≡ found = let a = c.args in
    ap (λ (l : List Rec). places_of (listing (sees a.profile a.party) a.prefix.now (recs_in a.overrides.now) l)) (sym (seen-recs a.profile a.party (decode_node a.node.now).node)) in
    short-fills (list_into (found) c.args.out.now) c.args.prefix.now _ c.if-prefix-gt-KEY.false _ _
    (all_listed (found) c.args.out.now c.merge_seen-n.result (c.merge_seen-n.ensures.0 ∙ ap length (merged)) c.if-out-n.false _
    (c.copy_to.ensures ∙ ap (λ (x : List ℕ). put 0 x c.args.out.now) (c.merge_seen-n.ensures.1 ∙ merged)))
