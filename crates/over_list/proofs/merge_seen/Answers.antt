-- `over_list::merge_seen` meets its contract: the runs of the two sides have all hits that the party may see. Assumes nothing.
use Prim.Native.Nat.{ℕ, ◌+◌, ◌-◌, ◌≤◌}
use mathlib.Core.Path.{◌≡◌, ap, sym, ◌∙◌, subst}
use mathlib.Core.List.{List}
use native.Mathlib.Omega.{arith}
use lib.ListN.{length, take, drop}
use Rattle.rules.specs.Node.{Rec}
use Rattle.rules.specs.Party.{sees}
use Rattle.table.specs.Tests.{count_of, recs_in}
use Rattle.prefix.specs.Run.{RunIn}
use Rattle.prefix.proofs.Seen.{piece-within, piece-seen}
use Rattle.over_list.specs.Merged.{places_of, listing, places_as}
use Rattle.over_list.specs.Turns.{left_in}
use Rattle.over_list.proofs.Turning.{piece, all_left}
use Rattle.over_list.proofs.merge_seen.Goals as goal

pub overflow_sub-seen : goal.overflow_sub-seen
overflow_sub-seen c =
    c.seen_run-seen.ensures.order

pub run_in-own-requires : goal.run_in-own-requires
run_in-own-requires c =
    let p = c.seen_run-seen.ensures in
    (c.requires.0, c.requires.1, omega (arith, p.order, p.inside))

pub sight_of-sight-requires : goal.sight_of-sight-requires
sight_of-sight-requires c =
    (c.requires.2, c.requires.3, c.requires.4)

pub run_in-shared-requires : goal.run_in-shared-requires
run_in-shared-requires c =
    let within : c.sight_of-sight.result.low + c.sight_of-sight.result.count ≤ count_of c.args.node.now = piece-within c.args.profile c.args.party c.args.node.now c.requires.3 c.requires.4 _ c.sight_of-sight.ensures in
    (c.requires.2, c.requires.3, within)

pub merge-requires : goal.merge-requires
merge-requires c =
    let own-run : let a = c.args in
    RunIn a.prefix.now a.overrides.now c.seen_run-seen.result.start c.seen_run-seen.result.end c.run_in-own.result.start c.run_in-own.result.end = let a = c.args in
    let r = c.seen_run-seen.result in
    let top : r.start + (r.end - r.start) ≡ r.end = omega (arith, c.seen_run-seen.ensures.order) in
    subst (λ (n : ℕ). RunIn a.prefix.now a.overrides.now r.start n c.run_in-own.result.start c.run_in-own.result.end) top c.run_in-own.ensures in
    let within : c.sight_of-sight.result.low + c.sight_of-sight.result.count ≤ count_of c.args.node.now = piece-within c.args.profile c.args.party c.args.node.now c.requires.3 c.requires.4 _ c.sight_of-sight.ensures in
    let ro = own-run in
    let rn = c.run_in-shared.ensures in
    (c.requires.0, c.requires.1, c.requires.2, c.requires.3, ro.order, omega (arith, ro.inside, c.seen_run-seen.ensures.inside), rn.from, rn.order, omega (arith, rn.inside, within), c.requires.5)

pub returns : goal.returns
returns c =
    let own-run : let a = c.args in
    RunIn a.prefix.now a.overrides.now c.seen_run-seen.result.start c.seen_run-seen.result.end c.run_in-own.result.start c.run_in-own.result.end = let a = c.args in
    let r = c.seen_run-seen.result in
    let top : r.start + (r.end - r.start) ≡ r.end = omega (arith, c.seen_run-seen.ensures.order) in
    subst (λ (n : ℕ). RunIn a.prefix.now a.overrides.now r.start n c.run_in-own.result.start c.run_in-own.result.end) top c.run_in-own.ensures in
    let within : c.sight_of-sight.result.low + c.sight_of-sight.result.count ≤ count_of c.args.node.now = piece-within c.args.profile c.args.party c.args.node.now c.requires.3 c.requires.4 _ c.sight_of-sight.ensures in
    let a = c.args in
    let i = c.sight_of-sight.result in
    let n : List ℕ = a.node.now in
    let m : i.low + i.count - i.low ≡ i.count = omega arith in
    let seen : piece i.low (i.low + i.count) n ≡ take i.count (drop i.low (recs_in n)) = ap (λ (j : ℕ). take j (drop i.low (recs_in n))) m in
    let all : left_in a.overrides.now c.run_in-own.result.start c.run_in-own.result.end n i.low c.run_in-shared.result.start c.run_in-shared.result.end
    ≡ places_as a.profile a.party a.prefix.now (recs_in a.overrides.now) (recs_in n) = sym (all_left (sees a.profile a.party) a.prefix.now a.overrides.now n _ _ _ _ i.low (i.low + i.count) _ _ c.seen_run-seen.ensures (own-run) (within) c.run_in-shared.ensures)
    ∙ ap (λ (l : List Rec). places_of (listing (sees a.profile a.party) a.prefix.now (recs_in a.overrides.now) l)) (seen ∙ piece-seen a.profile a.party n c.requires.3 c.requires.4 i c.sight_of-sight.ensures) in
    (c.merge.ensures.0 ∙ ap length all, c.merge.ensures.1 ∙ all)
