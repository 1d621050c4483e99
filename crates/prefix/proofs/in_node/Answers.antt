-- `prefix::in_node` meets its contract: 1, or the records of the run that are not hidden, where there is room. Assumes nothing.
use Prim.Native.Nat.{ℕ, ◌+◌, ◌-◌, ◌≤◌}
use mathlib.Core.Path.{◌≡◌, ap, sym, ◌∙◌}
use mathlib.Core.List.{List}
use mathlib.Core.Logic.{⊎_elim}
use native.Mathlib.Omega.{arith}
use lib.ListN.{length, take, drop}
use Rattle.fields.specs.Parts.{put}
use Rattle.rules.specs.Node.{hits_from}
use Rattle.rules.specs.Local.{list_into}
use Rattle.table.specs.Tests.{recs_in}
use Rattle.table_read.proofs.Reading.{short-fills, long-fills}
use Rattle.prefix.specs.Run.{shown_in}
use Rattle.prefix.proofs.Hits.{run-hits, shown-few, shown-many, no_room, all_listed}
use Rattle.prefix.proofs.in_node.Goals as goal

pub returns-then-prefix-gt-KEY : goal.returns-then-prefix-gt-KEY
returns-then-prefix-gt-KEY c =
    search long-fills

pub overflow_sub-run : goal.overflow_sub-run
overflow_sub-run c =
    c.run_in-run.ensures.order

pub count_shown-requires : goal.count_shown-requires
count_shown-requires c =
    let r = c.run_in-run.ensures in
    (c.requires.0, r.order, omega (arith, r.inside, c.requires.2))

pub returns-then-out-count_shown : goal.returns-then-out-count_shown
returns-then-out-count_shown c =
    let found : List ℕ = hits_from c.args.prefix.now 0 (take c.args.count (drop c.args.low (recs_in c.args.node.now))) in
    let shows : List ℕ = shown_in c.args.low c.run_in-run.result.start c.run_in-run.result.end c.args.node.now in
    let run : found ≡ shows = let low : ℕ = c.args.low in
    let n : ℕ = c.args.count in
    let m : n ≡ low + n - low = omega arith in
    ap (λ (i : ℕ). hits_from c.args.prefix.now 0 (take i (drop low (recs_in c.args.node.now)))) m
    ∙ run-hits c.args.prefix.now c.args.node.now low (low + n) _ _ c.requires.2 c.run_in-run.ensures in
    let many = shown-many c.args.node.now c.args.low c.run_in-run.result.start c.run_in-run.result.end in
    short-fills (list_into (found) c.args.out.now) c.args.prefix.now _ c.if-prefix-gt-KEY.false _ _
    (no_room (found) c.args.out.now c.count_shown.result (c.count_shown.ensures ∙ many ∙ sym (ap length (run))) c.if-out-count_shown.true)

pub write_shown-requires : goal.write_shown-requires
write_shown-requires c =
    let shows : List ℕ = shown_in c.args.low c.run_in-run.result.start c.run_in-run.result.end c.args.node.now in
    let room : length (shows) ≤ length c.args.out.now = let low = c.run_in-run.result.start in
    let high = c.run_in-run.result.end in
    let few = shown-few c.args.node.now c.args.low low high in
    let many = shown-many c.args.node.now c.args.low low high in
    ⊎_elim (λ w. omega (arith, w.if-out-count_shown.false, w.count_shown.ensures, many)) (λ w. omega (arith, w.if-out-run.false, few)) c.if-out-run.branch-raw in
    let r = c.run_in-run.ensures in
    (c.requires.0, r.from, r.order, omega (arith, r.inside, c.requires.2), room)

pub returns : goal.returns
returns c =
    let found : List ℕ = hits_from c.args.prefix.now 0 (take c.args.count (drop c.args.low (recs_in c.args.node.now))) in
    let shows : List ℕ = shown_in c.args.low c.run_in-run.result.start c.run_in-run.result.end c.args.node.now in
    let run : found ≡ shows = let low : ℕ = c.args.low in
    let n : ℕ = c.args.count in
    let m : n ≡ low + n - low = omega arith in
    ap (λ (i : ℕ). hits_from c.args.prefix.now 0 (take i (drop low (recs_in c.args.node.now)))) m
    ∙ run-hits c.args.prefix.now c.args.node.now low (low + n) _ _ c.requires.2 c.run_in-run.ensures in
    let room : length (shows) ≤ length c.args.out.now = let low = c.run_in-run.result.start in
    let high = c.run_in-run.result.end in
    let few = shown-few c.args.node.now c.args.low low high in
    let many = shown-many c.args.node.now c.args.low low high in
    ⊎_elim (λ w. omega (arith, w.if-out-count_shown.false, w.count_shown.ensures, many)) (λ w. omega (arith, w.if-out-run.false, few)) c.if-out-run.branch-raw in
    let n : c.write_shown.result ≡ length (found) = c.write_shown.ensures.0 ∙ sym (ap length (run)) in
    short-fills (list_into (found) c.args.out.now) c.args.prefix.now _ c.if-prefix-gt-KEY.false _ _
    (all_listed (found) c.args.out.now c.write_shown.result n (omega (arith, c.write_shown.ensures.0, room)) _
    (c.write_shown.ensures.1 ∙ ap (λ (x : List ℕ). put 0 x c.args.out.now) (sym (run))))
