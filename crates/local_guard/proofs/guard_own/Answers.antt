-- `local_guard::guard_own` meets its contract: a key that is there passes, and so does one for which there is room. Assumes nothing.
use mathlib.Core.List.{[]}
use mathlib.Core.Path.{◌≡◌, ap, sym, ◌∙◌}
use lib.ListN.{length}
use Rattle.rules.specs.Node.{find}
use Rattle.rules.specs.Party.{of_keys, own}
use Rattle.rules.specs.declared.Profile.TheVariants.{Shared}
use Rattle.rules.specs.declared.Status.TheVariants.{Set}
use Rattle.table.specs.Tests.{recs_in}
use Rattle.table_read.proofs.Searched.{rec-found, rec-missing}
use Rattle.own_rows.specs.declared.Sight.{Sight}
use Rattle.own_rows.proofs.Laws.{seen-count}
use Rattle.local_guard.specs.Guarding.{bringing}
use Rattle.local_guard.proofs.Sharing.{full, has_room, there}
use Rattle.local_guard.proofs.guard_own.Goals as goal

pub returns-then-seen-lt-RECORDS : goal.returns-then-seen-lt-RECORDS
returns-then-seen-lt-RECORDS c =
    let counted : let a = c.args in c.sight_of-seen.result.count ≡ length (of_keys (own a.party) (recs_in a.node.now)) = let a = c.args in
    ap (λ (s : Sight). s.count) c.sight_of-seen.ensures ∙ sym (seen-count Shared a.party (recs_in a.node.now)) in
    let a = c.args in
    has_room (own a.party) (bringing a.key.now [] Set) (recs_in a.node.now) _ (counted) c.if-seen-lt-RECORDS.true (find a.key.now (recs_in a.node.now))

pub returns-in-At : goal.returns-in-At
returns-in-At c =
    let counted : let a = c.args in c.sight_of-seen.result.count ≡ length (of_keys (own a.party) (recs_in a.node.now)) = let a = c.args in
    ap (λ (s : Sight). s.count) c.sight_of-seen.ensures ∙ sym (seen-count Shared a.party (recs_in a.node.now)) in
    let a = c.args in
    there (own a.party) (bringing a.key.now [] Set) (recs_in a.node.now) _ (counted) _ _ (rec-found a.node.now a.key.now _ (sym c.search_key.ensures ∙ c.in-At.is))

pub returns-in-Free : goal.returns-in-Free
returns-in-Free c =
    let counted : let a = c.args in c.sight_of-seen.result.count ≡ length (of_keys (own a.party) (recs_in a.node.now)) = let a = c.args in
    ap (λ (s : Sight). s.count) c.sight_of-seen.ensures ∙ sym (seen-count Shared a.party (recs_in a.node.now)) in
    let a = c.args in
    full (own a.party) (bringing a.key.now [] Set) (recs_in a.node.now) _ (counted) c.if-seen-lt-RECORDS.false _
    (rec-missing a.node.now a.key.now _ c.requires.1 (sym c.search_key.ensures ∙ c.in-Free.is))
