-- `answers::entry` meets its contract, case by case. Assumes nothing.
use mathlib.Core.Path.{ap, sym, ◌∙◌}
use Rattle.std.specs.Prelude.{Result}
use Rattle.digest_read.specs.declared.DigestRead.{DigestRead}
use Rattle.rules.specs.declared.Refusal.{Refusal}
use Rattle.answers.specs.Shown.{entry_at, entry_shown, entry_told}
use Rattle.answers.proofs.Shown.{past-places, past-entries, entry-there}
use Rattle.answers.proofs.entry.Goals as goal

pub returns-then-i-ge-NODES : goal.returns-then-i-ge-NODES
unfolding entry_told
returns-then-i-ge-NODES c =
    c.no_entry-then-i-ge-NODES.ensures ∙ past-places c.args.i c.in-Ok.field-0.count c.in-Ok.field-0.rest c.args.read.entries c.if-i-ge-NODES.true ∙ ap (λ (v : (Result DigestRead Refusal)). entry_shown (entry_at c.args.i v c.args.read.entries)) (sym c.in-Ok.is)

pub returns-then-count-i : goal.returns-then-count-i
unfolding entry_told
returns-then-count-i c =
    c.no_entry-then-count-i.ensures ∙ past-entries c.args.i c.in-Ok.field-0.count c.in-Ok.field-0.rest c.args.read.entries c.if-i-ge-NODES.false c.if-count-i.true ∙ ap (λ (v : (Result DigestRead Refusal)). entry_shown (entry_at c.args.i v c.args.read.entries)) (sym c.in-Ok.is)

pub returns-in-Err : goal.returns-in-Err
unfolding entry_told
returns-in-Err c =
    c.no_entry.ensures ∙ ap (λ (v : (Result DigestRead Refusal)). entry_shown (entry_at c.args.i v c.args.read.entries)) (sym c.in-Err.is)

pub returns-else-count-i : goal.returns-else-count-i
unfolding entry_told
returns-else-count-i c =
    entry-there c.args.i c.in-Ok.field-0.count c.in-Ok.field-0.rest c.args.read.entries c.if-i-ge-NODES.false c.if-count-i.false ∙ ap (λ (v : (Result DigestRead Refusal)). entry_shown (entry_at c.args.i v c.args.read.entries)) (sym c.in-Ok.is)
