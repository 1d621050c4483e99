-- `inspect_text::text_at` meets its contract: nothing where the table is bad (14), or what is handed out of a good table. Assumes nothing.
use mathlib.Core.Path.{refl, sym, ◌∙◌}
use native.Mathlib.Nat.{add-zero}
use Rattle.rules.specs.Whole.{decode_whole}
use Rattle.table_read.proofs.Entry.{read-good, read-bad}
use Rattle.lookup.specs.Lookup.{nothing_held}
use Rattle.lookup.proofs.Values.{same-hands}
use Rattle.inspect_text.specs.Texts.{text_part}
use Rattle.inspect_text.proofs.text_at.Goals as goal

pub text_known-requires : goal.text_known-requires
text_known-requires c =
    sym c.check_table.ensures ∙ c.if-not-check_table.false

pub returns : goal.returns
returns c =
    let a = c.args in
    let rule = text_part (decode_whole a.table.now).kind.profile a.party a.text a.number a.j in
    same-hands (read-good nothing_held rule a.table.now c.check_table.ensures c.if-not-check_table.false _ refl) _ _ _
    c.text_known.ensures

pub returns-then-not-check_table : goal.returns-then-not-check_table
returns-then-not-check_table c =
    let a = c.args in
    let rule = text_part (decode_whole a.table.now).kind.profile a.party a.text a.number a.j in
    same-hands (read-bad nothing_held rule a.table.now c.check_table.ensures c.if-not-check_table.true) _ _ _
    (refl, refl, sym (add-zero a.table.ref_ptr.1))
