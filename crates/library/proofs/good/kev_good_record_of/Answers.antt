-- `library::good::kev_good_record_of` meets its contract: the call by the number's party on a good table, and what its answer tells. Assumes nothing.
use mathlib.Core.Path.{ap, ◌∙◌}
use Rattle.inspect.specs.Told.{record_read_told}
use Rattle.std.specs.Prelude.{Option, Result}
use Rattle.inspect.specs.declared.RecordRead.{RecordRead}
use Rattle.rules.specs.declared.Refusal.{Refusal}
use Rattle.answers.specs.Shown.{record_shown}
use Rattle.library.proofs.Accepted.{good-read}
use Rattle.library.proofs.good.kev_good_record_of.Goals as goal

pub returns : goal.returns
returns c =
    let e = rw c.of_number.ensures at c.record_of_known.ensures in
    c.record.ensures ∙ ap (λ (a : (Result (Option RecordRead) Refusal)). record_shown (record_read_told a)) (good-read _ _ c.args.table.now c.requires _ e)
