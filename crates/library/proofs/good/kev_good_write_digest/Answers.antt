-- `library::good::kev_good_write_digest` meets its contract: the call on a good table, and what its answer tells. Assumes nothing.
use mathlib.Core.Path.{ap, ◌∙◌}
use Rattle.rules.specs.Answers.{written_told}
use Rattle.rules.specs.Given.{given}
use Rattle.rules.specs.Digest.{write_digest}
use Rattle.std.specs.Prelude.{Err, Result, ℕ}
use Rattle.rules.specs.declared.Refusal.{Refusal}
use Rattle.rules.specs.declared.Refusal.TheVariants.{BadTable}
use Rattle.answers.specs.Shown.{count_shown}
use Rattle.library.proofs.Accepted.{good-area, good-long, good-fill}
use Rattle.library.proofs.good.kev_good_write_digest.Goals as goal

pub slice_bounds-write_good-end : goal.slice_bounds-write_good-end
slice_bounds-write_good-end c =
    search good-long

pub write_good-requires : goal.write_good-requires
write_good-requires c =
    search good-area

pub returns : goal.returns
returns c =
    let a = c.args in
    let g = good-fill (λ t. write_digest a.edition a.excluded.now a.place t a.datagram.now) a.table.now c.requires (given (Err BadTable) a.datagram.now) _ _ c.write_good.ensures in
    (c.bytes.ensures ∙ ap (λ (a : (Result ℕ Refusal)). count_shown (written_told a)) g.0, g.1)
