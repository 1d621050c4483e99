-- `library::kev_digest_entry` meets its contract: the digest that was read, and one of its places. Assumes nothing.
use mathlib.Core.Path.{ap, ◌∙◌}
use Rattle.answers.specs.Shown.{entry_shown, entry_told}
use Rattle.digest_read.specs.declared.Digest.{Digest}
use Rattle.digest_read.proofs.Values.{same-digest}
use Rattle.library.proofs.kev_digest_entry.Goals as goal

pub returns : goal.returns
returns c =
    c.entry.ensures ∙ ap (λ (d : Digest). entry_shown (entry_told c.args.i d)) (same-digest _ _ c.read_digest.ensures)
