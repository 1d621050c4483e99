-- 20, or the digest in an edition that there is. Assumes nothing.
use mathlib.Core.Path.{◌∙◌, sym}
use Rattle.rules.specs.Layout.{decode}
use Rattle.digest_write.proofs.Outcomes.{no-edition}
use Rattle.digest_write.proofs.write_good.Goals as goal

pub returns : goal.returns
returns c =
    let a = c.args in
    no-edition a.edition a.excluded.now a.place a.datagram.now (decode a.table.now) (sym c.is_edition.ensures ∙ c.if-is_edition.false)
