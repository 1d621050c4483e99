-- `record_write::store_text` meets its contract: the length and the bytes are one put, side by side. Assumes nothing.
use Prim.Native.Nat.{◌+◌}
use mathlib.Core.Path.{◌∙◌, ap}
use native.Mathlib.Omega.{arith}
use Rattle.fields.proofs.Parts.{length_part}
use Rattle.fields.specs.Parts.{part, put}
use Rattle.record_write.proofs.Words.{behind-length}
use Rattle.record_write.proofs.store_text.Goals as goal

pub returns : goal.returns
returns c =
    let a = c.args in
    let r = c.copy_words.result in
    let e = c.copy_words.ensures in
    let long = length_part a.start r a.src.now (omega (arith, e.1, c.requires.1)) in (
      e.0,
      e.1,
      e.2
          ∙ ap (put (a.at + 2) (part a.start r a.src.now)) c.write_u16.ensures
          ∙ behind-length a.at a.n (part a.start r a.src.now) a.s.now (omega (arith, long, e.1, c.requires.0)),
    )
