-- `fields::write_u64` meets its contract: std's bytes of a number are its eight lowest. Assumes nothing.
use mathlib.Core.Path.{ap, ◌∙◌}
use mathlib.Core.List.{List}
use Prim.Native.Nat.{ℕ}
use Rattle.fields.specs.Parts.{put}
use Rattle.fields.proofs.Numbers.{bytes-eight}
use Rattle.fields.proofs.write_u64.Goals as goal

pub returns : goal.returns
returns c =
    let a = c.args in
    c.copy_to.ensures ∙ ap (λ (bs : List ℕ). put a.at bs a.s.now) (c.to_le_bytes.ensures ∙ bytes-eight a.v)
