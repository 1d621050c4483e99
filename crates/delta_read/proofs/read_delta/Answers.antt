-- `delta_read::read_delta` meets its contract: the verdict of what `read_heads` found. Assumes nothing.
use mathlib.Core.Path.{ap}
use Rattle.rules.specs.Answers.{read_told}
use Rattle.delta_read.proofs.read_delta.Goals as goal

pub returns : goal.returns
returns c =
    ap read_told c.read_heads-heads.ensures.0
