-- `delta_make::take_byte` meets its contract: by how far the text has come. Assumes nothing.
use Rattle.delta_make.specs.declared.Stage.TheVariants.{Lines}
use Rattle.delta_make.proofs.Steps.{byte-at, byte-bad, byte-end}
use Rattle.delta_make.proofs.take_byte.Goals as goal

pub returns-in-Lines : goal.returns-in-Lines
returns-in-Lines c =
    byte-at c.args.making c.args.line.now c.args.delta.now c.args.byte Lines _ _ c.in-Lines.is c.take_among.ensures

pub returns-in-End : goal.returns-in-End
returns-in-End c =
    byte-end c.args.making c.args.line.now c.args.delta.now c.args.byte _ _ c.in-End.is c.up.ensures
    c.bad.ensures

pub returns-in-Bad : goal.returns-in-Bad
returns-in-Bad c =
    byte-bad c.args.making c.args.line.now c.args.delta.now c.args.byte _ c.in-Bad.is
