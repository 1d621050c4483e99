-- `delta_make::finish` meets its contract: by how far the text has come. Assumes nothing.
use Rattle.delta_make.proofs.Steps.{finished-bad, finished-end, finished-lines}
use Rattle.delta_make.proofs.finish.Goals as goal

pub returns-in-Lines : goal.returns-in-Lines
returns-in-Lines c =
    finished-lines c.args.making c.args.delta.now _ c.in-Lines.is c.up.ensures

pub returns-in-End : goal.returns-in-End
returns-in-End c =
    finished-end c.args.making c.args.delta.now _ c.in-End.is c.read_made.ensures

pub returns-in-Bad : goal.returns-in-Bad
returns-in-Bad c =
    finished-bad c.args.making c.args.delta.now _ c.in-Bad.is
