-- `fields::write_byte` meets its contract: one byte put is one element set. Assumes nothing.
use mathlib.Core.Path.{sym}
use Rattle.fields.specs.Numbers.{bytes_of}
use Rattle.fields.proofs.Parts.{put_one}
use Rattle.fields.proofs.write_byte.Goals as goal

pub returns : goal.returns
unfolding bytes_of
returns c =
    sym (put_one c.args.at _ c.args.s.now c.requires)
