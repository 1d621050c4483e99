-- `listing_line::after_max` meets its contract: the line ends here. Assumes nothing.
use Rattle.rules.specs.Delta.{SetMaxVersionOp}
use Rattle.listing_line.proofs.Goes.{ends, max-fits, no_end}
use Rattle.listing_line.proofs.after_max.Goals as goal

pub returns-then-not-same : goal.returns-then-not-same
returns-then-not-same c =
    no_end (SetMaxVersionOp c.args.max) c.args.text.now _ c.same.ensures _ c.if-not-same.true

pub returns : goal.returns
returns c =
    ends (SetMaxVersionOp c.args.max) c.args.text.now _ c.same.ensures c.args.out.now _ _ _ c.if-not-same.false (max-fits _ _ c.requires) c.write_set_max_version.ensures
    c.size_of.ensures
