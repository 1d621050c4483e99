-- `listing_line::record_end` meets its contract: the line ends here. Assumes nothing.
use Rattle.delta_write.specs.Written.{key_value}
use Rattle.listing_line.proofs.Goes.{ends, record-fits, no_end}
use Rattle.listing_line.proofs.record_end.Goals as goal

pub returns-then-not-same : goal.returns-then-not-same
returns-then-not-same c =
    no_end (key_value c.args.key.now c.args.value.now c.args.version c.args.status) c.args.text.now _ c.same.ensures _ c.if-not-same.true

pub returns : goal.returns
returns c =
    ends (key_value c.args.key.now c.args.value.now c.args.version c.args.status) c.args.text.now _ c.same.ensures c.args.out.now _ _ _ c.if-not-same.false (record-fits _ _ _ _ _ c.requires.0 c.requires.1 c.requires.2) c.write_key_value.ensures
    c.size_of.ensures
