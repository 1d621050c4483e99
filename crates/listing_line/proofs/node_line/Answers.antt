-- `listing_line::node_line` meets its contract: a number, and what stands behind it. Assumes nothing.
use Rattle.listing_read.specs.Unlist.{after_id}
use Rattle.listing_line.proofs.Goes.{goes_number, no_number}
use Rattle.listing_line.proofs.node_line.Goals as goal

pub returns-in_default : goal.returns-in_default
returns-in_default c =
    no_number after_id c.args.text.now _ c.number.ensures _ c.in_default.is

pub returns : goal.returns
returns c =
    goes_number after_id c.args.text.now _ c.number.ensures _ _ _ _ c.in-Some.is c.behind.ensures c.after_id.ensures
