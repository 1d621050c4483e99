-- `listing_text::put_numbered` meets its contract: the number behind the name. Assumes nothing.
use Rattle.rules.specs.Listing.{decimal}
use Rattle.listing_text.proofs.Texts.{then}
use Rattle.listing_text.proofs.put_numbered.Goals as goal

pub returns : goal.returns
returns c =
    let a = c.args in
    then a.at a.name.now (decimal a.v) a.out.now _ _ _ _ c.requires c.put_text-next.ensures c.put_decimal.ensures
