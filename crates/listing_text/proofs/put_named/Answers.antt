-- `listing_text::put_named` meets its contract: the text behind the name. Assumes nothing.
use Rattle.rules.specs.Listing.{shown_bytes}
use Rattle.listing_text.proofs.Texts.{then}
use Rattle.listing_text.proofs.put_named.Goals as goal

pub returns : goal.returns
returns c =
    let a = c.args in
    then a.at a.name.now (shown_bytes a.text.now) a.out.now _ _ _ _ c.requires c.put_text-next.ensures c.put_shown.ensures
