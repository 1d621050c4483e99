-- `listing_ops::put_key_value` meets its contract: key and value behind version and status. Assumes nothing.
use Rattle.fields.specs.Numbers.{Bytes}
use Rattle.listing_ops.specs.Lines.{texts_text, version_text}
use Rattle.listing_text.proofs.Texts.{fits-first, fits-second, then}
use Rattle.listing_ops.proofs.put_key_value.Goals as goal

pub put_version-a-requires : goal.put_version-a-requires
put_version-a-requires c =
    let front : Bytes = version_text c.args.version c.args.status in
    let rest : Bytes = texts_text c.args.key.now c.args.value.now in
    fits-first c.args.at (front) (rest) c.args.out.now c.requires

pub put_texts-requires : goal.put_texts-requires
put_texts-requires c =
    let front : Bytes = version_text c.args.version c.args.status in
    let rest : Bytes = texts_text c.args.key.now c.args.value.now in
    fits-second c.args.at (front) (rest) c.args.out.now _ _ c.requires c.put_version-a.ensures

pub returns : goal.returns
returns c =
    let front : Bytes = version_text c.args.version c.args.status in
    let rest : Bytes = texts_text c.args.key.now c.args.value.now in
    then c.args.at (front) (rest) c.args.out.now _ _ _ _ c.requires c.put_version-a.ensures c.put_texts.ensures
