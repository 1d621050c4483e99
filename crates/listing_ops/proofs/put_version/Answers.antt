-- `listing_ops::put_version` meets its contract: three texts, one behind the other. Assumes nothing.
use mathlib.Core.List.{◌++◌}
use Rattle.fields.specs.Numbers.{Bytes}
use Rattle.rules.specs.Listing.{ascii, status_text}
use Rattle.listing_text.specs.Texts.{numbered}
use Rattle.listing_text.proofs.Texts.{fits-first, fits-three, fits-two, three}
use Rattle.listing_ops.proofs.put_version.Goals as goal

pub put_numbered-a-requires : goal.put_numbered-a-requires
put_numbered-a-requires c =
    let version : Bytes = numbered (ascii "op=kv version=") c.args.version in
    let status : Bytes = status_text c.args.status in
    fits-first c.args.at (version) (ascii " status=" ++ status) c.args.out.now c.requires

pub put_text-b-requires : goal.put_text-b-requires
put_text-b-requires c =
    let version : Bytes = numbered (ascii "op=kv version=") c.args.version in
    let status : Bytes = status_text c.args.status in
    fits-two c.args.at (version) (ascii " status=") (status) c.args.out.now _ _ c.requires c.put_numbered-a.ensures

pub put_status-requires : goal.put_status-requires
put_status-requires c =
    let version : Bytes = numbered (ascii "op=kv version=") c.args.version in
    let status : Bytes = status_text c.args.status in
    fits-three c.args.at (version) (ascii " status=") (status) c.args.out.now _ _ c.requires c.put_numbered-a.ensures _ _
    c.put_text-b.ensures

pub returns : goal.returns
returns c =
    let version : Bytes = numbered (ascii "op=kv version=") c.args.version in
    let status : Bytes = status_text c.args.status in
    three c.args.at (version) (ascii " status=") (status) c.args.out.now _ _ c.requires c.put_numbered-a.ensures _ _ c.put_text-b.ensures _ _
    c.put_status.ensures
