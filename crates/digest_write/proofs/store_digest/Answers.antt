-- The entries go behind the count. Assumes nothing.
use Prim.Native.Nat.{ℕ}
use mathlib.Core.Path.{◌∙◌, ap}
use native.Mathlib.Nat.{add-zero}
use native.Mathlib.Omega.{arith}
use Rattle.fields.specs.Blocks.{flat}
use Rattle.fields.specs.Parts.{put}
use Rattle.fields.proofs.Lent.{lent-rest-put}
use Rattle.rules.specs.Digest.{digest_of, entry_bytes}
use Rattle.rules.specs.Layout.{decode}
use Rattle.digest_write.proofs.Outcomes.{stored}
use Rattle.digest_write.proofs.store_digest.Goals as goal

pub returns : goal.returns
returns c =
    let head = c.head_width-head in
    let ds = digest_of c.args.excluded.now (decode c.args.table.now) in
    let x = c.write_count.new.datagram in
    let k = c.write_count.auto.datagram in
    let r = c.requires.1 in
    let e = head.ensures in
    let w = c.write_entries in
    stored c.args.edition ds c.args.count c.args.datagram.now x _ c.requires.2 (omega arith) c.write_count.ensures
    (lent-rest-put head.result 0 (flat entry_bytes ds) x w.new.datagram (omega arith) w.ensures ∙ ap (λ (n : ℕ). put n (flat entry_bytes ds) x) (add-zero head.result ∙ e))
