-- Each answer is its case of the definition. Assumes nothing.
use Prim.Native.Nat.{ℕ}
use mathlib.Core.Path.{◌∙◌, ap}
use native.Mathlib.Nat.{add-zero}
use native.Mathlib.Omega.{arith}
use lib.ListN.{length, length-drop}
use Rattle.fields.specs.Parts.{put}
use Rattle.fields.proofs.Lent.{lent-rest-put, seen-rest}
use Rattle.rules.specs.Digest.{digest_bytes, digest_of}
use Rattle.rules.specs.Layout.{decode}
use Rattle.table.proofs.Tables.{valid-laid}
use Rattle.digest_write.proofs.Outcomes.{no_room, past_end, size_is, written}
use Rattle.digest_write.proofs.write_known.Goals as goal

-- Each answer is its case of the definition. Assumes nothing.
pub returns-then-datagram-place : goal.returns-then-datagram-place
returns-then-datagram-place c =
    let a = c.args in
    past_end a.edition a.excluded.now a.place a.datagram.now (decode a.table.now) c.requires.1 (omega arith)

pub count_written-count-requires : goal.count_written-count-requires
count_written-count-requires c =
    valid-laid _ c.requires.0

pub returns-then-datagram-place-2 : goal.returns-then-datagram-place-2
returns-then-datagram-place-2 c =
    let a = c.args in
    let size = size_is _ _ _ _ c.count_written-count.ensures.0 c.size_for-size.ensures in
    no_room a.edition a.excluded.now a.place a.datagram.now (decode a.table.now) c.requires.1 _ size (omega arith) (omega arith)

pub store_digest-requires : goal.store_digest-requires
store_digest-requires c =
    let a = c.args in
    let n = c.count_written-count.ensures.0 in
    let k = ap length (seen-rest a.place a.datagram.now) ∙ length-drop a.place a.datagram.now in
    (valid-laid _ c.requires.0, omega arith, n)

pub returns : goal.returns
returns c =
    let a = c.args in
    let b = digest_bytes a.edition (digest_of a.excluded.now (decode a.table.now)) in
    let w = c.store_digest in
    let size = size_is _ _ _ _ c.count_written-count.ensures.0 c.size_for-size.ensures in
    written a.edition a.excluded.now a.place a.datagram.now (decode a.table.now) c.requires.1 _ size (omega arith) _ (omega arith)
    (lent-rest-put a.place 0 b a.datagram.now w.new.datagram (omega arith) w.ensures
    ∙ ap (λ (n : ℕ). put n b a.datagram.now) (add-zero a.place))
