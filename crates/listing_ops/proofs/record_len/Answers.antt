-- `listing_ops::record_len` meets its contract. Assumes nothing.
use Prim.Native.Nat.{ℕ, ◌+◌, ◌*◌, ◌≤◌}
use mathlib.Core.Path.{◌≡◌}
use mathlib.Core.List.{List}
use native.Mathlib.Omega.{arith}
use lib.ListN.{length}
use Rattle.rules.specs.Sizes.{max_value}
use Rattle.rules.specs.declared.Status.{Status}
use Rattle.rules.specs.Listing.{decimal, shown_bytes, status_text}
use Rattle.listing_text.proofs.Texts.{shown-long}
use Rattle.listing_ops.specs.Lines.{record_line}
use Rattle.listing_ops.proofs.Lines.{record-long, status-long}
use Rattle.listing_ops.proofs.record_len.Goals as goal

few : (l : List ℕ) (r : ℕ) → length l ≤ max_value → r ≡ length (shown_bytes l) → r ≤ 3 * max_value
few l r h e = omega (arith, shown-long l)

whole : (ver : ℕ) (st : Status) (key value : List ℕ) (a b k v : ℕ) → a ≡ length (decimal ver) → b ≡ length (status_text st) → k ≡ length (shown_bytes key)
    → v ≡ length (shown_bytes value) → 35 + a + b + k + v ≡ length (record_line ver st key value)
whole ver st key value a b k v p q r s = omega (arith, record-long ver st key value)

pub overflow_add-result-2 : goal.overflow_add-result-2
overflow_add-result-2 c =
    let status-few : c.status_len.result ≤ 6 = omega (arith, c.status_len.ensures, status-long c.args.status) in
    omega (arith, c.decimal_len.ensures.1, status-few)

pub overflow_add-result-3 : goal.overflow_add-result-3
overflow_add-result-3 c =
    let status-few : c.status_len.result ≤ 6 = omega (arith, c.status_len.ensures, status-long c.args.status) in
    let key-few : c.shown_len.result ≤ 3 * max_value = few c.args.key.now _ (omega (arith, c.requires.0)) c.shown_len.ensures in
    omega (arith, c.decimal_len.ensures.1, status-few, key-few)

pub overflow_add-result-4 : goal.overflow_add-result-4
overflow_add-result-4 c =
    let status-few : c.status_len.result ≤ 6 = omega (arith, c.status_len.ensures, status-long c.args.status) in
    let key-few : c.shown_len.result ≤ 3 * max_value = few c.args.key.now _ (omega (arith, c.requires.0)) c.shown_len.ensures in
    let value-few : c.shown_len-2.result ≤ 3 * max_value = few c.args.value.now _ c.requires.1 c.shown_len-2.ensures in
    omega (arith, c.decimal_len.ensures.1, status-few, key-few, value-few)

pub returns : goal.returns
returns c =
    whole c.args.version c.args.status c.args.key.now c.args.value.now _ _ _ _ c.decimal_len.ensures.0
    c.status_len.ensures c.shown_len.ensures c.shown_len-2.ensures
