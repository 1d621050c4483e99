-- The datagrams of an exchange: what a call says it wrote stands at the front of its datagram. Assumes nothing.
use Prim.Native.Nat.{ℕ, ◌-◌, ◌≤◌}
use mathlib.Core.Path.{◌≡◌, refl, ap, sym}
use mathlib.Core.Bool.{Bool, ◌&&◌, false, true}
use mathlib.Core.List.{List}
use native.Mathlib.Omega.{arith}
use lib.Dec.{leb}
use lib.ListN.{length}
use borrow.Author.Tests.{leb-true}
use Rattle.fields.specs.Choice.{pick}
use Rattle.fields.specs.Parts.{put}
use Rattle.fields.proofs.Parts.{length-put}
use Rattle.rules.specs.Given.{Given, given}
use Rattle.rules.specs.Table.{Table}
use Rattle.rules.specs.Digest.{digest_bytes, digest_of, is_edition, write_bytes, write_digest}
use Rattle.rules.specs.Delta.{delta_bytes}
use Rattle.rules.specs.Compute.{all_ops, compute, cut, delta_for, ordered, stale_nodes}
use Rattle.rules.specs.Whole.{decode_whole, valid_whole}
use Rattle.rules.specs.Lent.{from_table, lent_compute, lent_digest}
use Rattle.rules.specs.declared.Refusal.TheVariants.{BadEdition, BadTable, NoPlace}
use Rattle.std.specs.Prelude.{Err, Ok, Result}
use Rattle.std.specs.Result.{is_err}
use Rattle.std.proofs.lemmas.Bool.{false≢true}
use Rattle.rules.proofs.Results.{ok-is}
use Rattle.rules.specs.declared.Refusal.{Refusal}
use Rattle.rules.specs.declared.Sent.{Sent}
use Rattle.rules.proofs.Accepted.{Comes, comes, cut-bytes, refuses, writes}

-- ---- what a call says it wrote stands in its datagram

-- a law of the rule's outcome and of 14's is one of the call's
from-table : {A : Type 0} (P : A → Type 0) (bad : A) (rule : Table → A) (l : List ℕ) → P bad → P (rule (decode_whole l).table) → P (from_table bad rule l)
unfolding from_table
from-table P bad rule l b r = go (valid_whole l)
  where
    go : (v : Bool) → P (pick v (rule (decode_whole l).table) bad)
    go true = r
    go false = b

-- bytes at the front of a datagram
bytes-within : (b d : List ℕ) (n : ℕ) → (write_bytes b 0 d).answer ≡ Ok n → n ≤ length (write_bytes b 0 d).lent
bytes-within b d n = go (leb 0 (length d)) (leb (length b) (length d - 0)) refl
  where
    Out : Bool → Given (Result ℕ Refusal) (List ℕ)
    Out c = pick c (given (Ok (length b)) (put 0 b d)) (given (Err NoPlace) d)

    go : (p q : Bool) → leb (length b) (length d - 0) ≡ q → (Out (p && q)).answer ≡ Ok n → n ≤ length (Out (p && q)).lent
    go true true h e =
        let k : length b ≡ n = ok-is _ _ e in
        let m = leb-true (length b) (length d - 0) h in
        let j = length-put 0 b d (omega arith) in
        omega arith
    go true false h e = absurd (false≢true (sym (ap is_err e)))
    go false q h e = absurd (false≢true (sym (ap is_err e)))

pub digest-within : (edition : ℕ) (excluded d l : List ℕ) (n : ℕ) → (lent_digest edition excluded 0 d l).answer ≡ Ok n → n ≤ length (lent_digest edition excluded 0 d l).lent
unfolding write_digest
digest-within edition excluded d l n =
    from-table (λ (o : Given (Result ℕ Refusal) (List ℕ)). o.answer ≡ Ok n → n ≤ length o.lent) (given (Err BadTable) d) (λ t. write_digest edition excluded 0 t d) l (λ e. absurd (false≢true (sym (ap is_err e))))
    (known (is_edition edition))
  where
    b : List ℕ
    b = digest_bytes edition (digest_of excluded (decode_whole l).table)

    Out : Bool → Given (Result ℕ Refusal) (List ℕ)
    Out x = pick x (write_bytes b 0 d) (given (Err BadEdition) d)

    known : (x : Bool) → (Out x).answer ≡ Ok n → n ≤ length (Out x).lent
    known true e = bytes-within b d n e
    known false e = absurd (false≢true (sym (ap is_err e)))

pub delta-within : (edition : ℕ) (excluded ties : List ℕ) (mtu : ℕ) (digest d l : List ℕ) (ops bytes : ℕ) → (lent_compute edition excluded ties mtu 0 digest d l).answer ≡ (Ok (record { ops = ops; bytes = bytes })) → bytes ≤ length (lent_compute edition excluded ties mtu 0 digest d l).lent
unfolding delta_for
delta-within edition excluded ties mtu digest d l ops bytes =
    from-table Out (given (Err BadTable) d) (λ t. compute edition excluded ties mtu 0 digest t d) l (λ e. absurd (false≢true (sym (ap is_err e)))) (go _ (comes edition excluded ties mtu 0 digest (decode_whole l).table d))
  where
    Out : Given (Result Sent Refusal) (List ℕ) → Type 0
    Out o = o.answer ≡ (Ok (record { ops = ops; bytes = bytes })) → bytes ≤ length o.lent

    go : (o : Given (Result Sent Refusal) (List ℕ)) → Comes edition excluded ties mtu 0 digest (decode_whole l).table d o → Out o
    go o (refuses r) e = absurd (false≢true (sym (ap is_err e)))
    go o (writes ds rest q h g) e =
        let b = delta_bytes (cut mtu (all_ops (ordered (stale_nodes excluded ds ties (decode_whole l).table)))) in
        let k : length b ≡ bytes = ap (λ (s : Sent). s.bytes) (ok-is _ _ e) in
        let m = cut-bytes mtu (all_ops (ordered (stale_nodes excluded ds ties (decode_whole l).table))) in
        let j = length-put 0 b d (omega arith) in
        omega arith
