-- `compute::compute_known` meets its contract: refused by its numbers, by the digest, or the delta is written. Assumes nothing.
use Prim.Native.Nat.{ℕ}
use mathlib.Core.List.{List}
use Rattle.rules.specs.Table.{Table}
use Rattle.table.specs.Tests.{nodes_of}
use Rattle.std.proofs.lemmas.Result.{err_from_is_err_and}
use mathlib.Core.Path.{◌≡◌, sym, ap, ◌∙◌}
use native.Mathlib.Omega.{arith}
use lib.ListN.{length}
use Rattle.rules.specs.Digest.{Entries, read_digest}
use Rattle.rules.specs.Layout.{decode}
use Rattle.table.proofs.Tables.{length-decode, valid-laid}
use Rattle.digest_read.specs.Held.{entries_in, rest_of}
use Rattle.digest_read.specs.declared.Digest.{Digest}
use Rattle.digest_read.proofs.Values.{same-digest}
use Rattle.digest_read.proofs.Reading.{read-nodes, read-refused}
use Rattle.compute.specs.Asking.{asked_of}
use Rattle.std.specs.Prelude.{Result}
use Rattle.rules.specs.declared.Refusal.{Refusal}
use Rattle.compute.proofs.Calling.{granted, by-refused, by-digest, by_part}
use Rattle.compute.proofs.compute_known.Goals as goal

-- what was asked, by the number of the table's nodes
asked : (mtu place room ties : ℕ) (t : Table) {n : ℕ} {r found : Result (Unit {0}) Refusal} → n ≡ length t → r ≡ asked_of mtu place room ties n → r ≡ found
    → asked_of mtu place room ties (length t) ≡ found
asked mtu place room ties t e p q = sym (p ∙ ap (asked_of mtu place room ties) e) ∙ q

pub byte_at-requires : goal.byte_at-requires
byte_at-requires c =
    let laid = valid-laid c.args.table.now c.requires in
    omega (arith, laid.long)

-- the table's nodes, counted
counted : {n : ℕ} (l : List ℕ) → n ≡ nodes_of l → n ≡ length (decode l)
counted l e = e ∙ sym (length-decode l)

pub returns-in_err-ask : goal.returns-in_err-ask
returns-in_err-ask c =
    let a = c.args in
    let p = err_from_is_err_and c.from_residual.result c.from_residual.ensures.1 in
    let refused = asked a.mtu a.place (length a.datagram.now) (length a.ties.now) _ (counted a.table.now c.byte_at.ensures.0) c.ask.ensures c.in_err-ask.was in
    rw (p.1, p.2) (by-refused a.excluded.now a.ties.now a.mtu a.place (read_digest a.edition a.digest.now) (decode a.table.now) a.datagram.now _ refused)

pub returns-in_err-d : goal.returns-in_err-d
returns-in_err-d c =
    let a = c.args in
    let p = err_from_is_err_and c.from_residual-in_err-d.result c.from_residual-in_err-d.ensures.1 in
    let good = asked a.mtu a.place (length a.datagram.now) (length a.ties.now) _ (counted a.table.now c.byte_at.ensures.0) c.ask.ensures c.in_ok-ask.was in
    let d = same-digest _ _ c.read_digest-d.ensures in
    let read = read-refused a.edition a.digest.now _ (sym (ap (λ (x : Digest). x.read) d) ∙ c.in_err-d.was) in
    rw (p.1, p.2) (by-digest a.excluded.now a.ties.now a.mtu a.place (read_digest a.edition a.digest.now) (decode a.table.now) a.datagram.now _ good read)

pub overflow_add-end : goal.overflow_add-end
overflow_add-end c =
    let a = c.args in
    let g = granted _ _ _ _ _ (asked a.mtu a.place (length a.datagram.now) (length a.ties.now) _ (counted a.table.now c.byte_at.ensures.0) c.ask.ensures c.in_ok-ask.was) in
    omega (arith, g.free, g.before)

pub slice_bounds-write_delta-end : goal.slice_bounds-write_delta-end
slice_bounds-write_delta-end c =
    let a = c.args in
    let g = granted _ _ _ _ _ (asked a.mtu a.place (length a.datagram.now) (length a.ties.now) _ (counted a.table.now c.byte_at.ensures.0) c.ask.ensures c.in_ok-ask.was) in
    omega (arith, g.free, g.before)

pub write_delta-sent-requires : goal.write_delta-sent-requires
write_delta-sent-requires c =
    let a = c.args in
    let g = granted _ _ _ _ _ (asked a.mtu a.place (length a.datagram.now) (length a.ties.now) _ (counted a.table.now c.byte_at.ensures.0) c.ask.ensures c.in_ok-ask.was) in
    (valid-laid a.table.now c.requires, omega (arith, g.one_each, length-decode a.table.now))

pub returns : goal.returns
returns c =
    let a = c.args in
    let good = asked a.mtu a.place (length a.datagram.now) (length a.ties.now) _ (counted a.table.now c.byte_at.ensures.0) c.ask.ensures c.in_ok-ask.was in
    let g = granted _ _ _ _ _ good in
    let d = same-digest _ _ c.read_digest-d.ensures in
    let read = read-nodes a.edition a.digest.now _ _ (sym (ap (λ (x : Digest). x.read) d) ∙ c.in_ok-d.was)
    ∙ ap (λ (x : Digest). Entries (entries_in x) (rest_of (read_digest a.edition a.digest.now))) (sym d) in
    by_part a.excluded.now a.ties.now a.mtu a.place (read_digest a.edition a.digest.now) (decode a.table.now) a.datagram.now
    (entries_in c.read_digest-d.result) _ _ _ (omega (arith, g.free, g.before)) good read c.write_delta-sent.ensures c.write_delta-sent.auto.part
