-- `compute_plan::compute_known` meets its contract: 7, 8, the digest's numbers, or the plan's. Assumes nothing.
use mathlib.Core.Path.{◌∙◌, ap, sym}
use Rattle.rules.specs.Digest.{Entries, read_digest}
use Rattle.rules.specs.Layout.{decode}
use Rattle.digest_read.proofs.Reading.{read-nodes, read-refused}
use Rattle.digest_read.proofs.Values.{same-digest}
use Rattle.digest_read.specs.Held.{entries_in, rest_of}
use Rattle.digest_read.specs.declared.Digest.{Digest}
use Rattle.compute_write.proofs.Steps.{gives_as}
use Rattle.std.proofs.lemmas.Result.{err_from_is_err_and}
use Rattle.compute_plan.proofs.Calling.{bad-digest, bad-mtu, by-plan, free-so, no_place}
use Rattle.compute_plan.proofs.compute_known.Goals as goal

pub returns-then-not-mtu_fits : goal.returns-then-not-mtu_fits
returns-then-not-mtu_fits c =
    let a = c.args in
    bad-mtu a.excluded.now a.nodes.now a.counts.now a.mtu (read_digest a.edition a.digest.now) (decode a.table.now) a.place a.datagram.now (sym c.mtu_fits.ensures ∙ c.if-not-mtu_fits.true)

pub returns-then-not-is_free : goal.returns-then-not-is_free
returns-then-not-is_free c =
    let a = c.args in
    no_place a.excluded.now a.nodes.now a.counts.now a.mtu (read_digest a.edition a.digest.now) (decode a.table.now) a.place a.datagram.now (sym c.mtu_fits.ensures ∙ c.if-not-mtu_fits.false) (sym c.is_free.ensures ∙ c.if-not-is_free.true)

pub returns-in_err-d : goal.returns-in_err-d
returns-in_err-d c =
    let a = c.args in
    let read = read-refused a.edition a.digest.now _ (sym (ap (λ (x : Digest). x.read) (same-digest _ _ c.read_digest-d.ensures)) ∙ c.in_err-d.was) in
    let p = err_from_is_err_and c.from_residual.result c.from_residual.ensures.1 in
    rw (p.1, p.2)
    (bad-digest a.excluded.now a.nodes.now a.counts.now a.mtu (read_digest a.edition a.digest.now) (decode a.table.now) a.place a.datagram.now (sym c.mtu_fits.ensures ∙ c.if-not-mtu_fits.false) (sym c.is_free.ensures ∙ c.if-not-is_free.false) _ read)

pub write_plan-requires : goal.write_plan-requires
write_plan-requires c =
    (c.requires, free-so c.args.place c.args.mtu c.args.datagram.now (sym c.is_free.ensures ∙ c.if-not-is_free.false))

pub returns : goal.returns
returns c =
    let a = c.args in
    let d = same-digest _ _ c.read_digest-d.ensures in
    let x = c.in_ok-d.field-0 in
    let read = read-nodes a.edition a.digest.now x.count x.rest (sym (ap (λ (y : Digest). y.read) d) ∙ c.in_ok-d.was)
    ∙ ap (λ (y : Digest). Entries (entries_in y) (rest_of (read_digest a.edition a.digest.now))) (sym d) in
    gives_as
    (by-plan a.excluded.now a.nodes.now a.counts.now a.mtu (read_digest a.edition a.digest.now) (decode a.table.now) a.place a.datagram.now (sym c.mtu_fits.ensures ∙ c.if-not-mtu_fits.false) (sym c.is_free.ensures ∙ c.if-not-is_free.false) _ _ read)
    c.write_plan.ensures
