-- `compute_plan::judge_known` meets its contract: 7, the digest's numbers, or what the lines come to. Assumes nothing.
use mathlib.Core.Path.{◌∙◌, ap, sym}
use Rattle.rules.specs.Digest.{Entries, read_digest}
use Rattle.rules.specs.Layout.{decode}
use Rattle.digest_read.proofs.Reading.{read-nodes, read-refused}
use Rattle.digest_read.proofs.Values.{same-digest}
use Rattle.digest_read.specs.Held.{entries_in, rest_of}
use Rattle.digest_read.specs.declared.Digest.{Digest}
use Rattle.compute_plan.proofs.Calling.{said-digest, said-lines, said-mtu}
use Rattle.compute_plan.proofs.judge_known.Goals as goal

pub returns-then-not-mtu_fits : goal.returns-then-not-mtu_fits
returns-then-not-mtu_fits c =
    let a = c.args in
    said-mtu a.excluded.now a.nodes.now a.counts.now a.mtu (read_digest a.edition a.digest.now) (decode a.table.now) (sym c.mtu_fits.ensures ∙ c.if-not-mtu_fits.true)

pub returns-in-Err : goal.returns-in-Err
returns-in-Err c =
    let a = c.args in
    let read = read-refused a.edition a.digest.now _ (sym (ap (λ (x : Digest). x.read) (same-digest _ _ c.read_digest-d.ensures)) ∙ c.in-Err.is) in
    said-digest a.excluded.now a.nodes.now a.counts.now a.mtu (read_digest a.edition a.digest.now) (decode a.table.now) (sym c.mtu_fits.ensures ∙ c.if-not-mtu_fits.false) _ read

pub returns : goal.returns
returns c =
    let a = c.args in
    let d = same-digest _ _ c.read_digest-d.ensures in
    let read = read-nodes a.edition a.digest.now _ _ (sym (ap (λ (y : Digest). y.read) d) ∙ c.in_default.is)
    ∙ ap (λ (y : Digest). Entries (entries_in y) (rest_of (read_digest a.edition a.digest.now))) (sym d) in
    c.judge_lines.ensures ∙ said-lines a.excluded.now a.nodes.now a.counts.now a.mtu (read_digest a.edition a.digest.now) (decode a.table.now) (sym c.mtu_fits.ensures ∙ c.if-not-mtu_fits.false) _ _ read
