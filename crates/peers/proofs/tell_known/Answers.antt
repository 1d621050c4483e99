-- `peers::tell_known` meets its contract: the digest is read, or refused. Assumes nothing.
use mathlib.Core.Path.{◌∙◌, ap, sym}
use Rattle.rules.specs.Digest.{Entries, read_digest}
use Rattle.digest_read.specs.Held.{entries_in, rest_of}
use Rattle.digest_read.specs.declared.Digest.{Digest}
use Rattle.digest_read.proofs.Reading.{read-nodes, read-refused}
use Rattle.digest_read.proofs.Values.{same-digest}
use Rattle.std.proofs.lemmas.Result.{err_from_is_err_and}
use Rattle.peers.proofs.Watching.{told_entries, told-refused}
use Rattle.peers.proofs.tell_known.Goals as goal

pub returns : goal.returns
returns c =
    let d = same-digest _ _ c.read_digest-told.ensures in
    let read = read-nodes c.args.edition c.args.digest.now _ _ (sym (ap (λ (x : Digest). x.read) d) ∙ c.in_ok-told.was)
    ∙ ap (λ (x : Digest). Entries (entries_in x) (rest_of (read_digest c.args.edition c.args.digest.now))) (sym d) in
    told_entries c.args.peer (read_digest c.args.edition c.args.digest.now) c.args.grid.now (entries_in c.read_digest-told.result) _ read _ c.tell_row.ensures

pub returns-in_err-told : goal.returns-in_err-told
returns-in_err-told c =
    let p = err_from_is_err_and c.from_residual.result c.from_residual.ensures.1 in
    rw (p.1, p.2)
    (told-refused c.args.peer (read_digest c.args.edition c.args.digest.now) c.args.grid.now _
    (read-refused c.args.edition c.args.digest.now _ (sym (ap (λ (x : Digest). x.read) (same-digest _ _ c.read_digest-told.ensures)) ∙ c.in_err-told.was)))
