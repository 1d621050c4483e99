-- `table_look::table_in` meets its contract: the part of the file that is the table. Assumes nothing.
use mathlib.Core.Path.{sym, ◌∙◌}
use native.Mathlib.Omega.{arith}
use Rattle.table_look.proofs.Stored.{in-bare, in-headed, in-short}
use Rattle.table_look.proofs.table_in.Goals as goal

pub returns-then-file-lt-HEAD : goal.returns-then-file-lt-HEAD
returns-then-file-lt-HEAD c =
    in-short c.args.file.now (omega arith)

pub returns-then-starts_with : goal.returns-then-starts_with
returns-then-starts_with c =
    in-headed c.args.file.now (omega arith) (sym c.starts_with.ensures ∙ c.if-starts_with.true)

pub returns : goal.returns
returns c =
    in-bare c.args.file.now (omega arith) (sym c.starts_with.ensures ∙ c.if-starts_with.false)
