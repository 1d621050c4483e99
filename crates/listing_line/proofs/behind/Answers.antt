-- `listing_line::behind` meets its contract. Assumes nothing.
use mathlib.Core.Path.{sym}
use native.Mathlib.Omega.{arith}
use lib.ListN.{drop_of_length-le}
use Rattle.fields.proofs.Lent.{seen-rest}
use Rattle.listing_line.proofs.behind.Goals as goal

pub returns-then-text-n : goal.returns-then-text-n
returns-then-text-n c =
    let a = c.args in
    sym (drop_of_length-le a.text.now {i = a.n} (omega arith))

pub returns : goal.returns
returns c =
    let a = c.args in
    seen-rest a.n a.text.now
