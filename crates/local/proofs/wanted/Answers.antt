-- `local::wanted` meets its contract. Assumes nothing.
use Rattle.local.proofs.Asking.{wanted-set, wanted-ttl, wanted-none}
use Rattle.local.proofs.wanted.Goals as goal

pub returns-then-n-eq0 : goal.returns-then-n-eq0
returns-then-n-eq0 c =
    wanted-set c.args.n c.if-n-eq0.true

pub returns-then-n-eq2 : goal.returns-then-n-eq2
returns-then-n-eq2 c =
    wanted-ttl c.args.n c.if-n-eq2.true

pub returns : goal.returns
returns c =
    wanted-none c.args.n c.if-n-eq0.false c.if-n-eq2.false
