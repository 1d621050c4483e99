-- `local::asked_call` meets its contract. Assumes nothing.
use mathlib.Core.Path.{ap, sym}
use Rattle.local.specs.Wanted.{asked_by}
use Rattle.local.proofs.asked_call.Goals as goal

pub returns-in-Set : goal.returns-in-Set
returns-in-Set c =
    ap asked_by (sym c.in-Set.is)

pub returns-in-Ttl : goal.returns-in-Ttl
returns-in-Ttl c =
    ap asked_by (sym c.in-Ttl.is)
