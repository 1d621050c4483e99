-- `local::is_shared` meets its contract. Assumes nothing.
use mathlib.Core.Path.{ap, sym, ◌∙◌}
use Rattle.table.proofs.Wholes.{whole_long}
use Rattle.local.specs.Wanted.{is_shared}
use Rattle.local.proofs.is_shared.Goals as goal

pub profile_of-requires : goal.profile_of-requires
profile_of-requires c =
    whole_long c.args.table.now c.requires

pub returns-in-Shared : goal.returns-in-Shared
returns-in-Shared c =
    ap is_shared (sym c.in-Shared.is ∙ c.profile_of.ensures)
