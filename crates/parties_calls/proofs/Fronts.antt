-- The front is an address, and no part of what the two runs promise: it is the width of the other's records. Computed. Assumes nothing.
use mathlib.Core.List.{[], ◌∷◌}
use mathlib.Core.Path.{refl}
use Rattle.fields.specs.Choice.{keep}
use Rattle.fields.specs.Order.{less_bytes, same_bytes, starts_with}
use Rattle.rules.specs.Local.{call, call_as}
use Rattle.rules.specs.Node.{act, decide, find, store, wish}
use Rattle.rules.specs.Node as one
use Rattle.rules.specs.Table.{node_of, set_node}
use Rattle.rules.specs.declared.Party.TheVariants.{Metering}
use Rattle.own_rows.specs.Sight.{front_in}
use Rattle.parties.specs.TwoRuns.{after}
use Rattle.parties.proofs.Unpromised.{Differ, other, sets, start}

pub front-told : Differ start (sets ∷ []) (other ∷ sets ∷ []) (λ w. front_in w.kind.profile Metering 7 w.table ∷ []) (0 ∷ []) (115 ∷ [])
unfolding after keep call_as call decide wish find act store one.write node_of set_node same_bytes less_bytes starts_with
front-told = (refl, refl, refl)
