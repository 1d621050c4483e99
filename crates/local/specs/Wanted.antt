-- What the one write makes of its wanted status, and of a number that comes for one; and which tables are shared.
use Rattle.std.specs.Prelude.{ℕ, Bool, true, false, eqb}
use Rattle.fields.specs.Choice.{pick}
use Rattle.rules.specs.Delta.{status_byte}
use Rattle.rules.specs.declared.Profile.{Profile}
use Rattle.rules.specs.declared.Profile.TheVariants.{Free, Meter, Shared}
use Rattle.rules.specs.declared.Status.{Status}
use Rattle.rules.specs.declared.Status.TheVariants.{Set, Delete, Ttl}
use Rattle.local_node.specs.declared.Kind.TheVariants as kind
use Rattle.std.specs.Prelude.{None, Option, Some}
use Rattle.local_node.specs.declared.Kind.{Kind}

-- which of document 01's calls a wanted status asks for
abbrev pub asked_by : (wanted : Status) → (Option Kind)
asked_by Set = Some kind.Setting
asked_by Delete = None
asked_by Ttl = Some kind.SettingTtl

-- The status that a number stands for. One that stands for none is taken for Delete: the write takes neither, and answers both with 10.
abbrev pub wanted_of : (n : ℕ) → Status
wanted_of n = pick (eqb n (status_byte Set)) Set (pick (eqb n (status_byte Ttl)) Ttl Delete)

abbrev pub is_shared : (profile : Profile) → Bool
is_shared Free = false
is_shared Meter = false
is_shared Shared = true
