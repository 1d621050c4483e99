-- Calls that come in more than one form. A removal and a computing are events of the worlds and nets; what a removal asks beside the status of a record, and in which
-- order a computing takes the nodes, is told by an argument. A request that brings another form adds a constructor and a clause to the definitions here, and a
-- case to the laws about them (proofs/Forms). No definition of a world or net and no other proof looks into it.
use Rattle.std.specs.Prelude.{ℕ, ◌&&◌, List}
use Rattle.fields.specs.Choice.{pick}
use Rattle.fields.specs.Numbers.{Bytes}
use Rattle.rules.specs.Given.{Given}
use Rattle.rules.specs.Table.{Table}
use Rattle.rules.specs.Local.{gc}
use Rattle.rules.specs.Digest.{NodeDigest}
use Rattle.rules.specs.Delta.{Op}
use Rattle.rules.specs.Compute.{compute, delta_for}
use Rattle.rules.specs.Lent.{lent_gc, lent_compute}
use Rattle.std.specs.Prelude.{Result}
use Rattle.rules.specs.declared.Refusal.{Refusal}
use Rattle.rules.specs.declared.Sent.{Sent}
use Rattle.grid.specs.Grid.{somebody}
use Rattle.grid.specs.GridLayout.{decode_grid, valid_grid}
use Rattle.grid.specs.LentGrid.{carefully_removed, fits_table, lent_careful}
use Rattle.plan.specs.Plan.{compute_plan, delta_by, lent_compute_plan}

-- ---- removals

pub data Removal : Type 0 where
  -- document 01's, by the clock: now, grace
  ByClock : ℕ → ℕ → Removal
  -- the careful one (ticket 12), by the clock and by what peers told: the bytes of a grid, whatever they are; now, grace
  Carefully : List ℕ → ℕ → ℕ → Removal

-- a careful removal on a table; where it is refused (the grid is none, or another table's, or nobody is present), the table stays
abbrev pub carefully : (grid : Bytes) (now grace : ℕ) (table : Table) → Table
carefully grid now grace t =
    pick (valid_grid grid && fits_table (decode_grid grid) t)
    (pick (somebody (decode_grid grid)) (carefully_removed (decode_grid grid) now grace t) t)
    t

-- what it leaves of a table
abbrev pub removed_by : (removal : Removal) (table : Table) → Table
removed_by (ByClock now grace) t = (gc now grace t).table
removed_by (Carefully grid now grace) t = carefully grid now grace t

-- and of a table's bytes
abbrev pub lent_removed_by : (removal : Removal) (table : Bytes) → Bytes
lent_removed_by (ByClock now grace) l = (lent_gc now grace l).lent
lent_removed_by (Carefully grid now grace) l = (lent_careful now grace grid l).lent

-- ---- computing

pub data Order : Type 0 where
  -- document 01's: nodes stand in line by their staleness, and the tie list decides between equals
  InLine : List ℕ → Order
  -- a planner's (document 02, ticket 13): the nodes to send, in this order, and how many stale records of each
  AsPlanned : List ℕ → List ℕ → Order

-- the call
abbrev pub compute_by : (edition : ℕ) (excluded : List ℕ) (order : Order) (mtu place : ℕ) (digest : Bytes) (table : Table) (datagram : Bytes) → Given (Result Sent Refusal) Bytes
compute_by edition excluded (InLine ties) mtu place d t l = compute edition excluded ties mtu place d t l
compute_by edition excluded (AsPlanned nodes counts) mtu place d t l = compute_plan edition excluded nodes counts mtu place d t l

-- the operations that it writes, where it is not refused
abbrev pub ops_by : (excluded : List ℕ) (order : Order) (mtu : ℕ) (ds : List NodeDigest) (table : Table) → List Op
ops_by excluded (InLine ties) mtu ds t = delta_for excluded ties mtu ds t
ops_by excluded (AsPlanned nodes counts) mtu ds t = delta_by excluded nodes counts ds t

-- the call on lent bytes
abbrev pub lent_compute_by : (edition : ℕ) (excluded : List ℕ) (order : Order) (mtu place : ℕ) (digest datagram table : Bytes) → Given (Result Sent Refusal) Bytes
lent_compute_by edition excluded (InLine ties) mtu place digest d l = lent_compute edition excluded ties mtu place digest d l
lent_compute_by edition excluded (AsPlanned nodes counts) mtu place digest d l = lent_compute_plan edition excluded nodes counts mtu place digest d l
