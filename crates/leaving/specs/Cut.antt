-- Two datagrams for one (ticket 14; delta_split: Split), with the same nodes left alone in both calls.
use Rattle.std.specs.Prelude.{ℕ, List, take, drop}
use Rattle.fields.specs.Numbers.{Bytes}
use Rattle.rules.specs.Table.{Table}
use Rattle.rules.specs.Given.{Given}
use Rattle.rules.specs.Apply.{Ways, ApplyOutcome}
use Rattle.rules.specs.Lent.{TableAndList}
use Rattle.std.specs.Prelude.{Result}
use Rattle.rules.specs.declared.DeltaFault.{DeltaFault}
use Rattle.delta_split.specs.Split.{Both}
use Rattle.leaving.specs.Leaving.{apply_leaving, lent_leaving}

-- the first part, then the second
abbrev pub in_order : (own : List ℕ) (ways : Ways) (bytes : Bytes) (place now : ℕ) (table : Table) (list₁ list₂ : Bytes) → Both ApplyOutcome
in_order own ways b place now t l₁ l₂ =
    record { first = apply_leaving own ways (take place b) now t l₁; second = apply_leaving own ways (drop place b) now (apply_leaving own ways (take place b) now t l₁).table l₂ }

-- the second part, then the first
abbrev pub reversed : (own : List ℕ) (ways : Ways) (bytes : Bytes) (place now : ℕ) (table : Table) (list₁ list₂ : Bytes) → Both ApplyOutcome
reversed own ways b place now t l₁ l₂ =
    record { first = apply_leaving own ways (take place b) now (apply_leaving own ways (drop place b) now t l₂).table l₁; second = apply_leaving own ways (drop place b) now t l₂ }

abbrev pub lent_in_order : (own : List ℕ) (bytes : Bytes) (place now : ℕ) (table list₁ list₂ : Bytes) → Both (Given (Result ℕ DeltaFault) TableAndList)
lent_in_order own b place now t l₁ l₂ =
    record { first = lent_leaving own (take place b) now l₁ t; second = lent_leaving own (drop place b) now l₂ (lent_leaving own (take place b) now l₁ t).lent.table }

abbrev pub lent_reversed : (own : List ℕ) (bytes : Bytes) (place now : ℕ) (table list₁ list₂ : Bytes) → Both (Given (Result ℕ DeltaFault) TableAndList)
lent_reversed own b place now t l₁ l₂ =
    record { first = lent_leaving own (take place b) now l₁ (lent_leaving own (drop place b) now l₂ t).lent.table; second = lent_leaving own (drop place b) now l₂ t }
