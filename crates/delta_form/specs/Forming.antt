-- Reading a delta in a profile (Profile of `rules`), as code does it: by document 01 first, then the records before the fault are looked at for their form. That it
-- comes to the rules' own reading is proved (proofs/Formed).
use Rattle.std.specs.Prelude.{ℕ, zero, suc, ◌+◌, ◌-◌, Bool, ltb, length}
use Rattle.fields.specs.Choice.{pick}
use Rattle.fields.specs.Numbers.{Bytes}
use Rattle.rules.specs.Delta.{OpRead, Got, Bad, read_answer, read_op}
use Rattle.rules.specs.Profile.{in_form, odd_number, op_in_form, read_delta_as}
use Rattle.std.specs.Prelude.{Err, Ok, Result}
use Rattle.rules.specs.declared.DeltaFault.{DeltaFault}
use Rattle.rules.specs.declared.DeltaRead.{DeltaRead}
use Rattle.rules.specs.declared.Profile.{Profile}
use Rattle.rules.specs.declared.Status.{Status}

-- what a table of this profile answers to a delta
unfoldable pub delta_read_as : (profile : Profile) (bytes : Bytes) → (Result DeltaRead DeltaFault)
delta_read_as p l = read_answer (read_delta_as p l)

-- whether a record of this key, value and status is in form
abbrev pub formed_at : (profile : Profile) (key value : Bytes) (status : Status) → Bool
formed_at p k v st = in_form p (record { key = k; value = v; version = 0; status = st })

-- where the first record out of form stands, from the place `at` on, where these bytes stand; or the place `end`, if there is none before it
abbrev pub on_odd : (profile : Profile) (at end : ℕ) (next : Bytes → ℕ) (read : OpRead) → ℕ
on_odd p at end next (Got o rest) = pick (op_in_form p o) (next rest) at
on_odd p at end next (Bad r) = end

unfoldable pub odd_from : (profile : Profile) (bound at end : ℕ) (bytes : Bytes) → ℕ
odd_from p zero at end l = end
odd_from p (suc n) at end l = pick (ltb at end) (on_odd p at end (λ rest. odd_from p n (at + (length l - length rest)) end rest) (read_op l)) end

abbrev pub odd_place : (profile : Profile) (delta : Bytes) (end : ℕ) → ℕ
odd_place p l end = odd_from p (length l) 0 end l

-- where document 01's reading ends: at the fault, or behind the last operation
abbrev pub end_of : (long : ℕ) (read : (Result DeltaRead DeltaFault)) → ℕ
end_of n (Ok d) = n
end_of n (Err f) = f.at

-- 17 or 19 for a record out of form before it
abbrev pub unless_odd : (profile : Profile) (odd end : ℕ) (read : (Result DeltaRead DeltaFault)) → (Result DeltaRead DeltaFault)
unless_odd p odd end r = pick (ltb odd end) (Err (record { why = (odd_number p); at = odd })) r
