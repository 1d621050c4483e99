-- The answer of a call that has nothing to tell but that it was not refused.
use Rattle.std.specs.Prelude.{Result, Ok}

abbrev pub done : {E : Type 0} → Result (Unit {0}) E
done = Ok tt
