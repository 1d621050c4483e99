-- What two equal answers hold is equal.
use Rattle.std.specs.Prelude.{◌≡◌, Result, Ok, Err, Some}

pub ok-is : {T E : Type 0} (a b : T) → ◌≡◌ {A = Result T E} (Ok a) (Ok b) → a ≡ b
ok-is a b e = cc

pub err-is : {T E : Type 0} (a b : E) → ◌≡◌ {A = Result T E} (Err a) (Err b) → a ≡ b
err-is a b e = cc

pub some-is : {T : Type 0} (a b : T) → Some a ≡ Some b → a ≡ b
some-is a b e = cc
