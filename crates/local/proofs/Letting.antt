-- What a profile lets through: any call on a free table, and the two deletes but on a shared one. Assumes nothing.
use Prim.Native.Nat.{ℕ}
use mathlib.Core.Path.{◌≡◌, ap, refl, sym}
use mathlib.Core.Bool.{Bool, true, false}
use mathlib.Core.List.{List}
use mathlib.Core.Option.{Option, none, some}
use native.Mathlib.Omega.{arith}
use Rattle.fields.specs.Choice.{pick}
use Rattle.rules.specs.Node.{Node, Call, Deleting, DeletingAfterTtl}
use Rattle.rules.specs.Profile.{guard_in, sizes_fit}
use Rattle.rules.specs.declared.Party.{Party}
use Rattle.rules.specs.declared.Profile.{Profile}
use Rattle.rules.specs.declared.Profile.TheVariants.{Free, Meter, Shared}
use Rattle.rules.specs.declared.Refusal.{Refusal}
use Rattle.local.specs.Wanted.{is_shared}

pub free-lets : (p : Profile) (q : Party) (c : Call) (k : List ℕ) (o : Option Node) → Free ≡ p → guard_in p q c k o ≡ none
free-lets p q c k o e = ap (λ (x : Profile). guard_in x q c k o) (sym e)

either_way : (b : Bool) (o : Option Refusal) → pick b o o ≡ o
either_way true o = refl
either_way false o = refl

pub delete-lets : (p : Profile) (q : Party) (now : ℕ) (k : List ℕ) (o : Option Node) → is_shared p ≡ false → guard_in p q (Deleting now) k o ≡ none
delete-lets Free q now k o e = refl
delete-lets Meter q now k none e = refl
delete-lets Meter q now k (some n) e = either_way (sizes_fit (Deleting now) k) none
delete-lets Shared q now k o e = let z : ◌≡◌ {A = ℕ} 0 1 = cc in absurd (omega arith)

pub delete-after-lets : (p : Profile) (q : Party) (now : ℕ) (k : List ℕ) (o : Option Node) → is_shared p ≡ false → guard_in p q (DeletingAfterTtl now) k o ≡ none
delete-after-lets Free q now k o e = refl
delete-after-lets Meter q now k none e = refl
delete-after-lets Meter q now k (some n) e = either_way (sizes_fit (DeletingAfterTtl now) k) none
delete-after-lets Shared q now k o e = let z : ◌≡◌ {A = ℕ} 0 1 = cc in absurd (omega arith)
