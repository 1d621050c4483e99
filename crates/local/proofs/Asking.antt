-- A wanted status asks for one of document 01's calls, or is 10; a number stands for its status, or is 10 too. Assumes nothing.
use Prim.Native.Nat.{ℕ}
use mathlib.Core.Path.{◌≡◌, refl, ap, sym, subst, ◌∙◌}
use mathlib.Core.Bool.{Bool, true, false}
use mathlib.Core.List.{List}
use native.Mathlib.Omega.{arith}
use lib.Dec.{eqb}
use borrow.Author.Tests.{eqb-true, eqb-false}
use Rattle.fields.specs.Choice.{pick}
use Rattle.rules.specs.Given.{Given, Gives}
use Rattle.rules.specs.Table.{Table}
use Rattle.rules.specs.Local.{gives, write_as}
use Rattle.rules.specs.Delta.{status_byte}
use Rattle.rules.specs.Lent.{on_table, lent_call, lent_write}
use Rattle.rules.specs.Whole.{decode_whole, valid_whole}
use Rattle.rules.specs.declared.Party.{Party}
use Rattle.rules.specs.declared.Profile.{Profile}
use Rattle.rules.specs.declared.Status.{Status}
use Rattle.rules.specs.declared.Status.TheVariants.{Set, Delete, Ttl}
use Rattle.std.specs.Prelude.{Err, None, Option, Result, Some}
use Rattle.rules.specs.declared.Refusal.{Refusal}
use Rattle.rules.specs.declared.Refusal.TheVariants.{BadTag, BadTable}
use Rattle.rules.proofs.Writing.{lent-set, lent-ttl, other-as}
use Rattle.local.proofs.Called.{whole-stays}
use Rattle.local_node.specs.Writes.{call_of}
use Rattle.local_node.specs.declared.Kind.{Kind}
use Rattle.local.specs.Wanted.{asked_by, wanted_of}

-- ---- a number

pub wanted-set : (n : ℕ) → n ≡ 0 → Set ≡ wanted_of n
wanted-set n e = ap wanted_of (sym e)

pub wanted-ttl : (n : ℕ) → n ≡ 2 → Ttl ≡ wanted_of n
wanted-ttl n e = ap wanted_of (sym e)

pub wanted-none : (n : ℕ) → (n ≡ 0 → ⊥) → (n ≡ 2 → ⊥) → Delete ≡ wanted_of n
wanted-none n a b = go (eqb n 0) refl (eqb n 2) refl
  where
    go : (x : Bool) → eqb n 0 ≡ x → (y : Bool) → eqb n 2 ≡ y → Delete ≡ pick x Set (pick y Ttl Delete)
    go true p y q = absurd (a (eqb-true n 0 p))
    go false p true q = absurd (b (eqb-true n 2 q))
    go false p false q = refl

module _ (q : Party) (v : List ℕ) (now i : ℕ) (k : List ℕ) where
  delete-other : (p : Profile) (t : Table) → write_as p q (status_byte Delete) v now i k t ≡ gives (Err BadTag) t
  delete-other p t = other-as v now i k p q (status_byte Delete) t (λ e. omega arith) (λ e. omega arith)

  number-write : (p : Profile) (n : ℕ) (t : Table) → write_as p q (status_byte (wanted_of n)) v now i k t ≡ write_as p q n v now i k t
  number-write p n t = go (eqb n 0) refl (eqb n 2) refl
    where
      go : (x : Bool) → eqb n 0 ≡ x → (y : Bool) → eqb n 2 ≡ y → write_as p q (status_byte (pick x Set (pick y Ttl Delete))) v now i k t ≡ write_as p q n v now i k t
      go true e y f = ap (λ (m : ℕ). write_as p q m v now i k t) (sym (eqb-true n 0 e))
      go false e true f = ap (λ (m : ℕ). write_as p q m v now i k t) (sym (eqb-true n 2 f))
      go false e false f = delete-other p t ∙ sym (other-as v now i k p q n t (eqb-false n 0 e) (eqb-false n 2 f))

  -- so the write of a number's status is the write of the number, whatever the number
  module _ (n : ℕ) (s : Status) (e : s ≡ wanted_of n) (l : List ℕ) where
    pub number-lent : lent_write q (status_byte s) v now i k l ≡ lent_write q n v now i k l
    number-lent = ap (λ (x : Status). lent_write q (status_byte x) v now i k l) e ∙ (λ j. on_table (Err BadTable) (λ t. number-write (decode_whole l).kind.profile n t j) l)

  -- ---- a status

  abbrev answered_by : (Option Kind) → List ℕ → Given (Result (Unit {0}) Refusal) (List ℕ)
  answered_by (Some kind) l = lent_call q (call_of kind v now) i k l
  answered_by None l = on_table (Err BadTable) (λ t. gives (Err BadTag) t) l

  status-write : (s : Status) (l : List ℕ) → lent_write q (status_byte s) v now i k l ≡ answered_by (asked_by s) l
  status-write Set l = lent-set v now i k q l
  status-write Delete l = λ j. on_table (Err BadTable) (λ t. delete-other (decode_whole l).kind.profile t j) l
  status-write Ttl l = lent-ttl v now i k q l

  module _ (s : Status) (l : List ℕ) where
    pub call-gives : (kind : Kind) → asked_by s ≡ Some kind → (r : (Result (Unit {0}) Refusal)) (m : List ℕ) → Gives (lent_call q (call_of kind v now) i k l) r m → Gives (lent_write q (status_byte s) v now i k l) r m
    call-gives kind e r m = subst (λ (o : Given (Result (Unit {0}) Refusal) (List ℕ)). Gives o r m) (sym (status-write s l ∙ ap (λ (a : (Option Kind)). answered_by a l) e))

    pub none-gives : valid_whole l ≡ true → asked_by s ≡ None → Gives (lent_write q (status_byte s) v now i k l) (Err BadTag) l
    none-gives g e =
        subst (λ (o : Given (Result (Unit {0}) Refusal) (List ℕ)). Gives o (Err BadTag) l) (sym (status-write s l ∙ ap (λ (a : (Option Kind)). answered_by a l) e))
        (whole-stays (Err BadTable) (λ t. gives (Err BadTag) t) l g (Err BadTag) refl)
