-- The one write is document 01's set, or its set with TTL, or number 10; of bytes too. So what is shown of these is shown of it, demand 3's world included,
-- where a write is an event `Writing` with document 01's call. Assumes nothing.
use Prim.Native.Nat.{ℕ}
use mathlib.Core.Bool.{Bool, true, false}
use mathlib.Core.List.{List}
use mathlib.Core.Option.{Option, none, some}
use mathlib.Core.Path.{◌≡◌, refl}
use lib.ListN.{length}
use lib.Dec.{eqb, leb}
use borrow.Author.Tests.{eqb-true}
use Rattle.fields.specs.Choice.{pick}
use Rattle.rules.specs.Node.{Call, KeyValue, Node, Rec, Setting, SettingTtl, find}
use Rattle.rules.specs.Table.{Table, node_of}
use Rattle.rules.specs.Local.{Outcome, gives, call, call_as, unless_guarded, write, write_as}
use Rattle.rules.specs.Sizes.{max_each}
use Rattle.rules.specs.Party.{own, of_keys}
use Rattle.rules.specs.Profile.{guard_in, in_form, meter_guard, full_guard, sizes_fit, smaller, brings}
use Rattle.rules.specs.Whole.{decode_whole}
use Rattle.rules.specs.Lent.{on_table, lent_call, lent_write}
use Rattle.rules.specs.Delta.{status_byte}
use Rattle.rules.specs.declared.Status.TheVariants.{Set, Ttl}
use Rattle.std.specs.Prelude.{Err, Result}
use Rattle.rules.specs.declared.Party.{Party}
use Rattle.rules.specs.declared.Profile.{Profile}
use Rattle.rules.specs.declared.Profile.TheVariants.{Free, Meter, Shared}
use Rattle.rules.specs.declared.Refusal.{Refusal}
use Rattle.rules.specs.declared.Refusal.TheVariants.{NodeFull, BadTag, BadTable, BadForm, SmallerTotal, OtherParty}

module _ (v : List ℕ) (now i : ℕ) (k : List ℕ) where
  pub write-set : (t : Table) → write (status_byte Set) v now i k t ≡ call (Setting v) i k t
  unfolding write
  write-set t = refl

  pub write-ttl : (t : Table) → write (status_byte Ttl) v now i k t ≡ call (SettingTtl v now) i k t
  unfolding write
  write-ttl t = refl

  pub write-other : (wanted : ℕ) (t : Table) → (wanted ≡ status_byte Set → ⊥) → (wanted ≡ status_byte Ttl → ⊥) → write wanted v now i k t ≡ gives (Err BadTag) t
  unfolding write
  write-other wanted t a b = go (eqb wanted (status_byte Set)) refl (eqb wanted (status_byte Ttl)) refl
    where
      go : (x : Bool)
          → eqb wanted (status_byte Set) ≡ x
          → (y : Bool)
          → eqb wanted (status_byte Ttl) ≡ y
          → pick x (call (Setting v) i k t) (pick y (call (SettingTtl v now) i k t) (gives (Err BadTag) t)) ≡ gives (Err BadTag) t
      go true p y q = absurd (a (eqb-true _ _ p))
      go false p true q = absurd (b (eqb-true _ _ q))
      go false p false q = refl

  -- in a profile too, and so of bytes
  pub set-as : (p : Profile) (q : Party) (t : Table) → write_as p q (status_byte Set) v now i k t ≡ call_as p q (Setting v) i k t
  unfolding write_as
  set-as p q t = refl

  pub ttl-as : (p : Profile) (q : Party) (t : Table) → write_as p q (status_byte Ttl) v now i k t ≡ call_as p q (SettingTtl v now) i k t
  unfolding write_as
  ttl-as p q t = refl

  pub other-as : (p : Profile) (q : Party) (wanted : ℕ) (t : Table) → (wanted ≡ status_byte Set → ⊥) → (wanted ≡ status_byte Ttl → ⊥) → write_as p q wanted v now i k t ≡ gives (Err BadTag) t
  unfolding write_as
  other-as p q wanted t a b = go (eqb wanted (status_byte Set)) refl (eqb wanted (status_byte Ttl)) refl
    where
      go : (x : Bool)
          → eqb wanted (status_byte Set) ≡ x
          → (y : Bool)
          → eqb wanted (status_byte Ttl) ≡ y
          → pick x (call_as p q (Setting v) i k t) (pick y (call_as p q (SettingTtl v now) i k t) (gives (Err BadTag) t)) ≡ gives (Err BadTag) t
      go true p y q = absurd (a (eqb-true _ _ p))
      go false p true q = absurd (b (eqb-true _ _ q))
      go false p false q = refl

  pub lent-set : (q : Party) (l : List ℕ) → lent_write q (status_byte Set) v now i k l ≡ lent_call q (Setting v) i k l
  lent-set q l = λ j. on_table (Err BadTable) (λ t. set-as (decode_whole l).kind.profile q t j) l

  pub lent-ttl : (q : Party) (l : List ℕ) → lent_write q (status_byte Ttl) v now i k l ≡ lent_call q (SettingTtl v now) i k l
  lent-ttl q l = λ j. on_table (Err BadTable) (λ t. ttl-as (decode_whole l).kind.profile q t j) l

-- what holds of the two calls and of the refusal holds of the write
pub write-is : (wanted : ℕ) (v : List ℕ) (now i : ℕ) (k : List ℕ) (t : Table) (P : Outcome (Result (Unit {0}) Refusal) → Type 0)
    → P (call (Setting v) i k t)
    → P (call (SettingTtl v now) i k t)
    → P (gives (Err BadTag) t)
    → P (write wanted v now i k t)
unfolding write
write-is wanted v now i k t P a b c = go (eqb wanted (status_byte Set)) (eqb wanted (status_byte Ttl))
  where
    go : (x y : Bool) → P (pick x (call (Setting v) i k t) (pick y (call (SettingTtl v now) i k t) (gives (Err BadTag) t)))
    go true y = a
    go false true = b
    go false false = c

-- ---- in a profile

-- what a profile refuses is 17, 18, 19 or 5
pub data ByProfile : Refusal → Type 0 where
  form : ByProfile BadForm
  total : ByProfile SmallerTotal
  party : ByProfile OtherParty
  full : ByProfile NodeFull

pub guard-is : (p : Profile) (q : Party) (c : Call) (k : List ℕ) (o : Option Node) (P : Option Refusal → Type 0) → P none → ((r : Refusal) → ByProfile r → P (some r)) → P (guard_in p q c k o)
guard-is Free q c k o P a b = a
guard-is Meter q c k none P a b = a
guard-is Meter q c k (some n) P a b = at (sizes_fit c k) (brings c k)
  where
    two : (x y : Bool) → P (pick x (pick y (some SmallerTotal) none) (some BadForm))
    two true true = b SmallerTotal total
    two true false = a
    two false y = b BadForm form

    at : (x : Bool) (g : Option KeyValue) → P (pick x (meter_guard g (find k n.recs)) none)
    at true none = a
    at true (some r) = two (in_form Meter r) (smaller r (find k n.recs))
    at false g = a
guard-is Shared q c k none P a b = a
guard-is Shared q c k (some n) P a b = at (sizes_fit c k) (own q k) (brings c k) (find k n.recs)
  where
    room : (x : Bool) → P (pick x (some NodeFull) none)
    room true = b NodeFull full
    room false = a

    at : (x y : Bool) (g : Option KeyValue) (o : Option Rec) → P (pick x (pick y (full_guard (own q) g o n.recs) (some OtherParty)) none)
    at true true none o = a
    at true true (some r) none = room (leb max_each (length (of_keys (own q) n.recs)))
    at true true (some r) (some x) = a
    at true false g o = b OtherParty party
    at false y g o = a

-- what holds of document 01's call and of these refusals holds of the call in a profile
pub call-as : (p : Profile) (q : Party) (c : Call) (i : ℕ) (k : List ℕ) (t : Table) (P : Outcome (Result (Unit {0}) Refusal) → Type 0)
    → P (call c i k t)
    → ((r : Refusal) → ByProfile r → P (gives (Err r) t))
    → P (call_as p q c i k t)
unfolding call_as
call-as p q c i k t P a b = guard-is p q c k (node_of i t) (λ g. P (unless_guarded g (call c i k t) t)) a b

pub write_as_lem : (p : Profile) (q : Party) (wanted : ℕ) (v : List ℕ) (now i : ℕ) (k : List ℕ) (t : Table) (P : Outcome (Result (Unit {0}) Refusal) → Type 0)
    → P (call_as p q (Setting v) i k t)
    → P (call_as p q (SettingTtl v now) i k t)
    → P (gives (Err BadTag) t)
    → P (write_as p q wanted v now i k t)
unfolding write_as
write_as_lem p q wanted v now i k t P a b c = go (eqb wanted (status_byte Set)) (eqb wanted (status_byte Ttl))
  where
    go : (x y : Bool) → P (pick x (call_as p q (Setting v) i k t) (pick y (call_as p q (SettingTtl v now) i k t) (gives (Err BadTag) t)))
    go true y = a
    go false true = b
    go false false = c

-- in the free profile it is document 01's
pub call-free : (q : Party) (c : Call) (i : ℕ) (k : List ℕ) (t : Table) → call_as Free q c i k t ≡ call c i k t
unfolding call_as
call-free q c i k t = refl

pub write-free : (q : Party) (wanted : ℕ) (v : List ℕ) (now i : ℕ) (k : List ℕ) (t : Table) → write_as Free q wanted v now i k t ≡ write wanted v now i k t
unfolding write_as write call_as
write-free q wanted v now i k t = refl
