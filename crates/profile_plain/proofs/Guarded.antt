-- The local calls, which look at the profile: what they do in a table that is not shared, where they answer neither 17 nor 18, they do in the freed table. Assumes
-- nothing.
use Prim.Native.Nat.{ℕ}
use mathlib.Core.Path.{◌≡◌, refl, ap, subst, ◌∙◌}
use mathlib.Core.Bool.{Bool, true, false, false≢true}
use mathlib.Core.List.{List}
use mathlib.Core.Option.{Option, none, some}
use lib.Dec.{eqb}
use Rattle.fields.specs.Choice.{pick}
use Rattle.rules.specs.Answers.{answer_told}
use Rattle.rules.specs.Given.{Given, given}
use Rattle.rules.specs.Delta.{status_byte}
use Rattle.rules.specs.Lent.{lent_call, lent_write, on_table, stored_in}
use Rattle.rules.specs.Local.{Outcome, call, call_as, gives, unless_guarded, write_as}
use Rattle.rules.specs.Node.{Call, KeyValue, Node, Rec, Setting, SettingTtl, find}
use Rattle.rules.specs.Profile.{brings, guard_in, in_form, meter_guard, sizes_fit, smaller}
use Rattle.rules.specs.Table.{Table, node_of}
use Rattle.rules.specs.Whole.{Whole, decode_whole, valid_whole}
use Rattle.std.specs.Prelude.{Err, Result}
use Rattle.rules.specs.declared.Refusal.{Refusal}
use Rattle.rules.specs.declared.Party.{Party}
use Rattle.rules.specs.declared.Profile.{Profile}
use Rattle.rules.specs.declared.Profile.TheVariants.{Free, Meter, Shared}
use Rattle.rules.specs.declared.Refusal.TheVariants.{BadForm, BadTable, BadTag, SmallerTotal}
use Rattle.rules.specs.declared.Status.TheVariants.{Set, Ttl}
use Rattle.profile_plain.specs.Plain.{freed, unshared}
use Rattle.profile_plain.proofs.Freed.{freed-back, on-freed}

-- neither number
abbrev Neither : ℕ → Type 0
Neither n = (n ≡ 17 → ⊥) × (n ≡ 18 → ⊥)

-- an outcome that is neither is that of the free profile
abbrev AsFree : Outcome (Result (Unit {0}) Refusal) → Outcome (Result (Unit {0}) Refusal) → Type 0
AsFree free o = Neither (answer_told o.answer).number → free ≡ o

-- what holds of document 01's call, of 17 and of 18 holds of the call in the meter profile
meter-as : (q : Party) (c : Call) (i : ℕ) (k : List ℕ) (t : Table) (P : Outcome (Result (Unit {0}) Refusal) → Type 0)
    → P (call c i k t)
    → P (gives (Err BadForm) t)
    → P (gives (Err SmallerTotal) t)
    → P (call_as Meter q c i k t)
unfolding call_as
meter-as q c i k t P a form total = on (node_of i t)
  where
    two : (x y : Bool) → P (unless_guarded (pick x (pick y (some SmallerTotal) none) (some BadForm)) (call c i k t) t)
    two true true = total
    two true false = a
    two false y = form

    at : (x : Bool) (g : Option KeyValue) (o : Option Rec) → P (unless_guarded (pick x (meter_guard g o) none) (call c i k t) t)
    at true none o = a
    at true (some r) o = two (in_form Meter r) (smaller r o)
    at false g o = a

    on : (o : Option Node) → P (unless_guarded (guard_in Meter q c k o) (call c i k t) t)
    on none = a
    on (some n) = at (sizes_fit c k) (brings c k) (find k n.recs)

called : (p : Profile) → unshared p ≡ true → (q : Party) (c : Call) (i : ℕ) (k : List ℕ) (t : Table) → AsFree (call_as Free q c i k t) (call_as p q c i k t)
unfolding call_as answer_told
called Free o q c i k t = λ h. refl
called Meter o q c i k t = meter-as q c i k t (AsFree (call_as Free q c i k t)) (λ h. refl) (λ h. absurd (h.0 refl)) (λ h. absurd (h.1 refl))
called Shared o q c i k t = absurd (false≢true o)

wrote : (p : Profile) → unshared p ≡ true → (q : Party) (wanted : ℕ) (v : List ℕ) (now i : ℕ) (k : List ℕ) (t : Table)
    → AsFree (write_as Free q wanted v now i k t) (write_as p q wanted v now i k t)
unfolding write_as
wrote p o q wanted v now i k t = go (eqb wanted (status_byte Set)) (eqb wanted (status_byte Ttl))
  where
    out : Profile → Bool → Bool → Outcome (Result (Unit {0}) Refusal)
    out r a b = pick a (call_as r q (Setting v) i k t) (pick b (call_as r q (SettingTtl v now) i k t) (gives (Err BadTag) t))

    go : (a b : Bool) → AsFree (out Free a b) (out p a b)
    go true b = called p o q (Setting v) i k t
    go false true = called p o q (SettingTtl v now) i k t
    go false false = λ h. refl

-- of bytes
module _ (l : List ℕ) (v : valid_whole l ≡ true) (rule : Profile → Table → Outcome (Result (Unit {0}) Refusal)) where
  abbrev bad : (Result (Unit {0}) Refusal)
  bad = Err BadTable

  abbrev p : Profile
  p = (decode_whole l).kind.profile

  abbrev here : Given (Result (Unit {0}) Refusal) (List ℕ)
  here = on_table bad (rule p) l

  good : here ≡ stored_in (decode_whole l) (rule p (decode_whole l).table)
  unfolding on_table
  good = ap (λ (b : Bool). pick b (stored_in (decode_whole l) (rule p (decode_whole l).table)) (given bad l)) v

  same : rule Free (decode_whole l).table ≡ rule p (decode_whole l).table → on_table bad (rule Free) l ≡ here
  unfolding on_table
  same e = ap (λ (o : Outcome (Result (Unit {0}) Refusal)). pick (valid_whole l) (stored_in (decode_whole l) o) (given bad l)) e

  pub as-freed : AsFree (rule Free (decode_whole l).table) (rule p (decode_whole l).table) → Neither (answer_told here.answer).number
      → on_table bad (rule (decode_whole (freed l)).kind.profile) (freed l) ≡ given here.answer (freed here.lent)
  as-freed f h =
      let n = subst (λ (o : Given (Result (Unit {0}) Refusal) (List ℕ)). Neither (answer_told o.answer).number) good h in
      ap (λ (w : Whole). on_table bad (rule w.kind.profile) (freed l)) (freed-back l v)
      ∙ on-freed l v bad (rule Free)
      ∙ ap (λ (o : Given (Result (Unit {0}) Refusal) (List ℕ)). given o.answer (freed o.lent)) (same (f n))

module _ (l : List ℕ) (v : valid_whole l ≡ true) (o : unshared (decode_whole l).kind.profile ≡ true) (q : Party) where
  pub call-freed : (c : Call) (i : ℕ) (k : List ℕ) → Neither (answer_told (lent_call q c i k l).answer).number
      → lent_call q c i k (freed l) ≡ given (lent_call q c i k l).answer (freed (lent_call q c i k l).lent)
  call-freed c i k h = as-freed l v (λ r. call_as r q c i k) (called (decode_whole l).kind.profile o q c i k (decode_whole l).table) h

  pub write-freed : (wanted : ℕ) (x : List ℕ) (now i : ℕ) (k : List ℕ) → Neither (answer_told (lent_write q wanted x now i k l).answer).number
      → lent_write q wanted x now i k (freed l) ≡ given (lent_write q wanted x now i k l).answer (freed (lent_write q wanted x now i k l).lent)
  write-freed wanted x now i k h =
      as-freed l v (λ r. write_as r q wanted x now i k) (wrote (decode_whole l).kind.profile o q wanted x now i k (decode_whole l).table) h
