-- What a profile refuses of a call, step by step as the code takes them. Assumes nothing.
use Prim.Native.Nat.{ℕ, ◌≤◌, ◌<◌}
use mathlib.Core.Bool.{Bool, true, false, not, ◌&&◌}
use mathlib.Core.List.{List}
use mathlib.Core.Option.{Option, none, some}
use mathlib.Core.Path.{◌≡◌, ◌∙◌, ap, refl, sym}
use lib.Dec.{leb, ltb}
use lib.ListN.{length}
use borrow.Author.Tests.{le-leb, lt-leb, lt-ltb, le-ltb}
use Rattle.fields.specs.Choice.{pick, ◌∈◌}
use Rattle.fields.specs.Order.{same_bytes}
use Rattle.fields.proofs.Choice.{all_from, and_no, and_right, and_yes}
use Rattle.rules.specs.Sizes.{max_key, max_value}
use Rattle.rules.specs.Node.{Call, KeyValue, Node, Rec, hidden}
use Rattle.rules.specs.Profile.{guard_at, guard_in, in_form, meter_guard, meter_key, meter_value, numeral, recs_formed, smaller, total_key}
use Rattle.rules.specs.declared.Party.{Party}
use Rattle.rules.specs.declared.Party.TheVariants.{Nobody}
use Rattle.rules.specs.declared.Profile.{Profile}
use Rattle.rules.specs.declared.Profile.TheVariants.{Free, Meter, Shared}
use Rattle.rules.specs.declared.Refusal.TheVariants.{BadForm, SmallerTotal}
use Rattle.rules.specs.declared.Status.{Status}
use Rattle.local_node.specs.Writes.{call_of}
use Rattle.local_node.specs.declared.Kind.{Kind}
use Rattle.local_node.specs.declared.Kind.TheVariants as kind
use Rattle.local_guard.specs.Guarding.{bringing, guarded_by}
use Rattle.std.specs.Prelude.{Err, Result}
use Rattle.rules.specs.declared.Refusal.{Refusal}
use Rattle.rules.specs.Results.{done}

-- 18, by a test
abbrev pub by_total : (small : Bool) → (Result (Unit {0}) Refusal)
by_total b = guarded_by (pick b (some SmallerTotal) none)

-- ---- the record there

module _ (h : Bool) (n m : ℕ) where
  pub hidden-passes : h ≡ true → done ≡ by_total (not h && ltb n m)
  hidden-passes e = rw e refl

  module _ (e : h ≡ false) where
    pub smaller-refused : n < m → Err SmallerTotal ≡ by_total (not h && ltb n m)
    smaller-refused g = rw (e, lt-ltb n m g) refl

    pub greater-passes : m ≤ n → done ≡ by_total (not h && ltb n m)
    greater-passes g = rw (e, le-ltb n m g) refl

-- ---- the key

module _ (r : KeyValue) where
  pub other_key : {t : Bool} → t ≡ same_bytes r.key total_key → t ≡ false → (o : Option Rec) → done ≡ by_total (smaller r o)
  unfolding smaller
  other_key e q none = refl
  other_key e q (some x) = ap by_total (sym (and_no (same_bytes r.key total_key) (not (hidden x.kv.status) && ltb (numeral 0 r.value) (numeral 0 x.kv.value)) (sym e ∙ q)))

  pub no_record : (o : Option Rec) → o ≡ none → done ≡ by_total (smaller r o)
  unfolding smaller
  no_record o e = sym (ap (λ (x : Option Rec). by_total (smaller r x)) e)

  pub that-record : {t : Bool} → t ≡ same_bytes r.key total_key → t ≡ true → (o : Option Rec) (x : Rec) → o ≡ some x
      → by_total (not (hidden x.kv.status) && ltb (numeral 0 r.value) (numeral 0 x.kv.value)) ≡ by_total (smaller r o)
  unfolding smaller
  that-record e q o x f =
      ap by_total (sym (and_yes (same_bytes r.key total_key) (not (hidden x.kv.status) && ltb (numeral 0 r.value) (numeral 0 x.kv.value)) (sym e ∙ q)))
      ∙ sym (ap (λ (y : Option Rec). by_total (smaller r y)) f)

-- ---- the write

module _ (k v : List ℕ) (st : Status) (o : Option Rec) where
  abbrev sized : (Result (Unit {0}) Refusal)
  sized = guarded_by (pick (leb (length k) max_key && leb (length v) max_value) (meter_guard (some (bringing k v st)) o) none)

  pub long-key : max_key < length k → done ≡ sized
  long-key h = rw (lt-leb (length k) max_key h) refl

  module _ (f : length k ≤ max_key) where
    pub long-value : max_value < length v → done ≡ sized
    long-value h = rw (le-leb (length k) max_key f, lt-leb (length v) max_value h) refl

    module _ (g : length v ≤ max_value) {t : Bool} (e : t ≡ (meter_key k && meter_value st v)) where
      pub not-formed : t ≡ false → Err BadForm ≡ sized
      not-formed q = rw (le-leb (length k) max_key f, le-leb (length v) max_value g, sym e ∙ q) refl

      pub formed : t ≡ true → by_total (smaller (bringing k v st) o) ≡ sized
      formed q = rw (le-leb (length k) max_key f, le-leb (length v) max_value g, sym e ∙ q) refl

      pub formed-value : t ≡ true → meter_value st v ≡ true
      formed-value q = and_right (meter_key k) (meter_value st v) (sym e ∙ q)

-- ---- the record is in form

pub record-formed : (l : List Rec) → recs_formed Meter l ≡ true → (r : Rec) → r ∈ l → in_form Meter r.kv ≡ true
record-formed l e r m = all_from (λ (x : Rec). in_form Meter x.kv) l e r m

-- ---- the kinds

-- the deletes pass
pub no_write : (b : Bool) → done ≡ guarded_by (pick b none none)
no_write true = refl
no_write false = refl

module _ (v k : List ℕ) (l : List Rec) (kd : Kind) where
  pub of-set : kd ≡ kind.Setting → (g : (Result (Unit {0}) Refusal)) → g ≡ guarded_by (guard_at Meter Nobody (call_of kind.Setting v 0) k l) → g ≡ guarded_by (guard_at Meter Nobody (call_of kd v 0) k l)
  of-set e g q = q ∙ sym (ap (λ (x : Kind). guarded_by (guard_at Meter Nobody (call_of x v 0) k l)) e)

  pub of-ttl : kd ≡ kind.SettingTtl → (g : (Result (Unit {0}) Refusal)) → g ≡ guarded_by (guard_at Meter Nobody (call_of kind.SettingTtl v 0) k l) → g ≡ guarded_by (guard_at Meter Nobody (call_of kd v 0) k l)
  of-ttl e g q = q ∙ sym (ap (λ (x : Kind). guarded_by (guard_at Meter Nobody (call_of x v 0) k l)) e)

  pub of-delete : kd ≡ kind.Deleting → done ≡ guarded_by (guard_at Meter Nobody (call_of kd v 0) k l)
  of-delete e = no_write (leb (length k) max_key && leb 0 max_value) ∙ sym (ap (λ (x : Kind). guarded_by (guard_at Meter Nobody (call_of x v 0) k l)) e)

  pub of-delete-after : kd ≡ kind.DeletingAfterTtl → done ≡ guarded_by (guard_at Meter Nobody (call_of kd v 0) k l)
  of-delete-after e = no_write (leb (length k) max_key && leb 0 max_value) ∙ sym (ap (λ (x : Kind). guarded_by (guard_at Meter Nobody (call_of x v 0) k l)) e)

-- the meter profile does not look at the party
pub any-party : (q : Party) (c : Call) (k : List ℕ) (o : Option Node) → guard_in Meter Nobody c k o ≡ guard_in Meter q c k o
any-party q c k none = refl
any-party q c k (some n) = refl

-- the time is not looked at
pub any-time : (p : Profile) (q : Party) (kd : Kind) (v k : List ℕ) (o : Option Node) (now : ℕ) → guard_in p q (call_of kd v 0) k o ≡ guard_in p q (call_of kd v now) k o
any-time Free q kd v k o now = refl
any-time Meter q kd v k none now = refl
any-time Meter q kind.Setting v k (some n) now = refl
any-time Meter q kind.SettingTtl v k (some n) now = refl
any-time Meter q kind.Deleting v k (some n) now = refl
any-time Meter q kind.DeletingAfterTtl v k (some n) now = refl
any-time Shared q kd v k none now = refl
any-time Shared q kind.Setting v k (some n) now = refl
any-time Shared q kind.SettingTtl v k (some n) now = refl
any-time Shared q kind.Deleting v k (some n) now = refl
any-time Shared q kind.DeletingAfterTtl v k (some n) now = refl
