-- The steps of a decision come to the rules' own, given what finding the key says. Assumes nothing.
use Prim.Native.Nat.{ℕ, ◌≤◌, ◌<◌}
use mathlib.Core.Path.{◌≡◌, refl, ap, sym, ◌∙◌}
use mathlib.Core.Bool.{Bool, true, false}
use mathlib.Core.List.{List}
use mathlib.Core.Option.{Option, none, some}
use native.Mathlib.Omega.{arith}
use lib.ListN.{length}
use lib.Dec.{leb, ltb, eqb}
use borrow.Author.Tests.{le-leb, lt-leb}
use Rattle.fields.specs.Choice.{pick}
use Rattle.fields.specs.Order.{same_bytes}
use Rattle.fields.proofs.Choice.{pick_true, pick-false, and_intro, and_yes, and_no}
use Rattle.rules.specs.Sizes.{max_key, max_value, top}
use Rattle.rules.specs.Delta.{status_byte}
use Rattle.rules.specs.Node.{Rec, Node, Change, Call, Decision, Refuse, Leave, Give, same_status, brought, find, unless_same, if_there, wish, full_for, allowed, decide}
use Rattle.rules.specs.declared.Status.{Status}
use Rattle.rules.specs.declared.Status.TheVariants.{Set, Delete, Ttl}
use Rattle.rules.specs.declared.Refusal.TheVariants.{TooLong, NoKey, NodeFull, Exhausted}
use Rattle.table_read.specs.declared.Place.TheVariants.{At, Free}
use Rattle.local_grant.specs.Granting.{allowed_at}
use Rattle.local_node.specs.Writes.{deleting, dropped, alike, changing, within, setting}

-- ---- the same value and status

pub same_code : (a b : Status) → eqb (status_byte a) (status_byte b) ≡ same_status a b
same_code Set Set = refl
same_code Set Delete = refl
same_code Set Ttl = refl
same_code Delete Set = refl
same_code Delete Delete = refl
same_code Delete Ttl = refl
same_code Ttl Set = refl
same_code Ttl Delete = refl
same_code Ttl Ttl = refl

module _ (r : Rec) (v : List ℕ) (s : Status) where
  pub alike-by : (t : Bool) → same_status r.kv.status s ≡ true → t ≡ same_bytes r.kv.value v → t ≡ alike r v s
  alike-by t h e = e ∙ sym (and_yes (same_status r.kv.status s) (same_bytes r.kv.value v) h)

  pub not_alike : same_status r.kv.status s ≡ false → false ≡ alike r v s
  not_alike h = sym (and_no (same_status r.kv.status s) (same_bytes r.kv.value v) h)

-- ---- 1

module _ (k v : List ℕ) (d : Decision) where
  pub key-long : max_key < length k → within k v d ≡ Refuse TooLong
  unfolding within
  key-long h = pick-false _ d (Refuse TooLong) (and_no (leb (length k) max_key) (leb (length v) max_value) (lt-leb (length k) max_key h))

  pub value-long : length k ≤ max_key → max_value < length v → within k v d ≡ Refuse TooLong
  unfolding within
  value-long g h =
      pick-false _ d (Refuse TooLong) (and_yes (leb (length k) max_key) (leb (length v) max_value) (le-leb (length k) max_key g) ∙ lt-leb (length v) max_value h)

  pub not-long : length k ≤ max_key → length v ≤ max_value → within k v d ≡ d
  unfolding within
  not-long g h =
      pick_true _ d (Refuse TooLong) (and_intro (leb (length k) max_key) (leb (length v) max_value) (le-leb (length k) max_key g) (le-leb (length v) max_value h))

-- ---- 5 and 6, where the key is there and where it is not

module _ (k : List ℕ) (n : Node) (c : Change) where
  abbrev next : Option Rec → Decision
  next o = pick (full_for o n) (Refuse NodeFull) (pick (ltb n.max top) (Give c) (Refuse Exhausted))

  allowed_at_lem : {r : Rec} (j : ℕ) → find k n.recs ≡ some r → allowed k n (Give c) ≡ allowed_at (At j) c n
  unfolding allowed_at
  allowed_at_lem j e = ap next e

  allowed-new : (j : ℕ) → find k n.recs ≡ none → allowed k n (Give c) ≡ allowed_at (Free j) c n
  unfolding allowed_at
  allowed-new j e = ap next e

  -- ---- a set

  pub set_at : {r : Rec} (j : ℕ) → length k ≤ max_key → length c.value ≤ max_value → find k n.recs ≡ some r → setting k c n ≡ changing j r c n
  unfolding setting changing
  set_at {r} j g h e =
      not-long k c.value (allowed k n (unless_same (find k n.recs) c)) g h
      ∙ ap (λ (o : Option Rec). allowed k n (unless_same o c)) e
      ∙ go (alike r c.value c.status)
    where
      go : (t : Bool) → allowed k n (pick t Leave (Give c)) ≡ pick t Leave (allowed_at (At j) c n)
      go true = refl
      go false = allowed_at_lem j e

  pub set_new : (j : ℕ) → length k ≤ max_key → length c.value ≤ max_value → find k n.recs ≡ none → setting k c n ≡ allowed_at (Free j) c n
  unfolding setting
  set_new j g h e =
      not-long k c.value (allowed k n (unless_same (find k n.recs) c)) g h
      ∙ ap (λ (o : Option Rec). allowed k n (unless_same o c)) e
      ∙ allowed-new j e

-- ---- the two deletes

wished : (keeps : Bool) (t : ℕ) (o : Option Rec) → wish (deleting keeps t) o ≡ if_there o (dropped keeps t)
unfolding wish
wished true t o = refl
wished false t o = refl

none-brought : (keeps : Bool) (t : ℕ) → length (brought (deleting keeps t)) ≤ max_value
none-brought true t = omega arith
none-brought false t = omega arith

module _ (k : List ℕ) (n : Node) (keeps : Bool) (t : ℕ) where
  abbrev c : Call
  c = deleting keeps t

  pub delete-long : max_key < length k → decide c k n ≡ Refuse TooLong
  unfolding decide within
  delete-long h = key-long k (brought c) (allowed k n (wish c (find k n.recs))) h

  there : length k ≤ max_key → (o : Option Rec) → find k n.recs ≡ o → decide c k n ≡ allowed k n (if_there o (dropped keeps t))
  unfolding decide within
  there g o e =
      not-long k (brought c) (allowed k n (wish c (find k n.recs))) g (none-brought keeps t)
      ∙ ap (allowed k n) (wished keeps t (find k n.recs) ∙ ap (λ (x : Option Rec). if_there x (dropped keeps t)) e)

  pub delete-at : {r : Rec} (j : ℕ) → length k ≤ max_key → find k n.recs ≡ some r → decide c k n ≡ allowed_at (At j) (dropped keeps t r) n
  delete-at {r} j g e = there g (some r) e ∙ allowed_at_lem k n (dropped keeps t r) j e

  pub delete-none : length k ≤ max_key → find k n.recs ≡ none → decide c k n ≡ Refuse NoKey
  delete-none g e = there g none e
