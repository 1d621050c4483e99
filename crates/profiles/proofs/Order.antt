-- The guard in front of document 01's call is ticket 8's own order: 18 behind "nothing to change" and before 5. Assumes nothing.
use Prim.Native.Nat.{ℕ, ◌<◌}
use mathlib.Core.Bool.{Bool, true, false, not, ◌&&◌, false≢true}
use mathlib.Core.List.{List}
use mathlib.Core.Option.{Option, none, some}
use mathlib.Core.Path.{◌≡◌, refl, ap, sym, ◌∙◌}
use native.Mathlib.Omega.{arith}
use lib.Dec.{leb}
use lib.ListN.{length}
use borrow.Author.Tests.{ltb-true}
use Rattle.fields.specs.Choice.{pick}
use Rattle.fields.specs.Order.{same_bytes}
use Rattle.fields.proofs.Choice.{and_right}
use Rattle.fields.proofs.Ordered.{same_true}
use Rattle.rules.specs.Sizes.{max_key, max_value}
use Rattle.rules.specs.Node.{KeyValue, Rec, Node, Change, Call, Setting, SettingTtl, Deleting, DeletingAfterTtl, brought, Decision, Refuse, Leave, Give, act, same_status, hidden, find, wish, unless_same, allowed, decide}
use Rattle.rules.specs.Table.{Table, node_of, set_node}
use Rattle.rules.specs.Local.{answer_of, call, call_as, call_on, gives, unless_guarded}
use Rattle.rules.specs.Profile.{brings, guard_at, guard_in, in_form, meter_guard, numeral, smaller, total_key}
use Rattle.rules.specs.declared.Party.{Party}
use Rattle.rules.specs.declared.Profile.TheVariants.{Meter}
use Rattle.rules.specs.declared.Refusal.{Refusal}
use Rattle.rules.specs.declared.Refusal.TheVariants.{TooLong, BadForm, SmallerTotal}
use Rattle.rules.specs.declared.Status.TheVariants.{Set, Ttl}
use Rattle.rules.proofs.Refusing.{set_same}
use Rattle.profiles.specs.Order.{smaller_by, formed_by, with_total, decide_meter}

abbrev on_guard : (guard : Option Refusal) (decision : Decision) → Decision
on_guard none d = d
on_guard (some r) d = Refuse r

-- a smaller number is no same value, so there is something to change
small-gives : (r : KeyValue) (o : Option Rec) (c : Change) → c.value ≡ r.value → smaller r o ≡ true → unless_same o c ≡ Give c
unfolding smaller
small-gives r none c v e = absurd (false≢true e)
small-gives r (some x) c v e = go (same_status x.kv.status c.status) (same_bytes x.kv.value c.value) refl
  where
    less : numeral 0 r.value < numeral 0 x.kv.value
    less = ltb-true _ _ (and_right (not (hidden x.kv.status)) _ (and_right (same_bytes r.key total_key) _ e))

    go : (a b : Bool) → same_bytes x.kv.value c.value ≡ b → pick (a && b) Leave (Give c) ≡ Give c
    go true true q =
        let same : numeral 0 x.kv.value ≡ numeral 0 r.value = ap (numeral 0) (same_true _ _ q ∙ v) in
        let l = less in
        absurd (omega arith)
    go true false q = refl
    go false b q = refl

-- what is given is decided by 18 first, or last before 5: the same
total_first : (b : Bool) (k : List ℕ) (n : Node) (d : Decision) → (b ≡ true → (c : Change) × (d ≡ Give c)) → pick b (Refuse SmallerTotal) (allowed k n d) ≡ with_total b k n d
total_first true k n (Refuse r) h = let x = h refl in let z : ◌≡◌ {A = ℕ} 0 1 = differ r x.0 x.1 in absurd (omega arith)
  where
    differ : (r : _) (c : Change) → Refuse r ≡ Give c → ◌≡◌ {A = ℕ} 0 1
    differ r c e = cc
total_first true k n Leave h = let x = h refl in let z : ◌≡◌ {A = ℕ} 0 1 = differ x.0 x.1 in absurd (omega arith)
  where
    differ : (c : Change) → Leave ≡ Give c → ◌≡◌ {A = ℕ} 0 1
    differ c e = cc
total_first true k n (Give c) h = refl
total_first false k n (Refuse r) h = refl
total_first false k n Leave h = refl
total_first false k n (Give c) h = refl

guard-picks : (a b : Bool) (d : Decision) → on_guard (pick a (pick b (some SmallerTotal) none) (some BadForm)) d ≡ pick a (pick b (Refuse SmallerTotal) d) (Refuse BadForm)
guard-picks true true d = refl
guard-picks true false d = refl
guard-picks false b d = refl

set-wish : (v : List ℕ) (o : Option Rec) → wish (Setting v) o ≡ unless_same o (record { value = v; status = Set; start = 0 })
unfolding wish
set-wish v o = refl

ttl-wish : (v : List ℕ) (now : ℕ) (o : Option Rec) → wish (SettingTtl v now) o ≡ unless_same o (record { value = v; status = Ttl; start = now })
unfolding wish
ttl-wish v now o = refl

-- of a node
decided : (q : Party) (c : Call) (k : List ℕ) (n : Node) → on_guard (guard_at Meter q c k n.recs) (decide c k n) ≡ decide_meter c k n
unfolding decide_meter decide
decided q c k n = go (leb (length k) max_key && leb (length (brought c)) max_value)
  where
    written : (c : Call) (r : KeyValue) (ch : Change) → brings c k ≡ some r → ch.value ≡ r.value → ((o : Option Rec) → wish c o ≡ unless_same o ch)
        → on_guard (meter_guard (brings c k) (find k n.recs)) (allowed k n (wish c (find k n.recs)))
        ≡ pick (formed_by (brings c k)) (with_total (smaller_by (brings c k) (find k n.recs)) k n (wish c (find k n.recs))) (Refuse BadForm)
    written c r ch e v w =
        rw e
        (guard-picks (in_form Meter r) (smaller r (find k n.recs)) (allowed k n (wish c (find k n.recs)))
        ∙ ap (λ (d : Decision). pick (in_form Meter r) d (Refuse BadForm))
        (total_first (smaller r (find k n.recs)) k n (wish c (find k n.recs)) (λ s. (ch, w (find k n.recs) ∙ small-gives r (find k n.recs) ch v s))))

    deleted : (d : Decision) → allowed k n d ≡ with_total false k n d
    deleted (Refuse r) = refl
    deleted Leave = refl
    deleted (Give c) = refl

    inside : (c : Call) → on_guard (meter_guard (brings c k) (find k n.recs)) (allowed k n (wish c (find k n.recs)))
        ≡ pick (formed_by (brings c k)) (with_total (smaller_by (brings c k) (find k n.recs)) k n (wish c (find k n.recs))) (Refuse BadForm)
    inside (Setting v) = written (Setting v) _ (record { value = v; status = Set; start = 0 }) refl refl (set-wish v)
    inside (SettingTtl v now) = written (SettingTtl v now) _ (record { value = v; status = Ttl; start = now }) refl refl (ttl-wish v now)
    inside (Deleting now) = deleted (wish (Deleting now) (find k n.recs))
    inside (DeletingAfterTtl now) = deleted (wish (DeletingAfterTtl now) (find k n.recs))

    go : (a : Bool) → on_guard (pick a (meter_guard (brings c k) (find k n.recs)) none) (pick a (allowed k n (wish c (find k n.recs))) (Refuse TooLong))
        ≡ pick a (pick (formed_by (brings c k)) (with_total (smaller_by (brings c k) (find k n.recs)) k n (wish c (find k n.recs))) (Refuse BadForm)) (Refuse TooLong)
    go true = inside c
    go false = refl

-- and of the table
pub meter-order : (q : Party) (c : Call) (i : ℕ) (k : List ℕ) (t : Table) (n : Node) → node_of i t ≡ some n
    → call_as Meter q c i k t ≡ gives (answer_of (decide_meter c k n)) (set_node i (act k (decide_meter c k n) n) t)
unfolding call_as call act
meter-order p c i k t n q =
    ap (λ (o : Option Node). unless_guarded (guard_in Meter p c k o) (call_on c i k o t) t) q
    ∙ go (guard_at Meter p c k n.recs) (decide c k n)
    ∙ ap (λ (d : Decision). gives (answer_of d) (set_node i (act k d n) t)) (decided p c k n)
  where
    go : (g : Option Refusal) (d : Decision) → unless_guarded g (gives (answer_of d) (set_node i (act k d n) t)) t ≡ gives (answer_of (on_guard g d)) (set_node i (act k (on_guard g d) n) t)
    go none d = refl
    go (some r) d = ap (gives (answer_of (Refuse r))) (sym (set_same i n t q))
