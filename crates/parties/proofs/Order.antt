-- The guard in front of document 01's call is ticket 9's own order: 5 by party behind "nothing to change", and then there is room in the node. Assumes nothing.
use Prim.Native.Nat.{ℕ, ◌+◌, ◌≤◌}
use mathlib.Core.Bool.{Bool, true, false, ◌&&◌, false≢true}
use mathlib.Core.List.{List}
use mathlib.Core.Option.{Option, none, some}
use mathlib.Core.Path.{◌≡◌, refl, ap, sym, ◌∙◌}
use native.Mathlib.Omega.{arith}
use lib.ListN.{length}
use lib.Dec.{leb, ltb}
use borrow.Author.Tests.{leb-true, leb-false, lt-leb}
use Rattle.fields.specs.Choice.{pick}
use Rattle.fields.proofs.Choice.{and_left, and_right}
use Rattle.rules.specs.Sizes.{max_each, max_key, max_value, max_records, top}
use Rattle.rules.specs.Node.{KeyValue, Rec, Node, Change, Call, Setting, SettingTtl, Deleting, DeletingAfterTtl, brought, Decision, Refuse, Leave, Give, find, wish, allowed, decide, act}
use Rattle.rules.specs.Node as plain
use Rattle.rules.specs.Table.{Table, node_of, set_node}
use Rattle.rules.specs.Party.{own, of_keys}
use Rattle.rules.specs.Profile.{brings, full_guard, guard_at, guard_in, recs_obey, profile_obeys}
use Rattle.rules.specs.Local.{answer_of, call, call_as, call_on, gives, unless_guarded}
use Rattle.rules.specs.declared.Party.{Party}
use Rattle.rules.specs.declared.Party.TheVariants.{Metering, Building, Nobody}
use Rattle.rules.specs.declared.Profile.TheVariants.{Shared}
use Rattle.rules.specs.declared.Status.TheVariants.{Set, Ttl}
use Rattle.rules.specs.declared.Refusal.{Refusal}
use Rattle.rules.specs.declared.Refusal.TheVariants.{TooLong, NoKey, NodeFull, Exhausted, OtherParty}
use Rattle.rules.proofs.Formed.{node-obeys, obey-fit, obey-formed}
use Rattle.rules.proofs.Refusing.{set_same}
use Rattle.parties.specs.Order.{full_for, allowed_for, decide_for, call_for, call_by}
use Rattle.parties.proofs.Apart.{count-both}

abbrev on_guard : (guard : Option Refusal) (decision : Decision) → Decision
on_guard none d = d
on_guard (some r) d = Refuse r

module _ (n : Node) (obey : recs_obey Shared n.recs ≡ true) where
  few-metering : length (of_keys (own Metering) n.recs) ≤ max_each
  few-metering =
      leb-true _ _ (and_left (leb (length (of_keys (own Metering) n.recs)) max_each) (leb (length (of_keys (own Building) n.recs)) max_each) (obey-fit Shared n.recs obey))

  few-building : length (of_keys (own Building) n.recs) ≤ max_each
  few-building =
      leb-true _ _ (and_right (leb (length (of_keys (own Metering) n.recs)) max_each) (leb (length (of_keys (own Building) n.recs)) max_each) (obey-fit Shared n.recs obey))

  both : length n.recs ≡ length (of_keys (own Metering) n.recs) + length (of_keys (own Building) n.recs)
  both = count-both n.recs (obey-formed Shared n.recs obey)

  -- where a party has room, the node has
  room : (q : Party) (k : List ℕ) → own q k ≡ true → leb max_each (length (of_keys (own q) n.recs)) ≡ false → leb max_records (length n.recs) ≡ false
  room Metering k o e = let a = leb-false max_each (length (of_keys (own Metering) n.recs)) e in let b = few-building in let c = both in lt-leb max_records (length n.recs) (omega arith)
  room Building k o e = let a = leb-false max_each (length (of_keys (own Building) n.recs)) e in let b = few-metering in let c = both in lt-leb max_records (length n.recs) (omega arith)
  room Nobody k o e = absurd (false≢true o)

  module _ (q : Party) (k : List ℕ) (mine : own q k ≡ true) where
    -- what is allowed, by the record that was found: in a plain table, and by party
    plainly : Option Rec → Decision → Decision
    plainly o (Refuse r) = Refuse r
    plainly o Leave = Leave
    plainly o (Give c) = pick (plain.full_for o n) (Refuse NodeFull) (pick (ltb n.max top) (Give c) (Refuse Exhausted))

    by_party : Option Rec → Decision → Decision
    by_party o (Refuse r) = Refuse r
    by_party o Leave = Leave
    by_party o (Give c) = pick (full_for (own q) o n) (Refuse NodeFull) (pick (ltb n.max top) (Give c) (Refuse Exhausted))

    is-plainly : (d : Decision) → allowed k n d ≡ plainly (find k n.recs) d
    unfolding plainly
    is-plainly (Refuse r) = refl
    is-plainly Leave = refl
    is-plainly (Give c) = refl

    is-by-party : (d : Decision) → by_party (find k n.recs) d ≡ allowed_for (own q) k n d
    unfolding by_party
    is-by-party (Refuse r) = refl
    is-by-party Leave = refl
    is-by-party (Give c) = refl

    -- the record is there: neither asks for room
    held : (r : Rec) (d : Decision) → plainly (some r) d ≡ by_party (some r) d
    unfolding plainly by_party
    held r (Refuse x) = refl
    held r Leave = refl
    held r (Give c) = refl

    -- a new key: 5 by party, and then there is room in the node
    new : (c : Change) (x : KeyValue) → on_guard (full_guard (own q) (some x) none n.recs) (plainly none (Give c)) ≡ by_party none (Give c)
    unfolding plainly by_party
    new c x = go (leb max_each (length (of_keys (own q) n.recs))) refl
      where
        go : (b : Bool) → leb max_each (length (of_keys (own q) n.recs)) ≡ b
            → on_guard (pick b (some NodeFull) none) (pick (leb max_records (length n.recs)) (Refuse NodeFull) (pick (ltb n.max top) (Give c) (Refuse Exhausted)))
            ≡ pick b (Refuse NodeFull) (pick (ltb n.max top) (Give c) (Refuse Exhausted))
        go true e = refl
        go false e = rw (room q k mine e)

    missing : plainly none (Refuse NoKey) ≡ by_party none (Refuse NoKey)
    unfolding plainly by_party
    missing = refl

    core : (c : Call) (o : Option Rec) → on_guard (full_guard (own q) (brings c k) o n.recs) (plainly o (wish c o)) ≡ by_party o (wish c o)
    unfolding wish
    core (Setting v) none = new (record { value = v; status = Set; start = 0 }) (record { key = k; value = v; version = 0; status = Set })
    core (Setting v) (some r) = held r _
    core (SettingTtl v now) none = new (record { value = v; status = Ttl; start = now }) (record { key = k; value = v; version = 0; status = Ttl })
    core (SettingTtl v now) (some r) = held r _
    core (Deleting now) none = missing
    core (Deleting now) (some r) = held r _
    core (DeletingAfterTtl now) none = missing
    core (DeletingAfterTtl now) (some r) = held r _

    inside : (c : Call) → on_guard (full_guard (own q) (brings c k) (find k n.recs) n.recs) (allowed k n (wish c (find k n.recs))) ≡ allowed_for (own q) k n (wish c (find k n.recs))
    inside c =
        ap (on_guard (full_guard (own q) (brings c k) (find k n.recs) n.recs)) (is-plainly (wish c (find k n.recs)))
        ∙ core c (find k n.recs)
        ∙ is-by-party (wish c (find k n.recs))

  -- of a node
  decided : (q : Party) (c : Call) (k : List ℕ) → on_guard (guard_at Shared q c k n.recs) (decide c k n) ≡ decide_for (own q) c k n
  unfolding decide_for decide
  decided q c k = go (leb (length k) max_key && leb (length (brought c)) max_value) (own q k) refl
    where
      go : (a b : Bool) → own q k ≡ b
          → on_guard (pick a (pick b (full_guard (own q) (brings c k) (find k n.recs) n.recs) (some OtherParty)) none) (pick a (allowed k n (wish c (find k n.recs))) (Refuse TooLong))
          ≡ pick a (pick b (allowed_for (own q) k n (wish c (find k n.recs))) (Refuse OtherParty)) (Refuse TooLong)
      go true true o = inside q k o c
      go true false o = refl
      go false b o = refl

-- and of a table that obeys the rules
pub shared-order : (q : Party) (c : Call) (i : ℕ) (k : List ℕ) (t : Table) → profile_obeys Shared t ≡ true → call_as Shared q c i k t ≡ call_by (own q) c i k t
unfolding call_as call call_by act
shared-order q c i k t h = on (node_of i t) refl
  where
    go : (n : Node) → node_of i t ≡ some n → (g : Option Refusal) (d : Decision) → unless_guarded g (gives (answer_of d) (set_node i (act k d n) t)) t ≡ gives (answer_of (on_guard g d)) (set_node i (act k (on_guard g d) n) t)
    go n e none d = refl
    go n e (some r) d = ap (gives (answer_of (Refuse r))) (sym (set_same i n t e))

    on : (o : Option Node) → node_of i t ≡ o → unless_guarded (guard_in Shared q c k o) (call_on c i k o t) t ≡ call_for (own q) c i k o t
    on none e = refl
    on (some n) e =
        go n e (guard_at Shared q c k n.recs) (decide c k n)
        ∙ ap (λ (d : Decision). gives (answer_of d) (set_node i (act k d n) t)) (decided n (node-obeys Shared i t h e) q c k)
