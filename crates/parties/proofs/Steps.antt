-- One call, in the ticket's order: what it says to the party and what it leaves of what the party has depends on what the party has alone, unless an own write
-- or delete is answered 6; and a call of another leaves all of it. Assumes nothing.
use Prim.Native.Nat.{ℕ, ◌+◌}
use mathlib.Core.Bool.{Bool, true, false, ◌&&◌, true≢false, false≢true}
use mathlib.Core.List.{List, [], ◌∷◌}
use mathlib.Core.Logic.{◌⊎◌, inl, inr}
use mathlib.Core.Option.{Option, none, some}
use mathlib.Core.Path.{◌≡◌, refl, ap, ap₂, sym, ◌∙◌, subst}
use lib.ListN.{length}
use lib.Dec.{eqb, leb, ltb}
use Rattle.fields.specs.Choice.{pick}
use Rattle.rules.specs.Sizes.{max_each, max_key, max_value, top}
use Rattle.rules.specs.Node.{Rec, Node, Change, Call, Setting, SettingTtl, Deleting, DeletingAfterTtl, brought, Decision, Refuse, Leave, Give, wish, act, write, find, store}
use Rattle.rules.specs.Table.{Table, node_of, set_node}
use Rattle.rules.specs.Local.{Outcome, answer_of}
use Rattle.rules.specs.declared.Refusal.TheVariants.{TooLong, NodeFull, Exhausted, OtherParty}
use Rattle.std.specs.Prelude.{Err, Result}
use Rattle.rules.specs.declared.Refusal.{Refusal}
use Rattle.rules.proofs.Records.{Sorted, sorted-store}
use Rattle.parties.specs.Order.{full_for, allowed_for, decide_for, call_for, call_by}
use Rattle.parties.specs.TwoRuns.{unversioned}
use Rattle.parties.proofs.Views.{view_recs, bare, find-view, view-own, view-length, view-twice, view-sorted, store-own, store_other}
use Rattle.parties.proofs.Tables.{view_node, view_table, view_held, node-view, set_view, node-twice, table-twice, InOrder, node-ordered, set-ordered}

-- what a call wants looks at no version
wish-bare : (c : Call) (o : Option Rec) → wish c (bare o) ≡ wish c o
unfolding wish
wish-bare (Setting v) none = refl
wish-bare (Setting v) (some r) = refl
wish-bare (SettingTtl v now) none = refl
wish-bare (SettingTtl v now) (some r) = refl
wish-bare (Deleting now) none = refl
wish-bare (Deleting now) (some r) = refl
wish-bare (DeletingAfterTtl now) none = refl
wish-bare (DeletingAfterTtl now) (some r) = refl

module _ (mine : List ℕ → Bool) where
  -- ---- what is decided

  full-view : (k : List ℕ) (n : Node) → mine k ≡ true → full_for mine (find k (view_recs mine n.recs)) (view_node mine n) ≡ full_for mine (find k n.recs) n
  full-view k n m = ap (λ (o : Option Rec). full_for mine o (view_node mine n)) (find-view mine k n.recs m) ∙ go (find k n.recs)
    where
      go : (o : Option Rec) → full_for mine (bare o) (view_node mine n) ≡ full_for mine o n
      go none = ap (leb max_each) (ap length (view-own mine n.recs) ∙ view-length mine n.recs)
      go (some r) = refl

  -- equal, unless the version cannot rise
  abbrev Same : (c : Call) (k : List ℕ) (n : Node) → Type 0
  Same c k n = (decide_for mine c k n ≡ Refuse Exhausted) ⊎ (decide_for mine c k (view_node mine n) ≡ decide_for mine c k n)

  allowed-view : (k : List ℕ) (n : Node) (d : Decision) → mine k ≡ true
      → (allowed_for mine k n d ≡ Refuse Exhausted) ⊎ (allowed_for mine k (view_node mine n) d ≡ allowed_for mine k n d)
  allowed-view k n (Refuse r) m = inr refl
  allowed-view k n Leave m = inr refl
  allowed-view k n (Give c) m = go (full_for mine (find k n.recs) n) (full_for mine (find k (view_recs mine n.recs)) (view_node mine n)) (full-view k n m) (ltb n.max top)
    where
      go : (a b : Bool) → b ≡ a → (x : Bool)
          → (pick a (Refuse NodeFull) (pick x (Give c) (Refuse Exhausted)) ≡ Refuse Exhausted)
          ⊎ (pick b (Refuse NodeFull) (pick (ltb 0 top) (Give c) (Refuse Exhausted)) ≡ pick a (Refuse NodeFull) (pick x (Give c) (Refuse Exhausted)))
      go true true e x = inr refl
      go true false e x = absurd (false≢true e)
      go false true e x = absurd (true≢false e)
      go false false e true = inr refl
      go false false e false = inl refl

  decide-view : (c : Call) (k : List ℕ) (n : Node) → Same c k n
  unfolding decide_for
  decide-view c k n = go (leb (length k) max_key && leb (length (brought c)) max_value) (mine k) refl
    where
      own : mine k ≡ true → (allowed_for mine k n (wish c (find k n.recs)) ≡ Refuse Exhausted)
          ⊎ (allowed_for mine k (view_node mine n) (wish c (find k (view_recs mine n.recs))) ≡ allowed_for mine k n (wish c (find k n.recs)))
      own m = at (allowed-view k n (wish c (find k n.recs)) m)
        where
          wanted : wish c (find k (view_recs mine n.recs)) ≡ wish c (find k n.recs)
          wanted = ap (wish c) (find-view mine k n.recs m) ∙ wish-bare c (find k n.recs)

          at : (allowed_for mine k n (wish c (find k n.recs)) ≡ Refuse Exhausted)
              ⊎ (allowed_for mine k (view_node mine n) (wish c (find k n.recs)) ≡ allowed_for mine k n (wish c (find k n.recs)))
              → (allowed_for mine k n (wish c (find k n.recs)) ≡ Refuse Exhausted)
              ⊎ (allowed_for mine k (view_node mine n) (wish c (find k (view_recs mine n.recs))) ≡ allowed_for mine k n (wish c (find k n.recs)))
          at (inl e) = inl e
          at (inr e) = inr (ap (allowed_for mine k (view_node mine n)) wanted ∙ e)

      go : (a b : Bool) → mine k ≡ b
          → (pick a (pick b (allowed_for mine k n (wish c (find k n.recs))) (Refuse OtherParty)) (Refuse TooLong) ≡ Refuse Exhausted)
          ⊎ (pick a (pick b (allowed_for mine k (view_node mine n) (wish c (find k (view_recs mine n.recs)))) (Refuse OtherParty)) (Refuse TooLong)
          ≡ pick a (pick b (allowed_for mine k n (wish c (find k n.recs))) (Refuse OtherParty)) (Refuse TooLong))
      go true true m = own m
      go true false m = inr refl
      go false b m = inr refl

  -- ---- what is done

  write_view : (k : List ℕ) (c : Change) (n : Node) → Sorted n.recs → mine k ≡ true → view_node mine (write k c (view_node mine n)) ≡ view_node mine (write k c n)
  unfolding write
  write_view k c n s m =
      ap (λ (l : List Rec). record { heartbeat = n.heartbeat; max = 0; last_gc = 0; recs = l })
      (store-own mine (new (0 + 1)) (view_recs mine n.recs) (view-sorted mine n.recs s) m
      ∙ ap (store (unversioned (new 0))) (view-twice mine n.recs)
      ∙ sym (store-own mine (new (n.max + 1)) n.recs s m))
    where
      new : ℕ → Rec
      new v = record { kv = record { key = k; value = c.value; version = v; status = c.status }; start = c.start }

  act-view : (k : List ℕ) (d : Decision) (n : Node) → Sorted n.recs → mine k ≡ true → view_node mine (act k d (view_node mine n)) ≡ view_node mine (act k d n)
  unfolding act
  act-view k (Refuse r) n s m = node-twice mine n
  act-view k Leave n s m = node-twice mine n
  act-view k (Give c) n s m = write_view k c n s m

  -- a key of another is refused, whatever the node has
  not_own : (c : Call) (k : List ℕ) (n : Node) → mine k ≡ false → (decide_for mine c k n ≡ Refuse TooLong) ⊎ (decide_for mine c k n ≡ Refuse OtherParty)
  unfolding decide_for
  not_own c k n m = rw m (go (leb (length k) max_key && leb (length (brought c)) max_value))
    where
      go : (a : Bool) → (pick a (Refuse OtherParty) (Refuse TooLong) ≡ Refuse TooLong) ⊎ (pick a (Refuse OtherParty) (Refuse TooLong) ≡ Refuse OtherParty)
      go true = inr refl
      go false = inl refl

  decided-view : (c : Call) (k : List ℕ) (n : Node) → Sorted n.recs → view_node mine (act k (decide_for mine c k n) (view_node mine n)) ≡ view_node mine (act k (decide_for mine c k n) n)
  unfolding act
  decided-view c k n s = go (mine k) refl
    where
      stays : (d : Decision) → (d ≡ Refuse TooLong) ⊎ (d ≡ Refuse OtherParty) → view_node mine (act k d (view_node mine n)) ≡ view_node mine (act k d n)
      stays d (inl e) = rw e (node-twice mine n)
      stays d (inr e) = rw e (node-twice mine n)

      go : (b : Bool) → mine k ≡ b → view_node mine (act k (decide_for mine c k n) (view_node mine n)) ≡ view_node mine (act k (decide_for mine c k n) n)
      go true m = act-view k (decide_for mine c k n) n s m
      go false m = stays (decide_for mine c k n) (not_own c k n m)

  -- ---- a call of the party's own

  pub record Alike (o v : Outcome (Result (Unit {0}) Refusal)) : Type 0 where
    pub answers : v.answer ≡ o.answer
    pub views : view_table mine v.table ≡ view_table mine o.table

  pub call-alike : (c : Call) (i : ℕ) (k : List ℕ) (t : Table) → InOrder t → ((call_by mine c i k t).answer ≡ Err Exhausted → ⊥) → Alike (call_by mine c i k t) (call_by mine c i k (view_table mine t))
  unfolding call_by
  call-alike c i k t s h = subst (λ (o : Option Node). Alike (call_for mine c i k (node_of i t) t) (call_for mine c i k o (view_table mine t))) (sym (node-view mine i t)) (go (node_of i t) refl h)
    where
      go : (o : Option Node) → node_of i t ≡ o → ((call_for mine c i k o t).answer ≡ Err Exhausted → ⊥) → Alike (call_for mine c i k o t) (call_for mine c i k (view_held mine o) (view_table mine t))
      go none q h = record { answers = refl; views = table-twice mine t }
      go (some n) q h = at (decide-view c k n)
        where
          ordered : Sorted n.recs
          ordered = node-ordered i t s q

          at : Same c k n → Alike (call_for mine c i k (some n) t) (call_for mine c i k (some (view_node mine n)) (view_table mine t))
          at (inl e) = absurd (h (ap answer_of e))
          at (inr e) =
              record {
                answers = ap answer_of e;
                views =
                    set_view mine i (act k (decide_for mine c k (view_node mine n)) (view_node mine n)) (view_table mine t)
                    ∙ ap₂ (λ (x : Node) (u : Table). set_node i x u) (ap (λ (d : Decision). view_node mine (act k d (view_node mine n))) e ∙ decided-view c k n ordered) (table-twice mine t)
                    ∙ sym (set_view mine i (act k (decide_for mine c k n) n) t);
              }

-- ---- a call of another: with a key that is not the party's, or refused

module _ (mine other : List ℕ → Bool) (apart : (k : List ℕ) → other k ≡ true → mine k ≡ false) where
  act-other : (k : List ℕ) (d : Decision) (n : Node) → mine k ≡ false → view_node mine (act k d n) ≡ view_node mine n
  unfolding act write
  act-other k (Refuse r) n m = refl
  act-other k Leave n m = refl
  act-other k (Give c) n m = ap (λ (l : List Rec). record { heartbeat = n.heartbeat; max = 0; last_gc = 0; recs = l }) (store_other mine _ n.recs m)

  decided-other : (c : Call) (k : List ℕ) (n : Node) → view_node mine (act k (decide_for other c k n) n) ≡ view_node mine n
  unfolding act
  decided-other c k n = go (other k) refl
    where
      stays : (d : Decision) → (d ≡ Refuse TooLong) ⊎ (d ≡ Refuse OtherParty) → view_node mine (act k d n) ≡ view_node mine n
      stays d (inl e) = rw e
      stays d (inr e) = rw e

      go : (b : Bool) → other k ≡ b → view_node mine (act k (decide_for other c k n) n) ≡ view_node mine n
      go true q = act-other k (decide_for other c k n) n (apart k q)
      go false q = stays (decide_for other c k n) (not_own other c k n q)

  set_same : (i : ℕ) (n : Node) (t : Table) {m : Node} → node_of i t ≡ some m → view_node mine n ≡ view_node mine m → view_table mine (set_node i n t) ≡ view_table mine t
  unfolding node_of set_node view_table
  set_same i n [] q e = refl
  set_same i n (a ∷ t) {m} q e = go (eqb i a.number) q (λ r. set_same i n t r e)
    where
      held : some a.node ≡ some m → a.node ≡ m
      held r = cc

      go : (b : Bool) → pick b (some a.node) (node_of i t) ≡ some m → (node_of i t ≡ some m → view_table mine (set_node i n t) ≡ view_table mine t)
          → view_table mine (pick b (record { number = a.number; node = n } ∷ t) (a ∷ set_node i n t)) ≡ record { number = a.number; node = view_node mine a.node } ∷ view_table mine t
      go true r ih = ap (λ (x : Node). record { number = a.number; node = x } ∷ view_table mine t) (e ∙ sym (ap (view_node mine) (held r)))
      go false r ih = ap (λ (x : Table). record { number = a.number; node = view_node mine a.node } ∷ x) (ih r)

  pub call-other : (c : Call) (i : ℕ) (k : List ℕ) (t : Table) → view_table mine (call_by other c i k t).table ≡ view_table mine t
  unfolding call_by
  call-other c i k t = go (node_of i t) refl
    where
      go : (o : Option Node) → node_of i t ≡ o → view_table mine (call_for other c i k o t).table ≡ view_table mine t
      go none q = refl
      go (some n) q = set_same i (act k (decide_for other c k n) n) t q (decided-other c k n)

-- ---- keys stay in order

module _ (mine : List ℕ → Bool) where
  act-ordered : (k : List ℕ) (d : Decision) (n : Node) → Sorted n.recs → Sorted (act k d n).recs
  unfolding act write
  act-ordered k (Refuse r) n s = s
  act-ordered k Leave n s = s
  act-ordered k (Give c) n s = sorted-store _ _ s

  pub call-ordered : (c : Call) (i : ℕ) (k : List ℕ) (t : Table) → InOrder t → InOrder (call_by mine c i k t).table
  unfolding call_by
  call-ordered c i k t s = go (node_of i t) refl
    where
      go : (o : Option Node) → node_of i t ≡ o → InOrder (call_for mine c i k o t).table
      go none q = s
      go (some n) q = set-ordered i (act k (decide_for mine c k n) n) t s (act-ordered k (decide_for mine c k n) n (node-ordered i t s q))
