-- The memory of removed nodes: adding and removing keep its rules, a refused call leaves it, and adding a node that is held forgets nothing. Assumes nothing.
use Prim.Native.Nat.{ℕ, suc, ◌≤◌, ◌<◌}
use mathlib.Core.Bool.{Bool, ◌&&◌, true, false, not}
use mathlib.Core.List.{List, [], ◌∷◌, ◌++◌}
use mathlib.Core.Logic.{◌⊎◌, inl, inr}
use mathlib.Core.Option.{Option, none, some}
use mathlib.Core.Path.{◌≡◌, ◌∙◌, ap, ap₂, refl, subst, sym}
use native.Mathlib.Omega.{arith}
use lib.Dec.{eqb, leb, ltb}
use lib.ListN.{length, drop, get_or, length-append, length-drop}
use borrow.Author.Tests.{eqb-true, eqb-false, le-leb, leb-true, lt-ltb, ltb-true, ltb-false, not-true}
use Rattle.fields.specs.Choice.{pick, all, ◌∈◌, here, later}
use Rattle.fields.proofs.Choice.{every-at, and_left, and_right, and_intro, all_from, all_in, in-none, in-cons, in-append}
use Rattle.rules.specs.Given.{Given, given}
use Rattle.rules.specs.Sizes.{max_nodes, max_removed, numbers}
use Rattle.rules.specs.Node.{Node, fresh}
use Rattle.rules.specs.Table.{Entry, Table, add_node, among, differ, drop_node, node_of, numbers_of, obeys}
use Rattle.rules.specs.Local.{Outcome, add, gives, remove_node}
use Rattle.rules.specs.Memory.{Memory, Removed, apart, forget, make_room, memory_obeys, remember, removed, removed_numbers, removed_obeys}
use Rattle.rules.specs.Profile.{profile_obeys}
use Rattle.rules.specs.Whole.{Whole, decode_whole, encode_whole, obeys_whole, valid_whole, with_table}
use Rattle.rules.specs.Lent.{add_whole, forget_on, on_whole, remember_on, remove_whole}
use Rattle.rules.specs.declared.Heartbeat.{Heartbeat}
use Rattle.std.specs.Prelude.{Err, Result}
use Rattle.rules.specs.Results.{done}
use Rattle.rules.specs.declared.Refusal.{Refusal}
use Rattle.rules.specs.declared.Refusal.TheVariants.{NinthNode, NoNode}
use Rattle.rules.proofs.Obeys.{Ascending, among_in, among-not, in-among, not-among, number_in, table-facts}
use Rattle.rules.proofs.Calls.{add-from, add-keeps, drop-from, node_in, number-from, remove-node-keeps}
use Rattle.rules.proofs.Formed.{add-formed, drop-formed}
use Rattle.rules.proofs.Refusing.{add-refused, remove-node-refused, whole-bytes}

-- ---- the rules as facts

pub record OkMemory (held : List ℕ) (m : Memory) : Type 0 where
  pub few : length m ≤ max_removed
  pub differs : differ (removed_numbers m) ≡ true
  pub none-held : (i : ℕ) → i ∈ held → i ∈ removed_numbers m → ⊥
  pub each : (r : Removed) → r ∈ m → removed_obeys r ≡ true

abbrev rules : List ℕ → Memory → List Bool
rules held m = leb (length m) max_removed ∷ differ (removed_numbers m) ∷ apart held (removed_numbers m) ∷ all removed_obeys m ∷ []

pub memory-facts : (held : List ℕ) (m : Memory) → memory_obeys held m ≡ true → OkMemory held m
unfolding memory_obeys apart
memory-facts held m e =
    let at : (k : ℕ) → get_or (rules held m) k true ≡ true = every-at (rules held m) e in
    record {
      few = leb-true _ _ (at 0);
      differs = at 1;
      none-held = λ i h r. among-not i (removed_numbers m) (not-true _ (all_from (λ k. not (among k (removed_numbers m))) held (at 2) i h)) r;
      each = λ r n. all_from removed_obeys m (at 3) r n;
    }

pub facts-memory : (held : List ℕ) (m : Memory) → OkMemory held m → memory_obeys held m ≡ true
unfolding memory_obeys apart
facts-memory held m o =
    let p : all (λ (k : ℕ). not (among k (removed_numbers m))) held ≡ true =
    all_in (λ (k : ℕ). not (among k (removed_numbers m))) held (λ i h. ap not (not-among i (removed_numbers m) (o.none-held i h))) in
    and_intro (leb (length m) max_removed) _ (le-leb (length m) max_removed o.few)
    (and_intro (differ (removed_numbers m)) _ o.differs
    (and_intro (apart held (removed_numbers m)) _ p (and_intro (all removed_obeys m) true (all_in removed_obeys m o.each) refl)))

-- no memory obeys, whatever is held
pub no-memory : (held : List ℕ) → memory_obeys held [] ≡ true
unfolding removed_numbers differ all
no-memory held =
    facts-memory held [] (record { few = omega arith; differs = refl; none-held = λ i h r. in-none r; each = λ r m. absurd (in-none m) })

-- ---- numbers that differ

differ-cons : (n : ℕ) (ns : List ℕ) → (n ∈ ns → ⊥) → differ ns ≡ true → differ (n ∷ ns) ≡ true
unfolding differ
differ-cons n ns f d = and_intro (not (among n ns)) (differ ns) (ap not (not-among n ns f)) d

differ-head : (n : ℕ) (ns : List ℕ) → differ (n ∷ ns) ≡ true → n ∈ ns → ⊥
unfolding differ
differ-head n ns d m = among-not n ns (not-true _ (and_left (not (among n ns)) (differ ns) d)) m

differ-tail : (n : ℕ) (ns : List ℕ) → differ (n ∷ ns) ≡ true → differ ns ≡ true
unfolding differ
differ-tail n ns d = and_right (not (among n ns)) (differ ns) d

differ-last : (ns : List ℕ) (i : ℕ) → (i ∈ ns → ⊥) → differ ns ≡ true → differ (ns ++ (i ∷ [])) ≡ true
unfolding differ
differ-last [] i f d = differ-cons i [] (λ m. in-none m) refl
differ-last (n ∷ ns) i f d =
    differ-cons n (ns ++ (i ∷ []))
    (λ m. at (in-append ns (i ∷ []) m)) (differ-last ns i (λ m. f (later m)) (differ-tail n ns d))
  where
    one : (n ≡ i) ⊎ (n ∈ []) → ⊥
    one (inl e) = f (here (sym e))
    one (inr m) = in-none m

    at : (n ∈ ns) ⊎ (n ∈ i ∷ []) → ⊥
    at (inl m) = differ-head n ns d m
    at (inr m) = one (in-cons m)

-- ---- forgetting

forget-from : (i : ℕ) (m : Memory) {r : Removed} → r ∈ forget i m → r ∈ m
unfolding forget
forget-from i [] h = h
forget-from i (a ∷ m) {r} h = go (eqb i a.number) h (forget-from i m)
  where
    go : (b : Bool) → r ∈ pick b m (a ∷ forget i m) → (r ∈ forget i m → r ∈ m) → r ∈ a ∷ m
    go true h ih = later h
    go false h ih = at (in-cons h)
      where
        at : (r ≡ a) ⊎ (r ∈ forget i m) → r ∈ a ∷ m
        at (inl e) = here e
        at (inr n) = later (ih n)

forget-number : (i : ℕ) (m : Memory) {x : ℕ} → x ∈ removed_numbers (forget i m) → x ∈ removed_numbers m
unfolding forget removed_numbers
forget-number i [] h = h
forget-number i (a ∷ m) {x} h = go (eqb i a.number) h (forget-number i m)
  where
    go : (b : Bool) → x ∈ removed_numbers (pick b m (a ∷ forget i m)) → (x ∈ removed_numbers (forget i m) → x ∈ removed_numbers m) → x ∈ a.number ∷ removed_numbers m
    go true h ih = later h
    go false h ih = at (in-cons h)
      where
        at : (x ≡ a.number) ⊎ (x ∈ removed_numbers (forget i m)) → x ∈ a.number ∷ removed_numbers m
        at (inl e) = here e
        at (inr n) = later (ih n)

forget-shorter : (i : ℕ) (m : Memory) → length (forget i m) ≤ length m
unfolding forget
forget-shorter i [] = omega arith
forget-shorter i (a ∷ m) = go (eqb i a.number) (forget-shorter i m)
  where
    go : (b : Bool) → length (forget i m) ≤ length m → length (pick b m (a ∷ forget i m)) ≤ suc (length m)
    go true h = omega arith
    go false h = omega arith

forget-differ : (i : ℕ) (m : Memory) → differ (removed_numbers m) ≡ true → differ (removed_numbers (forget i m)) ≡ true
unfolding forget removed_numbers
forget-differ i [] d = d
forget-differ i (a ∷ m) d = go (eqb i a.number) (forget-differ i m (differ-tail a.number (removed_numbers m) d))
  where
    go : (b : Bool) → differ (removed_numbers (forget i m)) ≡ true → differ (removed_numbers (pick b m (a ∷ forget i m))) ≡ true
    go true h = differ-tail a.number (removed_numbers m) d
    go false h = differ-cons a.number (removed_numbers (forget i m)) (λ n. differ-head a.number (removed_numbers m) d (forget-number i m n)) h

-- the node is forgotten
pub forgotten : (i : ℕ) (m : Memory) → differ (removed_numbers m) ≡ true → i ∈ removed_numbers (forget i m) → ⊥
unfolding forget removed_numbers
forgotten i [] d h = in-none h
forgotten i (a ∷ m) d h = go (eqb i a.number) refl h (forgotten i m (differ-tail a.number (removed_numbers m) d))
  where
    go : (b : Bool) → eqb i a.number ≡ b → i ∈ removed_numbers (pick b m (a ∷ forget i m)) → (i ∈ removed_numbers (forget i m) → ⊥) → ⊥
    go true q h ih = differ-head a.number (removed_numbers m) d (subst (λ (x : ℕ). x ∈ removed_numbers m) (eqb-true i a.number q) h)
    go false q h ih = at (in-cons h)
      where
        at : (i ≡ a.number) ⊎ (i ∈ removed_numbers (forget i m)) → ⊥
        at (inl e) = eqb-false i a.number q e
        at (inr n) = ih n

-- one that is not remembered is not missed
pub forget-none : (i : ℕ) (m : Memory) → (i ∈ removed_numbers m → ⊥) → forget i m ≡ m
unfolding forget removed_numbers
forget-none i [] f = refl
forget-none i (a ∷ m) f = go (eqb i a.number) refl (forget-none i m (λ h. f (later h)))
  where
    go : (b : Bool) → eqb i a.number ≡ b → forget i m ≡ m → pick b m (a ∷ forget i m) ≡ a ∷ m
    go true q ih = absurd (f (here (eqb-true i a.number q)))
    go false q ih = ap (λ (l : Memory). a ∷ l) ih

-- it obeys, beside those held before and the node itself
ok-forget : (held now : List ℕ) (i : ℕ) (m : Memory) → OkMemory held m → ((x : ℕ) → x ∈ now → (x ≡ i) ⊎ (x ∈ held)) → OkMemory now (forget i m)
ok-forget held now i m o f =
    record {
      few = let a = forget-shorter i m in let b = o.few in omega arith;
      differs = forget-differ i m o.differs;
      none-held = λ x h r. at x (f x h) r;
      each = λ r n. o.each r (forget-from i m n);
    }
  where
    at : (x : ℕ) → (x ≡ i) ⊎ (x ∈ held) → x ∈ removed_numbers (forget i m) → ⊥
    at x (inl e) r = forgotten i m o.differs (subst (λ (y : ℕ). y ∈ removed_numbers (forget i m)) e r)
    at x (inr h) r = o.none-held x h (forget-number i m r)

-- ---- remembering

numbers-append : (m n : Memory) → removed_numbers (m ++ n) ≡ removed_numbers m ++ removed_numbers n
unfolding removed_numbers
numbers-append [] n = refl
numbers-append (a ∷ m) n = ap (λ (l : List ℕ). a.number ∷ l) (numbers-append m n)

-- one less in front
ok-behind : (held : List ℕ) (m : Memory) → OkMemory held m → OkMemory held (drop 1 m)
unfolding removed_numbers
ok-behind held [] o = o
ok-behind held (a ∷ m) o =
    record {
      few = let b = o.few in omega arith;
      differs = differ-tail a.number (removed_numbers m) o.differs;
      none-held = λ i h r. o.none-held i h (later r);
      each = λ r n. o.each r (later n);
    }

-- there is room for one more
ok-room : (held : List ℕ) (m : Memory) → OkMemory held m → OkMemory held (make_room m) × (length (make_room m) < max_removed)
unfolding make_room
ok-room held m o = go (ltb (length m) max_removed) refl
  where
    go : (b : Bool) → ltb (length m) max_removed ≡ b → OkMemory held (pick b m (drop 1 m)) × (length (pick b m (drop 1 m)) < max_removed)
    go true q = (o, ltb-true (length m) max_removed q)
    go false q = (ok-behind held m o, let a = o.few in let b = ltb-false (length m) max_removed q in rw length-drop (omega arith))

ok-remember : (held now : List ℕ) (i : ℕ) (h : Heartbeat) (m : Memory) → OkMemory held m → i ∈ held → (i ∈ now → ⊥) → ((x : ℕ) → x ∈ now → x ∈ held)
    → removed_obeys (removed i h) ≡ true → OkMemory now (remember i h m)
unfolding remember removed_numbers
ok-remember held now i h m o mine gone f fits =
    let r = ok-room held m o in
    let k : OkMemory held (make_room m) = r.0 in
    let ns : removed_numbers (make_room m ++ (removed i h ∷ [])) ≡ removed_numbers (make_room m) ++ (i ∷ []) = numbers-append (make_room m) (removed i h ∷ []) in
    record {
      few = let a = r.1 in let b = length-append (make_room m) (removed i h ∷ []) in omega arith;
      differs = ap differ ns ∙ differ-last (removed_numbers (make_room m)) i (k.none-held i mine) k.differs;
      none-held = λ x n z. apart-at k x n (in-append (removed_numbers (make_room m)) (i ∷ []) (subst (λ (l : List ℕ). x ∈ l) ns z));
      each = λ x n. each_at k x (in-append (make_room m) (removed i h ∷ []) n);
    }
  where
    one : (x : ℕ) → x ∈ now → (x ≡ i) ⊎ (x ∈ []) → ⊥
    one x n (inl e) = gone (subst (λ (y : ℕ). y ∈ now) e n)
    one x n (inr z) = in-none z

    apart-at : OkMemory held (make_room m) → (x : ℕ) → x ∈ now → (x ∈ removed_numbers (make_room m)) ⊎ (x ∈ i ∷ []) → ⊥
    apart-at k x n (inl z) = k.none-held x (f x n) z
    apart-at k x n (inr z) = one x n (in-cons z)

    new : (x : Removed) → (x ≡ removed i h) ⊎ (x ∈ []) → removed_obeys x ≡ true
    new x (inl e) = ap removed_obeys e ∙ fits
    new x (inr z) = absurd (in-none z)

    each_at : OkMemory held (make_room m) → (x : Removed) → (x ∈ make_room m) ⊎ (x ∈ removed i h ∷ []) → removed_obeys x ≡ true
    each_at k x (inl z) = k.each x z
    each_at k x (inr z) = new x (in-cons z)

-- ---- nodes in a table

-- one that is not held is not found
pub not_found : (i : ℕ) (t : Table) → among i (numbers_of t) ≡ false → node_of i t ≡ none
not_found i t e = go (node_of i t) refl
  where
    go : (o : Option Node) → node_of i t ≡ o → o ≡ none
    go none q = refl
    go (some n) q =
        let x = node_in i t q in
        absurd (among-not i (numbers_of t) e (subst (λ (k : ℕ). k ∈ numbers_of t) (sym x.3) (number_in x.1)))

-- a dropped node is gone
dropped : (i : ℕ) (t : Table) → Ascending (numbers_of t) → i ∈ numbers_of (drop_node i t) → ⊥
unfolding drop_node numbers_of Ascending
dropped i [] s m = in-none m
dropped i (a ∷ t) s m = go (eqb i a.number) refl m (dropped i t s.1)
  where
    go : (b : Bool) → eqb i a.number ≡ b → i ∈ numbers_of (pick b t (a ∷ drop_node i t)) → (i ∈ numbers_of (drop_node i t) → ⊥) → ⊥
    go true q m ih = let h = s.0 i m in let e = eqb-true i a.number q in omega arith
    go false q m ih = at (in-cons m)
      where
        at : (i ≡ a.number) ⊎ (i ∈ numbers_of (drop_node i t)) → ⊥
        at (inl e) = eqb-false i a.number q e
        at (inr n) = ih n

-- ---- the calls

module _ (w : Whole) (o : obeys_whole w ≡ true) where
  pub whole-table : obeys w.table ≡ true
  unfolding obeys_whole
  whole-table = and_left (obeys w.table) (memory_obeys (numbers_of w.table) w.memory && profile_obeys w.kind.profile w.table) o

  behind : (memory_obeys (numbers_of w.table) w.memory && profile_obeys w.kind.profile w.table) ≡ true
  unfolding obeys_whole
  behind = and_right (obeys w.table) (memory_obeys (numbers_of w.table) w.memory && profile_obeys w.kind.profile w.table) o

  pub whole-memory : OkMemory (numbers_of w.table) w.memory
  whole-memory = memory-facts _ _ (and_left (memory_obeys (numbers_of w.table) w.memory) (profile_obeys w.kind.profile w.table) behind)

  -- its records are in form
  pub whole-profile : profile_obeys w.kind.profile w.table ≡ true
  whole-profile = and_right (memory_obeys (numbers_of w.table) w.memory) (profile_obeys w.kind.profile w.table) behind

  -- with other records, heartbeats and versions, but the same nodes
  pub same_nodes : (t : Table) → obeys t ≡ true → profile_obeys w.kind.profile t ≡ true → numbers_of t ≡ numbers_of w.table → obeys_whole (with_table t w) ≡ true
  unfolding obeys_whole
  same_nodes t p f e =
      and_intro (obeys t) (memory_obeys (numbers_of t) w.memory && profile_obeys w.kind.profile t) p
      (and_intro (memory_obeys (numbers_of t) w.memory) (profile_obeys w.kind.profile t)
      (ap (λ (l : List ℕ). memory_obeys l w.memory) e ∙ and_left (memory_obeys (numbers_of w.table) w.memory) (profile_obeys w.kind.profile w.table) behind)
      f)

  pub add-keeps-whole : (i : ℕ) → i < numbers → obeys_whole (add_whole i w).lent ≡ true
  unfolding obeys_whole add_whole add
  add-keeps-whole i h =
      and_intro (obeys (add i t).table) (memory_obeys (numbers_of (add i t).table) (forget_on (add i t).answer i w.memory) && profile_obeys w.kind.profile (add i t).table) (add-keeps i t h whole-table)
      (and_intro (memory_obeys (numbers_of (add i t).table) (forget_on (add i t).answer i w.memory)) (profile_obeys w.kind.profile (add i t).table)
      (facts-memory _ _ (go (among i (numbers_of t)) (ltb (length t) max_nodes)))
      (add-formed w.kind.profile i t whole-profile))
    where
      t : Table
      t = w.table

      out : Bool → Bool → Outcome (Result (Unit {0}) Refusal)
      out a b = pick a (gives done t) (pick b (gives done (add_node i t)) (gives (Err NinthNode) t))

      new : (x : ℕ) → (e : Entry) × (e ∈ add_node i t) × (x ≡ e.number) → (x ≡ i) ⊎ (x ∈ numbers_of t)
      new x y = at (add-from i t y.1)
        where
          at : (y.0 ≡ record { number = i; node = fresh }) ⊎ (y.0 ∈ t) → (x ≡ i) ⊎ (x ∈ numbers_of t)
          at (inl q) = inl (y.2 ∙ ap (λ (z : Entry). z.number) q)
          at (inr m) = inr (subst (λ (k : ℕ). k ∈ numbers_of t) (sym y.2) (number_in m))

      go : (a b : Bool) → OkMemory (numbers_of (out a b).table) (forget_on (out a b).answer i w.memory)
      go true b = ok-forget (numbers_of t) (numbers_of t) i w.memory whole-memory (λ x m. inr m)
      go false true = ok-forget (numbers_of t) (numbers_of (add_node i t)) i w.memory whole-memory (λ x m. new x (number-from (add_node i t) m))
      go false false = whole-memory

  -- a node that is held is not remembered: adding it changes nothing
  pub held_stays : (i : ℕ) → among i (numbers_of w.table) ≡ true → (add_whole i w).lent ≡ w
  unfolding add_whole add
  held_stays i h =
      ap (λ (a : Bool). put (pick a (gives done w.table) (pick (ltb (length w.table) max_nodes) (gives done (add_node i w.table)) (gives (Err NinthNode) w.table)))) h
      ∙ ap (λ (m : Memory). record { kind = w.kind; memory = m; table = w.table }) (forget-none i w.memory (whole-memory.none-held i (among_in i (numbers_of w.table) h)))
    where
      put : Outcome (Result (Unit {0}) Refusal) → Whole
      put x = record { kind = w.kind; memory = forget_on x.answer i w.memory; table = x.table }

  pub remove-keeps-whole : (i : ℕ) → obeys_whole (remove_whole i w).lent ≡ true
  unfolding obeys_whole remove_whole removed_obeys remove_node
  remove-keeps-whole i =
      and_intro (obeys (remove_node i t).table) (memory_obeys (numbers_of (remove_node i t).table) (remember_on (node_of i t) i w.memory) && profile_obeys w.kind.profile (remove_node i t).table) (remove-node-keeps i t whole-table)
      (and_intro (memory_obeys (numbers_of (remove_node i t).table) (remember_on (node_of i t) i w.memory)) (profile_obeys w.kind.profile (remove_node i t).table)
      (facts-memory _ _ (go (node_of i t) refl))
      (drop-formed w.kind.profile i t whole-profile))
    where
      t : Table
      t = w.table

      fewer : (x : ℕ) → (e : Entry) × (e ∈ drop_node i t) × (x ≡ e.number) → x ∈ numbers_of t
      fewer x y = subst (λ (k : ℕ). k ∈ numbers_of t) (sym y.2) (number_in (drop-from i t y.1))

      less : (x : ℕ) → x ∈ numbers_of (remove_node i t).table → x ∈ numbers_of t
      less x m = at (among i (numbers_of t)) m
        where
          at : (a : Bool) → x ∈ numbers_of (pick a (gives done (drop_node i t)) (gives (Err NoNode) t)).table → x ∈ numbers_of t
          at true m = fewer x (number-from (drop_node i t) m)
          at false m = m

      goes : i ∈ numbers_of t → i ∈ numbers_of (remove_node i t).table → ⊥
      goes h m =
          dropped i t (table-facts t whole-table).ascending
          (subst (λ (a : Bool). i ∈ numbers_of (pick a (gives done (drop_node i t)) (gives (Err NoNode) t)).table) (in-among h) m)

      go : (x : Option Node) → node_of i t ≡ x → OkMemory (numbers_of (remove_node i t).table) (remember_on x i w.memory)
      go none q =
          let k = whole-memory in
          record { few = k.few; differs = k.differs; none-held = λ x m r. k.none-held x (less x m) r; each = k.each }
      go (some n) q =
          let e = node_in i t q in
          let ok = (table-facts t whole-table).each e.0 e.1 in
          let mine : i ∈ numbers_of t = subst (λ (k : ℕ). k ∈ numbers_of t) (sym e.3) (number_in e.1) in
          ok-remember (numbers_of t) (numbers_of (remove_node i t).table) i n.heartbeat w.memory whole-memory mine (goes mine) less
          (and_intro (ltb i numbers) (ltb n.heartbeat.0 numbers)
          (lt-ltb i numbers (subst (λ (k : ℕ). k < numbers) (sym e.3) ok.number_fits))
          (lt-ltb n.heartbeat.0 numbers (subst (λ (k : Node). k.heartbeat.0 < numbers) e.2 ok.node_ok.beat_fits)))

-- ---- a refused call leaves all of it

pub add-whole-refused : (i : ℕ) (w : Whole) (r : Refusal) → (add_whole i w).answer ≡ Err r → (add_whole i w).lent ≡ w
unfolding add_whole
add-whole-refused i w r e =
    ap₂ (λ (a : (Result (Unit {0}) Refusal)) (t : Table). record { kind = w.kind; memory = forget_on a i w.memory; table = t }) e (add-refused i w.table r e)

pub remove-whole-refused : (i : ℕ) (w : Whole) (r : Refusal) → (remove_whole i w).answer ≡ Err r → (remove_whole i w).lent ≡ w
unfolding remove_whole remove_node
remove-whole-refused i w r e =
    ap₂ (λ (x : Option Node) (t : Table). record { kind = w.kind; memory = remember_on x i w.memory; table = t })
    (not_found i w.table (absent (among i (numbers_of w.table)) refl e)) (remove-node-refused i w.table r e)
  where
    absent : (a : Bool) → among i (numbers_of w.table) ≡ a → (remove_node i w.table).answer ≡ Err r → among i (numbers_of w.table) ≡ false
    absent false q e = q
    absent true q e =
        let d : done ≡ Err r =
        sym (ap (λ (b : Bool). (pick b (gives done (drop_node i w.table)) (gives (Err NoNode) w.table)).answer) q) ∙ e in
        let z : ◌≡◌ {A = ℕ} 0 1 = cc in absurd (omega arith)

-- and so do the bytes
pub whole-refused : {A : Type 0} (bad : A) (rule : Whole → Given A Whole) (refuses : A → Type 0)
    → ((w : Whole) → refuses (rule w).answer → (rule w).lent ≡ w)
    → (l : List ℕ)
    → refuses (on_whole bad rule l).answer
    → (on_whole bad rule l).lent ≡ l
unfolding on_whole
whole-refused {A} bad rule refuses f l = go (valid_whole l) refl
  where
    out : Bool → Given A (List ℕ)
    out b = pick b (given (rule (decode_whole l)).answer (encode_whole (rule (decode_whole l)).lent)) (given bad l)

    go : (b : Bool) → valid_whole l ≡ b → refuses (out b).answer → (out b).lent ≡ l
    go true q e = ap encode_whole (f (decode_whole l) e) ∙ whole-bytes l q
    go false q e = refl
