-- Every call keeps the table rules: from a table that obeys them comes a table that obeys them, whatever the arguments. Times, heartbeats and
-- node numbers are numbers of eight bytes and a delta is bytes, as code passes them. Assumes nothing.
use Prim.Native.Nat.{◌+◌, ◌<◌, ◌≤◌, suc, ℕ}
use mathlib.Core.Bool.{Bool, false, true}
use mathlib.Core.List.{List, [], ◌∷◌}
use mathlib.Core.Logic.{◌⊎◌, inl, inr}
use mathlib.Core.Option.{Option, none, some}
use mathlib.Core.Path.{◌≡◌, ap, refl, subst, sym}
use native.Mathlib.Omega.{arith}
use lib.Dec.{eqb, ltb}
use lib.ListN.{length}
use borrow.Author.Tests.{eqb-false, eqb-true, ltb-false, ltb-true}
use Rattle.fields.proofs.Choice.{in-cons, in-none}
use Rattle.fields.specs.Choice.{◌∈◌, all, here, later, pick}
use Rattle.fields.specs.Numbers.{AreBytes}
use Rattle.rules.proofs.Deltas.{delta-is}
use Rattle.rules.proofs.Keeps.{ClockFits, offer-fits, ok-act, ok-fresh, ok-heartbeat, ok-remove, ok-taken}
use Rattle.rules.proofs.Obeys.{Ascending, OkEntry, OkNode, OkTable, facts-table, number_in, table-facts}
use Rattle.rules.proofs.Received.{OkDelta, parts-ok}
use Rattle.rules.proofs.Tables.{applied-table, numbers-remove, numbers-set}
use Rattle.rules.proofs.Writing.{write-is}
use Rattle.rules.specs.Apply.{Lawful, Ways, apply, apply_each, apply_node, on_node}
use Rattle.rules.specs.Delta.{Part, nothing_read, parts_of}
use Rattle.rules.specs.Local.{add, beat_on, call, call_on, gc, gives, local_beat, offer, offer_on, remove_node, write}
use Rattle.rules.specs.Node.{Call, Node, Rec, Setting, SettingTtl, act, beats, decide, due, fresh, offer_of, remove, with_heartbeat}
use Rattle.rules.specs.Sizes.{max_nodes, numbers, top}
use Rattle.rules.specs.Table.{Entry, Table, add_node, among, drop_node, node_of, numbers_of, obeys, remove_all, rising, set_node}
use Rattle.rules.specs.declared.Heartbeat.{Heartbeat}
use Rattle.rules.specs.declared.Refusal.TheVariants.{Exhausted, NinthNode, NoNode}
use Rattle.std.specs.Prelude.{Err}
use Rattle.rules.specs.Results.{done}

-- ---- a node of the table

pub node_in : (i : ℕ) (t : Table) {n : Node} → node_of i t ≡ some n → (e : Entry) × (e ∈ t) × (e.node ≡ n) × (i ≡ e.number)
unfolding node_of
node_in i [] q = let z : ◌≡◌ {A = ℕ} 0 1 = cc in absurd (omega arith)
node_in i (a ∷ t) {n} q = go (eqb i a.number) refl q (node_in i t)
  where
    Out : Table → Type 0
    Out t = (e : Entry) × (e ∈ t) × (e.node ≡ n) × (i ≡ e.number)

    up : Out t → Out (a ∷ t)
    up x = (x.0, later x.1, x.2, x.3)

    go : (b : Bool) → eqb i a.number ≡ b → pick b (some a.node) (node_of i t) ≡ some n → (node_of i t ≡ some n → Out t) → Out (a ∷ t)
    go true p q ih = let r : a.node ≡ n = cc in (a, here refl, r, eqb-true _ _ p)
    go false p q ih = up (ih q)

pub node-ok-in : (i : ℕ) (t : Table) {n : Node} → OkTable t → node_of i t ≡ some n → OkNode n
node-ok-in i t ok q = let x = node_in i t q in subst OkNode x.2 (ok.each x.0 x.1).node_ok

-- ---- the node becomes another

set-from : (i : ℕ) (n : Node) (t : Table) {e : Entry} → e ∈ set_node i n t → (e ∈ t) ⊎ ((x : Entry) × (x ∈ t) × (e ≡ record { number = x.number; node = n }))
unfolding set_node
set-from i n [] m = inl m
set-from i n (a ∷ t) {e} m = go (eqb i a.number) m (set-from i n t)
  where
    Out : Table → Type 0
    Out t = (e ∈ t) ⊎ ((x : Entry) × (x ∈ t) × (e ≡ record { number = x.number; node = n }))

    up : Out t → Out (a ∷ t)
    up (inl m) = inl (later m)
    up (inr x) = inr (x.0, later x.1, x.2)

    go : (b : Bool) → e ∈ pick b (record { number = a.number; node = n } ∷ t) (a ∷ set_node i n t) → (e ∈ set_node i n t → Out t) → Out (a ∷ t)
    go true m ih = at (in-cons m)
      where
        at : (e ≡ record { number = a.number; node = n }) ⊎ (e ∈ t) → Out (a ∷ t)
        at (inl q) = inr (a, here refl, q)
        at (inr m) = inl (later m)
    go false m ih = at (in-cons m)
      where
        at : (e ≡ a) ⊎ (e ∈ set_node i n t) → Out (a ∷ t)
        at (inl q) = inl (here q)
        at (inr m) = up (ih m)

length-numbers : (t : Table) → length (numbers_of t) ≡ length t
unfolding numbers_of
length-numbers [] = refl
length-numbers (e ∷ t) = ap suc (length-numbers t)

-- as many nodes, where the numbers are the same
same-few : (s t : Table) → numbers_of s ≡ numbers_of t → length t ≤ max_nodes → length s ≤ max_nodes
same-few s t e h = let a = length-numbers s in let b = length-numbers t in let c = ap length e in omega arith

pub ok-set : (i : ℕ) (n : Node) (t : Table) → OkTable t → OkNode n → OkTable (set_node i n t)
ok-set i n t ok on =
    record {
      few = same-few (set_node i n t) t (numbers-set i n t) ok.few;
      ascending = subst Ascending (sym (numbers-set i n t)) ok.ascending;
      each = λ e m. at e (set-from i n t m);
    }
  where
    at : (e : Entry) → (e ∈ t) ⊎ ((x : Entry) × (x ∈ t) × (e ≡ record { number = x.number; node = n })) → OkEntry e
    at e (inl m) = ok.each e m
    at e (inr x) = subst OkEntry (sym x.2) (record { number_fits = (ok.each x.0 x.1).number_fits; node_ok = on })

-- ---- nodes come and go

pub add-from : (i : ℕ) (t : Table) {e : Entry} → e ∈ add_node i t → (e ≡ record { number = i; node = fresh }) ⊎ (e ∈ t)
unfolding add_node
add-from i [] m = in-cons m
add-from i (a ∷ t) {e} m = go (eqb i a.number) (ltb i a.number) m (add-from i t)
  where
    up : (e ≡ record { number = i; node = fresh }) ⊎ (e ∈ t) → (e ≡ record { number = i; node = fresh }) ⊎ (e ∈ a ∷ t)
    up (inl q) = inl q
    up (inr m) = inr (later m)

    go : (b c : Bool) → e ∈ pick b (a ∷ t) (pick c (record { number = i; node = fresh } ∷ a ∷ t) (a ∷ add_node i t)) → (e ∈ add_node i t → (e ≡ record { number = i; node = fresh }) ⊎ (e ∈ t)) → (e ≡ record { number = i; node = fresh }) ⊎ (e ∈ a ∷ t)
    go true c m ih = inr m
    go false true m ih = in-cons m
    go false false m ih = at (in-cons m)
      where
        at : (e ≡ a) ⊎ (e ∈ add_node i t) → (e ≡ record { number = i; node = fresh }) ⊎ (e ∈ a ∷ t)
        at (inl q) = inr (here q)
        at (inr n) = up (ih n)

pub number-from : (t : Table) {x : ℕ} → x ∈ numbers_of t → (e : Entry) × (e ∈ t) × (x ≡ e.number)
unfolding numbers_of
number-from [] m = absurd (in-none m)
number-from (a ∷ t) {x} m = go (in-cons m) (number-from t)
  where
    up : (e : Entry) × (e ∈ t) × (x ≡ e.number) → (e : Entry) × (e ∈ a ∷ t) × (x ≡ e.number)
    up y = (y.0, later y.1, y.2)

    go : (x ≡ a.number) ⊎ (x ∈ numbers_of t) → (x ∈ numbers_of t → (e : Entry) × (e ∈ t) × (x ≡ e.number)) → (e : Entry) × (e ∈ a ∷ t) × (x ≡ e.number)
    go (inl q) ih = (a, here refl, q)
    go (inr n) ih = up (ih n)

add-ascending : (i : ℕ) (t : Table) → Ascending (numbers_of t) → Ascending (numbers_of (add_node i t))
unfolding add_node numbers_of Ascending
add-ascending i [] s = (λ x m. absurd (in-none m), tt)
add-ascending i (a ∷ t) s = go (eqb i a.number) refl (ltb i a.number) refl (add-ascending i t s.1)
  where
    go : (b : Bool)
        → eqb i a.number ≡ b
        → (c : Bool)
        → ltb i a.number ≡ c
        → Ascending (numbers_of (add_node i t))
        → Ascending (numbers_of (pick b (a ∷ t) (pick c (record { number = i; node = fresh } ∷ a ∷ t) (a ∷ add_node i t))))
    go true p c q ih = s
    go false p true q ih = (λ x m. low x (in-cons m), s)
      where
        low : (x : ℕ) → (x ≡ a.number) ⊎ (x ∈ numbers_of t) → i < x
        low x (inl e) = let h = ltb-true i a.number q in omega arith
        low x (inr m) = let h = ltb-true i a.number q in let g = s.0 x m in omega arith
    go false p false q ih = (λ x m. high x (number-from (add_node i t) m), ih)
      where
        above : a.number < i
        above = let h = ltb-false i a.number q in let g = eqb-false i a.number p in omega arith

        at : (x : ℕ) (e : Entry) → x ≡ e.number → (e ≡ record { number = i; node = fresh }) ⊎ (e ∈ t) → a.number < x
        at x e r (inl z) = let v : e.number ≡ i = ap (λ (y : Entry). y.number) z in let h = above in omega arith
        at x e r (inr m) = let h = s.0 e.number (number_in m) in omega arith

        high : (x : ℕ) → (e : Entry) × (e ∈ add_node i t) × (x ≡ e.number) → a.number < x
        high x y = at x y.0 y.2 (add-from i t y.1)

add-longer : (i : ℕ) (t : Table) → length (add_node i t) ≤ suc (length t)
unfolding add_node
add-longer i [] = omega arith
add-longer i (a ∷ t) = go (eqb i a.number) (ltb i a.number) (add-longer i t)
  where
    go : (b c : Bool) → length (add_node i t) ≤ suc (length t) → length (pick b (a ∷ t) (pick c (record { number = i; node = fresh } ∷ a ∷ t) (a ∷ add_node i t))) ≤ suc (suc (length t))
    go true c h = omega arith
    go false true h = omega arith
    go false false h = omega arith

ok_add : (i : ℕ) (t : Table) → OkTable t → i < numbers → length t < max_nodes → OkTable (add_node i t)
ok_add i t ok h room =
    record {
      few = let a = add-longer i t in omega arith;
      ascending = add-ascending i t ok.ascending;
      each = λ e m. at e (add-from i t m);
    }
  where
    at : (e : Entry) → (e ≡ record { number = i; node = fresh }) ⊎ (e ∈ t) → OkEntry e
    at e (inl q) = subst OkEntry (sym q) (record { number_fits = h; node_ok = ok-fresh })
    at e (inr m) = ok.each e m

pub drop-from : (i : ℕ) (t : Table) {e : Entry} → e ∈ drop_node i t → e ∈ t
unfolding drop_node
drop-from i [] m = m
drop-from i (a ∷ t) {e} m = go (eqb i a.number) m (drop-from i t)
  where
    go : (b : Bool) → e ∈ pick b t (a ∷ drop_node i t) → (e ∈ drop_node i t → e ∈ t) → e ∈ a ∷ t
    go true m ih = later m
    go false m ih = at (in-cons m)
      where
        at : (e ≡ a) ⊎ (e ∈ drop_node i t) → e ∈ a ∷ t
        at (inl q) = here q
        at (inr n) = later (ih n)

drop-ascending : (i : ℕ) (t : Table) → Ascending (numbers_of t) → Ascending (numbers_of (drop_node i t))
unfolding drop_node numbers_of Ascending
drop-ascending i [] s = tt
drop-ascending i (a ∷ t) s = go (eqb i a.number) (drop-ascending i t s.1)
  where
    low : (x : ℕ) → (e : Entry) × (e ∈ drop_node i t) × (x ≡ e.number) → a.number < x
    low x y = let h = s.0 y.0.number (number_in (drop-from i t y.1)) in let g = y.2 in omega arith

    go : (b : Bool) → Ascending (numbers_of (drop_node i t)) → Ascending (numbers_of (pick b t (a ∷ drop_node i t)))
    go true ih = s.1
    go false ih = (λ x m. low x (number-from (drop_node i t) m), ih)

drop-shorter : (i : ℕ) (t : Table) → length (drop_node i t) ≤ length t
unfolding drop_node
drop-shorter i [] = omega arith
drop-shorter i (a ∷ t) = go (eqb i a.number) (drop-shorter i t)
  where
    go : (b : Bool) → length (drop_node i t) ≤ length t → length (pick b t (a ∷ drop_node i t)) ≤ suc (length t)
    go true h = omega arith
    go false h = omega arith

ok-drop : (i : ℕ) (t : Table) → OkTable t → OkTable (drop_node i t)
ok-drop i t ok =
    record {
      few = let a = drop-shorter i t in let b = ok.few in omega arith;
      ascending = drop-ascending i t ok.ascending;
      each = λ e m. ok.each e (drop-from i t m);
    }

remove-from : (due : ℕ → Rec → Bool) (t : Table) {e : Entry} → e ∈ remove_all due t → (x : Entry) × (x ∈ t) × (e ≡ record { number = x.number; node = remove (due x.number) x.node })
unfolding remove_all
remove-from due [] m = absurd (in-none m)
remove-from due (a ∷ t) {e} m = at (in-cons m) (remove-from due t)
  where
    Out : Table → Type 0
    Out t = (x : Entry) × (x ∈ t) × (e ≡ record { number = x.number; node = remove (due x.number) x.node })

    up : Out t → Out (a ∷ t)
    up x = (x.0, later x.1, x.2)

    at : (e ≡ record { number = a.number; node = remove (due a.number) a.node }) ⊎ (e ∈ remove_all due t) → (e ∈ remove_all due t → Out t) → Out (a ∷ t)
    at (inl q) ih = (a, here refl, q)
    at (inr n) ih = up (ih n)

pub ok-remove-all : (due : ℕ → Rec → Bool) (t : Table) → OkTable t → OkTable (remove_all due t)
ok-remove-all due t ok =
    record {
      few = same-few (remove_all due t) t (numbers-remove due t) ok.few;
      ascending = subst Ascending (sym (numbers-remove due t)) ok.ascending;
      each = λ e m. at e (remove-from due t m);
    }
  where
    at : (e : Entry) → (x : Entry) × (x ∈ t) × (e ≡ record { number = x.number; node = remove (due x.number) x.node }) → OkEntry e
    at e x =
        let o = ok.each x.0 x.1 in
        subst OkEntry (sym x.2) (record { number_fits = o.number_fits; node_ok = ok-remove (due x.0.number) x.0.node o.node_ok })

-- ---- a stream of node deltas

pub ok-each : (ways : Ways) → Lawful ways → (now : ℕ) → now < numbers → (xs : List Part) (t : Table) → ((x : Part) → x ∈ xs → OkDelta x.delta) → OkTable t → OkTable (apply_each (apply_node ways now) xs t).table
unfolding apply_each
ok-each ways law now clock [] t f ok = ok
ok-each ways law now clock (x ∷ xs) t f ok = go (node_of x.number t) refl (λ u o. ok-each ways law now clock xs u (λ y m. f y (later m)) o)
  where
    go : (o : Option Node) → node_of x.number t ≡ o → ((u : Table) → OkTable u → OkTable (apply_each (apply_node ways now) xs u).table) → OkTable (on_node (apply_node ways now) x o t (apply_each (apply_node ways now) xs)).table
    go none q ih = ih t ok
    go (some n) q ih = ih _ (ok-set x.number (apply_node ways now x.delta n).node t ok (ok-taken ways law now clock x.delta (f x (here refl)) n (node-ok-in x.number t ok q)))

-- ---- the calls

pub add-keeps : (i : ℕ) (t : Table) → i < numbers → obeys t ≡ true → obeys (add i t).table ≡ true
unfolding add
add-keeps i t h e = go (among i (numbers_of t)) (ltb (length t) max_nodes) refl
  where
    go : (a b : Bool) → ltb (length t) max_nodes ≡ b → obeys (pick a (gives done t) (pick b (gives done (add_node i t)) (gives (Err NinthNode) t))).table ≡ true
    go true b q = e
    go false true q = facts-table (add_node i t) (ok_add i t (table-facts t e) h (ltb-true _ _ q))
    go false false q = e

pub remove-node-keeps : (i : ℕ) (t : Table) → obeys t ≡ true → obeys (remove_node i t).table ≡ true
unfolding remove_node
remove-node-keeps i t e = go (among i (numbers_of t))
  where
    go : (a : Bool) → obeys (pick a (gives done (drop_node i t)) (gives (Err NoNode) t)).table ≡ true
    go true = facts-table (drop_node i t) (ok-drop i t (table-facts t e))
    go false = e

pub call-keeps : (c : Call) (i : ℕ) (k : List ℕ) (t : Table) → ClockFits c → obeys t ≡ true → obeys (call c i k t).table ≡ true
unfolding call
call-keeps c i k t h e = go (node_of i t) refl
  where
    go : (o : Option Node) → node_of i t ≡ o → obeys (call_on c i k o t).table ≡ true
    go none q = e
    go (some n) q =
        let ok = table-facts t e in
        facts-table (set_node i (act k (decide c k n) n) t) (ok-set i (act k (decide c k n) n) t ok (ok-act c k n (node-ok-in i t ok q) h))

pub write_keeps : (wanted : ℕ) (v : List ℕ) (now i : ℕ) (k : List ℕ) (t : Table) → now < numbers → obeys t ≡ true → obeys (write wanted v now i k t).table ≡ true
write_keeps wanted v now i k t h e =
    write-is wanted v now i k t (λ o. obeys o.table ≡ true) (call-keeps (Setting v) i k t tt e) (call-keeps (SettingTtl v now) i k t h e) e

-- any removal of scheduled records, by node number and record
pub remove-keeps : (due : ℕ → Rec → Bool) (t : Table) → obeys t ≡ true → obeys (remove_all due t) ≡ true
remove-keeps due t e = facts-table _ (ok-remove-all due t (table-facts t e))

-- document 01's clock is one
pub gc-keeps : (now grace : ℕ) (t : Table) → obeys t ≡ true → obeys (gc now grace t).table ≡ true
unfolding gc
gc-keeps now grace t e = remove-keeps (λ i. due now grace) t e

pub offer-keeps : (i : ℕ) (h : Heartbeat) (t : Table) → h.0 < numbers → obeys t ≡ true → obeys (offer i h t).table ≡ true
unfolding offer
offer-keeps i h t b e = go (node_of i t) refl
  where
    go : (o : Option Node) → node_of i t ≡ o → obeys (offer_on i h o t).table ≡ true
    go none q = e
    go (some n) q =
        let ok = table-facts t e in
        let on = node-ok-in i t ok q in
        facts-table _ (ok-set i (with_heartbeat (offer_of n.heartbeat h).heartbeat n) t ok (ok-heartbeat (offer_of n.heartbeat h).heartbeat n on (offer-fits n.heartbeat h on.beat_fits b)))

pub beat-keeps : (i : ℕ) (t : Table) → obeys t ≡ true → obeys (local_beat i t).table ≡ true
unfolding local_beat
beat-keeps i t e = go (node_of i t) refl
  where
    rise : (n : Node) → node_of i t ≡ some n → (b : Bool) → ltb n.heartbeat.0 top ≡ b → obeys (pick b (gives done (set_node i (with_heartbeat (beats (n.heartbeat.0 + 1)) n) t)) (gives (Err Exhausted) t)).table ≡ true
    rise n q true p =
        let ok = table-facts t e in
        let h : n.heartbeat.0 < top = ltb-true _ _ p in
        facts-table _ (ok-set i (with_heartbeat (beats (n.heartbeat.0 + 1)) n) t ok (ok-heartbeat (beats (n.heartbeat.0 + 1)) n (node-ok-in i t ok q) (omega arith)))
    rise n q false p = e

    go : (o : Option Node) → node_of i t ≡ o → obeys (beat_on i o t).table ≡ true
    go none q = e
    go (some n) q = rise n q (ltb n.heartbeat.0 top) refl

-- an accepted delta of any origin
pub apply-keeps : (ways : Ways) → Lawful ways → (bytes : List ℕ) (now : ℕ) (t : Table) (l : List ℕ) → AreBytes bytes → now < numbers → obeys t ≡ true → obeys (apply ways bytes now t l).table ≡ true
apply-keeps ways law bytes now t l b h e =
    applied-table ways bytes now t l (λ u. obeys u ≡ true) e
    (λ ops q. let d = (delta-is bytes ops b (law.reads_so bytes ops q)).0 in facts-table _ (ok-each ways law now h (parts_of ops) t (parts-ok ops nothing_read d.chain d.small) (table-facts t e)))

-- a table without nodes
pub none-obeys : obeys [] ≡ true
unfolding obeys rising numbers_of all
none-obeys = refl

-- ---- no node comes or goes

pub numbers-call : (c : Call) (i : ℕ) (k : List ℕ) (t : Table) → numbers_of (call c i k t).table ≡ numbers_of t
unfolding call
numbers-call c i k t = go (node_of i t)
  where
    go : (o : Option Node) → numbers_of (call_on c i k o t).table ≡ numbers_of t
    go none = refl
    go (some n) = numbers-set i _ t

pub numbers-beat : (i : ℕ) (t : Table) → numbers_of (local_beat i t).table ≡ numbers_of t
unfolding local_beat
numbers-beat i t = go (node_of i t)
  where
    go : (o : Option Node) → numbers_of (beat_on i o t).table ≡ numbers_of t
    go none = refl
    go (some n) = room (ltb n.heartbeat.0 top)
      where
        next : Node
        next = with_heartbeat (beats (n.heartbeat.0 + 1)) n

        room : (b : Bool) → numbers_of (pick b (gives done (set_node i next t)) (gives (Err Exhausted) t)).table ≡ numbers_of t
        room true = numbers-set i next t
        room false = refl

pub numbers-offer : (i : ℕ) (h : Heartbeat) (t : Table) → numbers_of (offer i h t).table ≡ numbers_of t
unfolding offer
numbers-offer i h t = go (node_of i t)
  where
    go : (o : Option Node) → numbers_of (offer_on i h o t).table ≡ numbers_of t
    go none = refl
    go (some n) = numbers-set i _ t
