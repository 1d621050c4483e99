-- Every rule of a node keeps the table rules: from a node that obeys them comes one that obeys them. Clocks and heartbeats are numbers of eight
-- bytes, as code passes them. Assumes nothing.
use Prim.Native.Nat.{◌+◌, ◌<◌, ◌≤◌, max, suc, ℕ}
use mathlib.Core.Bool.{Bool, ◌&&◌, false, false≢true, not, true, true≢false}
use mathlib.Core.List.{List, [], ◌∷◌}
use mathlib.Core.Logic.{◌⊎◌, inl, inr}
use mathlib.Core.Option.{Option, none, some}
use mathlib.Core.Path.{◌∙◌, ◌≡◌, ap, refl, subst, sym}
use native.Mathlib.Omega.{arith}
use lib.Dec.{eqb, leb, ltb}
use lib.ListN.{length}
use borrow.Author.Tests.{leb-false, leb-true, ltb-false, ltb-true}
use Rattle.fields.proofs.Choice.{in-none, keep-from}
use Rattle.fields.proofs.Ordered.{less_other, less-trans, same_true}
use Rattle.fields.specs.Choice.{◌∈◌, here, keep, later, pick}
use Rattle.fields.specs.Order.{less_bytes, same_bytes}
use Rattle.rules.proofs.Next.{Differ, Strict, version_of}
use Rattle.rules.proofs.Obeys.{OkNode, OkRec}
use Rattle.rules.proofs.Received.{OkDelta}
use Rattle.rules.proofs.Records.{Above, Sorted, gc-below, key_of, sorted-keep, sorted-store, store-from}
use Rattle.rules.proofs.Taking.{Came, From, came, left, not-both, reset, sorted-take, take-from, takes-above, took}
use Rattle.rules.specs.Apply.{Lawful, Ways, apply_node, fenced_ways, guarded_ways, outcome, plain_ways, stamp, start_at, take_all, takes, ways_of}
use Rattle.rules.specs.Delta.{NodeDelta}
use Rattle.rules.specs.Local.{gc}
use Rattle.rules.specs.Node.{Call, Change, Decision, Deleting, DeletingAfterTtl, Give, KeyValue, Leave, Node, Rec, Refuse, Setting, SettingTtl, act, allowed, beat, beats, brought, decide, due, find, fresh, full_for, goes, last_gc_of, offer_of, remove, same_status, scheduled, store, unless_same, wish, with_heartbeat, write}
use Rattle.rules.specs.Sizes.{max_key, max_records, max_value, numbers, top}
use Rattle.rules.specs.declared.Heartbeat.{Heartbeat}
use Rattle.rules.specs.declared.Mode.{Mode}
use Rattle.rules.specs.declared.Mode.TheVariants as mode
use Rattle.rules.specs.declared.Refusal.{Refusal}
use Rattle.rules.specs.declared.Refusal.TheVariants.{Exhausted, NodeFull, TooLong}
use Rattle.rules.specs.declared.Status.TheVariants.{Set, Ttl}

pub ok-fresh : OkNode fresh
unfolding Sorted Differ
ok-fresh =
    record {
      few = omega arith;
      each = λ r m. absurd (in-none m);
      sorted = tt;
      differs = tt;
      max-fits = omega arith;
      gc_fits = omega arith;
      beat_fits = omega arith;
    }

-- ---- finding and storing

pub find-in : (k : List ℕ) (l : List Rec) {r : Rec} → find k l ≡ some r → (r ∈ l) × (k ≡ key_of r)
unfolding find
find-in k [] e = let z : ◌≡◌ {A = ℕ} 0 1 = cc in absurd (omega arith)
find-in k (a ∷ l) {r} e = go (same_bytes k (key_of a)) refl e (find-in k l)
  where
    go : (b : Bool) → same_bytes k (key_of a) ≡ b → pick b (some a) (find k l) ≡ some r → (find k l ≡ some r → (r ∈ l) × (k ≡ key_of r)) → (r ∈ a ∷ l) × (k ≡ key_of r)
    go true q e ih = let p : a ≡ r = cc in (here (sym p), same_true _ _ q ∙ ap key_of p)
    go false q e ih = let x = ih e in (later x.0, x.1)

pub store-longer : (r : Rec) (l : List Rec) → length (store r l) ≤ suc (length l)
unfolding store
store-longer r [] = omega arith
store-longer r (a ∷ l) = go (same_bytes (key_of r) (key_of a)) (less_bytes (key_of r) (key_of a)) (store-longer r l)
  where
    go : (b c : Bool) → length (store r l) ≤ suc (length l) → length (pick b (r ∷ l) (pick c (r ∷ a ∷ l) (a ∷ store r l))) ≤ suc (suc (length l))
    go true c ih = omega arith
    go false true ih = omega arith
    go false false ih = omega arith

-- a key that is there finds its place
pub store-held : (r : Rec) (l : List Rec) {x : Rec} → Sorted l → find (key_of r) l ≡ some x → length (store r l) ≡ length l
unfolding store find Sorted Above
store-held r [] s e = let z : ◌≡◌ {A = ℕ} 0 1 = cc in absurd (omega arith)
store-held r (a ∷ l) {x} s e = go (same_bytes (key_of r) (key_of a)) refl (less_bytes (key_of r) (key_of a)) refl e (store-held r l {x = x} s.1)
  where
    go : (b : Bool)
        → same_bytes (key_of r) (key_of a) ≡ b
        → (c : Bool)
        → less_bytes (key_of r) (key_of a) ≡ c
        → pick b (some a) (find (key_of r) l) ≡ some x
        → (find (key_of r) l ≡ some x → length (store r l) ≡ length l)
        → length (pick b (r ∷ l) (pick c (r ∷ a ∷ l) (a ∷ store r l))) ≡ suc (length l)
    go true q c p e ih = refl
    go false q true p e ih =
        let f = find-in (key_of r) l e in
        absurd (less_other _ _ (less-trans _ _ _ p (s.0 x f.0)) f.1)
    go false q false p e ih = ap suc (ih e)

-- versions stay different under a higher one
pub differ-store : (r : Rec) (l : List Rec) → Sorted l → Differ l → ((x : Rec) → x ∈ l → version_of x < version_of r) → Differ (store r l)
unfolding store Sorted Differ
differ-store r [] s d h = (λ x m e. in-none m, tt)
differ-store r (a ∷ l) s d h = go (same_bytes (key_of r) (key_of a)) (less_bytes (key_of r) (key_of a)) (differ-store r l s.1 d.1 (λ x m. h x (later m)))
  where
    lower : (x : Rec) → x ∈ a ∷ l → version_of x ≡ version_of r → ⊥
    lower x m e = let k = h x m in omega arith

    at : (x : Rec) → (x ≡ r) ⊎ ((x ∈ l) × (key_of x ≡ key_of r → ⊥)) → version_of x ≡ version_of a → ⊥
    at x (inl q) e = let v : version_of x ≡ version_of r = ap version_of q in let k = h a (here refl) in omega arith
    at x (inr m) e = d.0 x m.0 e

    go : (b c : Bool) → Differ (store r l) → Differ (pick b (r ∷ l) (pick c (r ∷ a ∷ l) (a ∷ store r l)))
    go true c ih = (λ x m. lower x (later m), d.1)
    go false true ih = (lower, d)
    go false false ih = (λ x m. at x (store-from r l s.1 m), ih)

-- ---- local calls

-- the call's clock is a number of eight bytes
abbrev pub ClockFits : Call → Type 0
ClockFits (Setting v) = Unit {0}
ClockFits (SettingTtl v now) = now < numbers
ClockFits (Deleting now) = now < numbers
ClockFits (DeletingAfterTtl now) = now < numbers

-- what a change may be
abbrev pub Fitting : Decision → Type 0
Fitting (Refuse r) = Unit {0}
Fitting Leave = Unit {0}
Fitting (Give c) = (length c.value ≤ max_value) × (c.start < numbers)

abbrev HeldFits : Option Rec → Type 0
HeldFits none = Unit {0}
HeldFits (some r) = length r.kv.value ≤ max_value

held_fits : (n : Node) → OkNode n → (k : List ℕ) → HeldFits (find k n.recs)
held_fits n ok k = go (find k n.recs) refl
  where
    go : (o : Option Rec) → find k n.recs ≡ o → HeldFits o
    go none e = tt
    go (some r) e = (ok.each r (find-in k n.recs e).0).value-fits

unless-fits : (o : Option Rec) (c : Change) → length c.value ≤ max_value → c.start < numbers → Fitting (unless_same o c)
unless-fits none c h g = (h, g)
unless-fits (some r) c h g = go (same_status r.kv.status c.status && same_bytes r.kv.value c.value)
  where
    go : (b : Bool) → Fitting (pick b Leave (Give c))
    go true = tt
    go false = (h, g)

wish-fits : (c : Call) (o : Option Rec) → ClockFits c → length (brought c) ≤ max_value → HeldFits o → Fitting (wish c o)
unfolding wish
wish-fits (Setting v) o t h f = unless-fits o (record { value = v; status = Set; start = 0 }) h (omega arith)
wish-fits (SettingTtl v now) o t h f = unless-fits o (record { value = v; status = Ttl; start = now }) h t
wish-fits (Deleting now) none t h f = tt
wish-fits (Deleting now) (some r) t h f = (omega arith, t)
wish-fits (DeletingAfterTtl now) none t h f = tt
wish-fits (DeletingAfterTtl now) (some r) t h f = (f, t)

-- a change that is allowed
pub record Granted (k : List ℕ) (c : Change) (n : Node) : Type 0 where
  pub key_fits : length k ≤ max_key
  pub value-fits : length c.value ≤ max_value
  pub start_fits : c.start < numbers
  pub has_room : length (write k c n).recs ≤ max_records
  pub can-rise : n.max < top

pub data Decided (k : List ℕ) (n : Node) : Decision → Type 0 where
  is_refused : (r : Refusal) → Decided k n (Refuse r)
  is-left : Decided k n Leave
  is_given : (c : Change) → Granted k c n → Decided k n (Give c)

allowed-view : (k : List ℕ) (n : Node) (d : Decision) → OkNode n → length k ≤ max_key → Fitting d → Decided k n (allowed k n d)
unfolding write
allowed-view k n (Refuse r) ok h f = is_refused r
allowed-view k n Leave ok h f = is-left
allowed-view k n (Give c) ok h f = go (find k n.recs) refl
  where
    r : Rec
    r = record { kv = record { key = k; value = c.value; version = n.max + 1; status = c.status }; start = c.start }

    last : (b : Bool) → ltb n.max top ≡ b → length (store r n.recs) ≤ max_records → Decided k n (pick b (Give c) (Refuse Exhausted))
    last true q room = is_given c (record { key_fits = h; value-fits = f.0; start_fits = f.1; has_room = room; can-rise = ltb-true _ _ q })
    last false q room = is_refused Exhausted

    new : (b : Bool) → leb max_records (length n.recs) ≡ b → Decided k n (pick b (Refuse NodeFull) (pick (ltb n.max top) (Give c) (Refuse Exhausted)))
    new true q = is_refused NodeFull
    new false q =
        last (ltb n.max top) refl
        (let a : length n.recs < max_records = leb-false max_records (length n.recs) q in let b = store-longer r n.recs in omega arith)

    go : (o : Option Rec) → find k n.recs ≡ o → Decided k n (pick (full_for o n) (Refuse NodeFull) (pick (ltb n.max top) (Give c) (Refuse Exhausted)))
    go none e = new (leb max_records (length n.recs)) refl
    go (some x) e = last (ltb n.max top) refl (let a = ok.few in let b : length (store r n.recs) ≡ length n.recs = store-held r n.recs {x = x} ok.sorted e in omega arith)

pub decided : (c : Call) (k : List ℕ) (n : Node) → OkNode n → ClockFits c → Decided k n (decide c k n)
unfolding decide
decided c k n ok t = go (leb (length k) max_key) refl (leb (length (brought c)) max_value) refl
  where
    go : (a : Bool) → leb (length k) max_key ≡ a → (b : Bool) → leb (length (brought c)) max_value ≡ b → Decided k n (pick (a && b) (allowed k n (wish c (find k n.recs))) (Refuse TooLong))
    go true p true q = allowed-view k n (wish c (find k n.recs)) ok (leb-true _ _ p) (wish-fits c (find k n.recs) t (leb-true _ _ q) (held_fits n ok k))
    go true p false q = is_refused TooLong
    go false p b q = is_refused TooLong

pub ok-write : (k : List ℕ) (c : Change) (n : Node) → OkNode n → Granted k c n → OkNode (write k c n)
unfolding write
ok-write k c n ok g =
    record {
      few = g.has_room;
      each = λ x m. each x (store-from r n.recs ok.sorted m);
      sorted = sorted-store r n.recs ok.sorted;
      differs = differ-store r n.recs ok.sorted ok.differs (λ x m. let h = (ok.each x m).version_high in omega arith);
      max-fits = let h = g.can-rise in omega arith;
      gc_fits = ok.gc_fits;
      beat_fits = ok.beat_fits;
    }
  where
    r : Rec
    r = record { kv = record { key = k; value = c.value; version = n.max + 1; status = c.status }; start = c.start }

    new : OkRec (n.max + 1) r
    new = record { key_fits = g.key_fits; value-fits = g.value-fits; version_low = omega arith; version_high = omega arith; start_fits = g.start_fits }

    old : (x : Rec) → OkRec n.max x → OkRec (n.max + 1) x
    old x o = record { key_fits = o.key_fits; value-fits = o.value-fits; version_low = o.version_low; version_high = let h = o.version_high in omega arith; start_fits = o.start_fits }

    each : (x : Rec) → (x ≡ r) ⊎ ((x ∈ n.recs) × (key_of x ≡ k → ⊥)) → OkRec (n.max + 1) x
    each x (inl e) = subst (OkRec (n.max + 1)) (sym e) new
    each x (inr m) = old x (ok.each x m.0)

-- any decision of this kind
pub ok-decided : (k : List ℕ) (n : Node) (d : Decision) → OkNode n → Decided k n d → OkNode (act k d n)
unfolding act
ok-decided k n d ok (is_refused r) = ok
ok-decided k n d ok is-left = ok
ok-decided k n d ok (is_given c g) = ok-write k c n ok g

pub ok-act : (c : Call) (k : List ℕ) (n : Node) → OkNode n → ClockFits c → OkNode (act k (decide c k n) n)
ok-act c k n ok t = ok-decided k n (decide c k n) ok (decided c k n ok t)

-- ---- removal and heartbeats

pub differ-keep : (p : Rec → Bool) (l : List Rec) → Differ l → Differ (keep p l)
unfolding keep Differ
differ-keep p [] d = tt
differ-keep p (a ∷ l) d = go (p a) (differ-keep p l d.1)
  where
    go : (b : Bool) → Differ (keep p l) → Differ (pick b (a ∷ keep p l) (keep p l))
    go true ih = (λ x m. d.0 x (keep-from p l m).0, ih)
    go false ih = ih

pub length-keep : (p : Rec → Bool) (l : List Rec) → length (keep p l) ≤ length l
unfolding keep
length-keep p [] = omega arith
length-keep p (a ∷ l) = go (p a) (length-keep p l)
  where
    go : (b : Bool) → length (keep p l) ≤ length l → length (pick b (a ∷ keep p l) (keep p l)) ≤ suc (length l)
    go true ih = omega arith
    go false ih = omega arith

pub ok-remove : (due : Rec → Bool) (n : Node) → OkNode n → OkNode (remove due n)
unfolding remove
ok-remove due n ok =
    record {
      few = let a = length-keep (λ r. not (goes due r)) n.recs in let b = ok.few in omega arith;
      each = λ x m. ok.each x (keep-from _ _ m).0;
      sorted = sorted-keep _ _ ok.sorted;
      differs = differ-keep _ _ ok.differs;
      max-fits = ok.max-fits;
      gc_fits =
          let b : last_gc_of due n.last_gc n.recs ≤ max n.last_gc n.max = gc-below due n.last_gc (max n.last_gc n.max) n.recs (omega arith) (λ x m q. let h = (ok.each x m).version_high in omega arith) in
          let g = ok.gc_fits in
          let h = ok.max-fits in
          omega arith;
      beat_fits = ok.beat_fits;
    }

pub ok-heartbeat : (h : Heartbeat) (n : Node) → OkNode n → h.0 < numbers → OkNode (with_heartbeat h n)
ok-heartbeat h n ok b =
    record { few = ok.few; each = ok.each; sorted = ok.sorted; differs = ok.differs; max-fits = ok.max-fits; gc_fits = ok.gc_fits; beat_fits = b }

pub offer-fits : (held got : Heartbeat) → held.0 < numbers → got.0 < numbers → (offer_of held got).heartbeat.0 < numbers
unfolding offer_of
offer-fits held got h g = go (eqb held.0 0) (ltb held.0 got.0)
  where
    go : (a b : Bool) → (pick a (beat got false) (pick b (beat got true) (beat held false))).heartbeat.0 < numbers
    go true b = g
    go false true = g
    go false false = h

-- ---- a node delta

-- document 01's ways
pub plain-lawful : Lawful plain_ways
plain-lawful = record { reads_so = λ b ops e. e; few = λ l e. leb-true (length l) max_records e; lets = λ g m gc x h. refl; safe = λ e. absurd (false≢true e) }

-- and a fenced table's
pub fenced-lawful : Lawful fenced_ways
fenced-lawful = record { reads_so = λ b ops e. e; few = λ l e. leb-true (length l) max_records e; lets = stands-open; safe = λ e. keeps-off }
  where
    stands-open : (g m gc x : ℕ) → g ≤ max m gc → (ltb m g && ltb gc g) ≡ false
    stands-open g m gc x h = not-both m gc g h

    keeps-off : (g m gc x : ℕ) → (ltb m g && ltb gc g) ≡ false → g ≤ max m (max gc x)
    keeps-off g m gc x e = go (ltb m g) refl (ltb gc g) refl e
      where
        go : (a : Bool) → ltb m g ≡ a → (b : Bool) → ltb gc g ≡ b → (a && b) ≡ false → g ≤ max m (max gc x)
        go true p true q e = absurd (true≢false e)
        go true p false q e = let y = ltb-false gc g q in omega arith
        go false p b q e = let y = ltb-false m g p in omega arith

-- a guarded table fences off nothing that the step of demand 3 allows (demand3: Step)
pub guarded-least : (g m gc x : ℕ) → g ≤ max m (max gc x) → guarded_ways.fence g m gc x ≡ false
guarded-least g m gc x h = go (ltb m g) refl (ltb gc g) refl (ltb x g) refl
  where
    go : (a : Bool) → ltb m g ≡ a → (b : Bool) → ltb gc g ≡ b → (c : Bool) → ltb x g ≡ c → guarded_ways.fence g m gc x ≡ false
    go true p true q true r = let y = ltb-true m g p in let z = ltb-true gc g q in let u = ltb-true x g r in absurd (omega arith)
    go true p true q false r = simp (p, q, r)
    go true p false q c r = simp (p, q)
    go false p b q c r = simp p

-- and all else
pub guarded-lawful : Lawful guarded_ways
guarded-lawful = record { reads_so = λ b ops e. e; few = λ l e. leb-true (length l) max_records e; lets = stands-open; safe = λ e. keeps-off }
  where
    stands-open : (g m gc x : ℕ) → g ≤ max m gc → guarded_ways.fence g m gc x ≡ false
    stands-open g m gc x h = guarded-least g m gc x (omega arith)

    keeps-off : (g m gc x : ℕ) → guarded_ways.fence g m gc x ≡ false → g ≤ max m (max gc x)
    keeps-off g m gc x e = go (ltb m g) refl (ltb gc g) refl (ltb x g) refl
      where
        go : (a : Bool) → ltb m g ≡ a → (b : Bool) → ltb gc g ≡ b → (c : Bool) → ltb x g ≡ c → g ≤ max m (max gc x)
        go true p true q true r = let shut : guarded_ways.fence g m gc x ≡ true = simp (p, q, r) in absurd (true≢false (sym shut ∙ e))
        go true p true q false r = let y = ltb-false x g r in omega arith
        go true p false q c r = let y = ltb-false gc g q in omega arith
        go false p b q c r = let y = ltb-false m g p in omega arith

pub mode-lawful : (m : Mode) → Lawful (ways_of m)
mode-lawful mode.Plain = plain-lawful
mode-lawful mode.Fenced = fenced-lawful
mode-lawful mode.Guarded = guarded-lawful

module _ (held gc now : ℕ) where
  take-differ : (m : ℕ) (ss : List KeyValue) (l : List Rec) → Sorted l → Differ l → Strict m ss → ((x : Rec) → x ∈ l → version_of x ≤ max held m) → Differ (take_all held gc now ss l)
  unfolding take_all Strict
  take-differ m [] l s d t h = d
  take-differ m (a ∷ ss) l s d t h = go (takes held gc a) refl (take-differ a.version ss)
    where
      Behind : List Rec → Type 0
      Behind l = Sorted l → Differ l → Strict a.version ss → ((x : Rec) → x ∈ l → version_of x ≤ max held a.version) → Differ (take_all held gc now ss l)

      rise : (x : Rec) → x ∈ l → version_of x ≤ max held a.version
      rise x n = let k = h x n in let g = t.0 in omega arith

      at : (x : Rec) → (x ≡ stamp now a) ⊎ ((x ∈ l) × (key_of x ≡ a.key → ⊥)) → version_of x ≤ max held a.version
      at x (inl e) = let z : version_of x ≡ a.version = ap version_of e in omega arith
      at x (inr n) = rise x n.0

      go : (b : Bool) → takes held gc a ≡ b → ((l : List Rec) → Behind l) → Differ (take_all held gc now ss (pick b (store (stamp now a) l) l))
      go true q ih =
          ih (store (stamp now a) l) (sorted-store (stamp now a) l s)
          (differ-store (stamp now a) l s d (λ x n. let k = h x n in let g = t.0 in let j = takes-above held gc a q in omega arith)) t.1
          (λ x n. at x (store-from (stamp now a) l s n))
      go false q ih = ih l s d t.1 rise

start_fits : (b : Bool) (now : ℕ) → now < numbers → start_at b now < numbers
start_fits true now h = h
start_fits false now h = omega arith

module _ (ways : Ways) (law : Lawful ways) (now : ℕ) (clock : now < numbers) (d : NodeDelta) (od : OkDelta d) (n : Node) (ok : OkNode n) where
  -- all but the count of keys, for what is taken into l
  taken : (held g : ℕ) (beat : Heartbeat) (l : List Rec) → Sorted l → Differ l → ((r : Rec) → r ∈ l → OkRec held r) → held ≤ d.max → g < numbers → beat.0 < numbers
      → length (take_all held g now d.recs l) ≤ max_records
      → OkNode (record { heartbeat = beat; max = d.max; last_gc = g; recs = take_all held g now d.recs l })
  taken held g beat l s q h k gf bf room =
      record {
        few = room;
        each = λ r m. each r (take-from held g now d.recs l s m);
        sorted = sorted-take held g now d.recs l s;
        differs = take-differ held g now 0 d.recs l s q od.strict (λ x m. let z = (h x m).version_high in omega arith);
        max-fits = od.max-fits;
        gc_fits = gf;
        beat_fits = bf;
      }
    where
      new : (s : KeyValue) → s ∈ d.recs → takes held g s ≡ true → OkRec d.max (stamp now s)
      new s m t =
          let z = od.small s m in
          let above = takes-above held g s t in
          record {
            key_fits = z.key_fits;
            value-fits = z.value-fits;
            version_low = omega arith;
            version_high = od.within s m;
            start_fits = start_fits (scheduled s.status) now clock;
          }

      old : (r : Rec) → OkRec held r → OkRec d.max r
      old r o = record { key_fits = o.key_fits; value-fits = o.value-fits; version_low = o.version_low; version_high = let h = o.version_high in omega arith; start_fits = o.start_fits }

      each : (r : Rec) → From held g now d.recs l r → OkRec d.max r
      each r (inl x) = subst (OkRec d.max) (sym x.3) (new x.0 x.1 x.2)
      each r (inr x) = old r (h r x.0)

  pub ok-taken : OkNode (apply_node ways now d n).node
  unfolding outcome Sorted Differ
  ok-taken = go _ (came ways now d n)
    where
      go : (x : Node) → Came ways now d n x → OkNode x
      go x left = ok
      go x (reset r) = taken 0 d.last_gc (beats 0) [] tt tt (λ r m. absurd (in-none m)) (omega arith) od.gc_fits (omega arith) (law.few _ r.roomy)
      go x (took r) =
          taken n.max n.last_gc n.heartbeat n.recs ok.sorted ok.differs ok.each (let a = r.newer in omega arith) ok.gc_fits ok.beat_fits
          (law.few _ r.roomy)
