-- Taking records: which are taken, what storing one leaves in a node's bytes, and how a list of them is taken operation by operation. The number of keys
-- never falls while records are taken, so no room at one record is no room for the outcome. Assumes nothing.
use Prim.Native.Nat.{ℕ, suc, ◌+◌, ◌-◌, ◌≤◌, ◌<◌}
use mathlib.Core.Path.{◌≡◌, refl, ap, sym, ◌∙◌, subst}
use mathlib.Core.Bool.{Bool, true, false, not}
use mathlib.Core.List.{List, [], ◌∷◌}
use native.Mathlib.Omega.{arith}
use lib.ListN.{length, take, drop, set, length-set}
use lib.Dec.{leb, ltb}
use borrow.Author.Tests.{le-leb, lt-leb, lt-ltb, le-ltb, leb-true, leb-false}
use Rattle.fields.specs.Choice.{pick, ◌∈◌, here, later}
use Rattle.fields.specs.Blocks.{insert_at}
use Rattle.fields.specs.Order.{same_bytes, less_bytes, order_of}
use Rattle.std.specs.declared.cmp.Ordering.TheVariants.{Greater}
use Rattle.fields.proofs.Choice.{in-none}
use Rattle.fields.proofs.Lent.{seen}
use Rattle.fields.proofs.Blocks.{length-insert}
use Rattle.rules.specs.Sizes.{max_records, max_key, max_value}
use Rattle.rules.specs.Node.{KeyValue, Rec, scheduled, store}
use Rattle.rules.specs.Apply.{takes, start_at, stamp, take_all}
use Rattle.rules.specs.Table.{Entry, keys_rise}
use Rattle.rules.specs.Layout.{encode_node, decode_node}
use Rattle.rules.specs.Delta as rule
use Rattle.rules.proofs.Records.{key_of, sorted-store}
use Rattle.rules.proofs.Obeys.{keys-sorted, sorted-keys}
use Rattle.rules.proofs.Keeps.{store-longer}
use Rattle.rules.specs.declared.Status.{Status}
use Rattle.rules.specs.declared.Status.TheVariants.{Set, Delete, Ttl}
use Rattle.delta_op.specs.declared.Op.{Op}
use Rattle.delta_op.specs.declared.Op.TheVariants.{Node, KeyValue as Record, SetMaxVersion}
use Rattle.std.specs.Prelude.{Ok}
use Rattle.delta_op.specs.Places.{op_of, op_at, Inside}
use Rattle.delta_op.specs.Plain.{ops_from, recs_from}
use Rattle.delta_op.proofs.Plain.{plain-next}
use Rattle.delta_op.proofs.Reading.{Within, op-within}
use Rattle.table.specs.Changes.{with_recs, rec_of}
use Rattle.table.specs.Tests.{count_of, recs_in}
use Rattle.table.specs.Fits.{FitsRec, FitsEntry, LaidNode}
use Rattle.table.proofs.Nodes.{decode-encode-node, laid-node}
use Rattle.table.proofs.Places.{rec_at, length-recs}
use Rattle.table_read.specs.Find.{find_key, to_key}
use Rattle.table_read.specs.declared.Place.TheVariants.{At, Free}
use Rattle.table_read.proofs.Found.{start, end}
use Rattle.table_read.proofs.Halves.{half-more}
use Rattle.table_read.proofs.Placed.{store_at, store-free, free_in}
use Rattle.apply_node.specs.declared.Step.{Step}
use Rattle.apply_node.specs.declared.Step.TheVariants.{Taken, Full, Over}
use Rattle.apply_node.specs.Taking.{takes_as, carried, has_room, Rising, Tried, take_one, after_op, step_of, Stepped}

-- ---- which are taken

module _ (held gc version : ℕ) where
  pub old : (st : Status) → version ≤ held → false ≡ takes_as held gc version st
  unfolding takes_as
  old st h = rw (takes_as, le-ltb held version h)

  not-below : not (leb version gc) ≡ ltb gc version
  not-below = go (leb version gc) refl
    where
      go : (t : Bool) → leb version gc ≡ t → not t ≡ ltb gc version
      go true q = sym (le-ltb gc version (leb-true version gc q))
      go false q = sym (lt-ltb gc version (leb-false version gc q))

  module _ (h : held < version) (st : Status) where
    pub new-set : st ≡ Set → true ≡ takes_as held gc version st
    unfolding takes_as
    new-set e = rw (e, takes_as, lt-ltb held version h)

    pub new-delete : st ≡ Delete → ltb gc version ≡ takes_as held gc version st
    unfolding takes_as
    new-delete e = rw (e, takes_as, lt-ltb held version h) (sym not-below)

    pub new-ttl : st ≡ Ttl → ltb gc version ≡ takes_as held gc version st
    unfolding takes_as
    new-ttl e = rw (e, takes_as, lt-ltb held version h) (sym not-below)

-- ---- where a key belongs

module _ (key b : List ℕ) where
  pub last-of-none : 0 ≡ count_of b → find_key key (recs_in b) ≡ Free (count_of b)
  last-of-none e =
      sym (start (to_key key) (recs_in b)) ∙ end (to_key key) (recs_in b) 0 (omega (arith, length-recs b)) ∙ ap Free e

  pub behind-last : keys_rise (recs_in b) ≡ true → (j : ℕ) → j + 1 ≡ count_of b → order_of key (rec_at j b).kv.key ≡ Greater → find_key key (recs_in b) ≡ Free (count_of b)
  behind-last s j e q =
      sym (half-more key b s j (omega arith) q) ∙ end (to_key key) (recs_in b) (j + 1) (omega (arith, length-recs b)) ∙ ap Free e

-- ---- storing one

-- what holds of the record and of all that stand there holds of all afterwards
store-each : (P : Rec → Type 0) (r : Rec) (l : List Rec) → P r → ((x : Rec) → x ∈ l → P x) → (x : Rec) → x ∈ store r l → P x
unfolding store
store-each P r [] p h x (here e) = subst P (sym e) p
store-each P r [] p h x (later m) = absurd (in-none m)
store-each P r (a ∷ l) p h x m =
    go (same_bytes r.kv.key a.kv.key) (less_bytes r.kv.key a.kv.key) m (store-each P r l p (λ y n. h y (later n)) x)
  where
    go : (s t : Bool) → x ∈ pick s (r ∷ l) (pick t (r ∷ a ∷ l) (a ∷ store r l)) → (x ∈ store r l → P x) → P x
    go true t (here e) ih = subst P (sym e) p
    go true t (later n) ih = h x (later n)
    go false true (here e) ih = subst P (sym e) p
    go false true (later n) ih = h x n
    go false false (here e) ih = h x (here e)
    go false false (later n) ih = ih n

store-grows : (r : Rec) (l : List Rec) → length l ≤ length (store r l)
unfolding store
store-grows r [] = omega arith
store-grows r (a ∷ l) = go (same_bytes r.kv.key a.kv.key) (less_bytes r.kv.key a.kv.key) (store-grows r l)
  where
    go : (s t : Bool) → length l ≤ length (store r l) → suc (length l) ≤ length (pick s (r ∷ l) (pick t (r ∷ a ∷ l) (a ∷ store r l)))
    go true t h = omega arith
    go false true h = omega arith
    go false false h = omega arith

-- a node with other records that fit
module _ (b : List ℕ) (o : Rising b) (l : List Rec) where
  pub with-room : ((x : Rec) → x ∈ l → FitsRec x) → keys_rise l ≡ true → length l ≤ max_records → (b' : List ℕ) → b' ≡ encode_node (with_recs l (decode_node b)) → Tried l b true b'
  with-room each keys few b' e =
      let f = o.laid.fits in
      let g : FitsEntry (with_recs l (decode_node b)) =
      record { number_high = f.number_high; beat_high = f.beat_high; max_high = f.max_high; gc_high = f.gc_high; few = few; each = each } in
      let d : decode_node b' ≡ with_recs l (decode_node b) = ap decode_node e ∙ decode-encode-node (with_recs l (decode_node b)) g in
      record {
        room = sym (le-leb (length l) max_records few);
        rising = record { laid = subst LaidNode (sym e) (laid-node (with_recs l (decode_node b)) g); keys = ap (λ (x : Entry). keys_rise x.node.recs) d ∙ keys };
        node = λ t. d;
      }

  pub without-room : max_records < length l → Tried l b false b
  without-room h =
      record { room = sym (lt-leb (length l) max_records h); rising = o; node = λ t. let z : ◌≡◌ {A = ℕ} 0 1 = cc in absurd (omega arith) }

module _ (b : List ℕ) (o : Rising b) where
  -- nothing changes
  pub as-it-is : Tried (recs_in b) b true b
  as-it-is = with-room b o (recs_in b) o.laid.fits.each o.keys o.laid.fits.few b (sym o.laid.is)

  module _ (r : Rec) (f : FitsRec r) (j : ℕ) where
    each : (x : Rec) → x ∈ store r (recs_in b) → FitsRec x
    each = store-each FitsRec r (recs_in b) f o.laid.fits.each

    keys : keys_rise (store r (recs_in b)) ≡ true
    keys = sorted-keys (store r (recs_in b)) (sorted-store r (recs_in b) (keys-sorted (recs_in b) o.keys))

    pub stored_at : find_key (key_of r) (recs_in b) ≡ At j → (b' : List ℕ) → b' ≡ encode_node (with_recs (set (recs_in b) j r) (decode_node b)) → Tried (store r (recs_in b)) b true b'
    stored_at e b' q =
        let s : store r (recs_in b) ≡ set (recs_in b) j r = store_at r (recs_in b) j e in
        let n : length (store r (recs_in b)) ≡ length (recs_in b) = ap length s ∙ length-set (recs_in b) j r in
        with-room b o (store r (recs_in b)) each keys (omega (arith, n, o.laid.fits.few)) b' (q ∙ ap (λ (l : List Rec). encode_node (with_recs l (decode_node b))) (sym s))

    module _ (e : find_key (key_of r) (recs_in b) ≡ Free j) where
      s : store r (recs_in b) ≡ insert_at j r (recs_in b)
      s = store-free r (recs_in b) j e

      longer : length (store r (recs_in b)) ≡ suc (count_of b)
      longer = ap length s ∙ length-insert j r (recs_in b) (free_in (to_key (key_of r)) (recs_in b) j e) ∙ ap suc (length-recs b)

      pub stored-new : count_of b < max_records → (b' : List ℕ) → b' ≡ encode_node (with_recs (insert_at j r (recs_in b)) (decode_node b)) → Tried (store r (recs_in b)) b true b'
      stored-new h b' q =
          with-room b o (store r (recs_in b)) each keys (omega (arith, longer)) b' (q ∙ ap (λ (l : List Rec). encode_node (with_recs l (decode_node b))) (sym s))

      pub no_room : count_of b ≡ max_records → Tried (store r (recs_in b)) b false b
      no_room h = without-room b o (store r (recs_in b)) (omega (arith, longer))

      pub place-fits : j ≤ count_of b
      place-fits = omega (arith, free_in (to_key (key_of r)) (recs_in b) j e, length-recs b)

-- ---- taking one

module _ (held gc clock : ℕ) (r : KeyValue) (l : List Rec) where
  pub skipped : takes_as held gc r.version r.status ≡ false → l ≡ take_one held gc clock r l
  unfolding take_one takes takes_as
  skipped e = sym (rw (take_one, takes, e))

  pub taken : takes_as held gc r.version r.status ≡ true → store (stamp clock r) l ≡ take_one held gc clock r l
  unfolding take_one takes takes_as
  taken e = sym (rw (take_one, takes, e))

-- the callee saw the key and the value as parts of the delta's bytes
pub took : (s b b' : List ℕ) (r : Bool) (k n v m version : ℕ) (st : Status) (held gc clock start : ℕ) → takes_as held gc version st ≡ true → start ≡ start_at (scheduled st) clock
    → Tried (store (rec_of (take (k + n - k) (drop k s)) (take (v + m - v) (drop v s)) version st start) (recs_in b)) b r b'
    → Tried (take_one held gc clock (carried s k n v m version st) (recs_in b)) b r b'
took s b b' r k n v m version st held gc clock start e q t =
    let p : rec_of (take (k + n - k) (drop k s)) (take (v + m - v) (drop v s)) version st start ≡ stamp clock (carried s k n v m version st) = rw (seen k n s, seen v m s, q) in
    subst (λ (l : List Rec). Tried l b r b') (ap (λ (x : Rec). store x (recs_in b)) p ∙ taken held gc clock (carried s k n v m version st) (recs_in b) e) t

pub passed : (s b : List ℕ) (k n v m version : ℕ) (st : Status) (held gc clock : ℕ) → Rising b → takes_as held gc version st ≡ false
    → Tried (take_one held gc clock (carried s k n v m version st) (recs_in b)) b true b
passed s b k n v m version st held gc clock o e =
    subst (λ (l : List Rec). Tried l b true b) (skipped held gc clock (carried s k n v m version st) (recs_in b) e) (as-it-is b o)

-- ---- one operation

pub inside : (len : ℕ) (o : Op) (k n v m ver : ℕ) (st : Status) → o ≡ Record k n v m ver st → Inside len o → (k + n ≤ len) × (v + m ≤ len) × (n ≤ max_key) × (m ≤ max_value)
inside len o k n v m ver st e h = rw e at h

module _ (held gc clock : ℕ) (s b : List ℕ) (o : Op) where
  module _ (k n v m ver : ℕ) (st : Status) (e : o ≡ Record k n v m ver st) (r : Bool) (b' : List ℕ) (t : Tried (take_one held gc clock (carried s k n v m ver st) (recs_in b)) b r b') where
    pub step-taken : r ≡ true → Stepped held gc clock (op_of s o) b Taken b'
    step-taken q = rw e (record { step = sym (ap (λ (x : Bool). pick x Taken Full) (sym t.room ∙ q)); rising = t.rising; node = λ _. t.node q })

    pub step-full : r ≡ false → Stepped held gc clock (op_of s o) b Full b'
    step-full q = rw e (record { step = sym (ap (λ (x : Bool). pick x Taken Full) (sym t.room ∙ q)); rising = t.rising; node = λ f. absurd (f refl) })

  module _ (i : Rising b) where
    pub step-node : (n g f : ℕ) → o ≡ Node n g f → Stepped held gc clock (op_of s o) b Over b
    step-node n g f e = rw e (record { step = refl; rising = i; node = λ _. refl })

    pub step-max : (m : ℕ) → o ≡ SetMaxVersion m → Stepped held gc clock (op_of s o) b Taken b
    step-max m e = rw e (record { step = refl; rising = i; node = λ _. refl })

-- ---- taking them all

module _ (held gc clock : ℕ) where
  grows : (rs : List KeyValue) (l : List Rec) → length l ≤ length (take_all held gc clock rs l)
  unfolding take_all
  grows [] l = omega arith
  grows (r ∷ rs) l = go (takes held gc r) (grows rs (store (stamp clock r) l)) (grows rs l)
    where
      go : (t : Bool) → length (store (stamp clock r) l) ≤ length (take_all held gc clock rs (store (stamp clock r) l)) → length l ≤ length (take_all held gc clock rs l)
          → length l ≤ length (take_all held gc clock rs (pick t (store (stamp clock r) l) l))
      go true p q = omega (arith, store-grows (stamp clock r) l)
      go false p q = q

  -- as many records more at most
  pub takes-few : (rs : List KeyValue) (l : List Rec) → length (take_all held gc clock rs l) ≤ length l + length rs
  unfolding take_all
  takes-few [] l = omega arith
  takes-few (r ∷ rs) l = go (takes held gc r) (takes-few rs (store (stamp clock r) l)) (takes-few rs l)
    where
      go : (t : Bool) → length (take_all held gc clock rs (store (stamp clock r) l)) ≤ length (store (stamp clock r) l) + length rs
          → length (take_all held gc clock rs l) ≤ length l + length rs
          → length (take_all held gc clock rs (pick t (store (stamp clock r) l) l)) ≤ length l + suc (length rs)
      go true p q = omega (arith, store-longer (stamp clock r) l)
      go false p q = omega arith

  module _ (ops : List rule.Op) (l : List Rec) where
    pub goes_on : (o : rule.Op) → step_of held gc clock o l ≡ Taken
        → take_all held gc clock (rule.recs_of (o ∷ ops)) l ≡ take_all held gc clock (rule.recs_of ops) (after_op held gc clock o l)
    unfolding take_all take_one rule.recs_of
    goes_on (rule.NodeOp n g f) e = let z : ◌≡◌ {A = ℕ} 0 1 = cc in absurd (omega arith)
    goes_on (rule.KeyValueOp r) e = refl
    goes_on (rule.SetMaxVersionOp m) e = refl

    pub ends : (o : rule.Op) → step_of held gc clock o l ≡ Over → take_all held gc clock (rule.recs_of (o ∷ ops)) l ≡ after_op held gc clock o l
    unfolding take_all rule.recs_of
    ends (rule.NodeOp n g f) e = refl
    ends (rule.KeyValueOp r) e = go (has_room (take_one held gc clock r l)) e
      where
        go : {X : Type 0} (t : Bool) → pick t Taken Full ≡ Over → X
        go true e = let z : ◌≡◌ {A = ℕ} 0 1 = cc in absurd (omega arith)
        go false e = let z : ◌≡◌ {A = ℕ} 0 1 = cc in absurd (omega arith)
    ends (rule.SetMaxVersionOp m) e = let z : ◌≡◌ {A = ℕ} 0 1 = cc in absurd (omega arith)

    pub given : (o : rule.Op) → step_of held gc clock o l ≡ Full → has_room (take_all held gc clock (rule.recs_of (o ∷ ops)) l) ≡ false
    unfolding take_all take_one rule.recs_of
    given (rule.NodeOp n g f) e = let z : ◌≡◌ {A = ℕ} 0 1 = cc in absurd (omega arith)
    given (rule.KeyValueOp r) e = go (has_room (take_one held gc clock r l)) refl e
      where
        go : (t : Bool) → has_room (take_one held gc clock r l) ≡ t → pick t Taken Full ≡ Full → has_room (take_all held gc clock (rule.recs_of ops) (take_one held gc clock r l)) ≡ false
        go true q e = let z : ◌≡◌ {A = ℕ} 0 1 = cc in absurd (omega arith)
        go false q e =
            let h : max_records < length (take_one held gc clock r l) = leb-false _ _ q in
            lt-leb (length (take_all held gc clock (rule.recs_of ops) (take_one held gc clock r l))) max_records (omega (arith, grows (rule.recs_of ops) (take_one held gc clock r l)))
    given (rule.SetMaxVersionOp m) e = let z : ◌≡◌ {A = ℕ} 0 1 = cc in absurd (omega arith)

-- ---- the loop over the operations

-- what holds at its head: the bytes b are those of the node b₀ with other records, and what is left to take gives the whole's outcome
abbrev pub So-far : ℕ → ℕ → ℕ → List ℕ → ℕ → List ℕ → List ℕ → ℕ → Type 0
So-far held gc clock s at b₀ b i =
    Rising b
    × (i ≤ length s)
    × (decode_node b ≡ with_recs (recs_in b) (decode_node b₀))
    × (take_all held gc clock (recs_from s i) (recs_in b) ≡ take_all held gc clock (recs_from s at) (recs_in b₀))

module _ (held gc clock : ℕ) (s : List ℕ) (at : ℕ) (b₀ : List ℕ) where
  whole : List Rec
  whole = take_all held gc clock (recs_from s at) (recs_in b₀)

  finish : (b' : List ℕ) (l : List Rec) → Rising b' → decode_node b' ≡ with_recs l (decode_node b₀) → l ≡ whole → Tried whole b₀ true b'
  finish b' l o d q =
      let n : length (recs_in b') ≡ length whole = ap (λ (e : Entry). length e.node.recs) d ∙ ap length q in
      record { room = sym (le-leb (length whole) max_records (omega (arith, n, o.laid.fits.few))); rising = o; node = λ _. d ∙ ap (λ (r : List Rec). with_recs r (decode_node b₀)) q }

  module _ (b : List ℕ) (i : ℕ) (inv : So-far held gc clock s at b₀ b i) where
    pub nothing_left : ops_from s i ≡ [] → Tried (take_all held gc clock (recs_from s at) (recs_in b₀)) b₀ true b
    unfolding whole recs_from rule.recs_of take_all
    nothing_left e = finish b (recs_in b) inv.0 inv.2 (sym (ap (λ (os : List rule.Op). take_all held gc clock (rule.recs_of os) (recs_in b)) e) ∙ inv.3)

    module _ (h : i < length s) (o : Op) (next : ℕ) (e : op_at s i ≡ (Ok (o, next))) (r : Step) (b' : List ℕ) (t : Stepped held gc clock (op_of s o) b r b') where
      ops : ops_from s i ≡ op_of s o ∷ ops_from s next
      ops = plain-next s i o next h e

      left : take_all held gc clock (rule.recs_of (op_of s o ∷ ops_from s next)) (recs_in b) ≡ whole
      unfolding whole recs_from
      left = sym (ap (λ (os : List rule.Op). take_all held gc clock (rule.recs_of os) (recs_in b)) ops) ∙ inv.3

      with-new : (r ≡ Full → ⊥) → decode_node b' ≡ with_recs (after_op held gc clock (op_of s o) (recs_in b)) (decode_node b₀)
      with-new f = t.node f ∙ ap (with_recs (after_op held gc clock (op_of s o) (recs_in b))) inv.2

      pub stops : r ≡ Over → Tried (take_all held gc clock (recs_from s at) (recs_in b₀)) b₀ true b'
      unfolding whole
      stops q =
          finish b' (after_op held gc clock (op_of s o) (recs_in b)) t.rising (with-new (λ f. let z : ◌≡◌ {A = ℕ} 0 1 = cc in absurd (omega arith)))
          (sym (ends held gc clock (ops_from s next) (recs_in b) (op_of s o) (sym t.step ∙ q)) ∙ left)

      pub has-none : r ≡ Full → Tried (take_all held gc clock (recs_from s at) (recs_in b₀)) b₀ false b'
      unfolding whole
      has-none q =
          record {
            room = sym (ap has_room (sym left) ∙ given held gc clock (ops_from s next) (recs_in b) (op_of s o) (sym t.step ∙ q));
            rising = t.rising;
            node = λ f. let z : ◌≡◌ {A = ℕ} 0 1 = cc in absurd (omega arith);
          }

      pub goes : r ≡ Taken → So-far held gc clock s at b₀ b' next
      unfolding whole recs_from
      goes q =
          let w : Within (length s) i (Ok (o, next)) = subst (Within (length s) i) e (op-within s i) in
          let d = with-new (λ f. let z : ◌≡◌ {A = ℕ} 0 1 = cc in absurd (omega arith)) in
          let l : recs_in b' ≡ after_op held gc clock (op_of s o) (recs_in b) = ap (λ (x : Entry). x.node.recs) d in (
            t.rising,
            w.1,
            d ∙ ap (λ (x : List Rec). with_recs x (decode_node b₀)) (sym l),
            ap (take_all held gc clock (rule.recs_of (ops_from s next))) l
                ∙ sym (goes_on held gc clock (ops_from s next) (recs_in b) (op_of s o) (sym t.step ∙ q)) ∙ left,
          )
