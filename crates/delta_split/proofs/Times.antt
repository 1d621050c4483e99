-- The parts of a delta at two times of receipt: but for the starts of records all is as with the uncut delta, at whatever time. Applying on a table without its starts, at time 0, gives the same
-- answers, and the table that applying gives at any time, without its starts. Assumes nothing.
use Prim.Native.Nat.{ℕ, suc}
use mathlib.Core.Path.{◌≡◌, refl, ap, ap₂, sym, ◌∙◌, subst}
use mathlib.Core.Bool.{Bool, true, false, ◌&&◌}
use mathlib.Core.List.{List, [], ◌∷◌}
use mathlib.Core.Option.{Option, none, some}
use lib.Dec.{eqb, leb}
use lib.ListN.{length, take, drop}
use Rattle.fields.specs.Choice.{◌∈◌, keep, pick}
use Rattle.fields.specs.Numbers.{AreBytes}
use Rattle.fields.specs.Order.{less_bytes, same_bytes}
use Rattle.fields.specs.Parts.{put}
use Rattle.rules.specs.Sizes.{max_each, max_records}
use Rattle.rules.specs.Node.{KeyValue, Node, Rec, scheduled, store}
use Rattle.rules.specs.Table.{Table, node_of, set_node}
use Rattle.rules.specs.Delta.{Faulty, Good, NodeDelta, Ops, Part, parts_of}
use Rattle.rules.specs.Apply.{ApplyOutcome, Lawful, Stream, Taken, Ways, answered, answering, apply, apply_each, apply_node, apply_ops, codes, delta_status, on_node, outcome, stamp, start_at, take_all, taken_as, takes, ways_in, with_room}
use Rattle.rules.specs.Party.{of_keys, own}
use Rattle.rules.specs.Profile.{Kind, recs_fit}
use Rattle.rules.specs.declared.DeltaStatus.{DeltaStatus}
use Rattle.rules.specs.declared.DeltaStatus.TheVariants.{Apply, ApplyAfterReset, Fenced, Reject}
use Rattle.rules.specs.declared.NodeAnswer.{NodeAnswer}
use Rattle.rules.specs.declared.Party.TheVariants.{Building, Metering}
use Rattle.rules.specs.declared.Profile.{Profile}
use Rattle.rules.specs.declared.Profile.TheVariants.{Free, Meter, Shared}
use Rattle.rules.specs.declared.NodeAnswer.TheVariants as node
use Rattle.std.specs.Prelude.{Err, Ok}
use Rattle.rules.specs.declared.Refusal.TheVariants.{NoPlace}
use Rattle.delta_split.specs.Split.{AsUncut, Cuttable, Roomy, cut_places}
use Rattle.delta_split.specs.Times.{RoomTimeless, in_order_at, reversed_at, startless, timeless, timeless_node, unstarted}
use Rattle.delta_split.proofs.Parts.{Says, by_three, cut-in-order, cut-reversed}

-- ---- records

store-bare : (r : Rec) (l : List Rec) → unstarted (store r l) ≡ store (startless r) (unstarted l)
unfolding store unstarted
store-bare r [] = refl
store-bare r (a ∷ l) = go (same_bytes r.kv.key a.kv.key) (less_bytes r.kv.key a.kv.key) (store-bare r l)
  where
    go : (s t : Bool) → unstarted (store r l) ≡ store (startless r) (unstarted l)
        → unstarted (pick s (r ∷ l) (pick t (r ∷ a ∷ l) (a ∷ store r l))) ≡ pick s (startless r ∷ unstarted l) (pick t (startless r ∷ startless a ∷ unstarted l) (startless a ∷ store (startless r) (unstarted l)))
    go true t ih = refl
    go false true ih = refl
    go false false ih = ap (λ (x : List Rec). startless a ∷ x) ih

stamp-bare : (now : ℕ) (r : KeyValue) → startless (stamp now r) ≡ stamp 0 r
stamp-bare now r = λ z. record { kv = r; start = go (scheduled r.status) z }
  where
    go : (b : Bool) → 0 ≡ start_at b 0
    go true = refl
    go false = refl

take_bare : (held gc now : ℕ) (rs : List KeyValue) (l : List Rec) → unstarted (take_all held gc now rs l) ≡ take_all held gc 0 rs (unstarted l)
unfolding take_all
take_bare held gc now [] l = refl
take_bare held gc now (r ∷ rs) l = take_bare held gc now rs (pick (takes held gc r) (store (stamp now r) l) l) ∙ ap (take_all held gc 0 rs) (go (takes held gc r))
  where
    go : (b : Bool) → unstarted (pick b (store (stamp now r) l) l) ≡ pick b (store (stamp 0 r) (unstarted l)) (unstarted l)
    go true = store-bare (stamp now r) l ∙ ap (λ (x : Rec). store x (unstarted l)) (stamp-bare now r)
    go false = refl

-- ---- a node

outcome-bare : (s : DeltaStatus) (now : ℕ) (d : NodeDelta) (n : Node) → timeless_node (outcome s now d n) ≡ outcome s 0 d (timeless_node n)
unfolding outcome unstarted
outcome-bare Reject now d n = refl
outcome-bare Fenced now d n = refl
outcome-bare ApplyAfterReset now d n = let e = take_bare 0 d.last_gc now d.recs [] in λ z. record { heartbeat = (outcome ApplyAfterReset now d n).heartbeat; max = d.max; last_gc = d.last_gc; recs = e z }
outcome-bare Apply now d n = let e = take_bare n.max n.last_gc now d.recs n.recs in λ z. record { heartbeat = n.heartbeat; max = d.max; last_gc = n.last_gc; recs = e z }

abbrev timeless_taken : Taken → Taken
timeless_taken x = record { answer = x.answer; node = timeless_node x.node }

module _ (ways : Ways) (room : RoomTimeless ways) where
  room-bare : (a : NodeAnswer) (o u n : Node) → timeless_node o ≡ u → timeless_taken (with_room ways a o n) ≡ with_room ways a u (timeless_node n)
  room-bare a o u n e =
      subst (λ (x : Node). timeless_taken (with_room ways a o n) ≡ with_room ways a x (timeless_node n)) e
      (go (ways.roomy o.recs) ∙ ap (λ (b : Bool). pick b (taken_as a (timeless_node o)) (taken_as node.Room (timeless_node n))) (sym (room o.recs)))
    where
      go : (b : Bool) → timeless_taken (pick b (taken_as a o) (taken_as node.Room n)) ≡ pick b (taken_as a (timeless_node o)) (taken_as node.Room (timeless_node n))
      go true = refl
      go false = refl

  node-bare : (now : ℕ) (d : NodeDelta) (n : Node) → timeless_taken (apply_node ways now d n) ≡ apply_node ways 0 d (timeless_node n)
  unfolding apply_node delta_status
  node-bare now d n = go (delta_status ways.fence n d) (outcome-bare (delta_status ways.fence n d) now d n)
    where
      go : (s : DeltaStatus) → timeless_node (outcome s now d n) ≡ outcome s 0 d (timeless_node n) → timeless_taken (answered ways s (outcome s now d n) n) ≡ answered ways s (outcome s 0 d (timeless_node n)) (timeless_node n)
      go Reject e = refl
      go Fenced e = refl
      go Apply e = room-bare node.Apply _ _ n e
      go ApplyAfterReset e = room-bare node.ApplyAfterReset _ _ n e

-- ---- a table

abbrev bare_of : Option Node → Option Node
bare_of none = none
bare_of (some n) = some (timeless_node n)

node-of-bare : (i : ℕ) (t : Table) → node_of i (timeless t) ≡ bare_of (node_of i t)
unfolding node_of timeless
node-of-bare i [] = refl
node-of-bare i (e ∷ t) = go (eqb i e.number) (node-of-bare i t)
  where
    go : (b : Bool) → node_of i (timeless t) ≡ bare_of (node_of i t) → pick b (some (timeless_node e.node)) (node_of i (timeless t)) ≡ bare_of (pick b (some e.node) (node_of i t))
    go true ih = refl
    go false ih = ih

set-bare : (i : ℕ) (n : Node) (t : Table) → timeless (set_node i n t) ≡ set_node i (timeless_node n) (timeless t)
unfolding set_node timeless
set-bare i n [] = refl
set-bare i n (e ∷ t) = go (eqb i e.number) (set-bare i n t)
  where
    go : (b : Bool) → timeless (set_node i n t) ≡ set_node i (timeless_node n) (timeless t)
        → timeless (pick b (record { number = e.number; node = n } ∷ t) (e ∷ set_node i n t)) ≡ pick b (record { number = e.number; node = timeless_node n } ∷ timeless t) (record { number = e.number; node = timeless_node e.node } ∷ set_node i (timeless_node n) (timeless t))
    go true ih = refl
    go false ih = ap (λ (x : Table). record { number = e.number; node = timeless_node e.node } ∷ x) ih

abbrev timeless_stream : Stream → Stream
timeless_stream s = record { answers = s.answers; table = timeless s.table }

-- what a call gives, without the starts
abbrev pub untimed : ApplyOutcome → ApplyOutcome
untimed o = record { answer = o.answer; table = timeless o.table; list = o.list }

-- a call that has answer places, and one that has not
abbrev told : ℕ → List ℕ → Stream → ApplyOutcome
told n l s = record { answer = Ok n; table = s.table; list = put 0 (codes s.answers) l }

abbrev placeless : List ℕ → Table → ApplyOutcome
placeless l t = record { answer = (Err (record { why = NoPlace; at = 0 })); table = t; list = l }

module _ (ways : Ways) (room : RoomTimeless ways) where
  each_bare : (now : ℕ) (xs : List Part) (t : Table) → timeless_stream (apply_each (apply_node ways now) xs t) ≡ apply_each (apply_node ways 0) xs (timeless t)
  unfolding apply_each
  each_bare now [] t = refl
  each_bare now (x ∷ xs) t = go (node_of x.number t) (λ u. each_bare now xs u) ∙ ap (λ (o : Option Node). on_node (apply_node ways 0) x o (timeless t) (apply_each (apply_node ways 0) xs)) (sym (node-of-bare x.number t))
    where
      go : (o : Option Node) → ((u : Table) → timeless_stream (apply_each (apply_node ways now) xs u) ≡ apply_each (apply_node ways 0) xs (timeless u))
          → timeless_stream (on_node (apply_node ways now) x o t (apply_each (apply_node ways now) xs)) ≡ on_node (apply_node ways 0) x (bare_of o) (timeless t) (apply_each (apply_node ways 0) xs)
      go none ih = ap (answering node.Unknown) (ih t)
      go (some n) ih =
          let y = node-bare ways room now x.delta n in
          let a : (apply_node ways now x.delta n).answer ≡ (apply_node ways 0 x.delta (timeless_node n)).answer = ap (λ (k : Taken). k.answer) y in
          let m : timeless_node (apply_node ways now x.delta n).node ≡ (apply_node ways 0 x.delta (timeless_node n)).node = ap (λ (k : Taken). k.node) y in
          ap (answering (apply_node ways now x.delta n).answer) (ih (set_node x.number (apply_node ways now x.delta n).node t) ∙ ap (apply_each (apply_node ways 0) xs) (set-bare x.number (apply_node ways now x.delta n).node t ∙ ap (λ (k : Node). set_node x.number k (timeless t)) m))
          ∙ ap (λ (k : NodeAnswer). answering k (apply_each (apply_node ways 0) xs (set_node x.number (apply_node ways 0 x.delta (timeless_node n)).node (timeless t)))) a

  -- A call at any time, without the starts, is the call at time 0 on a table without them.
  pub apply-bare : (b : List ℕ) (now : ℕ) (t : Table) (l : List ℕ) → untimed (apply ways b now t l) ≡ apply ways b 0 (timeless t) l
  unfolding apply
  apply-bare b now t l = go (ways.reads b)
    where
      go : (o : Ops) → untimed (apply_ops (apply_node ways now) o t l) ≡ apply_ops (apply_node ways 0) o (timeless t) l
      go (Faulty r at) = refl
      go (Good ops) = by (leb (length (parts_of ops)) (length l)) (each_bare now (parts_of ops) t)
        where
          n : ℕ
          n = length (parts_of ops)

          by : (c : Bool) → timeless_stream (apply_each (apply_node ways now) (parts_of ops) t) ≡ apply_each (apply_node ways 0) (parts_of ops) (timeless t)
              → untimed (pick c (told n l (apply_each (apply_node ways now) (parts_of ops) t)) (placeless l t)) ≡ pick c (told n l (apply_each (apply_node ways 0) (parts_of ops) (timeless t))) (placeless l (timeless t))
          by true e = ap (told n l) e
          by false e = refl

-- ---- the two parts

module _ (ways : Ways) (lawful : Lawful ways) (cuttable : Cuttable ways) (room : RoomTimeless ways) (b : List ℕ) (are : AreBytes b) (place : ℕ) (at : place ∈ cut_places (ways.reads b)) (now now₁ now₂ : ℕ) (t : Table)
    (list list₁ list₂ : List ℕ) (h : Roomy ways b place list list₁ list₂) where
  -- what holds of three calls at time 0, without the starts, holds of these three
  first-bare : (u : Table) → untimed (apply ways (take place b) now₁ u list₁) ≡ apply ways (take place b) 0 (timeless u) list₁
  first-bare u = apply-bare ways room (take place b) now₁ u list₁

  second-bare : (u : Table) → untimed (apply ways (drop place b) now₂ u list₂) ≡ apply ways (drop place b) 0 (timeless u) list₂
  second-bare u = apply-bare ways room (drop place b) now₂ u list₂

  -- The first part at one time and then the second at another: each node answers as to the uncut delta at any time, and the table is the same but for the starts of records.
  pub times-in-order : let o = in_order_at ways b place now₁ now₂ t list₁ list₂ in
      let w = apply ways b now t list in
      AsUncut w.answer o.first.answer o.second.answer w.list o.first.list o.second.list (timeless w.table) (timeless o.second.table)
  times-in-order =
      by_three (λ w one two. Says w one two two) (apply-bare ways room b now t list) (first-bare t)
      (second-bare (apply ways (take place b) now₁ t list₁).table ∙ ap (λ (o : ApplyOutcome). apply ways (drop place b) 0 o.table list₂) (first-bare t))
      (cut-in-order ways lawful cuttable b are place at 0 (timeless t) list list₁ list₂ h.0 h.1 h.2)

  -- the second part and then the first
  pub times-reversed : let o = reversed_at ways b place now₁ now₂ t list₁ list₂ in
      let w = apply ways b now t list in
      AsUncut w.answer o.first.answer o.second.answer w.list o.first.list o.second.list (timeless w.table) (timeless o.first.table)
  times-reversed =
      by_three (λ w one two. Says w one two one) (apply-bare ways room b now t list)
      (first-bare (apply ways (drop place b) now₂ t list₂).table ∙ ap (λ (o : ApplyOutcome). apply ways (take place b) 0 o.table list₁) (second-bare t)) (second-bare t)
      (cut-reversed ways lawful cuttable b are place at 0 (timeless t) list list₁ list₂ h.0 h.1 h.2)

-- ---- in every mode and profile

length-bare : (l : List Rec) → length (unstarted l) ≡ length l
unfolding unstarted
length-bare [] = refl
length-bare (r ∷ l) = ap suc (length-bare l)

-- the records of some keys
keys-bare : (of : List ℕ → Bool) (l : List Rec) → length (of_keys of (unstarted l)) ≡ length (of_keys of l)
unfolding keep unstarted
keys-bare of [] = refl
keys-bare of (r ∷ l) = go (of r.kv.key) (keys-bare of l)
  where
    go : (b : Bool) → length (of_keys of (unstarted l)) ≡ length (of_keys of l) → length (pick b (startless r ∷ of_keys of (unstarted l)) (of_keys of (unstarted l))) ≡ length (pick b (r ∷ of_keys of l) (of_keys of l))
    go true ih = ap suc ih
    go false ih = ih

fit-bare : (p : Profile) (l : List Rec) → recs_fit p (unstarted l) ≡ recs_fit p l
fit-bare Free l = refl
fit-bare Meter l = refl
fit-bare Shared l = ap₂ (λ (m b : ℕ). leb m max_each && leb b max_each) (keys-bare (own Metering) l) (keys-bare (own Building) l)

pub kind-timeless : (k : Kind) → RoomTimeless (ways_in k)
kind-timeless k l = ap₂ (λ (f : Bool) (n : ℕ). f && leb n max_records) (fit-bare k.profile l) (length-bare l)
