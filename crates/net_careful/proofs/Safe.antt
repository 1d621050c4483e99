-- In a careful net hubs in any mode are safe though deltas come late, and no hub is reset: what a hub removes, every hub has, so that no last_gc passes any max.
-- Assumes nothing.
use Prim.Native.Nat.{◌≤◌, suc, zero, ℕ}
use mathlib.Core.Bool.{Bool, ◌&&◌, false, true, true≢false}
use mathlib.Core.List.{List, [], ◌∷◌}
use mathlib.Core.Logic.{◌⊎◌, inl, inr}
use mathlib.Core.Option.{Option, none, some}
use mathlib.Core.Path.{◌∙◌, ◌≡◌, ap, refl, subst, sym}
use native.Mathlib.Omega.{arith}
use lib.Dec.{eqb, leb, ltb}
use lib.ListN.{length, get_or, length-take}
use borrow.Author.Tests.{eq-eqb, eqb-false, eqb-true, le-ltb, leb-true, ltb-true}
use Rattle.fields.proofs.Choice.{all_from, and_right, in-cons, in-none}
use Rattle.fields.specs.Choice.{◌∈◌, here, later, pick}
use Rattle.fields.specs.Parts.{part, put}
use Rattle.rules.proofs.Keeps.{plain-lawful}
use Rattle.rules.proofs.Obeys.{facts-table}
use Rattle.rules.proofs.Records.{gc-below}
use Rattle.rules.proofs.Sending.{node_delta}
use Rattle.rules.proofs.Tables.{part_at}
use Rattle.rules.proofs.Taking.{Came, came, left, reset, took}
use Rattle.rules.specs.Apply.{Lawful, Ways, answered, apply_node, delta_status, newer_of, outcome, plain_ways, status_of, taken_as}
use Rattle.rules.specs.Delta.{Good, NodeDelta, Op, Ops, delta_bytes, nothing_read, parts_of, read_delta}
use Rattle.rules.specs.Given.{Given}
use Rattle.rules.specs.Local.{call_as}
use Rattle.rules.specs.Node.{Decision, Give, Leave, Node, Rec, Refuse, act, due, goes, last_gc_of, remove, scheduled, write}
use Rattle.rules.specs.Table.{Table, node_of, remove_all}
use Rattle.std.specs.Prelude.{Result}
use Rattle.rules.specs.declared.Refusal.{Refusal}
use Rattle.rules.specs.declared.Sent.{Sent}
use Rattle.rules.specs.declared.DeltaStatus.{DeltaStatus}
use Rattle.rules.specs.declared.DeltaStatus.TheVariants.{Apply, ApplyAfterReset, Fenced, Reject}
use Rattle.rules.specs.declared.NodeAnswer.{NodeAnswer}
use Rattle.rules.specs.declared.NodeAnswer.TheVariants as node
use Rattle.rules.specs.declared.Profile.{Profile}
use Rattle.grid.specs.Grid.{Grid, column_at, columns, maxes_told, of_present, place_of, somebody}
use Rattle.fields.specs.Widths.{offset}
use Rattle.grid.specs.GridLayout.{decode_grid, grid_widths, rows_width, valid_grid}
use Rattle.grid.proofs.GridBytes.{rows_long}
use Rattle.grid.specs.Careful.{careful_due, seen_by}
use Rattle.grid.specs.LentGrid.{carefully_removed, fits_table}
use Rattle.demand3.proofs.EachNode.{node_at, or_fresh, parts_in, removed}
use Rattle.demand3.proofs.Forms.{Comes, comes, refuses, writes}
use Rattle.demand3.proofs.Moments.{read-once}
use Rattle.demand3.proofs.Parted.{Parted, nth-sent}
use Rattle.demand3.specs.Forms.{ByClock, Carefully, Order, Removal, ops_by}
use Rattle.demand3.specs.World.{applied_to, sent_after}
use Rattle.net.proofs.Coming.{part-there}
use Rattle.net.proofs.Each.{each-add, each-beat, each-call, each-hub, each-offer, each-taken}
use Rattle.net.proofs.Moments.{Moment, arrived, moment-begin, moment-calls, moment-removing, part-carried, same-table}
use Rattle.net.proofs.Safe.{sound}
use Rattle.net.specs.Net.{Adding, Arriving, Beating, Computing, Dropping, Event, Net, Offering, Plan, Removing, Restoring, Saving, Writing, after, begin, calls, happen, possible, with_table}
use Rattle.net_careful.specs.Careful.{CarefulEvent, CarefulOver, CarefulRun, CarefulSafe, ToldBy, max_at, max_on, told_max}

-- ---- what peers told

pub max-is : (i : ℕ) (t : Table) → max_at i t ≡ (node_at i t).max
max-is i t = go (node_of i t)
  where
    go : (o : Option Node) → max_on o ≡ (or_fresh o).max
    go none = refl
    go (some n) = refl

-- what a peer that is present told is among what those present told
told_in : (ps : List ℕ) (rs : List (List ℕ)) (j p : ℕ) → get_or ps p 0 ≡ 1 → length ps ≤ length rs → get_or (get_or rs p []) j 0 ∈ of_present ps (column_at j rs)
unfolding of_present
told_in [] rs j p e h = let z : ◌≡◌ {A = ℕ} 0 1 = cc in absurd (omega arith)
told_in (f ∷ ps) [] j p e h = absurd (omega arith)
told_in (f ∷ ps) (r ∷ rs) j zero e h =
    subst (λ (b : Bool). get_or r j 0 ∈ pick b (get_or r j 0 ∷ of_present ps (column_at j rs)) (of_present ps (column_at j rs))) (sym (eq-eqb f 1 e)) (here refl)
told_in (f ∷ ps) (r ∷ rs) j (suc p) e h = go (eqb f 1) (told_in ps rs j p e (omega arith))
  where
    go : (b : Bool) → get_or (get_or rs p []) j 0 ∈ of_present ps (column_at j rs) → get_or (get_or rs p []) j 0 ∈ pick b (get_or r j 0 ∷ of_present ps (column_at j rs)) (of_present ps (column_at j rs))
    go true m = later m
    go false m = m

-- there are no more flags than rows
length-present : (l : List ℕ) → length (decode_grid l).present ≤ 8
unfolding decode_grid part
length-present l = rw length-take (omega arith)

-- ---- what a moment is

module _ (ms : List ℕ) where
  -- no last_gc, of a hub or of a delta that was ever computed, passes any hub's max
  pub record Low (w : Net) : Type 0 where
    pub low : (i x y : ℕ) → x ∈ ms → y ∈ ms → (node_at i (w.hubs x)).last_gc ≤ (node_at i (w.hubs y)).max
    pub sent-low : (b : List ℕ) → b ∈ w.sent → (i : ℕ) (d : NodeDelta) → part_at i (parts_in (read_delta b)) ≡ some d → (y : ℕ) → y ∈ ms → d.last_gc ≤ (node_at i (w.hubs y)).max

  -- from the one net to the other no max falls and no last_gc rises
  pub record Onward (v u : Net) : Type 0 where
    pub max-up : (x i : ℕ) → (node_at i (v.hubs x)).max ≤ (node_at i (u.hubs x)).max
    pub gc-same : (x i : ℕ) → x ∈ ms → (node_at i (u.hubs x)).last_gc ≤ (node_at i (v.hubs x)).last_gc

  -- such a step keeps it, if what is sent stays low
  low-on : (v u : Net) → Low v → Onward v u → ((b : List ℕ) → b ∈ u.sent → (i : ℕ) (d : NodeDelta) → part_at i (parts_in (read_delta b)) ≡ some d → (y : ℕ) → y ∈ ms → d.last_gc ≤ (node_at i (v.hubs y)).max) → Low u
  low-on v u k on sent =
      record {
        low = λ i x y m n. let a = k.low i x y m n in let b = on.max-up y i in let c = on.gc-same x i m in omega arith;
        sent-low = λ b m i d q y n. let a = sent b m i d q y n in let c = on.max-up y i in omega arith;
      }

pub low-begin : (ms : List ℕ) → Low ms begin
unfolding node_of
low-begin ms = record { low = λ i x y m n. omega arith; sent-low = λ b m. absurd (in-none m) }

-- ---- the steps of one moment

module _ (plan : Plan) (law : (x : ℕ) → Lawful (plan.ways x)) (ms : List ℕ) (v : Net) (ok : Moment plan.owner v) (k : Low ms v) where
  -- max does not fall, last_gc stays
  abbrev R : ℕ → ℕ → Node → Node → Type 0
  R x i n m = (n.max ≤ m.max) × (m.last_gc ≤ n.last_gc)

  same : (x i : ℕ) (n : Node) → R x i n n
  same x i n = (omega arith, omega arith)

  on-table : (x : ℕ) (u : Table) → ((i : ℕ) → R x i (node_at i (v.hubs x)) (node_at i u)) → Onward ms v (with_table x u v)
  on-table x u r =
      let each = each-hub v R same x u r in
      record { max-up = λ y i. (each y i).0; gc-same = λ y i m. (each y i).1 }

  on_same : Onward ms v v
  on_same = record { max-up = λ x i. omega arith; gc-same = λ x i m. omega arith }

  -- a delta that was ever computed, or a part of it, is not above any hub's max, so that none is reset
  part_low : (b c : List ℕ) (m : b ∈ v.sent) (p : Parted b c) (i : ℕ) (d : NodeDelta) → part_at i (parts_of p.reads.0) ≡ some d → (y : ℕ) → y ∈ ms → d.last_gc ≤ (node_at i (v.hubs y)).max
  part_low b c m p i d q y n = k.sent-low b m i d (p.each i d q) y n

  takes : (ways : Ways) (now : ℕ) (d : NodeDelta) (n : Node) → d.last_gc ≤ n.max → R 0 0 n (apply_node ways now d n).node
  unfolding outcome
  takes ways now d n low = go _ (came ways now d n)
    where
      go : (m : Node) → Came ways now d n m → R 0 0 n m
      go m left = same 0 0 n
      go m (reset r) = let a = r.above_max in absurd (omega arith)
      go m (took r) = (let a = r.newer in omega arith, omega arith)

  -- what a hub computes has its own last_gc
  computed-low : (x : ℕ) → x ∈ ms → (edition : ℕ) (digest excluded : List ℕ) (order : Order) (mtu place : ℕ) (l : List ℕ) (o : Given (Result Sent Refusal) (List ℕ)) → Comes edition excluded order mtu place digest (v.hubs x) l o
      → (b : List ℕ) → b ∈ sent_after place o.lent o.answer v.sent → (i : ℕ) (d : NodeDelta) → part_at i (parts_in (read_delta b)) ≡ some d → (y : ℕ) → y ∈ ms → d.last_gc ≤ (node_at i (v.hubs y)).max
  unfolding node_delta
  computed-low x m edition digest excluded order mtu place l o (refuses r) b n = k.sent-low b n
  computed-low x m edition digest excluded order mtu place l o (writes ds rest e made bytes) b n = at (in-cons n)
    where
      t : Table
      t = v.hubs x

      ops : List Op
      ops = ops_by excluded order mtu ds t

      Good-b : List ℕ → Type 0
      Good-b c = (i : ℕ) (d : NodeDelta) → part_at i (parts_in (read_delta c)) ≡ some d → (y : ℕ) → y ∈ ms → d.last_gc ≤ (node_at i (v.hubs y)).max

      new : Good-b (delta_bytes ops)
      new i d q y z =
          let one = made.sendable.made i d (sym (ap (λ (p : Ops). part_at i (parts_in p)) made.sendable.read) ∙ q) in
          let gc : d.last_gc ≡ (node_at i t).last_gc = ap (λ (p : NodeDelta). p.last_gc) one.delta-is in
          let a = k.low i x y m z in
          omega arith

      at : (b ≡ part place (length (delta_bytes ops)) (put place (delta_bytes ops) l)) ⊎ (b ∈ v.sent) → Good-b b
      at (inl q) = subst Good-b (sym (q ∙ bytes)) new
      at (inr z) = k.sent-low b z

  -- ---- a careful removal

  module _ (x : ℕ) (m : x ∈ ms) (grid : List ℕ) (now grace : ℕ) (told : (y : ℕ) → y ∈ ms → (y ≡ x → ⊥) → ToldBy (v.hubs y) (decode_grid grid)) where
    abbrev g : Grid
    g = decode_grid grid

    abbrev test : ℕ → Rec → Bool
    test = careful_due g now grace

    -- what goes has been seen by every hub
    seen : (i : ℕ) (r : Rec) → r ∈ (node_at i (v.hubs x)).recs → goes (test i) r ≡ true → (y : ℕ) → y ∈ ms → r.kv.version ≤ (node_at i (v.hubs y)).max
    unfolding decode_grid
    seen i r n e y z = at (eqb y x) refl
      where
        all_seen : seen_by (maxes_told i g) r ≡ true
        all_seen = and_right (due now grace r) _ (and_right (scheduled r.kv.status) _ e)

        by : ToldBy (v.hubs y) g → r.kv.version ≤ (node_at i (v.hubs y)).max
        by d =
            let long : length g.present ≤ length g.maxes = omega (arith, rows_long (part (offset grid_widths 4) rows_width grid), length-present grid) in
            let a = leb-true r.kv.version (told_max d.peer i g)
            (all_from (λ t. leb r.kv.version t) (maxes_told i g) all_seen (told_max d.peer i g) (told_in g.present g.maxes (place_of i (columns g)) d.peer d.present long)) in
            omega (arith, d.within i, max-is i (v.hubs y))

        at : (b : Bool) → eqb y x ≡ b → r.kv.version ≤ (node_at i (v.hubs y)).max
        at true q = subst (λ (t : ℕ). r.kv.version ≤ (node_at i (v.hubs t)).max) (sym (eqb-true y x q)) (((ok.tables x).honest i).honest.within r.kv (r, n, refl))
        at false q = by (told y z (eqb-false y x q))

    abbrev u : Table
    u = remove_all test (v.hubs x)

    removed-to : (i : ℕ) → node_at i u ≡ remove (test i) (node_at i (v.hubs x))
    removed-to i = removed i (v.hubs x) test

    -- every max stays
    max-stays : (y i : ℕ) → (node_at i (pick (eqb y x) u (v.hubs y))).max ≡ (node_at i (v.hubs y)).max
    unfolding remove
    max-stays y i = go (eqb y x) refl
      where
        go : (b : Bool) → eqb y x ≡ b → (node_at i (pick b u (v.hubs y))).max ≡ (node_at i (v.hubs y)).max
        go true q = ap (λ (n : Node). n.max) (removed-to i) ∙ ap (λ (t : ℕ). (node_at i (v.hubs t)).max) (sym (eqb-true y x q))
        go false q = refl

    -- and last_gc rises to what all have seen at most
    gc-seen : (i y z : ℕ) → y ∈ ms → z ∈ ms → (node_at i (pick (eqb y x) u (v.hubs y))).last_gc ≤ (node_at i (v.hubs z)).max
    unfolding remove
    gc-seen i y z a b = go (eqb y x)
      where
        mine : last_gc_of (test i) (node_at i (v.hubs x)).last_gc (node_at i (v.hubs x)).recs ≤ (node_at i (v.hubs z)).max
        mine = gc-below (test i) (node_at i (v.hubs x)).last_gc (node_at i (v.hubs z)).max (node_at i (v.hubs x)).recs (k.low i x z m b) (λ r n e. seen i r n e z b)

        go : (c : Bool) → (node_at i (pick c u (v.hubs y))).last_gc ≤ (node_at i (v.hubs z)).max
        go true = let e : (node_at i u).last_gc ≡ last_gc_of (test i) (node_at i (v.hubs x)).last_gc (node_at i (v.hubs x)).recs = ap (λ (n : Node). n.last_gc) (removed-to i) in let c = mine in omega arith
        go false = k.low i y z a b

    low-removing : Low ms (with_table x u v)
    low-removing =
        record {
          low = λ i y z a b. let c = gc-seen i y z a b in let e = max-stays z i in omega arith;
          sent-low = λ b n i d q y z. let c = k.sent-low b n i d q y z in let e = max-stays y i in omega arith;
        }

    max-removing : (y i : ℕ) → (node_at i (v.hubs y)).max ≤ (node_at i ((with_table x u v).hubs y)).max
    max-removing y i = let e = max-stays y i in omega arith

  -- a moment, and no max lower
  pub record Keeps (u : Net) : Type 0 where
    pub moment : Moment plan.owner u
    pub lows : Low ms u
    pub rise : (y i : ℕ) → (node_at i (v.hubs y)).max ≤ (node_at i (u.hubs y)).max

  stay : Keeps v
  stay = record { moment = ok; lows = k; rise = λ y i. omega arith }

  stay-table : (x : ℕ) → Keeps (with_table x (v.hubs x) v)
  stay-table x = let on = on-table x (v.hubs x) (λ i. same x i (node_at i (v.hubs x))) in record { moment = same-table plan.owner v ok x; lows = low-on ms v (with_table x (v.hubs x) v) k on k.sent-low; rise = on.max-up }

  -- a step that goes on
  going : (u : Net) → Moment plan.owner u → Onward ms v u
      → ((b : List ℕ) → b ∈ u.sent → (i : ℕ) (d : NodeDelta) → part_at i (parts_in (read_delta b)) ≡ some d → (y : ℕ) → y ∈ ms → d.last_gc ≤ (node_at i (v.hubs y)).max) → Keeps u
  going u mo on sent = record { moment = mo; lows = low-on ms v u k on sent; rise = on.max-up }

  removing : (x : ℕ) → x ∈ ms → (removal : Removal) → CarefulOver ms x removal v → Keeps (calls plan (Removing x removal) v)
  removing x m (ByClock now grace) o = absurd o
  removing x m (Carefully grid now grace) o = go (valid_grid grid && fits_table (decode_grid grid) (v.hubs x)) (somebody (decode_grid grid))
    where
      go : (a b : Bool) → Keeps (with_table x (pick a (pick b (carefully_removed (decode_grid grid) now grace (v.hubs x)) (v.hubs x)) (v.hubs x)) v)
      go true true =
          record {
            moment = moment-removing plan.owner v ok x (careful_due (decode_grid grid) now grace);
            lows = low-removing x m grid now grace o;
            rise = max-removing x m grid now grace o;
          }
      go true false = stay-table x
      go false b = stay-table x

  -- ---- each event

  eventful : (e : Event) → CarefulEvent ms e v → possible plan.owner e v ≡ true → Keeps (calls plan e v)
  unfolding act write
  eventful (Writing x i key who c) m p =
      let each = each-hub v R same x (call_as (plan.profiles x) who c i key (v.hubs x)).table (each-call v R same (plan.profiles x) who c x i key (λ n z. acted key n z)) in
      going _ (moment-calls plan v ok (Writing x i key who c) tt p) (record { max-up = λ y i. (each y i).0; gc-same = λ y i m. (each y i).1 }) k.sent-low
    where
      acted : (key : List ℕ) (n : Node) (z : Decision) → R 0 0 n (act key z n)
      acted key n (Refuse r) = same 0 0 n
      acted key n Leave = same 0 0 n
      acted key n (Give c) = (omega arith, omega arith)
  eventful (Beating x j) m p = going _ (moment-calls plan v ok (Beating x j) tt p) (on-table x _ (each-beat v R same x j (λ i n b. (omega arith, omega arith)))) k.sent-low
  eventful (Offering x j h) m p = going _ (moment-calls plan v ok (Offering x j h) tt p) (on-table x _ (each-offer v R same x j h (λ i n b. (omega arith, omega arith)))) k.sent-low
  eventful (Removing x removal) m p = removing x m.0 removal m.1
  eventful (Adding x j) m p = going _ (moment-calls plan v ok (Adding x j) tt p) (on-table x _ (each-add v R same x j)) k.sent-low
  eventful (Dropping x j) m p = absurd m
  eventful (Computing x edition digest excluded order mtu place l) m p =
      going _ (moment-calls plan v ok (Computing x edition digest excluded order mtu place l) tt p) (record { max-up = on_same.max-up; gc-same = on_same.gc-same })
      (computed-low x m edition digest excluded order mtu place l _ (comes edition excluded order mtu place digest (v.hubs x) l (facts-table (v.hubs x) (ok.tables x).obeyed)))
  -- any hub takes it, plain ones too: its last_gc is within its own max
  eventful (Arriving x j now l) m p =
      nth-sent (λ y. Keeps (with_table x (applied_to (plan.ways x) now l y (v.hubs x)) v)) (stay-table x) j v.sent (λ b n. (ok.sent b n).reads)
      (λ b c n z. going _ (arrived plan.owner v ok (plan.ways x) (law x) x now l (ltb-true _ _ p) c (part-carried v.given b c (ok.sent b n) z) (λ i d q r. let a = k.low i x x m m in omega arith))
      (on-table x _ (each-taken v R same (plan.ways x) (law x) x now l c v.given (part-carried v.given b c (ok.sent b n) z) (λ i d q. takes (plan.ways x) now d (node_at i (v.hubs x)) (part_low b c n z i d q x m))))
      k.sent-low)
  eventful (Saving x) m p = going _ (moment-calls plan v ok (Saving x) tt p) (record { max-up = on_same.max-up; gc-same = on_same.gc-same }) k.sent-low
  eventful (Restoring x j) m p = absurd m

  pub keeps : (e : Event) → CarefulEvent ms e v → Keeps (happen plan e v)
  unfolding happen
  keeps e m = go (possible plan.owner e v) refl
    where
      go : (b : Bool) → possible plan.owner e v ≡ b → Keeps (pick b (calls plan e v) v)
      go true p = eventful e m p
      go false p = stay

-- ---- a run

pub record Kept (plan : Plan) (ms : List ℕ) (w u : Net) : Type 0 where
  pub moment : Moment plan.owner u
  pub lows : Low ms u
  pub rise : (y i : ℕ) → (node_at i (w.hubs y)).max ≤ (node_at i (u.hubs y)).max

pub keeps-run : (plan : Plan) → ((x : ℕ) → Lawful (plan.ways x)) → (ms : List ℕ) (es : List Event) (w : Net) → Moment plan.owner w → Low ms w → CarefulRun plan ms es w → Kept plan ms w (after plan es w)
unfolding after CarefulRun
keeps-run plan law ms [] w ok k c = record { moment = ok; lows = k; rise = λ y i. omega arith }
keeps-run plan law ms (e ∷ es) w ok k c =
    let n = keeps plan law ms w ok k e c.0 in
    let r = keeps-run plan law ms es (happen plan e w) n.moment n.lows c.1 in
    record { moment = r.moment; lows = r.lows; rise = λ y i. let a = n.rise y i in let b = r.rise y i in omega arith }

-- a delta whose last_gc the node's max reaches resets it in no ways
no-reset : (ways : Ways) (now : ℕ) (d : NodeDelta) (n : Node) → d.last_gc ≤ n.max → (apply_node ways now d n).answer ≡ node.ApplyAfterReset → ⊥
unfolding apply_node delta_status status_of newer_of
no-reset ways now d n low e =
    go (ltb n.max d.from) (ways.fence n.last_gc n.max d.last_gc d.max) (ltb n.last_gc d.last_gc) (ltb n.max d.last_gc) (le-ltb _ _ low) (eqb d.from 0) (ltb n.max d.max) e
  where
    Answer : DeltaStatus → NodeAnswer
    Answer s = (answered ways s (outcome s now d n) n).answer

    room : (b : Bool) → (pick b (taken_as node.Apply (outcome Apply now d n)) (taken_as node.Room n)).answer ≡ node.ApplyAfterReset → ⊥
    room true e = let z : ◌≡◌ {A = ℕ} 0 1 = cc in omega arith
    room false e = let z : ◌≡◌ {A = ℕ} 0 1 = cc in omega arith

    go : (a s b c : Bool) → c ≡ false → (z f : Bool) → Answer (pick a Reject (pick s Fenced (pick (b && c) (pick z ApplyAfterReset Reject) (pick f Apply Reject)))) ≡ node.ApplyAfterReset → ⊥
    go true s b c p z f e = let x : ◌≡◌ {A = ℕ} 0 1 = cc in omega arith
    go false true b c p z f e = let x : ◌≡◌ {A = ℕ} 0 1 = cc in omega arith
    go false false b true p z f e = absurd (true≢false p)
    go false false true false p z true e = room (ways.roomy (outcome Apply now d n).recs) e
    go false false true false p z false e = let x : ◌≡◌ {A = ℕ} 0 1 = cc in omega arith
    go false false false false p z true e = room (ways.roomy (outcome Apply now d n).recs) e
    go false false false false p z false e = let x : ◌≡◌ {A = ℕ} 0 1 = cc in omega arith

-- whoever owns which node, each hub in any of the modes, plain ones too
pub careful-safe : (plan : Plan) → ((x : ℕ) → Lawful (plan.ways x)) → (ms : List ℕ) → CarefulSafe plan ms
careful-safe plan law ms =
    record {
      at_every_moment = λ es c. sound plan law (after plan es begin) (kept es c).moment;
      never_reset =
          λ es r b m ops q y z x n t e now.
          let c = (kept es r).moment.sent b m in
          let same : ops ≡ c.reads.0 = alike ops c.reads.0 (sym q ∙ c.reads.1) in
          let part : part_at y.number (parts_of ops) ≡ some y.delta =
          subst (λ (os : List Op). part_at y.number (parts_of os) ≡ some y.delta) (sym same)
          (part-there (parts_of c.reads.0) (read-once c.reads.0 nothing_read c.reads.2) y (subst (λ (os : List Op). y ∈ parts_of os) same z)) in
          let low = (kept es r).lows.sent-low b m y.number y.delta (ap (λ (o : Ops). part_at y.number (parts_in o)) q ∙ part) x n in
          no-reset (plan.ways x) now y.delta t (subst (λ (u : Node). y.delta.last_gc ≤ u.max) (ap or_fresh e) low);
      seen_by_all =
          λ es r i x y a b n m e f.
          let low = (kept es r).lows.low i x y a b in
          let c : (node_at i ((after plan es begin).hubs x)).last_gc ≡ n.last_gc = ap (λ (o : Option Node). (or_fresh o).last_gc) e in
          let d : (node_at i ((after plan es begin).hubs y)).max ≡ m.max = ap (λ (o : Option Node). (or_fresh o).max) f in
          omega arith;
      maxes_rise =
          λ es fs r s x i.
          let n = kept es r in
          let up = (keeps-run plan law ms fs (after plan es begin) n.moment n.lows s).rise x i in
          omega (arith, max-is i ((after plan es begin).hubs x), max-is i ((after plan fs (after plan es begin)).hubs x));
    }
  where
    kept : (es : List Event) → CarefulRun plan ms es begin → Kept plan ms begin (after plan es begin)
    kept es c = keeps-run plan law ms es begin (moment-begin plan.owner) (low-begin ms) c

    alike : (a b : List Op) → Good a ≡ Good b → a ≡ b
    alike a b e = cc

-- every hub plain, as in the Rust
pub careful-plain : (owner : ℕ → ℕ) (profiles : ℕ → Profile) (ms : List ℕ) → CarefulSafe (record { owner = owner; ways = λ x. plain_ways; profiles = profiles }) ms
careful-plain owner profiles ms = careful-safe _ (λ x. plain-lawful) ms
