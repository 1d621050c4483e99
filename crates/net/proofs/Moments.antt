-- Every moment of a net: the tables obey the rules; every node, everything ever computed and every saved table is honest; and of each node its owner has got
-- to the last version given. Each event keeps this, in ways in which deltas may come late.
use Prim.Native.Nat.{◌<◌, ◌≤◌, max, suc, zero, ℕ}
use mathlib.Core.Bool.{Bool, false, false≢true, not, true, true≢false}
use mathlib.Core.List.{List, [], ◌∷◌}
use mathlib.Core.Logic.{◌⊎◌, inl, inr}
use mathlib.Core.Option.{Option, none, some}
use mathlib.Core.Path.{◌∙◌, ◌≡◌, ap, refl, subst, sym}
use native.Mathlib.Omega.{arith}
use lib.Dec.{eqb}
use lib.ListN.{length}
use borrow.Author.Tests.{eq-eqb, eqb-false, eqb-true, ltb-true}
use Rattle.fields.proofs.Choice.{all_from, and_left, and_right, in-cons, in-none}
use Rattle.fields.specs.Choice.{◌∈◌, here, later, pick}
use Rattle.rules.proofs.Calls.{add-keeps, beat-keeps, call-keeps, node_in, none-obeys, offer-keeps, ok-each, ok-remove-all, remove-node-keeps}
use Rattle.rules.proofs.Obeys.{OkTable, facts-table, table-facts}
use Rattle.rules.proofs.Received.{parts-ok}
use Rattle.rules.proofs.Tables.{applied-table, node-set-other, node-set-same, part_at, taking}
use Rattle.rules.proofs.Taking.{Applies}
use Rattle.rules.specs.Apply.{Lawful, Taken, Ways, apply, apply_each, apply_node}
use Rattle.rules.specs.Delta.{Good, NodeDelta, Op, delta_bytes, nothing_read, parts_of}
use Rattle.rules.specs.Given.{Given}
use Rattle.rules.specs.Local.{add, call, call_as, call_on, remove_node}
use Rattle.rules.specs.Node.{Call, Decision, Give, KeyValue, Leave, Node, Rec, Refuse, act, decide, due, fresh}
use Rattle.rules.specs.Sizes.{numbers}
use Rattle.rules.specs.Table.{Entry, Table, node_of, remove_all, set_node}
use Rattle.std.specs.Prelude.{Result}
use Rattle.rules.specs.declared.Refusal.{Refusal}
use Rattle.rules.specs.declared.Sent.{Sent}
use Rattle.rules.specs.declared.Party.{Party}
use Rattle.rules.specs.declared.Profile.{Profile}
use Rattle.demand3.proofs.Computing.{computed-honest}
use Rattle.demand3.proofs.EachNode.{Beaten, beaten-local, beaten-offer, node-taken, node_at, or_fresh, removed}
use Rattle.demand3.proofs.History.{Numbered}
use Rattle.demand3.proofs.Honest.{HonestDelta, HonestNode, delta-grows, fresh-honest, node-beat, node-grows, node-remove}
use Rattle.demand3.proofs.Moments.{clock-fits, kept, read-once}
use Rattle.demand3.proofs.Formed.{by-guard}
use Rattle.demand3.proofs.Forms.{Comes, comes, refuses, removal-is, writes}
use Rattle.demand3.proofs.OnTheWay.{Sendable}
use Rattle.demand3.proofs.Parted.{Parted, ReadsWell, at-whole, nth-sent}
use Rattle.demand3.proofs.Publisher.{Publisher, next-version, publisher-beat, publisher-fresh, publisher-remove, publisher-write}
use Rattle.demand3.proofs.Step.{node-apply}
use Rattle.demand3.specs.Forms.{Order}
use Rattle.demand3.specs.World.{Which, applied_to, arrives, given_after, given_as, given_by, given_in, sent_after, time_of}
use Rattle.net.proofs.Coming.{node-added, node-dropped}
use Rattle.net.proofs.Owners.{owner-again, owner-stays}
use Rattle.net.specs.Net.{Adding, Arriving, Beating, Computing, Dropping, Event, Net, Offering, Plan, Ready, Removing, Restoring, Saving, Writing, after, begin, calls, happen, has_max, nothing_lost, placed, possible, restored, with_table}

-- ---- what a moment is

-- the newest version given is the number of them
abbrev pub Ends : List KeyValue → Type 0
Ends [] = Unit {0}
Ends (s ∷ h) = s.version ≡ suc (length h)

-- what was given, and later perhaps one more
pub data Longer (h : List KeyValue) : List KeyValue → Type 0 where
  as_long : Longer h h
  longer : (s : KeyValue) → s.version ≡ suc (length h) → Longer h (s ∷ h)

longer-ends : (h g : List KeyValue) → Longer h g → Ends h → Ends g
longer-ends h g as_long e = e
longer-ends h g (longer s q) e = q

longer-node : (h g : List KeyValue) → Longer h g → (n : Node) → HonestNode h n → HonestNode g n
longer-node h g as_long n y = y
longer-node h g (longer s q) n y = node-grows h s q n y

longer-delta : (h g : List KeyValue) → Longer h g → (d : NodeDelta) → HonestDelta h d → HonestDelta g d
longer-delta h g as_long d y = y
longer-delta h g (longer s q) d y = delta-grows h s q d y

-- the bytes of a delta: they are read, and each node's part is honest
pub record Carries (h : ℕ → List KeyValue) (b : List ℕ) : Type 0 where
  pub reads : ReadsWell b
  pub honest : (i : ℕ) (d : NodeDelta) → part_at i (parts_of reads.0) ≡ some d → HonestDelta (h i) d

-- a table: it obeys the rules, and each node is honest
pub record Stands (h : ℕ → List KeyValue) (t : Table) : Type 0 where
  pub obeyed : OkTable t
  pub honest : (i : ℕ) → HonestNode (h i) (node_at i t)

pub record Moment (owner : ℕ → ℕ) (w : Net) : Type 0 where
  pub tables : (x : ℕ) → Stands w.given (w.hubs x)
  pub owners : (i : ℕ) → Publisher (w.given i) (node_at i (w.hubs (owner i)))
  pub ends : (i : ℕ) → Ends (w.given i)
  pub sent : (b : List ℕ) → b ∈ w.sent → Carries w.given b
  pub saved : (x : ℕ) (t : Table) → t ∈ w.saved x → Stands w.given t

-- a part of such bytes
abbrev pub part-carried : (h : ℕ → List KeyValue) (b c : List ℕ) → Carries h b → Parted b c → Carries h c
part-carried h b c y p = record { reads = p.reads; honest = λ i d q. y.honest i d (at-whole b c y.reads p i d q) }

pub moment-begin : (owner : ℕ → ℕ) → Moment owner begin
unfolding node_of
moment-begin owner =
    record {
      tables = λ x. record { obeyed = table-facts [] none-obeys; honest = λ i. fresh-honest [] };
      owners = λ i. publisher-fresh;
      ends = λ i. tt;
      sent = λ b m. absurd (in-none m);
      saved = λ x t m. absurd (in-none m);
    }

-- one more of a list
pub one_more : {A : Type 0} (P : A → Type 0) (a : A) (l : List A) → P a → ((x : A) → x ∈ l → P x) → (x : A) → x ∈ a ∷ l → P x
one_more P a l y f x m = at (in-cons m)
  where
    at : (x ≡ a) ⊎ (x ∈ l) → P x
    at (inl e) = subst P (sym e) y
    at (inr n) = f x n

pub placed-in : {A : Type 0} (k : ℕ) (l : List A) {a : A} → placed k l ≡ some a → a ∈ l
unfolding placed
placed-in k [] e = let z : ◌≡◌ {A = ℕ} 0 1 = cc in absurd (omega arith)
placed-in zero (b ∷ l) {a} e = let q : a ≡ b = cc in here q
placed-in (suc k) (b ∷ l) e = later (placed-in k l e)

-- ---- one table becomes another

module _ (owner : ℕ → ℕ) (w : Net) (ok : Moment owner w) where
  abbrev h : ℕ → List KeyValue
  h = w.given

  num : (i : ℕ) → Numbered (h i)
  num i = (ok.owners i).numbered

  -- what node i of hub x must be
  abbrev Fits : ℕ → ℕ → Node → Type 0
  Fits x i n = HonestNode (h i) n × (owner i ≡ x → Publisher (h i) n)

  fits-now : (x i : ℕ) → Fits x i (node_at i (w.hubs x))
  fits-now x i = ((ok.tables x).honest i, λ e. subst (λ (y : ℕ). Publisher (h i) (node_at i (w.hubs y))) e (ok.owners i))

  -- and one more version may be given to nodes that hub x owns
  grown : (x : ℕ) (u : Table) (g : ℕ → List KeyValue)
      → OkTable u
      → ((i : ℕ) → HonestNode (g i) (node_at i u) × (owner i ≡ x → Publisher (g i) (node_at i u)))
      → ((i : ℕ) → (owner i ≡ x → ⊥) → h i ≡ g i)
      → ((i : ℕ) → Longer (h i) (g i))
      → Moment owner (record { hubs = λ y. pick (eqb y x) u (w.hubs y); given = g; sent = w.sent; saved = w.saved })
  grown x u g okay fits others more =
      record {
        tables = λ y. at y (eqb y x);
        owners = λ i. owns i (eqb (owner i) x) refl;
        ends = λ i. longer-ends (h i) (g i) (more i) (ok.ends i);
        sent = λ b m. let y = ok.sent b m in record { reads = y.reads; honest = λ i d q. longer-delta (h i) (g i) (more i) d (y.honest i d q) };
        saved = λ y t m. stands t (ok.saved y t m);
      }
    where
      stands : (t : Table) → Stands h t → Stands g t
      stands t s = record { obeyed = s.obeyed; honest = λ i. longer-node (h i) (g i) (more i) (node_at i t) (s.honest i) }

      at : (y : ℕ) (b : Bool) → Stands g (pick b u (w.hubs y))
      at y true = record { obeyed = okay; honest = λ i. (fits i).0 }
      at y false = stands (w.hubs y) (ok.tables y)

      owns : (i : ℕ) (b : Bool) → eqb (owner i) x ≡ b → Publisher (g i) (node_at i (pick b u (w.hubs (owner i))))
      owns i true q = (fits i).1 (eqb-true _ _ q)
      owns i false q = subst (λ (l : List KeyValue). Publisher l (node_at i (w.hubs (owner i)))) (others i (eqb-false _ _ q)) (ok.owners i)

  pub changed : (x : ℕ) (u : Table) → OkTable u → ((i : ℕ) → Fits x i (node_at i u)) → Moment owner (with_table x u w)
  changed x u okay fits = grown x u h okay fits (λ i n. refl) (λ i. as_long)

  pub same-table : (x : ℕ) → Moment owner (with_table x (w.hubs x) w)
  same-table x = changed x (w.hubs x) (ok.tables x).obeyed (fits-now x)

  -- ---- heartbeats and removals

  fits-beaten : (x : ℕ) (u : Table) → ((i : ℕ) → Beaten i (w.hubs x) u) → (i : ℕ) → Fits x i (node_at i u)
  fits-beaten x u f i =
      let n : Node = node_at i (w.hubs x) in
      let b = f i in
      let y = fits-now x i in
      subst (Fits x i) (sym b.1) (node-beat (h i) n y.0 b.0, λ e. publisher-beat (h i) n (y.1 e) b.0)

  -- any removal of scheduled records, by node number and record
  pub moment-removing : (x : ℕ) (due : ℕ → Rec → Bool) → Moment owner (with_table x (remove_all due (w.hubs x)) w)
  moment-removing x due =
      changed x _ (ok-remove-all due (w.hubs x) (ok.tables x).obeyed)
      (λ i.
      let y = fits-now x i in
      let n : Node = node_at i (w.hubs x) in
      subst (Fits x i) (sym (removed i (w.hubs x) due)) (node-remove (h i) n y.0 (due i), λ e. publisher-remove (h i) n (y.1 e) (due i)))

  -- ---- nodes come and go

  moment-adding : (x j : ℕ) → j < numbers → Moment owner (with_table x (add j (w.hubs x)).table w)
  moment-adding x j b =
      changed x _ (kept (w.hubs x) _ (add-keeps j (w.hubs x) b) (ok.tables x).obeyed)
      (λ i. subst (Fits x i) (sym (node-added i j (w.hubs x))) (fits-now x i))

  moment-dropping : (x j : ℕ) → (owner j ≡ x → ⊥) → Moment owner (with_table x (remove_node j (w.hubs x)).table w)
  moment-dropping x j other =
      changed x _ (kept (w.hubs x) _ (remove-node-keeps j (w.hubs x)) (ok.tables x).obeyed)
      (λ i. go i (node-dropped i j (w.hubs x) (ok.tables x).obeyed.ascending))
    where
      u : Table
      u = (remove_node j (w.hubs x)).table

      go : (i : ℕ) → (node_at i u ≡ node_at i (w.hubs x)) ⊎ ((i ≡ j) × (node_at i u ≡ fresh)) → Fits x i (node_at i u)
      go i (inl e) = subst (Fits x i) (sym e) (fits-now x i)
      go i (inr e) = subst (Fits x i) (sym e.1) (fresh-honest (h i), λ q. absurd (other (ap owner (sym e.0) ∙ q)))

  -- ---- the owner writes

  module _ (x i : ℕ) (k : List ℕ) (own : owner i ≡ x) where
    abbrev t : Table
    t = w.hubs x

    -- any decision about a key
    decided : (z : Decision) (p : Node) → node_of i t ≡ some p → OkTable (set_node i (act k z p) t) → Moment owner (record { hubs = λ y. pick (eqb y x) (set_node i (act k z p) t) (w.hubs y); given = λ j. pick (eqb j i) (given_after k z p (h j)) (h j); sent = w.sent; saved = w.saved })
    unfolding act
    decided z p held okay = grown x (set_node i (act k z p) t) (λ j. pick (eqb j i) (given_after k z p (h j)) (h j)) okay (λ j. fits j (eqb j i) refl) (λ j f. others j f (eqb j i) refl) (λ j. more j (eqb j i) refl)
      where
        owns : (j : ℕ) → eqb j i ≡ true → Publisher (h j) p
        owns j q =
            let e : j ≡ i = eqb-true j i q in
            subst (Publisher (h j)) (ap (λ (y : ℕ). node_at y t) e ∙ ap or_fresh held) ((fits-now x j).1 (ap owner e ∙ own))

        acts : (z : Decision) (g : List KeyValue) → Publisher g p → Publisher (given_after k z p g) (act k z p)
        acts (Refuse r) g y = y
        acts Leave g y = y
        acts (Give c) g y = publisher-write g p y k c

        adds : (z : Decision) (g : List KeyValue) → Publisher g p → Longer g (given_after k z p g)
        adds (Refuse r) g y = as_long
        adds Leave g y = as_long
        adds (Give c) g y = longer (given_by k c p) (next-version g p y k c)

        fits : (j : ℕ) (b : Bool) → eqb j i ≡ b → HonestNode (pick b (given_after k z p (h j)) (h j)) (node_at j (set_node i (act k z p) t)) × (owner j ≡ x → Publisher (pick b (given_after k z p (h j)) (h j)) (node_at j (set_node i (act k z p) t)))
        fits j true q =
            let is : node_at j (set_node i (act k z p) t) ≡ act k z p =
            ap or_fresh (subst (λ (y : ℕ). node_of y (set_node i (act k z p) t) ≡ some (act k z p)) (sym (eqb-true j i q)) (node-set-same i (act k z p) t held)) in
            let y : Publisher (given_after k z p (h j)) (node_at j (set_node i (act k z p) t)) = subst (Publisher (given_after k z p (h j))) (sym is) (acts z (h j) (owns j q)) in
            (y.node, λ e. y)
        fits j false q = subst (Fits x j) (sym (ap or_fresh (node-set-other j i (act k z p) t q))) (fits-now x j)

        others : (j : ℕ) → (owner j ≡ x → ⊥) → (b : Bool) → eqb j i ≡ b → h j ≡ pick b (given_after k z p (h j)) (h j)
        others j f true q = absurd (f (ap owner (eqb-true j i q) ∙ own))
        others j f false q = refl

        more : (j : ℕ) (b : Bool) → eqb j i ≡ b → Longer (h j) (pick b (given_after k z p (h j)) (h j))
        more j true q = adds z (h j) (owns j q)
        more j false q = as_long

    -- on a node that it does not have, or out of its profile
    nowhere : Moment owner (record { hubs = λ y. pick (eqb y x) t (w.hubs y); given = λ j. pick (eqb j i) (h j) (h j); sent = w.sent; saved = w.saved })
    nowhere = grown x t (λ j. pick (eqb j i) (h j) (h j)) (ok.tables x).obeyed (λ j. fits j (eqb j i)) (λ j f. same j (eqb j i)) (λ j. more j (eqb j i))
      where
        same : (j : ℕ) (b : Bool) → h j ≡ pick b (h j) (h j)
        same j true = refl
        same j false = refl

        more : (j : ℕ) (b : Bool) → Longer (h j) (pick b (h j) (h j))
        more j true = as_long
        more j false = as_long

        fits : (j : ℕ) (b : Bool) → HonestNode (pick b (h j) (h j)) (node_at j t) × (owner j ≡ x → Publisher (pick b (h j) (h j)) (node_at j t))
        fits j true = fits-now x j
        fits j false = fits-now x j

    abbrev Written : Table → (List KeyValue → List KeyValue) → Type 0
    Written u g = Moment owner (record { hubs = λ y. pick (eqb y x) u (w.hubs y); given = λ j. pick (eqb j i) (g (h j)) (h j); sent = w.sent; saved = w.saved })

    called : (c : Call) → time_of c < numbers → Written (call c i k t).table (given_in k c (node_of i t))
    unfolding call
    called c clock = go (node_of i t) refl (kept t _ (call-keeps c i k t (clock-fits c clock)) (ok.tables x).obeyed)
      where
        go : (o : Option Node) → node_of i t ≡ o → OkTable (call_on c i k o t).table → Moment owner (record { hubs = λ y. pick (eqb y x) (call_on c i k o t).table (w.hubs y); given = λ j. pick (eqb j i) (given_in k c o (h j)) (h j); sent = w.sent; saved = w.saved })
        go none q okay = nowhere
        go (some p) q okay = decided (decide c k p) p q okay

    moment-writing : (p : Profile) (who : Party) (c : Call) → time_of c < numbers → Written (call_as p who c i k t).table (given_as p who k c (node_of i t))
    moment-writing p who c clock = by-guard p who c i k t Written nowhere (called c clock)

  -- ---- computing

  -- what a hub computes for any digest is honest, node by node
  carried : (x : ℕ) (ops : List Op) → Sendable (w.hubs x) ops → Carries h (delta_bytes ops)
  carried x ops s =
      record {
        reads = (ops, s.read, s.chain, s.small, refl);
        honest =
            λ i d q.
            let m = s.made i d q in
            subst (HonestDelta (h i)) (sym m.delta-is)
            (computed-honest (h i) (num i) (node_at i (w.hubs x)) ((ok.tables x).honest i) m.told_gc m.told-max m.count m.fits);
      }

  abbrev with_sent : List (List ℕ) → Net
  with_sent s = record { hubs = w.hubs; given = h; sent = s; saved = w.saved }

  pub moment-sending : (x : ℕ) (ops : List Op) → Sendable (w.hubs x) ops → Moment owner (with_sent (delta_bytes ops ∷ w.sent))
  moment-sending x ops s =
      record {
        tables = ok.tables;
        owners = ok.owners;
        ends = ok.ends;
        sent = one_more (Carries h) _ w.sent (carried x ops s) ok.sent;
        saved = ok.saved;
      }

  module _ (x edition : ℕ) (digest excluded : List ℕ) (order : Order) (mtu place : ℕ) (l : List ℕ) where
    moment-computing : (o : Given (Result Sent Refusal) (List ℕ)) → Comes edition excluded order mtu place digest (w.hubs x) l o → Moment owner (with_sent (sent_after place o.lent o.answer w.sent))
    moment-computing o (refuses r) = ok
    moment-computing o (writes ds rest e made there) = subst (λ (b : List ℕ). Moment owner (with_sent (b ∷ w.sent))) (sym there) (moment-sending x _ made.sendable)

  -- ---- a delta arrives

  module _ (ways : Ways) (law : Lawful ways) (x now : ℕ) (l : List ℕ) (clock : now < numbers) where
    -- in any ways, if what is taken without a reset reaches the node's last_gc
    pub arrived : (b : List ℕ) (y : Carries h b)
        → ((i : ℕ) (d : NodeDelta) → part_at i (parts_of y.reads.0) ≡ some d → Applies ways now d (node_at i (w.hubs x)) → (node_at i (w.hubs x)).last_gc ≤ max (node_at i (w.hubs x)).max (max d.last_gc d.max))
        → Moment owner (with_table x (apply ways b now (w.hubs x) l).table w)
    arrived b y reaches =
        applied-table ways b now (w.hubs x) l (λ u. Moment owner (with_table x u w)) (same-table x)
        (λ os q. subst (λ (ops : List Op). Moment owner (with_table x (apply_each take (parts_of ops) (w.hubs x)).table w)) (sym (same os (sym (law.reads_so b os q) ∙ y.reads.1))) taken)
      where
        take : NodeDelta → Node → Taken
        take = apply_node ways now

        ops : List Op
        ops = y.reads.0

        same : (os : List Op) → Good os ≡ Good ops → os ≡ ops
        same os q = cc

        u : Table
        u = (apply_each take (parts_of ops) (w.hubs x)).table

        heard : (i : ℕ) (o : Option NodeDelta) → part_at i (parts_of ops) ≡ o → Fits x i (taking take o (node_at i (w.hubs x)))
        heard i none q = fits-now x i
        heard i (some d) q =
            let n : Node = node_at i (w.hubs x) in
            let hon = y.honest i d q in
            let f = fits-now x i in
            (node-apply (h i) (num i) now d hon n f.0 ways (reaches i d q), λ e. subst (λ (r : Taken). Publisher (h i) r.node) (sym (owner-stays ways law (h i) n (f.1 e) d hon now)) (f.1 e))

        each : (i : ℕ) → (node_at i u ≡ node_at i (w.hubs x)) ⊎ (node_at i u ≡ taking take (part_at i (parts_of ops)) (node_at i (w.hubs x))) → Fits x i (node_at i u)
        each i (inl e) = subst (Fits x i) (sym e) (fits-now x i)
        each i (inr e) = subst (Fits x i) (sym e) (heard i (part_at i (parts_of ops)) refl)

        taken : Moment owner (with_table x u w)
        taken =
            changed x u (ok-each ways law now clock (parts_of ops) (w.hubs x) (parts-ok ops nothing_read y.reads.2 y.reads.3) (ok.tables x).obeyed)
            (λ i. each i (node-taken i (w.hubs x) take (parts_of ops) (read-once ops nothing_read y.reads.2)))

    -- where deltas may come late, what is not fenced off does
    moment-arriving : ways.late ≡ true → (k : Which) → Moment owner (with_table x (applied_to ways now l (arrives k w.sent) (w.hubs x)) w)
    moment-arriving late k =
        nth-sent (λ y. Moment owner (with_table x (applied_to ways now l y (w.hubs x)) w)) (same-table x) k w.sent (λ b m. (ok.sent b m).reads)
        (λ b c m p. arrived c (part-carried h b c (ok.sent b m) p) (λ i d q r. law.safe late (node_at i (w.hubs x)).last_gc (node_at i (w.hubs x)).max d.last_gc d.max r.let-in))

  -- ---- tables are saved and restored

  moment-saving : (x : ℕ) → Moment owner (record { hubs = w.hubs; given = h; sent = w.sent; saved = λ y. pick (eqb y x) (w.hubs x ∷ w.saved x) (w.saved y) })
  moment-saving x =
      record {
        tables = ok.tables;
        owners = ok.owners;
        ends = ok.ends;
        sent = ok.sent;
        saved = λ y. go y (eqb y x);
      }
    where
      go : (y : ℕ) (b : Bool) (t : Table) → t ∈ pick b (w.hubs x ∷ w.saved x) (w.saved y) → Stands h t
      go y true t m = one_more (Stands h) (w.hubs x) (w.saved x) (ok.tables x) (ok.saved x) t m
      go y false t m = ok.saved y t m

  module _ (x : ℕ) where
    -- none of the hub's writes is lost
    same_max : (old : Table) → Stands h old → nothing_lost owner x (w.hubs x) (some old) ≡ true → (i : ℕ) → owner i ≡ x → (node_at i old).max ≡ (node_at i (w.hubs x)).max
    same_max old s lost i own = go (node_of i (w.hubs x)) refl ((fits-now x i).1 own)
      where
        test : Entry → Bool
        test e = pick (eqb (owner e.number) x) (has_max e.node.max (node_of e.number old)) true

        has-max : (p : Node) → node_of i (w.hubs x) ≡ some p → has_max p.max (node_of i old) ≡ true
        has-max p q =
            let y = node_in i (w.hubs x) q in
            let e : Entry = y.0 in
            let passes : pick (eqb (owner e.number) x) (has_max e.node.max (node_of e.number old)) true ≡ true = all_from test (w.hubs x) lost e y.1 in
            let mine : eqb (owner e.number) x ≡ true = eq-eqb (owner e.number) x (ap owner (sym y.3) ∙ own) in
            let same : has_max e.node.max (node_of e.number old) ≡ true = subst (λ (b : Bool). pick b (has_max e.node.max (node_of e.number old)) true ≡ true) mine passes in
            subst (λ (m : Node). has_max m.max (node_of i old) ≡ true) y.2 (subst (λ (j : ℕ). has_max e.node.max (node_of j old) ≡ true) (sym y.3) same)

        at : (m : ℕ) (o : Option Node) → has_max m o ≡ true → (or_fresh o).max ≡ m
        at m none q = absurd (false≢true q)
        at m (some n) q = eqb-true _ _ q

        go : (o : Option Node) → node_of i (w.hubs x) ≡ o → Publisher (h i) (or_fresh o) → (node_at i old).max ≡ (or_fresh o).max
        go none q y = let a = y.top in let b = (s.honest i).honest.max-low in omega arith
        go (some p) q y = at p.max (node_of i old) (has-max p q)

    moment-restoring : (k : ℕ) → nothing_lost owner x (w.hubs x) (placed k (w.saved x)) ≡ true → Moment owner (with_table x (restored (placed k (w.saved x)) (w.hubs x)) w)
    moment-restoring k lost = go (placed k (w.saved x)) (λ t e. placed-in k (w.saved x) e) lost
      where
        go : (o : Option Table) → ((t : Table) → o ≡ some t → t ∈ w.saved x) → nothing_lost owner x (w.hubs x) o ≡ true → Moment owner (with_table x (restored o (w.hubs x)) w)
        go none f lost = same-table x
        go (some old) f lost =
            let s = ok.saved x old (f old refl) in
            changed x old s.obeyed (λ i. (s.honest i, λ e. owner-again (h i) (node_at i (w.hubs x)) (node_at i old) ((fits-now x i).1 e) (s.honest i) (same_max old s lost i e)))

-- ---- a run

-- a delta that was ever computed comes only to a hub that is not plain
abbrev pub MayCome : Plan → Event → Type 0
MayCome plan (Writing x i k who c) = Unit {0}
MayCome plan (Beating x i) = Unit {0}
MayCome plan (Offering x i h) = Unit {0}
MayCome plan (Removing x removal) = Unit {0}
MayCome plan (Adding x i) = Unit {0}
MayCome plan (Dropping x i) = Unit {0}
MayCome plan (Computing x edition digest excluded order mtu place l) = Unit {0}
MayCome plan (Arriving x k now l) = Lawful (plan.ways x) × ((plan.ways x).late ≡ true)
MayCome plan (Saving x) = Unit {0}
MayCome plan (Restoring x k) = Unit {0}

ready_for : (plan : Plan) → Ready plan → (e : Event) → MayCome plan e
ready_for plan ready (Writing x i k who c) = tt
ready_for plan ready (Beating x i) = tt
ready_for plan ready (Offering x i h) = tt
ready_for plan ready (Removing x removal) = tt
ready_for plan ready (Adding x i) = tt
ready_for plan ready (Dropping x i) = tt
ready_for plan ready (Computing x edition digest excluded order mtu place l) = tt
ready_for plan ready (Arriving x k now l) = (ready.lawful x, ready.late x)
ready_for plan ready (Saving x) = tt
ready_for plan ready (Restoring x k) = tt

module _ (plan : Plan) (w : Net) (ok : Moment plan.owner w) where
  pub moment-calls : (e : Event) → MayCome plan e → possible plan.owner e w ≡ true → Moment plan.owner (calls plan e w)
  moment-calls (Writing x i k who c) law p = moment-writing plan.owner w ok x i k (eqb-true _ _ (and_left _ _ p)) (plan.profiles x) who c (ltb-true _ _ (and_right (eqb (plan.owner i) x) _ p))
  moment-calls (Beating x j) law p =
      changed plan.owner w ok x _ (kept (w.hubs x) _ (beat-keeps j (w.hubs x)) (ok.tables x).obeyed) (fits-beaten plan.owner w ok x _ (λ i. beaten-local i (w.hubs x) j))
  moment-calls (Offering x j b) law p =
      changed plan.owner w ok x _ (kept (w.hubs x) _ (offer-keeps j b (w.hubs x) (ltb-true _ _ p)) (ok.tables x).obeyed)
      (fits-beaten plan.owner w ok x _ (λ i. beaten-offer i (w.hubs x) j b))
  moment-calls (Removing x removal) law p =
      let r = removal-is removal (w.hubs x) in
      subst (λ (t : Table). Moment plan.owner (with_table x t w)) (sym r.1) (moment-removing plan.owner w ok x r.0)
  moment-calls (Adding x j) law p = moment-adding plan.owner w ok x j (ltb-true _ _ p)
  moment-calls (Dropping x j) law p = moment-dropping plan.owner w ok x j (λ e. true≢false (sym p ∙ ap not (eq-eqb _ _ e)))
  moment-calls (Computing x edition digest excluded order mtu place l) law p =
      moment-computing plan.owner w ok x edition digest excluded order mtu place l _ (comes edition excluded order mtu place digest (w.hubs x) l (facts-table (w.hubs x) (ok.tables x).obeyed))
  moment-calls (Arriving x k now l) law p = moment-arriving plan.owner w ok (plan.ways x) law.0 x now l (ltb-true _ _ p) law.1 k
  moment-calls (Saving x) law p = moment-saving plan.owner w ok x
  moment-calls (Restoring x k) law p = moment-restoring plan.owner w ok x k p

  pub moment-event : Ready plan → (e : Event) → Moment plan.owner (happen plan e w)
  unfolding happen
  moment-event ready e = go (possible plan.owner e w) refl
    where
      go : (b : Bool) → possible plan.owner e w ≡ b → Moment plan.owner (pick b (calls plan e w) w)
      go true q = moment-calls e (ready_for plan ready e) q
      go false q = ok

pub moments : (plan : Plan) → Ready plan → (es : List Event) (w : Net) → Moment plan.owner w → Moment plan.owner (after plan es w)
unfolding after
moments plan ready [] w ok = ok
moments plan ready (e ∷ es) w ok = moments plan ready es (happen plan e w) (moment-event plan w ok ready e)
