-- Demand 3's end: once writes, deletes and removals cease, as many whole exchanges as the publisher holds records and nodes make every max equal.
use Prim.Native.Nat.{◌+◌, ◌<◌, ◌≤◌, max, suc, ℕ}
use mathlib.Core.Bool.{Bool, ◌&&◌, false, false≢true, true}
use mathlib.Core.List.{List, [], ◌++◌, ◌∷◌}
use mathlib.Core.Option.{Option, some}
use mathlib.Core.Path.{◌∙◌, ◌≡◌, ap, refl, subst, subst₂, sym}
use native.Mathlib.Omega.{arith}
use lib.Dec.{eqb, leb}
use lib.ListN.{length}
use borrow.Author.Tests.{eqb-true, leb-false, leb-true}
use Rattle.fields.proofs.Choice.{and_left, and_right}
use Rattle.fields.specs.Choice.{◌∈◌, here, later, pick}
use Rattle.rules.proofs.Calls.{node_in}
use Rattle.rules.proofs.Digests.{read-written}
use Rattle.rules.proofs.Obeys.{OkTable, facts-table, number_in}
use Rattle.rules.proofs.Tables.{answer-each, node-entry, node-there, part_at, repeated}
use Rattle.rules.proofs.Taking.{taken-node}
use Rattle.rules.specs.Apply.{Lawful, Stream, Ways, apply_node, delta_status, outcome}
use Rattle.rules.specs.Delta.{NodeDelta, Op, delta_bytes, nothing_read, parts_of}
use Rattle.rules.specs.Digest.{Entries, NodeDigest, digest_bytes, digest_of, read_digest}
use Rattle.rules.specs.Node.{Node}
use Rattle.rules.specs.Table.{Entry, Table, node_of, numbers_of, obeys}
use Rattle.rules.specs.declared.NodeAnswer.{NodeAnswer}
use Rattle.rules.specs.declared.NodeAnswer.TheVariants as node
use Rattle.demand3.proofs.EachNode.{node_at, or_fresh, unbeaten}
use Rattle.demand3.proofs.Forms.{Made}
use Rattle.demand3.proofs.Moments.{InOrder, Moment, moment, moment-claims, moments, read-once}
use Rattle.demand3.proofs.Nearer.{Tells, Way, lack, lack-behind, next, stirred, sum, sum-le, sum_lt, sum-none, sum-some, told-held}
use Rattle.demand3.proofs.Needed.{Onward, needed-most, needed-none, onward-gc, onward-same, onward_then}
use Rattle.demand3.proofs.Quiet.{AllBeaten, Calm, beaten-on, calm, lack-ours, lacks, lacks-stays, onward-lacks, way-arriving, way-beating, way-offering, way-receiving, way-sending}
use Rattle.demand3.proofs.Whole.{answered, asked, stream, taken}
use Rattle.demand3.specs.Demand3.{Answered, Asked, NotBegun, SameMax, Stage, all_quiet, ending, granted, holdings, onward, quiet, unlimited, wholes, wide_enough}
use Rattle.demand3.specs.Forms.{Order, ops_by}
use Rattle.demand3.specs.World.{Applying, Arriving, Beating, Computing, DeltaSent, DigestSent, Digesting, Event, Followers, Offering, Receiving, Removing, Sending, World, Writing, after, fresh_table, happen, on_side, start}

-- what the nodes still need is at most one for each record and node
most : (g : ℕ → ℕ) (t : Table) → ((e : Entry) → e ∈ t → g e.number ≤ suc (length e.node.recs)) → sum g (numbers_of t) ≤ holdings t
unfolding sum holdings numbers_of
most g [] h = omega arith
most g (e ∷ t) h = let a = h e (here refl) in let b = most g t (λ x m. h x (later m)) in omega arith

pub after-append : (ways : Ways) (es fs : List Event) (w : World) → after ways (es ++ fs) w ≡ after ways fs (after ways es w)
unfolding after
after-append ways [] fs w = refl
after-append ways (e ∷ es) fs w = after-append ways es fs (happen ways e w)

module _ (ways : Ways) (law : Lawful ways) (is : List ℕ) where
  -- all that is still needed
  abbrev lacking : World → ℕ
  lacking w = sum (lacks w) is

  -- ---- how far a whole exchange has come

  -- from this table of the follower its nodes have gone onward
  abbrev Since : Table → World → Type 0
  Since t w = (i : ℕ) → Onward (node_at i w.publisher) (node_at i t) (node_at i w.follower)

  -- the digest on its way tells, in its edition, what the follower's nodes had when it was written
  record AskedIn (edition : ℕ) (w : World) : Type 0 where
    bytes : List ℕ
    told : List NodeDigest
    was : Table
    sent_is : w.exchange ≡ DigestSent bytes
    read_is : read_digest edition bytes ≡ Entries told []
    tells : Tells told was
    was-nodes : numbers_of was ≡ is
    since : Since was w

  -- the delta on its way was computed for that, of the publisher's table but for heartbeats
  record AnsweredIn (w : World) : Type 0 where
    told : List NodeDigest
    was : Table
    ours : Table
    excluded : List ℕ
    order : Order
    mtu : ℕ
    sent_is : w.exchange ≡ DeltaSent (delta_bytes (ops_by excluded order mtu told ours))
    wide : wide_enough excluded order mtu ≡ true
    made : Made excluded order mtu told ours
    nodes : numbers_of ours ≡ is
    ours-ok : OkTable ours
    beaten : AllBeaten ours w.publisher
    tells : Tells told was
    was-nodes : numbers_of was ≡ is
    since : Since was w

  abbrev At : Stage → World → Type 0
  At NotBegun w = Unit {0}
  At (Asked edition) w = AskedIn edition w
  At Answered w = AnsweredIn w

  -- the follower's table of which the exchange speaks, and all that was needed then
  abbrev table_of : (st : Stage) (w : World) → At st w → Table
  table_of NotBegun w a = w.follower
  table_of (Asked edition) w a = a.was
  table_of Answered w a = a.was

  abbrev lacking_in : (st : Stage) (w : World) → At st w → ℕ
  lacking_in st w a = sum (lack w.publisher (table_of st w a)) is

  -- a calm event leaves it there
  since-on : (t : Table) (w x : World) → Calm w x → Since t w → Since t x
  since-on t w x c s i =
      onward-gc (node_at i w.publisher) (node_at i x.publisher) (node_at i t) (node_at i x.follower) (sym (ap (λ (n : Node). n.last_gc) (c.publisher_beaten i).1))
      (onward_then (node_at i w.publisher) (node_at i t) (node_at i w.follower) (node_at i x.follower) (s i) (c.onward i))

  at-calm : (st : Stage) (w x : World) → Calm w x → x.exchange ≡ w.exchange → At st w → At st x
  at-calm NotBegun w x c e a = tt
  at-calm (Asked edition) w x c e a =
      record {
        bytes = a.bytes;
        told = a.told;
        was = a.was;
        sent_is = e ∙ a.sent_is;
        read_is = a.read_is;
        tells = a.tells;
        was-nodes = a.was-nodes;
        since = since-on a.was w x c a.since;
      }
  at-calm Answered w x c e a =
      record {
        told = a.told;
        was = a.was;
        ours = a.ours;
        excluded = a.excluded;
        order = a.order;
        mtu = a.mtu;
        sent_is = e ∙ a.sent_is;
        wide = a.wide;
        made = a.made;
        nodes = a.nodes;
        ours-ok = a.ours-ok;
        beaten = beaten-on a.ours w.publisher x.publisher a.beaten c.publisher_beaten;
        tells = a.tells;
        was-nodes = a.was-nodes;
        since = since-on a.was w x c a.since;
      }

  module _ (w : World) (m : Moment ways is w) where
    ok : InOrder is w
    ok = m.order

    -- no more is needed now
    since-then : (st : Stage) (a : At st w) → lacking w ≤ lacking_in st w a
    since-then NotBegun a = omega arith
    since-then (Asked edition) a = sum-le (lacks w) (lack w.publisher a.was) is (λ i. onward-lacks ways law is w m a.was i (a.since i))
    since-then Answered a = sum-le (lacks w) (lack w.publisher a.was) is (λ i. onward-lacks ways law is w m a.was i (a.since i))

    -- ---- its three steps

    at-asked : (edition place : ℕ) (l : List ℕ) → granted ways (Digesting edition [] place l) w ≡ true → AskedIn edition (happen ways (Digesting edition [] place l) w)
    unfolding happen
    at-asked edition place l g =
        record {
          bytes = digest_bytes edition (digest_of [] w.follower);
          told = digest_of [] w.follower;
          was = w.follower;
          sent_is = (asked ways is w edition place l g).1;
          read_is = read-written edition (asked ways is w edition place l g).0 [] w.follower (facts-table w.follower ok.follower_ok);
          tells = λ i f e. (ap (λ (d : NodeDigest). d.last_gc) (told-held i w.follower f e), ap (λ (d : NodeDigest). d.max) (told-held i w.follower f e));
          was-nodes = ok.follower_nodes;
          since = λ i. onward-same (node_at i w.publisher) (node_at i w.follower);
        }

    at-answered : (edition : ℕ) (excluded : List ℕ) (order : Order) (mtu place : ℕ) (l : List ℕ) → wide_enough excluded order mtu ≡ true → granted ways (Computing edition excluded order mtu place l) w ≡ true → (e : ℕ) → e ≡ edition → AskedIn e w → AnsweredIn (happen ways (Computing edition excluded order mtu place l) w)
    unfolding happen
    at-answered edition excluded order mtu place l wide g e one a =
        let c = answered ways is w ok edition excluded order mtu place l a.bytes a.told a.sent_is (ap (λ (k : ℕ). read_digest k a.bytes) (sym one) ∙ a.read_is) g in
        record {
          told = a.told;
          was = a.was;
          ours = w.publisher;
          excluded = excluded;
          order = order;
          mtu = mtu;
          sent_is = c.0;
          wide = wide;
          made = c.1;
          nodes = ok.publisher_nodes;
          ours-ok = ok.publisher_ok;
          beaten = λ i. unbeaten i w.publisher;
          tells = a.tells;
          was-nodes = a.was-nodes;
          since = a.since;
        }

    -- they speak of the same table of the follower
    as-asked : (edition place : ℕ) (l : List ℕ) (g : granted ways (Digesting edition [] place l) w ≡ true) → lacking_in (Asked edition) (happen ways (Digesting edition [] place l) w) (at-asked edition place l g) ≡ lacking w
    unfolding happen at-asked
    as-asked edition place l g = refl

    as-answered : (edition : ℕ) (excluded : List ℕ) (order : Order) (mtu place : ℕ) (l : List ℕ) (wide : wide_enough excluded order mtu ≡ true) (g : granted ways (Computing edition excluded order mtu place l) w ≡ true) (e : ℕ) (one : e ≡ edition) (a : AskedIn e w) → lacking_in Answered (happen ways (Computing edition excluded order mtu place l) w) (at-answered edition excluded order mtu place l wide g e one a) ≡ lacking_in (Asked e) w a
    unfolding happen at-answered
    as-answered edition excluded order mtu place l wide g e one a = refl

    -- the last of them: some node needs less, if any needed something when the digest was written
    module _ (now : ℕ) (l : List ℕ) (a : AnsweredIn w) (g : granted ways (Applying now l) w ≡ true) where
      abbrev ops : List Op
      ops = ops_by a.excluded a.order a.mtu a.told a.ours

      abbrev made : Stream
      made = stream ways law ops a.made.sendable.read now l w

      came-to : (happen ways (Applying now l) w ≡ on_side Followers (λ t. made.table) w) × (node.Room ∈ made.answers → ⊥)
      came-to = taken ways law ops a.made.sendable.read now l w a.sent_is g

      once : repeated (parts_of ops) ≡ false
      once = read-once ops nothing_read a.made.sendable.chain

      -- No fence stands against it: a node's last_gc is not above its own max and the publisher's last_gc.
      way : (e : Entry) → e ∈ a.ours → Way ways.fence a.was w.follower e.number e.node
      way e n =
          record {
            was = f.0;
            was_is = f.1;
            came = x.0;
            came_is = x.1;
            onward =
                subst₂ (Onward e.node) (ap or_fresh f.1) (ap or_fresh x.1)
                (onward-gc (node_at e.number w.publisher) e.node (node_at e.number a.was) (node_at e.number w.follower) same (a.since e.number));
            lets = λ y. law.lets _ _ _ y (let c = bounded in let d = same in let h = came_is in omega arith);
          }
        where
          there : (t : Table) → numbers_of t ≡ is → (y : Node) × (node_of e.number t ≡ some y)
          there t q = node-there e.number t (subst (λ (k : List ℕ). e.number ∈ k) (a.nodes ∙ sym q) (number_in n))

          f : (y : Node) × (node_of e.number a.was ≡ some y)
          f = there a.was a.was-nodes

          x : (y : Node) × (node_of e.number w.follower ≡ some y)
          x = there w.follower ok.follower_nodes

          bounded : (node_at e.number w.follower).last_gc ≤ max (node_at e.number w.follower).max (node_at e.number w.publisher).last_gc
          bounded = (m.facts e.number).bounded

          same : (node_at e.number w.publisher).last_gc ≡ e.node.last_gc
          same = ap (λ (y : Node). y.last_gc) (a.beaten e.number).1 ∙ ap (λ (o : Option Node). (or_fresh o).last_gc) (node-entry e a.ours-ok.ascending n)

          came_is : ((node_at e.number w.follower).last_gc ≡ x.0.last_gc) × ((node_at e.number w.follower).max ≡ x.0.max)
          came_is = (ap (λ (o : Option Node). (or_fresh o).last_gc) x.1, ap (λ (o : Option Node). (or_fresh o).max) x.1)

      -- no node answers Room
      took : (i : ℕ) (d : NodeDelta) (f : Node) → part_at i (parts_of ops) ≡ some d → node_of i w.follower ≡ some f → (apply_node ways now d f).node ≡ outcome (delta_status ways.fence f d) now d f
      took i d f p h =
          taken-node ways now d f
          (λ e. came-to.1 (subst (λ (x : NodeAnswer). x ∈ made.answers) e (answer-each (apply_node ways now) i _ w.follower d f p h)))

      falls-one : (i : ℕ) → i ∈ is → 0 < lack w.publisher a.was i → (j : ℕ) × (j ∈ is) × (lacks (happen ways (Applying now l) w) j < lack w.publisher a.was j)
      unfolding next
      falls-one i n z =
          let y =
          lack-behind ways.fence now a.told a.ours a.was w.follower a.ours-ok.ascending way a.tells i
          (subst (λ (k : List ℕ). i ∈ k) (sym a.nodes) n) (let e = lack-ours a.ours w.publisher a.was a.beaten i in omega arith) in
          let s = a.made.stirs a.wide y.0 y.1 y.2 in
          let j = s.0 in
          let x =
          stirred ways.fence now a.told a.ours a.was w.follower a.ours-ok.ascending way a.tells ops once (apply_node ways now) took a.excluded j s.1 s.2
          (a.made.each j s.1 s.2) s.3 in
          let k : lack a.ours made.table j < lack a.ours a.was j = x.1 in
          let c : lacks (happen ways (Applying now l) w) j ≡ lack w.publisher made.table j = ap (λ (y : World). lacks y j) came-to.0 in
          let d = lack-ours a.ours w.publisher made.table a.beaten j in
          let e = lack-ours a.ours w.publisher a.was a.beaten j in
          (j, subst (λ (q : List ℕ). j ∈ q) a.nodes x.0, omega arith)

      falls : (k : ℕ) → lacking_in Answered w a ≤ suc k → lacking (happen ways (Applying now l) w) ≤ k
      falls k h = go (leb 1 (sum then is)) refl
        where
          then : ℕ → ℕ
          then i = lack w.publisher a.was i

          stays : (i : ℕ) → lacks (happen ways (Applying now l) w) i ≤ then i
          stays i = let b = lacks-stays ways law is w m (Applying now l) refl i in let c = onward-lacks ways law is w m a.was i (a.since i) in omega arith

          go : (b : Bool) → leb 1 (sum then is) ≡ b → lacking (happen ways (Applying now l) w) ≤ k
          go true e =
              let some-lack = sum-some then is (leb-true 1 (sum then is) e) in
              let x = falls-one some-lack.0 some-lack.1 some-lack.2 in
              let y = sum_lt (lacks (happen ways (Applying now l) w)) then stays x.1 x.2 in
              omega arith
          go false e = let z = leb-false 1 (sum then is) e in let y = sum-le (lacks (happen ways (Applying now l) w)) then is stays in omega arith

    -- ---- any quiet event

    stays-in-all : (e : Event) → quiet e ≡ true → lacking (happen ways e w) ≤ lacking w
    stays-in-all e q = sum-le (lacks (happen ways e w)) (lacks w) is (lacks-stays ways law is w m e q)

    -- where it brings the exchange, and that the count is kept
    abbrev BringsTo : (to : Stage) (e : Event) (st : Stage) → At st w → Type 0
    BringsTo to e st a = (b : At to (happen ways e w)) × ((k : ℕ) → lacking_in st w a ≤ ending e st + k → lacking_in to (happen ways e w) b ≤ k)

    abbrev Brings : (e : Event) (st : Stage) → At st w → Type 0
    Brings e st a = BringsTo (onward e st) e st a

    -- an event that ends the exchange uncounted
    ends_it : (e : Event) → quiet e ≡ true → (st : Stage) (a : At st w) (k : ℕ) → lacking_in st w a ≤ 0 + k → lacking (happen ways e w) ≤ k
    ends_it e q st a k h = let x = stays-in-all e q in let y = since-then st a in omega arith

    -- one that leaves it where it is
    leaves-it : (e : Event) → quiet e ≡ true → (happen ways e w).exchange ≡ w.exchange → (st : Stage) (a : At st w) → (b : At st (happen ways e w)) × ((k : ℕ) → lacking_in st w a ≤ 0 + k → lacking_in st (happen ways e w) b ≤ k)
    unfolding at-calm
    leaves-it e q s st a = (at-calm st w (happen ways e w) c s a, go st a)
      where
        c : Calm w (happen ways e w)
        c = calm ways law is w m e q

        same : (t : Table) (k : ℕ) → sum (lack w.publisher t) is ≤ k → sum (lack (happen ways e w).publisher t) is ≤ k
        same t k h =
            let y = sum-le (lack (happen ways e w).publisher t) (lack w.publisher t) is (λ i. let z = lack-ours w.publisher (happen ways e w).publisher t c.publisher_beaten i in omega arith) in
            omega arith

        go : (st : Stage) (a : At st w) (k : ℕ) → lacking_in st w a ≤ 0 + k → lacking_in st (happen ways e w) (at-calm st w (happen ways e w) c s a) ≤ k
        go NotBegun a k h = let x = stays-in-all e q in omega arith
        go (Asked edition) a k h = same a.was k (omega arith)
        go Answered a k h = same a.was k (omega arith)

    goes_on : (e : Event) (st : Stage) → quiet e ≡ true → (a : At st w) → unlimited e ≡ true → granted ways e w ≡ true → Brings e st a
    goes_on (Writing i k who c) st q a u g = absurd (false≢true q)
    goes_on (Removing s removal) st q a u g = absurd (false≢true q)
    goes_on (Beating s i) st q a u g = leaves-it (Beating s i) refl (way-beating ways w s i) st a
    goes_on (Offering s i h) st q a u g = leaves-it (Offering s i h) refl (way-offering ways w s i h) st a
    goes_on (Digesting edition [] place l) st q a u g = (at-asked edition place l g, λ k h. let y = since-then st a in let z = as-asked edition place l g in omega arith)
    goes_on (Digesting edition (i ∷ is) place l) st q a u g = absurd (false≢true u)
    goes_on (Computing edition excluded order mtu place l) NotBegun q a u g = (tt, ends_it (Computing edition excluded order mtu place l) refl NotBegun a)
    goes_on (Computing edition excluded order mtu place l) (Asked e) q a u g = same (eqb e edition) refl
      where
        -- the digest is read in the edition that it was written in, or the exchange is not counted
        same : (b : Bool) → eqb e edition ≡ b → BringsTo (pick b Answered NotBegun) (Computing edition excluded order mtu place l) (Asked e) a
        same true p =
            let one = eqb-true e edition p in
            (at-answered edition excluded order mtu place l u g e one a, λ k h. let z = as-answered edition excluded order mtu place l u g e one a in omega arith)
        same false p = (tt, ends_it (Computing edition excluded order mtu place l) refl (Asked e) a)
    goes_on (Computing edition excluded order mtu place l) Answered q a u g = (tt, ends_it (Computing edition excluded order mtu place l) refl Answered a)
    goes_on (Applying now l) NotBegun q a u g = (tt, ends_it (Applying now l) refl NotBegun a)
    goes_on (Applying now l) (Asked edition) q a u g = (tt, ends_it (Applying now l) refl (Asked edition) a)
    goes_on (Applying now l) Answered q a u g = (tt, λ k h. falls now l a g k (omega arith))
    goes_on (Receiving cuts now l) st q a u g = leaves-it (Receiving cuts now l) refl (way-receiving ways w cuts now l) st a
    goes_on (Sending edition digest excluded order mtu place l) st q a u g = leaves-it (Sending edition digest excluded order mtu place l) refl (way-sending ways w edition digest excluded order mtu place l) st a
    goes_on (Arriving k now l) st q a u g = leaves-it (Arriving k now l) refl (way-arriving ways w k now l) st a

  -- ---- all of them

  ends : (fs : List Event) (st : Stage) (w : World) → Moment ways is w → (a : At st w) → all_quiet fs ≡ true → lacking_in st w a ≤ wholes ways st fs w → lacking (after ways fs w) ≡ 0
  unfolding all_quiet wholes after
  ends [] st w m a q h = let y = since-then w m st a in omega arith
  ends (e ∷ fs) st w m a q h = go (unlimited e && granted ways e w) refl h (λ st b k. ends fs st (happen ways e w) (moments ways law is (e ∷ []) w m) b (and_right (quiet e) _ q) k)
    where
      x : World
      x = happen ways e w

      qe : quiet e ≡ true
      qe = and_left (quiet e) _ q

      go : (b : Bool) → (unlimited e && granted ways e w) ≡ b → lacking_in st w a ≤ pick b (ending e st + wholes ways (onward e st) fs x) (wholes ways NotBegun fs x) → ((st : Stage) (b : At st x) → lacking_in st x b ≤ wholes ways st fs x → lacking (after ways fs x) ≡ 0) → lacking (after ways fs x) ≡ 0
      go true p h ih =
          let y = goes_on w m e st qe a (and_left (unlimited e) _ p) (and_right (unlimited e) _ p) in
          ih (onward e st) y.0 (y.1 _ h)
      go false p h ih = ih NotBegun tt (ends_it w m e qe st a _ (omega arith))

  module _ (ok : obeys (fresh_table is) ≡ true) where
    -- After any run that is followed by a quiet one with as many whole exchanges as the publisher holds records and nodes: every node's max is the same
    -- in both tables.
    pub closing : (es fs : List Event)
        → all_quiet fs ≡ true
        → holdings (after ways es (start is)).publisher ≤ wholes ways NotBegun fs (after ways es (start is))
        → SameMax (after ways fs (after ways es (start is))).publisher (after ways fs (after ways es (start is))).follower
    closing es fs calm h i a b p q =
        let low : b.max ≤ a.max = subst₂ (λ (x y : Node). y.max ≤ x.max) (ap or_fresh p) (ap or_fresh q) (moment-claims ways is end m i).never_ahead in
        let x = node_in i end.publisher p in
        let there : i ∈ is = subst (λ (l : List ℕ). i ∈ l) m.order.publisher_nodes (subst (λ (k : ℕ). k ∈ numbers_of end.publisher) (sym x.3) (number_in x.1)) in
        let z : lacking end ≡ 0 = ends fs NotBegun w mw tt calm (let k = held in omega arith) in
        let y : (node_at i end.publisher).max ≤ (node_at i end.follower).max = needed-none _ _ (sum-none (lacks end) z there) in
        let n : (node_at i end.publisher).max ≡ a.max = ap (λ (o : Option Node). (or_fresh o).max) p in
        let f : (node_at i end.follower).max ≡ b.max = ap (λ (o : Option Node). (or_fresh o).max) q in
        omega arith
      where
        w : World
        w = after ways es (start is)

        mw : Moment ways is w
        mw = moment is ok ways law es

        end : World
        end = after ways fs w

        m : Moment ways is end
        m = moments ways law is fs w mw

        held : lacking w ≤ holdings w.publisher
        held =
            subst (λ (l : List ℕ). sum (lacks w) l ≤ holdings w.publisher) mw.order.publisher_nodes
            (most (lacks w) w.publisher
            (λ e n. subst (λ (y : Node). lacks w e.number ≤ suc (length y.recs)) (ap or_fresh (node-entry e mw.order.publisher_ok.ascending n)) (needed-most (node_at e.number w.publisher) (node_at e.number w.follower))))
