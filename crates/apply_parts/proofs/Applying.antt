-- Applying, level by level: the outcome of each status on a node's bytes, one node delta on a table's bytes, the stream of them. Assumes nothing.
use Prim.Native.Nat.{ℕ, ◌+◌, ◌-◌, ◌≤◌, ◌<◌}
use mathlib.Core.Path.{◌≡◌, refl, ap, sym, ◌∙◌, subst, ap₂}
use mathlib.Core.Bool.{Bool, true, false}
use mathlib.Core.List.{List, [], ◌∷◌}
use mathlib.Core.Option.{Option, none, some}
use native.Mathlib.Omega.{arith}
use native.Mathlib.Numerals.{add-one}
use lib.ListN.{length, take, drop, get_or, set, length-set, drop_of_length-le}
use lib.Seq.{drop-cons}
use Rattle.fields.specs.Choice.{pick, ◌∈◌, here, later}
use Rattle.fields.specs.Numbers.{AreBytes}
use Rattle.fields.specs.Parts.{part, put}
use Rattle.fields.proofs.Choice.{in-none, in-at}
use Rattle.fields.proofs.Parts.{put-nil, put-cons}
use borrow.Rule.Slice.PartMut.{put_mid}
use Rattle.rules.specs.Sizes.{numbers}
use Rattle.rules.specs.Answers.{code_of}
use Rattle.rules.specs.Node.{Node}
use Rattle.rules.specs.Table.{Table, node_of, set_node, among, obeys}
use Rattle.rules.specs.Delta as rule
use Rattle.rules.specs.Profile.{Kind}
use Rattle.rules.specs.Apply.{Taken, Stream, taken_as, with_room, answered, status_of, delta_status, outcome, apply_node, on_node, answering, apply_each, codes, ways_in}
use Rattle.rules.specs.Layout.{node_width, encode_node, decode_node, encode, decode, valid}
use Rattle.rules.specs.Given.{Gives}
use Rattle.rules.specs.Local.{gives}
use Rattle.rules.specs.Lent.{stored, both}
use Rattle.rules.specs.declared.DeltaStatus.{DeltaStatus}
use Rattle.rules.specs.declared.DeltaStatus.TheVariants.{Reject, Fenced, Apply, ApplyAfterReset}
use Rattle.rules.specs.declared.NodeAnswer.{NodeAnswer}
use Rattle.rules.specs.declared.NodeAnswer.TheVariants as node
use Rattle.rules.proofs.Obeys.{OkTable, table-facts, facts-table}
use Rattle.rules.proofs.Received.{OkDelta, parts-ok}
use Rattle.rules.proofs.Deltas.{delta-is}
use Rattle.rules.proofs.Calls.{ok-each}
use Rattle.rules.proofs.Refusing.{set_same}
use Rattle.profiles.proofs.Lawful.{kind-lawful}
use Rattle.leaving.specs.Leaving.{left_alone, leaving, leaving_each}
use Rattle.leaving.proofs.Left.{each_left}
use Rattle.leaving.proofs.Keeps.{kept-ok}
use Rattle.delta_op.specs.Plain.{ops_from}
use Rattle.delta_op.proofs.Plain.{good-plain}
use Rattle.table.specs.Fits.{LaidNode}
use Rattle.table.specs.Changes.{with_node}
use Rattle.table_read.specs.Find.{span_in, header_of}
use Rattle.std.specs.Prelude.{None, Some}
use Rattle.table_read.proofs.Held.{node_seen, held-laid, held-rises, held-node, held_gives, missing-node, stays-gives}
use Rattle.rules.specs.declared.Header.{Header}
use Rattle.table.proofs.Tables.{length-table, decode-encode, valid-encode, encode-decode, valid-obeys, valid-long}
use Rattle.delta_read.specs.NodeDeltas.{parts_from, delta_of, no_part}
use Rattle.apply_node.specs.Taking.{Rising}
use Rattle.apply_grow.specs.Growing.{begun, grown, Stored}
use Rattle.apply_parts.specs.Applying.{leaves, resets, answer_as, node_taken, node_applied, on_held_by, part_leaving, parts_leaving, Accepted}

-- ---- a node's answer, by the status

module _ (k : Kind) (clock : ℕ) (s : List ℕ) (gc from max at : ℕ) (b : List ℕ) (o : LaidNode b) where
  d : rule.NodeDelta
  d = delta_of s gc from max at

  n : Node
  n = (decode_node b).node

  -- the header that was read is the node's
  pub status-is : (h : Header) (v : DeltaStatus) → h ≡ header_of (decode_node b).node → v ≡ status_of (ways_in k).fence h.last_gc h.max from gc max
      → v ≡ delta_status (ways_in k).fence (decode_node b).node (delta_of s gc from max at)
  unfolding delta_status
  status-is h v e q = q ∙ ap (λ (x : Header). status_of (ways_in k).fence x.last_gc x.max from gc max) e

  by-room : (a : NodeAnswer) (x : Node) (r : Bool) (b' : List ℕ) → Stored k.profile (with_node x (decode_node b)) b r b' → (y : Taken) → y ≡ with_room (ways_in k) a x (decode_node b).node
      → Gives (node_taken y b) (pick r a node.Room) b'
  by-room a x true b' t y e =
      let p : y ≡ taken_as a x = e ∙ ap (λ (q : Bool). pick q (taken_as a x) (taken_as node.Room (decode_node b).node)) (sym t.room) in
      (sym (ap (λ (z : Taken). z.answer) p), t.bytes ∙ ap (λ (z : Taken). encode_node (with_node z.node (decode_node b))) (sym p))
  by-room a x false b' t y e =
      let p : y ≡ taken_as node.Room (decode_node b).node = e ∙ ap (λ (q : Bool). pick q (taken_as a x) (taken_as node.Room (decode_node b).node)) (sym t.room) in
      (sym (ap (λ (z : Taken). z.answer) p), t.bytes ∙ sym o.is ∙ ap (λ (z : Taken). encode_node (with_node z.node (decode_node b))) (sym p))

  module _ (v : DeltaStatus) (is : v ≡ delta_status (ways_in k).fence (decode_node b).node (delta_of s gc from max at)) where
    by-status : (w : DeltaStatus) → v ≡ w → apply_node (ways_in k) clock d n ≡ answered (ways_in k) w (outcome w clock d n) n
    unfolding d n apply_node
    by-status w q = ap (λ (x : DeltaStatus). answered (ways_in k) x (outcome x clock d n) n) (sym is ∙ q)

    pub untouched : leaves v ≡ true → (r : Bool) (a : NodeAnswer) → a ≡ answer_as v r → Gives (node_applied k clock (delta_of s gc from max at) b) a b
    unfolding d n
    untouched q r a ae = go v refl q ae
      where
        stays : (c : NodeAnswer) → apply_node (ways_in k) clock d n ≡ taken_as c n → a ≡ c → Gives (node_applied k clock (delta_of s gc from max at) b) a b
        stays c y e = (e ∙ sym (ap (λ (z : Taken). z.answer) y), sym o.is ∙ ap (λ (z : Taken). encode_node (with_node z.node (decode_node b))) (sym y))

        go : (w : DeltaStatus) → v ≡ w → leaves w ≡ true → a ≡ answer_as w r → Gives (node_applied k clock (delta_of s gc from max at) b) a b
        go Reject p q e = stays node.Reject (by-status Reject p) e
        go Fenced p q e = stays node.Fenced (by-status Fenced p) e
        go Apply p q e = let z : ◌≡◌ {A = ℕ} 0 1 = cc in absurd (omega arith)
        go ApplyAfterReset p q e = let z : ◌≡◌ {A = ℕ} 0 1 = cc in absurd (omega arith)

    pub concluded : leaves v ≡ false → (f : Bool) → f ≡ resets v → (r : Bool) (b' : List ℕ) → Stored k.profile (grown clock s at max (begun f gc (decode_node b))) b r b' → (a : NodeAnswer) → a ≡ answer_as v r
        → Gives (node_applied k clock (delta_of s gc from max at) b) a b'
    unfolding d n outcome
    concluded q f fe r b' t a ae = go v refl q (fe) ae
      where
        go : (w : DeltaStatus) → v ≡ w → leaves w ≡ false → f ≡ resets w → a ≡ answer_as w r → Gives (node_applied k clock (delta_of s gc from max at) b) a b'
        go Reject p q fe ae = let z : ◌≡◌ {A = ℕ} 0 1 = cc in absurd (omega arith)
        go Fenced p q fe ae = let z : ◌≡◌ {A = ℕ} 0 1 = cc in absurd (omega arith)
        go Apply p q fe ae = rw ae (by-room node.Apply (outcome Apply clock d n) r b' (rw fe at t) (apply_node (ways_in k) clock d n) (by-status Apply p))
        go ApplyAfterReset p q fe ae =
            rw ae (by-room node.ApplyAfterReset (outcome ApplyAfterReset clock d n) r b' (rw fe at t) (apply_node (ways_in k) clock d n) (by-status ApplyAfterReset p))

-- by the numbers that were read
pub numbers-read : (k : Kind) (clock : ℕ) (s : List ℕ) (gc gc' from from' max at : ℕ) → gc ≡ gc' → from ≡ from' → (b : List ℕ) (r : NodeAnswer) (b' : List ℕ)
    → Gives (node_applied k clock (delta_of s gc from max at) b) r b' → Gives (node_applied k clock (delta_of s gc' from' max at) b) r b'
numbers-read k clock s gc gc' from from' max at p q b r b' t = rw (p, q) at t

-- ---- one node delta on a table

module _ (own : List ℕ) (k : Kind) (l : List ℕ) (v : valid l ≡ true) (clock : ℕ) (x : rule.Part) where
  pub part-missing : span_in x.number l ≡ None → Gives (stored (part_leaving own k clock x (decode l))) node.Unknown l
  part-missing e =
      stays-gives x.number l v (part_leaving own k clock x (decode l)) node.Unknown (ap (λ (o : Option Node). on_held_by (leaving own (apply_node (ways_in k) clock) x.number) x o (decode l)) (missing-node x.number l v e))

  module _ {start end : ℕ} (e : span_in x.number l ≡ (Some (record { start = start; end = end }))) where
    -- what is lent to the node's rule
    abbrev lent : List ℕ
    lent = take (end - start) (drop start l)

    is-node : lent ≡ part start node_width l
    is-node = node_seen x.number l v e

    pub lent-rising : Rising lent
    lent-rising = subst Rising (sym is-node) (record { laid = held-laid x.number l v e; keys = held-rises x.number l v e })

    -- one of its own
    pub part_left : among x.number own ≡ true → Gives (stored (part_leaving own k clock x (decode l))) node.Reject l
    part_left a =
        let n : Node = (decode_node (part start node_width l)).node in
        let q : node_of x.number (decode l) ≡ some n = held-node x.number l v e in
        stays-gives x.number l v (part_leaving own k clock x (decode l)) node.Reject
        (ap (λ (o : Option Node). on_held_by (leaving own (apply_node (ways_in k) clock) x.number) x o (decode l)) q
        ∙ ap (λ (b : Bool). on_held_by (pick b left_alone (apply_node (ways_in k) clock)) x (some n) (decode l)) a
        ∙ ap (gives node.Reject) (set_same x.number n (decode l) q))

    pub part_held : among x.number own ≡ false → (r : NodeAnswer) (ys : List ℕ) → Gives (node_applied k clock x.delta lent) r ys → Gives (stored (part_leaving own k clock x (decode l))) r (put_mid start (end - start) l ys)
    part_held a r ys g =
        let b : List ℕ = part start node_width l in
        let n : Node = (apply_node (ways_in k) clock x.delta (decode_node b).node).node in
        let w : Gives (node_applied k clock x.delta b) r ys = subst (λ (y : List ℕ). Gives (node_applied k clock x.delta y) r ys) is-node g in
        held_gives x.number l v e (part_leaving own k clock x (decode l)) r n ys
        (ap (λ (c : Bool). on_held_by (pick c left_alone (apply_node (ways_in k) clock)) x (node_of x.number (decode l)) (decode l)) a
        ∙ ap (λ (o : Option Node). on_held_by (apply_node (ways_in k) clock) x o (decode l)) (held-node x.number l v e)
        ∙ ap (λ (a : NodeAnswer). gives a (set_node x.number n (decode l))) (sym w.0))
        w.1

each-cons : (own : List ℕ) (k : Kind) (clock : ℕ) (x : rule.Part) (xs : List rule.Part) (t : Table)
    → leaving_each own (apply_node (ways_in k) clock) (x ∷ xs) t ≡ answering (part_leaving own k clock x t).answer (leaving_each own (apply_node (ways_in k) clock) xs (part_leaving own k clock x t).table)
unfolding leaving_each
each-cons own k clock x xs t = go (node_of x.number t)
  where
    go : (o : Option Node) → on_node (leaving own (apply_node (ways_in k) clock) x.number) x o t (leaving_each own (apply_node (ways_in k) clock) xs) ≡ answering (on_held_by (leaving own (apply_node (ways_in k) clock) x.number) x o t).answer (leaving_each own (apply_node (ways_in k) clock) xs (on_held_by (leaving own (apply_node (ways_in k) clock) x.number) x o t).table)
    go none = refl
    go (some n) = refl

-- a table that obeys still does
part-ok : (own : List ℕ) (k : Kind) (clock : ℕ) → clock < numbers → (x : rule.Part) (t : Table) → OkDelta x.delta → OkTable t → OkTable (part_leaving own k clock x t).table
unfolding leaving_each
part-ok own k clock h x t d ok =
    subst OkTable (ap (λ (y : Stream). y.table) (each-cons own k clock x [] t))
    (subst OkTable (sym (each_left own (apply_node (ways_in k) clock) (x ∷ []) t).table_is)
    (kept-ok own t (apply_each (apply_node (ways_in k) clock) (x ∷ []) t).table ok (ok-each (ways_in k) (kind-lawful k) clock h (x ∷ []) t (λ y m. one y m) ok)))
  where
    one : (y : rule.Part) → y ∈ x ∷ [] → OkDelta y.delta
    one y (here e) = subst (λ (z : rule.Part). OkDelta z.delta) (sym e) d
    one y (later m) = absurd (in-none m)

-- ---- the stream

-- a delta that is accepted: its node deltas are in order
abbrev pub AllOk : List rule.Part → Type 0
AllOk xs = (x : rule.Part) → x ∈ xs → OkDelta x.delta

module _ (s : List ℕ) (a : Accepted s) where
  accepted-ops : ops_from s 0 ≡ a.0
  accepted-ops = (good-plain s a.0 a.1).0

  pub accepted-parts : parts_from s 0 ≡ rule.parts_of a.0
  unfolding parts_from
  accepted-parts = ap rule.parts_of accepted-ops

  module _ (h : AreBytes s) where
    pub all-ok : AllOk (parts_from s 0)
    all-ok =
        let d = (delta-is s a.0 h a.1).0 in
        subst AllOk (sym accepted-parts) (parts-ok a.0 rule.nothing_read d.chain d.small)

-- what holds at the head of the loop: the node deltas that are left, on the table as it is, give the whole's table and answers
pub record Stands (own : List ℕ) (k : Kind) (clock : ℕ) (s t₀ l₀ : List ℕ) (i : ℕ) (t l : List ℕ) : Type 0 where
  pub good : valid t ≡ true
  pub same : length t ≡ length t₀
  pub long : length l ≡ length l₀
  pub table : (leaving_each own (apply_node (ways_in k) clock) (drop i (parts_from s 0)) (decode t)).table ≡ (leaving_each own (apply_node (ways_in k) clock) (parts_from s 0) (decode t₀)).table
  pub list : put i (codes (leaving_each own (apply_node (ways_in k) clock) (drop i (parts_from s 0)) (decode t)).answers) l ≡ put 0 (codes (leaving_each own (apply_node (ways_in k) clock) (parts_from s 0) (decode t₀)).answers) l₀

module _ (own : List ℕ) (k : Kind) (clock : ℕ) (s t₀ l₀ : List ℕ) where
  pub stands-first : valid t₀ ≡ true → Stands own k clock s t₀ l₀ 0 t₀ l₀
  stands-first v = record { good = v; same = refl; long = refl; table = refl; list = refl }

  module _ (i : ℕ) (t l : List ℕ) (inv : Stands own k clock s t₀ l₀ i t l) where
    pub stands-last : length (parts_from s 0) ≤ i
        → both t l ≡ parts_leaving own k clock (parts_from s 0) l₀ t₀
    unfolding leaving_each codes
    stands-last h =
        let e : drop i (parts_from s 0) ≡ [] = drop_of_length-le (parts_from s 0) {i = i} h in
        let p : leaving_each own (apply_node (ways_in k) clock) (drop i (parts_from s 0)) (decode t) ≡ record { answers = []; table = decode t } = ap (λ (xs : List rule.Part). leaving_each own (apply_node (ways_in k) clock) xs (decode t)) e in
        ap₂ both (sym (encode-decode t inv.good) ∙ ap encode (sym (ap (λ (y : Stream). y.table) p) ∙ inv.table))
        (sym (put-nil i l) ∙ ap (λ (y : Stream). put i (codes y.answers) l) (sym p) ∙ inv.list)

    module _ (h : i < length (parts_from s 0)) (place : i < length l) where
      x : rule.Part
      x = get_or (parts_from s 0) i no_part

      u : Table
      u = (part_leaving own k clock x (decode t)).table

      left : drop i (parts_from s 0) ≡ x ∷ drop (i + 1) (parts_from s 0)
      unfolding x
      left = drop-cons (parts_from s 0) i no_part h ∙ ap (λ (j : ℕ). get_or (parts_from s 0) i no_part ∷ drop j (parts_from s 0)) (sym (add-one i))

      pub stands-next : clock < numbers → Accepted s → AreBytes s → (r : NodeAnswer) (t' l' : List ℕ) → Gives (stored (part_leaving own k clock (get_or (parts_from s 0) i no_part) (decode t))) r t' → l' ≡ set l i (code_of r)
          → Stands own k clock s t₀ l₀ (i + 1) t' l'
      unfolding x u codes
      stands-next small acc bytes r t' l' w q =
          let rest : List rule.Part = drop (i + 1) (parts_from s 0) in
          let ok-u : OkTable u = part-ok own k clock small x (decode t) (all-ok s acc bytes x (in-at (parts_from s 0) i no_part h)) (table-facts (decode t) (valid-obeys t inv.good)) in
          let obeys-u : obeys u ≡ true = facts-table u ok-u in
          let d : decode t' ≡ u = ap decode w.1 ∙ decode-encode u obeys-u in
          let a : NodeAnswer = (part_leaving own k clock x (decode t)).answer in
          let p : leaving_each own (apply_node (ways_in k) clock) (drop i (parts_from s 0)) (decode t) ≡ answering a (leaving_each own (apply_node (ways_in k) clock) rest (decode t')) =
          ap (λ (xs : List rule.Part). leaving_each own (apply_node (ways_in k) clock) xs (decode t)) left
          ∙ each-cons own k clock x rest (decode t)
          ∙ ap (λ (v : Table). answering a (leaving_each own (apply_node (ways_in k) clock) rest v)) (sym d) in
          record {
            good = ap valid w.1 ∙ valid-encode u obeys-u;
            same = ap length w.1 ∙ length-table u ∙ sym (valid-long t inv.good) ∙ inv.same;
            long = ap length q ∙ length-set l i (code_of r) ∙ inv.long;
            table = sym (ap (λ (y : Stream). y.table) p) ∙ inv.table;
            list =
                let others : List ℕ = codes (leaving_each own (apply_node (ways_in k) clock) rest (decode t')).answers in
                ap (put (i + 1) others) (q ∙ ap (λ (y : NodeAnswer). set l i (code_of y)) w.0)
                ∙ ap (λ (j : ℕ). put j others (set l i (code_of a))) (add-one i)
                ∙ put-cons i (code_of a) others l place
                ∙ ap (λ (y : Stream). put i (codes y.answers) l) (sym p)
                ∙ inv.list;
          }
