-- The node deltas of a delta, one behind the other in its bytes: gathered turn by turn while the delta is read. Assumes nothing.
use Prim.Native.Nat.{ℕ, zero, suc, ◌+◌, ◌-◌, ◌≤◌, ◌<◌}
use mathlib.Core.Path.{◌≡◌, refl, ap, sym, ◌∙◌, subst}
use mathlib.Core.Bool.{Bool, true, false}
use mathlib.Core.Logic.{◌⊎◌, inl, inr}
use mathlib.Core.List.{List, [], ◌∷◌}
use native.Mathlib.Omega.{arith}
use native.Mathlib.Numerals.{add-one}
use lib.ListN.{length, drop, get_or, set, length-set}
use lib.Seq.{get_or-set_same, get_or-set_other}
use lib.Dec.{leb, ltb}
use borrow.Author.Tests.{ltb-true}
use Rattle.fields.specs.Choice.{pick}
use Rattle.rules.specs.Sizes.{max_nodes}
use Rattle.rules.specs.Table.{among}
use Rattle.rules.specs.Node as node
use Rattle.rules.specs.Delta as rule
use Rattle.rules.proofs.Results.{ok-is}
use Rattle.rules.specs.declared.DeltaRead.{DeltaRead}
use Rattle.rules.specs.declared.Refusal.{Refusal}
use Rattle.rules.specs.declared.Refusal.TheVariants.{OutOfOrder, NodeTwice, TooMany}
use Rattle.std.specs.Prelude.{Err, Ok, Result}
use Rattle.delta_follow.specs.declared.Followed.{Followed}
use Rattle.delta_follow.specs.declared.Followed.TheVariants.{Entered}
use Rattle.delta_follow.specs.declared.Followed.TheVariants.{Under}
use Rattle.delta_op.specs.declared.Op.{Op}
use Rattle.delta_op.specs.declared.Op.TheVariants.{Node, KeyValue, SetMaxVersion}
use Rattle.delta_op.specs.Places.{op_at}
use Rattle.delta_follow.specs.Following.{follow_at, max_follows, node_follows, record_follows, seen_of, under_nodes}
use Rattle.delta_op.specs.Plain.{ops_from, recs_from}
use Rattle.delta_op.proofs.Plain.{plain_end, plain-next}
use Rattle.delta_op.proofs.Reading.{le-or-lt, ends}
use Rattle.delta_op.proofs.Nodes.{node_is}
use Rattle.delta_read.specs.NodeDeltas.{parts_from, behind_node, node_delta_at, no_part, Head, AllHeads}

-- ---- a node delta while its operations are read

-- the node delta x stands at a place, and these operations are still to be read: they bring its max and some of its records
pub record Heading (s : List ℕ) (x : rule.Part) (at count max : ℕ) (ops : List rule.Op) : Type 0 where
  pub inside : behind_node at ≤ length s
  pub is : x ≡ node_delta_at s at (rule.max_of max ops)
  pub few : length x.delta.recs ≤ count + length (rule.recs_of ops)

module _ (s : List ℕ) (at : ℕ) (h : at < length s) (n g f next : ℕ) (e : op_at s at ≡ (Ok ((Node n g f), next))) where
  x : rule.Part
  x = record { number = n; delta = record { from = f; last_gc = g; recs = rule.recs_of (ops_from s next); max = rule.max_of 0 (ops_from s next) } }

  parts : parts_from s at ≡ x ∷ parts_from s next
  unfolding x parts_from rule.parts_of
  parts = ap rule.parts_of (plain-next s at (Node n g f) next h e)

  begins : Heading s x at 0 0 (ops_from s next)
  unfolding x recs_from
  begins =
      let t = node_is s at n g f next e in
      let w = (ends s at (Node n g f) next e).1 in
      record { inside = omega (arith, t.0, w); is = rw (t.1, t.2, t.3, t.0) refl; few = omega arith }

module _ (s : List ℕ) (x : rule.Part) (at count max : ℕ) where
  pub closes : Heading s x at count max [] → Head s x at count max
  unfolding rule.max_of rule.recs_of
  closes h = record { inside = h.inside; is = h.is; few = omega (arith, h.few) }

  pub closes-node : (n g f : ℕ) (ops : List rule.Op) → Heading s x at count max (rule.NodeOp n g f ∷ ops) → Head s x at count max
  unfolding rule.max_of rule.recs_of
  closes-node n g f ops h = record { inside = h.inside; is = h.is; few = omega (arith, h.few) }

  pub carries-record : (r : node.KeyValue) (ops : List rule.Op) → Heading s x at count max (rule.KeyValueOp r ∷ ops)
      → Heading s x at (count + 1) r.version ops
  unfolding rule.max_of rule.recs_of
  carries-record r ops h = record { inside = h.inside; is = h.is; few = omega (arith, h.few) }

  pub carries-max : (m : ℕ) (ops : List rule.Op) → Heading s x at count max (rule.SetMaxVersionOp m ∷ ops) → Heading s x at (count + 1) m ops
  unfolding rule.max_of rule.recs_of
  carries-max m ops h = record { inside = h.inside; is = h.is; few = omega (arith, h.few) }

-- ---- what was found to follow tells the operation

-- the operation that was found to follow
abbrev Found : ℕ → Op → (Result Followed Refusal) → Type 0
Found nodes (Node n g f) (Ok (Entered i)) = nodes < max_nodes
Found nodes (KeyValue k n v m ver st) (Ok (Entered i)) = ⊥
Found nodes (SetMaxVersion m) (Ok (Entered i)) = ⊥
Found nodes (Node n g f) (Ok (Under r)) = ⊥
Found nodes (KeyValue k n v m ver st) (Ok (Under r)) = (0 < nodes) × (r ≡ ver)
Found nodes (SetMaxVersion m) (Ok (Under r)) = (0 < nodes) × (r ≡ m)
Found nodes o (Err r) = Unit {0}

found-under : (nodes : ℕ) (o : Op) (t : Bool) (v : ℕ) (r : Refusal) → (0 < nodes → Found nodes o (Ok (Under v))) → Found nodes o (Err r)
    → Found nodes o (Err OutOfOrder)
    → Found nodes o (under_nodes nodes (pick t (Ok (Under v)) (Err r)))
found-under zero o t v r h p q = q
found-under (suc n) o true v r h p q = h (omega arith)
found-under (suc n) o false v r h p q = p

found : (nodes : ℕ) (a : List ℕ) (running : ℕ) (o : Op) → Found nodes o (follow_at nodes a running o)
unfolding follow_at node_follows record_follows max_follows
found nodes a running (Node n g f) = go (among n (seen_of nodes a)) (ltb nodes max_nodes) (ltb-true nodes max_nodes)
  where
    go : (s t : Bool) → (t ≡ true → nodes < max_nodes) → Found nodes (Node n g f) (pick s (Err NodeTwice) (pick t (Ok (Entered n)) (Err TooMany)))
    go true t h = tt
    go false true h = h refl
    go false false h = tt
found nodes a running (KeyValue k n v m ver st) = found-under nodes (KeyValue k n v m ver st) (ltb running ver) ver OutOfOrder (λ h. (h, refl)) tt tt
found nodes a running (SetMaxVersion m) = found-under nodes (SetMaxVersion m) (leb running m) m OutOfOrder (λ h. (h, refl)) tt tt

-- ---- all of them

drop_head : {A : Type 0} (l r : List A) (i : ℕ) (x d : A) → drop i l ≡ x ∷ r → (get_or l i d ≡ x) × (drop (suc i) l ≡ r)
drop_head [] r zero x d e = let z : ◌≡◌ {A = ℕ} 0 1 = cc in absurd (omega arith)
drop_head [] r (suc i) x d e = let z : ◌≡◌ {A = ℕ} 0 1 = cc in absurd (omega arith)
drop_head (a ∷ l) r zero x d e = (cc, cc)
drop_head (a ∷ l) r (suc i) x d e = drop_head l r i x d e

-- what holds at the head of the loop: of the last node delta some operations are still to be read, those before it are whole and written down
pub record Gathering (s places counts maxes : List ℕ) (nodes under running at : ℕ) : Type 0 where
  pub long_at : length places ≡ max_nodes
  pub long_count : length counts ≡ max_nodes
  pub long_max : length maxes ≡ max_nodes
  pub left : drop nodes (parts_from s 0) ≡ parts_from s at
  pub whole : (i : ℕ) → i + 1 < nodes → Head s (get_or (parts_from s 0) i no_part) (get_or places i 0) (get_or counts i 0) (get_or maxes i 0)
  pub last : (i : ℕ) → i + 1 ≡ nodes → Heading s (get_or (parts_from s 0) i no_part) (get_or places i 0) under running (ops_from s at)

module _ (s : List ℕ) where
  pub gathering-first : (places counts maxes : List ℕ) (under running : ℕ) → length places ≡ max_nodes → length counts ≡ max_nodes → length maxes ≡ max_nodes
      → Gathering s places counts maxes 0 under running 0
  gathering-first places counts maxes under running p q r =
      record { long_at = p; long_count = q; long_max = r; left = refl; whole = λ i h. absurd (omega arith); last = λ i h. absurd (omega arith) }

  module _ (places counts maxes : List ℕ) (nodes under running at : ℕ) (inv : Gathering s places counts maxes nodes under running at)
      (few : nodes ≤ max_nodes) where
    -- the last one is whole where no more of it comes, and is written down: where there is none yet, at a place that is of no use
    ended : (ops : List rule.Op) → ops_from s at ≡ ops → ((x : rule.Part) (p c m : ℕ) → Heading s x p c m ops → Head s x p c m)
        → (i : ℕ) → i < nodes
        → Head s (get_or (parts_from s 0) i no_part) (get_or places i 0) (get_or (set counts (nodes - 1) under) i 0) (get_or (set maxes (nodes - 1) running) i 0)
    ended ops e h i k = go (le-or-lt nodes (i + 1))
      where
        same : (l : List ℕ) (v : ℕ) → length l ≡ max_nodes → i + 1 ≡ nodes → get_or (set l (nodes - 1) v) i 0 ≡ v
        same l v q z = let y : i ≡ nodes - 1 = omega arith in ap (λ (j : ℕ). get_or (set l (nodes - 1) v) j 0) y ∙ get_or-set_same l (nodes - 1) v 0 (omega arith)

        other : (l : List ℕ) (v : ℕ) → i + 1 < nodes → get_or (set l (nodes - 1) v) i 0 ≡ get_or l i 0
        other l v q = get_or-set_other l (nodes - 1) i v 0 (λ z. omega arith)

        go : (nodes ≤ i + 1) ⊎ (i + 1 < nodes)
            → Head s (get_or (parts_from s 0) i no_part) (get_or places i 0) (get_or (set counts (nodes - 1) under) i 0) (get_or (set maxes (nodes - 1) running) i 0)
        go (inr q) = rw (other counts under q, other maxes running q) (inv.whole i q)
        go (inl q) =
            let z : i + 1 ≡ nodes = omega arith in
            rw (same counts under inv.long_count z, same maxes running inv.long_max z)
            (h (get_or (parts_from s 0) i no_part) (get_or places i 0) under running
            (subst (Heading s (get_or (parts_from s 0) i no_part) (get_or places i 0) under running) e (inv.last i z)))

    pub gathering-last : length s ≤ at → (i : ℕ) → i < nodes
        → Head s (get_or (parts_from s 0) i no_part) (get_or places i 0) (get_or (set counts (nodes - 1) under) i 0) (get_or (set maxes (nodes - 1) running) i 0)
    gathering-last h = ended [] (plain_end s at h) (λ x p c m. closes s x p c m)

    module _ (h : at < length s) where
      gathering-node : (n g f next : ℕ) → op_at s at ≡ (Ok ((Node n g f), next)) → nodes < max_nodes
          → Gathering s (set places nodes at) (set counts (nodes - 1) under) (set maxes (nodes - 1) running) (nodes + 1) 0 0 next
      gathering-node n g f next e more =
          let d = drop_head (parts_from s 0) (parts_from s next) nodes (x s at h n g f next e) no_part (inv.left ∙ parts s at h n g f next e) in
          record {
            long_at = length-set places nodes at ∙ inv.long_at;
            long_count = length-set counts (nodes - 1) under ∙ inv.long_count;
            long_max = length-set maxes (nodes - 1) running ∙ inv.long_max;
            left = ap (λ (j : ℕ). drop j (parts_from s 0)) (add-one nodes) ∙ d.1;
            whole = λ i q.
                let k : i < nodes = omega arith in
                rw (get_or-set_other places nodes i at 0 (λ z. omega arith))
                (ended (rule.NodeOp n g f ∷ ops_from s next) (plain-next s at (Node n g f) next h e)
                (λ y p c m. closes-node s y p c m n g f (ops_from s next)) i k);
            last = λ i q.
                let z : i ≡ nodes = omega arith in
                rw (z, get_or-set_same places nodes at 0 (omega (arith, inv.long_at)), d.0) (begins s at h n g f next e);
          }

      -- one more operation of the last one
      one_more : (next v : ℕ) → parts_from s at ≡ parts_from s next
          → ((x : rule.Part) (p : ℕ) → Heading s x p under running (ops_from s at) → Heading s x p (under + 1) v (ops_from s next))
          → Gathering s places counts maxes nodes (under + 1) v next
      one_more next v e go =
          record {
            long_at = inv.long_at;
            long_count = inv.long_count;
            long_max = inv.long_max;
            left = inv.left ∙ e;
            whole = inv.whole;
            last = λ i q. go (get_or (parts_from s 0) i no_part) (get_or places i 0) (inv.last i q);
          }

      -- what a turn leaves
      module _ (o : Op) (next : ℕ) (e : op_at s at ≡ (Ok (o, next))) (a : List ℕ) (places' counts' maxes' : List ℕ) (nodes' under' running' : ℕ) where
        pub gathering-under : (v : ℕ) → follow_at nodes a running o ≡ (Ok (Under v))
            → places' ≡ places → counts' ≡ counts → maxes' ≡ maxes → nodes' ≡ nodes → under' ≡ under + 1 → running' ≡ v
            → Gathering s places' counts' maxes' nodes' under' running' next
        unfolding parts_from rule.parts_of
        gathering-under v f x₀ x₁ x₂ x₃ x₄ x₅ = rw (x₀, x₁, x₂, x₃, x₄, x₅) (go o e (subst (Found nodes o) f (found nodes a running o)))
          where
            go : (o : Op) → op_at s at ≡ (Ok (o, next)) → Found nodes o (Ok (Under v)) → Gathering s places counts maxes nodes (under + 1) v next
            go (Node n g f) e w = absurd w
            go (KeyValue k n u m ver st) e w =
                let p = plain-next s at (KeyValue k n u m ver st) next h e in
                one_more next v (ap rule.parts_of p)
                (λ x q y. rw w.1 (carries-record s x q under running _ (ops_from s next) (subst (Heading s x q under running) p y)))
            go (SetMaxVersion m) e w =
                let p = plain-next s at (SetMaxVersion m) next h e in
                one_more next v (ap rule.parts_of p)
                (λ x q y. rw w.1 (carries-max s x q under running m (ops_from s next) (subst (Heading s x q under running) p y)))

        pub gathering-entered : (n last : ℕ) → follow_at nodes a running o ≡ (Ok (Entered n)) → last ≡ nodes - 1
            → places' ≡ set places nodes at → counts' ≡ set counts last under → maxes' ≡ set maxes last running → nodes' ≡ nodes + 1 → under' ≡ 0 → running' ≡ 0
            → Gathering s places' counts' maxes' nodes' under' running' next
        gathering-entered n last f z x₀ x₁ x₂ x₃ x₄ x₅ = rw (x₀, x₁, x₂, x₃, x₄, x₅, z) (go o e (subst (Found nodes o) f (found nodes a running o)))
          where
            go : (o : Op) → op_at s at ≡ (Ok (o, next)) → Found nodes o (Ok (Entered n))
                → Gathering s (set places nodes at) (set counts (nodes - 1) under) (set maxes (nodes - 1) running) (nodes + 1) 0 0 next
            go (Node i g f) e w = gathering-node i g f next e w
            go (KeyValue k i u m ver st) e w = absurd w
            go (SetMaxVersion m) e w = absurd w

-- ---- the verdict

-- of a refused delta nothing is told
pub gathered_none : (s at count max : List ℕ) → length at ≡ max_nodes → length count ≡ max_nodes → length max ≡ max_nodes
    → (why : Refusal) (place : ℕ) → (Err (record { why = why; at = place })) ≡ rule.delta_read s → AllHeads s at count max
gathered_none s at count max p q r why place e =
    record { long_at = p; long_count = q; long_max = r; few = λ ops nodes g. no ops nodes g; heads = λ ops nodes g. no ops nodes g }
  where
    no : {X : Type 0} (ops nodes : ℕ) → (Ok (record { ops = ops; nodes = nodes })) ≡ rule.delta_read s → X
    no ops nodes g = let z : (Err (record { why = why; at = place })) ≡ (Ok (record { ops = ops; nodes = nodes })) = e ∙ sym g in let y : ◌≡◌ {A = ℕ} 0 1 = cc in absurd (omega arith)

-- the last node delta is written down, and all of them are told
pub gathered : (s places counts maxes : List ℕ) (nodes under running at : ℕ) → Gathering s places counts maxes nodes under running at → nodes ≤ max_nodes
    → (last : ℕ) → last ≡ nodes - 1 → length s ≤ at → (ops : ℕ) → (Ok (record { ops = ops; nodes = nodes })) ≡ rule.delta_read s
    → AllHeads s places (set counts last under) (set maxes last running)
gathered s places counts maxes nodes under running at inv few last z end ops e =
    record {
      long_at = inv.long_at;
      long_count = length-set counts last under ∙ inv.long_count;
      long_max = length-set maxes last running ∙ inv.long_max;
      few = λ ops' nodes' g. let y : nodes ≡ nodes' = same ops' nodes' g in omega arith;
      heads = λ ops' nodes' g i k.
          let y : nodes ≡ nodes' = same ops' nodes' g in
          rw z (gathering-last s places counts maxes nodes under running at inv few end i (omega arith));
    }
  where
    same : (ops' nodes' : ℕ) → (Ok (record { ops = ops'; nodes = nodes' })) ≡ rule.delta_read s → nodes ≡ nodes'
    same ops' nodes' g = let z : (Ok (record { ops = ops; nodes = nodes })) ≡ (Ok (record { ops = ops'; nodes = nodes' })) = e ∙ sym g in ap (λ (x : DeltaRead). x.nodes) (ok-is _ _ z)
