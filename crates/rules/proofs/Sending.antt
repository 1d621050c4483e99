-- A computed delta, node by node: how many of a node's stale records fit, and what they leave of the MTU. Proofs work on this form; `sends` says
-- that it is what the operations of document 01's computing bring.
use Prim.Native.Nat.{◌+◌, ◌-◌, max, suc, ℕ}
use mathlib.Core.Bool.{Bool, false, true}
use mathlib.Core.List.{List, [], ◌++◌, ◌∷◌, append-nil}
use mathlib.Core.Path.{◌∙◌, ◌≡◌, ap, refl}
use native.Mathlib.Omega.{arith}
use lib.Dec.{eqb, eqb-suc-suc, eqb-zero-suc, leb}
use lib.ListN.{length, length-append, take}
use Rattle.fields.proofs.Numbers.{length-bytes_of}
use Rattle.fields.specs.Choice.{pick}
use Rattle.rules.proofs.Stale.{top_of}
use Rattle.rules.specs.Compute.{StaleNode, all_ops, body_ops, cut, from_for, from_of, key_value_ops, stale, stale_of}
use Rattle.rules.specs.Delta.{KeyValueOp, NodeDelta, NodeOp, Op, Part, SetMaxVersionOp, beside_texts, max_of, max_op_width, node_op_width, op_bytes, parts_of, recs_of, size_of, text_bytes}
use Rattle.rules.specs.Node.{KeyValue, Node}

-- the max that comes over: that of the records sent, or own max where there are none to send and a SetMaxVersion fits
abbrev pub carried : Bool → ℕ → List KeyValue → List KeyValue → ℕ
carried fits max [] sent = pick fits max 0
carried fits max (s ∷ ss) sent = top_of 0 sent

-- a node's delta for a digest's pair (g, m): so many of its stale records
unfoldable pub node_delta : Node → ℕ → ℕ → ℕ → Bool → NodeDelta
node_delta p g m count fits =
    let from : ℕ = from_of p.last_gc g m in
    let all : List KeyValue = stale from p.recs in
    record { from = from; last_gc = p.last_gc; recs = take count all; max = carried fits p.max all (take count all) }

-- a delta that computing makes of this node, for some digest's pair and cut somewhere
pub record MadeOf (p : Node) (d : NodeDelta) : Type 0 where
  pub told_gc : ℕ
  pub told-max : ℕ
  pub count : ℕ
  pub fits : Bool
  pub delta-is : d ≡ node_delta p told_gc told-max count fits

-- bytes of a record in a delta
abbrev pub record_size : KeyValue → ℕ
record_size s = beside_texts + length s.key + length s.value

-- how many of these fit, and the room that they leave
unfoldable pub fitting : ℕ → List KeyValue → ℕ
fitting room [] = 0
fitting room (s ∷ ss) = pick (leb (record_size s) room) (suc (fitting (room - record_size s) ss)) 0

unfoldable pub left_over : ℕ → List KeyValue → ℕ
left_over room [] = room
left_over room (s ∷ ss) = pick (leb (record_size s) room) (left_over (room - record_size s) ss) room

-- after a node without stale records: a SetMaxVersion, if it fits
abbrev pub after_max : List KeyValue → ℕ → ℕ
after_max [] room = pick (leb max_op_width room) (room - max_op_width) room
after_max (s ∷ ss) room = room

abbrev pub part_of : ℕ → StaleNode → Part
part_of room o =
    record { number = o.number; delta = node_delta o.node o.told_gc o.told-max (fitting (room - node_op_width) (stale_of o)) (leb max_op_width (room - node_op_width)) }

-- the parts of a delta, while the Nodes and all their records fit
unfoldable pub emit : ℕ → List StaleNode → List Part
emit room [] = []
emit room (o ∷ os) =
    let rest : List Part = emit (after_max (stale_of o) (left_over (room - node_op_width) (stale_of o))) os in
    pick (leb node_op_width room) (part_of room o ∷ pick (eqb (fitting (room - node_op_width) (stale_of o)) (length (stale_of o))) rest []) []

-- ---- sizes

pub size-node : (n g f : ℕ) → size_of (NodeOp n g f) ≡ node_op_width
unfolding size_of op_bytes
size-node n g f = simp (length-append, length-bytes_of)

pub size-max : (m : ℕ) → size_of (SetMaxVersionOp m) ≡ max_op_width
unfolding size_of op_bytes
size-max m = simp length-bytes_of

pub size-record : (s : KeyValue) → size_of (KeyValueOp s) ≡ record_size s
unfolding size_of op_bytes text_bytes
size-record s = simp (length-append, length-bytes_of) (omega arith)

-- ---- the records of a node

cut-records : (room : ℕ) (ss : List KeyValue) (rest : List Op) → cut room (key_value_ops ss ++ rest) ≡ key_value_ops (take (fitting room ss) ss) ++ pick (eqb (fitting room ss) (length ss)) (cut (left_over room ss) rest) []
unfolding cut key_value_ops fitting left_over
cut-records room [] rest = refl
cut-records room (s ∷ ss) rest = rw (size-record s) (go (leb (record_size s) room) (cut-records (room - record_size s) ss rest))
  where
    go : (b : Bool)
        → cut (room - record_size s) (key_value_ops ss ++ rest)
        ≡ key_value_ops (take (fitting (room - record_size s) ss) ss)
        ++ pick (eqb (fitting (room - record_size s) ss) (length ss)) (cut (left_over (room - record_size s) ss) rest) []
        → pick b (KeyValueOp s ∷ cut (room - record_size s) (key_value_ops ss ++ rest)) []
        ≡ key_value_ops (take (pick b (suc (fitting (room - record_size s) ss)) 0) (s ∷ ss))
        ++ pick (eqb (pick b (suc (fitting (room - record_size s) ss)) 0) (suc (length ss))) (cut (pick b (left_over (room - record_size s) ss) room) rest) []
    go true ih = rw eqb-suc-suc (ap (λ (l : List Op). KeyValueOp s ∷ l) ih)
    go false ih = rw eqb-zero-suc

pub recs-records : (ss : List KeyValue) (ops : List Op) → recs_of (key_value_ops ss ++ ops) ≡ ss ++ recs_of ops
unfolding recs_of key_value_ops
recs-records [] ops = refl
recs-records (s ∷ ss) ops = ap (λ (l : List KeyValue). s ∷ l) (recs-records ss ops)

pub max-records : (m : ℕ) (ss : List KeyValue) (ops : List Op) → max_of m (key_value_ops ss ++ ops) ≡ max_of (top_of m ss) ops
unfolding max_of top_of key_value_ops
max-records m [] ops = refl
max-records m (s ∷ ss) ops = max-records s.version ss ops

pub parts-records : (ss : List KeyValue) (ops : List Op) → parts_of (key_value_ops ss ++ ops) ≡ parts_of ops
unfolding parts_of key_value_ops
parts-records [] ops = refl
parts-records (s ∷ ss) ops = parts-records ss ops

-- ---- what follows a node begins with a Node, or is empty

recs-rest : (room : ℕ) (os : List StaleNode) → recs_of (cut room (all_ops os)) ≡ []
unfolding recs_of cut all_ops
recs-rest room [] = refl
recs-rest room (o ∷ os) = go (leb (size_of (NodeOp o.number o.node.last_gc (from_for o))) room) _
  where
    go : (b : Bool) (ops : List Op) → recs_of (pick b (NodeOp o.number o.node.last_gc (from_for o) ∷ ops) []) ≡ []
    go true ops = refl
    go false ops = refl

max-rest : (m room : ℕ) (os : List StaleNode) → max_of m (cut room (all_ops os)) ≡ m
unfolding max_of cut all_ops
max-rest m room [] = refl
max-rest m room (o ∷ os) = go (leb (size_of (NodeOp o.number o.node.last_gc (from_for o))) room) _
  where
    go : (b : Bool) (ops : List Op) → max_of m (pick b (NodeOp o.number o.node.last_gc (from_for o) ∷ ops) []) ≡ m
    go true ops = refl
    go false ops = refl

-- ---- one node, then the others

module _ (number gc from own : ℕ) (os : List StaleNode) (others : (room : ℕ) → parts_of (cut room (all_ops os)) ≡ emit room os) where
  abbrev one_part : List KeyValue → ℕ → Part
  one_part recs max = record { number = number; delta = record { from = from; last_gc = gc; recs = recs; max = max } }

  one-node : (room : ℕ) (all : List KeyValue)
      → parts_of (NodeOp number gc from ∷ cut room (body_ops own all ++ all_ops os))
      ≡ one_part (take (fitting room all) all) (carried (leb max_op_width room) own all (take (fitting room all) all))
      ∷ pick (eqb (fitting room all) (length all)) (emit (after_max all (left_over room all)) os) []
  unfolding parts_of cut fitting left_over recs_of max_of
  one-node room [] = rw (size-max own) (go (leb max_op_width room))
    where
      go : (b : Bool)
          → parts_of (NodeOp number gc from ∷ pick b (SetMaxVersionOp own ∷ cut (room - max_op_width) (all_ops os)) (cut room (all_ops os)))
          ≡ one_part [] (pick b own 0)
          ∷ emit (pick b (room - max_op_width) room) os
      go true = let r = recs-rest (room - max_op_width) os in let m = max-rest own (room - max_op_width) os in let t = others (room - max_op_width) in λ i. one_part (r i) (m i) ∷ t i
      go false = let r = recs-rest room os in let m = max-rest 0 room os in let t = others room in λ i. one_part (r i) (m i) ∷ t i
  one-node room (s ∷ ss) = rw (cut-records room (s ∷ ss) (all_ops os)) (go (eqb (fitting room (s ∷ ss)) (length (s ∷ ss))))
    where
      sent : List KeyValue
      sent = take (fitting room (s ∷ ss)) (s ∷ ss)

      with_tail : (tail : List Op) (parts : List Part) → recs_of tail ≡ [] → ((m : ℕ) → max_of m tail ≡ m) → parts_of tail ≡ parts → parts_of (NodeOp number gc from ∷ (key_value_ops sent ++ tail)) ≡ one_part sent (top_of 0 sent) ∷ parts
      with_tail tail parts r m t =
          let rs : recs_of (key_value_ops sent ++ tail) ≡ sent = recs-records sent tail ∙ ap (λ (l : List KeyValue). sent ++ l) r ∙ append-nil sent in
          let mx : max_of 0 (key_value_ops sent ++ tail) ≡ top_of 0 sent = max-records 0 sent tail ∙ m (top_of 0 sent) in
          let ps : parts_of (key_value_ops sent ++ tail) ≡ parts = parts-records sent tail ∙ t in
          λ i. one_part (rs i) (mx i) ∷ ps i

      go : (b : Bool)
          → parts_of (NodeOp number gc from ∷ (key_value_ops sent ++ pick b (cut (left_over room (s ∷ ss)) (all_ops os)) []))
          ≡ one_part sent (top_of 0 sent)
          ∷ pick b (emit (left_over room (s ∷ ss)) os) []
      go true = with_tail _ _ (recs-rest _ os) (λ m. max-rest m _ os) (others _)
      go false = with_tail [] [] refl (λ m. refl) refl

-- what the operations of computing bring
pub sends : (room : ℕ) (os : List StaleNode) → parts_of (cut room (all_ops os)) ≡ emit room os
unfolding parts_of cut all_ops emit node_delta
sends room [] = refl
sends room (o ∷ os) = rw (size-node o.number o.node.last_gc (from_for o)) (go (leb node_op_width room) (λ r. sends r os))
  where
    go : (b : Bool) → ((r : ℕ) → parts_of (cut r (all_ops os)) ≡ emit r os) → parts_of (pick b (NodeOp o.number o.node.last_gc (from_for o) ∷ cut (room - node_op_width) (body_ops o.node.max (stale_of o) ++ all_ops os)) []) ≡ pick b (part_of room o ∷ pick (eqb (fitting (room - node_op_width) (stale_of o)) (length (stale_of o))) (emit (after_max (stale_of o) (left_over (room - node_op_width) (stale_of o))) os) []) []
    go true ih = one-node o.number o.node.last_gc (from_for o) o.node.max os ih (room - node_op_width) (stale_of o)
    go false ih = refl
