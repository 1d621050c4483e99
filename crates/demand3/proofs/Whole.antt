-- What the three calls of a whole exchange leave. In the end the follower's nodes have taken their parts of the delta that the publisher computed for
-- what the follower told, and none of them answered Room.
use Prim.Native.Nat.{◌≤◌, suc, ℕ}
use mathlib.Core.Bool.{Bool, false, false≢true, not, true}
use mathlib.Core.List.{List, [], ◌∷◌}
use mathlib.Core.Option.{Option, none, some}
use mathlib.Core.Path.{◌∙◌, ◌≡◌, ap, refl, subst, sym}
use native.Mathlib.Omega.{arith}
use lib.Dec.{leb, ltb}
use lib.ListN.{length, take}
use borrow.Author.Tests.{leb-true, not-true}
use Rattle.fields.proofs.Choice.{and_left, and_right}
use Rattle.fields.proofs.Parts.{part-put}
use Rattle.fields.specs.Choice.{◌∈◌, here, later, pick}
use Rattle.fields.specs.Parts.{part, put}
use Rattle.rules.specs.Given.{Given}
use Rattle.rules.proofs.Obeys.{among-not, facts-table}
use Rattle.rules.specs.Answers.{code_of}
use Rattle.rules.specs.Apply.{ApplyOutcome, Lawful, Stream, Taking, Ways, apply, apply_each, apply_node, apply_ops, codes, on_node}
use Rattle.rules.specs.Delta.{Faulty, Good, Op, Ops, Part, delta_bytes, parts_of, read_delta}
use Rattle.rules.specs.Digest.{Entries, NodeDigest, digest_bytes, digest_of, is_edition, read_digest}
use Rattle.rules.specs.Node.{Node}
use Rattle.rules.specs.Sizes.{numbers}
use Rattle.rules.specs.Table.{Table, among, node_of}
use Rattle.std.specs.Prelude.{Err, Ok, Result}
use Rattle.rules.specs.declared.Refusal.{Refusal}
use Rattle.rules.specs.declared.Sent.{Sent}
use Rattle.rules.specs.declared.NodeAnswer.{NodeAnswer}
use Rattle.rules.specs.declared.Refusal.TheVariants.{NoPlace}
use Rattle.rules.specs.declared.NodeAnswer.TheVariants as node
use Rattle.demand3.proofs.Forms.{Comes, Made, comes, refuses, writes}
use Rattle.demand3.proofs.Moments.{InOrder}
use Rattle.demand3.proofs.OnTheWay.{digest-written}
use Rattle.demand3.specs.Demand3.{granted, is_applied, is_computed, no_room, wrote_delta}
use Rattle.demand3.specs.Forms.{Order, ops_by}
use Rattle.demand3.specs.World.{Applying, Computing, DeltaSent, DigestSent, Digesting, Exchange, Followers, World, after_delta, applied_to, computed_for, happen, on_side}

-- ---- the answers in the lent list

length-answers : (take : Taking) (xs : List Part) (t : Table) → length (apply_each take xs t).answers ≡ length xs
unfolding apply_each
length-answers take [] t = refl
length-answers take (x ∷ xs) t = go (node_of x.number t) (length-answers take xs)
  where
    go : (o : Option Node) → ((u : Table) → length (apply_each take xs u).answers ≡ length xs) → length (on_node take x o t (apply_each take xs)).answers ≡ suc (length xs)
    go none ih = ap suc (ih t)
    go (some n) ih = ap suc (ih _)

length-codes : (l : List NodeAnswer) → length (codes l) ≡ length l
unfolding codes
length-codes [] = refl
length-codes (a ∷ l) = ap suc (length-codes l)

code_in : {a : NodeAnswer} {l : List NodeAnswer} → a ∈ l → code_of a ∈ codes l
unfolding codes
code_in (here e) = here (ap code_of e)
code_in (later m) = later (code_in m)

front : (n : ℕ) (vs l : List ℕ) → length vs ≡ n → n ≤ length l → take n (put 0 vs l) ≡ vs
unfolding part
front n vs l e h = subst (λ (k : ℕ). take k (put 0 vs l) ≡ vs) e (part-put 0 vs l (omega arith))

-- ---- the three calls

module _ (ways : Ways) (is : List ℕ) (w : World) where
  pub asked : (edition place : ℕ) (l : List ℕ) → granted ways (Digesting edition [] place l) w ≡ true → (is_edition edition ≡ true) × ((happen ways (Digesting edition [] place l) w).exchange ≡ DigestSent (digest_bytes edition (digest_of [] w.follower)))
  unfolding happen
  asked edition place l g = digest-written edition [] place l w.follower w.exchange g

  -- for a digest that is read as it was told
  pub answered : InOrder is w → (edition : ℕ) (excluded : List ℕ) (order : Order) (mtu place : ℕ) (l b : List ℕ) (told : List NodeDigest)
      → w.exchange ≡ DigestSent b
      → read_digest edition b ≡ Entries told []
      → granted ways (Computing edition excluded order mtu place l) w ≡ true
      → ((happen ways (Computing edition excluded order mtu place l) w).exchange ≡ DeltaSent (delta_bytes (ops_by excluded order mtu told w.publisher))) × Made excluded order mtu told w.publisher
  unfolding happen
  answered ok edition excluded order mtu place l b told x read g =
      subst (λ (y : Exchange). is_computed edition excluded order mtu place l w.publisher y ≡ true → Done (computed_for edition excluded order mtu place l w.publisher y)) (sym x)
      (go _ (comes edition excluded order mtu place b w.publisher l (facts-table w.publisher ok.publisher_ok))) g
    where
      Done : Exchange → Type 0
      Done y = (y ≡ DeltaSent (delta_bytes (ops_by excluded order mtu told w.publisher))) × Made excluded order mtu told w.publisher

      go : (o : Given (Result Sent Refusal) (List ℕ)) → Comes edition excluded order mtu place b w.publisher l o → wrote_delta o.answer ≡ true → Done (after_delta place o.lent o.answer (DigestSent b))
      go o (refuses r) g = absurd (false≢true g)
      go o (writes ds rest e made there) g =
          let same : Entries ds rest ≡ Entries told [] = sym e ∙ read in
          let ds-is : ds ≡ told = cc in (
            ap DeltaSent there ∙ ap (λ (y : List NodeDigest). DeltaSent (delta_bytes (ops_by excluded order mtu y w.publisher))) ds-is,
            subst (λ (y : List NodeDigest). Made excluded order mtu y w.publisher) ds-is made,
          )

-- a delta that may be sent, of whatever table, and is taken by another
module _ (ways : Ways) (law : Lawful ways) (ops : List Op) (read : read_delta (delta_bytes ops) ≡ Good ops) (now : ℕ) (l : List ℕ) (w : World) where
  -- the follower's table afterwards, and the answers
  abbrev pub stream : Stream
  stream = apply_each (apply_node ways now) (parts_of ops) w.follower

  pub taken : w.exchange ≡ DeltaSent (delta_bytes ops)
      → granted ways (Applying now l) w ≡ true
      → (happen ways (Applying now l) w ≡ on_side Followers (λ t. stream.table) w) × (node.Room ∈ stream.answers → ⊥)
  unfolding happen apply
  taken x g =
      rw (and_left (ltb now numbers) _ g)
      (subst (λ (y : Exchange). is_applied ways now l w.follower y ≡ true → (on_side Followers (applied_to ways now l y) w ≡ ended) × (node.Room ∈ stream.answers → ⊥)) (sym x)
      (go (ways.reads (delta_bytes ops)) refl) (and_right (ltb now numbers) _ g))
    where
      ended : World
      ended = on_side Followers (λ t. stream.table) w

      xs : List Part
      xs = parts_of ops

      Out : Ops → ApplyOutcome
      Out o = apply_ops (apply_node ways now) o w.follower l

      End : Table → World
      End t = on_side Followers (λ u. t) w

      Done : ApplyOutcome → Type 0
      Done o = (End o.table ≡ ended) × (node.Room ∈ stream.answers → ⊥)

      room : (c : Bool) → leb (length xs) (length l) ≡ c → (o : ApplyOutcome) → o ≡ pick {X = ApplyOutcome} c (record { answer = Ok (length xs); table = stream.table; list = put 0 (codes stream.answers) l }) (record { answer = (Err (record { why = NoPlace; at = 0 })); table = w.follower; list = l }) → no_room o.answer o.list ≡ true → Done o
      room true e o p g = (
        ap (λ (y : ApplyOutcome). End y.table) p,
        λ m.
            let n : not (among 3 (take (length xs) (put 0 (codes stream.answers) l))) ≡ true = sym (ap (λ (y : ApplyOutcome). no_room y.answer y.list) p) ∙ g in
            let k : take (length xs) (put 0 (codes stream.answers) l) ≡ codes stream.answers =
            front (length xs) (codes stream.answers) l (length-codes stream.answers ∙ length-answers (apply_node ways now) xs w.follower) (leb-true _ _ e) in
            let no : among 3 (codes stream.answers) ≡ false = not-true _ (sym (ap (λ (y : List ℕ). not (among 3 y)) k) ∙ n) in
            among-not 3 (codes stream.answers) no (code_in m),
      )
      room false e o p g = absurd (false≢true (sym (ap (λ (y : ApplyOutcome). no_room y.answer y.list) p) ∙ g))

      go : (o : Ops) → ways.reads (delta_bytes ops) ≡ o → no_room (Out o).answer (Out o).list ≡ true → Done (Out o)
      go (Good os) e g = room (leb (length xs) (length l)) refl (Out (Good os)) (ap Out (sym (law.reads_so (delta_bytes ops) os e) ∙ read)) g
      go (Faulty r at) e g = absurd (false≢true g)
