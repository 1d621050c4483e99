-- Reading a whole delta with its counts, turn by turn: what is left to be read, with what is counted so far, has the whole's answer. Assumes nothing.
use Prim.Native.Nat.{ℕ, ◌+◌, ◌≤◌, ◌<◌}
use mathlib.Core.Path.{◌≡◌, ap, ap₂, sym, ◌∙◌}
use mathlib.Core.List.{List, [], ◌∷◌}
use native.Mathlib.Omega.{arith}
use native.Mathlib.Numerals.{add-one}
use native.Mathlib.Nat.{add-zero}
use lib.ListN.{length, set, length-set}
use borrow.Author.Tests.{le-leb, lt-leb}
use Rattle.rules.specs.Sizes.{max_delta, max_nodes}
use Rattle.rules.specs.Delta as rule
use Rattle.rules.specs.declared.Refusal.{Refusal}
use Rattle.rules.specs.declared.Refusal.TheVariants.{TooMany}
use Rattle.std.specs.Prelude.{Err, Ok}
use Rattle.delta_follow.specs.declared.Followed.TheVariants.{Entered}
use Rattle.delta_follow.specs.declared.Followed.TheVariants.{Under}
use Rattle.delta_op.specs.declared.Op.{Op}
use Rattle.delta_op.specs.Places.{op_of, op_at}
use Rattle.delta_follow.specs.Following.{seen_of, follow_at}
use Rattle.delta_op.proofs.Reading.{ends}
use Rattle.delta_read.proofs.Steps.{read_from, from_start, at-end, at-bad, at-fault, at_next}
use Rattle.delta_read.proofs.Following.{seen_more, reading, now_reading, follows, counted, none-counted, nodes_in, one-counted, entered, stayed}

pub too_long : (l : List ℕ) → 16384 < length l → (Err (record { why = TooMany; at = 0 })) ≡ rule.delta_read l
unfolding rule.delta_read rule.read_delta
too_long l h = rw (rule.delta_read, rule.read_delta, lt-leb (length l) max_delta h)

pub start : (l a : List ℕ) → length l ≤ 16384 → counted 0 0 (read_from l 0 (reading 0 a 0)) ≡ rule.delta_read l
unfolding rule.delta_read rule.read_delta seen_of
start l a h =
    none-counted (read_from l 0 rule.nothing_read) ∙ ap rule.read_answer (sym (from_start l))
    ∙ sym (rw (rule.delta_read, rule.read_delta, le-leb (length l) max_delta h))

-- what holds at the loop's head
abbrev pub So-far : List ℕ → List ℕ → ℕ → ℕ → ℕ → ℕ → Type 0
So-far l a nodes running ops at =
    (at ≤ length l) × (nodes ≤ 8) × (ops ≤ at) × (length a ≡ 8) × (counted ops nodes (read_from l at (reading nodes a running)) ≡ rule.delta_read l)

-- one turn
module _ (l : List ℕ) (at ops nodes running : ℕ) (a : List ℕ) (inv : counted ops nodes (read_from l at (reading nodes a running)) ≡ rule.delta_read l) where
  pub done : length l ≤ at → (Ok (record { ops = ops; nodes = nodes })) ≡ rule.delta_read l
  unfolding rule.parts_of
  done h =
      let z : counted ops nodes (rule.Good []) ≡ (Ok (record { ops = ops; nodes = nodes })) = ap₂ (λ a b. Ok (record { ops = a; nodes = b })) (add-zero ops) (add-zero nodes) in
      sym z ∙ sym (ap (counted ops nodes) (at-end l at (reading nodes a running) h)) ∙ inv

  module _ (h : at < length l) where
    pub bad : (r : Refusal) → op_at l at ≡ Err r → (Err (record { why = r; at = at })) ≡ rule.delta_read l
    bad r e = sym (ap (counted ops nodes) (at-bad l at (reading nodes a running) r h e)) ∙ inv

    module _ (o : Op) (next : ℕ) (e : op_at l at ≡ (Ok (o, next))) where
      pub fault : (r : Refusal) → follow_at nodes a running o ≡ Err r → (Err (record { why = r; at = at })) ≡ rule.delta_read l
      fault r f =
          sym (ap (counted ops nodes) (at-fault l at (reading nodes a running) o next h e r (follows l nodes a running o ∙ ap (now_reading nodes a) f))) ∙ inv

      -- the operation is counted, and reading goes on behind it
      further : (t : rule.Reading) → rule.follow (reading nodes a running) (op_of l o) ≡ rule.Next t
          → counted (ops + 1) (nodes + nodes_in (op_of l o)) (read_from l next t) ≡ rule.delta_read l
      further t f =
          sym (one-counted ops nodes (op_of l o) (read_from l next t))
          ∙ sym (ap (counted ops nodes) (at_next l at (reading nodes a running) o next h e t f)) ∙ inv

      pub under : (v : ℕ) → follow_at nodes a running o ≡ (Ok (Under v)) → counted (ops + 1) nodes (read_from l next (reading nodes a v)) ≡ rule.delta_read l
      under v f =
          let k : nodes + nodes_in (op_of l o) ≡ nodes = omega (arith, stayed l nodes a running o v f) in
          ap (λ (n : ℕ). counted (ops + 1) n (read_from l next (reading nodes a v))) (sym k)
          ∙ further (reading nodes a v) (follows l nodes a running o ∙ ap (now_reading nodes a) f)

      pub new : (n : ℕ) → length a ≡ 8 → follow_at nodes a running o ≡ (Ok (Entered n))
          → counted (ops + 1) (nodes + 1) (read_from l next (reading (nodes + 1) (set a nodes n) 0)) ≡ rule.delta_read l
      new n long f =
          let is : (nodes_in (op_of l o) ≡ 1) × (nodes < max_nodes) = entered l nodes a running o n f in
          let k : nodes + nodes_in (op_of l o) ≡ nodes + 1 = omega (arith, is.0) in
          let t : reading (nodes + 1) (set a nodes n) 0 ≡ record { seen = n ∷ seen_of nodes a; running = 0 } =
          ap (λ (xs : List ℕ). record { seen = xs; running = 0 })
          (ap (λ (j : ℕ). seen_of j (set a nodes n)) (add-one nodes) ∙ seen_more nodes n a (omega (arith, is.1))) in
          ap (λ (s : rule.Reading). counted (ops + 1) (nodes + 1) (read_from l next s)) t
          ∙ ap (λ (j : ℕ). counted (ops + 1) j (read_from l next (record { seen = n ∷ seen_of nodes a; running = 0 }))) (sym k)
          ∙ further (record { seen = n ∷ seen_of nodes a; running = 0 }) (follows l nodes a running o ∙ ap (now_reading nodes a) f)

-- a turn that goes on, with what it leaves
module _ (l a : List ℕ) (nodes running ops at : ℕ) (so_far : So-far l a nodes running ops at) (h : at < length l)
    (o : Op) (next : ℕ) (e : op_at l at ≡ (Ok (o, next))) (a' : List ℕ) (nodes' running' : ℕ) where
  pub on-new : (n : ℕ) → follow_at nodes a running o ≡ (Ok (Entered n)) → a' ≡ set a nodes n → nodes' ≡ nodes + 1 → running' ≡ 0
      → So-far l a' nodes' running' (ops + 1) next
  on-new n f p q r =
      let w : (at < next) × (next ≤ length l) = ends l at o next e in
      let is : (nodes_in (op_of l o) ≡ 1) × (nodes < max_nodes) = entered l nodes a running o n f in
      rw (p, q, r) (
        w.1,
        omega (arith, is.1),
        omega (arith, so_far.2, w.0),
        length-set a nodes n ∙ so_far.3,
        new l at ops nodes running a so_far.4 h o next e n so_far.3 f,
      )

  pub on-under : (v : ℕ) → follow_at nodes a running o ≡ (Ok (Under v)) → a' ≡ a → nodes' ≡ nodes → running' ≡ v → So-far l a' nodes' running' (ops + 1) next
  on-under v f p q r =
      let w : (at < next) × (next ≤ length l) = ends l at o next e in
      rw (p, q, r) (w.1, so_far.1, omega (arith, so_far.2, w.0), so_far.3, under l at ops nodes running a so_far.4 h o next e v f)
