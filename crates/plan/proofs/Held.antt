-- The node that a line names, by the number alone: held or not, excluded or not, stale or not. Assumes nothing.
use Prim.Native.Nat.{ℕ, ◌<◌}
use mathlib.Core.Bool.{Bool, ◌&&◌, false, not, true}
use mathlib.Core.List.{List, [], ◌∷◌}
use mathlib.Core.Option.{Option, none, some}
use mathlib.Core.Path.{◌∙◌, ◌≡◌, ap, refl, sym}
use native.Mathlib.Omega.{arith}
use lib.Dec.{eqb, ltb}
use borrow.Author.Tests.{eqb-true}
use Rattle.fields.specs.Choice.{◌∈◌, pick}
use Rattle.rules.proofs.Calls.{node_in}
use Rattle.rules.proofs.Obeys.{Ascending, number_in}
use Rattle.rules.specs.Compute.{StaleNode, stale_node, stale_nodes, told_of}
use Rattle.rules.specs.Digest.{NodeDigest}
use Rattle.rules.specs.Node.{Node}
use Rattle.rules.specs.Table.{Table, among, node_of, numbers_of}
use Rattle.plan.specs.Faults.{stale_held}
use Rattle.plan.specs.Plan.{named, stale_for}

-- it is not excluded, and its max exceeds the digest's
abbrev pub sendable : (excluded : List ℕ) (ds : List NodeDigest) (number : ℕ) (node : Node) → Bool
sendable excluded ds i n = not (among i excluded) && ltb (told_of i ds).max n.max

abbrev pub stale_if : (excluded : List ℕ) (ds : List NodeDigest) (number : ℕ) (held : Option Node) → Option StaleNode
stale_if excluded ds i none = none
stale_if excluded ds i (some n) = pick (sendable excluded ds i n) (some (stale_held ds i n)) none

module _ (excluded : List ℕ) (ds : List NodeDigest) (i : ℕ) where
  -- a number below all of the table's is not held
  not-held : (m : ℕ) (t : Table) → ((x : ℕ) → x ∈ numbers_of t → m < x) → i ≡ m → node_of i t ≡ none
  not-held m t f e = go (node_of i t) refl
    where
      go : (o : Option Node) → node_of i t ≡ o → o ≡ none
      go none q = refl
      go (some n) q =
          let x = node_in i t q in
          let h = f x.0.number (number_in x.1) in
          let k = x.3 in
          absurd (omega arith)

  pub named-held : (t : Table) → Ascending (numbers_of t) → named i (stale_for excluded ds t) ≡ stale_if excluded ds i (node_of i t)
  unfolding named stale_nodes node_of numbers_of Ascending
  named-held [] asc = refl
  named-held (e ∷ t) asc = go (eqb i e.number) refl (sendable excluded ds e.number e.node) refl (named-held t asc.1)
    where
      rest : List StaleNode
      rest = stale_nodes excluded ds [] t

      own : StaleNode
      own = stale_node 0 (told_of e.number ds) e

      go : (b : Bool) → eqb i e.number ≡ b → (s : Bool) → sendable excluded ds e.number e.node ≡ s → named i rest ≡ stale_if excluded ds i (node_of i t)
          → named i (pick s (own ∷ rest) rest) ≡ stale_if excluded ds i (pick b (some e.node) (node_of i t))
      go true q true p ih =
          let n : i ≡ e.number = eqb-true i e.number q in
          ap (λ (c : Bool). pick c (some own) (named i rest)) q
          ∙ ap (λ (j : ℕ). some (stale_held ds j e.node)) (sym n)
          ∙ ap (λ (c : Bool). pick c (some (stale_held ds i e.node)) none) (sym (ap (λ (j : ℕ). sendable excluded ds j e.node) n ∙ p))
      go true q false p ih =
          let n : i ≡ e.number = eqb-true i e.number q in
          ih
          ∙ ap (stale_if excluded ds i) (not-held e.number t asc.0 n)
          ∙ ap (λ (c : Bool). pick c (some (stale_held ds i e.node)) none) (sym (ap (λ (j : ℕ). sendable excluded ds j e.node) n ∙ p))
      go false q true p ih = ap (λ (c : Bool). pick c (some own) (named i rest)) q ∙ ih
      go false q false p ih = ih
