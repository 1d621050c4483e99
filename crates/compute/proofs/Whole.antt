-- The operations of the line, written while they fit, are the delta of the rules. Assumes nothing.
use Prim.Native.Nat.{ℕ, ◌<◌}
use mathlib.Core.Path.{◌≡◌, refl, ap, ap₂, ◌∙◌, subst}
use mathlib.Core.List.{List, [], ◌∷◌, ◌++◌, map}
use native.Mathlib.Nat.{zero-add, sub-zero}
use lib.ListN.{length, get_or}
use Rattle.fields.specs.Numbers.{Bytes}
use Rattle.fields.specs.Choice.{◌∈◌, here, later}
use Rattle.fields.specs.Parts.{put}
use Rattle.rules.specs.Given.{given}
use Rattle.rules.specs.Table.{Table}
use Rattle.rules.specs.Digest.{NodeDigest}
use Rattle.rules.specs.Delta.{Op, delta_bytes}
use Rattle.rules.specs.Compute.{all_ops, cut, ordered, stale_nodes, delta_for}
use Rattle.compute_stale.specs.Arranged.{listed}
use Rattle.compute_order.specs.Line.{stale_at}
use Rattle.compute_order.proofs.Lined.{line-nodes, line-in}
use Rattle.compute_write.specs.Sending.{ops_of_node, ops_at, counts, behind, sending}
use Rattle.compute.specs.Lined.{from_at, LinedUp, at_front, delta_in}
use Rattle.compute.specs.declared.Lined.{Lined}

-- behind nothing
from-none : (os : List Op) (l : Bytes) → behind 0 0 os l ≡ at_front os l
from-none os l = λ i. given (counts (zero-add (length os) i) (zero-add (length (delta_bytes os)) i)) (put 0 (delta_bytes os) l)

module _ (excluded : List ℕ) (ds : List NodeDigest) (ties : List ℕ) (t : Table) where
  -- the operations of nodes at places whose froms are right
  ops-at : (froms l : List ℕ) → ((p : ℕ) → p ∈ l → get_or froms p 0 ≡ from_at ds t p) → ops_at t froms l ≡ all_ops (map (stale_at ds ties t) l)
  unfolding ops_at all_ops
  ops-at froms [] h = refl
  ops-at froms (p ∷ l) h =
      ap₂ (λ (from : ℕ) (os : List Op). ops_of_node t p from ++ os) (h p (here refl)) (ops-at froms l (λ q m. h q (later m)))

  module _ (r : Lined) (k : LinedUp excluded ds ties t r) where
    lined : ops_at t r.froms (listed r.count r.line) ≡ all_ops (ordered (stale_nodes excluded ds ties t))
    lined =
        ops-at r.froms (listed r.count r.line) k.from-of
        ∙ ap (λ (l : List ℕ). all_ops (map (stale_at ds ties t) l)) k.in_line
        ∙ ap all_ops (line-nodes excluded ds ties t)

    pub delta-is : (l : Bytes) → sending 0 0 (ops_at t r.froms (listed r.count r.line)) l ≡ delta_in excluded ties ds t l
    unfolding sending delta_for
    delta-is l =
        (λ i. behind 0 0 (cut (sub-zero (length l) i) (lined i)) l) ∙ from-none (cut (length l) (all_ops (ordered (stale_nodes excluded ds ties t)))) l

    pub line-within : (p : ℕ) → p ∈ listed r.count r.line → p < length t
    line-within p m = line-in excluded ds ties t (subst (λ (l : List ℕ). p ∈ l) k.in_line m)
