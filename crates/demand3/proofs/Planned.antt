-- The delta of an accepted plan is one that demand 3 allows: it may be sent, each part was made for the digest, and every part moves its node. So a plan that is not empty
-- brings some node nearer. Assumes nothing.
use Prim.Native.Nat.{◌<◌, ◌≤◌, ℕ}
use mathlib.Core.Bool.{true}
use mathlib.Core.List.{List, []}
use mathlib.Core.Option.{some}
use mathlib.Core.Path.{◌∙◌, ◌≡◌, subst, sym}
use lib.ListN.{length}
use Rattle.fields.specs.Choice.{◌∈◌}
use Rattle.rules.proofs.Sending.{node_delta}
use Rattle.rules.proofs.Tables.{part_at}
use Rattle.rules.specs.Compute.{from_of, stale, stale_of, told_of}
use Rattle.rules.specs.Delta.{NodeDelta, parts_of}
use Rattle.rules.specs.Digest.{NodeDigest}
use Rattle.rules.specs.Node.{KeyValue}
use Rattle.rules.specs.Sizes.{max_delta}
use Rattle.rules.specs.Table.{Table, obeys}
use Rattle.plan.proofs.Lines.{PlannedPart, named-is}
use Rattle.plan.proofs.Sent.{count-some, planned-chain, planned-part, planned-read, planned-small, planned-some}
use Rattle.plan.specs.Plan.{accepts, delta_by, stale_for}
use Rattle.demand3.proofs.EachNode.{node_at}
use Rattle.demand3.proofs.Nearer.{Stirs}
use Rattle.demand3.proofs.Needed.{Moves, delta-moves}
use Rattle.demand3.proofs.OnTheWay.{PartFor, Sendable, Stands, made_of, part-for, stands}

module _ (excluded nodes counts : List ℕ) (mtu : ℕ) (ds : List NodeDigest) (t : Table) (ok : obeys t ≡ true) (yes : accepts excluded nodes counts mtu ds t ≡ true) where
  its-part : (i : ℕ) (d : NodeDelta) → part_at i (parts_of (delta_by excluded nodes counts ds t)) ≡ some d → PlannedPart (stale_for excluded ds t) i d
  its-part i d e = planned-part excluded nodes counts mtu ds t ok yes i d e

  pub planned-for : (i : ℕ) (d : NodeDelta) → part_at i (parts_of (delta_by excluded nodes counts ds t)) ≡ some d → PartFor excluded ds t i d
  planned-for i d e =
      let x = its-part i d e in
      let y = named-is i (stale_for excluded ds t) x.named_so in
      part-for excluded ds [] t ok x.of y.0 i y.1 d x.count true x.delta-is

  pub planned-sendable : mtu ≤ max_delta → Sendable t (delta_by excluded nodes counts ds t)
  planned-sendable h =
      record {
        read = planned-read excluded nodes counts mtu ds t ok yes h;
        chain = planned-chain excluded nodes counts mtu ds t ok yes;
        small = planned-small excluded nodes counts mtu ds t ok yes;
        made = λ i d e. made_of (planned-for i d e);
      }

  -- a record comes over, or all
  pub planned-moves : (i : ℕ) (d : NodeDelta) → part_at i (parts_of (delta_by excluded nodes counts ds t)) ≡ some d → Moves (node_at i t) d
  planned-moves i d e = subst (Moves (node_at i t)) (sym delta-is) (delta-moves (node_at i t) (told_of i ds).last_gc (told_of i ds).max x.count y.behind enough)
    where
      x : PlannedPart (stale_for excluded ds t) i d
      x = its-part i d e

      y : Stands ds t i x.of
      y = let z = named-is i (stale_for excluded ds t) x.named_so in stands excluded ds [] t ok x.of z.0 i z.1

      delta-is : d ≡ node_delta (node_at i t) (told_of i ds).last_gc (told_of i ds).max x.count true
      delta-is = x.delta-is ∙ (λ z. node_delta (y.node_is z) (y.gc_is z) (y.max-is z) x.count true)

      stale-is : stale_of x.of ≡ stale (from_of (node_at i t).last_gc (told_of i ds).last_gc (told_of i ds).max) (node_at i t).recs
      stale-is = λ z. stale (from_of (y.node_is z).last_gc (y.gc_is z) (y.max-is z)) (y.node_is z).recs

      enough : 0 < length (stale (from_of (node_at i t).last_gc (told_of i ds).last_gc (told_of i ds).max) (node_at i t).recs) → 0 < x.count
      enough h = count-some x.count (stale_of x.of) x.fits (subst (λ (l : List KeyValue). 0 < length l) (sym stale-is) h)

  pub planned-stirs : (i : ℕ) → i ∈ nodes → Stirs t (delta_by excluded nodes counts ds t)
  planned-stirs i m = let x = planned-some excluded nodes counts mtu ds t ok yes i m in (i, x.0, x.1, planned-moves i x.0 x.1)
