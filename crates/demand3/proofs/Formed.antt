-- Profiles in worlds and nets. A call in a profile is document 01's, or it changes nothing and gives nothing; removals of every kind keep the forms; and what is computed in any order from
-- a table whose records are in form is read in that form, so that no table of the profile refuses it with 17. Assumes nothing.
use Prim.Native.Nat.{ℕ}
use mathlib.Core.Bool.{Bool, false, true}
use mathlib.Core.List.{List, [], ◌++◌, ◌∷◌}
use mathlib.Core.Logic.{◌⊎◌, inl, inr}
use mathlib.Core.Option.{Option, none, some}
use mathlib.Core.Path.{◌∙◌, ◌≡◌, ap, refl, subst, sym}
use native.Mathlib.Omega.{arith}
use lib.Dec.{leb}
use lib.ListN.{length, take}
use Rattle.fields.proofs.Choice.{all_from, in-cons, in_take}
use Rattle.fields.specs.Choice.{◌∈◌, all, pick}
use Rattle.fields.specs.Parts.{part, put}
use Rattle.rules.specs.Apply.{ApplyOutcome, apply_each, apply_node, apply_ops, apply, codes, ways_in}
use Rattle.rules.specs.Compute.{StaleNode, stale_nodes, stale_of}
use Rattle.rules.specs.Delta.{Op, Ops, Part, delta_bytes, parts_of}
use Rattle.rules.specs.Digest.{NodeDigest}
use Rattle.rules.specs.Given.{Given}
use Rattle.rules.specs.Local.{call, call_as, unless_guarded}
use Rattle.rules.specs.Node.{Call, KeyValue, Node}
use Rattle.rules.specs.Profile.{Kind, guard_in, op_in_form, profile_obeys, recs_formed, recs_obey}
use Rattle.rules.specs.Table.{Entry, Table, node_of}
use Rattle.std.specs.Prelude.{Err, Ok, Result}
use Rattle.rules.specs.declared.Sent.{Sent}
use Rattle.rules.specs.declared.Party.{Party}
use Rattle.rules.specs.declared.Profile.{Profile}
use Rattle.rules.specs.declared.Refusal.{Refusal}
use Rattle.rules.specs.declared.DeltaFault.{DeltaFault}
use Rattle.rules.specs.declared.Refusal.TheVariants.{NoPlace}
use Rattle.rules.proofs.Formed.{obey-formed, removed-formed}
use Rattle.rules.proofs.Tables.{behind-from}
use Rattle.rules.proofs.Results.{err-is}
use Rattle.profiles.proofs.Reading.{delta-formed}
use Rattle.profiles.proofs.Sent.{append-formed, body-formed, delta-in-form, stale-formed}
use Rattle.plan.proofs.Lines.{named-is}
use Rattle.plan.specs.Plan.{delta_by, line_ops, named, plan_ops, stale_for}
use Rattle.demand3.proofs.Forms.{Comes, refuses, removal-is, writes}
use Rattle.demand3.proofs.OnTheWay.{Sendable}
use Rattle.demand3.proofs.Parted.{IsRead, ReadsWell}
use Rattle.demand3.specs.Forms.{AsPlanned, InLine, Order, Removal, ops_by, removed_by}
use Rattle.demand3.specs.World.{given_as, given_in, sent_after, unless_refused}

-- ---- local calls

pub by-guard : (p : Profile) (who : Party) (c : Call) (i : ℕ) (k : List ℕ) (t : Table) (P : Table → (List KeyValue → List KeyValue) → Type 0)
    → P t (λ h. h)
    → P (call c i k t).table (given_in k c (node_of i t))
    → P (call_as p who c i k t).table (given_as p who k c (node_of i t))
unfolding call_as
by-guard p who c i k t P refused called = go (guard_in p who c k (node_of i t))
  where
    go : (g : Option Refusal) → P (unless_guarded g (call c i k t) t).table (λ h. unless_refused g (given_in k c (node_of i t) h) h)
    go none = called
    go (some r) = refused

-- ---- removals

pub removal-formed : (p : Profile) (removal : Removal) (t : Table) → profile_obeys p t ≡ true → profile_obeys p (removed_by removal t) ≡ true
removal-formed p removal t h = let r = removal-is removal t in subst (λ (u : Table). profile_obeys p u ≡ true) (sym r.1) (removed-formed p r.0 t h)

-- ---- computing

module _ (p : Profile) where
  -- by a plan: each line has records of its node
  line-formed : (c : ℕ) (s : StaleNode) → recs_formed p s.node.recs ≡ true → all (op_in_form p) (line_ops c (some s)) ≡ true
  unfolding all
  line-formed c s h = body-formed p s.node.max (take c (stale_of s)) (λ r m. stale-formed p s h r (in_take c (stale_of s) m))

  plan-formed : (ss : List StaleNode) (is cs : List ℕ) → ((s : StaleNode) → s ∈ ss → recs_formed p s.node.recs ≡ true) → all (op_in_form p) (plan_ops ss is cs) ≡ true
  unfolding plan_ops all
  plan-formed ss [] cs f = refl
  plan-formed ss (i ∷ is) [] f = refl
  plan-formed ss (i ∷ is) (c ∷ cs) f = go (named i ss) refl (plan-formed ss is cs f)
    where
      go : (o : Option StaleNode) → named i ss ≡ o → all (op_in_form p) (plan_ops ss is cs) ≡ true → all (op_in_form p) (line_ops c o ++ plan_ops ss is cs) ≡ true
      go none q ih = ih
      go (some s) q ih = append-formed p (line_ops c (some s)) (plan_ops ss is cs) (line-formed c s (f s (named-is i ss q).0)) ih

  -- in any order
  pub ops-formed : (excluded : List ℕ) (order : Order) (mtu : ℕ) (ds : List NodeDigest) (t : Table) → profile_obeys p t ≡ true → all (op_in_form p) (ops_by excluded order mtu ds t) ≡ true
  unfolding delta_by profile_obeys
  ops-formed excluded (InLine ties) mtu ds t h = delta-in-form p excluded ties ds t h mtu
  ops-formed excluded (AsPlanned nodes counts) mtu ds t h = plan-formed (stale_for excluded ds t) nodes counts each
    where
      each : (s : StaleNode) → s ∈ stale_nodes excluded ds [] t → recs_formed p s.node.recs ≡ true
      each s m =
          let x = behind-from excluded ds [] t m in
          subst (λ (n : Node). recs_formed p n.recs ≡ true) (sym x.node_is) (obey-formed p x.entry.node.recs (all_from (λ (e : Entry). recs_obey p e.node.recs) t h x.entry x.held))

  -- so what is computed is read, and what was computed before stays
  pub sent-read : (edition : ℕ) (excluded : List ℕ) (order : Order) (mtu place : ℕ) (digest : List ℕ) (t : Table) (l : List ℕ) (ss : List (List ℕ)) (o : Given (Result Sent Refusal) (List ℕ))
      → profile_obeys p t ≡ true
      → Comes edition excluded order mtu place digest t l o
      → (b : List ℕ)
      → b ∈ sent_after place o.lent o.answer ss
      → (b ∈ ss) ⊎ (IsRead p b × ReadsWell b)
  sent-read edition excluded order mtu place digest t l ss o h (refuses r) b m = inl m
  sent-read edition excluded order mtu place digest t l ss o h (writes ds rest e made there) b m = at (in-cons m)
    where
      ops : List Op
      ops = ops_by excluded order mtu ds t

      s : Sendable t ops
      s = made.sendable

      its : IsRead p (delta_bytes ops) × ReadsWell (delta_bytes ops)
      its = ((ops, delta-formed p (delta_bytes ops) ops (ops-formed excluded order mtu ds t h) s.read), (ops, s.read, s.chain, s.small, refl))

      at : (b ≡ part place (length (delta_bytes ops)) (put place (delta_bytes ops) l)) ⊎ (b ∈ ss) → (b ∈ ss) ⊎ (IsRead p b × ReadsWell b)
      at (inl q) = inr (subst (λ (c : List ℕ). IsRead p c × ReadsWell c) (sym (q ∙ there)) its)
      at (inr n) = inl n

-- ---- applying

-- what a table's profile reads is refused for answer places alone
pub only-places : (k : Kind) (b : List ℕ) → IsRead k.profile b → (now : ℕ) (t : Table) (l : List ℕ) (why : Refusal) (at : ℕ) → (apply (ways_in k) b now t l).answer ≡ (Err (record { why = why; at = at })) → why ≡ NoPlace
unfolding apply
only-places k b read now t l why at e = go (leb (length parts) (length l)) (ap (λ (o : Ops). (apply_ops (apply_node (ways_in k) now) o t l).answer) (sym read.1) ∙ e)
  where
    parts : List Part
    parts = parts_of read.0

    go : (c : Bool)
        → (pick {X = ApplyOutcome} c
        (record { answer = Ok (length parts); table = (apply_each (apply_node (ways_in k) now) parts t).table; list = put 0 (codes (apply_each (apply_node (ways_in k) now) parts t).answers) l })
        (record { answer = (Err (record { why = NoPlace; at = 0 })); table = t; list = l })).answer ≡ (Err (record { why = why; at = at }))
        → why ≡ NoPlace
    go true q = let z : ◌≡◌ {A = ℕ} 0 1 = cc in absurd (omega arith)
    go false q = sym (ap (λ (f : DeltaFault). f.why) (err-is _ _ q))
