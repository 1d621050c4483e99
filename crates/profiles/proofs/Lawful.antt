-- The ways of a table of any kind are lawful: so it keeps document 01's rules, and demand 3 and nets hold of it. Assumes nothing.
use Prim.Native.Nat.{ℕ, ◌≤◌}
use mathlib.Core.Bool.{Bool, true}
use mathlib.Core.List.{List}
use mathlib.Core.Path.{◌≡◌, refl, ap, subst}
use lib.Dec.{leb}
use lib.ListN.{length}
use borrow.Author.Tests.{leb-true}
use Rattle.fields.specs.Choice.{pick}
use Rattle.fields.proofs.Choice.{and_right}
use Rattle.rules.specs.Sizes.{max_records}
use Rattle.rules.specs.Apply.{Lawful, answered, apply_node, delta_status, outcome, taken_as, ways_in, ways_of, with_room}
use Rattle.rules.specs.Delta.{NodeDelta}
use Rattle.rules.specs.Node.{Node, Rec}
use Rattle.rules.specs.Profile.{Kind, kind, recs_fit, roomy_in}
use Rattle.rules.specs.declared.DeltaStatus.{DeltaStatus}
use Rattle.rules.specs.declared.DeltaStatus.TheVariants.{Reject, Apply, ApplyAfterReset, Fenced}
use Rattle.rules.specs.declared.Mode.{Mode}
use Rattle.rules.specs.declared.NodeAnswer.{NodeAnswer}
use Rattle.rules.specs.declared.NodeAnswer.TheVariants as node
use Rattle.rules.specs.declared.Profile.{Profile}
use Rattle.rules.proofs.Keeps.{mode-lawful}
use Rattle.profiles.proofs.Reading.{delta-plain}

-- what has room in a profile has room by document 01
room-few : (p : Profile) (l : List Rec) → roomy_in p l ≡ true → length l ≤ max_records
room-few p l e = leb-true (length l) max_records (and_right (recs_fit p l) (leb (length l) max_records) e)

pub kind-lawful : (k : Kind) → Lawful (ways_in k)
kind-lawful k =
    record {
      reads_so = λ b ops e. (delta-plain k.profile b ops e).0;
      few = room-few k.profile;
      lets = (mode-lawful k.mode).lets;
      safe = (mode-lawful k.mode).safe;
    }

-- of the profile only what has room matters to a node
pub taken_as_lem : (k j : Kind) → k.mode ≡ j.mode → ((l : List Rec) → roomy_in k.profile l ≡ roomy_in j.profile l) → (now : ℕ) (d : NodeDelta) (n : Node) → apply_node (ways_in k) now d n ≡ apply_node (ways_in j) now d n
unfolding apply_node
taken_as_lem k j m same now d n = subst (λ (x : Mode). apply_node (ways_in k) now d n ≡ apply_node (ways_in (kind x j.profile)) now d n) m (go (delta_status (ways_of k.mode).fence n d))
  where
    room : (a : NodeAnswer) (o : Node) → with_room (ways_in k) a o n ≡ with_room (ways_in (kind k.mode j.profile)) a o n
    room a o = ap (λ (b : Bool). pick b (taken_as a o) (taken_as node.Room n)) (same o.recs)

    go : (s : DeltaStatus) → answered (ways_in k) s (outcome s now d n) n ≡ answered (ways_in (kind k.mode j.profile)) s (outcome s now d n) n
    go Reject = refl
    go Apply = room node.Apply (outcome Apply now d n)
    go ApplyAfterReset = room node.ApplyAfterReset (outcome ApplyAfterReset now d n)
    go Fenced = refl
