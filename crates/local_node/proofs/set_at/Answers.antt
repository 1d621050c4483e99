-- `local_node::set_at` meets its contract. Assumes nothing.
use mathlib.Core.Path.{◌≡◌, sym, ◌∙◌, subst}
use mathlib.Core.Bool.{true, false}
use Rattle.fields.proofs.Choice.{pick_true, pick-false}
use Rattle.rules.specs.Given.{Gives}
use Rattle.rules.specs.Node.{Rec, Node, Change, Decision, Leave}
use Rattle.table.specs.Places.{rec_at}
use Rattle.table_read.specs.declared.Place.TheVariants.{At}
use Rattle.table_read.proofs.Searched.{rec-in}
use Rattle.local_grant.specs.Granting.{decided, node_in, change_of, allowed_at}
use Rattle.local_node.specs.Writes.{alike, changing}
use Rattle.local_grant.proofs.Acting.{left}
use Prim.Native.Nat.{ℕ}
use Rattle.local_node.proofs.set_at.Goals as goal

module _ (j : ℕ) (r : Rec) (ch : Change) (n : Node) where
  leaves : alike r ch.value ch.status ≡ true → changing j r ch n ≡ Leave
  unfolding changing
  leaves h = pick_true _ Leave (allowed_at (At j) ch n) h

  changes : alike r ch.value ch.status ≡ false → allowed_at (At j) ch n ≡ changing j r ch n
  unfolding changing
  changes h = sym (pick-false _ Leave (allowed_at (At j) ch n) h)

pub is_same-requires : goal.is_same-requires
is_same-requires c =
    (c.requires.0, rec-in c.args.node.now c.args.key.now c.args.j c.requires.1)

pub returns-then-is_same : goal.returns-then-is_same
returns-then-is_same c =
    let a = c.args in
    left a.key.now a.node.now c.requires.0 _
    (leaves a.j (rec_at a.j a.node.now) (change_of a.value.now a.status a.start) (node_in a.node.now) (sym c.is_same.ensures ∙ c.if-is_same.true))

pub returns : goal.returns
returns c =
    let g = c.rewrite in
    let a = c.args in
    subst (λ (d : Decision). Gives (decided a.key.now d a.node.now) g.result g.new.node)
    (changes a.j (rec_at a.j a.node.now) (change_of a.value.now a.status a.start) (node_in a.node.now) (sym c.is_same.ensures ∙ c.if-is_same.false))
    g.ensures
