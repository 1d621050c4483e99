-- `local_node::delete_at` meets its contract: what was copied out is the value that the record keeps. Assumes nothing.
use Prim.Native.Nat.{ℕ, ◌≤◌, ◌<◌}
use mathlib.Core.Path.{◌≡◌, ap, ap₂, sym, ◌∙◌, subst}
use mathlib.Core.Bool.{Bool}
use mathlib.Core.List.{List}
use native.Mathlib.Omega.{arith}
use lib.ListN.{length, take}
use Rattle.fields.specs.Parts.{put}
use Rattle.fields.proofs.Parts.{part-put}
use Rattle.fields.proofs.Lent.{seen_first}
use Rattle.rules.specs.Given.{Gives}
use Rattle.rules.specs.Sizes.{max_value}
use Rattle.rules.specs.declared.Status.TheVariants.{Ttl}
use Rattle.table.specs.Places.{rec_at}
use Rattle.table.specs.Tests.{count_of}
use Rattle.table.proofs.Laid.{laid-rec}
use Rattle.table_read.specs.declared.Place.TheVariants.{At}
use Rattle.table_read.proofs.Searched.{rec-in}
use Rattle.local_grant.specs.Granting.{change_of, node_granted}
use Rattle.local_node.specs.Writes.{node_dropped}
use borrow.Author.Rules.{rules}
use Rattle.local_node.proofs.delete_at.Goals as goal

front : (v l : List ℕ) → length v ≤ length l → take (length v) (put 0 v l) ≡ v
front v l h = seen_first (length v) (put 0 v l) ∙ part-put 0 v l (omega arith)

pub copy_value-n-requires : goal.copy_value-n-requires
copy_value-n-requires c =
    let within : c.args.j < count_of c.args.node.now = rec-in c.args.node.now c.args.key.now c.args.j c.requires.1 in
    (c.requires.0, within, search rules)

pub slice_bounds-held-end : goal.slice_bounds-held-end
slice_bounds-held-end c =
    let value : List ℕ = (rec_at c.args.j c.args.node.now).kv.value in
    let within : c.args.j < count_of c.args.node.now = rec-in c.args.node.now c.args.key.now c.args.j c.requires.1 in
    let short : length (value) ≤ max_value = (laid-rec c.args.node.now c.requires.0 c.args.j (within)).value-fits in
    omega (arith, c.copy_value-n.ensures.0, short)

pub slice_bounds-rewrite-end : goal.slice_bounds-rewrite-end
slice_bounds-rewrite-end c =
    let value : List ℕ = (rec_at c.args.j c.args.node.now).kv.value in
    let within : c.args.j < count_of c.args.node.now = rec-in c.args.node.now c.args.key.now c.args.j c.requires.1 in
    let short : length (value) ≤ max_value = (laid-rec c.args.node.now c.requires.0 c.args.j (within)).value-fits in
    let copied : take c.copy_value-n.result c.copy_value-n.new.out ≡ value = ap₂ take c.copy_value-n.ensures.0 c.copy_value-n.ensures.1 ∙ front (value) _ (omega (arith, short)) in
    let long : c.copy_value-n.result ≡ length (take c.copy_value-n.result c.copy_value-n.new.out) = c.copy_value-n.ensures.0 ∙ ap length (sym (copied)) in
    long

pub rewrite-requires : goal.rewrite-requires
rewrite-requires c =
    let value : List ℕ = (rec_at c.args.j c.args.node.now).kv.value in
    let within : c.args.j < count_of c.args.node.now = rec-in c.args.node.now c.args.key.now c.args.j c.requires.1 in
    let short : length (value) ≤ max_value = (laid-rec c.args.node.now c.requires.0 c.args.j (within)).value-fits in
    let copied : take c.copy_value-n.result c.copy_value-n.new.out ≡ value = ap₂ take c.copy_value-n.ensures.0 c.copy_value-n.ensures.1 ∙ front (value) _ (omega (arith, short)) in
    let long : c.copy_value-n.result ≡ length (take c.copy_value-n.result c.copy_value-n.new.out) = c.copy_value-n.ensures.0 ∙ ap length (sym (copied)) in
    (c.requires.0, c.requires.1, c.requires.2, omega (arith, long, c.copy_value-n.ensures.0, short))

pub returns-then-keeps : goal.returns-then-keeps
returns-then-keeps c =
    let value : List ℕ = (rec_at c.args.j c.args.node.now).kv.value in
    let within : c.args.j < count_of c.args.node.now = rec-in c.args.node.now c.args.key.now c.args.j c.requires.1 in
    let short : length (value) ≤ max_value = (laid-rec c.args.node.now c.requires.0 c.args.j (within)).value-fits in
    let copied : take c.copy_value-n.result c.copy_value-n.new.out ≡ value = ap₂ take c.copy_value-n.ensures.0 c.copy_value-n.ensures.1 ∙ front (value) _ (omega (arith, short)) in
    let g = c.rewrite in
    let a = c.args in
    subst (λ (t : Bool). Gives (node_dropped a.j t a.clock a.key.now a.node.now) g.result g.new.node) (sym c.if-keeps.true)
    (subst (λ (v : List ℕ). Gives (node_granted (At a.j) a.key.now (change_of v Ttl a.clock) a.node.now) g.result g.new.node) (copied) g.ensures)

pub rewrite-requires-2 : goal.rewrite-requires-2
rewrite-requires-2 c =
    (c.requires.0, c.requires.1, c.requires.2, omega arith)

pub returns : goal.returns
returns c =
    let g = c.rewrite-2 in
    let a = c.args in
    subst (λ (t : Bool). Gives (node_dropped a.j t a.clock a.key.now a.node.now) g.result g.new.node) (sym c.if-keeps.false) g.ensures
