-- `table_nodes::used_at` meets its contract. Assumes nothing.
use Prim.Native.Nat.{ℕ, ◌≤◌}
use mathlib.Core.Path.{◌≡◌, ap, sym, ◌∙◌, subst}
use mathlib.Core.List.{List}
use native.Mathlib.Omega.{arith}
use lib.ListN.{length}
use Rattle.fields.specs.Parts.{part}
use Rattle.fields.proofs.Lent.{seen}
use Rattle.rules.specs.Sizes.{max_records}
use Rattle.rules.specs.Layout.{rec_place, node_width}
use Rattle.table.specs.Fits.{LaidNode}
use Rattle.table.specs.Tests.{count_of}
use Rattle.table_nodes.proofs.used_at.Goals as goal

pub used-requires : goal.used-requires
used-requires c =
    let a = c.args in
    let o : LaidNode (part a.at node_width a.pair.now) = c.requires.1 in
    let s = sym (seen a.at node_width a.pair.now) in
    (ap length (sym s) ∙ o.long, subst (λ (b : List ℕ). count_of b ≤ max_records) s o.few)

pub returns : goal.returns
returns c =
    let a = c.args in
    let o : LaidNode (part a.at node_width a.pair.now) = c.requires.1 in
    let e : c.used.result ≡ rec_place (count_of (part a.at node_width a.pair.now)) = c.used.ensures ∙ ap (λ (b : List ℕ). rec_place (count_of b)) (seen a.at node_width a.pair.now) in
    (e, omega (arith, o.few))
