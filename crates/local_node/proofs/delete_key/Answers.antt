-- `local_node::delete_key` meets its contract: what finding the key says decides. Assumes nothing.
use Prim.Native.Nat.{◌≤◌}
use mathlib.Core.Path.{◌≡◌, sym, ◌∙◌, subst}
use native.Mathlib.Omega.{arith}
use lib.ListN.{length}
use Rattle.rules.specs.Given.{Gives}
use Rattle.rules.specs.Sizes.{max_key}
use Rattle.rules.specs.Node.{Decision}
use Rattle.rules.specs.declared.Refusal.TheVariants.{TooLong, NoKey}
use Rattle.table.specs.Tests.{recs_in}
use Rattle.table_read.specs.Find.{find_key}
use Rattle.table_read.specs.declared.Place.TheVariants.{At}
use Rattle.table_read.proofs.Searched.{rec-found, rec-missing}
use Rattle.local_grant.specs.Granting.{decided, node_in}
use Rattle.local_grant.proofs.Acting.{refused}
use Rattle.local_node.proofs.Deciding.{delete-long, delete-at as deciding-at, delete-none}
use Rattle.local_node.proofs.delete_key.Goals as goal

pub returns-then-key-gt-KEY : goal.returns-then-key-gt-KEY
returns-then-key-gt-KEY c =
    let a = c.args in
    refused a.key.now a.node.now c.requires.0 _ TooLong (delete-long a.key.now (node_in a.node.now) a.keeps a.clock (omega arith))

pub delete_at-requires : goal.delete_at-requires
delete_at-requires c =
    let stands : let a = c.args in find_key a.key.now (recs_in a.node.now) ≡ At c.in-At.j = sym c.search_key.ensures ∙ c.in-At.is in
    let key_fits : length c.args.key.now ≤ max_key = omega arith in
    (c.requires.0, stands, key_fits)

pub returns-in-At : goal.returns-in-At
returns-in-At c =
    let key_fits : length c.args.key.now ≤ max_key = omega arith in
    let stands : let a = c.args in find_key a.key.now (recs_in a.node.now) ≡ At c.in-At.j = sym c.search_key.ensures ∙ c.in-At.is in
    let d = c.delete_at in
    let a = c.args in
    subst (λ (x : Decision). Gives (decided a.key.now x a.node.now) d.result d.new.node)
    (sym
    (deciding-at a.key.now (node_in a.node.now) a.keeps a.clock c.in-At.j (key_fits) (rec-found a.node.now a.key.now _ (stands))))
    d.ensures

pub returns-in-Free : goal.returns-in-Free
returns-in-Free c =
    let key_fits : length c.args.key.now ≤ max_key = omega arith in
    let a = c.args in
    refused a.key.now a.node.now c.requires.0 _ NoKey
    (delete-none a.key.now (node_in a.node.now) a.keeps a.clock (key_fits)
    (rec-missing a.node.now a.key.now _ c.requires.1 (sym c.search_key.ensures ∙ c.in-Free.is)))
