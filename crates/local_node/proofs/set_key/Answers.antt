-- `local_node::set_key` meets its contract: what finding the key says decides. Assumes nothing.
use Prim.Native.Nat.{◌≤◌, ◌<◌}
use mathlib.Core.Path.{◌≡◌, sym, ◌∙◌, subst}
use mathlib.Core.List.{List}
use native.Mathlib.Omega.{arith}
use lib.ListN.{length}
use Prim.Native.Nat.{ℕ}
use Rattle.rules.specs.Given.{Gives}
use Rattle.rules.specs.Sizes.{max_key, max_value}
use Rattle.rules.specs.Node.{Change, Decision, Refuse, allowed, unless_same, find}
use Rattle.rules.specs.declared.Refusal.TheVariants.{TooLong}
use Rattle.table.specs.Tests.{recs_in}
use Rattle.table_read.specs.Find.{find_key}
use Rattle.table_read.specs.declared.Place.TheVariants.{At, Free}
use Rattle.table_read.proofs.Searched.{rec-found, rec-missing}
use Rattle.local_grant.specs.Granting.{decided, node_in, change_of}
use Rattle.local_node.specs.Writes.{setting}
use Rattle.local_grant.proofs.Acting.{refused}
use Rattle.local_node.proofs.Deciding.{key-long, value-long, set_at as deciding-at, set_new as deciding-new}
use Rattle.local_node.proofs.set_key.Goals as goal

long : (k : List ℕ) (ch : Change) (b : List ℕ) → max_key < length k → setting k ch (node_in b) ≡ Refuse TooLong
unfolding setting
long k ch b h = key-long k ch.value (allowed k (node_in b) (unless_same (find k (recs_in b)) ch)) h

long-value : (k : List ℕ) (ch : Change) (b : List ℕ) → length k ≤ max_key → max_value < length ch.value → setting k ch (node_in b) ≡ Refuse TooLong
unfolding setting
long-value k ch b g h = value-long k ch.value (allowed k (node_in b) (unless_same (find k (recs_in b)) ch)) g h

pub returns-then-key-gt-KEY : goal.returns-then-key-gt-KEY
returns-then-key-gt-KEY c =
    let change : Change = change_of c.args.value.now c.args.status c.args.start in
    let a = c.args in
    refused a.key.now a.node.now c.requires.0 _ TooLong (long a.key.now (change) a.node.now (omega arith))

pub returns-then-value-gt-VALUE : goal.returns-then-value-gt-VALUE
returns-then-value-gt-VALUE c =
    let change : Change = change_of c.args.value.now c.args.status c.args.start in
    let key_fits : length c.args.key.now ≤ max_key = omega arith in
    let a = c.args in
    refused a.key.now a.node.now c.requires.0 _ TooLong (long-value a.key.now (change) a.node.now (key_fits) (omega arith))

pub set_at-requires : goal.set_at-requires
set_at-requires c =
    let stands : let a = c.args in find_key a.key.now (recs_in a.node.now) ≡ At c.in-At.j = sym c.search_key.ensures ∙ c.in-At.is in
    let key_fits : length c.args.key.now ≤ max_key = omega arith in
    let value-fits : length c.args.value.now ≤ max_value = omega arith in
    (c.requires.0, stands, key_fits, value-fits)

pub grant-requires : goal.grant-requires
grant-requires c =
    let belongs : let a = c.args in find_key a.key.now (recs_in a.node.now) ≡ Free c.in-Free.j = sym c.search_key.ensures ∙ c.in-Free.is in
    let key_fits : length c.args.key.now ≤ max_key = omega arith in
    let value-fits : length c.args.value.now ≤ max_value = omega arith in
    (c.requires.0, belongs, key_fits, value-fits)

pub returns-in-At : goal.returns-in-At
returns-in-At c =
    let change : Change = change_of c.args.value.now c.args.status c.args.start in
    let key_fits : length c.args.key.now ≤ max_key = omega arith in
    let value-fits : length c.args.value.now ≤ max_value = omega arith in
    let stands : let a = c.args in find_key a.key.now (recs_in a.node.now) ≡ At c.in-At.j = sym c.search_key.ensures ∙ c.in-At.is in
    let r = c.set_at in
    let a = c.args in
    subst (λ (d : Decision). Gives (decided a.key.now d a.node.now) r.result r.new.node)
    (sym
    (deciding-at a.key.now (node_in a.node.now) (change) c.in-At.j (key_fits) (value-fits)
    (rec-found a.node.now a.key.now _ (stands))))
    r.ensures

pub returns-in-Free : goal.returns-in-Free
returns-in-Free c =
    let change : Change = change_of c.args.value.now c.args.status c.args.start in
    let key_fits : length c.args.key.now ≤ max_key = omega arith in
    let value-fits : length c.args.value.now ≤ max_value = omega arith in
    let belongs : let a = c.args in find_key a.key.now (recs_in a.node.now) ≡ Free c.in-Free.j = sym c.search_key.ensures ∙ c.in-Free.is in
    let r = c.grant in
    let a = c.args in
    subst (λ (d : Decision). Gives (decided a.key.now d a.node.now) r.result r.new.node)
    (sym
    (deciding-new a.key.now (node_in a.node.now) (change) c.in-Free.j (key_fits) (value-fits)
    (rec-missing a.node.now a.key.now _ c.requires.1 (belongs))))
    r.ensures
