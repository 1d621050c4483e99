-- `local_node::write_node` meets its contract: each arm is one of the calls. Assumes nothing.
use Prim.Native.Nat.{ℕ}
use mathlib.Core.Path.{◌≡◌, refl, sym, subst}
use mathlib.Core.List.{List}
use Rattle.rules.specs.Given.{Gives}
use Rattle.rules.specs.Node.{Node, Decision, Setting, SettingTtl, wish, decide}
use Rattle.rules.specs.declared.Status.TheVariants.{Set, Ttl}
use Rattle.std.specs.Prelude.{Result}
use Rattle.rules.specs.declared.Refusal.{Refusal}
use Rattle.local_node.specs.declared.Kind.{Kind}
use Rattle.local_grant.specs.Granting.{decided, node_in, change_of}
use Rattle.local_node.specs.Writes.{node_called, within, setting, call_of}
use Rattle.local_node.proofs.write_node.Goals as goal

-- from the kind's own call to that of the kind at hand
one : (k v : List ℕ) (t : ℕ) (b : List ℕ) (r : (Result (Unit {0}) Refusal)) (s : List ℕ) (x y : Kind) → x ≡ y → Gives (node_called (call_of y v t) k b) r s → Gives (node_called (call_of x v t) k b) r s
one k v t b r s x y e = subst (λ (z : Kind). Gives (node_called (call_of z v t) k b) r s) (sym e)

set_is : (k v : List ℕ) (n : Node) → setting k (change_of v Set 0) n ≡ decide (Setting v) k n
unfolding setting within decide wish
set_is k v n = refl

ttl-is : (k v : List ℕ) (t : ℕ) (n : Node) → setting k (change_of v Ttl t) n ≡ decide (SettingTtl v t) k n
unfolding setting within decide wish
ttl-is k v t n = refl

pub returns-in-Setting : goal.returns-in-Setting
returns-in-Setting c =
    let a = c.args in
    let r = c.set_key in
    one a.key.now a.value.now a.clock a.node.now r.result r.new.node a.kind _ c.in-Setting.is
    (subst (λ (d : Decision). Gives (decided a.key.now d a.node.now) r.result r.new.node) (set_is a.key.now a.value.now (node_in a.node.now)) r.ensures)

pub returns-in-SettingTtl : goal.returns-in-SettingTtl
returns-in-SettingTtl c =
    let a = c.args in
    let r = c.set_key-in-SettingTtl in
    one a.key.now a.value.now a.clock a.node.now r.result r.new.node a.kind _ c.in-SettingTtl.is
    (subst (λ (d : Decision). Gives (decided a.key.now d a.node.now) r.result r.new.node) (ttl-is a.key.now a.value.now a.clock (node_in a.node.now)) r.ensures)

pub returns-in-Deleting : goal.returns-in-Deleting
returns-in-Deleting c =
    let a = c.args in
    let r = c.delete_key in
    one a.key.now a.value.now a.clock a.node.now r.result r.new.node a.kind _ c.in-Deleting.is r.ensures

pub returns-in-DeletingAfterTtl : goal.returns-in-DeletingAfterTtl
returns-in-DeletingAfterTtl c =
    let a = c.args in
    let r = c.delete_key-in-DeletingAfterTtl in
    one a.key.now a.value.now a.clock a.node.now r.result r.new.node a.kind _ c.in-DeletingAfterTtl.is r.ensures
