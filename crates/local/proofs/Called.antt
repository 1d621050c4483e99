-- A call on one node of a good table is the call on the table. Assumes nothing.
use Prim.Native.Nat.{ℕ, ◌-◌}
use mathlib.Core.Path.{◌≡◌, ap, refl, subst, sym, ◌∙◌}
use mathlib.Core.Bool.{true}
use mathlib.Core.List.{List, ◌++◌}
use mathlib.Core.Option.{Option, none, some}
use native.Mathlib.Omega.{arith}
use lib.ListN.{drop, take-append-drop}
use borrow.Rule.Slice.PartMut.{put_mid}
use Rattle.fields.specs.Choice.{pick}
use Rattle.fields.specs.Parts.{part}
use Rattle.rules.specs.Given.{Gives, given}
use Rattle.rules.specs.Node.{Node, Call, act, decide}
use Rattle.rules.specs.Table.{Table, node_of, set_node}
use Rattle.rules.specs.Profile.{guard_in}
use Rattle.rules.specs.Local.{Outcome, gives, call_on, call, call_as, unless_guarded}
use Rattle.rules.specs.Lent.{stored, stored_in, on_table, lent_call}
use Rattle.rules.specs.Layout.{node_width, table_width, decode, valid}
use Rattle.rules.specs.Whole.{area_of, decode_whole, valid_whole}
use Rattle.std.specs.Prelude.{Err, None, Result, Some}
use Rattle.rules.specs.Results.{done}
use Rattle.rules.specs.declared.Party.{Party}
use Rattle.rules.specs.declared.Profile.{Profile}
use Rattle.rules.specs.declared.Refusal.{Refusal}
use Rattle.rules.specs.declared.Refusal.TheVariants.{BadTable, NoNode}
use Rattle.table.proofs.Tables.{encode-decode}
use Rattle.table.proofs.Wholes.{area-valid}
use Rattle.table_check.proofs.Entry.{good-table}
use Rattle.local_guard.specs.Guarding.{guarded_by}
use Rattle.local_guard.proofs.Guarding.{any-time}
use Rattle.table_read.specs.Find.{span_in}
use Rattle.table_read.proofs.Held.{held-node, held_gives, missing-node, stays-gives}
use Rattle.local_grant.specs.Granting.{node_in}
use Rattle.local_node.specs.Writes.{call_of, node_called}
use Rattle.local_node.specs.declared.Kind.{Kind}

module _ (c : Call) (n : ℕ) (k l : List ℕ) (v : valid l ≡ true) where
  module _ {start end : ℕ} (e : span_in n l ≡ (Some (record { start = start; end = end }))) where
    abbrev bytes : List ℕ
    bytes = part start node_width l

    pub called-held : (r : (Result (Unit {0}) Refusal)) (ys : List ℕ) → Gives (node_called c k bytes) r ys → Gives (stored (call c n k (decode l))) r (put_mid start (end - start) l ys)
    unfolding call
    called-held r ys g =
        let m : Node = act k (decide c k (node_in bytes)) (node_in bytes) in
        held_gives n l v e (call c n k (decode l)) r m ys
        (ap (λ (x : Option Node). call_on c n k x (decode l)) (held-node n l v e) ∙ ap (λ (a : (Result (Unit {0}) Refusal)). gives a (set_node n m (decode l))) (sym g.0)) g.1

  pub called-missing : span_in n l ≡ None → Gives (stored (call c n k (decode l))) (Err NoNode) l
  unfolding call
  called-missing e = stays-gives n l v (call c n k (decode l)) (Err NoNode) (ap (λ (x : Option Node). call_on c n k x (decode l)) (missing-node n l v e))

-- ---- in the profile of the table

-- a rule that leaves the table leaves the bytes
pub whole-stays : {A : Type 0} (bad : A) (rule : Table → Outcome A) (l : List ℕ) (v : valid_whole l ≡ true) (r : A) → rule (decode (area_of l)) ≡ gives r (decode (area_of l)) → Gives (on_table bad rule l) r l
whole-stays {A} bad rule l v r e =
    subst (λ (s : List ℕ). Gives (on_table bad rule l) r s) (take-append-drop table_width l)
    (good-table bad rule l v r (area_of l) (subst (λ (o : Outcome A). Gives (stored o) r (area_of l)) (sym e) (refl, sym (encode-decode (area_of l) (area-valid l v)))))

module _ (c : Call) (n : ℕ) (k l : List ℕ) (v : valid_whole l ≡ true) where
  abbrev t : Table
  t = decode (area_of l)

  -- document 01's call on the whole
  pub on-whole : (r : (Result (Unit {0}) Refusal)) (s : List ℕ) → Gives (stored (call c n k t)) r s → Gives (on_table (Err BadTable) (call c n k) l) r (s ++ drop table_width l)
  on-whole r s g = good-table (Err BadTable) (call c n k) l v r s g

  module _ (q : Party) where
    abbrev p : Profile
    p = (decode_whole l).kind.profile

    pub let_through : guard_in p q c k (node_of n t) ≡ none → (r : (Result (Unit {0}) Refusal)) (m : List ℕ) → Gives (on_table (Err BadTable) (call c n k) l) r m → Gives (lent_call q c n k l) r m
    unfolding call_as on_table
    let_through e r m g =
        subst (λ (x : Option Refusal). Gives (pick (valid_whole l) (stored_in (decode_whole l) (unless_guarded x (call c n k t) t)) (given (Err BadTable) l)) r m) (sym e) g

    pub passed : guard_in p q c k (node_of n t) ≡ none → (r : (Result (Unit {0}) Refusal)) (s : List ℕ) → Gives (stored (call c n k t)) r s → Gives (lent_call q c n k l) r (s ++ drop table_width l)
    passed e r s g = let_through e r (s ++ drop table_width l) (on-whole r s g)

    pub refused : (r : Refusal) → guard_in p q c k (node_of n t) ≡ some r → Gives (lent_call q c n k l) (Err r) l
    unfolding call_as
    refused r e = whole-stays (Err BadTable) (call_as p q c n k) l v (Err r) (ap (λ (x : Option Refusal). unless_guarded x (call c n k t) t) e)

-- What the guard says in the profile that was read, without a time, it says of the table's and of the call at its time.
module _ (kind : Kind) (v : List ℕ) (now n : ℕ) (k l : List ℕ) (q : Party) where
  abbrev node : Option Node
  node = node_of n (decode (area_of l))

  pub guard-says : {p : Profile} → p ≡ (decode_whole l).kind.profile → {r : Result (Unit {0}) Refusal} → r ≡ guarded_by (guard_in p q (call_of kind v 0) k node)
      → r ≡ guarded_by (guard_in (decode_whole l).kind.profile q (call_of kind v now) k node)
  guard-says e g = g ∙ ap (λ (x : Profile). guarded_by (guard_in x q (call_of kind v 0) k node)) e ∙ ap guarded_by (any-time (decode_whole l).kind.profile q kind v k node now)

-- what the guard answered
pub guard_passed : (o : Option Refusal) → done ≡ guarded_by o → o ≡ none
guard_passed none e = refl
guard_passed (some r) e = let z : ◌≡◌ {A = ℕ} 0 1 = cc in absurd (omega arith)

pub guard-refused : (o : Option Refusal) (r : Refusal) → Err r ≡ guarded_by o → o ≡ some r
guard-refused none r e = let z : ◌≡◌ {A = ℕ} 0 1 = cc in absurd (omega arith)
guard-refused (some x) r e = let q : x ≡ r = cc in ap some q
