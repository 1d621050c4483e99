-- Every writing call leaves valid overrides valid. Assumes nothing.
use Prim.Native.Nat.{ℕ, ◌<◌}
use mathlib.Core.Path.{◌≡◌, sym, subst}
use mathlib.Core.Bool.{Bool, true, false}
use mathlib.Core.List.{List}
use lib.Dec.{eqb}
use lib.ListN.{length}
use borrow.Author.Tests.{eq-eqb}
use Rattle.fields.specs.Choice.{pick}
use Rattle.fields.proofs.Choice.{pick_true}
use Rattle.rules.specs.Given.{Given, given}
use Rattle.rules.specs.Sizes.{numbers}
use Rattle.rules.specs.Node.{Node, Call, Setting, SettingTtl, decide, act, due, remove}
use Rattle.rules.specs.Table.{Entry, entry_obeys}
use Rattle.rules.specs.Delta.{status_byte}
use Rattle.rules.specs.Layout.{node_width, encode_node, decode_node}
use Rattle.rules.specs.declared.Status.TheVariants.{Set, Ttl}
use Rattle.std.specs.Prelude.{Err, Result}
use Rattle.rules.specs.declared.Refusal.{Refusal}
use Rattle.rules.specs.Results.{done}
use Rattle.rules.specs.declared.Refusal.TheVariants.{BadTable, BadTag}
use Rattle.rules.proofs.Obeys.{OkNode, OkEntry, entry-facts, facts-entry}
use Rattle.rules.proofs.Keeps.{ClockFits, ok-fresh, ok-act, ok-remove}
use Rattle.table.specs.Changes.{with_node, fresh_entry}
use Rattle.overrides.specs.Overrides.{valid_node, stored_node, on_overrides, called, written, cleaned, lent_new_overrides, lent_write_override, lent_call_override, lent_remove_overrides}
use Rattle.overrides.proofs.Valid.{over-obeys, valid-by-node}

-- a rule that keeps the table rules
kept : {A : Type 0} (bad : A) (rule : Entry → Given A Entry) (b : List ℕ) → (entry_obeys (decode_node b) ≡ true → entry_obeys (rule (decode_node b)).lent ≡ true)
    → valid_node b ≡ true → valid_node (on_overrides bad rule b).lent ≡ true
unfolding on_overrides
kept {A} bad rule b keeps v =
    subst (λ (x : Given A (List ℕ)). valid_node x.lent ≡ true) (sym (pick_true (valid_node b) (stored_node (rule (decode_node b))) (given bad b) v))
    (valid-by-node (rule (decode_node b)).lent (keeps (over-obeys b v)))

-- another node under the number
under : (e : Entry) (n : Node) → (OkNode e.node → OkNode n) → entry_obeys e ≡ true → entry_obeys (with_node n e) ≡ true
under e n f o = let k : OkEntry e = entry-facts e o in facts-entry (with_node n e) (record { number_fits = k.number_fits; node_ok = f k.node_ok })

pub new-keeps : (i : ℕ) (b : List ℕ) → i < numbers → length b ≡ node_width → valid_node (lent_new_overrides i b).lent ≡ true
unfolding lent_new_overrides
new-keeps i b h e =
    subst (λ (x : Given (Result (Unit {0}) Refusal) (List ℕ)). valid_node x.lent ≡ true)
    (sym (pick_true (eqb (length b) node_width) (given done (encode_node (fresh_entry i))) (given (Err BadTable) b) (eq-eqb (length b) node_width e)))
    (valid-by-node (fresh_entry i) (facts-entry (fresh_entry i) (record { number_fits = h; node_ok = ok-fresh })))

called-keeps : (c : Call) (k : List ℕ) (e : Entry) → ClockFits c → entry_obeys e ≡ true → entry_obeys (called c k e).lent ≡ true
called-keeps c k e f = under e (act k (decide c k e.node) e.node) (λ o. ok-act c k e.node o f)

pub call-keeps : (c : Call) (k b : List ℕ) → ClockFits c → valid_node b ≡ true → valid_node (lent_call_override c k b).lent ≡ true
call-keeps c k b f = kept (Err BadTable) (called c k) b (called-keeps c k (decode_node b) f)

written_keeps : (wanted : ℕ) (v : List ℕ) (now : ℕ) (k : List ℕ) (e : Entry) → now < numbers → entry_obeys e ≡ true → entry_obeys (written wanted v now k e).lent ≡ true
unfolding written
written_keeps wanted v now k e h o = go (eqb wanted (status_byte Set)) (eqb wanted (status_byte Ttl))
  where
    go : (s t : Bool) → entry_obeys (pick s (called (Setting v) k e) (pick t (called (SettingTtl v now) k e) (given (Err BadTag) e))).lent ≡ true
    go true t = called-keeps (Setting v) k e tt o
    go false true = called-keeps (SettingTtl v now) k e h o
    go false false = o

pub write_keeps : (wanted : ℕ) (v : List ℕ) (now : ℕ) (k b : List ℕ) → now < numbers → valid_node b ≡ true → valid_node (lent_write_override wanted v now k b).lent ≡ true
write_keeps wanted v now k b h = kept (Err BadTable) (written wanted v now k) b (written_keeps wanted v now k (decode_node b) h)

pub removal-keeps : (now grace : ℕ) (b : List ℕ) → valid_node b ≡ true → valid_node (lent_remove_overrides now grace b).lent ≡ true
removal-keeps now grace b = kept (Err BadTable) (cleaned now grace) b (under (decode_node b) (remove (due now grace) (decode_node b).node) (ok-remove (due now grace) (decode_node b).node))
