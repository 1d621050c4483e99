-- Site overrides (document 02, ticket 10): a lent table of overrides is one node in form. Its bytes are those of a node (Layout of `rules`), and nothing
-- else: no count of nodes, no mode, no memory. What stands in them are document 01's records; the calls on them are document 01's rules of a node, without 2.
-- The node's number is kept as it was given, and no call looks at it; heartbeat 0 stays.
use Rattle.std.specs.Prelude.{ℕ, Bool, ◌&&◌, length, eqb}
use Rattle.fields.specs.Choice.{pick}
use Rattle.fields.specs.Numbers.{Bytes}
use Rattle.fields.specs.Order.{same_bytes}
use Rattle.rules.specs.Given.{Given, given}
use Rattle.rules.specs.Node.{Call, Setting, SettingTtl, decide, act, due, remove}
use Rattle.rules.specs.Table.{Entry, entry_obeys}
use Rattle.rules.specs.Local.{answer_of}
use Rattle.rules.specs.Delta.{status_byte}
use Rattle.rules.specs.Layout.{node_width, encode_node, decode_node}
use Rattle.rules.specs.declared.Status.TheVariants.{Set, Ttl}
use Rattle.std.specs.Prelude.{Err, Result}
use Rattle.rules.specs.declared.Refusal.{Refusal}
use Rattle.rules.specs.Results.{done}
use Rattle.rules.specs.declared.Refusal.TheVariants.{BadTable, BadTag}
use Rattle.table.specs.Changes.{with_node, fresh_entry}

-- number 14 of overrides is refused exactly where this is false: the bytes are those of a node that obeys the table rules
unfoldable pub valid_node : (bytes : Bytes) → Bool
valid_node b = entry_obeys (decode_node b) && same_bytes (encode_node (decode_node b)) b

-- what a rule leaves in the bytes
abbrev pub stored_node : {A : Type 0} (of : Given A Entry) → Given A Bytes
stored_node of = given of.answer (encode_node of.lent)

-- 14, or the rule on the node that the bytes are
unfoldable pub on_overrides : {A : Type 0} (bad : A) (rule : Entry → Given A Entry) (overrides : Bytes) → Given A Bytes
on_overrides bad rule b = pick (valid_node b) (stored_node (rule (decode_node b))) (given bad b)

-- ---- the rules

-- a local call at a key, as document 01's node decides it: 1, 3, nothing to change, 5, 6
abbrev pub called : (call : Call) (key : Bytes) (entry : Entry) → Given (Result (Unit {0}) Refusal) Entry
called c k e = given (answer_of (decide c k e.node)) (with_node (act k (decide c k e.node) e.node) e)

-- the one write (ticket 6), by the number of the wanted status: 10 for any but Set and TTL
unfoldable pub written : (wanted : ℕ) (value : Bytes) (now : ℕ) (key : Bytes) (entry : Entry) → Given (Result (Unit {0}) Refusal) Entry
written wanted v now k e =
    pick (eqb wanted (status_byte Set)) (called (Setting v) k e)
    (pick (eqb wanted (status_byte Ttl)) (called (SettingTtl v now) k e) (given (Err BadTag) e))

-- removal by the clock
abbrev pub cleaned : (now grace : ℕ) (entry : Entry) → Given (Result (Unit {0}) Refusal) Entry
cleaned now grace e = given done (with_node (remove (due now grace) e.node) e)

-- ---- on lent bytes

-- The slice becomes overrides without a record, whatever stood there. One of another length can be none: 14.
unfoldable pub lent_new_overrides : (number : ℕ) (slice : Bytes) → Given (Result (Unit {0}) Refusal) Bytes
lent_new_overrides i b = pick (eqb (length b) node_width) (given done (encode_node (fresh_entry i))) (given (Err BadTable) b)

-- 14, 10, 1, 5, 6
abbrev pub lent_write_override : (wanted : ℕ) (value : Bytes) (now : ℕ) (key overrides : Bytes) → Given (Result (Unit {0}) Refusal) Bytes
lent_write_override wanted v now k b = on_overrides (Err BadTable) (written wanted v now k) b

-- the two deletes: 14, 1, 3, 6
abbrev pub lent_call_override : (call : Call) (key overrides : Bytes) → Given (Result (Unit {0}) Refusal) Bytes
lent_call_override c k b = on_overrides (Err BadTable) (called c k) b

-- 14
abbrev pub lent_remove_overrides : (now grace : ℕ) (overrides : Bytes) → Given (Result (Unit {0}) Refusal) Bytes
lent_remove_overrides now grace b = on_overrides (Err BadTable) (cleaned now grace) b
