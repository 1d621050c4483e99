-- The steps of a local call's decision, as the code takes them, and what a node's bytes are afterwards. That these steps come to the rules' own
-- `decide` is proved (proofs/Deciding.antt).
use Rattle.std.specs.Prelude.{ℕ, Bool, ◌&&◌, [], length, leb}
use Rattle.fields.specs.Choice.{pick}
use Rattle.fields.specs.Numbers.{Bytes}
use Rattle.fields.specs.Order.{same_bytes}
use Rattle.fields.specs.Parts.{put}
use Rattle.rules.specs.Given.{Given, given}
use Rattle.rules.specs.Sizes.{max_key, max_value}
use Rattle.rules.specs.Node.{Rec, Node, Change, Call, Setting, SettingTtl, Deleting, DeletingAfterTtl, Decision, Refuse, Leave, same_status, find, unless_same, allowed, decide}
use Rattle.rules.specs.declared.Status.{Status}
use Rattle.rules.specs.declared.Status.TheVariants.{Delete, Ttl}
use Rattle.std.specs.Prelude.{Result}
use Rattle.rules.specs.declared.Refusal.{Refusal}
use Rattle.rules.specs.declared.Refusal.TheVariants.{TooLong}
use Rattle.table.specs.Places.{rec_at}
use Rattle.table_read.specs.declared.Place.TheVariants.{At}
use Rattle.local_grant.specs.Granting.{change_of, allowed_at, node_in, decided, node_granted}
use Rattle.local_node.specs.declared.Kind.{Kind}
use Rattle.local_node.specs.declared.Kind.TheVariants as kind

-- ---- the calls

-- the call of a kind, with the value that a set brings
abbrev pub call_of : (kind : Kind) (value : Bytes) (now : ℕ) → Call
call_of kind.Setting v now = Setting v
call_of kind.SettingTtl v now = SettingTtl v now
call_of kind.Deleting v now = Deleting now
call_of kind.DeletingAfterTtl v now = DeletingAfterTtl now

-- a delete, and one after TTL, which keeps the value
abbrev pub deleting : (keeps : Bool) (now : ℕ) → Call
deleting keeps now = pick keeps (DeletingAfterTtl now) (Deleting now)

-- what a delete makes of the key's record, and what a delete after TTL makes of it
abbrev pub deleted : (now : ℕ) (rec : Rec) → Change
deleted t r = change_of [] Delete t

abbrev pub expired : (now : ℕ) (rec : Rec) → Change
expired t r = change_of r.kv.value Ttl t

abbrev pub dropped : (keeps : Bool) (now : ℕ) (rec : Rec) → Change
dropped keeps t r = pick keeps (expired t r) (deleted t r)

-- ---- the steps of a decision

-- the record has this value and status already
abbrev pub alike : (rec : Rec) (value : Bytes) (status : Status) → Bool
alike r v s = same_status r.kv.status s && same_bytes r.kv.value v

-- a set of record j: nothing to change, 6
unfoldable pub changing : (j : ℕ) (rec : Rec) (change : Change) (node : Node) → Decision
changing j r c n = pick (alike r c.value c.status) Leave (allowed_at (At j) c n)

-- a key and a value within the sizes (1)
unfoldable pub within : (key value : Bytes) (decision : Decision) → Decision
within k v d = pick (leb (length k) max_key && leb (length v) max_value) d (Refuse TooLong)

-- a set: 1, nothing to change, 5, 6
unfoldable pub setting : (key : Bytes) (change : Change) (node : Node) → Decision
setting k c n = within k c.value (allowed k n (unless_same (find k n.recs) c))

-- ---- what becomes of the bytes

-- a value copied to the front of other bytes, and how long it is
abbrev pub copied : (value out : Bytes) → Given ℕ Bytes
copied v out = given (length v) (put 0 v out)

abbrev pub node_set_at : (j : ℕ) (key : Bytes) (change : Change) (node : Bytes) → Given (Result (Unit {0}) Refusal) Bytes
node_set_at j k c b = decided k (changing j (rec_at j b) c (node_in b)) b

abbrev pub node_set : (key : Bytes) (change : Change) (node : Bytes) → Given (Result (Unit {0}) Refusal) Bytes
node_set k c b = decided k (setting k c (node_in b)) b

abbrev pub node_dropped : (j : ℕ) (keeps : Bool) (now : ℕ) (key node : Bytes) → Given (Result (Unit {0}) Refusal) Bytes
node_dropped j keeps now k b = node_granted (At j) k (dropped keeps now (rec_at j b)) b

abbrev pub node_called : (call : Call) (key node : Bytes) → Given (Result (Unit {0}) Refusal) Bytes
node_called c k b = decided k (decide c k (node_in b)) b
