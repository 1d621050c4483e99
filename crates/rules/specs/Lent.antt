-- Every call of document 01 on lent memory: the bytes of the table, of the datagram and of the lists, before and after. Number 14 comes first
-- everywhere. These are what the entry points promise.
use Rattle.std.specs.Prelude.{ℕ, List, []}
use Rattle.std.proofs.Math.Option.{Option, none, some}
use Rattle.fields.specs.Numbers.{Bytes}
use Rattle.fields.specs.Choice.{pick}
use Rattle.rules.specs.Given.{Given, given}
use Rattle.rules.specs.Node.{Node, Call}
use Rattle.rules.specs.Table.{Table, node_of}
use Rattle.rules.specs.Memory.{Memory, heartbeat_of, forget, remember}
use Rattle.rules.specs.Local.{Outcome, Found, NotFound, add, remove_node, call_as, write_as, gc, offer, local_beat, lookup_as, prefixed_as}
use Rattle.rules.specs.Digest.{write_digest}
use Rattle.rules.specs.Compute.{compute}
use Rattle.rules.specs.Profile.{Kind}
use Rattle.rules.specs.Apply.{Ways, ways_in, ApplyOutcome, apply}
use Rattle.rules.specs.Layout.{encode}
use Rattle.rules.specs.Whole.{Whole, with_table, encode_whole, decode_whole, valid_whole}
use Rattle.rules.specs.declared.Heartbeat.{Heartbeat}
use Rattle.rules.specs.declared.Party.{Party}
use Rattle.rules.specs.declared.Refusal.TheVariants.{BadTable}
use Rattle.std.specs.Prelude.{Option as Optional}
use Rattle.std.specs.Prelude.{Bool, Err, None, Ok, Result, Some}
use Rattle.rules.specs.declared.DeltaFault.{DeltaFault}
use Rattle.rules.specs.declared.Refusal.{Refusal}
use Rattle.rules.specs.declared.Sent.{Sent}

-- what a rule leaves in the area
abbrev pub stored : {A : Type 0} (outcome : Outcome A) → Given A Bytes
stored o = given o.answer (encode o.table)

-- and in the whole, whose tail it keeps
abbrev pub stored_in : {A : Type 0} (whole : Whole) (outcome : Outcome A) → Given A Bytes
stored_in w o = given o.answer (encode_whole (with_table o.table w))

-- 14, or the rule on the table that the bytes are
unfoldable pub on_table : {A : Type 0} (bad : A) (rule : Table → Outcome A) (table : Bytes) → Given A Bytes
on_table bad rule table = pick (valid_whole table) (stored_in (decode_whole table) (rule (decode_whole table).table)) (given bad table)

-- the same for a call that leaves the table and given another lent list
unfoldable pub from_table : {A : Type 0} (bad : A) (rule : Table → A) (table : Bytes) → A
from_table bad rule table = pick (valid_whole table) (rule (decode_whole table).table) bad

-- ---- nodes that come and go, and the memory with them

-- 14, or the rule on the whole that the bytes are
unfoldable pub on_whole : {A : Type 0} (bad : A) (rule : Whole → Given A Whole) (table : Bytes) → Given A Bytes
on_whole bad rule table = pick (valid_whole table) (given (rule (decode_whole table)).answer (encode_whole (rule (decode_whole table)).lent)) (given bad table)

-- Adding forgets the node, unless it is refused. A node that is held is not remembered, so that adding it forgets nothing (proofs/Memories).
abbrev pub forget_on : (answer : (Result (Unit {0}) Refusal)) (number : ℕ) (memory : Memory) → Memory
forget_on (Ok _) i m = forget i m
forget_on (Err r) i m = m

unfoldable pub add_whole : (number : ℕ) (whole : Whole) → Given (Result (Unit {0}) Refusal) Whole
add_whole i w =
    given (add i w.table).answer
    (record { kind = w.kind; memory = forget_on (add i w.table).answer i w.memory; table = (add i w.table).table })

-- Removing remembers the node with the heartbeat that it had, if it was held.
abbrev pub remember_on : (held : Option Node) (number : ℕ) (memory : Memory) → Memory
remember_on none i m = m
remember_on (some n) i m = remember i n.heartbeat m

unfoldable pub remove_whole : (number : ℕ) (whole : Whole) → Given (Result (Unit {0}) Refusal) Whole
remove_whole i w =
    given (remove_node i w.table).answer
    (record { kind = w.kind; memory = remember_on (node_of i w.table) i w.memory; table = (remove_node i w.table).table })

abbrev pub lent_add : (number : ℕ) (table : Bytes) → Given (Result (Unit {0}) Refusal) Bytes
lent_add number table = on_whole (Err BadTable) (add_whole number) table

abbrev pub lent_remove_node : (number : ℕ) (table : Bytes) → Given (Result (Unit {0}) Refusal) Bytes
lent_remove_node number table = on_whole (Err BadTable) (remove_whole number) table

-- asking for a removed node: 14 alone
abbrev pub remembered_as : (heartbeat : Option Heartbeat) → (Result (Optional Heartbeat) Refusal)
remembered_as none = (Ok None)
remembered_as (some h) = (Ok (Some h))

unfoldable pub lent_removed : (number : ℕ) (table : Bytes) → (Result (Optional Heartbeat) Refusal)
lent_removed number table = pick (valid_whole table) (remembered_as (heartbeat_of number (decode_whole table).memory)) (Err BadTable)

-- ---- calls that change the table

-- in the profile of the table, by a party
abbrev pub lent_call : (party : Party) (call : Call) (number : ℕ) (key table : Bytes) → Given (Result (Unit {0}) Refusal) Bytes
lent_call q c number k table = on_table (Err BadTable) (call_as (decode_whole table).kind.profile q c number k) table

abbrev pub lent_write : (party : Party) (wanted : ℕ) (value : Bytes) (now number : ℕ) (key table : Bytes) → Given (Result (Unit {0}) Refusal) Bytes
lent_write q wanted v now number k table = on_table (Err BadTable) (write_as (decode_whole table).kind.profile q wanted v now number k) table

abbrev pub lent_gc : (now grace : ℕ) (table : Bytes) → Given (Result (Unit {0}) Refusal) Bytes
lent_gc now grace table = on_table (Err BadTable) (gc now grace) table

abbrev pub lent_offer : (number : ℕ) (heartbeat : Heartbeat) (table : Bytes) → Given (Result Bool Refusal) Bytes
lent_offer number h table = on_table (Err BadTable) (offer number h) table

abbrev pub lent_beat : (number : ℕ) (table : Bytes) → Given (Result (Unit {0}) Refusal) Bytes
lent_beat number table = on_table (Err BadTable) (local_beat number) table

-- ---- calls that read the table

abbrev pub lent_lookup : (party : Party) (number : ℕ) (key table : Bytes) → Found
lent_lookup q number k table = from_table (NotFound BadTable) (lookup_as (decode_whole table).kind.profile q number k) table

abbrev pub lent_prefixed : (party : Party) (number : ℕ) (key list table : Bytes) → Given (Result ℕ Refusal) Bytes
lent_prefixed q number k list table =
    from_table (given (Err BadTable) list) (λ t. prefixed_as (decode_whole table).kind.profile q number k t list) table

abbrev pub lent_digest : (edition : ℕ) (excluded : List ℕ) (place : ℕ) (datagram table : Bytes) → Given (Result ℕ Refusal) Bytes
lent_digest edition excluded place datagram table =
    from_table (given (Err BadTable) datagram) (λ t. write_digest edition excluded place t datagram) table

abbrev pub lent_compute : (edition : ℕ) (excluded ties : List ℕ) (mtu place : ℕ) (digest datagram table : Bytes) → Given (Result Sent Refusal) Bytes
lent_compute edition excluded ties mtu place digest datagram table =
    from_table (given (Err BadTable) datagram) (λ t. compute edition excluded ties mtu place digest t datagram) table

-- ---- applying changes the table and the list of answers

pub record TableAndList : Type 0 where
  pub table : Bytes
  pub list : Bytes

abbrev pub both : (table list : Bytes) → TableAndList
both table list = record { table = table; list = list }

abbrev pub stored_apply : (whole : Whole) (outcome : ApplyOutcome) → Given (Result ℕ DeltaFault) TableAndList
stored_apply w o = given o.answer (both (encode_whole (with_table o.table w)) o.list)

-- in any ways
unfoldable pub lent_apply_as : (ways : Ways) (delta : Bytes) (now : ℕ) (list table : Bytes) → Given (Result ℕ DeltaFault) TableAndList
lent_apply_as ways delta now list table =
    pick (valid_whole table)
    (stored_apply (decode_whole table) (apply ways delta now (decode_whole table).table list))
    (given (Err (record { why = BadTable; at = 0 })) (both table list))

-- in those of the table's kind
abbrev pub lent_apply : (delta : Bytes) (now : ℕ) (list table : Bytes) → Given (Result ℕ DeltaFault) TableAndList
lent_apply delta now list table = lent_apply_as (ways_in (decode_whole table).kind) delta now list table

-- an empty table of a kind, which remembers nothing
unfoldable pub lent_new : (kind : Kind) → Bytes
lent_new k = encode_whole (record { kind = k; memory = []; table = [] })
