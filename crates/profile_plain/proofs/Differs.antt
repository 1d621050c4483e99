-- What is false of a table beside the freed one, each with a call that shows it. Assumes nothing.
use Prim.Native.Nat.{ℕ}
use mathlib.Core.Path.{◌≡◌, refl, ap, ap₂, sym, ◌∙◌}
use mathlib.Core.Bool.{Bool, true, false, false≢true}
use mathlib.Core.List.{[], ◌∷◌, ◌++◌}
use lib.Dec.{ltb}
use borrow.Author.Tests.{ltb-true}
use Rattle.fields.specs.Blocks.{flat}
use Rattle.fields.specs.Choice.{all, keep, pick}
use Rattle.fields.specs.Numbers.{Bytes, bytes_of, nat_of}
use Rattle.fields.specs.Order.{same_bytes, starts_with}
use Rattle.fields.proofs.Choice.{all_from}
use Rattle.rules.specs.Sizes.{numbers}
use Rattle.rules.specs.Answers.{applied_told}
use Rattle.rules.specs.Apply.{apply, ways_in}
use Rattle.rules.specs.Delta.{KeyValueOp, NodeOp, delta_bytes, follow, op_bytes, read_key_value, read_node, read_op, text_bytes}
use Rattle.rules.specs.Given.{Given}
use Rattle.rules.specs.Layout.{decode}
use Rattle.rules.specs.Lent.{TableAndList, from_table, lent_apply}
use Rattle.rules.specs.Node.{beats}
use Rattle.rules.specs.Party.{alone}
use Rattle.rules.specs.Profile.{kind, meter_key, meter_value, profile_obeys, read_delta_as, read_ops_as}
use Rattle.rules.specs.Table.{Table, among, differ, entry_obeys, keys_rise, node_obeys, node_of, numbers_of, obeys, rec_obeys, rising, versions}
use Rattle.rules.specs.Whole.{Whole, decode_tail, decode_whole, encode_whole, obeys_whole, valid_whole}
use Rattle.std.specs.Prelude.{Err, Option, Result}
use Rattle.lookup.specs.declared.Found.{Found}
use Rattle.rules.specs.declared.DeltaFault.{DeltaFault}
use Rattle.rules.specs.declared.Refusal.{Refusal}
use Rattle.rules.specs.declared.Mode.TheVariants as mode
use Rattle.rules.specs.declared.Party.TheVariants.{Building}
use Rattle.rules.specs.declared.Profile.{Profile}
use Rattle.rules.specs.declared.Profile.TheVariants.{Free, Meter, Shared}
use Rattle.rules.specs.declared.Refusal.TheVariants.{BadTable}
use Rattle.rules.specs.declared.Status.TheVariants as status
use Rattle.rules.proofs.Calls.{none-obeys}
use Rattle.rules.proofs.Formed.{empty-formed, free-formed}
use Rattle.rules.proofs.Memories.{whole-profile}
use Rattle.table.proofs.Encoded.{apply-whole, from-whole}
use Rattle.table.proofs.Tables.{decode-encode}
use Rattle.table.proofs.Wholes.{decode-encode-whole, tail-kind, whole-area, whole-obeys, whole-tail, without-memory}
use Rattle.lookup.specs.Lookup.{find_as, find_rec, lent_find}
use Rattle.lookup.specs.Told.{found_told}
use Rattle.inspect.specs.Look.{node_count}
use Rattle.inspect.specs.Told.{count_told}
use Rattle.demand1.specs.Calls as calls
use Rattle.demand1.specs.Calls.{leaves}
use Rattle.profile_plain.specs.Plain.{freed_call}
use Rattle.profile_plain.proofs.Freed.{free, freed-bytes}

-- what a call is answered here, and what on the freed table
abbrev Answers : {k : calls.Kind} (c : calls.Call k) (here there : ℕ) → Type 0
Answers c here there = ((leaves c).answer.number ≡ here) × ((leaves (freed_call c)).answer.number ≡ there)

-- a table of the meter profile that remembers nothing
abbrev metered : (table : Table) → Whole
metered t = record { kind = kind mode.Plain Meter; memory = []; table = t }

-- ---- 17 here is not accepted there: behind the record at fault a later operation is, here an operation that is cut off

abbrev odd : Bytes
odd = delta_bytes (NodeOp 7 0 0 ∷ KeyValueOp (record { key = []; value = []; version = 1; status = status.Set }) ∷ []) ++ (0 ∷ [])

received : (l : Bytes) → all (λ b. ltb b 256) l ≡ true → calls.Received
received l e = record { bytes = l; are = λ b m. ltb-true b 256 (all_from (λ b. ltb b 256) l e b m) }

abbrev late : calls.U64
late = record { value = 7; fits = ltb-true 7 numbers refl }

applying : (w : Whole) → obeys_whole w ≡ true → (delta : Bytes) (n : ℕ) → (applied_told (apply (ways_in w.kind) delta 7 w.table []).answer).number ≡ n
    → (applied_told (lent_apply delta 7 [] (encode_whole w)).answer).number ≡ n
applying w o delta n e = ap (λ (x : Given (Result ℕ DeltaFault) TableAndList). (applied_told x.answer).number) (apply-whole w o delta 7 []) ∙ e

pub cut-behind : (delta : calls.Received) × Answers (calls.apply (encode_whole (metered [])) delta [] late) 17 9
unfolding leaves freed_call received applied_told apply all read_delta_as read_ops_as meter_key read_op read_node read_key_value follow nat_of among delta_bytes op_bytes text_bytes flat bytes_of
cut-behind = (
  received odd refl,
  (
    applying (metered []) (without-memory (kind mode.Plain Meter) [] none-obeys (empty-formed Meter)) odd 17 refl,
    ap (λ (l : Bytes). (applied_told (lent_apply odd 7 [] l).answer).number) (freed-bytes (metered []))
        ∙ applying (free (metered [])) (without-memory (kind mode.Plain Free) [] none-obeys (empty-formed Free)) odd 9 refl,
  ),
)

-- ---- a table that is not valid: a Set record with an empty value is 14 here, and a record there

abbrev emptied : Table
emptied =
    record { number = 7; node = record { heartbeat = beats 1; max = 1; last_gc = 0; recs = record { kv = record { key = 97 ∷ []; value = []; version = 1; status = status.Set }; start = 0 } ∷ [] } } ∷ []

emptied-obeys : obeys emptied ≡ true
unfolding obeys rising numbers_of all entry_obeys node_obeys rec_obeys differ keys_rise versions among
emptied-obeys = refl

out-of-form : profile_obeys Meter emptied ≡ false
unfolding profile_obeys all meter_key meter_value
out-of-form = refl

not_valid : valid_whole (encode_whole (metered emptied)) ≡ false
not_valid = go (valid_whole l) refl
  where
    l : Bytes
    l = encode_whole (metered emptied)

    read : profile_obeys (decode_whole l).kind.profile (decode_whole l).table ≡ profile_obeys Meter emptied
    read =
        ap₂ (λ (p : Profile) (t : Table). profile_obeys p t)
        (ap (λ (b : Bytes). (decode_tail b).profile) (whole-tail (metered emptied)) ∙ ap (λ k. k.profile) (tail-kind (kind mode.Plain Meter) []))
        (ap decode (whole-area (metered emptied)) ∙ decode-encode emptied emptied-obeys)

    go : (b : Bool) → valid_whole l ≡ b → b ≡ false
    go true v = absurd (false≢true (sym out-of-form ∙ sym read ∙ whole-profile (decode_whole l) (whole-obeys l v)))
    go false v = refl

pub empty-set : Answers (calls.node-count (encode_whole (metered emptied))) 14 0
unfolding leaves freed_call from_table count_told
empty-set = (
  ap (λ (b : Bool). (count_told (pick b (node_count (decode_whole (encode_whole (metered emptied))).table) (Err BadTable))).number) not_valid,
  ap (λ (l : Bytes). (count_told (from_table (Err BadTable) node_count l)).number) (freed-bytes (metered emptied))
      ∙ ap (λ (a : (Result ℕ Refusal)). (count_told a).number) (from-whole (free (metered emptied)) (without-memory (kind mode.Plain Free) emptied emptied-obeys (free-formed emptied)) (Err BadTable) node_count),
)

-- ---- a shared table: a party that looks the other's key up is answered 19 here, and finds it there

abbrev theirs : Bytes
theirs = 109 ∷ 47 ∷ []

abbrev lent : Table
lent =
    record { number = 7; node = record { heartbeat = beats 1; max = 1; last_gc = 0; recs = record { kv = record { key = theirs; value = 49 ∷ []; version = 1; status = status.Set }; start = 0 } ∷ [] } } ∷ []

abbrev shared : Whole
shared = record { kind = kind mode.Plain Shared; memory = []; table = lent }

lent-obeys : obeys lent ≡ true
unfolding obeys rising numbers_of all entry_obeys node_obeys rec_obeys differ keys_rise versions among
lent-obeys = refl

lent-formed : profile_obeys Shared lent ≡ true
unfolding profile_obeys all keep starts_with
lent-formed = refl

finding : (w : Whole) → obeys_whole w ≡ true → (n : ℕ) → (found_told (find_as w.kind.profile Building 7 theirs w.table)).number ≡ n
    → (found_told (lent_find Building 7 theirs (encode_whole w))).number ≡ n
finding w o n e =
    ap (λ (u : Whole). (found_told (from_table (Err BadTable) (find_as u.kind.profile Building 7 theirs) (encode_whole w))).number) (decode-encode-whole w o)
    ∙ ap (λ (a : (Result (Option Found) Refusal)). (found_told a).number) (from-whole w o (Err BadTable) (find_as w.kind.profile Building 7 theirs))
    ∙ e

pub sees-theirs : Answers (calls.find (encode_whole shared) theirs late Building) 19 0
unfolding leaves freed_call found_told find_rec node_of same_bytes alone keep starts_with
sees-theirs = (
  finding shared (without-memory (kind mode.Plain Shared) lent lent-obeys lent-formed) 19 refl,
  ap (λ (l : Bytes). (found_told (lent_find Building 7 theirs l)).number) (freed-bytes shared)
      ∙ finding (free shared) (without-memory (kind mode.Plain Free) lent lent-obeys (free-formed lent)) 0 refl,
)
