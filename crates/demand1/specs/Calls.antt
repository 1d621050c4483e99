-- Every call that a hub makes on lent memory: its arguments and everything lent to it (`Call`), what it tells and what it leaves (`leaves`), and the
-- numbers that it can refuse with (`refusals`). What a call leaves is what its entry point promises, and nothing else.
use Rattle.std.specs.Prelude.{ℕ, ◌<◌, Bool, true, false, List, [], ◌∷◌}
use Rattle.fields.specs.Numbers.{Bytes, AreBytes}
use Rattle.rules.specs.Sizes.{numbers}
use Rattle.rules.specs.Answers.{Told, answer_told, offered_told, remembered_told, listed_told, written_told, computed_told, read_told, applied_told}
use Rattle.rules.specs.Given.{Given, given}
use Rattle.rules.specs.Node.{Deleting, DeletingAfterTtl, beats}
use Rattle.rules.specs.Delta.{delta_read}
use Rattle.rules.specs.Listing.{list_delta}
use Rattle.rules.specs.Lent.{lent_add, lent_remove_node, lent_removed, lent_call, lent_write, lent_gc, lent_offer, lent_beat, lent_prefixed, lent_digest, lent_compute, lent_apply}
use Rattle.rules.specs.Profile.{kind}
use Rattle.rules.specs.Whole.{valid_whole}
use Rattle.rules.specs.declared.Mode.{Mode}
use Rattle.rules.specs.declared.Party.{Party}
use Rattle.rules.specs.declared.Profile.{Profile}
use Rattle.nodes.specs.New.{lent_made}
use Rattle.lookup.specs.Lookup.{lent_find}
use Rattle.lookup.specs.Told.{found_told}
use Rattle.inspect.specs.Look.{lent_node_count, lent_node_number, lent_node_header, lent_record_count, lent_read_record, lent_record_of, lent_record_by_key, lent_node_rows, lent_front}
use Rattle.inspect.specs.Told.{count_told, node_number_told, node_header_told, record_read_told, rows_told}
use Rattle.prefix.specs.Rows.{lent_prefix_rows}
use Rattle.overrides.specs.Overrides.{valid_node, lent_new_overrides, lent_write_override, lent_call_override, lent_remove_overrides}
use Rattle.over_find.specs.Over.{lent_find_over}
use Rattle.over_find.specs.Told.{found_over_told}
use Rattle.over_list.specs.Merged.{lent_list_over}
use Rattle.over_list.specs.Told.{listed_over_told}
use Rattle.grid.specs.GridLayout.{valid_grid}
use Rattle.grid.specs.LentGrid.{least_told, lent_careful, lent_column_in, lent_column_out, lent_least, lent_new_grid, lent_seen, lent_take_out, lent_tell, seen_told}
use Rattle.inspect_text.specs.Texts.{lent_text_found}
use Rattle.inspect_text.specs.declared.Text.{Text}
use Rattle.digest_read.specs.Held.{digest_in}
use Rattle.digest_read.specs.Told.{digest_told}
use Rattle.listing_make.specs.Make.{lent_make, made_told}
use Rattle.answers.specs.Shown.{entry_told}
use Rattle.plan.specs.Faults.{judged_told, lent_judge}
use Rattle.plan.specs.Plan.{lent_compute_plan}
use Rattle.exchange.specs.Exchanging.{exchanged_told, lending, lent_exchange}

-- ---- calls

-- a number as code passes it: a node's, a time, a heartbeat
pub record U64 : Type 0 where
  pub value : ℕ
  pub fits : value < numbers

-- bytes as code passes them. Where nothing hangs on it, a call takes any list of numbers, which is more than code can lend.
pub record Received : Type 0 where
  pub bytes : Bytes
  pub are : AreBytes bytes

-- the entry points
pub data Kind : Type 0 where
  NewTable : Kind
  AddNode : Kind
  RemoveNode : Kind
  LastHeartbeat : Kind
  Write : Kind
  Delete : Kind
  DeleteAfterTtl : Kind
  RemoveScheduled : Kind
  OfferHeartbeat : Kind
  LocalBeat : Kind
  Find : Kind
  ListPrefix : Kind
  NewOverrides : Kind
  WriteOverride : Kind
  DeleteOverride : Kind
  DeleteOverrideAfterTtl : Kind
  RemoveOverrides : Kind
  FindOver : Kind
  ListOver : Kind
  NewGrid : Kind
  GridAddNode : Kind
  GridRemoveNode : Kind
  Tell : Kind
  TakeOut : Kind
  LeastMax : Kind
  SeenBy : Kind
  RemoveCarefully : Kind
  NodeCount : Kind
  NodeNumber : Kind
  NodeHeader : Kind
  RecordCount : Kind
  RecordAt : Kind
  RecordOf : Kind
  RecordByKey : Kind
  NodeRows : Kind
  Front : Kind
  PrefixRows : Kind
  FindText : Kind
  WriteDigest : Kind
  ReadDigest : Kind
  DigestEntry : Kind
  Compute : Kind
  ComputePlan : Kind
  PlanFault : Kind
  ReadDelta : Kind
  Apply : Kind
  ListDelta : Kind
  MakeDelta : Kind
  Exchange : Kind

-- one call of an entry point: what is lent comes first, tables before all else, and what has other rules before what has none
pub data Call : Kind → Type 0 where
  new-table : (table : Bytes) (mode : Mode) (profile : Profile) → Call NewTable
  add-node : (table : Bytes) (number : U64) → Call AddNode
  remove-node : (table : Bytes) (number : U64) → Call RemoveNode
  last-heartbeat : (table : Bytes) (number : U64) → Call LastHeartbeat
  -- the wanted status by its number, which may be any
  write : (table key value : Bytes) (number wanted clock : U64) (party : Party) → Call Write
  delete : (table key : Bytes) (number clock : U64) (party : Party) → Call Delete
  delete-after-ttl : (table key : Bytes) (number clock : U64) (party : Party) → Call DeleteAfterTtl
  remove-scheduled : (table : Bytes) (clock grace : U64) → Call RemoveScheduled
  offer-heartbeat : (table : Bytes) (number heartbeat : U64) → Call OfferHeartbeat
  local-beat : (table : Bytes) (number : U64) → Call LocalBeat
  find : (table key : Bytes) (number : U64) (party : Party) → Call Find
  list-prefix : (table prefix out : Bytes) (number : U64) (party : Party) → Call ListPrefix
  -- overrides are no table
  new-overrides : (overrides : Bytes) (number : U64) → Call NewOverrides
  write-override : (overrides key value : Bytes) (wanted clock : U64) → Call WriteOverride
  delete-override : (overrides key : Bytes) (clock : U64) → Call DeleteOverride
  delete-override-after-ttl : (overrides key : Bytes) (clock : U64) → Call DeleteOverrideAfterTtl
  remove-overrides : (overrides : Bytes) (clock grace : U64) → Call RemoveOverrides
  find-over : (table overrides key : Bytes) (number : U64) (party : Party) → Call FindOver
  list-over : (table overrides prefix out : Bytes) (number : U64) (party : Party) → Call ListOver
  -- a grid stands beside a table; a digest that is told is bytes, so that what it tells are numbers
  new-grid : (table grid : Bytes) → Call NewGrid
  grid_add_node : (table grid : Bytes) (number : U64) → Call GridAddNode
  grid_remove_node : (table grid : Bytes) (number : U64) → Call GridRemoveNode
  tell : (grid : Bytes) (digest : Received) (peer edition : ℕ) → Call Tell
  take-out : (grid : Bytes) (peer : ℕ) → Call TakeOut
  least-max : (grid : Bytes) (number : ℕ) → Call LeastMax
  seen-by : (grid : Bytes) (peer number : ℕ) → Call SeenBy
  remove-carefully : (table grid : Bytes) (clock grace : U64) → Call RemoveCarefully
  node-count : (table : Bytes) → Call NodeCount
  node-number : (table : Bytes) (i : ℕ) → Call NodeNumber
  node-header : (table : Bytes) (number : U64) → Call NodeHeader
  record-count : (table : Bytes) (number : U64) (party : Party) → Call RecordCount
  record-at : (table : Bytes) (number : U64) (j : ℕ) (party : Party) → Call RecordAt
  record-of : (table : Bytes) (i j : ℕ) (party : Party) → Call RecordOf
  record-by-key : (table key : Bytes) (number : U64) (party : Party) → Call RecordByKey
  node-rows : (table : Bytes) (number : U64) (party : Party) → Call NodeRows
  front : (table : Bytes) (number : U64) (party : Party) → Call Front
  prefix-rows : (table prefix : Bytes) (number : U64) (party : Party) → Call PrefixRows
  find-text : (table : Bytes) (number : U64) (j : ℕ) (text : Text) (party : Party) → Call FindText
  write-digest : (table : Bytes) (edition : ℕ) (excluded : List ℕ) (datagram : Bytes) (place : ℕ) → Call WriteDigest
  read-digest : (edition : ℕ) (digest : Bytes) → Call ReadDigest
  digest_entry : (digest : Bytes) (edition i : ℕ) → Call DigestEntry
  compute : (table : Bytes) (edition : ℕ) (digest : Bytes) (excluded ties : List ℕ) (datagram : Bytes) (mtu place : ℕ) → Call Compute
  compute-plan : (table : Bytes) (edition : ℕ) (digest : Bytes) (excluded nodes counts : List ℕ) (datagram : Bytes) (mtu place : ℕ) → Call ComputePlan
  plan-fault : (table : Bytes) (edition : ℕ) (digest : Bytes) (excluded nodes counts : List ℕ) (mtu : ℕ) → Call PlanFault
  read-delta : (delta : Bytes) → Call ReadDelta
  apply : (table : Bytes) (delta : Received) (answers : Bytes) (clock : U64) → Call Apply
  list-delta : (delta out : Bytes) → Call ListDelta
  make-delta : (text out : Bytes) → Call MakeDelta
  exchange : (publisher follower : Bytes) (edition : ℕ) (unasked unsent ties : List ℕ) (digest delta answers : Bytes) (mtu : ℕ) (clock : U64) → Call Exchange

-- everything lent to a call
unfoldable pub lent_to : {k : Kind} (call : Call k) → List Bytes
lent_to (new-table t m p) = t ∷ []
lent_to (add-node t i) = t ∷ []
lent_to (remove-node t i) = t ∷ []
lent_to (last-heartbeat t i) = t ∷ []
lent_to (write t k v i wanted now q) = t ∷ k ∷ v ∷ []
lent_to (delete t k i now q) = t ∷ k ∷ []
lent_to (delete-after-ttl t k i now q) = t ∷ k ∷ []
lent_to (remove-scheduled t now grace) = t ∷ []
lent_to (offer-heartbeat t i h) = t ∷ []
lent_to (local-beat t i) = t ∷ []
lent_to (find t k i q) = t ∷ k ∷ []
lent_to (list-prefix t k out i q) = t ∷ k ∷ out ∷ []
lent_to (new-overrides o i) = o ∷ []
lent_to (write-override o k v wanted now) = o ∷ k ∷ v ∷ []
lent_to (delete-override o k now) = o ∷ k ∷ []
lent_to (delete-override-after-ttl o k now) = o ∷ k ∷ []
lent_to (remove-overrides o now grace) = o ∷ []
lent_to (find-over t o k i q) = t ∷ o ∷ k ∷ []
lent_to (list-over t o k out i q) = t ∷ o ∷ k ∷ out ∷ []
lent_to (new-grid t g) = t ∷ g ∷ []
lent_to (grid_add_node t g i) = t ∷ g ∷ []
lent_to (grid_remove_node t g i) = t ∷ g ∷ []
lent_to (tell g digest p edition) = g ∷ digest.bytes ∷ []
lent_to (take-out g p) = g ∷ []
lent_to (least-max g i) = g ∷ []
lent_to (seen-by g p i) = g ∷ []
lent_to (remove-carefully t g now grace) = t ∷ g ∷ []
lent_to (node-count t) = t ∷ []
lent_to (node-number t i) = t ∷ []
lent_to (node-header t i) = t ∷ []
lent_to (record-count t i q) = t ∷ []
lent_to (record-at t i j q) = t ∷ []
lent_to (record-of t i j q) = t ∷ []
lent_to (record-by-key t k i q) = t ∷ k ∷ []
lent_to (node-rows t i q) = t ∷ []
lent_to (front t i q) = t ∷ []
lent_to (prefix-rows t k i q) = t ∷ k ∷ []
lent_to (find-text t i j x q) = t ∷ []
lent_to (write-digest t edition excluded datagram place) = t ∷ excluded ∷ datagram ∷ []
lent_to (read-digest edition digest) = digest ∷ []
lent_to (digest_entry digest edition i) = digest ∷ []
lent_to (compute t edition digest excluded ties datagram mtu place) = t ∷ digest ∷ excluded ∷ ties ∷ datagram ∷ []
lent_to (compute-plan t edition digest excluded nodes counts datagram mtu place) = t ∷ digest ∷ excluded ∷ nodes ∷ counts ∷ datagram ∷ []
lent_to (plan-fault t edition digest excluded nodes counts mtu) = t ∷ digest ∷ excluded ∷ nodes ∷ counts ∷ []
lent_to (read-delta delta) = delta ∷ []
lent_to (apply t delta answers now) = t ∷ delta.bytes ∷ answers ∷ []
lent_to (list-delta delta out) = delta ∷ out ∷ []
lent_to (make-delta text out) = text ∷ out ∷ []
lent_to (exchange publisher follower edition unasked unsent ties digest delta answers mtu now) =
    publisher ∷ follower ∷ unasked ∷ unsent ∷ ties ∷ digest ∷ delta ∷ answers ∷ []

-- the rules that they obey, one test for each of the first of them; what comes behind these has none
abbrev pub checks : (kind : Kind) → List (Bytes → Bool)
checks NewTable = valid_whole ∷ []
checks AddNode = valid_whole ∷ []
checks RemoveNode = valid_whole ∷ []
checks LastHeartbeat = valid_whole ∷ []
checks Write = valid_whole ∷ []
checks Delete = valid_whole ∷ []
checks DeleteAfterTtl = valid_whole ∷ []
checks RemoveScheduled = valid_whole ∷ []
checks OfferHeartbeat = valid_whole ∷ []
checks LocalBeat = valid_whole ∷ []
checks Find = valid_whole ∷ []
checks ListPrefix = valid_whole ∷ []
checks NewOverrides = valid_node ∷ []
checks WriteOverride = valid_node ∷ []
checks DeleteOverride = valid_node ∷ []
checks DeleteOverrideAfterTtl = valid_node ∷ []
checks RemoveOverrides = valid_node ∷ []
checks FindOver = valid_whole ∷ valid_node ∷ []
checks ListOver = valid_whole ∷ valid_node ∷ []
checks NewGrid = valid_whole ∷ valid_grid ∷ []
checks GridAddNode = valid_whole ∷ valid_grid ∷ []
checks GridRemoveNode = valid_whole ∷ valid_grid ∷ []
checks Tell = valid_grid ∷ []
checks TakeOut = valid_grid ∷ []
checks LeastMax = valid_grid ∷ []
checks SeenBy = valid_grid ∷ []
checks RemoveCarefully = valid_whole ∷ valid_grid ∷ []
checks NodeCount = valid_whole ∷ []
checks NodeNumber = valid_whole ∷ []
checks NodeHeader = valid_whole ∷ []
checks RecordCount = valid_whole ∷ []
checks RecordAt = valid_whole ∷ []
checks RecordOf = valid_whole ∷ []
checks RecordByKey = valid_whole ∷ []
checks NodeRows = valid_whole ∷ []
checks Front = valid_whole ∷ []
checks PrefixRows = valid_whole ∷ []
checks FindText = valid_whole ∷ []
checks WriteDigest = valid_whole ∷ []
checks ReadDigest = []
checks DigestEntry = []
checks Compute = valid_whole ∷ []
checks ComputePlan = valid_whole ∷ []
checks PlanFault = valid_whole ∷ []
checks ReadDelta = []
checks Apply = valid_whole ∷ []
checks ListDelta = []
checks MakeDelta = []
checks Exchange = valid_whole ∷ valid_whole ∷ []

-- how many of them, the first ones, are tables
abbrev pub tables : (kind : Kind) → ℕ
tables NewTable = 1
tables AddNode = 1
tables RemoveNode = 1
tables LastHeartbeat = 1
tables Write = 1
tables Delete = 1
tables DeleteAfterTtl = 1
tables RemoveScheduled = 1
tables OfferHeartbeat = 1
tables LocalBeat = 1
tables Find = 1
tables ListPrefix = 1
tables NewOverrides = 0
tables WriteOverride = 0
tables DeleteOverride = 0
tables DeleteOverrideAfterTtl = 0
tables RemoveOverrides = 0
tables FindOver = 1
tables ListOver = 1
tables NewGrid = 1
tables GridAddNode = 1
tables GridRemoveNode = 1
tables Tell = 0
tables TakeOut = 0
tables LeastMax = 0
tables SeenBy = 0
tables RemoveCarefully = 1
tables NodeCount = 1
tables NodeNumber = 1
tables NodeHeader = 1
tables RecordCount = 1
tables RecordAt = 1
tables RecordOf = 1
tables RecordByKey = 1
tables NodeRows = 1
tables Front = 1
tables PrefixRows = 1
tables FindText = 1
tables WriteDigest = 1
tables ReadDigest = 0
tables DigestEntry = 0
tables Compute = 1
tables ComputePlan = 1
tables PlanFault = 1
tables ReadDelta = 0
tables Apply = 1
tables ListDelta = 0
tables MakeDelta = 0
tables Exchange = 2

-- ---- what a call gives

-- an outcome of one of the calls, its answer told, and what is lent afterwards
abbrev pub as_told : {A M : Type 0} (told : A → Told) (lent : M → List Bytes) (of : Given A M) → Given Told (List Bytes)
as_told told lent of = given (told of.answer) (lent of.lent)

-- What the call tells, and everything that was lent to it as it is afterwards. What is lent for reading alone stays.
unfoldable pub leaves : {k : Kind} (call : Call k) → Given Told (List Bytes)
leaves (new-table t m p) = as_told answer_told (λ u. u ∷ []) (lent_made (kind m p) t)
leaves (add-node t i) = as_told answer_told (λ u. u ∷ []) (lent_add i.value t)
leaves (remove-node t i) = as_told answer_told (λ u. u ∷ []) (lent_remove_node i.value t)
leaves (last-heartbeat t i) = given (remembered_told (lent_removed i.value t)) (t ∷ [])
leaves (write t k v i wanted now q) = as_told answer_told (λ u. u ∷ k ∷ v ∷ []) (lent_write q wanted.value v now.value i.value k t)
leaves (delete t k i now q) = as_told answer_told (λ u. u ∷ k ∷ []) (lent_call q (Deleting now.value) i.value k t)
leaves (delete-after-ttl t k i now q) = as_told answer_told (λ u. u ∷ k ∷ []) (lent_call q (DeletingAfterTtl now.value) i.value k t)
leaves (remove-scheduled t now grace) = as_told answer_told (λ u. u ∷ []) (lent_gc now.value grace.value t)
leaves (offer-heartbeat t i h) = as_told offered_told (λ u. u ∷ []) (lent_offer i.value (beats h.value) t)
leaves (local-beat t i) = as_told answer_told (λ u. u ∷ []) (lent_beat i.value t)
leaves (find t k i q) = given (found_told (lent_find q i.value k t)) (t ∷ k ∷ [])
leaves (list-prefix t k out i q) = as_told listed_told (λ u. t ∷ k ∷ u ∷ []) (lent_prefixed q i.value k out t)
leaves (new-overrides o i) = as_told answer_told (λ u. u ∷ []) (lent_new_overrides i.value o)
leaves (write-override o k v wanted now) = as_told answer_told (λ u. u ∷ k ∷ v ∷ []) (lent_write_override wanted.value v now.value k o)
leaves (delete-override o k now) = as_told answer_told (λ u. u ∷ k ∷ []) (lent_call_override (Deleting now.value) k o)
leaves (delete-override-after-ttl o k now) = as_told answer_told (λ u. u ∷ k ∷ []) (lent_call_override (DeletingAfterTtl now.value) k o)
leaves (remove-overrides o now grace) = as_told answer_told (λ u. u ∷ []) (lent_remove_overrides now.value grace.value o)
leaves (find-over t o k i q) = given (found_over_told (lent_find_over q i.value k o t)) (t ∷ o ∷ k ∷ [])
leaves (list-over t o k out i q) = as_told listed_over_told (λ u. t ∷ o ∷ k ∷ u ∷ []) (lent_list_over q i.value k out o t)
leaves (new-grid t g) = as_told answer_told (λ u. t ∷ u ∷ []) (lent_new_grid t g)
leaves (grid_add_node t g i) = as_told answer_told (λ u. u.table ∷ u.grid ∷ []) (lent_column_in i.value g t)
leaves (grid_remove_node t g i) = as_told answer_told (λ u. u.table ∷ u.grid ∷ []) (lent_column_out i.value g t)
leaves (tell g digest p edition) = as_told answer_told (λ u. u ∷ digest.bytes ∷ []) (lent_tell p edition digest.bytes g)
leaves (take-out g p) = as_told answer_told (λ u. u ∷ []) (lent_take_out p g)
leaves (least-max g i) = given (least_told (lent_least i g)) (g ∷ [])
leaves (seen-by g p i) = given (seen_told (lent_seen p i g)) (g ∷ [])
leaves (remove-carefully t g now grace) = as_told answer_told (λ u. u ∷ g ∷ []) (lent_careful now.value grace.value g t)
leaves (node-count t) = given (count_told (lent_node_count t)) (t ∷ [])
leaves (node-number t i) = given (node_number_told (lent_node_number i t)) (t ∷ [])
leaves (node-header t i) = given (node_header_told (lent_node_header i.value t)) (t ∷ [])
leaves (record-count t i q) = given (count_told (lent_record_count q i.value t)) (t ∷ [])
leaves (record-at t i j q) = given (record_read_told (lent_read_record q i.value j t)) (t ∷ [])
leaves (record-of t i j q) = given (record_read_told (lent_record_of q i j t)) (t ∷ [])
leaves (record-by-key t k i q) = given (record_read_told (lent_record_by_key q i.value k t)) (t ∷ k ∷ [])
leaves (node-rows t i q) = given (rows_told (lent_node_rows q i.value t)) (t ∷ [])
leaves (front t i q) = given (count_told (lent_front q i.value t)) (t ∷ [])
leaves (prefix-rows t k i q) = given (rows_told (lent_prefix_rows q i.value k t)) (t ∷ k ∷ [])
leaves (find-text t i j x q) = given (found_told (lent_text_found q x i.value j t)) (t ∷ [])
leaves (write-digest t edition excluded datagram place) = as_told written_told (λ u. t ∷ excluded ∷ u ∷ []) (lent_digest edition excluded place datagram t)
leaves (read-digest edition digest) = given (digest_told (digest_in edition digest)) (digest ∷ [])
leaves (digest_entry digest edition i) = given (entry_told i (digest_in edition digest)) (digest ∷ [])
leaves (compute t edition digest excluded ties datagram mtu place) =
    as_told computed_told (λ u. t ∷ digest ∷ excluded ∷ ties ∷ u ∷ []) (lent_compute edition excluded ties mtu place digest datagram t)
leaves (compute-plan t edition digest excluded nodes counts datagram mtu place) =
    as_told computed_told (λ u. t ∷ digest ∷ excluded ∷ nodes ∷ counts ∷ u ∷ []) (lent_compute_plan edition excluded nodes counts mtu place digest datagram t)
leaves (plan-fault t edition digest excluded nodes counts mtu) =
    given (judged_told (lent_judge edition excluded nodes counts mtu digest t)) (t ∷ digest ∷ excluded ∷ nodes ∷ counts ∷ [])
leaves (read-delta delta) = given (read_told (delta_read delta)) (delta ∷ [])
leaves (apply t delta answers now) = as_told applied_told (λ u. u.table ∷ delta.bytes ∷ u.list ∷ []) (lent_apply delta.bytes now.value answers t)
leaves (list-delta delta out) = as_told written_told (λ u. delta ∷ u ∷ []) (list_delta delta out)
leaves (make-delta text out) = as_told made_told (λ u. text ∷ u ∷ []) (lent_make text out)
leaves (exchange publisher follower edition unasked unsent ties digest delta answers mtu now) =
    as_told exchanged_told (λ u. publisher ∷ u.follower ∷ unasked ∷ unsent ∷ ties ∷ u.digest ∷ u.delta ∷ u.answers ∷ [])
    (lent_exchange (lending edition unasked unsent ties mtu now.value digest delta answers) publisher follower)

-- ---- the numbers that a call can refuse with, in the order in which they are asked

unfoldable pub refusals : (kind : Kind) → List ℕ
refusals NewTable = 14 ∷ []
refusals AddNode = 14 ∷ 4 ∷ []
refusals RemoveNode = 14 ∷ 2 ∷ []
refusals LastHeartbeat = 14 ∷ []
refusals Write = 14 ∷ 10 ∷ 2 ∷ 1 ∷ 17 ∷ 19 ∷ 18 ∷ 5 ∷ 6 ∷ []
refusals Delete = 14 ∷ 2 ∷ 1 ∷ 19 ∷ 3 ∷ 6 ∷ []
refusals DeleteAfterTtl = 14 ∷ 2 ∷ 1 ∷ 19 ∷ 3 ∷ 6 ∷ []
refusals RemoveScheduled = 14 ∷ []
refusals OfferHeartbeat = 14 ∷ 2 ∷ []
refusals LocalBeat = 14 ∷ 2 ∷ 6 ∷ []
refusals Find = 14 ∷ 2 ∷ 1 ∷ 19 ∷ []
refusals ListPrefix = 14 ∷ 2 ∷ 1 ∷ 8 ∷ []
refusals NewOverrides = 14 ∷ []
refusals WriteOverride = 14 ∷ 10 ∷ 1 ∷ 5 ∷ 6 ∷ []
refusals DeleteOverride = 14 ∷ 1 ∷ 3 ∷ 6 ∷ []
refusals DeleteOverrideAfterTtl = 14 ∷ 1 ∷ 3 ∷ 6 ∷ []
refusals RemoveOverrides = 14 ∷ []
refusals FindOver = 14 ∷ 2 ∷ 1 ∷ 19 ∷ []
refusals ListOver = 14 ∷ 2 ∷ 1 ∷ 8 ∷ []
refusals NewGrid = 14 ∷ []
refusals GridAddNode = 14 ∷ 4 ∷ []
refusals GridRemoveNode = 14 ∷ 2 ∷ []
refusals Tell = 14 ∷ 21 ∷ 20 ∷ 9 ∷ 13 ∷ []
refusals TakeOut = 14 ∷ 21 ∷ []
refusals LeastMax = 14 ∷ 22 ∷ 2 ∷ []
refusals SeenBy = 14 ∷ 21 ∷ 2 ∷ []
refusals RemoveCarefully = 14 ∷ 22 ∷ []
refusals NodeCount = 14 ∷ []
refusals NodeNumber = 14 ∷ 8 ∷ []
refusals NodeHeader = 14 ∷ 2 ∷ []
refusals RecordCount = 14 ∷ 2 ∷ []
refusals RecordAt = 14 ∷ 2 ∷ 8 ∷ []
refusals RecordOf = 14 ∷ 8 ∷ []
refusals RecordByKey = 14 ∷ 2 ∷ 1 ∷ 19 ∷ []
refusals NodeRows = 14 ∷ 2 ∷ []
refusals Front = 14 ∷ 2 ∷ []
refusals PrefixRows = 14 ∷ 2 ∷ 1 ∷ []
refusals FindText = 14 ∷ 2 ∷ 8 ∷ []
refusals WriteDigest = 14 ∷ 20 ∷ 8 ∷ []
refusals ReadDigest = 20 ∷ 9 ∷ 13 ∷ []
refusals DigestEntry = 20 ∷ 9 ∷ 13 ∷ 8 ∷ []
refusals Compute = 14 ∷ 20 ∷ 7 ∷ 8 ∷ 15 ∷ 9 ∷ 13 ∷ []
refusals ComputePlan = 14 ∷ 20 ∷ 7 ∷ 8 ∷ 9 ∷ 13 ∷ 23 ∷ []
refusals PlanFault = 14 ∷ 20 ∷ 7 ∷ 9 ∷ 13 ∷ 23 ∷ []
refusals ReadDelta = 13 ∷ 9 ∷ 1 ∷ 10 ∷ 11 ∷ 12 ∷ []
refusals Apply = 14 ∷ 13 ∷ 9 ∷ 1 ∷ 10 ∷ 11 ∷ 17 ∷ 19 ∷ 12 ∷ 8 ∷ []
refusals ListDelta = 8 ∷ []
refusals MakeDelta = 16 ∷ 13 ∷ 11 ∷ 12 ∷ 8 ∷ []
refusals Exchange = 14 ∷ 20 ∷ 8 ∷ 7 ∷ 15 ∷ 17 ∷ 19 ∷ []

-- ---- the calls that may change what is remembered

abbrev pub remembers : (kind : Kind) → Bool
remembers NewTable = true
remembers AddNode = true
remembers RemoveNode = true
remembers LastHeartbeat = false
remembers Write = false
remembers Delete = false
remembers DeleteAfterTtl = false
remembers RemoveScheduled = false
remembers OfferHeartbeat = false
remembers LocalBeat = false
remembers Find = false
remembers ListPrefix = false
remembers NewOverrides = false
remembers WriteOverride = false
remembers DeleteOverride = false
remembers DeleteOverrideAfterTtl = false
remembers RemoveOverrides = false
remembers FindOver = false
remembers ListOver = false
remembers NewGrid = false
remembers GridAddNode = true
remembers GridRemoveNode = true
remembers Tell = false
remembers TakeOut = false
remembers LeastMax = false
remembers SeenBy = false
remembers RemoveCarefully = false
remembers NodeCount = false
remembers NodeNumber = false
remembers NodeHeader = false
remembers RecordCount = false
remembers RecordAt = false
remembers RecordOf = false
remembers RecordByKey = false
remembers NodeRows = false
remembers Front = false
remembers PrefixRows = false
remembers FindText = false
remembers WriteDigest = false
remembers ReadDigest = false
remembers DigestEntry = false
remembers Compute = false
remembers ComputePlan = false
remembers PlanFault = false
remembers ReadDelta = false
remembers Apply = false
remembers ListDelta = false
remembers MakeDelta = false
remembers Exchange = false

-- 0 where the call is accepted
abbrev pub possible : (kind : Kind) → List ℕ
possible k = 0 ∷ refusals k
