-- How long the listing of a table is at most. Assumes nothing.
use Prim.Native.Nat.{ℕ, ◌*◌, ◌≤◌}
use mathlib.Core.Path.{refl}
use mathlib.Core.List.{List, [], ◌∷◌, ◌++◌}
use native.Mathlib.Omega.{arith}
use lib.ListN.{length, length-append}
use Rattle.fields.specs.Choice.{◌∈◌, here, later}
use Rattle.fields.specs.Blocks.{flat}
use Rattle.fields.specs.Numbers.{Bytes}
use Rattle.rules.specs.Listing.{status_text}
use Rattle.rules.specs.Memory.{Removed}
use Rattle.rules.specs.Node.{Rec}
use Rattle.rules.specs.Profile.{Kind}
use Rattle.rules.specs.Sizes.{max_removed}
use Rattle.rules.specs.Table.{Entry}
use Rattle.rules.specs.Whole.{Whole}
use Rattle.rules.specs.declared.Mode.{Mode}
use Rattle.rules.specs.declared.Mode.TheVariants.{Plain, Fenced, Guarded}
use Rattle.rules.specs.declared.Profile.{Profile}
use Rattle.rules.specs.declared.Profile.TheVariants.{Free, Meter, Shared}
use Rattle.rules.specs.declared.Status.{Status}
use Rattle.rules.specs.declared.Status.TheVariants.{Set, Delete, Ttl}
use Rattle.table.specs.Fits.{FitsEntry, FitsRec, FitsTable}
use Rattle.listing_text.proofs.Texts.{decimal-long, shown-long}
use Rattle.table_listing.specs.TableListing.{end_text, entry_text, kind_line, longest_listing, mode_text, node_line, profile_text, record_line, records_of}
use Rattle.table_listing.specs.TableListing.{removed_line, whole_text, wrong_line}

-- ---- one line

mode-long : (m : Mode) → length (mode_text m) ≤ 12
mode-long Plain = omega arith
mode-long Fenced = omega arith
mode-long Guarded = omega arith

profile-long : (p : Profile) → length (profile_text p) ≤ 15
profile-long Free = omega arith
profile-long Meter = omega arith
profile-long Shared = omega arith

status-long : (s : Status) → length (status_text s) ≤ 6
status-long Set = omega arith
status-long Delete = omega arith
status-long Ttl = omega arith

kind-long : (k : Kind) → length (kind_line k) ≤ 28
unfolding kind_line
kind-long k = simp length-append (omega (arith, mode-long k.mode, profile-long k.profile))

node-long : (e : Entry) → length (node_line e) ≤ 106
unfolding node_line
node-long e =
    simp length-append
    (omega (arith, decimal-long e.number, decimal-long e.node.heartbeat.0, decimal-long e.node.max, decimal-long e.node.last_gc))

record-long : (r : Rec) → FitsRec r → length (record_line r) ≤ 370
unfolding record_line
record-long r f =
    simp length-append
    (omega (
      arith,
      shown-long r.kv.key,
      shown-long r.kv.value,
      f.key_fits,
      f.value-fits,
      decimal-long r.kv.version,
      status-long r.kv.status,
      decimal-long r.start,
    ))

removed-long : (r : Removed) → length (removed_line r) ≤ 60
unfolding removed_line
removed-long r = simp length-append (omega (arith, decimal-long r.number, decimal-long r.heartbeat.0))

end-long : (a b c : ℕ) → length (end_text a b c) ≤ 92
unfolding end_text
end-long a b c = simp length-append (omega (arith, decimal-long a, decimal-long b, decimal-long c))

-- ---- lines one behind the other

module _ {A : Type 0} (line : A → Bytes) (k : ℕ) where
  lines_long : (us : List A) → ((a : A) → a ∈ us → length (line a) ≤ k) → length (flat line us) ≤ length us * k
  unfolding flat
  lines_long [] h = omega arith
  lines_long (a ∷ us) h =
      omega (arith, length-append (line a) (flat line us), h a (here refl), lines_long us (λ b m. h b (later m)))

entry-long : (e : Entry) → FitsEntry e → length (entry_text e) ≤ 11946
unfolding entry_text
entry-long e f =
    omega (
      arith,
      length-append (node_line e) (flat record_line e.node.recs),
      node-long e,
      lines_long record_line 370 e.node.recs (λ r m. record-long r (f.each r m)),
      f.few,
    )

pub whole_long : (w : Whole) → FitsTable w.table → length w.memory ≤ max_removed → length (whole_text w) ≤ longest_listing
unfolding whole_text
whole_long w f g =
    let nodes : Bytes = flat entry_text w.table in
    let removed : Bytes = flat removed_line w.memory in
    let end : Bytes = end_text (length w.table) (records_of w.table) (length w.memory) in
    omega (
      arith,
      length-append (kind_line w.kind) (nodes ++ (removed ++ end)),
      length-append nodes (removed ++ end),
      length-append removed end,
      kind-long w.kind,
      lines_long entry_text 11946 w.table (λ e m. entry-long e (f.each e m)),
      f.few,
      lines_long removed_line 60 w.memory (λ r m. removed-long r),
      end-long (length w.table) (records_of w.table) (length w.memory),
    )

-- the line of a bad table
pub wrong-long : (name : Bytes) (v : ℕ) → length name ≤ 16 → length (wrong_line name v) ≤ 64
unfolding wrong_line
wrong-long name v h = simp length-append (omega (arith, decimal-long v))
