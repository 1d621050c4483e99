-- The laws of the calls that come in more than one form (specs/Forms), each with a case for each form. What the worlds and nets do with a removal or a
-- computing rests on these and on nothing else. Assumes nothing.
use Prim.Native.Nat.{◌<◌, max, ℕ}
use mathlib.Core.Bool.{Bool, ◌&&◌, false, false≢true, not, true}
use mathlib.Core.List.{List, [], ◌∷◌}
use mathlib.Core.Option.{some}
use mathlib.Core.Path.{◌∙◌, ◌≡◌, ap, ap₂, refl, subst, sym}
use lib.ListN.{length}
use borrow.Author.Tests.{leb-true}
use Rattle.fields.specs.Choice.{◌∈◌, here, keep, pick}
use Rattle.fields.specs.Numbers.{Bytes}
use Rattle.fields.specs.Parts.{part, put}
use Rattle.rules.proofs.Accepted.{delta-bytes}
use Rattle.rules.proofs.Accepted as line
use Rattle.rules.proofs.Tables.{numbers-remove, part_at}
use Rattle.rules.specs.Compute.{told_of, written}
use Rattle.rules.specs.Delta.{NodeDelta, delta_bytes, parts_of}
use Rattle.rules.specs.Digest.{Entries, NodeDigest, read_digest}
use Rattle.rules.specs.Given.{Given, given}
use Rattle.rules.specs.Lent.{from_table, on_table, stored_in}
use Rattle.rules.specs.Whole.{decode_whole, encode_whole, valid_whole, with_table}
use Rattle.rules.proofs.Refusing.{whole-bytes}
use Rattle.rules.specs.Local.{gc, gives}
use Rattle.rules.specs.Node.{Rec, due, goes, last_gc_of, remove, scheduled}
use Rattle.rules.specs.Table.{Entry, Table, numbers_of, obeys, remove_all}
use Rattle.std.specs.Prelude.{Err, Result}
use Rattle.rules.specs.declared.Sent.{Sent}
use Rattle.rules.specs.Results.{done}
use Rattle.rules.specs.declared.Refusal.{Refusal}
use Rattle.rules.specs.declared.Refusal.TheVariants.{BadTable, NobodyPresent}
use Rattle.grid.specs.Grid.{somebody}
use Rattle.grid.specs.GridLayout.{decode_grid, valid_grid}
use Rattle.grid.specs.Careful.{careful_due}
use Rattle.grid.specs.LentGrid.{carefully_removed, fits_table, lent_careful, valid_both}
use Rattle.plan.proofs.Comes as planner
use Rattle.plan.proofs.Sent.{planned-within}
use Rattle.plan.specs.Plan.{accepts, delta_by}
use Rattle.demand3.proofs.EachNode.{node_at, removed}
use Rattle.demand3.proofs.Nearer.{Stirs, line-stirs}
use Rattle.demand3.proofs.OnTheWay.{PartFor, Sendable, computed-part, computed-sendable}
use Rattle.demand3.proofs.Planned.{planned-for, planned-sendable, planned-stirs}
use Rattle.demand3.specs.Demand3.{is_none, least_width, wide_enough}
use Rattle.demand3.specs.Forms.{AsPlanned, ByClock, Carefully, InLine, Order, Removal, compute_by, lent_compute_by, lent_removed_by, ops_by, removed_by}

-- ---- removals

-- a test that takes nothing
none-goes : (a : Bool) → a && false ≡ false
none-goes true = refl
none-goes false = refl

none_kept : (l : List Rec) → keep (λ r. not (goes (λ x. false) r)) l ≡ l
unfolding keep
none_kept [] = refl
none_kept (a ∷ l) = ap₂ (λ (t : Bool) (k : List Rec). pick (not t) (a ∷ k) k) (none-goes (scheduled a.kv.status)) (none_kept l)

none-gc : (g : ℕ) (l : List Rec) → last_gc_of (λ x. false) g l ≡ g
unfolding last_gc_of
none-gc g [] = refl
none-gc g (a ∷ l) = ap (λ (t : Bool). last_gc_of (λ x. false) (pick t (max g a.kv.version) g) l) (none-goes (scheduled a.kv.status)) ∙ none-gc g l

none-removed : (t : Table) → remove_all (λ i r. false) t ≡ t
unfolding remove_all remove
none-removed [] = refl
none-removed (e ∷ t) = λ z.
    record {
      number = e.number;
      node =
          record {
            heartbeat = e.node.heartbeat;
            max = e.node.max;
            last_gc = none-gc e.node.last_gc e.node.recs z;
            recs = none_kept e.node.recs z;
          };
    }
    ∷ none-removed t z

-- whatever it goes by, it takes scheduled records by some test
pub removal-is : (removal : Removal) (t : Table) → (due : ℕ → Rec → Bool) × (removed_by removal t ≡ remove_all due t)
unfolding gc
removal-is (ByClock now grace) t = (λ i. due now grace, refl)
removal-is (Carefully grid now grace) t = go (valid_grid grid && fits_table (decode_grid grid) t) (somebody (decode_grid grid))
  where
    go : (a b : Bool) → (due : ℕ → Rec → Bool) × (pick a (pick b (carefully_removed (decode_grid grid) now grace t) t) t ≡ remove_all due t)
    go true true = (careful_due (decode_grid grid) now grace, refl)
    go true false = (λ i r. false, sym (none-removed t))
    go false b = (λ i r. false, sym (none-removed t))

pub removed-numbers : (removal : Removal) (t : Table) → numbers_of (removed_by removal t) ≡ numbers_of t
removed-numbers removal t = let x = removal-is removal t in ap numbers_of x.1 ∙ numbers-remove x.0 t

-- seen from a node
pub removed-node : (removal : Removal) (t : Table) (i : ℕ) → (due : Rec → Bool) × (node_at i (removed_by removal t) ≡ remove due (node_at i t))
removed-node removal t i = let x = removal-is removal t in (x.0 i, ap (node_at i) x.1 ∙ removed i t x.0)

-- of lent bytes it is 14, or leaves the bytes of what it leaves of the table
pub lent-removal : (removal : Removal) (l : Bytes) → lent_removed_by removal l ≡ (on_table (Err BadTable) (λ t. gives done (removed_by removal t)) l).lent
unfolding gc lent_careful valid_both on_table
lent-removal (ByClock now grace) l = refl
lent-removal (Carefully grid now grace) l = go (valid_grid grid) (valid_whole l) refl (fits_table (decode_grid grid) (decode_whole l).table) (somebody (decode_grid grid))
  where
    t : Table
    t = (decode_whole l).table

    u : Table
    u = carefully_removed (decode_grid grid) now grace t

    stays : valid_whole l ≡ true → l ≡ encode_whole (with_table t (decode_whole l))
    stays e = sym (whole-bytes l e)

    go : (g w : Bool) → valid_whole l ≡ w → (f s : Bool)
        → (pick (g && (w && f)) (pick s (given done (encode_whole (with_table u (decode_whole l)))) (given (Err NobodyPresent) l)) (given (Err BadTable) l)).lent
        ≡ (pick w (stored_in (decode_whole l) (gives done (pick (g && f) (pick s u t) t))) (given (Err BadTable) l)).lent
    go true true e true true = refl
    go true true e true false = stays e
    go true true e false s = stays e
    go false true e f s = stays e
    go true false e f s = refl
    go false false e f s = refl

-- ---- computing

-- A delta that was computed for a digest: it may be sent, each node's part was made for the digest, and if its exchange counts, a part moves its node while
-- the digest is behind of any.
pub record Made (excluded : List ℕ) (order : Order) (mtu : ℕ) (ds : List NodeDigest) (t : Table) : Type 0 where
  pub sendable : Sendable t (ops_by excluded order mtu ds t)
  pub each : (i : ℕ) (d : NodeDelta) → part_at i (parts_of (ops_by excluded order mtu ds t)) ≡ some d → PartFor excluded ds t i d
  pub stirs : wide_enough excluded order mtu ≡ true → (e : Entry) → e ∈ t → (told_of e.number ds).max < e.node.max → Stirs t (ops_by excluded order mtu ds t)

-- what computing comes to: a refusal, or such a delta for what the digest's bytes tell, whose bytes then stand at its place
pub data Comes (edition : ℕ) (excluded : List ℕ) (order : Order) (mtu place : ℕ) (d : List ℕ) (t : Table) (l : List ℕ) : Given (Result Sent Refusal) (List ℕ) → Type 0 where
  refuses : (r : Refusal) → Comes edition excluded order mtu place d t l (given (Err r) l)
  writes : (ds : List NodeDigest) (rest : List ℕ) → read_digest edition d ≡ Entries ds rest → Made excluded order mtu ds t
      → part place (length (delta_bytes (ops_by excluded order mtu ds t))) (put place (delta_bytes (ops_by excluded order mtu ds t)) l) ≡ delta_bytes (ops_by excluded order mtu ds t)
      → Comes edition excluded order mtu place d t l (written (ops_by excluded order mtu ds t) place l)

pub comes : (edition : ℕ) (excluded : List ℕ) (order : Order) (mtu place : ℕ) (d : List ℕ) (t : Table) (l : List ℕ) → obeys t ≡ true → Comes edition excluded order mtu place d t l (compute_by edition excluded order mtu place d t l)
comes edition excluded (InLine ties) mtu place d t l ok = go _ (line.comes edition excluded ties mtu place d t l)
  where
    stirs : (excluded : List ℕ) (ds : List NodeDigest) → wide_enough excluded (InLine ties) mtu ≡ true → (e : Entry) → e ∈ t → (told_of e.number ds).max < e.node.max → Stirs t (ops_by excluded (InLine ties) mtu ds t)
    stirs [] ds wide = line-stirs mtu ties ds t ok (leb-true least_width mtu wide)
    stirs (i ∷ is) ds wide = absurd (false≢true wide)

    go : (o : Given (Result Sent Refusal) (List ℕ)) → line.Comes edition excluded ties mtu place d t l o → Comes edition excluded (InLine ties) mtu place d t l o
    go o (line.refuses r) = refuses r
    go o (line.writes ds rest e h g) =
        writes ds rest e
        (record { sendable = computed-sendable excluded ties mtu ds t ok h; each = computed-part excluded ties mtu ds t ok; stirs = stirs excluded ds })
        (delta-bytes edition excluded ties mtu place d t l ds g)
comes edition excluded (AsPlanned nodes counts) mtu place d t l ok = go _ (planner.plan-comes edition excluded nodes counts mtu place d t l)
  where
    stirs : (ds : List NodeDigest) → accepts excluded nodes counts mtu ds t ≡ true → (ns : List ℕ) → nodes ≡ ns → not (is_none ns) ≡ true → Stirs t (delta_by excluded nodes counts ds t)
    stirs ds taken [] q wide = absurd (false≢true wide)
    stirs ds taken (i ∷ is) q wide = planned-stirs excluded nodes counts mtu ds t ok taken i (subst (λ (l : List ℕ). i ∈ l) (sym q) (here refl))

    go : (o : Given (Result Sent Refusal) (List ℕ)) → planner.PlanComes edition excluded nodes counts mtu place d t l o → Comes edition excluded (AsPlanned nodes counts) mtu place d t l o
    go o (planner.refuses r) = refuses r
    go o (planner.writes ds rest e taken h g) =
        writes ds rest e
        (record {
          sendable = planned-sendable excluded nodes counts mtu ds t ok taken h;
          each = planned-for excluded nodes counts mtu ds t ok taken;
          stirs = λ wide e m says. stirs ds taken nodes refl wide;
        })
        (planner.plan-bytes edition excluded nodes counts mtu place d t l ds (planned-within excluded nodes counts mtu ds t ok taken) g)

-- of lent bytes it is 14, or what it is of the table
pub lent-computing : (edition : ℕ) (excluded : List ℕ) (order : Order) (mtu place : ℕ) (digest d l : Bytes)
    → lent_compute_by edition excluded order mtu place digest d l
    ≡ from_table (given (Err BadTable) d) (λ t. compute_by edition excluded order mtu place digest t d) l
lent-computing edition excluded (InLine ties) mtu place digest d l = refl
lent-computing edition excluded (AsPlanned nodes counts) mtu place digest d l = refl
