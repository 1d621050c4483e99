-- Two good tables with equal listings are the same bytes, and a good table's listing is none of a bad one's. Assumes nothing.
use Prim.Native.Nat.{ℕ, zero, suc, ◌<◌}
use mathlib.Core.Path.{◌≡◌, refl, ap, sym, ◌∙◌, subst}
use mathlib.Core.Bool.{Bool, true, false}
use mathlib.Core.List.{List, [], ◌∷◌, ◌++◌}
use mathlib.Core.Logic.{inl, inr}
use native.Mathlib.Omega.{arith}
use lib.Dec.{eqb, leb, ltb}
use lib.ListN.{length, take, drop}
use borrow.Author.Tests.{ltb-true}
use Rattle.fields.specs.Choice.{◌∈◌, pick}
use Rattle.fields.specs.Blocks.{flat, unblock}
use Rattle.fields.specs.Numbers.{AreBytes, Bytes}
use Rattle.fields.proofs.Choice.{and_left, and_right, in-cons, in-none, pick-false, pick_true}
use Rattle.fields.proofs.Numbers.{bytes_drop, bytes-part, bytes_take}
use Rattle.rules.specs.Answers.{mode_of, profile_of}
use Rattle.rules.specs.Listing.{ascii, line_feed, status_text}
use Rattle.rules.specs.Memory.{Removed, removed_obeys}
use Rattle.rules.specs.Node.{Rec, beats}
use Rattle.rules.specs.Profile.{Kind}
use Rattle.rules.specs.Sizes.{max_key, max_nodes, max_value, numbers}
use Rattle.rules.specs.Table.{Entry}
use Rattle.rules.specs.Layout.{decode, decode_node, decode_rec, node_place, node_width, rec_place, rec_width, table_width}
use Rattle.rules.specs.Whole.{Whole, area_of, decode_whole, encode_whole, mode_of_byte, profile_of_byte, tail_of, valid_whole, whole_width}
use Rattle.rules.proofs.Memories.{whole-memory, whole-table}
use Rattle.rules.proofs.Refusing.{whole-bytes}
use Rattle.rules.specs.declared.Mode.{Mode}
use Rattle.rules.specs.declared.Mode.TheVariants.{Plain, Fenced, Guarded}
use Rattle.table.specs.Fits.{FitsEntry, FitsRec, FitsTable}
use Rattle.table.specs.Tests.{mode_in, nodes_of, profile_in}
use Rattle.table.proofs.Tables.{obeys-fits}
use Rattle.table.proofs.Wholes.{whole-obeys}
use Rattle.listing_text.specs.Texts.{named, numbered}
use Rattle.listing_room.specs.Room.{last_two}
use Rattle.table_listing.specs.TableListing.{bad_place, behind_nodes, end_text, entry_text, kind_line, mode_text, node_line, profile_text, record_line, records_of, refused_line}
use Rattle.table_listing.specs.TableListing.{removed_line, rest_text, table_listing, texts_text, whole_text, wrong_area, wrong_line, wrong_tail, wrong_text}
use Rattle.table_listing.proofs.Same.{cancel, lines_same, mode-same, named-same, numbered-same, opening, profile-same, regroup, status-same}

-- ---- lines

-- a line's last two numbers
two-same : (first second : Bytes) (a b c d : ℕ) (x y : Bytes) → a < numbers → b < numbers → c < numbers → d < numbers
    → last_two (32 ∷ first) a (32 ∷ second) b ++ x ≡ last_two (32 ∷ first) c (32 ∷ second) d ++ y → (a ≡ c) × (b ≡ d) × (x ≡ y)
two-same first second a b c d x y ha hb hc hd e =
    let s : ℕ → Bytes = λ n. numbered (32 ∷ second) n ++ line_feed in
    let p = numbered-same (32 ∷ first) a c (s b ++ x) (s d ++ y) ha hc refl refl (regroup (numbered (32 ∷ first) a) (s b) x (numbered (32 ∷ first) c) (s d) y e) in
    let q =
    numbered-same (32 ∷ second) b d (line_feed ++ x) (line_feed ++ y) hb hd refl refl
    (regroup (numbered (32 ∷ second) b) line_feed x (numbered (32 ∷ second) d) line_feed y p.1) in
    (p.0, q.0, cancel line_feed x y q.1)

kind-same : (k m : Kind) (x y : Bytes) → kind_line k ++ x ≡ kind_line m ++ y → (k ≡ m) × (x ≡ y)
unfolding kind_line
kind-same k m x y e =
    let rest : Kind → Bytes = λ k. profile_text k.profile ++ line_feed in
    let p = mode-same k.mode m.mode (rest k ++ x) (rest m ++ y) (regroup (mode_text k.mode) (rest k) x (mode_text m.mode) (rest m) y e) in
    let q =
    profile-same k.profile m.profile (line_feed ++ x) (line_feed ++ y)
    (regroup (profile_text k.profile) line_feed x (profile_text m.profile) line_feed y p.1) in
    (λ z. record { mode = p.0 z; profile = q.0 z }, cancel line_feed x y q.1)

-- a record that fits, with a key and a value of bytes
pub record OkRec (r : Rec) : Type 0 where
  pub fits : FitsRec r
  pub key : AreBytes r.kv.key
  pub value : AreBytes r.kv.value

record_same : (r s : Rec) (x y : Bytes) → OkRec r → OkRec s → record_line r ++ x ≡ record_line s ++ y → (r ≡ s) × (x ≡ y)
unfolding record_line
record_same r s x y o q e =
    let start : Rec → Bytes = λ r. numbered (ascii " start=") r.start ++ line_feed in
    let status : Rec → Bytes = λ r. status_text r.kv.status ++ start r in
    let named-status : Rec → Bytes = λ r. ascii " status=" ++ status r in
    let value : Rec → Bytes = λ r. named (ascii " value=") r.kv.value in
    let texts = regroup (texts_text r) (rest_text r) x (texts_text s) (rest_text s) y e in
    let k =
    named-same (ascii "key=") max_key r.kv.key s.kv.key (value r ++ (rest_text r ++ x)) (value s ++ (rest_text s ++ y)) o.key q.key
    o.fits.key_fits q.fits.key_fits refl refl
    (regroup (named (ascii "key=") r.kv.key) (value r) (rest_text r ++ x) (named (ascii "key=") s.kv.key) (value s) (rest_text s ++ y) texts) in
    let v =
    named-same (ascii " value=") max_value r.kv.value s.kv.value (rest_text r ++ x) (rest_text s ++ y) o.value q.value o.fits.value-fits
    q.fits.value-fits refl refl k.1 in
    let ver =
    numbered-same (ascii " version=") r.kv.version s.kv.version (named-status r ++ x) (named-status s ++ y) o.fits.version_high
    q.fits.version_high refl refl
    (regroup (numbered (ascii " version=") r.kv.version) (named-status r) x (numbered (ascii " version=") s.kv.version) (named-status s) y v.1) in
    let st =
    status-same r.kv.status s.kv.status (start r ++ x) (start s ++ y)
    (regroup (status_text r.kv.status) (start r) x (status_text s.kv.status) (start s) y (cancel (ascii " status=") (status r ++ x) (status s ++ y) ver.1)) in
    let at =
    numbered-same (ascii " start=") r.start s.start (line_feed ++ x) (line_feed ++ y) o.fits.start_high q.fits.start_high refl refl
    (regroup (numbered (ascii " start=") r.start) line_feed x (numbered (ascii " start=") s.start) line_feed y st.1) in (
      λ z. record { kv = record { key = k.0 z; value = v.0 z; version = ver.0 z; status = st.0 z }; start = at.0 z },
      cancel line_feed x y at.1,
    )

-- what stands behind a node's records begins no record
abbrev NoRecord : Bytes → Type 0
NoRecord x = opening x ≡ 107 → ⊥

pub record OkEntry (e : Entry) : Type 0 where
  pub fits : FitsEntry e
  pub each : (r : Rec) → r ∈ e.node.recs → OkRec r

record-opens : (r : Rec) (x : Bytes) → opening (record_line r ++ x) ≡ 107
unfolding record_line
record-opens r x = refl

entry-same : (e f : Entry) (x y : Bytes) → OkEntry e → OkEntry f → NoRecord x → NoRecord y → entry_text e ++ x ≡ entry_text f ++ y → (e ≡ f) × (x ≡ y)
unfolding entry_text node_line
entry-same e f x y o q nx ny h =
    let recs : Entry → Bytes = λ e. flat record_line e.node.recs in
    let last : Entry → Bytes = λ e. last_two (ascii " max=") e.node.max (ascii " gc=") e.node.last_gc in
    let beat : Entry → Bytes = λ e. numbered (ascii " heartbeat=") e.node.heartbeat.0 in
    let line = regroup (node_line e) (recs e) x (node_line f) (recs f) y h in
    let n =
    numbered-same (ascii "node=") e.number f.number ((beat e ++ last e) ++ (recs e ++ x)) ((beat f ++ last f) ++ (recs f ++ y)) o.fits.number_high
    q.fits.number_high refl refl
    (regroup (numbered (ascii "node=") e.number) (beat e ++ last e) (recs e ++ x) (numbered (ascii "node=") f.number) (beat f ++ last f) (recs f ++ y) line) in
    let b =
    numbered-same (ascii " heartbeat=") e.node.heartbeat.0 f.node.heartbeat.0 (last e ++ (recs e ++ x)) (last f ++ (recs f ++ y)) o.fits.beat_high
    q.fits.beat_high refl refl (regroup (beat e) (last e) (recs e ++ x) (beat f) (last f) (recs f ++ y) n.1) in
    let t =
    two-same (ascii "max=") (ascii "gc=") e.node.max e.node.last_gc f.node.max f.node.last_gc (recs e ++ x) (recs f ++ y) o.fits.max_high
    o.fits.gc_high q.fits.max_high q.fits.gc_high b.1 in
    let r =
    lines_same record_line 107 OkRec (λ x. Unit {0}) record-opens (λ a x. tt) (λ a b x y o q f g. record_same a b x y o q) e.node.recs f.node.recs x y
    o.each q.each tt tt nx ny t.2 in (
      λ z. record {
        number = n.0 z;
        node = record { heartbeat = beats (b.0 z); max = t.0 z; last_gc = t.1 z; recs = r.0 z };
      },
      r.1,
    )

abbrev SmallRemoved : Removed → Type 0
SmallRemoved r = (r.number < numbers) × (r.heartbeat.0 < numbers)

removed-same : (r s : Removed) (x y : Bytes) → SmallRemoved r → SmallRemoved s → removed_line r ++ x ≡ removed_line s ++ y → (r ≡ s) × (x ≡ y)
unfolding removed_line
removed-same r s x y o q e =
    let beat : Removed → Bytes = λ r. numbered (ascii " heartbeat=") r.heartbeat.0 ++ line_feed in
    let n =
    numbered-same (ascii "removed=") r.number s.number (beat r ++ x) (beat s ++ y) o.0 q.0 refl refl
    (regroup (numbered (ascii "removed=") r.number) (beat r) x (numbered (ascii "removed=") s.number) (beat s) y e) in
    let b =
    numbered-same (ascii " heartbeat=") r.heartbeat.0 s.heartbeat.0 (line_feed ++ x) (line_feed ++ y) o.1 q.1 refl refl
    (regroup (numbered (ascii " heartbeat=") r.heartbeat.0) line_feed x (numbered (ascii " heartbeat=") s.heartbeat.0) line_feed y n.1) in
    (λ z. record { number = n.0 z; heartbeat = beats (b.0 z) }, cancel line_feed x y b.1)

-- ---- the whole

pub record OkWhole (w : Whole) : Type 0 where
  pub nodes : (e : Entry) → e ∈ w.table → OkEntry e
  pub removed : (r : Removed) → r ∈ w.memory → SmallRemoved r

abbrev end : Whole → Bytes
end w = end_text (length w.table) (records_of w.table) (length w.memory)

abbrev behind : Whole → Bytes
behind w = behind_nodes w.table w.memory

-- a removed node or the end stands behind the nodes
behind-opens : (m : List Removed) (x : Bytes) (k : ℕ) → (opening x ≡ k → ⊥) → (◌≡◌ {A = ℕ} 114 k → ⊥) → opening (flat removed_line m ++ x) ≡ k → ⊥
unfolding flat removed_line
behind-opens [] x k n o e = n e
behind-opens (r ∷ m) x k n o e = o e

node_opens : (e : Entry) (x : Bytes) → opening (entry_text e ++ x) ≡ 110
unfolding entry_text node_line
node_opens e x = refl

grants : (e : Entry) (x : Bytes) → NoRecord (entry_text e ++ x)
grants e x q = let z : ◌≡◌ {A = ℕ} 110 107 = sym (node_opens e x) ∙ q in omega (arith, z)

removed-opens : (r : Removed) (x : Bytes) → opening (removed_line r ++ x) ≡ 114
unfolding removed_line
removed-opens r x = refl

end-opens : (w : Whole) → opening (end w) ≡ 114 → ⊥
unfolding end_text
end-opens w e = let z : ◌≡◌ {A = ℕ} 101 114 = e in omega (arith, z)

other : (w : Whole) (k : ℕ) → (◌≡◌ {A = ℕ} 101 k → ⊥) → (◌≡◌ {A = ℕ} 114 k → ⊥) → opening (behind w) ≡ k → ⊥
unfolding end_text
other w k n r e = behind-opens w.memory (end w) k n r e

pub whole_same : (w v : Whole) → OkWhole w → OkWhole v → whole_text w ≡ whole_text v → w ≡ v
unfolding whole_text
whole_same w v o q h =
    let nodes : Whole → Bytes = λ w. flat entry_text w.table in
    let k = kind-same w.kind v.kind (nodes w ++ behind w) (nodes v ++ behind v) h in
    let t =
    lines_same entry_text 110 OkEntry NoRecord node_opens grants entry-same w.table v.table (behind w) (behind v) o.nodes q.nodes
    (other w 107 (λ e. omega (arith, e)) (λ e. omega (arith, e))) (other v 107 (λ e. omega (arith, e)) (λ e. omega (arith, e)))
    (other w 110 (λ e. omega (arith, e)) (λ e. omega (arith, e))) (other v 110 (λ e. omega (arith, e)) (λ e. omega (arith, e))) k.1 in
    let m =
    lines_same removed_line 114 SmallRemoved (λ x. Unit {0}) removed-opens (λ a x. tt) (λ a b x y o q f g. removed-same a b x y o q) w.memory v.memory
    (end w) (end v) o.removed q.removed tt tt (end-opens w) (end-opens v) t.1 in
    λ z. record { kind = k.0 z; memory = m.0 z; table = t.0 z }

-- ---- lent bytes

-- every element that is read in blocks of bytes
each-block : {A : Type 0} (P : A → Type 0) (w : ℕ) (dec : Bytes → A) → ((b : Bytes) → AreBytes b → P (dec b)) → (n : ℕ) (l : Bytes) → AreBytes l
    → (a : A) → a ∈ unblock w dec n l → P a
unfolding unblock
each-block P w dec f zero l h a m = absurd (in-none m)
each-block P w dec f (suc n) l h a m = elim (in-cons m) [
  | inl e ↦ subst P (sym e) (f (take w l) (bytes_take w l h))
  | inr t ↦ each-block P w dec f n (drop w l) (bytes_drop w l h) a t
]

-- the texts of the records are bytes
abbrev BytesRec : Rec → Type 0
BytesRec r = AreBytes r.kv.key × AreBytes r.kv.value

rec-bytes : (b : Bytes) → AreBytes b → BytesRec (decode_rec b)
unfolding decode_rec
rec-bytes b h = (bytes-part _ _ b h, bytes-part _ _ b h)

node-bytes : (b : Bytes) → AreBytes b → (r : Rec) → r ∈ (decode_node b).node.recs → BytesRec r
unfolding decode_node
node-bytes b h = each-block BytesRec rec_width decode_rec rec-bytes _ (drop (rec_place 0) b) (bytes_drop (rec_place 0) b h)

table-bytes : (l : Bytes) → AreBytes l → (e : Entry) → e ∈ decode l → (r : Rec) → r ∈ e.node.recs → BytesRec r
unfolding decode
table-bytes l h =
    each-block (λ (e : Entry). (r : Rec) → r ∈ e.node.recs → BytesRec r) node_width decode_node node-bytes _ (drop (node_place 0) l)
    (bytes_drop (node_place 0) l h)

small-removed : (r : Removed) → removed_obeys r ≡ true → SmallRemoved r
unfolding removed_obeys
small-removed r o =
    (ltb-true r.number numbers (and_left _ (ltb r.heartbeat.0 numbers) o), ltb-true r.heartbeat.0 numbers (and_right (ltb r.number numbers) _ o))

module _ (l : Bytes) (h : AreBytes l) (v : valid_whole l ≡ true) where
  pub good-ok : OkWhole (decode_whole l)
  good-ok =
      let obey = whole-obeys l v in
      let fits : FitsTable (decode_whole l).table = obeys-fits (decode_whole l).table (whole-table (decode_whole l) obey) in
      record {
        nodes =
            λ e m. record {
              fits = fits.each e m;
              each = λ r n. let b = table-bytes (area_of l) (bytes_take table_width l h) e m r n in
                  record { fits = (fits.each e m).each r n; key = b.0; value = b.1 };
            };
        removed = λ r m. small-removed r ((whole-memory (decode_whole l) obey).each r m);
      }

pub listing-good : (l : Bytes) → valid_whole l ≡ true → table_listing l ≡ whole_text (decode_whole l)
unfolding table_listing
listing-good l v = pick_true (valid_whole l) (whole_text (decode_whole l)) (wrong_text l) v

pub listing-bad : (l : Bytes) → valid_whole l ≡ false → table_listing l ≡ wrong_text l
unfolding table_listing
listing-bad l v = pick-false (valid_whole l) (whole_text (decode_whole l)) (wrong_text l) v

-- two good tables with equal listings are the same bytes
pub good-same : (b c : Bytes) → AreBytes b → AreBytes c → valid_whole b ≡ true → valid_whole c ≡ true → table_listing b ≡ table_listing c → b ≡ c
good-same b c h g v u e =
    let same : decode_whole b ≡ decode_whole c =
    whole_same (decode_whole b) (decode_whole c) (good-ok b h v) (good-ok c g u) (sym (listing-good b v) ∙ e ∙ listing-good c u) in
    sym (whole-bytes b v) ∙ ap encode_whole same ∙ whole-bytes c u

-- a refused line begins with another byte
good-opens : (w : Whole) → opening (whole_text w) ≡ 109
unfolding whole_text kind_line
good-opens w = go w.kind.mode
  where
    go : (m : Mode) → opening ((mode_text m ++ (profile_text w.kind.profile ++ line_feed)) ++ (flat entry_text w.table ++ behind w)) ≡ 109
    go Plain = refl
    go Fenced = refl
    go Guarded = refl

wrong-opens : (name : Bytes) (v : ℕ) → opening (wrong_line name v) ≡ 101
unfolding wrong_line
wrong-opens name v = refl

refused-opens : opening refused_line ≡ 101
unfolding refused_line
refused-opens = refl

opens_by : (t : Bool) (x y : Bytes) → opening x ≡ 101 → opening y ≡ 101 → opening (pick t x y) ≡ 101
opens_by true x y p q = p
opens_by false x y p q = q

bad-opens : (l : Bytes) → opening (wrong_text l) ≡ 101
unfolding wrong_text
bad-opens l =
    opens_by (eqb (length l) whole_width) (wrong_area (area_of l) (tail_of l)) _
    (opens_by (leb (nodes_of (area_of l)) max_nodes) _ _
    (opens_by (ltb (bad_place (area_of l)) (nodes_of (area_of l))) _ (wrong_tail (tail_of l)) (wrong-opens _ _) (tail-opens (tail_of l))) (wrong-opens _ _))
    (wrong-opens _ _)
  where
    tail-opens : (b : Bytes) → opening (wrong_tail b) ≡ 101
    tail-opens b =
        opens_by (eqb (mode_of (mode_of_byte (mode_in b))) (mode_in b)) _ _
        (opens_by (eqb (profile_of (profile_of_byte (profile_in b))) (profile_in b)) refused_line _ refused-opens (wrong-opens _ _)) (wrong-opens _ _)

-- so whatever bytes have the listing of a good table are that table
pub table-tells : (b c : Bytes) → AreBytes b → AreBytes c → valid_whole b ≡ true → table_listing b ≡ table_listing c → b ≡ c
table-tells b c h g v e = go (valid_whole c) refl
  where
    go : (t : Bool) → valid_whole c ≡ t → b ≡ c
    go true u = good-same b c h g v u e
    go false u =
        let z : ◌≡◌ {A = ℕ} 109 101 =
        sym (good-opens (decode_whole b)) ∙ ap opening (sym (listing-good b v) ∙ e ∙ listing-bad c u) ∙ bad-opens c in
        absurd (omega (arith, z))
