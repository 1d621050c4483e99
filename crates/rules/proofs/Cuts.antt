-- What 9 says of the bytes that are lacking. It is the field's: an operation that was written, cut off anywhere, lacks what its field lacks in which the
-- bytes end (`written-cut`), and a digest likewise (`digest-cut`; `bare-cut` in V1). And of any bytes that are refused with 9 (`op-cut`, `entries-cut`): the count is not 0;
-- with fewer bytes more, whatever they are, the same field is cut, and lacks the rest; with as many or more, that field is not cut again. A field is known
-- by where it ends. Assumes nothing.
use Prim.Native.Nat.{ℕ, zero, suc, ◌+◌, ◌-◌, ◌*◌, ◌/◌, ◌%◌, ◌<◌, ◌^◌, ◌≤◌}
use mathlib.Core.Bool.{Bool, true, false}
use mathlib.Core.List.{List, [], ◌∷◌, ◌++◌, append_assoc, append-nil}
use mathlib.Core.Path.{◌≡◌, refl, ap, sym, ◌∙◌}
use native.Mathlib.Omega.{arith}
use lib.Dec.{eqb, leb}
use lib.ListN.{length, take, drop, replicate, length-append}
use lib.Seq.{drop-append-le, drop_at, length-take-le, take-append-add, take-append-le, take_at}
use borrow.Author.Tests.{eqb-false, leb-false, leb-true, le-leb, lt-leb, ne_eqb}
use Rattle.fields.specs.Blocks.{flat}
use Rattle.fields.specs.Choice.{pick}
use Rattle.fields.specs.Numbers.{bytes_of, nat_of}
use Rattle.fields.specs.Widths.{total}
use Rattle.fields.proofs.Numbers.{length-bytes_of, nat-bytes}
use Rattle.rules.specs.Delta.{Bad, Got, KeyValueOp, NodeOp, Op, OpRead, SetMaxVersionOp, field, field_widths, lacking, number, number_lacks, number_width, op_bytes, read_key_value, read_node, read_op, read_set_max_version, read_tagged, size_of, status_byte, status_or, text, text_bytes}
use Rattle.rules.specs.Digest.{DigestRead, NodeDigest, Refused, count_width, digest_bytes, entry_bytes, entry_width, first_entries, head_width, read_count, read_counted, read_entries, read_to_end}
use Rattle.rules.specs.Sizes.{max_key, max_nodes, max_value}
use Rattle.rules.specs.declared.Refusal.{Refusal}
use Rattle.rules.specs.declared.Refusal.TheVariants.{Cut, TooLong, TooMany, BadTag, BadEdition}
use Rattle.rules.specs.declared.Status.{Status}
use Rattle.rules.proofs.Digests.{entries-long}
use Rattle.rules.proofs.Ops.{SmallOp, after_key, after_key_tag, after_number, after_tag, after_value, after_version, field-read, one_byte, status-byte}
use Rattle.rules.proofs.Sending.{size-max, size-node, size-record}

-- ---- more bytes behind those that were cut off

-- Bytes of this length are refused with 9 and lack n. What `more` bytes behind them come to: the same field, which lacks the rest; or never again a field
-- that ends where it ends, or before.
pub record Fills (long n more : ℕ) (StillLacks : ℕ → Type 0) : Type 0 where
  pub lacks : 0 < n
  pub fewer : more < n → StillLacks (n - more)
  pub enough : n ≤ more → (k : ℕ) → StillLacks k → long + n < long + more + k

-- the same of a reader, without the last, which follows
abbrev Grows : (read : List ℕ → OpRead) → Type 0
Grows read = (l m : List ℕ) (n : ℕ) → read l ≡ Bad (Cut n) → (0 < n) × (length m < n → read (l ++ m) ≡ Bad (Cut (n - length m)))

field-grows : (w : ℕ) (next : List ℕ → List ℕ → OpRead) → ((b : List ℕ) → Grows (next b)) → Grows (field w next)
field-grows w next g l m n e = go (leb w (length l)) refl e
  where
    go : (t : Bool) → leb w (length l) ≡ t → pick t (next (take w l) (drop w l)) (Bad (Cut (w - length l))) ≡ Bad (Cut n)
        → (0 < n) × (length m < n → field w next (l ++ m) ≡ Bad (Cut (n - length m)))
    go true q e =
        let h : w ≤ length l = leb-true _ _ q in
        let h' : w ≤ length (l ++ m) = simp length-append (omega arith) in
        let r = g (take w l) (drop w l) m n e in
        (r.0, λ k. rw (le-leb w (length (l ++ m)) h', take-append-le w l m h, drop-append-le w l m h) (r.1 k))
    go false q e =
        let h : length l < w = leb-false _ _ q in
        let same : w - length l ≡ n = cc in
        let rest : length m < n → w - length (l ++ m) ≡ n - length m = λ k. simp length-append (omega arith) in
        let h' : length m < n → length (l ++ m) < w = λ k. simp length-append (omega arith) in
        (omega arith, λ k. rw (lt-leb w (length (l ++ m)) (h' k), rest k))

number-grows : (w : ℕ) (next : ℕ → List ℕ → OpRead) → ((v : ℕ) → Grows (next v)) → Grows (number w next)
number-grows w next g = field-grows w (λ b. next (nat_of b)) (λ b. g (nat_of b))

-- other refusals are not 9, and what was read is not refused
bad-grows : (r : Refusal) → ((n : ℕ) → r ≡ Cut n → ⊥) → Grows (λ l. Bad r)
bad-grows r h l m n e = let z : r ≡ Cut n = cc in absurd (h n z)

got-grows : (o : Op) → Grows (λ l. Got o l)
got-grows o l m n e = let z : ◌≡◌ {A = ℕ} 0 1 = cc in absurd (omega arith)

not-long : (n : ℕ) → TooLong ≡ Cut n → ⊥
not-long n e = let z : ◌≡◌ {A = ℕ} 0 1 = cc in omega arith

not-tag : (n : ℕ) → BadTag ≡ Cut n → ⊥
not-tag n e = let z : ◌≡◌ {A = ℕ} 0 1 = cc in omega arith

text-grows : (most : ℕ) (next : List ℕ → List ℕ → OpRead) → ((b : List ℕ) → Grows (next b)) → Grows (text most next)
text-grows most next g = number-grows 2 (λ n rest. pick (leb n most) (field n next rest) (Bad TooLong)) (λ n. go n (leb n most))
  where
    go : (n : ℕ) (t : Bool) → Grows (λ rest. pick t (field n next rest) (Bad TooLong))
    go n true = field-grows n next g
    go n false = bad-grows TooLong not-long

status-grows : (next : Status → List ℕ → OpRead) → ((s : Status) → Grows (next s)) → (b : ℕ) → Grows (λ rest. status_or (λ s. next s rest) b)
status-grows next g zero = g _
status-grows next g (suc zero) = g _
status-grows next g (suc (suc zero)) = g _
status-grows next g (suc (suc (suc b))) = bad-grows BadTag not-tag

tagged-grows : (tag : ℕ) → Grows (read_tagged tag)
unfolding read_node read_key_value read_set_max_version
tagged-grows zero = number-grows 8 after_tag (λ n. number-grows 8 (after_number n) (λ g. number-grows 8 (λ f rest. Got (NodeOp n g f) rest) (λ f. got-grows (NodeOp n g f))))
tagged-grows (suc zero) =
    text-grows max_key after_key_tag
    (λ k.
    text-grows max_value (after_key k)
    (λ v.
    number-grows 8 (after_value k v)
    (λ ver.
    number-grows 1 (after_version k v ver)
    (status-grows (λ s rest. Got (KeyValueOp (record { key = k; value = v; version = ver; status = s })) rest)
    (λ s. got-grows (KeyValueOp (record { key = k; value = v; version = ver; status = s })))))))
tagged-grows (suc (suc zero)) = number-grows 8 (λ m rest. Got (SetMaxVersionOp m) rest) (λ m. got-grows (SetMaxVersionOp m))
tagged-grows (suc (suc (suc n))) = bad-grows BadTag not-tag

op-grows : Grows read_op
unfolding read_op
op-grows = number-grows 1 read_tagged tagged-grows

-- one operation
pub op-cut : (l m : List ℕ) (n : ℕ) → read_op l ≡ Bad (Cut n) → Fills (length l) n (length m) (λ k. read_op (l ++ m) ≡ Bad (Cut k))
op-cut l m n e =
    let g = op-grows l m n e in
    record { lacks = g.0; fewer = g.1; enough = λ h k q. let p = (op-grows (l ++ m) [] k q).0 in omega arith }

-- ---- the same of a digest

-- V0
counted-grow : (l m : List ℕ) (n : ℕ) → read_counted l ≡ Refused (Cut n) → (0 < n) × (length m < n → read_counted (l ++ m) ≡ Refused (Cut (n - length m)))
counted-grow l m n e = count (leb count_width (length l)) refl e
  where
    c : ℕ
    c = nat_of (take count_width l)

    r : List ℕ
    r = drop count_width l

    good : DigestRead
    good = first_entries c r

    Out : Type 0
    Out = (0 < n) × (length m < n → read_counted (l ++ m) ≡ Refused (Cut (n - length m)))

    joined : count_width ≤ length l → read_counted (l ++ m) ≡ read_count c (r ++ m)
    joined h =
        let h' : count_width ≤ length (l ++ m) = simp length-append (omega arith) in
        rw (le-leb count_width (length (l ++ m)) h', take-append-le count_width l m h, drop-append-le count_width l m h)

    there : count_width ≤ length l → c ≤ max_nodes → (t : Bool) → leb (c * entry_width) (length r) ≡ t
        → pick t good (Refused (Cut (number_lacks (length r)))) ≡ Refused (Cut n) → Out
    there h g true q e = let z : ◌≡◌ {A = ℕ} 0 1 = cc in absurd (omega arith)
    there h g false q e =
        let s : length r < c * entry_width = leb-false _ _ q in
        let same : number_lacks (length r) ≡ n = cc in
        let short : length m < n → length (r ++ m) < c * entry_width = λ k. simp length-append (omega arith) in
        let rest : length m < n → number_lacks (length (r ++ m)) ≡ n - length m = λ k. simp length-append (omega arith) in
        (omega arith, λ k. joined h ∙ rw (le-leb c max_nodes g, lt-leb (c * entry_width) (length (r ++ m)) (short k), rest k))

    few : count_width ≤ length l → (t : Bool) → leb c max_nodes ≡ t → pick t (pick (leb (c * entry_width) (length r)) good (Refused (Cut (number_lacks (length r))))) (Refused TooMany) ≡ Refused (Cut n) → Out
    few h true q e = there h (leb-true _ _ q) (leb (c * entry_width) (length r)) refl e
    few h false q e = let z : ◌≡◌ {A = ℕ} 0 1 = cc in absurd (omega arith)

    count : (t : Bool) → leb count_width (length l) ≡ t → pick t (read_count c r) (Refused (Cut (count_width - length l))) ≡ Refused (Cut n) → Out
    count true q e = few (leb-true _ _ q) (leb c max_nodes) refl e
    count false q e =
        let h : length l < count_width = leb-false _ _ q in
        let same : count_width - length l ≡ n = cc in
        let rest : length m < n → count_width - length (l ++ m) ≡ n - length m = λ k. simp length-append (omega arith) in
        let h' : length m < n → length (l ++ m) < count_width = λ k. simp length-append (omega arith) in
        (omega arith, λ k. rw (lt-leb count_width (length (l ++ m)) (h' k), rest k))

-- V1
to-end-grow : (l m : List ℕ) (n : ℕ) → read_to_end l ≡ Refused (Cut n) → (0 < n) × (length m < n → read_to_end (l ++ m) ≡ Refused (Cut (n - length m)))
to-end-grow l m n e = whole (eqb (length l % entry_width) 0) refl (leb (length l / entry_width) max_nodes) e
  where
    whole : (t : Bool) → eqb (length l % entry_width) 0 ≡ t → (s : Bool)
        → pick t (pick s (first_entries (length l / entry_width) l) (Refused TooMany)) (Refused (Cut (number_lacks (length l)))) ≡ Refused (Cut n)
        → (0 < n) × (length m < n → read_to_end (l ++ m) ≡ Refused (Cut (n - length m)))
    whole true q true e = let z : ◌≡◌ {A = ℕ} 0 1 = cc in absurd (omega arith)
    whole true q false e = let z : ◌≡◌ {A = ℕ} 0 1 = cc in absurd (omega arith)
    whole false q s e =
        let part : length l % entry_width ≡ 0 → ⊥ = eqb-false _ _ q in
        let same : number_lacks (length l) ≡ n = cc in
        let still : length m < n → length (l ++ m) % entry_width ≡ 0 → ⊥ = λ k. simp length-append (λ z. part (omega arith)) in
        let rest : length m < n → number_lacks (length (l ++ m)) ≡ n - length m = λ k. simp length-append (omega arith) in
        (omega arith, λ k. rw (ne_eqb (length (l ++ m) % entry_width) 0 (still k), rest k))

entries-grow : (edition : ℕ) (l m : List ℕ) (n : ℕ) → read_entries edition l ≡ Refused (Cut n) → (0 < n) × (length m < n → read_entries edition (l ++ m) ≡ Refused (Cut (n - length m)))
unfolding read_entries
entries-grow edition l m n = go (eqb edition 0) (eqb edition 1)
  where
    Out : Bool → Bool → List ℕ → DigestRead
    Out a b x = pick a (read_counted x) (pick b (read_to_end x) (Refused BadEdition))

    go : (a b : Bool) → Out a b l ≡ Refused (Cut n) → (0 < n) × (length m < n → Out a b (l ++ m) ≡ Refused (Cut (n - length m)))
    go true b e = counted-grow l m n e
    go false true e = to-end-grow l m n e
    go false false e = let z : ◌≡◌ {A = ℕ} 0 1 = cc in absurd (omega arith)

-- in either edition
pub entries-cut : (edition : ℕ) (l m : List ℕ) (n : ℕ) → read_entries edition l ≡ Refused (Cut n) → Fills (length l) n (length m) (λ k. read_entries edition (l ++ m) ≡ Refused (Cut k))
entries-cut edition l m n e =
    let g = entries-grow edition l m n e in
    record { lacks = g.0; fewer = g.1; enough = λ h k q. let p = (entries-grow edition (l ++ m) [] k q).0 in omega arith }

-- ---- what was written, cut off behind n bytes

-- readings of what is left of fields with these widths, by how many bytes are left
abbrev Lacks : (widths : List ℕ) (read : ℕ → OpRead) → Type 0
Lacks ws read = (n : ℕ) → n < total ws → read n ≡ Bad (Cut (lacking n ws))

none-lacks : (read : ℕ → OpRead) → Lacks [] read
none-lacks read n h = absurd (omega arith)

field-lacks : (w : ℕ) (ws : List ℕ) (read next : ℕ → OpRead) → ((n : ℕ) → read n ≡ pick (leb w n) (next (n - w)) (Bad (Cut (w - n)))) → Lacks ws next → Lacks (w ∷ ws) read
unfolding lacking
field-lacks w ws read next is g n h = is n ∙ go (leb w n) refl
  where
    go : (t : Bool) → leb w n ≡ t → pick t (next (n - w)) (Bad (Cut (w - n))) ≡ Bad (Cut (pick t (lacking (n - w) ws) (w - n)))
    go true q = let k : w ≤ n = leb-true _ _ q in g (n - w) (omega arith)
    go false q = refl

module _ (w : ℕ) (b s : List ℕ) (long : length b ≡ w) where
  take_behind : (n : ℕ) → w ≤ n → take n (b ++ s) ≡ b ++ take (n - w) s
  take_behind n h =
      let e : n ≡ length b + (n - w) = omega arith in
      ap (λ (k : ℕ). take k (b ++ s)) e ∙ take-append-add b s (n - w)

  field-left : (next : List ℕ → List ℕ → OpRead) (n : ℕ) → field w next (take n (b ++ s)) ≡ pick (leb w n) (next b (take (n - w) s)) (Bad (Cut (w - n)))
  field-left next n = go (leb w n) refl
    where
      go : (t : Bool) → leb w n ≡ t → field w next (take n (b ++ s)) ≡ pick t (next b (take (n - w) s)) (Bad (Cut (w - n)))
      go true q = ap (field w next) (take_behind n (leb-true _ _ q)) ∙ field-read w next b (take (n - w) s) long
      go false q =
          let h : n < w = leb-false _ _ q in
          let k : length (take n (b ++ s)) ≡ n = length-take-le n (b ++ s) (simp length-append (omega arith)) in
          rw (k, lt-leb w n h)

number-left : (w v : ℕ) (next : ℕ → List ℕ → OpRead) (s : List ℕ) → v < 256 ^ w → (n : ℕ)
    → number w next (take n (bytes_of w v ++ s)) ≡ pick (leb w n) (next v (take (n - w) s)) (Bad (Cut (w - n)))
number-left w v next s h n =
    field-left w (bytes_of w v) s (length-bytes_of w v) (λ b. next (nat_of b)) n
    ∙ ap (λ (x : ℕ). pick (leb w n) (next x (take (n - w) s)) (Bad (Cut (w - n)))) (nat-bytes w v h)

number-lacks : (w v : ℕ) (next : ℕ → List ℕ → OpRead) (s ws : List ℕ) → v < 256 ^ w → Lacks ws (λ n. next v (take n s)) → Lacks (w ∷ ws) (λ n. number w next (take n (bytes_of w v ++ s)))
number-lacks w v next s ws h g = field-lacks w ws _ (λ n. next v (take n s)) (number-left w v next s h) g

-- the last field
last-lacks : (w v : ℕ) (next : ℕ → List ℕ → OpRead) → v < 256 ^ w → Lacks (w ∷ []) (λ n. number w next (take n (bytes_of w v)))
last-lacks w v next h n below =
    ap (λ (b : List ℕ). number w next (take n b)) (sym (append-nil (bytes_of w v))) ∙ number-lacks w v next [] [] h (none-lacks _) n below

-- a text: its length, then its bytes
text-lacks : (most : ℕ) (next : List ℕ → List ℕ → OpRead) (t s ws : List ℕ) → length t ≤ most → most < 256 ^ 2 → Lacks ws (λ n. next t (take n s))
    → Lacks (2 ∷ length t ∷ ws) (λ n. text most next (take n (text_bytes t ++ s)))
unfolding text_bytes
text-lacks most next t s ws h k g n below =
    let inner : ℕ → List ℕ → OpRead = λ v rest. pick (leb v most) (field v next rest) (Bad TooLong) in
    let there : (i : ℕ) → inner (length t) (take i (t ++ s)) ≡ field (length t) next (take i (t ++ s)) = λ i. rw (le-leb (length t) most h) in
    ap (λ (x : List ℕ). text most next (take n x)) (append_assoc (bytes_of 2 (length t)) t s)
    ∙ number-lacks 2 (length t) inner (t ++ s) (length t ∷ ws) (omega arith)
    (field-lacks (length t) ws (λ i. inner (length t) (take i (t ++ s))) (λ i. next t (take i s)) (λ i. there i ∙ field-left (length t) t s refl next i) g)
    n below

tag-lacks : (tag : ℕ) (s ws : List ℕ) → tag < 256 → Lacks ws (λ n. read_tagged tag (take n s)) → Lacks (1 ∷ ws) (λ n. read_op (take n (tag ∷ s)))
unfolding read_op
tag-lacks tag s ws h g n below =
    ap (λ (b : List ℕ). number 1 read_tagged (take n (b ++ s))) (sym (one_byte tag h)) ∙ number-lacks 1 tag read_tagged s ws h g n below

op-lacks : (o : Op) → SmallOp o → Lacks (field_widths o) (λ n. read_op (take n (op_bytes o)))
unfolding op_bytes read_node read_key_value read_set_max_version
op-lacks (NodeOp n g f) s =
    tag-lacks 0 _ _ (omega arith)
    (number-lacks 8 n after_tag _ _ s.0 (number-lacks 8 g (after_number n) _ _ s.1 (last-lacks 8 f (λ f rest. Got (NodeOp n g f) rest) s.2)))
op-lacks (KeyValueOp r) s =
    tag-lacks 1 _ _ (omega arith)
    (text-lacks max_key after_key_tag r.key _ _ s.key_fits (omega arith)
    (text-lacks max_value (after_key r.key) r.value _ _ s.value-fits (omega arith)
    (number-lacks 8 r.version (after_value r.key r.value) _ _ s.version_fits
    (λ n below.
    ap (λ (b : List ℕ). number 1 (after_version r.key r.value r.version) (take n b)) (sym (one_byte (status_byte r.status) (status-byte r.status)))
    ∙ last-lacks 1 (status_byte r.status) (after_version r.key r.value r.version) (status-byte r.status) n below))))
op-lacks (SetMaxVersionOp m) s = tag-lacks 2 _ _ (omega arith) (last-lacks 8 m (λ m rest. Got (SetMaxVersionOp m) rest) s)

widths-all : (o : Op) → size_of o ≡ total (field_widths o)
widths-all (NodeOp n g f) = size-node n g f
widths-all (KeyValueOp r) = size-record r ∙ omega arith
widths-all (SetMaxVersionOp m) = size-max m

-- an operation, cut off anywhere
pub written-cut : (o : Op) (n : ℕ) → SmallOp o → n < size_of o → read_op (take n (op_bytes o)) ≡ Bad (Cut (lacking n (field_widths o)))
written-cut o n s h = op-lacks o s n (omega (arith, widths-all o))

-- numbers one behind the other: what the number lacks in which n bytes end
lacking-numbers : (k n : ℕ) → n < k * number_width → lacking n (replicate k number_width) ≡ number_lacks n
unfolding lacking
lacking-numbers zero n h = absurd (omega arith)
lacking-numbers (suc k) n h = go (leb number_width n) refl (λ g. lacking-numbers k (n - number_width) g)
  where
    go : (t : Bool) → leb number_width n ≡ t → (n - number_width < k * number_width → lacking (n - number_width) (replicate k number_width) ≡ number_lacks (n - number_width))
        → pick t (lacking (n - number_width) (replicate k number_width)) (number_width - n) ≡ number_lacks n
    go true q ih = let g : number_width ≤ n = leb-true _ _ q in ih (omega arith) ∙ omega arith
    go false q ih = let g : n < number_width = leb-false _ _ q in omega arith

-- the fields of a digest of k entries in V0
abbrev pub digest_widths : (k : ℕ) → List ℕ
digest_widths k = count_width ∷ replicate (k * 4) number_width

-- a digest in V0, cut off anywhere
pub digest-cut : (ds : List NodeDigest) (n : ℕ) → length ds ≤ max_nodes → n < length (digest_bytes 0 ds)
    → read_entries 0 (take n (digest_bytes 0 ds)) ≡ Refused (Cut (lacking n (digest_widths (length ds))))
unfolding read_entries digest_bytes head_width lacking
digest-cut ds n few h = go (leb count_width n) refl
  where
    c : List ℕ
    c = bytes_of count_width (length ds)

    body : List ℕ
    body = flat entry_bytes ds

    lc : length c ≡ count_width
    lc = length-bytes_of count_width (length ds)

    long : length body ≡ length ds * entry_width
    long = entries-long ds

    n-most : n < count_width + length ds * entry_width
    n-most = omega (arith, length-append c body, lc, long)

    go : (t : Bool) → leb count_width n ≡ t → read_entries 0 (take n (c ++ body)) ≡ Refused (Cut (pick t (lacking (n - count_width) (replicate (length ds * 4) number_width)) (count_width - n)))
    go true q =
        let g : count_width ≤ n = leb-true _ _ q in
        let r : List ℕ = take (n - count_width) body in
        let lr : length r ≡ n - count_width = length-take-le (n - count_width) body (omega (arith, long, n-most)) in
        let there : count_width ≤ length (c ++ r) = simp length-append (omega (arith, lc)) in
        let count : nat_of c ≡ length ds = nat-bytes count_width (length ds) (omega arith) in
        ap (read_entries 0) (take_behind count_width c body lc n g)
        ∙ rw (le-leb count_width (length (c ++ r)) there, take_at c r count_width lc, drop_at c r count_width lc, count, le-leb (length ds) max_nodes few)
        (rw (lr, lt-leb (length ds * entry_width) (n - count_width) (omega (arith, n-most)))
        (ap (λ (k : ℕ). Refused (Cut k)) (sym (lacking-numbers (length ds * 4) (n - count_width) (omega (arith, n-most))))))
    go false q =
        let g : n < count_width = leb-false _ _ q in
        let k : length (take n (c ++ body)) ≡ n = length-take-le n (c ++ body) (simp length-append (omega (arith, lc))) in
        rw (k, lt-leb count_width n g)

-- one in V1, cut off inside an entry: what the number lacks in which n bytes end. Between two entries it is a digest of fewer.
pub bare-cut : (ds : List NodeDigest) (n : ℕ) → n < length (digest_bytes 1 ds) → (n % entry_width ≡ 0 → ⊥)
    → read_entries 1 (take n (digest_bytes 1 ds)) ≡ Refused (Cut (lacking n (replicate (length ds * 4) number_width)))
unfolding read_entries digest_bytes head_width bytes_of
bare-cut ds n h part =
    let long : length (flat entry_bytes ds) ≡ length ds * entry_width = entries-long ds in
    let k : length (take n (flat entry_bytes ds)) ≡ n = length-take-le n (flat entry_bytes ds) (omega arith) in
    rw (k, ne_eqb (n % entry_width) 0 part, lacking-numbers (length ds * 4) n (omega arith))
