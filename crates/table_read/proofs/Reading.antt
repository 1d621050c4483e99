-- A call that reads one node of a good table, as the code has it. The search for the node answered a span: where the node is held, `&table[start..end]`
-- is lent to what reads a node's bytes, and what that says of the lent bytes it says of the node that the rules find. The same of a record: the search
-- for the key answered a place, and the record's bytes are lent to what reads a record. The premises are what such a function knows, so that `search`
-- finds them. Assumes nothing.
use Prim.Native.Nat.{ℕ, ◌-◌, ◌≤◌, ◌<◌}
use mathlib.Core.Path.{◌≡◌, refl, ap, sym, ◌∙◌, subst}
use mathlib.Core.Bool.{true}
use mathlib.Core.List.{List}
use mathlib.Core.Option.{Option, none, some}
use native.Mathlib.Omega.{arith}
use lib.ListN.{length, take, drop}
use lib.Dec.{leb}
use borrow.Author.Tests.{le-leb, lt-leb}
use Rattle.fields.specs.Choice.{pick}
use Rattle.fields.specs.Widths.{offset}
use Rattle.fields.proofs.Choice.{pick_true, pick-false}
use Rattle.rules.specs.Sizes.{max_records, max_key, max_value}
use Rattle.rules.specs.Given.{Given, given, Gives}
use Rattle.rules.specs.Node.{Node}
use Rattle.rules.specs.Table.{node_of, keys_rise}
use Rattle.rules.specs.Layout.{rec_width, node_widths, node_width, table_width, decode_rec, decode_node, decode, valid}
use Rattle.rules.specs.declared.Record.{Record}
use Rattle.table.specs.Fits.{LaidNode}
use Rattle.table.specs.Tests.{key_length, value_length, count_of, recs_in}
use Rattle.table.proofs.Tables.{valid-long}
use Rattle.table.proofs.Places.{rec_bytes, rec_at}
use Rattle.table.proofs.Laid.{rec-long, laid-key, laid-value}
use Rattle.table_read.specs.Find.{find_key, span_in, node_start, record_of}
use Rattle.table_read.specs.declared.Place.{Place}
use Rattle.table_read.specs.declared.Place.TheVariants.{At}
use Rattle.std.specs.Prelude.{Option as Optional}
use Rattle.std.specs.Prelude.{None, Some}
use Rattle.table_read.specs.declared.Span.{Span}
use Rattle.table_read.proofs.Searched.{rec-in}
use Rattle.table_read.proofs.Held.{node_end, node-fits, node_seen, held-laid, held-rises, held_start, held-node, missing-node}

-- ---- the node

-- the bytes that are lent
abbrev lent_node : (start end : ℕ) (l : List ℕ) → List ℕ
lent_node start end l = take (end - start) (drop start l)

module _ (n : ℕ) (l : List ℕ) (v : valid l ≡ true) {s : (Optional Span)} (f : s ≡ span_in n l) {start end : ℕ} (h : s ≡ (Some (record { start = start; end = end }))) where
  held : span_in n l ≡ (Some (record { start = start; end = end }))
  held = sym f ∙ h

  pub lent-order : start ≤ end
  lent-order = omega (arith, node_end n l v held)

  pub lent_fits : end ≤ length l
  lent_fits = node-fits n l v held

  pub lent_below : start ≤ table_width
  lent_below = omega (arith, node_end n l v held, node-fits n l v held, valid-long l v)

  pub lent_laid : LaidNode (lent_node start end l)
  lent_laid = subst LaidNode (sym (node_seen n l v held)) (held-laid n l v held)

  pub lent-long : length (lent_node start end l) ≡ node_width
  lent-long = lent_laid.long

  pub lent-count : offset node_widths 4 < length (lent_node start end l)
  lent-count = omega (arith, lent-long)

  pub lent-rises : keys_rise (recs_in (lent_node start end l)) ≡ true
  lent-rises = ap (λ (b : List ℕ). keys_rise (recs_in b)) (node_seen n l v held) ∙ held-rises n l v held

  lent-node : some (decode_node (lent_node start end l)).node ≡ node_of n (decode l)
  lent-node = ap (λ (b : List ℕ). some (decode_node b).node) (node_seen n l v held) ∙ sym (held-node n l v held)

  lent-start : start ≡ node_start n (decode l)
  lent-start = sym (held_start n l v held)

-- what is asked where the node's bytes are lent
pub ruleset lent-node-needs = (lent-order, lent_fits, lent_below, lent_laid, lent-long, lent-count, lent-rises)

-- what they say, by a rule that says it of the node that is held, or of none
module _ {A : Type 0} (rule : Option Node → A) (n : ℕ) (l : List ℕ) (v : valid l ≡ true) {s : (Optional Span)} (f : s ≡ span_in n l) where
  pub node-says : {start end : ℕ} → s ≡ (Some (record { start = start; end = end })) → (r : A) → r ≡ rule (some (decode_node (lent_node start end l)).node) → r ≡ rule (node_of n (decode l))
  node-says h r p = p ∙ ap rule (lent-node n l v f h)

  pub no-node-says : s ≡ None → rule none ≡ rule (node_of n (decode l))
  no-node-says h = ap rule (sym (missing-node n l v (sym f ∙ h)))

-- the same of a rule that is asked for something, and also says where the node stands
module _ {A X : Type 0} (rule : X → ℕ → Option Node → A) (x : X) (n : ℕ) (l : List ℕ) (v : valid l ≡ true) {s : (Optional Span)} (f : s ≡ span_in n l) where
  pub node-stands : {start end : ℕ} → s ≡ (Some (record { start = start; end = end })) → (r : A) → r ≡ rule x start (some (decode_node (lent_node start end l)).node)
      → r ≡ rule x (node_start n (decode l)) (node_of n (decode l))
  node-stands {start} h r p = p ∙ ap (rule x start) (lent-node n l v f h) ∙ ap (λ (k : ℕ). rule x k (node_of n (decode l))) (lent-start n l v f h)

  pub no-node-stands : s ≡ None → rule x (node_start n (decode l)) none ≡ rule x (node_start n (decode l)) (node_of n (decode l))
  no-node-stands h = no-node-says (rule x (node_start n (decode l))) n l v f h

-- and what is given of a lent list
module _ {A M : Type 0} (rule : Option Node → Given A M) (n : ℕ) (l : List ℕ) (v : valid l ≡ true) {s : (Optional Span)} (f : s ≡ span_in n l) where
  pub node-fills : {start end : ℕ} → s ≡ (Some (record { start = start; end = end })) → (a : A) (m : M) → Gives (rule (some (decode_node (lent_node start end l)).node)) a m
      → Gives (rule (node_of n (decode l))) a m
  node-fills h a m p = subst (λ (o : Option Node). Gives (rule o) a m) (lent-node n l v f h) p

  pub no-node-fills : s ≡ None → Gives (rule (node_of n (decode l))) (rule none).answer (rule none).lent
  no-node-fills h = subst (λ (o : Option Node). Gives (rule o) (rule none).answer (rule none).lent) (sym (missing-node n l v (sym f ∙ h))) (refl, refl)

-- ---- the key

-- it is sought where it is not too long
module _ {A : Type 0} (found bad : A) (k : List ℕ) where
  pub short-says : length k ≤ max_key → (r : A) → r ≡ found → r ≡ pick (leb (length k) max_key) found bad
  short-says h r p = p ∙ sym (pick_true (leb (length k) max_key) found bad (le-leb (length k) max_key h))

  pub long-says : max_key < length k → bad ≡ pick (leb (length k) max_key) found bad
  long-says h = sym (pick-false (leb (length k) max_key) found bad (lt-leb (length k) max_key h))

module _ {A M : Type 0} (found : Given A M) (k : List ℕ) where
  pub short-fills : (bad : Given A M) → length k ≤ max_key → (a : A) (m : M) → Gives found a m → Gives (pick (leb (length k) max_key) found bad) a m
  short-fills bad h a m p = subst (λ (x : Given A M). Gives x a m) (short-says found bad k h found refl) p

  pub long-fills : max_key < length k → (a : A) (m : M) → Gives (pick (leb (length k) max_key) found (given a m)) a m
  long-fills h a m = subst (λ (x : Given A M). Gives x a m) (long-says found (given a m) k h) (refl, refl)

-- ---- the record

-- its place, found by its key, is one of the node's
pub key_in : (k b : List ℕ) {p : Place} → p ≡ find_key k (recs_in b) → {j : ℕ} → p ≡ At j → j < count_of b
key_in k b f {j} h = rec-in b k j (sym f ∙ h)

module _ (b : List ℕ) (o : LaidNode b) (j : ℕ) (h : j < count_of b) where
  pub rec-few : j < max_records
  rec-few = omega (arith, o.few)

  pub rec-fits : (x : List ℕ) → x ≡ rec_bytes j b → (length x ≡ rec_width) × (key_length x ≤ max_key) × (value_length x ≤ max_value)
  rec-fits x e = (
    ap length e ∙ rec-long b o j h,
    subst (λ (y : List ℕ). key_length y ≤ max_key) (sym e) (laid-key b o j h),
    subst (λ (y : List ℕ). value_length y ≤ max_value) (sym e) (laid-value b o j h),
  )

-- what was read of its bytes is the record
pub rec-read : (b : List ℕ) (j : ℕ) (x : List ℕ) → x ≡ rec_bytes j b → (r : Record) → r ≡ record_of (decode_rec x) → r ≡ record_of (rec_at j b)
rec-read b j x e r p = p ∙ ap (λ (y : List ℕ). record_of (decode_rec y)) e

pub ruleset lent-rec-needs = (key_in, rec-few)
