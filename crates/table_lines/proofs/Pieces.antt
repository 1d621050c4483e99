-- Lines by what the code has read: a node's number and header, a record's key, value and the rest. Assumes nothing.
use Prim.Native.Nat.{ℕ, ◌+◌, ◌<◌, ◌≤◌}
use mathlib.Core.Path.{◌≡◌, ap, ap₂, sym, ◌∙◌}
use mathlib.Core.List.{◌++◌}
use native.Mathlib.Omega.{arith}
use native.Mathlib.Numerals.{add-one}
use lib.ListN.{length, drop, drop_of_length-le}
use Rattle.fields.specs.Numbers.{Bytes, nat_of}
use Rattle.fields.specs.Parts.{part}
use Rattle.fields.proofs.Parts.{length_part}
use Rattle.rules.specs.Listing.{ascii}
use Rattle.rules.specs.Layout.{decode, decode_node, decode_rec, rec_width}
use Rattle.rules.specs.Sizes.{max_key, max_value}
use Rattle.rules.specs.declared.Header.{Header}
use Rattle.rules.specs.declared.Record.{Record}
use Rattle.table.specs.Tests.{count_of, key_length, nodes_of, value_length}
use Rattle.table.proofs.Places.{decode-drop, length-recs, node_bytes}
use Rattle.table.proofs.Tables.{length-decode}
use Rattle.table_read.specs.Find.{header_of, record_of}
use Rattle.listing_text.specs.Texts.{named, numbered}
use Rattle.listing_room.specs.Room.{last_number, last_two, status_word}
use Rattle.table_listing.specs.TableListing.{node_line, records_of, rest_text, texts_text}

-- ---- a node

abbrev pub header_text : (number : ℕ) (header : Header) → Bytes
header_text n h =
    numbered (ascii "node=") n
    ++ (numbered (ascii " heartbeat=") h.heartbeat.0 ++ last_two (ascii " max=") h.max (ascii " gc=") h.last_gc)

pub header_is : (b : Bytes) (n : ℕ) (h : Header) → n ≡ nat_of (part 0 8 b) → h ≡ header_of (decode_node b).node → header_text n h ≡ node_line (decode_node b)
unfolding node_line decode_node
header_is b n h p q = ap₂ header_text p q

-- ---- a record

abbrev pub given_text : (held : Record) → Bytes
given_text r = numbered (ascii " version=") r.version ++ (status_word r.status ++ last_number (ascii " start=") r.start)

pub rest-is : (b : Bytes) (r : Record) → r ≡ record_of (decode_rec b) → given_text r ≡ rest_text (decode_rec b)
rest-is b r e = ap given_text e

abbrev pub texts_of : (key value : Bytes) → Bytes
texts_of k v = named (ascii "key=") k ++ named (ascii " value=") v

pub texts-is : (b k v : Bytes) → k ≡ (decode_rec b).kv.key → v ≡ (decode_rec b).kv.value → texts_of k v ≡ texts_text (decode_rec b)
texts-is b k v p q = ap₂ texts_of p q

-- no text is longer than a value may be
module _ (b : Bytes) (e : length b ≡ rec_width) where
  pub key-short : (k : Bytes) → k ≡ (decode_rec b).kv.key → key_length b ≤ max_key → length k ≤ max_value
  unfolding decode_rec
  key-short k p h = omega (arith, ap length p ∙ length_part 1 (key_length b) b (omega (arith, e)))

  pub value-short : (v : Bytes) → v ≡ (decode_rec b).kv.value → value_length b ≤ max_value → length v ≤ max_value
  unfolding decode_rec
  value-short v p h = omega (arith, ap length p ∙ length_part 34 (value_length b) b (omega (arith, e)))

-- ---- how many records there are

module _ (l : Bytes) (i : ℕ) where
  pub records-next : i < nodes_of l → records_of (drop i (decode l)) ≡ count_of (node_bytes i l) + records_of (drop (i + 1) (decode l))
  unfolding records_of
  records-next h =
      ap records_of (decode-drop i l h)
      ∙ ap₂ (λ (n k : ℕ). n + records_of (drop k (decode l))) (length-recs (node_bytes i l)) (sym (add-one i))

  pub records-done : nodes_of l ≤ i → records_of (drop i (decode l)) ≡ 0
  unfolding records_of
  records-done h = ap records_of (drop_of_length-le (decode l) {i = i} (rw length-decode h))
