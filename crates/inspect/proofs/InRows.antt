-- What stands in the rows that a party sees of a node: row j, its width of bytes from its place on, is the record that is read in place j, its key and its
-- value standing in the row. In the table's bytes the rows stand further back than is told by the front. So who knows where the rows begin reads a record
-- there as the call for one record would tell it. Before them stand the node's header and its count. Assumes nothing.
use Prim.Native.Nat.{ℕ, ◌+◌, ◌*◌, ◌-◌, ◌≤◌, ◌<◌}
use mathlib.Core.Path.{◌≡◌, refl, ap, ap₂, sym, ◌∙◌}
use mathlib.Core.Bool.{true}
use mathlib.Core.List.{List}
use mathlib.Core.Option.{Option, some}
use native.Mathlib.Omega.{arith}
use lib.ListN.{length}
use Rattle.fields.specs.Numbers.{nat_of}
use Rattle.fields.specs.Parts.{part}
use Rattle.fields.specs.Widths.{offset}
use Rattle.fields.proofs.Parts.{part-part}
use Rattle.rules.specs.Node.{Node, beats}
use Rattle.rules.specs.Table.{node_of}
use Rattle.rules.specs.Party.{seen}
use Rattle.rules.specs.Profile.{recs_formed, profile_obeys}
use Rattle.rules.specs.Layout.{rec_widths, rec_width, rec_place, node_widths, node_width, table_width, decode_rec, decode_node, decode, valid}
use Rattle.rules.specs.declared.Profile.{Profile}
use Rattle.rules.specs.declared.Party.{Party}
use Rattle.rules.specs.declared.Party.TheVariants.{Metering}
use Rattle.rules.specs.declared.Refusal.TheVariants.{NoNode}
use Rattle.rules.proofs.Formed.{node-formed}
use Rattle.table.specs.Tests.{count_of, recs_in}
use Rattle.table.proofs.Places.{rec_at, length-recs}
use Rattle.table.proofs.Tables.{valid-long}
use Rattle.table_read.specs.Find.{node_start, record_of, span_in}
use Rattle.std.specs.Prelude.{Option as Optional}
use Rattle.std.specs.Prelude.{Err, None, Ok, Result, Some}
use Rattle.inspect.specs.declared.RecordRead.{RecordRead}
use Rattle.inspect.specs.declared.Rows.{Rows}
use Rattle.rules.specs.declared.Refusal.{Refusal}
use Rattle.rules.proofs.Results.{ok-is}
use Rattle.table_read.specs.declared.Span.{Span}
use Rattle.table_read.proofs.Held.{node_end, node-fits, held-laid, held-rises, held-node, held_start, missing-node}
use Rattle.own_rows.specs.Sight.{sight_in, seen_node, seen_held, front_on, front_in}
use Rattle.own_rows.proofs.First.{all-behind}
use Rattle.own_rows.proofs.Tables.{node_seen, start_seen}
use Rattle.inspect.specs.Look.{header_on, node_header, read_rec, read_at, record_on, rows_on, read_record_as, node_rows_as}
use Rattle.inspect.proofs.Elements.{own-counted, own-piece, rec-there}

-- what a row tells that begins at a place of a table's bytes, another place being told
abbrev pub row_tells : (told place : ℕ) (table : List ℕ) → (Result (Optional RecordRead) Refusal)
row_tells told p l = (Ok (Some (record { key = (told + offset rec_widths 1); value = (told + offset rec_widths 3); «record» = (record_of (decode_rec (part p rec_width l))) })))

module _ (p : Profile) (q : Party) (number : ℕ) (l : List ℕ) (v : valid l ≡ true) (g : profile_obeys p (decode l) ≡ true) {at n : ℕ}
    (e : node_rows_as p q number (decode l) ≡ (Ok (record { at = at; count = n }))) where
  abbrev front : ℕ
  front = front_in p q number (decode l)

  -- where the node is held
  module _ (start end : ℕ) (h : span_in number l ≡ (Some (record { start = start; end = end }))) where
    abbrev bytes : List ℕ
    bytes = part start node_width l

    abbrev low : ℕ
    low = (sight_in p q (recs_in bytes)).low

    formed : recs_formed p (recs_in bytes) ≡ true
    formed = node-formed p number (decode l) g (held-node number l v h)

    starts : node_start number (seen p q (decode l)) ≡ start
    starts = start_seen p q number (decode l) ∙ held_start number l v h

    node : node_of number (seen p q (decode l)) ≡ some (seen_node p q (decode_node bytes).node)
    node = node_seen p q number (decode l) ∙ ap (seen_held p q) (held-node number l v h)

    told : ◌≡◌ {A = Result Rows Refusal} (Ok (record { at = (start + rec_place 0); count = (length (seen_node p q (decode_node bytes).node).recs) })) (Ok (record { at = at; count = n }))
    told = ap₂ rows_on (sym starts) (sym node) ∙ e

    begins : at ≡ start + rec_place 0
    begins = ap (λ (x : Rows). x.at) (sym (ok-is _ _ told))

    many : n ≡ (sight_in p q (recs_in bytes)).count
    many =
        ap (λ (x : Rows). x.count) (sym (ok-is _ _ told))
        ∙ sym (own-counted p q bytes (held-rises number l v h) formed refl)

    behind : front ≡ low * rec_width
    behind = ap (front_on p q) (held-node number l v h)

    piece : low + n ≤ count_of bytes
    piece = rw many (own-piece p q bytes (held-rises number l v h) formed refl)

    read : (j : ℕ) → j < n → read_record_as p q number j (decode l) ≡ row_tells (at + j * rec_width) (at + front + j * rec_width) l
    read j i =
        let t : at + j * rec_width ≡ start + rec_place j = omega (arith, begins) in
        let r : at + front + j * rec_width ≡ start + rec_place (low + j) = omega (arith, begins, behind) in
        let f = held-laid number l v h in
        let w : part (rec_place (low + j)) rec_width bytes ≡ part (start + rec_place (low + j)) rec_width l =
        part-part (rec_place (low + j)) rec_width start node_width l (omega (arith, f.few, piece)) (omega (arith, node_end number l v h, node-fits number l v h)) in
        let m : j < (sight_in p q (recs_in bytes)).count = omega (arith, many) in
        ap₂ (record_on j) starts node
        ∙ sym (rec-there p q bytes (held-rises number l v h) formed refl (read_at start j) j m (read_rec start j (rec_at (low + j) bytes)) refl)
        ∙ ap (λ (b : List ℕ). (Ok (Some (record { key = (start + rec_place j + offset rec_widths 1); value = (start + rec_place j + offset rec_widths 3); «record» = (record_of (decode_rec b)) })))) w
        ∙ ap₂ (λ (k m : ℕ). row_tells k m l) (sym t) (sym r)

    inside : at + front + n * rec_width ≤ table_width
    inside = omega (arith, begins, behind, piece, (held-laid number l v h).few, node_end number l v h, node-fits number l v h, valid-long l v)

  found : (A : Type 0) → ((start end : ℕ) → span_in number l ≡ (Some (record { start = start; end = end })) → A) → A
  found A f = go (span_in number l) refl
    where
      go : (s : (Optional Span)) → span_in number l ≡ s → A
      go (Some s) t = f s.start s.end t
      go None t =
          let z : ◌≡◌ {A = Result Rows Refusal} (Err NoNode) (Ok (record { at = at; count = n })) =
          ap (λ (o : Option Node). rows_on (node_start number (seen p q (decode l))) (seen_held p q o)) (sym (missing-node number l v t))
          ∙ ap (rows_on (node_start number (seen p q (decode l)))) (sym (node_seen p q number (decode l)))
          ∙ e in
          let y : ◌≡◌ {A = ℕ} 0 1 = cc in
          absurd (omega arith)

  pub row_is : (j : ℕ) → j < n → read_record_as p q number j (decode l) ≡ row_tells (at + j * rec_width) (at + front + j * rec_width) l
  row_is j i = found _ (λ start end h. read start end h j i)

  -- they stand in the table
  pub rows_inside : at + front + n * rec_width ≤ table_width
  rows_inside = found _ inside

  -- ---- what stands before them: eight bytes each of heartbeat, max and last_gc, and the count of all the node's records

  before : (start end : ℕ) → span_in number l ≡ (Some (record { start = start; end = end })) → (i w : ℕ) → i + w ≤ rec_place 0 → part i w (part start node_width l) ≡ part (at - (rec_place 0 - i)) w l
  before start end h i w s =
      part-part i w start node_width l (omega (arith, s)) (omega (arith, node_end number l v h, node-fits number l v h))
      ∙ ap (λ (k : ℕ). part k w l) (omega (arith, begins start end h, s))

  pub header-before : node_header number (decode l)
      ≡ Ok
      (record { heartbeat = beats (nat_of (part (at - 25) 8 l)); max = nat_of (part (at - 17) 8 l); last_gc = nat_of (part (at - 9) 8 l) })
  unfolding decode_node
  header-before = found _ go
    where
      go : (start end : ℕ) → span_in number l ≡ (Some (record { start = start; end = end })) → node_header number (decode l)
          ≡ Ok
          (record { heartbeat = beats (nat_of (part (at - 25) 8 l)); max = nat_of (part (at - 17) 8 l); last_gc = nat_of (part (at - 9) 8 l) })
      go start end h =
          ap header_on (held-node number l v h)
          ∙ ap₂
          (λ (b m : List ℕ). Ok (record { heartbeat = beats (nat_of b); max = nat_of m; last_gc = nat_of (part (offset node_widths 3) 8 (part start node_width l)) }))
          (before start end h 8 8 (omega arith))
          (before start end h 16 8 (omega arith))
          ∙ ap (λ (b : List ℕ). Ok (record { heartbeat = beats (nat_of (part (at - 25) 8 l)); max = nat_of (part (at - 17) 8 l); last_gc = nat_of b }))
          (before start end h 24 8 (omega arith))

  -- the metering firm's rows stand behind all others of the node
  pub front-counted : q ≡ Metering → front ≡ (nat_of (part (at - 1) 1 l) - n) * rec_width
  front-counted u = found _ go
    where
      go : (start end : ℕ) → span_in number l ≡ (Some (record { start = start; end = end })) → front ≡ (nat_of (part (at - 1) 1 l) - n) * rec_width
      go start end h =
          let b : List ℕ = part start node_width l in
          let c : nat_of (part (at - 1) 1 l) ≡ count_of b = ap nat_of (sym (before start end h 32 1 (omega arith))) in
          let w : (sight_in p q (recs_in b)).low + (sight_in p q (recs_in b)).count ≡ count_of b =
          all-behind p q u (recs_in b) (held-rises number l v h) (formed start end h) ∙ length-recs b in
          omega (arith, behind start end h, many start end h, c, w)
