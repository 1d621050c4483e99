-- Heartbeats on one node's bytes, and on the table that the node stands in. Assumes nothing.
use Prim.Native.Nat.{ℕ, ◌+◌, ◌-◌}
use mathlib.Core.Path.{◌≡◌, refl, ap, sym, ◌∙◌}
use mathlib.Core.Bool.{Bool, true, false}
use mathlib.Core.List.{List}
use mathlib.Core.Option.{Option}
use Rattle.fields.specs.Choice.{pick}
use borrow.Rule.Slice.PartMut.{put_mid}
use Rattle.fields.specs.Parts.{part}
use Rattle.rules.specs.Given.{Gives}
use Rattle.rules.specs.Lent.{stored}
use Rattle.rules.specs.Node.{Node, beats, offer_of, with_heartbeat}
use Rattle.rules.specs.Table.{set_node}
use Rattle.rules.specs.Local.{gives, yes_no, offer_on, offer, beat_on, local_beat}
use Rattle.rules.specs.Layout.{node_width, encode_node, decode_node, decode, valid}
use Rattle.rules.proofs.Refusing.{set_same}
use Rattle.rules.specs.declared.Heartbeat.{Heartbeat}
use Rattle.rules.specs.declared.Header.{Header}
use Rattle.std.specs.Prelude.{Err, None, Ok, Result, Some}
use Rattle.rules.specs.declared.Refusal.{Refusal}
use Rattle.rules.specs.Results.{done}
use Rattle.rules.specs.declared.Refusal.TheVariants.{NoNode, Exhausted}
use Rattle.table.specs.Changes.{with_beat}
use Rattle.table.specs.Fits.{LaidNode}
use Rattle.table_read.specs.Find.{span_in, header_of}
use Rattle.table_read.proofs.Held.{held-node, held_gives, missing-node, stays-gives}
use Rattle.heartbeat_header.specs.Headers.{offered_to, can_rise, risen_from, raised_of}
use Rattle.heartbeat_header.specs.declared.OfferedHeader.{OfferedHeader}
use Rattle.heartbeat_header.specs.declared.RaisedHeader.{RaisedHeader}
use Rattle.heartbeat.specs.Beats.{heartbeat_in, node_offered, beat_told, node_beaten}

-- ---- on a node's bytes

said : (t : Bool) → Ok t ≡ yes_no t
said true = refl
said false = refl

module _ (b : List ℕ) where
  abbrev held : Heartbeat
  held = (decode_node b).node.heartbeat

  pub offer-stored : (got : Heartbeat) (h : Header) (o : OfferedHeader) → h ≡ header_of (decode_node b).node → o ≡ offered_to h got → (s : List ℕ)
      → s ≡ encode_node (with_beat o.header.heartbeat (decode_node b)) → s ≡ encode_node (with_beat (offer_of held got).heartbeat (decode_node b))
  offer-stored got h o p q s e =
      e
      ∙ ap (λ (x : OfferedHeader). encode_node (with_beat x.header.heartbeat (decode_node b))) q
      ∙ ap (λ (x : Header). encode_node (with_beat (offer_of x.heartbeat got).heartbeat (decode_node b))) p

  pub offer-told : (got : Heartbeat) (h : Header) (o : OfferedHeader) → h ≡ header_of (decode_node b).node → o ≡ offered_to h got → Ok o.news ≡ yes_no (offer_of held got).news
  offer-told got h o p q = said o.news ∙ ap (λ (x : OfferedHeader). yes_no x.news) q ∙ ap (λ (x : Header). yes_no (offer_of x.heartbeat got).news) p

  module _ (h : Header) (o : RaisedHeader) (p : h ≡ header_of (decode_node b).node) (q : o ≡ raised_of h) where
    rose : o.rose ≡ can_rise held
    rose = ap (λ (x : RaisedHeader). x.rose) q ∙ ap (λ (x : Header). can_rise x.heartbeat) p

    risen : (t : Bool) → can_rise held ≡ t → (raised_of (header_of (decode_node b).node)).header.heartbeat ≡ risen_from held
    risen t e = go (can_rise held)
      where
        go : (u : Bool) → (pick u (record { heartbeat = beats (held.0 + 1); max = (decode_node b).node.max; last_gc = (decode_node b).node.last_gc }) (header_of (decode_node b).node)).heartbeat ≡ pick u (beats (held.0 + 1)) held
        go true = refl
        go false = refl

    pub beat-rose : o.rose ≡ true → (s : List ℕ) → s ≡ encode_node (with_beat o.header.heartbeat (decode_node b))
        → (done ≡ beat_told held) × (s ≡ encode_node (with_beat (risen_from held) (decode_node b)))
    beat-rose e s w = (
      ap (λ (t : Bool). pick t done (Err Exhausted)) (sym e ∙ rose),
      w
          ∙ ap (λ (x : RaisedHeader). encode_node (with_beat x.header.heartbeat (decode_node b))) q
          ∙ ap (λ (x : Header). encode_node (with_beat (raised_of x).header.heartbeat (decode_node b))) p
          ∙ ap (λ (x : Heartbeat). encode_node (with_beat x (decode_node b))) (risen true (sym rose ∙ e)),
    )

    pub beat-stayed : LaidNode b → o.rose ≡ false → (Err Exhausted ≡ beat_told held) × (b ≡ encode_node (with_beat (risen_from held) (decode_node b)))
    beat-stayed laid e = (
      ap (λ (t : Bool). pick t done (Err Exhausted)) (sym e ∙ rose),
      sym laid.is ∙ ap (λ (t : Bool). encode_node (with_beat (pick t (beats (held.0 + 1)) held) (decode_node b))) (sym e ∙ rose),
    )

-- ---- on the table

module _ (n : ℕ) (l : List ℕ) (v : valid l ≡ true) where
  module _ {start end : ℕ} (e : span_in n l ≡ (Some (record { start = start; end = end }))) where
    abbrev bytes : List ℕ
    bytes = part start node_width l

    pub offered-held : (got : Heartbeat) (r : (Result Bool Refusal)) (ys : List ℕ) → Gives (node_offered got bytes) r ys
        → Gives (stored (offer n got (decode l))) r (put_mid start (end - start) l ys)
    unfolding offer
    offered-held got r ys g =
        let m : Node = with_heartbeat (offer_of (heartbeat_in bytes) got).heartbeat (decode_node bytes).node in
        held_gives n l v e (offer n got (decode l)) r m ys
        (ap (λ (x : Option Node). offer_on n got x (decode l)) (held-node n l v e) ∙ ap (λ (a : (Result Bool Refusal)). gives a (set_node n m (decode l))) (sym g.0)) g.1

    pub beat-held : (r : (Result (Unit {0}) Refusal)) (ys : List ℕ) → Gives (node_beaten bytes) r ys → Gives (stored (local_beat n (decode l))) r (put_mid start (end - start) l ys)
    unfolding local_beat can_rise
    beat-held r ys g =
        let m : Node = with_heartbeat (risen_from h) (decode_node bytes).node in
        held_gives n l v e (local_beat n (decode l)) r m ys
        (ap (λ (x : Option Node). beat_on n x (decode l)) (held-node n l v e) ∙ go (can_rise h) ∙ ap (λ (a : (Result (Unit {0}) Refusal)). gives a (set_node n m (decode l))) (sym g.0)) g.1
      where
        h : Heartbeat
        h = heartbeat_in bytes

        -- where it cannot rise, the node that is set is the one that is held
        go : (t : Bool) → pick t (gives done (set_node n (with_heartbeat (beats (h.0 + 1)) (decode_node bytes).node) (decode l))) (gives (Err Exhausted) (decode l))
            ≡ gives (pick t done (Err Exhausted)) (set_node n (with_heartbeat (pick t (beats (h.0 + 1)) h) (decode_node bytes).node) (decode l))
        go true = refl
        go false = ap (gives (Err Exhausted)) (sym (set_same n (decode_node bytes).node (decode l) (held-node n l v e)))

  module _ (e : span_in n l ≡ None) where
    pub offered-missing : (got : Heartbeat) → Gives (stored (offer n got (decode l))) (Err NoNode) l
    unfolding offer
    offered-missing got = stays-gives n l v (offer n got (decode l)) (Err NoNode) (ap (λ (x : Option Node). offer_on n got x (decode l)) (missing-node n l v e))

    pub beat-missing : Gives (stored (local_beat n (decode l))) (Err NoNode) l
    unfolding local_beat
    beat-missing = stays-gives n l v (local_beat n (decode l)) (Err NoNode) (ap (λ (x : Option Node). beat_on n x (decode l)) (missing-node n l v e))
