-- One node's bytes: a reset, the records taken, the node's outcome or what it was. Assumes nothing.
use Prim.Native.Nat.{ℕ, ◌+◌, ◌≤◌, ◌<◌}
use mathlib.Core.Path.{◌≡◌, refl, ap, sym, ◌∙◌, subst}
use mathlib.Core.Bool.{Bool, true, false}
use mathlib.Core.List.{List, ◌++◌, append-nil}
use native.Mathlib.Omega.{arith}
use lib.ListN.{length, drop_of_length-le}
use Rattle.fields.specs.Choice.{pick}
use Rattle.fields.specs.Numbers.{nat_of}
use Rattle.fields.specs.Parts.{part, put}
use Rattle.fields.proofs.Choice.{and_right, in-none}
use Rattle.rules.specs.Sizes.{numbers}
use Rattle.rules.specs.Given.{Gives}
use Rattle.rules.specs.Table.{Entry, keys_rise}
use Rattle.rules.specs.Profile.{recs_fit, roomy_in}
use Rattle.rules.specs.Apply.{take_all}
use Rattle.rules.specs.Layout.{encode_node, decode_node}
use Rattle.delta_op.specs.Plain.{recs_from}
use Rattle.table.specs.Fits.{FitsEntry, LaidNode}
use Rattle.table.specs.Changes.{with_max, with_gc, with_recs, fresh_entry}
use Rattle.table.specs.Tests.{recs_in}
use Rattle.table.proofs.Nodes.{laid-node, decode-encode-node}
use Rattle.table.proofs.Laid.{fits_fresh}
use Rattle.table_read.specs.Find.{header_of}
use Rattle.rules.specs.declared.Header.{Header}
use Rattle.rules.specs.declared.Profile.{Profile}
use Rattle.rules.specs.declared.Profile.TheVariants.{Free}
use Rattle.apply_node.specs.Taking.{has_room, Rising, Tried}
use Rattle.apply_grow.specs.Growing.{roomy_for, emptied, begun, grown, Grown, Stored, grown_or_kept}
use Rattle.apply_grow.proofs.Room.{takes-roomy, none-roomy, and_second, and-with}

-- bytes that are stored over as many others
pub put_all : (vs l : List ℕ) → length l ≤ length vs → put 0 vs l ≡ vs
unfolding put
put_all vs l h = ap (λ (r : List ℕ). vs ++ r) (drop_of_length-le l {i = 0 + length vs} (omega arith)) ∙ append-nil vs

-- a reset: a fresh node under the node's number, with the delta's last_gc
module _ (b : List ℕ) (o : LaidNode b) (n : ℕ) (c₁ : List ℕ) (p : n ≡ nat_of (part 0 8 b)) (q : c₁ ≡ encode_node (fresh_entry n)) where
  fresh-is : c₁ ≡ encode_node (fresh_entry (decode_node b).number)
  unfolding decode_node
  fresh-is = q ∙ ap (λ (k : ℕ). encode_node (fresh_entry k)) p

  pub laid-fresh : LaidNode c₁
  laid-fresh = subst LaidNode (sym fresh-is) (laid-node (fresh_entry (decode_node b).number) (fits_fresh (decode_node b).number o.fits.number_high))

  module _ (gc : ℕ) (c₂ : List ℕ) (r : c₂ ≡ encode_node (with_gc gc (decode_node c₁))) where
    pub emptied-bytes : c₂ ≡ encode_node (emptied gc (decode_node b))
    emptied-bytes =
        r ∙ ap (λ (e : Entry). encode_node (with_gc gc e)) (ap decode_node fresh-is ∙ decode-encode-node (fresh_entry (decode_node b).number) (fits_fresh (decode_node b).number o.fits.number_high))

-- the node before the first record is taken
module _ (b : List ℕ) (gc : ℕ) where
  pub begun-bytes : (afresh : Bool) (b' : List ℕ) → afresh ≡ true → b' ≡ encode_node (emptied gc (decode_node b)) → b' ≡ encode_node (begun afresh gc (decode_node b))
  begun-bytes afresh b' e q = rw e q

  pub begun-same : LaidNode b → (afresh : Bool) → afresh ≡ false → b ≡ encode_node (begun afresh gc (decode_node b))
  begun-same o afresh e = rw e (sym o.is)

module _ (b : List ℕ) (o : Rising b) (gc : ℕ) (gc_fits : gc < numbers) where
  fits-begun : (afresh : Bool) → FitsEntry (begun afresh gc (decode_node b))
  fits-begun true =
      record { number_high = o.laid.fits.number_high; beat_high = omega arith; max_high = omega arith; gc_high = gc_fits; few = omega arith; each = λ r m. absurd (in-none m) }
  fits-begun false = o.laid.fits

  keys-begun : (afresh : Bool) → keys_rise (begun afresh gc (decode_node b)).node.recs ≡ true
  unfolding keys_rise
  keys-begun true = refl
  keys-begun false = o.keys

  module _ (afresh : Bool) (b' : List ℕ) (q : b' ≡ encode_node (begun afresh gc (decode_node b))) where
    pub begun-is : decode_node b' ≡ begun afresh gc (decode_node b)
    begun-is = ap decode_node q ∙ decode-encode-node (begun afresh gc (decode_node b)) (fits-begun afresh)

    pub begun-rising : Rising b'
    begun-rising =
        record { laid = subst LaidNode (sym q) (laid-node (begun afresh gc (decode_node b)) (fits-begun afresh)); keys = ap (λ (e : Entry). keys_rise e.node.recs) begun-is ∙ keys-begun afresh }

  -- no more records than before, and so many
  pub surely : (p : Profile) (afresh : Bool) (clock : ℕ) (s : List ℕ) (at max count : ℕ) → length (recs_from s at) ≤ count → roomy_for p count (recs_in b) ≡ true
      → roomy_in p (grown clock s at max (begun afresh gc (decode_node b))).node.recs ≡ true
  surely p afresh clock s at max count h k =
      let e : Entry = begun afresh gc (decode_node b) in
      takes-roomy p e.node.max e.node.last_gc clock (recs_from s at) e.node.recs count h (held afresh)
    where
      held : (afresh : Bool) → roomy_for p count (begun afresh gc (decode_node b)).node.recs ≡ true
      held true = none-roomy p count (recs_in b) k
      held false = k

-- the records are taken, and max is the delta's
module _ (clock : ℕ) (s : List ℕ) (at max : ℕ) (max-fits : max < numbers) (e : Entry) (c₁ : List ℕ) (d : decode_node c₁ ≡ e) (h : Header) (i : h ≡ header_of (decode_node c₁).node) (r : Bool)
    (c₂ : List ℕ) (t : Tried (take_all h.max h.last_gc clock (recs_from s at) (recs_in c₁)) c₁ r c₂) where
  as-grown : with_max max (with_recs (take_all h.max h.last_gc clock (recs_from s at) (recs_in c₁)) (decode_node c₁)) ≡ grown clock s at max e
  as-grown =
      ap (λ (x : Header). with_max max (with_recs (take_all x.max x.last_gc clock (recs_from s at) (recs_in c₁)) (decode_node c₁))) i
      ∙ ap (grown clock s at max) d

  has : r ≡ roomy_in Free (grown clock s at max e).node.recs
  has = t.room ∙ ap (λ (x : Entry). has_room x.node.recs) as-grown

  pub not-grown : r ≡ false → (b' : List ℕ) → Grown Free (grown clock s at max e) false b'
  not-grown q b' = record { room = sym q ∙ has; laid = λ f. let z : ◌≡◌ {A = ℕ} 0 1 = cc in absurd (omega arith); node = λ f. let z : ◌≡◌ {A = ℕ} 0 1 = cc in absurd (omega arith) }

  pub is-grown : r ≡ true → (c₃ : List ℕ) → c₃ ≡ encode_node (with_max max (decode_node c₂)) → Grown Free (grown clock s at max e) true c₃
  is-grown q c₃ p =
      let f = t.rising.laid.fits in
      let g : FitsEntry (with_max max (decode_node c₂)) =
      record { number_high = f.number_high; beat_high = f.beat_high; max_high = max-fits; gc_high = f.gc_high; few = f.few; each = f.each } in
      record {
        room = sym q ∙ has;
        laid = λ _. subst LaidNode (sym p) (laid-node (with_max max (decode_node c₂)) g);
        node = λ _. ap decode_node p ∙ decode-encode-node (with_max max (decode_node c₂)) g ∙ ap (with_max max) (t.node q) ∙ as-grown;
      }

-- the profile's room beside document 01's
module _ (p : Profile) (e : Entry) (r : Bool) (b : List ℕ) (g : Grown Free e r b) where
  pub not-roomy : r ≡ false → (b' : List ℕ) → Grown p e false b'
  not-roomy q b' =
      record {
        room = sym (and_second (recs_fit p e.node.recs) (has_room e.node.recs) (sym g.room ∙ q));
        laid = λ f. let z : ◌≡◌ {A = ℕ} 0 1 = cc in absurd (omega arith);
        node = λ f. let z : ◌≡◌ {A = ℕ} 0 1 = cc in absurd (omega arith);
      }

  pub by-fit : r ≡ true → (r' : Bool) → r' ≡ recs_fit p (recs_in b) → Grown p e r' b
  by-fit q r' f =
      record {
        room = f ∙ ap (λ (x : Entry). recs_fit p x.node.recs) (g.node q) ∙ and-with (recs_fit p e.node.recs) (has_room e.node.recs) (sym g.room ∙ q);
        laid = λ _. g.laid q;
        node = λ _. g.node q;
      }

-- the node is the outcome's, or what it was
module _ (p : Profile) (e : Entry) (b : List ℕ) (r : Bool) (b₁ : List ℕ) (g : Grown p e r b₁) where
  its-bytes : r ≡ true → b₁ ≡ encode_node e
  its-bytes q = sym (g.laid q).is ∙ ap encode_node (g.node q)

  pub has-stored : r ≡ true → Stored p e b true b₁
  has-stored q = record { room = sym q ∙ g.room; bytes = its-bytes q }

  pub kept : r ≡ false → (saved b' : List ℕ) → saved ≡ b → b' ≡ put 0 saved b₁ → length b₁ ≤ length saved → Stored p e b false b'
  kept q saved b' s k h = record { room = sym q ∙ g.room; bytes = k ∙ put_all saved b₁ h ∙ s }

-- where there is surely room, document 01's is asked alone
module _ (p : Profile) (e : Entry) (b : List ℕ) (r : Bool) (b₁ : List ℕ) (g : Grown Free e r b₁) where
  pub stored-surely : roomy_in p e.node.recs ≡ true → Stored p e b r b₁
  stored-surely q =
      let z : r ≡ true = g.room ∙ and_right (recs_fit p e.node.recs) (has_room e.node.recs) q in
      record { room = z ∙ sym q; bytes = its-bytes Free e b r b₁ g z ∙ ap (λ (x : Bool). pick x (encode_node e) b) (sym z) }

-- the same in two forms
module _ (p : Profile) (e : Entry) (b : List ℕ) (r : Bool) (b' : List ℕ) where
  pub gives-stored : Stored p e b r b' → Gives (grown_or_kept p e b) r b'
  gives-stored t = (t.room, t.bytes ∙ ap (λ (x : Bool). pick x (encode_node e) b) t.room)

  pub stored-gives : Gives (grown_or_kept p e b) r b' → Stored p e b r b'
  stored-gives g = record { room = g.0; bytes = g.1 ∙ ap (λ (x : Bool). pick x (encode_node e) b) (sym g.0) }
