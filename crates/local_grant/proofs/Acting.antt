-- What a decision leaves in a node's bytes. A refusal and "nothing to change" leave them as they are; a change that is given raises max first, which
-- keeps the bytes laid out, and then stores the key's record. Assumes nothing.
use Prim.Native.Nat.{ℕ, ◌+◌, ◌<◌}
use mathlib.Core.Path.{◌≡◌, refl, ap, sym, ◌∙◌, subst}
use mathlib.Core.Bool.{Bool, true, false}
use mathlib.Core.List.{List}
use native.Mathlib.Omega.{arith}
use lib.ListN.{length}
use lib.Dec.{leb, ltb}
use borrow.Author.Tests.{ltb-true, ltb-false, lt-ltb, le-ltb}
use Rattle.fields.specs.Choice.{pick}
use Rattle.fields.proofs.Choice.{pick_true, pick-false}
use Rattle.rules.specs.Given.{Gives}
use Rattle.rules.specs.Sizes.{max_records, numbers, top}
use Rattle.rules.specs.Node.{Rec, Node, Change, Decision, Refuse, Leave, Give, write, act}
use Rattle.rules.specs.Local.{answer_of}
use Rattle.rules.specs.Table.{Entry}
use Rattle.rules.specs.Layout.{encode_node, decode_node}
use Rattle.rules.specs.declared.Status.{Status}
use Rattle.rules.specs.declared.Refusal.{Refusal}
use Rattle.rules.specs.declared.Refusal.TheVariants.{NodeFull, Exhausted}
use Rattle.std.specs.Prelude.{Err}
use Rattle.rules.specs.Results.{done}
use Rattle.table.specs.Changes.{with_node, with_max, rec_of}
use Rattle.table.specs.Tests.{recs_in}
use Rattle.table.specs.Fits.{FitsEntry, LaidNode}
use Rattle.table.proofs.Nodes.{decode-encode-node, laid-node}
use Rattle.table_read.specs.declared.Place.{Place}
use Rattle.table_read.specs.declared.Place.TheVariants.{At, Free}
use Rattle.local_grant.specs.Granting.{decided, node_in, change_of, full_at, allowed_at, with_stored}

module _ (k b : List ℕ) (o : LaidNode b) (d : Decision) where
  pub refused : (r : Refusal) → d ≡ Refuse r → Gives (decided k d b) (Err r) b
  unfolding act
  refused r e =
      (ap answer_of (sym e), sym o.is ∙ ap (λ (x : Decision). encode_node (with_node (act k x (node_in b)) (decode_node b))) (sym e))

  pub left : d ≡ Leave → Gives (decided k d b) done b
  unfolding act
  left e = (ap answer_of (sym e), sym o.is ∙ ap (λ (x : Decision). encode_node (with_node (act k x (node_in b)) (decode_node b))) (sym e))

-- ---- room for the key, and a version that can rise

pub room : (x : ℕ) → x < numbers → (x ≡ top → ⊥) → x < top
room x h g = go (ltb x top) refl
  where
    go : (t : Bool) → ltb x top ≡ t → x < top
    go true q = ltb-true x top q
    go false q = absurd (g (let p = ltb-false x top q in omega arith))

module _ (p : Place) (c : Change) (n : Node) where
  abbrev rising : Decision
  rising = pick (ltb n.max top) (Give c) (Refuse Exhausted)

  pub no_room : full_at p n ≡ true → allowed_at p c n ≡ Refuse NodeFull
  unfolding allowed_at
  no_room f = pick_true (full_at p n) (Refuse NodeFull) rising f

  module _ (f : full_at p n ≡ false) (x : ℕ) (e : x ≡ n.max) where
    pub cannot-rise : x ≡ top → allowed_at p c n ≡ Refuse Exhausted
    unfolding allowed_at
    cannot-rise h = pick-false (full_at p n) (Refuse NodeFull) rising f ∙ pick-false (ltb n.max top) (Give c) (Refuse Exhausted) (le-ltb n.max top (omega arith))

    pub can-rise : x < top → allowed_at p c n ≡ Give c
    unfolding allowed_at
    can-rise h = pick-false (full_at p n) (Refuse NodeFull) rising f ∙ pick_true (ltb n.max top) (Give c) (Refuse Exhausted) (lt-ltb n.max top (omega arith))

-- ---- max is raised first

module _ (b : List ℕ) (o : LaidNode b) (m : ℕ) (h : m < numbers) (s : List ℕ) (e : s ≡ encode_node (with_max m (decode_node b))) where
  fits : FitsEntry (with_max m (decode_node b))
  fits =
      record {
        number_high = o.fits.number_high;
        beat_high = o.fits.beat_high;
        max_high = h;
        gc_high = o.fits.gc_high;
        few = o.fits.few;
        each = o.fits.each;
      }

  max-read : decode_node s ≡ with_max m (decode_node b)
  max-read = ap decode_node e ∙ decode-encode-node (with_max m (decode_node b)) fits

  pub max-laid : LaidNode s
  max-laid = subst LaidNode (sym e) (laid-node (with_max m (decode_node b)) fits)

  -- the records stay
  pub max-recs : recs_in b ≡ recs_in s
  max-recs = ap (λ (x : Entry). x.node.recs) (sym max-read)

  -- and so does the room for the key
  pub max-room : (p : Place) → full_at p (node_in b) ≡ full_at p (node_in s)
  max-room (At j) = refl
  max-room (Free j) = ap (λ (l : List Rec). leb max_records (length l)) max-recs

-- ---- and then the record is stored, at its place or before it

module _ (k v : List ℕ) (st : Status) (start : ℕ) (b : List ℕ) (o : LaidNode b) (x : ℕ) (e : x ≡ (node_in b).max) (h : x + 1 < numbers) (s : List ℕ)
    (p : s ≡ encode_node (with_max (x + 1) (decode_node b))) where
  pub given : (t : List ℕ) → t ≡ encode_node (with_stored (rec_of k v (x + 1) st start) (decode_node s)) → (d : Decision) → d ≡ Give (change_of v st start)
      → Gives (decided k d b) done t
  unfolding act write
  given t w d g = (
    ap answer_of (sym g),
    w
        ∙ ap (λ (y : Entry). encode_node (with_stored (rec_of k v (x + 1) st start) y)) (max-read b o (x + 1) h s p)
        ∙ ap (λ (y : ℕ). encode_node (with_stored (rec_of k v (y + 1) st start) (with_max (y + 1) (decode_node b)))) e
        ∙ ap (λ (y : Decision). encode_node (with_node (act k y (node_in b)) (decode_node b))) (sym g),
  )
