-- What stands in place i of a good table, and in place j of what a party sees of a node: the node or record that is read there, or nothing past the end.
-- Assumes nothing.
use Prim.Native.Nat.{ℕ, zero, suc, ◌+◌, ◌≤◌, ◌<◌}
use mathlib.Core.Path.{◌≡◌, refl, ap, sym, ◌∙◌, subst}
use mathlib.Core.Bool.{true}
use mathlib.Core.List.{List, [], ◌∷◌}
use mathlib.Core.Option.{Option, none, some}
use native.Mathlib.Omega.{arith}
use native.Mathlib.Nat.{le_of_suc-le-suc, not-suc-le-zero}
use lib.ListN.{length, get_or}
use Rattle.fields.specs.Choice.{◌∈◌}
use Rattle.fields.proofs.Choice.{in-at, all_from}
use Rattle.rules.specs.Node.{Rec, Node}
use Rattle.rules.specs.Table.{Entry, Table, keys_rise}
use Rattle.rules.specs.Party.{own, alone, seen_recs, seen}
use Rattle.rules.specs.Profile.{recs_formed, recs_obey, profile_obeys}
use Rattle.rules.specs.declared.Profile.{Profile}
use Rattle.rules.specs.declared.Profile.TheVariants.{Free, Meter, Shared}
use Rattle.rules.specs.declared.Party.{Party}
use Rattle.rules.specs.Layout.{decode_rec, decode_node, decode}
use Rattle.rules.proofs.Formed.{obey-formed}
use Rattle.table.specs.Tests.{count_of, nodes_of, recs_in}
use Rattle.table.proofs.Tables.{length-decode}
use Rattle.table.proofs.Places.{rec_at, recs-at, length-recs, node_bytes, node_at, decode-at}
use Rattle.own_rows.specs.Sight.{sight_in, seen_node}
use Rattle.own_rows.specs.declared.Sight.{Sight}
use Rattle.own_rows.proofs.Laws.{seen-count, seen-within, seen_at}
use Rattle.own_rows.proofs.Tables.{seen-recs}
use Rattle.inspect.specs.Look.{element_at}

element-in : {A : Type 0} (l : List A) (i : ℕ) (d : A) → i < length l → element_at i l ≡ some (get_or l i d)
unfolding element_at
element-in [] i d h = absurd (not-suc-le-zero h)
element-in (a ∷ l) zero d h = refl
element-in (a ∷ l) (suc i) d h = element-in l i d (le_of_suc-le-suc h)

element-out : {A : Type 0} (l : List A) (i : ℕ) → length l ≤ i → element_at i l ≡ none
unfolding element_at
element-out [] i h = refl
element-out (a ∷ l) zero h = absurd (not-suc-le-zero h)
element-out (a ∷ l) (suc i) h = element-out l i (le_of_suc-le-suc h)

-- what a rule says of the node in place i of a table's bytes, or of none
module _ {A : Type 0} (rule : Option Entry → A) (l : List ℕ) (i : ℕ) where
  pub node-there : i < nodes_of l → (r : A) → r ≡ rule (some (node_at i l)) → r ≡ rule (element_at i (decode l))
  node-there h r p =
      let d : Entry = decode_node [] in
      p ∙ ap (λ (e : Entry). rule (some e)) (sym (decode-at i l d h)) ∙ ap rule (sym (element-in (decode l) i d (rw length-decode h)))

  pub no-node-there : nodes_of l ≤ i → rule none ≡ rule (element_at i (decode l))
  no-node-there h = ap rule (sym (element-out (decode l) i (rw length-decode h)))

-- its records are in form
pub place-formed : (p : Profile) (l : List ℕ) → profile_obeys p (decode l) ≡ true → (i : ℕ) → i < nodes_of l → recs_formed p (recs_in (node_bytes i l)) ≡ true
unfolding profile_obeys
place-formed p l g i h =
    let d : Entry = decode_node [] in
    let m : node_at i l ∈ decode l = subst (λ (e : Entry). e ∈ decode l) (decode-at i l d h) (in-at (decode l) i d (rw length-decode h)) in
    obey-formed p (recs_in (node_bytes i l)) (all_from (λ (e : Entry). recs_obey p e.node.recs) (decode l) g (node_at i l) m)

-- and of the record in place j of those that a party sees of a node's, the piece of them being x
module _ (p : Profile) (q : Party) (b : List ℕ) (s : keys_rise (recs_in b) ≡ true) (f : recs_formed p (recs_in b) ≡ true) {x : Sight} (e : x ≡ sight_in p q (recs_in b)) where
  pub own-piece : x.low + x.count ≤ count_of b
  own-piece = subst (λ (y : Sight). y.low + y.count ≤ count_of b) (sym e) (subst (λ (n : ℕ). (sight_in p q (recs_in b)).low + (sight_in p q (recs_in b)).count ≤ n) (length-recs b) (seen-within p q (recs_in b) s f))

  pub own-low : x.low ≤ count_of b
  own-low = omega (arith, own-piece)

  -- so many are seen
  pub own-counted : x.count ≡ length (seen_node p q (decode_node b).node).recs
  own-counted =
      ap (λ (y : Sight). y.count) e ∙ sym (seen-count p q (recs_in b)) ∙ ap length (sym (seen-recs p q (decode_node b).node))

  module _ {A : Type 0} (rule : Option Rec → A) (j : ℕ) where
    pub own-within : j < x.count → x.low + j < count_of b
    own-within h = omega (arith, own-piece)

    pub rec-there : j < x.count → (r : A) → r ≡ rule (some (rec_at (x.low + j) b)) → r ≡ rule (element_at j (seen_node p q (decode_node b).node).recs)
    rec-there h r w =
        let d : Rec = decode_rec [] in
        let g : j < (sight_in p q (recs_in b)).count = subst (λ (y : Sight). j < y.count) e h in
        w
        ∙ ap (λ (y : Rec). rule (some y))
        (sym (recs-at (x.low + j) b d (own-within h)) ∙ ap (λ (y : Sight). get_or (recs_in b) (y.low + j) d) e ∙ sym (seen_at p q (recs_in b) s f j d g))
        ∙ ap rule (sym (element-in (seen_recs p q (recs_in b)) j d (subst (λ (n : ℕ). j < n) (sym (seen-count p q (recs_in b))) g)))
        ∙ ap (λ (l : List Rec). rule (element_at j l)) (sym (seen-recs p q (decode_node b).node))

    pub no-rec-there : x.count ≤ j → rule none ≡ rule (element_at j (seen_node p q (decode_node b).node).recs)
    no-rec-there h = ap rule (sym (element-out (seen_node p q (decode_node b).node).recs j (subst (λ (n : ℕ). n ≤ j) own-counted h)))

-- the node in place i of what a party sees
module _ (p : Profile) (q : Party) where
  abbrev pub seen_entry : Option Entry → Option Entry
  seen_entry none = none
  seen_entry (some e) = some (record { number = e.number; node = seen_node p q e.node })

  entry-all : ((n : Node) → n ≡ seen_node p q n) → (o : Option Entry) → o ≡ seen_entry o
  entry-all h none = refl
  entry-all h (some e) = ap (λ (n : Node). some (record { number = e.number; node = n })) (h e.node)

alone-entry : (q : Party) (i : ℕ) (t : Table) → element_at i (alone (own q) t) ≡ seen_entry Shared q (element_at i t)
unfolding element_at alone
alone-entry q i [] = refl
alone-entry q zero (e ∷ t) = refl
alone-entry q (suc i) (e ∷ t) = alone-entry q i t

pub entry_seen : (p : Profile) (q : Party) (i : ℕ) (t : Table) → element_at i (seen p q t) ≡ seen_entry p q (element_at i t)
entry_seen Free q i t = entry-all Free q (λ n. refl) (element_at i t)
entry_seen Meter q i t = entry-all Meter q (λ n. refl) (element_at i t)
entry_seen Shared q i t = alone-entry q i t
