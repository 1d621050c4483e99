-- Demand 3 of the calls on lent bytes: the theorem. It is that of the rules (Demand3 of `demand3`), read in the bytes: these are at every moment the
-- encodings of the tables of which that theorem speaks. Nothing is assumed but that the fresh tables obey document 01's rules: at most eight
-- nodes, ascending numbers below 2^64. It holds of tables of any kinds; the follower's mode decides whether deltas may come late.
use Prim.Native.Nat.{◌+◌, ◌≤◌, ℕ}
use mathlib.Core.Bool.{Bool, ◌&&◌, true}
use mathlib.Core.List.{List, [], ◌++◌, ◌∷◌}
use mathlib.Core.Option.{some}
use mathlib.Core.Path.{◌∙◌, ◌≡◌, ap, refl, subst, subst₂, sym}
use lib.Dec.{ltb}
use Rattle.fields.proofs.Choice.{and_left, and_right}
use Rattle.fields.specs.Choice.{pick}
use Rattle.rules.specs.Sizes.{numbers}
use Rattle.rules.specs.Given.{Given, given}
use Rattle.rules.specs.Node.{KeyValue, Node}
use Rattle.rules.specs.Table.{Table, node_of, numbers_of, obeys}
use Rattle.rules.specs.Digest.{write_digest}
use Rattle.rules.specs.Apply.{Lawful, Ways}
use Rattle.rules.specs.Profile.{Kind, profile_obeys}
use Rattle.rules.specs.Whole.{Whole}
use Rattle.rules.specs.Lent.{TableAndList}
use Rattle.rules.specs.declared.Status.TheVariants.{Set}
use Rattle.std.specs.Prelude.{Err, Result}
use Rattle.rules.specs.declared.DeltaFault.{DeltaFault}
use Rattle.rules.specs.declared.Refusal.{Refusal}
use Rattle.rules.specs.declared.Sent.{Sent}
use Rattle.rules.specs.declared.Refusal.TheVariants.{BadTable}
use Rattle.rules.proofs.Obeys.{facts-table}
use Rattle.profiles.proofs.Lawful.{kind-lawful}
use Rattle.demand3.specs.World.{Applying, Arriving, Beating, Computing, DeltaSent, DigestSent, Digesting, Event, Exchange, Idle, Offering, Receiving, Removing, Sending, World, Writing, after, fresh_table, happen, start}
use Rattle.demand3.specs.Demand3.{AllRise, Holds, NotBegun, SameMax, Sound, Stage, all_quiet, ending, granted, holdings, is_applied, is_computed, no_room, onward, quiet, unlimited, wholes, wrote_delta, wrote_digest}
use Rattle.demand3.proofs.Closing.{closing}
use Rattle.demand3.proofs.Demand3.{never-falls, sound}
use Rattle.demand3.proofs.Moments.{InOrder, next-event}
use Rattle.table.proofs.Wholes.{valid-encode-whole}
use Rattle.demand3_bytes.specs.LentWorld.{LentWorld, lent_after, lent_happen, lent_start, of_kind, table_in}
use Rattle.demand3_bytes.specs.LentDemand3.{LentDemand3, LentSound, lent_granted, lent_is_applied, lent_is_computed, lent_wholes}
use Rattle.demand3_bytes.proofs.LentWorld.{Formed, Ran, apply-encoded, computed-lent, from-encoded, from_start, happen-lent, lent, lent-run, quiet-free, quiet-lent, ran, stands, ways, whole, whole_is}

-- ---- the answers are the same

module _ (pm fm : Kind) (w : World) (p : obeys w.publisher ≡ true) (f : obeys w.follower ≡ true) (form : Formed pm fm w) where
  granted-lent : (e : Event) → lent_granted e (lent pm fm w) ≡ granted (ways pm fm) e w
  granted-lent (Writing i k who c) = refl
  granted-lent (Beating s i) = refl
  granted-lent (Offering s i h) = refl
  granted-lent (Removing s removal) = refl
  granted-lent (Digesting edition excluded place d) =
      ap (λ (o : Given (Result ℕ Refusal) (List ℕ)). wrote_digest o.answer)
      (from-encoded fm w.follower f form.follower (given (Err BadTable) d) (λ t. write_digest edition excluded place t d))
  granted-lent (Computing edition excluded order mtu place d) = go w.exchange
    where
      go : (x : Exchange) → lent_is_computed edition excluded order mtu place d (of_kind pm w.publisher) x ≡ is_computed edition excluded order mtu place d w.publisher x
      go Idle = refl
      go (DigestSent b) =
          ap (λ (o : Given (Result Sent Refusal) (List ℕ)). wrote_delta o.answer)
          (computed-lent pm fm w p f form edition b excluded order mtu place d)
      go (DeltaSent b) = refl
  granted-lent (Applying now answers) = ap (λ (b : Bool). ltb now numbers && b) (go w.exchange)
    where
      go : (x : Exchange) → lent_is_applied now answers (of_kind fm w.follower) x ≡ is_applied (ways pm fm) now answers w.follower x
      go Idle = refl
      go (DigestSent b) = refl
      go (DeltaSent b) = ap (λ (o : Given (Result ℕ DeltaFault) TableAndList). no_room o.answer o.lent.list) (apply-encoded fm w.follower f form.follower b now answers)
  granted-lent (Receiving cuts now answers) = refl
  granted-lent (Sending edition digest excluded order mtu place d) = refl
  granted-lent (Arriving k now answers) = refl

-- and so is the count, where it is quiet
wholes-lent : (pm fm : Kind) (is : List ℕ) (es : List Event) (st : Stage) (w : World) → all_quiet es ≡ true → InOrder is w → Formed pm fm w → lent_wholes st es (lent pm fm w) ≡ wholes (ways pm fm) st es w
unfolding lent_wholes wholes all_quiet
wholes-lent pm fm is [] st w calm o form = refl
wholes-lent pm fm is (e ∷ es) st w calm o form =
    let p = facts-table w.publisher o.publisher_ok in
    let f = facts-table w.follower o.follower_ok in
    let h = happen-lent pm fm w p f form e (quiet-free pm fm e w (and_left (quiet e) _ calm)) in
    let rest : (s : Stage) → lent_wholes s es (lent_happen e (lent pm fm w)) ≡ wholes (ways pm fm) s es (happen (ways pm fm) e w) =
    λ s. ap (lent_wholes s es) h.0 ∙ wholes-lent pm fm is es s (happen (ways pm fm) e w) (and_right (quiet e) _ calm) (next-event (ways pm fm) (kind-lawful fm) is w o e).order h.1 in
    λ z. pick (unlimited e && granted-lent pm fm w p f form e z) (ending e st + rest (onward e st) z) (rest NotBegun z)

-- ---- the claims read in the bytes

-- the table that stands in the bytes
table-back : (k : Kind) (t : Table) → obeys t ≡ true → profile_obeys k.profile t ≡ true → table_in (of_kind k t) ≡ t
table-back k t o f = ap (λ (u : Whole). u.table) (stands k t o f)

sound-lent : (pm fm : Kind) (is : List ℕ) (w : World) → Formed pm fm w → Sound is w → LentSound is (lent pm fm w)
sound-lent pm fm is w form s =
    record {
      publisher_valid = valid-encode-whole (whole pm w.publisher s.publisher_obeys form.publisher) (whole_is pm w.publisher s.publisher_obeys form.publisher);
      follower_valid = valid-encode-whole (whole fm w.follower s.follower_obeys form.follower) (whole_is fm w.follower s.follower_obeys form.follower);
      publisher_nodes = ap numbers_of p ∙ s.publisher_nodes;
      follower_nodes = ap numbers_of f ∙ s.follower_nodes;
      claims = λ i a b x y. s.claims i a b (ap (node_of i) (sym p) ∙ x) (ap (node_of i) (sym f) ∙ y);
    }
  where
    p : table_in (of_kind pm w.publisher) ≡ w.publisher
    p = table-back pm w.publisher s.publisher_obeys form.publisher

    f : table_in (of_kind fm w.follower) ≡ w.follower
    f = table-back fm w.follower s.follower_obeys form.follower

pub lent-append : (es fs : List Event) (w : LentWorld) → lent_after (es ++ fs) w ≡ lent_after fs (lent_after es w)
unfolding lent_after
lent-append [] fs w = refl
lent-append (e ∷ es) fs w = lent-append es fs (lent_happen e w)

-- the tables that are read in the bytes of a world in order and in form
module _ (pm fm : Kind) (is : List ℕ) (w : World) (o : InOrder is w) (form : Formed pm fm w) where
  publisher-is : w.publisher ≡ table_in (lent pm fm w).publisher
  publisher-is = sym (table-back pm w.publisher (facts-table w.publisher o.publisher_ok) form.publisher)

  follower-is : w.follower ≡ table_in (lent pm fm w).follower
  follower-is = sym (table-back fm w.follower (facts-table w.follower o.follower_ok) form.follower)

module _ (pm fm : Kind) (is : List ℕ) (ok : obeys (fresh_table is) ≡ true) where
  abbrev its : Ways
  its = ways pm fm

  law : Lawful its
  law = kind-lawful fm

  -- the events of a run that the publisher's profile lets through, and the world of tables after them
  abbrev first : (es : List Event) → Ran pm fm is es (start is)
  first es = from_start pm fm is ok es

  abbrev world : List Event → World
  world es = after its (first es).events (start is)

  -- and of the run after it
  abbrev second : (es fs : List Event) → Ran pm fm is fs (world es)
  second es fs = ran pm fm is fs (world es) (first es).order (first es).forms

  lent-on : (es fs : List Event) → lent_after fs (lent_after es (lent_start pm fm is)) ≡ lent pm fm (after its (second es fs).events (world es))
  lent-on es fs = ap (lent_after fs) (lent-run pm fm is ok es) ∙ (second es fs).goes

  lent-sound : (es : List Event) → LentSound is (lent_after es (lent_start pm fm is))
  lent-sound es = subst (LentSound is) (sym (lent-run pm fm is ok es)) (sound-lent pm fm is (world es) (first es).forms (sound its law is ok (first es).events))

  lent-never-falls : (es fs : List Event)
      → AllRise (table_in (lent_after es (lent_start pm fm is)).publisher) (table_in (lent_after fs (lent_after es (lent_start pm fm is))).publisher)
      × AllRise (table_in (lent_after es (lent_start pm fm is)).follower) (table_in (lent_after fs (lent_after es (lent_start pm fm is))).follower)
  lent-never-falls es fs =
      let r = never-falls its law is ok (first es).events (second es fs).events in
      let w = world es in
      let x = after its (second es fs).events w in
      let a = ap (λ (y : LentWorld). table_in y.publisher) (sym (lent-run pm fm is ok es)) in
      let b = ap (λ (y : LentWorld). table_in y.publisher) (sym (lent-on es fs)) in
      let c = ap (λ (y : LentWorld). table_in y.follower) (sym (lent-run pm fm is ok es)) in
      let d = ap (λ (y : LentWorld). table_in y.follower) (sym (lent-on es fs)) in (
        subst₂ AllRise (publisher-is pm fm is w (first es).order (first es).forms ∙ a) (publisher-is pm fm is x (second es fs).order (second es fs).forms ∙ b) r.0,
        subst₂ AllRise (follower-is pm fm is w (first es).order (first es).forms ∙ c) (follower-is pm fm is x (second es fs).order (second es fs).forms ∙ d) r.1,
      )

  lent-closing : (es fs : List Event)
      → all_quiet fs ≡ true
      → holdings (table_in (lent_after es (lent_start pm fm is)).publisher) ≤ lent_wholes NotBegun fs (lent_after es (lent_start pm fm is))
      → SameMax (table_in (lent_after fs (lent_after es (lent_start pm fm is))).publisher) (table_in (lent_after fs (lent_after es (lent_start pm fm is))).follower)
  lent-closing es fs calm h =
      let w = world es in
      let o = (first es).order in
      let form = (first es).forms in
      let q = quiet-lent pm fm is fs w calm o form in
      let x = after its fs w in
      let l = lent-run pm fm is ok es in
      let held =
      subst₂ (λ (t : Table) (n : ℕ). holdings t ≤ n) (ap (λ (y : LentWorld). table_in y.publisher) l ∙ sym (publisher-is pm fm is w o form))
      (ap (lent_wholes NotBegun fs) l ∙ wholes-lent pm fm is fs NotBegun w calm o form) h in
      let z = sym (ap (lent_after fs) l ∙ q.went) in
      subst₂ SameMax
      (publisher-is pm fm is x q.order q.forms ∙ ap (λ (y : LentWorld). table_in y.publisher) z)
      (follower-is pm fm is x q.order q.forms ∙ ap (λ (y : LentWorld). table_in y.follower) z)
      (closing its law is ok (first es).events fs calm held)

  -- The demand, of the bytes that the entry points leave.
  pub lent-demand3 : LentDemand3 pm fm is
  lent-demand3 = record { at_every_moment = lent-sound; between_moments = lent-never-falls; closing_count = lent-closing }

  -- So that in the end every Set record of the publisher has arrived, and the follower has no other.
  pub lent-all-arrives : (es fs : List Event)
      → all_quiet fs ≡ true
      → holdings (table_in (lent_after es (lent_start pm fm is)).publisher) ≤ lent_wholes NotBegun fs (lent_after es (lent_start pm fm is))
      → (i : ℕ) (p f : Node)
      → node_of i (table_in (lent_after fs (lent_after es (lent_start pm fm is))).publisher) ≡ some p
      → node_of i (table_in (lent_after fs (lent_after es (lent_start pm fm is))).follower) ≡ some f
      → (s : KeyValue)
      → s.status ≡ Set
      → (Holds p s → Holds f s) × (Holds f s → Holds p s)
  lent-all-arrives es fs calm h i p f a b =
      let end = subst (LentSound is) (lent-append es fs (lent_start pm fm is)) (lent-sound (es ++ fs)) in
      (end.claims i p f a b).same_set (lent-closing es fs calm h i p f a b)
