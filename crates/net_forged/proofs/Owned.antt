-- At its owner a node is never touched by any bytes that come, honest or forged: it changes by its owner's own calls alone. Of tables and of lent bytes. Assumes nothing.
use Prim.Native.Nat.{ℕ, ◌<◌}
use mathlib.Core.Path.{◌≡◌, refl, ap, sym, ◌∙◌, subst}
use mathlib.Core.Bool.{Bool, true, false, not, true≢false}
use mathlib.Core.List.{List, [], ◌∷◌}
use mathlib.Core.Option.{none, some}
use lib.Dec.{eqb, ltb}
use borrow.Author.Tests.{eqb-true, eq-eqb, ltb-true}
use Rattle.fields.specs.Choice.{pick, all, ◌∈◌}
use Rattle.fields.specs.Numbers.{AreBytes}
use Rattle.fields.proofs.Choice.{all_from, and_left, and_right}
use Rattle.rules.specs.Sizes.{numbers}
use Rattle.rules.specs.Table.{Table, node_of, numbers_of, among}
use Rattle.rules.specs.Apply.{ways_in}
use Rattle.rules.specs.Given.{Given, given}
use Rattle.rules.specs.Lent.{TableAndList, both, stored_apply}
use Rattle.rules.specs.Whole.{Whole, with_table, decode_whole, obeys_whole, valid_whole}
use Rattle.std.specs.Prelude.{Err, Result}
use Rattle.rules.specs.declared.DeltaFault.{DeltaFault}
use Rattle.rules.specs.declared.Refusal.TheVariants.{BadTable}
use Rattle.rules.proofs.Refusing.{whole-bytes}
use Rattle.table.proofs.Wholes.{decode-encode-whole, whole-obeys}
use Rattle.leaving.specs.Leaving.{apply_leaving, lent_leaving, lent_leaving_as}
use Rattle.leaving.proofs.Left.{named-stays, numbers-leaving}
use Rattle.leaving.proofs.Keeps.{leaving-whole}
use Rattle.leaving.proofs.Lent.{leaving-encoded}
use Rattle.net.specs.Net.{Plan, Net, Event, Writing, Beating, Offering, Removing, Adding, Dropping, Computing, Arriving, Saving, Restoring, calls, happen, possible}
use Rattle.net.specs.LentNet.{LentNet, lent_calls, lent_happen, tables_in}
use Rattle.net_forged.specs.Forged.{Doing, Own, Coming, of_itself, hub_of, own_of, datagram, taken, happens, runs, lent_comes, lent_happens, lent_node, lent_runs, elsewhere}

-- ---- the nodes that a hub names

-- a node that stands in no place is not held
not-held : (i : ℕ) (t : Table) → among i (numbers_of t) ≡ false → node_of i t ≡ none
unfolding node_of numbers_of among
not-held i [] h = refl
not-held i (e ∷ t) h = go (eqb i e.number) h (not-held i t)
  where
    go : (b : Bool) → pick b true (among i (numbers_of t)) ≡ false → (among i (numbers_of t) ≡ false → node_of i t ≡ none) → pick b (some e.node) (node_of i t) ≡ none
    go true q ih = absurd (true≢false q)
    go false q ih = ih q

-- all of its own that it holds
pub named : (owner : ℕ → ℕ) (i : ℕ) (l : List ℕ) → among i l ≡ true → among i (own_of owner (owner i) l) ≡ true
unfolding among own_of
named owner i [] h = h
named owner i (j ∷ l) h = go (eqb i j) refl h (named owner i l)
  where
    keep : (c : Bool) → among i (own_of owner (owner i) l) ≡ true → among i (pick c (j ∷ own_of owner (owner i) l) (own_of owner (owner i) l)) ≡ true
    keep true q = later (eqb i j) q
      where
        later : (b : Bool) → among i (own_of owner (owner i) l) ≡ true → pick b true (among i (own_of owner (owner i) l)) ≡ true
        later true q = refl
        later false q = q
    keep false q = q

    go : (b : Bool) → eqb i j ≡ b → pick b true (among i l) ≡ true → (among i l ≡ true → among i (own_of owner (owner i) l) ≡ true)
        → among i (pick (eqb (owner j) (owner i)) (j ∷ own_of owner (owner i) l) (own_of owner (owner i) l)) ≡ true
    go true e h ih =
        ap (λ (c : Bool). among i (pick c (j ∷ own_of owner (owner i) l) (own_of owner (owner i) l))) (eq-eqb (owner j) (owner i) (ap owner (sym (eqb-true i j e))))
        ∙ ap (λ (c : Bool). pick c true (among i (own_of owner (owner i) l))) e
    go false e h ih = keep (eqb (owner j) (owner i)) (ih h)

-- ---- one datagram at the owner

module _ (plan : Plan) (i : ℕ) (b : List ℕ) (now : ℕ) (l : List ℕ) where
  stays : (t : Table) → node_of i (taken plan (plan.owner i) b now l t) ≡ node_of i t
  stays t = go (among i (numbers_of t)) refl
    where
      go : (c : Bool) → among i (numbers_of t) ≡ c → node_of i (taken plan (plan.owner i) b now l t) ≡ node_of i t
      go true h = named-stays (own_of plan.owner (plan.owner i) (numbers_of t)) (plan.ways (plan.owner i)) b now t l i (named plan.owner i (numbers_of t) h)
      go false h =
          not-held i (taken plan (plan.owner i) b now l t)
          (ap (among i) (numbers-leaving (own_of plan.owner (plan.owner i) (numbers_of t)) (plan.ways (plan.owner i)) b now t l) ∙ h)
          ∙ sym (not-held i t h)

  -- whichever hub it comes to
  pub coming-leaves : (x : ℕ) (w : Net) → node_of i ((happens plan (Coming x b now l) w).hubs (plan.owner i)) ≡ node_of i (w.hubs (plan.owner i))
  unfolding happens
  coming-leaves x w = go (datagram b now)
    where
      at : (c : Bool) → eqb (plan.owner i) x ≡ c → node_of i (pick c (taken plan x b now l (w.hubs x)) (w.hubs (plan.owner i))) ≡ node_of i (w.hubs (plan.owner i))
      at true q = subst (λ (y : ℕ). node_of i (taken plan y b now l (w.hubs y)) ≡ node_of i (w.hubs (plan.owner i))) (eqb-true (plan.owner i) x q) (stays (w.hubs (plan.owner i)))
      at false q = refl

      go : (c : Bool) → node_of i ((pick {X = Net} c (record { hubs = λ y. pick (eqb y x) (taken plan x b now l (w.hubs x)) (w.hubs y); given = w.given; sent = w.sent; saved = w.saved }) w).hubs (plan.owner i)) ≡ node_of i (w.hubs (plan.owner i))
      go true = at (eqb (plan.owner i) x) refl
      go false = refl

-- ---- what other hubs do by themselves

-- a call of one hub leaves the tables of the others
calls-elsewhere : (plan : Plan) (e : Event) (w : Net) (y : ℕ) → eqb y (hub_of e) ≡ false → (calls plan e w).hubs y ≡ w.hubs y
calls-elsewhere plan (Writing x i k who c) w y h = rw h
calls-elsewhere plan (Beating x i) w y h = rw h
calls-elsewhere plan (Offering x i o) w y h = rw h
calls-elsewhere plan (Removing x removal) w y h = rw h
calls-elsewhere plan (Adding x i) w y h = rw h
calls-elsewhere plan (Dropping x i) w y h = rw h
calls-elsewhere plan (Computing x edition digest excluded order mtu place l) w y h = refl
calls-elsewhere plan (Arriving x k now l) w y h = rw h
calls-elsewhere plan (Saving x) w y h = refl
calls-elsewhere plan (Restoring x k) w y h = rw h

unless : (b : Bool) → not b ≡ true → b ≡ false
unless true h = absurd (true≢false (sym h))
unless false h = refl

module _ (plan : Plan) (i : ℕ) where
  one : (d : Doing) (w : Net) → elsewhere plan.owner i d ≡ true → node_of i ((happens plan d w).hubs (plan.owner i)) ≡ node_of i (w.hubs (plan.owner i))
  unfolding happens happen
  one (Own e) w h = ap (node_of i) (go (of_itself e) (possible plan.owner e w))
    where
      go : (b c : Bool) → (pick b (pick c (calls plan e w) w) w).hubs (plan.owner i) ≡ w.hubs (plan.owner i)
      go true true = calls-elsewhere plan e w (plan.owner i) (unless (eqb (plan.owner i) (hub_of e)) h)
      go true false = refl
      go false c = refl
  one (Coming x b now l) w h = coming-leaves plan i b now l x w

  -- Over any run of bytes from anywhere, and of calls of other hubs, a node stands at its owner as it stood: it changes by its owner's own calls alone.
  pub untouched : (ds : List Doing) (w : Net) → all (elsewhere plan.owner i) ds ≡ true → node_of i ((runs plan ds w).hubs (plan.owner i)) ≡ node_of i (w.hubs (plan.owner i))
  unfolding runs all
  untouched [] w h = refl
  untouched (d ∷ ds) w h =
      untouched ds (happens plan d w) (and_right (elsewhere plan.owner i d) (all (elsewhere plan.owner i) ds) h)
      ∙ one d w (and_left (elsewhere plan.owner i d) (all (elsewhere plan.owner i) ds) h)

-- ---- of lent bytes, valid or not

are-bytes : (b : List ℕ) → all (λ n. ltb n 256) b ≡ true → (n : ℕ) → n ∈ b → n < 256
are-bytes b h n m = ltb-true n 256 (all_from (λ n. ltb n 256) b h n m)

-- what the call leaves of a valid table, and of one that is none
lent-valid : (own b : List ℕ) → AreBytes b → (now : ℕ) → now < numbers → (answers l : List ℕ) → valid_whole l ≡ true
    → (decode_whole (lent_leaving own b now answers l).lent.table).table ≡ (apply_leaving own (ways_in (decode_whole l).kind) b now (decode_whole l).table answers).table
lent-valid own b are now fits answers l v =
    let w : Whole = decode_whole l in
    let o : obeys_whole w ≡ true = whole-obeys l v in
    ap (λ (x : List ℕ). (decode_whole (lent_leaving own b now answers x).lent.table).table) (sym (whole-bytes l v))
    ∙ ap (λ (g : Given (Result ℕ DeltaFault) TableAndList). (decode_whole g.lent.table).table) (leaving-encoded own w o b now answers)
    ∙ ap (λ (u : Whole). u.table) (decode-encode-whole (with_table (apply_leaving own (ways_in w.kind) b now w.table answers).table w) (leaving-whole own w o b are now fits answers))

lent-bad : (own b : List ℕ) (now : ℕ) (answers l : List ℕ) → valid_whole l ≡ false → (lent_leaving own b now answers l).lent.table ≡ l
unfolding lent_leaving_as
lent-bad own b now answers l e =
    ap (λ (c : Bool). (pick c (stored_apply (decode_whole l) (apply_leaving own (ways_in (decode_whole l).kind) b now (decode_whole l).table answers)) (given (Err (record { why = BadTable; at = 0 })) (both l answers))).lent.table) e

module _ (owner : ℕ → ℕ) (i : ℕ) where
  lent-stays : (b : List ℕ) (now : ℕ) → AreBytes b → now < numbers → (answers l : List ℕ)
      → node_of i (decode_whole (lent_comes owner (owner i) b now answers l)).table ≡ node_of i (decode_whole l).table
  lent-stays b now are fits answers l = go (valid_whole l) refl
    where
      own : List ℕ
      own = own_of owner (owner i) (numbers_of (decode_whole l).table)

      as-plan : Plan
      as-plan = record { owner = owner; ways = λ x. ways_in (decode_whole l).kind; profiles = λ x. (decode_whole l).kind.profile }

      go : (c : Bool) → valid_whole l ≡ c → node_of i (decode_whole (lent_comes owner (owner i) b now answers l)).table ≡ node_of i (decode_whole l).table
      go true v = ap (node_of i) (lent-valid own b are now fits answers l v) ∙ stays as-plan i b now answers (decode_whole l).table
      go false e = ap (λ (x : List ℕ). node_of i (decode_whole x).table) (lent-bad own b now answers l e)

  pub lent-coming-leaves : (x : ℕ) (b : List ℕ) (now : ℕ) (answers : List ℕ) (w : LentNet) → lent_node owner i (lent_happens owner (Coming x b now answers) w) ≡ lent_node owner i w
  unfolding lent_happens
  lent-coming-leaves x b now answers w = go (datagram b now) refl
    where
      at : datagram b now ≡ true → (c : Bool) → eqb (owner i) x ≡ c → node_of i (decode_whole (pick c (lent_comes owner x b now answers (w.hubs x)) (w.hubs (owner i)))).table ≡ lent_node owner i w
      at d true q =
          subst (λ (y : ℕ). node_of i (decode_whole (lent_comes owner y b now answers (w.hubs y))).table ≡ lent_node owner i w) (eqb-true (owner i) x q)
          (lent-stays b now (are-bytes b (and_right (ltb now numbers) (all (λ n. ltb n 256) b) d)) (ltb-true now numbers (and_left (ltb now numbers) (all (λ n. ltb n 256) b) d)) answers (w.hubs (owner i)))
      at d false q = refl

      go : (c : Bool) → datagram b now ≡ c
          → node_of i (decode_whole ((pick {X = LentNet} c (record { hubs = λ y. pick (eqb y x) (lent_comes owner x b now answers (w.hubs x)) (w.hubs y); given = w.given; sent = w.sent; saved = w.saved }) w).hubs (owner i))).table ≡ lent_node owner i w
      go true d = at d (eqb (owner i) x) refl
      go false d = refl

lent-elsewhere : (e : Event) (w : LentNet) (y : ℕ) → eqb y (hub_of e) ≡ false → (lent_calls e w).hubs y ≡ w.hubs y
lent-elsewhere (Writing x i k who c) w y h = rw h
lent-elsewhere (Beating x i) w y h = rw h
lent-elsewhere (Offering x i o) w y h = rw h
lent-elsewhere (Removing x removal) w y h = rw h
lent-elsewhere (Adding x i) w y h = rw h
lent-elsewhere (Dropping x i) w y h = rw h
lent-elsewhere (Computing x edition digest excluded order mtu place l) w y h = refl
lent-elsewhere (Arriving x k now l) w y h = rw h
lent-elsewhere (Saving x) w y h = refl
lent-elsewhere (Restoring x k) w y h = rw h

module _ (owner : ℕ → ℕ) (i : ℕ) where
  lent_one : (d : Doing) (w : LentNet) → elsewhere owner i d ≡ true → lent_node owner i (lent_happens owner d w) ≡ lent_node owner i w
  unfolding lent_happens lent_happen
  lent_one (Own e) w h = ap (λ (l : List ℕ). node_of i (decode_whole l).table) (go (of_itself e) (possible owner e (tables_in w)))
    where
      go : (b c : Bool) → (pick b (pick c (lent_calls e w) w) w).hubs (owner i) ≡ w.hubs (owner i)
      go true true = lent-elsewhere e w (owner i) (unless (eqb (owner i) (hub_of e)) h)
      go true false = refl
      go false c = refl
  lent_one (Coming x b now l) w h = lent-coming-leaves owner i x b now l w

  pub lent-untouched : (ds : List Doing) (w : LentNet) → all (elsewhere owner i) ds ≡ true → lent_node owner i (lent_runs owner ds w) ≡ lent_node owner i w
  unfolding lent_runs all
  lent-untouched [] w h = refl
  lent-untouched (d ∷ ds) w h =
      lent-untouched ds (lent_happens owner d w) (and_right (elsewhere owner i d) (all (elsewhere owner i) ds) h) ∙ lent_one d w (and_left (elsewhere owner i d) (all (elsewhere owner i) ds) h)
