-- A net of lent bytes goes as the net of tables goes: whatever happens, its bytes are valid, each hub's of its kind, and the tables in them are those of that net.
-- What a hub remembers of removed nodes stands in its bytes and is no part of the net. So every law of nets is a law of the bytes, and of the calls by their
-- promises.
use Prim.Native.Nat.{ℕ, suc, zero}
use mathlib.Core.Bool.{Bool, false, true}
use mathlib.Core.List.{List, [], ◌∷◌}
use mathlib.Core.Logic.{◌⊎◌, inl, inr}
use mathlib.Core.Path.{◌∙◌, ◌≡◌, ap, refl, subst, sym}
use lib.Dec.{eqb}
use borrow.Author.Tests.{eq-eqb, eqb-true, ltb-true}
use Rattle.fields.proofs.Choice.{in-none}
use Rattle.fields.specs.Choice.{◌∈◌, here, later, pick}
use Rattle.rules.proofs.Calls.{none-obeys, numbers-beat, numbers-call, numbers-offer}
use Rattle.rules.proofs.Formed.{empty-formed}
use Rattle.rules.proofs.Memories.{add-keeps-whole, remove-keeps-whole, same_nodes, whole-profile, whole-table}
use Rattle.rules.proofs.Obeys.{OkTable, facts-table}
use Rattle.rules.proofs.Refusing.{whole-bytes}
use Rattle.rules.proofs.Tables.{numbers-apply}
use Rattle.rules.specs.Apply.{apply, ways_in}
use Rattle.rules.specs.Given.{Given, given}
use Rattle.rules.specs.Lent.{add_whole, from_table, lent_apply, lent_new, on_table, on_whole, remove_whole}
use Rattle.rules.specs.Local.{Outcome, call_as, gives, local_beat, offer}
use Rattle.rules.specs.Node.{Call, KeyValue}
use Rattle.rules.specs.Profile.{Kind, profile_obeys}
use Rattle.rules.specs.Table.{Table, node_of, numbers_of, obeys}
use Rattle.rules.specs.Whole.{Whole, decode_whole, encode_whole, obeys_whole, valid_whole, with_table}
use Rattle.std.specs.Prelude.{Err, Result}
use Rattle.rules.specs.declared.Sent.{Sent}
use Rattle.rules.specs.Results.{done}
use Rattle.rules.specs.declared.Party.{Party}
use Rattle.rules.specs.declared.Profile.{Profile}
use Rattle.rules.specs.declared.Refusal.{Refusal}
use Rattle.rules.specs.declared.Refusal.TheVariants.{BadTable, NoPlace}
use Rattle.profiles.proofs.Kept.{apply-formed, beat-formed, call-formed, offer-formed}
use Rattle.profiles.proofs.Lawful.{kind-lawful}
use Rattle.demand3.specs.Demand3.{AllRise}
use Rattle.demand3.proofs.Formed.{by-guard, only-places, removal-formed, sent-read}
use Rattle.demand3.proofs.Forms.{comes, lent-computing, lent-removal, removed-numbers}
use Rattle.demand3.proofs.Parted.{IsRead, ReadsWell, arrived-so}
use Rattle.demand3.specs.Forms.{Order, compute_by, lent_compute_by, removed_by}
use Rattle.demand3.specs.World.{DeltaSent, DigestSent, Exchange, Idle, applied_to, arrives, given_as, sent_after}
use Rattle.table.proofs.Encoded.{apply-whole, from-whole, on-whole, whole-whole}
use Rattle.table.proofs.Wholes.{decode-encode-whole, valid-encode-whole, whole-obeys, without-memory}
use Rattle.net.proofs.Moments.{Moment, moment-begin, moment-event, moments, one_more}
use Rattle.net.proofs.Pairs.{pairs-rise}
use Rattle.net.proofs.Safe.{net-sound}
use Rattle.net.specs.LentNet.{LentNet, LentSafe, OneProfile, lent_after, lent_begin, lent_calls, lent_happen, lent_restored, lent_taken, plan_in, tables_in, tables_of}
use Rattle.net.specs.Net.{Adding, Arriving, Beating, Computing, Dropping, Event, Net, NetSound, Offering, Plan, Ready, Removing, Restoring, Saving, Writing, after, all_go_on, begin, calls, happen, placed, possible, restored}

-- ---- bytes of a table of a kind

pub record In (k : Kind) (b : List ℕ) : Type 0 where
  pub valid : valid_whole b ≡ true
  pub kind_is : (decode_whole b).kind ≡ k

-- and the table is this one
abbrev pub Holds : Kind → Table → List ℕ → Type 0
Holds k t b = In k b × ((decode_whole b).table ≡ t)

-- the bytes of a whole that obeys
encoded : (w : Whole) → obeys_whole w ≡ true → Holds w.kind w.table (encode_whole w)
encoded w o =
    let d = decode-encode-whole w o in
    (record { valid = valid-encode-whole w o; kind_is = ap (λ (u : Whole). u.kind) d }, ap (λ (u : Whole). u.table) d)

new_in : (k : Kind) → Holds k [] (lent_new k)
unfolding lent_new
new_in k = encoded (record { kind = k; memory = []; table = [] }) (without-memory k [] none-obeys (empty-formed k.profile))

-- what the calls leave of them
module _ (m : Kind) (b : List ℕ) (i : In m b) where
  abbrev w : Whole
  w = decode_whole b

  abbrev t : Table
  t = w.table

  abbrev ok : obeys_whole w ≡ true
  ok = whole-obeys b i.valid

  -- what holds of a call on the bytes of the whole holds of it on these
  these : {A : Type 0} (f : List ℕ → A) (a : A) (P : A → Type 0) → f (encode_whole w) ≡ a → P a → P (f b)
  these f a P e p = subst P (sym e ∙ ap f (whole-bytes b i.valid)) p

  -- its records are in form
  pub in-form : profile_obeys m.profile t ≡ true
  in-form = subst (λ (k : Kind). profile_obeys k.profile t ≡ true) i.kind_is (whole-profile w ok)

  -- of the same kind
  leaves : (u : Whole) → obeys_whole u ≡ true → u.kind ≡ w.kind → Holds m u.table (encode_whole u)
  leaves u o e = let h = encoded u o in (record { valid = h.0.valid; kind_is = h.0.kind_is ∙ e ∙ i.kind_is }, h.1)

  -- with the same nodes
  same-held : (u : Table) → obeys u ≡ true → profile_obeys m.profile u ≡ true → numbers_of u ≡ numbers_of t → Holds m u (encode_whole (with_table u w))
  same-held u o f e = leaves (with_table u w) (same_nodes w ok u o (subst (λ (k : Kind). profile_obeys k.profile u ≡ true) (sym i.kind_is) f) e) refl

  on-table : {A : Type 0} (bad : A) (rule : Table → Outcome A) → obeys (rule t).table ≡ true → profile_obeys m.profile (rule t).table ≡ true → numbers_of (rule t).table ≡ numbers_of t → Holds m (rule t).table (on_table bad rule b).lent
  on-table bad rule o f e = these (on_table bad rule) _ (λ g. Holds m (rule t).table g.lent) (on-whole w ok bad rule) (same-held (rule t).table o f e)

  on-the-whole : {A : Type 0} (bad : A) (rule : Whole → Given A Whole) → obeys_whole (rule w).lent ≡ true → (rule w).lent.kind ≡ w.kind → Holds m (rule w).lent.table (on_whole bad rule b).lent
  on-the-whole bad rule o e = these (on_whole bad rule) _ (λ g. Holds m (rule w).lent.table g.lent) (whole-whole w ok bad rule) (leaves (rule w).lent o e)

  from-table : {A : Type 0} (bad : A) (rule : Table → A) → from_table bad rule b ≡ rule t
  from-table bad rule = these (from_table bad rule) _ (λ a. a ≡ rule t) (from-whole w ok bad rule) refl

  -- computing in any order
  pub computed-lent : (edition : ℕ) (digest excluded : List ℕ) (order : Order) (mtu place : ℕ) (d : List ℕ) → lent_compute_by edition excluded order mtu place digest d b ≡ compute_by edition excluded order mtu place digest t d
  computed-lent edition digest excluded order mtu place d =
      lent-computing edition excluded order mtu place digest d b ∙ from-table (given (Err BadTable) d) (λ u. compute_by edition excluded order mtu place digest u d)

  on-apply : (delta : List ℕ) (now : ℕ) (answers : List ℕ) → obeys (apply (ways_in m) delta now t answers).table ≡ true → Holds m (apply (ways_in m) delta now t answers).table (lent_apply delta now answers b).lent.table
  on-apply delta now answers o =
      these (lent_apply delta now answers) _ (λ g. Holds m u g.lent.table) (apply-whole w ok delta now answers)
      (subst (λ (k : Kind). Holds m u (encode_whole (with_table (apply (ways_in k) delta now t answers).table w))) (sym i.kind_is)
      (same-held u o (apply-formed m delta now t answers in-form) (numbers-apply (ways_in m) delta now t answers)))
    where
      u : Table
      u = (apply (ways_in m) delta now t answers).table

  pub taken : (now : ℕ) (answers : List ℕ) (d : Exchange) → obeys (applied_to (ways_in m) now answers d t) ≡ true → Holds m (applied_to (ways_in m) now answers d t) (lent_taken now answers d b)
  taken now answers Idle o = (i, refl)
  taken now answers (DigestSent d) o = (i, refl)
  taken now answers (DeltaSent d) o = on-apply d now answers o

  -- a delta that its profile reads is refused for answer places alone
  places-alone : (d : List ℕ) → IsRead m.profile d → (now : ℕ) (answers : List ℕ) (why : Refusal) (at : ℕ) → (lent_apply d now answers b).answer ≡ (Err (record { why = why; at = at })) → why ≡ NoPlace
  places-alone d read now answers why at e =
      let a : (lent_apply d now answers b).answer ≡ (apply (ways_in m) d now t answers).answer =
      these (lent_apply d now answers) _ (λ g. g.answer ≡ (apply (ways_in m) d now t answers).answer) (apply-whole w ok d now answers) (ap (λ (k : Kind). (apply (ways_in k) d now t answers).answer) i.kind_is) in
      only-places m d read now t answers why at (sym a ∙ e)

  again : (k : ℕ) (ls : List (List ℕ)) → ((l : List ℕ) → l ∈ ls → In m l) → Holds m (restored (placed k (tables_of ls)) t) (lent_restored (placed k ls) b)
  unfolding placed tables_of
  again k [] f = (i, refl)
  again zero (l ∷ ls) f = (f l (here refl), refl)
  again (suc k) (l ∷ ls) f = again k ls (λ a n. f a (later n))

-- ---- a net of them

module _ (owner : ℕ → ℕ) (kinds : ℕ → Kind) where
  abbrev plan : Plan
  plan = plan_in owner kinds

  -- some hub's profile reads it
  abbrev Read : List ℕ → Type 0
  Read b = (y : ℕ) × IsRead (kinds y).profile b × ReadsWell b

  -- every hub's bytes, and those that it saved, are of tables of its kind; and what was ever computed is in the form of a hub's profile
  pub record Good (l : LentNet) : Type 0 where
    pub hubs : (x : ℕ) → In (kinds x) (l.hubs x)
    pub saved : (x : ℕ) (b : List ℕ) → b ∈ l.saved x → In (kinds x) b
    pub sent : (b : List ℕ) → b ∈ l.sent → Read b

  -- they are, and the tables are those of this net
  abbrev pub Same : Net → LentNet → Type 0
  Same w l = Good l × (tables_in l ≡ w)

  module _ (l : LentNet) (g : Good l) where
    abbrev net : Net
    net = tables_in l

    -- the table that a hub gets obeys
    pub obeyed : (x : ℕ) (u : Table) → ((y : ℕ) → OkTable (pick (eqb y x) u (net.hubs y))) → obeys u ≡ true
    obeyed x u m = facts-table u (subst (λ (c : Bool). OkTable (pick c u (net.hubs x))) (eq-eqb x x refl) (m x))

    -- one hub's bytes are others
    pub on-hub : (h : ℕ → List KeyValue) (x : ℕ) (u : Table) (b : List ℕ) → Holds (kinds x) u b → Same (record { hubs = λ y. pick (eqb y x) u (net.hubs y); given = h; sent = l.sent; saved = net.saved }) (record { hubs = λ y. pick (eqb y x) b (l.hubs y); given = h; sent = l.sent; saved = l.saved })
    on-hub h x u b i =
        let a : (y : ℕ) → (decode_whole (pick (eqb y x) b (l.hubs y))).table ≡ pick (eqb y x) u (net.hubs y) = λ y. is y (eqb y x) in
        (record { hubs = λ y. of-kind y (eqb y x) refl; saved = g.saved; sent = g.sent }, λ z. record { hubs = λ y. a y z; given = h; sent = l.sent; saved = net.saved })
      where
        is : (y : ℕ) (c : Bool) → (decode_whole (pick c b (l.hubs y))).table ≡ pick c u (net.hubs y)
        is y true = i.1
        is y false = refl

        of-kind : (y : ℕ) (c : Bool) → eqb y x ≡ c → In (kinds y) (pick c b (l.hubs y))
        of-kind y true q = subst (λ (k : ℕ). In (kinds k) b) (sym (eqb-true y x q)) i.0
        of-kind y false q = g.hubs y

    formed : (x : ℕ) → profile_obeys (kinds x).profile (net.hubs x) ≡ true
    formed x = in-form (kinds x) (l.hubs x) (g.hubs x)

    -- what a hub computes is in the form of its profile
    pub computed-good : (x edition : ℕ) (digest excluded : List ℕ) (order : Order) (mtu place : ℕ) (d : List ℕ) → Good (lent_calls (Computing x edition digest excluded order mtu place d) l)
    computed-good x edition digest excluded order mtu place d =
        record {
          hubs = g.hubs;
          saved = g.saved;
          sent =
              subst (λ (o : Given (Result Sent Refusal) (List ℕ)). (b : List ℕ) → b ∈ sent_after place o.lent o.answer l.sent → Read b) (sym (computed-lent (kinds x) (l.hubs x) (g.hubs x) edition digest excluded order mtu place d))
              (λ b m.
              by b
              (sent-read (kinds x).profile edition excluded order mtu place digest (net.hubs x) d l.sent _ (formed x)
              (comes edition excluded order mtu place digest (net.hubs x) d (whole-table (decode_whole (l.hubs x)) (ok (kinds x) (l.hubs x) (g.hubs x)))) b m));
        }
      where
        by : (b : List ℕ) → (b ∈ l.sent) ⊎ (IsRead (kinds x).profile b × ReadsWell b) → Read b
        by b (inl m) = g.sent b m
        by b (inr r) = (x, r.0, r.1)

    -- so where all have one profile, no hub refuses it for its form
    pub one_profile : OneProfile kinds l
    one_profile p all k b e x =
        places-alone (kinds x) (l.hubs x) (g.hubs x) b
        (arrived-so (IsRead (kinds x).profile) k l.sent (λ c m. (g.sent c m).2)
        (λ c d m y. let r = g.sent c m in y.in-form (kinds x).profile (subst (λ (q : Profile). IsRead q c) (all r.0 ∙ sym (all x)) r.1)) b e)

    -- a write goes by the profile that stands in the bytes, and that is the hub's
    module _ (x i : ℕ) (k : List ℕ) (who : Party) (c : Call) where
      abbrev bytes_as : Profile → LentNet
      bytes_as p =
          record {
            hubs = λ y. pick (eqb y x) (on_table (Err BadTable) (call_as p who c i k) (l.hubs x)).lent (l.hubs y);
            given = λ j. pick (eqb j i) (given_as p who k c (node_of i (net.hubs x)) (l.given j)) (l.given j);
            sent = l.sent;
            saved = l.saved;
          }

      same_numbers : (p : Profile) → numbers_of (call_as p who c i k (net.hubs x)).table ≡ numbers_of (net.hubs x)
      same_numbers p = by-guard p who c i k (net.hubs x) (λ u h. numbers_of u ≡ numbers_of (net.hubs x)) refl (numbers-call c i k (net.hubs x))

      writing : obeys (call_as (kinds x).profile who c i k (net.hubs x)).table ≡ true → Same (calls plan (Writing x i k who c) net) (lent_calls (Writing x i k who c) l)
      writing o =
          subst (λ (a : Kind). Same (calls plan (Writing x i k who c) net) (bytes_as a.profile)) (sym (g.hubs x).kind_is)
          (on-hub _ x _ _
          (on-table (kinds x) (l.hubs x) (g.hubs x) (Err BadTable) (call_as (kinds x).profile who c i k) o (call-formed (kinds x).profile who c i k (net.hubs x) (whole-table (decode_whole (l.hubs x)) (ok (kinds x) (l.hubs x) (g.hubs x))) (formed x)) (same_numbers (kinds x).profile)))

    calls-lent : (e : Event) → possible owner e net ≡ true → ((x : ℕ) → OkTable ((calls plan e net).hubs x)) → Same (calls plan e net) (lent_calls e l)
    unfolding add_whole remove_whole tables_of
    calls-lent (Writing x i k who c) p m = writing x i k who c (obeyed x _ m)
    calls-lent (Beating x i) p m = on-hub _ x _ _ (on-table (kinds x) (l.hubs x) (g.hubs x) (Err BadTable) (local_beat i) (obeyed x _ m) (beat-formed (kinds x).profile i _ (formed x)) (numbers-beat i _))
    calls-lent (Offering x i h) p m = on-hub _ x _ _ (on-table (kinds x) (l.hubs x) (g.hubs x) (Err BadTable) (offer i h) (obeyed x _ m) (offer-formed (kinds x).profile i h _ (formed x)) (numbers-offer i h _))
    calls-lent (Removing x removal) p m =
        on-hub _ x _ _
        (subst (Holds (kinds x) _) (sym (lent-removal removal (l.hubs x)))
        (on-table (kinds x) (l.hubs x) (g.hubs x) (Err BadTable) (λ t. gives done (removed_by removal t)) (obeyed x _ m) (removal-formed (kinds x).profile removal _ (formed x)) (removed-numbers removal _)))
    calls-lent (Adding x i) p m = on-hub _ x _ _ (on-the-whole (kinds x) (l.hubs x) (g.hubs x) (Err BadTable) (add_whole i) (add-keeps-whole _ (ok (kinds x) (l.hubs x) (g.hubs x)) i (ltb-true _ _ p)) refl)
    calls-lent (Dropping x i) p m = on-hub _ x _ _ (on-the-whole (kinds x) (l.hubs x) (g.hubs x) (Err BadTable) (remove_whole i) (remove-keeps-whole _ (ok (kinds x) (l.hubs x) (g.hubs x)) i) refl)
    calls-lent (Computing x edition digest excluded order mtu place d) p m = (
      computed-good x edition digest excluded order mtu place d,
      ap (λ (o : Given (Result Sent Refusal) (List ℕ)). record { hubs = net.hubs; given = l.given; sent = sent_after place o.lent o.answer l.sent; saved = net.saved })
          (computed-lent (kinds x) (l.hubs x) (g.hubs x) edition digest excluded order mtu place d),
    )
    calls-lent (Arriving x k now answers) p m = on-hub _ x _ _ (taken (kinds x) (l.hubs x) (g.hubs x) now answers (arrives k l.sent) (obeyed x _ m))
    calls-lent (Saving x) p m =
        let a : (y : ℕ) → tables_of (pick (eqb y x) (l.hubs x ∷ l.saved x) (l.saved y)) ≡ pick (eqb y x) (net.hubs x ∷ net.saved x) (net.saved y) = λ y. is y (eqb y x) in
        (record { hubs = g.hubs; saved = λ y. kept y (eqb y x) refl; sent = g.sent }, λ z. record { hubs = net.hubs; given = l.given; sent = l.sent; saved = λ y. a y z })
      where
        is : (y : ℕ) (c : Bool) → tables_of (pick c (l.hubs x ∷ l.saved x) (l.saved y)) ≡ pick c (net.hubs x ∷ net.saved x) (net.saved y)
        is y true = refl
        is y false = refl

        kept : (y : ℕ) (c : Bool) → eqb y x ≡ c → (b : List ℕ) → b ∈ pick c (l.hubs x ∷ l.saved x) (l.saved y) → In (kinds y) b
        kept y true q b n = subst (λ (k : ℕ). In (kinds k) b) (sym (eqb-true y x q)) (one_more (In (kinds x)) (l.hubs x) (l.saved x) (g.hubs x) (g.saved x) b n)
        kept y false q b n = g.saved y b n
    calls-lent (Restoring x k) p m = on-hub _ x _ _ (again (kinds x) (l.hubs x) (g.hubs x) k (l.saved x) (g.saved x))

    -- what happens, if the tables go on obeying the rules
    pub happen-lent : (e : Event) → ((x : ℕ) → OkTable ((happen plan e net).hubs x)) → Same (happen plan e net) (lent_happen owner e l)
    unfolding lent_happen happen
    happen-lent e = go (possible owner e net) refl
      where
        go : (b : Bool) → possible owner e net ≡ b → ((x : ℕ) → OkTable ((pick b (calls plan e net) net).hubs x)) → Same (pick b (calls plan e net) net) (pick b (lent_calls e l) l)
        go true q m = calls-lent e q m
        go false q m = (g, refl)

  pub begin-lent : Same begin (lent_begin kinds)
  unfolding tables_of
  begin-lent =
      let a : (x : ℕ) → (decode_whole (lent_new (kinds x))).table ≡ [] = λ x. (new_in (kinds x)).1 in
      (record { hubs = λ x. (new_in (kinds x)).0; saved = λ x b n. absurd (in-none n); sent = λ b n. absurd (in-none n) }, λ z. record { hubs = λ x. a x z; given = λ i. []; sent = []; saved = λ x. [] })

  module _ (late : (x : ℕ) → (ways_in (kinds x)).late ≡ true) where
    pub ready : Ready plan
    ready = record { lawful = λ x. kind-lawful (kinds x); late = late }

    pub after-lent : (es : List Event) (l : LentNet) → Good l → Moment owner (tables_in l) → Same (after plan es (tables_in l)) (lent_after owner es l)
    unfolding lent_after after
    after-lent [] l g ok = (g, refl)
    after-lent (e ∷ es) l g ok =
        let m = moment-event plan (tables_in l) ok ready e in
        let r = happen-lent l g e (λ x. (m.tables x).obeyed) in
        let s = after-lent es (lent_happen owner e l) r.0 (subst (Moment owner) (sym r.1) m) in
        (s.0, s.1 ∙ ap (after plan es) r.1)

    -- at every moment of every run, the bytes are those of the net of tables
    pub lent-run : (es : List Event) → Same (after plan es begin) (lent_after owner es (lent_begin kinds))
    lent-run es =
        let b = begin-lent in
        let r = after-lent es (lent_begin kinds) b.0 (subst (Moment owner) (sym b.1) (moment-begin owner)) in
        (r.0, r.1 ∙ ap (after plan es) b.1)

    pub lent-safe : LentSafe owner kinds
    lent-safe =
        record {
          at_every_moment =
              λ es.
              let r = lent-run es in
              record { valid = λ x. (r.0.hubs x).valid; kind_stays = λ x. (r.0.hubs x).kind_is; sound = subst (NetSound plan) (sym r.1) (net-sound plan ready es); one_profile = one_profile (lent_after owner es (lent_begin kinds)) r.0 };
          between_moments = λ es fs g x. rise es fs g x;
        }
      where
        rise : (es fs : List Event) → all_go_on fs ≡ true → (x : ℕ) → AllRise ((tables_in (lent_after owner es (lent_begin kinds))).hubs x) ((tables_in (lent_after owner fs (lent_after owner es (lent_begin kinds)))).hubs x)
        rise es fs g x =
            let r = lent-run es in
            let l : LentNet = lent_after owner es (lent_begin kinds) in
            let s = after-lent fs l r.0 (subst (Moment owner) (sym r.1) (moments plan ready es begin (moment-begin owner))) in
            subst (λ (w : Net). AllRise ((tables_in l).hubs x) (w.hubs x)) (sym s.1) (pairs-rise plan fs (tables_in l) g x)
