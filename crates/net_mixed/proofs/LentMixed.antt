-- A mixed net of lent bytes goes as the mixed net of tables goes, so that it stays sound too.
use Prim.Native.Nat.{ℕ}
use mathlib.Core.Bool.{Bool, false, not, true, ◌&&◌}
use mathlib.Core.List.{List, [], ◌∷◌}
use mathlib.Core.Path.{◌∙◌, ◌≡◌, ap, refl, subst, sym}
use lib.Dec.{eqb, ltb}
use Rattle.fields.specs.Choice.{pick}
use Rattle.rules.specs.Given.{Given}
use Rattle.rules.specs.Sizes.{numbers}
use Rattle.rules.specs.Profile.{Kind}
use Rattle.std.specs.Prelude.{Result}
use Rattle.rules.specs.declared.Refusal.{Refusal}
use Rattle.rules.specs.declared.Sent.{Sent}
use Rattle.demand3.specs.Forms.{compute_by, lent_compute_by}
use Rattle.demand3.specs.World.{Exchange, after_delta, applied_to, cut_by, sent_after}
use Rattle.net.proofs.LentNet.{Good, begin-lent, computed-good, computed-lent, happen-lent, obeyed, on-hub, one_profile, taken}
use Rattle.net.specs.LentNet.{LentNet, LentSound, lent_calls, lent_happen, lent_taken, plan_in, tables_in, with_bytes}
use Rattle.net.specs.Net.{Computing, Net, NetSound, Plan, happen, with_table}
use Rattle.net_mixed.proofs.Mixed.{Fine, fine-doing, fine-start, mixed-sound}
use Rattle.net_mixed.specs.LentMixed.{LentMixed, cast_in, lent_doing, lent_run, lent_start, mixed_in}
use Rattle.net_mixed.specs.Mixed.{Asking, Cast, Doing, Hearing, Mixed, Ordinary, Right, allowed, doing, flights_after, may_ask, run, start}

module _ (owner : ℕ → ℕ) (kinds : ℕ → Kind) (source : (hub node : ℕ) → ℕ) (steady : (hub node : ℕ) → Bool) where
  abbrev c : Cast
  c = cast_in owner kinds source steady

  abbrev plan : Plan
  plan = plan_in owner kinds

  -- the bytes are valid, each hub's of its kind, and the tables in them are those of this mixed net
  abbrev Same : Mixed → LentMixed → Type 0
  Same v w = Good owner kinds w.net × (mixed_in w ≡ v)

  with-flights : (f : ℕ → Exchange) (l : LentNet) (v : Net) → Good owner kinds l × (tables_in l ≡ v) → Same (record { net = v; flights = f }) (record { net = l; flights = f })
  with-flights f l v s = (s.0, ap (λ (n : Net). record { net = n; flights = f }) s.1)

  doing-lent : (e : Doing) (w : LentMixed) → Good owner kinds w.net → Fine c (doing c e (mixed_in w)) → Same (doing c e (mixed_in w)) (lent_doing c e w)
  unfolding doing lent_doing
  doing-lent (Ordinary e) w g ok = go (allowed c e (tables_in w.net)) ok
    where
      go : (b : Bool) → Fine c (pick b (record { net = happen plan e (tables_in w.net); flights = flights_after e w.flights }) (mixed_in w)) → Same (pick b (record { net = happen plan e (tables_in w.net); flights = flights_after e w.flights }) (mixed_in w)) (pick b (record { net = lent_happen owner e w.net; flights = flights_after e w.flights }) w)
      go true fine = with-flights (flights_after e w.flights) (lent_happen owner e w.net) _ (happen-lent owner kinds w.net g e (λ x. (fine.moment.tables x).obeyed))
      go false fine = (g, refl)
  doing-lent (Asking x y edition digest excluded order mtu place l) w g ok = go (may_ask c x y excluded ((tables_in w.net).hubs y))
    where
      net : Net
      net = tables_in w.net

      next : Given (Result Sent Refusal) (List ℕ) → Mixed
      next o =
          record {
            net = record { hubs = (tables_in w.net).hubs; given = w.net.given; sent = sent_after place o.lent o.answer w.net.sent; saved = (tables_in w.net).saved };
            flights = λ z. pick (eqb z x) (after_delta place o.lent o.answer (w.flights x)) (w.flights z);
          }

      made : lent_compute_by edition excluded order mtu place digest l (w.net.hubs y) ≡ compute_by edition excluded order mtu place digest ((tables_in w.net).hubs y) l
      made = computed-lent (kinds y) (w.net.hubs y) (g.hubs y) edition digest excluded order mtu place l

      lent_next : LentMixed
      lent_next =
          record {
            net = lent_calls (Computing y edition digest excluded order mtu place l) w.net;
            flights =
                λ z.
                pick (eqb z x)
                (after_delta place (lent_compute_by edition excluded order mtu place digest l (w.net.hubs y)).lent (lent_compute_by edition excluded order mtu place digest l (w.net.hubs y)).answer (w.flights x))
                (w.flights z);
          }

      go : (b : Bool) → Same (pick b (next (compute_by edition excluded order mtu place digest ((tables_in w.net).hubs y) l)) (mixed_in w)) (pick b lent_next w)
      go true = (computed-good owner kinds w.net g y edition digest excluded order mtu place l, ap next made)
      go false = (g, refl)
  doing-lent (Hearing x cuts now l) w g ok = go (not (plan.ways x).late && ltb now numbers) ok
    where
      u : Mixed
      u = record { net = with_table x (applied_to (plan.ways x) now l (cut_by cuts (w.flights x)) ((tables_in w.net).hubs x)) (tables_in w.net); flights = w.flights }

      go : (b : Bool) → Fine c (pick b u (mixed_in w)) → Same (pick b u (mixed_in w)) (pick b (record { net = with_bytes x (lent_taken now l (cut_by cuts (w.flights x)) (w.net.hubs x)) w.net; flights = w.flights }) w)
      go true fine =
          with-flights w.flights (with_bytes x (lent_taken now l (cut_by cuts (w.flights x)) (w.net.hubs x)) w.net) _
          (on-hub owner kinds w.net g _ x _ _ (taken (kinds x) (w.net.hubs x) (g.hubs x) now l (cut_by cuts (w.flights x)) (obeyed owner kinds w.net g x _ (λ y. (fine.moment.tables y).obeyed))))
      go false fine = (g, refl)

  run_lent : Right c → (es : List Doing) (w : LentMixed) → Good owner kinds w.net → Fine c (mixed_in w) → Same (run c es (mixed_in w)) (lent_run c es w)
  unfolding run lent_run
  run_lent right [] w g ok = (g, refl)
  run_lent right (e ∷ es) w g ok =
      let fine = fine-doing c right e (mixed_in w) ok in
      let r = doing-lent e w g fine in
      let s = run_lent right es (lent_doing c e w) r.0 (subst (Fine c) (sym r.1) fine) in
      (s.0, s.1 ∙ ap (run c es) r.1)

  -- every hub's bytes stay a valid table of its kind, and the claims hold of the tables in them, plain hubs' too
  pub lent-mixed-sound : Right c → (es : List Doing) → LentSound owner kinds (lent_run c es (lent_start kinds)).net
  lent-mixed-sound right es =
      let b = with-flights (lent_start kinds).flights (lent_start kinds).net _ (begin-lent owner kinds) in
      let r = run_lent right es (lent_start kinds) b.0 (subst (Fine c) (sym b.1) (fine-start c)) in
      let is : mixed_in (lent_run c es (lent_start kinds)) ≡ run c es start = r.1 ∙ ap (run c es) b.1 in
      record { valid = λ x. (r.0.hubs x).valid; kind_stays = λ x. (r.0.hubs x).kind_is; sound = subst (λ (m : Mixed). NetSound plan m.net) (sym is) (mixed-sound c right es); one_profile = one_profile owner kinds (lent_run c es (lent_start kinds)).net r.0 }
