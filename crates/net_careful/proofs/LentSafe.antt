-- Careful nets in lent bytes: at every moment of a careful run the bytes are those of the net of tables, of any kinds. Assumes nothing.
use Prim.Native.Nat.{ℕ}
use mathlib.Core.List.{List, [], ◌∷◌}
use mathlib.Core.Path.{◌∙◌, ◌≡◌, ap, subst, sym}
use Rattle.rules.specs.Profile.{Kind}
use Rattle.profiles.proofs.Lawful.{kind-lawful}
use Rattle.net.proofs.LentNet.{Good, Same, begin-lent, happen-lent, one_profile}
use Rattle.net.proofs.Moments.{Moment, moment-begin}
use Rattle.net.specs.LentNet.{LentNet, lent_after, lent_begin, lent_happen, plan_in, tables_in}
use Rattle.net.specs.Net.{Event, Net, NetSound, Plan, after, begin, happen}
use Rattle.net_careful.specs.Careful.{CarefulRun, LentCarefulSafe}
use Rattle.net_careful.proofs.Safe.{Low, careful-safe, keeps, low-begin}

module _ (owner : ℕ → ℕ) (kinds : ℕ → Kind) (ms : List ℕ) where
  abbrev plan : Plan
  plan = plan_in owner kinds

  pub after-lent : (es : List Event) (w : Net) (l : LentNet) → Good owner kinds l → tables_in l ≡ w → Moment owner w → Low ms w → CarefulRun plan ms es w → Same owner kinds (after plan es w) (lent_after owner es l)
  unfolding lent_after after CarefulRun
  after-lent [] w l g q ok k c = (g, q)
  after-lent (e ∷ es) w l g q ok k c =
      let n = keeps plan (λ x. kind-lawful (kinds x)) ms w ok k e c.0 in
      let r = happen-lent owner kinds l g e (λ x. ((subst (λ (u : Net). Moment owner (happen plan e u)) (sym q) n.moment).tables x).obeyed) in
      after-lent es (happen plan e w) (lent_happen owner e l) r.0 (r.1 ∙ ap (happen plan e) q) n.moment n.lows c.1

  pub lent-run : (es : List Event) → CarefulRun plan ms es begin → Same owner kinds (after plan es begin) (lent_after owner es (lent_begin kinds))
  lent-run es c = let b = begin-lent owner kinds in after-lent es begin (lent_begin kinds) b.0 b.1 (moment-begin owner) (low-begin ms) c

  pub lent-careful-safe : LentCarefulSafe owner kinds ms
  lent-careful-safe =
      record {
        lent_at_every_moment =
            λ es c.
            let r = lent-run es c in
            record {
              valid = λ x. (r.0.hubs x).valid;
              kind_stays = λ x. (r.0.hubs x).kind_is;
              sound = subst (NetSound plan) (sym r.1) ((careful-safe plan (λ x. kind-lawful (kinds x)) ms).at_every_moment es c);
              one_profile = one_profile owner kinds (lent_after owner es (lent_begin kinds)) r.0;
            };
        lent_same = λ es c x. ap (λ (w : Net). w.hubs x) (lent-run es c).1;
      }
