-- Mixed nets in lent bytes: the bytes of every hub's table, and whatever the hubs' calls do to them, by the definitions that the entry points promise (Lent of
-- `rules`). What may happen is what may happen in a mixed net of tables (Mixed). A hub is plain where its table's mode is; it writes and reads deltas in its table's profile.
use Rattle.std.specs.Prelude.{ℕ, Bool, not, ◌&&◌, List, [], ◌∷◌, ltb, eqb}
use Rattle.fields.specs.Choice.{pick}
use Rattle.rules.specs.Sizes.{numbers}
use Rattle.rules.specs.Profile.{Kind}
use Rattle.demand3.specs.Forms.{lent_compute_by}
use Rattle.demand3.specs.World.{Exchange, Idle, after_delta, cut_by}
use Rattle.net.specs.Net.{Computing}
use Rattle.net.specs.LentNet.{LentNet, lent_begin, lent_calls, lent_happen, lent_taken, plan_in, tables_in, with_bytes}
use Rattle.net_mixed.specs.Mixed.{Asking, Cast, Doing, Hearing, Mixed, Ordinary, allowed, flights_after, may_ask}

pub record LentMixed : Type 0 where
  pub net : LentNet
  pub flights : ℕ → Exchange

-- new tables, each of its kind
abbrev pub lent_start : (kinds : ℕ → Kind) → LentMixed
lent_start kinds = record { net = lent_begin kinds; flights = λ x. Idle }

-- the tables that stand in the bytes
abbrev pub mixed_in : (mixed : LentMixed) → Mixed
mixed_in w = record { net = tables_in w.net; flights = w.flights }

-- the ways and the profile of each hub are those of its kind
abbrev pub cast_in : (owner : ℕ → ℕ) (kinds : ℕ → Kind) (source : (hub node : ℕ) → ℕ) (steady : (hub node : ℕ) → Bool) → Cast
cast_in owner kinds source steady = record { plan = plan_in owner kinds; source = source; steady = steady }

unfoldable pub lent_doing : (cast : Cast) (doing : Doing) (mixed : LentMixed) → LentMixed
lent_doing c (Ordinary e) w =
    pick (allowed c e (tables_in w.net)) (record { net = lent_happen c.plan.owner e w.net; flights = flights_after e w.flights }) w
lent_doing c (Asking x y edition digest excluded order mtu place l) w =
    pick (may_ask c x y excluded ((tables_in w.net).hubs y))
    (record {
      net = lent_calls (Computing y edition digest excluded order mtu place l) w.net;
      flights =
          λ z.
          pick (eqb z x)
          (after_delta place (lent_compute_by edition excluded order mtu place digest l (w.net.hubs y)).lent (lent_compute_by edition excluded order mtu place digest l (w.net.hubs y)).answer (w.flights x))
          (w.flights z);
    })
    w
lent_doing c (Hearing x cuts now l) w =
    pick (not (c.plan.ways x).late && ltb now numbers)
    (record { net = with_bytes x (lent_taken now l (cut_by cuts (w.flights x)) (w.net.hubs x)) w.net; flights = w.flights })
    w

unfoldable pub lent_run : (cast : Cast) (doings : List Doing) (mixed : LentMixed) → LentMixed
lent_run c [] w = w
lent_run c (e ∷ es) w = lent_run c es (lent_doing c e w)
