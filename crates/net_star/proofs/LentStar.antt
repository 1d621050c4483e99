-- The count of o's star, of lent bytes: the tables in them go as those of the net of tables (net: LentNet). Assumes nothing but that no hub is plain.
use Prim.Native.Nat.{◌≤◌, ℕ}
use mathlib.Core.Bool.{true}
use mathlib.Core.List.{List, ◌++◌}
use mathlib.Core.Path.{◌≡◌, subst, sym}
use Rattle.rules.specs.Apply.{ways_in}
use Rattle.rules.specs.Profile.{Kind}
use Rattle.demand3.specs.Demand3.{holdings}
use Rattle.net.proofs.LentNet.{begin-lent, lent-run, ready}
use Rattle.net.specs.LentNet.{lent_after, lent_begin, plan_in, tables_in}
use Rattle.net.specs.Net.{Event, Net}
use Rattle.net_closing.specs.Closing.{Closed, every}
use Rattle.net_star.proofs.Star.{star-closes}
use Rattle.net_star.specs.Star.{Meets, in_star, own_part, quiet_at}

pub lent-star-closes : (owner : ℕ → ℕ) (kinds : ℕ → Kind) → ((x : ℕ) → (ways_in (kinds x)).late ≡ true) → (o : ℕ) (es fs : List Event)
    → in_star (plan_in owner kinds) o (es ++ fs) (tables_in (lent_begin kinds)) ≡ true
    → every (quiet_at owner o) fs ≡ true
    → (x k : ℕ)
    → holdings (own_part owner o ((tables_in (lent_after owner es (lent_begin kinds))).hubs o)) ≤ k
    → Meets (plan_in owner kinds) o x k fs (tables_in (lent_after owner es (lent_begin kinds)))
    → (i : ℕ)
    → owner i ≡ o
    → Closed (plan_in owner kinds) i x (tables_in (lent_after owner (es ++ fs) (lent_begin kinds)))
lent-star-closes owner kinds late o es fs star quiet x k count m i e =
    subst (Closed (plan_in owner kinds) i x) (sym (lent-run owner kinds late (es ++ fs)).1)
    (star-closes (plan_in owner kinds) (ready owner kinds late) o es fs (subst (λ (w : Net). in_star (plan_in owner kinds) o (es ++ fs) w ≡ true) (begin-lent owner kinds).1 star) quiet x k
    (subst (λ (w : Net). holdings (own_part owner o (w.hubs o)) ≤ k) (lent-run owner kinds late es).1 count) (subst (Meets (plan_in owner kinds) o x k fs) (lent-run owner kinds late es).1 m) i e)
