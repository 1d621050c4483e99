-- Nets in which modes change stay sound: what holds at every moment (net: Moment) does not speak of modes, and each step asks only that the hub of the moment is not plain. Assumes nothing else.
use Prim.Native.Nat.{ℕ}
use mathlib.Core.Bool.{Bool, false, true}
use mathlib.Core.List.{List, [], ◌∷◌}
use mathlib.Core.Logic.{◌⊎◌, inl, inr}
use mathlib.Core.Path.{◌∙◌, ◌≡◌, ap, refl, subst, sym}
use lib.Dec.{eqb}
use borrow.Author.Tests.{eqb-true}
use Rattle.fields.proofs.Choice.{in-cons, in-none}
use Rattle.fields.specs.Choice.{◌∈◌, here, later, pick}
use Rattle.rules.specs.Apply.{ways_in}
use Rattle.rules.specs.Profile.{Kind, kind}
use Rattle.rules.specs.Whole.{Whole, decode_whole, obeys_whole}
use Rattle.rules.specs.declared.Mode.{Mode}
use Rattle.rules.specs.declared.Profile.{Profile}
use Rattle.table.proofs.Wholes.{decode-encode-whole, valid-encode-whole, whole-obeys}
use Rattle.demand3.proofs.Parted.{IsRead}
use Rattle.net.proofs.LentNet.{Good, In, begin-lent, happen-lent, one_profile, ready}
use Rattle.net.proofs.Moments.{Moment, moment-begin, moment-event}
use Rattle.net.proofs.Safe.{sound}
use Rattle.net.specs.LentNet.{LentSound, plan_in, tables_in, tables_of}
use Rattle.net_modes.specs.Modes.{Goes, Moded, Setting, Step, all_in_mode, in_mode, may_set, moded, moded_start, step, steps, whole_in}

-- ---- the bytes of one table

module _ (k : Kind) (m : Mode) (l : List ℕ) (i : In k l) where
  ok : obeys_whole (whole_in m l) ≡ true
  unfolding obeys_whole
  ok = whole-obeys l i.valid

  is : decode_whole (in_mode m l) ≡ whole_in m l
  is = decode-encode-whole (whole_in m l) ok

  pub in-mode : In (kind m k.profile) (in_mode m l)
  in-mode = record { valid = valid-encode-whole (whole_in m l) ok; kind_is = ap (λ (u : Whole). u.kind) is ∙ ap (λ (j : Kind). kind m j.profile) i.kind_is }

  pub same-table : (decode_whole (in_mode m l)).table ≡ (decode_whole l).table
  same-table = ap (λ (u : Whole). u.table) is

all_in : (k : Kind) (m : Mode) (ls : List (List ℕ)) → ((l : List ℕ) → l ∈ ls → In k l) → (l : List ℕ) → l ∈ all_in_mode m ls → In (kind m k.profile) l
unfolding all_in_mode
all_in k m [] f l n = absurd (in-none n)
all_in k m (a ∷ ls) f l n = at (in-cons n) (all_in k m ls (λ b r. f b (later r)) l)
  where
    at : (l ≡ in_mode m a) ⊎ (l ∈ all_in_mode m ls) → (l ∈ all_in_mode m ls → In (kind m k.profile) l) → In (kind m k.profile) l
    at (inl e) ih = subst (In (kind m k.profile)) (sym e) (in-mode k m a (f a (here refl)))
    at (inr r) ih = ih r

all_same : (k : Kind) (m : Mode) (ls : List (List ℕ)) → ((l : List ℕ) → l ∈ ls → In k l) → tables_of (all_in_mode m ls) ≡ tables_of ls
unfolding all_in_mode tables_of
all_same k m [] f = refl
all_same k m (a ∷ ls) f = λ z. same-table k m a (f a (here refl)) z ∷ all_same k m ls (λ b r. f b (later r)) z

-- ---- a net of them

module _ (owner : ℕ → ℕ) where
  record Right (v : Moded) : Type 0 where
    late : (x : ℕ) → (ways_in (v.kinds x)).late ≡ true
    good : Good owner v.kinds v.net
    moment : Moment owner (tables_in v.net)

  right-start : (kinds : ℕ → Kind) → ((x : ℕ) → (ways_in (kinds x)).late ≡ true) → Right (moded_start kinds)
  right-start kinds late = let b = begin-lent owner kinds in record { late = late; good = b.0; moment = subst (Moment owner) (sym b.1) (moment-begin owner) }

  module _ (v : Moded) (r : Right v) (x : ℕ) (m : Mode) (fits : (ways_in (kind m (v.kinds x).profile)).late ≡ true) where
    hubs-in : (y : ℕ) (b : Bool) → In (pick b (kind m (v.kinds y).profile) (v.kinds y)) (pick b (in_mode m (v.net.hubs y)) (v.net.hubs y))
    hubs-in y true = in-mode (v.kinds y) m (v.net.hubs y) (r.good.hubs y)
    hubs-in y false = r.good.hubs y

    saved-in : (y : ℕ) (b : Bool) (l : List ℕ) → l ∈ pick b (all_in_mode m (v.net.saved y)) (v.net.saved y) → In (pick b (kind m (v.kinds y).profile) (v.kinds y)) l
    saved-in y true l p = all_in (v.kinds y) m (v.net.saved y) (r.good.saved y) l p
    saved-in y false l p = r.good.saved y l p

    -- profiles stay
    profile : (y : ℕ) (b : Bool) → (v.kinds y).profile ≡ (pick b (kind m (v.kinds y).profile) (v.kinds y)).profile
    profile y true = refl
    profile y false = refl

    late-then : (y : ℕ) (b : Bool) → eqb y x ≡ b → (ways_in (pick b (kind m (v.kinds y).profile) (v.kinds y))).late ≡ true
    late-then y true q = subst (λ (z : ℕ). (ways_in (kind m (v.kinds z).profile)).late ≡ true) (sym (eqb-true y x q)) fits
    late-then y false q = r.late y

    tables : tables_in (moded x m v).net ≡ tables_in v.net
    tables = λ z. record { hubs = λ y. of-hub y (eqb y x) z; given = v.net.given; sent = v.net.sent; saved = λ y. of-saved y (eqb y x) z }
      where
        of-hub : (y : ℕ) (b : Bool) → (decode_whole (pick b (in_mode m (v.net.hubs y)) (v.net.hubs y))).table ≡ (decode_whole (v.net.hubs y)).table
        of-hub y true = same-table (v.kinds y) m (v.net.hubs y) (r.good.hubs y)
        of-hub y false = refl

        of-saved : (y : ℕ) (b : Bool) → tables_of (pick b (all_in_mode m (v.net.saved y)) (v.net.saved y)) ≡ tables_of (v.net.saved y)
        of-saved y true = all_same (v.kinds y) m (v.net.saved y) (r.good.saved y)
        of-saved y false = refl

    right-setting : Right (moded x m v)
    right-setting =
        record {
          late = λ y. late-then y (eqb y x) refl;
          good =
              record {
                hubs = λ y. hubs-in y (eqb y x);
                saved = λ y l p. saved-in y (eqb y x) l p;
                sent = λ b p. let s = r.good.sent b p in (s.0, subst (λ (q : Profile). IsRead q b) (profile s.0 (eqb s.0 x)) s.1, s.2);
              };
          moment = subst (Moment owner) (sym tables) r.moment;
        }

  right-step : (s : Step) (v : Moded) → Right v → Right (step owner s v)
  unfolding step
  right-step (Goes e) v r =
      let k = moment-event (plan_in owner v.kinds) (tables_in v.net) r.moment (ready owner v.kinds r.late) e in
      let h = happen-lent owner v.kinds v.net r.good e (λ x. (k.tables x).obeyed) in
      record { late = r.late; good = h.0; moment = subst (Moment owner) (sym h.1) k }
  right-step (Setting x m) v r = go (may_set m (v.kinds x)) refl
    where
      go : (b : Bool) → may_set m (v.kinds x) ≡ b → Right (pick b (moded x m v) v)
      go true q = right-setting v r x m q
      go false q = r

  right-steps : (ss : List Step) (v : Moded) → Right v → Right (steps owner ss v)
  unfolding steps
  right-steps [] v r = r
  right-steps (s ∷ ss) v r = right-steps ss (step owner s v) (right-step s v r)

  -- Where no hub is plain, now or later: at every moment every hub's bytes are a valid table of its kind of that moment, and the claims hold of the tables in them.
  pub modes-sound : (kinds : ℕ → Kind) → ((x : ℕ) → (ways_in (kinds x)).late ≡ true) → (ss : List Step)
      → LentSound owner (steps owner ss (moded_start kinds)).kinds (steps owner ss (moded_start kinds)).net
  modes-sound kinds late ss =
      let v : Moded = steps owner ss (moded_start kinds) in
      let r = right-steps ss (moded_start kinds) (right-start kinds late) in
      record {
        valid = λ x. (r.good.hubs x).valid;
        kind_stays = λ x. (r.good.hubs x).kind_is;
        sound = sound (plan_in owner v.kinds) (ready owner v.kinds r.late).lawful (tables_in v.net) r.moment;
        one_profile = one_profile owner v.kinds v.net r.good;
      }
