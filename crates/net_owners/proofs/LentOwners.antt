-- Nodes that change hands in lent bytes: the bytes stay valid tables of their kinds, and the claims hold of the tables in them. Assumes nothing but that no hub is plain.
use Prim.Native.Nat.{ℕ}
use mathlib.Core.Bool.{Bool, false, true}
use mathlib.Core.List.{List, [], ◌∷◌}
use mathlib.Core.Path.{◌≡◌, refl, subst, sym}
use lib.Dec.{eqb}
use Rattle.fields.proofs.Choice.{in-none}
use Rattle.fields.specs.Choice.{◌∈◌, pick}
use Rattle.rules.specs.Apply.{ways_in}
use Rattle.rules.specs.Profile.{Kind}
use Rattle.net.proofs.LentNet.{In, one_profile, ready}
use Rattle.net.specs.LentNet.{plan_in, tables_of}
use Rattle.net_losing.proofs.LentLosing.{Sure, sure-doing, sure-start}
use Rattle.net_losing.proofs.Losing.{firm-sound}
use Rattle.net_losing.specs.LentLosing.{LentLosingSound, losing_in}
use Rattle.net_losing.specs.Losing.{Losing}
use Rattle.net_losing.proofs.Firm.{Firm}
use Rattle.net_owners.proofs.Handing.{firm-handing}
use Rattle.net_owners.specs.LentOwners.{Goes, Handing, LentHanded, LentTurn, lent_handed_over, lent_handed_start, lent_turn, lent_turns}
use Rattle.net_owners.specs.Owners.{Handed, handed_over, may_own, owned_by}

module _ (kinds : ℕ → Kind) (late : (x : ℕ) → (ways_in (kinds x)).late ≡ true) where
  abbrev Surely : LentHanded → Type 0
  Surely v = Sure v.owner kinds late v.losing

  -- the tables in the bytes
  abbrev tables : LentHanded → Handed
  tables v = record { owner = v.owner; losing = losing_in v.losing }

  sure-handing : (v : LentHanded) → Surely v → (i y : ℕ) → may_own i y (losing_in v.losing) ≡ true → Surely (lent_handed_over i y v)
  unfolding tables_of
  sure-handing v s i y q =
      record {
        good = record { hubs = s.good.hubs; saved = λ x. of-kind x (eqb x (v.owner i)); sent = s.good.sent };
        disks = s.disks;
        firm = subst (Firm (owned_by i y v.owner)) (sym same) (firm-handing (tables v) s.firm i y q);
      }
    where
      of-kind : (x : ℕ) (b : Bool) (l : List ℕ) → l ∈ pick b [] (v.losing.net.saved x) → In (kinds x) l
      of-kind x true l m = absurd (in-none m)
      of-kind x false l m = s.good.saved x l m

      kept : (x : ℕ) (b : Bool) → tables_of (pick b [] (v.losing.net.saved x)) ≡ pick b [] (tables_of (v.losing.net.saved x))
      kept x true = refl
      kept x false = refl

      u : Losing
      u = (handed_over i y (tables v)).losing

      same : losing_in (lent_handed_over i y v).losing ≡ u
      same = λ z.
          record {
            net = record { hubs = u.net.hubs; given = u.net.given; sent = u.net.sent; saved = λ x. kept x (eqb x (v.owner i)) z };
            disk = u.disk;
            kept = u.kept;
            out = u.out;
            forgot = u.forgot;
          }

  sure-turn : (t : LentTurn) (v : LentHanded) → Surely v → Surely (lent_turn kinds t v)
  unfolding lent_turn
  sure-turn (Goes e) v s = sure-doing v.owner kinds late e v.losing s
  sure-turn (Handing i y) v s = go (may_own i y (losing_in v.losing)) refl
    where
      go : (b : Bool) → may_own i y (losing_in v.losing) ≡ b → Surely (pick b (lent_handed_over i y v) v)
      go true q = sure-handing v s i y q
      go false q = s

  sure-turns : (ts : List LentTurn) (v : LentHanded) → Surely v → Surely (lent_turns kinds ts v)
  unfolding lent_turns
  sure-turns [] v s = s
  sure-turns (t ∷ ts) v s = sure-turns ts (lent_turn kinds t v) (sure-turn t v s)

  -- At every moment: every hub's bytes are a valid table of its kind, and the claims hold of the tables in them, by the owners of that moment.
  pub lent-owners-sound : (owner : ℕ → ℕ) (ts : List LentTurn) → LentLosingSound (lent_turns kinds ts (lent_handed_start owner kinds)).owner kinds (lent_turns kinds ts (lent_handed_start owner kinds)).losing
  lent-owners-sound owner ts =
      let v : LentHanded = lent_turns kinds ts (lent_handed_start owner kinds) in
      let s = sure-turns ts (lent_handed_start owner kinds) (sure-start owner kinds late) in
      record {
        valid = λ x. (s.good.hubs x).valid;
        kind_stays = λ x. (s.good.hubs x).kind_is;
        sound = firm-sound (plan_in v.owner kinds) (ready v.owner kinds late) (losing_in v.losing) s.firm;
        one_profile = one_profile v.owner kinds v.losing.net s.good;
      }
