-- Nodes that change hands, in lent bytes (net_losing: LentLosing). No call hands a node over: from then on another hub writes it, and that is all.
use Rattle.std.specs.Prelude.{ℕ, List, [], ◌∷◌, eqb}
use Rattle.fields.specs.Choice.{pick}
use Rattle.rules.specs.Profile.{Kind}
use Rattle.net_losing.specs.LentLosing.{LentLosing, LentDoing, lent_doing, lent_start, losing_in}
use Rattle.net_owners.specs.Owners.{may_own, owned_by}

pub record LentHanded : Type 0 where
  pub owner : ℕ → ℕ
  pub losing : LentLosing

pub data LentTurn : Type 0 where
  Goes : LentDoing → LentTurn
  Handing : ℕ → ℕ → LentTurn

abbrev pub lent_handed_over : (node hub : ℕ) (v : LentHanded) → LentHanded
lent_handed_over i y v =
    record {
      owner = owned_by i y v.owner;
      losing =
          record {
            net = record { hubs = v.losing.net.hubs; given = v.losing.net.given; sent = v.losing.net.sent; saved = λ x. pick (eqb x (v.owner i)) [] (v.losing.net.saved x) };
            disk = v.losing.disk;
            kept = v.losing.kept;
            out = v.losing.out;
            forgot = v.losing.forgot;
          };
    }

unfoldable pub lent_turn : (kinds : ℕ → Kind) (t : LentTurn) (v : LentHanded) → LentHanded
lent_turn kinds (Goes e) v = record { owner = v.owner; losing = lent_doing v.owner kinds e v.losing }
lent_turn kinds (Handing i y) v = pick (may_own i y (losing_in v.losing)) (lent_handed_over i y v) v

abbrev pub lent_handed_start : (owner : ℕ → ℕ) (kinds : ℕ → Kind) → LentHanded
lent_handed_start owner kinds = record { owner = owner; losing = lent_start kinds }

unfoldable pub lent_turns : (kinds : ℕ → Kind) (ts : List LentTurn) (v : LentHanded) → LentHanded
lent_turns kinds [] v = v
lent_turns kinds (t ∷ ts) v = lent_turns kinds ts (lent_turn kinds t v)
